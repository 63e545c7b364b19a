pub mod RouteRules
