pub mod NeighbourLaws
pub mod GridLaws
pub mod DistanceLaws
pub mod RouteLaws
pub mod WalkLaws
pub mod TravelLaws
pub mod VerticalLaws
