-- `quiet::cross_quiet` meets its contract: clearing the landings leaves the clock as it was.
use Rattle.quiet.proofs.CrossLaws.{own_nodes, clock_ready, crossed}
use Rattle.quiet.proofs.cross_quiet.Goals as goal

pub step_clock-requires : goal.step_clock-requires
step_clock-requires c =
    clock_ready _ _ c.clear_landings.ensures c.requires.clocked

pub returns : goal.returns
returns c =
    crossed _ _ c.clear_landings.ensures (own_nodes _ c.sheet_of.ensures c.nodes_of-nodes.ensures.0)
    c.step_clock.ensures
