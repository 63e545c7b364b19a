-- Each turn crosses the cycles in which nothing moves, or runs the next one and puts its lines behind those before, until the page could
-- overflow or a cycle is refused.
use Rattle.std.proofs.Common.{◌-◌}
use Rattle.network.specs.Inner.Live.{Covered}
use Rattle.session.specs.Calls.{lend}
use Rattle.landings.proofs.PageLaws.{Filling}
use Rattle.landings.proofs.pages.fill.Given as goal

abbrev pub invariant-loop-time : goal.invariant-loop-time
invariant-loop-time l =
    record {
      filled : Filling l.nodes l.first l.last (lend l.initial.s l.initial.m) l.initial.buffer l.s l.m l.buffer l.at l.time;
      covered : Covered l.s l.live;
    }

abbrev pub decreases-loop-time : goal.decreases-loop-time
decreases-loop-time l = l.last - l.time
