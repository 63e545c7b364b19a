-- What was listed and written so far.
use Rattle.std.proofs.Common.{◌-◌}
use Rattle.landings.specs.Output.{printout}
use Rattle.landings.proofs.WriteLaws.{Written}
use Rattle.landings.proofs.PagingLaws.{Paging}
use Rattle.landings.proofs.write_pages.Given as goal

abbrev pub invariant-loop-time : goal.invariant-loop-time
invariant-loop-time g l =
    record {
      paging : Paging l.bytes l.nodes l.last l.s l.m l.place l.time;
      written : Written (g.W.Write.contents l.initial.writer) (g.W.Write.contents l.writer) (printout l.bytes) l.initial.place l.place;
    }

abbrev pub decreases-loop-time : goal.decreases-loop-time
decreases-loop-time g l = l.last - l.time
