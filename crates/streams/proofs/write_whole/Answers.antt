-- `streams::write_whole` meets its contract: each write takes the next bytes of the text, or none.
use native.Mathlib.Omega.{arith}
use Rattle.std.proofs.Common.{take, sym, subst}
use Rattle.std.specs.Io.KnownBytes.{Appends}
use Rattle.streams.proofs.WriteLaws.{front_more, kept_written}
use Rattle.streams.proofs.write_whole.Goals.{in-Ok, in-Err}
use Rattle.streams.proofs.write_whole.Goals as goal

pub writes-preserved : goal.writes-preserved
writes-preserved g c =
    elim c.match-write.branch [
      | in-Ok w ↦ record {
        within = omega (arith, w.in-Ok.ensures.bound);
        written =
            subst (λ n. Appends (g.W.Write.contents c.args.writer.now) (g.W.Write.contents c.write.new.self) (take n c.args.text.now))
            (sym w.done-is)
            (front_more _ _ _ _ _ _ c.writes.invariant.within c.writes.invariant.written w.in-Ok.ensures.bytes);
      }
      | in-Err w ↦ record {
        within = omega (arith, w.done-is);
        written =
            subst (λ n. Appends (g.W.Write.contents c.args.writer.now) (g.W.Write.contents c.write.new.self) (take n c.args.text.now))
            (sym w.done-is)
            (kept_written _ _ _ _ c.writes.invariant.written w.in-Err.ensures.bytes);
      }
    ]
