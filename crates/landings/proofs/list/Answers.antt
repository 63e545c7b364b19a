-- `landings::list` meets its contract: the heading begins the output, and the pages are the rest.
use Rattle.std.proofs.Common.{length, drop}
use Rattle.std.specs.Io.KnownBytes.{Appends}
use Rattle.session.specs.Calls.{lend}
use Rattle.landings.specs.Output.{printout}
use Rattle.streams.specs.Written.{GotPart}
use Rattle.landings.specs.Inner.Ended.{Halted}
use Rattle.landings.proofs.OutputLaws.{heading_has}
use Rattle.landings.specs.Output.{heading}
use native.Mathlib.Omega.{arith}
use Prim.Native.Nat.{ℕ}
use mathlib.Core.Path.{refl}
use lib.ListN.{length-replicate}
use Rattle.std.proofs.lemmas.Result.{on_ok_weaker, on_err_weaker}
use Rattle.landings.proofs.OutputLaws.{none_listed}
use Rattle.streams.proofs.WriteLaws.{both_written}
use Rattle.landings.proofs.WriteLaws.{got_front, got_behind, front_and_rest, on_err}
use Rattle.landings.proofs.list.Goals as goal

pub write_part-requires : goal.write_part-requires
unfolding heading
write_part-requires g c = heading_has _ c.requires.0.runs c.requires.1

pub write_pages-requires : goal.write_pages-requires
unfolding heading
write_pages-requires g c =
    (c.requires.0, omega (arith, c.write_part.ensures.place, c.requires.1), length-replicate {A = ℕ} 65536 0)

pub returns-in_err-write_part-clause-err : goal.returns-in_err-write_part-clause-err
unfolding heading
returns-in_err-write_part-clause-err g c =
    on_err {P = Halted c.args.bytes.now c.write_part.new.place (lend c.args.s.now c.args.m.now)} _
    (none_listed _ (omega (arith, (heading_has _ c.requires.0.runs c.requires.1).0, c.write_part.ensures.place)) c.requires.0.words)

pub returns-clause-written : goal.returns-clause-written
unfolding heading
returns-clause-written g c =
    on_ok_weaker {P = Appends (g.W.Write.contents c.write_part.new.writer) (g.W.Write.contents c.write_pages.new.writer) (drop (length heading) (printout c.args.bytes.now))} {Q = Appends (g.W.Write.contents c.args.writer.now) (g.W.Write.contents c.write_pages.new.writer) (printout c.args.bytes.now)} c.write_pages.result
    (λ w. both_written _ _ _ _ _ _ c.in_ok-write_part.ensures.written w
    (front_and_rest _ _ (heading_has _ c.requires.0.runs c.requires.1) c.requires.1 refl))
    c.write_pages.ensures.written

pub returns-in_err-write_part-clause-stopped : goal.returns-in_err-write_part-clause-stopped
unfolding heading
returns-in_err-write_part-clause-stopped g c =
    on_err {P = GotPart (g.W.Write.contents c.args.writer.now) (g.W.Write.contents c.write_part.new.writer) (printout c.args.bytes.now)} _
    (got_front _ _ _ _ _ (front_and_rest _ _ (heading_has _ c.requires.0.runs c.requires.1) c.requires.1 refl) c.in_err-write_part.ensures.err)

pub returns-clause-stopped : goal.returns-clause-stopped
unfolding heading
returns-clause-stopped g c =
    on_err_weaker {P = GotPart (g.W.Write.contents c.write_part.new.writer) (g.W.Write.contents c.write_pages.new.writer) (drop (length heading) (printout c.args.bytes.now))} {Q = GotPart (g.W.Write.contents c.args.writer.now) (g.W.Write.contents c.write_pages.new.writer) (printout c.args.bytes.now)} c.write_pages.result
    (λ p. got_behind _ _ _ _ _ _
    (front_and_rest _ _ (heading_has _ c.requires.0.runs c.requires.1) c.requires.1 refl)
    c.in_ok-write_part.ensures.written
    p)
    c.write_pages.ensures.stopped
