-- `landings::write_pages` meets its contract: each page is the next part of the output, and has at least one cycle or ends in a refusal; the
-- last ends the output.
use Rattle.std.proofs.Common.{◌≡◌, length, drop}
use Rattle.std.specs.Io.KnownBytes.{Appends}
use Rattle.session.specs.Calls.{lend}
use Rattle.landings.specs.Lines.{cycles_on, refused_line}
use Rattle.landings.specs.Output.{printout, heading, before_cycles}
use Rattle.streams.specs.Written.{GotPart}
use Rattle.landings.specs.Inner.Ended.{cycles_listed, Halted}
use native.Mathlib.Omega.{arith}
use Rattle.landings.proofs.OutputLaws.{few_nodes}
use Rattle.landings.proofs.PagingLaws.{ended_by, page_start, page_nodes, page_has, refusal_has, refusal_done, page_next, page_done}
use Rattle.std.proofs.lemmas.Result.{on_ok_weaker, on_err_weaker}
use Rattle.landings.proofs.PagingLaws.{page_halted}
use Rattle.landings.proofs.WriteLaws.{written_none, written_more, written_rest, got_more, on_ok, on_err}
use Rattle.refusal.specs.Numbers.{refusal_number}
use Rattle.refusal.proofs.AnswerLaws.{is_some}
use Rattle.landings.proofs.write_pages.Goals as goal

pub fill-page-requires : goal.fill-page-requires
fill-page-requires g c = (
  c.loop-time.invariant.paging.ready,
  few_nodes _ c.requires.0.runs c.requires.0.all_nodes,
  omega arith,
  omega (arith, c.requires.2),
  page_nodes _ _ _ _ _ _ _ c.loop-time.invariant.paging c.requires.0,
)

pub write_part-requires : goal.write_part-requires
write_part-requires g c =
    page_has _ _ _ _ _ _ _ c.loop-time.invariant.paging c.fill-page.ensures.cycles c.fill-page.ensures.lines c.requires.0

pub print_complaint-requires : goal.print_complaint-requires
print_complaint-requires g c =
    refusal_has _ _ _ _ _ _ _ c.loop-time.invariant.paging (ended_by _ _ c.in-Err.is c.fill-page.ensures.cycles) c.fill-page.ensures.lines c.requires.0
    (is_some _) c.write_part.ensures.place

pub loop-time-init : goal.loop-time-init
loop-time-init g c = record { paging = page_start _ _ _ _ _ _ c.requires.0 c.requires.1; written = written_none _ _ _ }

pub loop-time-preserved : goal.loop-time-preserved
loop-time-preserved g c =
    let i = c.loop-time.invariant in
    let page = c.fill-page.ensures in
    record {
      paging = page_next _ _ _ _ _ _ _ i.paging page.cycles page.lines page.words page.ready c.write_part.ensures.place;
      written =
          written_more _ _ _ i.written (page_has _ _ _ _ _ _ _ i.paging page.cycles page.lines c.requires.0) c.in_ok-write_part.ensures.written
          c.write_part.ensures.place;
    }

pub returns-in_err-write_part-clause-err : goal.returns-in_err-write_part-clause-err
returns-in_err-write_part-clause-err g c =
    on_err {P = Halted c.args.bytes.now c.write_part.new.place (lend c.fill-page.new.s c.fill-page.new.m)} _
    (page_halted _ _ _ _ _ _ _ c.loop-time.invariant.paging c.fill-page.ensures.cycles c.requires.0 c.fill-page.ensures.words
    (omega (arith, (page_has _ _ _ _ _ _ _ c.loop-time.invariant.paging c.fill-page.ensures.cycles c.fill-page.ensures.lines c.requires.0).0, c.write_part.ensures.place)))

pub returns-in-Err : goal.returns-in-Err
returns-in-Err g c =
    let i = c.loop-time.invariant in
    let page = c.fill-page.ensures in
    let cycles = ended_by _ _ c.in-Err.is page.cycles in
    let before = written_more _ _ _ i.written (page_has _ _ _ _ _ _ _ i.paging page.cycles page.lines c.requires.0) c.in_ok-write_part.ensures.written c.write_part.ensures.place in
    let has = refusal_has _ _ _ _ _ _ _ i.paging cycles page.lines c.requires.0 (is_some _) c.write_part.ensures.place in
    let printed = c.print_complaint.ensures in
    let done = refusal_done _ _ _ _ _ _ _ i.paging cycles page.lines c.requires.0 (is_some _) c.write_part.ensures.place printed.place page.words in
    record {
      place = on_ok {P = c.print_complaint.new.place ≡ length (printout c.args.bytes.now)} c.print_complaint.result done.0;
      words =
          on_ok {P = lend c.fill-page.new.s c.fill-page.new.m ≡ cycles_on (cycles_listed c.args.bytes.now) (before_cycles c.args.bytes.now)} c.print_complaint.result
          done.1;
      written =
          on_ok_weaker {P = Appends (g.W.Write.contents c.write_part.new.writer) (g.W.Write.contents c.print_complaint.new.writer) (refused_line (refusal_number c.in-Err.refusal))} {Q = Appends (g.W.Write.contents c.args.writer.now) (g.W.Write.contents c.print_complaint.new.writer) (drop (length heading) (printout c.args.bytes.now))} c.print_complaint.result
          (λ w. written_rest _ _ (written_more _ _ _ before has w printed.place) done.0 c.requires.1) printed.written;
      err =
          on_err {P = Halted c.args.bytes.now c.print_complaint.new.place (lend c.fill-page.new.s c.fill-page.new.m)} c.print_complaint.result
          (page_halted _ _ _ _ _ _ _ i.paging page.cycles c.requires.0 page.words (omega (arith, done.0)));
      stopped =
          on_err_weaker {P = GotPart (g.W.Write.contents c.write_part.new.writer) (g.W.Write.contents c.print_complaint.new.writer) (refused_line (refusal_number c.in-Err.refusal))} {Q = GotPart (g.W.Write.contents c.args.writer.now) (g.W.Write.contents c.print_complaint.new.writer) (drop (length heading) (printout c.args.bytes.now))} c.print_complaint.result
          (λ p. got_more _ _ _ before has p c.requires.1) printed.err;
    }

pub returns-clause-place : goal.returns-clause-place
returns-clause-place g c = (page_done _ _ _ _ _ _ _ c.loop-time.invariant.paging (omega arith) c.requires.0).0

pub returns-clause-words : goal.returns-clause-words
returns-clause-words g c = (page_done _ _ _ _ _ _ _ c.loop-time.invariant.paging (omega arith) c.requires.0).1

pub returns-clause-written : goal.returns-clause-written
returns-clause-written g c =
    written_rest _ _ c.loop-time.invariant.written (page_done _ _ _ _ _ _ _ c.loop-time.invariant.paging (omega arith) c.requires.0).0 c.requires.1

pub returns-in_err-write_part-clause-stopped : goal.returns-in_err-write_part-clause-stopped
returns-in_err-write_part-clause-stopped g c =
    on_err {P = GotPart (g.W.Write.contents c.args.writer.now) (g.W.Write.contents c.write_part.new.writer) (drop (length heading) (printout c.args.bytes.now))} _
    (got_more _ _ _ c.loop-time.invariant.written (page_has _ _ _ _ _ _ _ c.loop-time.invariant.paging c.fill-page.ensures.cycles c.fill-page.ensures.lines c.requires.0) c.in_err-write_part.ensures.err c.requires.1)
