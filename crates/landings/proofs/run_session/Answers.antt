-- `landings::run_session` meets its contract: the calls' number is the message, and once none is refused all cycles are listed.
use Rattle.std.proofs.Common.{◌≡◌, length}
use Rattle.std.specs.Io.KnownBytes.{Appends}
use Rattle.session.specs.Calls.{lend}
use Rattle.landings.specs.Lines.{cycles_on, refused_line}
use Rattle.landings.specs.Output.{printout, before_cycles}
use Rattle.streams.specs.Written.{GotPart}
use Rattle.landings.specs.Inner.Ended.{cycles_listed, at_end, Halted}
use Rattle.landings.proofs.CallLaws.{place_is, sheet_good}
use Rattle.landings.proofs.OutputLaws.{has_whole, refusal_is, before_is, end_refused, end_runs}
use native.Mathlib.Omega.{arith}
use Prim.Native.Nat.{ℕ}
use mathlib.Core.List.{List}
use mathlib.Core.Path.{◌∙◌, ap}
use Rattle.sheet.specs.Sheet.{meant, nodes}
use Rattle.std.proofs.Common.{sym}
use Rattle.std.proofs.lemmas.Result.{on_ok_weaker, on_err_weaker}
use Rattle.landings.proofs.OutputLaws.{output_is, none_listed}
use Rattle.landings.proofs.WriteLaws.{written_as, got_as, on_ok, on_err}
use Rattle.refusal.specs.Numbers.{refusal_number}
use Rattle.landings.proofs.run_session.Goals as goal

pub print_complaint-requires : goal.print_complaint-requires
print_complaint-requires g c = has_whole _ (output_is _ (refusal_is _ _ c.in-Err.ensures.message)) c.requires.1

pub nodes_of-nodes-requires : goal.nodes_of-nodes-requires
nodes_of-nodes-requires g c =
    sheet_good _ c.requires.0.runs c.requires.0.own_sheet

pub cycles_in-last-requires : goal.cycles_in-last-requires
cycles_in-last-requires g c =
    (c.requires.0.runs, place_is _ c.requires.0.own_sheet (omega arith))

pub list-requires : goal.list-requires
list-requires g c = (
  record {
    runs = sym c.in_default.ensures.message;
    words = before_is _ c.prepare.ensures.state c.prepare.ensures.memory;
    all_nodes = c.nodes_of-nodes.ensures.0 ∙ ap (λ (z : List ℕ). nodes (meant z)) c.requires.0.own_sheet;
    all_cycles = omega (arith, c.cycles_in-last.ensures);
  },
  c.requires.1,
)

pub returns-in-Err : goal.returns-in-Err
returns-in-Err g c =
    let refused = refusal_is _ _ c.in-Err.ensures.message in
    let line = output_is _ refused in
    let before = before_is _ c.prepare.ensures.state c.prepare.ensures.memory in
    let printed = c.print_complaint.ensures in
    record {
      place = on_ok {P = c.print_complaint.new.place ≡ length (printout c.args.bytes.now)} c.print_complaint.result (omega (arith, printed.place, c.requires.1, ap length line));
      words = on_ok {P = lend c.prepare.new.s c.prepare.new.m ≡ at_end c.args.bytes.now} c.print_complaint.result (end_refused _ _ refused before);
      written =
          on_ok_weaker {P = Appends (g.W.Write.contents c.args.writer.now) (g.W.Write.contents c.print_complaint.new.writer) (refused_line (refusal_number c.in-Err.refusal))} {Q = Appends (g.W.Write.contents c.args.writer.now) (g.W.Write.contents c.print_complaint.new.writer) (printout c.args.bytes.now)} c.print_complaint.result
          (written_as _ _ _ _ (sym line)) printed.written;
      err =
          on_err {P = Halted c.args.bytes.now c.print_complaint.new.place (lend c.prepare.new.s c.prepare.new.m)} c.print_complaint.result
          (none_listed _ (omega (arith, printed.place, c.requires.1, ap length line)) before);
      stopped =
          on_err_weaker {P = GotPart (g.W.Write.contents c.args.writer.now) (g.W.Write.contents c.print_complaint.new.writer) (refused_line (refusal_number c.in-Err.refusal))} {Q = GotPart (g.W.Write.contents c.args.writer.now) (g.W.Write.contents c.print_complaint.new.writer) (printout c.args.bytes.now)} c.print_complaint.result
          (got_as _ _ _ _ (sym line)) printed.err;
    }

pub returns-clause-words : goal.returns-clause-words
returns-clause-words g c =
    on_ok_weaker {P = lend c.list.new.s c.list.new.m ≡ cycles_on (cycles_listed c.args.bytes.now) (before_cycles c.args.bytes.now)} {Q = lend c.list.new.s c.list.new.m ≡ at_end c.args.bytes.now} c.list.result
    (end_runs _ (sym c.in_default.ensures.message)) c.list.ensures.words
