-- A complaint is the whole output, and an input whose words are all there is run.
use Rattle.std.proofs.Common.{◌≡◌, ◌≤◌, length, ap, sym, arith}
use Rattle.std.proofs.lemmas.Result.{on_ok_weaker, on_err_weaker}
use Rattle.std.specs.Io.KnownBytes.{Appends}
use Rattle.streams.specs.Written.{GotPart}
use Rattle.listing.specs.Complaints.{complaint_line}
use Rattle.landings.specs.Output.{printout}
use Rattle.landings.proofs.OutputLaws.{has_whole, input_complains}
use Rattle.landings.proofs.WriteLaws.{written_as, got_as, on_ok, on_err}
use Rattle.landings.proofs.answer.Goals as goal

pub print_complaint-requires : goal.print_complaint-requires
print_complaint-requires g c = has_whole _ (input_complains c.args.bytes.now c.in-Err.complaint c.in-Err.ensures) c.requires

pub returns-in-Err : goal.returns-in-Err
returns-in-Err g c =
    let line = input_complains c.args.bytes.now c.in-Err.complaint c.in-Err.ensures in
    let printed = c.print_complaint.ensures in
    record {
      place = on_ok {P = c.print_complaint.new.place ≡ length (printout c.args.bytes.now)} c.print_complaint.result (omega (arith, printed.place, c.requires, ap length line));
      written =
          on_ok_weaker {P = Appends (g.W.Write.contents c.args.writer.now) (g.W.Write.contents c.print_complaint.new.writer) (complaint_line c.in-Err.complaint)} {Q = Appends (g.W.Write.contents c.args.writer.now) (g.W.Write.contents c.print_complaint.new.writer) (printout c.args.bytes.now)} c.print_complaint.result
          (written_as _ _ _ _ (sym line)) printed.written;
      err = on_err {P = c.print_complaint.new.place ≤ length (printout c.args.bytes.now)} c.print_complaint.result (omega (arith, printed.place, c.requires, ap length line));
      stopped =
          on_err_weaker {P = GotPart (g.W.Write.contents c.args.writer.now) (g.W.Write.contents c.print_complaint.new.writer) (complaint_line c.in-Err.complaint)} {Q = GotPart (g.W.Write.contents c.args.writer.now) (g.W.Write.contents c.print_complaint.new.writer) (printout c.args.bytes.now)} c.print_complaint.result
          (got_as _ _ _ _ (sym line)) printed.err;
    }
