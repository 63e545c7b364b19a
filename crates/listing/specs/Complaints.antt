-- The one line that a program prints where it has no answer.
use Rattle.std.specs.Prelude.{ℕ, List, ◌++◌}
use Rattle.refusal.specs.Numbers.{refusal_number}
use Rattle.listing.specs.declared.complaint.Complaint.{Complaint}
use Rattle.listing.specs.declared.complaint.Complaint.TheVariants.{TooLarge, InputEnds, Refused}
use Rattle.listing.specs.Text.{line_end, field, too_large, input_ends, refused}

abbrev pub complaint_line : Complaint → List ℕ
complaint_line TooLarge = too_large
complaint_line InputEnds = input_ends
complaint_line (Refused e) = refused ++ field (refusal_number e) line_end
