use Rattle.std.proofs.Common.{sym, ap, ◌∙◌, rules}
use Rattle.listing.specs.Text.{too_large, input_ends, refused}
use Rattle.listing.specs.Complaints.{complaint_line}
use Rattle.listing.proofs.TextLaws.{refused_put}
use Rattle.listing.proofs.complaint.Complaint.line.Goals as goal

pub returns-in-TooLarge : goal.returns-in-TooLarge
unfolding too_large
returns-in-TooLarge c = ap complaint_line (sym c.in-TooLarge.is)

pub returns-in-InputEnds : goal.returns-in-InputEnds
unfolding input_ends
returns-in-InputEnds c = ap complaint_line (sym c.in-InputEnds.is)

pub returns-in-Refused : goal.returns-in-Refused
unfolding refused
returns-in-Refused c =
    let put = c.put_field-end.ensures in
    refused_put _ c.number.ensures _ _ _ c.copy_from_slice.ensures.after (search rules) put.place put.bytes ∙ ap complaint_line (sym c.in-Refused.is)
