-- `landings::input::nodes_of` meets its contract: an idle network has four nodes; the head of another sheet that passes is in its ranges.
use mathlib.Core.Path.{sym, ◌∙◌, ap}
use native.Mathlib.Omega.{arith}
use Rattle.std.proofs.Common.{rules}
use Rattle.words.specs.Tests.{◌≤?◌}
use Rattle.sheet.specs.Sheet.{nodes, rows, is_long}
use Rattle.sheet.proofs.VerdictLaws.{passed_framed}
use Rattle.sheet.proofs.MeantLaws.{meant_none, meant_some, number_some}
use Rattle.landings.proofs.input.nodes_of.Goals as goal

pub returns-then-is_empty : goal.returns-then-is_empty
unfolding rows is_long ◌≤?◌
returns-then-is_empty c = (sym (ap nodes (meant_none _ (search rules))), omega arith)

pub nodes_of-requires : goal.nodes_of-requires
nodes_of-requires c = (passed_framed _ (sym (number_some _ (search rules)) ∙ c.requires)).headed

pub returns : goal.returns
returns c = (c.nodes_of.ensures.0 ∙ sym (ap nodes (meant_some _ (search rules))), c.nodes_of.ensures.1)
