-- `landings::input::memory_size` meets its contract: an idle network has four nodes of a word each; the head of another sheet that passes is
-- in its ranges.
use Prim.Native.Nat.{ℕ, ◌*◌}
use mathlib.Core.List.{List}
use mathlib.Core.Path.{sym, ◌∙◌, ap}
use Rattle.std.proofs.Common.{rules}
use Rattle.words.specs.Tests.{◌≤?◌}
use Rattle.sheet.specs.Sheet.{nodes, memory_words, rows, is_long}
use Rattle.sheet.proofs.VerdictLaws.{passed_framed}
use Rattle.sheet.proofs.MeantLaws.{meant_none, meant_some, number_some}
use Rattle.landings.proofs.input.memory_size.Goals as goal

pub returns-then-is_empty : goal.returns-then-is_empty
unfolding rows is_long ◌≤?◌
returns-then-is_empty c = sym (ap (λ (z : List ℕ). nodes z * memory_words z) (meant_none _ (search rules)))

pub whole_memory_of-requires : goal.whole_memory_of-requires
whole_memory_of-requires c = (passed_framed _ (sym (number_some _ (search rules)) ∙ c.requires)).headed

pub returns : goal.returns
returns c = c.whole_memory_of.ensures ∙ sym (ap (λ (z : List ℕ). nodes z * memory_words z) (meant_some _ (search rules)))
