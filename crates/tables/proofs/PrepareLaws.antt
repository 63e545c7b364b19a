-- What is worked out before a cycle writes, from what the functions that work it out ensure.
-- Assumes nothing.
use Prim.Native.Nat.{ℕ, ◌≤◌}
use mathlib.Core.Bool.{Bool, true, false, not}
use mathlib.Core.List.{List}
use mathlib.Core.Path.{◌≡◌, sym, ◌∙◌, ap}
use lib.ListN.{replicate}
use Rattle.std.specs.declared.result.Result.{Result}
use Rattle.refusal.specs.declared.Refusal.{Refusal}
use Rattle.refusal.specs.Numbers.{number_of}
use Rattle.words.specs.Tests.{◌=?◌}
use Rattle.words.specs.Words.{pick}
use Rattle.sheet.specs.Sheet.{memory_words, nodes}
use Rattle.words.proofs.TestLaws.{no=}
use Rattle.words.proofs.NumberLaws.{unless_no, unless_yes}
use Rattle.network.specs.Registers.{sheet_in, row_words}
use Rattle.network.specs.Inner.Machine.{faulty_in}
use Rattle.network.specs.OneMachine.{cycle_fault}
use Rattle.words.proofs.TableLaws.{tab_zeros}
use Rattle.receivers.specs.Inner.Required.{Counted}
use Rattle.tables.specs.Inner.Ready.{Ready}
use Rattle.tables.specs.Inner.Tables.{Empty}

module _ {s m z : List ℕ} {count : ℕ} (R : Ready s m) (own : z ≡ sheet_in s) (e : (count ≡ nodes z) × (count ≤ 16)) where
  pub count_is : count ≡ nodes (sheet_in s)
  count_is = e.0 ∙ ap nodes own

  pub counted : {r : ℕ} → r ≡ memory_words z → Counted s count r
  counted q = record { all_nodes = count_is; few_nodes = e.1; own_room = q ∙ ap memory_words own }

-- the five tables of zeros
pub empty : Empty (replicate 64 0) (replicate 16 0) (replicate 16 0) (replicate row_words 0) (replicate row_words 0)
empty = record { slot = tab_zeros 64; source_mark_is = tab_zeros 16; source_word_is = tab_zeros 16; out_mark_is = tab_zeros row_words; out_word_is = tab_zeros row_words }

-- the number of a cycle that has a fault, or none, and the words after it
pub fault_number : (s : List ℕ) {r : Bool} → r ≡ faulty_in s → r ≡ true → 20 ≡ cycle_fault s
unfolding cycle_fault
fault_number s e h = unless_no 20 (ap not (sym e ∙ h))

pub no_fault : (s : List ℕ) {r : Bool} → r ≡ faulty_in s → r ≡ false → 0 ≡ cycle_fault s
unfolding cycle_fault
no_fault s e h = unless_yes 20 (ap not (sym e ∙ h))

pub kept : {A : Type 0} (r : Result A Refusal) (old new : List ℕ) → (number_of r ≡ 0 → ⊥) → old ≡ pick (number_of r =? 0) new old
kept r old new ne = sym (ap (λ (b : Bool). pick b new old) (no= ne))

pub changed : (old new : List ℕ) {w : List ℕ} → w ≡ new → w ≡ pick (0 =? 0) new old
unfolding ◌=?◌
changed old new e = e
