-- Five lists of words: their number, and what starting them leaves.
-- Assumes nothing.
use Prim.Native.Nat.{ℕ, ◌≤◌}
use mathlib.Core.Bool.{Bool, true, false}
use mathlib.Core.List.{List, ◌++◌}
use mathlib.Core.Path.{◌≡◌, refl, sym, ◌∙◌, ap}
use native.Mathlib.Omega.{arith}
use lib.ListN.{length, drop}
use Rattle.words.specs.Tests.{◌=?◌}
use Rattle.words.specs.Words.{pick}
use Rattle.words.specs.Numbers.{unless, ◌then◌}
use Rattle.words.proofs.NumberLaws.{then_zero, unless_zero}
use Rattle.words.proofs.TestLaws.{is=}
use Rattle.session.specs.declared.Transfer.{Transfer}
use Rattle.session.specs.Calls.{state_number, start_all_number, started_all, answers_all, start_all, after, answers_after, lend_state}
use Rattle.session.proofs.NumberLaws.{list_passed}
use Rattle.batch.specs.Lists.{transfers_of, same_lengths, start_lists_number, lists_state, lists_answers}
use Rattle.batch.proofs.BatchLaws.{first_length, all_passes, all_kept, all_written}

-- behind a number, a test that holds adds nothing
then_none : (a : ℕ) → (a then unless 21 true) ≡ a
unfolding ◌then◌ unless
then_none a = go (a =? 0) refl
  where
    go : (b : Bool) → (a =? 0) ≡ b → pick b 0 a ≡ a
    go true e = sym (is= _ _ e)
    go false e = refl

module _ (circuits reads writes counts kinds : List ℕ) where
  abbrev made : List Transfer
  made = transfers_of circuits reads writes counts kinds

  as_long : (s : List ℕ) (answer_words : ℕ) → start_all_number s (length circuits) answer_words ≡ start_all_number s (length made) answer_words
  as_long s answer_words = ap (λ k. start_all_number s k answer_words) (sym (first_length _ (length circuits)))

  -- the lists' number, from that of a list of transfers and from the test of their lengths
  pub lists_number : (s : List ℕ) (answer_words : ℕ) → start_lists_number circuits reads writes counts kinds s answer_words
      ≡ (start_all_number s (length circuits) answer_words then unless 21 (same_lengths circuits reads writes counts kinds))
  unfolding start_lists_number
  lists_number s answer_words = ap (λ k. k then unless 21 (same_lengths circuits reads writes counts kinds)) (sym (as_long s answer_words))

  -- lists that are taken: of one length, and their transfers are taken
  taken_both : (s : List ℕ) (answer_words : ℕ) {n : ℕ} → n ≡ start_lists_number circuits reads writes counts kinds s answer_words → n ≡ 0
      → (start_all_number s (length made) answer_words ≡ 0) × (same_lengths circuits reads writes counts kinds ≡ true)
  unfolding start_lists_number
  taken_both s answer_words e z =
      let parts = then_zero _ _ (sym e ∙ z) in
      (parts.0, unless_zero 21 _ (omega arith) parts.1)

  pub lists_passed : (s : List ℕ) (answer_words : ℕ) {n : ℕ} → n ≡ start_lists_number circuits reads writes counts kinds s answer_words → n ≡ 0
      → (state_number s ≡ 0) × (length circuits ≤ answer_words)
  lists_passed s answer_words e z =
      let taken = as_long s answer_words ∙ (taken_both s answer_words e z).0 in
      (all_passes s (length circuits) answer_words taken, (list_passed s (length circuits) answer_words taken).answered)

  -- what they leave
  pub lists_kept : (s answers : List ℕ) {n : ℕ} → n ≡ start_lists_number circuits reads writes counts kinds s (length answers) → (n ≡ 0 → ⊥)
      → (s ≡ lists_state circuits reads writes counts kinds s (length answers)) × (answers ≡ lists_answers circuits reads writes counts kinds s answers)
  unfolding lists_state lists_answers start_lists_number
  lists_kept s answers {n} e ne = go (same_lengths circuits reads writes counts kinds) e
    where
      go : (b : Bool) → n ≡ (start_all_number s (length made) (length answers) then unless 21 b)
          → (s ≡ pick b (after (start_all made (length answers)) (lend_state s)).state s) × (answers ≡ pick b (answers_after s made answers) answers)
      go true f = all_kept made s answers (f ∙ then_none (start_all_number s (length made) (length answers))) ne
      go false f = (refl, refl)

  pub lists_written : (s answers : List ℕ) {n : ℕ} {next written : List ℕ}
      → n ≡ start_lists_number circuits reads writes counts kinds s (length answers) → n ≡ 0
      → next ≡ started_all s made → written ≡ answers_all s made ++ drop (length circuits) answers
      → (next ≡ lists_state circuits reads writes counts kinds s (length answers))
      × (written ≡ lists_answers circuits reads writes counts kinds s answers)
  unfolding lists_state lists_answers
  lists_written s answers e z f g =
      let both = taken_both s (length answers) e z in
      let left = all_written made s answers refl both.0 f (g ∙ ap (λ k. answers_all s made ++ drop k answers) (sym (first_length _ (length circuits)))) in
      rw both.1 (left.0, left.1)
