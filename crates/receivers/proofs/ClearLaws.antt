-- Nothing landed anywhere: the loop over the nodes that stores this, and what it leaves.
-- Assumes nothing.
use Rattle.std.proofs.Common.{◌≡◌, ℕ, ◌+◌, ◌*◌, ◌<◌, ◌≤◌, List, length, refl, ap, ◌∙◌, arith}
use Rattle.words.specs.Tests.{◌=?◌}
use Rattle.words.specs.Words.{word}
use Rattle.network.specs.Registers.{reg, put, sheet_in, moving_words, row_count, row_words, receive_kind, receive_address}
use Rattle.network.specs.Registers.{landing_mark, landing_kind, landing_address, landing_word}
use Rattle.network.specs.Inner.Stages.{stage}
use Rattle.network.specs.Inner.Quiet.{unlanded}
use Rattle.network.proofs.FillLaws.{Staged, wrote_one, wrote_more, stage_more, beside, off, stage_length, stage_sheet}

-- the loop over the landings, with one node more
pub clearing_more : (s : List ℕ) (now : List ℕ) (node : ℕ) → moving_words ≤ length s → node < 16 → Staged landing_mark landing_word node (unlanded s) s now
    → Staged landing_mark landing_word (node + 1) (unlanded s) s
    (put
    (put (put (put now landing_mark node 0) landing_kind node (word now (receive_kind * row_words + node))) landing_address node
    (word now (receive_address * row_words + node)))
    landing_word node 0)
unfolding unlanded reg ◌=?◌
clearing_more s now node long l d =
    let kl : node < row_words = omega arith in
    let long_now : moving_words ≤ length now = omega (arith, d.same_length) in
    let new : ℕ → ℕ = λ row. unlanded s row node in
    stage_more landing_mark landing_word node (unlanded s) s now _ (omega arith) kl d
    (wrote_more landing_mark landing_address node 0 new now _ (omega arith) (omega arith) kl long_now
    (wrote_more landing_mark landing_kind node _ new now _ (omega arith) (omega arith) kl long_now
    (wrote_more landing_mark landing_mark node _ new now _ (omega arith) (omega arith) kl long_now
    (wrote_one landing_mark node 0 new now (omega arith) kl long_now refl)
    (beside landing_mark landing_word node (unlanded s) s now d receive_kind node (omega arith) kl (λ a b. omega arith)))
    (beside landing_mark landing_word node (unlanded s) s now d receive_address node (omega arith) kl (λ a b. omega arith)))
    refl)

-- the landings are cleared: all else is as it was
module _ (s : List ℕ) (count : ℕ) {cleared : List ℕ} (e : cleared ≡ stage landing_mark landing_word count (unlanded s) s) where
  pub cleared_reg : (row k : ℕ) → row < row_count → k < row_words → (landing_mark ≤ row → row ≤ landing_word → ⊥) → reg cleared row k ≡ reg s row k
  cleared_reg row k rl kl out = off landing_mark landing_word count (unlanded s) s cleared e row k rl kl (λ a b l. out a b)

  pub cleared_sheet : sheet_in cleared ≡ sheet_in s
  cleared_sheet = ap sheet_in e ∙ stage_sheet landing_mark landing_word count (unlanded s) s

  pub cleared_length : moving_words ≤ length s → length cleared ≡ length s
  cleared_length long = ap length e ∙ stage_length landing_mark landing_word count (unlanded s) s long
