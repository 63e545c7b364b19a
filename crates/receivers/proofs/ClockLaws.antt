-- The clock's row, from the registers that were read: the period's turn, whether the order is due, and the row afterwards.
-- Assumes nothing.
use Rattle.std.proofs.Common.{◌≡◌, ℕ, not, ◌+◌, ◌<◌, ◌≤◌, Bool, true, false, List, [], length, sym, refl, ap, ◌∙◌, ap₂, arith}
use native.Mathlib.Decide.{dec_le}
use Rattle.words.specs.Tests.{◌and◌, ◌≤?◌, ◌=?◌}
use Rattle.words.specs.Words.{pick}
use Rattle.words.proofs.TestLaws.{and_no, and_on, yes≤, no≤, yes=, no=}
use Rattle.sheet.specs.Sheet.{period}
use Rattle.network.specs.Cycle.{next_number}
use Rattle.network.specs.Registers.{reg, put, sheet_in, moving_words, clock_row, cycle_place, number_place, in_force_place, order_mark_place, order_schedule_place, order_period_place, row_words, clock_words}
use Rattle.network.specs.Inner.Machine.{turns, is_due, next_clock, row_in, next_rows, next_in_row}
use Rattle.network.specs.Inner.Stages.{stage}
use Rattle.network.proofs.FillLaws.{Staged, wrote_one, wrote_nothing, stage_start, stage_more, staged_is}
use Rattle.receivers.specs.Inner.Required.{Clocked}
use Rattle.receivers.specs.Inner.Written.{clock_put}

-- the period turns
pub turns_is : (s : List ℕ) (cycle size : ℕ) → cycle ≡ reg s clock_row cycle_place → size ≡ period (sheet_in s) (reg s clock_row in_force_place)
    → (cycle + 1 =? size) ≡ turns s
unfolding turns
turns_is s cycle size p q = ap₂ (λ (c n : ℕ). c + 1 =? n) p q

-- several tests in another order
and_assoc : (a b c : Bool) → a and (b and c) ≡ (a and b) and c
unfolding ◌and◌
and_assoc true b c = refl
and_assoc false b c = refl

-- a mark is there
positive : (mark : ℕ) → not (mark =? 0) ≡ (1 ≤? mark)
positive mark = go (dec_le 1 mark)
  where
    go : Dec (1 ≤ mark) → not (mark =? 0) ≡ (1 ≤? mark)
    go (yes h) = ap not (no= (omega (arith, h))) ∙ sym (yes≤ h)
    go (no h) = ap not (yes= (omega (arith, h))) ∙ sym (no≤ (omega (arith, h)))

-- the period turns and there is an order, as the code tests it
module _ (s : List ℕ) {turning : Bool} (e : turning ≡ turns s) where
  pub ready_turning : {mark : ℕ} {ready : Bool} → turning ≡ true → mark ≡ reg s clock_row order_mark_place → ready ≡ not (mark =? 0)
      → ready ≡ turns s and 1 ≤? reg s clock_row order_mark_place
  ready_turning {mark} t p v = and_on (sym e ∙ t) (v ∙ positive mark ∙ ap (λ (m : ℕ). 1 ≤? m) p)

  pub ready_within : {ready : Bool} → turning ≡ false → ready ≡ turning → ready ≡ turns s and 1 ≤? reg s clock_row order_mark_place
  ready_within f v = v ∙ f ∙ and_no _ (sym e ∙ f)

-- then the order's period decides
module _ (s : List ℕ) {ready : Bool} (e : ready ≡ turns s and 1 ≤? reg s clock_row order_mark_place) where
  pub due_none : ready ≡ false → ready ≡ is_due s
  unfolding is_due
  due_none f = f ∙ and_no _ (sym e ∙ f) ∙ sym (and_assoc (turns s) (1 ≤? reg s clock_row order_mark_place) _)

  pub due_rest : {at number : ℕ} → ready ≡ true → at ≡ reg s clock_row order_period_place → number ≡ next_number (reg s clock_row number_place)
      → (at =? number) ≡ is_due s
  unfolding is_due
  due_rest t a n = and_on (sym e ∙ t) (ap₂ ◌=?◌ a n) ∙ sym (and_assoc (turns s) (1 ≤? reg s clock_row order_mark_place) _)

-- one of two, as an `if` gives it
pub picked_first : {A : Type 0} {test : Bool} {v a : A} (b : A) → test ≡ true → v ≡ a → v ≡ pick test a b
picked_first {a = a} b t e = e ∙ sym (ap (λ (x : Bool). pick x a b) t)

pub picked_second : {A : Type 0} {test : Bool} {v b : A} (a : A) → test ≡ false → v ≡ b → v ≡ pick test a b
picked_second {b = b} a t e = e ∙ sym (ap (λ (x : Bool). pick x a b) t)

-- the registers of the clock, set in turn
pub clock_is : (s : List ℕ) (cycle number schedule mark : ℕ) {a b d after : List ℕ}
    → a ≡ put s clock_row cycle_place cycle
    → b ≡ put a clock_row number_place number
    → d ≡ put b clock_row in_force_place schedule
    → after ≡ put d clock_row order_mark_place mark
    → after ≡ clock_put s cycle number schedule mark
unfolding clock_put
clock_is s cycle number schedule mark e f g h =
    h
    ∙ ap (λ (x : List ℕ). put x clock_row order_mark_place mark)
    (g
    ∙ ap (λ (x : List ℕ). put x clock_row in_force_place schedule) (f ∙ ap (λ (x : List ℕ). put x clock_row number_place number) e))

-- what the stage wants of the clock's row
abbrev wanted : List ℕ → ℕ → ℕ → ℕ
wanted s = next_in_row s []

module _ (s : List ℕ) (long : moving_words ≤ length s) where
  -- one register more, set or left
  put_more : (n w : ℕ) (now : List ℕ) → n < row_words → Staged clock_row clock_row n (wanted s) s now → w ≡ wanted s clock_row n
      → Staged clock_row clock_row (n + 1) (wanted s) s (put now clock_row n w)
  put_more n w now l g e =
      stage_more clock_row clock_row n (wanted s) s now (put now clock_row n w) (omega arith) l g
      (wrote_one clock_row n w (λ row. wanted s row n) now (omega arith) l (omega (arith, g.same_length)) e)

  leave_more : (n : ℕ) (now : List ℕ) → n < row_words → Staged clock_row clock_row n (wanted s) s now → wanted s clock_row n ≡ reg s clock_row n
      → Staged clock_row clock_row (n + 1) (wanted s) s now
  leave_more n now l g e =
      stage_more clock_row clock_row n (wanted s) s now now (omega arith) l g
      (wrote_nothing clock_row clock_row n (λ row. wanted s row n) now
      (λ row a b.
      let only_row : row ≡ clock_row = omega arith in
      ap (λ (r : ℕ). wanted s r n) only_row ∙ e
      ∙ sym (g.kept clock_row n (omega arith) l (λ x y z. omega arith))
      ∙ ap (λ (r : ℕ). reg now r n) (sym only_row)))

  pub clock_staged : (cycle number schedule mark : ℕ)
      → cycle ≡ pick (turns s) 0 (reg s clock_row cycle_place + 1)
      → number ≡ pick (turns s) (next_number (reg s clock_row number_place)) (reg s clock_row number_place)
      → schedule ≡ pick (is_due s) (reg s clock_row order_schedule_place) (reg s clock_row in_force_place)
      → mark ≡ pick (is_due s) 0 (reg s clock_row order_mark_place)
      → clock_put s cycle number schedule mark ≡ stage clock_row clock_row clock_words (wanted s) s
  unfolding clock_put next_in_row row_in next_rows next_clock ◌=?◌
  clock_staged cycle number schedule mark a b d e =
      staged_is clock_row clock_row clock_words (wanted s) s _ long
      (leave_more order_period_place _ (omega arith)
      (leave_more order_schedule_place _ (omega arith)
      (put_more order_mark_place mark _ (omega arith)
      (put_more in_force_place schedule _ (omega arith)
      (put_more number_place number _ (omega arith)
      (put_more cycle_place cycle s (omega arith) (stage_start clock_row clock_row (wanted s) s) a) b) d) e)
      refl)
      refl)

-- the stage, from what was read and picked
module _ (s : List ℕ) (g : Clocked s) (turning due : Bool) (t : turning ≡ turns s) (d : due ≡ is_due s)
    (cycle number next ordered schedule mark : ℕ) (p : cycle ≡ reg s clock_row cycle_place) (q : number ≡ reg s clock_row number_place)
    (r : next ≡ next_number number) (o : ordered ≡ reg s clock_row order_schedule_place) (j : schedule ≡ reg s clock_row in_force_place)
    (k : mark ≡ reg s clock_row order_mark_place) where
  pub clock_done : {a b x y : ℕ} {after : List ℕ}
      → a ≡ pick turning 0 (cycle + 1)
      → b ≡ pick turning next number
      → x ≡ pick due ordered schedule
      → y ≡ pick due 0 mark
      → after ≡ clock_put s a b x y
      → after ≡ stage clock_row clock_row clock_words (next_in_row s []) s
  clock_done {a} {b} {x} {y} e f h i w =
      w
      ∙ clock_staged s g.long a b x y
      (e ∙ ap₂ (λ (u : Bool) (v : ℕ). pick u 0 (v + 1)) t p)
      (f ∙ ap₂ (λ (u : Bool) (v : ℕ). pick u v number) t (r ∙ ap next_number q)
      ∙ ap (λ (v : ℕ). pick (turns s) (next_number (reg s clock_row number_place)) v) q)
      (h ∙ ap₂ (λ (u : Bool) (v : ℕ). pick u v schedule) d o ∙ ap (pick (is_due s) (reg s clock_row order_schedule_place)) j)
      (i ∙ ap₂ (λ (u : Bool) (v : ℕ). pick u 0 v) d k)
