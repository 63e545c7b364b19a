-- So many inner cycles, one after another, up to one that is refused: the words that they leave, and the answer.
-- Assumes nothing.
use Prim.Native.Nat.{ℕ, zero, suc, ◌+◌, ◌-◌, ◌*◌, ◌≤◌, ◌<◌}
use mathlib.Core.Bool.{Bool}
use mathlib.Core.List.{List}
use mathlib.Core.Path.{◌≡◌, refl, sym, ◌∙◌, ap, ap₂}
use native.Mathlib.Omega.{arith}
use native.Mathlib.Nat.{add-zero, add-suc}
use native.Mathlib.Numerals.{add-one}
use native.Mathlib.Decide.{dec_lt}
use lib.ListN.{length}
use Rattle.words.specs.Tests.{◌≤?◌}
use Rattle.words.specs.Words.{pick}
use Rattle.words.specs.Numbers.{◌then◌}
use Rattle.words.proofs.TestLaws.{yes=, no=, yes≤, no≤}
use Rattle.words.proofs.NumberLaws.{then_first, then_next}
use Rattle.words.proofs.WordLaws.{least_from_by}
use Rattle.session.specs.Calls.{memory_number, Lent, lend, cycle, number, after}
use Rattle.session.specs.Inner.Resting.{cycles_on}
use Rattle.session.proofs.CyclingLaws.{cycle_early}
use Rattle.session.proofs.KeptLaws.{state_length_kept, memory_length_kept}
use Rattle.session.proofs.ReadyLaws.{after_has, ready_after}
use Rattle.session.proofs.WritingLaws.{after_refused}
use Rattle.probes.specs.Inner.Cycles.{cycles_done, cycles_number, cycles_answer}

-- behind a cycle that is refused the words stay
stays_on : (k d : ℕ) (w : Lent) → (number cycle (cycles_on k w) ≡ 0 → ⊥) → cycles_on (k + d) w ≡ cycles_on k w
unfolding cycles_on
stays_on k zero w ne = ap (λ j. cycles_on j w) (add-zero k)
stays_on k (suc d) w ne = ap (λ j. cycles_on j w) (add-suc k d) ∙ ap (after cycle) (stays_on k d w ne) ∙ after_refused cycle (cycles_on k w) ne

-- the first k of n cycles are carried out, and the next, if there is one, is not
module _ (n k : ℕ) (w : Lent) (within : k ≤ n) (f : (j : ℕ) → j < k → number cycle (cycles_on j w) ≡ 0)
    (ne : k < n → number cycle (cycles_on k w) ≡ 0 → ⊥) where
  words_stay : cycles_on k w ≡ cycles_on n w
  words_stay = go (dec_lt k n)
    where
      go : Dec (k < n) → cycles_on k w ≡ cycles_on n w
      go (yes l) =
          let all : k + (n - k) ≡ n = omega arith in
          sym (stays_on k (n - k) w (ne l)) ∙ ap (λ j. cycles_on j w) all
      go (no l) =
          let all : k ≡ n = omega (arith, l) in
          ap (λ j. cycles_on j w) all

  done_is : cycles_done n w ≡ k
  unfolding cycles_done
  done_is =
      least_from_by (λ j. 1 ≤? number cycle (cycles_on j w)) n 0 k (omega arith) (omega arith)
      (λ l. let some = ne (omega (arith, l)) in yes≤ (omega (arith, some))) (λ j a b. no≤ (omega (arith, f j b)))

  answer_is : {r : ℕ} → r ≡ (memory_number w.state w.memory then cycles_number n w) → r * 4294967296 + k ≡ cycles_answer n w
  unfolding cycles_answer
  answer_is e = ap₂ (λ a b. a * 4294967296 + b) e (sym done_is)

  number_none : k ≡ n → 0 ≡ cycles_number n w
  unfolding cycles_number
  number_none e = sym (ap (λ (t : Bool). pick t 0 (number cycle (cycles_on (cycles_done n w) w))) (yes= (done_is ∙ e)))

  number_some : k < n → number cycle (cycles_on k w) ≡ cycles_number n w
  unfolding cycles_number
  number_some l =
      ap (λ j. number cycle (cycles_on j w)) (sym done_is)
      ∙ sym (ap (λ (t : Bool). pick t 0 (number cycle (cycles_on (cycles_done n w) w))) (no= (λ e. omega (arith, l, done_is, e))))

none_on : (w : Lent) → w ≡ cycles_on 0 w
unfolding cycles_on
none_on w = refl

-- 12 to 14 apply: nothing is run
pub none_run : (n : ℕ) (s m : List ℕ) {r : ℕ} → r ≡ memory_number s m → (r ≡ 0 → ⊥)
    → (r * 4294967296 + 0 ≡ cycles_answer n (lend s m)) × (lend s m ≡ cycles_on n (lend s m))
none_run n s m {r} e some =
    let first : r ≡ number cycle (lend s m) = cycle_early s m e some in
    let at_once : number cycle (cycles_on 0 (lend s m)) ≡ 0 → ⊥ = λ z. some (first ∙ ap (number cycle) (none_on (lend s m)) ∙ z) in
    let before : (j : ℕ) → j < 0 → number cycle (cycles_on j (lend s m)) ≡ 0 = λ j l. absurd (let z : ⊥ = omega arith in z) in
    let answer = answer_is n 0 (lend s m) (omega arith) before (λ l. at_once) (then_first (cycles_number n (lend s m)) e some) in
    (answer, none_on (lend s m) ∙ words_stay n 0 (lend s m) (omega arith) before (λ l. at_once))

-- the loop over the cycles
pub record Running (n : ℕ) (w : Lent) (s m : List ℕ) (k : ℕ) : Type 0 where
  pub in_time : k ≤ n
  pub words : lend s m ≡ cycles_on k w
  pub at_first : memory_number w.state w.memory ≡ 0
  pub ready : memory_number s m ≡ 0
  pub state_long : length s ≡ length w.state
  pub memory_long : length m ≡ length w.memory
  pub carried : (j : ℕ) → j < k → number cycle (cycles_on j w) ≡ 0

pub run_start : (n : ℕ) (s m : List ℕ) → memory_number s m ≡ 0 → Running n (lend s m) s m 0
unfolding cycles_on
run_start n s m r = record {
  in_time = omega arith;
  words = refl;
  at_first = r;
  ready = r;
  state_long = refl;
  memory_long = refl;
  carried = λ j l. absurd (let z : ⊥ = omega arith in z);
}

module _ (n : ℕ) (w : Lent) (s m : List ℕ) (k : ℕ) (i : Running n w s m k) where
  -- all are carried out
  pub run_done : n ≤ k → (k ≡ cycles_answer n w) × (lend s m ≡ cycles_on n w)
  run_done l =
      let all : k ≡ n = omega (arith, i.in_time) in
      let no_more : k < n → number cycle (cycles_on k w) ≡ 0 → ⊥ = λ h. absurd (let z : ⊥ = omega arith in z) in
      let none = number_none n k w i.in_time i.carried no_more all in
      let answer = answer_is n k w i.in_time i.carried no_more (then_next i.at_first none) in
      let low : k ≡ 0 * 4294967296 + k = omega arith in
      (low ∙ answer, i.words ∙ words_stay n k w i.in_time i.carried no_more)

  -- the next one, from what it leaves of state and memory
  module _ {s' m' : List ℕ} (e : s' ≡ (after cycle (lend s m)).state) (f : m' ≡ (after cycle (lend s m)).memory) where
    next_words : lend s' m' ≡ after cycle (lend s m)
    next_words = ap₂ lend e f

    pub next_long : length s' ≡ length w.state
    next_long =
        ap length e
        ∙ after_has (λ (x : Lent). length x.state ≡ length s) cycle (lend s m) (λ z. state_length_kept cycle (lend s m) z) refl
        ∙ i.state_long

    pub next_wide : length m' ≡ length w.memory
    next_wide =
        ap length f
        ∙ after_has (λ (x : Lent). length x.memory ≡ length m) cycle (lend s m) (λ z. memory_length_kept cycle (lend s m)) refl
        ∙ i.memory_long

    still_carried : number cycle (lend s m) ≡ 0 → (j : ℕ) → j < k + 1 → number cycle (cycles_on j w) ≡ 0
    still_carried z j l = go (dec_lt j k)
      where
        go : Dec (j < k) → number cycle (cycles_on j w) ≡ 0
        go (yes p) = i.carried j p
        go (no p) =
            let last : j ≡ k = omega (arith, p, l) in
            ap (λ t. number cycle (cycles_on t w)) last ∙ ap (number cycle) (sym i.words) ∙ z

    one_more : cycles_on (k + 1) w ≡ after cycle (cycles_on k w)
    unfolding cycles_on
    one_more = rw add-one refl

    pub run_more : k < n → {r : ℕ} → r ≡ number cycle (lend s m) → r ≡ 0 → Running n w s' m' (k + 1)
    run_more l g z = record {
      in_time = omega arith;
      words = next_words ∙ ap (after cycle) i.words ∙ sym one_more;
      at_first = i.at_first;
      ready = ap (λ (x : Lent). memory_number x.state x.memory) next_words ∙ ready_after cycle (lend s m) refl i.ready;
      state_long = next_long;
      memory_long = next_wide;
      carried = still_carried (sym g ∙ z);
    }

    -- it is refused
    pub run_refused : k < n → {r : ℕ} → r ≡ number cycle (lend s m) → (r ≡ 0 → ⊥)
        → (r * 4294967296 + k ≡ cycles_answer n w) × (lend s' m' ≡ cycles_on n w)
    run_refused l {r} g some =
        let here : r ≡ number cycle (cycles_on k w) = g ∙ ap (number cycle) i.words in
        let no_more : k < n → number cycle (cycles_on k w) ≡ 0 → ⊥ = λ h z. some (here ∙ z) in
        let this = number_some n k w i.in_time i.carried no_more l in
        let answer = answer_is n k w i.in_time i.carried no_more (then_next i.at_first (here ∙ this)) in
        let stay : after cycle (lend s m) ≡ lend s m = after_refused cycle (lend s m) (λ z. some (g ∙ z)) in
        (answer, next_words ∙ stay ∙ i.words ∙ words_stay n k w i.in_time i.carried no_more)
