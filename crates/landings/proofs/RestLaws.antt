-- Cycles that are crossed at once: they leave what so many single ones leave, and have no lines.
-- Assumes nothing.
use Prim.Native.Nat.{ℕ, zero, suc, ◌+◌, ◌-◌, ◌<◌}
use mathlib.Core.List.{List, [], ◌++◌, append-nil}
use mathlib.Core.Path.{◌≡◌, refl, sym, ◌∙◌, ap, subst}
use native.Mathlib.Omega.{arith}
use native.Mathlib.Decide.{dec_lt}
use lib.ListN.{length}
use Rattle.sheet.specs.Sheet.{nodes}
use Rattle.occupancy.specs.Inner.Occupancy.{bit_at}
use Rattle.network.specs.declared.Live.{Live}
use Rattle.network.specs.View.{Landing, nothing}
use Rattle.network.specs.Registers.{reg, sheet_in, landing_mark}
use Rattle.network.specs.Inner.Live.{Covered}
use Rattle.session.specs.Calls.{state_number, memory_number, last_landing, Lent, lend, cycle, number, after}
use Rattle.session.specs.Inner.Resting.{Rested}
use Rattle.session.proofs.KeptLaws.{state_length_kept, sheet_same}
use Rattle.session.proofs.ReadingLaws.{memory_state}
use Rattle.session.proofs.ReadyLaws.{after_has, ready_after}
use Rattle.landings.specs.Lines.{line_for, cycle_lines, cycles_lines, cycles_on}
use Rattle.landings.proofs.PageLaws.{Filling}
use Rattle.landings.proofs.OutputLaws.{cycles_behind, lines_behind}

-- no cycle is crossed
pub rest_none : (most : ℕ) (s : List ℕ) → Rested most s s 0
unfolding cycles_on
rest_none most s = record {
  few = omega arith;
  words = λ m r. refl;
  is_carried_out = λ m j r l. absurd (let z : ⊥ = omega (arith, l) in z);
  none_lands = λ m j node r l h. absurd (let z : ⊥ = omega (arith, l) in z);
}

-- what a cycle keeps of the lent words, so many keep
cycles_have : (P : Lent → Type 0) → ((w : Lent) → P w → P (after cycle w)) → (n : ℕ) (w : Lent) → P w → P (cycles_on n w)
unfolding cycles_on
cycles_have P f zero w p = p
cycles_have P f (suc n) w p = f (cycles_on n w) (cycles_have P f n w p)

pub cycles_sheet : (n : ℕ) (w : Lent) → sheet_in (cycles_on n w).state ≡ sheet_in w.state
cycles_sheet n w = cycles_have kept (λ x p. after_has kept cycle x (λ e. sheet_same cycle x refl e ∙ p) p) n w refl
  where
    kept : Lent → Type 0
    kept x = sheet_in x.state ≡ sheet_in w.state

pub cycles_long : (n : ℕ) (w : Lent) → length (cycles_on n w).state ≡ length w.state
cycles_long n w = cycles_have kept (λ x p. after_has kept cycle x (λ e. state_length_kept cycle x e ∙ p) p) n w refl
  where
    kept : Lent → Type 0
    kept x = length x.state ≡ length w.state

cycles_ready : (n : ℕ) (w : Lent) → memory_number w.state w.memory ≡ 0 → memory_number (cycles_on n w).state (cycles_on n w).memory ≡ 0
cycles_ready n w r = cycles_have (λ (x : Lent). memory_number x.state x.memory ≡ 0) (λ x p. ready_after cycle x refl p) n w r

-- where nothing lands there are no lines
no_line : (count time : ℕ) (s : List ℕ) → ((node : ℕ) → node < count → last_landing s node ≡ nothing) → cycle_lines count time s ≡ []
unfolding cycle_lines
no_line zero time s f = refl
no_line (suc n) time s f =
    ap (λ (l : Landing). cycle_lines n time s ++ line_for time n l) (f n (omega arith))
    ∙ append-nil (cycle_lines n time s)
    ∙ no_line n time s (λ node l. f node (omega (arith, l)))

no_lines : (count first n : ℕ) (w : Lent)
    → ((j node : ℕ) → j < n → node < count → last_landing (cycles_on (suc j) w).state node ≡ nothing)
    → cycles_lines count first n w ≡ []
unfolding cycles_lines
no_lines count first zero w f = refl
no_lines count first (suc n) w f =
    ap (λ (x : List ℕ). cycles_lines count first n w ++ x)
    (no_line count (first + n) (cycles_on (suc n) w).state (λ node l. f n node (omega arith) l))
    ∙ append-nil (cycles_lines count first n w)
    ∙ no_lines count first n w (λ j node h l. f j node (omega (arith, h)) l)

-- a page whose last cycle is followed by crossed ones
module _ (count first last : ℕ) (w : Lent) (start s m buffer : List ℕ) (at time : ℕ)
    (i : Filling count first last w start s m buffer at time) where
  pub fill_passes : state_number s ≡ 0
  fill_passes = memory_state s m i.ready

  -- nodes beside the mask of a cycle that is run have no landing in it
  pub landed_beside : count ≡ nodes (sheet_in w.state) → {s' m' : List ℕ} → lend s' m' ≡ after cycle (lend s m) → {live : Live} → Covered s' live
      → (node : ℕ) → node < count → bit_at live.landed node ≡ 0 → reg s' landing_mark node ≡ 0
  unfolding cycles_on
  landed_beside all {s'} f C node l none =
      let same : sheet_in s' ≡ sheet_in w.state =
      ap (λ (x : Lent). sheet_in x.state) (f ∙ ap (after cycle) i.words) ∙ cycles_sheet (suc (time - first)) w in
      C.landing node (omega (arith, l, all, ap nodes same)) none

  module _ (all : count ≡ nodes (sheet_in w.state)) {s' : List ℕ} {n : ℕ} (r : Rested (last - time) s s' n) where
    page_sheet : sheet_in s ≡ sheet_in w.state
    page_sheet = ap (λ (x : Lent). sheet_in x.state) i.words ∙ cycles_sheet (time - first) w

    rest_words : lend s' m ≡ cycles_on n (lend s m)
    rest_words = r.words m i.ready

    more_cycles : lend s' m ≡ cycles_on (time - first + n) w
    more_cycles = rest_words ∙ ap (cycles_on n) i.words ∙ sym (cycles_behind (time - first) n w)

    rest_lines : cycles_lines count (first + (time - first)) n (lend s m) ≡ []
    rest_lines =
        no_lines count (first + (time - first)) n (lend s m)
        (λ j node h l. r.none_lands m j node i.ready h (omega (arith, l, all, ap nodes page_sheet)))

    same_lines : cycles_lines count first (time - first + n) w ≡ cycles_lines count first (time - first) w
    same_lines =
        let before = cycles_lines count first (time - first) w in
        lines_behind count first (time - first) n w
        ∙ ap (λ (x : Lent). before ++ cycles_lines count (first + (time - first)) n x) (sym i.words)
        ∙ ap (λ (x : List ℕ). before ++ x) rest_lines
        ∙ append-nil before

    still_carried : (j : ℕ) → j < time - first + n → number cycle (cycles_on j w) ≡ 0
    still_carried j h = go (dec_lt j (time - first))
      where
        go : Dec (j < time - first) → number cycle (cycles_on j w) ≡ 0
        go (yes p) = i.carried j p
        go (no p) =
            let k = j - (time - first) in
            let e : j ≡ time - first + k = omega (arith, p) in
            ap (λ x. number cycle (cycles_on x w)) e
            ∙ ap (number cycle) (cycles_behind (time - first) k w)
            ∙ ap (λ (x : Lent). number cycle (cycles_on k x)) (sym i.words)
            ∙ r.is_carried_out m k i.ready (omega (arith, p, h))

    pub fill_rest : Filling count first last w start s' m buffer at (time + n)
    fill_rest =
        let next : time + n - first ≡ time - first + n = omega (arith, i.begun) in
        record {
          begun = omega (arith, i.begun);
          in_time = omega (arith, i.in_time, r.few);
          words = rw next more_cycles;
          ready = ap (λ (x : Lent). memory_number x.state x.memory) rest_words ∙ cycles_ready n (lend s m) i.ready;
          long = i.long;
          placed = rw (next, same_lines) i.placed;
          bytes = rw (next, same_lines) i.bytes;
          fits = i.fits;
          carried = rw next still_carried;
        }

    -- where none is crossed the time stays
    pub fill_same : n ≡ 0 → Filling count first last w start s' m buffer at time
    fill_same e =
        let same : time + n ≡ time = omega (arith, e) in
        subst (Filling count first last w start s' m buffer at) same fill_rest
