-- Any number of cycles from empty routers: before each they hold the flights' words and no others, and just those words land.
-- Assumes nothing.
use Prim.Native.Nat.{ℕ, zero, suc, ◌<◌}
use mathlib.Core.Bool.{true, false≢true}
use mathlib.Core.List.{List}
use mathlib.Core.Path.{◌≡◌, sym, ◌∙◌, ap}
use native.Mathlib.Omega.{arith}
use Rattle.sheet.specs.Sheet.{nodes}
use Rattle.sheet.specs.Inner.Passed.{Headed}
use Rattle.network.specs.View.{Cell, empty, memory_output, Routers, ports}
use Rattle.network.specs.Cycle.{has_extra, step_routers, is_full}
use Rattle.isolation.proofs.Flights.Flight.{Flights, word_at, Paths, out_stage, InStage, Found, Holds, Emits, NoClash}
use Rattle.isolation.proofs.Flights.Step.{input_port, output_port, ends_here, step_holds}

-- two sets of routers agree on all registers that a sheet's grid has
pub record SameRouters (z : List ℕ) (a b : Routers) : Type 0 where
  pub link : (node input : ℕ) → node < nodes z → input < ports → a.link node input ≡ b.link node input
  pub head : (node input : ℕ) → node < nodes z → input < ports → a.head node input ≡ b.head node input
  pub choice : (node input : ℕ) → node < nodes z → input < ports → a.choice node input ≡ b.choice node input
  pub latch : (node input : ℕ) → node < nodes z → input < ports → a.latch node input ≡ b.latch node input
  pub out : (node output : ℕ) → node < nodes z → output < ports → a.out node output ≡ b.out node output
  pub extra : (node output : ℕ) → node < nodes z → output < ports → has_extra z output ≡ true → a.extra node output ≡ b.extra node output

pub same_back : (z : List ℕ) (a b : Routers) → SameRouters z a b → SameRouters z b a
same_back z a b s = record {
  link = λ node input n i. sym (s.link node input n i);
  head = λ node input n i. sym (s.head node input n i);
  choice = λ node input n i. sym (s.choice node input n i);
  latch = λ node input n i. sym (s.latch node input n i);
  out = λ node output n o. sym (s.out node output n o);
  extra = λ node output n o has. sym (s.extra node output n o has);
}

pub same_then : (z : List ℕ) (a b c : Routers) → SameRouters z a b → SameRouters z b c → SameRouters z a c
same_then z a b c s t = record {
  link = λ node input n i. s.link node input n i ∙ t.link node input n i;
  head = λ node input n i. s.head node input n i ∙ t.head node input n i;
  choice = λ node input n i. s.choice node input n i ∙ t.choice node input n i;
  latch = λ node input n i. s.latch node input n i ∙ t.latch node input n i;
  out = λ node output n o. s.out node output n o ∙ t.out node output n o;
  extra = λ node output n o has. s.extra node output n o has ∙ t.extra node output n o has;
}

-- what the one holds, the other holds
pub same_holds : (z : List ℕ) (F : Flights) → Paths z F → (T : ℕ) (a b : Routers) → SameRouters z a b → Holds z F T a
    → Holds z F T b
same_holds z F P T a b s h = record {
  link_word_is = λ f k j i. sym (same_at f k i.on_way s.link) ∙ h.link_word_is f k j i;
  head_word_is = λ f k j i. sym (same_at f k i.on_way s.head) ∙ h.head_word_is f k j i;
  head_choice = λ f k j i. sym (same_at f k i.on_way s.choice) ∙ h.head_choice f k j i;
  head_latch = λ f k j i more. sym (same_at f k i.on_way s.latch) ∙ h.head_latch f k j i more;
  out_word_is = λ f k j i.
      sym (s.out (F.node f k) (F.output f k) (P.in_grid f k i.on_way) (output_port z F P f k i.on_way))
      ∙ h.out_word_is f k j i;
  extra_word_at = λ f k j i has.
      sym (s.extra (F.node f k) (F.output f k) (P.in_grid f k i.on_way) (output_port z F P f k i.on_way) has)
      ∙ h.extra_word_at f k j i has;
  link_only = λ node input n i e. h.link_only node input n i (ap is_full (s.link node input n i) ∙ e);
  head_only = λ node input n i e. h.head_only node input n i (ap is_full (s.head node input n i) ∙ e);
  out_only = λ node output n o e. h.out_only node output n o (ap is_full (s.out node output n o) ∙ e);
  extra_only = λ node output n o has e. h.extra_only node output n o has (ap is_full (s.extra node output n o has) ∙ e);
}
  where
    same_at : {A : Type 0} {x y : ℕ → ℕ → A} (f : F.Id) (k : ℕ) → k < F.routers f
        → ((node input : ℕ) → node < nodes z → input < ports → x node input ≡ y node input)
        → x (F.node f k) (F.input f k) ≡ y (F.node f k) (F.input f k)
    same_at f k l same = same (F.node f k) (F.input f k) (P.in_grid f k l) (input_port z F P f k l)

-- no register of a sheet's routers has a word
pub record NoWords (z : List ℕ) (r : Routers) : Type 0 where
  pub link : (node input : ℕ) → node < nodes z → input < ports → r.link node input ≡ empty
  pub head : (node input : ℕ) → node < nodes z → input < ports → r.head node input ≡ empty
  pub out : (node output : ℕ) → node < nodes z → output < ports → r.out node output ≡ empty
  pub extra : (node output : ℕ) → node < nodes z → output < ports → has_extra z output ≡ true → r.extra node output ≡ empty

-- before cycle 0 no word is on its way
pub empty_holds : (z : List ℕ) (F : Flights) (r : Routers) → NoWords z r → Holds z F 0 r
empty_holds z F r none = record {
  link_word_is = λ f k j i. absurd (omega arith);
  head_word_is = λ f k j i. absurd (omega arith);
  head_choice = λ f k j i. absurd (omega arith);
  head_latch = λ f k j i l. absurd (omega arith);
  out_word_is = λ f k j i. absurd (omega arith);
  extra_word_at = λ f k j i has. absurd (omega arith);
  link_only = λ node input n i e. absurd (false≢true (sym (ap is_full (none.link node input n i)) ∙ e));
  head_only = λ node input n i e. absurd (false≢true (sym (ap is_full (none.head node input n i)) ∙ e));
  out_only = λ node output n o e. absurd (false≢true (sym (ap is_full (none.out node output n o)) ∙ e));
  extra_only = λ node output n o has e. absurd (false≢true (sym (ap is_full (none.extra node output n o has)) ∙ e));
}

-- routers from cycle to cycle, where in each cycle the sources put the given cells on their wires
pub record Runs (z : List ℕ) (wire : ℕ → ℕ → Cell) (routers : ℕ → Routers) : Type 0 where
  pub first : NoWords z (routers 0)
  pub next : (T : ℕ) → SameRouters z (step_routers z (wire T) (routers T)) (routers (suc T))

module _ (z : List ℕ) (H : Headed z) (F : Flights) (P : Paths z F) (clash : NoClash F) (wire : ℕ → ℕ → Cell)
    (emits : (T : ℕ) → Emits z F T (wire T)) (routers : ℕ → Routers) (runs : Runs z wire routers) where
  next_holds : (T : ℕ) → Holds z F T (routers T) → Holds z F (suc T) (routers (suc T))
  next_holds T h =
      same_holds z F P (suc T) (step_routers z (wire T) (routers T)) (routers (suc T)) (runs.next T)
      (step_holds z H F P clash T (wire T) (emits T) (routers T) h)

  -- before every cycle the routers hold the flights' words, and nothing else
  pub run_holds : (T : ℕ) → Holds z F T (routers T)
  run_holds zero = empty_holds z F (routers 0) runs.first
  run_holds (suc T) = next_holds T (run_holds T)

module _ (z : List ℕ) (F : Flights) (P : Paths z F) (T : ℕ) (r : Routers) (h : Holds z F T r) where
  -- each word comes to the memory output of its last router
  pub lands : (f : F.Id) (k j : ℕ) → suc k ≡ F.routers f → InStage F T out_stage f k j
      → r.out (F.node f k) memory_output ≡ word_at F f (suc k) j
  lands f k j last s = rw (← (P.last_output f k last)) (h.out_word_is f k j s)

  -- and nothing else does
  pub lands_only : (node : ℕ) → node < nodes z → is_full (r.out node memory_output) ≡ true
      → (w : Found F T out_stage F.output node memory_output) × (suc w.router ≡ F.routers w.flight)
  lands_only node n e =
      let w = h.out_only node memory_output n (omega arith) e in
      (w, ends_here z F P w.flight w.router w.in_stage.on_way w.at_port)
