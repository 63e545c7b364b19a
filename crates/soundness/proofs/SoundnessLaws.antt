-- The tests of a sound state, from the registers that were read and the tests that were taken.
-- Assumes nothing.
use Prim.Native.Nat.{ℕ, ◌*◌, ◌%◌, ◌<◌, ◌≤◌}
use mathlib.Core.Bool.{Bool, true, false, not}
use mathlib.Core.List.{List}
use mathlib.Core.Path.{◌≡◌, refl, sym, ◌∙◌, ap}
use native.Mathlib.Omega.{arith}
use Rattle.words.specs.Tests.{all, ◌and◌, ◌or◌, ◌≤?◌, ◌=?◌}
use Rattle.words.specs.Words.{word}
use Rattle.words.proofs.TestLaws.{and_no, and_on, and_both, and_left, and_right, or_yes, or_on, yes≤, no≤, yes=, no=, yes≠, is=}
use Rattle.words.proofs.AllLaws.{all_of}
use Rattle.packet.specs.Header.{data_kind}
use Rattle.torus.specs.Torus.{is_vertical}
use Rattle.sheet.specs.declared.circuits.Circuit.{Circuit}
use Rattle.sheet.specs.Sheet.{is_long, circuits, nodes, circuit_at}
use Rattle.sheet.specs.Rules.{verdict}
use Rattle.network.specs.Cycle.{has_extra}
use Rattle.network.specs.Registers.{reg, sheet_length, sheet_in, link_mark}
use Rattle.network.specs.Registers.{head_mark, out_mark, latch_row, left_row, read_row, write_row, kind_row, to_go_row}
use Rattle.network.specs.Registers.{moving_words, sheet_words, extra_mark, extra_word}
use Rattle.network.proofs.ExtraLaws.{extra_long, extra_short, extra_level}
use Rattle.soundness.specs.Sound.{sheet_sound, clock_sound, order_sound, kind_travels, lies_in, kind_allowed, interrupt_single, to_go_within, transfer_sound, cell_sound, router_sound, extra_sound, node_sound, sound}

-- a place of a router
module _ (s : List ℕ) (k : ℕ) where
  cell_empty : (mark w : ℕ) → (mark =? 0) ≡ true → cell_sound mark w ≡ true
  unfolding cell_sound
  cell_empty mark w e = let none : mark ≡ 0 = is= mark 0 e in and_both (yes≤ (omega arith)) (sym (or_yes _ (yes≠ (λ h. omega arith))))

  -- no cell is there, so that the latch decides
  pub router_idle : (latch : ℕ) {v : Bool} → v ≡ (reg s link_mark k =? 0 and reg s head_mark k =? 0 and reg s out_mark k =? 0) → v ≡ true
      → latch ≡ reg s latch_row k → (latch ≤? 5) ≡ router_sound s k
  unfolding router_sound
  router_idle latch idle t e =
      let marks : (reg s link_mark k =? 0 and reg s head_mark k =? 0 and reg s out_mark k =? 0) ≡ true = sym idle ∙ t in
      let link : (reg s link_mark k =? 0) ≡ true = and_left _ _ marks in
      let head : (reg s head_mark k =? 0) ≡ true = and_left _ _ (and_right _ _ marks) in
      let out : (reg s out_mark k =? 0) ≡ true = and_right _ _ (and_right _ _ marks) in
      and_on (cell_empty _ _ link)
      (and_on (cell_empty _ _ head)
      (and_on (cell_empty _ _ out) (and_on (sym (or_yes _ head)) (ap (λ (x : ℕ). x ≤? 5) e))))

-- the extra registers of the links: one that is not there is not tested
module _ (s : List ℕ) where
  extra_absent : (k : ℕ) → has_extra (sheet_in s) (k % 5) ≡ false → extra_sound s k ≡ true
  unfolding extra_sound
  extra_absent k e = sym (or_yes _ (ap not e))

  pub extras_short : (n : ℕ) → is_long (sheet_in s) ≡ false → true ≡ all n (extra_sound s)
  extras_short n e = sym (all_of n (extra_sound s) (λ k l. extra_absent k (extra_short (sheet_in s) (k % 5) e)))

  module _ (k : ℕ) {vertical : Bool} (e : vertical ≡ is_vertical (k % 5)) where
    pub extra_beside : vertical ≡ false → true ≡ extra_sound s k
    extra_beside n = sym (extra_absent k (extra_level (sheet_in s) (k % 5) (sym e ∙ n)))

    pub extra_there : {v : Bool} → is_long (sheet_in s) ≡ true → vertical ≡ true → v ≡ cell_sound (reg s extra_mark k) (reg s extra_word k)
        → v ≡ extra_sound s k
    unfolding extra_sound
    extra_there l y r = or_on (ap not (extra_long (sheet_in s) (k % 5) l ∙ sym e ∙ y)) r

-- the rest of a transfer that has words left, in the order in which code tests it
abbrev pub rest_sound : Circuit → ℕ → ℕ → ℕ → ℕ → Bool
rest_sound circuit kind read write left =
    kind_travels kind
    and (kind =? data_kind or left ≤? 1)
    and lies_in circuit.read read left
    and lies_in circuit.receive write left

inside_first : (kind single read receive : Bool) → (kind and single and read and receive) ≡ (read and receive) and kind and single
unfolding ◌and◌
inside_first true true true true = refl
inside_first true true true false = refl
inside_first true true false receive = refl
inside_first true false true true = refl
inside_first true false true false = refl
inside_first true false false receive = refl
inside_first false single true true = refl
inside_first false single true false = refl
inside_first false single false receive = refl

-- a circuit's transfer: what is tested first in code stands last in the definition
last_first : (a b : Bool) → b and a ≡ a and b
unfolding ◌and◌
last_first true true = refl
last_first true false = refl
last_first false true = refl
last_first false false = refl

pub transfer_is : (s : List ℕ) (c : ℕ) → transfer_sound s c
    ≡ (reg s to_go_row c ≤? reg s left_row c
    and (reg s left_row c =? 0 or rest_sound (circuit_at (sheet_in s) c) (reg s kind_row c) (reg s read_row c) (reg s write_row c) (reg s left_row c)))
unfolding transfer_sound
transfer_is s c =
    sym (last_first _ _
    ∙ ap (λ (t : Bool). (reg s left_row c =? 0 or t) and to_go_within s c) (inside_first (kind_allowed s c) (interrupt_single s c) _ _))

-- a state's sheet with its stored length, and what is tested behind it
module _ (s z : List ℕ) (own : z ≡ sheet_in s) (n : ℕ) (p : n ≡ word s moving_words) where
  length_is : n ≡ sheet_length s
  unfolding sheet_length
  length_is = p

  pub sound_long : sheet_words < n → false ≡ sound s
  unfolding sound sheet_sound
  sound_long l = and_no _ (sym (and_no _ (no≤ (let h : sheet_words < sheet_length s = omega (arith, length_is) in h))))

  module _ (l : n ≤ sheet_words) where
    fits : (sheet_length s ≤? sheet_words) ≡ true
    fits = yes≤ (let h : sheet_length s ≤ sheet_words = omega (arith, length_is) in h)

    pub sound_refused : (verdict z ≡ 0 → ⊥) → false ≡ sound s
    unfolding sound sheet_sound
    sound_refused ne = and_no _ (sym (and_on fits (sym (no= (λ h. ne (ap verdict own ∙ h))))))

    pub sound_is : verdict z ≡ 0 → sound s
        ≡ (clock_sound s
        and order_sound s
        and all (circuits (sheet_in s)) (transfer_sound s)
        and all (nodes (sheet_in s) * 5) (router_sound s)
        and all (nodes (sheet_in s) * 5) (extra_sound s)
        and all (nodes (sheet_in s)) (node_sound s))
    unfolding sound sheet_sound
    sound_is e = sym (and_on (and_both fits (yes= (sym (ap verdict own) ∙ e))) refl)
