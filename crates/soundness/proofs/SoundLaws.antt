-- A sound state in facts: each clause at each index, as records with named fields; and back from the facts to the test.
-- Assumes nothing.
use Prim.Native.Nat.{ℕ, ◌+◌, ◌*◌, ◌%◌, ◌≤◌, ◌<◌}
use mathlib.Core.Bool.{Bool, true, false, not, false≢true}
use mathlib.Core.List.{List}
use mathlib.Core.Path.{◌≡◌, refl, sym, ◌∙◌, subst}
use native.Mathlib.Omega.{arith}
use native.Mathlib.Decide.{ℕ_discrete}
use Rattle.words.specs.Tests.{◌and◌, ◌or◌, ◌=?◌, ◌≠?◌}
use Rattle.words.proofs.TestLaws.{and_left, and_right, and_both, or_yes, or_skip, or_cases, is≤, is<, is=, yes≤, yes<, yes=, yes≠, no≠}
use Rattle.words.proofs.AllLaws.{all_at, all_of}
use Rattle.packet.specs.Header.{data_kind, interrupt_kind, kinds, kind_of}
use Rattle.sheet.specs.declared.circuits.Region.{Region}
use Rattle.sheet.specs.declared.circuits.Circuit.{Circuit}
use Rattle.sheet.specs.Sheet.{circuits, schedules, nodes, circuit_at, period}
use Rattle.sheet.specs.Rules.{verdict}
use Rattle.network.specs.View.{Sender}
use Rattle.network.specs.Cycle.{has_extra}
use Rattle.network.specs.Registers.{reg, sheet_length, sheet_in, sheet_words, clock_row, cycle_place, in_force_place, order_mark_place, order_schedule_place}
use Rattle.network.specs.Registers.{link_mark, link_word, head_mark, head_word, choice_row, latch_row, out_mark, out_word, receive_mark, receive_kind}
use Rattle.network.specs.Registers.{landing_mark, left_row, kind_row, extra_mark, extra_word}
use Rattle.network.specs.Seen.{seen_sender}
use Rattle.soundness.specs.Sound.{sheet_sound, clock_sound, order_sound, kind_travels, lies_in, rest_inside, kind_allowed, interrupt_single, transfer_sound, cell_sound, router_sound, extra_sound, node_sound, sound}

-- so many words from an address on lie in a region, in numbers
pub record Lies (r : Region) (address count : ℕ) : Type 0 where
  pub low : r.offset ≤ address
  pub high : address + count ≤ r.offset + r.size

pub lies : (r : Region) (address count : ℕ) → lies_in r address count ≡ true → Lies r address count
unfolding lies_in
lies r address count e = record { low = is≤ _ _ (and_left _ _ e); high = is≤ _ _ (and_right _ _ e) }

-- what is tested only beside a mark, or a count, that is not 0
pub beside : (x : ℕ) {b : Bool} → x =? 0 or b ≡ true → 1 ≤ x → b ≡ true
beside x {b} e l = or_cases (x =? 0) b e (λ h. absurd (omega (arith, is= x 0 h))) (λ h. h)

beside_test : (x : ℕ) {b : Bool} → (1 ≤ x → b ≡ true) → x =? 0 or b ≡ true
beside_test x {b} h = go (ℕ_discrete x 0)
  where
    go : Dec (x ≡ 0) → x =? 0 or b ≡ true
    go (yes q) = sym (or_yes b (yes= q))
    go (no q) = sym (or_skip (x =? 0) (sym (h (omega (arith, q)))))

-- what is tested only where a first test holds
given : (a : Bool) {b : Bool} → not a or b ≡ true → a ≡ true → b ≡ true
unfolding ◌or◌
given true e h = e
given false e h = absurd (false≢true h)

given_test : (a : Bool) {b : Bool} → (a ≡ true → b ≡ true) → not a or b ≡ true
unfolding ◌or◌
given_test true h = h refl
given_test false h = refl

-- a kind that travels fits its field
pub travels_small : (kind : ℕ) → kind_travels kind ≡ true → kind < kinds
unfolding kind_travels
travels_small kind e =
    or_cases (kind =? data_kind) (kind =? interrupt_kind) e (λ h. omega (arith, is= kind data_kind h))
    (λ h. omega (arith, is= kind interrupt_kind h))

pub lies_test : {r : Region} {address count : ℕ} → Lies r address count → lies_in r address count ≡ true
unfolding lies_in
lies_test x = and_both (yes≤ x.low) (yes≤ x.high)

-- a cell on a wire
pub record CellParts (mark w : ℕ) : Type 0 where
  pub known : mark ≤ 3
  pub travels : mark ≡ 1 → kind_travels (kind_of w) ≡ true

pub cell_parts : (mark w : ℕ) → cell_sound mark w ≡ true → CellParts mark w
unfolding cell_sound
cell_parts mark w e = record {
  known = is≤ _ _ (and_left _ _ e);
  travels = λ q. or_cases (mark ≠? 1) (kind_travels (kind_of w)) (and_right _ _ e) (λ h. absurd (false≢true (sym (no≠ q) ∙ h))) (λ h. h);
}

pub cell_test : {mark w : ℕ} → CellParts mark w → cell_sound mark w ≡ true
unfolding cell_sound
cell_test {mark} {w} x = and_both (yes≤ x.known) (go (ℕ_discrete mark 1))
  where
    go : Dec (mark ≡ 1) → mark ≠? 1 or kind_travels (kind_of w) ≡ true
    go (yes q) = sym (or_skip (mark ≠? 1) (sym (x.travels q)))
    go (no q) = sym (or_yes _ (yes≠ q))

-- an empty one
pub cell_none : (w : ℕ) → CellParts 0 w
cell_none w = record { known = omega arith; travels = λ q. absurd (omega arith) }

-- a circuit's transfer, as its sender
pub record TransferParts (circuit : Circuit) (x : Sender) : Type 0 where
  pub to_go_at : x.to_go ≤ x.left
  pub travels : 1 ≤ x.left → kind_travels x.kind ≡ true
  pub single : 1 ≤ x.left → 1 ≤ x.kind → x.left ≤ 1
  pub reads : 1 ≤ x.left → Lies circuit.read x.read_address x.left
  pub writes : 1 ≤ x.left → Lies circuit.receive x.write_address x.left

pub transfer_parts : (s : List ℕ) (c : ℕ) → transfer_sound s c ≡ true → TransferParts (circuit_at (sheet_in s) c) (seen_sender s c)
unfolding transfer_sound
transfer_parts s c e = record {
  to_go_at = is≤ _ _ (and_right _ _ e);
  travels = λ l. and_left _ _ (and_right _ _ (rest l));
  single = λ l k. is≤ _ _ (beside (reg s kind_row c) (and_right _ _ (and_right _ _ (rest l))) k);
  reads = λ l. lies _ _ _ (and_left _ _ (and_left _ _ (rest l)));
  writes = λ l. lies _ _ _ (and_right _ _ (and_left _ _ (rest l)));
}
  where
    rest : 1 ≤ reg s left_row c → (rest_inside s c and kind_allowed s c and interrupt_single s c) ≡ true
    rest l = beside (reg s left_row c) (and_left _ _ e) l

pub transfer_test : (s : List ℕ) (c : ℕ) → TransferParts (circuit_at (sheet_in s) c) (seen_sender s c) → transfer_sound s c ≡ true
unfolding transfer_sound
transfer_test s c x =
    and_both
    (beside_test (reg s left_row c)
    (λ l.
    and_both (and_both (lies_test (x.reads l)) (lies_test (x.writes l)))
    (and_both (x.travels l) (beside_test (reg s kind_row c) (λ k. yes≤ (x.single l k))))))
    (yes≤ x.to_go_at)

-- an input's registers, and an output's
pub record RouterParts (s : List ℕ) (k : ℕ) : Type 0 where
  pub link : CellParts (reg s link_mark k) (reg s link_word k)
  pub head : CellParts (reg s head_mark k) (reg s head_word k)
  pub out : CellParts (reg s out_mark k) (reg s out_word k)
  pub choice : 1 ≤ reg s head_mark k → reg s choice_row k ≤ 5
  pub latch : reg s latch_row k ≤ 5

pub router_parts : (s : List ℕ) (k : ℕ) → router_sound s k ≡ true → RouterParts s k
unfolding router_sound
router_parts s k e =
    let e₁ = and_right _ _ e in
    let e₂ = and_right _ _ e₁ in
    let e₃ = and_right _ _ e₂ in
    record {
      link = cell_parts _ _ (and_left _ _ e);
      head = cell_parts _ _ (and_left _ _ e₁);
      out = cell_parts _ _ (and_left _ _ e₂);
      choice = λ l. is≤ _ _ (beside (reg s head_mark k) (and_left _ _ e₃) l);
      latch = is≤ _ _ (and_right _ _ e₃);
    }

pub router_test : (s : List ℕ) (k : ℕ) → RouterParts s k → router_sound s k ≡ true
unfolding router_sound
router_test s k x =
    and_both (cell_test x.link)
    (and_both (cell_test x.head)
    (and_both (cell_test x.out) (and_both (beside_test (reg s head_mark k) (λ l. yes≤ (x.choice l))) (yes≤ x.latch))))

-- the extra register of an output's link, where it has one
pub extra_parts : (s : List ℕ) (k : ℕ) → extra_sound s k ≡ true → has_extra (sheet_in s) (k % 5) ≡ true
    → CellParts (reg s extra_mark k) (reg s extra_word k)
unfolding extra_sound
extra_parts s k e h = cell_parts _ _ (given (has_extra (sheet_in s) (k % 5)) e h)

pub extra_test : (s : List ℕ) (k : ℕ) → (has_extra (sheet_in s) (k % 5) ≡ true → CellParts (reg s extra_mark k) (reg s extra_word k))
    → extra_sound s k ≡ true
unfolding extra_sound
extra_test s k x = given_test (has_extra (sheet_in s) (k % 5)) (λ h. cell_test (x h))

-- a node's receive unit and stored landing
pub record NodeParts (s : List ℕ) (n : ℕ) : Type 0 where
  pub receiving : reg s receive_mark n ≤ 1
  pub travels : 1 ≤ reg s receive_mark n → kind_travels (reg s receive_kind n) ≡ true
  pub landing : reg s landing_mark n ≤ 1

pub node_parts : (s : List ℕ) (n : ℕ) → node_sound s n ≡ true → NodeParts s n
unfolding node_sound
node_parts s n e =
    let e₁ = and_right _ _ e in
    record {
      receiving = is≤ _ _ (and_left _ _ e);
      travels = λ l. beside (reg s receive_mark n) (and_left _ _ e₁) l;
      landing = is≤ _ _ (and_right _ _ e₁);
    }

pub node_test : (s : List ℕ) (n : ℕ) → NodeParts s n → node_sound s n ≡ true
unfolding node_sound
node_test s n x = and_both (yes≤ x.receiving) (and_both (beside_test (reg s receive_mark n) x.travels) (yes≤ x.landing))

-- a sound state on the sheet z: the sheet, the clock, the order, and the parts of each circuit, router register, extra register and node
pub record SoundParts (z s : List ℕ) : Type 0 where
  pub sheet_fits : sheet_length s ≤ sheet_words
  pub sheet_passes : verdict z ≡ 0
  pub schedule_inside : reg s clock_row in_force_place < schedules z
  pub cycle_inside : reg s clock_row cycle_place < period z (reg s clock_row in_force_place)
  pub order_known : reg s clock_row order_mark_place ≤ 1
  pub order_inside : 1 ≤ reg s clock_row order_mark_place → reg s clock_row order_schedule_place < schedules z
  pub transfers : (c : ℕ) → c < circuits z → TransferParts (circuit_at z c) (seen_sender s c)
  pub routers : (k : ℕ) → k < nodes z * 5 → RouterParts s k
  pub extras : (k : ℕ) → k < nodes z * 5 → has_extra z (k % 5) ≡ true → CellParts (reg s extra_mark k) (reg s extra_word k)
  pub units : (n : ℕ) → n < nodes z → NodeParts s n

pub sound_parts : (s : List ℕ) → sound s ≡ true → SoundParts (sheet_in s) s
unfolding sound sheet_sound clock_sound order_sound
sound_parts s e =
    let e₁ = and_right _ _ e in
    let e₂ = and_right _ _ e₁ in
    let e₃ = and_right _ _ e₂ in
    let e₄ = and_right _ _ e₃ in
    let e₅ = and_right _ _ e₄ in
    let sheet = and_left _ _ e in
    let clock = and_left _ _ e₁ in
    let order = and_left _ _ e₂ in
    record {
      sheet_fits = is≤ _ _ (and_left _ _ sheet);
      sheet_passes = is= _ _ (and_right _ _ sheet);
      schedule_inside = is< _ _ (and_left _ _ clock);
      cycle_inside = is< _ _ (and_right _ _ clock);
      order_known = is≤ _ _ (and_left _ _ order);
      order_inside = λ l. is< _ _ (beside (reg s clock_row order_mark_place) (and_right _ _ order) l);
      transfers = λ c l. transfer_parts s c (all_at (transfer_sound s) (circuits (sheet_in s)) (and_left _ _ e₃) c l);
      routers = λ k l. router_parts s k (all_at (router_sound s) (nodes (sheet_in s) * 5) (and_left _ _ e₄) k l);
      extras = λ k l. extra_parts s k (all_at (extra_sound s) (nodes (sheet_in s) * 5) (and_left _ _ e₅) k l);
      units = λ n l. node_parts s n (all_at (node_sound s) (nodes (sheet_in s)) (and_right _ _ e₅) n l);
    }

-- and back
pub sound_test : (s : List ℕ) → SoundParts (sheet_in s) s → sound s ≡ true
unfolding sound sheet_sound clock_sound order_sound
sound_test s x =
    and_both (and_both (yes≤ x.sheet_fits) (yes= x.sheet_passes))
    (and_both (and_both (yes< x.schedule_inside) (yes< x.cycle_inside))
    (and_both (and_both (yes≤ x.order_known) (beside_test (reg s clock_row order_mark_place) (λ l. yes< (x.order_inside l))))
    (and_both (all_of (circuits (sheet_in s)) (transfer_sound s) (λ c l. transfer_test s c (x.transfers c l)))
    (and_both (all_of (nodes (sheet_in s) * 5) (router_sound s) (λ k l. router_test s k (x.routers k l)))
    (and_both (all_of (nodes (sheet_in s) * 5) (extra_sound s) (λ k l. extra_test s k (x.extras k l)))
    (all_of (nodes (sheet_in s)) (node_sound s) (λ n l. node_test s n (x.units n l))))))))

-- the same where the state's sheet is z
pub sound_on : (z s : List ℕ) → sheet_in s ≡ z → SoundParts z s → sound s ≡ true
sound_on z s e x = sound_test s (subst (λ y. SoundParts y s) (sym e) x)
