-- The words that the senders put on the source wires, from the registers, the header and the memory word that were read.
-- Assumes nothing.
use Prim.Native.Nat.{ℕ, ◌+◌, ◌*◌, ◌<◌, ◌≤◌}
use mathlib.Core.Bool.{Bool, true, false}
use mathlib.Core.List.{List}
use mathlib.Core.Path.{◌≡◌, sym, ◌∙◌, ap}
use native.Mathlib.Omega.{arith}
use Rattle.std.specs.declared.result.Result.{Result}
use Rattle.std.specs.declared.result.Result.TheVariants.{Ok, Err}
use Rattle.words.specs.Tests.{◌≤?◌}
use Rattle.words.specs.Words.{word, pick}
use Rattle.words.proofs.TestLaws.{and_left, is≤, yes≤, no≤}
use Rattle.refusal.specs.declared.Refusal.{Refusal}
use Rattle.refusal.specs.Numbers.{refusal_number, numbered}
use Rattle.packet.specs.declared.Header.{Header}
use Rattle.packet.specs.Header.{header_word, header_number, built_of}
use Rattle.packet.proofs.HeaderLaws.{Fits, all_fit}
use Rattle.sheet.specs.declared.circuits.Circuit.{Circuit}
use Rattle.sheet.specs.Sheet.{circuits, memory_words, circuit_at}
use Rattle.sheet.specs.Slots.{slot_route, source_of}
use Rattle.network.specs.Cycle.{Move, rests, sends}
use Rattle.network.specs.Registers.{reg, sheet_in, room, clock_row, cycle_place, in_force_place, left_row, read_row, write_row, kind_row, to_go_row}
use Rattle.network.specs.Inner.Machine.{word_of, sent_word}
use Rattle.network.specs.Inner.Paired.{Paired, Sendable}
use Rattle.network.proofs.SlotLaws.{route_small}
use Rattle.sources.specs.Inner.Acting.{opens_in}
use Rattle.sources.proofs.SourceLaws.{moves_open, moves_on, source_read}

-- the header of a circuit's packet, and the memory word that it reads
abbrev pub head_in : List ℕ → ℕ → ℕ
head_in s c =
    header_word (reg s kind_row c) (reg s write_row c)
    (slot_route (sheet_in s) (reg s clock_row in_force_place) (reg s clock_row cycle_place) c)

abbrev pub read_in : List ℕ → List ℕ → ℕ → ℕ
read_in s m c = word m (source_of (sheet_in s) c * room s + reg s read_row c)

-- the numbers that a header is built from
pub record Parts (s : List ℕ) (c kind address route : ℕ) : Type 0 where
  pub kind_read : kind ≡ reg s kind_row c
  pub address_read : address ≡ reg s write_row c
  pub route_read : route ≡ slot_route (sheet_in s) (reg s clock_row in_force_place) (reg s clock_row cycle_place) c

pub parts : (s : List ℕ) (c kind address route : ℕ) → kind ≡ reg s kind_row c → address ≡ reg s write_row c
    → route ≡ slot_route (sheet_in s) (reg s clock_row in_force_place) (reg s clock_row cycle_place) c → Parts s c kind address route
parts s c kind address route k w e = record { kind_read = k; address_read = w; route_read = e }

module _ (s z : List ℕ) (g : Sendable s z) (c : ℕ) (inside : c < circuits z) (some : 1 ≤ reg s left_row c) where
  module _ (kind address route : ℕ) (p : Parts s c kind address route) where
    fits : Fits kind address route
    fits =
        let low = route_small z g.ranged _ g.paired.in_force (reg s clock_row cycle_place) c in
        let same = ap (λ (l : List ℕ). slot_route l (reg s clock_row in_force_place) (reg s clock_row cycle_place) c) g.paired.own in
        let k = g.kind_fits c inside some in
        let a = g.address_fits c inside some in
        record { kind_fits = omega arith; address_fits = omega arith; route_fits = omega (arith, same, p.route_read) }

    module _ (b : Result Header Refusal) (e : numbered b ≡ built_of (header_number kind address route) (header_word kind address route)) where
      made : numbered b ≡ Ok (record { 0 = header_word kind address route })
      made = e ∙ sym (all_fit kind address route fits)

      pub header_refused : (n : Refusal) → b ≡ Err n → ⊥
      header_refused n q =
          let none : ◌≡◌ {A = Result Header ℕ} (Err (refusal_number n)) (Ok (record { 0 = header_word kind address route })) = ap numbered (sym q) ∙ made in
          cc

-- the memory word that was read
pub read_is : (s z m : List ℕ) → Paired s z → (c : ℕ) (x : Circuit) (r a v : ℕ) → x ≡ circuit_at z c → r ≡ memory_words z
    → a ≡ reg s read_row c → v ≡ word m (x.read.node * r + a) → v ≡ read_in s m c
read_is s z m g c x r a v e f h q =
    q ∙ ap (λ (n : ℕ). word m (n * r + a)) (source_read s z g c x e)
    ∙ ap (λ (n : ℕ). word m (source_of (sheet_in s) c * n + a)) (f ∙ ap memory_words g.own)
    ∙ ap (λ (n : ℕ). word m (source_of (sheet_in s) c * room s + n)) h

-- the word of a circuit, by whether it opens a packet and by the words that are to go
module _ (s : List ℕ) (c : ℕ) (o : Bool) (e : o ≡ opens_in s c) where
  pub opens_left : o ≡ true → 1 ≤ reg s left_row c
  opens_left t = is≤ _ _ (and_left _ _ (sym e ∙ t))

  module _ (m : List ℕ) where
    pub word_opens : (v : ℕ) → v ≡ head_in s c → o ≡ true → v ≡ sent_word s m c
    unfolding sent_word
    word_opens v q t = q ∙ ap (λ (x : Move). word_of x (head_in s c) (read_in s m c)) (sym (moves_open s c o e t))

    module _ (t : o ≡ false) (to_go : ℕ) (q : to_go ≡ reg s to_go_row c) where
      word_by : (b : Bool) → (1 ≤? reg s to_go_row c) ≡ b → word_of (pick b sends rests) (head_in s c) (read_in s m c) ≡ sent_word s m c
      unfolding sent_word
      word_by b f =
          ap (λ (x : Move). word_of x (head_in s c) (read_in s m c))
          (sym (moves_on s c o e t ∙ ap (λ (y : Bool). pick y sends rests) f))

      pub word_rests : to_go ≡ 0 → 0 ≡ sent_word s m c
      word_rests h = word_by false (no≤ (let l : reg s to_go_row c < 1 = omega arith in l))

      pub word_sends : (v : ℕ) → v ≡ read_in s m c → (to_go ≡ 0 → ⊥) → v ≡ sent_word s m c
      word_sends v r ne = r ∙ word_by true (yes≤ (let l : 1 ≤ reg s to_go_row c = omega (arith, ne) in l))
