-- What a state's wires say of packets on their way: a header in a register leads to its packet's destination, one that has left is in some
-- register until it has come to its memory, and then its receive unit says that a packet is arriving, up to the packet's last word.
-- Assumes nothing.
use Prim.Native.Nat.{ℕ, zero, suc, ◌+◌, ◌-◌, ◌≤◌, ◌<◌}
use mathlib.Core.Bool.{Bool, true, false, false≢true}
use mathlib.Core.List.{List}
use mathlib.Core.Path.{◌≡◌, refl, sym, ◌∙◌, ap}
use native.Mathlib.Omega.{arith}
use native.Mathlib.Decide.{dec_lt}
use Rattle.packet.specs.Header.{shifted_word}
use Rattle.torus.specs.Torus.{opposite_of}
use Rattle.torus.specs.Route.{link_cycles}
use Rattle.sheet.specs.Sheet.{is_long}
use Rattle.torus.proofs.TravelLaws.{hop_is}
use Rattle.network.specs.View.{Cell, empty, header, payload, Choice, no_output, to_output}
use Rattle.network.specs.Cycle.{output_for}
use Rattle.network.specs.Seen.{seen_cell, seen_choice}
use Rattle.network.specs.Inbound.{bound_for}
use Rattle.network.proofs.BoundLaws.{bound_memory, bound_side}
use Rattle.isolation.proofs.Flights.Flight.{Flights, word_at, Paths, out_stage, InStage}

-- a header's cell, and a choice, as a state's words have them
abbrev is_header : Cell → Bool
is_header empty = false
is_header (header word) = true
is_header (payload word last) = false

abbrev header_in : Cell → ℕ
header_in empty = 0
header_in (header word) = word
header_in (payload word last) = 0

pub header_mark : (mark w word : ℕ) → seen_cell mark w ≡ header word → (mark ≡ 1) × (w ≡ word)
header_mark zero w word e = absurd (false≢true (ap is_header e))
header_mark (suc zero) w word e = (refl, ap header_in e)
header_mark (suc (suc zero)) w word e = absurd (false≢true (ap is_header e))
header_mark (suc (suc (suc mark))) w word e = absurd (false≢true (ap is_header e))

abbrev output_in : Choice → ℕ
output_in no_output = 0
output_in (to_output output) = suc output

pub chosen : (c output : ℕ) → seen_choice c ≡ to_output output → c ≡ output + 1
chosen zero output e = omega (arith, ap output_in e)
chosen (suc c) output e = omega (arith, ap output_in e)

module _ (z : List ℕ) (F : Flights) (P : Paths z F) where
  -- the header of a packet is its word 0
  pub word_header : (f : F.Id) (k j word : ℕ) → word_at F f k j ≡ header word → (j ≡ 0) × (F.header_at f k ≡ word)
  word_header f k zero word e = (refl, ap header_in e)
  word_header f k (suc j) word e = absurd (false≢true (ap is_header e))

  -- from router k on, n routers before the last, it leads to the last node
  pub bound_on : (n : ℕ) (f : F.Id) (k last further : ℕ) → k + n ≡ last → suc last ≡ F.routers f → n ≤ further
      → bound_for further z (F.node f k) (F.output f k) (F.header_at f (suc k)) ≡ F.node f last + 1
  bound_on zero f k last further e r l =
      let same : k ≡ last = omega arith in
      bound_memory z (F.node f k) (F.output f k) (F.header_at f (suc k)) further (P.last_output f k (omega arith))
      ∙ ap (λ i. F.node f i + 1) same
  bound_on (suc n) f k last zero e r l = absurd (omega arith)
  bound_on (suc n) f k last (suc further) e r l =
      let more : suc k < F.routers f = omega arith in
      let w : ℕ = F.header_at f (suc k) in
      let by : output_for (opposite_of (F.output f k)) w ≡ F.output f (suc k) =
      ap (λ i. output_for i w) (sym (P.next_input f k more)) ∙ P.asked_output f (suc k) more in
      bound_side z (F.node f k) (F.output f k) w further (λ e. omega (arith, P.side_output f k more))
      ∙ ap (λ i. bound_for further z i (output_for (opposite_of (F.output f k)) w) (shifted_word w)) (sym (P.next_node f k more))
      ∙ ap (λ o. bound_for further z (F.node f (suc k)) o (shifted_word w)) by
      ∙ ap (bound_for further z (F.node f (suc k)) (F.output f (suc k))) (sym (P.next_header f (suc k)))
      ∙ bound_on n f (suc k) last further (omega arith) r (omega arith)

  -- a header that has left its source and not yet come past its memory output, in a stage of a router or of the link behind it
  pub record HeaderIn (T : ℕ) (f : F.Id) : Type 0 where
    pub router : ℕ
    pub stage : ℕ
    pub low : 1 ≤ stage
    pub high : stage ≤ out_stage + link_cycles (is_long z) (F.output f router)
    pub in_stage : InStage F T stage f router 0

  pub header_somewhere : (T : ℕ) (f : F.Id) (k : ℕ) → k < F.routers f → F.start f < T → T ≤ F.start f + F.delay f k + out_stage
      → HeaderIn T f
  header_somewhere T f zero l begun before =
      let first = P.first_delay f in
      record {
        router = 0;
        stage = T - F.start f;
        low = omega arith;
        high = omega arith;
        in_stage = record { on_way = l; in_packet = omega arith; time = omega arith };
      }
  header_somewhere T f (suc k) l begun before =
      go (dec_lt (F.start f + F.delay f k + out_stage) T) (dec_lt (F.start f + F.delay f (suc k)) T)
      (header_somewhere T f k (omega arith) begun)
    where
      go : Dec (F.start f + F.delay f k + out_stage < T) → Dec (F.start f + F.delay f (suc k) < T)
          → (T ≤ F.start f + F.delay f k + out_stage → HeaderIn T f) → HeaderIn T f
      go (yes past) (yes arrived) earlier = record {
        router = suc k;
        stage = T - (F.start f + F.delay f (suc k));
        low = omega arith;
        high = omega arith;
        in_stage = record { on_way = l; in_packet = omega arith; time = omega arith };
      }
      go (yes past) (no on-link) earlier =
          let next = P.next_delay f k in
          let hop = hop_is (is_long z) (F.output f k) in
          record {
            router = k;
            stage = T - (F.start f + F.delay f k);
            low = omega arith;
            high = omega (arith, on-link);
            in_stage = record { on_way = omega arith; in_packet = omega arith; time = omega arith };
          }
      go (no not-past) d earlier = earlier (omega (arith, not-past))
