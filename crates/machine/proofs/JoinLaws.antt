-- The stages of a cycle, each on the words that the one before it left, are together the cycle.
-- Assumes nothing.
use Prim.Native.Nat.{ℕ, ◌*◌, ◌/◌, ◌%◌, ◌≤◌, ◌<◌}
use mathlib.Core.Bool.{Bool, false}
use mathlib.Core.Path.{◌≡◌, refl, sym, ◌∙◌, ap, ap₂, subst}
use mathlib.Core.List.{List, []}
use native.Mathlib.Omega.{arith}
use native.Mathlib.Decide.{dec_lt}
use native.Mathlib.Nat.{div-lt_iff_lt-mul}
use lib.ListN.{length, drop}
use Rattle.words.specs.Tests.{any, ◌=?◌}
use Rattle.words.specs.Words.{word, pick}
use Rattle.words.proofs.TestLaws.{yes<}
use Rattle.words.proofs.WordLaws.{length_tab, tab_at, tab_is}
use Rattle.torus.specs.Torus.{neighbour_of, opposite_of}
use Rattle.torus.proofs.NeighbourLaws.{neighbour_inside, opposite_side}
use Rattle.sheet.specs.Sheet.{columns, rows, is_long, memory_words, circuits, schedules, nodes, period}
use Rattle.sheet.specs.Inner.Passed.{Headed, Framed}
use Rattle.sheet.specs.Slots.{slot_length}
use Rattle.sheet.proofs.PassedLaws.{nodes_few, in_grid}
use Rattle.network.specs.View.{Sender}
use Rattle.network.specs.Cycle.{has_extra, move, step_sender}
use Rattle.network.specs.Registers.{reg, sheet_in, room, moving_words, clock_row, cycle_place, in_force_place}
use Rattle.network.specs.Registers.{link_mark, link_word, out_mark, out_word, receive_mark, receive_kind}
use Rattle.network.specs.Registers.{receive_address, left_row, read_row, write_row, kind_row, to_go_row, at, row_count, row_words, clock_words, head_mark}
use Rattle.network.specs.Registers.{head_word, choice_row, latch_row, landing_mark, landing_kind, landing_address, landing_word, extra_mark, extra_word}
use Rattle.network.specs.Seen.{seen_sender}
use Rattle.network.specs.Inner.Machine.{end_mark, end_word, neighbour_place, next_extra_mark, next_extra_word, slot_in, next_sender, source_mark, source_word, next_link_mark, next_link_word, next_out_mark}
use Rattle.network.specs.Inner.Machine.{next_out_word, memory_mark, memory_word, next_receive_mark, next_receive_kind, next_receive_address, next_landing_mark}
use Rattle.network.specs.Inner.Machine.{memory_after, strays_in, next_clock, row_in, next_rows, next_in_row, next_state, next_memory}
use Rattle.network.specs.Inner.Stages.{stage, link_from, out_from}
use Rattle.network.proofs.RowCases.{Each, that_is_all, ◌also◌, found_number, by_row, clock_extent, router_extent, node_extent, circuit_extent, extra_extent}
use Rattle.network.proofs.RowLaws.{next_row, next_off, next_rest, sender_same, clock_same}
use Rattle.network.proofs.ExtraLaws.{end_low, end_high, end_behind}
use Rattle.network.proofs.StepLaws.{state_length}
use Rattle.network.proofs.FillLaws.{same_words, off, here, stage_length, stage_rest, stage_sheet}
use Rattle.sources.specs.Inner.Slots.{slot_table}
use Rattle.sources.specs.Inner.Steps.{Sending, Steppable}
use Rattle.receivers.specs.Inner.Required.{Receivable, Clocked}
use Rattle.receivers.proofs.StrayLaws.{none_strays}
use Rattle.tables.specs.Inner.Ready.{Ready}
use Rattle.tables.specs.Inner.Tables.{Tables}

-- The words s and m as the cycle begins, the tables made from them, and the words after each stage: the header stage, the links, the
-- receive units, the extra registers, the outputs, the senders and the clock.
module _ (s m slots source_marks source_words out_marks out_words : List ℕ)
    (T : Tables s m slots source_marks source_words out_marks out_words) (R : Ready s m) where
  abbrev places : ℕ
  places = nodes (sheet_in s) * 5

  long : moving_words ≤ length s
  long = R.steppable.long

  H : Headed (sheet_in s)
  H = R.steppable.framed.headed

  pub few : nodes (sheet_in s) ≤ 16
  few = nodes_few (sheet_in s) H

  pub few_circuits : circuits (sheet_in s) ≤ 64
  few_circuits = H.circuits_high

  module _ (headed : List ℕ) (by_heads : headed ≡ stage head_mark latch_row places (next_in_row s []) s) where
    pub headed_off : (row k : ℕ) → row < row_count → k < row_words → (head_mark ≤ row → row ≤ latch_row → k < places → ⊥) → reg headed row k ≡ reg s row k
    headed_off row k rl kl h = off head_mark latch_row places (next_in_row s []) s headed by_heads row k rl kl h

    pub headed_sheet : sheet_in headed ≡ sheet_in s
    headed_sheet = ap sheet_in by_heads ∙ stage_sheet head_mark latch_row places (next_in_row s []) s

    headed_length : length headed ≡ length s
    headed_length = ap length by_heads ∙ stage_length head_mark latch_row places (next_in_row s []) s long

    -- what the links require
    pub headed_ready : (Headed (sheet_in headed)) × (moving_words ≤ length headed)
    headed_ready = (subst Headed (sym headed_sheet) H, omega (arith, headed_length, long))

    -- the link registers
    module _ (k : ℕ) (l : k < places) where
      node_small : k / 5 < nodes (sheet_in s)
      node_small = omega arith

      place_small : neighbour_place s (k / 5) (k % 5) < row_words
      place_small = omega (arith, neighbour_inside (in_grid (sheet_in s) H (k / 5) node_small) (k % 5), opposite_side (k % 5), few)

      neighbour_same : neighbour_place headed (k / 5) (k % 5) ≡ neighbour_place s (k / 5) (k % 5)
      neighbour_same =
          ap (λ (z : List ℕ). at (neighbour_of (columns z) (rows z) (k / 5) (k % 5)) (opposite_of (k % 5))) headed_sheet

      out_same : (row : ℕ) → out_mark ≤ row → row ≤ extra_word
          → reg headed row (neighbour_place headed (k / 5) (k % 5)) ≡ reg s row (neighbour_place s (k / 5) (k % 5))
      out_same row a b =
          ap (reg headed row) neighbour_same
          ∙ headed_off row (neighbour_place s (k / 5) (k % 5)) (omega arith) place_small (λ x y z. omega arith)

      link_mark_is : link_from source_marks source_words headed link_mark k ≡ next_link_mark s (k / 5) (k % 5)
      unfolding link_from next_link_mark ◌=?◌
      link_mark_is =
          ap₂ (λ a b. pick (k % 5 =? 4) a b)
          (ap (λ (x : List ℕ). word x (k / 5)) T.source_mark_is
          ∙ tab_at 16 (source_mark s) (k / 5) (omega (arith, node_small, few)))
          (ap (λ (z : List ℕ). reg headed (pick (has_extra z (opposite_of (k % 5))) extra_mark out_mark) (neighbour_place headed (k / 5) (k % 5))) headed_sheet
          ∙ out_same (end_mark s (opposite_of (k % 5))) (omega (arith, end_low s (opposite_of (k % 5))))
          (omega (arith, end_high s (opposite_of (k % 5)))))

      link_word_is : link_from source_marks source_words headed link_word k ≡ next_link_word s m (k / 5) (k % 5)
      unfolding link_from next_link_word ◌=?◌
      link_word_is =
          ap₂ (λ a b. pick (k % 5 =? 4) a b)
          (ap (λ (x : List ℕ). word x (k / 5)) T.source_word_is
          ∙ tab_at 16 (source_word s m) (k / 5) (omega (arith, node_small, few)))
          (ap (λ (z : List ℕ). reg headed (pick (has_extra z (opposite_of (k % 5))) extra_word out_word) (neighbour_place headed (k / 5) (k % 5))) headed_sheet
          ∙ out_same (end_word s (opposite_of (k % 5))) (omega (arith, end_low s (opposite_of (k % 5)), end_behind s (opposite_of (k % 5))))
          (omega (arith, end_high s (opposite_of (k % 5)), end_behind s (opposite_of (k % 5)))))

      -- the out registers
      pub out_mark_is : out_from out_marks out_words out_mark k ≡ next_out_mark s (k / 5) (k % 5)
      unfolding out_from ◌=?◌
      out_mark_is =
          ap (λ (x : List ℕ). word x k) T.out_mark_is ∙ tab_at row_words _ k (omega (arith, few))
          ∙ ap (λ (t : Bool). pick t (next_out_mark s (k / 5) (k % 5)) 0) (yes< l)

      pub out_word_is : out_from out_marks out_words out_word k ≡ next_out_word s (k / 5) (k % 5)
      unfolding out_from ◌=?◌
      out_word_is =
          ap (λ (x : List ℕ). word x k) T.out_word_is ∙ tab_at row_words _ k (omega (arith, few))
          ∙ ap (λ (t : Bool). pick t (next_out_word s (k / 5) (k % 5)) 0) (yes< l)

    module _ (linked : List ℕ) (by-links : linked ≡ stage link_mark link_word (nodes (sheet_in headed) * 5) (link_from source_marks source_words headed) headed) where
      link_places : nodes (sheet_in headed) * 5 ≡ places
      link_places = ap (λ (z : List ℕ). nodes z * 5) headed_sheet

      linked_off : (row k : ℕ) → row < row_count → k < row_words → (link_mark ≤ row → row ≤ latch_row → k < places → ⊥) → reg linked row k ≡ reg s row k
      linked_off row k rl kl h =
          off link_mark link_word (nodes (sheet_in headed) * 5) (link_from source_marks source_words headed) headed linked by-links row k rl kl
          (λ a b l. h a (omega arith) (omega (arith, link_places)))
          ∙ headed_off row k rl kl (λ a b l. h (omega arith) b l)

      pub linked_sheet : sheet_in linked ≡ sheet_in s
      linked_sheet =
          ap sheet_in by-links
          ∙ stage_sheet link_mark link_word (nodes (sheet_in headed) * 5) (link_from source_marks source_words headed) headed ∙ headed_sheet

      linked_length : length linked ≡ length s
      linked_length =
          ap length by-links
          ∙ stage_length link_mark link_word (nodes (sheet_in headed) * 5) (link_from source_marks source_words headed) headed headed_ready.1
          ∙ headed_length

      -- the nodes' registers
      module _ (node : ℕ) (l : node < nodes (sheet_in s)) where
        pub memory_mark_is : memory_mark linked node ≡ memory_mark s node
        memory_mark_is = linked_off out_mark (at node 4) (omega arith) (omega (arith, few)) (λ a b h. omega arith)

        pub memory_word_is : memory_word linked node ≡ memory_word s node
        memory_word_is = linked_off out_word (at node 4) (omega arith) (omega (arith, few)) (λ a b h. omega arith)

        unit : (row : ℕ) → receive_mark ≤ row → row ≤ receive_address → reg linked row node ≡ reg s row node
        unit row a b = linked_off row node (omega arith) (omega (arith, few)) (λ x y h. omega arith)

        receive_mark_is : next_receive_mark linked node ≡ next_receive_mark s node
        unfolding next_receive_mark
        receive_mark_is = rw (memory_mark_is, unit receive_mark (omega arith) (omega arith)) refl

        receive_kind_is : next_receive_kind linked node ≡ next_receive_kind s node
        unfolding next_receive_kind
        receive_kind_is = rw (memory_mark_is, memory_word_is, unit receive_kind (omega arith) (omega arith)) refl

        receive_address_is : next_receive_address linked node ≡ next_receive_address s node
        unfolding next_receive_address
        receive_address_is = rw (memory_mark_is, memory_word_is, unit receive_address (omega arith) (omega arith)) refl

        landing_mark_is : next_landing_mark linked node ≡ next_landing_mark s node
        unfolding next_landing_mark
        landing_mark_is = rw memory_mark_is refl

        memory_after_is : (address w : ℕ) → memory_after linked node address w ≡ memory_after s node address w
        unfolding memory_after
        memory_after_is address w = rw (memory_mark_is, memory_word_is, unit receive_address (omega arith) (omega arith)) refl

        strays_same : strays_in linked node ≡ strays_in s node
        unfolding strays_in
        strays_same =
            rw (memory_mark_is, unit receive_mark (omega arith) (omega arith), unit receive_address (omega arith) (omega arith), linked_sheet) refl

      -- the memories
      pub memory_is : next_memory linked m ≡ next_memory s m
      unfolding next_memory
      memory_is = tab_is _ _ _ (length_tab _ _) (λ k l. tab_at _ _ k l ∙ after k l)
        where
          after : (k : ℕ) → k < length m
              → memory_after linked (k / room linked) (k % room linked) (word m k) ≡ memory_after s (k / room s) (k % room s) (word m k)
          after k l =
              ap (λ (z : List ℕ). memory_after linked (k / memory_words z) (k % memory_words z) (word m k)) linked_sheet
              ∙ memory_after_is (k / room s) ((div-lt_iff_lt-mul H.memory_low).1 (omega (arith, R.whole))) (k % room s) (word m k)

      -- what the receive units require, where no word strays
      pub linked_ready : any (nodes (sheet_in s)) (strays_in s) ≡ false → (count size : ℕ) → count ≡ nodes (sheet_in s) → size ≡ room s
          → Receivable linked m count size
      linked_ready calm count size e f = record {
        counted = record {
          all_nodes = e ∙ ap nodes (sym linked_sheet);
          few_nodes = omega (arith, e, few);
          own_room = f ∙ ap memory_words (sym linked_sheet);
        };
        long = omega (arith, linked_length, long);
        some_room = omega (arith, f, H.memory_low);
        small_room = omega (arith, f, H.memory_high);
        whole = R.whole ∙ ap₂ (λ a b. a * b) (sym e) (sym f);
        calm = λ node l. strays_same node (omega (arith, e, l)) ∙ none_strays s (nodes (sheet_in s)) calm node (omega (arith, e, l));
      }

      module _ (received : List ℕ) (by_units : received ≡ stage receive_mark landing_word (nodes (sheet_in linked)) (next_in_row linked []) linked) where
        unit_count : nodes (sheet_in linked) ≡ nodes (sheet_in s)
        unit_count = ap nodes linked_sheet

        received_off : (row k : ℕ) → row < row_count → k < row_words → (link_mark ≤ row → row ≤ latch_row → k < places → ⊥)
            → (receive_mark ≤ row → row ≤ landing_word → k < nodes (sheet_in s) → ⊥) → reg received row k ≡ reg s row k
        received_off row k rl kl h g =
            off receive_mark landing_word (nodes (sheet_in linked)) (next_in_row linked []) linked received by_units row k rl kl
            (λ a b l. g a b (omega (arith, unit_count)))
            ∙ linked_off row k rl kl h

        received_sheet : sheet_in received ≡ sheet_in s
        received_sheet = ap sheet_in by_units ∙ stage_sheet receive_mark landing_word (nodes (sheet_in linked)) (next_in_row linked []) linked ∙ linked_sheet

        received_length : length received ≡ length s
        received_length =
            ap length by_units
            ∙ stage_length receive_mark landing_word (nodes (sheet_in linked)) (next_in_row linked []) linked (omega (arith, linked_length, long))
            ∙ linked_length

        pub received_long : moving_words ≤ length received
        received_long = omega (arith, received_length, long)

        received_wire : (row k : ℕ) → out_mark ≤ row → row < row_count → (receive_mark ≤ row → row ≤ landing_word → ⊥) → k < row_words
            → reg received row k ≡ reg s row k
        received_wire row k a rl out kl = received_off row k rl kl (λ x y z. omega arith) (λ x y z. out x y)

        -- the extra registers, and what they require
        extra_mark_at : (k : ℕ) → k < row_words → next_extra_mark received k ≡ next_extra_mark s k
        unfolding next_extra_mark
        extra_mark_at k l =
            rw (
              received_sheet,
              received_wire out_mark k (omega arith) (omega arith) (λ a b. omega arith) l,
              received_wire extra_mark k (omega arith) (omega arith) (λ a b. omega arith) l,
            ) refl

        extra_word_at : (k : ℕ) → k < row_words → next_extra_word received k ≡ next_extra_word s k
        unfolding next_extra_word
        extra_word_at k l =
            rw (
              received_sheet,
              received_wire out_word k (omega arith) (omega arith) (λ a b. omega arith) l,
              received_wire extra_word k (omega arith) (omega arith) (λ a b. omega arith) l,
            ) refl

        pub received_ready : (count : ℕ) (kind : Bool) → count ≡ nodes (sheet_in s) → count ≤ 16 → kind ≡ is_long (sheet_in s)
            → (moving_words ≤ length received) × (count ≡ nodes (sheet_in received)) × (count ≤ 16) × (kind ≡ is_long (sheet_in received))
        received_ready count kind e l f =
            (received_long, e ∙ ap nodes (sym received_sheet), l, f ∙ ap is_long (sym received_sheet))

        extended_length : (extended : List ℕ) → extended ≡ stage extra_mark extra_word places (next_in_row received []) received
            → length extended ≡ length s
        extended_length extended e = ap length e ∙ stage_length extra_mark extra_word places (next_in_row received []) received received_long ∙ received_length

        -- what the outputs require
        pub extended_long : (extended : List ℕ) → extended ≡ stage extra_mark extra_word places (next_in_row received []) received
            → moving_words ≤ length extended
        extended_long extended e = omega (arith, extended_length extended e, long)

        module _ (extended : List ℕ) (by_extras : extended ≡ stage extra_mark extra_word places (next_in_row received []) received)
            (crossed : List ℕ) (by_outs : crossed ≡ stage out_mark out_word places (out_from out_marks out_words) extended) where
          pub extended_off : (row k : ℕ) → row < row_count → k < row_words → (link_mark ≤ row → row ≤ latch_row → k < places → ⊥)
              → (receive_mark ≤ row → row ≤ landing_word → k < nodes (sheet_in s) → ⊥) → (extra_mark ≤ row → row ≤ extra_word → k < places → ⊥)
              → reg extended row k ≡ reg s row k
          extended_off row k rl kl h g f =
              off extra_mark extra_word places (next_in_row received []) received extended by_extras row k rl kl f ∙ received_off row k rl kl h g

          crossed_off : (row k : ℕ) → row < row_count → k < row_words → (link_mark ≤ row → row ≤ out_word → k < places → ⊥)
              → (receive_mark ≤ row → row ≤ landing_word → k < nodes (sheet_in s) → ⊥) → (extra_mark ≤ row → row ≤ extra_word → k < places → ⊥)
              → reg crossed row k ≡ reg s row k
          crossed_off row k rl kl h g f =
              off out_mark out_word places (out_from out_marks out_words) extended crossed by_outs row k rl kl (λ a b l. h (omega arith) b l)
              ∙ extended_off row k rl kl (λ a b l. h a (omega arith) l) g f

          pub crossed_sheet : sheet_in crossed ≡ sheet_in s
          crossed_sheet =
              ap sheet_in by_outs ∙ stage_sheet out_mark out_word places (out_from out_marks out_words) extended
              ∙ ap sheet_in by_extras ∙ stage_sheet extra_mark extra_word places (next_in_row received []) received ∙ received_sheet

          crossed_length : length crossed ≡ length s
          crossed_length =
              ap length by_outs ∙ stage_length out_mark out_word places (out_from out_marks out_words) extended (extended_long extended by_extras)
              ∙ extended_length extended by_extras

          crossed_clock : (k : ℕ) → k < row_words → reg crossed clock_row k ≡ reg s clock_row k
          crossed_clock k l = crossed_off clock_row k (omega arith) l (λ a b h. omega arith) (λ a b h. omega arith) (λ a b h. omega arith)

          pub crossed_sender : (row c : ℕ) → left_row ≤ row → row ≤ to_go_row → c < 64 → reg crossed row c ≡ reg s row c
          crossed_sender row c a b l = crossed_off row c (omega arith) (omega arith) (λ x y z. omega arith) (λ x y z. omega arith) (λ x y z. omega arith)

          -- the senders
          sender_is : (c : ℕ) → c < 64 → seen_sender crossed c ≡ seen_sender s c
          sender_is c l =
              sender_same _ _
              (crossed_sender left_row c (omega arith) (omega arith) l) (crossed_sender read_row c (omega arith) (omega arith) l)
              (crossed_sender write_row c (omega arith) (omega arith) l) (crossed_sender kind_row c (omega arith) (omega arith) l)
              (crossed_sender to_go_row c (omega arith) (omega arith) l)

          pub slot_is : (c : ℕ) → slot_in crossed c ≡ slot_in s c
          unfolding slot_in
          slot_is c =
              ap (λ (z : List ℕ). slot_length z (reg crossed clock_row in_force_place) (reg crossed clock_row cycle_place) c) crossed_sheet
              ∙ ap₂ (λ j cycle. slot_length (sheet_in s) j cycle c)
              (crossed_clock in_force_place (omega arith)) (crossed_clock cycle_place (omega arith))

          next_sender_is : (c : ℕ) → c < 64 → next_sender crossed c ≡ next_sender s c
          next_sender_is c l = ap₂ (λ slot x. step_sender (move slot x) slot x) (slot_is c) (sender_is c l)

          slots_same : slot_table s ≡ slot_table crossed
          unfolding slot_table
          slots_same = rw (crossed_sheet, crossed_clock in_force_place (omega arith), crossed_clock cycle_place (omega arith)) refl

          -- what the senders require
          pub crossed_ready : (Steppable crossed) × (slots ≡ slot_table crossed)
          crossed_ready = (steppable, T.slot ∙ slots_same)
            where
              sending : (c : ℕ) → c < circuits (sheet_in crossed) → Sending crossed c
              sending c l =
                  let inside : c < circuits (sheet_in s) = subst (λ (z : List ℕ). c < circuits z) crossed_sheet l in
                  let small : c < 64 = omega (arith, inside, few_circuits) in
                  let g = crossed_sender to_go_row c (omega arith) (omega arith) small in
                  let old = R.steppable.sending c inside in
                  record {
                    some_left = λ h. omega (arith, old.some_left (omega (arith, h, g)), crossed_sender left_row c (omega arith) (omega arith) small);
                    read_rises = λ h. omega (arith, old.read_rises (omega (arith, h, g)), crossed_sender read_row c (omega arith) (omega arith) small);
                    write_rises = λ h. omega (arith, old.write_rises (omega (arith, h, g)), crossed_sender write_row c (omega arith) (omega arith) small);
                  }

              steppable : Steppable crossed
              steppable = record {
                long = omega (arith, crossed_length, long);
                framed = subst Framed (sym crossed_sheet) R.steppable.framed;
                in_force =
                    subst (λ (z : List ℕ). reg crossed clock_row in_force_place < schedules z) (sym crossed_sheet)
                    (omega (arith, R.steppable.in_force, crossed_clock in_force_place (omega arith)));
                sending = sending;
              }

          module _ (sent : List ℕ) (by-senders : sent ≡ stage left_row to_go_row (circuits (sheet_in crossed)) (next_in_row crossed []) crossed) where
            sender_count : circuits (sheet_in crossed) ≡ circuits (sheet_in s)
            sender_count = ap circuits crossed_sheet

            sent_off : (row k : ℕ) → row < row_count → k < row_words → (link_mark ≤ row → row ≤ out_word → k < places → ⊥)
                → (receive_mark ≤ row → row ≤ landing_word → k < nodes (sheet_in s) → ⊥) → (left_row ≤ row → row ≤ to_go_row → k < circuits (sheet_in s) → ⊥)
                → (extra_mark ≤ row → row ≤ extra_word → k < places → ⊥) → reg sent row k ≡ reg s row k
            sent_off row k rl kl h g f x =
                off left_row to_go_row (circuits (sheet_in crossed)) (next_in_row crossed []) crossed sent by-senders row k rl kl
                (λ a b l. f a b (omega (arith, sender_count)))
                ∙ crossed_off row k rl kl h g x

            sent_sheet : sheet_in sent ≡ sheet_in s
            sent_sheet = ap sheet_in by-senders ∙ stage_sheet left_row to_go_row (circuits (sheet_in crossed)) (next_in_row crossed []) crossed ∙ crossed_sheet

            sent_length : length sent ≡ length s
            sent_length =
                ap length by-senders
                ∙ stage_length left_row to_go_row (circuits (sheet_in crossed)) (next_in_row crossed []) crossed crossed_ready.0.long ∙ crossed_length

            sent_clock : (k : ℕ) → k < row_words → reg sent clock_row k ≡ reg s clock_row k
            sent_clock k l = sent_off clock_row k (omega arith) l (λ a b h. omega arith) (λ a b h. omega arith) (λ a b h. omega arith) (λ a b h. omega arith)

            -- the clock
            next_clock_is : (k : ℕ) → k < row_words → next_clock sent k ≡ next_clock s k
            next_clock_is = clock_same s sent sent_sheet sent_clock

            -- what the clock requires
            pub sent_ready : Clocked sent
            sent_ready = record {
              long = omega (arith, sent_length, long);
              framed = subst Framed (sym sent_sheet) R.steppable.framed;
              in_force =
                  subst (λ (z : List ℕ). reg sent clock_row in_force_place < schedules z) (sym sent_sheet)
                  (omega (arith, R.steppable.in_force, sent_clock in_force_place (omega arith)));
              in_time =
                  subst (λ (z : List ℕ). reg sent clock_row cycle_place < period z (reg sent clock_row in_force_place)) (sym sent_sheet)
                  (subst (λ (j : ℕ). reg sent clock_row cycle_place < period (sheet_in s) j) (sym (sent_clock in_force_place (omega arith)))
                  (omega (arith, R.clocked.in_time, sent_clock cycle_place (omega arith))));
            }

            module _ (clocked : List ℕ) (by_clock : clocked ≡ stage clock_row clock_row clock_words (next_in_row sent []) sent) where
              -- rows that the stages to come leave
              module _ (row k : ℕ) (rl : row < row_count) (kl : k < row_words) where
                pub clocked_same : link_mark ≤ row → reg clocked row k ≡ reg sent row k
                clocked_same h = off clock_row clock_row clock_words (next_in_row sent []) sent clocked by_clock row k rl kl (λ a b l. omega arith)

                sent_same : link_mark ≤ row → row ≤ landing_word → reg clocked row k ≡ reg crossed row k
                sent_same h g =
                    clocked_same h
                    ∙ off left_row to_go_row (circuits (sheet_in crossed)) (next_in_row crossed []) crossed sent by-senders row k rl kl (λ a b l. omega arith)

                crossed_same : link_mark ≤ row → row ≤ landing_word → (out_mark ≤ row → row ≤ out_word → ⊥) → reg clocked row k ≡ reg received row k
                crossed_same h g f =
                    sent_same h g ∙ off out_mark out_word places (out_from out_marks out_words) extended crossed by_outs row k rl kl (λ a b l. f a b)
                    ∙ off extra_mark extra_word places (next_in_row received []) received extended by_extras row k rl kl (λ a b l. omega arith)

                pub received_same : link_mark ≤ row → row ≤ latch_row → reg clocked row k ≡ reg linked row k
                received_same h g =
                    crossed_same h (omega arith) (λ a b. omega arith)
                    ∙ off receive_mark landing_word (nodes (sheet_in linked)) (next_in_row linked []) linked received by_units row k rl kl (λ a b l. omega arith)

                -- each stage's own rows, in the end
                head_row : head_mark ≤ row → row ≤ latch_row → k < places → reg clocked row k ≡ next_in_row s [] row k
                head_row a b l =
                    received_same (omega arith) b
                    ∙ off link_mark link_word (nodes (sheet_in headed) * 5) (link_from source_marks source_words headed) headed linked by-links row k rl kl
                    (λ x y z. omega arith)
                    ∙ here head_mark latch_row places (next_in_row s []) s headed by_heads row k rl kl a b l

                link_row : link_mark ≤ row → row ≤ link_word → k < places → reg clocked row k ≡ link_from source_marks source_words headed row k
                link_row a b l =
                    received_same a (omega arith)
                    ∙ here link_mark link_word (nodes (sheet_in headed) * 5) (link_from source_marks source_words headed) headed linked by-links row k rl kl a b
                    (omega (arith, link_places, l))

                node_row : receive_mark ≤ row → row ≤ landing_word → k < nodes (sheet_in s) → reg clocked row k ≡ next_in_row linked [] row k
                node_row a b l =
                    crossed_same (omega arith) b (λ x y. omega arith)
                    ∙ here receive_mark landing_word (nodes (sheet_in linked)) (next_in_row linked []) linked received by_units row k rl kl a b
                    (omega (arith, unit_count, l))

                out_row : out_mark ≤ row → row ≤ out_word → k < places → reg clocked row k ≡ out_from out_marks out_words row k
                out_row a b l =
                    sent_same (omega arith) (omega arith)
                    ∙ here out_mark out_word places (out_from out_marks out_words) extended crossed by_outs row k rl kl a b l

                sender_row : left_row ≤ row → row ≤ to_go_row → k < circuits (sheet_in s) → reg clocked row k ≡ next_in_row crossed [] row k
                sender_row a b l =
                    clocked_same (omega arith)
                    ∙ here left_row to_go_row (circuits (sheet_in crossed)) (next_in_row crossed []) crossed sent by-senders row k rl kl a b
                    (omega (arith, sender_count, l))

                extra_row : extra_mark ≤ row → row ≤ extra_word → k < places → reg clocked row k ≡ next_in_row received [] row k
                extra_row a b l =
                    clocked_same (omega arith)
                    ∙ off left_row to_go_row (circuits (sheet_in crossed)) (next_in_row crossed []) crossed sent by-senders row k rl kl (λ x y z. omega arith)
                    ∙ off out_mark out_word places (out_from out_marks out_words) extended crossed by_outs row k rl kl (λ x y z. omega arith)
                    ∙ here extra_mark extra_word places (next_in_row received []) received extended by_extras row k rl kl a b l

                clock_row_is : row ≡ clock_row → k < clock_words → reg clocked row k ≡ next_in_row sent [] row k
                clock_row_is e l = here clock_row clock_row clock_words (next_in_row sent []) sent clocked by_clock row k rl kl (omega arith) (omega arith) l

                clocked_off : (row_in (next_rows s m) row).extent ≤ k → reg clocked row k ≡ reg s row k
                clocked_off l =
                    off clock_row clock_row clock_words (next_in_row sent []) sent clocked by_clock row k rl kl
                    (λ a b h. omega (arith, clock_extent s m row rl (omega arith)))
                    ∙ sent_off row k rl kl (λ a b h. omega (arith, router_extent s m row rl a b))
                    (λ a b h. omega (arith, node_extent s m row rl a b)) (λ a b h. omega (arith, circuit_extent s m row rl a b))
                    (λ a b h. omega (arith, extra_extent s m row rl a b))

              sender_next : (k : ℕ) → k < circuits (sheet_in s) → next_sender crossed k ≡ next_sender s k
              sender_next k l = next_sender_is k (omega (arith, l, few_circuits))

              -- a register that the sheet has, row by row
              each_inside : (k : ℕ) → k < row_words → Each (λ x. k < x.extent → reg clocked x.number k ≡ x.next k) (next_rows s m)
              unfolding next_in_row row_in next_rows ◌=?◌
              each_inside k kl =
                  (λ l. clock_row_is clock_row k (omega arith) kl refl l ∙ next_clock_is k kl)
                  also (λ l. link_row link_mark k (omega arith) kl (omega arith) (omega arith) l ∙ link_mark_is k l)
                  also (λ l. link_row link_word k (omega arith) kl (omega arith) (omega arith) l ∙ link_word_is k l)
                  also (λ l. head_row head_mark k (omega arith) kl (omega arith) (omega arith) l)
                  also (λ l. head_row head_word k (omega arith) kl (omega arith) (omega arith) l)
                  also (λ l. head_row choice_row k (omega arith) kl (omega arith) (omega arith) l)
                  also (λ l. head_row latch_row k (omega arith) kl (omega arith) (omega arith) l)
                  also (λ l. out_row out_mark k (omega arith) kl (omega arith) (omega arith) l ∙ out_mark_is k l)
                  also (λ l. out_row out_word k (omega arith) kl (omega arith) (omega arith) l ∙ out_word_is k l)
                  also (λ l. node_row receive_mark k (omega arith) kl (omega arith) (omega arith) l ∙ receive_mark_is k l)
                  also (λ l. node_row receive_kind k (omega arith) kl (omega arith) (omega arith) l ∙ receive_kind_is k l)
                  also (λ l. node_row receive_address k (omega arith) kl (omega arith) (omega arith) l ∙ receive_address_is k l)
                  also (λ l. node_row landing_mark k (omega arith) kl (omega arith) (omega arith) l ∙ landing_mark_is k l)
                  also (λ l. node_row landing_kind k (omega arith) kl (omega arith) (omega arith) l ∙ unit k l receive_kind (omega arith) (omega arith))
                  also (λ l. node_row landing_address k (omega arith) kl (omega arith) (omega arith) l ∙ unit k l receive_address (omega arith) (omega arith))
                  also (λ l. node_row landing_word k (omega arith) kl (omega arith) (omega arith) l ∙ memory_word_is k l)
                  also (λ l. sender_row left_row k (omega arith) kl (omega arith) (omega arith) l ∙ ap (λ (x : Sender). x.left) (sender_next k l))
                  also (λ l. sender_row read_row k (omega arith) kl (omega arith) (omega arith) l ∙ ap (λ (x : Sender). x.read_address) (sender_next k l))
                  also (λ l. sender_row write_row k (omega arith) kl (omega arith) (omega arith) l ∙ ap (λ (x : Sender). x.write_address) (sender_next k l))
                  also (λ l. sender_row kind_row k (omega arith) kl (omega arith) (omega arith) l ∙ ap (λ (x : Sender). x.kind) (sender_next k l))
                  also (λ l. sender_row to_go_row k (omega arith) kl (omega arith) (omega arith) l ∙ ap (λ (x : Sender). x.to_go) (sender_next k l))
                  also (λ l. extra_row extra_mark k (omega arith) kl (omega arith) (omega arith) l ∙ extra_mark_at k kl)
                  also (λ l. extra_row extra_word k (omega arith) kl (omega arith) (omega arith) l ∙ extra_word_at k kl)
                  also that_is_all

              clocked_inside : (row k : ℕ) → row < row_count → k < row_words → k < (row_in (next_rows s m) row).extent
                  → reg clocked row k ≡ next_in_row s m row k
              unfolding next_in_row
              clocked_inside row k rl kl l =
                  ap (λ (r : ℕ). reg clocked r k) (sym (found_number (next_rows s m) row))
                  ∙ by_row s m (λ x. k < x.extent → reg clocked x.number k ≡ x.next k) (each_inside k kl) row rl l

              clocked_length : length clocked ≡ length s
              clocked_length = ap length by_clock ∙ stage_length clock_row clock_row clock_words (next_in_row sent []) sent sent_ready.long ∙ sent_length

              clocked_rest : drop moving_words clocked ≡ drop moving_words s
              clocked_rest =
                  ap (drop moving_words) by_clock ∙ stage_rest clock_row clock_row clock_words (next_in_row sent []) sent
                  ∙ ap (drop moving_words) by-senders ∙ stage_rest left_row to_go_row (circuits (sheet_in crossed)) (next_in_row crossed []) crossed
                  ∙ ap (drop moving_words) by_outs ∙ stage_rest out_mark out_word places (out_from out_marks out_words) extended
                  ∙ ap (drop moving_words) by_extras ∙ stage_rest extra_mark extra_word places (next_in_row received []) received
                  ∙ ap (drop moving_words) by_units ∙ stage_rest receive_mark landing_word (nodes (sheet_in linked)) (next_in_row linked []) linked
                  ∙ ap (drop moving_words) by-links
                  ∙ stage_rest link_mark link_word (nodes (sheet_in headed) * 5) (link_from source_marks source_words headed) headed
                  ∙ ap (drop moving_words) by_heads ∙ stage_rest head_mark latch_row places (next_in_row s []) s

              -- the words after the last stage are those after the cycle
              pub state_is : clocked ≡ next_state s m
              state_is =
                  same_words clocked (next_state s m) (omega (arith, clocked_length, long)) (omega (arith, state_length s m long, long))
                  (clocked_rest ∙ sym (next_rest s m))
                  (λ row k rl kl. go row k rl kl (dec_lt k (row_in (next_rows s m) row).extent))
                where
                  go : (row k : ℕ) → row < row_count → k < row_words → Dec (k < (row_in (next_rows s m) row).extent)
                      → reg clocked row k ≡ reg (next_state s m) row k
                  go row k rl kl (yes l) = clocked_inside row k rl kl l ∙ sym (next_row s m row k rl kl l)
                  go row k rl kl (no l) =
                      clocked_off row k rl kl (omega (arith, l)) ∙ sym (next_off s m row k rl kl (omega (arith, l)))
