-- A cycle that has no fault, stage by stage: what each stage requires, and what they leave together, from what the stages ensure.
-- Assumes nothing.
use Prim.Native.Nat.{ℕ, ◌*◌, ◌/◌, ◌%◌, ◌≤◌, ◌<◌}
use mathlib.Core.Bool.{Bool, true, false}
use mathlib.Core.List.{List, []}
use mathlib.Core.Path.{◌≡◌, refl, sym, ◌∙◌, ap, subst}
use native.Mathlib.Omega.{arith}
use lib.Bits.{bit_or}
use lib.ListN.{length}
use Rattle.words.specs.Tests.{◌and◌, ◌or◌, ◌=?◌, ◌≤?◌}
use Rattle.words.specs.Words.{word, pick}
use Rattle.words.proofs.WordLaws.{length_tab, tab_at}
use Rattle.torus.specs.Torus.{is_vertical}
use Rattle.sheet.specs.Sheet.{circuits, is_long, nodes}
use Rattle.sheet.specs.Inner.Passed.{Headed}
use Rattle.occupancy.specs.Inner.Occupancy.{bit_at}
use Rattle.occupancy.proofs.MaskLaws.{union_free}
use Rattle.network.specs.declared.Live.{Live}
use Rattle.network.specs.Cycle.{has_extra}
use Rattle.network.specs.Registers.{reg, at, sheet_in, room, moving_words, row_words, clock_row, clock_words, link_mark, link_word, head_mark, latch_row, out_mark, out_word, receive_mark, landing_word, left_row, to_go_row, extra_mark, extra_word}
use Rattle.network.specs.Inner.Machine.{memory_mark, memory_word, slot_in, source_mark, source_word, next_in_row, next_state, next_memory}
use Rattle.network.specs.Inner.Stages.{stage, link_from, out_from}
use Rattle.network.specs.Inner.Live.{EmptyBeside, Stays, Covered}
use Rattle.network.proofs.RowCases.{in_rows, ◌besides◌, no_more}
use Rattle.network.proofs.RowLaws.{sheet_kept}
use Rattle.network.proofs.LiveLaws.{heads_stay, out_mark_none, out_word_none, memory_mark_none, memory_word_none, covered_next}
use Rattle.links.specs.Inner.Linking.{NoneAt, SidesEmpty}
use Rattle.sources.specs.Inner.Slots.{slot_table}
use Rattle.sources.specs.Inner.Steps.{Steppable}
use Rattle.sources.specs.Inner.Acting.{Acting}
use Rattle.receivers.specs.Inner.Required.{Receivable, Clocked, Counted}
use Rattle.tables.specs.Inner.Ready.{Ready}
use Rattle.tables.specs.Inner.Tables.{Tables}
use Rattle.tables.specs.Inner.Moving.{Moving}
use Rattle.machine.proofs.JoinLaws.{few_circuits, headed_ready, headed_off, headed_sheet, linked_ready, linked_sheet, memory_mark_is, memory_word_is, memory_is, received_ready}
use Rattle.machine.proofs.JoinLaws.{extended_long, extended_off, out_mark_is, out_word_is, crossed_ready, crossed_sheet, crossed_sender, slot_is, sent_ready, received_same, clocked_same, state_is}

-- a cycle that is carried out: its words, tables and masks, and what was read off its sheet
pub record Carrying (s m slots marks cells out_marks out_words : List ℕ) (live : Live) (acting wires count size : ℕ) (kind : Bool) : Type 0 where
  pub tables : Tables s m slots marks cells out_marks out_words
  pub ready : Ready s m
  pub covered : Covered s live
  pub moving : Moving s m acting wires
  pub counted : Counted s count size
  pub long_links : kind ≡ is_long (sheet_in s)

module _ {s m slots marks cells out_marks out_words : List ℕ} {live : Live} {acting wires count size : ℕ} {kind : Bool}
    (P : Carrying s m slots marks cells out_marks out_words live acting wires count size kind) where
  T : Tables s m slots marks cells out_marks out_words
  T = P.tables

  R : Ready s m
  R = P.ready

  C : Covered s live
  C = P.covered

  M : Moving s m acting wires
  M = P.moving

  e : count ≡ nodes (sheet_in s)
  e = P.counted.all_nodes

  few : count ≤ 16
  few = P.counted.few_nodes

  f : size ≡ room s
  f = P.counted.own_room

  k : kind ≡ is_long (sheet_in s)
  k = P.long_links

  own_few : nodes (sheet_in s) ≤ 16
  own_few = omega (arith, e, few)

  pub heads_ready : (moving_words ≤ length s) × (count ≤ 16)
      × ((k : ℕ) → k < count * 5 → bit_at (bit_or live.links live.heads) (k / 5) ≡ 0 → Stays head_mark latch_row (next_in_row s []) s k)
  heads_ready = (R.steppable.long, few, λ k l. heads_stay s own_few live C k (omega (arith, e, l)))

  module _ {headed : List ℕ} (heads : headed ≡ stage head_mark latch_row (count * 5) (next_in_row s []) s) where
    by_heads : headed ≡ stage head_mark latch_row (nodes (sheet_in s) * 5) (next_in_row s []) s
    by_heads = heads ∙ ap (λ (n : ℕ). stage head_mark latch_row (n * 5) (next_in_row s []) s) e

    same_sheet : sheet_in headed ≡ sheet_in s
    same_sheet = headed_sheet s m slots marks cells out_marks out_words T R headed by_heads

    -- what comes out of the links of a node beside the mask: nothing
    module _ (node : ℕ) (nl : node < nodes (sheet_in s)) (none : bit_at (bit_or live.outs live.extras) node ≡ 0) where
      beside : (bit_at live.outs node ≡ 0) × (bit_at live.extras node ≡ 0)
      beside = union_free live.outs live.extras node none

      at_node : (i : ℕ) → i < 5 → at node i / 5 ≡ node
      at_node i l = omega arith

      from_headed : (row i : ℕ) → out_mark ≤ row → row ≤ extra_word → i < 5 → reg headed row (at node i) ≡ reg s row (at node i)
      from_headed row i a b l =
          headed_off s m slots marks cells out_marks out_words T R headed by_heads row (at node i) (omega arith) (omega (arith, own_few)) (λ x y z. omega arith)

      out_none : (i : ℕ) → i < 5 → NoneAt headed out_mark (at node i)
      out_none i l =
          let here = ap (bit_at live.outs) (at_node i l) ∙ beside.0 in
          record {
            no_mark = from_headed out_mark i (omega arith) (omega arith) l ∙ C.out_mark_is (at node i) (omega arith) here;
            no_word = from_headed out_word i (omega arith) (omega arith) l ∙ C.out_word_is (at node i) (omega arith) here;
          }

      extra_none : (i : ℕ) → i < 5 → has_extra (sheet_in s) (at node i % 5) ≡ true → NoneAt headed extra_mark (at node i)
      extra_none i l h =
          let here = ap (bit_at live.extras) (at_node i l) ∙ beside.1 in
          record {
            no_mark = from_headed extra_mark i (omega arith) (omega arith) l ∙ C.extra_mark_at (at node i) (omega arith) h here;
            no_word = from_headed extra_word i (omega arith) (omega arith) l ∙ C.extra_word_at (at node i) (omega arith) h here;
          }

      vertical_none : (i : ℕ) → i < 5 → is_vertical i ≡ true → (b : Bool) → is_long (sheet_in s) ≡ b → NoneAt headed (pick b extra_mark out_mark) (at node i)
      unfolding has_extra ◌and◌
      vertical_none i l v true long =
          let side : at node i % 5 ≡ i = omega arith in
          extra_none i l (ap (λ (t : Bool). t and is_vertical (at node i % 5)) long ∙ ap is_vertical side ∙ v)
      vertical_none i l v false long = out_none i l

      sides_empty : SidesEmpty headed node (pick (is_long (sheet_in headed)) extra_mark out_mark)
      unfolding is_vertical ◌or◌ ◌=?◌
      sides_empty =
          let same : is_long (sheet_in s) ≡ is_long (sheet_in headed) = ap is_long (sym same_sheet) in
          record {
            north = vertical_none 0 (omega arith) refl (is_long (sheet_in headed)) same;
            east = out_none 1 (omega arith);
            south = vertical_none 2 (omega arith) refl (is_long (sheet_in headed)) same;
            west = out_none 3 (omega arith);
          }

    pub links_ready : (Headed (sheet_in headed)) × (moving_words ≤ length headed)
        × ((node : ℕ) → node < nodes (sheet_in headed) → bit_at (bit_or live.outs live.extras) node ≡ 0
        → SidesEmpty headed node (pick (is_long (sheet_in headed)) extra_mark out_mark))
        × ((node : ℕ) → node < nodes (sheet_in headed) → bit_at wires node ≡ 0 → (word marks node ≡ 0) × (word cells node ≡ 0))
    links_ready =
        let ready = headed_ready s m slots marks cells out_marks out_words T R headed by_heads in (
          ready.0,
          ready.1,
          λ node l none. sides_empty node (omega (arith, ap nodes same_sheet)) none,
          λ node l none.
              let small : node < 16 = omega (arith, ap nodes same_sheet, own_few) in
              let wire = M.all_wires node small none in (
                ap (λ (x : List ℕ). word x node) T.source_mark_is ∙ tab_at 16 (source_mark s) node small ∙ wire.0,
                ap (λ (x : List ℕ). word x node) T.source_word_is ∙ tab_at 16 (source_word s m) node small ∙ wire.1,
              ),
        )

    module _ {linked : List ℕ} (links : linked ≡ stage link_mark link_word (nodes (sheet_in headed) * 5) (link_from marks cells headed) headed) where
      pub units_ready : (Receivable linked m count size)
          × ((node : ℕ) → node < count → bit_at live.outs node ≡ 0 → (memory_mark linked node ≡ 0) × (memory_word linked node ≡ 0))
      units_ready = (
        linked_ready s m slots marks cells out_marks out_words T R headed by_heads linked links M.calm count size e f,
        λ node l none.
            let here : node < nodes (sheet_in s) = omega (arith, e, l) in (
              memory_mark_is s m slots marks cells out_marks out_words T R headed by_heads linked links node here ∙ memory_mark_none s own_few live C node here none,
              memory_word_is s m slots marks cells out_marks out_words T R headed by_heads linked links node here ∙ memory_word_none s own_few live C node here none,
            ),
      )

      module _ {received : List ℕ} (units : received ≡ stage receive_mark landing_word (nodes (sheet_in linked)) (next_in_row linked []) linked) where
        pub extras_ready : (moving_words ≤ length received) × (count ≡ nodes (sheet_in received)) × (count ≤ 16) × (kind ≡ is_long (sheet_in received))
        extras_ready = received_ready s m slots marks cells out_marks out_words T R headed by_heads linked links received units count kind e few k

        module _ {extended : List ℕ} (extending : extended ≡ stage extra_mark extra_word (count * 5) (next_in_row received []) received) where
          by_extras : extended ≡ stage extra_mark extra_word (nodes (sheet_in s) * 5) (next_in_row received []) received
          by_extras = extending ∙ ap (λ (n : ℕ). stage extra_mark extra_word (n * 5) (next_in_row received []) received) e

          -- the outputs of a node without a word on them or in its header stages
          outs_stay : (k : ℕ) → k < nodes (sheet_in s) * 5 → bit_at (bit_or live.outs live.heads) (k / 5) ≡ 0
              → Stays out_mark out_word (out_from out_marks out_words) extended k
          outs_stay k l none =
              let both = union_free live.outs live.heads (k / 5) none in
              let node : k / 5 < nodes (sheet_in s) = omega arith in
              let before : (row : ℕ) → out_mark ≤ row → row ≤ out_word → reg extended row k ≡ reg s row k =
              λ row a b.
              extended_off s m slots marks cells out_marks out_words T R headed by_heads linked links received units extended by_extras
              (stage out_mark out_word (nodes (sheet_in s) * 5) (out_from out_marks out_words) extended) refl row k (omega arith) (omega (arith, own_few))
              (λ x y z. omega arith) (λ x y z. omega arith) (λ x y z. omega arith) in
              in_rows (λ row. out_from out_marks out_words row k ≡ reg extended row k) out_mark out_word
              ((out_mark_is s m slots marks cells out_marks out_words T R headed by_heads k l ∙ out_mark_none s own_few live C (k / 5) node both.1 (k % 5)
              ∙ sym (before out_mark (omega arith) (omega arith) ∙ C.out_mark_is k l both.0))
              besides
              (out_word_is s m slots marks cells out_marks out_words T R headed by_heads k l ∙ out_word_none s own_few live C (k / 5) node both.1 (k % 5)
              ∙ sym (before out_word (omega arith) (omega arith) ∙ C.out_word_is k l both.0))
              besides no_more)

          pub outs_ready : (moving_words ≤ length extended) × (count ≤ 16) × (length out_marks ≡ row_words) × (length out_words ≡ row_words)
              × ((k : ℕ) → k < count * 5 → bit_at (bit_or live.outs live.heads) (k / 5) ≡ 0 → Stays out_mark out_word (out_from out_marks out_words) extended k)
          outs_ready = (
            extended_long s m slots marks cells out_marks out_words T R headed by_heads linked links received units extended by_extras,
            few,
            ap length T.out_mark_is ∙ length_tab row_words _,
            ap length T.out_word_is ∙ length_tab row_words _,
            λ k l. outs_stay k (omega (arith, e, l)),
          )

          module _ {crossed : List ℕ} (crossing : crossed ≡ stage out_mark out_word (count * 5) (out_from out_marks out_words) extended) where
            by_outs : crossed ≡ stage out_mark out_word (nodes (sheet_in s) * 5) (out_from out_marks out_words) extended
            by_outs = crossing ∙ ap (λ (n : ℕ). stage out_mark out_word (n * 5) (out_from out_marks out_words) extended) e

            own_sheet : sheet_in crossed ≡ sheet_in s
            own_sheet = crossed_sheet s m slots marks cells out_marks out_words T R headed by_heads linked links received units extended by_extras crossed by_outs

            sender_same : (row c : ℕ) → left_row ≤ row → row ≤ to_go_row → c < 64 → reg crossed row c ≡ reg s row c
            sender_same = crossed_sender s m slots marks cells out_marks out_words T R headed by_heads linked links received units extended by_extras crossed by_outs

            slot_same : (c : ℕ) → slot_in crossed c ≡ slot_in s c
            slot_same = slot_is s m slots marks cells out_marks out_words T R headed by_heads linked links received units extended by_extras crossed by_outs

            own_circuit : (c : ℕ) → c < circuits (sheet_in crossed) → (c < circuits (sheet_in s)) × (c < 64)
            own_circuit c l =
                let inside : c < circuits (sheet_in s) = subst (λ (z : List ℕ). c < circuits z) own_sheet l in
                (inside, omega (arith, inside, few_circuits s m slots marks cells out_marks out_words T R))

            acting_same : Acting crossed acting
            acting_same = record {
              none_to_go = λ c l none.
                  sender_same to_go_row c (omega arith) (omega arith) (own_circuit c l).1 ∙ M.all_acting.none_to_go c (own_circuit c l).0 none;
              none_opens = λ c l none.
                  ap (λ (x : ℕ). 1 ≤? x and 1 ≤? slot_in crossed c) (sender_same left_row c (omega arith) (omega arith) (own_circuit c l).1)
                  ∙ ap (λ (x : ℕ). 1 ≤? reg s left_row c and 1 ≤? x) (slot_same c)
                  ∙ M.all_acting.none_opens c (own_circuit c l).0 none;
            }

            pub senders_ready : (Steppable crossed) × (slots ≡ slot_table crossed) × (Acting crossed acting)
            senders_ready =
                let ready = crossed_ready s m slots marks cells out_marks out_words T R headed by_heads linked links received units extended by_extras crossed by_outs in
                (ready.0, ready.1, acting_same)

            module _ {sent : List ℕ} (senders : sent ≡ stage left_row to_go_row (circuits (sheet_in crossed)) (next_in_row crossed []) crossed) where
              pub clock_ready : Clocked sent
              clock_ready =
                  sent_ready s m slots marks cells out_marks out_words T R headed by_heads linked links received units extended by_extras crossed by_outs sent senders

              module _ {clocked after : List ℕ} (clock : clocked ≡ stage clock_row clock_row clock_words (next_in_row sent []) sent) (stores : after ≡ next_memory linked m) where
                own_state : clocked ≡ next_state s m
                own_state =
                    state_is s m slots marks cells out_marks out_words T R headed by_heads linked links received units extended by_extras crossed by_outs sent senders
                    clocked clock

                pub is_carried_out : (clocked ≡ next_state s m) × (after ≡ next_memory s m)
                is_carried_out = (own_state, stores ∙ memory_is s m slots marks cells out_marks out_words T R headed by_heads linked links)

                -- the masks that the links and the senders tell hold of the words after the cycle too
                link_next : (row : ℕ) → link_mark ≤ row → row ≤ link_word → (mask : ℕ) → EmptyBeside linked mask row → EmptyBeside (next_state s m) mask row
                link_next row a b mask h k l none =
                    let inside : k < nodes (sheet_in s) * 5 = subst (λ (z : List ℕ). k < nodes z * 5) (sheet_kept s m) l in
                    ap (λ (x : List ℕ). reg x row k) (sym own_state)
                    ∙ received_same s m slots marks cells out_marks out_words T R headed by_heads linked links received units extended by_extras crossed by_outs sent senders
                    clocked clock row k (omega arith) (omega (arith, own_few)) a (omega arith)
                    ∙ h k (subst (λ (z : List ℕ). k < nodes z * 5) (sym (linked_sheet s m slots marks cells out_marks out_words T R headed by_heads linked links)) inside) none

                pub covered_out : {mask sending extras : ℕ} → (EmptyBeside linked mask link_mark) × (EmptyBeside linked mask link_word)
                    → ((c : ℕ) → c < circuits (sheet_in crossed) → bit_at sending c ≡ 0 → reg sent to_go_row c ≡ 0) → extras ≡ pick kind live.outs 0
                    → Covered clocked (record { links = mask; heads = live.links; outs = live.heads; extras = extras; landed = live.outs; sending = sending })
                covered_out {mask} {sending} {extras} empty goes x =
                    subst (λ (w : List ℕ). Covered w (record { links = mask; heads = live.links; outs = live.heads; extras = extras; landed = live.outs; sending = sending }))
                    (sym own_state)
                    (covered_next s own_few live C m mask extras sending (x ∙ ap (λ (t : Bool). pick t live.outs 0) k)
                    (link_next link_mark (omega arith) (omega arith) mask empty.0) (link_next link_word (omega arith) (omega arith) mask empty.1)
                    (λ c l none.
                    ap (λ (w : List ℕ). reg w to_go_row c) (sym own_state)
                    ∙ clocked_same s m slots marks cells out_marks out_words T R headed by_heads linked links received units extended by_extras crossed by_outs sent senders
                    clocked clock to_go_row c (omega arith) (omega (arith, l, few_circuits s m slots marks cells out_marks out_words T R)) (omega arith)
                    ∙ goes c (subst (λ (z : List ℕ). c < circuits z) (sym own_sheet) l) none))
