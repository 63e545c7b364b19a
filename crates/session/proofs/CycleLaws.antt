-- A cycle keeps a sound state sound: its cells, choices and latches, its senders, receive units and clock.
-- Assumes nothing.
use Rattle.std.proofs.Common.{◌≡◌, ℕ, zero, suc, ◌+◌, ◌*◌, ◌/◌, ◌%◌, ◌<◌, ◌≤◌, Bool, true, false, List, ◌++◌, length, drop, sym, refl, ap, ◌∙◌, subst, div-add-mod', arith, get_or-drop, drop_at}
use mathlib.Core.Bool.{false≢true}
use native.Mathlib.Decide.{ℕ_discrete}
use Rattle.words.specs.Tests.{◌≤?◌, ◌=?◌}
use Rattle.words.specs.Words.{word, pick, tab}
use Rattle.words.proofs.TestLaws.{and_left, and_right, is≤, yes=, no=}
use Rattle.words.proofs.WordLaws.{length_tab}
use Rattle.packet.specs.Header.{header_word, kind_of, shifted_word}
use Rattle.packet.proofs.HeaderLaws.{shifted_kind}
use Rattle.torus.specs.Torus.{opposite_of}
use Rattle.torus.proofs.NeighbourLaws.{neighbour_inside, opposite_side}
use Rattle.sheet.specs.Sheet.{circuits, schedules, nodes, circuit_at, period}
use Rattle.sheet.proofs.PassedLaws.{in_grid}
use Rattle.sheet.specs.Slots.{slot_route, source_of}
use Rattle.network.specs.View.{source_input, memory_output}
use Rattle.network.specs.Cycle.{output_for, has_extra, Move, rests, opens, sends}
use Rattle.network.specs.Registers.{reg, sheet_in, sheet_length, room, moving_words, clock_row, cycle_place, in_force_place, order_mark_place}
use Rattle.network.specs.Registers.{order_schedule_place, head_word, choice_row, receive_mark, receive_kind, left_row, read_row, write_row, kind_row, to_go_row}
use Rattle.network.specs.Registers.{out_mark, out_word, extra_mark, extra_word, at}
use Rattle.network.specs.Seen.{seen_sender}
use Rattle.network.specs.Inner.Machine.{first_mark, first_word, slot_in, move_in, mark_of, word_of, sent_mark, sent_word, own_mark, source_mark, source_word}
use Rattle.network.specs.Inner.Machine.{end_mark, end_word, neighbour_place, next_extra_mark, next_extra_word, next_link_mark, next_link_word, next_head_word, next_choice, next_latch, asked_mark, next_out_mark}
use Rattle.network.specs.Inner.Machine.{next_out_word, memory_mark, memory_word, next_receive_mark, next_receive_kind, next_landing_mark, turns, is_due}
use Rattle.network.specs.Inner.Machine.{next_word, next_state}
use Rattle.network.proofs.RowLaws.{router_after, node_after, sender_after, clock_after}
use Rattle.soundness.specs.Sound.{kind_travels}
use Rattle.soundness.proofs.SoundLaws.{travels_small, CellParts, cell_none, TransferParts, RouterParts, NodeParts, SoundParts}
use Rattle.session.proofs.MoveLaws.{move_opens, transfer_step}
use Rattle.soundness.proofs.SheetLaws.{SheetBounds, period_some, circuit_bounds}
use Rattle.network.proofs.SlotLaws.{route_small}
use Rattle.network.proofs.StageLaws.{output_for_small}

-- cells: a payload word, a header whose kind travels
sound_body : (mark w : ℕ) → 2 ≤ mark → mark ≤ 3 → CellParts mark w
sound_body mark w low high = record { known = high; travels = λ q. absurd (omega arith) }

sound_header : (w : ℕ) → kind_travels (kind_of w) ≡ true → CellParts 1 w
sound_header w e = record { known = omega arith; travels = λ q. e }

-- one of two cells, a cell or none, and the first of many
sound_pick : (b : Bool) {mark w other v : ℕ} → CellParts mark w → CellParts other v → CellParts (pick b mark other) (pick b w v)
sound_pick true x y = x
sound_pick false x y = y

sound_only : (b : Bool) {mark w : ℕ} → CellParts mark w → CellParts (pick b mark 0) w
sound_only true x = x
sound_only false {mark} {w} x = cell_none w

sound_word : (mark w : ℕ) → CellParts mark w → CellParts mark (pick (mark =? 0) 0 w)
sound_word mark w x =
    record { known = x.known; travels = λ q. rw (no= (let ne : mark ≡ 0 → ⊥ = λ e. omega arith in ne)) (x.travels q) }

sound_first : (n : ℕ) (marks words : ℕ → ℕ) → ((i : ℕ) → i < n → CellParts (marks i) (words i))
    → CellParts (first_mark n marks) (first_word n marks words)
unfolding first_mark first_word
sound_first zero marks words h = cell_none 0
sound_first (suc n) marks words h =
    sound_pick (first_mark n marks =? 0)
    (sound_word (marks n) (words n) (h n (omega arith)))
    (sound_first n marks words (λ i l. h i (omega arith)))

-- the header stage keeps the kind
sound_shifted : (mark w : ℕ) → CellParts mark w → CellParts mark (next_head_word mark w)
unfolding next_head_word
sound_shifted mark w x = record { known = x.known; travels = λ q. go q (mark =? 1) }
  where
    go : mark ≡ 1 → (b : Bool) → kind_travels (kind_of (pick b (shifted_word w) w)) ≡ true
    go q true = ap kind_travels (shifted_kind w) ∙ x.travels q
    go q false = x.travels q

-- a choice or a latch is at most 5
pick_high : (b : Bool) {x y : ℕ} (most : ℕ) → x ≤ most → y ≤ most → pick b x y ≤ most
pick_high true most p q = p
pick_high false most p q = q

output_high : (input w : ℕ) → output_for input w + 1 ≤ 5
output_high input w = omega (arith, output_for_small input w (output_for input w) refl)

choice_high : (input latch mark w : ℕ) → latch ≤ 5 → next_choice input latch mark w ≤ 5
unfolding next_choice
choice_high input latch mark w l = pick_high (mark =? 0) 5 (omega arith) (pick_high (mark =? 1) 5 (output_high input w) l)

latch_high : (input latch mark w : ℕ) → latch ≤ 5 → next_latch input latch mark w ≤ 5
unfolding next_latch
latch_high input latch mark w l = pick_high (mark =? 1) 5 (output_high input w) (pick_high (3 ≤? mark) 5 (omega arith) l)

-- the sheet's stored length stays
sheet_length_kept : (s m : List ℕ) → sheet_length (next_state s m) ≡ sheet_length s
unfolding sheet_length next_state
sheet_length_kept s m = behind (tab moving_words (next_word s m)) (length_tab moving_words (next_word s m))
  where
    behind : (l : List ℕ) → length l ≡ moving_words → word (l ++ drop moving_words s) moving_words ≡ word s moving_words
    behind l e =
        sym (get_or-drop moving_words (l ++ drop moving_words s) 0 0)
        ∙ ap (λ rest. word rest 0) (drop_at l (drop moving_words s) moving_words e)
        ∙ get_or-drop moving_words s 0 0

-- the cells, senders and receive units after a cycle
module _ (s m : List ℕ) (b : SheetBounds (sheet_in s)) (x : SoundParts (sheet_in s) s) where
  abbrev sheet : List ℕ
  sheet = sheet_in s

  abbrev next : List ℕ
  next = next_state s m

  -- the header that a circuit would send
  abbrev head_of : ℕ → ℕ
  head_of c = header_word (reg s kind_row c) (reg s write_row c) (slot_route sheet (reg s clock_row in_force_place) (reg s clock_row cycle_place) c)

  -- the parts of a header that is sent fit their fields
  header_fits : (c : ℕ) → c < circuits sheet → 1 ≤ reg s left_row c
      → (reg s write_row c < 16384) × (slot_route sheet (reg s clock_row in_force_place) (reg s clock_row cycle_place) c < 65536)
  header_fits c l live =
      let rest = (x.transfers c l).writes live in
      let memory = (circuit_bounds sheet b c l).receive_ends in (
        omega (arith, rest.high, b.small_memory),
        route_small sheet b.ranged (reg s clock_row in_force_place) x.schedule_inside (reg s clock_row cycle_place) c,
      )

  header_travels : (c : ℕ) → c < circuits sheet → 1 ≤ reg s left_row c → kind_travels (kind_of (head_of c)) ≡ true
  header_travels c l live =
      let fits = header_fits c l live in
      ap kind_travels (kind_built (reg s kind_row c) (reg s write_row c) _ fits.0 fits.1) ∙ (x.transfers c l).travels live
    where
      kind_built : (kind address route : ℕ) → address < 16384 → route < 65536 → kind_of (header_word kind address route) ≡ kind
      kind_built kind address route p q = omega arith

  sent_parts : (c : ℕ) → c < circuits sheet → CellParts (sent_mark s c) (sent_word s m c)
  unfolding sent_mark sent_word
  sent_parts c l = go (move_in s c) refl
    where
      body : (last : Bool) (w : ℕ) → CellParts (pick last 3 2) w
      body true w = sound_body 3 w (omega arith) (omega arith)
      body false w = sound_body 2 w (omega arith) (omega arith)

      go : (d : Move) → move_in s c ≡ d
          → CellParts (mark_of d (reg s to_go_row c))
          (word_of d (head_of c) (word m (source_of sheet c * room s + reg s read_row c)))
      go rests e = cell_none 0
      go opens e = sound_header _ (header_travels c l (move_opens (slot_in s c) (seen_sender s c) e).1)
      go sends e = body (reg s to_go_row c =? 1) _

  -- so the words that a source sends are below 2^32, where the memory's are
  pub sent_small : ((k : ℕ) → word m k < 4294967296) → (c : ℕ) → c < circuits sheet → sent_word s m c < 4294967296
  unfolding sent_word
  sent_small small c l = go (move_in s c) refl
    where
      go : (d : Move) → move_in s c ≡ d → word_of d (head_of c) (word m (source_of sheet c * room s + reg s read_row c)) < 4294967296
      go rests e = omega arith
      go opens e =
          let live = (move_opens (slot_in s c) (seen_sender s c) e).1 in
          let fits = header_fits c l live in
          omega (arith, fits.0, fits.1, travels_small _ ((x.transfers c l).travels live))
      go sends e = small _

  source_parts : (node : ℕ) → CellParts (source_mark s node) (source_word s m node)
  unfolding source_mark source_word
  source_parts node =
      sound_first (circuits sheet) (own_mark s node) (sent_word s m) (λ c l. sound_only (source_of sheet c =? node) (sent_parts c l))

  -- what comes out of an output's link is in its extra register or on the output
  end_parts : (output k : ℕ) → k % 5 ≡ output → k < nodes sheet * 5 → CellParts (reg s (end_mark s output) k) (reg s (end_word s output) k)
  end_parts output k e l = go (has_extra sheet output) refl
    where
      go : (has : Bool) → has_extra sheet output ≡ has
          → CellParts (reg s (pick has extra_mark out_mark) k) (reg s (pick has extra_word out_word) k)
      go true q = x.extras k l (ap (has_extra sheet) e ∙ q)
      go false q = (x.routers k l).out

  -- the cell that comes over a link is the source's, or comes out of the neighbour's link
  link_parts : (node input : ℕ) → node < nodes sheet → input < 5 → CellParts (next_link_mark s node input) (next_link_word s m node input)
  unfolding next_link_mark next_link_word
  link_parts node input nl il =
      let inside = neighbour_inside (in_grid sheet b.ranged.framed.headed node nl) input in
      let side = opposite_side input in
      sound_pick (input =? source_input) (source_parts node) (end_parts (opposite_of input) (neighbour_place s node input) (omega arith) (omega arith))

  out_parts : (node output : ℕ) → node < nodes sheet → CellParts (next_out_mark s node output) (next_out_word s node output)
  unfolding next_out_mark next_out_word asked_mark
  out_parts node output nl =
      sound_first 5 (asked_mark s node output) (λ input. reg s head_word (at node input))
      (λ input l. sound_only (reg s choice_row (at node input) =? output + 1) (x.routers (at node input) (omega arith)).head)

  router_next : (node i : ℕ) → node < nodes sheet → i < 5 → RouterParts next (at node i)
  router_next node i nl il =
      let r = router_after s m b.few_nodes node i nl il in
      let now = x.routers (at node i) (omega arith) in
      record {
        link = rw (r.link_mark_is, r.link_word_is) (link_parts node i nl il);
        head = rw (r.head_mark_is, r.head_word_is) (sound_shifted _ _ now.link);
        out = rw (r.out_mark_is, r.out_word_is) (out_parts node i nl);
        choice = λ p. rw r.choice_register (choice_high _ _ _ _ now.latch);
        latch = rw r.latch_register (latch_high _ _ _ _ now.latch);
      }

  extra_next : (k : ℕ) → k < nodes sheet * 5 → has_extra sheet (k % 5) ≡ true → CellParts (reg next extra_mark k) (reg next extra_word k)
  unfolding next_extra_mark next_extra_word
  extra_next k l has =
      subst (λ (i : ℕ). CellParts (reg next extra_mark i) (reg next extra_word i)) (div-add-mod' k 5)
      (rw (
        (router_after s m b.few_nodes (k / 5) (k % 5) (omega arith) (omega arith)).extra_mark_at,
        (router_after s m b.few_nodes (k / 5) (k % 5) (omega arith) (omega arith)).extra_word_at,
        div-add-mod' k 5,
        has,
      )
      (x.routers k l).out)

  -- a receive unit: what arrives is a header whose kind travels, or the unit stays, or ends
  receive_travels : (n : ℕ) → n < nodes sheet → 1 ≤ next_receive_mark s n → kind_travels (next_receive_kind s n) ≡ true
  unfolding next_receive_mark next_receive_kind
  receive_travels n l = go (ℕ_discrete (memory_mark s n) 1) (3 ≤? memory_mark s n)
    where
      go : Dec (memory_mark s n ≡ 1) → (last : Bool)
          → 1 ≤ pick (memory_mark s n =? 1) 1 (pick last 0 (reg s receive_mark n))
          → kind_travels (pick (memory_mark s n =? 1) (kind_of (memory_word s n)) (reg s receive_kind n)) ≡ true
      go (yes q) last = rw (yes= q) (λ p. (x.routers (at n memory_output) (omega arith)).out.travels q)
      go (no q) true = rw (no= q) (λ p. absurd (omega arith))
      go (no q) false = rw (no= q) (λ p. (x.units n l).travels p)

  unit_next : (n : ℕ) → n < nodes sheet → NodeParts next n
  unfolding next_receive_mark next_landing_mark
  unit_next n l =
      let r = node_after s m b.few_nodes n l in
      let now = x.units n l in
      record {
        receiving =
            rw r.receive_mark_is
            (pick_high (memory_mark s n =? 1) 1 (omega arith) (pick_high (3 ≤? memory_mark s n) 1 (omega arith) now.receiving));
        travels = rw (r.receive_mark_is, r.receive_kind_is) (receive_travels n l);
        landing = rw r.landing_mark_is (pick_high (2 ≤? memory_mark s n) 1 (omega arith) (omega arith));
      }

  transfer_next : (c : ℕ) → c < circuits sheet → TransferParts (circuit_at sheet c) (seen_sender next c)
  transfer_next c l =
      subst (TransferParts (circuit_at sheet c)) (sym (sender_after s m b.few_circuits c l))
      (transfer_step (circuit_at sheet c) (slot_in s c) (seen_sender s c) (move_in s c) refl (x.transfers c l))

  -- the clock: an order that is due has a schedule that exists, and the cycle stays below the period
  due_inside : is_due s ≡ true → (turns s ≡ true) × (reg s clock_row order_schedule_place < schedules sheet)
  unfolding is_due
  due_inside e = (and_left _ _ e, x.order_inside (is≤ 1 _ (and_left _ _ (and_right _ _ e))))

  schedule_next : pick (is_due s) (reg s clock_row order_schedule_place) (reg s clock_row in_force_place) < schedules sheet
  schedule_next = go (is_due s) refl
    where
      go : (d : Bool) → is_due s ≡ d → pick d (reg s clock_row order_schedule_place) (reg s clock_row in_force_place) < schedules sheet
      go true e = (due_inside e).1
      go false e = x.schedule_inside

  within : turns s ≡ false → reg s clock_row cycle_place + 1 < period sheet (reg s clock_row in_force_place)
  unfolding turns
  within e = not_last _ _ x.cycle_inside (λ q. false≢true (sym e ∙ yes= q))
    where
      not_last : (cycle last : ℕ) → cycle < last → (cycle + 1 ≡ last → ⊥) → cycle + 1 < last
      not_last cycle last l n = omega (arith, n)

  cycle_next : pick (turns s) 0 (reg s clock_row cycle_place + 1)
      < period sheet (pick (is_due s) (reg s clock_row order_schedule_place) (reg s clock_row in_force_place))
  cycle_next = go (turns s) (is_due s) refl refl
    where
      go : (a d : Bool) → turns s ≡ a → is_due s ≡ d
          → pick a 0 (reg s clock_row cycle_place + 1)
          < period sheet (pick d (reg s clock_row order_schedule_place) (reg s clock_row in_force_place))
      go true true e f = period_some sheet b _ (due_inside f).1
      go true false e f = period_some sheet b _ x.schedule_inside
      go false true e f = absurd (false≢true (sym e ∙ (due_inside f).0))
      go false false e f = within e

  order_next : 1 ≤ pick (is_due s) 0 (reg s clock_row order_mark_place) → reg s clock_row order_schedule_place < schedules sheet
  order_next = go (is_due s)
    where
      go : (d : Bool) → 1 ≤ pick d 0 (reg s clock_row order_mark_place) → reg s clock_row order_schedule_place < schedules sheet
      go true p = absurd (omega arith)
      go false p = x.order_inside p

  pub cycle_parts : SoundParts sheet next
  cycle_parts =
      let r = clock_after s m in
      record {
        sheet_fits = rw (sheet_length_kept s m) x.sheet_fits;
        sheet_passes = x.sheet_passes;
        schedule_inside = rw r.schedule schedule_next;
        cycle_inside = rw (r.cycle, r.schedule) cycle_next;
        order_known = rw r.order_mark (pick_high (is_due s) 1 (omega arith) x.order_known);
        order_inside = rw (r.order_mark, r.order_schedule) order_next;
        transfers = transfer_next;
        routers = λ k l. subst (RouterParts next) (div-add-mod' k 5) (router_next (k / 5) (k % 5) (omega arith) (omega arith));
        extras = extra_next;
        units = unit_next;
      }
