-- Soundness is given by a load, and kept by every call that is carried out.
-- Assumes nothing.
use Rattle.std.proofs.Common.{◌≡◌, ℕ, ◌*◌, ◌<◌, ◌≤◌, Bool, true, false, List, length, sym, refl, ◌∙◌, subst, arith, length-set}
use mathlib.Core.Bool.{false≢true}
use native.Mathlib.Decide.{ℕ_discrete}
use Rattle.words.specs.Tests.{◌=?◌}
use Rattle.words.specs.Words.{pick}
use Rattle.words.proofs.TestLaws.{is=, yes≤}
use Rattle.words.proofs.NumberLaws.{zero_then, zero_unless}
use Rattle.sheet.specs.declared.circuits.Circuit.{Circuit}
use Rattle.sheet.specs.Sheet.{meant, circuits, nodes, circuit_at}
use Rattle.sheet.specs.Rules.{verdict}
use Rattle.network.specs.Registers.{reg, sheet_in, clock_row, cycle_place, in_force_place, order_mark_place, order_schedule_place, link_mark, link_word}
use Rattle.network.specs.Registers.{head_mark, head_word, choice_row, latch_row, out_mark, out_word, receive_mark, receive_kind, landing_mark, left_row}
use Rattle.network.specs.Registers.{read_row, write_row, kind_row, to_go_row, row_words, landing_word, extra_mark, extra_word, state_words}
use Rattle.network.specs.Seen.{seen_sender}
use Rattle.network.specs.Inner.Machine.{next_state}
use Rattle.network.proofs.RowLaws.{sender_same, sheet_kept}
use Rattle.network.proofs.StepLaws.{state_length, memory_length}
use Rattle.soundness.specs.Sound.{sound}
use Rattle.session.specs.Calls.{state_number, load_words_number, start_number, order_number, cycle_number, loaded, started, ordered, stored, Lent, Call}
use Rattle.session.specs.Calls.{load, start, start_all, store, fetch, left, period_number, what_landed, order, cycle, number, does, after, is_load, Question, ask}
use Rattle.session.specs.Calls.{question_number}
use Rattle.session.proofs.NumberLaws.{state_passed, load_passed, StartPassed, start_passed, list_passed, place_passed, left_passed, landed_passed, OrderPassed, order_passed, cycle_passed}
use Rattle.soundness.proofs.SoundLaws.{beside, CellParts, cell_none, TransferParts, RouterParts, NodeParts, SoundParts, sound_parts, sound_on}
use Rattle.soundness.proofs.SheetLaws.{SheetBounds, sheet_bounds, period_some}
pub use Rattle.session.proofs.RegisterLaws.{loaded_sheet}
use Rattle.session.proofs.RegisterLaws.{loaded_sheet_length, loaded_register, loaded_length, started_other, started_sender, started_sheet}
use Rattle.session.proofs.RegisterLaws.{started_sheet_length, started_length, ordered_other, ordered_mark, ordered_schedule, ordered_sheet}
use Rattle.session.proofs.RegisterLaws.{ordered_sheet_length, ordered_length}
use Rattle.session.proofs.CycleLaws.{cycle_parts}
use Rattle.session.proofs.ListLaws.{all_has}

-- load: every register is 0
module _ (z s : List ℕ) (b : SheetBounds z) where
  load_transfer : (c : ℕ) → c < circuits z → TransferParts (circuit_at z c) (seen_sender (loaded z s) c)
  load_transfer c l =
      let none_left = loaded_register z s left_row c (omega arith) (omega arith) in
      let none_to_go = loaded_register z s to_go_row c (omega arith) (omega arith) in
      record {
        to_go_at = omega arith;
        travels = λ p. absurd (omega arith);
        single = λ p q. absurd (omega arith);
        reads = λ p. absurd (omega arith);
        writes = λ p. absurd (omega arith);
      }

  load_router : (k : ℕ) → k < nodes z * 5 → RouterParts (loaded z s) k
  load_router k l =
      let inside : k < row_words = omega arith in
      let latch = loaded_register z s latch_row k (omega arith) inside in
      let head = loaded_register z s head_mark k (omega arith) inside in
      record {
        link = rw (loaded_register z s link_mark k (omega arith) inside) (cell_none _);
        head = rw (loaded_register z s head_mark k (omega arith) inside) (cell_none _);
        out = rw (loaded_register z s out_mark k (omega arith) inside) (cell_none _);
        choice = λ p. absurd (omega arith);
        latch = omega arith;
      }

  load_extra : (k : ℕ) → k < nodes z * 5 → CellParts (reg (loaded z s) extra_mark k) (reg (loaded z s) extra_word k)
  load_extra k l = rw (loaded_register z s extra_mark k (omega arith) (omega arith)) (cell_none _)

  load_unit : (n : ℕ) → n < nodes z → NodeParts (loaded z s) n
  load_unit n l =
      let receiving = loaded_register z s receive_mark n (omega arith) (omega arith) in
      let landing = loaded_register z s landing_mark n (omega arith) (omega arith) in
      record { receiving = omega arith; travels = λ p. absurd (omega arith); landing = omega arith }

  load_parts : verdict z ≡ 0 → SoundParts z (loaded z s)
  load_parts e =
      let same_cycle = loaded_register z s clock_row cycle_place (omega arith) (omega arith) in
      let same_schedule = loaded_register z s clock_row in_force_place (omega arith) (omega arith) in
      let no-order = loaded_register z s clock_row order_mark_place (omega arith) (omega arith) in
      record {
        sheet_fits = omega (arith, loaded_sheet_length z s);
        sheet_passes = e;
        schedule_inside = omega arith;
        cycle_inside = rw (same_cycle, same_schedule) (period_some z b 0 (omega arith));
        order_known = omega arith;
        order_inside = λ p. absurd (omega arith);
        transfers = load_transfer;
        routers = load_router;
        extras = λ k l has. load_extra k l;
        units = load_unit;
      }

-- a state that holds a sheet as load puts it is sound where the sheet keeps 1 to 11; 26 is not asked
pub loaded_sound : (z s : List ℕ) → verdict z ≡ 0 → sound (loaded z s) ≡ true
loaded_sound z s e = sound_on z (loaded z s) (loaded_sheet z s) (load_parts z s (sheet_bounds z e) e)

pub load_sound : (z s m : List ℕ) → load_words_number z s m ≡ 0 → sound (loaded z s) ≡ true
load_sound z s m e = loaded_sound z s (load_passed z s m e).passes

pub load_length : (z s m : List ℕ) → load_words_number z s m ≡ 0 → length (loaded z s) ≡ length s
load_length z s m e =
    let p = load_passed z s m e in
    loaded_length z s (sheet_bounds z p.passes) p.long

-- a state whose registers of routers and nodes are those of another
module _ (s t : List ℕ) where
  router_same : (k : ℕ) → ((row : ℕ) → link_mark ≤ row → row ≤ out_word → reg t row k ≡ reg s row k) → RouterParts s k → RouterParts t k
  router_same k same x =
      let head = same head_mark (omega arith) (omega arith) in
      let choice = same choice_row (omega arith) (omega arith) in
      let latch = same latch_row (omega arith) (omega arith) in
      record {
        link = rw (same link_mark (omega arith) (omega arith), same link_word (omega arith) (omega arith)) x.link;
        head = rw (same head_mark (omega arith) (omega arith), same head_word (omega arith) (omega arith)) x.head;
        out = rw (same out_mark (omega arith) (omega arith), same out_word (omega arith) (omega arith)) x.out;
        choice = λ p. omega (arith, x.choice (omega arith));
        latch = omega arith;
      }

  extra_same : (k : ℕ) → ((row : ℕ) → extra_mark ≤ row → row ≤ extra_word → reg t row k ≡ reg s row k)
      → CellParts (reg s extra_mark k) (reg s extra_word k) → CellParts (reg t extra_mark k) (reg t extra_word k)
  extra_same k same x = rw (same extra_mark (omega arith) (omega arith), same extra_word (omega arith) (omega arith)) x

  unit_same : (n : ℕ) → ((row : ℕ) → receive_mark ≤ row → row ≤ landing_word → reg t row n ≡ reg s row n) → NodeParts s n → NodeParts t n
  unit_same n same x =
      let receiving = same receive_mark (omega arith) (omega arith) in
      let landing = same landing_mark (omega arith) (omega arith) in
      record {
        receiving = omega arith;
        travels = λ p. rw (same receive_kind (omega arith) (omega arith)) (x.travels (omega arith));
        landing = omega arith;
      }

  transfer_same : (c : ℕ) (circuit : Circuit) → ((row : ℕ) → left_row ≤ row → row ≤ to_go_row → reg t row c ≡ reg s row c)
      → TransferParts circuit (seen_sender s c) → TransferParts circuit (seen_sender t c)
  transfer_same c circuit same x =
      subst (TransferParts circuit)
      (sym (sender_same (seen_sender t c) (seen_sender s c) (same left_row (omega arith) (omega arith)) (same read_row (omega arith) (omega arith))
      (same write_row (omega arith) (omega arith)) (same kind_row (omega arith) (omega arith)) (same to_go_row (omega arith) (omega arith))))
      x

-- start: the circuit's transfer is new, all else stays
module _ (s : List ℕ) (circuit read_address write_address count kind : ℕ)
    (p : StartPassed s circuit read_address write_address count kind) where
  abbrev sheet : List ℕ
  sheet = sheet_in s

  abbrev begun : List ℕ
  begun = started s circuit read_address write_address count kind

  start_new : TransferParts (circuit_at sheet circuit) (seen_sender s circuit)
      → TransferParts (circuit_at sheet circuit)
      (record { left = count; read_address = read_address; write_address = write_address; kind = kind; to_go = reg s to_go_row circuit })
  start_new x = record {
    to_go_at = omega (arith, x.to_go_at, p.free);
    travels = λ l. p.travels;
    single = λ l k. omega (arith, is= count 1 (beside kind p.single k));
    reads = λ l. p.reads;
    writes = λ l. p.writes;
  }

  start_transfer : circuit < row_words → (c : ℕ) → c < row_words → Dec (c ≡ circuit)
      → TransferParts (circuit_at sheet c) (seen_sender s c) → TransferParts (circuit_at sheet c) (seen_sender begun c)
  start_transfer few c inside (yes q) x =
      subst (λ k. TransferParts (circuit_at sheet k) (seen_sender begun k)) (sym q)
      (subst (TransferParts (circuit_at sheet circuit))
      (sym (started_sender s circuit read_address write_address count kind few (omega (arith, p.state.long))))
      (start_new (subst (λ k. TransferParts (circuit_at sheet k) (seen_sender s k)) q x)))
  start_transfer few c inside (no q) x =
      transfer_same s begun c (circuit_at sheet c)
      (λ row low high. started_other s circuit read_address write_address count kind few row c inside (λ a b e. q e)) x

  start_parts : SheetBounds sheet → SoundParts sheet s → SoundParts sheet begun
  start_parts b x =
      let few : circuit < row_words = omega (arith, p.circuit_inside) in
      let other = started_other s circuit read_address write_address count kind few in
      let same_cycle = other clock_row cycle_place (omega arith) (λ a b e. omega arith) in
      let same_schedule = other clock_row in_force_place (omega arith) (λ a b e. omega arith) in
      let same_mark = other clock_row order_mark_place (omega arith) (λ a b e. omega arith) in
      let same-order = other clock_row order_schedule_place (omega arith) (λ a b e. omega arith) in
      record {
        sheet_fits = omega (arith, started_sheet_length s circuit read_address write_address count kind few, x.sheet_fits);
        sheet_passes = x.sheet_passes;
        schedule_inside = omega (arith, x.schedule_inside);
        cycle_inside = rw (same_cycle, same_schedule) x.cycle_inside;
        order_known = omega (arith, x.order_known);
        order_inside = λ l. omega (arith, x.order_inside (omega arith));
        transfers = λ c l. start_transfer few c (omega arith) (ℕ_discrete c circuit) (x.transfers c l);
        routers = λ k l. router_same s begun k (λ row low high. other row k (omega arith) (λ a b e. omega arith)) (x.routers k l);
        extras = λ k l has. extra_same s begun k (λ row low high. other row k (omega arith) (λ a b e. omega arith)) (x.extras k l has);
        units = λ n l. unit_same s begun n (λ row low high. other row n (omega arith) (λ a b e. omega arith)) (x.units n l);
      }

-- the circuit of a start that is carried out has its place in every row
pub few_circuit : (s : List ℕ) (circuit read_address write_address count kind : ℕ)
    → start_number s circuit read_address write_address count kind ≡ 0 → circuit < row_words
few_circuit s circuit read_address write_address count kind e =
    let p = start_passed s circuit read_address write_address count kind e in
    let b = sheet_bounds (sheet_in s) (sound_parts s p.state.is_sound).sheet_passes in
    omega (arith, p.circuit_inside, b.few_circuits)

-- the sheet stays
pub start_sheet : (s : List ℕ) (circuit read_address write_address count kind : ℕ) → start_number s circuit read_address write_address count kind ≡ 0
    → sheet_in (started s circuit read_address write_address count kind) ≡ sheet_in s
start_sheet s circuit read_address write_address count kind e =
    started_sheet s circuit read_address write_address count kind (few_circuit s circuit read_address write_address count kind e)

pub start_kept : (s : List ℕ) (circuit read_address write_address count kind : ℕ)
    → start_number s circuit read_address write_address count kind ≡ 0
    → sound (started s circuit read_address write_address count kind) ≡ true
start_kept s circuit read_address write_address count kind e =
    let p = start_passed s circuit read_address write_address count kind e in
    let x = sound_parts s p.state.is_sound in
    sound_on (sheet_in s) _ (start_sheet s circuit read_address write_address count kind e)
    (start_parts s circuit read_address write_address count kind p (sheet_bounds (sheet_in s) x.sheet_passes) x)

-- order: the order is new, all else stays
order_parts : (s : List ℕ) (schedule period : ℕ) → OrderPassed s schedule period → SheetBounds (sheet_in s)
    → SoundParts (sheet_in s) s → SoundParts (sheet_in s) (ordered s schedule period)
order_parts s schedule period p b x =
    let t = ordered s schedule period in
    let other = ordered_other s schedule period in
    let long = p.state.long in
    let same_cycle = other clock_row cycle_place (omega arith) (λ a b e. omega arith) in
    let same_schedule = other clock_row in_force_place (omega arith) (λ a b e. omega arith) in
    let new-mark = ordered_mark s schedule period (omega arith) in
    let new-order = ordered_schedule s schedule period (omega arith) in
    record {
      sheet_fits = omega (arith, ordered_sheet_length s schedule period, x.sheet_fits);
      sheet_passes = x.sheet_passes;
      schedule_inside = omega (arith, x.schedule_inside);
      cycle_inside = rw (same_cycle, same_schedule) x.cycle_inside;
      order_known = omega arith;
      order_inside = λ l. omega (arith, p.schedule_inside);
      transfers = λ c l. transfer_same s t c _ (λ row low high. other row c (omega arith) (λ a b e. omega arith)) (x.transfers c l);
      routers = λ k l. router_same s t k (λ row low high. other row k (omega arith) (λ a b e. omega arith)) (x.routers k l);
      extras = λ k l has. extra_same s t k (λ row low high. other row k (omega arith) (λ a b e. omega arith)) (x.extras k l has);
      units = λ n l. unit_same s t n (λ row low high. other row n (omega arith) (λ a b e. omega arith)) (x.units n l);
    }

pub order_kept : (s : List ℕ) (schedule period : ℕ) → order_number s schedule period ≡ 0 → sound (ordered s schedule period) ≡ true
order_kept s schedule period e =
    let p = order_passed s schedule period e in
    let x = sound_parts s p.state.is_sound in
    sound_on (sheet_in s) _ (ordered_sheet s schedule period)
    (order_parts s schedule period p (sheet_bounds (sheet_in s) x.sheet_passes) x)

-- cycle: soundness alone is enough
pub sound_next : (s m : List ℕ) → sound s ≡ true → sound (next_state s m) ≡ true
sound_next s m e =
    let x = sound_parts s e in
    sound_on (sheet_in s) (next_state s m) (sheet_kept s m) (cycle_parts s m (sheet_bounds (sheet_in s) x.sheet_passes) x)

pub cycle_kept : (s m : List ℕ) → cycle_number s m ≡ 0 → sound (next_state s m) ≡ true
cycle_kept s m e = sound_next s m (cycle_passed s m e).memory.state.is_sound

-- a question that is answered was asked of a sound state
asked_sound : (question : Question) (w : Lent) → question_number question w ≡ 0 → sound w.state ≡ true
asked_sound (fetch node address) w e = (place_passed w.state w.memory node address e).memory.state.is_sound
asked_sound (left circuit) w e = (left_passed w.state circuit e).state.is_sound
asked_sound period_number w e = (state_passed w.state e).is_sound
asked_sound (what_landed node) w e = (landed_passed w.state node e).state.is_sound

-- every call that is carried out leaves a sound state
pub sound_kept : (x : Call) (w : Lent) → number x w ≡ 0 → sound (does x w).state ≡ true
sound_kept (load z) w e = load_sound (meant z) w.state w.memory e
sound_kept (start circuit read_address write_address count kind) w e = start_kept w.state circuit read_address write_address count kind e
sound_kept (start_all ts answer_words) w e =
    all_has (λ s. sound s ≡ true) (λ t s z p. start_kept s t.circuit t.read t.write t.count t.kind z) ts w.state
    (list_passed w.state (length ts) answer_words e).state.is_sound
sound_kept (store node address new) w e = (place_passed w.state w.memory node address e).memory.state.is_sound
sound_kept (order schedule period) w e = order_kept w.state schedule period e
sound_kept cycle w e = cycle_kept w.state w.memory e
sound_kept (ask question) w e = asked_sound question w e

-- so a call leaves a sound state sound, whether it is carried out or refused
pub sound_after : (x : Call) (w : Lent) → sound w.state ≡ true → sound (after x w).state ≡ true
unfolding after
sound_after x w e = go (number x w =? 0) refl
  where
    go : (b : Bool) → (number x w =? 0) ≡ b → sound (pick b (does x w) w).state ≡ true
    go true q = sound_kept x w (is= _ _ q)
    go false q = e

-- and the state and the memory stay as long as they were
pub state_length_kept : (x : Call) (w : Lent) → number x w ≡ 0 → length (does x w).state ≡ length w.state
state_length_kept (load z) w e = load_length (meant z) w.state w.memory e
state_length_kept (start circuit read_address write_address count kind) w e =
    started_length w.state circuit read_address write_address count kind
state_length_kept (start_all ts answer_words) w e =
    all_has (λ s. length s ≡ length w.state) (λ t s z p. started_length s t.circuit t.read t.write t.count t.kind ∙ p)
    ts w.state refl
state_length_kept (store node address new) w e = refl
state_length_kept (ask question) w e = refl
state_length_kept (order schedule period) w e = ordered_length w.state schedule period
state_length_kept cycle w e = state_length w.state w.memory (omega (arith, (cycle_passed w.state w.memory e).memory.state.long))

pub memory_length_kept : (x : Call) (w : Lent) → length (does x w).memory ≡ length w.memory
unfolding stored
memory_length_kept (load z) w = refl
memory_length_kept (start circuit read_address write_address count kind) w = refl
memory_length_kept (start_all ts answer_words) w = refl
memory_length_kept (store node address new) w = length-set w.memory _ new
memory_length_kept (ask question) w = refl
memory_length_kept (order schedule period) w = refl
memory_length_kept cycle w = memory_length w.state w.memory

-- so the state that a call leaves which is carried out passes 12 and 13 again
pub state_passes : (x : Call) (w : Lent) → number x w ≡ 0 → state_number w.state ≡ 0 → state_number (does x w).state ≡ 0
unfolding state_number
state_passes x w e p =
    let long : state_words ≤ length (does x w).state = omega (arith, state_length_kept x w e, (state_passed w.state p).long) in
    zero_then (zero_unless 12 (yes≤ long)) (zero_unless 13 (sound_kept x w e))

-- the sheet changes by a load alone
pub sheet_same : (x : Call) (w : Lent) → is_load x ≡ false → number x w ≡ 0 → sheet_in (does x w).state ≡ sheet_in w.state
sheet_same (load z) w n e = absurd (false≢true (sym n))
sheet_same (start circuit read_address write_address count kind) w n e =
    start_sheet w.state circuit read_address write_address count kind e
sheet_same (start_all ts answer_words) w n e =
    all_has (λ s. sheet_in s ≡ sheet_in w.state) (λ t s z p. start_sheet s t.circuit t.read t.write t.count t.kind z ∙ p)
    ts w.state refl
sheet_same (store node address new) w n e = refl
sheet_same (ask question) w n e = refl
sheet_same (order schedule period) w n e = ordered_sheet w.state schedule period
sheet_same cycle w n e = sheet_kept w.state w.memory
