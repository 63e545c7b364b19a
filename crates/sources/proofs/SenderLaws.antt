-- The senders' registers after a cycle: what one circuit writes, and all circuits in turn.
-- Assumes nothing.
use Prim.Native.Nat.{ℕ, ◌+◌, ◌-◌, ◌<◌, ◌≤◌, min}
use mathlib.Core.Bool.{Bool, true, false}
use mathlib.Core.List.{List, []}
use mathlib.Core.Path.{◌≡◌, refl, sym, subst, ◌∙◌, ap, ap₂}
use native.Mathlib.Omega.{arith}
use native.Mathlib.Decide.{dec_lt}
use lib.Bits.{bit_or}
use lib.ListN.{length}
use Rattle.words.specs.Tests.{◌≤?◌, ◌=?◌}
use Rattle.words.specs.Words.{pick, tab}
use Rattle.words.proofs.TestLaws.{and_both, yes≤, no≤}
use Rattle.sheet.specs.Sheet.{circuits, schedules}
use Rattle.sheet.specs.Inner.Passed.{Framed}
use Rattle.sheet.specs.Slots.{entry_beginning, slot_length}
use Rattle.occupancy.specs.Inner.Occupancy.{bit_at, NextTaken}
use Rattle.occupancy.specs.declared.TakenPlaces.{TakenPlaces}
use Rattle.occupancy.proofs.WalkLaws.{On, Begun, Gave, Ended, none_left, next_place}
use Rattle.network.specs.View.{Sender}
use Rattle.network.specs.Cycle.{Move, rests, opens, sends, move, step_sender}
use Rattle.network.specs.Registers.{reg, put, sheet_in, moving_words, clock_row, cycle_place, in_force_place, left_row, read_row, write_row, kind_row, to_go_row, row_count, row_words}
use Rattle.network.specs.Seen.{seen_sender}
use Rattle.network.specs.Inner.Machine.{slot_in, move_in, next_sender, row_in, next_in_row, next_rows}
use Rattle.network.specs.Inner.Paired.{Paired}
use Rattle.network.specs.Inner.Stages.{stage}
use Rattle.network.specs.Inner.Live.{Stays}
use Rattle.network.proofs.PutLaws.{put_same, put_length}
use Rattle.network.proofs.RowCases.{in_rows, ◌besides◌, no_more}
use Rattle.network.proofs.RowLaws.{sender_same}
use Rattle.network.proofs.FillLaws.{Wrote, wrote_one, wrote_more, wrote_stays, wrote_nothing, Staged, stage_start, stage_more, stage_jump, still, beside, staged_sheet, staged_is}
use Rattle.sources.specs.Inner.Acting.{opens_in, Acting}
use Rattle.sources.specs.Inner.Slots.{slot_table}
use Rattle.sources.specs.Inner.Steps.{Sending, Steppable, send_word, sender_put}
use Rattle.sources.proofs.SourceLaws.{open_no, open_rest, none_to_go, moves_open, moves_on, moves_rest, beside_rests, paired_long}
use Rattle.sources.proofs.ActingLaws.{Beside, beside_more, circuit_few}

-- a payload word is sent, from the registers that were read and set
module _ (s : List ℕ) (c left read write remaining : ℕ) where
  abbrev sent : ℕ → ℕ → ℕ → ℕ → List ℕ
  sent l r w t = put (put (put (put s left_row c (l - 1)) read_row c (r + 1)) write_row c (w + 1)) to_go_row c (t - 1)

  pub send_is : left ≡ reg s left_row c → read ≡ reg s read_row c → write ≡ reg s write_row c → remaining ≡ reg s to_go_row c
      → (s₁ s₂ s₃ s₄ : List ℕ) → s₁ ≡ put s left_row c (left - 1) → s₂ ≡ put s₁ read_row c (read + 1)
      → s₃ ≡ put s₂ write_row c (write + 1) → s₄ ≡ put s₃ to_go_row c (remaining - 1) → s₄ ≡ send_word s c
  unfolding send_word
  send_is a b d e s₁ s₂ s₃ s₄ q₁ q₂ q₃ q₄ =
      q₄
      ∙ ap (λ (l : List ℕ). put l to_go_row c (remaining - 1))
      (q₃ ∙ ap (λ (l : List ℕ). put l write_row c (write + 1)) (q₂ ∙ ap (λ (l : List ℕ). put l read_row c (read + 1)) q₁))
      ∙ ap (λ (x : ℕ). sent x read write remaining) a
      ∙ ap (λ (x : ℕ). sent (reg s left_row c) x write remaining) b
      ∙ ap (λ (x : ℕ). sent (reg s left_row c) (reg s read_row c) x remaining) d
      ∙ ap (sent (reg s left_row c) (reg s read_row c) (reg s write_row c)) e

-- what a circuit writes, by the registers and the slot that were read
module _ (s : List ℕ) (c left : ℕ) (a : left ≡ reg s left_row c) where
  put_by : (m : Move) → move_in s c ≡ m → (after : List ℕ) → after ≡ sender_put m s c → after ≡ sender_put (move_in s c) s c
  put_by m e after q = q ∙ ap (λ (x : Move). sender_put x s c) (sym e)

  pub step_none : Sending s c → left ≡ 0 → s ≡ sender_put (move_in s c) s c
  unfolding sender_put
  step_none g h =
      put_by rests (moves_rest s c false (open_no s c left a h) refl (none_to_go s c left a g h)) s refl

  module _ (ne : left ≡ 0 → ⊥) (slot : ℕ) (b : slot ≡ slot_in s c) where
    some : (1 ≤? reg s left_row c) ≡ true
    some = yes≤ (let l : 1 ≤ reg s left_row c = omega (arith, ne) in l)

    pub step_opens : (slot ≡ 0 → ⊥) → (v : ℕ) → v ≡ min (slot - 1) left → (after : List ℕ) → after ≡ put s to_go_row c v
        → after ≡ sender_put (move_in s c) s c
    unfolding sender_put
    step_opens begins v e after q =
        let slots : (1 ≤? slot_in s c) ≡ true = yes≤ (let l : 1 ≤ slot_in s c = omega (arith, begins) in l) in
        put_by opens (moves_open s c true (sym (and_both some slots)) refl) after
        (q ∙ ap (put s to_go_row c) (e ∙ ap₂ (λ (x y : ℕ). min (x - 1) y) b a))

    module _ (h : slot ≡ 0) (remaining : ℕ) (d : remaining ≡ reg s to_go_row c) where
      closed : false ≡ opens_in s c
      closed =
          sym (no≤ (let l : slot < 1 = omega arith in l)) ∙ open_rest s c left a slot b ne

      pub step_rests : remaining ≡ 0 → s ≡ sender_put (move_in s c) s c
      unfolding sender_put
      step_rests q = put_by rests (moves_rest s c false closed refl (sym d ∙ q)) s refl

      pub step_sends : (remaining ≡ 0 → ⊥) → (after : List ℕ) → after ≡ send_word s c → after ≡ sender_put (move_in s c) s c
      unfolding sender_put
      step_sends more after q =
          put_by sends
          (moves_on s c false closed refl
          ∙ ap (λ (x : Bool). pick x sends rests) (yes≤ (let l : 1 ≤ reg s to_go_row c = omega (arith, more) in l))) after q

-- behind its last payload word no word of a packet is to go
pub sent_last : (s : List ℕ) → Paired s (sheet_in s) → (c : ℕ) → c < circuits (sheet_in s) → (remaining : ℕ) → remaining ≡ reg s to_go_row c
    → remaining ≡ 1 → (after : List ℕ) → after ≡ send_word s c → reg after to_go_row c ≡ 0
unfolding send_word
sent_last s g c inside remaining d h after q =
    let one = put s left_row c (reg s left_row c - 1) in
    let two = put one read_row c (reg s read_row c + 1) in
    let three = put two write_row c (reg s write_row c + 1) in
    let whole : length three ≡ length s =
    put_length two write_row c (reg s write_row c + 1) ∙ put_length one read_row c (reg s read_row c + 1) ∙ put_length s left_row c (reg s left_row c - 1) in
    let none : reg s to_go_row c - 1 ≡ 0 = omega arith in
    ap (λ (x : List ℕ). reg x to_go_row c) q
    ∙ put_same three to_go_row c (reg s to_go_row c - 1)
    (omega (arith, whole, paired_long s (sheet_in s) g, circuit_few (sheet_in s) g.framed c inside))
    ∙ none

-- what a circuit writes is its registers after the cycle
module _ (s : List ℕ) (long : moving_words ≤ length s) (c : ℕ) (few : c < row_words) where
  abbrev new : ℕ → ℕ
  new row = next_in_row s [] row c

  -- the registers, by what the circuit does
  record After (m : Move) : Type 0 where
    left_is : new left_row ≡ (step_sender m (slot_in s c) (seen_sender s c)).left
    read_is : new read_row ≡ (step_sender m (slot_in s c) (seen_sender s c)).read_address
    write_is : new write_row ≡ (step_sender m (slot_in s c) (seen_sender s c)).write_address
    kind_is : new kind_row ≡ (step_sender m (slot_in s c) (seen_sender s c)).kind
    going_is : new to_go_row ≡ (step_sender m (slot_in s c) (seen_sender s c)).to_go

  after_by : (m : Move) → move_in s c ≡ m → After m
  unfolding next_in_row row_in next_rows ◌=?◌
  after_by m e = record {
    left_is = ap (λ (x : Move). (step_sender x (slot_in s c) (seen_sender s c)).left) e;
    read_is = ap (λ (x : Move). (step_sender x (slot_in s c) (seen_sender s c)).read_address) e;
    write_is = ap (λ (x : Move). (step_sender x (slot_in s c) (seen_sender s c)).write_address) e;
    kind_is = ap (λ (x : Move). (step_sender x (slot_in s c) (seen_sender s c)).kind) e;
    going_is = ap (λ (x : Move). (step_sender x (slot_in s c) (seen_sender s c)).to_go) e;
  }

  rests_stays : After rests → Stays left_row to_go_row (next_in_row s []) s c
  rests_stays g =
      in_rows (λ (row : ℕ). new row ≡ reg s row c) left_row to_go_row
      (g.left_is besides g.read_is besides g.write_is besides g.kind_is besides g.going_is besides no_more)

  wrote_rests : After rests → Wrote left_row to_go_row c new s s
  wrote_rests g = wrote_nothing left_row to_go_row c new s (rests_stays g)

  wrote_opens : After opens → Wrote left_row to_go_row c new s (put s to_go_row c (min (slot_in s c - 1) (reg s left_row c)))
  wrote_opens g =
      wrote_more left_row kind_row c _ new s s (omega arith) (omega arith) few long
      (wrote_nothing left_row kind_row c new s
      (in_rows (λ (row : ℕ). new row ≡ reg s row c) left_row kind_row
      (g.left_is besides g.read_is besides g.write_is besides g.kind_is besides no_more)))
      (sym g.going_is)

  -- row by row: three are set, the kind stays, the last is set
  wrote_sends : After sends → Wrote left_row to_go_row c new s (send_word s c)
  unfolding send_word
  wrote_sends g =
      wrote_more left_row kind_row c _ new s _ (omega arith) (omega arith) few long
      (wrote_stays left_row write_row c new s _ (omega arith) (omega arith) few
      (wrote_more left_row read_row c _ new s _ (omega arith) (omega arith) few long
      (wrote_more left_row left_row c _ new s _ (omega arith) (omega arith) few long
      (wrote_one left_row c _ new s (omega arith) few long (sym g.left_is))
      (sym g.read_is))
      (sym g.write_is))
      g.kind_is)
      (sym g.going_is)

  wrote_by : (m : Move) → After m → Wrote left_row to_go_row c new s (sender_put m s c)
  unfolding sender_put
  wrote_by rests g = wrote_rests g
  wrote_by opens g = wrote_opens g
  wrote_by sends g = wrote_sends g

  wrote_circuit : Wrote left_row to_go_row c new s (sender_put (move_in s c) s c)
  wrote_circuit = wrote_by (move_in s c) (after_by (move_in s c) refl)

-- after the cycle no words of circuit k's packet are to go
abbrev NoneToGo : List ℕ → ℕ → Type 0
NoneToGo s k = next_in_row s [] to_go_row k ≡ 0

-- the first n circuits have stepped, and of those beside a mask no words are to go
record FirstStepped (s₀ : List ℕ) (count : ℕ) (s : List ℕ) (sending n : ℕ) : Type 0 where
  inside : n ≤ count
  whole : count ≡ circuits (sheet_in s₀)
  staged : Staged left_row to_go_row n (next_in_row s₀ []) s₀ s
  done : Beside (NoneToGo s₀) sending n

-- the same of the circuits before c, which is one of them
pub record Here (s₀ : List ℕ) (count : ℕ) (s : List ℕ) (sending c : ℕ) : Type 0 where
  first : FirstStepped s₀ count s sending c
  below : c < count

-- the same of the circuits that a walk has left behind
pub record Stepping (s₀ : List ℕ) (acting count : ℕ) (s : List ℕ) (sending : ℕ) (walk : TakenPlaces) : Type 0 where
  pub on : On acting count walk
  first : FirstStepped s₀ count s sending walk.from

module _ (s₀ : List ℕ) (p : Steppable s₀) (acting : ℕ) (a : Acting s₀ acting) (count : ℕ) where
  -- a circuit beside the mask of those that act keeps its registers
  beside_stays : (k : ℕ) → k < circuits (sheet_in s₀) → bit_at acting k ≡ 0 → Stays left_row to_go_row (next_in_row s₀ []) s₀ k
  beside_stays k l free =
      let few : k < row_words = omega (arith, circuit_few (sheet_in s₀) p.framed k l) in
      rests_stays s₀ p.long k few (after_by s₀ p.long k few rests (beside_rests s₀ acting a k l free))

  -- all circuits up to the next of the mask
  stepping_next : (s : List ℕ) (sending n next : ℕ) → FirstStepped s₀ count s sending n → NextTaken acting n next → next ≤ count
      → FirstStepped s₀ count s sending next
  stepping_next s sending n next g t h = record {
    inside = h;
    whole = g.whole;
    staged =
        stage_jump left_row to_go_row n next (next_in_row s₀ []) s₀ s (omega arith)
        (omega (arith, g.whole, p.framed.headed.circuits_high)) t.onward g.staged
        (λ k b l. beside_stays k (omega (arith, g.whole)) (t.passed k b l));
    done = λ k l free. go k l free (dec_lt k n);
  }
    where
      go : (k : ℕ) → k < next → bit_at sending k ≡ 0 → Dec (k < n) → NoneToGo s₀ k
      go k l free (yes e) = g.done k e free
      go k l free (no ne) =
          let inside : k < circuits (sheet_in s₀) = omega (arith, g.whole) in
          let passed = t.passed k (omega (arith, ne)) l in
          beside_stays k inside passed to_go_row (omega arith) (omega arith) ∙ a.none_to_go k inside passed

  pub stepping_start : (z : List ℕ) → z ≡ sheet_in s₀ → count ≡ circuits z → (walk : TakenPlaces) → Begun acting count walk
      → Stepping s₀ acting count s₀ 0 walk
  stepping_start z e q walk b = record {
    on = b.on;
    first = record {
      inside = omega arith;
      whole = q ∙ ap circuits e;
      staged = subst (λ (n : ℕ). Staged left_row to_go_row n (next_in_row s₀ []) s₀ s₀) (sym b.at_start) (stage_start left_row to_go_row (next_in_row s₀ []) s₀);
      done = λ k l. absurd (omega (arith, b.at_start));
    };
  }

  module _ (s : List ℕ) (sending : ℕ) (walk : TakenPlaces) (w : Stepping s₀ acting count s sending walk) (after : TakenPlaces) where
    -- behind the last of the mask all have stepped
    module _ (t : Ended walk after) where
      all_stepped : FirstStepped s₀ count s sending count
      all_stepped = stepping_next s sending walk.from count w.first (none_left acting count walk w.on after t) (omega arith)

      pub stepping_done : s ≡ stage left_row to_go_row (circuits (sheet_in s₀)) (next_in_row s₀ []) s₀
      stepping_done =
          staged_is left_row to_go_row count (next_in_row s₀ []) s₀ s p.long all_stepped.staged
          ∙ ap (λ (n : ℕ). stage left_row to_go_row n (next_in_row s₀ []) s₀) all_stepped.whole

      pub stepping_rest : Beside (λ k. reg s to_go_row k ≡ 0) sending (circuits (sheet_in s₀))
      stepping_rest k h free =
          let inside : k < count = omega (arith, all_stepped.whole) in
          all_stepped.staged.done to_go_row k (omega arith) (omega arith) inside ∙ all_stepped.done k inside free

    -- the circuits before the next of the mask have stepped
    pub stepping_to : (c : ℕ) → Gave walk c after → Here s₀ count s sending c
    stepping_to c t =
        let q = next_place acting count walk w.on after c t in
        record { first = stepping_next s sending walk.from c w.first q.next (omega (arith, q.below)); below = q.below }

module _ (s₀ : List ℕ) (p : Steppable s₀) (count : ℕ) (s : List ℕ) (sending : ℕ) where
  module _ (c : ℕ) (w : Here s₀ count s sending c) where
    here : FirstStepped s₀ count s sending c
    here = w.first

    inside_own : c < circuits (sheet_in s₀)
    inside_own = omega (arith, here.whole, w.below)

    few : c < 64
    few = circuit_few (sheet_in s₀) p.framed c inside_own

    sheet_same : sheet_in s ≡ sheet_in s₀
    sheet_same = staged_sheet left_row to_go_row c (next_in_row s₀ []) s₀ s here.staged

    clock_same : (k : ℕ) → k < row_words → reg s clock_row k ≡ reg s₀ clock_row k
    clock_same k h = beside left_row to_go_row c (next_in_row s₀ []) s₀ s here.staged clock_row k (omega arith) h (λ x y. omega arith)

    row_same : (row : ℕ) → row < row_count → reg s row c ≡ reg s₀ row c
    row_same row h = still left_row to_go_row c (next_in_row s₀ []) s₀ s here.staged row c h (omega (arith, few)) (omega arith)

    pub step_paired : Paired s (sheet_in s)
    step_paired =
        let same : schedules (sheet_in s) ≡ schedules (sheet_in s₀) = ap schedules sheet_same in
        record {
          own = refl;
          framed = subst Framed (sym sheet_same) p.framed;
          in_force = omega (arith, p.in_force, clock_same in_force_place (omega arith));
        }

    pub step_table : (slots : List ℕ) → slots ≡ slot_table s₀ → slots ≡ slot_table s
    unfolding slot_table
    step_table slots t =
        t
        ∙ sym
        (ap (λ (x : List ℕ). tab 64 (entry_beginning x (reg s clock_row in_force_place) (reg s clock_row cycle_place))) sheet_same
        ∙ ap₂ (λ (j k : ℕ). tab 64 (entry_beginning (sheet_in s₀) j k)) (clock_same in_force_place (omega arith)) (clock_same cycle_place (omega arith)))

    pub step_inside : c < circuits (sheet_in s)
    step_inside = subst (λ (x : List ℕ). c < circuits x) (sym sheet_same) inside_own

    pub step_sending : Sending s c
    step_sending =
        let before = p.sending c inside_own in
        let a = row_same left_row (omega arith) in
        let b = row_same read_row (omega arith) in
        let d = row_same write_row (omega arith) in
        let e = row_same to_go_row (omega arith) in
        record {
          some_left = λ h. let x = before.some_left (omega arith) in omega arith;
          read_rises = λ h. let x = before.read_rises (omega arith) in omega arith;
          write_rises = λ h. let x = before.write_rises (omega arith) in omega arith;
        }

    slot_same : slot_in s c ≡ slot_in s₀ c
    unfolding slot_in
    slot_same =
        ap (λ (x : List ℕ). slot_length x (reg s clock_row in_force_place) (reg s clock_row cycle_place) c) sheet_same
        ∙ ap₂ (λ (j k : ℕ). slot_length (sheet_in s₀) j k c) (clock_same in_force_place (omega arith)) (clock_same cycle_place (omega arith))

    sender_kept : seen_sender s c ≡ seen_sender s₀ c
    sender_kept =
        sender_same (seen_sender s c) (seen_sender s₀ c) (row_same left_row (omega arith)) (row_same read_row (omega arith))
        (row_same write_row (omega arith)) (row_same kind_row (omega arith)) (row_same to_go_row (omega arith))

    next_same : next_sender s c ≡ next_sender s₀ c
    next_same = ap₂ (λ (slot : ℕ) (x : Sender). step_sender (move slot x) slot x) slot_same sender_kept

    rows_same : (row : ℕ) → left_row ≤ row → row ≤ to_go_row → next_in_row s [] row c ≡ next_in_row s₀ [] row c
    unfolding next_in_row row_in next_rows ◌=?◌
    rows_same =
        in_rows (λ (row : ℕ). next_in_row s [] row c ≡ next_in_row s₀ [] row c) left_row to_go_row (
        ap (λ (x : Sender). x.left) next_same
        besides ap (λ (x : Sender). x.read_address) next_same
        besides ap (λ (x : Sender). x.write_address) next_same
        besides ap (λ (x : Sender). x.kind) next_same
        besides ap (λ (x : Sender). x.to_go) next_same
        besides no_more
        )

    wrote_same : Wrote left_row to_go_row c (λ row. next_in_row s₀ [] row c) s (sender_put (move_in s c) s c)
    wrote_same =
        let w = wrote_circuit s (omega (arith, p.long, here.staged.same_length)) c (omega (arith, few)) in
        record {
          same_length = w.same_length;
          same_rest = w.same_rest;
          written = λ row x y. w.written row x y ∙ rows_same row x y;
          elsewhere = w.elsewhere;
        }

    pub stepping_more : (after : List ℕ) → after ≡ sender_put (move_in s c) s c → (more : ℕ) → (bit_at more c ≡ 0 → reg after to_go_row c ≡ 0)
        → (acting : ℕ) (walk : TakenPlaces) → On acting count walk → walk.from ≡ c + 1 → Stepping s₀ acting count after (bit_or sending more) walk
    stepping_more after e more h acting walk on f =
        let staged = stage_more left_row to_go_row c (next_in_row s₀ []) s₀ s after (omega arith) (omega (arith, few)) here.staged
        (subst (Wrote left_row to_go_row c (λ row. next_in_row s₀ [] row c) s) (sym e) wrote_same) in
        record {
          on = on;
          first = subst (FirstStepped s₀ count after (bit_or sending more)) (sym f) (record {
            inside = omega (arith, w.below);
            whole = here.whole;
            staged = staged;
            done = beside_more (NoneToGo s₀) sending more c here.done
                (λ free. sym (staged.done to_go_row c (omega arith) (omega arith) (omega arith)) ∙ h free);
          });
        }
