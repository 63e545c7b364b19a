-- The whole output: what stands at which place of it, by the message, and how long it is.
-- Assumes nothing.
use Prim.Native.Nat.{ℕ, zero, suc, ◌+◌, ◌*◌, ◌≤◌}
use mathlib.Core.Bool.{false, false≢true}
use mathlib.Core.List.{List, [], ◌++◌, append_assoc, append-nil}
use mathlib.Core.Path.{◌≡◌, refl, sym, ◌∙◌, ap}
use native.Mathlib.Omega.{arith}
use native.Mathlib.Nat.{add-zero, add-suc}
use lib.ListN.{length, take, drop, replicate, length-append, take-append-drop}
use lib.Seq.{take-append_seam, drop_at, length-take-le}
use Rattle.sheet.specs.Sheet.{meant, nodes}
use Rattle.network.specs.Registers.{sheet_in, state_words}
use Rattle.soundness.proofs.SheetLaws.{sheet_bounds}
use Rattle.session.specs.Calls.{memory_number, Lent, cycle, after, lend}
use Rattle.listing.specs.Text.{line_end, field}
use Rattle.listing.proofs.TextLaws.{field_short}
use Rattle.std.specs.Prelude.{Err}
use Rattle.refusal.specs.declared.Refusal.{Refusal}
use Rattle.refusal.specs.Numbers.{refusal_number}
use Rattle.refusal.proofs.AnswerLaws.{is_some}
use Rattle.listing.specs.declared.complaint.Complaint.{Complaint}
use Rattle.listing.specs.declared.complaint.Complaint.TheVariants.{TooLarge as TooLargeComplaint, InputEnds as InputEndsComplaint, Refused as RefusedComplaint}
use Rattle.listing.specs.Complaints.{complaint_line}
use Rattle.landings.specs.Input.{sheet_of, memory_of, cycles_asked}
use Rattle.landings.specs.Messages.{Message, TooLarge, InputEnds, Refused, Runs, said, input_message, calls, refusal_of, message, behind}
use Rattle.landings.specs.Inner.Ended.{calls_message, cycles_listed, cycles_run, at_end, Halted}
use Rattle.landings.specs.Lines.{cycle_lines, cycles_lines, cycles_on, carried_out, last_line}
use Rattle.listing.specs.Text.{too_large, input_ends, refused}
use Rattle.landings.specs.Output.{heading, before_cycles, all_lines, printed, printout, HasAt}
use Rattle.landings.proofs.MessageLaws.{whole, is_runs}
use Rattle.landings.proofs.PageLaws.{lines_short}
use Rattle.landings.proofs.CarriedLaws.{carried_most, last_short}
use Rattle.landings.proofs.CallLaws.{calls_ready, calls_sheet}

-- a text has a part between two others
pub has_between : (before part behind : List ℕ) {text : List ℕ} {place : ℕ}
    → text ≡ before ++ (part ++ behind)
    → place ≡ length before
    → HasAt text place part
has_between before part behind {text} {place} e p =
    let long : length text ≡ length before + (length part + length behind) =
    ap length e ∙ length-append before (part ++ behind) ∙ ap (λ n. length before + n) (length-append part behind) in (
      omega (arith, long, p),
      ap (λ (x : List ℕ). take (length part) (drop place x)) e
          ∙ ap (λ (x : List ℕ). take (length part) x) (drop_at before (part ++ behind) place (sym p))
          ∙ take-append_seam part behind,
    )

pub has_front : (part behind : List ℕ) {text : List ℕ} {place : ℕ} → text ≡ part ++ behind → place ≡ 0 → HasAt text place part
has_front part behind e p = has_between [] part behind e p

pub has_whole : (part : List ℕ) {text : List ℕ} {place : ℕ} → text ≡ part → place ≡ 0 → HasAt text place part
has_whole part e p = has_front part [] (e ∙ sym (append-nil part)) p

pub has_back : (before part : List ℕ) {text : List ℕ} {place : ℕ} → text ≡ before ++ part → place ≡ length before → HasAt text place part
has_back before part e p = has_between before part [] (e ∙ ap (λ (x : List ℕ). before ++ x) (sym (append-nil part))) p

-- and where it has two parts one behind the other, it has each
module _ (a b text : List ℕ) (place : ℕ) (h : HasAt text place (a ++ b)) where
  behind_both : List ℕ
  behind_both = drop (length (a ++ b)) (drop place text)

  split : text ≡ take place text ++ (a ++ (b ++ behind_both))
  unfolding behind_both
  split =
      sym (take-append-drop place text)
      ∙ ap (λ (x : List ℕ). take place text ++ x)
      (sym (take-append-drop (length (a ++ b)) (drop place text))
      ∙ ap (λ (x : List ℕ). x ++ drop (length (a ++ b)) (drop place text)) h.1
      ∙ append_assoc a b (drop (length (a ++ b)) (drop place text)))

  front_long : length (take place text) ≡ place
  front_long = length-take-le place text (omega (arith, h.0))

  pub has_first : HasAt text place a
  has_first = has_between (take place text) a (b ++ behind_both) split (sym front_long)

  pub has_second : {next : ℕ} → next ≡ place + length a → HasAt text next b
  has_second q =
      has_between (take place text ++ a) b behind_both
      (split ∙ sym (append_assoc (take place text) a (b ++ behind_both)))
      (omega (arith, q, front_long, length-append (take place text) a))

-- an input that runs: its words are all there, and no call before the cycles is refused
both_run : (a b : Message) → behind a b ≡ Runs → (a ≡ Runs) × (b ≡ Runs)
both_run TooLarge b e = absurd (false≢true (ap is_runs e))
both_run InputEnds b e = absurd (false≢true (ap is_runs e))
both_run (Refused n) b e = absurd (false≢true (ap is_runs e))
both_run Runs b e = (refl, e)

none_refused : (n : ℕ) → refusal_of n ≡ Runs → n ≡ 0
none_refused zero e = refl
none_refused (suc n) e = absurd (false≢true (ap is_runs e))

pub runs_whole : (bytes : List ℕ) → message bytes ≡ Runs → input_message bytes ≡ Runs
unfolding message
runs_whole bytes e = (both_run (input_message bytes) (calls_message bytes) e).0

pub runs_called : (bytes : List ℕ) → message bytes ≡ Runs → (calls bytes).refusal ≡ 0
unfolding message
runs_called bytes e = none_refused (calls bytes).refusal (both_run (input_message bytes) (calls_message bytes) e).1

-- a message that is no listing comes of the input alone
pub message_stops : (bytes : List ℕ) (v : Message) → is_runs v ≡ false → input_message bytes ≡ v → message bytes ≡ v
unfolding message
message_stops bytes v n e = ap (λ (x : Message). behind x (calls_message bytes)) e ∙ stays v n
  where
    stays : (v : Message) → is_runs v ≡ false → behind v (calls_message bytes) ≡ v
    stays TooLarge n = refl
    stays InputEnds n = refl
    stays (Refused k) n = refl
    stays Runs n = absurd (false≢true (sym n))

-- the output of each message
pub output_is : (bytes : List ℕ) {v : Message} → message bytes ≡ v → printout bytes ≡ printed v (all_lines bytes)
unfolding printout
output_is bytes e = ap (λ (x : Message). printed x (all_lines bytes)) e

-- cycles and lines, some behind others
pub cycles_behind : (j k : ℕ) (w : Lent) → cycles_on (j + k) w ≡ cycles_on k (cycles_on j w)
unfolding cycles_on
cycles_behind j zero w = rw add-zero refl
cycles_behind j (suc k) w = rw (add-suc j k) (ap (after cycle) (cycles_behind j k w))

pub lines_behind : (nodes first j k : ℕ) (w : Lent)
    → cycles_lines nodes first (j + k) w ≡ cycles_lines nodes first j w ++ cycles_lines nodes (first + j) k (cycles_on j w)
unfolding cycles_lines
lines_behind nodes first j zero w = rw add-zero (sym (append-nil (cycles_lines nodes first j w)))
lines_behind nodes first j (suc k) w =
    let same : cycles_on (suc (j + k)) w ≡ cycles_on (suc k) (cycles_on j w) = ap (λ n. cycles_on n w) (sym (add-suc j k)) ∙ cycles_behind j (suc k) w in
    let time : first + (j + k) ≡ first + j + k = omega arith in
    rw (add-suc j k)
    (ap (λ (x : List ℕ). x ++ cycle_lines nodes (first + (j + k)) (cycles_on (suc (j + k)) w).state) (lines_behind nodes first j k w)
    ∙ ap (λ (x : Lent). cycles_lines nodes first j w ++ cycles_lines nodes (first + j) k (cycles_on j w) ++ cycle_lines nodes (first + (j + k)) x.state) same
    ∙ ap (λ n. cycles_lines nodes first j w ++ cycles_lines nodes (first + j) k (cycles_on j w) ++ cycle_lines nodes n (cycles_on (suc k) (cycles_on j w)).state) time
    ∙ append_assoc (cycles_lines nodes first j w) (cycles_lines nodes (first + j) k (cycles_on j w)) (cycle_lines nodes (first + j + k) (cycles_on (suc k) (cycles_on j w)).state))

-- the output is no longer than 16 lines of 60 bytes a cycle, and the heading
all_short : (nodes first k : ℕ) (w : Lent) → nodes ≤ 16 → length (cycles_lines nodes first k w) ≤ 960 * k
unfolding cycles_lines
all_short nodes first zero w few = omega arith
all_short nodes first (suc k) w few =
    omega (
      arith,
      few,
      all_short nodes first k w few,
      lines_short nodes (first + k) (cycles_on (suc k) w).state,
      length-append (cycles_lines nodes first k w) (cycle_lines nodes (first + k) (cycles_on (suc k) w).state),
    )

pub output_short : (bytes : List ℕ) → length (printout bytes) ≤ 62914609
unfolding printout too_large input_ends refused heading all_lines
output_short bytes = go (message bytes) refl
  where
    go : (v : Message) → message bytes ≡ v → length (printed v (all_lines bytes)) ≤ 62914609
    go TooLarge e = omega arith
    go InputEnds e = omega arith
    go (Refused n) e = omega (arith, length-append refused (field n line_end), field_short n line_end)
    go Runs e =
        let w = whole bytes (runs_whole bytes e) in
        let few : nodes (meant (sheet_of bytes)) ≤ 16 = (sheet_bounds (meant (sheet_of bytes)) w.passes).few_nodes in
        let lines = cycles_lines (nodes (meant (sheet_of bytes))) 0 (cycles_listed bytes) (before_cycles bytes) in
        omega (
          arith,
          w.few_cycles,
          carried_most (cycles_asked bytes) (before_cycles bytes),
          length-append heading (all_lines bytes),
          length-append lines (last_line (cycles_asked bytes) (before_cycles bytes)),
          all_short (nodes (meant (sheet_of bytes))) 0 (cycles_listed bytes) (before_cycles bytes) few,
          last_short (cycles_asked bytes) (before_cycles bytes),
        )

-- an input that earns a complaint
is_no_run : (c : Complaint) → is_runs (said {A = Unit {0}} (Err c)) ≡ false
is_no_run TooLargeComplaint = refl
is_no_run InputEndsComplaint = refl
is_no_run (RefusedComplaint e) = refl

complained : (bytes : List ℕ) (c : Complaint) → message bytes ≡ said {A = Unit {0}} (Err c) → printout bytes ≡ complaint_line c
complained bytes TooLargeComplaint e = output_is bytes e
complained bytes InputEndsComplaint e = output_is bytes e
complained bytes (RefusedComplaint r) e = output_is bytes e

pub input_complains : (bytes : List ℕ) (c : Complaint) → said {A = Unit {0}} (Err c) ≡ input_message bytes → printout bytes ≡ complaint_line c
input_complains bytes c e = complained bytes c (message_stops bytes (said {A = Unit {0}} (Err c)) (is_no_run c) (sym e))

-- the message from the number of the load and the starts
pub refusal_is : (bytes : List ℕ) (e : Refusal) → refusal_of (refusal_number e) ≡ message bytes → message bytes ≡ Refused (refusal_number e)
refusal_is bytes e h = go (refusal_number e) (is_some e) h
  where
    go : (n : ℕ) → (n ≡ 0 → ⊥) → refusal_of n ≡ message bytes → message bytes ≡ Refused n
    go zero ne h = absurd (ne refl)
    go (suc n) ne h = sym h

-- the lent words before the cycles, and at the end
pub before_is : (bytes : List ℕ) {s m : List ℕ} → s ≡ (calls bytes).state → m ≡ memory_of bytes → lend s m ≡ before_cycles bytes
unfolding before_cycles
before_is bytes {s} {m} e f = ap (λ (x : List ℕ). lend x m) e ∙ ap (λ (x : List ℕ). lend (calls bytes).state x) f

pub end_refused : (bytes : List ℕ) (n : ℕ) {w : Lent} → message bytes ≡ Refused n → w ≡ before_cycles bytes → w ≡ at_end bytes
unfolding at_end cycles_on
end_refused bytes n e f = f ∙ sym (ap (λ (x : Message). cycles_on (cycles_run x (cycles_listed bytes)) (before_cycles bytes)) e)

pub end_runs : (bytes : List ℕ) {w : Lent} → message bytes ≡ Runs → w ≡ cycles_on (cycles_listed bytes) (before_cycles bytes) → w ≡ at_end bytes
unfolding at_end
end_runs bytes e f = f ∙ sym (ap (λ (x : Message). cycles_on (cycles_run x (cycles_listed bytes)) (before_cycles bytes)) e)

-- the words are ready for the cycles
pub before_ready : (bytes : List ℕ) {s m : List ℕ} → message bytes ≡ Runs → lend s m ≡ before_cycles bytes → memory_number s m ≡ 0
unfolding before_cycles calls
before_ready bytes e f =
    ap (λ (x : Lent). memory_number x.state x.memory) f
    ∙ calls_ready bytes (replicate state_words 0) (memory_of bytes) (runs_called bytes e)

-- and hold the input's sheet
pub before_sheet : (bytes : List ℕ) → message bytes ≡ Runs → sheet_in (before_cycles bytes).state ≡ meant (sheet_of bytes)
unfolding before_cycles calls
before_sheet bytes e = calls_sheet bytes (replicate state_words 0) (memory_of bytes) (runs_called bytes e)

-- the output is the heading and the lines, by the nodes and cycles of the input
pub lines_are : (bytes : List ℕ) (n last : ℕ) → message bytes ≡ Runs → n ≡ nodes (meant (sheet_of bytes)) → last ≡ cycles_asked bytes
    → printout bytes
    ≡ heading ++ (cycles_lines n 0 (carried_out last (before_cycles bytes)) (before_cycles bytes) ++ last_line last (before_cycles bytes))
unfolding all_lines
lines_are bytes n last e p q =
    let w = before_cycles bytes in
    output_is bytes e
    ∙ ap (λ k. heading ++ (cycles_lines k 0 (cycles_listed bytes) w ++ last_line (cycles_asked bytes) w)) (sym p)
    ∙ ap (λ k. heading ++ (cycles_lines n 0 (carried_out k w) w ++ last_line k w)) (sym q)

pub few_nodes : (bytes : List ℕ) {n : ℕ} → message bytes ≡ Runs → n ≡ nodes (meant (sheet_of bytes)) → n ≤ 16
few_nodes bytes e p = omega (arith, p, (sheet_bounds (meant (sheet_of bytes)) (whole bytes (runs_whole bytes e)).passes).few_nodes)

-- the heading
pub heading_has : (bytes : List ℕ) {place : ℕ} → message bytes ≡ Runs → place ≡ 0 → HasAt (printout bytes) place heading
heading_has bytes e p = has_front heading (all_lines bytes) (output_is bytes e) p

-- writing fails before the first cycle
pub none_listed : (bytes : List ℕ) {place : ℕ} {w : Lent} → place ≤ length (printout bytes) → w ≡ before_cycles bytes → Halted bytes place w
unfolding cycles_on
none_listed bytes l e = record {
  within = l;
  cycles = 0;
  few = omega arith;
  words = e;
}
