-- The loop over the pages: each is the next part of the output, and has at least one cycle or ends in a refusal, so that the last ends it.
-- Assumes nothing.
use Prim.Native.Nat.{ℕ, ◌+◌, ◌-◌, ◌≤◌, ◌<◌}
use mathlib.Core.List.{List, ◌++◌, append_assoc, append-nil}
use mathlib.Core.Path.{◌≡◌, sym, ◌∙◌, ap, subst}
use Rattle.std.specs.Prelude.{Result, Err}
use Rattle.refusal.specs.declared.Refusal.{Refusal}
use Rattle.refusal.specs.Numbers.{refusal_number, number_of}
use native.Mathlib.Omega.{arith}
use native.Mathlib.Nat.{add-zero, zero-add}
use native.Mathlib.Decide.{dec_lt}
use lib.ListN.{length, length-append}
use Rattle.sheet.specs.Sheet.{nodes}
use Rattle.network.specs.Registers.{sheet_in}
use Rattle.session.specs.Calls.{memory_number, Lent, lend, cycle, number}
use Rattle.landings.specs.Lines.{cycles_lines, cycles_on, carried_out, refused_line, last_line}
use Rattle.landings.specs.Inner.Pages.{ReadyToList, Paged}
use Rattle.landings.specs.Output.{heading, before_cycles, printout, HasAt}
use Rattle.landings.specs.Inner.Ended.{cycles_listed, Halted}
use Rattle.landings.proofs.CarriedLaws.{carried_past, carried_stop, carried_all, last_none, last_refused}
use Rattle.landings.proofs.OutputLaws.{has_between, has_back, cycles_behind, lines_behind, before_ready, before_sheet, lines_are}
use Rattle.landings.proofs.RestLaws.{cycles_sheet}

pub record Paging (bytes : List ℕ) (n last : ℕ) (s m : List ℕ) (place time : ℕ) : Type 0 where
  pub in_time : time ≤ last
  pub words : lend s m ≡ cycles_on time (before_cycles bytes)
  pub ready : memory_number s m ≡ 0
  pub placed : place ≡ length heading + length (cycles_lines n 0 time (before_cycles bytes))
  pub carried : (j : ℕ) → j < time → number cycle (cycles_on j (before_cycles bytes)) ≡ 0

pub page_start : (bytes : List ℕ) (n last : ℕ) (s m : List ℕ) (place : ℕ)
    → ReadyToList bytes s m n last
    → place ≡ length heading
    → Paging bytes n last s m place 0
unfolding cycles_on cycles_lines
page_start bytes n last s m place g p = record {
  in_time = omega arith;
  words = g.words;
  ready = before_ready bytes g.runs g.words;
  placed = p ∙ sym (add-zero (length heading));
  carried = λ j h. absurd (let z : ⊥ = omega (arith, h) in z);
}

-- the state's sheet has the input's nodes
pub page_nodes : (bytes : List ℕ) (n last : ℕ) (s m : List ℕ) (place time : ℕ) {s₀ m₀ : List ℕ}
    → Paging bytes n last s m place time
    → ReadyToList bytes s₀ m₀ n last
    → n ≡ nodes (sheet_in s)
page_nodes bytes n last s m place time i g =
    g.all_nodes
    ∙ sym (ap nodes
    (ap (λ (w : Lent). sheet_in w.state) i.words
    ∙ cycles_sheet time (before_cycles bytes)
    ∙ before_sheet bytes g.runs))

-- a page more
module _ (bytes : List ℕ) (n last : ℕ) (s m : List ℕ) (place time : ℕ)
    (i : Paging bytes n last s m place time)
    {count refusal : ℕ} (d : Paged time last (lend s m) count refusal) where
  abbrev words₀ : Lent
  words₀ = before_cycles bytes

  still_carried : (j : ℕ) → j < time + count → number cycle (cycles_on j words₀) ≡ 0
  still_carried j h = go (dec_lt j time)
    where
      go : Dec (j < time) → number cycle (cycles_on j words₀) ≡ 0
      go (yes p) = i.carried j p
      go (no p) =
          let e : j ≡ time + (j - time) = omega (arith, p) in
          ap (λ k. number cycle (cycles_on k words₀)) e
          ∙ ap (number cycle) (cycles_behind time (j - time) words₀)
          ∙ ap (λ (w : Lent). number cycle (cycles_on (j - time) w)) (sym i.words)
          ∙ d.is_carried_out (j - time) (omega (arith, p, h))

  -- writing fails behind it
  pub page_halted : {s₀ m₀ : List ℕ} → ReadyToList bytes s₀ m₀ n last
      → {s' m' : List ℕ} {reached : ℕ}
      → lend s' m' ≡ cycles_on count (lend s m)
      → reached ≤ length (printout bytes)
      → Halted bytes reached (lend s' m')
  page_halted g f w = record {
    within = w;
    cycles = time + count;
    few = omega (arith, carried_past last words₀ (time + count) still_carried d.in_time, ap (λ k. carried_out k words₀) g.all_cycles);
    words = f ∙ ap (cycles_on count) i.words ∙ sym (cycles_behind time count words₀);
  }

  module _ {part : List ℕ} (t : part ≡ cycles_lines n time count (lend s m)) where
    page_is : part ≡ cycles_lines n (0 + time) count (cycles_on time words₀)
    page_is =
        t
        ∙ ap (λ (w : Lent). cycles_lines n time count w) i.words
        ∙ ap (λ k. cycles_lines n k count (cycles_on time words₀)) (sym (zero-add time))

    lines_with : cycles_lines n 0 (time + count) words₀ ≡ cycles_lines n 0 time words₀ ++ part
    lines_with =
        lines_behind n 0 time count words₀ ∙ ap (λ (x : List ℕ). cycles_lines n 0 time words₀ ++ x) (sym page_is)

    pub page_has : {s₀ m₀ : List ℕ} → ReadyToList bytes s₀ m₀ n last → HasAt (printout bytes) place part
    page_has g =
        let done = carried_out last words₀ in
        let before = cycles_lines n 0 time words₀ in
        let rest = cycles_lines n (0 + (time + count)) (done - (time + count)) (cycles_on (time + count) words₀) in
        let end = last_line last words₀ in
        let all : time + count + (done - (time + count)) ≡ done = omega (arith, carried_past last words₀ (time + count) still_carried d.in_time) in
        has_between (heading ++ before) part (rest ++ end)
        (lines_are bytes n last g.runs g.all_nodes g.all_cycles
        ∙ ap (λ k. heading ++ (cycles_lines n 0 k words₀ ++ end)) (sym all)
        ∙ ap (λ (x : List ℕ). heading ++ (x ++ end)) (lines_behind n 0 (time + count) (done - (time + count)) words₀)
        ∙ ap (λ (x : List ℕ). heading ++ ((x ++ rest) ++ end)) lines_with
        ∙ ap (λ (x : List ℕ). heading ++ (x ++ end)) (append_assoc before part rest)
        ∙ ap (λ (x : List ℕ). heading ++ x) (append_assoc before (part ++ rest) end)
        ∙ ap (λ (x : List ℕ). heading ++ (before ++ x)) (append_assoc part rest end)
        ∙ sym (append_assoc heading before (part ++ (rest ++ end))))
        (i.placed ∙ sym (length-append heading before))

    pub page_next : {s' m' : List ℕ} {next : ℕ}
        → lend s' m' ≡ cycles_on count (lend s m)
        → memory_number s' m' ≡ 0
        → next ≡ place + length part
        → Paging bytes n last s' m' next (time + count)
    page_next f r p =
        record {
          in_time = d.in_time;
          words = f ∙ ap (cycles_on count) i.words ∙ sym (cycles_behind time count words₀);
          ready = r;
          placed = omega (arith, p, i.placed, ap length lines_with, length-append (cycles_lines n 0 time words₀) part);
          carried = still_carried;
        }

    -- it ends in a refusal: then so does the output
    module _ {s₀ m₀ : List ℕ} (g : ReadyToList bytes s₀ m₀ n last) (ne : refusal ≡ 0 → ⊥) {next : ℕ} (p : next ≡ place + length part) where
      refusal_is : refusal ≡ number cycle (cycles_on (time + count) words₀)
      refusal_is =
          (d.stopped ne).1
          ∙ ap (λ (w : Lent). number cycle (cycles_on count w)) i.words
          ∙ ap (number cycle) (sym (cycles_behind time count words₀))

      stopped : carried_out last words₀ ≡ time + count
      stopped = carried_stop last words₀ (time + count) still_carried (d.stopped ne).0 (λ z. ne (refusal_is ∙ z))

      abbrev lines : List ℕ
      lines = cycles_lines n 0 (time + count) words₀

      output_ends : printout bytes ≡ (heading ++ lines) ++ refused_line refusal
      output_ends =
          lines_are bytes n last g.runs g.all_nodes g.all_cycles
          ∙ ap (λ k. heading ++ (cycles_lines n 0 k words₀ ++ last_line last words₀)) stopped
          ∙ ap (λ (x : List ℕ). heading ++ (lines ++ x))
          (last_refused last words₀ (time + count) refusal stopped (d.stopped ne).0 refusal_is)
          ∙ sym (append_assoc heading lines (refused_line refusal))

      next_placed : next ≡ length (heading ++ lines)
      next_placed =
          omega (
            arith,
            p,
            i.placed,
            ap length lines_with,
            length-append (cycles_lines n 0 time words₀) part,
            length-append heading lines,
          )

      pub refusal_has : HasAt (printout bytes) next (refused_line refusal)
      refusal_has = has_back (heading ++ lines) (refused_line refusal) output_ends next_placed

      pub refusal_done : {end : ℕ} {s' m' : List ℕ}
          → end ≡ next + length (refused_line refusal)
          → lend s' m' ≡ cycles_on count (lend s m)
          → (end ≡ length (printout bytes)) × (lend s' m' ≡ cycles_on (cycles_listed bytes) words₀)
      refusal_done r f = (
        omega (arith, r, next_placed, ap length output_ends, length-append (heading ++ lines) (refused_line refusal)),
        f
            ∙ ap (cycles_on count) i.words
            ∙ sym (cycles_behind time count words₀)
            ∙ ap (λ k. cycles_on k words₀) (sym stopped ∙ ap (λ k. carried_out k words₀) g.all_cycles),
      )

-- what ended a page, by its refusal
pub ended_by : {time last count : ℕ} {w : Lent} (r : Result (Unit {0}) Refusal) (e : Refusal) → r ≡ Err e → Paged time last w count (number_of r)
    → Paged time last w count (refusal_number e)
ended_by {time} {last} {count} {w} r e q d = subst (λ (x : Result (Unit {0}) Refusal). Paged time last w count (number_of x)) q d

-- no cycle is left
pub page_done : (bytes : List ℕ) (n last : ℕ) (s m : List ℕ) (place time : ℕ) {s₀ m₀ : List ℕ}
    → Paging bytes n last s m place time
    → last ≤ time
    → ReadyToList bytes s₀ m₀ n last
    → (place ≡ length (printout bytes)) × (lend s m ≡ cycles_on (cycles_listed bytes) (before_cycles bytes))
page_done bytes n last s m place time i l g =
    let w = before_cycles bytes in
    let end : time ≡ last = omega (arith, i.in_time, l) in
    let all : carried_out last w ≡ last = carried_all last w (λ j h. i.carried j (omega (arith, end, h))) in
    let whole : printout bytes ≡ heading ++ cycles_lines n 0 last w =
    lines_are bytes n last g.runs g.all_nodes g.all_cycles
    ∙ ap (λ k. heading ++ (cycles_lines n 0 k w ++ last_line last w)) all
    ∙ ap (λ (x : List ℕ). heading ++ (cycles_lines n 0 last w ++ x)) (last_none last w all)
    ∙ ap (λ (x : List ℕ). heading ++ x) (append-nil (cycles_lines n 0 last w)) in (
      i.placed
          ∙ ap (λ k. length heading + length (cycles_lines n 0 k w)) end
          ∙ sym (length-append heading (cycles_lines n 0 last w))
          ∙ sym (ap length whole),
      i.words ∙ ap (λ k. cycles_on k w) (end ∙ sym all ∙ ap (λ k. carried_out k w) g.all_cycles),
    )
