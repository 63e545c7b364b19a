-- The lines of a page: a node's, a cycle's, and those of the cycles that a page has, put into the buffer one behind the other.
-- Assumes nothing.
use Prim.Native.Nat.{ℕ, zero, suc, ◌+◌, ◌-◌, ◌*◌, ◌≤◌, ◌<◌}
use Rattle.std.specs.Prelude.{Some, None}
use mathlib.Core.List.{List, [], ◌++◌}
use mathlib.Core.Path.{◌≡◌, refl, sym, ◌∙◌, ap, ap₂, subst}
use native.Mathlib.Omega.{arith}
use native.Mathlib.Nat.{add-zero}
use native.Mathlib.Numerals.{add-one}
use native.Mathlib.Decide.{dec_lt, ℕ_discrete}
use lib.ListN.{length, take, length-append}
use Rattle.words.specs.Inner.Puts.{put_all}
use Rattle.words.proofs.WordLaws.{length_put_all, put_all_behind, put_all_front}
use Rattle.occupancy.specs.Inner.Occupancy.{bit_at, NextTaken}
use Rattle.network.specs.View.{Landing, nothing, landed}
use Rattle.network.specs.Registers.{reg, landing_mark, landing_kind, landing_address, landing_word}
use Rattle.network.specs.Seen.{seen_landing}
use Rattle.session.specs.declared.Landed.{Landed}
use Rattle.occupancy.specs.declared.TakenPlaces.{TakenPlaces}
use Rattle.session.specs.Answers.{shown}
use Rattle.occupancy.proofs.WalkLaws.{On, Begun, Gave, Ended, still_on, next_place, none_left}
use Rattle.session.specs.Calls.{memory_number, last_landing, Lent, lend, cycle, number, after}
use Rattle.session.proofs.WritingLaws.{state_kept, memory_kept}
use Rattle.listing.specs.Text.{landing_line}
use Rattle.listing.proofs.TextLaws.{line_short}
use Rattle.landings.specs.Lines.{line_for, cycle_lines, cycles_lines, cycles_on}
use Rattle.landings.specs.Inner.Pages.{Paged}
use Rattle.session.proofs.ReadyLaws.{ready_after}

line_for_short : (time node : ℕ) (l : Landing) → length (line_for time node l) ≤ 60
line_for_short time node nothing = omega arith
line_for_short time node (landed kind address payload) = line_short time node address payload kind

-- where nothing landed the place stays, and a word that landed has its line
module _ (time node : ℕ) (l : Landing) where
  pub none_put : None ≡ shown l → (at : ℕ) (buffer : List ℕ)
      → (at ≡ at + length (line_for time node l)) × (buffer ≡ put_all buffer at (line_for time node l))
  unfolding put_all
  none_put e at buffer = go l e
    where
      go : (l : Landing) → None ≡ shown l → (at ≡ at + length (line_for time node l)) × (buffer ≡ put_all buffer at (line_for time node l))
      go nothing e = (sym (add-zero at), refl)
      go (landed kind address payload) e = absurd (let z : ◌≡◌ {A = ℕ} 0 1 = cc in omega arith)

  pub some_put : (w : Landed) → Some w ≡ shown l → landing_line time node w.address w.word w.kind ≡ line_for time node l
  some_put w e = go l e
    where
      go : (l : Landing) → Some w ≡ shown l → landing_line time node w.address w.word w.kind ≡ line_for time node l
      go nothing e = absurd (let z : ◌≡◌ {A = ℕ} 0 1 = cc in omega arith)
      go (landed kind address payload) e =
          let same : w ≡ record { kind = kind; address = address; word = payload } = cc in
          ap (λ (x : Landed). landing_line time node x.address x.word x.kind) same

-- the loop over the nodes
pub record Listing (nodes time : ℕ) (s start buffer : List ℕ) (at place node : ℕ) : Type 0 where
  pub within : node ≤ nodes
  pub long : length buffer ≡ length start
  pub placed : place ≡ at + length (cycle_lines node time s)
  pub bytes : buffer ≡ put_all start at (cycle_lines node time s)
  pub short : length (cycle_lines node time s) ≤ 60 * node

cycle_more : (node time : ℕ) (s : List ℕ) → cycle_lines (node + 1) time s ≡ cycle_lines node time s ++ line_for time node (last_landing s node)
unfolding cycle_lines
cycle_more node time s = rw add-one refl

pub lines_start : (nodes time : ℕ) (s start : List ℕ) (at : ℕ) → Listing nodes time s start start at at 0
unfolding cycle_lines put_all
lines_start nodes time s start at = record {
  within = omega arith;
  long = refl;
  placed = sym (add-zero at);
  bytes = refl;
  short = omega arith;
}

pub lines_more : (nodes time : ℕ) (s start buffer : List ℕ) (at place node : ℕ) {next : ℕ} {written : List ℕ}
    → Listing nodes time s start buffer at place node
    → node < nodes
    → next ≡ place + length (line_for time node (last_landing s node))
    → written ≡ put_all buffer place (line_for time node (last_landing s node))
    → Listing nodes time s start written at next (node + 1)
lines_more nodes time s start buffer at place node {next} {written} i l p b =
    let line = line_for time node (last_landing s node) in
    let before = cycle_lines node time s in
    let more : length (cycle_lines (node + 1) time s) ≡ length before + length line = ap length (cycle_more node time s) ∙ length-append before line in
    record {
      within = omega arith;
      long = ap length b ∙ length_put_all buffer line place ∙ i.long;
      placed = omega (arith, p, i.placed, more);
      bytes =
          put_all_behind start before line at place i.bytes i.placed b
          ∙ ap (λ (x : List ℕ). put_all start at x) (sym (cycle_more node time s));
      short = omega (arith, more, i.short, line_for_short time node (last_landing s node));
    }

-- nodes at which nothing landed have no line
lines_pass : (nodes time : ℕ) (s start buffer : List ℕ) (at place node : ℕ) → Listing nodes time s start buffer at place node → node < nodes
    → last_landing s node ≡ nothing → Listing nodes time s start buffer at place (node + 1)
unfolding put_all
lines_pass nodes time s start buffer at place node i l none =
    let empty : line_for time node (last_landing s node) ≡ [] = ap (line_for time node) none in
    lines_more nodes time s start buffer at place node i l (sym (ap (λ (x : List ℕ). place + length x) empty ∙ add-zero place))
    (sym (ap (λ (x : List ℕ). put_all buffer place x) empty))

pub lines_jump : (nodes time : ℕ) (s start buffer : List ℕ) (at place node more : ℕ) → Listing nodes time s start buffer at place node
    → node + more ≤ nodes → ((n : ℕ) → node ≤ n → n < node + more → last_landing s n ≡ nothing)
    → Listing nodes time s start buffer at place (node + more)
lines_jump nodes time s start buffer at place node zero i l none =
    subst (Listing nodes time s start buffer at place) (sym (add-zero node)) i
lines_jump nodes time s start buffer at place node (suc more) i l none =
    let next : node + more + 1 ≡ node + suc more = omega arith in
    subst (Listing nodes time s start buffer at place) next
    (lines_pass nodes time s start buffer at place (node + more)
    (lines_jump nodes time s start buffer at place node more i (omega arith) (λ n a b. none n a (omega arith))) (omega arith)
    (none (node + more) (omega arith) (omega arith)))

pub lines_done : (nodes time : ℕ) (s start buffer : List ℕ) (at place node : ℕ)
    → Listing nodes time s start buffer at place node
    → nodes ≤ node
    → (place ≡ at + length (cycle_lines nodes time s)) × (buffer ≡ put_all start at (cycle_lines nodes time s))
lines_done nodes time s start buffer at place node i l =
    let e : node ≡ nodes = omega (arith, i.within, l) in
    (i.placed ∙ ap (λ n. at + length (cycle_lines n time s)) e, i.bytes ∙ ap (λ n. put_all start at (cycle_lines n time s)) e)

-- the loop over the nodes of a mask
pub record Walking (nodes time : ℕ) (s start buffer : List ℕ) (at place mask : ℕ) (walk : TakenPlaces) : Type 0 where
  pub on : On mask nodes walk
  listed : Listing nodes time s start buffer at place walk.from

-- those passed have no landing
module _ (nodes time : ℕ) (s start : List ℕ) (at mask : ℕ)
    (beside : (node : ℕ) → node < nodes → bit_at mask node ≡ 0 → reg s landing_mark node ≡ 0) where
  none_landed : (node : ℕ) → node < nodes → bit_at mask node ≡ 0 → last_landing s node ≡ nothing
  unfolding last_landing
  none_landed node l none =
      ap (λ (mark : ℕ). seen_landing mark (reg s landing_kind node) (reg s landing_address node) (reg s landing_word node)) (beside node l none)

  -- the nodes up to the next of the mask have their lines
  lines_on : (buffer : List ℕ) (place from next : ℕ) → Listing nodes time s start buffer at place from → NextTaken mask from next → next ≤ nodes
      → Listing nodes time s start buffer at place next
  lines_on buffer place from next i taken few =
      let more = next - from in
      let sum : from + more ≡ next = omega (arith, taken.onward) in
      subst (Listing nodes time s start buffer at place) sum
      (lines_jump nodes time s start buffer at place from more i (omega (arith, sum))
      (λ n a b. none_landed n (omega (arith, sum)) (taken.passed n a (omega (arith, sum)))))

  pub walk_start : (walk : TakenPlaces) → Begun mask nodes walk → Walking nodes time s start start at at mask walk
  walk_start walk b = record {
    on = b.on;
    listed = subst (Listing nodes time s start start at at) (sym b.at_start) (lines_start nodes time s start at);
  }

  module _ (buffer : List ℕ) (place : ℕ) (walk : TakenPlaces) (w : Walking nodes time s start buffer at place mask walk) (after : TakenPlaces) where
    -- a line more fits
    pub walk_room : (node : ℕ) → Gave walk node after → at + 60 * nodes ≤ length start → place + 60 ≤ length buffer
    walk_room node g room =
        let q = next_place mask nodes walk w.on after node g in
        let i = w.listed in
        omega (arith, room, i.placed, i.short, i.long, q.next.onward, q.below)

    pub walk_more : (node : ℕ) → Gave walk node after → {reached : ℕ} {written : List ℕ}
        → reached ≡ place + length (line_for time node (last_landing s node)) → written ≡ put_all buffer place (line_for time node (last_landing s node))
        → Walking nodes time s start written at reached mask after
    walk_more node g {reached} {written} p b =
        let q = next_place mask nodes walk w.on after node g in
        record {
          on = still_on mask nodes walk w.on after node g;
          listed =
              subst (Listing nodes time s start written at reached) (sym q.onward)
              (lines_more nodes time s start buffer at place node (lines_on buffer place walk.from node w.listed q.next (omega (arith, q.below))) q.below p b);
        }

    pub walk_done : Ended walk after → (place ≡ at + length (cycle_lines nodes time s)) × (buffer ≡ put_all start at (cycle_lines nodes time s))
    walk_done g =
        lines_done nodes time s start buffer at place nodes
        (lines_on buffer place walk.from nodes w.listed (none_left mask nodes walk w.on after g) (omega arith)) (omega arith)

-- a cycle's lines are at most sixty bytes a node
pub lines_short : (nodes time : ℕ) (s : List ℕ) → length (cycle_lines nodes time s) ≤ 60 * nodes
unfolding cycle_lines
lines_short zero time s = omega arith
lines_short (suc n) time s =
    omega (
      arith,
      lines_short n time s,
      line_for_short time n (last_landing s n),
      length-append (cycle_lines n time s) (line_for time n (last_landing s n)),
    )

-- a cycle, from what it leaves of state and memory
pub cycle_after : (s m : List ℕ) {s' m' : List ℕ}
    → s' ≡ (after cycle (lend s m)).state
    → m' ≡ (after cycle (lend s m)).memory
    → lend s' m' ≡ after cycle (lend s m)
cycle_after s m e f = ap₂ lend e f

-- the loop over the cycles of a page
pub record Filling (nodes first last : ℕ) (w : Lent) (start s m buffer : List ℕ) (at time : ℕ) : Type 0 where
  pub begun : first ≤ time
  pub in_time : time ≤ last
  pub words : lend s m ≡ cycles_on (time - first) w
  pub ready : memory_number s m ≡ 0
  pub long : length buffer ≡ length start
  pub placed : at ≡ length (cycles_lines nodes first (time - first) w)
  pub bytes : buffer ≡ put_all start 0 (cycles_lines nodes first (time - first) w)
  pub fits : at ≤ length start
  pub carried : (j : ℕ) → j < time - first → number cycle (cycles_on j w) ≡ 0

pub fill_start : (nodes first last : ℕ) (start s m : List ℕ) → first ≤ last → memory_number s m ≡ 0
    → Filling nodes first last (lend s m) start s m start 0 first
unfolding cycles_on cycles_lines put_all
fill_start nodes first last start s m l r =
    let none : first - first ≡ 0 = omega arith in
    record {
      begun = omega arith;
      in_time = l;
      words = rw none refl;
      ready = r;
      long = refl;
      placed = rw none refl;
      bytes = rw none refl;
      fits = omega arith;
      carried = λ j h. absurd (let z : ⊥ = omega arith in z);
    }

module _ (nodes first last : ℕ) (w : Lent) (start s m buffer : List ℕ) (at time : ℕ)
    (i : Filling nodes first last w start s m buffer at time)
    {s' m' : List ℕ}
    (f : lend s' m' ≡ after cycle (lend s m)) where
  still_ready : memory_number s' m' ≡ 0
  still_ready =
      ap (λ (x : Lent). memory_number x.state x.memory) f
      ∙ ready_after cycle (lend s m) refl i.ready

  more_cycles : lend s' m' ≡ cycles_on (suc (time - first)) w
  unfolding cycles_on
  more_cycles = f ∙ ap (after cycle) i.words

  more_lines : cycles_lines nodes first (suc (time - first)) w ≡ cycles_lines nodes first (time - first) w ++ cycle_lines nodes time s'
  unfolding cycles_lines
  more_lines =
      let now : first + (time - first) ≡ time = omega (arith, i.begun) in
      ap (λ (x : Lent). cycles_lines nodes first (time - first) w ++ cycle_lines nodes (first + (time - first)) x.state) (sym more_cycles)
      ∙ ap (λ k. cycles_lines nodes first (time - first) w ++ cycle_lines nodes k s') now

  still_carried : number cycle (lend s m) ≡ 0 → (j : ℕ) → j < suc (time - first) → number cycle (cycles_on j w) ≡ 0
  still_carried z j h = go (dec_lt j (time - first))
    where
      go : Dec (j < time - first) → number cycle (cycles_on j w) ≡ 0
      go (yes p) = i.carried j p
      go (no p) =
          let e : j ≡ time - first = omega (arith, p, h) in
          ap (λ k. number cycle (cycles_on k w)) e ∙ ap (number cycle) (sym i.words) ∙ z

  pub fill_more : {place : ℕ} {written : List ℕ}
      → time < last
      → nodes ≤ 16
      → at + 960 ≤ length buffer
      → number cycle (lend s m) ≡ 0
      → place ≡ at + length (cycle_lines nodes time s')
      → written ≡ put_all buffer at (cycle_lines nodes time s')
      → Filling nodes first last w start s' m' written place (time + 1)
  fill_more {place} {written} l few free z p b =
      let lines = cycle_lines nodes time s' in
      let before = cycles_lines nodes first (time - first) w in
      let next : time + 1 - first ≡ suc (time - first) = omega (arith, i.begun) in
      let behind : at ≡ 0 + length before = omega (arith, i.placed) in
      record {
        begun = omega (arith, i.begun);
        in_time = omega arith;
        words = rw next more_cycles;
        ready = still_ready;
        long = ap length b ∙ length_put_all buffer lines at ∙ i.long;
        placed = rw (next, more_lines) (omega (arith, p, i.placed, length-append before lines));
        bytes = rw (next, more_lines) (put_all_behind start before lines 0 at i.bytes behind b);
        fits = omega (arith, p, i.long, lines_short nodes time s');
        carried = rw next (still_carried z);
      }

-- what a page has: cycles until the buffer could overflow, one is refused, or all are run
module _ (nodes first last : ℕ) (w : Lent) (start s m page : List ℕ) (at time : ℕ)
    (i : Filling nodes first last w start s m page at time) where
  page_lines : take at page ≡ cycles_lines nodes first (time - first) w
  page_lines =
      let text = cycles_lines nodes first (time - first) w in
      ap (λ (x : List ℕ). take at x) i.bytes
      ∙ ap (λ k. take k (put_all start 0 text)) i.placed
      ∙ put_all_front start text (omega (arith, i.placed, i.fits))

  -- the page as it is handed back, with the words that are left and what ended it
  abbrev PageOf : ℕ → List ℕ → List ℕ → ℕ → Type 0
  PageOf count s' m' refusal =
      record {
        cycles : Paged first last w count refusal;
        words : lend s' m' ≡ cycles_on count w;
        lines : take at page ≡ cycles_lines nodes first count w;
        buffer : page ≡ put_all start 0 (cycles_lines nodes first count w);
        fits : at ≤ length page;
        ready : memory_number s' m' ≡ 0;
      }

  abbrev PageMade : List ℕ → List ℕ → ℕ → Type 0
  PageMade s' m' refusal = PageOf (time - first) s' m' refusal

  page_made : {s' m' : List ℕ} {refusal : ℕ} → lend s' m' ≡ lend s m → Paged first last w (time - first) refusal → PageMade s' m' refusal
  page_made f e = record {
    cycles = e;
    words = f ∙ i.words;
    lines = page_lines;
    buffer = i.bytes;
    fits = omega (arith, i.fits, i.long);
    ready = ap (λ (x : Lent). memory_number x.state x.memory) f ∙ i.ready;
  }

  no_lines : length (cycles_lines nodes first 0 w) ≡ 0
  unfolding cycles_lines
  no_lines = refl

  -- the buffer is full: it was not before the first cycle
  pub fill_stop : {room : ℕ} → length page < at + room → length start ≡ 65536 → room ≤ 65536 → PageMade s m 0
  fill_stop full all free =
      page_made refl (record {
        in_time = omega (arith, i.begun, i.in_time);
        is_carried_out = i.carried;
        some = λ z h. some (ℕ_discrete (time - first) 0);
        stopped = λ ne. absurd (ne refl);
      })
    where
      some : Dec (time - first ≡ 0) → 0 < time - first
      some (yes z) =
          let none : at ≡ 0 = i.placed ∙ ap (λ k. length (cycles_lines nodes first k w)) z ∙ no_lines in
          absurd (let y : ⊥ = omega (arith, full, i.long, all, free, none) in y)
      some (no ne) = omega (arith, ne)

  -- a cycle is refused, and changes nothing; the page has just those before it, however their number is written
  pub fill_refused : {s' m' : List ℕ} {n count : ℕ} → lend s' m' ≡ after cycle (lend s m) → n ≡ number cycle (lend s m) → (n ≡ 0 → ⊥)
      → time < last → time - first ≡ count
      → PageOf count s' m' n
  fill_refused {s'} {m'} {n} f e ne l q =
      subst (λ (k : ℕ). PageOf k s' m' n) q
      (page_made (f ∙ ap₂ lend (sym (state_kept cycle (lend s m) e ne)) (sym (memory_kept cycle (lend s m) e ne))) (record {
        in_time = omega (arith, i.begun, l);
        is_carried_out = i.carried;
        some = λ z. absurd (ne z);
        stopped = λ no. (omega (arith, i.begun, l), e ∙ ap (number cycle) i.words);
      }))

  pub fill_done : last ≤ time → PageMade s m 0
  fill_done l =
      page_made refl (record {
        in_time = omega (arith, i.begun, i.in_time);
        is_carried_out = i.carried;
        some = λ z h. omega (arith, i.begun, h, l);
        stopped = λ ne. absurd (ne refl);
      })
