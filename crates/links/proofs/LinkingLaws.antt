-- The loop over the nodes whose links have something, and the whole stage: the link registers are emptied before it, and the sources come behind it.
-- Assumes nothing.
use Prim.Native.Nat.{ℕ, zero, suc, ◌+◌, ◌-◌, ◌*◌, ◌/◌, ◌%◌, ◌<◌, ◌≤◌}
use mathlib.Core.Bool.{Bool, true, false}
use mathlib.Core.List.{List}
use mathlib.Core.Path.{◌≡◌, refl, sym, subst, ◌∙◌, ap, ap₂}
use native.Mathlib.Omega.{arith}
use lib.Bits.{bit_or}
use lib.ListN.{length, drop}
use Rattle.words.specs.Tests.{◌=?◌}
use Rattle.words.specs.Words.{word, pick}
use Rattle.words.proofs.TestLaws.{yes<, no<}
use Rattle.occupancy.specs.Inner.Occupancy.{bit_at, NextTaken}
use Rattle.occupancy.specs.declared.TakenPlaces.{TakenPlaces}
use Rattle.occupancy.proofs.MaskLaws.{union_free}
use Rattle.occupancy.proofs.WalkLaws.{On, Begun, Gave, Ended, still_on, next_place, none_left}
use Rattle.torus.specs.Torus.{opposite_of, is_vertical}
use Rattle.torus.specs.Inner.Grid.{InGrid}
use Rattle.torus.proofs.RouteLaws.{vertical_north}
use Rattle.sheet.specs.Sheet.{columns, rows, is_long, nodes}
use Rattle.sheet.specs.Inner.Passed.{Headed}
use Rattle.network.specs.Registers.{reg, sheet_in, moving_words, link_mark, link_word, out_mark, extra_mark, at}
use Rattle.network.specs.View.{source_input}
use Rattle.network.specs.Inner.Machine.{end_mark, end_word, neighbour_place}
use Rattle.network.specs.Inner.Live.{EmptyBeside}
use Rattle.network.specs.Inner.Stages.{stage, link_from}
use Rattle.network.proofs.ExtraLaws.{end_low, end_high, end_vertical, end_level}
use Rattle.network.proofs.ChoiceLaws.{same_pick}
use Rattle.network.proofs.FillLaws.{Staged, beside, here, off, stage_length, stage_rest, stage_sheet, staged_is}
use Rattle.links.specs.Inner.Linking.{SidesEmpty, side_row, pushed_sides, KeptBeside, sourced, SourcesBeside}
use Rattle.links.proofs.LinkLaws.{from_sides, source_none, origin, pushed_to, in_grid, origin_inside, sides_kept, pushed_none, row_vertical, row_level}
use Rattle.links.proofs.LinkLaws.{cleared_sheet, cleared_length, cleared_link, side_more, source_more}
use Rattle.links.proofs.BesideLaws.{beside_none, beside_more}
use Rattle.links.proofs.SourceLaws.{sourced_here, stays_beside}

-- what was read of the head of the words
pub record Wired (s : List ℕ) (cols count all vertical : ℕ) : Type 0 where
  pub own_cols : cols ≡ columns (sheet_in s)
  pub own_rows : count ≡ rows (sheet_in s)
  pub own_nodes : all ≡ nodes (sheet_in s)
  pub own_vertical : vertical ≡ pick (is_long (sheet_in s)) extra_mark out_mark
  pub few : all ≤ 16
  pub head : Headed (sheet_in s)
  pub long : moving_words ≤ length s

pub wired_read : (s z : List ℕ) → z ≡ sheet_in s → (cols count all : ℕ) → cols ≡ columns z → count ≡ rows z → (all ≡ nodes z) × (all ≤ 16)
    → (vertical : ℕ) → vertical ≡ pick (is_long z) extra_mark out_mark → Headed (sheet_in s) → moving_words ≤ length s → Wired s cols count all vertical
wired_read s z e cols count all a b n vertical v h long = record {
  own_cols = a ∙ ap columns e;
  own_rows = b ∙ ap rows e;
  own_nodes = n.0 ∙ ap nodes e;
  own_vertical = v ∙ ap (λ (x : List ℕ). pick (is_long x) extra_mark out_mark) e;
  few = n.1;
  head = h;
  long = long;
}

-- the loop over the nodes of a mask, beside which nothing comes out: what comes out of those that the walk has left behind is where it goes, and
-- nothing is written beside the mask of the nodes that it went to
pub record Linking (s : List ℕ) (ends cols count all vertical live : ℕ) (walk : TakenPlaces) (now : List ℕ) : Type 0 where
  pub on : On ends all walk
  pub wired : Wired s cols count all vertical
  pub idle : (other : ℕ) → other < all → bit_at ends other ≡ 0 → SidesEmpty s other vertical
  pub so_far : Staged link_mark link_word (all * 5) (pushed_to s (walk.from * 5)) s now
  pub beside_live : KeptBeside live s now

-- the sources over what the sides have filled
sourced_is : (marks cells before now : List ℕ) (row k : ℕ) → reg now row k ≡ from_sides before row k
    → sourced marks cells now row k ≡ link_from marks cells before row k
unfolding sourced link_from
sourced_is marks cells before now row k e = go (k % 5 =? source_input) refl
  where
    level : ℕ
    level =
        pick (row =? link_mark) (reg before (end_mark before (opposite_of (k % 5))) (neighbour_place before (k / 5) (k % 5)))
        (reg before (end_word before (opposite_of (k % 5))) (neighbour_place before (k / 5) (k % 5)))

    wire : ℕ
    wire = pick (row =? link_mark) (word marks (k / 5)) (word cells (k / 5))

    go : (b : Bool) → (k % 5 =? source_input) ≡ b → pick b wire (reg now row k) ≡ pick b wire level
    go true q = refl
    go false q = e ∙ ap (λ (t : Bool). pick t (pick (row =? link_mark) 0 0) level) q

module _ (s : List ℕ) (cols count all vertical : ℕ) (w : Wired s cols count all vertical) where
  -- the rows that the sides read lie in the state, behind those that are written
  row_high : vertical ≤ extra_mark
  row_high = omega (arith, end_vertical s 0 (vertical_north 0 refl) vertical w.own_vertical, end_high s 0)

  row_low : out_mark ≤ vertical
  row_low = omega (arith, end_vertical s 0 (vertical_north 0 refl) vertical w.own_vertical, end_low s 0)

  -- a side's marks are where its link ends
  row_end : (side : ℕ) → side_row vertical side ≡ end_mark s side
  row_end side = go (is_vertical side) refl
    where
      go : (b : Bool) → is_vertical side ≡ b → side_row vertical side ≡ end_mark s side
      go true e = sym (row_vertical vertical side e) ∙ end_vertical s side e vertical w.own_vertical
      go false e = sym (row_level vertical side e) ∙ end_level s side e

  -- so many sides of one node
  sides_more : (node : ℕ) (now : List ℕ) → node < all → Staged link_mark link_word (all * 5) (pushed_to s (node * 5)) s now → (n : ℕ) → n ≤ 4
      → Staged link_mark link_word (all * 5) (pushed_to s (node * 5 + n)) s (pushed_sides n now cols count node vertical)
  unfolding pushed_sides
  sides_more node now l g zero h =
      let none : node * 5 ≡ node * 5 + 0 = omega arith in
      subst (λ (i : ℕ). Staged link_mark link_word (all * 5) (pushed_to s i) s now) none g
  sides_more node now l g (suc n) h =
      side_more s (pushed_sides n now cols count node vertical) _ all (node * 5 + n) (node * 5 + suc n) w.head w.own_nodes w.few (omega arith) (omega arith)
      w.long (sides_more node now l g n (omega arith)) cols count node n refl (omega arith) w.own_cols w.own_rows (side_row vertical n) (row_end n) refl

  -- the five places of one node, of which the source's stays empty
  pushed_more : (node : ℕ) (now next : List ℕ) → node < all → Staged link_mark link_word (all * 5) (pushed_to s (node * 5)) s now
      → next ≡ pushed_sides 4 now cols count node vertical → Staged link_mark link_word (all * 5) (pushed_to s ((node + 1) * 5)) s next
  pushed_more node now next l g d =
      source_more s next next all (node * 5 + 4) ((node + 1) * 5) w.head w.own_nodes w.few (omega arith) (omega arith) w.long
      (subst (Staged link_mark link_word (all * 5) (pushed_to s (node * 5 + 4)) s) (sym d) (sides_more node now l g 4 (omega arith))) node refl refl

  -- a node of whose links nothing comes out is passed over
  passed_one : (node : ℕ) (now : List ℕ) → node < all → SidesEmpty s node vertical → Staged link_mark link_word (all * 5) (pushed_to s (node * 5)) s now
      → Staged link_mark link_word (all * 5) (pushed_to s ((node + 1) * 5)) s now
  passed_one node now l none g =
      let high = row_high in
      let low = row_low in
      pushed_more node now now l g
      (pushed_none now cols count node vertical
      (sides_kept s now node vertical (omega (arith, w.few)) low high (λ row k a b kl.
      beside link_mark link_word (all * 5) (pushed_to s (node * 5)) s now g row k (omega arith) kl (λ c d. omega arith)) none))

  passed_on : (d node : ℕ) (now : List ℕ) → node + d ≤ all → ((k : ℕ) → node ≤ k → k < node + d → SidesEmpty s k vertical)
      → Staged link_mark link_word (all * 5) (pushed_to s (node * 5)) s now → Staged link_mark link_word (all * 5) (pushed_to s ((node + d) * 5)) s now
  passed_on zero node now l none g =
      let same : node ≡ node + 0 = omega arith in
      subst (λ (n : ℕ). Staged link_mark link_word (all * 5) (pushed_to s (n * 5)) s now) same g
  passed_on (suc d) node now l none g =
      let same : node + 1 + d ≡ node + suc d = omega arith in
      subst (λ (n : ℕ). Staged link_mark link_word (all * 5) (pushed_to s (n * 5)) s now) same
      (passed_on d (node + 1) now (omega arith) (λ k a b. none k (omega arith) (omega arith))
      (passed_one node now (omega arith) (none node (omega arith) (omega arith)) g))

  -- from a node to the next of a mask beside which nothing comes out
  module _ (ends : ℕ) (idle : (node : ℕ) → node < all → bit_at ends node ≡ 0 → SidesEmpty s node vertical) where
    passed_to : (node next : ℕ) (now : List ℕ) → next ≤ all → NextTaken ends node next
        → Staged link_mark link_word (all * 5) (pushed_to s (node * 5)) s now
        → Staged link_mark link_word (all * 5) (pushed_to s (next * 5)) s now
    passed_to node next now l t g =
        let there : node + (next - node) ≡ next = omega (arith, t.onward) in
        subst (λ (n : ℕ). Staged link_mark link_word (all * 5) (pushed_to s (n * 5)) s now) there
        (passed_on (next - node) node now (omega arith) (λ k a b. idle k (omega arith) (t.passed k a (omega arith))) g)

-- the registers are emptied: what was read, and what comes out, is as it was
module _ (before s : List ℕ) (cols count all vertical : ℕ) (w : Wired before cols count all vertical)
    (c : s ≡ stage link_mark link_word (all * 5) (λ row k. 0) before) where
  wired_cleared : Wired s cols count all vertical
  wired_cleared =
      let same : sheet_in before ≡ sheet_in s = sym (cleared_sheet before s all w.few c) in
      record {
        own_cols = w.own_cols ∙ ap columns same;
        own_rows = w.own_rows ∙ ap rows same;
        own_nodes = w.own_nodes ∙ ap nodes same;
        own_vertical = w.own_vertical ∙ ap (λ (x : List ℕ). pick (is_long x) extra_mark out_mark) same;
        few = w.few;
        head = subst Headed same w.head;
        long = omega (arith, w.long, cleared_length before s all w.few c w.long);
      }

  idle_cleared : (node : ℕ) → node < all → SidesEmpty before node (pick (is_long (sheet_in before)) extra_mark out_mark) → SidesEmpty s node vertical
  idle_cleared node l none =
      let low = row_low before cols count all vertical w in
      let high = row_high before cols count all vertical w in
      sides_kept before s node vertical (omega (arith, w.few)) low high
      (λ row k a b kl. off link_mark link_word (all * 5) (λ row k. 0) before s c row k (omega arith) kl (λ x y z. omega arith))
      (subst (SidesEmpty before node) (sym w.own_vertical) none)

  -- nothing is pushed yet
  none_yet : Staged link_mark link_word (all * 5) (pushed_to s (0 * 5)) s s
  none_yet = record {
    same_length = refl;
    same_rest = refl;
    done = λ row k x y l.
        let none : 0 * 5 ≤ origin s k = omega arith in
        here link_mark link_word (all * 5) (λ row k. 0) before s c row k (omega arith) (omega (arith, w.few)) x y l
        ∙ sym (ap (λ (t : Bool). pick t (from_sides s row k) 0) (no< none));
    kept = λ row k rl kl no. refl;
  }

  pub linking_start : (ends : ℕ)
      → ((node : ℕ) → node < nodes (sheet_in before) → bit_at ends node ≡ 0 → SidesEmpty before node (pick (is_long (sheet_in before)) extra_mark out_mark))
      → (walk : TakenPlaces) → Begun ends all walk → Linking s ends cols count all vertical 0 walk s
  linking_start ends idle walk b = record {
    on = b.on;
    wired = wired_cleared;
    idle = λ node l free. idle_cleared node l (idle node (omega (arith, w.own_nodes)) free);
    so_far = subst (λ (n : ℕ). Staged link_mark link_word (all * 5) (pushed_to s (n * 5)) s s) (sym b.at_start) none_yet;
    beside_live = beside_none s 0;
  }

module _ (s : List ℕ) (ends cols count all vertical live : ℕ) (walk : TakenPlaces) (now : List ℕ)
    (g : Linking s ends cols count all vertical live walk now) where
  -- one turn
  pub linking_row : vertical ≤ extra_mark
  linking_row = row_high s cols count all vertical g.wired

  pub linking_grid : (node : ℕ) (after : TakenPlaces) → Gave walk node after → InGrid cols count node
  linking_grid node after t =
      let w = g.wired in
      let l = (next_place ends all walk g.on after node t).below in
      let grid = in_grid s w.head node (omega (arith, w.own_nodes)) in
      subst (λ c. InGrid c count node) (sym w.own_cols) (subst (λ r. InGrid (columns (sheet_in s)) r node) (sym w.own_rows) grid)

  pub linking_long : moving_words ≤ length now
  linking_long = omega (arith, g.wired.long, g.so_far.same_length)

  pub linking_more : (node : ℕ) (after : TakenPlaces) → Gave walk node after → (added : ℕ) (next : List ℕ) → next ≡ pushed_sides 4 now cols count node vertical
      → KeptBeside added now next → Linking s ends cols count all vertical (bit_or live added) after next
  linking_more node after t added next e kept =
      let q = next_place ends all walk g.on after node t in
      let here-now = passed_to s cols count all vertical g.wired ends g.idle walk.from node now (omega (arith, q.below)) q.next g.so_far in
      record {
        on = still_on ends all walk g.on after node t;
        wired = g.wired;
        idle = g.idle;
        so_far =
            subst (λ (n : ℕ). Staged link_mark link_word (all * 5) (pushed_to s (n * 5)) s next) (sym q.onward)
            (pushed_more s cols count all vertical g.wired node now next q.below here-now e);
        beside_live = beside_more s now next live added g.beside_live kept;
      }

  -- all nodes are done
  module _ (over : TakenPlaces) (end : Ended walk over) where
    all_pushed : Staged link_mark link_word (all * 5) (pushed_to s (all * 5)) s now
    all_pushed =
        passed_to s cols count all vertical g.wired ends g.idle walk.from all now (omega arith) (none_left ends all walk g.on over end) g.so_far

    sides_done : (row k : ℕ) → link_mark ≤ row → row ≤ link_word → k < all * 5 → reg now row k ≡ from_sides s row k
    sides_done row k a b l =
        let w = g.wired in
        let inside : k < nodes (sheet_in s) * 5 = omega (arith, w.own_nodes) in
        let gone : origin s k < all * 5 = omega (arith, w.own_nodes, origin_inside s w.head k inside) in
        all_pushed.done row k a b l ∙ ap (λ (t : Bool). pick t (from_sides s row k) 0) (yes< gone)

    module _ (before : List ℕ) (c : s ≡ stage link_mark link_word (all * 5) (λ row k. 0) before) (wide : moving_words ≤ length before) where
      before_nodes : all ≡ nodes (sheet_in before)
      before_nodes = g.wired.own_nodes ∙ ap nodes (cleared_sheet before s all g.wired.few c)

      -- the sources
      module _ (sources : ℕ) (marks cells : List ℕ)
          (none : (node : ℕ) → node < nodes (sheet_in before) → bit_at sources node ≡ 0 → (word marks node ≡ 0) × (word cells node ≡ 0)) where
        pub linking_sources : SourcesBeside all sources marks cells now
        linking_sources = record {
          stays = λ other l free row a b.
              let empty = none other (omega (arith, before_nodes)) free in
              sym (sourced_here marks cells now other row)
              ∙ ap₂ (pick (row =? link_mark)) empty.0 empty.1
              ∙ same_pick (row =? link_mark) 0
              ∙ source_none s (at other source_input) other refl row
              ∙ sym (sides_done row (at other source_input) a b (omega arith));
        }

        module _ (after : List ℕ) (e : after ≡ stage link_mark link_word (all * 5) (sourced marks cells now) now) where
          pub linking_length : length after ≡ length before
          linking_length =
              ap length e
              ∙ stage_length link_mark link_word (all * 5) (sourced marks cells now) now linking_long
              ∙ g.so_far.same_length
              ∙ cleared_length before s all g.wired.few c wide

          pub linking_done : after ≡ stage link_mark link_word (nodes (sheet_in before) * 5) (link_from marks cells before) before
          linking_done =
              let few = g.wired.few in
              staged_is link_mark link_word (all * 5) (link_from marks cells before) before after wide
              (record {
                same_length = linking_length;
                same_rest =
                    ap (drop moving_words) e
                    ∙ stage_rest link_mark link_word (all * 5) (sourced marks cells now) now
                    ∙ g.so_far.same_rest
                    ∙ ap (drop moving_words) c
                    ∙ stage_rest link_mark link_word (all * 5) (λ row k. 0) before;
                done = λ row k a b l.
                    here link_mark link_word (all * 5) (sourced marks cells now) now after e row k (omega arith) (omega arith) a b l
                    ∙ sourced_is marks cells before now row k
                    (sides_done row k a b l ∙ cleared_link before s all g.wired.few c g.wired.head g.wired.own_nodes row k l);
                kept = λ row k rl kl out.
                    off link_mark link_word (all * 5) (sourced marks cells now) now after e row k rl kl out
                    ∙ g.so_far.kept row k rl kl out
                    ∙ off link_mark link_word (all * 5) (λ row k. 0) before s c row k rl kl out;
              })
              ∙ ap (λ i. stage link_mark link_word (i * 5) (link_from marks cells before) before) before_nodes

          -- beside the nodes that were written nothing is in the registers
          pub linking_empty : (row : ℕ) → link_mark ≤ row → row ≤ link_word → EmptyBeside after (bit_or live sources) row
          linking_empty row a b k l free =
              let few = g.wired.few in
              let both = union_free live sources (k / 5) free in
              let same : sheet_in after ≡ sheet_in before =
              ap sheet_in linking_done
              ∙ stage_sheet link_mark link_word (nodes (sheet_in before) * 5) (link_from marks cells before) before in
              let inside : k < all * 5 = omega (arith, before_nodes, ap nodes same) in
              here link_mark link_word (all * 5) (sourced marks cells now) now after e row k (omega arith) (omega arith) a b inside
              ∙ stays_beside marks cells now all sources linking_sources k inside both.1 row a b
              ∙ g.beside_live.kept row k (omega arith) (omega arith) both.0
              ∙ here link_mark link_word (all * 5) (λ row k. 0) before s c row k (omega arith) (omega arith) a b inside
