-- The landings are cleared first: what a cycle then leaves is what it leaves over the landings that were there, and a node with nothing on its memory
-- output has it already.
-- Assumes nothing.
use Rattle.std.proofs.Common.{◌≡◌, ℕ, ◌*◌, ◌/◌, ◌%◌, ◌<◌, ◌≤◌, List, [], length, drop, sym, ap, ◌∙◌, subst, ap₂, div-lt_iff_lt-mul, arith}
use Rattle.words.specs.Tests.{◌and◌, ◌or◌, ◌≤?◌, ◌=?◌}
use Rattle.words.specs.Words.{word, pick}
use Rattle.words.proofs.TableLaws.{tab_same}
use Rattle.sheet.specs.Sheet.{nodes, memory_words}
use Rattle.network.specs.Registers.{reg, sheet_in, room, moving_words, out_mark, out_word, receive_mark, receive_kind, receive_address}
use Rattle.network.specs.Registers.{landing_mark, landing_kind, landing_address, landing_word}
use Rattle.network.specs.Inner.Machine.{memory_mark, memory_word, memory_after, strays_in, next_landing_mark, next_in_row, next_memory}
use Rattle.network.specs.Inner.Stages.{stage}
use Rattle.network.specs.Inner.Quiet.{unlanded}
use Rattle.network.proofs.FillLaws.{Staged, staged_is, here, off, stage_rest}
use Rattle.receivers.specs.Inner.Required.{Receivable}
use Rattle.receivers.specs.Inner.Written.{landing_put, receive_put}
use Rattle.receivers.proofs.ClearLaws.{cleared_reg, cleared_sheet, cleared_length}
use Rattle.receivers.proofs.NodeLaws.{SameAt, same_here, node_wrote, receive_rests, landing_stays, Rests}

-- the landings are cleared: what the nodes' parts read is as it was
module _ (s : List ℕ) (count : ℕ) {cleared : List ℕ} (few : count ≤ 16) (e : cleared ≡ stage landing_mark landing_word count (unlanded s) s) where
  cleared_same : (node : ℕ) → node < count → SameAt s cleared node
  cleared_same node l = record {
    mark = cleared_reg s count e out_mark _ (omega arith) (omega arith) (λ a b. omega arith);
    payload = cleared_reg s count e out_word _ (omega arith) (omega arith) (λ a b. omega arith);
    receive_mark_is = cleared_reg s count e receive_mark node (omega arith) (omega arith) (λ a b. omega arith);
    receive_kind_is = cleared_reg s count e receive_kind node (omega arith) (omega arith) (λ a b. omega arith);
    receive_address_is = cleared_reg s count e receive_address node (omega arith) (omega arith) (λ a b. omega arith);
  }

  cleared_stray : (node : ℕ) → node < count → strays_in cleared node ≡ strays_in s node
  unfolding strays_in
  cleared_stray node l =
      let same = cleared_same node l in
      ap₂ (λ (m r : ℕ). 2 ≤? m and (r =? 0 or room cleared ≤? reg cleared receive_address node)) same.mark same.receive_mark_is
      ∙ ap₂ (λ (z : List ℕ) (a : ℕ). 2 ≤? memory_mark s node and (reg s receive_mark node =? 0 or memory_words z ≤? a)) (cleared_sheet s count e) same.receive_address_is

  pub cleared_receivable : (m : List ℕ) (size : ℕ) → Receivable s m count size → Receivable cleared m count size
  cleared_receivable m size g = record {
    counted = record {
      all_nodes = g.counted.all_nodes ∙ ap nodes (sym (cleared_sheet s count e));
      few_nodes = few;
      own_room = g.counted.own_room ∙ ap memory_words (sym (cleared_sheet s count e));
    };
    long = omega (arith, g.long, cleared_length s count e g.long);
    some_room = g.some_room;
    small_room = g.small_room;
    whole = g.whole;
    calm = λ node l. cleared_stray node l ∙ g.calm node l;
  }

  -- so is what they write
  cleared_next : moving_words ≤ length s → (row node : ℕ) → receive_mark ≤ row → row ≤ landing_word → node < count
      → next_in_row cleared [] row node ≡ next_in_row s [] row node
  cleared_next long row node a b l =
      let long_now : moving_words ≤ length cleared = omega (arith, cleared_length s count e long) in
      sym ((node_wrote cleared cleared node (same_here cleared node) (omega arith) long_now).written row a b)
      ∙ (node_wrote s cleared node (cleared_same node l) (omega arith) long_now).written row a b

  after_same : (node address w : ℕ) → node < count → memory_after cleared node address w ≡ memory_after s node address w
  unfolding memory_after
  after_same node address w l =
      let same = cleared_same node l in
      ap₂ (λ (m a : ℕ). pick (2 ≤? m and a =? address) (memory_word cleared node) w) same.mark same.receive_address_is
      ∙ ap (λ (v : ℕ). pick (2 ≤? memory_mark s node and reg s receive_address node =? address) v w) same.payload

  pub cleared_memory : (m : List ℕ) (size : ℕ) → Receivable s m count size → next_memory cleared m ≡ next_memory s m
  unfolding next_memory
  cleared_memory m size g =
      tab_same (length m) _ _ (λ k l.
      let end : k < count * size = omega (arith, g.whole) in
      let node : k / size < count = (div-lt_iff_lt-mul g.some_room).1 end in
      ap (λ (z : List ℕ). memory_after cleared (k / memory_words z) (k % memory_words z) (word m k)) (cleared_sheet s count e)
      ∙ after_same (k / room s) (k % room s) (word m k) (subst (λ (r : ℕ). k / r < count) g.counted.own_room node))

  -- a node with nothing on its memory output has what the cycle leaves it
  pub cleared_rests : moving_words ≤ length s → (node : ℕ) → node < count → (memory_mark s node ≡ 0) × (memory_word s node ≡ 0) → Rests cleared node
  unfolding unlanded next_landing_mark ◌=?◌ ◌≤?◌
  cleared_rests long node l none =
      let same = cleared_same node l in
      let long_now : moving_words ≤ length cleared = omega (arith, cleared_length s count e long) in
      let no_mark : memory_mark cleared node ≡ 0 = same.mark ∙ none.0 in
      let has : (row : ℕ) → landing_mark ≤ row → row ≤ landing_word → reg cleared row node ≡ unlanded s row node = λ row a b.
      here landing_mark landing_word count (unlanded s) s cleared e row node (omega arith) (omega arith) a b l in
      let landed : landing_put cleared node ≡ cleared =
      landing_stays cleared node (has landing_mark (omega arith) (omega arith) ∙ sym (ap (λ (m : ℕ). pick (2 ≤? m) 1 0) no_mark))
      (has landing_kind (omega arith) (omega arith) ∙ sym same.receive_kind_is)
      (has landing_address (omega arith) (omega arith) ∙ sym same.receive_address_is)
      (has landing_word (omega arith) (omega arith) ∙ sym (same.payload ∙ none.1)) in
      let after : receive_put (landing_put cleared node) node ≡ cleared =
      ap (λ (x : List ℕ). receive_put x node) landed ∙ receive_rests cleared node no_mark in
      record {
        no_mark = no_mark;
        stays = λ row a b.
            sym ((node_wrote cleared cleared node (same_here cleared node) (omega arith) long_now).written row a b)
            ∙ ap (λ (x : List ℕ). reg x row node) after;
      }

  -- the stage over the cleared landings is the stage over those that were there
  pub cleared_rows : moving_words ≤ length s → count ≡ nodes (sheet_in s) → {now : List ℕ}
      → Staged receive_mark landing_word count (next_in_row cleared []) cleared now
      → now ≡ stage receive_mark landing_word (nodes (sheet_in s)) (next_in_row s []) s
  cleared_rows long own {now} g =
      staged_is receive_mark landing_word count (next_in_row s []) s now long
      (record {
        same_length = g.same_length ∙ cleared_length s count e long;
        same_rest = g.same_rest ∙ ap (drop moving_words) e ∙ stage_rest landing_mark landing_word count (unlanded s) s;
        done = λ row k a b l. g.done row k a b l ∙ cleared_next long row k a b l;
        kept = λ row k rl kl out.
            g.kept row k rl kl out
            ∙ off landing_mark landing_word count (unlanded s) s cleared e row k rl kl (λ a b l. out (omega arith) b l);
      })
      ∙ ap (λ (n : ℕ). stage receive_mark landing_word n (next_in_row s []) s) own
