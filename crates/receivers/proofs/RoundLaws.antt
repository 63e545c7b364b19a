-- The loop over the nodes: the rows and the memories so far, one node more, and the stage and the memories that this is in the end.
-- Assumes nothing.
use Rattle.std.proofs.Common.{◌≡◌, ℕ, ◌+◌, ◌*◌, ◌/◌, ◌%◌, ◌<◌, ◌≤◌, Bool, true, false, List, [], length, set, sym, refl, ap, ◌∙◌, subst, ap₂, mul-le-mul_right, mod-lt, div-lt_iff_lt-mul, div-add-mod', arith, length-set, get_or-set_other, get_or-set_same}
use mathlib.Core.Bool.{false≢true}
use native.Mathlib.Decide.{ℕ_discrete, dec_lt}
use Rattle.words.specs.Tests.{◌≤?◌, ◌=?◌}
use Rattle.words.specs.Words.{word, pick, tab}
use Rattle.words.proofs.TestLaws.{and_no, and_both, and_no_right, yes≤, no≤, yes=, no=, or_skip, is≤}
use Rattle.words.proofs.WordLaws.{tab_is}
use Rattle.sheet.specs.Sheet.{nodes}
use Rattle.occupancy.specs.Inner.Occupancy.{bit_at, NextTaken}
use Rattle.occupancy.specs.Inner.Places.{Passed}
use Rattle.occupancy.specs.declared.TakenPlaces.{TakenPlaces}
use Rattle.occupancy.proofs.WalkLaws.{On, Gave, Ended, still_on, next_place, none_left}
use Rattle.network.specs.Registers.{reg, sheet_in, room, moving_words, out_mark, out_word, receive_mark, receive_kind, receive_address, landing_mark, landing_word}
use Rattle.network.specs.Inner.Machine.{memory_mark, memory_word, memory_after, next_in_row, next_memory, strays_in}
use Rattle.network.specs.Inner.Stages.{stage}
use Rattle.network.specs.Inner.Quiet.{unlanded}
use Rattle.network.proofs.FillLaws.{Staged, stage_start, stage_more, stage_jump, still, beside}
use Rattle.receivers.specs.Inner.Required.{Receivable, LandingFits}
use Rattle.receivers.specs.Inner.Written.{landing_put, receive_put, memory_put}
use Rattle.receivers.proofs.NodeLaws.{SameAt, node_wrote, Rests}
use Rattle.receivers.proofs.ClearedLaws.{cleared_receivable, cleared_memory, cleared_rests, cleared_rows}

-- a payload word that does not stray has an address within the memory
pub not_stray : (s : List ℕ) (node : ℕ) → strays_in s node ≡ false → 2 ≤ memory_mark s node → reg s receive_address node < room s
unfolding strays_in
not_stray s node e l = go (dec_lt (reg s receive_address node) (room s))
  where
    go : Dec (reg s receive_address node < room s) → reg s receive_address node < room s
    go (yes h) = h
    go (no ne) =
        let past : room s ≤ reg s receive_address node = omega (arith, ne) in
        absurd (false≢true (sym e ∙ and_both (yes≤ l) (sym (or_skip (reg s receive_mark node =? 0) (sym (yes≤ past))))))

-- places in the memories: those of a node lie below the next node's
below_next : (node n size address : ℕ) → node < n → address < size → node * size + address < n * size
below_next node n size address l h =
    let next : (node + 1) * size ≤ n * size = mul-le-mul_right size (omega arith) in
    omega arith

-- a memory word after a cycle, by what is on the node's memory output
module _ (s : List ℕ) (node address w : ℕ) where
  after_none : (2 ≤? memory_mark s node) ≡ false → w ≡ memory_after s node address w
  unfolding memory_after
  after_none e = rw (sym (and_no (reg s receive_address node =? address) e))

  after_other : (reg s receive_address node ≡ address → ⊥) → w ≡ memory_after s node address w
  unfolding memory_after
  after_other ne = rw (and_no_right (2 ≤? memory_mark s node) (reg s receive_address node =? address) (no= ne))

  after_stored : (2 ≤? memory_mark s node) ≡ true → reg s receive_address node ≡ address → memory_word s node ≡ memory_after s node address w
  unfolding memory_after
  after_stored e q = rw (and_both e (yes= q))

-- before node n: the rows as the stage wants them, the nodes' memories as they are after the cycle
pub record Receiving (s m : List ℕ) (size n : ℕ) (now memory : List ℕ) : Type 0 where
  pub staged : Staged receive_mark landing_word n (next_in_row s []) s now
  pub same_length : length memory ≡ length m
  pub stored : (node address : ℕ) → node < n → address < size
      → word memory (node * size + address) ≡ memory_after s node address (word m (node * size + address))
  pub kept : (k : ℕ) → n * size ≤ k → word memory k ≡ word m k

receiving_start : (s m : List ℕ) (size : ℕ) → Receiving s m size 0 s m
receiving_start s m size =
    record {
      staged = stage_start receive_mark landing_word (next_in_row s []) s;
      same_length = refl;
      stored = λ node address l h. absurd (omega arith);
      kept = λ k l. refl;
    }

-- from a node that is done to the next that may have something on its memory output: the nodes between rest
receiving_pass : (s m : List ℕ) (count size outs n next : ℕ) (now memory : List ℕ) → count ≤ 16
    → ((k : ℕ) → k < count → bit_at outs k ≡ 0 → Rests s k) → next ≤ count → NextTaken outs n next → Receiving s m size n now memory
    → Receiving s m size next now memory
receiving_pass s m count size outs n next now memory few rests inside t p = record {
  staged =
      stage_jump receive_mark landing_word n next (next_in_row s []) s now (omega arith) (omega arith) t.onward p.staged
      (λ k a b. (passed k a b).stays);
  same_length = p.same_length;
  stored = λ node address l h. go node address l h (dec_lt node n);
  kept = λ k l. p.kept k (let before : n * size ≤ next * size = mul-le-mul_right size t.onward in omega arith);
}
  where
    passed : (k : ℕ) → n ≤ k → k < next → Rests s k
    passed k a b = rests k (omega arith) (t.passed k a b)

    go : (node address : ℕ) → node < next → address < size → Dec (node < n)
        → word memory (node * size + address) ≡ memory_after s node address (word m (node * size + address))
    go node address l h (yes b) = p.stored node address b h
    go node address l h (no nb) =
        let behind : n ≤ node = omega (arith, nb) in
        let after : n * size ≤ node * size = mul-le-mul_right size behind in
        let quiet : memory_mark s node < 2 = omega (arith, (passed node behind l).no_mark) in
        p.kept (node * size + address) (omega arith) ∙ after_none s node address _ (no≤ quiet)

module _ (s m : List ℕ) (count size : ℕ) (g : Receivable s m count size) where
  module _ (n : ℕ) (now memory : List ℕ) (l : n < count) (p : Receiving s m size n now memory) where
    few : n < 16
    few = omega (arith, g.counted.few_nodes)

    -- node n's part reads what was there at first
    same_now : SameAt s now n
    same_now =
        let f = few in
        let d = p.staged in
        record {
          mark = beside receive_mark landing_word n _ s now d out_mark _ (omega arith) (omega arith) (λ a b. omega arith);
          payload = beside receive_mark landing_word n _ s now d out_word _ (omega arith) (omega arith) (λ a b. omega arith);
          receive_mark_is = still receive_mark landing_word n _ s now d receive_mark n (omega arith) (omega arith) (omega arith);
          receive_kind_is = still receive_mark landing_word n _ s now d receive_kind n (omega arith) (omega arith) (omega arith);
          receive_address_is = still receive_mark landing_word n _ s now d receive_address n (omega arith) (omega arith) (omega arith);
        }

    long_now : moving_words ≤ length now
    long_now = omega (arith, p.staged.same_length, g.long)

    -- a word that lands at node n has an address within its memory
    lands_now : 2 ≤ memory_mark s n → reg s receive_address n < size
    lands_now h = omega (arith, not_stray s n (g.calm n l) h, g.counted.own_room)

    landing_now : LandingFits now n size
    landing_now =
        let e = same_now in
        record {
          inside = few;
          long = long_now;
          small_room = g.small_room;
          lands = λ h.
              let low = lands_now (omega (arith, e.mark)) in
              omega (arith, e.receive_address_is);
        }

    -- the rows
    rows_more : (next : List ℕ) → next ≡ receive_put (landing_put now n) n → Staged receive_mark landing_word (n + 1) (next_in_row s []) s next
    rows_more next e =
        let f = few in
        subst (Staged receive_mark landing_word (n + 1) (next_in_row s []) s) (sym e)
        (stage_more receive_mark landing_word n (next_in_row s []) s now (receive_put (landing_put now n) n) (omega arith) (omega arith) p.staged
        (node_wrote s now n same_now few long_now))

    -- what the memories are to be, node by node: so far, and with node n
    abbrev Stored : ℕ → List ℕ → Type 0
    Stored k after =
        (node address : ℕ) → node < k → address < size
        → word after (node * size + address) ≡ memory_after s node address (word m (node * size + address))

    abbrev Kept : ℕ → List ℕ → Type 0
    Kept k after = (i : ℕ) → k * size ≤ i → word after i ≡ word m i

    -- nothing lands at node n
    stored_none : (2 ≤? memory_mark s n) ≡ false → Stored (n + 1) memory
    stored_none e node address nl al = go (ℕ_discrete node n)
      where
        go : Dec (node ≡ n) → word memory (node * size + address) ≡ memory_after s node address (word m (node * size + address))
        go (yes q) =
            p.kept (node * size + address) (let h : n * size ≡ node * size = ap (λ (i : ℕ). i * size) (sym q) in omega arith)
            ∙ after_none s node address _ (ap (λ (i : ℕ). 2 ≤? memory_mark s i) q ∙ e)
        go (no ne) = p.stored node address (omega (arith, ne)) al

    kept_none : Kept (n + 1) memory
    kept_none i h = p.kept i (omega arith)

    -- a word w lands there, at the address a
    module _ (e : (2 ≤? memory_mark s n) ≡ true) where
      abbrev a : ℕ
      a = reg s receive_address n

      abbrev after : List ℕ
      after = set memory (n * size + a) (memory_word s n)

      low : a < size
      low = lands_now (is≤ _ _ e)

      inside : n * size + a < length memory
      inside =
          let h = below_next n count size a l low in
          omega (arith, p.same_length, g.whole)

      stored_here : (address : ℕ) → address < size → word after (n * size + address) ≡ memory_after s n address (word m (n * size + address))
      stored_here address al = go (ℕ_discrete a address)
        where
          go : Dec (a ≡ address) → word after (n * size + address) ≡ memory_after s n address (word m (n * size + address))
          go (yes q) =
              ap (λ (i : ℕ). word after (n * size + i)) (sym q)
              ∙ get_or-set_same memory (n * size + a) (memory_word s n) 0 inside
              ∙ after_stored s n address _ e q
          go (no ne) =
              get_or-set_other memory (n * size + a) (n * size + address) (memory_word s n) 0 (λ h. ne (omega (arith, h)))
              ∙ p.kept (n * size + address) (omega arith)
              ∙ after_other s n address _ ne

      stored_some : Stored (n + 1) after
      stored_some node address nl al = go (ℕ_discrete node n)
        where
          go : Dec (node ≡ n) → word after (node * size + address) ≡ memory_after s node address (word m (node * size + address))
          go (yes q) =
              subst (λ (i : ℕ). word after (i * size + address) ≡ memory_after s i address (word m (i * size + address))) (sym q)
              (stored_here address al)
          go (no ne) =
              let nl' : node < n = omega (arith, ne) in
              let before = below_next node n size address nl' al in
              get_or-set_other memory (n * size + a) (node * size + address) (memory_word s n) 0 (λ h. omega (arith, h))
              ∙ p.stored node address nl' al

      kept_some : Kept (n + 1) after
      kept_some i h =
          let lower = low in
          get_or-set_other memory (n * size + a) i (memory_word s n) 0 (λ q. omega (arith, q)) ∙ p.kept i (omega arith)

    -- the memories, by whether a word lands
    memory_now : memory_put now memory n size ≡ pick (2 ≤? memory_mark s n) (set memory (n * size + reg s receive_address n) (memory_word s n)) memory
    unfolding memory_put
    memory_now =
        let e = same_now in
        ap₂ (λ (x i : ℕ). pick (2 ≤? x) (set memory (n * size + i) (memory_word now n)) memory) e.mark e.receive_address_is
        ∙ ap (λ (w : ℕ). pick (2 ≤? memory_mark s n) (set memory (n * size + reg s receive_address n) w) memory) e.payload

    receiving_more : (next new : List ℕ) → next ≡ receive_put (landing_put now n) n → new ≡ memory_put now memory n size
        → Receiving s m size (n + 1) next new
    receiving_more next new e f = go (2 ≤? memory_mark s n) refl (f ∙ memory_now)
      where
        go : (b : Bool) → (2 ≤? memory_mark s n) ≡ b
            → new ≡ pick b (set memory (n * size + reg s receive_address n) (memory_word s n)) memory → Receiving s m size (n + 1) next new
        go true q h =
            record {
              staged = rows_more next e;
              same_length = ap length h ∙ length-set memory _ _ ∙ p.same_length;
              stored = subst (Stored (n + 1)) (sym h) (stored_some q);
              kept = subst (Kept (n + 1)) (sym h) (kept_some q);
            }
        go false q h =
            record {
              staged = rows_more next e;
              same_length = ap length h ∙ p.same_length;
              stored = subst (Stored (n + 1)) (sym h) (stored_none q);
              kept = subst (Kept (n + 1)) (sym h) kept_none;
            }

  -- all nodes are done
  module _ (now memory : List ℕ) (full : Receiving s m size count now memory) where
    rows_done : Staged receive_mark landing_word count (next_in_row s []) s now
    rows_done = full.staged

    word_done : (k : ℕ) → k < length m → word memory k ≡ memory_after s (k / size) (k % size) (word m k)
    word_done k l =
        let some : 0 < size = g.some_room in
        let q : k / size * size + k % size ≡ k = div-add-mod' k size in
        let end : k < count * size = omega (arith, g.whole) in
        let inside : k / size < count = (div-lt_iff_lt-mul some).1 end in
        sym (ap (word memory) q)
        ∙ full.stored (k / size) (k % size) inside (mod-lt k some)
        ∙ ap (λ (i : ℕ). memory_after s (k / size) (k % size) (word m i)) q

    memory_done : memory ≡ next_memory s m
    unfolding next_memory
    memory_done =
        tab_is memory (length m) (λ k. memory_after s (k / size) (k % size) (word m k)) full.same_length word_done
        ∙ ap (λ (r : ℕ). tab (length m) (λ k. memory_after s (k / r) (k % r) (word m k))) g.counted.own_room

-- so far in a walk through the nodes of a mask
pub record Round (s m : List ℕ) (count size outs : ℕ) (walk : TakenPlaces) (now memory : List ℕ) : Type 0 where
  pub on : On outs count walk
  pub so_far : Receiving s m size walk.from now memory

-- the landings are cleared, and then the nodes of a mask are stepped, since the others rest
module _ (s m : List ℕ) (count size outs : ℕ) {cleared : List ℕ} (g : Receivable s m count size)
    (none : (node : ℕ) → node < count → bit_at outs node ≡ 0 → (memory_mark s node ≡ 0) × (memory_word s node ≡ 0))
    (e : cleared ≡ stage landing_mark landing_word count (unlanded s) s) where
  ready : Receivable cleared m count size
  ready = cleared_receivable s count g.counted.few_nodes e m size g

  rests : (k : ℕ) → k < count → bit_at outs k ≡ 0 → Rests cleared k
  rests k l b = cleared_rests s count g.counted.few_nodes e g.long k l (none k l b)

  module _ (walk : TakenPlaces) (now memory : List ℕ) (p : Round cleared m count size outs walk now memory) where
    module _ (after : TakenPlaces) where
      -- the walk gives a node, and those before it are done
      module _ (node : ℕ) (t : Gave walk node after) where
        next : Passed outs walk.from count node after.from
        next = next_place outs count walk p.on after node t

        to_here : Receiving cleared m size node now memory
        to_here =
            receiving_pass cleared m count size outs walk.from node now memory g.counted.few_nodes rests (omega (arith, next.below)) next.next
            p.so_far

        pub round_fits : LandingFits now node size
        round_fits = landing_now cleared m count size ready node now memory next.below to_here

        pub round_more : (then new : List ℕ) → then ≡ receive_put (landing_put now node) node → new ≡ memory_put now memory node size
            → Round cleared m count size outs after then new
        round_more then new a b = record {
          on = still_on outs count walk p.on after node t;
          so_far =
              subst (λ (n : ℕ). Receiving cleared m size n then new) (sym next.onward)
              (receiving_more cleared m count size ready node now memory next.below to_here then new a b);
        }

      -- or none is left, and all are done
      module _ (t : Ended walk after) where
        all : Receiving cleared m size count now memory
        all =
            receiving_pass cleared m count size outs walk.from count now memory g.counted.few_nodes rests (omega arith)
            (none_left outs count walk p.on after t) p.so_far

        pub round_rows : now ≡ stage receive_mark landing_word (nodes (sheet_in s)) (next_in_row s []) s
        round_rows =
            cleared_rows s count g.counted.few_nodes e g.long g.counted.all_nodes (rows_done cleared m count size ready now memory all)

        pub round_memory : memory ≡ next_memory s m
        round_memory =
            memory_done cleared m count size ready now memory all ∙ cleared_memory s count g.counted.few_nodes e m size g
