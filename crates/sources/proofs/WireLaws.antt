-- The source wires, circuit by circuit: the marks and the words on them, and the faults of the sources.
-- Assumes nothing.
use Prim.Native.Nat.{ℕ, zero, suc, ◌+◌, ◌-◌, ◌<◌, ◌≤◌}
use mathlib.Core.Bool.{Bool, true, false, not, ◌||◌}
use mathlib.Core.List.{List}
use mathlib.Core.Path.{◌≡◌, refl, sym, subst, ◌∙◌, ap, ap₂}
use native.Mathlib.Omega.{arith}
use native.Mathlib.Decide.{ℕ_discrete}
use native.Mathlib.Nat.{add-zero}
use lib.Bits.{bit_or}
use lib.ListN.{set}
use Rattle.std.specs.declared.result.Result.{Result}
use Rattle.std.specs.declared.result.Result.TheVariants.{Ok, Err}
use Rattle.std.specs.Result.{is_err}
use Rattle.refusal.specs.declared.Refusal.{Refusal}
use Rattle.refusal.specs.Numbers.{number_of}
use Rattle.refusal.proofs.AnswerLaws.{is_some}
use Rattle.words.specs.Tests.{any, ◌and◌, ◌or◌, ◌≤?◌, ◌=?◌}
use Rattle.words.specs.Numbers.{unless}
use Rattle.words.specs.Words.{word, pick, tab}
use Rattle.words.proofs.TestLaws.{and_no, and_on, or_on, or_false, or_pairs, yes=, no=, yes≤, no≤}
use Rattle.words.proofs.AllLaws.{any_more}
use Rattle.words.proofs.NumberLaws.{unless_no, unless_yes}
use Rattle.words.proofs.WordLaws.{tab_at}
use Rattle.words.proofs.TableLaws.{tab_same, tab_set}
use Rattle.sheet.specs.declared.circuits.Circuit.{Circuit}
use Rattle.sheet.specs.Sheet.{circuits, nodes, circuit_at}
use Rattle.sheet.specs.Slots.{source_of}
use Rattle.sheet.proofs.PassedLaws.{nodes_few, circuit_small}
use Rattle.occupancy.specs.Inner.Occupancy.{bit_at, NextTaken}
use Rattle.occupancy.specs.declared.TakenPlaces.{TakenPlaces}
use Rattle.occupancy.proofs.MaskLaws.{union_free}
use Rattle.occupancy.proofs.WalkLaws.{On, Begun, Gave, Ended, none_left, next_place}
use Rattle.network.specs.Cycle.{rests, opens, sends}
use Rattle.network.specs.Registers.{reg, sheet_in, left_row, to_go_row}
use Rattle.network.specs.Inner.Machine.{slot_in, mark_of, sent_mark, sent_word, own_mark, first_mark, first_word, source_mark, source_word, crowds_in, reopens_in}
use Rattle.network.specs.Inner.Paired.{Sendable}
use Rattle.network.proofs.FirstLaws.{word_empty}
use Rattle.sources.specs.Inner.Acting.{Acting}
use Rattle.sources.specs.Inner.Wires.{marks_before, words_before, put_free, crowds_at}
use Rattle.sources.proofs.SourceLaws.{either_is, beside_mark, source_read}
use Rattle.sources.proofs.CrowdLaws.{first_new, first_old, first_idle, word_new, word_old, word_idle, own_here, own_other, own_empty, crowded_before, crowded_start, crowded_more}

-- a wire that is taken, and one that is free
module _ (marks : List ℕ) (node v : ℕ) (e : v ≡ word marks node) where
  module _ (ne : v ≡ 0 → ⊥) where
    pub is_taken : true ≡ (1 ≤? word marks node)
    is_taken = sym (yes≤ (let l : 1 ≤ word marks node = omega (arith, ne) in l))

    pub taken_stays : (w : ℕ) (list : List ℕ) → list ≡ put_free marks node w list
    unfolding put_free
    taken_stays w list = ap (λ (b : Bool). pick b (set list node w) list) (sym (no= (λ h. ne (e ∙ h))))

  module _ (h : v ≡ 0) where
    pub is_free : false ≡ (1 ≤? word marks node)
    is_free = sym (no≤ (let l : word marks node < 1 = omega arith in l))

    pub free_set : (w : ℕ) (list : List ℕ) {after : List ℕ} → after ≡ set list node w → after ≡ put_free marks node w list
    unfolding put_free
    free_set w list t = t ∙ ap (λ (b : Bool). pick b (set list node w) list) (sym (yes= (sym e ∙ h)))

-- a circuit reopens where its mark is a header's and words are to go
reopens_by : (slot left going : Bool) (to_go : ℕ)
    → (mark_of (pick (slot and left) opens (pick going sends rests)) to_go =? 1 and going) ≡ (slot and left and going)
unfolding ◌and◌ ◌=?◌
reopens_by true true going to_go = refl
reopens_by true false true to_go = sends_not (to_go =? 1)
  where
    sends_not : (b : Bool) → (pick {A = ℕ} b 3 2 =? 1 and true) ≡ false
    sends_not true = refl
    sends_not false = refl
reopens_by true false false to_go = refl
reopens_by false left true to_go = sends_not (to_go =? 1)
  where
    sends_not : (b : Bool) → (pick {A = ℕ} b 3 2 =? 1 and true) ≡ false
    sends_not true = refl
    sends_not false = refl
reopens_by false left false to_go = refl

reopens_is : (s : List ℕ) (c : ℕ) → (sent_mark s c =? 1 and 1 ≤? reg s to_go_row c) ≡ reopens_in s c
unfolding sent_mark reopens_in
reopens_is s c = reopens_by (1 ≤? slot_in s c) (1 ≤? reg s left_row c) (1 ≤? reg s to_go_row c) (reg s to_go_row c)

module _ (s : List ℕ) (c mark : ℕ) (e : mark ≡ sent_mark s c) where
  pub reopens_yes : mark ≡ 1 → (remaining : ℕ) → remaining ≡ reg s to_go_row c → (1 ≤? remaining) ≡ reopens_in s c
  reopens_yes h remaining d = and_on (yes= (sym e ∙ h)) (ap (λ (k : ℕ). 1 ≤? k) d) ∙ reopens_is s c

  pub reopens_no : (mark ≡ 1 → ⊥) → false ≡ reopens_in s c
  reopens_no ne = and_no _ (no= (λ h. ne (e ∙ h))) ∙ reopens_is s c

-- a circuit that puts nothing on its wire
module _ (s : List ℕ) (c mark : ℕ) (e : mark ≡ sent_mark s c) (h : mark ≡ 0) where
  idle : sent_mark s c ≡ 0
  idle = sym e ∙ h

  pub idle_fault : false ≡ crowds_at s c or reopens_in s c
  unfolding crowds_at
  idle_fault =
      or_on (sym (and_no _ (no≤ (let l : sent_mark s c < 1 = omega arith in l))))
      (and_no _ (no= (λ q. (let x : ⊥ = omega (arith, q, idle) in x))) ∙ reopens_is s c)

  pub idle_marks : (marks : List ℕ) → marks ≡ marks_before s c → marks ≡ marks_before s (c + 1)
  unfolding marks_before
  idle_marks marks q = q ∙ tab_same 16 _ _ (λ n l. first_idle (own_mark s n) c (own_empty s n c idle))

  pub idle_words : (m words : List ℕ) → words ≡ words_before s m c → words ≡ words_before s m (c + 1)
  unfolding words_before
  idle_words m words q = q ∙ tab_same 16 _ _ (λ n l. word_idle (own_mark s n) c (sent_word s m) (own_empty s n c idle))

-- one that puts a mark there
module _ (s z : List ℕ) (g : Sendable s z) (c : ℕ) (l : c < circuits z) where
  abbrev source : ℕ
  source = source_of (sheet_in s) c

  source_inside : source < nodes (sheet_in s)
  source_inside =
      subst (λ (x : List ℕ). source_of x c < nodes x) g.paired.own (circuit_small z g.ranged.circuits_fit c l).source_inside

  source_few : source < 16
  source_few =
      let few = nodes_few z g.paired.framed.headed in
      let same : nodes z ≡ nodes (sheet_in s) = ap nodes g.paired.own in
      omega (arith, source_inside, same)

  -- one more circuit in the count of the wires
  pub count_more : crowded_before s (c + 1) ≡ crowded_before s c or crowds_at s c
  count_more = crowded_more s c source_inside

  module _ (mark : ℕ) (e : mark ≡ sent_mark s c) (ne : mark ≡ 0 → ⊥) (x : Circuit) (read : x ≡ circuit_at z c) (marks : List ℕ) (q : marks ≡ marks_before s c) where
    node_is : x.read.node ≡ source
    node_is = source_read s z g.paired c x read

    abbrev before : ℕ → ℕ
    before n = first_mark c (own_mark s n)

    found_is : word marks x.read.node ≡ before source
    unfolding marks_before
    found_is = ap (λ (k : ℕ). word marks k) node_is ∙ ap (λ (y : List ℕ). word y source) q ∙ tab_at 16 before source source_few

    -- whether the wire was taken
    pub crowds_is : (r : Bool) → r ≡ (1 ≤? word marks x.read.node) → r ≡ crowds_at s c
    unfolding crowds_at
    crowds_is r t =
        and_on (yes≤ (let some : 1 ≤ sent_mark s c = omega (arith, ne, e) in some)) (t ∙ ap (λ (k : ℕ). 1 ≤? k) found_is)

    -- a node that is not the source
    other : (n : ℕ) → (n ≡ source → ⊥) → own_mark s n c ≡ 0
    other n apart = own_other s n c (λ h. apart (sym h))

    put_as : (w : ℕ) (list : List ℕ) → put_free marks x.read.node w list ≡ pick (before source =? 0) (set list source w) list
    unfolding put_free
    put_as w list =
        ap₂ (λ (k n : ℕ). pick (k =? 0) (set list n w) list) found_is node_is

    mark_own : mark ≡ own_mark s source c
    mark_own = e ∙ sym (own_here s source c refl)

    pub put_marks : (after : List ℕ) → after ≡ put_free marks x.read.node mark marks → after ≡ marks_before s (c + 1)
    unfolding marks_before
    put_marks after t =
        t ∙ put_as mark marks ∙ ap (λ (y : List ℕ). pick (before source =? 0) (set y source mark) y) q
        ∙ go (ℕ_discrete (before source) 0)
      where
        later : ℕ → ℕ
        later n = first_mark (c + 1) (own_mark s n)

        stays : (before source ≡ 0 → ⊥) → (n : ℕ) → Dec (n ≡ source) → before n ≡ later n
        stays taken n (yes h) = first_old (own_mark s n) c (λ f. taken (ap before (sym h) ∙ f))
        stays taken n (no apart) = first_idle (own_mark s n) c (other n apart)

        go : Dec (before source ≡ 0) → pick (before source =? 0) (set (tab 16 before) source mark) (tab 16 before) ≡ tab 16 later
        go (yes h) =
            ap (λ (b : Bool). pick b (set (tab 16 before) source mark) (tab 16 before)) (yes= h)
            ∙ tab_set 16 before later source mark (λ k. mark_own ∙ first_new (own_mark s source) c h)
            (λ n k apart. first_idle (own_mark s n) c (other n apart))
        go (no taken) =
            ap (λ (b : Bool). pick b (set (tab 16 before) source mark) (tab 16 before)) (no= taken)
            ∙ tab_same 16 before later (λ n k. stays taken n (ℕ_discrete n source))

    pub put_words : (m : List ℕ) (w : ℕ) → w ≡ sent_word s m c → (words after : List ℕ) → words ≡ words_before s m c
        → after ≡ put_free marks x.read.node w words → after ≡ words_before s m (c + 1)
    unfolding words_before
    put_words m w f words after p t =
        t ∙ put_as w words ∙ ap (λ (y : List ℕ). pick (before source =? 0) (set y source w) y) p
        ∙ go (ℕ_discrete (before source) 0)
      where
        sent : ℕ → ℕ
        sent n = first_word c (own_mark s n) (sent_word s m)

        later : ℕ → ℕ
        later n = first_word (c + 1) (own_mark s n) (sent_word s m)

        stays : (before source ≡ 0 → ⊥) → (n : ℕ) → Dec (n ≡ source) → sent n ≡ later n
        stays taken n (yes h) = word_old (own_mark s n) c (sent_word s m) (λ z. taken (ap before (sym h) ∙ z))
        stays taken n (no apart) = word_idle (own_mark s n) c (sent_word s m) (other n apart)

        go : Dec (before source ≡ 0) → pick (before source =? 0) (set (tab 16 sent) source w) (tab 16 sent) ≡ tab 16 later
        go (yes h) =
            ap (λ (b : Bool). pick b (set (tab 16 sent) source w) (tab 16 sent)) (yes= h)
            ∙ tab_set 16 sent later source w
            (λ k. f ∙ word_new (own_mark s source) c (sent_word s m) h (λ z. ne (mark_own ∙ z)))
            (λ n k apart. word_idle (own_mark s n) c (sent_word s m) (other n apart))
        go (no taken) =
            ap (λ (b : Bool). pick b (set (tab 16 sent) source w) (tab 16 sent)) (no= taken)
            ∙ tab_same 16 sent later (λ n k. stays taken n (ℕ_discrete n source))

    -- both faults
    pub put_fault : (crowds again : Bool) → crowds ≡ (1 ≤? word marks x.read.node) → again ≡ reopens_in s c
        → (crowds || again) ≡ crowds_at s c or reopens_in s c
    put_fault crowds again a b = either_is crowds again ∙ ap₂ ◌or◌ (crowds_is crowds a) b

-- the first n circuits are on the wires, and no mark is on the wires of the nodes beside a mask
record FirstWired (s z m : List ℕ) (count : ℕ) (marks cells : List ℕ) (fault : Bool) (wires n : ℕ) : Type 0 where
  inside : n ≤ count
  whole : count ≡ circuits z
  marks_done : marks ≡ marks_before s n
  words_done : cells ≡ words_before s m n
  fault_done : fault ≡ crowded_before s n or any n (reopens_in s)
  free : (node : ℕ) → bit_at wires node ≡ 0 → first_mark n (own_mark s node) ≡ 0

-- the same of the circuits before c, which is one of them
pub record Here (s z m : List ℕ) (count : ℕ) (marks cells : List ℕ) (fault : Bool) (wires c : ℕ) : Type 0 where
  first : FirstWired s z m count marks cells fault wires c
  below : c < count

-- the same of the circuits that a walk has left behind
pub record Wiring (s z m : List ℕ) (acting count : ℕ) (marks cells : List ℕ) (fault : Bool) (wires : ℕ) (walk : TakenPlaces) : Type 0 where
  pub on : On acting count walk
  first : FirstWired s z m count marks cells fault wires walk.from

module _ (s z m : List ℕ) (g : Sendable s z) (acting : ℕ) (p : Acting s acting) (count : ℕ) where
  same_circuits : circuits z ≡ circuits (sheet_in s)
  same_circuits = ap circuits g.paired.own

  first_more : (marks cells : List ℕ) (fault : Bool) (wires n : ℕ) → FirstWired s z m count marks cells fault wires n → n < count
      → (marks' cells' : List ℕ) (more fault' : Bool) (wires' : ℕ) → marks' ≡ marks_before s (n + 1) → cells' ≡ words_before s m (n + 1)
      → more ≡ crowds_at s n or reopens_in s n → fault' ≡ fault or more
      → ((node : ℕ) → bit_at wires' node ≡ 0 → first_mark (n + 1) (own_mark s node) ≡ 0)
      → FirstWired s z m count marks' cells' fault' wires' (n + 1)
  first_more marks cells fault wires n w l marks' cells' more fault' wires' a b d e f =
      let inside : n < circuits z = omega (arith, w.whole) in
      record {
        inside = omega arith;
        whole = w.whole;
        marks_done = a;
        words_done = b;
        fault_done =
            e ∙ ap₂ ◌or◌ w.fault_done d
            ∙ or_pairs (crowded_before s n) (any n (reopens_in s)) (crowds_at s n) (reopens_in s n)
            ∙ ap₂ ◌or◌ (sym (count_more s z g n inside)) (sym (any_more (reopens_in s) n));
        free = f;
      }

  module _ (marks cells : List ℕ) (fault : Bool) (wires : ℕ) where
    -- a circuit beside the mask leaves all as it is
    first_rests : (n : ℕ) → FirstWired s z m count marks cells fault wires n → n < count → bit_at acting n ≡ 0
        → FirstWired s z m count marks cells fault wires (n + 1)
    first_rests n w l beside =
        let none = beside_mark s acting p n (omega (arith, w.whole, same_circuits)) beside in
        first_more marks cells fault wires n w l marks cells false fault wires (idle_marks s n 0 none refl marks w.marks_done)
        (idle_words s n 0 none refl m cells w.words_done) (idle_fault s n 0 none refl) (or_false fault)
        (λ node f. sym (first_idle (own_mark s node) n (own_empty s node n (sym none))) ∙ w.free node f)

    first_over : (n d : ℕ) → FirstWired s z m count marks cells fault wires n → n + d ≤ count
        → ((k : ℕ) → n ≤ k → k < n + d → bit_at acting k ≡ 0) → FirstWired s z m count marks cells fault wires (n + d)
    first_over n zero w l beside = subst (FirstWired s z m count marks cells fault wires) (sym (add-zero n)) w
    first_over n (suc d) w l beside =
        let q : n + d + 1 ≡ n + suc d = omega arith in
        subst (FirstWired s z m count marks cells fault wires) q
        (first_rests (n + d) (first_over n d w (omega arith) (λ k a b. beside k a (omega arith))) (omega arith)
        (beside (n + d) (omega arith) (omega arith)))

    -- all circuits up to the next of the mask
    wiring_next : (n next : ℕ) → FirstWired s z m count marks cells fault wires n → NextTaken acting n next → next ≤ count
        → FirstWired s z m count marks cells fault wires next
    wiring_next n next w t h =
        let q : n + (next - n) ≡ next = omega (arith, t.onward) in
        subst (FirstWired s z m count marks cells fault wires) q
        (first_over n (next - n) w (omega (arith, q)) (λ k a b. t.passed k a (omega (arith, q))))

  pub wiring_start : (marks cells : List ℕ) → count ≡ circuits z → marks ≡ tab 16 (λ (n : ℕ). 0) → cells ≡ tab 16 (λ (n : ℕ). 0)
      → (walk : TakenPlaces) → Begun acting count walk → Wiring s z m acting count marks cells false 0 walk
  unfolding marks_before words_before first_mark first_word any
  wiring_start marks cells e a b walk h =
      let zero : FirstWired s z m count marks cells false 0 0 = record {
        inside = omega arith;
        whole = e;
        marks_done = a;
        words_done = b;
        fault_done = or_on (crowded_start s) refl;
        free = λ node f. refl;
      } in
      record { on = h.on; first = subst (FirstWired s z m count marks cells false 0) (sym h.at_start) zero }

  module _ (marks cells : List ℕ) (fault : Bool) (wires : ℕ) where
    module _ (walk : TakenPlaces) (w : Wiring s z m acting count marks cells fault wires walk) where
      module _ (after : TakenPlaces) where
        -- the circuits before the next of the mask are on the wires
        pub wiring_to : (c : ℕ) → Gave walk c after → Here s z m count marks cells fault wires c
        wiring_to c t =
            let q = next_place acting count walk w.on after c t in
            record { first = wiring_next marks cells fault wires walk.from c w.first q.next (omega (arith, q.below)); below = q.below }

        -- behind the last of the mask all are
        module _ (t : Ended walk after) where
          all_wired : FirstWired s z m count marks cells fault wires (circuits (sheet_in s))
          all_wired =
              let all_done : count ≡ circuits (sheet_in s) = w.first.whole ∙ same_circuits in
              subst (FirstWired s z m count marks cells fault wires) all_done
              (wiring_next marks cells fault wires walk.from count w.first (none_left acting count walk w.on after t) (omega arith))

          pub wiring_fault : fault ≡ any (nodes (sheet_in s)) (crowds_in s) or any (circuits (sheet_in s)) (reopens_in s)
          unfolding crowds_in
          wiring_fault = all_wired.fault_done

          -- its number, by whether a source was at fault
          pub wiring_refused : fault ≡ true → 20 ≡ unless 20 (not (any (nodes (sheet_in s)) (crowds_in s) or any (circuits (sheet_in s)) (reopens_in s)))
          wiring_refused h = unless_no 20 (ap not (sym wiring_fault ∙ h))

          pub wiring_passed : fault ≡ false → 0 ≡ unless 20 (not (any (nodes (sheet_in s)) (crowds_in s) or any (circuits (sheet_in s)) (reopens_in s)))
          wiring_passed h = unless_yes 20 (ap not (sym wiring_fault ∙ h))

          pub wiring_marks : marks ≡ tab 16 (source_mark s)
          unfolding marks_before source_mark
          wiring_marks = all_wired.marks_done

          pub wiring_words : cells ≡ tab 16 (source_word s m)
          unfolding words_before source_word
          wiring_words = all_wired.words_done

          -- the wires beside the mask are empty
          pub wiring_free : (n : ℕ) → n < 16 → bit_at wires n ≡ 0 → (source_mark s n ≡ 0) × (source_word s m n ≡ 0)
          unfolding source_mark source_word
          wiring_free n h f =
              let empty = all_wired.free n f in
              (empty, word_empty (own_mark s n) (sent_word s m) (circuits (sheet_in s)) empty)

    module _ (c : ℕ) (w : Here s z m count marks cells fault wires c) where
      pub wiring_inside : c < circuits z
      wiring_inside = omega (arith, w.first.whole, w.below)

      pub marks_here : marks ≡ marks_before s c
      marks_here = w.first.marks_done

      pub words_here : cells ≡ words_before s m c
      words_here = w.first.words_done

      module _ (x : Circuit) (e : x ≡ circuit_at z c) where
        node_own : source_of (sheet_in s) c ≡ x.read.node
        node_own = sym (source_read s z g.paired c x e)

        pub node_fits : x.read.node < 64
        node_fits = omega (arith, source_few s z g c wiring_inside, node_own)

        -- a node beside the mask is not the circuit's source
        free_more : (one : ℕ) → bit_at one x.read.node ≡ 1 → (k : ℕ) → bit_at (bit_or wires one) k ≡ 0 → first_mark (c + 1) (own_mark s k) ≡ 0
        free_more one t k f =
            let both = union_free wires one k f in
            let apart : source_of (sheet_in s) c ≡ k → ⊥ = λ h.
            (let z : bit_at one x.read.node ≡ 0 = subst (λ (x : ℕ). bit_at one x ≡ 0) (sym h ∙ node_own) both.1 in omega (arith, z, t)) in
            sym (first_idle (own_mark s k) c (own_other s k c apart)) ∙ w.first.free k both.0

        pub wiring_more : (one : ℕ) → bit_at one x.read.node ≡ 1 → (marks' cells' : List ℕ) (more fault' : Bool) → marks' ≡ marks_before s (c + 1)
            → cells' ≡ words_before s m (c + 1) → more ≡ crowds_at s c or reopens_in s c → fault' ≡ fault or more
            → (walk : TakenPlaces) → On acting count walk → walk.from ≡ c + 1
            → Wiring s z m acting count marks' cells' fault' (bit_or wires one) walk
        wiring_more one t marks' cells' more fault' a b d f walk on q = record {
          on = on;
          first = subst (FirstWired s z m count marks' cells' fault' (bit_or wires one)) (sym q)
              (first_more marks cells fault wires c w.first w.below marks' cells' more fault' (bit_or wires one) a b d f (free_more one t));
        }

-- whether a source was at fault, from the answer's number
pub refused_is : {A : Type 0} (r : Result A Refusal) (fault : Bool) → number_of r ≡ unless 20 (not fault) → is_err r ≡ fault
refused_is (Ok x) true e = let z : ◌≡◌ {A = ℕ} 0 20 = e ∙ sym (unless_no 20 refl) in absurd (omega (arith, z))
refused_is (Ok x) false e = refl
refused_is (Err n) true e = refl
refused_is (Err n) false e = absurd (is_some n (e ∙ sym (unless_yes 20 refl)))
