-- A list of transfers is its single starts, one after another.
-- Assumes nothing.
use Rattle.std.proofs.Common.{◌≡◌, ℕ, zero, suc, ◌<◌, ◌≤◌, Bool, true, false, not, List, [], ◌∷◌, ◌++◌, map, length, get_or, take, sym, refl, ap, ◌∙◌, subst, not-suc-le-zero, arith}
use Rattle.words.specs.Tests.{◌and◌, ◌or◌, ◌≤?◌, ◌<?◌, ◌=?◌}
use Rattle.words.specs.Words.{pick}
use Rattle.words.proofs.TestLaws.{or_yes, yes≤, yes=}
use Rattle.words.proofs.NumberLaws.{then_zero, then_next, then_on, unless_no}
use Rattle.packet.specs.Header.{data_kind}
use Rattle.sheet.specs.Sheet.{memory_words, circuits, circuit_at}
use Rattle.network.specs.View.{Sender}
use Rattle.network.specs.Registers.{reg, sheet_in, left_row, row_words}
use Rattle.soundness.specs.Sound.{kind_travels, lies_in}
use Rattle.session.specs.declared.Transfer.{Transfer}
use Rattle.session.specs.Calls.{state_number, start_named, start_fits, is_busy, start_number, transfer_number, started_by, started_next, started_all, answers_all}
use Rattle.session.specs.Calls.{Lent, lend, lend_state, cycle, number, does, after, after_all, start_all, as_start, AsSingles}
use Rattle.session.proofs.NumberLaws.{start_passed}
use Rattle.session.proofs.RegisterLaws.{started_other, started_sender}
use Rattle.session.proofs.WritingLaws.{after_done}
use Rattle.session.proofs.ListLaws.{all_has}
use Rattle.session.proofs.KeptLaws.{state_passes, few_circuit, start_sheet}

-- a transfer of a list leaves what its start leaves
pub next_is : (t : Transfer) (w : Lent) → after (as_start t) w ≡ lend (started_next w.state t) w.memory
unfolding after started_next
next_is t w = go (transfer_number w.state t =? 0)
  where
    go : (b : Bool) → pick b (does (as_start t) w) w
        ≡ lend (pick b (started_by w.state t) w.state) w.memory
    go true = refl
    go false = refl

-- and the list what its starts leave
all_is : (ts : List Transfer) (w : Lent) → lend (started_all w.state ts) w.memory ≡ after_all (map as_start ts) w
unfolding started_all
all_is [] w = refl
all_is (t ∷ ts) w =
    all_is ts (lend (started_next w.state t) w.memory) ∙ ap (after_all (map as_start ts)) (sym (next_is t w))

answers_are : (ts : List Transfer) (w : Lent) (i : ℕ) → i < length ts
    → get_or (answers_all w.state ts) i 0 ≡ number (get_or (map as_start ts) i cycle) (after_all (take i (map as_start ts)) w)
unfolding answers_all
answers_are [] w i l = absurd (not-suc-le-zero l)
answers_are (t ∷ ts) w zero l = refl
answers_are (t ∷ ts) w (suc i) l =
    answers_are ts (lend (started_next w.state t) w.memory) i (omega arith)
    ∙ ap (λ (y : Lent). number (get_or (map as_start ts) i cycle) (after_all (take i (map as_start ts)) y)) (sym (next_is t w))

pub answers_length : (ts : List Transfer) (s : List ℕ) → length (answers_all s ts) ≡ length ts
unfolding answers_all
answers_length [] s = refl
answers_length (t ∷ ts) s = ap suc (answers_length ts (started_next s t))

-- the first transfers, one, and the others
pub all_split : (ts us : List Transfer) (t : Transfer) (s : List ℕ)
    → started_all s (ts ++ (t ∷ us)) ≡ started_all (started_next (started_all s ts) t) us
unfolding started_all
all_split [] us t s = refl
all_split (v ∷ ts) us t s = all_split ts us t (started_next s v)

-- a start that is carried out leaves its circuit busy, and every start after it does
record Busy (s : List ℕ) (circuit : ℕ) (u : List ℕ) : Type 0 where
  few : circuit < row_words
  passes : state_number u ≡ 0
  same_sheet : sheet_in u ≡ sheet_in s
  some_left : 1 ≤ reg u left_row circuit

busy_first : (t : Transfer) (s : List ℕ) → transfer_number s t ≡ 0
    → Busy s t.circuit (started_by s t)
unfolding start_number
busy_first t s e =
    let p = start_passed s t.circuit t.read t.write t.count t.kind e in
    let few = few_circuit s t.circuit t.read t.write t.count t.kind e in
    let sender = started_sender s t.circuit t.read t.write t.count t.kind few (omega (arith, p.state.long)) in
    record {
      few = few;
      passes = state_passes (as_start t) (lend_state s) e (then_zero _ _ e).0;
      same_sheet = start_sheet s t.circuit t.read t.write t.count t.kind e;
      some_left = omega (arith, p.some, ap (λ (x : Sender). x.left) sender);
    }

busy_next : (s : List ℕ) (circuit : ℕ) (t : Transfer) (u : List ℕ) → transfer_number u t ≡ 0 → Busy s circuit u
    → Busy s circuit (started_by u t)
busy_next s circuit t u e b =
    let p = start_passed u t.circuit t.read t.write t.count t.kind e in
    let few = few_circuit u t.circuit t.read t.write t.count t.kind e in
    let kept = started_other u t.circuit t.read t.write t.count t.kind few left_row circuit b.few
    (λ low high q. omega (arith, p.free, b.some_left, ap (reg u left_row) q)) in
    record {
      few = b.few;
      passes = state_passes (as_start t) (lend_state u) e b.passes;
      same_sheet = start_sheet u t.circuit t.read t.write t.count t.kind e ∙ b.same_sheet;
      some_left = omega (arith, kept, b.some_left);
    }

-- 15 and 16 of a start read the sheet alone
named_same : (s u : List ℕ) (t : Transfer) → sheet_in u ≡ sheet_in s → start_named s t.circuit t.read t.write t.kind ≡ true
    → start_named u t.circuit t.read t.write t.kind ≡ true
unfolding start_named
named_same s u t same =
    subst (λ (z : List ℕ). (t.circuit <? circuits z and t.read <? memory_words z and t.write <? memory_words z and kind_travels t.kind) ≡ true)
    (sym same)

fits_same : (s u : List ℕ) (t : Transfer) → sheet_in u ≡ sheet_in s
    → start_fits s t.circuit t.read t.write t.count t.kind ≡ true
    → start_fits u t.circuit t.read t.write t.count t.kind ≡ true
unfolding start_fits
fits_same s u t same =
    subst (λ (z : List ℕ). (1 ≤? t.count and (t.kind =? data_kind or t.count =? 1)
    and lies_in (circuit_at z t.circuit).read t.read t.count
    and lies_in (circuit_at z t.circuit).receive t.write t.count) ≡ true) (sym same)

-- so a transfer that passes both gets 17 where its circuit is busy
refused_busy : (s u : List ℕ) (t : Transfer) → Busy s t.circuit u
    → start_named s t.circuit t.read t.write t.kind ≡ true
    → start_fits s t.circuit t.read t.write t.count t.kind ≡ true → transfer_number u t ≡ 17
unfolding start_number is_busy
refused_busy s u t b named fits =
    sym (then_next b.passes
    (then_on 15 (named_same s u t b.same_sheet named)
    (then_on 16 (fits_same s u t b.same_sheet fits) (unless_no 17 (ap not (sym (or_yes _ (yes≤ b.some_left))))))))

next_done : (t : Transfer) (s : List ℕ) → transfer_number s t ≡ 0
    → started_next s t ≡ started_by s t
unfolding started_next
next_done t s e = ap (λ (b : Bool). pick b (started_by s t) s) (yes= e)

all_busy : (ts us : List Transfer) (t u : Transfer) (s : List ℕ) → transfer_number (started_all s ts) t ≡ 0 → u.circuit ≡ t.circuit
    → start_named s u.circuit u.read u.write u.kind ≡ true
    → start_fits s u.circuit u.read u.write u.count u.kind ≡ true
    → transfer_number (started_all s (ts ++ (t ∷ us))) u ≡ 17
all_busy ts us t u s e c named fits =
    let before : List ℕ = started_all s ts in
    let same : sheet_in before ≡ sheet_in s = all_has (λ v. sheet_in v ≡ sheet_in s)
    (λ x v z p. start_sheet v x.circuit x.read x.write x.count x.kind z ∙ p) ts s refl in
    let next : List ℕ = started_by before t in
    let busy : Busy before t.circuit (started_all next us) =
    all_has (Busy before t.circuit) (busy_next before t.circuit) us next (busy_first t before e) in
    ap (λ (v : List ℕ). transfer_number v u) (all_split ts us t s ∙ ap (λ (v : List ℕ). started_all v us) (next_done t before e))
    ∙ refused_busy before (started_all next us) u (subst (λ (k : ℕ). Busy before k (started_all next us)) (sym c) busy)
    (named_same s before u same named) (fits_same s before u same fits)

pub as_singles : AsSingles
as_singles = record {
  words = λ ts answer_words w e. after_done (start_all ts answer_words) w e ∙ all_is ts w;
  answers = answers_are;
  as_many = answers_length;
  busy = all_busy;
}
