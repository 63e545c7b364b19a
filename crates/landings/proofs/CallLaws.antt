-- The load and the starts, one by one up to the first refusal, and what they leave.
-- Assumes nothing.
use Prim.Native.Nat.{ℕ, zero, suc, ◌+◌, ◌-◌, ◌*◌, ◌≤◌, ◌<◌}
use mathlib.Core.Bool.{Bool, true, false, false≢true}
use mathlib.Core.List.{List}
use mathlib.Core.Path.{◌≡◌, refl, sym, ◌∙◌, ap, ap₂}
use native.Mathlib.Omega.{arith}
use native.Mathlib.Nat.{add-suc, add-zero}
use native.Mathlib.Numerals.{add-one}
use lib.ListN.{length, replicate}
use Rattle.words.specs.Tests.{◌=?◌}
use Rattle.words.specs.Words.{pick, tab}
use Rattle.words.proofs.TestLaws.{yes=, no=, is=}
use Rattle.words.proofs.WordLaws.{length_tab}
use Rattle.sheet.specs.Sheet.{meant}
use Rattle.sheet.specs.Rules.{sheet_number}
use Rattle.octets.specs.Octets.{word_in}
use Rattle.network.specs.Registers.{sheet_in, state_words}
use Rattle.session.specs.Calls.{state_number, memory_number, loaded, Lent, lend, lend_state, Call, load, start, is_load, number, after}
use Rattle.session.proofs.AloneLaws.{is_alone, after_alone}
use Rattle.session.proofs.ReadingLaws.{memory_state}
use Rattle.landings.specs.Input.{stated_length, sheet_of, memory_size, memory_of, transfers_place, transfers, transfer_place}
use Rattle.landings.specs.Messages.{Message, Runs, Called, called, input_message, start_at, starts_on, calls_on, calls, refusal_of, message, behind}
use Rattle.landings.proofs.MessageLaws.{whole}
use Rattle.session.proofs.ReadyLaws.{ready_loaded, after_has, ready_after, passes_after}
use Rattle.session.proofs.WritingLaws.{state_written}
use Rattle.session.proofs.KeptLaws.{loaded_sheet, sheet_same}

-- five words at a place
same_five : {A : Type 0} (f : ℕ → ℕ → ℕ → ℕ → ℕ → A) {a b c d e a' b' c' d' e' : ℕ}
    → a ≡ a' → b ≡ b' → c ≡ c' → d ≡ d' → e ≡ e' → f a b c d e ≡ f a' b' c' d' e'
same_five f {a} {b} {c} {d} {e} {a'} {b'} {c'} {d'} {e'} p q r s t =
    ap (λ x. f x b c d e) p ∙ ap (λ x. f a' x c d e) q ∙ ap (λ x. f a' b' x d e) r ∙ ap (λ x. f a' b' c' x e) s ∙ ap (λ x. f a' b' c' d' x) t

-- a start of five words, from the words that were read
module _ (bytes : List ℕ) (at : ℕ) (s : List ℕ) {a b c d e : ℕ}
    (p : a ≡ word_in bytes at) (q : b ≡ word_in bytes (at + 1)) (r : c ≡ word_in bytes (at + 2))
    (t : d ≡ word_in bytes (at + 3)) (u : e ≡ word_in bytes (at + 4)) where
  start_is : start a b c d e ≡ start_at bytes at
  unfolding start_at
  start_is = same_five start p q r t u

  pub start_number_is : {n : ℕ} → n ≡ number (start a b c d e) (lend_state s) → n ≡ number (start_at bytes at) (lend_state s)
  start_number_is v = v ∙ ap (λ (x : Call). number x (lend_state s)) start_is

  pub start_state_is : {s' : List ℕ} → s' ≡ (after (start a b c d e) (lend_state s)).state
      → s' ≡ (after (start_at bytes at) (lend_state s)).state
  start_state_is f = f ∙ ap (λ (x : Call). (after x (lend_state s)).state) start_is

-- a number and a state, as calls leave them
abbrev stands : ℕ → List ℕ → Called
stands n s = record { refusal = n; state = s }

-- the loop over the transfers
pub record Starting (bytes : List ℕ) (count : ℕ) (s₀ s : List ℕ) (k : ℕ) : Type 0 where
  pub so_far : starts_on bytes s₀ k ≡ stands 0 s
  pub passes : state_number s ≡ 0

pub start_none : (bytes : List ℕ) (count : ℕ) (s : List ℕ) → state_number s ≡ 0 → Starting bytes count s s 0
unfolding starts_on
start_none bytes count s p = record { so_far = refl; passes = p }

starts_next : (bytes s₀ s : List ℕ) (k : ℕ) → starts_on bytes s₀ k ≡ stands 0 s
    → starts_on bytes s₀ (suc k) ≡ called (start_at bytes (transfer_place bytes k)) (lend_state s)
unfolding starts_on
starts_next bytes s₀ s k e =
    let x = start_at bytes (transfer_place bytes k) in
    ap (λ (c : Called). pick (c.refusal =? 0) (called x (lend_state c.state)) c) e
    ∙ ap (λ (t : Bool). pick t (called x (lend_state s)) (stands 0 s)) (yes= refl)

-- behind a refusal nothing more is done
starts_stay : (bytes s₀ : List ℕ) (n : ℕ) (c : Called) → (c.refusal ≡ 0 → ⊥) → starts_on bytes s₀ n ≡ c → (d : ℕ) → starts_on bytes s₀ (n + d) ≡ c
unfolding starts_on
starts_stay bytes s₀ n c ne e zero = rw add-zero e
starts_stay bytes s₀ n c ne e (suc d) =
    rw (add-suc n d)
    (ap (λ (x : Called). pick (x.refusal =? 0) (called (start_at bytes (transfer_place bytes (n + d))) (lend_state x.state)) x)
    (starts_stay bytes s₀ n c ne e d)
    ∙ ap (λ (t : Bool). pick t (called (start_at bytes (transfer_place bytes (n + d))) (lend_state c.state)) c) (no= ne))

module _ (bytes : List ℕ) (count : ℕ) (s₀ s : List ℕ) (k at : ℕ)
    (i : Starting bytes count s₀ s k) (l : k < count) (p : at ≡ transfer_place bytes k) {n : ℕ}
    (e : n ≡ number (start_at bytes at) (lend_state s))
    {s' : List ℕ} (f : s' ≡ (after (start_at bytes at) (lend_state s)).state) where
  next_is : starts_on bytes s₀ (suc k) ≡ stands n s'
  next_is =
      starts_next bytes s₀ s k i.so_far
      ∙ ap (λ (a : ℕ). called (start_at bytes a) (lend_state s)) (sym p)
      ∙ ap₂ stands (sym e) (sym f)

  pub start_more : n ≡ 0 → Starting bytes count s₀ s' (k + 1)
  start_more z = record {
    so_far = rw add-one (next_is ∙ ap (λ (x : ℕ). stands x s') z);
    passes = ap state_number f ∙ passes_after (start_at bytes at) (lend_state s) i.passes;
  }

  start_stopped : (n ≡ 0 → ⊥) → starts_on bytes s₀ count ≡ stands n s'
  start_stopped ne =
      let d : suc k + (count - suc k) ≡ count = omega (arith, l) in
      ap (starts_on bytes s₀) (sym d) ∙ starts_stay bytes s₀ (suc k) (stands n s') ne next_is (count - suc k)

  pub start_refused : (n ≡ 0 → ⊥) → (n ≡ (starts_on bytes s₀ count).refusal) × (s' ≡ (starts_on bytes s₀ count).state)
  start_refused ne =
      (sym (ap (λ (c : Called). c.refusal) (start_stopped ne)), sym (ap (λ (c : Called). c.state) (start_stopped ne)))

pub start_done_is : (bytes : List ℕ) (count : ℕ) (s₀ s : List ℕ) (k : ℕ) → Starting bytes count s₀ s k → k ≤ count → count ≤ k
    → (0 ≡ (starts_on bytes s₀ count).refusal) × (s ≡ (starts_on bytes s₀ count).state)
start_done_is bytes count s₀ s k i h l =
    let q : k ≡ count = omega arith in
    let all : starts_on bytes s₀ count ≡ stands 0 s = ap (starts_on bytes s₀) (sym q) ∙ i.so_far in
    (sym (ap (λ (c : Called). c.refusal) all), sym (ap (λ (c : Called). c.state) all))

-- where the parts lie of an input whose words are all there
module _ (bytes : List ℕ) {sheet : List ℕ} (z : sheet ≡ sheet_of bytes) where
  sheet_long : length sheet ≡ stated_length bytes
  unfolding sheet_of
  sheet_long = ap length z ∙ length_tab (stated_length bytes) (λ k. word_in bytes (1 + k))

  pub place_is : {size : ℕ} → size ≡ memory_size bytes → 1 + length sheet + size ≡ transfers_place bytes
  place_is l = omega (arith, sheet_long, l)

  pub memory_there : {size : ℕ} → input_message bytes ≡ Runs → size ≡ memory_size bytes → 4 * (1 + length sheet + size) ≤ length bytes
  memory_there e l = omega (arith, place_is l, (whole bytes e).long)

  pub memory_is : {size : ℕ} {m' : List ℕ} → size ≡ memory_size bytes → m' ≡ tab size (λ k. word_in bytes (1 + length sheet + k)) → m' ≡ memory_of bytes
  unfolding memory_of
  memory_is l e =
      e
      ∙ ap (λ n. tab n (λ k. word_in bytes (1 + length sheet + k))) l
      ∙ ap (λ n. tab (memory_size bytes) (λ k. word_in bytes (1 + n + k))) sheet_long

pub sheet_good : (bytes : List ℕ) {sheet : List ℕ} → input_message bytes ≡ Runs → sheet ≡ sheet_of bytes → sheet_number sheet ≡ 0
sheet_good bytes e z = ap sheet_number z ∙ (whole bytes e).passes

-- the load, then the starts
module _ (bytes s m : List ℕ) {sheet : List ℕ} (z : sheet ≡ sheet_of bytes) {n : ℕ} (v : n ≡ number (load sheet) (lend s m))
    {s' : List ℕ} (f : s' ≡ (after (load sheet) (lend s m)).state) where
  load_number_is : n ≡ number (load (sheet_of bytes)) (lend s m)
  load_number_is = v ∙ ap (λ (x : List ℕ). number (load x) (lend s m)) z

  load_state : s' ≡ (after (load (sheet_of bytes)) (lend s m)).state
  load_state = f ∙ ap (λ (x : List ℕ). (after (load x) (lend s m)).state) z

  pub load_passes : n ≡ 0 → state_number s' ≡ 0
  load_passes q = ap state_number load_state ∙ memory_state _ m (ready_loaded (sheet_of bytes) s m (sym load_number_is ∙ q))

  abbrev all_starts : Called
  all_starts = starts_on bytes (after (load (sheet_of bytes)) (lend s m)).state (transfers bytes)

  calls_refused : (n ≡ 0 → ⊥) → calls_on bytes s m ≡ stands n s'
  unfolding calls_on
  calls_refused ne =
      ap (λ (t : Bool). pick t all_starts (called (load (sheet_of bytes)) (lend s m))) (no= (λ q. ne (load_number_is ∙ q)))
      ∙ ap₂ stands (sym load_number_is) (sym load_state)

  pub call_refused : (n ≡ 0 → ⊥) → (n ≡ (calls_on bytes s m).refusal) × (s' ≡ (calls_on bytes s m).state)
  call_refused ne =
      (sym (ap (λ (c : Called). c.refusal) (calls_refused ne)), sym (ap (λ (c : Called). c.state) (calls_refused ne)))

  calls_started : n ≡ 0 → starts_on bytes s' (transfers bytes) ≡ calls_on bytes s m
  unfolding calls_on
  calls_started q =
      ap (λ (x : List ℕ). starts_on bytes x (transfers bytes)) load_state
      ∙ sym (ap (λ (t : Bool). pick t all_starts (called (load (sheet_of bytes)) (lend s m))) (yes= (sym load_number_is ∙ q)))

  pub call_started : (count : ℕ) {r : ℕ} {s'' : List ℕ}
      → n ≡ 0
      → count ≡ transfers bytes
      → r ≡ (starts_on bytes s' count).refusal
      → s'' ≡ (starts_on bytes s' count).state
      → (r ≡ (calls_on bytes s m).refusal) × (s'' ≡ (calls_on bytes s m).state)
  call_started count q c g h =
      let same : starts_on bytes s' count ≡ calls_on bytes s m = ap (starts_on bytes s') c ∙ calls_started q in
      (g ∙ ap (λ (x : Called). x.refusal) same, h ∙ ap (λ (x : Called). x.state) same)

-- a start is lent the state alone
pub start_alone : (bytes : List ℕ) (at : ℕ) → is_alone (start_at bytes at) ≡ true
unfolding start_at
start_alone bytes at = refl

start_loads_not : (bytes : List ℕ) (at : ℕ) → is_load (start_at bytes at) ≡ false
unfolding start_at
start_loads_not bytes at = refl

-- the words stay ready
starts_ready : (bytes s m : List ℕ) (k : ℕ) → memory_number s m ≡ 0 → memory_number (starts_on bytes s k).state m ≡ 0
unfolding starts_on
starts_ready bytes s m zero r = r
starts_ready bytes s m (suc k) r = go ((starts_on bytes s k).refusal =? 0) (starts_ready bytes s m k r)
  where
    next : (s : List ℕ) (x : Call) → is_alone x ≡ true → is_load x ≡ false → memory_number s m ≡ 0
        → memory_number (after x (lend_state s)).state m ≡ 0
    next s x a n r =
        ap (λ (w : Lent). memory_number w.state w.memory) (sym (after_alone s m x a)) ∙ ready_after x (lend s m) n r

    go : (t : Bool) → memory_number (starts_on bytes s k).state m ≡ 0
        → memory_number (pick t (called (start_at bytes (transfer_place bytes k)) (lend_state (starts_on bytes s k).state)) (starts_on bytes s k)).state m ≡ 0
    go true before = next _ (start_at bytes (transfer_place bytes k)) (start_alone bytes _) (start_loads_not bytes _) before
    go false before = before

pub calls_ready : (bytes s m : List ℕ) → (calls_on bytes s m).refusal ≡ 0 → memory_number (calls_on bytes s m).state m ≡ 0
unfolding calls_on
calls_ready bytes s m e = go (number (load (sheet_of bytes)) (lend s m) =? 0) refl e
  where
    starts : Called
    starts = starts_on bytes (after (load (sheet_of bytes)) (lend s m)).state (transfers bytes)

    go : (t : Bool) → (number (load (sheet_of bytes)) (lend s m) =? 0) ≡ t
        → (pick t starts (called (load (sheet_of bytes)) (lend s m))).refusal ≡ 0
        → memory_number (pick t starts (called (load (sheet_of bytes)) (lend s m))).state m ≡ 0
    go true q h = starts_ready bytes _ m (transfers bytes) (ready_loaded (sheet_of bytes) s m (is= _ _ q))
    go false q h = absurd (false≢true (sym q ∙ yes= h))

-- the load is carried out where no call is refused, and the starts upon it
pub load_first : (bytes s m : List ℕ) → (calls_on bytes s m).refusal ≡ 0
    → (number (load (sheet_of bytes)) (lend s m) ≡ 0)
    × (calls_on bytes s m ≡ starts_on bytes (loaded (meant (sheet_of bytes)) s) (transfers bytes))
unfolding calls_on
load_first bytes s m e = go (number (load (sheet_of bytes)) (lend s m) =? 0) refl e
  where
    starts : List ℕ → Called
    starts x = starts_on bytes x (transfers bytes)

    go : (t : Bool) → (number (load (sheet_of bytes)) (lend s m) =? 0) ≡ t
        → (pick t (starts (after (load (sheet_of bytes)) (lend s m)).state) (called (load (sheet_of bytes)) (lend s m))).refusal ≡ 0
        → (number (load (sheet_of bytes)) (lend s m) ≡ 0)
        × (pick t (starts (after (load (sheet_of bytes)) (lend s m)).state) (called (load (sheet_of bytes)) (lend s m))
        ≡ starts (loaded (meant (sheet_of bytes)) s))
    go true q h = (is= _ _ q, ap starts (sym (state_written (load (sheet_of bytes)) (lend s m) refl (is= _ _ q) refl)))
    go false q h = absurd (false≢true (sym q ∙ yes= h))

-- the sheet stays that of the load
starts_sheet : (bytes s : List ℕ) (k : ℕ) → sheet_in (starts_on bytes s k).state ≡ sheet_in s
unfolding starts_on
starts_sheet bytes s zero = refl
starts_sheet bytes s (suc k) = go ((starts_on bytes s k).refusal =? 0) (starts_sheet bytes s k)
  where
    next : (r : List ℕ) (x : Call) → is_load x ≡ false → sheet_in (after x (lend_state r)).state ≡ sheet_in r
    next r x n = after_has (λ (w : Lent). sheet_in w.state ≡ sheet_in r) x (lend_state r) (λ e. sheet_same x (lend_state r) n e) refl

    go : (t : Bool) → sheet_in (starts_on bytes s k).state ≡ sheet_in s
        → sheet_in (pick t (called (start_at bytes (transfer_place bytes k)) (lend_state (starts_on bytes s k).state)) (starts_on bytes s k)).state ≡ sheet_in s
    go true before = next _ (start_at bytes (transfer_place bytes k)) (start_loads_not bytes _) ∙ before
    go false before = before

pub calls_sheet : (bytes s m : List ℕ) → (calls_on bytes s m).refusal ≡ 0 → sheet_in (calls_on bytes s m).state ≡ meant (sheet_of bytes)
calls_sheet bytes s m e =
    ap (λ (c : Called). sheet_in c.state) (load_first bytes s m e).1
    ∙ starts_sheet bytes (loaded (meant (sheet_of bytes)) s) (transfers bytes)
    ∙ loaded_sheet (meant (sheet_of bytes)) s

-- all of it upon a state of zeros and the memories of the input
module _ (bytes s m : List ℕ) {s' : List ℕ} {r : ℕ} (e : input_message bytes ≡ Runs) (p : s ≡ replicate state_words 0) (q : m ≡ memory_of bytes)
    (f : r ≡ (calls_on bytes s m).refusal) (g : s' ≡ (calls_on bytes s m).state) where
  calls_are : calls_on bytes s m ≡ calls bytes
  unfolding calls
  calls_are = ap (λ (x : List ℕ). calls_on bytes x m) p ∙ ap (λ (x : List ℕ). calls_on bytes (replicate state_words 0) x) q

  message_is : refusal_of r ≡ message bytes
  unfolding message
  message_is =
      ap refusal_of (f ∙ ap (λ (c : Called). c.refusal) calls_are)
      ∙ sym (ap (λ (x : Message). behind x (refusal_of (calls bytes).refusal)) e)

  pub prepared : (refusal_of r ≡ message bytes) × ((s' ≡ (calls bytes).state) × (m ≡ memory_of bytes))
  prepared = (message_is, (g ∙ ap (λ (c : Called). c.state) calls_are, q))
