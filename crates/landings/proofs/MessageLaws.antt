-- The message of an input, test by test, and what an input has whose words are all there.
-- Assumes nothing.
use Prim.Native.Nat.{ℕ, ◌+◌, ◌*◌, ◌<◌, ◌≤◌}
use mathlib.Core.Bool.{Bool, true, false, false≢true}
use mathlib.Core.List.{List}
use mathlib.Core.Path.{◌≡◌, refl, sym, ◌∙◌, ap}
use native.Mathlib.Omega.{arith}
use lib.ListN.{length, take, replicate}
use Rattle.words.specs.Tests.{◌<?◌, ◌=?◌}
use Rattle.words.specs.Words.{pick, tab}
use Rattle.words.proofs.TestLaws.{yes<, no<, yes=, no=, is=, not<}
use Rattle.sheet.specs.Sheet.{meant, nodes, memory_words, sheet_words}
use Rattle.words.proofs.WordLaws.{length_zeros}
use Rattle.sheet.specs.Rules.{sheet_number, check_number}
use Rattle.sheet.proofs.CheckLaws.{check_passes}
use Rattle.octets.specs.Octets.{word_in}
use Rattle.landings.specs.Input.{most_memory, most_transfers, most_cycles, stated_length, sheet_of, memory_place, memory_size, transfers_place, transfers, cycles_place, cycles_asked}
use Rattle.landings.specs.Messages.{Message, TooLarge, InputEnds, Refused, Runs, cycles_message, transfers_message, memory_message, checked_message, input_message}

-- a test applies, or it does not and the rest decides
stops : {t : Bool} (a b : Message) → t ≡ true → a ≡ pick t a b
stops a b e = sym (ap (λ (t : Bool). pick t a b) e)

goes : {t : Bool} (a b : Message) {v : Message} → t ≡ false → v ≡ b → v ≡ pick t a b
goes a b e r = r ∙ sym (ap (λ (t : Bool). pick t a b) e)

-- the cycles
module _ (b : List ℕ) (at : ℕ) (p : at ≡ cycles_place b) where
  pub cycles_end : length b < 4 * (at + 1) → InputEnds ≡ cycles_message b
  unfolding cycles_message
  cycles_end h = stops _ _ (yes< (omega (arith, p, h)))

  module _ (h : 4 * (at + 1) ≤ length b) {count : ℕ} (e : count ≡ word_in b at) where
    cycles_are : count ≡ cycles_asked b
    unfolding cycles_asked
    cycles_are = e ∙ ap (word_in b) p

    pub cycles_over : most_cycles < count → TooLarge ≡ cycles_message b
    unfolding cycles_message
    cycles_over l = goes _ _ (no< (omega (arith, p, h))) (stops _ _ (yes< (omega (arith, cycles_are, l))))

    pub cycles_run_is : count ≤ most_cycles → Runs ≡ cycles_message b
    unfolding cycles_message
    cycles_run_is l = goes _ _ (no< (omega (arith, p, h))) (goes _ _ (no< (omega (arith, cycles_are, l))) refl)

-- the transfers
module _ (b : List ℕ) (at : ℕ) (p : at ≡ transfers_place b) where
  pub transfers_end : length b < 4 * (at + 1) → InputEnds ≡ transfers_message b
  unfolding transfers_message
  transfers_end h = stops _ _ (yes< (omega (arith, p, h)))

  module _ (h : 4 * (at + 1) ≤ length b) {count : ℕ} (e : count ≡ word_in b at) where
    transfers_are : count ≡ transfers b
    unfolding transfers
    transfers_are = e ∙ ap (word_in b) p

    pub transfers_over : most_transfers < count → TooLarge ≡ transfers_message b
    unfolding transfers_message
    transfers_over l = goes _ _ (no< (omega (arith, p, h))) (stops _ _ (yes< (omega (arith, transfers_are, l))))

    pub cycles_place_is : at + 1 + 5 * count ≡ cycles_place b
    cycles_place_is = omega (arith, p, transfers_are)

    pub transfers_on : {v : Message} → count ≤ most_transfers → v ≡ cycles_message b → v ≡ transfers_message b
    unfolding transfers_message
    transfers_on l r = goes _ _ (no< (omega (arith, p, h))) (goes _ _ (no< (omega (arith, transfers_are, l))) r)

-- the memories
module _ (b : List ℕ) {size : ℕ} (e : size ≡ memory_size b) where
  pub memory_over : most_memory < size → TooLarge ≡ memory_message b
  unfolding memory_message
  memory_over l = stops _ _ (yes< (omega (arith, e, l)))

  pub memory_on : {v : Message} → size ≤ most_memory → v ≡ transfers_message b → v ≡ memory_message b
  unfolding memory_message
  memory_on l r = goes _ _ (no< (omega (arith, e, l))) r

-- the checker
module _ (b : List ℕ) {sheet : List ℕ} {n : ℕ} (l : n ≡ stated_length b) (q : sheet ≡ tab n (λ k. word_in b (1 + k))) where
  pub sheet_is : sheet ≡ sheet_of b
  unfolding sheet_of
  sheet_is = q ∙ ap (λ m. tab m (λ k. word_in b (1 + k))) l

  module _ {number : ℕ} (e : number ≡ check_number sheet) where
    pub verdict_is : number ≡ check_number (sheet_of b)
    verdict_is = e ∙ ap check_number sheet_is

    pub checked_refused : (number ≡ 0 → ⊥) → Refused number ≡ checked_message b
    unfolding checked_message
    checked_refused ne = goes _ _ (no= (λ z. ne (verdict_is ∙ z))) (ap Refused verdict_is)

    pub checked_on : {v : Message} → number ≡ 0 → v ≡ memory_message b → v ≡ checked_message b
    unfolding checked_message
    checked_on z r = r ∙ stops _ _ (yes= (sym verdict_is ∙ z))

  pub memory_size_is : {size : ℕ} → size ≡ nodes (meant sheet) * memory_words (meant sheet) → size ≡ memory_size b
  unfolding memory_size
  memory_size_is e = e ∙ ap (λ (z : List ℕ). nodes (meant z) * memory_words (meant z)) sheet_is

-- the sheet
module _ (b : List ℕ) where
  pub no_length : length b < 4 → InputEnds ≡ input_message b
  unfolding input_message
  no_length h = stops _ _ (yes< h)

  module _ (h : 4 ≤ length b) {count : ℕ} (e : count ≡ word_in b 0) where
    pub sheet_over : sheet_words < count → TooLarge ≡ input_message b
    unfolding input_message
    sheet_over l = goes _ _ (no< h) (stops _ _ (yes< (omega (arith, e, l))))

    module _ (l : count ≤ sheet_words) where
      pub sheet_ends : length b < 4 * (1 + count) → InputEnds ≡ input_message b
      unfolding input_message
      sheet_ends k = goes _ _ (no< h) (goes _ _ (no< (omega (arith, e, l))) (stops _ _ (yes< (omega (arith, e, k)))))

      pub sheet_on_is : {v : Message} → 4 * (1 + count) ≤ length b → v ≡ checked_message b → v ≡ input_message b
      unfolding input_message
      sheet_on_is k r = goes _ _ (no< h) (goes _ _ (no< (omega (arith, e, l))) (goes _ _ (no< (omega (arith, e, k))) r))

-- the part of the room for a sheet, or for memories, that an input needs
pub part_ready : (n m : ℕ) (b : List ℕ) → n ≤ m → m ≤ sheet_words → 4 * (1 + n) ≤ length b → n ≡ stated_length b
    → (4 * (1 + length {A = ℕ} (take n (replicate m 0))) ≤ length b)
    × (length {A = ℕ} (take n (replicate m 0)) ≡ stated_length b)
    × (length {A = ℕ} (take n (replicate m 0)) ≤ sheet_words)
part_ready n m b h s k e = (omega (arith, length_zeros n m h), length_zeros n m h ∙ e, omega (arith, length_zeros n m h))

-- what an input has whose words are all there
pub record Whole (bytes : List ℕ) : Type 0 where
  pub some : 4 ≤ length bytes
  pub small_sheet : stated_length bytes ≤ sheet_words
  pub sheet_there : 4 * memory_place bytes ≤ length bytes
  pub passes : sheet_number (sheet_of bytes) ≡ 0
  pub small_memory : memory_size bytes ≤ most_memory
  pub few_transfers : transfers bytes ≤ most_transfers
  pub long : 4 * (cycles_place bytes + 1) ≤ length bytes
  pub few_cycles : cycles_asked bytes ≤ most_cycles

abbrev pub is_runs : Message → Bool
is_runs TooLarge = false
is_runs InputEnds = false
is_runs (Refused n) = false
is_runs Runs = true

-- a message that is none has passed the test before it
passed : (t : Bool) (a b : Message) → is_runs a ≡ false → pick t a b ≡ Runs → (t ≡ false) × (b ≡ Runs)
passed true a b n e = absurd (false≢true (sym n ∙ ap is_runs e))
passed false a b n e = (refl, e)

accepted : (t : Bool) (a b : Message) → is_runs b ≡ false → pick t a b ≡ Runs → (t ≡ true) × (a ≡ Runs)
accepted true a b n e = (refl, e)
accepted false a b n e = absurd (false≢true (sym n ∙ ap is_runs e))

module _ (b : List ℕ) where
  cycles_passed : cycles_message b ≡ Runs → ((length b <? 4 * (cycles_place b + 1)) ≡ false) × ((most_cycles <? cycles_asked b) ≡ false)
  unfolding cycles_message
  cycles_passed e =
      let p = passed (length b <? 4 * (cycles_place b + 1)) InputEnds (pick (most_cycles <? cycles_asked b) TooLarge Runs) refl e in
      (p.0, (passed (most_cycles <? cycles_asked b) TooLarge Runs refl p.1).0)

  transfers_passed : transfers_message b ≡ Runs → ((most_transfers <? transfers b) ≡ false) × (cycles_message b ≡ Runs)
  unfolding transfers_message
  transfers_passed e =
      let rest = pick (most_transfers <? transfers b) TooLarge (cycles_message b) in
      passed (most_transfers <? transfers b) TooLarge (cycles_message b) refl
      (passed (length b <? 4 * (transfers_place b + 1)) InputEnds rest refl e).1

  room_passed : memory_message b ≡ Runs → ((most_memory <? memory_size b) ≡ false) × (transfers_message b ≡ Runs)
  unfolding memory_message
  room_passed e = passed (most_memory <? memory_size b) TooLarge (transfers_message b) refl e

  checked_passed : checked_message b ≡ Runs → ((check_number (sheet_of b) =? 0) ≡ true) × (memory_message b ≡ Runs)
  unfolding checked_message
  checked_passed e = accepted (check_number (sheet_of b) =? 0) (memory_message b) (Refused (check_number (sheet_of b))) refl e

  sheet_passed : input_message b ≡ Runs
      → ((length b <? 4 * 1) ≡ false) × ((sheet_words <? stated_length b) ≡ false) × ((length b <? 4 * memory_place b) ≡ false) × (checked_message b ≡ Runs)
  unfolding input_message
  sheet_passed e =
      let last = pick (length b <? 4 * memory_place b) InputEnds (checked_message b) in
      let p = passed (length b <? 4 * 1) InputEnds (pick (sheet_words <? stated_length b) TooLarge last) refl e in
      let q = passed (sheet_words <? stated_length b) TooLarge last refl p.1 in
      let r = passed (length b <? 4 * memory_place b) InputEnds (checked_message b) refl q.1 in
      (p.0, q.0, r.0, r.1)

  pub whole : input_message b ≡ Runs → Whole b
  whole e =
      let p = sheet_passed e in
      let q = checked_passed p.3 in
      let r = room_passed q.1 in
      let t = transfers_passed r.1 in
      let c = cycles_passed t.1 in
      record {
        some = not< _ _ p.0;
        small_sheet = not< _ _ p.1;
        sheet_there = not< _ _ p.2;
        passes = check_passes (sheet_of b) (is= _ _ q.0);
        small_memory = not< _ _ r.0;
        few_transfers = not< _ _ t.0;
        long = not< _ _ c.0;
        few_cycles = not< _ _ c.1;
      }

  -- where its parts lie: the place of the transfers, their number, and the place of the cycles
  module _ (e : input_message b ≡ Runs) (at : ℕ) (p : at ≡ transfers_place b) where
    pub transfers_there : (4 * at + 3 < length b) × (at ≤ 1 + sheet_words + most_memory)
    transfers_there =
        let w = whole e in
        (omega (arith, p, w.long), omega (arith, p, w.small_sheet, w.small_memory))

    module _ {count : ℕ} (q : count ≡ word_in b at) where
      pub count_is : count ≡ transfers b
      unfolding transfers
      count_is = q ∙ ap (word_in b) p

      pub count_few : count ≤ 64
      count_few = omega (arith, count_is, (whole e).few_transfers)

      pub all_there : 4 * (at + 1 + 5 * count) + 3 < length b
      all_there = omega (arith, p, count_is, (whole e).long)

      pub cycles_is : {n : ℕ} → n ≡ word_in b (at + 1 + 5 * count) → n ≡ cycles_asked b
      unfolding cycles_asked
      cycles_is r =
          let there : at + 1 + 5 * count ≡ cycles_place b = omega (arith, p, count_is) in
          r ∙ ap (word_in b) there
