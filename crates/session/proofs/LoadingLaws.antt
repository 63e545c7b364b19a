-- A load: the words afterwards, from the loops that cleared and copied.
-- Assumes nothing.
use Rattle.std.proofs.Common.{◌≡◌, ℕ, ◌+◌, ◌<◌, ◌≤◌, List, [], ◌∷◌, ◌++◌, length, take, drop, set, sym, refl, ap, ◌∙◌, append_assoc, add-one, arith, length-append, length-set, drop-cons, drop-drop, take_at, drop_at, replicate, length-take-le}
use lib.Seq.{set_at, append_snoc, take-length, paste, paste-zero, paste-suc}
use Rattle.words.proofs.TableLaws.{tab_zeros}
use Rattle.words.specs.Tests.{◌=?◌}
use Rattle.words.specs.Words.{word, pick, tab}
use Rattle.words.proofs.WordLaws.{length_tab}
use Rattle.sheet.specs.Sheet.{blank_sheet, meant}
use Rattle.network.specs.Registers.{moving_words, state_words, sheet_words}
use Rattle.session.specs.Calls.{load_words_number, loaded, Lent, lend, load, number, after}
use Rattle.session.proofs.NumberLaws.{load_passed}
use Rattle.session.proofs.WritingLaws.{state_either}
use Rattle.soundness.proofs.SheetLaws.{sheet_bounds}

-- so many words that are 0
abbrev zeros : ℕ → List ℕ
zeros n = tab n (λ k. 0)

-- word n behind words in front of it is set
set_next : (front s : List ℕ) (n w : ℕ) → length front ≡ n → n < length s → set (front ++ drop n s) n w ≡ front ++ (w ∷ drop (n + 1) s)
set_next front s n w e l =
    ap (λ (r : List ℕ). set (front ++ r) n w) (drop-cons s n 0 l)
    ∙ set_at front _ _ w n e
    ∙ ap (λ (k : ℕ). front ++ (w ∷ drop k s)) (sym (add-one n))

zeros_of : (n : ℕ) (s : List ℕ) → n ≤ length s → replicate (length (take n s)) 0 ≡ zeros n
zeros_of n s l = ap (λ (k : ℕ). replicate k 0) (length-take-le n s l) ∙ tab_zeros n

-- the loop that copies: so many words of the list are at their places
pub record Copied (before now : List ℕ) (at : ℕ) (from : List ℕ) (n : ℕ) : Type 0 where
  pub copied : now ≡ paste before at from n
  pub inside : n ≤ length from
  pub long : length now ≡ length before
  pub fits : at + length from ≤ length before

pub copy_start : (s : List ℕ) (at : ℕ) (from : List ℕ) → at + length from ≤ length s → Copied s s at from 0
copy_start s at from h = record { copied = paste-zero s at from; inside = omega arith; long = refl; fits = h }

pub copy_more : (s r : List ℕ) (at : ℕ) (from : List ℕ) (n : ℕ) → Copied s r at from n → n < length from
    → Copied s (set r (at + n) (word from n)) at from (n + 1)
copy_more s r at from n g l =
    let h : at + n < length s = omega (arith, g.fits) in
    record {
      copied =
          ap (λ (x : List ℕ). set x (at + n) (word from n)) g.copied
          ∙ paste-suc s at from n 0 h l
          ∙ ap (paste s at from) (sym (add-one n));
      inside = omega arith;
      long = length-set r (at + n) (word from n) ∙ g.long;
      fits = g.fits;
    }

pub copy_done : (s r : List ℕ) (at : ℕ) (from : List ℕ) (n : ℕ) → Copied s r at from n → length from ≤ n
    → r ≡ paste s at from (length from)
copy_done s r at from n g l =
    let e : n ≡ length from = omega (arith, g.inside) in
    g.copied ∙ ap (paste s at from) e

-- the words in front, then a word, then a list, over any number n of words in front
module _ (front s z : List ℕ) (n w : ℕ) (e : length front ≡ n) (l : n < length s) where
  long_front : length (front ++ (w ∷ [])) ≡ n + 1
  long_front = length-append front (w ∷ []) ∙ ap (λ (k : ℕ). k + 1) e

  set_front : set (front ++ drop n s) n w ≡ (front ++ (w ∷ [])) ++ drop (n + 1) s
  set_front = set_next front s n w e l ∙ sym (append_snoc front w (drop (n + 1) s))

  behind : drop (n + 1 + length z) ((front ++ (w ∷ [])) ++ drop (n + 1) s) ≡ drop (n + 1 + length z) s
  behind =
      sym (drop-drop (length z) (n + 1) ((front ++ (w ∷ [])) ++ drop (n + 1) s))
      ∙ ap (drop (length z)) (drop_at (front ++ (w ∷ [])) (drop (n + 1) s) (n + 1) long_front)
      ∙ drop-drop (length z) (n + 1) s

  pasted : paste (set (front ++ drop n s) n w) (n + 1) z (length z) ≡ front ++ ((w ∷ z) ++ drop (n + 1 + length z) s)
  pasted =
      ap (λ (x : List ℕ). paste x (n + 1) z (length z)) set_front
      ∙ ap (λ (x : List ℕ). (x ++ take (length z) z) ++ drop (n + 1 + length z) ((front ++ (w ∷ [])) ++ drop (n + 1) s))
      (take_at (front ++ (w ∷ [])) (drop (n + 1) s) (n + 1) long_front)
      ∙ ap (λ (x : List ℕ). ((front ++ (w ∷ [])) ++ x) ++ drop (n + 1 + length z) ((front ++ (w ∷ [])) ++ drop (n + 1) s)) (take-length z)
      ∙ ap (λ (x : List ℕ). ((front ++ (w ∷ [])) ++ z) ++ x) behind
      ∙ ap (λ (x : List ℕ). x ++ drop (n + 1 + length z) s) (append_snoc front w z)
      ∙ append_assoc front (w ∷ z) (drop (n + 1 + length z) s)

-- so it is for the state's words
pub loaded_is : (z s front : List ℕ)
    → state_words ≤ length s
    → front ≡ replicate (length (take moving_words s)) 0
    → paste (set (front ++ drop moving_words s) moving_words (length z)) (moving_words + 1) z (length z) ≡ loaded z s
unfolding loaded
loaded_is z s front long f =
    ap (λ (x : List ℕ). paste (set (x ++ drop moving_words s) moving_words (length z)) (moving_words + 1) z (length z)) (f ∙ zeros_of moving_words s (omega arith))
    ∙ pasted (zeros moving_words) s z moving_words (length z) (length_tab moving_words _) (omega arith)

-- what a load that is not refused has room for
pub sheet_fits : (z s m : List ℕ) {n : ℕ} → n ≡ load_words_number z s m → n ≡ 0 → (length z ≤ sheet_words) × (state_words ≤ length s)
sheet_fits z s m e q =
    let p = load_passed z s m (sym e ∙ q) in
    ((sheet_bounds z p.passes).fits, p.long)

-- a load of handed-over words loads what they stand for, as it stands
module _ (z words s m : List ℕ) (same : words ≡ meant z) where
  pub load_answers : {n : ℕ} → n ≡ load_words_number words s m → n ≡ number (load z) (lend s m)
  load_answers f = f ∙ ap (λ (x : List ℕ). load_words_number x s m) same

  pub load_leaves : {after' : List ℕ} → after' ≡ pick (load_words_number words s m =? 0) (loaded words s) s
      → after' ≡ (after (load z) (lend s m)).state
  load_leaves f =
      state_either (load z) (lend s m) refl (f ∙ ap (λ (x : List ℕ). pick (load_words_number x s m =? 0) (loaded x s) s) same)

-- loading no words is loading the idle network: the same answer, and every word the same afterwards
pub load_blank : (w : Lent) → (number (load []) w ≡ number (load blank_sheet) w) × (after (load []) w ≡ after (load blank_sheet) w)
unfolding meant after
load_blank w = (refl, refl)
