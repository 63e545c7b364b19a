-- Transfers by their places, and five lists of words as a list of transfers (document 02, L1), for hosts without structs.
use Rattle.std.specs.Prelude.{ℕ, zero, suc, Bool, List, [], ◌∷◌, ◌++◌, length, get_or}
use Rattle.words.specs.Tests.{◌and◌, ◌=?◌}
use Rattle.words.specs.Words.{word, pick}
use Rattle.words.specs.Numbers.{unless, ◌then◌}
use Rattle.session.specs.declared.Transfer.{Transfer}
use Rattle.session.specs.Calls.{start_all, number, after, answers_after, lend_state}

-- a transfer of a list, by its place; past the end all its words are 0
abbrev pub item_at : List Transfer → ℕ → Transfer
item_at ts i = get_or ts i (record { circuit = 0; read = 0; write = 0; count = 0; kind = 0 })

-- the transfers at the first n places
unfoldable pub first_of : ℕ → (ℕ → Transfer) → List Transfer
first_of zero at = []
first_of (suc n) at = first_of n at ++ (at n ∷ [])

module _ (circuits reads writes counts kinds : List ℕ) where
  -- a transfer is a word of each list, at one place
  abbrev pub transfer_at : ℕ → Transfer
  transfer_at i =
      record { circuit = word circuits i; read = word reads i; write = word writes i; count = word counts i; kind = word kinds i }

  -- as many as the list of circuits has words
  abbrev pub transfers_of : List Transfer
  transfers_of = first_of (length circuits) transfer_at

  -- the five lists are equally long
  unfoldable pub same_lengths : Bool
  same_lengths =
      length reads =? length circuits
      and length writes =? length circuits
      and length counts =? length circuits
      and length kinds =? length circuits

  -- 12, 13 and 21 as that list of transfers answers them, then lists of different lengths (21)
  unfoldable pub start_lists_number : List ℕ → ℕ → ℕ
  start_lists_number s answer_words = number (start_all transfers_of answer_words) (lend_state s) then unless 21 same_lengths

  -- the state afterwards, and the answer words: as that list leaves them, and as they were where the lengths differ
  unfoldable pub lists_state : List ℕ → ℕ → List ℕ
  lists_state s answer_words = pick same_lengths (after (start_all transfers_of answer_words) (lend_state s)).state s

  unfoldable pub lists_answers : List ℕ → List ℕ → List ℕ
  lists_answers s answers = pick same_lengths (answers_after s transfers_of answers) answers
