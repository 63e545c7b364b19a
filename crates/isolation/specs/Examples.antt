-- The key's examples (a) to (m) of document 01, one table: what the definitions give beside what the document says, of which document 02
-- changes (b).
use Rattle.std.specs.Prelude.{ℕ, List, [], ◌∷◌, ◌++◌, map, ◌≡◌, set, replicate}
use Rattle.sheet.specs.Rules.{check_number}
use Rattle.network.specs.Registers.{state_words, number_place}
use Rattle.session.specs.Calls.{loaded, order_number}

-- a sheet of a 2 by 2 grid with 8 words of memory a node and one schedule of period 9: its circuits, and its entries
abbrev pub sheet_on : ℕ → List ℕ → ℕ → List ℕ → List ℕ
sheet_on circuits circuit_words entries entry_words = (2 ∷ 2 ∷ 8 ∷ circuits ∷ 1 ∷ []) ++ circuit_words ++ (9 ∷ entries ∷ []) ++ entry_words

-- sheet A with another offset, route and rest
abbrev pub sheet_a : ℕ → ℕ → List ℕ → List ℕ
sheet_a offset route rest = sheet_on 1 (0 ∷ 1 ∷ 0 ∷ 4 ∷ 0 ∷ 4 ∷ []) 1 ((offset ∷ 3 ∷ 0 ∷ route ∷ []) ++ rest)

-- circuit 0 to 3 (route 9, length 2) alone, at an offset
abbrev pub alone : ℕ → List ℕ
alone offset = sheet_on 1 (0 ∷ 3 ∷ 0 ∷ 2 ∷ 0 ∷ 2 ∷ []) 1 (offset ∷ 2 ∷ 0 ∷ 9 ∷ [])

-- the same at offset 0, and circuit 1 to 3 (route 2, length 2), regions apart, at an offset
abbrev pub both : ℕ → List ℕ
both offset =
    sheet_on 2 (0 ∷ 3 ∷ 0 ∷ 2 ∷ 0 ∷ 2 ∷ 1 ∷ 3 ∷ 0 ∷ 2 ∷ 2 ∷ 2 ∷ []) 2 (0 ∷ 2 ∷ 0 ∷ 9 ∷ offset ∷ 2 ∷ 1 ∷ 2 ∷ [])

-- sheet A loaded on a state of the published length, its period number then 2^32 − 1
abbrev pub last_period : List ℕ
last_period = set (loaded (sheet_a 0 13 []) (replicate state_words 0)) number_place 4294967295

-- a number that the definitions give, and the number of the documents
pub record Example : Type 0 where
  pub given : ℕ
  pub wanted : ℕ

abbrev pub example : ℕ → ℕ → Example
example number document = record { given = number; wanted = document }

-- the table, with a state for the order calls of (m)
abbrev pub table_on : List ℕ → List Example
table_on state =
    -- (a) sheet A; (b) no words (document 02, L2); (c) offset 6; (d) offset 7; (e) route 7, west; (f) route 0; (g) one word more
    example (check_number (sheet_a 0 13 [])) 0
    ∷ example (check_number []) 0
    ∷ example (check_number (sheet_a 6 13 [])) 0
    ∷ example (check_number (sheet_a 7 13 [])) 10
    ∷ example (check_number (sheet_a 0 7 [])) 0
    ∷ example (check_number (sheet_a 0 0 [])) 9
    ∷ example (check_number (sheet_a 0 13 (0 ∷ []))) 3
    -- (h), (i), (j) both circuits, the second at 0, 2 and 5; (k), (l) the first alone at 4 and 5
    ∷ example (check_number (both 0)) 0
    ∷ example (check_number (both 2)) 11
    ∷ example (check_number (both 5)) 0
    ∷ example (check_number (alone 4)) 0
    ∷ example (check_number (alone 5)) 10
    -- (m) orders for period 2 and for period 1
    ∷ example (order_number state 0 2) 0
    ∷ example (order_number state 0 1) 19
    ∷ []

-- each number given is the one wanted
abbrev pub TableHolds : Type 0
TableHolds = map (λ (r : Example). r.given) (table_on last_period) ≡ map (λ (r : Example). r.wanted) (table_on last_period)
