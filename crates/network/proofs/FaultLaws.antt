-- Number 20 in words says what the machine's faults say, fault by fault.
-- Assumes nothing.
use Prim.Native.Nat.{ℕ, zero, suc}
use mathlib.Core.Path.{◌≡◌, refl, ◌∙◌, ap, ap₂}
use mathlib.Core.Bool.{not}
use mathlib.Core.List.{List}
use native.Mathlib.Omega.{arith}
use Rattle.words.specs.Tests.{◌and◌, ◌or◌, ◌≤?◌, ◌=?◌}
use Rattle.words.proofs.TestLaws.{yes≤, no≤, yes=, no=}
use Rattle.words.proofs.AllLaws.{any_same}
use Rattle.words.proofs.WordLaws.{count_of_same}
use Rattle.sheet.specs.Sheet.{circuits, nodes}
use Rattle.sheet.specs.Slots.{source_of}
use Rattle.network.specs.Cycle.{is_full, is_payload, is_none, collides, crowds, reopens, headless, strays, faulty}
use Rattle.network.specs.Registers.{reg, sheet_in, room, link_mark, link_word, head_mark, head_word, choice_row, latch_row, receive_mark, receive_address, at}
use Rattle.network.specs.Inner.Machine.{slot_in, asked_mark, sent_mark, sent_word, memory_mark, memory_word, collides_in, unheld_in, unchosen_in, headless_in, crowds_in, strays_in, reopens_in, faulty_in}
use Rattle.network.specs.Seen.{seen_cell, seen_choice, marked, view}
use Rattle.network.proofs.ViewLaws.{asked_same, sent_same}

-- a cell is there, and is a payload word, by its mark
pub full_cell : (mark w : ℕ) → (1 ≤? mark) ≡ is_full (seen_cell mark w)
full_cell zero w = no≤ (omega arith)
full_cell (suc zero) w = yes≤ (omega arith)
full_cell (suc (suc zero)) w = yes≤ (omega arith)
full_cell (suc (suc (suc mark))) w = yes≤ (omega arith)

pub payload_cell : (mark w : ℕ) → (2 ≤? mark) ≡ is_payload (seen_cell mark w)
payload_cell zero w = no≤ (omega arith)
payload_cell (suc zero) w = no≤ (omega arith)
payload_cell (suc (suc zero)) w = yes≤ (omega arith)
payload_cell (suc (suc (suc mark))) w = yes≤ (omega arith)

-- no output is chosen
none_chosen : (register : ℕ) → (register =? 0) ≡ is_none (seen_choice register)
none_chosen zero = yes= refl
none_chosen (suc o) = no= (λ e. omega arith)

none_arriving : (mark : ℕ) → (mark =? 0) ≡ not (marked mark)
none_arriving zero = yes= refl
none_arriving (suc mark) = no= (λ e. omega arith)

pub collides_is : (s m : List ℕ) (node o : ℕ) → collides_in s node o ≡ collides (view s m) node o
unfolding collides_in collides
collides_is s m node o =
    ap (λ k. 2 ≤? k) (count_of_same 5 _ _ (λ input _.
    full_cell (asked_mark s node o input) (reg s head_word (at node input)) ∙ ap is_full (asked_same s m node o input)))

pub headless_is : (s m : List ℕ) (node input : ℕ) → headless_in s node input ≡ headless (view s m) node input
unfolding headless_in unheld_in unchosen_in headless
headless_is s m node input =
    ap₂ ◌or◌
    (ap₂ ◌and◌ (payload_cell (reg s link_mark (at node input)) (reg s link_word (at node input)))
    (none_chosen (reg s latch_row (at node input))))
    (ap₂ ◌and◌ (payload_cell (reg s head_mark (at node input)) (reg s head_word (at node input)))
    (none_chosen (reg s choice_row (at node input))))

pub crowds_is : (s m : List ℕ) (node : ℕ) → crowds_in s node ≡ crowds (sheet_in s) (view s m) node
unfolding crowds_in crowds
crowds_is s m node =
    ap (λ k. 2 ≤? k) (count_of_same (circuits (sheet_in s)) _ _ (λ c _.
    ap (λ b. source_of (sheet_in s) c =? node and b) (full_cell (sent_mark s c) (sent_word s m c) ∙ ap is_full (sent_same s m c))))

pub strays_is : (s m : List ℕ) (node : ℕ) → strays_in s node ≡ strays (sheet_in s) (view s m) node
unfolding strays_in strays
strays_is s m node =
    ap₂ (λ a b. a and (b or room s ≤? reg s receive_address node))
    (payload_cell (memory_mark s node) (memory_word s node)) (none_arriving (reg s receive_mark node))

pub reopens_is : (s m : List ℕ) (circuit : ℕ) → reopens_in s circuit ≡ reopens (sheet_in s) (view s m) circuit
unfolding reopens_in reopens slot_in
reopens_is s m circuit = refl

pub faulty_is : (s m : List ℕ) → faulty_in s ≡ faulty (sheet_in s) (view s m)
unfolding faulty_in faulty
faulty_is s m =
    ap₂ ◌or◌
    (any_same (nodes (sheet_in s)) _ _ (λ node _.
    ap₂ ◌or◌ (any_same 5 _ _ (λ o _. collides_is s m node o))
    (ap₂ ◌or◌ (any_same 5 _ _ (λ input _. headless_is s m node input))
    (ap₂ ◌or◌ (crowds_is s m node) (strays_is s m node)))))
    (any_same (circuits (sheet_in s)) _ _ (λ c _. reopens_is s m c))
