-- `torus::Grid::along_row` meets its contract: by side 1 a node of the last column goes back to the first, by side 3 and every later
-- one a node of the first column goes on to the last.
use Rattle.std.proofs.Common.{◌≡◌, ◌-◌, sym, ◌∙◌}
use borrow.Author.Tests.{eq-eqb, ne_eqb}
use Rattle.torus.proofs.GridLaws.{node_of}
use Rattle.torus.proofs.NeighbourLaws.{east_is, west_is, west_too}
use Rattle.torus.proofs.Grid.along_row.Goals as goal
use Rattle.torus.proofs.Grid.along_row.Goals.{Joined-side-eq1, then-side-eq1, else-side-eq1}

-- the column that a step wraps from, where the arms of its branch meet
last_wraps : (c : Joined-side-eq1) → c.args.side ≡ 1 → c.if-side-eq1.wrapping ≡ c.args.self.cols - 1
last_wraps c e =
    elim c.if-side-eq1.branch [ then-side-eq1 w ↦ w.wrapping-is | else-side-eq1 w ↦ absurd (w.if-side-eq1.false e) ]

first_wraps : (c : Joined-side-eq1) → (c.args.side ≡ 1 → ⊥) → c.if-side-eq1.wrapping ≡ 0
first_wraps c ne =
    elim c.if-side-eq1.branch [ then-side-eq1 w ↦ absurd (ne w.if-side-eq1.true) | else-side-eq1 w ↦ w.wrapping-is ]

pub returns-then-side-eq1-2 : goal.returns-then-side-eq1-2
returns-then-side-eq1-2 c =
    let last = sym c.column-place.ensures ∙ c.if-place-wrapping.true ∙ last_wraps (goal.at.returns-then-side-eq1-2 c).Joined-side-eq1 c.if-side-eq1-2.true in
    rw c.if-side-eq1-2.true (east_is (node_of c.args.self c.requires.0) (eq-eqb _ _ last))

pub returns-then-place-wrapping : goal.returns-then-place-wrapping
returns-then-place-wrapping c =
    let first = sym c.column-place.ensures ∙ c.if-place-wrapping.true ∙ first_wraps (goal.at.returns-then-place-wrapping c).Joined-side-eq1 c.if-side-eq1-2.false in
    let p = c.requires in
    west_is (node_of c.args.self p.0) (eq-eqb _ _ first) ∙ west_too _ _ _ _ p.1 c.if-side-eq1-2.false p.2

pub returns-then-side-eq1-3 : goal.returns-then-side-eq1-3
returns-then-side-eq1-3 c =
    rw c.if-side-eq1-3.true
    (east_is (node_of c.args.self c.requires.0)
    (ne_eqb _ _ (λ e. c.if-place-wrapping.false (c.column-place.ensures ∙ e ∙ sym (last_wraps (goal.at.returns-then-side-eq1-3 c).Joined-side-eq1 c.if-side-eq1-3.true)))))

pub returns : goal.returns
returns c =
    let p = c.requires in
    west_is (node_of c.args.self p.0)
    (ne_eqb _ _ (λ e. c.if-place-wrapping.false (c.column-place.ensures ∙ e ∙ sym (first_wraps (goal.at.returns c).Joined-side-eq1 c.if-side-eq1-3.false))))
    ∙ west_too _ _ _ _ p.1 c.if-side-eq1-3.false p.2
