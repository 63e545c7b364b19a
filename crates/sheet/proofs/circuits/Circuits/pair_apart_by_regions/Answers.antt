-- `sheet::circuits::Circuits::pair_apart_by_regions` meets its contract. Number 6 at a pair of circuits: by rule 4 their regions end so low that no sum wraps.
use mathlib.Core.Path.{◌≡◌, ◌∙◌}
use native.Mathlib.Omega.{arith}
use Rattle.words.specs.Tests.{◌=?◌, ◌or◌}
use Rattle.words.proofs.TestLaws.{or_yes, or_on, yes=, no=}
use Rattle.sheet.specs.Rules.{apart}
use Rattle.sheet.proofs.CircuitLaws.{pair_on, pair_no, circuit_ends, receive_ends}
use Rattle.sheet.proofs.circuits.Circuits.pair_apart_by_regions.Goals as goal
use Rattle.sheet.proofs.circuits.Circuits.pair_apart_by_regions.Goals.{Joined-j-k, then-j-k, else-j-k}

pub is_apart-requires : goal.is_apart-requires
is_apart-requires c =
    let p = c.requires in
    let s = c.args.self in
    let own = receive_ends _ s.frame.framed s.fit _ p.0 _ p.2 in
    let other = (circuit_ends _ s.frame.framed s.fit _ p.1 _ c.at-other.ensures).1 in (omega arith, omega arith)

pub is_apart-requires-then-is_apart : goal.is_apart-requires-then-is_apart
is_apart-requires-then-is_apart c =
    let p = c.requires in
    let s = c.args.self in
    let own = receive_ends _ s.frame.framed s.fit _ p.0 _ p.2 in
    let other = (circuit_ends _ s.frame.framed s.fit _ p.1 _ c.at-other.ensures).0 in (omega arith, omega arith)

-- whether it is the same circuit or the receive regions are apart
value_is : (c : Joined-j-k) → c.if-j-k.value ≡ (c.args.j =? c.args.k or apart c.args.receive c.at-other.result.receive)
unfolding ◌=?◌
value_is c =
    elim c.if-j-k.branch [
      | then-j-k w ↦ w.value-is ∙ yes= w.if-j-k.true ∙ or_yes _ (yes= w.if-j-k.true)
      | else-j-k w ↦ or_on (no= w.if-j-k.false) (w.value-is ∙ w.is_apart.ensures)
    ]

pub returns-then-is_apart : goal.returns-then-is_apart
returns-then-is_apart c =
    pair_on _ _ _ _ _ c.requires.2 c.at-other.ensures (value_is (goal.at.returns-then-is_apart c).Joined-j-k)
    c.if-is_apart.true c.is_apart-then-is_apart.ensures

pub returns-else-is_apart : goal.returns-else-is_apart
returns-else-is_apart c =
    pair_no _ _ _ _ _ c.requires.2 c.at-other.ensures (value_is (goal.at.returns-else-is_apart c).Joined-j-k)
    c.if-is_apart.false
