-- `sources::put_on_wire` meets its contract: a mark other than 0 says that the wire is taken.
use native.Mathlib.Omega.{arith}
use Rattle.sources.proofs.WireLaws.{is_taken, taken_stays, is_free, free_set}
use Rattle.sources.proofs.put_on_wire.Goals as goal

pub returns-then-get-ne0 : goal.returns-then-get-ne0
returns-then-get-ne0 c = record {
  taken = is_taken c.args.marks.now c.args.node _ c.get.ensures (λ h. omega arith);
  marks = taken_stays _ _ _ c.get.ensures (λ h. omega arith) _ _;
  cells = taken_stays _ _ _ c.get.ensures (λ h. omega arith) _
      _;
}

pub returns : goal.returns
returns c =
    let a = c.args in
    let word = c.get.ensures in record { taken = is_free a.marks.now a.node _ word (omega arith); marks = free_set _ _ _ word (omega arith) a.mark a.marks.now c.put.ensures; cells = free_set _ _ _ word (omega arith) a.word a.cells.now c.put-2.ensures }
