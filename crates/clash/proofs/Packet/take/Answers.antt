-- `clash::Packet::take` meets its contract: what is taken wire by wire is taken in all.
use Prim.Native.Nat.{◌+◌, ◌*◌, ◌≤◌}
use mathlib.Core.Path.{◌∙◌}
use native.Mathlib.Omega.{arith}
use lib.ListN.{length}
use Rattle.clash.proofs.RunLaws.{packet_takes, packet_done, row_taken}
use Rattle.clash.proofs.Packet.take.Goals as goal

pub loop-i-preserved : goal.loop-i-preserved
loop-i-preserved c =
    let l = c.loop-i in
    let fits : c.place_of-place.result + c.args.self.now.size + 32 ≤ 32 * length l.table = omega
    (arith, c.requires.fits l.i c.loop-i-test.true, c.place_of-place.ensures, l.invariant.0) in
    let row = row_taken l.table _ c.place_of-place.result c.args.self.now.size l.invariant.1 c.requires.size_high fits
    c.take_run.ensures in (
      row.same_length ∙ l.invariant.0,
      λ x. (c.type_inv.table x).fits,
      λ after t. l.invariant.2 after
          (packet_takes _ _ _ _ _ _ l.i c.loop-i-test.true _ c.place_of-place.ensures _ _ after row t),
    )

pub returns : goal.returns
returns c = c.loop-i.invariant.2 _ (packet_done _ _ _ _ _ _ c.loop-i.i c.loop-i-test.false _)
