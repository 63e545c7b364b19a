-- The nodes whose registers are written: what one link adds, and one after the other.
-- Assumes nothing.
use Prim.Native.Nat.{ℕ, ◌+◌, ◌*◌, ◌/◌, ◌<◌}
use mathlib.Core.List.{List}
use mathlib.Core.Path.{◌≡◌, refl, ◌∙◌, ap}
use native.Mathlib.Omega.{arith}
use lib.Bits.{bit_or}
use Rattle.torus.specs.Torus.{neighbour_of}
use Rattle.torus.specs.Inner.Grid.{InGrid}
use Rattle.torus.proofs.NeighbourLaws.{bounds, neighbour_inside}
use Rattle.occupancy.specs.Inner.Occupancy.{bit_at}
use Rattle.occupancy.proofs.MaskLaws.{union_free}
use Rattle.network.specs.Registers.{reg, put, link_mark, link_word}
use Rattle.network.proofs.PutLaws.{put_other}
use Rattle.links.specs.Inner.Linking.{linked, KeptBeside}

-- a neighbour is one of a few nodes
pub near_few : {cols rows node : ℕ} → InGrid cols rows node → (side : ℕ) {near : ℕ} → near ≡ neighbour_of cols rows node side → near < 16
near_few g side e =
    let b = bounds g in
    omega (arith, neighbour_inside g side, e)

-- nothing is written
pub beside_none : (s : List ℕ) (mask : ℕ) → KeptBeside mask s s
beside_none s mask = record { kept = λ row k rl kl free. refl }

-- the link register of a side of the mask's one node is written
pub beside_one : (s after : List ℕ) (mask near input mark w : ℕ) → near < 16 → input < 5 → bit_at mask near ≡ 1 → after ≡ linked s (near * 5 + input) mark w
    → KeptBeside mask s after
unfolding linked
beside_one s after mask near input mark w nl il taken e = record {
  kept = λ row k rl kl free.
      let other : k ≡ near * 5 + input → ⊥ = λ q.
      let own : k / 5 ≡ near = omega arith in
      let same : bit_at mask (k / 5) ≡ bit_at mask near = ap (bit_at mask) own in
      omega (arith, same, taken, free) in
      ap (λ (x : List ℕ). reg x row k) e
      ∙ put_other (put s link_mark (near * 5 + input) mark) link_word (near * 5 + input) w row k (λ q. other (omega arith))
      ∙ put_other s link_mark (near * 5 + input) mark row k (λ q. other (omega arith));
}

-- one mask's nodes, then another's
pub beside_more : (s between after : List ℕ) (a b : ℕ) → KeptBeside a s between → KeptBeside b between after → KeptBeside (bit_or a b) s after
beside_more s between after a b f g = record {
  kept = λ row k rl kl free.
      let both = union_free a b (k / 5) free in
      g.kept row k rl kl both.1 ∙ f.kept row k rl kl both.0;
}
