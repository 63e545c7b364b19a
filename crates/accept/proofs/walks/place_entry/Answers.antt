-- `accept::walks::place_entry` meets its contract: the source's wire is the first use of the route, and the walk takes the others.
use Prim.Native.Nat.{ℕ}
use mathlib.Core.Bool.{false≢true}
use mathlib.Core.Path.{refl, sym, ◌∙◌, subst}
use native.Mathlib.Omega.{arith}
use Rattle.accept.specs.Inner.Placing.{Placeable}
use Rattle.accept.proofs.WalkLaws.{first_few, first_fits, placed_free}
use Rattle.accept.proofs.walks.place_entry.Goals as goal

pub take_wire-requires : goal.take_wire-requires
take_wire-requires c = (
  first_few _ _ _ _ _ _ c.requires.0,
  c.requires.0.stride_small,
  omega (arith, c.requires.0.offset_small),
  first_fits _ _ _ _ _ _ c.requires.0 _ refl,
)

pub follow_entry-requires : goal.follow_entry-requires
follow_entry-requires c = (
  subst (λ (n : ℕ). Placeable n c.args.near.now c.args.z.now c.args.ends c.args.stride c.args.e)
      (sym c.take_wire.ensures.same_length) c.requires.0,
  refl,
  c.slot_mask-slot.ensures,
  c.requires.1,
)

pub returns-then-take_wire : goal.returns-then-take_wire
returns-then-take_wire c = record {
  long = c.follow_entry.ensures.long ∙ c.take_wire.ensures.same_length;
  placed = λ y. placed_free _ _ _ _ _ _ c.requires.0 _ _ _ _ _ _ refl c.slot_mask-slot.ensures c.take_wire.ensures c.if-take_wire.true
      (c.follow_entry.ensures.placed y);
}

pub returns-else-take_wire : goal.returns-else-take_wire
returns-else-take_wire c = record { long = c.take_wire.ensures.same_length; placed = λ y. absurd (false≢true (sym c.if-take_wire.false ∙ y)) }
