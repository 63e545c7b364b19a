-- `accept::walks::follow_entry` meets its contract: each turn takes the wire of the next hop, and what is taken so far are the uses before the rest of
-- the route; or the walk turned back, and then it does not end at the destination.
use Prim.Native.Nat.{◌+◌, ◌%◌}
use mathlib.Core.Bool.{Bool, false≢true}
use mathlib.Core.Path.{refl, ◌∙◌, ap}
use native.Mathlib.Omega.{arith}
use Rattle.torus.specs.Route.{link_cycles}
use Rattle.torus.proofs.RouteLaws.{link_high}
use Rattle.accept.proofs.WalkLaws.{walking_start, walking_more, walking_end, wire_few, wire_fits, near_fits}
use Rattle.accept.proofs.walks.follow_entry.Goals as goal

pub loop-long-init : goal.loop-long-init
loop-long-init c = λ e p f m r. walking_start _ _ _ _ _ e p _ _ _ _ r m (omega arith)

pub overflow_add-wire : goal.overflow_add-wire
overflow_add-wire c =
    let w = c.loop-long.invariant c.args.e c.requires.0 c.requires.1 c.requires.2 refl in
    omega (arith, wire_few _ _ _ _ _ _ _ _ _ _ _ _ _ _ w (c.loop-long.rest % 4) (omega arith))

pub take_wire-requires : goal.take_wire-requires
take_wire-requires c =
    let w = c.loop-long.invariant c.args.e c.requires.0 c.requires.1 c.requires.2 refl in (
      wire_few _ _ _ _ _ _ _ _ _ _ _ _ _ _ w (c.loop-long.rest % 4) (omega arith),
      c.requires.0.stride_small,
      omega (arith, c.requires.1, c.requires.0.offset_small),
      wire_fits _ _ _ _ _ _ _ _ _ _ _ _ _ _ w refl (c.loop-long.rest % 4) _ (omega arith) c.requires.1,
    )

pub overflow_add-cycles : goal.overflow_add-cycles
overflow_add-cycles c =
    omega (arith, link_high _ _ _ c.link_cycles-cycles.ensures)

pub shape_of-table-then-left-cycles : goal.shape_of-table-then-left-cycles
shape_of-table-then-left-cycles c =
    let w = c.loop-long.invariant c.args.e c.requires.0 c.requires.1 c.requires.2 refl in
    c.take_wire.ensures.same_length ∙ w.same_length

pub returns-then-left-cycles : goal.returns-then-left-cycles
returns-then-left-cycles c =
    let w = c.loop-long.invariant c.args.e c.requires.0 c.requires.1 c.requires.2 refl in record { long = c.take_wire.ensures.same_length ∙ w.same_length; placed = λ y. absurd (false≢true y) }

pub overflow_cast-node : goal.overflow_cast-node
overflow_cast-node c =
    let w = c.loop-long.invariant c.args.e c.requires.0 c.requires.1 c.requires.2 refl in
    omega (arith, wire_few _ _ _ _ _ _ _ _ _ _ _ _ _ _ w (c.loop-long.rest % 4) (omega arith))

pub offset_bounds-near-wire : goal.offset_bounds-near-wire
offset_bounds-near-wire c =
    let w = c.loop-long.invariant c.args.e c.requires.0 c.requires.1 c.requires.2 refl in
    omega (arith, wire_few _ _ _ _ _ _ _ _ _ _ _ _ _ _ w (c.loop-long.rest % 4) (omega arith))

pub bounds-near-wire : goal.bounds-near-wire
bounds-near-wire c =
    let w = c.loop-long.invariant c.args.e c.requires.0 c.requires.1 c.requires.2 refl in
    near_fits _ _ _ _ _ _ _ _ _ _ _ _ _ _ w (c.loop-long.rest % 4) (omega arith)

pub overflow_shl-mask-in-loop-long : goal.overflow_shl-mask-in-loop-long
overflow_shl-mask-in-loop-long c =
    omega (arith, link_high _ _ _ c.link_cycles-cycles.ensures)

pub loop-long-preserved : goal.loop-long-preserved
loop-long-preserved c =
    λ e p f m r.
    walking_more _ _ _ _ _ _ _ _ _ _ _ _ _ _ (c.loop-long.invariant e p f m r) _ _ c.link_cycles-cycles.result _ _ _ f
    c.take_wire.ensures c.if-not-take_wire.false
    (c.link_cycles-cycles.ensures ∙ ap (λ (b : Bool). link_cycles b (c.loop-long.rest % 4)) c.requires.3) (omega arith) (omega arith) refl

pub shape_of-table-then-not-take_wire : goal.shape_of-table-then-not-take_wire
shape_of-table-then-not-take_wire c =
    let w = c.loop-long.invariant c.args.e c.requires.0 c.requires.1 c.requires.2 refl in
    c.take_wire.ensures.same_length ∙ w.same_length

pub returns-then-not-take_wire : goal.returns-then-not-take_wire
returns-then-not-take_wire c =
    let w = c.loop-long.invariant c.args.e c.requires.0 c.requires.1 c.requires.2 refl in record { long = c.take_wire.ensures.same_length ∙ w.same_length; placed = λ y. absurd (false≢true y) }

pub shape_of-table-then-node-ends : goal.shape_of-table-then-node-ends
shape_of-table-then-node-ends c =
    let w = c.loop-long.invariant c.args.e c.requires.0 c.requires.1 c.requires.2 refl in
    c.take_wire.ensures.same_length ∙ w.same_length

pub returns-then-node-ends : goal.returns-then-node-ends
returns-then-node-ends c =
    let w = c.loop-long.invariant c.args.e c.requires.0 c.requires.1 c.requires.2 refl in record { long = c.take_wire.ensures.same_length ∙ w.same_length; placed = λ y. absurd (false≢true y) }

pub overflow_add-node : goal.overflow_add-node
overflow_add-node c =
    let w = c.loop-long.invariant c.args.e c.requires.0 c.requires.1 c.requires.2 refl in
    let hopped = walking_more _ _ _ _ _ _ _ _ _ _ _ _ _ _ w _ _ c.link_cycles-cycles.result (3 + c.link_cycles-cycles.result) _ _ c.requires.1
    c.take_wire.ensures c.if-not-take_wire.false
    (c.link_cycles-cycles.ensures ∙ ap (λ (b : Bool). link_cycles b (c.loop-long.rest % 4)) c.requires.3) (omega arith) (omega arith) refl in
    omega (arith, wire_few _ _ _ _ _ _ _ _ _ _ _ _ _ _ hopped 5 (omega arith))

pub take_wire-requires-2 : goal.take_wire-requires-2
take_wire-requires-2 c =
    let w = c.loop-long.invariant c.args.e c.requires.0 c.requires.1 c.requires.2 refl in
    let hopped = walking_more _ _ _ _ _ _ _ _ _ _ _ _ _ _ w _ _ c.link_cycles-cycles.result (3 + c.link_cycles-cycles.result) _ _ c.requires.1
    c.take_wire.ensures c.if-not-take_wire.false
    (c.link_cycles-cycles.ensures ∙ ap (λ (b : Bool). link_cycles b (c.loop-long.rest % 4)) c.requires.3) (omega arith) (omega arith) refl in (
      wire_few _ _ _ _ _ _ _ _ _ _ _ _ _ _ hopped 5 (omega arith),
      c.requires.0.stride_small,
      omega (arith, c.requires.1, c.requires.0.offset_small),
      wire_fits _ _ _ _ _ _ _ _ _ _ _ _ _ _ hopped refl 5 _ (omega arith) c.requires.1,
    )

pub shape_of-table : goal.shape_of-table
shape_of-table c =
    let w = c.loop-long.invariant c.args.e c.requires.0 c.requires.1 c.requires.2 refl in
    c.take_wire-2.ensures.same_length ∙ c.take_wire.ensures.same_length ∙ w.same_length

pub returns : goal.returns
returns c =
    let w = c.loop-long.invariant c.args.e c.requires.0 c.requires.1 c.requires.2 refl in
    let hopped = walking_more _ _ _ _ _ _ _ _ _ _ _ _ _ _ w _ _ c.link_cycles-cycles.result (3 + c.link_cycles-cycles.result) _ _ c.requires.1
    c.take_wire.ensures c.if-not-take_wire.false
    (c.link_cycles-cycles.ensures ∙ ap (λ (b : Bool). link_cycles b (c.loop-long.rest % 4)) c.requires.3) (omega arith) (omega arith) refl in record {
      long = c.take_wire-2.ensures.same_length ∙ c.take_wire.ensures.same_length ∙ w.same_length;
      placed = λ y.
          walking_end _ _ _ _ _ _ _ _ _ _ _ _ _ _ hopped _ _ _ c.requires.1 (omega arith) (omega arith) (omega arith) (omega arith) c.take_wire-2.ensures y;
    }
