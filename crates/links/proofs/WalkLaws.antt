-- A walk through the nodes of a mask: rows that are filled up to the node where it stands, or up to the last node where it is over.
-- Assumes nothing.
use Prim.Native.Nat.{ℕ, ◌+◌, ◌*◌, ◌/◌, ◌<◌, ◌≤◌}
use mathlib.Core.List.{List}
use mathlib.Core.Path.{◌≡◌, subst, sym}
use native.Mathlib.Omega.{arith}
use lib.ListN.{length}
use Rattle.occupancy.specs.Inner.Occupancy.{bit_at, NextTaken}
use Rattle.occupancy.specs.declared.TakenPlaces.{TakenPlaces}
use Rattle.occupancy.proofs.WalkLaws.{On, Gave, Ended, still_on, next_place, none_left}
use Rattle.network.specs.Registers.{row_count, moving_words}
use Rattle.network.specs.Inner.Stages.{stage}
use Rattle.network.specs.Inner.Live.{Stays}
use Rattle.network.proofs.FillLaws.{Staged, stage_jump, staged_is}

-- at the places of the nodes that a mask has not, the rows have what they should have already
abbrev pub StaysBeside : ℕ → ℕ → (ℕ → ℕ → ℕ) → List ℕ → ℕ → ℕ → Type 0
StaysBeside low high f s nodes mask = (k : ℕ) → k < nodes * 5 → bit_at mask (k / 5) ≡ 0 → Stays low high f s k

-- the rows are filled at the nodes that the walk has left behind
pub record Walked (low high nodes mask : ℕ) (f : ℕ → ℕ → ℕ) (s : List ℕ) (walk : TakenPlaces) (now : List ℕ) : Type 0 where
  pub on : On mask nodes walk
  pub so_far : Staged low high (walk.from * 5) f s now

module _ (low high nodes mask : ℕ) (f : ℕ → ℕ → ℕ) (s : List ℕ) where
  module _ (inside : high < row_count) (few : nodes ≤ 16) (stays : StaysBeside low high f s nodes mask)
      (walk : TakenPlaces) (now : List ℕ) (g : Walked low high nodes mask f s walk now) (after : TakenPlaces) where
    -- the nodes up to the next of the mask, or to the last, are passed over
    passed : (next : ℕ) → next ≤ nodes → NextTaken mask walk.from next → Staged low high (next * 5) f s now
    passed next l t =
        stage_jump low high (walk.from * 5) (next * 5) f s now inside (omega arith) (omega (arith, t.onward)) g.so_far
        (λ k a b. stays k (omega arith) (t.passed (k / 5) (omega arith) (omega arith)))

    -- the walk gives a node
    module _ (node : ℕ) (t : Gave walk node after) where
      pub walk_inside : node < nodes
      walk_inside = (next_place mask nodes walk g.on after node t).below

      pub walk_at : Staged low high (node * 5) f s now
      walk_at =
          let q = next_place mask nodes walk g.on after node t in
          passed node (omega (arith, q.below)) q.next

      pub walk_more : (next : List ℕ) → Staged low high ((node + 1) * 5) f s next → Walked low high nodes mask f s after next
      walk_more next d =
          let q = next_place mask nodes walk g.on after node t in
          record {
            on = still_on mask nodes walk g.on after node t;
            so_far = subst (λ (n : ℕ). Staged low high (n * 5) f s next) (sym q.onward) d;
          }

    -- or it is over
    pub walk_done : moving_words ≤ length s → Ended walk after → now ≡ stage low high (nodes * 5) f s
    walk_done long t = staged_is low high (nodes * 5) f s now long (passed nodes (omega arith) (none_left mask nodes walk g.on after t))
