-- The words after one node's part of a stage. Nobody has to believe these: that they make up the stage is proved beside.
use Rattle.std.specs.Prelude.{ℕ, ◌+◌, ◌*◌, List, slice_set}
use Rattle.words.specs.Tests.{◌≤?◌}
use Rattle.words.specs.Words.{pick}
use Rattle.network.specs.Registers.{reg, put, clock_row, cycle_place, number_place, in_force_place, order_mark_place, receive_mark, receive_kind}
use Rattle.network.specs.Registers.{receive_address, landing_mark, landing_kind, landing_address, landing_word}
use Rattle.network.specs.Inner.Machine.{memory_mark, memory_word, next_receive_mark, next_receive_kind, next_receive_address, next_landing_mark}

-- the stored landing: what is on the memory output, with the receive unit's kind and address
unfoldable pub landing_put : List ℕ → ℕ → List ℕ
landing_put s node =
    put (put (put (put s landing_mark node (next_landing_mark s node)) landing_kind node (reg s receive_kind node)) landing_address node
    (reg s receive_address node))
    landing_word node (memory_word s node)

-- the receive unit
unfoldable pub receive_put : List ℕ → ℕ → List ℕ
receive_put s node =
    put (put (put s receive_mark node (next_receive_mark s node)) receive_kind node (next_receive_kind s node)) receive_address node
    (next_receive_address s node)

-- the memories: a payload word goes to the receive unit's address
unfoldable pub memory_put : List ℕ → List ℕ → ℕ → ℕ → List ℕ
memory_put s m node size =
    pick (2 ≤? memory_mark s node) (slice_set m (node * size + reg s receive_address node) (memory_word s node)) m

-- the clock's row
unfoldable pub clock_put : List ℕ → ℕ → ℕ → ℕ → ℕ → List ℕ
clock_put s cycle number schedule mark =
    put (put (put (put s clock_row cycle_place cycle) clock_row number_place number) clock_row in_force_place schedule) clock_row
    order_mark_place mark
