-- Which circuits have words on their way (document 02, L3), read from the wires and stored nowhere. From the cycle in which a packet's
-- header leaves until its last word has landed, either the header is in a link, head, out or extra register, or the receive unit of its
-- destination says that a packet is arriving. A header names its circuit: its codes lead to a node, and there its address lies in one
-- receive region (number 6).
use Rattle.std.specs.Prelude.{ℕ, zero, suc, ◌+◌, ◌-◌, ◌*◌, ◌/◌, ◌%◌, Bool, List, ◌≡◌}
use Rattle.words.specs.Tests.{any, ◌and◌, ◌or◌, ◌≤?◌, ◌<?◌, ◌=?◌}
use Rattle.words.specs.Words.{pick}
use Rattle.packet.specs.Header.{address_of, shifted_word}
use Rattle.torus.specs.Torus.{neighbour_of, opposite_of}
use Rattle.torus.specs.Route.{codes}
use Rattle.sheet.specs.declared.circuits.Region.{Region}
use Rattle.sheet.specs.Sheet.{columns, rows, nodes, circuit_at}
use Rattle.network.specs.View.{ports, memory_output}
use Rattle.network.specs.Cycle.{output_for, has_extra}
use Rattle.network.specs.Registers.{reg, sheet_in, link_mark, link_word, head_mark, head_word, choice_row, out_mark, out_word, receive_mark}
use Rattle.network.specs.Registers.{receive_address, extra_mark, extra_word}

-- an address of a region
abbrev pub in_region : Region → ℕ → Bool
in_region r address = r.offset ≤? address and address <? r.offset + r.size

-- where a header on a router's output goes, over at most so many further routers: one more than the node to whose memory it comes, 0 where
-- it comes to none. By a side output it comes to the neighbour, where its next code says the output and is taken off
unfoldable pub bound_for : ℕ → List ℕ → ℕ → ℕ → ℕ → ℕ
bound_for zero z node output w = pick (output =? memory_output) (node + 1) 0
bound_for (suc further) z node output w =
    pick (output =? memory_output) (node + 1)
    (bound_for further z (neighbour_of (columns z) (rows z) node output) (output_for (opposite_of output) w) (shifted_word w))

-- so many routers: one for each code, and one for the zeros behind them
abbrev pub furthest : ℕ
furthest = codes + 1

-- the claim that no header comes to a memory later: one that is still on its way then goes north for ever (proofs/BoundLaws,
-- `bound_settled`)
abbrev pub BoundSettled : Type 0
BoundSettled =
    (further : ℕ) (z : List ℕ) (node output w : ℕ)
    → bound_for (furthest + further) z node output w ≡ bound_for furthest z node output w

-- a header on an output of a node comes into a region: to its node's memory, with an address of it
unfoldable pub comes_into : List ℕ → Region → ℕ → ℕ → ℕ → Bool
comes_into z r node output w = bound_for furthest z node output w =? r.node + 1 and in_region r (address_of w)

-- of the registers at place k of the routers' rows, which are of node k / 5 and its input or output k % 5: the link register holds a header
-- that comes into the region, by the output that its first code asks for and without that code
unfoldable pub link_inbound : List ℕ → Region → ℕ → Bool
link_inbound s r k =
    reg s link_mark k =? 1
    and comes_into (sheet_in s) r (k / ports) (output_for (k % ports) (reg s link_word k)) (shifted_word (reg s link_word k))

-- the head register does, by the choice beside it, which is one more than an output
unfoldable pub head_inbound : List ℕ → Region → ℕ → Bool
head_inbound s r k =
    reg s head_mark k =? 1 and 1 ≤? reg s choice_row k and reg s choice_row k ≤? ports
    and comes_into (sheet_in s) r (k / ports) (reg s choice_row k - 1) (reg s head_word k)

-- the out register does
unfoldable pub out_inbound : List ℕ → Region → ℕ → Bool
out_inbound s r k = reg s out_mark k =? 1 and comes_into (sheet_in s) r (k / ports) (k % ports) (reg s out_word k)

-- the extra register does, where the output's link has one: as on the output
unfoldable pub extra_inbound : List ℕ → Region → ℕ → Bool
extra_inbound s r k =
    reg s extra_mark k =? 1 and has_extra (sheet_in s) (k % ports)
    and comes_into (sheet_in s) r (k / ports) (k % ports) (reg s extra_word k)

-- a header at place k comes into the region
unfoldable pub header_inbound : List ℕ → Region → ℕ → Bool
header_inbound s r k = link_inbound s r k or head_inbound s r k or out_inbound s r k or extra_inbound s r k

-- a packet is arriving at the region's node, and the address of its next word lies in the region
unfoldable pub is_arriving : List ℕ → Region → Bool
is_arriving s r = reg s receive_mark r.node =? 1 and in_region r (reg s receive_address r.node)

-- words are on their way into a circuit's receive region
unfoldable pub is_inbound : List ℕ → ℕ → Bool
is_inbound s circuit =
    is_arriving s (circuit_at (sheet_in s) circuit).receive
    or any (nodes (sheet_in s) * ports) (header_inbound s (circuit_at (sheet_in s) circuit).receive)
