-- The header word (document 01, "The packet"): kind (2 bits), write address (14 bits), route (16 bits), top bit first.
use Rattle.std.specs.Prelude.{ℕ, zero, suc, ◌+◌, ◌*◌, ◌/◌, ◌%◌, ◌^◌, Bool, Result, [], ◌∷◌, ◌≡◌}
use Rattle.std.specs.declared.result.Result.TheVariants.{Ok, Err}
use Rattle.words.specs.Tests.{◌and◌, ◌<?◌}
use Rattle.words.specs.Words.{tab}
use Rattle.words.specs.Numbers.{unless}
use Rattle.packet.specs.declared.Header.{Header}

-- the kinds
abbrev pub data_kind : ℕ
data_kind = 0

abbrev pub configuration_kind : ℕ
configuration_kind = 1

abbrev pub interrupt_kind : ℕ
interrupt_kind = 2

abbrev pub unused_kind : ℕ
unused_kind = 3

-- the widths of the fields
abbrev pub kind_bits : ℕ
kind_bits = 2

abbrev pub address_bits : ℕ
address_bits = 14

abbrev pub route_bits : ℕ
route_bits = 16

-- how many kinds, write addresses and routes the fields can hold
abbrev pub kinds : ℕ
kinds = 2 ^ kind_bits

abbrev pub addresses : ℕ
addresses = 2 ^ address_bits

abbrev pub routes : ℕ
routes = 2 ^ route_bits

-- the claim that the four kinds are just what the kind field can hold, in order (proofs/HeaderLaws, `four_kinds`)
abbrev pub FourKinds : Type 0
FourKinds = tab kinds (λ k. k) ≡ data_kind ∷ configuration_kind ∷ interrupt_kind ∷ unused_kind ∷ []

-- the word that holds a kind, an address and a route
abbrev pub header_word : ℕ → ℕ → ℕ → ℕ
header_word kind address route = (kind * addresses + address) * routes + route

-- the parts of a header word
abbrev pub kind_of : ℕ → ℕ
kind_of word = word / (addresses * routes)

abbrev pub address_of : ℕ → ℕ
address_of word = word / routes % addresses

abbrev pub route_of : ℕ → ℕ
route_of word = word % routes

-- a route is read two bits at a time, lowest first: the code that the next router reads, and what is left behind it
abbrev pub first_code : ℕ → ℕ
first_code route = route % 4

abbrev pub later_codes : ℕ → ℕ
later_codes route = route / 4

-- the header stage takes the first code off, zeros entering above; kind and address stay
abbrev pub shifted_word : ℕ → ℕ
shifted_word word = header_word (kind_of word) (address_of word) (later_codes (route_of word))

-- each part fits its field
unfoldable pub parts_fit : ℕ → ℕ → ℕ → Bool
parts_fit kind address route = kind <? kinds and address <? addresses and route <? routes

-- building a header: 0, or 15 where a part is too wide for its field
unfoldable pub header_number : ℕ → ℕ → ℕ → ℕ
header_number kind address route = unless 15 (parts_fit kind address route)

-- the answer, from its number and the word
abbrev pub built_of : ℕ → ℕ → Result Header ℕ
built_of zero word = Ok (record { 0 = word })
built_of (suc n) word = Err (suc n)
