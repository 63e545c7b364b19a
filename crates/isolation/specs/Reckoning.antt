-- What one circuit sends (document 01, "The lists of demand 3"), reckoned from the sheet, the memory at load and the events, event by event.
-- Of the other circuits it uses nothing: neither their entries nor their transfers.
use Rattle.std.specs.Prelude.{ℕ, ◌+◌, ◌-◌, ◌*◌, min, Bool, List, [], ◌∷◌}
use Rattle.words.specs.Tests.{any, ◌and◌, ◌≤?◌, ◌=?◌}
use Rattle.words.specs.Words.{pick, word}
use Rattle.sheet.specs.Sheet.{memory_words}
use Rattle.sheet.specs.Slots.{slot_length, source_of, destination_of}
pub use Rattle.sheet.specs.Flight.{hops_of, vertical_of, flight_cycles}
use Rattle.isolation.specs.Sessions.{Event, start_done, store_done, order_done, cycle_done, Transfer}
use Rattle.isolation.specs.Calendar.{Calendar, calendar_at_load, calendar_event}

-- a word on its way or landed: nothing, or kind, address and word
pub data Item : Type 0 where
  none : Item
  item : ℕ → ℕ → ℕ → Item

-- what was sent: how many words of the transfer left; by cycle, how many payload words the packet opened in it has, and what left in it
pub record Sent : Type 0 where
  pub gone : ℕ
  pub packet_words : ℕ → ℕ
  pub leaving : ℕ → Item

-- the words of the source's memory and of the destination's, by address, as far as stores and the circuit's own landings go
pub record RegionWords : Type 0 where
  pub read : ℕ → ℕ
  pub receive : ℕ → ℕ

-- what is known of a circuit after some events: its last transfer, what was sent, and the words of its regions
pub record Reckoned : Type 0 where
  pub transfer : Transfer
  pub sent : Sent
  pub words : RegionWords

-- document 01's owed words: the count of the last start, less the words that left since
abbrev pub owed : Reckoned → ℕ
owed r = r.transfer.count - r.sent.gone

-- what is reckoned to land in a cycle: what left so many cycles before
unfoldable pub reckoned_landing : List ℕ → ℕ → Reckoned → ℕ → Item
reckoned_landing z circuit r t = pick (flight_cycles z circuit ≤? t) (r.sent.leaving (t - flight_cycles z circuit)) none

-- what is reckoned to have landed last, after so many cycles: what landed in the last of them, and nothing before the first
abbrev pub last_reckoned : List ℕ → ℕ → Reckoned → ℕ → Item
last_reckoned z circuit r cycles = pick (1 ≤? cycles) (reckoned_landing z circuit r (cycles - 1)) none

-- a memory word after a landing
abbrev pub word_after : Item → ℕ → ℕ → ℕ
word_after none address w = w
word_after (item kind at new) address w = pick (at =? address) new w

-- in cycle t a word leaves: some slot began in a cycle before it, whose packet has min (length − 1) (owed words) payload words, and t is
-- one of as many cycles behind that one
unfoldable pub leaves_in : Reckoned → ℕ → Bool
leaves_in r t = any t (λ begun. t ≤? begun + r.sent.packet_words begun)

-- the next word of the transfer, with the word that its read address holds as the cycle begins
abbrev pub next_item : Reckoned → Item
next_item r =
    item r.transfer.kind (r.transfer.write_address + r.sent.gone) (r.words.read (r.transfer.read_address + r.sent.gone))

-- a start on this circuit: a new transfer, of which nothing left
abbrev pub start_on : Transfer → Reckoned → Reckoned
start_on transfer r = record {
  transfer = transfer;
  sent = record { gone = 0; packet_words = r.sent.packet_words; leaving = r.sent.leaving };
  words = r.words;
}

module _ (z : List ℕ) (circuit : ℕ) where
  -- a cycle, which begins with the calendar k: its slots are those of the schedule in force
  abbrev pub cycle_on : Calendar → Reckoned → Reckoned
  cycle_on k r = record {
    transfer = r.transfer;
    sent = record {
      gone = r.sent.gone + pick (leaves_in r k.cycles) 1 0;
      packet_words = λ t.
          pick (t =? k.cycles) (min (slot_length z k.schedule k.cycle circuit - 1) (owed r)) (r.sent.packet_words t);
      leaving = λ t. pick (t =? k.cycles) (pick (leaves_in r k.cycles) (next_item r) none) (r.sent.leaving t);
    };
    words = record {
      read = r.words.read;
      receive = λ address. word_after (reckoned_landing z circuit r k.cycles) address (r.words.receive address);
    };
  }

  -- a store at the circuit's source or destination
  abbrev pub store_on : ℕ → ℕ → ℕ → Reckoned → Reckoned
  store_on node address new r = record {
    transfer = r.transfer;
    sent = r.sent;
    words = record {
      read = λ at. pick (node =? source_of z circuit and at =? address) new (r.words.read at);
      receive = λ at. pick (node =? destination_of z circuit and at =? address) new (r.words.receive at);
    };
  }

  -- an event, before which the calendar was k; an order changes the calendar alone
  abbrev pub reckon_event : Event → Calendar → Reckoned → Reckoned
  reckon_event (start_done c transfer) k r = pick (c =? circuit) (start_on transfer r) r
  reckon_event (store_done node address new) k r = store_on node address new r
  reckon_event (order_done schedule period_number) k r = r
  reckon_event cycle_done k r = cycle_on k r

  -- directly after the load: nothing owed, nothing left, the memories as lent
  abbrev pub at_load : List ℕ → Reckoned
  at_load memory = record {
    transfer = record { read_address = 0; write_address = 0; count = 0; kind = 0 };
    sent = record { gone = 0; packet_words = λ t. 0; leaving = λ t. none };
    words = record {
      read = λ address. word memory (source_of z circuit * memory_words z + address);
      receive = λ address. word memory (destination_of z circuit * memory_words z + address);
    };
  }

  -- some events, before which the calendar was k
  abbrev pub reckon_all : List Event → Calendar → Reckoned → Reckoned
  reckon_all [] k r = r
  reckon_all (e ∷ es) k r = reckon_all es (calendar_event z e k) (reckon_event e k r)

-- the reckoning of a circuit after some events since the load, from the sheet and the memory at load
abbrev pub reckon : List ℕ → ℕ → List ℕ → List Event → Reckoned
reckon z circuit memory es = reckon_all z circuit es calendar_at_load (at_load z circuit memory)
