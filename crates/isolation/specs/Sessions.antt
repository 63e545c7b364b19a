-- Sessions (document 01, "The lists of demand 3"): a load that is carried out on any lent words, and any calls after it, the loads among
-- them refused. What a call does is what its contract says (`after`, session/specs/Calls.antt).
use Rattle.std.specs.Prelude.{ℕ, true, List, [], ◌∷◌, ◌++◌, map, ◌≡◌, take}
use Rattle.words.specs.Tests.{◌=?◌}
use Rattle.words.specs.Words.{pick}
use Rattle.sheet.specs.Sheet.{meant}
use Rattle.session.specs.declared.Transfer.{Transfer as Listed}
use Rattle.session.specs.Calls.{Lent, Call, load, start, start_all, store, order, cycle, is_load, number, does, after, after_all, ask, carried_out, as_start}

-- every load among the calls is refused where it stands
abbrev pub LoadsRefused : List Call → Lent → Type 0
LoadsRefused [] w = Unit {0}
LoadsRefused (x ∷ calls) w = (is_load x ≡ true → number x w ≡ 0 → ⊥) × LoadsRefused calls (after x w)

-- the words handed to the load are given; the session's sheet is what they stand for
pub record Session : Type 0 where
  pub lent : Lent
  pub given : List ℕ
  pub sheet : List ℕ
  pub sheet_is : sheet ≡ meant given
  pub calls : List Call
  pub is_carried_out : number (load given) lent ≡ 0
  pub loads_refused : LoadsRefused calls (does (load given) lent)

-- the lent words directly after the load, and after the first k calls behind it
abbrev pub after_load : Session → Lent
after_load l = does (load l.given) l.lent

abbrev pub standing : Session → ℕ → Lent
standing l k = after_all (take k l.calls) (after_load l)

-- a transfer as a start gives it: where its words are read and written, how many they are, and their kind
pub record Transfer : Type 0 where
  pub read_address : ℕ
  pub write_address : ℕ
  pub count : ℕ
  pub kind : ℕ

-- what calls that are carried out tell: on a circuit a transfer started, a word stored, a switch ordered, a cycle
pub data Event : Type 0 where
  start_done : ℕ → Transfer → Event
  store_done : ℕ → ℕ → ℕ → Event
  order_done : ℕ → ℕ → Event
  cycle_done : Event

-- the start that a transfer of a list is
abbrev pub start_of : Listed → Event
start_of t = start_done t.circuit (record { read_address = t.read; write_address = t.write; count = t.count; kind = t.kind })

-- what a call on lent words tells: of a list, each transfer that is carried out is a start, in the list's order
abbrev pub event_of : Call → Lent → List Event
event_of (load z) w = []
event_of (start circuit read_address write_address count kind) w =
    start_done circuit (record { read_address = read_address; write_address = write_address; count = count; kind = kind }) ∷ []
event_of (start_all ts answer_words) w =
    map start_of (carried_out w.state ts)
event_of (store node address new) w = store_done node address new ∷ []
event_of (order schedule period) w = order_done schedule period ∷ []
event_of cycle w = cycle_done ∷ []
event_of (ask question) w = []

-- the events of some calls: those that answer 0
abbrev pub events : List Call → Lent → List Event
events [] w = []
events (x ∷ calls) w = pick (number x w =? 0) (event_of x w) [] ++ events calls (after x w)

-- document 02, L1: a list tells what its single starts tell, one after another
abbrev pub TellsSingles : Type 0
TellsSingles = (ts : List Listed) (answer_words : ℕ) (w : Lent) → event_of (start_all ts answer_words) w ≡ events (map as_start ts) w

-- the events of a session's first k calls
abbrev pub events_before : Session → ℕ → List Event
events_before l k = events (take k l.calls) (after_load l)
