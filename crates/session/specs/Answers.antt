-- The answers of the calls that have a value, one to one with their numbers and values.
use Rattle.std.specs.Prelude.{ℕ, zero, suc, Result, Option}
use Rattle.std.specs.declared.option.Option.TheVariants.{None, Some}
use Rattle.std.specs.declared.result.Result.TheVariants.{Ok, Err}
use Rattle.network.specs.View.{Landing, nothing, landed}
use Rattle.session.specs.Calls.{Lent, ask, fetch, left, period_number, what_landed, number, fetched, words_left, period_number_in, last_landing}
use Rattle.session.specs.declared.Landed.{Landed}

-- fetch, words left, period number
abbrev pub found_of : ℕ → ℕ → Result ℕ ℕ
found_of zero w = Ok w
found_of (suc n) w = Err (suc n)

-- what landed, and where nothing did
abbrev pub shown : Landing → Option Landed
shown nothing = None
shown (landed kind address w) = Some (record { kind = kind; address = address; word = w })

abbrev pub landed_of : ℕ → Landing → Result (Option Landed) ℕ
landed_of zero landing = Ok (shown landing)
landed_of (suc n) landing = Err (suc n)

-- what each question answers
abbrev pub left_answer : Lent → ℕ → Result ℕ ℕ
left_answer w circuit = found_of (number (ask (left circuit)) w) (words_left w.state circuit)

abbrev pub fetch_answer : Lent → ℕ → ℕ → Result ℕ ℕ
fetch_answer w node address = found_of (number (ask (fetch node address)) w) (fetched w.state w.memory node address)

abbrev pub period_answer : Lent → Result ℕ ℕ
period_answer w = found_of (number (ask period_number) w) (period_number_in w.state)

abbrev pub landed_answer : Lent → ℕ → Result (Option Landed) ℕ
landed_answer w node = landed_of (number (ask (what_landed node)) w) (last_landing w.state node)
