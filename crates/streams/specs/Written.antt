-- What a writer got of a text, where a contract can name its contents.
use Rattle.std.specs.Prelude.{ℕ, ◌≤◌, List, length, take}
use Rattle.std.specs.declared.option.Option.{Option}
use Rattle.std.specs.Io.KnownBytes.{Appends}

-- a writer got a first part of a text, which may be none of it or all
abbrev pub GotPart : Option (List ℕ) → Option (List ℕ) → List ℕ → Type 0
GotPart output after text = (n : ℕ) × (n ≤ length text) × Appends output after (take n text)
