-- The search for words on their way into a circuit's receive region: a packet that is arriving there, then a header at some place.
-- Assumes nothing.
use Prim.Native.Nat.{ℕ, ◌*◌}
use mathlib.Core.Bool.{Bool, true, false}
use mathlib.Core.List.{List}
use mathlib.Core.Path.{◌≡◌, sym, ◌∙◌, ap}
use Rattle.words.specs.Tests.{any}
use Rattle.words.proofs.TestLaws.{or_yes, or_on}
use Rattle.sheet.specs.declared.circuits.Region.{Region}
use Rattle.sheet.specs.declared.circuits.Circuit.{Circuit}
use Rattle.sheet.specs.Sheet.{nodes, circuit_at}
use Rattle.network.specs.Registers.{sheet_in}
use Rattle.network.specs.Inbound.{header_inbound, is_arriving, is_inbound}

module _ (s : List ℕ) (circuit : ℕ) where
  -- the circuit's receive region, as it was read off the sheet
  pub receives : {z : List ℕ} {c : Circuit} → z ≡ sheet_in s → c ≡ circuit_at z circuit → c.receive ≡ (circuit_at (sheet_in s) circuit).receive
  receives e q = cc

  pub inbound_arriving : {region : Region} {b : Bool} → region ≡ (circuit_at (sheet_in s) circuit).receive
      → b ≡ is_arriving s region → b ≡ true → true ≡ is_inbound s circuit
  unfolding is_inbound
  inbound_arriving r e t = or_yes _ (sym (ap (is_arriving s) r) ∙ sym e ∙ t)

  -- no packet is arriving, and the places decide
  pub inbound_placed : {z : List ℕ} {region : Region} {b v : Bool} {count : ℕ} → z ≡ sheet_in s → region ≡ (circuit_at (sheet_in s) circuit).receive
      → b ≡ is_arriving s region → b ≡ false → count ≡ nodes z * 5 → v ≡ any count (header_inbound s region) → v ≡ is_inbound s circuit
  unfolding is_inbound
  inbound_placed e r a f n h = or_on (sym (ap (is_arriving s) r) ∙ sym a ∙ f) (h ∙ cc)
