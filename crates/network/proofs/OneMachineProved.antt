-- The machine in lent words is the machine of the article: the registers by the rows' laws, the faults one by one, and the rest by the
-- rows' extents.
-- Assumes nothing.
use Prim.Native.Nat.{ℕ, ◌≤◌}
use mathlib.Core.List.{List}
use mathlib.Core.Path.{refl}
use native.Mathlib.Omega.{arith}
use native.Mathlib.Nat.{mul-le-mul}
use Rattle.sheet.specs.Sheet.{nodes}
use Rattle.sheet.specs.Inner.Passed.{Headed}
use Rattle.sheet.proofs.VerdictLaws.{passed_framed}
use Rattle.network.specs.Registers.{sheet_in, clock_row}
use Rattle.network.specs.OneMachine.{Accepted, OneCycle, OneMachine}
use Rattle.network.proofs.RowCases.{clock_extent, router_extent, node_extent, circuit_extent, extra_extent}
use Rattle.network.proofs.RowLaws.{next_off, next_rest, extra_kept}
use Rattle.network.proofs.ViewLaws.{cycle_agrees}
use Rattle.network.proofs.FaultLaws.{faulty_is}
use Rattle.network.proofs.StepLaws.{state_length, memory_length}

module _ (s m : List ℕ) (p : Accepted s m) where
  headed : Headed (sheet_in s)
  headed = (passed_framed (sheet_in s) p.passes).headed

  few_nodes : nodes (sheet_in s) ≤ 16
  few_nodes = mul-le-mul headed.columns_high headed.rows_high

  one_cycle : OneCycle s m
  one_cycle = record {
    ticks = cycle_agrees s m few_nodes headed.circuits_high p.whole;
    faults = faulty_is s m;
    state_length = state_length s m (omega (arith, p.long));
    memory_length = memory_length s m;
    behind = next_rest s m;
    clock_rest = λ k a l. next_off s m clock_row k (omega arith) l (omega (arith, clock_extent s m clock_row (omega arith) refl));
    router_rest = λ row k low high a l.
        next_off s m row k (omega arith) l (omega (arith, router_extent s m row (omega arith) low high));
    node_rest = λ row k low high a l. next_off s m row k (omega arith) l (omega (arith, node_extent s m row (omega arith) low high));
    extra_rest = λ row k low high a l. next_off s m row k (omega arith) l (omega (arith, extra_extent s m row (omega arith) low high));
    extra_none = extra_kept s m;
    circuit_rest = λ row k low high a l.
        next_off s m row k (omega arith) l (omega (arith, circuit_extent s m row (omega arith) low high));
  }

pub one_machine : OneMachine
one_machine = record { every_cycle = one_cycle }
