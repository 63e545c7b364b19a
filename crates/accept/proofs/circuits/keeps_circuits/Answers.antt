-- `accept::circuits::keeps_circuits` meets its contract: circuits that are arranged keep the numbers 4 and 5,
-- and the number 6 where their read regions are apart.
use Rattle.accept.proofs.ArrangedLaws.{order_four, order_five}
use Rattle.accept.proofs.circuits.keeps_circuits.Goals as goal

pub returns-then-circuits_arranged : goal.returns-then-circuits_arranged
returns-then-circuits_arranged c =
    let order = c.circuits_arranged.ensures.order c.if-circuits_arranged.true in
    λ e. (order_four _ order, order_five _ c.args.frame.framed order, c.reads_apart.ensures e)
