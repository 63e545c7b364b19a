-- Demand 3, whole: every session shows what is reckoned, and no circuit can be told apart by what the others do.
-- Assumes nothing.
use Rattle.isolation.specs.Demand.{Demand3}
use Rattle.isolation.proofs.Reckoning.Dates.{never_refused}
use Rattle.isolation.proofs.Reckoning.Reckons.{period_number_is, landed_answered, landed_at_load, landed_kept, as_reckoned, reading, starts_by}
use Rattle.isolation.proofs.Reckoning.Undisturbed.{undisturbed_reading}

pub demand3 : Demand3
demand3 = record {
  cycles_carried_out = never_refused;
  period_number_is = period_number_is;
  landed_answered = landed_answered;
  landed_at_load = landed_at_load;
  landed_kept = landed_kept;
  as_reckoned = as_reckoned;
  undisturbed = λ a b c d n ic id na nb x.
      undisturbed_reading a b c d n (as_reckoned a c ic) (as_reckoned b d id) na nb x (reading a c ic)
      (starts_by a c ic) (starts_by b d id);
}
