-- `session::loading::copy_words` meets its contract: each turn copies one more word to its place.
use Rattle.session.proofs.LoadingLaws.{Copied}
use Rattle.session.proofs.loading.copy_words.Given as goal

abbrev pub invariant-loop-k : goal.invariant-loop-k
invariant-loop-k l = Copied l.initial.s l.s l.at l.from l.k
