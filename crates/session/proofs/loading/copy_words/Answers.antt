-- `session::loading::copy_words` meets its contract: each turn copies one more word to its place.
use Rattle.session.proofs.LoadingLaws.{copy_start, copy_more, copy_done}
use Rattle.session.proofs.loading.copy_words.Goals as goal

pub loop-k-init : goal.loop-k-init
loop-k-init c = copy_start _ _ _ c.requires

pub loop-k-preserved : goal.loop-k-preserved
loop-k-preserved c = copy_more _ _ _ _ _ c.loop-k.invariant c.loop-k-test.true

pub returns : goal.returns
returns c = copy_done _ _ _ _ _ c.loop-k.invariant c.loop-k-test.false
