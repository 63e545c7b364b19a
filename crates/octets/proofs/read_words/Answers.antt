use Rattle.std.proofs.Common.{◌+◌, arith}
use Rattle.words.proofs.WordLaws.{fill_more, tab_is}
use Rattle.octets.specs.Octets.{word_in}
use Rattle.octets.proofs.read_words.Goals as goal

pub loop-k-preserved : goal.loop-k-preserved
loop-k-preserved c =
    let l = c.loop-k in
    let a = c.args in
    fill_more l.into l.k _ (λ j. word_in a.bytes.now (a.first + j)) (omega arith) l.invariant c.word_in.ensures

pub returns : goal.returns
returns c =
    let l = c.loop-k in
    let a = c.args in
    tab_is l.into _ (λ j. word_in a.bytes.now (a.first + j)) l.auto.into (λ j h. l.invariant j (omega arith))
