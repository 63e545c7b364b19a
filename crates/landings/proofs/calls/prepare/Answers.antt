-- `landings::calls::prepare` meets its contract: the memories are the input's, and a load and starts that are carried out leave sound words.
use Rattle.landings.proofs.CallLaws.{memory_there, memory_is, prepared}
use Rattle.landings.proofs.calls.prepare.Goals as goal

pub read_words-requires : goal.read_words-requires
read_words-requires c =
    memory_there _ c.requires.own_sheet c.requires.runs c.requires.enough

pub returns : goal.returns
returns c = let each = prepared _ _ _ c.requires.runs c.requires.zeros
    (memory_is _ c.requires.own_sheet c.requires.enough c.read_words.ensures) c.call_all.ensures.number
    c.call_all.ensures.state in record { message = each.0; state = each.1.0; memory = each.1.1 }
