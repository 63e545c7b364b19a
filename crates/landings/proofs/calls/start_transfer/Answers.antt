-- `landings::calls::start_transfer` meets its contract: the five words that were read are those of the start.
use Rattle.landings.proofs.CallLaws.{start_number_is, start_state_is}
use Rattle.landings.proofs.calls.start_transfer.Goals as goal

pub returns : goal.returns
returns c = record {
  number = start_number_is _ _ _ c.word_in.ensures c.word_in-2.ensures c.word_in-3.ensures
      c.word_in-4.ensures c.word_in-5.ensures c.start_sound.ensures.answer;
  state = start_state_is _ _ _ c.word_in.ensures c.word_in-2.ensures c.word_in-3.ensures
      c.word_in-4.ensures c.word_in-5.ensures c.start_sound.ensures.state;
}
