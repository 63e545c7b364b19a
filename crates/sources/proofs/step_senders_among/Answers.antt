-- `sources::step_senders_among` meets its contract: in the loop the circuits that the walk has left behind have stepped, those that were passed rest, and no register that a circuit reads is written before its turn.
use Rattle.occupancy.proofs.WalkLaws.{begun, still_on}
use Rattle.sources.proofs.SenderLaws.{stepping_start, stepping_done, stepping_rest, stepping_to, stepping_more, step_paired, step_table, step_inside, step_sending, Here}
use Rattle.sources.proofs.step_senders_among.Goals as goal
use Rattle.sources.proofs.step_senders_among.Goals.{In-Some}

pub loop-c-init : goal.loop-c-init
loop-c-init c =
    let first = c.places-c-items.ensures in
    stepping_start _ c.requires.0 _ c.requires.2 _ _ c.sheet_of.ensures c.circuits_of-count.ensures _
    (begun _ _ _ _ c.into_iter-c-iterator.ensures.into_iter_gives first.mask first.from first.end)

here : (c : In-Some) → Here c.args.s.now c.circuits_of-count.result c.loop-c.s c.loop-c.sending c.in-Some.c
here c = stepping_to _ c.requires.0 _ c.requires.2 _ _ _ _ c.loop-c.invariant c.next.new.self _ c.in-Some.ensures.steps

pub step_sender-sending-requires : goal.step_sender-sending-requires
step_sender-sending-requires c = let w = here (goal.at.step_sender-sending-requires c).In-Some in (
  step_paired _ c.requires.0 _ _ _ _ w,
  step_table _ c.requires.0 _ _ _ _ w _ c.requires.1,
  step_inside _ c.requires.0 _ _ _ _ w,
  step_sending _ c.requires.0 _ _ _ _ w,
)

pub loop-c-preserved : goal.loop-c-preserved
loop-c-preserved c =
    stepping_more _ c.requires.0 _ _ _ _ (here (goal.at.loop-c-preserved c).In-Some) _ c.step_sender-sending.ensures.state _ c.step_sender-sending.ensures.sending _ _
    (still_on _ _ _ c.loop-c.invariant.on c.next.new.self _ c.in-Some.ensures.steps) c.in-Some.ensures.steps.2.onward

pub returns : goal.returns
returns c = record {
  state = stepping_done _ c.requires.0 _ c.requires.2 _ _ _ _ c.loop-c.invariant c.next.new.self c.in-None.ensures.steps;
  sending = stepping_rest _ c.requires.0 _ c.requires.2 _ _ _ _ c.loop-c.invariant c.next.new.self c.in-None.ensures.steps;
}
