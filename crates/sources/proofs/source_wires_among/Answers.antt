-- `sources::source_wires_among` meets its contract: in the loop the circuits that the walk has left behind are on the wires, those that were passed put nothing there, and `fault` says whether one of them was at fault.
use native.Mathlib.Omega.{arith}
use Rattle.occupancy.proofs.WalkLaws.{begun, still_on}
use Rattle.sources.proofs.SourceLaws.{paired_long, either_is}
use Rattle.sources.proofs.WireLaws.{Here, wiring_start, wiring_to, wiring_inside, marks_here, words_here, node_fits, wiring_more, wiring_refused, wiring_passed, wiring_marks, wiring_words, wiring_free}
use Rattle.sources.proofs.source_wires_among.Goals as goal
use Rattle.sources.proofs.source_wires_among.Goals.{In-Some}

pub returns-then-s-lt-MOVING_WORDS : goal.returns-then-s-lt-MOVING_WORDS
returns-then-s-lt-MOVING_WORDS c =
    absurd (let z : ⊥ = omega (arith, c.if-s-lt-MOVING_WORDS.true, paired_long _ _ c.requires.0.paired) in z)

pub loop-c-init : goal.loop-c-init
loop-c-init c =
    let first = c.places-c-items.ensures in
    wiring_start _ _ _ c.requires.0 _ c.requires.1 _ _ _ c.circuits_of-count.ensures c.requires.3 c.requires.4 _
    (begun _ _ _ _ c.into_iter-c-iterator.ensures.into_iter_gives first.mask first.from first.end)

here : (c : In-Some) → Here c.args.s.now c.args.z.now c.args.m.now c.circuits_of-count.result c.loop-c.marks c.loop-c.cells c.loop-c.fault c.loop-c.wires c.in-Some.c
here c = wiring_to _ _ _ c.requires.0 _ c.requires.1 _ _ _ _ _ _ c.loop-c.invariant c.next.new.self _ c.in-Some.ensures.steps

pub invariant_of-sender-clause-inside : goal.invariant_of-sender-clause-inside
invariant_of-sender-clause-inside c =
    wiring_inside _ _ _ c.requires.0 _ c.requires.1 _ _ _ _ _ _ (here (goal.at.invariant_of-sender-clause-inside c).In-Some)

pub put-fault-requires : goal.put-fault-requires
put-fault-requires c = let w = here (goal.at.put-fault-requires c).In-Some in (
  c.requires.0,
  marks_here _ _ _ c.requires.0 _ c.requires.1 _ _ _ _ _ _ w,
  words_here _ _ _ c.requires.0 _ c.requires.1 _ _ _ _ _ _ w,
)

pub only-wires-requires : goal.only-wires-requires
only-wires-requires c =
    node_fits _ _ _ c.requires.0 _ c.requires.1 _ _ _ _ _ _ (here (goal.at.only-wires-requires c).In-Some) _ c.at.ensures

pub loop-c-preserved : goal.loop-c-preserved
loop-c-preserved c =
    wiring_more _ _ _ c.requires.0 _ c.requires.1 _ _ _ _ _ _ (here (goal.at.loop-c-preserved c).In-Some) _ c.at.ensures _ c.only-wires.ensures _ _ _ _
    c.put-fault.ensures.marks c.put-fault.ensures.cells c.put-fault.ensures.fault (either_is _ _) _
    (still_on _ _ _ c.loop-c.invariant.on c.next.new.self _ c.in-Some.ensures.steps) c.in-Some.ensures.steps.2.onward

pub returns-then-fault : goal.returns-then-fault
returns-then-fault c = let w = c.loop-c.invariant in record {
  fault = wiring_refused _ _ _ c.requires.0 _ c.requires.1 _ _ _ _ _ _ w c.next.new.self c.in-None.ensures.steps c.if-fault.true;
  marks = wiring_marks _ _ _ c.requires.0 _ c.requires.1 _ _ _ _ _ _ w c.next.new.self c.in-None.ensures.steps;
  cells = wiring_words _ _ _ c.requires.0 _ c.requires.1 _ _ _ _ _ _ w c.next.new.self c.in-None.ensures.steps;
  nodes = tt;
}

pub returns : goal.returns
returns c = let w = c.loop-c.invariant in record {
  fault = wiring_passed _ _ _ c.requires.0 _ c.requires.1 _ _ _ _ _ _ w c.next.new.self c.in-None.ensures.steps c.if-fault.false;
  marks = wiring_marks _ _ _ c.requires.0 _ c.requires.1 _ _ _ _ _ _ w c.next.new.self c.in-None.ensures.steps;
  cells = wiring_words _ _ _ c.requires.0 _ c.requires.1 _ _ _ _ _ _ w c.next.new.self c.in-None.ensures.steps;
  nodes = wiring_free _ _ _ c.requires.0 _ c.requires.1 _ _ _ _ _ _ w c.next.new.self c.in-None.ensures.steps;
}
