-- `batch::start_each` meets its contract: after i turns the first i transfers are started, each on the state that those before it left.
use Rattle.std.proofs.Common.{◌≡◌, ◌∙◌, arith}
use Rattle.batch.proofs.BatchLaws.{loop_none, loop_more, loop_done}
use Rattle.batch.proofs.start_each.Goals as goal

pub loop-i-init : goal.loop-i-init
loop-i-init g c = record {
  ends = c.count-i-end.ensures;
  room = omega (arith, c.count-i-end.ensures);
  started = loop_none _ _ _ c.requires.0;
}

pub start_one-requires : goal.start_one-requires
start_one-requires g c = c.loop-i.invariant.started.passes

pub loop-i-preserved : goal.loop-i-preserved
loop-i-preserved g c = record {
  ends = c.loop-i.invariant.ends;
  room = c.loop-i.invariant.room;
  started = loop_more _ _ _ c.loop-i.invariant.started (omega (arith, c.loop-i.invariant.room)) c.at.ensures c.start_one.ensures.answer c.start_one.ensures.state;
}

pub returns : goal.returns
returns g c =
    let over : c.loop-i.i ≡ c.count-i-end.result = omega (arith, c.loop-i.auto.i-end) in
    let each = loop_done _ _ _ _ c.loop-i.invariant.started (over ∙ c.loop-i.invariant.ends) in record { state = each.0; answers = each.1 }
