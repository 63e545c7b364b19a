-- `machine::carry_out` meets its contract: each stage has what it requires from those before it, and together they are the cycle; words are a stage further, and so are the masks.
use mathlib.Core.Bool.{Bool}
use mathlib.Core.Path.{◌≡◌, sym, ◌∙◌, ap}
use Rattle.words.specs.Words.{pick}
use Rattle.sheet.specs.Sheet.{is_long}
use Rattle.tables.proofs.PrepareLaws.{counted}
use Rattle.machine.proofs.CarryLaws.{Carrying, heads_ready, links_ready, units_ready, extras_ready, outs_ready, senders_ready, clock_ready, is_carried_out, covered_out}
use Rattle.machine.proofs.carry_out.Goals as goal
use Rattle.machine.proofs.carry_out.Goals.{After-is_long-long, then-long, else-long}

ahead : (c : After-is_long-long) → let t = c.args.prepared.now in Carrying c.args.s.now c.args.m.now t.slots t.marks t.cells t.outs t.values c.args.live c.args.masks.acting c.args.masks.wires c.nodes_of-nodes.result c.memory_of-room.result c.is_long-long.result
ahead c = record {
  tables = c.requires.2;
  ready = c.requires.0;
  covered = c.requires.1;
  moving = c.requires.3;
  counted = counted c.requires.0 c.sheet_of-z.ensures c.nodes_of-nodes.ensures c.memory_of-room.ensures;
  long_links = c.is_long-long.ensures ∙ ap is_long c.sheet_of-z.ensures;
}

pub step_heads_among-requires : goal.step_heads_among-requires
step_heads_among-requires c = heads_ready (ahead (goal.at.step_heads_among-requires c).After-is_long-long)

pub step_links_among-links-requires : goal.step_links_among-links-requires
step_links_among-links-requires c = links_ready (ahead (goal.at.step_links_among-links-requires c).After-is_long-long) c.step_heads_among.ensures

pub step_receivers_among-requires : goal.step_receivers_among-requires
step_receivers_among-requires c = units_ready (ahead (goal.at.step_receivers_among-requires c).After-is_long-long) c.step_heads_among.ensures c.step_links_among-links.ensures.state

pub step_extras-requires : goal.step_extras-requires
step_extras-requires c = extras_ready (ahead (goal.at.step_extras-requires c).After-is_long-long) c.step_heads_among.ensures c.step_links_among-links.ensures.state c.step_receivers_among.ensures.state

pub step_outs-requires : goal.step_outs-requires
step_outs-requires c = outs_ready (ahead (goal.at.step_outs-requires c).After-is_long-long) c.step_heads_among.ensures c.step_links_among-links.ensures.state c.step_receivers_among.ensures.state c.step_extras.ensures

pub step_senders_among-sending-requires : goal.step_senders_among-sending-requires
step_senders_among-sending-requires c = senders_ready (ahead (goal.at.step_senders_among-sending-requires c).After-is_long-long) c.step_heads_among.ensures c.step_links_among-links.ensures.state c.step_receivers_among.ensures.state c.step_extras.ensures c.step_outs.ensures

pub step_clock-requires : goal.step_clock-requires
step_clock-requires c = clock_ready (ahead (goal.at.step_clock-requires c).After-is_long-long) c.step_heads_among.ensures c.step_links_among-links.ensures.state c.step_receivers_among.ensures.state c.step_extras.ensures c.step_outs.ensures c.step_senders_among-sending.ensures.state

pub returns : goal.returns
returns c =
    let p = ahead (goal.at.returns c).After-is_long-long in
    let done = is_carried_out p c.step_heads_among.ensures c.step_links_among-links.ensures.state c.step_receivers_among.ensures.state c.step_extras.ensures c.step_outs.ensures c.step_senders_among-sending.ensures.state c.step_clock.ensures c.step_receivers_among.ensures.memory in
    let extras = elim c.if-long.branch as (λ x. c.if-long.extras ≡ pick c.is_long-long.result c.args.live.outs 0) [
      | then-long w ↦ w.extras-is ∙ sym (ap (λ (b : Bool). pick b c.args.live.outs 0) w.if-long.true)
      | else-long w ↦ w.extras-is ∙ sym (ap (λ (b : Bool). pick b c.args.live.outs 0) w.if-long.false)
    ] in
    record { state = done.0; memory = done.1; covered = covered_out p c.step_heads_among.ensures c.step_links_among-links.ensures.state c.step_receivers_among.ensures.state c.step_extras.ensures c.step_outs.ensures c.step_senders_among-sending.ensures.state c.step_clock.ensures c.step_receivers_among.ensures.memory c.step_links_among-links.ensures.live c.step_senders_among-sending.ensures.sending extras }
