-- A landing has a line, and nothing landed has none.
use Rattle.std.proofs.Common.{ap, ◌∙◌, ℕ, ◌+◌, List, length}
use Rattle.session.specs.Calls.{last_landing}
use Rattle.words.specs.Inner.Puts.{put_all}
use Rattle.landings.proofs.PageLaws.{none_put, some_put}
use Rattle.landings.proofs.pages.put_landing.Goals as goal

pub returns-in-None : goal.returns-in-None
returns-in-None c =
    let each = none_put c.args.time c.args.node (last_landing c.args.s.now c.args.node) c.in-None.ensures _ _ in record { place = each.0; bytes = each.1 }

pub returns-in-Some : goal.returns-in-Some
returns-in-Some c =
    let line = some_put c.args.time c.args.node (last_landing c.args.s.now c.args.node) _ c.in-Some.ensures in
    let put = c.put_line.ensures in
    record {
      place = put.place ∙ ap (λ (x : List ℕ). c.args.at + length x) line;
      bytes = put.bytes ∙ ap (put_all c.args.buffer.now c.args.at) line;
    }
