-- `listing::put_field` meets its contract: the digits that std writes are the fewest, at most ten, and the end follows them.
use Rattle.std.proofs.Common.{◌≡◌, ◌+◌, ◌≤◌, ap, length, decimal, ◌∙◌, arith, rules}
use Rattle.std.proofs.lemmas.Slice.{overwrites}
use Rattle.listing.proofs.TextLaws.{field_place, field_bytes}
use Rattle.listing.proofs.put_field.Goals as goal

pub returns : goal.returns
returns c =
    let a = c.args in
    let text : c.as_bytes-text.result.now ≡ decimal a.n = c.as_bytes-text.ensures.value ∙ c.format.ensures.text ∙ ap decimal (omega arith) in
    let fits : a.at + length c.as_bytes-text.result.now ≤ length a.buffer.now = omega (arith, c.format.ensures.fits, ap length c.as_bytes-text.ensures.value) in
    record {
      place = field_place a.n a.end (omega arith) _ text a.at;
      bytes = field_bytes a.n a.end (omega arith) _ text _ _ _ a.at fits (search rules) (search (rules, overwrites)) (search (rules, overwrites));
    }
