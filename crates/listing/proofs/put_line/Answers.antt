-- `listing::put_line` meets its contract: the five fields are put one behind the other.
use Rattle.listing.proofs.TextLaws.{line_place, line_bytes}
use Rattle.listing.proofs.put_line.Goals as goal

pub returns : goal.returns
returns c =
    let a = c.args in
    record {
      place = line_place a.at a.cycle a.node a.address a.word a.kind c.put_field-node_at.ensures.place
          c.put_field-address_at.ensures.place c.put_field-word_at.ensures.place c.put_field-kind_at.ensures.place
          c.put_field.ensures.place;
      bytes = line_bytes a.at a.cycle a.node a.address a.word a.kind
          c.put_field-node_at.ensures.place c.put_field-address_at.ensures.place c.put_field-word_at.ensures.place
          c.put_field-kind_at.ensures.place _ c.put_field-node_at.ensures.bytes c.put_field-address_at.ensures.bytes
          c.put_field-word_at.ensures.bytes c.put_field-kind_at.ensures.bytes c.put_field.ensures.bytes;
    }
