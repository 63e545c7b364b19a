-- `clash::RoutedSheet::apart_in` meets its contract: a table of zeros is free.
use Rattle.clash.proofs.RoomLaws.{ready_zeros}
use Rattle.clash.proofs.RoutedSheet.apart_in.Goals as goal

pub entries_apart-requires : goal.entries_apart-requires
entries_apart-requires g c = ready_zeros g.row.WORDS c.args.self.frame.words.now _ c.requires.0 c.requires.1
