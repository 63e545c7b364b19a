-- `clash::RoutedSheet::entries_apart` meets its contract: Number 11 at one schedule: with just the entries before it in the table, an entry finds a place taken exactly where it meets one of them.
use lib.ListN.{length}
use Rattle.clash.proofs.EntryLaws.{Placing}
use Rattle.clash.proofs.RoutedSheet.entries_apart.Given as goal

abbrev pub invariant-loop-i : goal.invariant-loop-i
invariant-loop-i l = (Placing l.self.frame.words.now l.j l.stride l.entries (length l.initial.table) l.i l.table)
