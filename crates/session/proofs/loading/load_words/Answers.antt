-- `session::loading::load_words` meets its contract: the number decides between the state with the sheet and nothing.
use Rattle.std.proofs.Common.{refl}
use Rattle.session.proofs.LoadingLaws.{sheet_fits}
use Rattle.session.proofs.loading.load_words.Goals as goal

pub put_sheet-requires : goal.put_sheet-requires
put_sheet-requires c = sheet_fits _ _ _ c.in_ok-check_load.ensures refl
