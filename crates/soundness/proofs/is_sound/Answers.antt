-- `soundness::is_sound` meets its contract: the sheet with its length, then clause by clause.
use Rattle.std.proofs.Common.{arith, sym, ◌∙◌}
use Rattle.refusal.proofs.AnswerLaws.{passed, failed}
use Rattle.sheet.proofs.VerdictLaws.{routed}
use Rattle.soundness.proofs.ChainLaws.{chains}
use Rattle.soundness.proofs.SoundnessLaws.{sound_long, sound_refused, sound_is}
use Rattle.soundness.proofs.is_sound.Goals as goal
use Rattle.soundness.proofs.is_sound.Goals.{then-get-gt-SHEET_WORDS-via-then-get-gt-SHEET_WORDS, then-get-gt-SHEET_WORDS-via-else-get-gt-SHEET_WORDS+then-is_err}

pub returns-then-get-gt-SHEET_WORDS : goal.returns-then-get-gt-SHEET_WORDS
returns-then-get-gt-SHEET_WORDS c =
    elim c.then-get-gt-SHEET_WORDS.branch [
      | then-get-gt-SHEET_WORDS-via-then-get-gt-SHEET_WORDS w ↦ sound_long _ _ c.sheet_of-z.ensures _ c.get.ensures w.if-get-gt-SHEET_WORDS.true
      | then-get-gt-SHEET_WORDS-via-else-get-gt-SHEET_WORDS+then-is_err w ↦ sound_refused _ _ c.sheet_of-z.ensures _ c.get.ensures w.if-get-gt-SHEET_WORDS.false (λ e. failed _ (sym w.is_err.ensures.value ∙ w.if-is_err.true) (w.check_rules.ensures ∙ e))
    ]

pub invariant_of-state : goal.invariant_of-state
invariant_of-state c = record { framed = (routed _ (sym c.check_rules.ensures ∙ passed _ (sym c.is_err.ensures.value ∙ c.if-is_err.false))).ranged.framed }

pub returns-then-extras_sound : goal.returns-then-extras_sound
returns-then-extras_sound c =
    let e = sound_is _ _ c.sheet_of-z.ensures _ c.get.ensures c.if-get-gt-SHEET_WORDS.false (sym c.check_rules.ensures ∙ passed _ (sym c.is_err.ensures.value ∙ c.if-is_err.false)) in grind (arith, chains)

pub returns-else-extras_sound : goal.returns-else-extras_sound
returns-else-extras_sound c =
    let e = sound_is _ _ c.sheet_of-z.ensures _ c.get.ensures c.if-get-gt-SHEET_WORDS.false (sym c.check_rules.ensures ∙ passed _ (sym c.is_err.ensures.value ∙ c.if-is_err.false)) in grind (arith, chains)
