-- `tables::Prepared::fill` meets its contract: each kind of fault is looked for, and where there is none all tables and masks are those of the cycle.
use mathlib.Core.Path.{sym, ◌∙◌, refl}
use Rattle.refusal.proofs.AnswerLaws.{is_some, handed_on}
use Rattle.tables.proofs.PrepareLaws.{fault_number, no_fault}
use Rattle.tables.proofs.FaultLaws.{fault_crossed, fault_unheld, wires_refused, fault_last}
use Rattle.tables.proofs.Prepared.fill.Goals as goal
use Rattle.tables.proofs.Prepared.fill.Goals.{then-cross_among-via-then-cross_among, then-cross_among-via-else-cross_among+then-has_unheld}

pub returns-then-cross_among-clause-number : goal.returns-then-cross_among-clause-number
returns-then-cross_among-clause-number c =
    elim c.then-cross_among.branch [
      | then-cross_among-via-then-cross_among w ↦ fault_number _ (fault_crossed _ (sym c.cross_among.ensures.fault ∙ w.if-cross_among.true)) refl
      | then-cross_among-via-else-cross_among+then-has_unheld w ↦
          fault_number _ (fault_unheld _ (sym c.cross_among.ensures.fault ∙ w.if-cross_among.false) (sym w.has_unheld.ensures ∙ w.if-has_unheld.true)) refl
    ]

pub returns-in_err-wires-clause-number : goal.returns-in_err-wires-clause-number
returns-in_err-wires-clause-number c =
    handed_on _ _ c.from_residual.ensures
    ∙ wires_refused _ (sym c.cross_among.ensures.fault ∙ c.if-cross_among.false) (sym c.has_unheld.ensures ∙ c.if-has_unheld.false) _ (is_some _) c.in_err-wires.ensures.fault

pub returns-then-has_stray_among-clause-number : goal.returns-then-has_stray_among-clause-number
returns-then-has_stray_among-clause-number c =
    fault_number _
    (fault_last _ (sym c.cross_among.ensures.fault ∙ c.if-cross_among.false) (sym c.has_unheld.ensures ∙ c.if-has_unheld.false) c.in_ok-wires.ensures.fault _ c.has_stray_among.ensures)
    c.if-has_stray_among.true

pub returns-clause-number : goal.returns-clause-number
returns-clause-number c =
    no_fault _
    (fault_last _ (sym c.cross_among.ensures.fault ∙ c.if-cross_among.false) (sym c.has_unheld.ensures ∙ c.if-has_unheld.false) c.in_ok-wires.ensures.fault _ c.has_stray_among.ensures)
    c.if-has_stray_among.false
