use Rattle.spv_dictionary.proofs.Exchanging.{false_of}
use Rattle.std.proofs.Common.{◌∙◌, sym, subst}
use Rattle.spv_tableau_rules.specs.tableaux.Operations.{operation}
use Rattle.spv_frac.specs.declared.frac.Op.TheVariants.{Div}
use mathlib.Core.Path.{ap₂}
use Rattle.spv_frac.specs.rational.Rational.{Rational}
use Rattle.spv_tableau_rules.specs.tableaux.Numbers.{one, divided}
use Rattle.spv_dictionary.specs.Mixing.{IsSolving, inverting, dividing}
use Rattle.spv_dictionary.proofs.Mixed.{if_refused, solved_other}
use Rattle.spv_dictionary.proofs.mixing.solved.Goals as goal

pub returns-then-place-slot-clause-refused : goal.returns-then-place-slot-clause-refused
returns-then-place-slot-clause-refused c =
    if_refused c.div.result _ (IsSolving c.args.row.now c.args.slot) c.div.ensures.refused
    (subst (λ (p : Rational). IsSolving c.args.row.now c.args.slot (operation Div p c.get.result)) (sym c.whole.ensures)
    (subst (λ (p : Rational). IsSolving c.args.row.now c.args.slot (operation Div one p)) (sym c.get.ensures) inverting))

pub returns-in-Ok-clause-value : goal.returns-in-Ok-clause-value
returns-in-Ok-clause-value c =
    solved_other c.args.row.now c.args.slot c.args.place c.in-Ok.quotient c.neg.result (false_of c.args.place c.args.slot c.if-place-slot.false) (c.in-Ok.ensures.value ∙ ap₂ divided c.get-2.ensures c.get-3.ensures) c.neg.ensures

pub returns-in-Err-clause-refused : goal.returns-in-Err-clause-refused
returns-in-Err-clause-refused c =
    subst (IsSolving c.args.row.now c.args.slot) (sym (c.in-Err.ensures.refused ∙ ap₂ (operation Div) c.get-2.ensures c.get-3.ensures)) (dividing c.args.place c.requires.place (false_of c.args.place c.args.slot c.if-place-slot.false))
