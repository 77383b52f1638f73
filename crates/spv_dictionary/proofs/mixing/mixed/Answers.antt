use Rattle.std.proofs.Common.{sym, subst}
use Rattle.spv_tableau_rules.specs.tableaux.Operations.{operation}
use Rattle.spv_frac.specs.declared.frac.Op.TheVariants.{Add}
use Rattle.spv_frac.specs.rational.Rational.{Rational}
use Rattle.spv_dictionary.specs.Mixing.{IsMixing, scaling, adding}
use Rattle.spv_dictionary.proofs.Mixed.{if_refused}
use Rattle.spv_dictionary.proofs.mixing.mixed.Goals as goal

pub returns-else-is_slot-clause-refused : goal.returns-else-is_slot-clause-refused
returns-else-is_slot-clause-refused c =
    if_refused c.add.result _ (IsMixing c.args.is_slot c.args.number c.args.solved c.args.factor) c.add.ensures.refused
    (subst (λ (p : Rational). IsMixing c.args.is_slot c.args.number c.args.solved c.args.factor (operation Add c.args.number p)) (sym c.in-Ok.ensures.value) (adding c.if-is_slot.false))

pub returns-in-Err-clause-refused : goal.returns-in-Err-clause-refused
returns-in-Err-clause-refused c = subst (IsMixing c.args.is_slot c.args.number c.args.solved c.args.factor) (sym c.in-Err.ensures.refused) scaling
