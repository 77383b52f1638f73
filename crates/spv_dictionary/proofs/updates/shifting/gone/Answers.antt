use Rattle.std.proofs.Common.{sym, subst}
use Rattle.spv_frac.specs.declared.frac.Op.TheVariants.{Add}
use Rattle.spv_frac.specs.rational.Rational.{Rational}
use Rattle.spv_tableau_rules.specs.tableaux.Operations.{operation}
use Rattle.spv_dictionary.proofs.Mixed.{if_refused}
use Rattle.spv_dictionary.specs.updates.Shifts.{IsGoing, scaling, adding}
use Rattle.spv_dictionary.proofs.updates.shifting.gone.Goals as goal

pub returns-in-Ok-clause-refused : goal.returns-in-Ok-clause-refused
returns-in-Ok-clause-refused c =
    if_refused c.add.result _ (IsGoing c.args.value c.args.distance c.args.entry) c.add.ensures.refused
    (subst (λ (p : Rational). IsGoing c.args.value c.args.distance c.args.entry (operation Add c.args.value p)) (sym c.in-Ok.ensures.value) adding)

pub returns-in-Err-clause-refused : goal.returns-in-Err-clause-refused
returns-in-Err-clause-refused c = subst (IsGoing c.args.value c.args.distance c.args.entry) (sym c.in-Err.ensures.refused) scaling
