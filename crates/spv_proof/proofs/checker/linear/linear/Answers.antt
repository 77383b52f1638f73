use Rattle.std.proofs.Common.{sym, subst, IfErr}
use Rattle.spv_logic.specs.Conditions.{Sequent}
use Rattle.spv_atoms.specs.declared.proofs.Relation.{Relation}
use Rattle.spv_proof.specs.checker.Ends.{IsTrialStop}
use Rattle.spv_proof.specs.checker.Shown.{linear_trial}
use Rattle.spv_proof.proofs.checker.linear.linear.Goals as goal

pub returns-in-AtMost-clause-stop : goal.returns-in-AtMost-clause-stop
returns-in-AtMost-clause-stop c =
    subst (λ (r : Relation). IfErr c.at_most.result (λ e. (q : Sequent) → IsTrialStop c.args.terms.now c.at_most.new.terms e (linear_trial c.args.terms.now q c.args.facts.now r c.args.first.now c.args.second.now)))
    (sym c.in-AtMost.is) c.at_most.ensures.stop

pub returns-in-Equal-clause-stop : goal.returns-in-Equal-clause-stop
returns-in-Equal-clause-stop c =
    subst (λ (r : Relation). IfErr c.equal.result (λ e. (q : Sequent) → IsTrialStop c.args.terms.now c.equal.new.terms e (linear_trial c.args.terms.now q c.args.facts.now r c.args.first.now c.args.second.now)))
    (sym c.in-Equal.is) c.equal.ensures.stop
