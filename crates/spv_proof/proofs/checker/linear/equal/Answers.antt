use Rattle.std.proofs.Common.{Bool, ap, ◌∙◌}
use Rattle.spv_logic.specs.Conditions.{Sequent}
use Rattle.spv_logic.specs.Formulas.{equation}
use Rattle.spv_term.specs.Arena.{tree}
use Rattle.spv_atoms.specs.declared.proofs.Relation.TheVariants.{Equal}
use Rattle.spv_proof_rules.specs.Effects.{adds_if}
use Rattle.spv_proof_rules.specs.Outcomes.{Does}
use Rattle.spv_proof.specs.declared.checker.stops.CheckStop.{CheckStop}
use Rattle.spv_proof.specs.checker.Ends.{IsTrialStop}
use Rattle.spv_proof.specs.checker.Shown.{linear_trial}
use Rattle.spv_proof.proofs.checker.Goings.{if_same}
use Rattle.spv_proof.proofs.checker.Shown.{equal_comes, equal_stops}
use Rattle.spv_proof.proofs.checker.linear.equal.Goals as goal

pub returns-in_err-shows-2-clause-stop : goal.returns-in_err-shows-2-clause-stop
returns-in_err-shows-2-clause-stop c =
    if_same c.from_residual-in_err-shows-2.result c.in_err-shows-2.field-0.0
    (λ (e : CheckStop). (q : Sequent) → IsTrialStop c.args.terms.now c.shows-2.new.terms e (linear_trial c.args.terms.now q c.args.facts.now (Equal c.args.claim.left c.args.claim.right) c.args.first.now c.args.second.now))
    c.from_residual-in_err-shows-2.ensures.1
    (λ q. equal_stops c.args.terms.now q c.args.facts.now c.args.claim.left c.args.claim.right c.args.first.now c.args.second.now _ _
    (record {
      are_numbers = c.are_numbers.ensures.value;
      numbers = c.if-not-are_numbers.false;
      value = c.in_ok-shows.ensures.value;
      is_shown = c.if-not-branch.false;
      unstopped = c.in_ok-shows.ensures.unstopped;
    })
    c.shows.new.terms c.shows-2.new.terms c.in_err-shows-2.field-0.0 c.in_ok-shows.ensures.same c.in_err-shows-2.ensures.stop)

pub returns-then-branch-clause-value : goal.returns-then-branch-clause-value
returns-then-branch-clause-value c q =
    equal_comes c.args.terms.now q c.args.facts.now c.args.claim.left c.args.claim.right c.args.first.now c.args.second.now _ _
    (record {
      are_numbers = c.are_numbers.ensures.value;
      numbers = c.if-not-are_numbers.false;
      value = c.in_ok-shows.ensures.value;
      is_shown = c.if-not-branch.false;
      unstopped = c.in_ok-shows.ensures.unstopped;
    })
    c.shows.new.terms c.in_ok-shows.ensures.same _ c.in_ok-shows-2.ensures.value c.in_ok-shows-2.ensures.unstopped
    ∙ ap (λ (b : Bool). Does (adds_if b (equation (tree c.args.terms.now c.args.claim.left) (tree c.args.terms.now c.args.claim.right)))) c.if-branch.true

pub returns-else-branch-clause-value : goal.returns-else-branch-clause-value
returns-else-branch-clause-value c q =
    equal_comes c.args.terms.now q c.args.facts.now c.args.claim.left c.args.claim.right c.args.first.now c.args.second.now _ _
    (record {
      are_numbers = c.are_numbers.ensures.value;
      numbers = c.if-not-are_numbers.false;
      value = c.in_ok-shows.ensures.value;
      is_shown = c.if-not-branch.false;
      unstopped = c.in_ok-shows.ensures.unstopped;
    })
    c.shows.new.terms c.in_ok-shows.ensures.same _ c.in_ok-shows-2.ensures.value c.in_ok-shows-2.ensures.unstopped
    ∙ ap (λ (b : Bool). Does (adds_if b (equation (tree c.args.terms.now c.args.claim.left) (tree c.args.terms.now c.args.claim.right)))) c.if-branch.false
