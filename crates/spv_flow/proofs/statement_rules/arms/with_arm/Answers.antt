use Rattle.spv_term.specs.Arena.{tree}
use Rattle.spv_flow.proofs.statement_rules.ArmLemmas.{label_stops, arm_comes}
use Rattle.spv_flow.proofs.statement_rules.arms.with_arm.Goals as goal

pub returns-in_err-test : goal.returns-in_err-test
returns-in_err-test c =
    λ n numbers. label_stops c.args.terms.now c.is_label.new.terms (tree c.args.terms.now c.args.t) c.args.labels.now c.args.so_far.items c.args.first.items n c.from_residual.result c.in_err-test.field-0.0 c.from_residual.ensures.1 c.in_err-test.ensures.grows c.in_err-test.ensures.walk

pub returns : goal.returns
returns c =
    λ n numbers.
    arm_comes c.args.terms.now c.is_label.new.terms (tree c.args.terms.now c.args.t) c.args.labels.now c.args.so_far.items c.args.first.items n c.joined.result c.in_ok-test.test c.in_ok-under.under.items numbers c.requires.so_far c.requires.first c.in_ok-test.ensures.term c.in_ok-test.ensures.walk c.in_ok-under.ensures.items c.in_ok-under.ensures.assumes
    c.joined.ensures.items (c.joined.ensures.walk c.is_label.new.terms)
