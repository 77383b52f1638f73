use Rattle.std.proofs.Common.{◌≡◌, ◌+◌, List, sym, subst, take, suc, arith}
use Rattle.spv_term.specs.declared.nodes.Condition.{Condition}
use Rattle.spv_assign.specs.Conditions.{IsIn}
use Rattle.spv_proof_rules.specs.Stand.{question}
use Rattle.spv_models.specs.leaf_models.Laws.{AreFormulas}
use Rattle.spv_models.specs.leaf_models.Tables.{formulas_of}
use Rattle.spv_verdicts.specs.declared.answers.verdicts.Decided.{Decided}
use Rattle.spv_rules.specs.RuleSets.{rules_in}
use Rattle.spv_reports.specs.Reports.{AreVerdicts}
use Rattle.spv_verify.proofs.reporting.Turns.{in_item, formulas_item, verdicts_more}
use Rattle.spv_verify.proofs.reporting.deciding.decide_all.Goals as goal

pub decide_under-requires-clause-given : goal.decide_under-requires-clause-given
decide_under-requires-clause-given c =
    (subst (IsIn c.args.terms.now) (sym c.condition-item.is) (in_item c.args.terms.now c.args.conditions.now c.loop-condition.condition-index c.condition-item.result c.requires.in_range (omega arith))).given

pub decide_under-requires-clause-goal : goal.decide_under-requires-clause-goal
decide_under-requires-clause-goal c =
    (subst (IsIn c.args.terms.now) (sym c.condition-item.is) (in_item c.args.terms.now c.args.conditions.now c.loop-condition.condition-index c.condition-item.result c.requires.in_range (omega arith))).goal

pub decide_under-requires-clause-formulas : goal.decide_under-requires-clause-formulas
decide_under-requires-clause-formulas c =
    subst (λ (x : Condition). AreFormulas c.args.terms.now.shapes c.args.terms.now.decls (formulas_of (question c.args.terms.now x).sequent)) (sym c.condition-item.is)
    (formulas_item c.args.terms.now c.args.conditions.now c.loop-condition.condition-index c.condition-item.result c.requires.formulas (omega arith))

pub loop-condition-preserved : goal.loop-condition-preserved
loop-condition-preserved c =
    let k = c.loop-condition.condition-index in
    let more = verdicts_more (rules_in c.args.rules.now) c.args.terms.now c.args.limits.now c.args.conditions.now k c.loop-condition.verdicts.items c.condition-item.result c.in_ok-decide_under.field-0 c.loop-condition-test.true c.condition-item.is c.loop-condition.invariant c.in_ok-decide_under.ensures in
    let next : suc k ≡ k + 1 = grind (arith) in
    subst (λ n. AreVerdicts (rules_in c.args.rules.now) c.args.terms.now c.args.limits.now (take n c.args.conditions.now) c.push.new.self.items) next
    (subst (AreVerdicts (rules_in c.args.rules.now) c.args.terms.now c.args.limits.now (take (suc k) c.args.conditions.now)) (sym {A = List Decided} c.in_ok-push.ensures.items) more)
