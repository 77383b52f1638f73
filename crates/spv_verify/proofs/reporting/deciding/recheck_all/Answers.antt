use Rattle.std.proofs.Common.{◌≡◌, ◌+◌, List, Option, sym, subst, take, suc, arith}
use Rattle.spv_term.specs.declared.nodes.Condition.{Condition}
use Rattle.spv_assign.specs.Conditions.{IsIn}
use Rattle.spv_proof_rules.specs.Stand.{question}
use Rattle.spv_models.specs.leaf_models.Laws.{AreFormulas}
use Rattle.spv_models.specs.leaf_models.Tables.{formulas_of}
use Rattle.spv_verdicts.specs.declared.answers.verdicts.Decided.{Decided}
use Rattle.spv_rules.specs.RuleSets.{rules_in}
use Rattle.spv_listing_values.specs.declared.data.Claim.{Claim}
use Rattle.spv_listing_values.specs.Written.{Written}
use Rattle.spv_rechecking.specs.Rechecked.{IsRechecked}
use Rattle.spv_reports.specs.Headings.{header_of}
use Rattle.spv_reports.specs.Reports.{AreRechecked, recheck_of}
use Rattle.spv_verify.proofs.reporting.Turns.{in_item, formulas_item, rechecked_more}
use Rattle.spv_verify.proofs.reporting.deciding.recheck_all.Goals as goal

pub recheck_one-requires-clause-in_range : goal.recheck_one-requires-clause-in_range
recheck_one-requires-clause-in_range c =
    subst (IsIn c.args.terms.now) (sym c.index-conditions-place.is) (in_item c.args.terms.now c.args.conditions.now c.loop-place.place c.index-conditions-place.result c.requires.in_range c.loop-place-test.true)

pub recheck_one-requires-clause-formulas : goal.recheck_one-requires-clause-formulas
recheck_one-requires-clause-formulas c =
    subst (λ (x : Condition). AreFormulas c.args.terms.now.shapes c.args.terms.now.decls (formulas_of (question c.args.terms.now x).sequent)) (sym c.index-conditions-place.is)
    (formulas_item c.args.terms.now c.args.conditions.now c.loop-place.place c.index-conditions-place.result c.requires.formulas c.loop-place-test.true)

pub loop-place-preserved : goal.loop-place-preserved
loop-place-preserved c =
    let rules = rules_in c.args.rules.now in
    let named = c.args.named.now in
    let a = c.args.terms.now in
    let entries = c.args.entries.now in
    let cs = c.args.conditions.now in
    let k = c.loop-place.place in
    let condition = c.index-conditions-place.result in
    let verdict = c.in_ok-recheck_one.field-0 in
    let checked = subst (λ (o : Option (Claim Written)). IsRechecked (recheck_of rules named) (header_of named condition.origin) a condition o verdict) c.entry_at.ensures c.in_ok-recheck_one.ensures in
    let more = rechecked_more rules named a entries cs k c.loop-place.verdicts.items condition verdict c.loop-place-test.true c.index-conditions-place.is c.loop-place.invariant checked in
    let next : suc k ≡ k + 1 = grind (arith) in
    subst (λ n. AreRechecked rules named a entries (take n cs) c.push.new.self.items) next
    (subst (AreRechecked rules named a entries (take (suc k) cs)) (sym {A = List Decided} c.in_ok-push.ensures.items) more)
