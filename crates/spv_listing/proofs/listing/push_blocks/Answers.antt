use Rattle.std.proofs.Common.{◌≡◌, ◌++◌, ◌<◌, ◌+◌, ℕ, List, length, get_or, rules, suc, take, sym, ap, ◌∙◌, subst, arith}
use Rattle.spv_term.specs.declared.nodes.Condition.{Condition}
use Rattle.spv_verdicts.specs.declared.answers.verdicts.Decided.{Decided}
use Rattle.spv_verdicts.specs.answers.Views.{VerdictIn}
use Rattle.spv_assign.specs.Conditions.{IsIn, condition_of, conditions_of}
use Rattle.spv_listing.specs.Page.{blocks, condition_lines}
use Rattle.spv_listing.proofs.Chains.{then_added, in_at, same_length, verdict_at, blocks_more, blocks_all}
use Rattle.spv_listing.proofs.listing.push_blocks.Goals as goal

pub bounds-verdicts-place : goal.bounds-verdicts-place
bounds-verdicts-place c =
    subst (λ n. c.loop-place.place < n) (same_length c.args.conditions.now c.args.verdicts.now c.requires.verdicts) c.loop-place-test.true

pub offset_bounds-verdicts-place : goal.offset_bounds-verdicts-place
offset_bounds-verdicts-place c =
    let within : c.loop-place.place < length c.args.verdicts.now = subst (λ n. c.loop-place.place < n) (same_length c.args.conditions.now c.args.verdicts.now c.requires.verdicts) c.loop-place-test.true in
    search (rules, within)

pub push_condition-requires-clause-verdict : goal.push_condition-requires-clause-verdict
push_condition-requires-clause-verdict c =
    let a = c.args.terms.now in
    let condition = c.index-conditions-place.result in
    let verdict = c.index-verdicts-place.result in
    let here = verdict_at c.args.conditions.now c.args.verdicts.now c.loop-place.place condition verdict c.requires.verdicts c.loop-place-test.true in
    subst (λ (d : Decided). VerdictIn d.terms d.verdict) (sym c.index-verdicts-place.is) here

pub push_condition-requires-clause-in_range : goal.push_condition-requires-clause-in_range
push_condition-requires-clause-in_range c =
    subst (IsIn c.args.terms.now) (sym c.index-conditions-place.is) (in_at c.args.terms.now c.args.conditions.now c.loop-place.place c.index-conditions-place.result c.requires.in_range c.loop-place-test.true)

pub loop-place-preserved : goal.loop-place-preserved
loop-place-preserved c =
    let proofs = c.args.proofs in
    let named = c.args.named.now in
    let a = c.args.terms.now in
    let k = c.loop-place.place in
    let cs = c.args.conditions.now in
    let vs = c.args.verdicts.now in
    let condition = c.index-conditions-place.result in
    let verdict = c.index-verdicts-place.result in
    let next : suc k ≡ k + 1 = grind (arith) in
    let more = blocks_more proofs named a 1 cs vs k condition verdict c.requires.verdicts c.loop-place-test.true in
    let all = then_added c.args.out.now.items c.loop-place.out.items c.push_condition.new.out.items (blocks proofs named 1 (conditions_of a (take k cs)) (take k vs)) (condition_lines proofs named (k + 1) (condition_of a condition) verdict) c.loop-place.invariant c.in_ok-push_condition.ensures in
    let lines : Condition → Decided → List ℕ = λ d w. condition_lines proofs named (k + 1) (condition_of a d) w in
    let same = ap (λ d. lines d verdict) c.index-conditions-place.is ∙ ap (lines (get_or cs k condition)) c.index-verdicts-place.is in
    all
    ∙ ap (λ l. c.args.out.now.items ++ (blocks proofs named 1 (conditions_of a (take k cs)) (take k vs) ++ l)) same
    ∙ ap (λ l. c.args.out.now.items ++ l) (sym more)
    ∙ ap (λ m. c.args.out.now.items ++ blocks proofs named 1 (conditions_of a (take m cs)) (take m vs)) next

pub returns : goal.returns
returns c =
    c.loop-place.invariant
    ∙ ap (λ l. c.args.out.now.items ++ l) (blocks_all c.args.proofs c.args.named.now c.args.terms.now 1 c.args.conditions.now c.args.verdicts.now c.loop-place.place c.requires.verdicts c.loop-place-test.false)
