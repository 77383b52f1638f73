use Rattle.std.proofs.Common.{◌≡◌, ◌++◌, ◌<◌, ◌+◌, ℕ, List, length, get_or, rules, suc, take, sym, ap, ◌∙◌, subst, arith}
use Rattle.spv_logic.specs.declared.conditions.Origin.{Origin}
use Rattle.spv_verdicts.specs.declared.answers.verdicts.Decided.{Decided}
use Rattle.spv_verdicts.specs.answers.Views.{VerdictIn}
use Rattle.spv_listing.specs.Page.{checked_line, checked_lines}
use Rattle.spv_listing.proofs.Chains.{then_added, same_length, verdict_at, checked_more, checked_all}
use Rattle.spv_listing.proofs.listing.push_checked_lines.Goals as goal

pub bounds-verdicts-place : goal.bounds-verdicts-place
bounds-verdicts-place c = subst (λ n. c.loop-place.place < n) (same_length c.args.conditions.now c.args.verdicts.now c.requires) c.loop-place-test.true

pub offset_bounds-verdicts-place : goal.offset_bounds-verdicts-place
offset_bounds-verdicts-place c =
    let within : c.loop-place.place < length c.args.verdicts.now = subst (λ n. c.loop-place.place < n) (same_length c.args.conditions.now c.args.verdicts.now c.requires) c.loop-place-test.true in
    search (rules, within)

pub push_checked_line-requires : goal.push_checked_line-requires
push_checked_line-requires c =
    let condition = c.index-conditions-place.result in
    let verdict = c.index-verdicts-place.result in
    let here = verdict_at c.args.conditions.now c.args.verdicts.now c.loop-place.place condition verdict c.requires c.loop-place-test.true in
    subst (λ (d : Decided). VerdictIn d.terms d.verdict) (sym c.index-verdicts-place.is) here

pub loop-place-preserved : goal.loop-place-preserved
loop-place-preserved c =
    let named = c.args.named.now in
    let k = c.loop-place.place in
    let cs = c.args.conditions.now in
    let vs = c.args.verdicts.now in
    let condition = c.index-conditions-place.result in
    let verdict = c.index-verdicts-place.result in
    let next : suc k ≡ k + 1 = grind (arith) in
    let more = checked_more named 1 cs vs k condition verdict c.requires c.loop-place-test.true in
    let all = then_added c.args.out.now.items c.loop-place.out.items c.push_checked_line.new.out.items (checked_lines named 1 (take k cs) (take k vs)) (checked_line named (k + 1) (get_or cs k condition).origin verdict) c.loop-place.invariant c.in_ok-push_checked_line.ensures in
    let lines : Origin → Decided → List ℕ = λ o w. checked_line named (k + 1) o w in
    let same = ap (lines (get_or cs k condition).origin) c.index-verdicts-place.is in
    all
    ∙ ap (λ l. c.args.out.now.items ++ (checked_lines named 1 (take k cs) (take k vs) ++ l)) same
    ∙ ap (λ l. c.args.out.now.items ++ l) (sym more)
    ∙ ap (λ m. c.args.out.now.items ++ checked_lines named 1 (take m cs) (take m vs)) next

pub returns : goal.returns
returns c =
    c.loop-place.invariant
    ∙ ap (λ l. c.args.out.now.items ++ l) (checked_all c.args.named.now 1 c.args.conditions.now c.args.verdicts.now c.loop-place.place c.requires c.loop-place-test.false)
