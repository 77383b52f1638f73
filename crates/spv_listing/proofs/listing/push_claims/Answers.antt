use Rattle.std.proofs.Common.{◌≡◌, ◌++◌, ◌+◌, ℕ, List, suc, take, sym, ap, ◌∙◌, subst, arith}
use Rattle.spv_term.specs.declared.nodes.Condition.{Condition}
use Rattle.spv_assign.specs.Conditions.{IsIn, condition_of, conditions_of}
use Rattle.spv_listing.specs.Page.{claim_lines, claims}
use Rattle.spv_listing.proofs.Chains.{then_added, in_at, claims_more, claims_all}
use Rattle.spv_listing.proofs.listing.push_claims.Goals as goal

pub push_claim-requires : goal.push_claim-requires
push_claim-requires c = record {
  in_range = subst (IsIn c.args.terms.now) (sym c.index-conditions-place.is) (in_at c.args.terms.now c.args.conditions.now c.loop-place.place c.index-conditions-place.result c.requires c.loop-place-test.true);
}

pub loop-place-preserved : goal.loop-place-preserved
loop-place-preserved c =
    let named = c.args.named.now in
    let a = c.args.terms.now in
    let k = c.loop-place.place in
    let cs = c.args.conditions.now in
    let condition = c.index-conditions-place.result in
    let next : suc k ≡ k + 1 = grind (arith) in
    let more = claims_more named a 1 cs k condition c.loop-place-test.true in
    let all = then_added c.args.out.now.items c.loop-place.out.items c.push_claim.new.out.items (claims named 1 (conditions_of a (take k cs))) (claim_lines named (k + 1) (condition_of a condition)) c.loop-place.invariant c.in_ok-push_claim.ensures.lines in
    let lines : Condition → List ℕ = λ d. claim_lines named (k + 1) (condition_of a d) in
    all
    ∙ ap (λ l. c.args.out.now.items ++ (claims named 1 (conditions_of a (take k cs)) ++ l)) (ap lines c.index-conditions-place.is)
    ∙ ap (λ l. c.args.out.now.items ++ l) (sym more)
    ∙ ap (λ m. c.args.out.now.items ++ claims named 1 (conditions_of a (take m cs))) next

pub returns : goal.returns
returns c =
    c.loop-place.invariant
    ∙ ap (λ l. c.args.out.now.items ++ l) (claims_all c.args.named.now c.args.terms.now 1 c.args.conditions.now c.loop-place.place c.loop-place-test.false)
