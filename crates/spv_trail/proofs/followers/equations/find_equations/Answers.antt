use Rattle.std.proofs.Common.{length, ◌∙◌, arith}
use Rattle.std.proofs.lemmas.List.{with_items_is}
use Rattle.std.proofs.lemmas.Option.{slice_get-get_or}
use Rattle.spv_term.proofs.TreeLemmas.{AllBelow-at}
use Rattle.spv_trail.specs.followers.Followers.{IsEquation}
use Rattle.spv_trail.proofs.followers.Listing.{pass_lent, pass_ends}
use Rattle.spv_trail.proofs.followers.equations.find_equations.Goals as goal

pub add_equation-requires-clause-question : goal.add_equation-requires-clause-question
add_equation-requires-clause-question c =
    AllBelow-at (length c.args.terms.now.nodes) c.args.questions.now c.loop-place.place _ c.requires (slice_get-get_or c.args.questions.now c.loop-place.place (record { 0 = 0 }) (omega (arith, c.loop-place-test.true)))

pub loop-place-preserved : goal.loop-place-preserved
loop-place-preserved c =
    pass_lent c.args.terms.now (IsEquation c.args.terms.now) c.args.questions.now c.loop-place.place _ c.loop-place.lists.items c.deref_mut.result.now c.add_equation.new.lists _ (λ v. v.items)
    (slice_get-get_or c.args.questions.now c.loop-place.place (record { 0 = 0 }) (omega (arith, c.loop-place-test.true))) c.loop-place.invariant c.deref_mut.ensures.value
    (with_items_is c.loop-place.lists c.add_equation.new.lists (c.add_equation.auto.lists ∙ c.deref_mut.ensures.len)) c.in_ok-add_equation.ensures

pub returns : goal.returns
returns c = pass_ends c.args.terms.now (IsEquation c.args.terms.now) c.args.questions.now c.loop-place.place _ (omega (arith, c.loop-place-test.false)) c.loop-place.invariant
