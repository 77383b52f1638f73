use Rattle.std.proofs.Common.{subst, refl, ◌∙◌}
use Rattle.spv_logic.specs.Terms.{Term}
use Rattle.spv_logic.specs.Substitution.{substitute}
use Rattle.spv_program.specs.Calls.{replacing}
use Rattle.spv_term.specs.Arena.{tree}
use Rattle.spv_term.proofs.ArenaLemmas.{Extends-trans, sort_at-Extends}
use Rattle.spv_assign.specs.Conditions.{pairs_of}
use Rattle.spv_assign.specs.creation_trace.Events.{Stops, Walked}
use Rattle.spv_assign.specs.creation_trace.StatementEvents.{one}
use Rattle.spv_meaning.specs.Before.{within_term, past_term}
use Rattle.spv_assign.proofs.limited_steps.Limits.{same_stop}
use Rattle.spv_flow_parts.proofs.Steps.{IsTerm-Extends}
use Rattle.spv_flow_parts.proofs.for_loops.Tests.{same_sides, now_stops, within_stops, past_stops, ends_walked, are_ends}
use Rattle.spv_flow_parts.proofs.for_loops.terms.ends.Goals as goal

pub returns-in_err-now-clause-walk : goal.returns-in_err-now-clause-walk
returns-in_err-now-clause-walk c =
    same_stop c.from_residual.result c.in_err-now.field-0.0 _ _ _ c.from_residual.ensures.1
    (now_stops c.args.direction (substitute (replacing (pairs_of c.args.terms.now c.args.pairs.now)) (tree c.args.terms.now c.args.variable)) (tree c.args.terms.now c.args.end) c.in_err-now.field-0.0 c.args.terms.now c.put_into.new.terms c.in_err-now.ensures.made.walk)

pub within_end-requires-clause-sort : goal.within_end-requires-clause-sort
within_end-requires-clause-sort c = c.in_ok-now.ensures.sort ∙ c.requires.number

pub within_end-requires-clause-end_sort : goal.within_end-requires-clause-end_sort
within_end-requires-clause-end_sort c = sort_at-Extends c.in_ok-now.ensures.made.grows c.args.end c.requires.end ∙ c.requires.end_sort

pub returns-in_err-within-clause-walk : goal.returns-in_err-within-clause-walk
returns-in_err-within-clause-walk c =
    let x = substitute (replacing (pairs_of c.args.terms.now c.args.pairs.now)) (tree c.args.terms.now c.args.variable) in
    same_stop c.from_residual-in_err-within.result c.in_err-within.field-0.0 _ _ _ c.from_residual-in_err-within.ensures.1
    (within_stops c.args.direction x (tree c.args.terms.now c.args.end) c.in_err-within.field-0.0 c.args.terms.now c.put_into.new.terms c.within_end.new.terms c.in_ok-now.ensures.made.walk
    (subst (λ (t : Term). Stops c.in_err-within.field-0.0 (one t) c.put_into.new.terms c.within_end.new.terms)
    (same_sides c.args.direction c.args.terms.now c.put_into.new.terms c.in_ok-now.now c.args.end x (tree c.args.terms.now c.args.end) c.in_ok-now.ensures.made.term c.requires.end refl c.in_ok-now.ensures.made.grows (within_term c.args.direction))
    c.in_err-within.ensures.walk))

pub past_end-requires-clause-sort : goal.past_end-requires-clause-sort
past_end-requires-clause-sort c = sort_at-Extends c.in_ok-within.ensures.grows c.in_ok-now.now c.in_ok-now.ensures.made.term.there ∙ c.in_ok-now.ensures.sort ∙ c.requires.number

pub past_end-requires-clause-end_sort : goal.past_end-requires-clause-end_sort
past_end-requires-clause-end_sort c = sort_at-Extends (Extends-trans c.in_ok-now.ensures.made.grows c.in_ok-within.ensures.grows) c.args.end c.requires.end ∙ c.requires.end_sort

pub returns-in_err-past-clause-walk : goal.returns-in_err-past-clause-walk
returns-in_err-past-clause-walk c =
    let x = substitute (replacing (pairs_of c.args.terms.now c.args.pairs.now)) (tree c.args.terms.now c.args.variable) in
    same_stop c.from_residual-in_err-past.result c.in_err-past.field-0.0 _ _ _ c.from_residual-in_err-past.ensures.1
    (past_stops c.args.direction x (tree c.args.terms.now c.args.end) c.in_err-past.field-0.0 c.args.terms.now c.put_into.new.terms c.within_end.new.terms c.past_end.new.terms c.in_ok-now.ensures.made.walk
    (subst (λ (t : Term). Walked (one t) c.put_into.new.terms c.within_end.new.terms)
    (same_sides c.args.direction c.args.terms.now c.put_into.new.terms c.in_ok-now.now c.args.end x (tree c.args.terms.now c.args.end) c.in_ok-now.ensures.made.term c.requires.end refl c.in_ok-now.ensures.made.grows (within_term c.args.direction))
    c.in_ok-within.ensures.walk)
    (subst (λ (t : Term). Stops c.in_err-past.field-0.0 (one t) c.within_end.new.terms c.past_end.new.terms)
    (same_sides c.args.direction c.args.terms.now c.within_end.new.terms c.in_ok-now.now c.args.end x (tree c.args.terms.now c.args.end) (IsTerm-Extends c.in_ok-now.now x c.in_ok-within.ensures.grows c.in_ok-now.ensures.made.term) c.requires.end refl
    (Extends-trans c.in_ok-now.ensures.made.grows c.in_ok-within.ensures.grows) (past_term c.args.direction))
    c.in_err-past.ensures.walk))

pub returns-clause-ends : goal.returns-clause-ends
returns-clause-ends c =
    are_ends c.args.direction c.args.terms.now c.put_into.new.terms c.within_end.new.terms c.past_end.new.terms c.in_ok-now.now c.args.end c.in_ok-within.within c.in_ok-past.past _ c.requires.end c.in_ok-now.ensures.made
    c.in_ok-within.ensures.grows c.in_ok-past.ensures.grows c.in_ok-within.ensures.term c.in_ok-past.ensures.term

pub returns-clause-walk : goal.returns-clause-walk
returns-clause-walk c =
    let x = substitute (replacing (pairs_of c.args.terms.now c.args.pairs.now)) (tree c.args.terms.now c.args.variable) in
    ends_walked c.args.direction x (tree c.args.terms.now c.args.end) c.args.terms.now c.put_into.new.terms c.within_end.new.terms c.past_end.new.terms c.in_ok-now.ensures.made.walk
    (subst (λ (t : Term). Walked (one t) c.put_into.new.terms c.within_end.new.terms)
    (same_sides c.args.direction c.args.terms.now c.put_into.new.terms c.in_ok-now.now c.args.end x (tree c.args.terms.now c.args.end) c.in_ok-now.ensures.made.term c.requires.end refl c.in_ok-now.ensures.made.grows (within_term c.args.direction))
    c.in_ok-within.ensures.walk)
    (subst (λ (t : Term). Walked (one t) c.within_end.new.terms c.past_end.new.terms)
    (same_sides c.args.direction c.args.terms.now c.within_end.new.terms c.in_ok-now.now c.args.end x (tree c.args.terms.now c.args.end) (IsTerm-Extends c.in_ok-now.now x c.in_ok-within.ensures.grows c.in_ok-now.ensures.made.term) c.requires.end refl
    (Extends-trans c.in_ok-now.ensures.made.grows c.in_ok-within.ensures.grows) (past_term c.args.direction))
    c.in_ok-past.ensures.walk)
