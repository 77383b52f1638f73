use Rattle.std.proofs.Common.{Bool, List, Option, map, [], ◌∷◌, ◌-◌, length, take, drop, refl, ap, sym, subst, ◌∙◌, ◌++◌}
use Rattle.spv_term.specs.Arena.{tree}
use Rattle.spv_atoms.specs.Valued.{AreValued, AllValued}
use Rattle.spv_proof_steps.specs.declared.candidates.Candidate.TheVariants.{Equation}
use Rattle.spv_proof_steps.specs.Valued.{given_in, AllInside}
use Rattle.spv_proof_steps.proofs.ValuedLemmas.{behind_two, bare_terms, equation_clashes, equation_evaluates, first_two, inside-behind}
use Rattle.spv_proof_steps.proofs.valued.evaluates_equation.Goals as goal

pub computed_over-own-requires-clause-inside : goal.computed_over-own-requires-clause-inside
computed_over-own-requires-clause-inside c connective =
    subst (λ (vs : List (Option Bool)). AllValued c.in_ok-valued.valued.order vs (c.args.s ∷ c.args.t ∷ [])) (sym c.as_slice-2.ensures.value)
    (first_two c.args.terms.now c.law_arena.ensures c.in_ok-valued.valued.order c.in_ok-valued.valued.found.items c.push_bare.new.out.items c.as_slice.result.now c.args.s c.args.t (bare_terms c.args.terms.now c.args.cited.now)
    c.requires.equation.0 c.requires.equation.1 c.in_ok-push_bare.ensures.in_range (c.in_ok-push_bare.ensures.terms ∙ ap (λ rs. map (tree c.args.terms.now) rs ++ bare_terms c.args.terms.now c.args.cited.now) c.in_ok-roots.ensures.items) c.as_slice.ensures.value c.in_ok-valued.ensures.roots)

pub any_clashes-requires-clause-inside : goal.any_clashes-requires-clause-inside
any_clashes-requires-clause-inside c =
    inside-behind c.args.terms.now c.in_ok-valued.valued.order c.in_ok-valued.valued.found.items c.push_bare.new.out.items c.as_slice-3.result.now c.as_slice-3.ensures.value
    (subst (AllInside c.args.terms.now c.in_ok-valued.valued.order c.in_ok-valued.valued.found.items) c.as_slice.ensures.value c.in_ok-valued.ensures.inside)

pub returns-then-opposite : goal.returns-then-opposite
returns-then-opposite c =
    equation_clashes c.args.terms.now c.args.cited.now c.args.s c.args.t c.computed_over-own.result c.given_to_equation.result c.opposite.result
    (c.computed_over-own.ensures (given_in c.args.terms.now c.args.cited.now (Equation c.args.s c.args.t)) (subst (λ (vs : List (Option Bool)). AreValued c.args.terms.now (given_in c.args.terms.now c.args.cited.now (Equation c.args.s c.args.t)) c.in_ok-valued.valued.order vs) (sym c.as_slice-2.ensures.value) (c.in_ok-valued.ensures.values c.args.cited.now c.in_ok-known.ensures))) c.given_to_equation.ensures c.opposite.ensures c.if-opposite.true

pub returns : goal.returns
returns c =
    equation_evaluates c.args.terms.now c.args.cited.now c.args.s c.args.t c.computed_over-own.result c.given_to_equation.result c.opposite.result
    (c.computed_over-own.ensures (given_in c.args.terms.now c.args.cited.now (Equation c.args.s c.args.t)) (subst (λ (vs : List (Option Bool)). AreValued c.args.terms.now (given_in c.args.terms.now c.args.cited.now (Equation c.args.s c.args.t)) c.in_ok-valued.valued.order vs) (sym c.as_slice-2.ensures.value) (c.in_ok-valued.ensures.values c.args.cited.now c.in_ok-known.ensures))) c.given_to_equation.ensures c.opposite.ensures c.if-opposite.false
    (take (length c.as_slice-3.result.now - 2) (drop 2 c.as_slice-3.result.now)) c.any_clashes.result
    (behind_two c.args.terms.now c.push_bare.new.out.items c.as_slice-3.result.now (take (length c.as_slice-3.result.now - 2) (drop 2 c.as_slice-3.result.now)) c.args.s c.args.t (bare_terms c.args.terms.now c.args.cited.now) (c.in_ok-push_bare.ensures.terms ∙ ap (λ rs. map (tree c.args.terms.now) rs ++ bare_terms c.args.terms.now c.args.cited.now) c.in_ok-roots.ensures.items) c.as_slice-3.ensures.value refl)
    (c.any_clashes.ensures c.args.cited.now c.in_ok-known.ensures (c.in_ok-valued.ensures.values c.args.cited.now c.in_ok-known.ensures))
