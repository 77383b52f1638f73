use Rattle.std.proofs.Common.{[], ◌∷◌, ◌++◌, ◌∙◌}
use Rattle.spv_term.proofs.ArenaLemmas.{Extends-refl}
use Rattle.spv_rounds.proofs.knowing.BeginLemmas.{goal-denied, claims, known-begins}
use Rattle.spv_rounds.proofs.knowing.beginning.begun.Goals as goal

pub made-requires-clause-sorts : goal.made-requires-clause-sorts
made-requires-clause-sorts c =
    goal-denied c.args.terms.now c.args.condition.now c.in_ok-copied.copied.terms c.in_ok-copied.copied.condition c.in_ok-copied.ensures.copy.condition c.in_ok-copied.ensures.copy.shapes c.in_ok-copied.ensures.copy.decls
    c.in_ok-copied.copied.terms (Extends-refl c.in_ok-copied.copied.terms) c.law_arena.ensures c.requires.formulas

pub returns : goal.returns
returns c =
    known-begins c.args.terms.now c.args.condition.now c.requires.formulas _ c.new.ensures.items
    (claims c.args.terms.now c.args.condition.now c.in_ok-copied.copied.terms c.in_ok-copied.copied.condition c.in_ok-copied.ensures.copy.condition c.in_ok-copied.ensures.copy.shapes c.in_ok-copied.ensures.copy.decls
    c.in_ok-copied.copied.terms (Extends-refl c.in_ok-copied.copied.terms) c.made.new.terms c.in_ok-denied.ensures.grows c.in_ok-denied.denied c.in_ok-denied.ensures.in_range
    c.in_ok-denied.ensures.tree c.in_ok-copied.copied.base.falsity c.in_ok-copied.ensures.copy.base.falsity c.in_ok-given.given
    (c.in_ok-given.ensures ∙ (λ i. c.as_slice.ensures i ++ c.in_ok-denied.denied ∷ [])))
