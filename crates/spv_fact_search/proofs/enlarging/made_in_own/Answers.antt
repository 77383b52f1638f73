use Rattle.std.proofs.Common.{◌≡◌, ◌∷◌, ◌++◌, map, length, Option, Ok, IfSome, ap, sym, subst, ◌∙◌, Vec, Global}
use Rattle.spv_logic.specs.declared.conditions.TermId.{TermId}
use Rattle.spv_term.specs.Arena.{AllBelow, tree}
use Rattle.spv_proof_rules.specs.Stand.{question}
use Rattle.spv_verdicts.specs.Schemas.{further_facts}
use Rattle.spv_fact_search.specs.Enlarging.{IsEnough}
use Rattle.spv_fact_search.proofs.Refuting.{enlarges, goal-denied}
use Rattle.spv_fact_search.proofs.Counting.{too-many-here, enough-here, enough-one-more}
use Rattle.spv_fact_search.proofs.enlarging.made_in_own.Goals.{then-len-before, else-len-before}
use Rattle.spv_fact_search.proofs.enlarging.made_in_own.Goals as goal

pub returns-in_default-clause-many : goal.returns-in_default-clause-many
returns-in_default-clause-many c e =
    let k = c.in_ok-copied.ensures.copy in
    too-many-here c.args.terms.now c.args.condition.now c.in_ok-copied.copied.terms c.in_ok-copied.copied.condition k.condition k.shapes k.decls k.terms c.further_facts.new.terms c.in_ok-facts.ensures.grows c.in_ok-facts.ensures.parts
    c.law_arena.ensures (c.in_ok-facts.ensures.many (ap Ok c.in_default.is))

pub made-requires-clause-sorts : goal.made-requires-clause-sorts
made-requires-clause-sorts c =
    goal-denied c.args.terms.now c.args.condition.now c.in_ok-copied.copied.terms c.in_ok-copied.copied.condition c.in_ok-copied.ensures.copy.condition c.in_ok-copied.ensures.copy.shapes c.in_ok-copied.ensures.copy.decls
    c.further_facts.new.terms c.in_ok-facts.ensures.grows c.law_arena.ensures c.requires.formulas

pub returns-clause-enlarged : goal.returns-clause-enlarged
returns-clause-enlarged c =
    enlarges c.args.terms.now c.args.condition.now c.in_ok-copied.copied.terms c.in_ok-copied.copied.condition c.in_ok-copied.ensures.copy.condition c.in_ok-copied.ensures.copy.shapes c.in_ok-copied.ensures.copy.decls
    c.further_facts.new.terms c.in_ok-facts.ensures.grows c.in-Some.facts.items
    (subst (λ (o : Option (Vec TermId Global)). IfSome o (λ made. map (tree c.further_facts.new.terms) made.items ≡ further_facts (question c.in_ok-copied.copied.terms c.in_ok-copied.copied.condition))) c.in-Some.is c.in_ok-facts.ensures.facts)
    (subst (λ (o : Option (Vec TermId Global)). IfSome o (λ made. AllBelow (length c.further_facts.new.terms.nodes) made.items)) c.in-Some.is c.in_ok-facts.ensures.in_range)
    c.made.new.terms c.in_ok-denied.ensures.grows c.in_ok-denied.denied c.in_ok-denied.ensures.in_range
    c.in_ok-denied.ensures.tree c.in_ok-copied.copied.base.falsity c.in_ok-copied.ensures.copy.base.falsity c.in_ok-given.given
    (c.in_ok-given.ensures ∙ (λ i. c.as_slice.ensures i ++ c.in_ok-denied.denied ∷ c.as_slice-2.ensures.value i))

pub returns-clause-enough : goal.returns-clause-enough
returns-clause-enough c =
    let k = c.in_ok-copied.ensures.copy in
    let q = question c.args.terms.now c.args.condition.now in
    elim c.if-len-before.branch [
      | then-len-before w ↦ subst (IsEnough q) (sym w.most-is) (enough-here c.args.terms.now c.args.condition.now c.in_ok-copied.copied.terms c.in_ok-copied.copied.condition k.condition k.shapes k.decls k.terms c.further_facts.new.terms
          c.in_ok-facts.ensures.grows c.in_ok-facts.ensures.parts c.law_counted_terms.ensures.none_more c.made.new.terms c.in_ok-denied.ensures.grows (sym c.len.ensures.len ∙ w.if-len-before.true ∙ c.len-before.ensures.len) c.in_ok-denied.denied c.in_ok-denied.ensures.in_range c.in_ok-denied.ensures.tree)
      | else-len-before w ↦ subst (IsEnough q) (sym w.most-is) (enough-one-more q c.law_counted_terms.ensures.one_more)
    ]
