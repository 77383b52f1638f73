-- What a step does, where the fact that it adds need not stand in the arena.
use Rattle.std.specs.Prelude.{◌≡◌, ◌<◌, length, []}
use Rattle.spv_logic.specs.declared.conditions.TermId.{TermId}
use Rattle.spv_logic.specs.declared.types.Sort.TheVariants as sort
use Rattle.spv_logic.specs.Terms.{Term}
use Rattle.spv_logic.specs.Formulas.{negation, equation, below}
use Rattle.spv_logic.specs.Conditions.{Sequent}
use Rattle.spv_term.specs.Arena.{Arena, tree, sort_at}
use Rattle.spv_proof_rules.specs.Effects.{Question}
use Rattle.spv_proof_rules.specs.Effects as spec
use Rattle.spv_proof_steps.specs.declared.facts.Fact.{Fact}
use Rattle.spv_proof_steps.specs.declared.facts.Fact.TheVariants.{Known, Negation, Equation, Below, AtMost}
use Rattle.spv_proof_steps.specs.declared.facts.Effect.{Effect}
use Rattle.spv_proof_steps.specs.declared.facts.Effect.TheVariants.{Adds, Ends, Fails}
use Rattle.spv_proof_steps.specs.Candidates.{IsBool}

-- the formula that a fact is
abbrev pub fact_of : Arena → Fact → Term
fact_of a (Known t) = tree a t
fact_of a (Negation t) = negation (tree a t)
fact_of a (Equation s t) = equation (tree a s) (tree a t)
fact_of a (Below s t) = below (tree a s) (tree a t)
fact_of a (AtMost s t) = spec.at_most (tree a s) (tree a t)

-- two terms of the arena, both whole numbers
abbrev pub AreNumbers : Arena → TermId → TermId → Type 0
AreNumbers a s t = (s.0 < length a.nodes) × (t.0 < length a.nodes) × (sort_at a s ≡ sort.Int) × (sort_at a t ≡ sort.Int)

-- its parts are in the arena, and of sorts that its head takes
abbrev pub FactStands : Arena → Fact → Type 0
FactStands a (Known t) = t.0 < length a.nodes
FactStands a (Negation t) = (t.0 < length a.nodes) × IsBool a t
FactStands a (Equation s t) = (s.0 < length a.nodes) × (t.0 < length a.nodes) × (sort_at a s ≡ sort_at a t)
FactStands a (Below s t) = AreNumbers a s t
FactStands a (AtMost s t) = AreNumbers a s t

-- what a step does to the facts as terms
abbrev pub effect_of : Arena → Effect → spec.Effect
effect_of a (Adds fact) = spec.Adds (fact_of a fact)
effect_of a Ends = spec.Ends
effect_of a Fails = spec.Fails

-- the fact that it adds, if any, may stand in the arena
abbrev pub MayAdd : Arena → Effect → Type 0
MayAdd a (Adds fact) = FactStands a fact
MayAdd a _ = Unit {0}

-- what is to be shown, over an arena
abbrev pub asked : Arena → Sequent → Question
asked a c = record { shapes = a.shapes; decls = a.decls; at = tree a; sequent = c; rules = [] }
