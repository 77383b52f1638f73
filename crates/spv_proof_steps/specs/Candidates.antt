-- Formulas that a proof speaks of, and that need not stand in the arena.
use Rattle.std.specs.Prelude.{◌≡◌, ◌<◌, List, [], ◌∷◌, length, Option, None}
use Rattle.spv_logic.specs.declared.conditions.TermId.{TermId}
use Rattle.spv_logic.specs.declared.types.Sort.TheVariants as sort
use Rattle.spv_logic.specs.declared.operators.Head.TheVariants.{Lt}
use Rattle.spv_logic.specs.Terms.{Term, term}
use Rattle.spv_logic.specs.Formulas.{negation, equation}
use Rattle.spv_term.specs.Arena.{Arena, tree, sort_at}
use Rattle.spv_proof_rules.specs.Sums.{pair}
use Rattle.spv_proof_steps.specs.declared.candidates.Candidate.{Candidate}
use Rattle.spv_proof_steps.specs.declared.candidates.Candidate.TheVariants.{Known, Negation, Equation}

-- the formula
abbrev pub formula_of : Arena → Candidate → Term
formula_of a (Known t) = tree a t
formula_of a (Negation t) = negation (tree a t)
formula_of a (Equation s t) = equation (tree a s) (tree a t)

-- two terms of the arena
abbrev pub pair_of : Arena → TermId × TermId → Term × Term
pair_of a p = (tree a p.0, tree a p.1)

abbrev pub PairIn : Arena → TermId × TermId → Type 0
PairIn a p = (p.0.0 < length a.nodes) × (p.1.0 < length a.nodes)

-- the sides of a strict order
abbrev pub lower : Term → Option (Term × Term)
lower (term Lt ts) = pair ts
lower _ = None

-- a term of sort Bool
abbrev pub IsBool : Arena → TermId → Type 0
IsBool a t = sort_at a t ≡ sort.Bool

-- its terms are in the arena, and of sorts that its head takes
abbrev pub MayStand : Arena → Candidate → Type 0
MayStand a (Known t) = t.0 < length a.nodes
MayStand a (Negation t) = (t.0 < length a.nodes) × IsBool a t
MayStand a (Equation s t) = (s.0 < length a.nodes) × (t.0 < length a.nodes) × (sort_at a s ≡ sort_at a t)

-- each is a formula of the arena
abbrev pub AllFormulas : Arena → List TermId → Type 0
AllFormulas a [] = Unit {0}
AllFormulas a (t ∷ ts) = (t.0 < length a.nodes) × IsBool a t × AllFormulas a ts
