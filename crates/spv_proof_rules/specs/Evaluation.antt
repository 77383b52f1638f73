-- The step that evaluates: truth values that facts give, and what follows by the tables of the connectives.
use Rattle.std.specs.Prelude.{Bool, true, false, ◌||◌, not, List, [], ◌∷◌, ◌++◌, Option, Some, None, if◌then◌else◌}
use Rattle.std.specs.List.{list_any, flat_map}
use Rattle.spv_logic.specs.declared.operators.Head.TheVariants.{Eq}
use Rattle.spv_logic.specs.Values.{bool_eq}
use Rattle.spv_logic.specs.Terms.{Term, term, term_eq}
use Rattle.spv_logic.specs.Formulas.{below}
use Rattle.spv_atoms.specs.Tables.{assigned, or_else, computed}
use Rattle.spv_proof_rules.specs.Sums.{pair, negated}

-- the sides of an equation
abbrev pub sides : Term → Option (Term × Term)
sides (term Eq ts) = pair ts
sides _ = None

-- ---- truth values that are given

-- the values that the truth of a formula gives: its own, and that of what it negates
abbrev pub given_negated : Bool → Option Term → List (Term × Bool)
given_negated b None = []
given_negated b (Some t) = (t, not b) ∷ []

abbrev pub given_by : Bool → Term → List (Term × Bool)
given_by b t = (t, b) ∷ given_negated b (negated t)

-- the cited facts are true and the step's formula is false; of two values of one term the first counts
abbrev pub assignment : List Term → Term → List (Term × Bool)
assignment cited formula = flat_map (given_by true) cited ++ given_by false formula

abbrev pub cites : List Term → Term → Bool
cites cited t = list_any (term_eq t) cited

-- where a cited fact puts one side below the other, an equation is false
abbrev pub apart : List Term → Option (Term × Term) → Option Bool
apart cited None = None
apart cited (Some st) = if cites cited (below st.0 st.1) || cites cited (below st.1 st.0) then Some false else None

-- the value that is given to a term
abbrev pub given_to : List Term → Term → Term → Option Bool
given_to cited formula t = or_else (assigned (assignment cited formula) t) (apart cited (sides t))

-- ---- the step

abbrev pub opposite : Option Bool → Option Bool → Bool
opposite None b = false
opposite (Some a) None = false
opposite (Some a) (Some b) = not (bool_eq a b)

-- a formula without its outer negation
abbrev pub bare_or : Option Term → Term → Term
bare_or None t = t
bare_or (Some s) t = s

abbrev pub bare : Term → Term
bare t = bare_or (negated t) t

-- whether a formula's computed value is opposite to its given one
abbrev pub clashes : (Term → Bool) → (Term → Option Bool) → Term → Bool
clashes is_truth given t = opposite (computed is_truth given t) (given t)

-- whether a formula follows from cited facts: were it false, one of them or it itself would have two values
abbrev pub evaluates : (Term → Bool) → List Term → Term → Bool
evaluates is_truth cited formula =
    list_any (λ t. clashes is_truth (given_to cited formula) (bare t)) (formula ∷ cited)
