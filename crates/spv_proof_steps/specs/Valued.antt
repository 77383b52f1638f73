-- The values of terms of an arena in an evaluation that cites these facts and states this formula.
use Rattle.std.specs.Prelude.{Bool, List, [], ◌∷◌, map, Option}
use Rattle.spv_logic.specs.declared.conditions.TermId.{TermId}
use Rattle.spv_logic.specs.Terms.{Term}
use Rattle.spv_term.specs.Arena.{Arena, tree}
use Rattle.spv_proof_steps.specs.declared.candidates.Candidate.{Candidate}
use Rattle.spv_atoms.specs.Tables.{computed}
use Rattle.spv_atoms.specs.Valued.{IsInside}
use Rattle.spv_atoms.specs.Atoms.{is_truth}
use Rattle.spv_proof_rules.specs.Evaluation.{given_to, clashes}
use Rattle.spv_proof_steps.specs.Candidates.{formula_of}

-- whether a term is of sort Bool
abbrev pub truth_in : Arena → Term → Bool
truth_in a = is_truth a.shapes a.decls

-- the value that is given to a term
abbrev pub given_in : Arena → List TermId → Candidate → Term → Option Bool
given_in a cited formula = given_to (map (tree a) cited) (formula_of a formula)

-- the computed value of a term
abbrev pub computed_in : Arena → List TermId → Candidate → Term → Option Bool
computed_in a cited formula = computed (truth_in a) (given_in a cited formula)

-- whether its computed value is opposite to its given one
abbrev pub clash_in : Arena → List TermId → Candidate → Term → Bool
clash_in a cited formula = clashes (truth_in a) (given_in a cited formula)

-- of each of these terms the arguments have their values, where it is a connective
abbrev pub AllInside : Arena → List TermId → List (Option Bool) → List TermId → Type 0
AllInside a ids found [] = Unit {0}
AllInside a ids found (t ∷ ts) = IsInside a ids found t × AllInside a ids found ts
