-- Verdicts of a small condition, which claims a truth value p of which nothing is known.
use Rattle.std.specs.Prelude.{true, false, List, [], ◌∷◌, pos}
use Rattle.spv_whole.specs.Fraction.{Fraction, whole}
use Rattle.spv_logic.specs.declared.types.Sort.TheVariants as sort
use Rattle.spv_logic.specs.declared.operators.Head.TheVariants.{Var}
use Rattle.spv_logic.specs.Terms.{Term, term, no_terms}
use Rattle.spv_term.specs.Arena.{Arena}
use Rattle.spv_proof_rules.specs.Effects.{Question}
use Rattle.spv_verdicts.specs.Verdicts.{Limits, Verdict, Unproved, GaveUp, NotAccepted, WideForm, TooManyInstances, TooManyTerms, IsRight, most_terms}

abbrev pub p : Term
p = term (Var (record { 0 = 0 }) sort.Bool 0) no_terms

abbrev pub claim : Question
claim = record { shapes = []; decls = []; at = λ t. p; sequent = record { given = []; goal = p }; rules = [] }

abbrev pub limits : Limits
limits = record { splits = 0; instances = 0; pivots = 0; terms = most_terms }

-- in whatever arena
abbrev pub IsRightHere : Verdict → Type 0
IsRightHere v = (a : Arena) → IsRight a claim limits v

abbrev pub untrue : List (Term × Fraction)
untrue = (p, whole (pos 0)) ∷ []

-- p is false
abbrev pub expected : Verdict
expected = Unproved ((p, false) ∷ []) untrue []

-- the branch has the other truth
abbrev pub other_branch : Verdict
other_branch = Unproved ((p, true) ∷ []) untrue []

-- the branch has no truth of p
abbrev pub no_branch : Verdict
no_branch = Unproved [] untrue []

-- the goal is true in the table
abbrev pub true_table : Verdict
true_table = Unproved ((p, true) ∷ []) ((p, whole (pos 1)) ∷ []) []

-- the table lists nothing
abbrev pub no_table : Verdict
no_table = Unproved ((p, false) ∷ []) [] []

-- another limit of terms
abbrev pub few_terms : Verdict
few_terms = GaveUp [] (TooManyTerms 4)

-- no relation of whole numbers
abbrev pub no_relation : Verdict
no_relation = GaveUp [] (WideForm p)

-- an instance, though there are no rules
abbrev pub with_instance : Verdict
with_instance = Unproved ((p, false) ∷ []) untrue (record { rule = 1; values = [] } ∷ [])

-- the instances ran out, though there are no rules
abbrev pub no_more_instances : Verdict
no_more_instances = GaveUp [] TooManyInstances

-- what only a recheck may answer
abbrev pub not_accepted : Verdict
not_accepted = NotAccepted
