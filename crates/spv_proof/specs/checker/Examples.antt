-- Worked checks: what stops them, and where.
use Rattle.std.specs.Prelude.{◌≡◌, ℕ, ◌^◌, ◌-◌, Bool, true, false, List, [], ◌∷◌, Some, None, pos, negsuc, slice_index_or}
use Rattle.spv_whole.specs.Fraction.{Fraction, whole}
use Rattle.spv_frac.specs.declared.frac.Op.TheVariants.{Add}
use Rattle.spv_logic.specs.declared.conditions.TermId.{TermId}
use Rattle.spv_logic.specs.declared.types.Sort.TheVariants as sort
use Rattle.spv_logic.specs.declared.operators.Head.TheVariants as head
use Rattle.spv_logic.specs.Terms.{Term, term, no_terms, terms}
use Rattle.spv_logic.specs.Formulas.{negation, equation, below}
use Rattle.spv_atoms.specs.declared.proofs.Relation.TheVariants.{AtMost}
use Rattle.spv_atoms.specs.declared.proofs.Step.{Step}
use Rattle.spv_atoms.specs.declared.proofs.Step.TheVariants.{Given, Refl, Linear, Contra}
use Rattle.spv_atoms.specs.declared.proofs.ProofNode.{ProofNode}
use Rattle.spv_proof_rules.specs.Effects.{Question}
use Rattle.spv_proof_rules.specs.Stops.{WideSum, WideForm, TooMany}
use Rattle.spv_proof_rules.specs.Outcomes.{Outcome, comes, stops, outcome}

abbrev id : ℕ → TermId
id n = record { 0 = n }

-- a variable of this number and of sort Int
abbrev variable : ℕ → Term
variable n = term (head.Var (record { 0 = n }) sort.Int 0) no_terms

abbrev x : Term
x = variable 0

abbrev y : Term
y = variable 1

-- a sequent; the terms that a proof names are x, y, 1 and 0
abbrev asks : List Term → Term → Question
asks given goal = record {
  shapes = [];
  decls = [];
  at = λ t. slice_index_or (x ∷ y ∷ term (head.Num (pos 1)) no_terms ∷ term (head.Num (pos 0)) no_terms ∷ []) t.0 x;
  sequent = record { given = given; goal = goal };
  rules = [];
}

-- a node that a step ends
abbrev node : List Step → ProofNode
node steps = record { steps = steps; split = None }

-- ---- a fact that is one term too many

abbrev itself : Term
itself = equation x x

abbrev by_refl : ℕ → Outcome Bool
by_refl most = outcome most (asks [] itself) (x ∷ itself ∷ []) (node (Given 0 ∷ Refl (id 0) ∷ Contra 1 (Some 2) ∷ []) ∷ [])

abbrev pub RoomForOne : Type 0
RoomForOne = by_refl 3 ≡ comes (x ∷ itself ∷ negation itself ∷ []) true

abbrev pub NoRoom : Type 0
NoRoom = by_refl 2 ≡ stops (x ∷ itself ∷ []) TooMany

-- ---- numbers that are too wide

-- the largest numeral
abbrev most_of_all : Fraction
most_of_all = whole (pos (2 ^ 127 - 1))

-- from x < y, with the terms x, y and (< x y) at hand, these multiples of it are to show 1 <= 0
abbrev summed : List Term → List (Fraction × ℕ) → Outcome Bool
summed known multiples = outcome 9 (asks (below x y ∷ []) (below y x)) known (node (Given 1 ∷ Linear (AtMost (id 2) (id 3)) multiples [] ∷ Contra 2 None ∷ []) ∷ [])

-- the parts are taken in the order of the terms, so that of x comes first
abbrev pub WideAtX : Type 0
WideAtX = summed (x ∷ y ∷ below x y ∷ []) ((most_of_all, 1) ∷ (most_of_all, 1) ∷ []) ≡ stops (x ∷ y ∷ below x y ∷ []) (WideSum Add most_of_all most_of_all)

-- with the terms in another order that of y does
abbrev pub WideAtY : Type 0
WideAtY =
    summed (y ∷ x ∷ below x y ∷ []) ((most_of_all, 1) ∷ (most_of_all, 1) ∷ [])
    ≡ stops (y ∷ x ∷ below x y ∷ []) (WideSum Add (whole (negsuc (2 ^ 127 - 2))) (whole (negsuc (2 ^ 127 - 2))))

-- a multiplier that an inequality may not have ends the step before any sum
abbrev pub NegativeFirst : Type 0
NegativeFirst = summed (x ∷ y ∷ below x y ∷ []) ((whole (negsuc 0), 1) ∷ (most_of_all, 1) ∷ (most_of_all, 1) ∷ []) ≡ comes (x ∷ y ∷ below x y ∷ []) false

-- ---- a form that is too wide

abbrev large : Term
large = let n = term (head.Num (pos (2 ^ 100))) no_terms in term head.Mul (terms n (terms n no_terms))

-- a cited relation is named
abbrev pub WideRelation : Type 0
WideRelation =
    outcome 9 (asks (below large x ∷ []) (below y x)) (x ∷ below large x ∷ []) (node (Given 1 ∷ Linear (AtMost (id 2) (id 3)) ((whole (pos 1), 1) ∷ []) [] ∷ Contra 2 None ∷ []) ∷ [])
    ≡ stops (x ∷ below large x ∷ []) (WideForm (below large x))
