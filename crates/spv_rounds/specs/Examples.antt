-- Verdicts of small conditions where facts of schemas are at hand: that an array with 1 at an index has a number there.
use Rattle.std.specs.Prelude.{◌≡◌, ℕ, true, false, List, [], ◌∷◌, map, None, Some, ℤ, pos, slice_index_or}
use Rattle.spv_whole.specs.Fraction.{Fraction, whole}
use Rattle.spv_logic.specs.declared.conditions.TermId.{TermId}
use Rattle.spv_logic.specs.declared.types.Sort.{Sort}
use Rattle.spv_logic.specs.declared.types.Sort.TheVariants as sort
use Rattle.spv_logic.specs.declared.types.Shape.TheVariants as shape
use Rattle.spv_logic.specs.declared.operators.Head.TheVariants as head
use Rattle.spv_logic.specs.Terms.{Term, term, no_terms}
use Rattle.spv_logic.specs.Formulas.{equation}
use Rattle.spv_schemas.specs.Facts.{two, three, numeral}
use Rattle.spv_term.specs.Arena.{Arena}
use Rattle.spv_atoms.specs.declared.proofs.Stated.TheVariants.{Is}
use Rattle.spv_atoms.specs.declared.proofs.Step.{Step}
use Rattle.spv_atoms.specs.declared.proofs.Step.TheVariants.{Given, Refl, Schema, Eval, Contra}
use Rattle.spv_proof_rules.specs.Effects.{Question}
use Rattle.spv_verdicts.specs.Verdicts.{Verdict, Proved, Unproved, IsRight}
use Rattle.spv_verdicts.specs.Schemas.{IsRightWith}
use Rattle.spv_verdicts.specs.Examples.{limits}
use Rattle.spv_rounds.specs.Atoms.{atoms_with, listed_with}

abbrev variable : ℕ → Sort → Term
variable n s = term (head.Var (record { 0 = n }) s 0) no_terms

abbrev pub i : Term
i = variable 0 sort.Int

abbrev pub array : Term
array = variable 1 (sort.Whole (record { 0 = 0 }))

-- the array with 1 at i, what that has there, and what the array had
abbrev changed : Term
changed = three head.Store array i (numeral (pos 1))

abbrev pub now : Term
now = two head.Select changed i

abbrev pub before : Term
before = two head.Select array i

abbrev pub claim : ℤ → Term
claim z = equation now (numeral z)

abbrev named : ℤ → List Term
named z = i ∷ changed ∷ claim z ∷ []

-- to show that it has this number there
abbrev pub has_now : ℤ → Question
has_now z = record {
  shapes = shape.Array sort.Int ∷ [];
  decls = [];
  at = λ t. slice_index_or (named z) t.0 i;
  sequent = record { given = []; goal = claim z };
  rules = [];
}

-- a verdict on that is right, or wrong, in whatever arena
abbrev pub IsRightHere : ℤ → Verdict → Type 0
IsRightHere z v = (a : Arena) → IsRightWith a (has_now z) limits v

abbrev pub IsWrongHere : ℤ → Verdict → Type 0
IsWrongHere z v = (a : Arena) → IsRightWith a (has_now z) limits v → ⊥

-- ---- proofs

abbrev id : ℕ → TermId
id n = record { 0 = n }

-- the claim is false; what a fact says, where i = i; so the claim is true
abbrev proof_with : Step → Verdict
proof_with fact = Proved (record { steps = Given 0 ∷ fact ∷ Refl (id 0) ∷ Eval (Is (id 2) true) (2 ∷ 3 ∷ []) ∷ Contra 4 (Some 1) ∷ []; split = None } ∷ [])

-- the fact that at i there is what was written
abbrev pub by_what_is_written : Verdict
by_what_is_written = proof_with (Schema 1 (id 1 ∷ id 0 ∷ []) None)

-- the fact that elsewhere than at i there is what was
abbrev pub by_what_is_left : Verdict
by_what_is_left = proof_with (Schema 2 (id 1 ∷ id 0 ∷ []) None)

-- ---- tables

-- where the claim is false, and each of these terms is worth the same
abbrev unproved : ℤ → List Term → Fraction → Verdict
unproved z ts x = Unproved ((claim z, false) ∷ []) (map (λ t. (t, x)) ts) []

-- the terms that a table lists for the condition, and those for the condition and its facts
abbrev pub own_terms : List Term
own_terms = array ∷ i ∷ changed ∷ now ∷ []

abbrev pub all_terms : List Term
all_terms = array ∷ i ∷ changed ∷ now ∷ before ∷ []

abbrev pub all_are_1 : ℤ → Verdict
all_are_1 z = unproved z all_terms (whole (pos 1))

abbrev pub all_are_0 : ℤ → Verdict
all_are_0 z = unproved z all_terms (whole (pos 0))

-- such a table without what the facts are about beyond the condition
abbrev pub own_are_1 : ℤ → Verdict
own_are_1 z = unproved z own_terms (whole (pos 1))

abbrev pub own_are_0 : ℤ → Verdict
own_are_0 z = unproved z own_terms (whole (pos 0))

-- where no fact is at hand
abbrev pub IsRightWithoutFacts : ℤ → Verdict → Type 0
IsRightWithoutFacts z v = (a : Arena) → IsRight a (has_now z) limits v

-- ---- atoms

-- what has to have a truth: the claim, what the facts compare, and whether the two arrays that are read at i are the same
abbrev pub HasTheseAtoms : Type 0
HasTheseAtoms = atoms_with (has_now (pos 2)) [] ≡ claim (pos 2) ∷ equation i i ∷ claim (pos 1) ∷ equation now before ∷ equation changed array ∷ []

abbrev pub ListsTheseTerms : Type 0
ListsTheseTerms = listed_with (has_now (pos 2)) [] ≡ all_terms
