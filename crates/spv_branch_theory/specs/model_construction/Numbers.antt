-- The numbers of terms in the table of both sides.
use Rattle.std.specs.Prelude.{◌≡◌, ℕ, zero, suc, Bool, true, false, List, [], ◌∷◌, ◌++◌, length, pos, slice_index_or, if◌then◌else◌}
use Rattle.spv_whole.specs.Fraction.{Fraction, whole}
use Rattle.spv_logic.specs.declared.conditions.TermId.{TermId}
use Rattle.spv_term.specs.Arena.{Arena, tree}
use Rattle.spv_atoms.specs.Atoms.{is_truth, is_number}
use Rattle.spv_congruence.specs.Graph.{are_same, label_of}
use Rattle.spv_simplex.specs.State.{value_of}
use Rattle.spv_table.specs.Values.{truth_value}
use Rattle.spv_share.specs.declared.both.Both.{Both}
use Rattle.spv_branch_theory.specs.model_construction.Firsts.{AreFirsts}

-- the number of a term, the first of whose class stands at a place: of sort Int its value at the kept point, of sort Bool whether it was joined with TRUE, of
-- another sort that place
abbrev pub number_of : Arena → Both → TermId → ℕ → Fraction
number_of a b t first =
    if is_number a.shapes a.decls (tree a t) then (value_of b.standing.tableau t).fraction
    else (if is_truth a.shapes a.decls (tree a t) then truth_value (are_same b.trail.graph t b.trail.truth) else whole (pos first))

-- a term with its number is put behind others, if it is flagged
abbrev pub with_value_if : Bool → List (TermId × Fraction) → TermId → Fraction → List (TermId × Fraction)
with_value_if true values t x = values ++ (t, x) ∷ []
with_value_if false values t x = values

abbrev pub id_at : List TermId → ℕ → TermId
id_at ids place = slice_index_or ids place (record { 0 = 0 })

abbrev pub flag_at : List Bool → ℕ → Bool
flag_at flags place = slice_index_or flags place false

abbrev pub place_at : List ℕ → ℕ → ℕ
place_at places place = slice_index_or places place 0

-- each of the first terms that is flagged, with its number
abbrev pub listed_to : Arena → Both → List TermId → List Bool → List ℕ → ℕ → List (TermId × Fraction)
listed_to a b ids flags firsts zero = []
listed_to a b ids flags firsts (suc n) =
    with_value_if (flag_at flags n) (listed_to a b ids flags firsts n) (id_at ids n) (number_of a b (id_at ids n) (place_at firsts n))

-- the table lists the flagged terms, each with its number: the first place of each class counts
pub record IsFullTable (a : Arena) (b : Both) (ids : List TermId) (flags : List Bool) (values : List (TermId × Fraction)) : Type 0 where
  pub places : List ℕ
  pub firsts : AreFirsts (label_of b.trail.graph.joins) ids flags (length ids) places
  pub values_are : values ≡ listed_to a b ids flags places (length ids)
