-- The table of a leaf.
use Rattle.std.specs.Prelude.{◌≡◌, ℕ, zero, suc, Bool, true, false, List, [], ◌∷◌, ◌++◌, map, Option, Some, None, Ok, pos, if◌then◌else◌}
use Rattle.spv_whole.specs.Fraction.{Fraction, whole}
use Rattle.spv_logic.specs.declared.types.Shape.{Shape}
use Rattle.spv_logic.specs.declared.types.Decl.{Decl}
use Rattle.spv_logic.specs.Terms.{Term}
use Rattle.spv_logic.specs.Conditions.{Sequent}
use Rattle.spv_atoms.specs.Atoms.{is_truth, is_number}
use Rattle.spv_atoms.specs.Order.{passing}
use Rattle.spv_table.specs.Values.{truth_value, holds, listed_in}
use Rattle.spv_table.specs.Tables.{IsTable}
use Rattle.spv_models.specs.leaf_models.Subterms.{is_among, subterms, is_listed}
use Rattle.spv_models.specs.leaf_models.Leaves.{Leaf, truth_at}

-- the place of the first of these terms that is the same as a term
abbrev pub class_of : (Term → Term → Bool) → List Term → Term → ℕ
class_of same [] t = zero
class_of same (u ∷ us) t = if same u t then zero else suc (class_of same us t)

abbrev pub truth_number : Option Bool → Fraction
truth_number None = truth_value false
truth_number (Some b) = truth_value b

-- the number of a term, among these ones: of sort Int its value at the point, of sort Bool its truth, of another sort the number of its class
abbrev pub number_at : List Shape → List Decl → List Term → Leaf → Term → Fraction
number_at shapes decls ts leaf t =
    if is_number shapes decls t then (leaf.point t).fraction
    else (if is_truth shapes decls t then truth_number (truth_at (is_truth shapes decls) leaf.given t) else whole (pos (class_of leaf.same ts t)))

-- the table of a leaf: each variable and each application without a meaning of its own among the subterms, with its number
abbrev pub table : List Shape → List Decl → List Term → Leaf → List (Term × Fraction)
table shapes decls fs leaf = map (λ t. (t, number_at shapes decls (subterms fs) leaf t)) (passing is_listed (subterms fs))

-- ---- a table that a condition does not survive

-- the formulas of a condition
abbrev pub formulas_of : Sequent → List Term
formulas_of c = c.given ++ c.goal ∷ []

-- a table that lists what it has to of these formulas, in which each hypothesis is true and the goal is false
pub record Falsifies (shapes : List Shape) (decls : List Decl) (c : Sequent) (pairs : List (Term × Fraction)) : Type 0 where
  pub lists : map (λ p. p.0) pairs ≡ passing is_listed (subterms (formulas_of c))
  pub is_table : IsTable shapes decls pairs
  pub given_true : (f : Term) → is_among c.given f ≡ true → holds (listed_in pairs) f ≡ Ok true
  pub goal_false : holds (listed_in pairs) c.goal ≡ Ok false
