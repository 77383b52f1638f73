-- What makes a list of terms with fractions a table: equal arguments give equal values, and truth values are 0 or 1.
use Rattle.std.specs.Prelude.{◌≡◌, ◌⊎◌, ℕ, true, List, [], ◌∷◌, pos, Some, slice_get, Ok}
use Rattle.spv_whole.specs.Fraction.{Fraction, whole}
use Rattle.spv_logic.specs.declared.types.Shape.{Shape}
use Rattle.spv_logic.specs.declared.types.Decl.{Decl}
use Rattle.spv_logic.specs.Terms.{Term, term}
use Rattle.spv_logic.specs.Sorts.{term_sorts}
use Rattle.spv_atoms.specs.Atoms.{is_truth}
use Rattle.spv_table.specs.Values.{Outcome, values, listed_in}

-- as many values as there are of the others, each equal to that at its place
abbrev pub HaveEqualValues : List Outcome → List Outcome → Type 0
HaveEqualValues [] [] = Unit {0}
HaveEqualValues (Ok x ∷ vs) (Ok y ∷ ws) = (x ≡ y) × HaveEqualValues vs ws
HaveEqualValues _ _ = ⊥

-- two applications of one head, whose arguments have the same sorts and equal values
abbrev pub IsAlike : List Shape → List Decl → (Term → Fraction) → Term → Term → Type 0
IsAlike shapes decls listed (term h ts) (term k us) =
    (h ≡ k) × (term_sorts shapes decls ts ≡ term_sorts shapes decls us) × HaveEqualValues (values listed ts) (values listed us)

pub record IsTable (shapes : List Shape) (decls : List Decl) (pairs : List (Term × Fraction)) : Type 0 where
  pub alike : (i j : ℕ) (p q : Term × Fraction) → slice_get pairs i ≡ Some p → slice_get pairs j ≡ Some q → IsAlike shapes decls (listed_in pairs) p.0 q.0 → p.1 ≡ q.1
  pub truths : (i : ℕ) (p : Term × Fraction) → slice_get pairs i ≡ Some p → is_truth shapes decls p.0 ≡ true → (p.1 ≡ whole (pos 0)) ⊎ (p.1 ≡ whole (pos 1))
