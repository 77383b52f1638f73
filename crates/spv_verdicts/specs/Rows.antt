-- The rows of the atoms of a search, and the bounds that may be read on them.
use Rattle.std.specs.Prelude.{◌≡◌, ℕ, suc, Bool, List, [], ◌∷◌, ◌++◌, Option, Some, None, slice_get}
use Rattle.std.specs.List.{flat_map}
use Rattle.spv_logic.specs.declared.operators.Head.{Head}
use Rattle.spv_logic.specs.declared.operators.Head.TheVariants.{Eq, Lt, Le}
use Rattle.spv_logic.specs.Terms.{Term, term}
use Rattle.spv_term.specs.Arena.{Arena}
use Rattle.spv_atoms.specs.Linear.{IdForm}
use Rattle.spv_proof_rules.specs.Effects.{Question, is_number}
use Rattle.spv_tableau_rules.specs.tableaux.Bounds.{Bound}
use Rattle.spv_tableau_rules.specs.tableaux.Forms.{rows_of}
use Rattle.spv_tableau_rules.specs.tableaux.Solved.{basis_of}
use Rattle.spv_tableau_rules.specs.tableaux.Walks.{Start, held_at, HoldsBounds}
use Rattle.spv_tableau_rules.specs.declared.constraints.saying.RowConstraint.{RowConstraint}
use Rattle.spv_tableau_rules.specs.declared.constraints.saying.RowConstraint.TheVariants.{Equal, Below, AtMost, Above, AtLeast}
use Rattle.spv_tableau_rules.specs.constraints.Sayings.{bounds_of}
use Rattle.spv_tableau_rules.specs.constraints.Relations.{number_sides, relations, AreRowsOf}
use Rattle.spv_models.specs.split_trees.Paths.{atoms}

abbrev pub head_of : Term → Head
head_of (term h ts) = h

abbrev pub head_in_front : Option (Term × Term) → Term → List Head → List Head
head_in_front None t heads = heads
head_in_front (Some st) t heads = head_of t ∷ heads

-- the heads of the relations of whole numbers among these terms, in order
abbrev pub relation_heads : (Term → Bool) → List Term → List Head
relation_heads is_number [] = []
relation_heads is_number (t ∷ ts) = head_in_front (number_sides is_number t) t (relation_heads is_number ts)

-- what may be read of a relation: what it says where it is true, or false, or in a part of its split
abbrev pub sayings : Head → List RowConstraint
sayings Eq = Equal ∷ Below ∷ Above ∷ []
sayings Lt = Below ∷ AtLeast ∷ []
sayings Le = AtMost ∷ Above ∷ []
sayings _ = []

-- all bounds that may be read on rows of these heads and forms, the first of which has this number
abbrev pub readable : ℕ → List Head → List IdForm → List Bound
readable row (h ∷ heads) (f ∷ forms) = flat_map (bounds_of row f.constant) (sayings h) ++ readable (suc row) heads forms
readable row _ _ = []

-- forms are the rows of the atoms of a search
abbrev pub AreRows : Arena → Question → List IdForm → Type 0
AreRows a q forms = AreRowsOf a (relations (is_number q) (atoms q)) forms

-- a saying is one of these
pub record IsOneOf (xs : List RowConstraint) (x : RowConstraint) : Type 0 where
  pub place : ℕ
  pub there : slice_get xs place ≡ Some x

-- a bound is one of what a saying is on a row
pub record IsBoundIn (row : ℕ) (f : IdForm) (x : RowConstraint) (b : Bound) : Type 0 where
  pub place : ℕ
  pub there : slice_get (bounds_of row f.constant x) place ≡ Some b

-- each bound is read of its row's relation, and each relation in one way only
pub record AreRead (q : Question) (forms : List IdForm) (bounds : List Bound) : Type 0 where
  pub way : ℕ → RowConstraint
  pub may : (row : ℕ) (h : Head) → slice_get (relation_heads (is_number q) (atoms q)) row ≡ Some h → IsOneOf (sayings h) (way row)
  pub each : (i : ℕ) (b : Bound) (f : IdForm) → slice_get bounds i ≡ Some b → slice_get forms b.row ≡ Some f → IsBoundIn b.row f (way b.row) b
  pub within : (i : ℕ) (b : Bound) → slice_get bounds i ≡ Some b → (f : IdForm) × (slice_get forms b.row ≡ Some f)

-- what a check began with: bounds that are read of the atoms, parts outside the basis at 0, and the columns of rows outside it at such a bound
pub record IsBegun (a : Arena) (q : Question) (forms : List IdForm) (s : Start) : Type 0 where
  pub rows : AreRows a q forms
  pub read : AreRead q forms s.bounds
  pub held : HoldsBounds (rows_of forms) (readable 0 (relation_heads (is_number q) (atoms q)) forms) (basis_of s.basis) (held_at s.held)
