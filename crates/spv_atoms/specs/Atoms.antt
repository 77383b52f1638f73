-- The atoms of a formula.
use Rattle.std.specs.Prelude.{Bool, true, false, ◌&&◌, not, List, [], ◌∷◌, ◌++◌, Option, Some, None, if◌then◌else◌}
use Rattle.std.specs.List.{list_any}
use Rattle.spv_logic.specs.declared.types.Sort.{Sort}
use Rattle.spv_logic.specs.declared.types.Sort.TheVariants as sort
use Rattle.spv_logic.specs.declared.types.Shape.{Shape}
use Rattle.spv_logic.specs.declared.types.Decl.{Decl}
use Rattle.spv_logic.specs.declared.operators.Head.{Head}
use Rattle.spv_logic.specs.declared.operators.Head.TheVariants.{Not, And, Or, Implies, Eq, True, False}
use Rattle.spv_logic.specs.Terms.{Term, Terms, term, no_terms, terms, term_eq, sort_eq}
use Rattle.spv_logic.specs.Sorts.{term_sort}
use Rattle.spv_atoms.specs.Tables.{all_truths}

-- ---- sorts

abbrev pub has_sort : Sort → Option Sort → Bool
has_sort s None = false
has_sort s (Some r) = sort_eq r s

-- whether a term is of sort Bool
abbrev pub is_truth : List Shape → List Decl → Term → Bool
is_truth shapes decls t = has_sort sort.Bool (term_sort shapes decls t)

-- whether a term is of sort Int
abbrev pub is_number : List Shape → List Decl → Term → Bool
is_number shapes decls t = has_sort sort.Int (term_sort shapes decls t)

-- ---- connectives

-- whether a head over arguments, which are all of sort Bool or not, is a connective: NOT, AND, OR, IMPLIES, and `=` of truth values
abbrev pub connects : Bool → Head → Bool
connects truths Not = true
connects truths And = true
connects truths Or = true
connects truths Implies = true
connects truths Eq = truths
connects truths _ = false

abbrev pub is_connective : (Term → Bool) → Term → Bool
is_connective is_truth (term h ts) = connects (all_truths is_truth ts) h

abbrev pub is_fixed : Head → Bool
is_fixed True = true
is_fixed False = true
is_fixed _ = false

-- whether a term is TRUE or FALSE
abbrev pub is_truth_value : Term → Bool
is_truth_value (term h ts) = is_fixed h

-- whether a term is an atom: of sort Bool, no connective, and neither TRUE nor FALSE
abbrev pub is_atom : (Term → Bool) → Term → Bool
is_atom is_truth t = is_truth t && (not (is_connective is_truth t) && not (is_truth_value t))

-- ---- atoms

-- a term alone, where it is wanted
abbrev pub only_if : Bool → Term → List Term
only_if true t = t ∷ []
only_if false t = []

abbrev mutual
  -- the atoms of a formula from left to right, each as often as it stands there: it itself, or those of a connective's arguments
  pub atoms_in : (Term → Bool) → Term → List Term
  atoms_in is_truth (term h ts) =
      if connects (all_truths is_truth ts) h then atoms_in_all is_truth ts else only_if (is_atom is_truth (term h ts)) (term h ts)

  pub atoms_in_all : (Term → Bool) → Terms → List Term
  atoms_in_all is_truth no_terms = []
  atoms_in_all is_truth (terms t ts) = atoms_in is_truth t ++ atoms_in_all is_truth ts

-- terms with one more: as they are where it is among them, else with it at the end
abbrev pub with_term : List Term → Term → List Term
with_term known t = if list_any (term_eq t) known then known else known ++ t ∷ []

-- terms with others, one after the other
abbrev pub with_terms : List Term → List Term → List Term
with_terms known [] = known
with_terms known (t ∷ ts) = with_terms (with_term known t) ts

-- terms with the atoms of a formula that are not among them, in the order in which they first stand there
abbrev pub with_atoms : (Term → Bool) → List Term → Term → List Term
with_atoms is_truth known t = with_terms known (atoms_in is_truth t)
