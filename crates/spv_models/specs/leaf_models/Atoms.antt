-- The atoms of a search over formulas: those among the subterms, and equations on which values of applications depend.
use Rattle.std.specs.Prelude.{Bool, false, ◌&&◌, ◌||◌, not, List, [], ◌∷◌, ◌++◌, Option, Some, if◌then◌else◌}
use Rattle.std.specs.List.{flat_map}
use Rattle.spv_logic.specs.declared.types.Sort.{Sort}
use Rattle.spv_logic.specs.declared.types.Shape.{Shape}
use Rattle.spv_logic.specs.declared.types.Decl.{Decl}
use Rattle.spv_logic.specs.Terms.{Term, Terms, term, terms, term_eq, head_eq}
use Rattle.spv_logic.specs.Formulas.{equation}
use Rattle.spv_logic.specs.Sorts.{sorts_eq, term_sorts}
use Rattle.spv_atoms.specs.Atoms.{is_truth, is_number, is_atom, is_truth_value, only_if, with_terms}
use Rattle.spv_atoms.specs.Order.{passing}
use Rattle.spv_models.specs.leaf_models.Subterms.{subterms, is_listed, truth_arguments}

abbrev pub same_sorts : Option (List Sort) → Option (List Sort) → Bool
same_sorts (Some ss) (Some ts) = sorts_eq ss ts
same_sorts _ _ = false

-- the equations of two lists of arguments: one for each place where they differ and are not of sort Bool
abbrev pub argument_equations : (Term → Bool) → Terms → Terms → List Term
argument_equations is_truth (terms s ss) (terms t ts) = only_if (not (term_eq s t || is_truth s)) (equation s t) ++ argument_equations is_truth ss ts
argument_equations is_truth _ _ = []

-- whether two terms are applications of one head to arguments of the same sorts, of which a table lists at least one
abbrev pub are_comparable : List Shape → List Decl → Term → Term → Bool
are_comparable shapes decls (term h ss) (term k ts) =
    head_eq h k && (same_sorts (term_sorts shapes decls ss) (term_sorts shapes decls ts) && (is_listed (term h ss) || is_listed (term k ts)))

-- the equations of the arguments of two applications, and their own, where they are of sort Int
abbrev pub equations_of : List Shape → List Decl → Term → Term → List Term
equations_of shapes decls (term h ss) (term k ts) =
    argument_equations (is_truth shapes decls) ss ts ++ only_if (is_number shapes decls (term h ss)) (equation (term h ss) (term k ts))

abbrev pub pair_equations : List Shape → List Decl → Term → Term → List Term
pair_equations shapes decls s t = if are_comparable shapes decls s t then equations_of shapes decls s t else []

-- those of each two of these terms: the earlier one stands on the left
abbrev pub all_equations : List Shape → List Decl → List Term → List Term
all_equations shapes decls [] = []
all_equations shapes decls (t ∷ ts) = flat_map (pair_equations shapes decls t) ts ++ all_equations shapes decls ts

-- the atoms among the subterms of formulas, and the equations of each two comparable ones
abbrev pub atoms : List Shape → List Decl → List Term → List Term
atoms shapes decls fs = with_terms (passing (is_atom (is_truth shapes decls)) (subterms fs)) (all_equations shapes decls (subterms fs))

abbrev pub is_open : Term → Bool
is_open t = not (is_truth_value t)

-- what has to have a truth: the atoms, and the arguments of sort Bool of what is no connective
abbrev pub questions : List Shape → List Decl → List Term → List Term
questions shapes decls fs = with_terms (atoms shapes decls fs) (passing is_open (truth_arguments (is_truth shapes decls) (subterms fs)))
