-- The subterms of formulas, and which of them a table lists.
use Rattle.std.specs.Prelude.{Bool, true, false, ◌&&◌, ◌||◌, not, List, [], ◌∷◌, Option, ℤ, is_some}
use Rattle.std.specs.List.{list_any, flat_map}
use Rattle.spv_logic.specs.declared.operators.Head.{Head}
use Rattle.spv_logic.specs.declared.operators.Head.TheVariants.{Num, Mul, True, False}
use Rattle.spv_logic.specs.Terms.{Term, Terms, term, no_terms, terms, term_eq}
use Rattle.spv_atoms.specs.Atoms.{is_connective, is_truth_value}
use Rattle.spv_atoms.specs.Forms.{constant_values}
use Rattle.spv_atoms.specs.Order.{order, passing, has_meaning_head}

-- ---- subterms

abbrev pub is_among : List Term → Term → Bool
is_among ts t = list_any (term_eq t) ts

abbrev pub enters_each : Term → Bool
enters_each t = true

-- terms with the subterms of these, each where it is new and behind its arguments
abbrev pub with_subterms : List Term → List Term → List Term
with_subterms done [] = done
with_subterms done (t ∷ ts) = with_subterms (order enters_each t done) ts

-- the different subterms of formulas, in order of first appearance, arguments first
abbrev pub subterms : List Term → List Term
subterms fs = with_subterms [] fs

abbrev pub list_of : Terms → List Term
list_of no_terms = []
list_of (terms t ts) = t ∷ list_of ts

abbrev pub arguments : Term → List Term
arguments (term h ts) = list_of ts

-- ---- what a table lists

abbrev pub is_one_constant : List (Option ℤ) → Bool
is_one_constant (a ∷ b ∷ []) = is_some a || is_some b
is_one_constant _ = false

-- whether a head over arguments of these constant values, where they are constant, has a meaning of its own: numerals, TRUE and FALSE,
-- sums, differences, products with a constant side, relations and connectives
abbrev pub means : Head → List (Option ℤ) → Bool
means (Num z) constants = true
means True constants = true
means False constants = true
means Mul constants = is_one_constant constants
means h constants = has_meaning_head h

-- whether a table lists a term: a variable, or an application of any other head
abbrev pub is_listed : Term → Bool
is_listed (term h ts) = not (means h (constant_values ts))

-- ---- arguments that are truth values

abbrev pub is_plain : (Term → Bool) → Term → Bool
is_plain is_truth t = not (is_connective is_truth t)

-- the arguments of sort Bool of these terms, where the term is no connective
abbrev pub truth_arguments : (Term → Bool) → List Term → List Term
truth_arguments is_truth ts = passing is_truth (flat_map arguments (passing (is_plain is_truth) ts))

-- ---- terms whose truth is not computed

-- whether a term is no connective, and neither TRUE nor FALSE
abbrev pub is_uncomputed : (Term → Bool) → Term → Bool
is_uncomputed is_truth t = is_plain is_truth t && not (is_truth_value t)

-- those of these terms: on them congruence acts
abbrev pub uncomputed : (Term → Bool) → List Term → List Term
uncomputed is_truth ts = passing (is_uncomputed is_truth) ts
