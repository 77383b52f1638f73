-- Rational values of terms, and what is true at a point.
use Rattle.std.specs.Prelude.{suc, Bool, not, List, [], ◌∷◌, ℤ, if◌then◌else◌}
use Rattle.std.specs.List.{list_all}
use Rattle.spv_frac.specs.rational.Rational.{Rational, whole, plus, times, is_zero, is_positive}
use Rattle.spv_logic.specs.declared.conditions.TermId.{TermId}
use Rattle.spv_logic.specs.Terms.{Term, term_eq}
use Rattle.spv_term.specs.Arena.{Arena, tree}
use Rattle.spv_atoms.specs.Forms.{Form, form}
use Rattle.spv_atoms.specs.Linear.{IdForm}
use Rattle.spv_proof_rules.specs.Sums.{Reading}
use Rattle.spv_tableau_rules.specs.tableaux.Numbers.{nothing}
use Rattle.spv_tableau_rules.specs.tableaux.Rows.{Point}
use Rattle.spv_tableau_rules.specs.tableaux.Bounds.{Bound, breaks}
use Rattle.spv_tableau_rules.specs.tableaux.Forms.{part_ids}

-- what parts are worth, where `value` says it of each term
abbrev pub parts_value : (Term → Rational) → List (Term × ℤ) → Rational
parts_value value [] = nothing
parts_value value (p ∷ parts) = plus (times (whole p.1) (value p.0)) (parts_value value parts)

abbrev pub form_value : (Term → Rational) → Form → Rational
form_value value f = plus (parts_value value f.parts) (whole f.constant)

-- ---- at a point

-- the value of a term's column among those of these ids, 0 for a term that is none of them
abbrev pub value_among : Arena → List TermId → Point → Term → Rational
value_among a [] v x = nothing
value_among a (t ∷ ids) v x = if term_eq x (tree a t) then v 0 else value_among a ids (λ c. v (suc c)) x

-- the value of a part of these forms
abbrev pub part_value : Arena → List IdForm → Point → Term → Rational
part_value a forms v x = value_among a (part_ids forms) v x

-- the value of a term of whole numbers: what its form is worth
abbrev pub value_in : Arena → List IdForm → Point → Term → Rational
value_in a forms v t = form_value (part_value a forms v) (form t)

-- ---- what is true

-- the form is 0, or at most 0
abbrev pub holds_at : (Term → Rational) → Reading → Bool
holds_at value r = if r.is_equal then is_zero (form_value value r.form) else not (is_positive (form_value value r.form))

-- a row's value is on the right side of each of its bounds
abbrev pub meets : Rational → List Bound → Bool
meets x bounds = list_all (λ b. not (breaks b.side b.value x)) bounds
