-- The rows of linear forms: their parts in the order in which they come first, each once; the constants do not count.
use Rattle.std.specs.Prelude.{List, [], ◌∷◌, length, Option, Some, ℤ, slice_get}
use Rattle.spv_logic.specs.declared.conditions.TermId.{TermId}
use Rattle.spv_frac.specs.rational.Rational.{Rational, whole}
use Rattle.spv_atoms.specs.Order.{with_id}
use Rattle.spv_atoms.specs.Linear.{IdForm, coefficient_at}
use Rattle.spv_tableau_rules.specs.tableaux.Numbers.{nothing}
use Rattle.spv_tableau_rules.specs.tableaux.Rows.{Rows}

abbrev pub with_parts : List TermId → List (TermId × ℤ) → List TermId
with_parts ids [] = ids
with_parts ids (p ∷ parts) = with_parts (with_id ids p.0) parts

abbrev pub with_forms : List TermId → List IdForm → List TermId
with_forms ids [] = ids
with_forms ids (f ∷ forms) = with_forms (with_parts ids f.parts) forms

-- the terms that the columns of parts stand for
abbrev pub part_ids : List IdForm → List TermId
part_ids forms = with_forms [] forms

abbrev pub coefficient_in : Option IdForm → Option TermId → Rational
coefficient_in (Some f) (Some t) = whole (coefficient_at f.parts t)
coefficient_in _ _ = nothing

abbrev pub rows_of : List IdForm → Rows
rows_of forms = record {
  parts = length (part_ids forms);
  count = length forms;
  coefficient = λ i c. coefficient_in (slice_get forms i) (slice_get (part_ids forms) c);
}
