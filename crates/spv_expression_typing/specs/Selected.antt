-- Selectors over what is known of the program.
use Rattle.std.specs.Prelude.{ℕ, Bool, true, false, ◌&&◌, List, Ok, Err, is_some}
use Rattle.spv_logic.specs.declared.types.Sort.TheVariants as sort
use Rattle.spv_tree.specs.declared.syntax.names.Name.{Name}
use Rattle.spv_program.specs.declared.types.TypeForm.{TypeForm}
use Rattle.spv_program.specs.declared.types.TypeForm.TheVariants as form
use Rattle.spv_program.specs.Types.{form_at, target_of}
use Rattle.spv_program.specs.Expressions.{Expression, NilOf}
use Rattle.spv_typing.specs.declared.faults.TypeFault.TheVariants.{Count}
use Rattle.spv_typing.specs.Outcomes.{Outcome, after, where_so, wrong}
use Rattle.spv_typing.specs.OperatorWalk.{Operand, settled}
use Rattle.spv_typing.specs.ExpressionWalk.{Reached, ByIndex, ByCell, may_be_selected, further, on_type, element_type, takes_indices, elements, field_in}

-- an element at one index with its line
abbrev pub element_at : List TypeForm → Reached → ℕ → Operand Expression → Outcome Reached
element_at forms r line index =
    after (settled NilOf (wrong line) sort.Int index) (λ e.
    on_type (Err (wrong line)) (λ u. Ok (further r (ByIndex r.type e) u)) (element_type forms r.type))

abbrev pub indexed_in : List TypeForm → ℕ → Reached → List (ℕ × Operand Expression) → Outcome Reached
indexed_in forms line r indices =
    where_so (may_be_selected r.base && is_some (element_type forms r.type)) (wrong line)
    (where_so (takes_indices forms r.type indices) (Count line) (elements forms r indices))

abbrev pub is_record : TypeForm → Bool
is_record (form.Record fields) = true
is_record _ = false

abbrev pub field_at : List TypeForm → ℕ → Reached → Name → Outcome Reached
field_at forms line r x = where_so (may_be_selected r.base) (wrong line) (field_in line r x (form_at forms r.type.0))

abbrev pub content_at : List TypeForm → ℕ → ℕ → Reached → Outcome Reached
content_at forms line at r =
    where_so (may_be_selected r.base) (wrong line)
    (on_type (Err (wrong line)) (λ t. Ok (further r (ByCell at t) t)) (target_of (form_at forms r.type.0)))
