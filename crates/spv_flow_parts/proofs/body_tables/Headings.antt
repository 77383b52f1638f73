-- Headings of a well typed program.
use Rattle.std.proofs.Common.{◌≡◌, ℕ, zero, suc, true, List, [], ◌∷◌, Option, Some, None, refl}
use Rattle.std.specs.List.{list_all}
use Rattle.spv_logic.proofs.list.Tests.{left_true, right_true}
use Rattle.spv_logic.specs.declared.conditions.RoutineId.{RoutineId}
use Rattle.spv_term.specs.Arena.{Arena}
use Rattle.spv_program.specs.Lists.{item_at}
use Rattle.spv_program.specs.Programs.{Routine, Program, shapes, routine_in}
use Rattle.spv_program.specs.Typing.{declarations_ok, heading_ok, routine_ok, well_typed}
use Rattle.spv_expression_terms.specs.makeable_terms.Laws.{heading_ok_in}
use Rattle.spv_flow_parts.specs.declared.bodies.Body.{Body}
use Rattle.spv_flow_parts.specs.Standing.{IsBody, Stands}

each_heading : (p : Program) (rs : List Routine) (n : ℕ) → list_all (routine_ok p) rs ≡ true → heading_ok_in p (item_at rs n) ≡ true
each_heading p [] n h = refl
each_heading p (r ∷ rs) zero h = left_true (heading_ok p r) _ (left_true (routine_ok p r) (list_all (routine_ok p) rs) h)
each_heading p (r ∷ rs) (suc n) h = each_heading p rs n (right_true (routine_ok p r) (list_all (routine_ok p) rs) h)

pub heading_there : (p : Program) (here : Option RoutineId) → list_all (routine_ok p) p.routines ≡ true → heading_ok_in p (routine_in p here) ≡ true
heading_there p None h = refl
heading_there p (Some id) h = each_heading p p.routines id.0 h

pub stands : (p : Program) (b : Body) (a : Arena) → well_typed p ≡ true → IsBody p b → a.shapes ≡ shapes p → a.decls ≡ p.symbols → Stands p b a
stands p b a typed body shapes_are decls_are = record {
  body = body;
  shapes = shapes_are;
  decls = decls_are;
  declarations = left_true (declarations_ok p) _ typed;
  heading = heading_there p b.here (left_true (list_all (routine_ok p) p.routines) _ (right_true (declarations_ok p) _ typed));
}
