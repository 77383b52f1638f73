use Rattle.std.proofs.Common.{◌≡◌, List, length, Some, slice_get, map, ap, sym, subst, ◌∙◌}
use Rattle.std.proofs.lemmas.List.{length-map}
use Rattle.spv_logic.specs.declared.conditions.RoutineId.{RoutineId}
use Rattle.spv_program.specs.declared.typed.programs.Routine.{Routine as RoutineText}
use Rattle.spv_program.specs.Lists.{item_at}
use Rattle.spv_program.specs.Programs.{Formal, Program, Routine, routine_at}
use Rattle.spv_program.specs.typed.ProgramViews.{formal_of, global_of, routine_of}
use Rattle.spv_expression_terms.specs.term_walk.Laws.{HasNamesOf, variable_scope}
use Rattle.spv_assign.specs.supply.Numbers.{supply_of}
use Rattle.spv_assign.proofs.limited_steps.Limits.{same_stop}
use Rattle.spv_flow_parts.specs.calls.Arguments.{IsAtCall}
use Rattle.spv_flow_parts.proofs.calls.Each.{IsAtCall-Extends, as_many, routine_found, places_stop, items_of, items_stop, all_added, are_changed, names_at}
use Rattle.spv_flow_parts.proofs.calls.entering.changes.Goals as goal

found : (p : Program) (rs : List RoutineText) (n : RoutineId) (x : RoutineText) (r : Routine) → map routine_of rs ≡ p.routines → slice_get rs n.0 ≡ Some x → routine_at p n ≡ Some r → routine_of x ≡ r
found p rs n x r same at is = routine_found rs n.0 x r at (ap (λ (l : List Routine). item_at l n.0) same ∙ is)

pub add_places-requires : goal.add_places-requires
add_places-requires g c =
    let formals = ap (map formal_of) c.as_slice.ensures ∙ ap (λ (r : Routine). r.formals) (found c.args.program.now c.behind-program.inside.routines c.args.number c.get-routine.result.now g.at.routine (ap (λ (p : Program). p.routines) (c.behind-program.view_is ∙ c.program.ensures)) c.get-routine.ensures c.requires.1.1.0.routine) in (
      (subst (λ (k : RoutineId). IsAtCall c.args.program.now c.args.terms.now k g.at.routine g.at.arguments) (sym c.requires.1.0) c.requires.1.1.0),
      (
        formals,
        (
          as_many c.args.program.now c.args.terms.now g.at.routine.formals c.args.given.now g.at.arguments c.requires.1.1.0.fit c.requires.1.1.1.0 ∙ ap (λ (l : List Formal). length l) (sym formals) ∙ length-map c.as_slice.result.now formal_of,
          (c.requires.1.1.1.0, c.requires.1.1.1.1),
        ),
      ),
    )

pub returns-in_err-add_places-clause-walk : goal.returns-in_err-add_places-clause-walk
returns-in_err-add_places-clause-walk g c =
    same_stop c.from_residual.result c.in_err-add_places.field-0.0 _ _ _ c.from_residual.ensures.1
    (places_stop c.args.program.now g.at.routine g.at.arguments (supply_of c.args.supply.now) c.args.terms.now _ c.requires.1.1.1.1 c.in_err-add_places.field-0.0 c.add_places.new.terms _ _ c.in_err-add_places.ensures)

pub add_items-requires : goal.add_items-requires
add_items-requires g c = (
  subst (λ (q : Program). IsAtCall q c.add_places.new.terms g.at.number g.at.routine g.at.arguments) (sym c.requires.0) (IsAtCall-Extends c.args.program.now g.at.number g.at.routine g.at.arguments c.in_ok-add_places.ensures.grows (subst (λ (k : RoutineId). IsAtCall c.args.program.now c.args.terms.now k g.at.routine g.at.arguments) (sym c.requires.1.0) c.requires.1.1.0)),
  (
    subst (λ (q : Program). HasNamesOf c.in_ok-variables.variables (variable_scope q (Some g.at.routine))) (sym c.requires.0) (names_at c.args.program.now c.args.number g.at.routine c.in_ok-variables.variables c.requires.1.1.0.routine c.in_ok-variables.ensures),
    (ap (map global_of) c.as_slice-2.ensures ∙ ap (λ (r : Routine). r.globals) (found c.args.program.now c.behind-program.inside.routines c.args.number c.get-routine.result.now g.at.routine (ap (λ (p : Program). p.routines) (c.behind-program.view_is ∙ c.program.ensures)) c.get-routine.ensures c.requires.1.1.0.routine), c.in_ok-add_places.ensures.there),
  ),
)

pub returns-in_err-add_items-clause-walk : goal.returns-in_err-add_items-clause-walk
returns-in_err-add_items-clause-walk g c =
    same_stop c.from_residual-in_err-add_items.result c.in_err-add_items.field-0.0 _ _ _ c.from_residual-in_err-add_items.ensures.1
    (items_stop c.args.program.now g.at.routine g.at.arguments (supply_of c.args.supply.now) c.args.terms.now _ c.add_places.new.terms _ _ c.in_ok-add_places.ensures c.in_err-add_items.field-0.0 c.add_items.new.terms _ _ (items_of c.args.program.now g.at.program g.at.routine c.requires.0 _ _ _ _ _ _ _ c.in_err-add_items.ensures))

pub returns-clause-walk : goal.returns-clause-walk
returns-clause-walk g c = (all_added c.args.program.now g.at.routine g.at.arguments (supply_of c.args.supply.now) c.args.terms.now _ c.add_places.new.terms _ _ c.in_ok-add_places.ensures c.add_items.new.terms _ _ (items_of c.args.program.now g.at.program g.at.routine c.requires.0 _ _ _ _ _ _ _ c.in_ok-add_items.ensures)).walk

pub returns-clause-changed : goal.returns-clause-changed
returns-clause-changed g c =
    are_changed _ _ _ _ _ _ c.new.ensures.items c.new-2.ensures.items
    (all_added c.args.program.now g.at.routine g.at.arguments (supply_of c.args.supply.now) c.args.terms.now _ c.add_places.new.terms _ _ c.in_ok-add_places.ensures c.add_items.new.terms _ _ (items_of c.args.program.now g.at.program g.at.routine c.requires.0 _ _ _ _ _ _ _ c.in_ok-add_items.ensures))
