use Rattle.std.proofs.Common.{List, map, ap, ◌∙◌}
use Rattle.spv_program.specs.declared.typed.programs.Formal.{Formal}
use Rattle.spv_logic.specs.declared.names.names.Symbol.{Symbol}
use Rattle.spv_logic.specs.declared.types.TypeId.{TypeId}
use Rattle.spv_program.specs.typed.ProgramViews.{formal_of, routine_of}
use Rattle.spv_frame_check.specs.Sets.{with_names}
use Rattle.spv_frame_check.specs.Owned.{formal_names, typed_names}
use Rattle.spv_frame_check.proofs.Owns.{own_is}
use Rattle.spv_frame_check.proofs.owned.own_names.Goals as goal

pub returns : goal.returns
returns c =
    own_is (routine_of c.args.routine.now) _ c.new-names.ensures _ _ _
    (c.in_ok-add_formals.ensures ∙ ap (λ (fs : List Formal). with_names c.new-names.result (formal_names (map formal_of fs))) c.as_slice.ensures)
    c.in_ok-add_result.ensures
    (c.in_ok-add_locals.ensures ∙ ap (λ (ns : List (Symbol × TypeId)). with_names c.add_result.new.set (typed_names ns)) c.as_slice-2.ensures)
