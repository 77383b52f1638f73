use Rattle.std.proofs.Common.{List, map, ap, ◌∙◌}
use Rattle.spv_program.specs.declared.typed.programs.Formal.{Formal}
use Rattle.spv_logic.specs.declared.names.names.Symbol.{Symbol}
use Rattle.spv_program.specs.declared.types.Item.{Item}
use Rattle.spv_program.specs.typed.ProgramViews.{formal_of, routine_of}
use Rattle.spv_frame_check.specs.Sets.{with_names}
use Rattle.spv_frame_check.specs.Owned.{formal_names, initial_names}
use Rattle.spv_frame_check.proofs.Owns.{exit_is}
use Rattle.spv_frame_check.proofs.owned.exit_names.Goals as goal

pub returns : goal.returns
returns c =
    exit_is (routine_of c.args.routine.now) _ c.new-names.ensures _ _ _
    (c.in_ok-add_formals.ensures ∙ ap (λ (fs : List Formal). with_names c.new-names.result (formal_names (map formal_of fs))) c.as_slice.ensures)
    c.in_ok-add_result.ensures
    (c.in_ok-add_starts.ensures ∙ ap (λ (is : List (Symbol × Item)). with_names c.add_result.new.set (initial_names is)) c.as_slice-2.ensures)
