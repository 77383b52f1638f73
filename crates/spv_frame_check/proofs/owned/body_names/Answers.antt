use Rattle.std.proofs.Common.{List, ap, ◌∙◌}
use Rattle.spv_logic.specs.declared.names.names.Symbol.{Symbol}
use Rattle.spv_program.specs.declared.types.Item.{Item}
use Rattle.spv_program.specs.typed.ProgramViews.{routine_of}
use Rattle.spv_frame_check.specs.Sets.{with_names}
use Rattle.spv_frame_check.specs.Owned.{initial_names}
use Rattle.spv_frame_check.proofs.Owns.{body_is}
use Rattle.spv_frame_check.proofs.owned.body_names.Goals as goal

pub returns : goal.returns
returns c =
    body_is (routine_of c.args.routine.now) _ _ c.in_ok-names.ensures
    (c.in_ok-add_starts.ensures ∙ ap (λ (is : List (Symbol × Item)). with_names c.in_ok-names.names (initial_names is)) c.as_slice.ensures)
