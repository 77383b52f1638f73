use Rattle.std.proofs.Common.{List, map, ap, ◌∙◌}
use Rattle.spv_program.specs.declared.typed.programs.Formal.{Formal}
use Rattle.spv_program.specs.typed.ProgramViews.{formal_of, routine_of}
use Rattle.spv_frame_check.specs.Sets.{with_names}
use Rattle.spv_frame_check.specs.Owned.{formal_names}
use Rattle.spv_frame_check.proofs.Owns.{entry_is}
use Rattle.spv_frame_check.proofs.owned.entry_names.Goals as goal

pub returns : goal.returns
returns c = entry_is (routine_of c.args.routine.now) _ c.new-names.ensures _
    (c.in_ok-add_formals.ensures ∙ ap (λ (fs : List Formal). with_names c.new-names.result (formal_names (map formal_of fs))) c.as_slice.ensures)
