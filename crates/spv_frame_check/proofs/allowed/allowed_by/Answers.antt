use Rattle.std.proofs.Common.{map}
use Rattle.spv_program.specs.typed.ProgramViews.{global_of}
use Rattle.spv_frame_check.proofs.Members.{allowed_is}
use Rattle.spv_frame_check.proofs.allowed.allowed_by.Goals as goal

pub returns : goal.returns
returns c =
    allowed_is (map global_of c.args.globals.now) _ _ _ _ c.new-all.ensures c.new-var.ensures c.in_ok-add_globals.ensures c.in_ok-add_var_groups.ensures
