use Rattle.std.proofs.Common.{option_map, ap}
use Rattle.spv_program.specs.typed.FormulaViews.{annotation_of}
use Rattle.spv_flow_parts.proofs.calls.at_call.gives_of.Goals as goal

pub exit_at_call-requires : goal.exit_at_call-requires
exit_at_call-requires g c = (c.requires.0, (c.requires.1.0, (ap (option_map annotation_of) c.in-Some.is, (c.requires.1.1.0, (c.requires.1.1.1.0, (c.requires.1.1.1.1.0, c.requires.1.1.1.1.1))))))
