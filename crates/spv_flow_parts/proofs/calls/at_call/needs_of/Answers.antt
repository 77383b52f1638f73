use Rattle.std.proofs.Common.{option_map, refl, ap}
use Rattle.spv_program.specs.typed.FormulaViews.{annotation_of}
use Rattle.spv_flow_parts.proofs.calls.at_call.needs_of.Goals as goal

pub entry_at_call-requires : goal.entry_at_call-requires
entry_at_call-requires g c = (refl, (refl, (c.requires.0, (ap (option_map annotation_of) c.in-Some.is, c.requires.1))))
