use Rattle.std.proofs.Common.{◌≡◌, drop}
use Rattle.spv_program.specs.Types.{field_type}
use Rattle.spv_environments.proofs.fields.field_type.Given as goal

abbrev pub invariant-loop-field : goal.invariant-loop-field
invariant-loop-field l = field_type (drop l.field-index l.fields) l.x ≡ field_type l.fields l.x
