use Rattle.std.proofs.Common.{◌≡◌, take}
use Rattle.spv_rule_files.proofs.names.copied_fields.Given as goal

abbrev pub invariant-loop-field : goal.invariant-loop-field
invariant-loop-field l = l.copy ≡ take l.field-index l.fields
