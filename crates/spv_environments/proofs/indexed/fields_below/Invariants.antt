use Rattle.std.proofs.Common.{◌≡◌, nat_lt, drop}
use Rattle.std.specs.List.{list_all}
use Rattle.spv_program.specs.declared.types.TypeField.{TypeField}
use Rattle.spv_environments.proofs.indexed.fields_below.Given as goal

abbrev pub invariant-loop-field : goal.invariant-loop-field
invariant-loop-field l = list_all (λ (f : TypeField). nat_lt f.of.0 l.count) (drop l.field-index l.fields) ≡ list_all (λ (f : TypeField). nat_lt f.of.0 l.count) l.fields
