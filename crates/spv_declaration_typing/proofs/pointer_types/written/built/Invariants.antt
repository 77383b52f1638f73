use Rattle.std.proofs.Common.{◌≡◌, map, take}
use Rattle.spv_typing.specs.Merging as spec
use Rattle.spv_declaration_typing.specs.pointer_types.Views.{all_written}
use Rattle.spv_declaration_typing.proofs.pointer_types.written.built.Given as goal

abbrev pub invariant-loop-form : goal.invariant-loop-form
invariant-loop-form l = all_written l.types.items ≡ map spec.Built (take l.form-index l.forms)
