use Rattle.std.proofs.Common.{◌≡◌, drop}
use Rattle.spv_typing.specs.TypeWalk as spec
use Rattle.spv_declaration_typing.specs.type_typing.Reading.{types_of, read_as, indices_of}
use Rattle.spv_declaration_typing.proofs.type_typing.nested.nested.Given as goal

abbrev pub invariant-loop-place : goal.invariant-loop-place
invariant-loop-place l =
    spec.nested (types_of l.scope l.initial.new.items) (indices_of (drop l.place l.indices)) l.fn.element ≡ read_as l.scope l.new.items l.inner
