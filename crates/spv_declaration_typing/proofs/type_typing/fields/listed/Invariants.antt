use Rattle.std.proofs.Common.{◌≡◌, take}
use Rattle.spv_declaration_typing.specs.type_typing.Reading.{fields_of}
use Rattle.spv_declaration_typing.proofs.type_typing.fields.listed.Given as goal

abbrev pub invariant-loop-place : goal.invariant-loop-place
invariant-loop-place l = l.made.items ≡ fields_of (take l.place l.fields)
