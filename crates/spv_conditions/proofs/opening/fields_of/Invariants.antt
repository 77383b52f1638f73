use Rattle.std.proofs.Common.{◌≡◌, ◌++◌, drop, map}
use Rattle.spv_logic.specs.declared.types.Field.{Field}
use Rattle.spv_program.specs.Types.{sort_of}
use Rattle.spv_program.specs.declared.types.TypeField.{TypeField}
use Rattle.spv_conditions.proofs.opening.fields_of.Given as goal

abbrev pub invariant-loop-f : goal.invariant-loop-f
invariant-loop-f l =
    let shown : TypeField → Field = λ f. record { name = f.name; sort = sort_of l.forms f.of } in
    l.made.items ++ map shown (drop l.f-index l.fields) ≡ map shown l.fields
