use Rattle.std.proofs.Common.{◌≤◌, subst, sym, arith}
use Rattle.spv_tree.specs.syntax.Types.{TypeDenoter, Field}
use Rattle.spv_tree.specs.syntax.Model.TypeSizes.{more_types_of, more_fields_of, type_size, more_types_size, field_size, more_fields_size}
use Rattle.spv_tests.proofs.flat.Sizes.{type_within, field_within}
use Rattle.spv_tests.proofs.flat.types.+types.Goals as goal

pub more_types-type_denoter-requires : goal.more_types-type_denoter-requires
more_types-type_denoter-requires t c =
    let within : type_size c.of-item.result ≤ more_types_size (more_types_of c.args.more.now) =
    subst (λ (t : TypeDenoter). type_size t ≤ more_types_size (more_types_of c.args.more.now)) (sym c.of-item.is)
    (type_within c.args.more.now c.loop-of.of-index c.of-item.result (omega arith)) in
    (omega (arith, c.decreases), tt)

pub more_fields-field-requires : goal.more_fields-field-requires
more_fields-field-requires t c =
    let within : field_size c.part-item.result ≤ more_fields_size (more_fields_of c.args.more.now) =
    subst (λ (f : Field). field_size f ≤ more_fields_size (more_fields_of c.args.more.now)) (sym c.part-item.is)
    (field_within c.args.more.now c.loop-part.part-index c.part-item.result (omega arith)) in
    (omega (arith, c.decreases), tt)
