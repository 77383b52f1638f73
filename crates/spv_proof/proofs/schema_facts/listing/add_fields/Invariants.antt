use Rattle.std.proofs.Common.{[], ◌∷◌, Some, take, map, filter}
use Rattle.spv_schemas.specs.declared.kinds.SchemaKind.TheVariants.{FieldPutOther}
use Rattle.spv_term.specs.Arena.{tree}
use Rattle.spv_proof.specs.schema_facts.Instances.{Adds, instance, is_instance}
use Rattle.spv_proof.proofs.schema_facts.listing.add_fields.Given as goal

abbrev pub invariant-loop-field : goal.invariant-loop-field
invariant-loop-field l =
    Adds l.terms l.fn.found.items l.found.items (filter (is_instance l.terms) (map (λ field. instance FieldPutOther (tree l.terms l.changed ∷ []) (Some field.name)) (take l.field-index l.field-items)))
