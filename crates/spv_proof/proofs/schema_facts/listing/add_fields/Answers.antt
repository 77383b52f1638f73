use Rattle.std.proofs.Common.{subst}
use Rattle.spv_term.specs.Arena.{tree}
use Rattle.spv_proof.specs.schema_facts.Instances.{Adds}
use Rattle.spv_proof.proofs.schema_facts.FirstTerms.{fields_listed}
use Rattle.spv_proof.proofs.schema_facts.listing.add_fields.Goals as goal

pub returns : goal.returns
returns c =
    let a = c.args.terms.now in
    subst (Adds a c.args.found.now.items c.loop-field.found.items)
    (fields_listed a (tree a c.args.changed) c.fields-field-items.result.now _ c.fields-field-items.ensures c.loop-field.field-index c.loop-field-test.false) c.loop-field.invariant
