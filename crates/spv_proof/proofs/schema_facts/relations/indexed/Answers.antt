use Rattle.std.proofs.Common.{◌<◌, length, sym, ◌∙◌, subst}
use Rattle.spv_proof.specs.declared.schema_facts.relations.Relation.TheVariants.{Indices}
use Rattle.spv_proof.specs.schema_facts.Relations.{Tells}
use Rattle.spv_proof.proofs.schema_facts.Relating.{not_indexed, no_index, first_in, index_told}
use Rattle.spv_proof.proofs.schema_facts.relations.indexed.Goals as goal

pub returns-then-not-is_about_array : goal.returns-then-not-is_about_array
returns-then-not-is_about_array c =
    not_indexed c.args.terms.now c.law_arena.ensures c.args.u c.node-node.result.now c.node-node.ensures (sym c.is_about_array.ensures ∙ c.if-not-is_about_array.true)

pub returns-in_err-array : goal.returns-in_err-array
returns-in_err-array c =
    subst (Tells c.args.terms.now Indices c.args.u) (sym c.from_residual.ensures)
    (no_index c.args.terms.now c.law_arena.ensures c.args.u c.node-node.result.now c.node-node.ensures (subst (λ ts. length ts < 2) c.as_slice.ensures c.in_err-array.ensures.missing))

pub array_link-requires : goal.array_link-requires
array_link-requires c =
    first_in c.args.terms.now c.law_arena.ensures c.args.u c.node-node.result.now c.node-node.ensures c.in_ok-array.array c.in_ok-array.index _ (sym c.as_slice.ensures ∙ c.in_ok-array.ensures.there)

pub returns : goal.returns
returns c =
    index_told c.args.terms.now c.law_arena.ensures c.args.u c.node-node.result.now c.node-node.ensures c.in_ok-array.array c.in_ok-array.index _ (sym c.as_slice.ensures ∙ c.in_ok-array.ensures.there)
    (sym c.is_about_array.ensures ∙ c.if-not-is_about_array.false) c.array_link.result c.array_link.ensures
