use Rattle.std.proofs.Common.{◌∙◌}
use Rattle.std.proofs.lemmas.Result.{IfOk-weaker}
use Rattle.spv_proof.proofs.schema_facts.Linking.{in_table}
use Rattle.spv_proof.proofs.schema_facts.relations.table.Goals as goal

pub returns : goal.returns
returns c =
    IfOk-weaker c.grouped.result _ _ (λ groups h q k. h q ∙ in_table c.args.terms.now c.args.relation c.args.used.now c.in_ok-links.links c.requires c.in_ok-links.ensures.all q k) c.grouped.ensures
