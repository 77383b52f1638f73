use Rattle.std.proofs.Common.{map, filter, ap, ◌∙◌}
use Rattle.std.specs.List.{flat_map}
use Rattle.std.proofs.lemmas.Result.{IfOk-weaker}
use Rattle.spv_proof.specs.schema_facts.Groups.{has_key, has_member}
use Rattle.spv_proof.proofs.schema_facts.Grouping as grouping
use Rattle.spv_proof.proofs.schema_facts.groups.grouped.Goals as goal

pub returns : goal.returns
returns c =
    let links = c.args.links.now in
    IfOk-weaker c.by_key.result _ _
    (λ groups h q.
    ap (map (λ l. l.member))
    (h q ∙ ap (filter (has_key q)) (c.as_slice-2.ensures.value ∙ (c.in_ok-links.ensures ∙ (λ i. flat_map (λ t. (c.in_ok-members.ensures t.0 ∙ ap (filter (has_member t.0)) c.as_slice.ensures) i) c.args.ts.now))))
    ∙ grouping.grouped links c.requires q c.args.ts.now)
    c.by_key.ensures
