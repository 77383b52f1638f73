use Rattle.std.proofs.Common.{◌++◌, ◌∷◌, [], None, length, ap, ◌∙◌, is_ok, if◌then◌else◌}
use Rattle.spv_union_find.specs.declared.signatures.chains.Link.{Link}
use Rattle.spv_union_find.proofs.signatures.ChainLemmas.{pushed}
use Rattle.spv_union_find.proofs.signatures.chains.Chains.push.Goals as goal

pub chain_one-requires-clause-linked : goal.chain_one-requires-clause-linked
chain_one-requires-clause-linked c =
    let x : Link = record { hash = c.args.hash; previous = None } in
    pushed _ _ _ _ x c.self.invariant.linked
    (c.push.ensures.items ∙ ap (λ r. if is_ok r then c.self.inside.links.items ++ x ∷ [] else c.self.inside.links.items) c.unwrap.ensures)
    (ap length c.as_slice-place.ensures.value)
