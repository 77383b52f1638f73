use Rattle.std.proofs.Common.{◌%◌, None, length, get_or, ap, ◌∙◌, arith}
use Rattle.spv_union_find.specs.declared.signatures.chains.Link.{Link}
use Rattle.spv_union_find.specs.signatures.Chains.{link_at}
use Rattle.spv_union_find.proofs.signatures.ChainLemmas.{chained, hashes_same}
use Rattle.spv_union_find.proofs.signatures.chains.chain_one.Goals as goal

pub returns-clause-linked : goal.returns-clause-linked
returns-clause-linked c =
    let v = ap length c.as_slice-2.ensures.value in
    let w = c.bucket_of-bucket.ensures.within in
    chained _ _ _ _ _ c.requires.linked c.requires.within
    (ap (λ (l : Link). l.hash) c.link_at-hash.ensures ∙ ap (λ zs. (link_at zs c.args.place).hash) c.as_slice.ensures.value)
    (c.bucket_of-bucket.ensures.is ∙ ap (λ n. c.link_at-hash.result.hash % n) v)
    (omega (arith, v, w))
    (c.end_of-previous.ensures ∙ ap (λ zs. get_or zs c.bucket_of-bucket.result None) c.as_slice-3.ensures.value)

pub returns-clause-hashes : goal.returns-clause-hashes
returns-clause-hashes c =
    hashes_same _ _ _ c.requires.within
    (ap (λ (l : Link). l.hash) c.link_at-hash.ensures ∙ ap (λ zs. (link_at zs c.args.place).hash) c.as_slice.ensures.value)
