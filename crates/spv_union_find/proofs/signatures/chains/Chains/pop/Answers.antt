use Rattle.std.proofs.Common.{◌%◌, ◌++◌, length, ap, ◌∙◌, refl, arith}
use Rattle.std.specs.Option.{option_to_list}
use Rattle.std.proofs.lemmas.List.{length-set, length_push}
use Rattle.spv_union_find.proofs.signatures.ChainLemmas.{popped}
use Rattle.spv_union_find.proofs.signatures.chains.Chains.pop.Goals as goal

pub invariant_of-self : goal.invariant_of-self
invariant_of-self c =
    let e = c.pop.ensures.items ∙ ap (λ o. c.pop.new.self.items ++ option_to_list o) c.unwrap-link.ensures in
    let v = ap length c.as_slice.ensures.value in
    let w = c.bucket_of-bucket.ensures.within in
    let n = ap length e ∙ length_push c.pop.new.self.items c.unwrap-link.result in
    let m = length-set c.self.inside.buckets.items c.bucket_of-bucket.result c.unwrap-link.result.previous in
    let f = c.self.invariant.fit in
    record {
      linked = popped _ _ _ _ c.bucket_of-bucket.result c.unwrap-link.result e c.self.invariant.linked (c.bucket_of-bucket.ensures.is ∙ ap (λ n. c.unwrap-link.result.hash % n) v) (omega (arith, v, w)) refl;
      fit = omega (arith, n, m, f);
    }
