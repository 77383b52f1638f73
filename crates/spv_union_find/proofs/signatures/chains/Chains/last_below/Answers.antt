use Rattle.std.proofs.Common.{List, ap, ◌∙◌}
use Rattle.spv_union_find.specs.declared.signatures.chains.Link.{Link}
use Rattle.spv_union_find.specs.signatures.Chains as spec
use Rattle.spv_union_find.proofs.signatures.ChainLemmas.{last_seen}
use Rattle.spv_union_find.proofs.signatures.chains.Chains.last_below.Goals as goal

pub returns : goal.returns
returns c =
    c.last_below.ensures
    ∙ (ap (λ (ls : List Link). spec.last_where (spec.has_hash ls c.args.hash) c.args.below) c.as_slice.ensures.value
    ∙ last_seen _ _ _ _ (ap (λ (h : spec.Hashes). h.hashes) c.self.view_is) c.requires.within)
