use Rattle.std.proofs.Common.{◌<◌, length, subst, sym, ℕ, Option}
use Rattle.spv_union_find.proofs.signatures.ChainLemmas.{Walks, height, walk_in, walk_here, walk_on, walk_less, walk_end}
use Rattle.spv_union_find.proofs.signatures.chains.last_below.Goals as goal

pub link_at-link-requires : goal.link_at-link-requires
link_at-link-requires c = walk_in _ _ _ _ _ c.requires.linked (subst (λ (o : Option ℕ). Walks c.args.links.now (length c.args.buckets.now) c.args.below c.args.hash o) c.in-Some.is c.loop-at.invariant)

pub returns-then-link-hash : goal.returns-then-link-hash
returns-then-link-hash c = walk_here _ _ _ _ _ c.requires.linked (subst (λ (o : Option ℕ). Walks c.args.links.now (length c.args.buckets.now) c.args.below c.args.hash o) c.in-Some.is c.loop-at.invariant) _ c.link_at-link.ensures c.if-link-hash.true

pub loop-at-smaller : goal.loop-at-smaller
loop-at-smaller c =
    subst (λ (o : Option ℕ). height c.link_at-link.result.previous < height o) (sym c.in-Some.is)
    (walk_less _ _ _ _ _ c.requires.linked (subst (λ (o : Option ℕ). Walks c.args.links.now (length c.args.buckets.now) c.args.below c.args.hash o) c.in-Some.is c.loop-at.invariant) _ c.link_at-link.ensures)

pub loop-at-preserved : goal.loop-at-preserved
loop-at-preserved c = walk_on _ _ _ _ _ c.requires.linked (subst (λ (o : Option ℕ). Walks c.args.links.now (length c.args.buckets.now) c.args.below c.args.hash o) c.in-Some.is c.loop-at.invariant) _ c.link_at-link.ensures c.if-link-hash.false

pub returns : goal.returns
returns c = walk_end _ _ _ _ (subst (λ (o : Option ℕ). Walks c.args.links.now (length c.args.buckets.now) c.args.below c.args.hash o) c.in_default.is c.loop-at.invariant)
