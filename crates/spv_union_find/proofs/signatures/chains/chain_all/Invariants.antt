use Rattle.std.proofs.Common.{◌≡◌, ◌≤◌, map, length}
use Rattle.std.specs.Vec.{vec_capacity}
use Rattle.spv_union_find.specs.signatures.Chains.{AreLinked}
use Rattle.spv_union_find.proofs.signatures.chains.chain_all.Given as goal

abbrev pub invariant-loop-place : goal.invariant-loop-place
invariant-loop-place l = record {
  linked : AreLinked l.links.items l.buckets.items l.place;
  hashes : map (λ x. x.hash) l.links.items ≡ map (λ x. x.hash) l.fn.links.items;
  many : length l.links.items ≡ length l.fn.links.items;
  count : length l.buckets.items ≡ length l.fn.buckets.items;
  room : vec_capacity l.fn.links ≤ vec_capacity l.links;
}
