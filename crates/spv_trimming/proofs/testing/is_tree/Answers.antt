use Rattle.std.proofs.Common.{rules, arith, ◌≡◌, ◌<◌, ◌≤◌, [], length, IsTrue}
use Rattle.std.proofs.lemmas.Grind.{common_steps}
use Rattle.std.proofs.lemmas.List.{nil_from_length}
use Rattle.spv_trimming.proofs.Trees.{goes-on, at-end}
use Rattle.spv_trimming.proofs.testing.is_tree.Goals as goal

pub loop-place-preserved : goal.loop-place-preserved
loop-place-preserved c =
    let taken : IsTrue c.in_ok-takes.field-0 = first_of (search rules, cc, grind (arith, common_steps)) in
    let within : c.loop-place.place < length c.args.nodes.now = first_of (omega arith, search rules, grind (arith, common_steps)) in
    λ h. c.loop-place.invariant (goes-on c.loop-place.waiting.items c.loop-place.place c.index-nodes-place.result c.args.nodes.now c.takes.new.waiting.items (c.in_ok-takes.ensures taken) within c.index-nodes-place.is h)

pub returns : goal.returns
returns c =
    λ e.
    let empty : c.loop-place.waiting.items ≡ [] = first_of (search rules, search (rules, nil_from_length), grind (arith, common_steps, nil_from_length)) in
    let behind : length c.args.nodes.now ≤ c.loop-place.place = first_of (omega arith, search rules, grind (arith, common_steps)) in
    c.loop-place.invariant (at-end c.loop-place.place c.loop-place.waiting.items c.args.nodes.now empty behind)
