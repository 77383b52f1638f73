use Rattle.std.proofs.Common.{◌≡◌, ◌≤◌, ◌-◌, [], ◌∷◌, length, ap, sym, subst, ◌∙◌, arith}
use Rattle.spv_rechecking.specs.Parts.{are_placed, counts}
use Rattle.spv_rechecking.proofs.PartsLemmas.{ArePlacing, begins, enough, one_more, all_placed}
use Rattle.spv_rechecking.proofs.parts.parts_of.Goals as goal

pub loop-place-init : goal.loop-place-init
loop-place-init c = begins c.args.nodes.now c.new-roots.result.items c.new-parts.result.items c.new-roots.ensures.items c.new-parts.ensures.items

pub push_parts-requires : goal.push_parts-requires
push_parts-requires c =
    subst (λ n. n ≤ length c.loop-place.roots.items) (sym c.cases_of-count.ensures)
    (enough c.args.nodes.now c.requires.tree c.loop-place.roots.items c.loop-place.parts.items c.loop-place.place c.loop-place.invariant (c.loop-place.place - 1) (omega (arith, c.loop-place-test.true)) c.index-nodes-place.result)

pub loop-place-preserved : goal.loop-place-preserved
loop-place-preserved c =
    one_more c.args.nodes.now c.requires.tree c.loop-place.roots.items c.loop-place.parts.items c.loop-place.place c.loop-place.invariant (c.loop-place.place - 1) (omega (arith, c.loop-place-test.true)) c.index-nodes-place.result c.cases_of-count.result c.cases_of-count.ensures
    c.push_parts.new.roots.items c.in_ok-push_parts.ensures.roots c.push_parts.new.parts.items c.in_ok-push_parts.ensures.parts

pub returns : goal.returns
returns c =
    let none : c.loop-place.place ≡ 0 = omega (arith, c.loop-place-test.false) in
    ap (are_placed 0 (0 ∷ []) (counts c.args.nodes.now)) c.reverse.ensures.items
    ∙ all_placed c.args.nodes.now c.requires.tree c.loop-place.roots.items c.loop-place.parts.items
    (subst (ArePlacing c.args.nodes.now c.loop-place.roots.items c.loop-place.parts.items) none c.loop-place.invariant)
