use Rattle.std.proofs.Common.{List, ◌+◌, drop, get_or, subst}
use Rattle.std.proofs.lemmas.List.{at_drop_more}
use Rattle.spv_congruence.specs.declared.facts.Link.{Link}
use Rattle.spv_congruence.specs.declared.facts.Link.TheVariants.{Told}
use Rattle.spv_explanations.proofs.equalities.Ways.{Chained, chained-next}
use Rattle.spv_explanations.proofs.equalities.links.chain.Goals as goal

pub extended-requires : goal.extended-requires
extended-requires c =
    let here =
    subst (λ ls. Chained c.args.terms.now c.args.derivation.now c.loop-link.derivation c.args.known.now c.args.s c.args.t c.loop-link.way ls)
    (at_drop_more (λ (ls : List Link). ls) c.args.links.now c.loop-link.link-index (Told 0) c.loop-link-test.true) c.loop-link.invariant in
    (here.way.0, here.way.1)

pub loop-link-preserved : goal.loop-link-preserved
loop-link-preserved c =
    chained-next c.args.terms.now c.args.derivation.now c.loop-link.derivation c.extended.new.derivation c.args.known.now c.args.s c.args.t c.loop-link.way c.in_ok-way.way
    (get_or c.args.links.now c.loop-link.link-index (Told 0)) (drop (c.loop-link.link-index + 1) c.args.links.now)
    (subst (λ ls. Chained c.args.terms.now c.args.derivation.now c.loop-link.derivation c.args.known.now c.args.s c.args.t c.loop-link.way ls)
    (at_drop_more (λ (ls : List Link). ls) c.args.links.now c.loop-link.link-index (Told 0) c.loop-link-test.true) c.loop-link.invariant)
    (λ u f shown so_far leads. c.in_ok-way.ensures.reaches c.args.s u f shown so_far leads) c.in_ok-way.ensures.literals
