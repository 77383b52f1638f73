use Rattle.std.proofs.Common.{sym, subst}
use Rattle.spv_explanations.specs.declared.equalities.works.Work.TheVariants.{Between, Congruent}
use Rattle.spv_explanations.specs.equalities.Links.{AllKnown, HasLink, IsWay}
use Rattle.spv_derivations.proofs.derivation.Bridges.{on_ok}
use Rattle.spv_explanations.proofs.equalities.Owed.{explained-congruent, explained-way, node-within, stands-insert, stands-push}
use Rattle.spv_explanations.proofs.equalities.works.show_between.Goals as goal

pub returns-in-Some-clause-stands : goal.returns-in-Some-clause-stands
returns-in-Some-clause-stands c =
    on_ok c.push_two.result c.push_two.ensures
    (λ is.
    stands-push c.args.terms.now c.args.graph.now c.args.derivation.now c.args.known.now c.args.works.now.items c.push_two.new.works.items (Between c.args.s c.args.t) (Congruent c.in-Some.p c.in-Some.q) c.requires.stands c.requires.same
    (explained-congruent c.args.graph.now c.in_ok-links.links.items c.args.s c.args.t c.in-Some.p c.in-Some.q c.requires.same c.in_ok-links.ensures
    (subst (λ ls. HasLink ls c.in-Some.p c.in-Some.q) c.as_slice.ensures.value c.in-Some.ensures.some)) is)

pub chain-requires-clause-way : goal.chain-requires-clause-way
chain-requires-clause-way c =
    subst (λ ls. IsWay c.args.terms.now c.args.derivation.now c.args.known.now c.args.s ls c.args.t) (sym c.as_slice-in-None.ensures.value)
    (explained-way c.args.graph.now c.args.terms.now c.args.derivation.now c.args.known.now c.in_ok-links.links.items c.args.s c.args.t c.requires.stands.reasons.backed c.requires.same c.in_ok-links.ensures
    (subst (λ ls. AllKnown c.args.known.now ls) c.as_slice.ensures.value c.in-None.ensures.none))

pub chain-requires-clause-within : goal.chain-requires-clause-within
chain-requires-clause-within c = node-within c.args.terms.now c.args.graph.now c.args.s c.requires.stands.reasons.of c.requires.same.left

pub returns-clause-stands : goal.returns-clause-stands
returns-clause-stands c =
    on_ok c.insert.result c.insert.ensures
    (λ is.
    stands-insert c.args.terms.now c.args.graph.now c.args.derivation.now c.chain.new.derivation c.args.known.now c.insert.new.self c.args.works.now.items c.args.s c.args.t c.in_ok-number-in-None.number c.requires.stands c.in_ok-number-in-None.ensures.gains is)
