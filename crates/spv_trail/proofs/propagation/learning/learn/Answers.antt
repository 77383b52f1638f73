use Rattle.std.proofs.Common.{List, sym, subst, refl}
use Rattle.spv_term.specs.Arena.{tree}
use Rattle.spv_proof_rules.specs.Stand.{question}
use Rattle.spv_assignments.specs.declared.partial_assignment.facts.Known.{Known}
use Rattle.spv_decisions.specs.literal_lookup.Facts.{AreCores}
use Rattle.spv_decisions.specs.literal_lookup.Clashes.{NoneClashes}
use Rattle.spv_trail.specs.propagation.Learning.{MayCite}
use Rattle.spv_trail.proofs.propagation.Cores.{standing_truth}
use Rattle.spv_trail.proofs.propagation.Learned.{contradicts_none, contradicts_some, learned_by, ended_by}
use Rattle.spv_trail.proofs.trail_states.Growing.{formula_truth}
use Rattle.spv_trail.proofs.propagation.learning.learn.Goals as goal

pub contradiction-requires-clause-known : goal.contradiction-requires-clause-known
contradiction-requires-clause-known c = subst (λ (ks : List Known). AreCores c.args.terms.now ks) (sym c.as_slice.ensures.value) c.requires.known

pub contradiction-requires-clause-added : goal.contradiction-requires-clause-added
contradiction-requires-clause-added c = record { in_range = c.standing-said.ensures.inside; bare = c.standing-said.ensures.bare }

pub returns-in-Some : goal.returns-in-Some
returns-in-Some c =
    λ cases ls may. (
      ended_by c.args.terms.now c.args.condition.now c.args.falsity cases c.args.derivation.now c.core_number.new.derivation c.contradiction.new.derivation c.args.known.now.items ls c.args.t c.args.truth c.args.number c.standing-said.result c.in_ok-fact.fact c.part_of.result c.part_of.ensures
          c.standing-said.ensures
          (λ m. c.in_ok-fact.ensures cases c.args.t c.args.truth m.path c.standing-said.ensures
          (standing_truth c.args.terms.now c.args.t c.args.truth c.standing-said.result c.standing-said.ensures (formula_truth (question c.args.terms.now c.args.condition.now) m.formulas (tree c.args.terms.now c.args.t) m.formula)) m.says)
          may c.in-Some.end
          (λ cs m k. contradicts_some c.args.terms.now c.args.condition.now c.args.falsity _ _ _ _ _ c.in-Some.end c.in-Some.is c.in_ok-end.ensures cs (subst (λ (ks : List Known). MayCite c.args.terms.now c.args.condition.now c.args.falsity cs c.core_number.new.derivation ks) (sym c.as_slice.ensures.value) m) k),
      refl,
    )

pub returns-in_ok-push-in-None : goal.returns-in_ok-push-in-None
returns-in_ok-push-in-None c =
    λ cases ls may. learned_by c.args.terms.now c.args.condition.now c.args.falsity cases c.args.derivation.now c.core_number.new.derivation c.contradiction.new.derivation c.args.known.now.items ls c.args.t c.args.truth c.args.number c.standing-said.result c.in_ok-fact.fact c.part_of.result c.part_of.ensures
    c.standing-said.ensures
    (λ m. c.in_ok-fact.ensures cases c.args.t c.args.truth m.path c.standing-said.ensures
    (standing_truth c.args.terms.now c.args.t c.args.truth c.standing-said.result c.standing-said.ensures (formula_truth (question c.args.terms.now c.args.condition.now) m.formulas (tree c.args.terms.now c.args.t) m.formula)) m.says)
    may c.push.new.self.items
    (subst (λ (ks : List Known). NoneClashes c.args.terms.now ks (record { term = c.standing-said.result.core; part = c.part_of.result; fact = c.in_ok-fact.fact })) c.as_slice.ensures.value (contradicts_none c.args.terms.now c.args.condition.now c.args.falsity _ _ _ _ _ c.in-None.is c.in_ok-end.ensures).0.0) c.in_ok-push-in-None.ensures.items (contradicts_none c.args.terms.now c.args.condition.now c.args.falsity _ _ _ _ _ c.in-None.is c.in_ok-end.ensures).1
