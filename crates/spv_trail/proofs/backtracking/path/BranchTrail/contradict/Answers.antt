use Rattle.std.proofs.Common.{List, Some, ◌≡◌, sym, subst, refl}
use Rattle.spv_term.specs.Arena.{tree}
use Rattle.spv_assignments.specs.declared.partial_assignment.facts.Known.{Known}
use Rattle.spv_decisions.specs.literal_lookup.Facts.{AreCores}
use Rattle.spv_trail.specs.trail_states.Told.{values_of}
use Rattle.spv_trail.proofs.propagation.Citing.{stored_cores}
use Rattle.spv_trail.proofs.backtracking.Following.{contradicted_value, contradict_ended, contradict_goes}
use Rattle.spv_trail.proofs.backtracking.path.BranchTrail.contradict.Goals as goal

pub value_fact-requires-clause-known : goal.value_fact-requires-clause-known
value_fact-requires-clause-known c =
    subst (λ (ks : List Known). AreCores c.args.terms.now ks) (sym c.as_slice.ensures.value) (stored_cores c.args.terms.now c.args.condition.now _ _ _ c.requires.told.path_told.settled.stored)

pub value_fact-requires-clause-value : goal.value_fact-requires-clause-value
value_fact-requires-clause-value c =
    subst (λ (ks : List Known). values_of c.args.terms.now ks (tree c.args.terms.now c.args.t) ≡ Some c.args.truth) (sym c.as_slice.ensures.value)
    (contradicted_value c.args.terms.now c.args.condition.now c.args.self.now.derivation c.args.self.now.known.items c.args.self.now.both c.args.t c.args.truth c.requires.told.path_told.settled.stored c.requires.contradicts)

pub returns-clause-told : goal.returns-clause-told
returns-clause-told c =
    λ asked cases h. contradict_ended c.args.terms.now c.args.condition.now c.args.self.now c.args.t c.args.truth c.requires.contradicts c.value_fact.new.derivation c.evaluate_all.new.derivation c.in_ok-first.first c.in_ok-second.second c.as_slice.result.now c.as_slice-2.result.now c.as_slice.ensures.value c.as_slice-2.ensures.value
    c.requires.formulas c.in_ok-first.ensures c.in_ok-second.ensures cases h _ refl refl

pub returns-clause-goes : goal.returns-clause-goes
returns-clause-goes c =
    contradict_goes c.args.terms.now c.args.condition.now c.args.self.now c.args.t c.args.truth c.requires.contradicts c.value_fact.new.derivation c.evaluate_all.new.derivation c.in_ok-first.first c.in_ok-second.second c.as_slice.result.now c.as_slice-2.result.now c.as_slice.ensures.value c.as_slice-2.ensures.value
    c.requires.formulas c.in_ok-first.ensures c.in_ok-second.ensures c.requires.told _ refl refl refl
