use Rattle.std.proofs.Common.{List, sym, subst}
use Rattle.spv_logic.specs.declared.conditions.TermId.{TermId}
use Rattle.spv_assignments.specs.declared.partial_assignment.facts.Known.{Known}
use Rattle.spv_assignments.specs.assignment_vector.Sayings.{AreThere}
use Rattle.spv_trail.specs.propagation.Telling.{AreSound, AreTellable}
use Rattle.spv_trail.proofs.backtracking.Held.{there_of, sound_of, tellable_of, values_listed, settled_path, settled_goes}
use Rattle.spv_trail.proofs.backtracking.path.BranchTrail.settle.Goals as goal

pub listed-requires : goal.listed-requires
listed-requires c = record {
  known = subst (λ (ks : List Known). AreThere c.args.terms.now ks) (sym c.as_slice.ensures.value) (there_of c.args.terms.now c.args.condition.now _ _ _ c.requires.held.stored);
}

pub tell_values-requires-clause-known : goal.tell_values-requires-clause-known
tell_values-requires-clause-known c =
    subst (λ (ks : List Known). AreSound c.args.terms.now c.args.condition.now ks) (sym c.as_slice-2.ensures.value) (sound_of c.args.terms.now c.args.condition.now c.args.ground.now _ _ _ c.requires.held.asked.ground c.requires.held.stored)

pub tell_values-requires-clause-questions : goal.tell_values-requires-clause-questions
tell_values-requires-clause-questions c =
    subst (λ (ts : List TermId). AreTellable c.args.terms.now c.args.condition.now c.args.self.now.both ts) (sym c.as_slice-3.ensures.value) (tellable_of c.args.terms.now c.args.condition.now c.args.ground.now c.args.self.now.both c.requires.held.asked)

pub tell_values-requires-clause-values : goal.tell_values-requires-clause-values
tell_values-requires-clause-values c =
    values_listed c.args.terms.now c.args.self.now.known.items c.as_slice.result.now c.as_slice-2.result.now c.in_ok-lists.lists c.as_slice-5.result.now c.as_slice.ensures.value c.as_slice-2.ensures.value c.as_slice-5.ensures.value c.in_ok-lists.ensures

pub returns-clause-told : goal.returns-clause-told
returns-clause-told c =
    settled_path c.args.terms.now c.args.condition.now c.args.ground.now c.args.self.now c.requires.held c.tell_values.new.derivation c.tell_values.new.both c.in_ok-lists.lists c.as_slice.result.now c.as_slice-2.result.now c.as_slice-3.result.now c.as_slice-4.result.now c.as_slice-5.result.now
    c.as_slice.ensures.value c.as_slice-2.ensures.value c.as_slice-3.ensures.value c.as_slice-4.ensures.value c.as_slice-5.ensures.value c.in_ok-lists.ensures c.in_ok-tell_values.ensures.tells c.in_ok-tell_values.ensures.both

pub returns-clause-goes : goal.returns-clause-goes
returns-clause-goes c =
    settled_goes c.args.terms.now c.args.condition.now c.args.ground.now c.args.self.now c.requires.held c.tell_values.new.derivation c.tell_values.new.both c.in_ok-lists.lists c.as_slice.result.now c.as_slice-2.result.now c.as_slice-3.result.now c.as_slice-4.result.now c.as_slice-5.result.now
    c.as_slice.ensures.value c.as_slice-2.ensures.value c.as_slice-3.ensures.value c.as_slice-4.ensures.value c.as_slice-5.ensures.value c.in_ok-lists.ensures c.in_ok-tell_values.ensures.tells c.requires.path c.in_ok-tell_values.ensures.goes
