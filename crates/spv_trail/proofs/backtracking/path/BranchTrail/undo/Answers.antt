use Rattle.std.proofs.Common.{List, sym, subst, ◌∙◌, refl}
use Rattle.spv_assignments.specs.declared.partial_assignment.facts.Known.{Known}
use Rattle.spv_assignments.specs.assignment_vector.Sayings.{AreThere}
use Rattle.spv_trail.proofs.backtracking.Held.{there_of}
use Rattle.spv_trail.proofs.backtracking.Marking.{earlier_stays}
use Rattle.spv_trail.proofs.backtracking.path.BranchTrail.undo.Goals as goal

pub listed-requires : goal.listed-requires
listed-requires c = record {
  known = subst (λ (ks : List Known). AreThere c.args.terms.now ks) (sym (c.as_slice.ensures.value ∙ c.keep_known.ensures)) (there_of c.args.terms.now c.args.condition.now _ _ _ c.requires.mark.mark.settled.stored);
}

pub returns-clause-marks : goal.returns-clause-marks
returns-clause-marks c =
    λ cases m h before. earlier_stays c.args.terms.now c.args.condition.now c.args.self.now c.keep.new.self c.keep_known.new.known.items c.undo.new.self c.args.mark.now c.keep.ensures c.keep_known.ensures c.undo.ensures.told
    (record { derivation = c.keep.new.self; known = c.keep_known.new.known; both = c.undo.new.self; lists = c.in_ok-self.field-0 }) refl refl refl cases m c.requires.mark.mark.entries_in c.requires.mark.mark.known_in c.undo.ensures.levels h before
