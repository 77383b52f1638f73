use Rattle.std.proofs.Common.{ap}
use Rattle.std.specs.Prelude.{Err}
use Rattle.spv_term.specs.declared.nodes.TermFault.TheVariants.{Size}
use Rattle.spv_term.specs.substitution.Images.{pairs_at, substituted}
use Rattle.spv_term.proofs.substitution.Exits.{same_fault}
use Rattle.spv_term.proofs.substitution.WalkLemmas.{begins, turn_there, turn_fits, turn_less, turn, turn_adds, turn_lacks, nothing_popped, ends_trees, ends_sorts, ends_in_range}
use Rattle.spv_term.proofs.substitution.substitution.substitute_all.Goals as goal

pub loop-work-init : goal.loop-work-init
loop-work-init c =
    begins c.args.terms.now c.law_arena.ensures c.args.pairs.now c.requires.pairs c.args.list.now c.push_visits.new.works.items c.new-works.result.items c.in_ok-images.images
    c.requires.list c.in_ok-push_visits.ensures c.new-works.ensures.items c.in_ok-images.ensures

pub step-requires-clause-in_range : goal.step-requires-clause-in_range
step-requires-clause-in_range c =
    turn_there c.args.terms.now c.law_arena.ensures (pairs_at c.args.terms.now c.args.pairs.now) (substituted c.args.terms.now c.args.pairs.now c.args.list.now) c.loop-work.terms c.loop-work.terms c.args.list.now
    c.loop-work.works.items c.pop.new.self.items c.pop.new.self.items c.in-Some.work c.loop-work.images c.loop-work.images c.in-Some.ensures.items c.loop-work.invariant

pub step-requires-clause-images : goal.step-requires-clause-images
step-requires-clause-images c =
    turn_fits c.args.terms.now c.law_arena.ensures (pairs_at c.args.terms.now c.args.pairs.now) (substituted c.args.terms.now c.args.pairs.now c.args.list.now) c.loop-work.terms c.loop-work.terms c.args.list.now
    c.loop-work.works.items c.pop.new.self.items c.pop.new.self.items c.in-Some.work c.loop-work.images c.loop-work.images c.in-Some.ensures.items c.loop-work.invariant

pub loop-work-smaller : goal.loop-work-smaller
loop-work-smaller c =
    turn_less c.args.terms.now c.law_arena.ensures (pairs_at c.args.terms.now c.args.pairs.now) (substituted c.args.terms.now c.args.pairs.now c.args.list.now) c.loop-work.terms c.step.new.terms c.args.list.now
    c.loop-work.works.items c.pop.new.self.items c.step.new.works.items c.in-Some.work c.loop-work.images c.step.new.images c.in-Some.ensures.items c.loop-work.invariant c.in_ok-step.ensures.step

pub loop-work-preserved : goal.loop-work-preserved
loop-work-preserved c =
    turn c.args.terms.now c.law_arena.ensures (pairs_at c.args.terms.now c.args.pairs.now) (substituted c.args.terms.now c.args.pairs.now c.args.list.now) c.loop-work.terms c.step.new.terms c.args.list.now
    c.loop-work.works.items c.pop.new.self.items c.step.new.works.items c.in-Some.work c.loop-work.images c.step.new.images c.in-Some.ensures.items c.loop-work.invariant c.in_ok-step.ensures.step c.in_ok-step.ensures.grows
    c.in_ok-step.ensures.only

pub returns-in_err-step-clause-only : goal.returns-in_err-step-clause-only
returns-in_err-step-clause-only c =
    turn_adds c.args.terms.now c.law_arena.ensures (pairs_at c.args.terms.now c.args.pairs.now) (substituted c.args.terms.now c.args.pairs.now c.args.list.now) c.loop-work.terms c.step.new.terms c.args.list.now
    c.loop-work.works.items c.pop.new.self.items c.pop.new.self.items c.in-Some.work c.loop-work.images c.loop-work.images c.in-Some.ensures.items c.loop-work.invariant c.in_err-step.ensures.grows c.in_err-step.ensures.only

pub returns-in_err-step-clause-size : goal.returns-in_err-step-clause-size
returns-in_err-step-clause-size c =
    λ is.
    turn_lacks c.args.terms.now c.law_arena.ensures (pairs_at c.args.terms.now c.args.pairs.now) (substituted c.args.terms.now c.args.pairs.now c.args.list.now) c.loop-work.terms c.step.new.terms c.args.list.now
    c.loop-work.works.items c.pop.new.self.items c.pop.new.self.items c.in-Some.work c.loop-work.images c.loop-work.images c.in-Some.ensures.items c.loop-work.invariant
    (c.in_err-step.ensures.size (ap Err (same_fault c.in_err-step.field-0.0 c.from_residual-in_err-step.result c.from_residual-in_err-step.ensures.1 Size is)))

pub returns-clause-trees : goal.returns-clause-trees
returns-clause-trees c =
    ends_trees c.args.terms.now c.law_arena.ensures (pairs_at c.args.terms.now c.args.pairs.now) (substituted c.args.terms.now c.args.pairs.now c.args.list.now) c.loop-work.terms c.args.list.now
    c.loop-work.works.items c.loop-work.images c.in_ok-answers.answers.items
    (nothing_popped c.loop-work.works.items c.pop.new.self.items _ c.in_default.ensures.items c.in_default.ensures.rest c.in_default.ensures.cases.0) c.in_ok-answers.ensures c.loop-work.invariant

pub returns-clause-sorts : goal.returns-clause-sorts
returns-clause-sorts c =
    ends_sorts c.args.terms.now c.law_arena.ensures (pairs_at c.args.terms.now c.args.pairs.now) (substituted c.args.terms.now c.args.pairs.now c.args.list.now) c.loop-work.terms c.args.list.now
    c.loop-work.works.items c.loop-work.images c.in_ok-answers.answers.items
    (nothing_popped c.loop-work.works.items c.pop.new.self.items _ c.in_default.ensures.items c.in_default.ensures.rest c.in_default.ensures.cases.0) c.in_ok-answers.ensures c.loop-work.invariant

pub returns-clause-in_range : goal.returns-clause-in_range
returns-clause-in_range c =
    ends_in_range c.args.terms.now c.law_arena.ensures (pairs_at c.args.terms.now c.args.pairs.now) (substituted c.args.terms.now c.args.pairs.now c.args.list.now) c.loop-work.terms c.args.list.now
    c.loop-work.works.items c.loop-work.images c.in_ok-answers.answers.items
    (nothing_popped c.loop-work.works.items c.pop.new.self.items _ c.in_default.ensures.items c.in_default.ensures.rest c.in_default.ensures.cases.0) c.in_ok-answers.ensures c.loop-work.invariant
