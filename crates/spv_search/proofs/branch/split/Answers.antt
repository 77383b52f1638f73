use Rattle.std.proofs.Common.{length, ap, arith}
use Rattle.spv_term.specs.Arena.{sequent}
use Rattle.spv_search.proofs.Ended.{on_both}
use Rattle.spv_search.proofs.Splitting.{atom_there}
use Rattle.spv_search.proofs.Turns.{open_visited, split_visited, marks_many}
use Rattle.spv_proof_rules.specs.Stand.{question}
use Rattle.spv_search.proofs.branch.split.Goals as goal

pub push_mark-requires-clause-both : goal.push_mark-requires-clause-both
push_mark-requires-clause-both c = c.requires.resting.quiet.arrived.path.both

pub push_mark-requires-clause-count : goal.push_mark-requires-clause-count
push_mark-requires-clause-count c =
    marks_many c.args.terms.now c.args.condition.now c.args.atoms.now c.args.ground.now c.args.limits.now c.args.path.now c.args.branches.now c.args.marks.now.items _ c.requires.resting (ap length c.cases-count.ensures)

pub split-requires-clause-left : goal.split-requires-clause-left
split-requires-clause-left c = c.requires.resting.quiet.arrived.comes

pub split-requires-clause-atom : goal.split-requires-clause-atom
split-requires-clause-atom c =
    atom_there c.args.terms.now c.args.condition.now c.args.atoms.now c.args.ground.now c.args.limits.now c.args.path.now c.args.branches.now c.args.marks.now.items c.requires.resting
    (c.law_rest.ensures c.args.condition.now c.args.atoms.now c.args.ground.now c.args.limits.now c.args.branches.now c.args.marks.now.items c.requires.resting) c.args.t c.requires.split.0

pub open-requires : goal.open-requires
open-requires c = c.requires.resting.quiet.arrived.comes

pub returns-in_ok-push_mark : goal.returns-in_ok-push_mark
returns-in_ok-push_mark c =
    on_both c.split.result c.split.ensures.takes c.split.ensures.within
    (λ takes within.
    split_visited c.args.terms.now c.args.condition.now c.args.atoms.now c.args.ground.now c.args.limits.now c.args.path.now c.args.branches.now c.args.marks.now.items c.requires.resting
    (c.law_rest.ensures c.args.condition.now c.args.atoms.now c.args.ground.now c.args.limits.now c.args.branches.now c.args.marks.now.items c.requires.resting)
    c.split.new.self c.push_mark.new.marks.items _ c.args.t (ap length c.cases-count.ensures) c.in_ok-push_mark.ensures within (takes (sequent c.args.terms.now c.args.condition.now)) c.requires.split (omega (arith, c.if-splits.true, c.splits.ensures, c.splits-2.ensures)))

pub returns-else-splits : goal.returns-else-splits
returns-else-splits c =
    on_both c.open.result c.open.ensures.takes c.open.ensures.within
    (λ takes within.
    open_visited c.args.terms.now c.args.condition.now c.args.atoms.now c.args.ground.now c.args.limits.now c.args.path.now c.args.branches.now c.args.marks.now.items c.requires.resting
    (c.law_rest.ensures c.args.condition.now c.args.atoms.now c.args.ground.now c.args.limits.now c.args.branches.now c.args.marks.now.items c.requires.resting)
    c.open.new.self (within c.args.terms.now) (takes (question c.args.terms.now c.args.condition.now)) (omega (arith, c.if-splits.false, c.splits.ensures, c.splits-2.ensures)))
