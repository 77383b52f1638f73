use Rattle.std.proofs.Common.{ap, ◌∙◌, inl, subst}
use Rattle.std.specs.Prelude.{Ok}
use Rattle.spv_table.specs.Kept.{listed_over}
use Rattle.spv_verdicts.specs.model_check.Surviving.{AllHold, IsFaultAmong, IsFaultFor, SomeFails}
use Rattle.spv_verdicts.proofs.model_check.ShownLemmas.{err_same, given_fault, goal_fault, goal_true, not_true, shown}
use Rattle.spv_verdicts.proofs.model_check.evaluating.is_shown.Goals as goal

pub returns-in_err-all_hold-clause-fault : goal.returns-in_err-all_hold-clause-fault
returns-in_err-all_hold-clause-fault c =
    err_same c.from_residual.result c.in_err-all_hold.field-0.0 (IsFaultFor c.args.terms.now c.args.condition.now (listed_over c.args.terms.now c.args.table.now.values)) c.from_residual.ensures.1
    (given_fault c.args.terms.now c.law_arena.ensures c.args.condition.now c.requires.given c.requires.goal (listed_over c.args.terms.now c.args.table.now.values) c.in_err-all_hold.field-0.0
    (subst (λ ids. IsFaultAmong c.args.terms.now (listed_over c.args.terms.now c.args.table.now.values) ids c.in_err-all_hold.field-0.0) c.as_slice.ensures c.in_err-all_hold.ensures.fault))

pub returns-then-not-branch-clause-not_shown : goal.returns-then-not-branch-clause-not_shown
returns-then-not-branch-clause-not_shown c =
    λ e.
    inl
    (subst (λ ids. SomeFails c.args.terms.now (listed_over c.args.terms.now c.args.table.now.values) ids) c.as_slice.ensures (c.in_ok-all_hold.ensures.fail c.if-not-branch.true))

pub returns-in_err-goal-clause-fault : goal.returns-in_err-goal-clause-fault
returns-in_err-goal-clause-fault c =
    err_same c.from_residual-in_err-goal.result c.in_err-goal.field-0.0 (IsFaultFor c.args.terms.now c.args.condition.now (listed_over c.args.terms.now c.args.table.now.values)) c.from_residual-in_err-goal.ensures.1
    (goal_fault c.args.terms.now c.law_arena.ensures c.args.condition.now c.requires.given c.requires.goal (listed_over c.args.terms.now c.args.table.now.values) c.in_err-goal.field-0.0 c.in_err-goal.ensures.fault)

pub returns-clause-shown : goal.returns-clause-shown
returns-clause-shown c =
    λ is.
    shown c.args.terms.now (listed_over c.args.terms.now c.args.table.now.values) c.args.condition.now
    (subst (λ ids. AllHold c.args.terms.now (listed_over c.args.terms.now c.args.table.now.values) ids) c.as_slice.ensures (c.in_ok-all_hold.ensures.hold c.if-not-branch.false))
    (c.in_ok-goal.ensures.value ∙ ap Ok (not_true c.in_ok-goal.goal is))

pub returns-clause-not_shown : goal.returns-clause-not_shown
returns-clause-not_shown c =
    λ is. goal_true c.args.terms.now (listed_over c.args.terms.now c.args.table.now.values) c.args.condition.now c.in_ok-goal.goal c.in_ok-goal.ensures.value is
