use Rattle.std.proofs.Common.{sym, subst}
use Rattle.spv_table.specs.Kept.{listed_over}
use Rattle.spv_verdicts.specs.model_check.Surviving.{AreTruths, IsBranch, IsFaultAmong, IsFaultFor}
use Rattle.spv_verdicts.proofs.model_check.ShownLemmas.{atom_fault, branch_is, err_same}
use Rattle.spv_verdicts.proofs.model_check.evaluating.branch_of.Goals as goal

pub returns-in_err-branch-clause-fault : goal.returns-in_err-branch-clause-fault
returns-in_err-branch-clause-fault c =
    err_same c.from_residual-in_err-branch.result c.in_err-branch.field-0.0 (IsFaultFor c.args.terms.now c.args.condition.now (listed_over c.args.terms.now c.args.table.now.values)) c.from_residual-in_err-branch.ensures.1
    (atom_fault c.args.terms.now c.law_arena.ensures c.args.condition.now c.requires.given c.requires.goal (listed_over c.args.terms.now c.args.table.now.values) c.in_ok-found.found.items c.in_ok-found.ensures.atoms
    c.in_ok-found.ensures.in_range c.in_err-branch.field-0.0
    (subst (λ ids. IsFaultAmong c.args.terms.now (listed_over c.args.terms.now c.args.table.now.values) ids c.in_err-branch.field-0.0) c.as_slice.ensures.value c.in_err-branch.ensures.fault))

pub returns-clause-branch : goal.returns-clause-branch
returns-clause-branch c =
    subst (λ ps. IsBranch c.args.terms.now c.args.condition.now (listed_over c.args.terms.now c.args.table.now.values) ps) (sym c.from_vec.ensures)
    (branch_is c.args.terms.now c.args.condition.now (listed_over c.args.terms.now c.args.table.now.values) c.in_ok-found.found.items c.in_ok-branch.branch.items c.in_ok-found.ensures.atoms c.in_ok-found.ensures.in_range
    (subst (λ ids. AreTruths c.args.terms.now (listed_over c.args.terms.now c.args.table.now.values) ids c.in_ok-branch.branch.items) c.as_slice.ensures.value c.in_ok-branch.ensures.truths))
