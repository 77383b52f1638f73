use Rattle.std.proofs.Common.{length, ap, arith}
use Rattle.spv_derivations.proofs.derivation.Bridges.{if_both}
use Rattle.spv_search.proofs.Advance.{last_many, last_at, may_at, fits_at, told_with, arrived}
use Rattle.spv_search.proofs.advancing.tell_last.Goals as goal

pub overflow_sub-case : goal.overflow_sub-case
overflow_sub-case c =
    let many = last_many c.args.branches.now.cases c.requires.cases_are in
    let same = ap length c.cases-cases.ensures in
    omega (arith, many, same)

pub tell_case-requires-clause-asked : goal.tell_case-requires-clause-asked
tell_case-requires-clause-asked c = c.requires.set_up.asked

pub tell_case-requires-clause-told : goal.tell_case-requires-clause-told
tell_case-requires-clause-told c =
    told_with c.args.terms.now c.law_arena.ensures c.args.condition.now c.args.atoms.now c.args.ground.now c.args.limits.now c.args.path.now c.args.branches.now c.args.marks.now c.requires _ (ap length c.cases-cases.ensures)

pub tell_case-requires-clause-atom : goal.tell_case-requires-clause-atom
tell_case-requires-clause-atom c =
    may_at c.args.terms.now c.law_arena.ensures c.args.condition.now c.args.atoms.now c.args.ground.now c.args.limits.now c.args.path.now c.args.branches.now c.args.marks.now c.requires _
    (last_at c.args.branches.now.cases c.requires.cases_are _ _ c.cases-cases.ensures)

pub tell_case-requires-clause-part : goal.tell_case-requires-clause-part
tell_case-requires-clause-part c =
    fits_at c.args.terms.now c.law_arena.ensures c.args.condition.now c.args.atoms.now c.args.ground.now c.args.limits.now c.args.path.now c.args.branches.now c.args.marks.now c.requires _
    (last_at c.args.branches.now.cases c.requires.cases_are _ _ c.cases-cases.ensures)

pub returns : goal.returns
returns c =
    if_both c.tell_case.result c.tell_case.ensures.told c.tell_case.ensures.goes
    (λ o told goes.
    arrived c.args.terms.now c.law_arena.ensures c.args.condition.now c.args.atoms.now c.args.ground.now c.args.limits.now c.args.path.now c.args.branches.now c.args.marks.now c.requires _
    (last_at c.args.branches.now.cases c.requires.cases_are _ _ c.cases-cases.ensures) c.tell_case.new.self _ o (ap length c.cases-cases.ensures) goes told)
