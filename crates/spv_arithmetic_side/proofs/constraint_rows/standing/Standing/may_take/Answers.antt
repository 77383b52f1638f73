use Rattle.spv_arithmetic_side.proofs.constraint_rows.Rooms.{comparable, may_now}
use Rattle.spv_arithmetic_side.proofs.constraint_rows.standing.Standing.may_take.Goals as goal

pub returns-in-Ok-clause-free : goal.returns-in-Ok-clause-free
returns-in-Ok-clause-free c = λ free.
    c.in-Ok.ensures.value.1 (may_now c.args.self.now.tableau c.law_tableau.ensures c.requires.standing.trail c.args.row c.args.side _ free.row_in free.free free.leaves)

pub returns-in-Err-clause-free : goal.returns-in-Err-clause-free
returns-in-Err-clause-free c = λ free. absurd (comparable c.args.side _ _ free.leaves c.in-Err.ensures.wide)
