use Rattle.std.proofs.Common.{◌+◌, ◌*◌, drop}
use Rattle.spv_term.specs.Arena.{tree}
use Rattle.spv_assign.specs.supply.Numbers.{supply_of}
use Rattle.spv_program.specs.typed.StatementViews.{arms_of, block_of}
use Rattle.spv_program.specs.typed.Model.StatementSizes.{arms_size, statement_size}
use Rattle.spv_flow_parts.specs.Walks.{made_of}
use Rattle.spv_flow.proofs.Blocks.{BlockSoFar}
use Rattle.spv_flow.proofs.Cases.{ArmsSoFar}
use Rattle.spv_flow.proofs.walk.+statements.Given as goal

abbrev pub decreases-statement : goal.decreases-statement
decreases-statement g l = 4 * statement_size l.s.now + 3

abbrev pub decreases-block : goal.decreases-block
decreases-block g l = 4 * statement_size (block_of l.statements.now) + 2

abbrev pub decreases-conditional : goal.decreases-conditional
decreases-conditional g l = 4 * (statement_size l.a.now + statement_size l.b.now) + 4

abbrev pub decreases-selection : goal.decreases-selection
decreases-selection g l = 4 * arms_size (arms_of l.cases.now) + 3

abbrev pub decreases-arms : goal.decreases-arms
decreases-arms g l = 4 * arms_size (arms_of l.cases.now) + 2

abbrev pub decreases-one_arm : goal.decreases-one_arm
decreases-one_arm g l = 4 * statement_size l.case.now.body.value + 4

abbrev pub decreases-while_loop : goal.decreases-while_loop
decreases-while_loop g l = 4 * statement_size l.inside.now + 4

abbrev pub decreases-repeat_loop : goal.decreases-repeat_loop
decreases-repeat_loop g l = 4 * statement_size l.inside.now + 4

abbrev pub decreases-for_loop : goal.decreases-for_loop
decreases-for_loop g l = 4 * statement_size l.inside.now + 4

abbrev pub invariant-block-loop-place : goal.invariant-block-loop-place
invariant-block-loop-place g l =
    g.L.Leaves.fits l.leaves l.program l.body.here
    × BlockSoFar (g.L.Leaves.making l.program l.body.here) l.program l.body.here (drop l.place l.statements) (made_of l.fn.terms l.fn.rest.items (supply_of l.fn.supply)) l.fn.terms l.terms (supply_of l.supply) l.made.items

abbrev pub invariant-arms-loop-case : goal.invariant-arms-loop-case
invariant-arms-loop-case g l =
    g.L.Leaves.fits l.leaves l.program l.body.here
    × ArmsSoFar (g.L.Leaves.making l.program l.body.here) l.program l.body.here (tree l.fn.terms l.fn.about) (arms_of l.cases) (arms_of (drop l.case-index l.cases)) (made_of l.fn.terms l.rest.items (supply_of l.fn.supply)) l.fn.terms l.terms (supply_of l.supply) l.made.items
