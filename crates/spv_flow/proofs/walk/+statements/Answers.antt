use Rattle.std.proofs.Common.{rules, ℕ, ◌≡◌, ◌<◌, ◌+◌, ◌*◌, ◌-◌, [], ◌∷◌, drop, option_map, arith, subst, sym, refl, ap, Ok, Err}
use Rattle.spv_program.specs.typed.FormulaViews.{annotation_of}
use Rattle.spv_program.specs.typed.StatementViews.{arms_of, counting_of, block_of}
use Rattle.spv_assign.specs.supply.Numbers.{supply_of}
use Rattle.spv_term.specs.Arena.{tree}
use Rattle.spv_program.specs.Statements.{Statement, Arms}
use Rattle.spv_program.specs.declared.typed.statements.Arm.{Arm}
use Rattle.spv_program.specs.typed.Model.StatementSizes.{statement_size, arms_size}
use Rattle.spv_flow_parts.specs.Walks.{made_of}
use Rattle.spv_flow_parts.specs.leaves.Parts.{IsTaken}
use Rattle.spv_assign.specs.Conditions.{AreIn}
use Rattle.spv_flow.specs.Walking.{AreTakenArms, MayWalk, MayWalkArms}
use Rattle.spv_flow.proofs.Sizes.{statement_within, arm_within}
use Rattle.spv_flow.proofs.Growing.{may_walk_as, same_items}
use Rattle.spv_flow.proofs.Right.{each_taken, arm_taken, each_arm_taken}
use Rattle.spv_flow.proofs.Blocks.{one_before, next_fits, block_stops, block_goes_on, block_comes}
use Rattle.spv_flow.proofs.Ifs.{if_tested, if_test_stops, if_never, if_first_fits, if_first_stops, if_second_fits, if_second_stops, test_there, test_sort, first_in, second_in, if_comes}
use Rattle.spv_flow.proofs.Cases.{case_value_fits, case_value_stops, arms_fit, case_arms_stop, case_comes, arm_never, arm_fits, arm_stops, one_arm_at, about_there, about_sort, so_far_then, first_then, arm_comes, ArmsSoFar, next_arms, arms_begin, case_fits, arms_stop, arms_go_on}
use Rattle.spv_flow.proofs.Loops.{while_test, while_begin_stops, while_inside_fits, while_turn_stops, while_stands, while_numbers, while_test_there, while_note, while_turn_in, while_rest_in, while_comes, repeat_test, repeat_begin_stops, repeat_inside_fits, repeat_turn_stops, repeat_stands, repeat_numbers, repeat_note, repeat_turn_in, repeat_comes}
use Rattle.spv_flow.proofs.Fors.{for_ends, for_noted, for_begin_stops, for_inside_fits, for_turn_stops, for_stands, for_numbers, for_known, for_turn_in, for_rest_in, for_comes}
use Rattle.spv_flow.proofs.walk.+statements.Goals as goal

pub conditional-test-requires-clause-stands : goal.conditional-test-requires-clause-stands
conditional-test-requires-clause-stands g t c =
    c.requires.fits.stands

pub conditional-test-requires-clause-takes : goal.conditional-test-requires-clause-takes
conditional-test-requires-clause-takes g t c =
    (if_tested (g.L.Leaves.making c.args.program.now c.args.body.now.here) (g.L.Leaves.takes c.args.program.now c.args.body.now.here) c.args.program.now c.args.body.now c.args.terms.now (supply_of c.args.supply.now) c.args.line c.args.e.now c.args.a.now c.args.b.now c.args.rest.items c.requires.fits).taken

pub conditional-test-requires-clause-there : goal.conditional-test-requires-clause-there
conditional-test-requires-clause-there g t c =
    c.requires.fits.there

pub conditional-returns-in_err-test-clause-made : goal.conditional-returns-in_err-test-clause-made
conditional-returns-in_err-test-clause-made g t c =
    if_test_stops (g.L.Leaves.making c.args.program.now c.args.body.now.here) (g.L.Leaves.takes c.args.program.now c.args.body.now.here) c.args.program.now c.args.body.now c.args.terms.now (supply_of c.args.supply.now) c.args.line c.args.e.now c.args.a.now c.args.b.now c.args.rest.items c.requires.fits c.from_residual.result c.in_err-test.field-0.0 (supply_of c.test.new.supply) c.test.new.terms c.from_residual.ensures.1 c.in_err-test.ensures.made

pub conditional-returns-in_err-kept-clause-made : goal.conditional-returns-in_err-kept-clause-made
conditional-returns-in_err-kept-clause-made g t c =
    if_never (g.L.Leaves.making c.args.program.now c.args.body.now.here) (g.L.Leaves.takes c.args.program.now c.args.body.now.here) c.args.program.now c.args.body.now c.args.terms.now (supply_of c.args.supply.now) c.args.line c.args.e.now c.args.a.now c.args.b.now c.args.rest.items c.requires.fits c.test.new.terms (supply_of c.test.new.supply) c.in_ok-test.test c.in_ok-test.ensures.made c.from_residual-in_err-kept.result c.in_err-kept.field-0.0 (supply_of c.test.new.supply) c.from_residual-in_err-kept.ensures.1 c.in_err-kept.ensures.err

pub conditional-statement-requires : goal.conditional-statement-requires
conditional-statement-requires g t c =
    let falls : 4 * statement_size c.args.a.now + 3 < 4 * (statement_size c.args.a.now + statement_size c.args.b.now) + 4 = omega arith in
    let ready : g.L.Leaves.fits c.test.new.self c.args.program.now c.args.body.now.here = c.in_ok-test.ensures.fits in
    let fits : MayWalk (g.L.Leaves.takes c.args.program.now c.args.body.now.here) c.args.program.now c.args.body.now c.test.new.terms (supply_of c.test.new.supply) c.args.a.now c.in_ok-kept.kept.items = if_first_fits (g.L.Leaves.making c.args.program.now c.args.body.now.here) (g.L.Leaves.takes c.args.program.now c.args.body.now.here) c.args.program.now c.args.body.now c.args.terms.now (supply_of c.args.supply.now) c.args.line c.args.e.now c.args.a.now c.args.b.now c.args.rest.items c.requires.fits c.test.new.terms (supply_of c.test.new.supply) c.in_ok-test.test c.in_ok-test.ensures.made c.in_ok-kept.kept.items (same_items c.in_ok-kept.kept.items c.args.rest.items c.args.rest.items c.in_ok-kept.ensures.items refl) in
    search rules

pub conditional-returns-in_err-first-clause-made : goal.conditional-returns-in_err-first-clause-made
conditional-returns-in_err-first-clause-made g t c =
    if_first_stops (g.L.Leaves.making c.args.program.now c.args.body.now.here) (g.L.Leaves.takes c.args.program.now c.args.body.now.here) c.args.program.now c.args.body.now c.args.terms.now (supply_of c.args.supply.now) c.args.line c.args.e.now c.args.a.now c.args.b.now c.args.rest.items c.requires.fits c.test.new.terms (supply_of c.test.new.supply) c.in_ok-test.test c.in_ok-test.ensures.made c.from_residual-in_err-first.result c.in_err-first.field-0.0 (supply_of c.statement.new.supply) (supply_of c.statement.new.supply) c.in_ok-kept.kept.items c.statement.new.terms (same_items c.in_ok-kept.kept.items c.args.rest.items c.args.rest.items c.in_ok-kept.ensures.items refl) c.from_residual-in_err-first.ensures.1 c.in_err-first.ensures.made

pub conditional-statement-requires-2 : goal.conditional-statement-requires-2
conditional-statement-requires-2 g t c =
    let falls : 4 * statement_size c.args.b.now + 3 < 4 * (statement_size c.args.a.now + statement_size c.args.b.now) + 4 = omega arith in
    let ready : g.L.Leaves.fits c.statement.new.leaves c.args.program.now c.args.body.now.here = c.in_ok-first.ensures.ready in
    let fits : MayWalk (g.L.Leaves.takes c.args.program.now c.args.body.now.here) c.args.program.now c.args.body.now c.statement.new.terms (supply_of c.statement.new.supply) c.args.b.now c.args.rest.items = if_second_fits (g.L.Leaves.making c.args.program.now c.args.body.now.here) (g.L.Leaves.takes c.args.program.now c.args.body.now.here) c.args.program.now c.args.body.now c.args.terms.now (supply_of c.args.supply.now) c.args.line c.args.e.now c.args.a.now c.args.b.now c.args.rest.items c.requires.fits c.test.new.terms (supply_of c.test.new.supply) c.in_ok-test.test c.in_ok-test.ensures.made c.in_ok-kept.kept.items (same_items c.in_ok-kept.kept.items c.args.rest.items c.args.rest.items c.in_ok-kept.ensures.items refl) c.statement.new.terms (supply_of c.statement.new.supply) c.in_ok-first.first c.in_ok-first.ensures.made in
    search rules

pub conditional-returns-in_err-second-clause-made : goal.conditional-returns-in_err-second-clause-made
conditional-returns-in_err-second-clause-made g t c =
    if_second_stops (g.L.Leaves.making c.args.program.now c.args.body.now.here) (g.L.Leaves.takes c.args.program.now c.args.body.now.here) c.args.program.now c.args.body.now c.args.terms.now (supply_of c.args.supply.now) c.args.line c.args.e.now c.args.a.now c.args.b.now c.args.rest.items c.requires.fits c.test.new.terms (supply_of c.test.new.supply) c.in_ok-test.test c.in_ok-test.ensures.made c.in_ok-kept.kept.items (same_items c.in_ok-kept.kept.items c.args.rest.items c.args.rest.items c.in_ok-kept.ensures.items refl) c.statement.new.terms (supply_of c.statement.new.supply) c.in_ok-first.first c.in_ok-first.ensures.made c.from_residual-in_err-second.result c.in_err-second.field-0.0 (supply_of c.statement-2.new.supply) (supply_of c.statement-2.new.supply) c.statement-2.new.terms c.from_residual-in_err-second.ensures.1 c.in_err-second.ensures.made

pub conditional-tested_ways-requires-clause-test : goal.conditional-tested_ways-requires-clause-test
conditional-tested_ways-requires-clause-test g t c =
    test_there (g.L.Leaves.making c.args.program.now c.args.body.now.here) (g.L.Leaves.takes c.args.program.now c.args.body.now.here) c.args.program.now c.args.body.now c.args.terms.now (supply_of c.args.supply.now) c.args.line c.args.e.now c.args.a.now c.args.b.now c.args.rest.items c.requires.fits c.test.new.terms (supply_of c.test.new.supply) c.in_ok-test.test c.in_ok-test.ensures.made c.in_ok-kept.kept.items (same_items c.in_ok-kept.kept.items c.args.rest.items c.args.rest.items c.in_ok-kept.ensures.items refl) c.statement.new.terms (supply_of c.statement.new.supply) c.in_ok-first.first c.in_ok-first.ensures.made c.in_ok-test.ensures.sort c.statement-2.new.terms (supply_of c.statement-2.new.supply) c.in_ok-second.second c.in_ok-second.ensures.made

pub conditional-tested_ways-requires-clause-sort : goal.conditional-tested_ways-requires-clause-sort
conditional-tested_ways-requires-clause-sort g t c =
    test_sort (g.L.Leaves.making c.args.program.now c.args.body.now.here) (g.L.Leaves.takes c.args.program.now c.args.body.now.here) c.args.program.now c.args.body.now c.args.terms.now (supply_of c.args.supply.now) c.args.line c.args.e.now c.args.a.now c.args.b.now c.args.rest.items c.requires.fits c.test.new.terms (supply_of c.test.new.supply) c.in_ok-test.test c.in_ok-test.ensures.made c.in_ok-kept.kept.items (same_items c.in_ok-kept.kept.items c.args.rest.items c.args.rest.items c.in_ok-kept.ensures.items refl) c.statement.new.terms (supply_of c.statement.new.supply) c.in_ok-first.first c.in_ok-first.ensures.made c.in_ok-test.ensures.sort c.statement-2.new.terms (supply_of c.statement-2.new.supply) c.in_ok-second.second c.in_ok-second.ensures.made

pub conditional-tested_ways-requires-clause-first : goal.conditional-tested_ways-requires-clause-first
conditional-tested_ways-requires-clause-first g t c =
    first_in (g.L.Leaves.making c.args.program.now c.args.body.now.here) (g.L.Leaves.takes c.args.program.now c.args.body.now.here) c.args.program.now c.args.body.now c.args.terms.now (supply_of c.args.supply.now) c.args.line c.args.e.now c.args.a.now c.args.b.now c.args.rest.items c.requires.fits c.test.new.terms (supply_of c.test.new.supply) c.in_ok-test.test c.in_ok-test.ensures.made c.in_ok-kept.kept.items (same_items c.in_ok-kept.kept.items c.args.rest.items c.args.rest.items c.in_ok-kept.ensures.items refl) c.statement.new.terms (supply_of c.statement.new.supply) c.in_ok-first.first c.in_ok-first.ensures.made c.in_ok-test.ensures.sort c.statement-2.new.terms (supply_of c.statement-2.new.supply) c.in_ok-second.second c.in_ok-second.ensures.made c.in_ok-first.first.items refl

pub conditional-tested_ways-requires-clause-second : goal.conditional-tested_ways-requires-clause-second
conditional-tested_ways-requires-clause-second g t c =
    second_in (g.L.Leaves.making c.args.program.now c.args.body.now.here) (g.L.Leaves.takes c.args.program.now c.args.body.now.here) c.args.program.now c.args.body.now c.args.terms.now (supply_of c.args.supply.now) c.args.line c.args.e.now c.args.a.now c.args.b.now c.args.rest.items c.requires.fits c.test.new.terms (supply_of c.test.new.supply) c.in_ok-test.test c.in_ok-test.ensures.made c.in_ok-kept.kept.items (same_items c.in_ok-kept.kept.items c.args.rest.items c.args.rest.items c.in_ok-kept.ensures.items refl) c.statement.new.terms (supply_of c.statement.new.supply) c.in_ok-first.first c.in_ok-first.ensures.made c.in_ok-test.ensures.sort c.statement-2.new.terms (supply_of c.statement-2.new.supply) c.in_ok-second.second c.in_ok-second.ensures.made c.in_ok-second.second.items refl

pub conditional-returns-clause-made : goal.conditional-returns-clause-made
conditional-returns-clause-made g t c =
    if_comes (g.L.Leaves.making c.args.program.now c.args.body.now.here) (g.L.Leaves.takes c.args.program.now c.args.body.now.here) c.args.program.now c.args.body.now c.args.terms.now (supply_of c.args.supply.now) c.args.line c.args.e.now c.args.a.now c.args.b.now c.args.rest.items c.requires.fits c.test.new.terms (supply_of c.test.new.supply) c.in_ok-test.test c.in_ok-test.ensures.made c.in_ok-kept.kept.items (same_items c.in_ok-kept.kept.items c.args.rest.items c.args.rest.items c.in_ok-kept.ensures.items refl) c.statement.new.terms (supply_of c.statement.new.supply) c.in_ok-first.first c.in_ok-first.ensures.made c.in_ok-test.ensures.sort c.statement-2.new.terms (supply_of c.statement-2.new.supply) c.in_ok-second.second c.in_ok-second.ensures.made c.tested_ways.result c.tested_ways.new.terms c.in_ok-first.first.items c.in_ok-second.second.items refl refl c.tested_ways.ensures.made

pub selection-test-requires-clause-stands : goal.selection-test-requires-clause-stands
selection-test-requires-clause-stands g t c =
    c.requires.fits.stands

pub selection-test-requires-clause-takes : goal.selection-test-requires-clause-takes
selection-test-requires-clause-takes g t c =
    (case_value_fits (g.L.Leaves.making c.args.program.now c.args.body.now.here) (g.L.Leaves.takes c.args.program.now c.args.body.now.here) c.args.program.now c.args.body.now c.args.terms.now (supply_of c.args.supply.now) c.args.line c.args.e.now (arms_of c.args.cases.now) c.args.rest.now.items c.requires.fits).taken

pub selection-test-requires-clause-there : goal.selection-test-requires-clause-there
selection-test-requires-clause-there g t c =
    c.requires.fits.there

pub selection-returns-in_err-about-clause-made : goal.selection-returns-in_err-about-clause-made
selection-returns-in_err-about-clause-made g t c =
    case_value_stops (g.L.Leaves.making c.args.program.now c.args.body.now.here) (g.L.Leaves.takes c.args.program.now c.args.body.now.here) c.args.program.now c.args.body.now c.args.terms.now (supply_of c.args.supply.now) c.args.line c.args.e.now (arms_of c.args.cases.now) c.args.rest.now.items c.requires.fits c.from_residual.result c.in_err-about.field-0.0 (supply_of c.test.new.supply) c.test.new.terms c.from_residual.ensures.1 c.in_err-about.ensures.made

pub selection-arms-requires : goal.selection-arms-requires
selection-arms-requires g t c =
    let falls : 4 * arms_size (arms_of c.args.cases.now) + 2 < 4 * arms_size (arms_of c.args.cases.now) + 3 = omega arith in
    let ready : g.L.Leaves.fits c.test.new.self c.args.program.now c.args.body.now.here = c.in_ok-about.ensures.fits in
    let fits : MayWalkArms (g.L.Leaves.takes c.args.program.now c.args.body.now.here) c.args.program.now c.args.body.now c.test.new.terms (supply_of c.test.new.supply) c.in_ok-about.about.term (arms_of c.args.cases.now) c.args.rest.now.items = arms_fit (g.L.Leaves.making c.args.program.now c.args.body.now.here) (g.L.Leaves.takes c.args.program.now c.args.body.now.here) c.args.program.now c.args.body.now c.args.terms.now (supply_of c.args.supply.now) c.args.line c.args.e.now (arms_of c.args.cases.now) c.args.rest.now.items c.requires.fits c.test.new.terms (supply_of c.test.new.supply) c.in_ok-about.about c.in_ok-about.ensures.made c.in_ok-about.ensures.sort in
    search rules

pub selection-returns-in_err-made-clause-made : goal.selection-returns-in_err-made-clause-made
selection-returns-in_err-made-clause-made g t c =
    case_arms_stop (g.L.Leaves.making c.args.program.now c.args.body.now.here) (g.L.Leaves.takes c.args.program.now c.args.body.now.here) c.args.program.now c.args.body.now c.args.terms.now (supply_of c.args.supply.now) c.args.line c.args.e.now (arms_of c.args.cases.now) c.args.rest.now.items c.requires.fits c.test.new.terms (supply_of c.test.new.supply) c.in_ok-about.about c.in_ok-about.ensures.made c.in_ok-about.ensures.sort c.from_residual-in_err-made.result c.in_err-made.field-0.0 (supply_of c.arms.new.supply) (supply_of c.arms.new.supply) c.arms.new.terms c.from_residual-in_err-made.ensures.1 c.in_err-made.ensures.made

pub selection-returns-clause-made : goal.selection-returns-clause-made
selection-returns-clause-made g t c =
    case_comes (g.L.Leaves.making c.args.program.now c.args.body.now.here) (g.L.Leaves.takes c.args.program.now c.args.body.now.here) c.args.program.now c.args.body.now c.args.terms.now (supply_of c.args.supply.now) c.args.line c.args.e.now (arms_of c.args.cases.now) c.args.rest.now.items c.requires.fits c.test.new.terms (supply_of c.test.new.supply) c.in_ok-about.about c.in_ok-about.ensures.made c.in_ok-about.ensures.sort c.in_ok-made.made c.before_test.result c.arms.new.terms (supply_of c.arms.new.supply) c.in_ok-made.ensures.made c.before_test.ensures.made

pub one_arm-returns-in_err-kept-clause-made : goal.one_arm-returns-in_err-kept-clause-made
one_arm-returns-in_err-kept-clause-made g t c =
    arm_never (g.L.Leaves.making c.args.program.now c.args.body.now.here) (g.L.Leaves.takes c.args.program.now c.args.body.now.here) c.args.program.now c.args.body.now c.args.terms.now (supply_of c.args.supply.now) c.args.about c.args.case.now c.args.rest.now.items c.args.so_far.items c.requires.fits c.requires.so_far c.from_residual.result c.in_err-kept.field-0.0 (supply_of c.args.supply.now) c.from_residual.ensures.1 c.in_err-kept.ensures.err

pub one_arm-statement-requires : goal.one_arm-statement-requires
one_arm-statement-requires g t c =
    let falls : 4 * statement_size c.deref.result.now + 3 < 4 * statement_size c.args.case.now.body.value + 4 = omega (arith, ap statement_size c.deref.ensures) in
    let ready : g.L.Leaves.fits c.args.leaves.now c.args.program.now c.args.body.now.here = c.requires.ready in
    let fits : MayWalk (g.L.Leaves.takes c.args.program.now c.args.body.now.here) c.args.program.now c.args.body.now c.args.terms.now (supply_of c.args.supply.now) c.deref.result.now c.in_ok-kept.kept.items = may_walk_as (g.L.Leaves.takes c.args.program.now c.args.body.now.here) c.args.program.now c.args.body.now c.args.terms.now (supply_of c.args.supply.now) c.args.case.now.body.value c.deref.result.now c.in_ok-kept.kept.items (sym c.deref.ensures) (arm_fits (g.L.Leaves.making c.args.program.now c.args.body.now.here) (g.L.Leaves.takes c.args.program.now c.args.body.now.here) c.args.program.now c.args.body.now c.args.terms.now (supply_of c.args.supply.now) c.args.about c.args.case.now c.args.rest.now.items c.args.so_far.items c.requires.fits c.requires.so_far c.in_ok-kept.kept.items c.in_ok-kept.ensures.items (arm_taken (g.L.Leaves.takes c.args.program.now c.args.body.now.here) c.args.program.now c.args.body.now c.args.case.now c.requires.fits.right)) in
    search rules

pub one_arm-returns-in_err-first-clause-made : goal.one_arm-returns-in_err-first-clause-made
one_arm-returns-in_err-first-clause-made g t c =
    arm_stops (g.L.Leaves.making c.args.program.now c.args.body.now.here) (g.L.Leaves.takes c.args.program.now c.args.body.now.here) c.args.program.now c.args.body.now c.args.terms.now (supply_of c.args.supply.now) c.args.about c.args.case.now c.args.rest.now.items c.args.so_far.items c.requires.fits c.requires.so_far c.from_residual-in_err-first.result c.in_err-first.field-0.0 (supply_of c.statement.new.supply) (supply_of c.statement.new.supply) c.statement.new.terms c.from_residual-in_err-first.ensures.1 (one_arm_at (Err c.in_err-first.field-0.0) (g.L.Leaves.making c.args.program.now c.args.body.now.here) c.args.program.now c.args.body.now.here c.args.case.now.body.value c.deref.result.now c.in_ok-kept.kept.items c.args.rest.now.items c.args.terms.now (supply_of c.args.supply.now) c.statement.new.terms (supply_of c.statement.new.supply) (sym c.deref.ensures) c.in_ok-kept.ensures.items c.in_err-first.ensures.made)

pub one_arm-with_arm-requires-clause-t : goal.one_arm-with_arm-requires-clause-t
one_arm-with_arm-requires-clause-t g t c =
    about_there (g.L.Leaves.making c.args.program.now c.args.body.now.here) (g.L.Leaves.takes c.args.program.now c.args.body.now.here) c.args.program.now c.args.body.now c.args.terms.now (supply_of c.args.supply.now) c.args.about c.args.case.now c.args.rest.now.items c.args.so_far.items c.requires.fits c.requires.so_far c.statement.new.terms (supply_of c.statement.new.supply) c.in_ok-first.first (one_arm_at (Ok c.in_ok-first.first) (g.L.Leaves.making c.args.program.now c.args.body.now.here) c.args.program.now c.args.body.now.here c.args.case.now.body.value c.deref.result.now c.in_ok-kept.kept.items c.args.rest.now.items c.args.terms.now (supply_of c.args.supply.now) c.statement.new.terms (supply_of c.statement.new.supply) (sym c.deref.ensures) c.in_ok-kept.ensures.items c.in_ok-first.ensures.made)

pub one_arm-with_arm-requires-clause-sort : goal.one_arm-with_arm-requires-clause-sort
one_arm-with_arm-requires-clause-sort g t c =
    about_sort (g.L.Leaves.making c.args.program.now c.args.body.now.here) (g.L.Leaves.takes c.args.program.now c.args.body.now.here) c.args.program.now c.args.body.now c.args.terms.now (supply_of c.args.supply.now) c.args.about c.args.case.now c.args.rest.now.items c.args.so_far.items c.requires.fits c.requires.so_far c.statement.new.terms (supply_of c.statement.new.supply) c.in_ok-first.first (one_arm_at (Ok c.in_ok-first.first) (g.L.Leaves.making c.args.program.now c.args.body.now.here) c.args.program.now c.args.body.now.here c.args.case.now.body.value c.deref.result.now c.in_ok-kept.kept.items c.args.rest.now.items c.args.terms.now (supply_of c.args.supply.now) c.statement.new.terms (supply_of c.statement.new.supply) (sym c.deref.ensures) c.in_ok-kept.ensures.items c.in_ok-first.ensures.made)

pub one_arm-with_arm-requires-clause-so_far : goal.one_arm-with_arm-requires-clause-so_far
one_arm-with_arm-requires-clause-so_far g t c =
    so_far_then (g.L.Leaves.making c.args.program.now c.args.body.now.here) (g.L.Leaves.takes c.args.program.now c.args.body.now.here) c.args.program.now c.args.body.now c.args.terms.now (supply_of c.args.supply.now) c.args.about c.args.case.now c.args.rest.now.items c.args.so_far.items c.requires.fits c.requires.so_far c.statement.new.terms (supply_of c.statement.new.supply) c.in_ok-first.first (one_arm_at (Ok c.in_ok-first.first) (g.L.Leaves.making c.args.program.now c.args.body.now.here) c.args.program.now c.args.body.now.here c.args.case.now.body.value c.deref.result.now c.in_ok-kept.kept.items c.args.rest.now.items c.args.terms.now (supply_of c.args.supply.now) c.statement.new.terms (supply_of c.statement.new.supply) (sym c.deref.ensures) c.in_ok-kept.ensures.items c.in_ok-first.ensures.made)

pub one_arm-with_arm-requires-clause-first : goal.one_arm-with_arm-requires-clause-first
one_arm-with_arm-requires-clause-first g t c =
    first_then (g.L.Leaves.making c.args.program.now c.args.body.now.here) (g.L.Leaves.takes c.args.program.now c.args.body.now.here) c.args.program.now c.args.body.now c.args.terms.now (supply_of c.args.supply.now) c.args.about c.args.case.now c.args.rest.now.items c.args.so_far.items c.requires.fits c.requires.so_far c.statement.new.terms (supply_of c.statement.new.supply) c.in_ok-first.first (one_arm_at (Ok c.in_ok-first.first) (g.L.Leaves.making c.args.program.now c.args.body.now.here) c.args.program.now c.args.body.now.here c.args.case.now.body.value c.deref.result.now c.in_ok-kept.kept.items c.args.rest.now.items c.args.terms.now (supply_of c.args.supply.now) c.statement.new.terms (supply_of c.statement.new.supply) (sym c.deref.ensures) c.in_ok-kept.ensures.items c.in_ok-first.ensures.made)

pub one_arm-returns-clause-made : goal.one_arm-returns-clause-made
one_arm-returns-clause-made g t c =
    arm_comes (g.L.Leaves.making c.args.program.now c.args.body.now.here) (g.L.Leaves.takes c.args.program.now c.args.body.now.here) c.args.program.now c.args.body.now c.args.terms.now (supply_of c.args.supply.now) c.args.about c.args.case.now c.args.rest.now.items c.args.so_far.items c.requires.fits c.requires.so_far c.statement.new.terms (supply_of c.statement.new.supply) c.in_ok-first.first (one_arm_at (Ok c.in_ok-first.first) (g.L.Leaves.making c.args.program.now c.args.body.now.here) c.args.program.now c.args.body.now.here c.args.case.now.body.value c.deref.result.now c.in_ok-kept.kept.items c.args.rest.now.items c.args.terms.now (supply_of c.args.supply.now) c.statement.new.terms (supply_of c.statement.new.supply) (sym c.deref.ensures) c.in_ok-kept.ensures.items c.in_ok-first.ensures.made) c.with_arm.result c.with_arm.new.terms c.as_slice.result.now c.as_slice.ensures c.with_arm.ensures

pub while_loop-begin_while-requires-clause-stands : goal.while_loop-begin_while-requires-clause-stands
while_loop-begin_while-requires-clause-stands g t c =
    c.requires.fits.stands

pub while_loop-begin_while-requires-clause-tested : goal.while_loop-begin_while-requires-clause-tested
while_loop-begin_while-requires-clause-tested g t c =
    while_test (g.L.Leaves.making c.args.program.now c.args.body.now.here) (g.L.Leaves.takes c.args.program.now c.args.body.now.here) c.args.program.now c.args.body.now c.args.terms.now (supply_of c.args.supply.now) c.args.whole.now c.args.line (option_map annotation_of c.args.f.now) c.args.e.now c.args.inside.now c.args.rest.items c.requires.is c.requires.fits

pub while_loop-begin_while-requires-clause-there : goal.while_loop-begin_while-requires-clause-there
while_loop-begin_while-requires-clause-there g t c =
    c.requires.fits.there

pub while_loop-returns-in_err-known-clause-made : goal.while_loop-returns-in_err-known-clause-made
while_loop-returns-in_err-known-clause-made g t c =
    while_begin_stops (g.L.Leaves.making c.args.program.now c.args.body.now.here) (g.L.Leaves.takes c.args.program.now c.args.body.now.here) c.args.program.now c.args.body.now c.args.terms.now (supply_of c.args.supply.now) c.args.whole.now c.args.line (option_map annotation_of c.args.f.now) c.args.e.now c.args.inside.now c.args.rest.items c.requires.is c.requires.fits c.from_residual.result c.in_err-known.field-0.0 (supply_of c.begin_while.new.supply) c.begin_while.new.terms c.from_residual.ensures.1 c.in_err-known.ensures.begun

pub while_loop-statement-requires : goal.while_loop-statement-requires
while_loop-statement-requires g t c =
    let falls : 4 * statement_size c.args.inside.now + 3 < 4 * statement_size c.args.inside.now + 4 = omega arith in
    let ready : g.L.Leaves.fits c.begin_while.new.leaves c.args.program.now c.args.body.now.here = c.in_ok-known.ensures.fits in
    let fits : MayWalk (g.L.Leaves.takes c.args.program.now c.args.body.now.here) c.args.program.now c.args.body.now c.begin_while.new.terms (supply_of c.begin_while.new.supply) c.args.inside.now c.in_ok-known.field-0.behind.items = while_inside_fits (g.L.Leaves.making c.args.program.now c.args.body.now.here) (g.L.Leaves.takes c.args.program.now c.args.body.now.here) c.args.program.now c.args.body.now c.args.terms.now (supply_of c.args.supply.now) c.args.whole.now c.args.line (option_map annotation_of c.args.f.now) c.args.e.now c.args.inside.now c.args.rest.items c.requires.is c.requires.fits c.begin_while.new.terms (supply_of c.begin_while.new.supply) c.in_ok-known.field-0 c.in_ok-known.ensures.begun in
    search rules

pub while_loop-returns-in_err-round-clause-made : goal.while_loop-returns-in_err-round-clause-made
while_loop-returns-in_err-round-clause-made g t c =
    while_turn_stops (g.L.Leaves.making c.args.program.now c.args.body.now.here) (g.L.Leaves.takes c.args.program.now c.args.body.now.here) c.args.program.now c.args.body.now c.args.terms.now (supply_of c.args.supply.now) c.args.whole.now c.args.line (option_map annotation_of c.args.f.now) c.args.e.now c.args.inside.now c.args.rest.items c.requires.is c.requires.fits c.begin_while.new.terms (supply_of c.begin_while.new.supply) c.in_ok-known.field-0 c.in_ok-known.ensures.begun c.from_residual-in_err-round.result c.in_err-round.field-0.0 (supply_of c.statement.new.supply) (supply_of c.statement.new.supply) c.statement.new.terms c.from_residual-in_err-round.ensures.1 c.in_err-round.ensures.made

pub while_loop-end_while-requires-clause-stands : goal.while_loop-end_while-requires-clause-stands
while_loop-end_while-requires-clause-stands g t c =
    while_stands (g.L.Leaves.making c.args.program.now c.args.body.now.here) (g.L.Leaves.takes c.args.program.now c.args.body.now.here) c.args.program.now c.args.body.now c.args.terms.now (supply_of c.args.supply.now) c.args.whole.now c.args.line (option_map annotation_of c.args.f.now) c.args.e.now c.args.inside.now c.args.rest.items c.requires.is c.requires.fits c.begin_while.new.terms (supply_of c.begin_while.new.supply) c.in_ok-known.field-0 c.in_ok-known.ensures.begun c.statement.new.terms (supply_of c.statement.new.supply) c.in_ok-round.round c.in_ok-round.ensures.made

pub while_loop-end_while-requires-clause-there : goal.while_loop-end_while-requires-clause-there
while_loop-end_while-requires-clause-there g t c =
    while_numbers (g.L.Leaves.making c.args.program.now c.args.body.now.here) (g.L.Leaves.takes c.args.program.now c.args.body.now.here) c.args.program.now c.args.body.now c.args.terms.now (supply_of c.args.supply.now) c.args.whole.now c.args.line (option_map annotation_of c.args.f.now) c.args.e.now c.args.inside.now c.args.rest.items c.requires.is c.requires.fits c.begin_while.new.terms (supply_of c.begin_while.new.supply) c.in_ok-known.field-0 c.in_ok-known.ensures.begun c.statement.new.terms (supply_of c.statement.new.supply) c.in_ok-round.round c.in_ok-round.ensures.made

pub while_loop-end_while-requires-clause-tested : goal.while_loop-end_while-requires-clause-tested
while_loop-end_while-requires-clause-tested g t c =
    while_test_there (g.L.Leaves.making c.args.program.now c.args.body.now.here) (g.L.Leaves.takes c.args.program.now c.args.body.now.here) c.args.program.now c.args.body.now c.args.terms.now (supply_of c.args.supply.now) c.args.whole.now c.args.line (option_map annotation_of c.args.f.now) c.args.e.now c.args.inside.now c.args.rest.items c.requires.is c.requires.fits c.begin_while.new.terms (supply_of c.begin_while.new.supply) c.in_ok-known.field-0 c.in_ok-known.ensures.begun c.statement.new.terms (supply_of c.statement.new.supply) c.in_ok-round.round c.in_ok-round.ensures.made

pub while_loop-end_while-requires-clause-note : goal.while_loop-end_while-requires-clause-note
while_loop-end_while-requires-clause-note g t c =
    while_note (g.L.Leaves.making c.args.program.now c.args.body.now.here) (g.L.Leaves.takes c.args.program.now c.args.body.now.here) c.args.program.now c.args.body.now c.args.terms.now (supply_of c.args.supply.now) c.args.whole.now c.args.line (option_map annotation_of c.args.f.now) c.args.e.now c.args.inside.now c.args.rest.items c.requires.is c.requires.fits c.begin_while.new.terms (supply_of c.begin_while.new.supply) c.in_ok-known.field-0 c.in_ok-known.ensures.begun c.statement.new.terms (supply_of c.statement.new.supply) c.in_ok-round.round c.in_ok-round.ensures.made

pub while_loop-end_while-requires-clause-rest : goal.while_loop-end_while-requires-clause-rest
while_loop-end_while-requires-clause-rest g t c =
    while_rest_in (g.L.Leaves.making c.args.program.now c.args.body.now.here) (g.L.Leaves.takes c.args.program.now c.args.body.now.here) c.args.program.now c.args.body.now c.args.terms.now (supply_of c.args.supply.now) c.args.whole.now c.args.line (option_map annotation_of c.args.f.now) c.args.e.now c.args.inside.now c.args.rest.items c.requires.is c.requires.fits c.begin_while.new.terms (supply_of c.begin_while.new.supply) c.in_ok-known.field-0 c.in_ok-known.ensures.begun c.statement.new.terms (supply_of c.statement.new.supply) c.in_ok-round.round c.in_ok-round.ensures.made

pub while_loop-end_while-requires-clause-turn : goal.while_loop-end_while-requires-clause-turn
while_loop-end_while-requires-clause-turn g t c =
    while_turn_in (g.L.Leaves.making c.args.program.now c.args.body.now.here) (g.L.Leaves.takes c.args.program.now c.args.body.now.here) c.args.program.now c.args.body.now c.args.terms.now (supply_of c.args.supply.now) c.args.whole.now c.args.line (option_map annotation_of c.args.f.now) c.args.e.now c.args.inside.now c.args.rest.items c.requires.is c.requires.fits c.begin_while.new.terms (supply_of c.begin_while.new.supply) c.in_ok-known.field-0 c.in_ok-known.ensures.begun c.statement.new.terms (supply_of c.statement.new.supply) c.in_ok-round.round c.in_ok-round.ensures.made c.in_ok-round.round.items refl

pub while_loop-returns-clause-made : goal.while_loop-returns-clause-made
while_loop-returns-clause-made g t c =
    while_comes (g.L.Leaves.making c.args.program.now c.args.body.now.here) (g.L.Leaves.takes c.args.program.now c.args.body.now.here) c.args.program.now c.args.body.now c.args.terms.now (supply_of c.args.supply.now) c.args.whole.now c.args.line (option_map annotation_of c.args.f.now) c.args.e.now c.args.inside.now c.args.rest.items c.requires.is c.requires.fits c.begin_while.new.terms (supply_of c.begin_while.new.supply) c.in_ok-known.field-0 c.in_ok-known.ensures.begun c.statement.new.terms (supply_of c.statement.new.supply) c.in_ok-round.round c.in_ok-round.ensures.made c.end_while.result c.end_while.new.terms (supply_of c.end_while.new.supply) c.in_ok-round.round.items refl c.end_while.ensures.made

pub repeat_loop-begin_repeat-requires-clause-stands : goal.repeat_loop-begin_repeat-requires-clause-stands
repeat_loop-begin_repeat-requires-clause-stands g t c =
    c.requires.fits.stands

pub repeat_loop-begin_repeat-requires-clause-tested : goal.repeat_loop-begin_repeat-requires-clause-tested
repeat_loop-begin_repeat-requires-clause-tested g t c =
    repeat_test (g.L.Leaves.making c.args.program.now c.args.body.now.here) (g.L.Leaves.takes c.args.program.now c.args.body.now.here) c.args.program.now c.args.body.now c.args.terms.now (supply_of c.args.supply.now) c.args.whole.now c.args.line (option_map annotation_of c.args.f.now) c.args.e.now c.args.inside.now c.args.rest.items c.requires.is c.requires.fits

pub repeat_loop-begin_repeat-requires-clause-there : goal.repeat_loop-begin_repeat-requires-clause-there
repeat_loop-begin_repeat-requires-clause-there g t c =
    c.requires.fits.there

pub repeat_loop-begin_repeat-requires-clause-rest : goal.repeat_loop-begin_repeat-requires-clause-rest
repeat_loop-begin_repeat-requires-clause-rest g t c =
    c.requires.fits.within

pub repeat_loop-returns-in_err-known-clause-made : goal.repeat_loop-returns-in_err-known-clause-made
repeat_loop-returns-in_err-known-clause-made g t c =
    repeat_begin_stops (g.L.Leaves.making c.args.program.now c.args.body.now.here) (g.L.Leaves.takes c.args.program.now c.args.body.now.here) c.args.program.now c.args.body.now c.args.terms.now (supply_of c.args.supply.now) c.args.whole.now c.args.line (option_map annotation_of c.args.f.now) c.args.e.now c.args.inside.now c.args.rest.items c.requires.is c.requires.fits c.from_residual.result c.in_err-known.field-0.0 (supply_of c.begin_repeat.new.supply) c.begin_repeat.new.terms c.from_residual.ensures.1 c.in_err-known.ensures.begun

pub repeat_loop-statement-requires : goal.repeat_loop-statement-requires
repeat_loop-statement-requires g t c =
    let falls : 4 * statement_size c.args.inside.now + 3 < 4 * statement_size c.args.inside.now + 4 = omega arith in
    let ready : g.L.Leaves.fits c.begin_repeat.new.leaves c.args.program.now c.args.body.now.here = c.in_ok-known.ensures.fits in
    let fits : MayWalk (g.L.Leaves.takes c.args.program.now c.args.body.now.here) c.args.program.now c.args.body.now c.begin_repeat.new.terms (supply_of c.begin_repeat.new.supply) c.args.inside.now c.in_ok-known.field-0.behind.items = repeat_inside_fits (g.L.Leaves.making c.args.program.now c.args.body.now.here) (g.L.Leaves.takes c.args.program.now c.args.body.now.here) c.args.program.now c.args.body.now c.args.terms.now (supply_of c.args.supply.now) c.args.whole.now c.args.line (option_map annotation_of c.args.f.now) c.args.e.now c.args.inside.now c.args.rest.items c.requires.is c.requires.fits c.begin_repeat.new.terms (supply_of c.begin_repeat.new.supply) c.in_ok-known.field-0 c.in_ok-known.ensures.begun in
    search rules

pub repeat_loop-returns-in_err-turn-clause-made : goal.repeat_loop-returns-in_err-turn-clause-made
repeat_loop-returns-in_err-turn-clause-made g t c =
    repeat_turn_stops (g.L.Leaves.making c.args.program.now c.args.body.now.here) (g.L.Leaves.takes c.args.program.now c.args.body.now.here) c.args.program.now c.args.body.now c.args.terms.now (supply_of c.args.supply.now) c.args.whole.now c.args.line (option_map annotation_of c.args.f.now) c.args.e.now c.args.inside.now c.args.rest.items c.requires.is c.requires.fits c.begin_repeat.new.terms (supply_of c.begin_repeat.new.supply) c.in_ok-known.field-0 c.in_ok-known.ensures.begun c.from_residual-in_err-turn.result c.in_err-turn.field-0.0 (supply_of c.statement.new.supply) (supply_of c.statement.new.supply) c.statement.new.terms c.from_residual-in_err-turn.ensures.1 c.in_err-turn.ensures.made

pub repeat_loop-end_repeat-requires-clause-stands : goal.repeat_loop-end_repeat-requires-clause-stands
repeat_loop-end_repeat-requires-clause-stands g t c =
    repeat_stands (g.L.Leaves.making c.args.program.now c.args.body.now.here) (g.L.Leaves.takes c.args.program.now c.args.body.now.here) c.args.program.now c.args.body.now c.args.terms.now (supply_of c.args.supply.now) c.args.whole.now c.args.line (option_map annotation_of c.args.f.now) c.args.e.now c.args.inside.now c.args.rest.items c.requires.is c.requires.fits c.begin_repeat.new.terms (supply_of c.begin_repeat.new.supply) c.in_ok-known.field-0 c.in_ok-known.ensures.begun c.statement.new.terms (supply_of c.statement.new.supply) c.in_ok-turn.turn c.in_ok-turn.ensures.made

pub repeat_loop-end_repeat-requires-clause-there : goal.repeat_loop-end_repeat-requires-clause-there
repeat_loop-end_repeat-requires-clause-there g t c =
    repeat_numbers (g.L.Leaves.making c.args.program.now c.args.body.now.here) (g.L.Leaves.takes c.args.program.now c.args.body.now.here) c.args.program.now c.args.body.now c.args.terms.now (supply_of c.args.supply.now) c.args.whole.now c.args.line (option_map annotation_of c.args.f.now) c.args.e.now c.args.inside.now c.args.rest.items c.requires.is c.requires.fits c.begin_repeat.new.terms (supply_of c.begin_repeat.new.supply) c.in_ok-known.field-0 c.in_ok-known.ensures.begun c.statement.new.terms (supply_of c.statement.new.supply) c.in_ok-turn.turn c.in_ok-turn.ensures.made

pub repeat_loop-end_repeat-requires-clause-note : goal.repeat_loop-end_repeat-requires-clause-note
repeat_loop-end_repeat-requires-clause-note g t c =
    repeat_note (g.L.Leaves.making c.args.program.now c.args.body.now.here) (g.L.Leaves.takes c.args.program.now c.args.body.now.here) c.args.program.now c.args.body.now c.args.terms.now (supply_of c.args.supply.now) c.args.whole.now c.args.line (option_map annotation_of c.args.f.now) c.args.e.now c.args.inside.now c.args.rest.items c.requires.is c.requires.fits c.begin_repeat.new.terms (supply_of c.begin_repeat.new.supply) c.in_ok-known.field-0 c.in_ok-known.ensures.begun c.statement.new.terms (supply_of c.statement.new.supply) c.in_ok-turn.turn c.in_ok-turn.ensures.made

pub repeat_loop-end_repeat-requires-clause-uses : goal.repeat_loop-end_repeat-requires-clause-uses
repeat_loop-end_repeat-requires-clause-uses g t c =
    repeat_turn_in (g.L.Leaves.making c.args.program.now c.args.body.now.here) (g.L.Leaves.takes c.args.program.now c.args.body.now.here) c.args.program.now c.args.body.now c.args.terms.now (supply_of c.args.supply.now) c.args.whole.now c.args.line (option_map annotation_of c.args.f.now) c.args.e.now c.args.inside.now c.args.rest.items c.requires.is c.requires.fits c.begin_repeat.new.terms (supply_of c.begin_repeat.new.supply) c.in_ok-known.field-0 c.in_ok-known.ensures.begun c.statement.new.terms (supply_of c.statement.new.supply) c.in_ok-turn.turn c.in_ok-turn.ensures.made c.in_ok-turn.turn.items refl

pub repeat_loop-returns-clause-made : goal.repeat_loop-returns-clause-made
repeat_loop-returns-clause-made g t c =
    repeat_comes (g.L.Leaves.making c.args.program.now c.args.body.now.here) (g.L.Leaves.takes c.args.program.now c.args.body.now.here) c.args.program.now c.args.body.now c.args.terms.now (supply_of c.args.supply.now) c.args.whole.now c.args.line (option_map annotation_of c.args.f.now) c.args.e.now c.args.inside.now c.args.rest.items c.requires.is c.requires.fits c.begin_repeat.new.terms (supply_of c.begin_repeat.new.supply) c.in_ok-known.field-0 c.in_ok-known.ensures.begun c.statement.new.terms (supply_of c.statement.new.supply) c.in_ok-turn.turn c.in_ok-turn.ensures.made c.end_repeat.result c.end_repeat.new.terms (supply_of c.end_repeat.new.supply) c.in_ok-turn.turn.items refl c.end_repeat.ensures.made

pub for_loop-begin_for-requires-clause-stands : goal.for_loop-begin_for-requires-clause-stands
for_loop-begin_for-requires-clause-stands g t c =
    c.requires.fits.stands

pub for_loop-begin_for-requires-clause-counted : goal.for_loop-begin_for-requires-clause-counted
for_loop-begin_for-requires-clause-counted g t c =
    for_ends (g.L.Leaves.making c.args.program.now c.args.body.now.here) (g.L.Leaves.takes c.args.program.now c.args.body.now.here) c.args.program.now c.args.body.now c.args.terms.now (supply_of c.args.supply.now) c.args.whole.now c.args.line (option_map annotation_of c.args.f.now) (counting_of c.args.count.now) c.args.inside.now c.args.rest.now.items c.requires.is c.requires.fits

pub for_loop-begin_for-requires-clause-notes : goal.for_loop-begin_for-requires-clause-notes
for_loop-begin_for-requires-clause-notes g t c =
    for_noted (g.L.Leaves.making c.args.program.now c.args.body.now.here) (g.L.Leaves.takes c.args.program.now c.args.body.now.here) c.args.program.now c.args.body.now c.args.terms.now (supply_of c.args.supply.now) c.args.whole.now c.args.line (option_map annotation_of c.args.f.now) (counting_of c.args.count.now) c.args.inside.now c.args.rest.now.items c.requires.is c.requires.fits

pub for_loop-begin_for-requires-clause-there : goal.for_loop-begin_for-requires-clause-there
for_loop-begin_for-requires-clause-there g t c =
    c.requires.fits.there

pub for_loop-returns-in_err-known-clause-made : goal.for_loop-returns-in_err-known-clause-made
for_loop-returns-in_err-known-clause-made g t c =
    for_begin_stops (g.L.Leaves.making c.args.program.now c.args.body.now.here) (g.L.Leaves.takes c.args.program.now c.args.body.now.here) c.args.program.now c.args.body.now c.args.terms.now (supply_of c.args.supply.now) c.args.whole.now c.args.line (option_map annotation_of c.args.f.now) (counting_of c.args.count.now) c.args.inside.now c.args.rest.now.items c.requires.is c.requires.fits c.from_residual.result c.in_err-known.field-0.0 (supply_of c.begin_for.new.supply) c.begin_for.new.terms c.from_residual.ensures.1 c.in_err-known.ensures.begun

pub for_loop-statement-requires : goal.for_loop-statement-requires
for_loop-statement-requires g t c =
    let falls : 4 * statement_size c.args.inside.now + 3 < 4 * statement_size c.args.inside.now + 4 = omega arith in
    let ready : g.L.Leaves.fits c.begin_for.new.leaves c.args.program.now c.args.body.now.here = c.in_ok-known.ensures.fits in
    let fits : MayWalk (g.L.Leaves.takes c.args.program.now c.args.body.now.here) c.args.program.now c.args.body.now c.begin_for.new.terms (supply_of c.begin_for.new.supply) c.args.inside.now c.in_ok-known.field-0.behind.items = for_inside_fits (g.L.Leaves.making c.args.program.now c.args.body.now.here) (g.L.Leaves.takes c.args.program.now c.args.body.now.here) c.args.program.now c.args.body.now c.args.terms.now (supply_of c.args.supply.now) c.args.whole.now c.args.line (option_map annotation_of c.args.f.now) (counting_of c.args.count.now) c.args.inside.now c.args.rest.now.items c.requires.is c.requires.fits c.begin_for.new.terms (supply_of c.begin_for.new.supply) c.in_ok-known.field-0 c.in_ok-known.ensures.begun in
    search rules

pub for_loop-returns-in_err-turn-clause-made : goal.for_loop-returns-in_err-turn-clause-made
for_loop-returns-in_err-turn-clause-made g t c =
    for_turn_stops (g.L.Leaves.making c.args.program.now c.args.body.now.here) (g.L.Leaves.takes c.args.program.now c.args.body.now.here) c.args.program.now c.args.body.now c.args.terms.now (supply_of c.args.supply.now) c.args.whole.now c.args.line (option_map annotation_of c.args.f.now) (counting_of c.args.count.now) c.args.inside.now c.args.rest.now.items c.requires.is c.requires.fits c.begin_for.new.terms (supply_of c.begin_for.new.supply) c.in_ok-known.field-0 c.in_ok-known.ensures.begun c.from_residual-in_err-turn.result c.in_err-turn.field-0.0 (supply_of c.statement.new.supply) (supply_of c.statement.new.supply) c.statement.new.terms c.from_residual-in_err-turn.ensures.1 c.in_err-turn.ensures.made

pub for_loop-end_for-requires-clause-stands : goal.for_loop-end_for-requires-clause-stands
for_loop-end_for-requires-clause-stands g t c =
    for_stands (g.L.Leaves.making c.args.program.now c.args.body.now.here) (g.L.Leaves.takes c.args.program.now c.args.body.now.here) c.args.program.now c.args.body.now c.args.terms.now (supply_of c.args.supply.now) c.args.whole.now c.args.line (option_map annotation_of c.args.f.now) (counting_of c.args.count.now) c.args.inside.now c.args.rest.now.items c.requires.is c.requires.fits c.begin_for.new.terms (supply_of c.begin_for.new.supply) c.in_ok-known.field-0 c.in_ok-known.ensures.begun c.statement.new.terms (supply_of c.statement.new.supply) c.in_ok-turn.turn c.in_ok-turn.ensures.made

pub for_loop-end_for-requires-clause-there : goal.for_loop-end_for-requires-clause-there
for_loop-end_for-requires-clause-there g t c =
    for_numbers (g.L.Leaves.making c.args.program.now c.args.body.now.here) (g.L.Leaves.takes c.args.program.now c.args.body.now.here) c.args.program.now c.args.body.now c.args.terms.now (supply_of c.args.supply.now) c.args.whole.now c.args.line (option_map annotation_of c.args.f.now) (counting_of c.args.count.now) c.args.inside.now c.args.rest.now.items c.requires.is c.requires.fits c.begin_for.new.terms (supply_of c.begin_for.new.supply) c.in_ok-known.field-0 c.in_ok-known.ensures.begun c.statement.new.terms (supply_of c.statement.new.supply) c.in_ok-turn.turn c.in_ok-turn.ensures.made

pub for_loop-end_for-requires-clause-known : goal.for_loop-end_for-requires-clause-known
for_loop-end_for-requires-clause-known g t c =
    for_known (g.L.Leaves.making c.args.program.now c.args.body.now.here) (g.L.Leaves.takes c.args.program.now c.args.body.now.here) c.args.program.now c.args.body.now c.args.terms.now (supply_of c.args.supply.now) c.args.whole.now c.args.line (option_map annotation_of c.args.f.now) (counting_of c.args.count.now) c.args.inside.now c.args.rest.now.items c.requires.is c.requires.fits c.begin_for.new.terms (supply_of c.begin_for.new.supply) c.in_ok-known.field-0 c.in_ok-known.ensures.begun c.statement.new.terms (supply_of c.statement.new.supply) c.in_ok-turn.turn c.in_ok-turn.ensures.made

pub for_loop-end_for-requires-clause-rest : goal.for_loop-end_for-requires-clause-rest
for_loop-end_for-requires-clause-rest g t c =
    for_rest_in (g.L.Leaves.making c.args.program.now c.args.body.now.here) (g.L.Leaves.takes c.args.program.now c.args.body.now.here) c.args.program.now c.args.body.now c.args.terms.now (supply_of c.args.supply.now) c.args.whole.now c.args.line (option_map annotation_of c.args.f.now) (counting_of c.args.count.now) c.args.inside.now c.args.rest.now.items c.requires.is c.requires.fits c.begin_for.new.terms (supply_of c.begin_for.new.supply) c.in_ok-known.field-0 c.in_ok-known.ensures.begun c.statement.new.terms (supply_of c.statement.new.supply) c.in_ok-turn.turn c.in_ok-turn.ensures.made

pub for_loop-end_for-requires-clause-turn : goal.for_loop-end_for-requires-clause-turn
for_loop-end_for-requires-clause-turn g t c =
    for_turn_in (g.L.Leaves.making c.args.program.now c.args.body.now.here) (g.L.Leaves.takes c.args.program.now c.args.body.now.here) c.args.program.now c.args.body.now c.args.terms.now (supply_of c.args.supply.now) c.args.whole.now c.args.line (option_map annotation_of c.args.f.now) (counting_of c.args.count.now) c.args.inside.now c.args.rest.now.items c.requires.is c.requires.fits c.begin_for.new.terms (supply_of c.begin_for.new.supply) c.in_ok-known.field-0 c.in_ok-known.ensures.begun c.statement.new.terms (supply_of c.statement.new.supply) c.in_ok-turn.turn c.in_ok-turn.ensures.made c.in_ok-turn.turn.items refl

pub for_loop-returns-clause-made : goal.for_loop-returns-clause-made
for_loop-returns-clause-made g t c =
    for_comes (g.L.Leaves.making c.args.program.now c.args.body.now.here) (g.L.Leaves.takes c.args.program.now c.args.body.now.here) c.args.program.now c.args.body.now c.args.terms.now (supply_of c.args.supply.now) c.args.whole.now c.args.line (option_map annotation_of c.args.f.now) (counting_of c.args.count.now) c.args.inside.now c.args.rest.now.items c.requires.is c.requires.fits c.begin_for.new.terms (supply_of c.begin_for.new.supply) c.in_ok-known.field-0 c.in_ok-known.ensures.begun c.statement.new.terms (supply_of c.statement.new.supply) c.in_ok-turn.turn c.in_ok-turn.ensures.made c.end_for.result c.end_for.new.terms (supply_of c.end_for.new.supply) c.in_ok-turn.turn.items refl c.end_for.ensures.made

pub block-statement-requires : goal.block-statement-requires
block-statement-requires g t c =
    let within : statement_size c.index-statements-place.result < statement_size (block_of c.args.statements.now) = subst (λ (s : Statement). statement_size s < statement_size (block_of c.args.statements.now)) (sym c.index-statements-place.is) (statement_within c.args.statements.now (c.loop-place.place - 1) _ (omega (arith, c.loop-place-test.true, c.loop-place.auto.place))) in
    let falls : 4 * statement_size c.index-statements-place.result + 3 < 4 * statement_size (block_of c.args.statements.now) + 2 = omega (arith, within) in
    let ready : g.L.Leaves.fits c.loop-place.leaves c.args.program.now c.args.body.now.here = c.loop-place.invariant.0 in
    let fits : MayWalk (g.L.Leaves.takes c.args.program.now c.args.body.now.here) c.args.program.now c.args.body.now c.loop-place.terms (supply_of c.loop-place.supply) c.index-statements-place.result c.loop-place.made.items = next_fits (g.L.Leaves.making c.args.program.now c.args.body.now.here) (g.L.Leaves.takes c.args.program.now c.args.body.now.here) c.args.program.now c.args.body.now c.args.terms.now c.loop-place.terms (supply_of c.args.supply.now) (supply_of c.loop-place.supply) c.args.statements.now (drop c.loop-place.place c.args.statements.now) c.args.rest.items c.loop-place.made.items c.requires.fits c.loop-place.invariant.1 c.index-statements-place.result c.loop-place.made.items refl (subst (IsTaken c.args.program.now c.args.body.now.here (g.L.Leaves.takes c.args.program.now c.args.body.now.here)) (sym c.index-statements-place.is) (each_taken (g.L.Leaves.takes c.args.program.now c.args.body.now.here) c.args.program.now c.args.body.now.here c.args.statements.now (c.loop-place.place - 1) _ (omega (arith, c.loop-place-test.true, c.loop-place.auto.place)) c.requires.fits.right)) in
    search rules

pub block-returns-in_err-made-clause-made : goal.block-returns-in_err-made-clause-made
block-returns-in_err-made-clause-made g t c =
    block_stops (g.L.Leaves.making c.args.program.now c.args.body.now.here) (g.L.Leaves.takes c.args.program.now c.args.body.now.here) c.args.program.now c.args.body.now c.args.terms.now c.loop-place.terms (supply_of c.args.supply.now) (supply_of c.loop-place.supply) c.args.statements.now (drop c.loop-place.place c.args.statements.now) c.args.rest.items c.loop-place.made.items c.requires.fits c.loop-place.invariant.1 c.from_residual.result c.in_err-made.field-0.0 c.index-statements-place.result c.loop-place.made.items (c.loop-place.place - 1) c.statement.new.terms (supply_of c.statement.new.supply) (supply_of c.statement.new.supply) refl (one_before c.args.statements.now c.loop-place.place c.index-statements-place.result _ c.loop-place-test.true c.loop-place.auto.place c.index-statements-place.is) c.from_residual.ensures.1 c.in_err-made.ensures.made

pub block-loop-place-preserved : goal.block-loop-place-preserved
block-loop-place-preserved g t c =
    (c.in_ok-made.ensures.ready, block_goes_on (g.L.Leaves.making c.args.program.now c.args.body.now.here) (g.L.Leaves.takes c.args.program.now c.args.body.now.here) c.args.program.now c.args.body.now c.args.terms.now c.loop-place.terms (supply_of c.args.supply.now) (supply_of c.loop-place.supply) c.args.statements.now (drop c.loop-place.place c.args.statements.now) c.args.rest.items c.loop-place.made.items c.requires.fits c.loop-place.invariant.1 c.in_ok-made.made c.index-statements-place.result c.loop-place.made.items (drop (c.loop-place.place - 1) c.args.statements.now) c.statement.new.terms (supply_of c.statement.new.supply) refl (one_before c.args.statements.now c.loop-place.place c.index-statements-place.result _ c.loop-place-test.true c.loop-place.auto.place c.index-statements-place.is) c.in_ok-made.ensures.made)

pub block-returns-clause-made : goal.block-returns-clause-made
block-returns-clause-made g t c =
    let none : c.loop-place.place ≡ 0 = omega (arith, c.loop-place-test.false) in
    block_comes (g.L.Leaves.making c.args.program.now c.args.body.now.here) (g.L.Leaves.takes c.args.program.now c.args.body.now.here) c.args.program.now c.args.body.now c.args.terms.now c.loop-place.terms (supply_of c.args.supply.now) (supply_of c.loop-place.supply) c.args.statements.now (drop c.loop-place.place c.args.statements.now) c.args.rest.items c.loop-place.made.items c.requires.fits c.loop-place.invariant.1 c.loop-place.made refl (ap (λ (k : ℕ). drop k c.args.statements.now) none)

pub arms-loop-case-init : goal.arms-loop-case-init
arms-loop-case-init g t c =
    (c.requires.ready, arms_begin (g.L.Leaves.making c.args.program.now c.args.body.now.here) c.args.program.now c.args.body.now.here (tree c.args.terms.now c.args.about) (arms_of c.args.cases.now) c.args.terms.now (supply_of c.args.supply.now) c.args.rest.now.items c.new-made.result.items c.new-made.ensures c.requires.fits.there)

pub arms-one_arm-requires : goal.arms-one_arm-requires
arms-one_arm-requires g t c =
    let within : statement_size c.case-item.result.body.value < arms_size (arms_of c.args.cases.now) = subst (λ (k : Arm). statement_size k.body.value < arms_size (arms_of c.args.cases.now)) (sym c.case-item.is) (arm_within c.args.cases.now c.loop-case.case-index _ c.loop-case-test.true) in
    let falls : 4 * statement_size c.case-item.result.body.value + 4 < 4 * arms_size (arms_of c.args.cases.now) + 2 = omega (arith, within) in
    let ready : g.L.Leaves.fits c.loop-case.leaves c.args.program.now c.args.body.now.here = c.loop-case.invariant.0 in
    let fits : MayWalkArms (g.L.Leaves.takes c.args.program.now c.args.body.now.here) c.args.program.now c.args.body.now c.loop-case.terms (supply_of c.loop-case.supply) c.args.about (arms_of (c.case-item.result ∷ [])) c.args.rest.now.items = case_fits (g.L.Leaves.making c.args.program.now c.args.body.now.here) (g.L.Leaves.takes c.args.program.now c.args.body.now.here) c.args.program.now c.args.body.now c.args.about (arms_of c.args.cases.now) c.args.rest.now.items c.args.terms.now c.loop-case.terms (supply_of c.args.supply.now) (supply_of c.loop-case.supply) c.loop-case.made.items c.case-item.result (arms_of (drop (c.loop-case.case-index + 1) c.args.cases.now)) c.requires.fits (subst (λ (l : Arms). ArmsSoFar (g.L.Leaves.making c.args.program.now c.args.body.now.here) c.args.program.now c.args.body.now.here (tree c.args.terms.now c.args.about) (arms_of c.args.cases.now) l (made_of c.args.terms.now c.args.rest.now.items (supply_of c.args.supply.now)) c.args.terms.now c.loop-case.terms (supply_of c.loop-case.supply) c.loop-case.made.items) (next_arms c.args.cases.now c.loop-case.case-index c.case-item.result _ c.loop-case-test.true c.case-item.is) c.loop-case.invariant.1) (subst (λ (k : Arm). AreTakenArms (g.L.Leaves.takes c.args.program.now c.args.body.now.here) c.args.program.now c.args.body.now (arms_of (k ∷ []))) (sym c.case-item.is) (each_arm_taken (g.L.Leaves.takes c.args.program.now c.args.body.now.here) c.args.program.now c.args.body.now c.args.cases.now c.loop-case.case-index _ c.loop-case-test.true c.requires.fits.right)) in
    let within_it : AreIn c.loop-case.terms c.loop-case.made.items = c.loop-case.invariant.1.within in
    search rules

pub arms-returns-in_err-made-clause-made : goal.arms-returns-in_err-made-clause-made
arms-returns-in_err-made-clause-made g t c =
    arms_stop (g.L.Leaves.making c.args.program.now c.args.body.now.here) (g.L.Leaves.takes c.args.program.now c.args.body.now.here) c.args.program.now c.args.body.now c.args.about (arms_of c.args.cases.now) c.args.rest.now.items c.args.terms.now c.loop-case.terms (supply_of c.args.supply.now) (supply_of c.loop-case.supply) c.loop-case.made.items c.case-item.result (arms_of (drop (c.loop-case.case-index + 1) c.args.cases.now)) c.requires.fits (subst (λ (l : Arms). ArmsSoFar (g.L.Leaves.making c.args.program.now c.args.body.now.here) c.args.program.now c.args.body.now.here (tree c.args.terms.now c.args.about) (arms_of c.args.cases.now) l (made_of c.args.terms.now c.args.rest.now.items (supply_of c.args.supply.now)) c.args.terms.now c.loop-case.terms (supply_of c.loop-case.supply) c.loop-case.made.items) (next_arms c.args.cases.now c.loop-case.case-index c.case-item.result _ c.loop-case-test.true c.case-item.is) c.loop-case.invariant.1) c.from_residual.result c.in_err-made.field-0.0 (supply_of c.one_arm.new.supply) (supply_of c.one_arm.new.supply) c.one_arm.new.terms c.from_residual.ensures.1 c.in_err-made.ensures.made

pub arms-loop-case-preserved : goal.arms-loop-case-preserved
arms-loop-case-preserved g t c =
    (c.in_ok-made.ensures.ready, arms_go_on (g.L.Leaves.making c.args.program.now c.args.body.now.here) (g.L.Leaves.takes c.args.program.now c.args.body.now.here) c.args.program.now c.args.body.now c.args.about (arms_of c.args.cases.now) c.args.rest.now.items c.args.terms.now c.loop-case.terms (supply_of c.args.supply.now) (supply_of c.loop-case.supply) c.loop-case.made.items c.case-item.result (arms_of (drop (c.loop-case.case-index + 1) c.args.cases.now)) c.requires.fits (subst (λ (l : Arms). ArmsSoFar (g.L.Leaves.making c.args.program.now c.args.body.now.here) c.args.program.now c.args.body.now.here (tree c.args.terms.now c.args.about) (arms_of c.args.cases.now) l (made_of c.args.terms.now c.args.rest.now.items (supply_of c.args.supply.now)) c.args.terms.now c.loop-case.terms (supply_of c.loop-case.supply) c.loop-case.made.items) (next_arms c.args.cases.now c.loop-case.case-index c.case-item.result _ c.loop-case-test.true c.case-item.is) c.loop-case.invariant.1) c.in_ok-made.made (supply_of c.one_arm.new.supply) c.one_arm.new.terms c.in_ok-made.ensures.made)
