use Rattle.std.proofs.Common.{refl, Ok, Err}
use Rattle.spv_logic.specs.declared.types.Sort.TheVariants as sort
use Rattle.spv_program.specs.Programs.{routine_in}
use Rattle.spv_program.specs.ExpressionTerms.{valued}
use Rattle.spv_assign.specs.supply.Numbers.{supply_of}
use Rattle.spv_flow_parts.proofs.Steps.{Stands-Extends}
use Rattle.spv_flow.proofs.statement_rules.LoopBegins.{sort_of_test}
use Rattle.spv_flow.proofs.statement_rules.ForLemmas.{value_behind, first_end_stops, last_end_stops, ends_begin}
use Rattle.spv_flow.proofs.statement_rules.counting.for_ends.Goals as goal

pub test-requires-clause-takes : goal.test-requires-clause-takes
test-requires-clause-takes g c = c.requires.counted.first.taken

pub returns-in_err-first-clause-ends : goal.returns-in_err-first-clause-ends
returns-in_err-first-clause-ends g c =
    first_end_stops ((g.L.Leaves.making c.args.program.now c.args.body.now.here).test c.args.count.now.first (supply_of c.args.supply.now)) ((g.L.Leaves.making c.args.program.now c.args.body.now.here).test c.args.count.now.last (valued c.args.program.now (routine_in c.args.program.now c.args.body.now.here) (supply_of c.args.supply.now) c.args.count.now.first).supply) (valued c.args.program.now (routine_in c.args.program.now c.args.body.now.here) (supply_of c.args.supply.now) c.args.count.now.first) (valued c.args.program.now (routine_in c.args.program.now c.args.body.now.here) (valued c.args.program.now (routine_in c.args.program.now c.args.body.now.here) (supply_of c.args.supply.now) c.args.count.now.first).supply c.args.count.now.last) c.args.terms.now c.from_residual.result c.in_err-first.field-0.0 c.test.new.terms (supply_of c.test.new.supply) c.from_residual.ensures.1 c.in_err-first.ensures.made

pub test-requires-2-clause-stands : goal.test-requires-2-clause-stands
test-requires-2-clause-stands g c = Stands-Extends c.args.program.now c.args.body.now c.in_ok-first.ensures.made.grows c.requires.stands

pub test-requires-2-clause-takes : goal.test-requires-2-clause-takes
test-requires-2-clause-takes g c = c.requires.counted.last.taken

pub test-requires-2-clause-there : goal.test-requires-2-clause-there
test-requires-2-clause-there g c = c.in_ok-first.ensures.made.value.there

pub returns-in_err-last-clause-ends : goal.returns-in_err-last-clause-ends
returns-in_err-last-clause-ends g c =
    last_end_stops ((g.L.Leaves.making c.args.program.now c.args.body.now.here).test c.args.count.now.first (supply_of c.args.supply.now)) ((g.L.Leaves.making c.args.program.now c.args.body.now.here).test c.args.count.now.last (valued c.args.program.now (routine_in c.args.program.now c.args.body.now.here) (supply_of c.args.supply.now) c.args.count.now.first).supply) (valued c.args.program.now (routine_in c.args.program.now c.args.body.now.here) (supply_of c.args.supply.now) c.args.count.now.first) (valued c.args.program.now (routine_in c.args.program.now c.args.body.now.here) (valued c.args.program.now (routine_in c.args.program.now c.args.body.now.here) (supply_of c.args.supply.now) c.args.count.now.first).supply c.args.count.now.last) c.args.terms.now c.test.new.terms (supply_of c.test.new.supply) c.in_ok-first.first c.in_ok-first.ensures.made c.from_residual-in_err-last.result c.in_err-last.field-0.0 c.test-2.new.terms (supply_of c.test-2.new.supply) c.from_residual-in_err-last.ensures.1
    (value_behind c.args.program.now (routine_in c.args.program.now c.args.body.now.here) c.args.count.now.last (Err c.in_err-last.field-0.0) (g.L.Leaves.making c.args.program.now c.args.body.now.here).test (supply_of c.test.new.supply) (valued c.args.program.now (routine_in c.args.program.now c.args.body.now.here) (supply_of c.args.supply.now) c.args.count.now.first).supply c.test.new.terms c.test-2.new.terms (supply_of c.test-2.new.supply) c.in_ok-first.ensures.made.value.supply c.in_err-last.ensures.made)

pub returns-clause-ends : goal.returns-clause-ends
returns-clause-ends g c =
    ends_begin ((g.L.Leaves.making c.args.program.now c.args.body.now.here).test c.args.count.now.first (supply_of c.args.supply.now)) ((g.L.Leaves.making c.args.program.now c.args.body.now.here).test c.args.count.now.last (valued c.args.program.now (routine_in c.args.program.now c.args.body.now.here) (supply_of c.args.supply.now) c.args.count.now.first).supply) (valued c.args.program.now (routine_in c.args.program.now c.args.body.now.here) (supply_of c.args.supply.now) c.args.count.now.first) (valued c.args.program.now (routine_in c.args.program.now c.args.body.now.here) (valued c.args.program.now (routine_in c.args.program.now c.args.body.now.here) (supply_of c.args.supply.now) c.args.count.now.first).supply c.args.count.now.last) c.args.terms.now c.test.new.terms (supply_of c.test.new.supply) c.in_ok-first.first c.in_ok-first.ensures.made c.test-2.new.terms (supply_of c.test-2.new.supply) c.in_ok-last.last
    (value_behind c.args.program.now (routine_in c.args.program.now c.args.body.now.here) c.args.count.now.last (Ok c.in_ok-last.last) (g.L.Leaves.making c.args.program.now c.args.body.now.here).test (supply_of c.test.new.supply) (valued c.args.program.now (routine_in c.args.program.now c.args.body.now.here) (supply_of c.args.supply.now) c.args.count.now.first).supply c.test.new.terms c.test-2.new.terms (supply_of c.test-2.new.supply) c.in_ok-first.ensures.made.value.supply c.in_ok-last.ensures.made)
    (sort_of_test (g.L.Leaves.takes c.args.program.now c.args.body.now.here) c.args.program.now c.args.body.now.here c.args.count.now.first sort.Int c.test.new.terms c.in_ok-first.first.term c.requires.counted.first c.in_ok-first.ensures.sort)
    (sort_of_test (g.L.Leaves.takes c.args.program.now c.args.body.now.here) c.args.program.now c.args.body.now.here c.args.count.now.last sort.Int c.test-2.new.terms c.in_ok-last.last.term c.requires.counted.last c.in_ok-last.ensures.sort) _ refl refl
