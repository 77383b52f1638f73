use Rattle.std.proofs.Common.{refl, option_map}
use Rattle.spv_logic.specs.declared.types.Sort.TheVariants as sort
use Rattle.spv_program.specs.Programs.{routine_in}
use Rattle.spv_program.specs.ExpressionTerms.{valued}
use Rattle.spv_program.specs.typed.FormulaViews.{annotation_of}
use Rattle.spv_assign.specs.supply.Numbers.{supply_of}
use Rattle.spv_flow_parts.proofs.Steps.{Stands-Extends}
use Rattle.spv_flow.proofs.statement_rules.LoopBegins.{sort_of_test, test_stops, note_stops, begun_never, while_begins}
use Rattle.spv_flow.proofs.statement_rules.loops.begin_while.Goals as goal

pub test-requires-clause-takes : goal.test-requires-clause-takes
test-requires-clause-takes g c = c.requires.tested.value.taken

pub returns-in_err-test-clause-begun : goal.returns-in_err-test-clause-begun
returns-in_err-test-clause-begun g c =
    test_stops c.args.program.now c.args.body.now.here (option_map annotation_of c.args.f.now) ((g.L.Leaves.making c.args.program.now c.args.body.now.here).test c.args.e.now (supply_of c.args.supply.now)) (valued c.args.program.now (routine_in c.args.program.now c.args.body.now.here) (supply_of c.args.supply.now) c.args.e.now) c.args.terms.now c.from_residual.result c.in_err-test.field-0.0 c.test.new.terms (supply_of c.test.new.supply) c.from_residual.ensures.1 c.in_err-test.ensures.made

pub noted-requires-clause-stands : goal.noted-requires-clause-stands
noted-requires-clause-stands g c = Stands-Extends c.args.program.now c.args.body.now c.in_ok-test.ensures.made.grows c.requires.stands

pub noted-requires-clause-typed : goal.noted-requires-clause-typed
noted-requires-clause-typed g c = c.requires.tested.notes

pub returns-in_err-note-clause-begun : goal.returns-in_err-note-clause-begun
returns-in_err-note-clause-begun g c =
    note_stops c.args.program.now c.args.body.now.here (option_map annotation_of c.args.f.now) ((g.L.Leaves.making c.args.program.now c.args.body.now.here).test c.args.e.now (supply_of c.args.supply.now)) (valued c.args.program.now (routine_in c.args.program.now c.args.body.now.here) (supply_of c.args.supply.now) c.args.e.now) c.args.terms.now c.test.new.terms (supply_of c.test.new.supply) c.in_ok-test.test c.in_ok-test.ensures.made c.from_residual-in_err-note.result c.in_err-note.field-0.0 c.noted.new.terms c.from_residual-in_err-note.ensures.1 c.in_err-note.ensures.grows c.in_err-note.ensures.walk

pub returns-in_err-behind-clause-begun : goal.returns-in_err-behind-clause-begun
returns-in_err-behind-clause-begun g c =
    begun_never c.args.program.now c.args.body.now.here (option_map annotation_of c.args.f.now) ((g.L.Leaves.making c.args.program.now c.args.body.now.here).test c.args.e.now (supply_of c.args.supply.now)) (valued c.args.program.now (routine_in c.args.program.now c.args.body.now.here) (supply_of c.args.supply.now) c.args.e.now) c.args.terms.now c.test.new.terms (supply_of c.test.new.supply) c.in_ok-test.test c.in_ok-test.ensures.made c.noted.new.terms c.in_ok-note.note c.in_ok-note.ensures.grows c.in_ok-note.ensures.note c.in_ok-note.ensures.walk c.from_residual-in_err-behind.result c.in_err-behind.field-0.0 c.from_residual-in_err-behind.ensures.1 c.in_err-behind.ensures.err

pub returns-clause-begun : goal.returns-clause-begun
returns-clause-begun g c =
    while_begins c.args.program.now c.args.body.now.here (option_map annotation_of c.args.f.now) ((g.L.Leaves.making c.args.program.now c.args.body.now.here).test c.args.e.now (supply_of c.args.supply.now)) (valued c.args.program.now (routine_in c.args.program.now c.args.body.now.here) (supply_of c.args.supply.now) c.args.e.now) c.args.terms.now c.test.new.terms (supply_of c.test.new.supply) c.in_ok-test.test c.in_ok-test.ensures.made c.noted.new.terms c.in_ok-note.note c.in_ok-note.ensures.grows c.in_ok-note.ensures.note c.in_ok-note.ensures.walk _ c.in_ok-behind.behind.items refl refl refl
    (sort_of_test (g.L.Leaves.takes c.args.program.now c.args.body.now.here) c.args.program.now c.args.body.now.here c.args.e.now sort.Bool c.test.new.terms c.in_ok-test.test.term c.requires.tested.value c.in_ok-test.ensures.sort)
    (c.in_ok-behind.ensures.conditions c.noted.new.terms c.args.program.now c.in_ok-note.ensures.note)
