use Rattle.std.proofs.Common.{refl, option_map}
use Rattle.spv_program.specs.Programs.{routine_in}
use Rattle.spv_program.specs.ExpressionTerms.{valued}
use Rattle.spv_program.specs.typed.FormulaViews.{annotation_of}
use Rattle.spv_assign.specs.supply.Numbers.{supply_of}
use Rattle.spv_assign.proofs.Growing.{AreIn-Extends}
use Rattle.spv_flow.proofs.statement_rules.LoopBegins.{first_stops, turning_stops, calling_stops, repeat_begins}
use Rattle.spv_flow.proofs.statement_rules.loops.begin_repeat.Goals as goal

pub returns-in_err-known-clause-begun : goal.returns-in_err-known-clause-begun
returns-in_err-known-clause-begun g c =
    first_stops c.args.program.now c.args.body.now.here (option_map annotation_of c.args.f.now) ((g.L.Leaves.making c.args.program.now c.args.body.now.here).test c.args.e.now (supply_of c.args.supply.now)) (valued c.args.program.now (routine_in c.args.program.now c.args.body.now.here) (supply_of c.args.supply.now) c.args.e.now) c.args.rest.items c.args.terms.now c.requires.rest c.from_residual.result c.in_err-known.field-0.0 c.begin_while.new.terms (supply_of c.begin_while.new.supply) c.from_residual.ensures.1 c.in_err-known.ensures.begun

pub turned_ways-requires-clause-test : goal.turned_ways-requires-clause-test
turned_ways-requires-clause-test g c = c.in_ok-known.ensures.begun.begun.known.test.term.there

pub turned_ways-requires-clause-sort : goal.turned_ways-requires-clause-sort
turned_ways-requires-clause-sort g c = c.in_ok-known.ensures.begun.begun.known.test.sorted

pub turned_ways-requires-clause-first : goal.turned_ways-requires-clause-first
turned_ways-requires-clause-first g c = c.in_ok-known.ensures.begun.begun.behind.in_range

pub turned_ways-requires-clause-second : goal.turned_ways-requires-clause-second
turned_ways-requires-clause-second g c = AreIn-Extends c.in_ok-known.ensures.begun.grows c.args.rest.items c.requires.rest

pub returns-in_err-uses-clause-begun : goal.returns-in_err-uses-clause-begun
returns-in_err-uses-clause-begun g c =
    turning_stops c.args.program.now c.args.body.now.here (option_map annotation_of c.args.f.now) ((g.L.Leaves.making c.args.program.now c.args.body.now.here).test c.args.e.now (supply_of c.args.supply.now)) (valued c.args.program.now (routine_in c.args.program.now c.args.body.now.here) (supply_of c.args.supply.now) c.args.e.now) c.args.rest.items c.args.terms.now c.requires.rest c.begin_while.new.terms (supply_of c.begin_while.new.supply) c.in_ok-known.field-0 c.in_ok-known.ensures.begun c.in_ok-known.field-0.behind.items refl c.from_residual-in_err-uses.result c.in_err-uses.field-0.0 c.turned_ways.new.terms c.from_residual-in_err-uses.ensures.1 c.in_err-uses.ensures

pub returns-in_err-behind-clause-begun : goal.returns-in_err-behind-clause-begun
returns-in_err-behind-clause-begun g c =
    calling_stops c.args.program.now c.args.body.now.here (option_map annotation_of c.args.f.now) ((g.L.Leaves.making c.args.program.now c.args.body.now.here).test c.args.e.now (supply_of c.args.supply.now)) (valued c.args.program.now (routine_in c.args.program.now c.args.body.now.here) (supply_of c.args.supply.now) c.args.e.now) c.args.rest.items c.args.terms.now c.requires.rest c.begin_while.new.terms (supply_of c.begin_while.new.supply) c.in_ok-known.field-0 c.in_ok-known.ensures.begun c.in_ok-known.field-0.behind.items refl c.turned_ways.new.terms c.in_ok-uses.uses c.in_ok-uses.ensures c.from_residual-in_err-behind.result c.in_err-behind.field-0.0 c.from_residual-in_err-behind.ensures.1 c.in_err-behind.ensures.made

pub returns-clause-begun : goal.returns-clause-begun
returns-clause-begun g c =
    repeat_begins c.args.program.now c.args.body.now.here (option_map annotation_of c.args.f.now) ((g.L.Leaves.making c.args.program.now c.args.body.now.here).test c.args.e.now (supply_of c.args.supply.now)) (valued c.args.program.now (routine_in c.args.program.now c.args.body.now.here) (supply_of c.args.supply.now) c.args.e.now) c.args.rest.items c.args.terms.now c.requires.rest c.begin_while.new.terms (supply_of c.begin_while.new.supply) c.in_ok-known.field-0 c.in_ok-known.ensures.begun c.in_ok-known.field-0.behind.items refl c.turned_ways.new.terms c.in_ok-uses.uses c.in_ok-uses.ensures _ c.in_ok-behind.behind refl refl c.in_ok-behind.ensures.made
