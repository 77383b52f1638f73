use Rattle.std.proofs.Common.{refl, option_map}
use Rattle.spv_program.specs.typed.FormulaViews.{annotation_of}
use Rattle.spv_assign.specs.supply.Numbers.{supply_of}
use Rattle.spv_assign.specs.Conditions.{conditions_of}
use Rattle.spv_assign.specs.creation_trace.StatementEvents.{loop_names}
use Rattle.spv_flow_parts.proofs.Steps.{Stands-Extends}
use Rattle.spv_flow_parts.proofs.LoopLemmas.{IsNoted-Extends}
use Rattle.spv_flow.proofs.statement_rules.LoopEnds.{ways_stop, ways_grow, ways_in, numbers_behind, while_ends}
use Rattle.spv_flow.proofs.statement_rules.loops.end_while.Goals as goal

pub tested_ways-requires-clause-test : goal.tested_ways-requires-clause-test
tested_ways-requires-clause-test g c = c.requires.tested.is.term.there

pub tested_ways-requires-clause-sort : goal.tested_ways-requires-clause-sort
tested_ways-requires-clause-sort g c = c.requires.tested.is.sorted

pub returns-in_err-uses-clause-made : goal.returns-in_err-uses-clause-made
returns-in_err-uses-clause-made g c =
    λ w is. ways_stop c.args.program.now c.args.body.now.here (option_map annotation_of c.args.f.now) (loop_names c.args.program.now c.args.body.now.here c.args.whole.now (supply_of c.args.supply.now)) w (conditions_of c.args.terms.now c.args.turn.items) (conditions_of c.args.terms.now c.args.rest.items) c.args.terms.now c.tested_ways.new.terms c.from_residual.result c.in_err-uses.field-0.0 (supply_of c.args.supply.now) (supply_of c.args.supply.now) c.from_residual.ensures.1 c.requires.there (c.in_err-uses.ensures.made w is)

pub end_repeat-requires-clause-stands : goal.end_repeat-requires-clause-stands
end_repeat-requires-clause-stands g c =
    Stands-Extends c.args.program.now c.args.body.now (ways_grow c.args.program.now c.args.body.now.here (option_map annotation_of c.args.f.now) (loop_names c.args.program.now c.args.body.now.here c.args.whole.now (supply_of c.args.supply.now)) c.requires.tested.value (conditions_of c.args.terms.now c.args.turn.items) (conditions_of c.args.terms.now c.args.rest.items) c.args.terms.now c.tested_ways.new.terms c.in_ok-uses.uses (supply_of c.args.supply.now) c.requires.there (c.in_ok-uses.ensures.made c.requires.tested.value c.requires.tested.is)) c.requires.stands

pub end_repeat-requires-clause-there : goal.end_repeat-requires-clause-there
end_repeat-requires-clause-there g c =
    numbers_behind c.args.program.now c.args.body.now.here (option_map annotation_of c.args.f.now) (loop_names c.args.program.now c.args.body.now.here c.args.whole.now (supply_of c.args.supply.now)) c.requires.tested.value (conditions_of c.args.terms.now c.args.turn.items) (conditions_of c.args.terms.now c.args.rest.items) c.args.terms.now c.tested_ways.new.terms c.in_ok-uses.uses (supply_of c.args.supply.now) c.requires.there (c.in_ok-uses.ensures.made c.requires.tested.value c.requires.tested.is)

pub end_repeat-requires-clause-note : goal.end_repeat-requires-clause-note
end_repeat-requires-clause-note g c =
    IsNoted-Extends c.args.program.now c.args.body.now.here c.args.t.now.note (option_map annotation_of c.args.f.now) (ways_grow c.args.program.now c.args.body.now.here (option_map annotation_of c.args.f.now) (loop_names c.args.program.now c.args.body.now.here c.args.whole.now (supply_of c.args.supply.now)) c.requires.tested.value (conditions_of c.args.terms.now c.args.turn.items) (conditions_of c.args.terms.now c.args.rest.items) c.args.terms.now c.tested_ways.new.terms c.in_ok-uses.uses (supply_of c.args.supply.now) c.requires.there (c.in_ok-uses.ensures.made c.requires.tested.value c.requires.tested.is)) c.requires.note

pub end_repeat-requires-clause-uses : goal.end_repeat-requires-clause-uses
end_repeat-requires-clause-uses g c =
    ways_in c.args.program.now c.args.body.now.here (option_map annotation_of c.args.f.now) (loop_names c.args.program.now c.args.body.now.here c.args.whole.now (supply_of c.args.supply.now)) c.requires.tested.value (conditions_of c.args.terms.now c.args.turn.items) (conditions_of c.args.terms.now c.args.rest.items) c.args.terms.now c.tested_ways.new.terms c.in_ok-uses.uses (supply_of c.args.supply.now) c.requires.there (c.in_ok-uses.ensures.made c.requires.tested.value c.requires.tested.is)

pub returns-clause-made : goal.returns-clause-made
returns-clause-made g c =
    λ w is. while_ends c.args.program.now c.args.body.now.here (option_map annotation_of c.args.f.now) (loop_names c.args.program.now c.args.body.now.here c.args.whole.now (supply_of c.args.supply.now)) w (conditions_of c.args.terms.now c.args.turn.items) (conditions_of c.args.terms.now c.args.rest.items) c.args.terms.now c.tested_ways.new.terms c.in_ok-uses.uses (supply_of c.args.supply.now) c.requires.there (c.in_ok-uses.ensures.made w is) c.end_repeat.result c.in_ok-uses.uses.items c.end_repeat.new.terms (supply_of c.end_repeat.new.supply) refl c.end_repeat.ensures.made
