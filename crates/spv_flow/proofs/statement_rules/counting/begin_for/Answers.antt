use Rattle.std.proofs.Common.{refl, option_map}
use Rattle.spv_program.specs.Programs.{routine_in}
use Rattle.spv_program.specs.ExpressionTerms.{valued}
use Rattle.spv_program.specs.typed.FormulaViews.{annotation_of}
use Rattle.spv_program.specs.typed.StatementViews.{counting_of}
use Rattle.spv_assign.specs.supply.Numbers.{supply_of}
use Rattle.spv_flow_parts.proofs.Steps.{Stands-Extends}
use Rattle.spv_flow_parts.proofs.LoopLemmas.{IsNoted-Extends}
use Rattle.spv_flow.proofs.statement_rules.ForLemmas.{ends_stop, note_stops, counter_stops, counter_pair, put_stops, for_begins}
use Rattle.spv_flow.proofs.statement_rules.counting.begin_for.Goals as goal

pub returns-in_err-first-clause-begun : goal.returns-in_err-first-clause-begun
returns-in_err-first-clause-begun g c =
    ends_stop c.args.program.now c.args.body.now.here (option_map annotation_of c.args.f.now) (counting_of c.args.count.now) ((g.L.Leaves.making c.args.program.now c.args.body.now.here).test c.args.count.now.first (supply_of c.args.supply.now)) ((g.L.Leaves.making c.args.program.now c.args.body.now.here).test c.args.count.now.last (valued c.args.program.now (routine_in c.args.program.now c.args.body.now.here) (supply_of c.args.supply.now) c.args.count.now.first).supply) (valued c.args.program.now (routine_in c.args.program.now c.args.body.now.here) (supply_of c.args.supply.now) c.args.count.now.first) (valued c.args.program.now (routine_in c.args.program.now c.args.body.now.here) (valued c.args.program.now (routine_in c.args.program.now c.args.body.now.here) (supply_of c.args.supply.now) c.args.count.now.first).supply c.args.count.now.last) c.args.terms.now c.from_residual.result c.in_err-first.field-0.0 c.for_ends.new.terms (supply_of c.for_ends.new.supply) c.from_residual.ensures.1 c.in_err-first.ensures.ends

pub noted-requires-clause-stands : goal.noted-requires-clause-stands
noted-requires-clause-stands g c = Stands-Extends c.args.program.now c.args.body.now c.in_ok-first.ensures.ends.grows c.requires.stands

pub returns-in_err-note-clause-begun : goal.returns-in_err-note-clause-begun
returns-in_err-note-clause-begun g c =
    note_stops c.args.program.now c.args.body.now.here (option_map annotation_of c.args.f.now) (counting_of c.args.count.now) ((g.L.Leaves.making c.args.program.now c.args.body.now.here).test c.args.count.now.first (supply_of c.args.supply.now)) ((g.L.Leaves.making c.args.program.now c.args.body.now.here).test c.args.count.now.last (valued c.args.program.now (routine_in c.args.program.now c.args.body.now.here) (supply_of c.args.supply.now) c.args.count.now.first).supply) (valued c.args.program.now (routine_in c.args.program.now c.args.body.now.here) (supply_of c.args.supply.now) c.args.count.now.first) (valued c.args.program.now (routine_in c.args.program.now c.args.body.now.here) (valued c.args.program.now (routine_in c.args.program.now c.args.body.now.here) (supply_of c.args.supply.now) c.args.count.now.first).supply c.args.count.now.last) c.args.terms.now c.for_ends.new.terms (supply_of c.for_ends.new.supply) c.in_ok-first.field-0 c.in_ok-first.ensures.ends c.from_residual-in_err-note.result c.in_err-note.field-0.0 c.noted.new.terms c.from_residual-in_err-note.ensures.1 c.in_err-note.ensures.grows c.in_err-note.ensures.walk

pub returns-in_err-made-clause-begun : goal.returns-in_err-made-clause-begun
returns-in_err-made-clause-begun g c =
    counter_stops c.args.program.now c.args.body.now.here (option_map annotation_of c.args.f.now) (counting_of c.args.count.now) ((g.L.Leaves.making c.args.program.now c.args.body.now.here).test c.args.count.now.first (supply_of c.args.supply.now)) ((g.L.Leaves.making c.args.program.now c.args.body.now.here).test c.args.count.now.last (valued c.args.program.now (routine_in c.args.program.now c.args.body.now.here) (supply_of c.args.supply.now) c.args.count.now.first).supply) (valued c.args.program.now (routine_in c.args.program.now c.args.body.now.here) (supply_of c.args.supply.now) c.args.count.now.first) (valued c.args.program.now (routine_in c.args.program.now c.args.body.now.here) (valued c.args.program.now (routine_in c.args.program.now c.args.body.now.here) (supply_of c.args.supply.now) c.args.count.now.first).supply c.args.count.now.last) c.args.terms.now c.for_ends.new.terms (supply_of c.for_ends.new.supply) c.in_ok-first.field-0 c.in_ok-first.ensures.ends c.noted.new.terms c.in_ok-note.note c.in_ok-note.ensures.grows c.in_ok-note.ensures.note c.in_ok-note.ensures.walk c.from_residual-in_err-made.result c.in_err-made.field-0.0 c.counter.new.terms c.from_residual-in_err-made.ensures.1 c.in_err-made.ensures.grows c.in_err-made.ensures.walk

pub wanted_put-requires-clause-note : goal.wanted_put-requires-clause-note
wanted_put-requires-clause-note g c =
    IsNoted-Extends c.args.program.now c.args.body.now.here c.in_ok-note.note (option_map annotation_of c.args.f.now) c.in_ok-made.ensures.grows c.in_ok-note.ensures.note

pub wanted_put-requires-clause-pair : goal.wanted_put-requires-clause-pair
wanted_put-requires-clause-pair g c =
    counter_pair (counting_of c.args.count.now) c.counter.new.terms c.in_ok-made.made c.in_ok-made.ensures.counter

pub returns-in_err-behind-clause-begun : goal.returns-in_err-behind-clause-begun
returns-in_err-behind-clause-begun g c =
    put_stops c.args.program.now c.args.body.now.here (option_map annotation_of c.args.f.now) (counting_of c.args.count.now) ((g.L.Leaves.making c.args.program.now c.args.body.now.here).test c.args.count.now.first (supply_of c.args.supply.now)) ((g.L.Leaves.making c.args.program.now c.args.body.now.here).test c.args.count.now.last (valued c.args.program.now (routine_in c.args.program.now c.args.body.now.here) (supply_of c.args.supply.now) c.args.count.now.first).supply) (valued c.args.program.now (routine_in c.args.program.now c.args.body.now.here) (supply_of c.args.supply.now) c.args.count.now.first) (valued c.args.program.now (routine_in c.args.program.now c.args.body.now.here) (valued c.args.program.now (routine_in c.args.program.now c.args.body.now.here) (supply_of c.args.supply.now) c.args.count.now.first).supply c.args.count.now.last) c.args.terms.now c.for_ends.new.terms (supply_of c.for_ends.new.supply) c.in_ok-first.field-0 c.in_ok-first.ensures.ends c.noted.new.terms c.in_ok-note.note c.in_ok-note.ensures.grows c.in_ok-note.ensures.note c.in_ok-note.ensures.walk c.counter.new.terms c.in_ok-made.made c.in_ok-made.ensures.grows c.in_ok-made.ensures.counter c.in_ok-made.ensures.walk c.from_residual-in_err-behind.result c.in_err-behind.field-0.0 c.wanted_put.new.terms c.from_residual-in_err-behind.ensures.1 c.in_err-behind.ensures

pub returns-clause-begun : goal.returns-clause-begun
returns-clause-begun g c =
    for_begins c.args.program.now c.args.body.now.here (option_map annotation_of c.args.f.now) (counting_of c.args.count.now) ((g.L.Leaves.making c.args.program.now c.args.body.now.here).test c.args.count.now.first (supply_of c.args.supply.now)) ((g.L.Leaves.making c.args.program.now c.args.body.now.here).test c.args.count.now.last (valued c.args.program.now (routine_in c.args.program.now c.args.body.now.here) (supply_of c.args.supply.now) c.args.count.now.first).supply) (valued c.args.program.now (routine_in c.args.program.now c.args.body.now.here) (supply_of c.args.supply.now) c.args.count.now.first) (valued c.args.program.now (routine_in c.args.program.now c.args.body.now.here) (valued c.args.program.now (routine_in c.args.program.now c.args.body.now.here) (supply_of c.args.supply.now) c.args.count.now.first).supply c.args.count.now.last) c.args.terms.now c.for_ends.new.terms (supply_of c.for_ends.new.supply) c.in_ok-first.field-0 c.in_ok-first.ensures.ends c.noted.new.terms c.in_ok-note.note c.in_ok-note.ensures.grows c.in_ok-note.ensures.note c.in_ok-note.ensures.walk c.counter.new.terms c.in_ok-made.made c.in_ok-made.ensures.grows c.in_ok-made.ensures.counter c.in_ok-made.ensures.walk c.in_ok-behind.behind c.wanted_put.new.terms _ refl refl c.in_ok-behind.ensures
