use Rattle.std.proofs.Common.{option_map}
use Rattle.spv_program.specs.typed.FormulaViews.{annotation_of}
use Rattle.spv_assign.specs.supply.Numbers.{supply_of}
use Rattle.spv_meaning.specs.Before.{renamed}
use Rattle.spv_flow_parts.proofs.LoopLemmas.{IsNoted-Extends, loop_stops, loop_comes}
use Rattle.spv_flow_parts.proofs.loops.end_of_loop.Goals as goal

pub returns-in_err-made : goal.returns-in_err-made
returns-in_err-made c =
    loop_stops c.args.terms.now c.renamed_uses.new.terms c.args.program.now c.args.body.now.here c.args.note (option_map annotation_of c.args.f.now) c.args.uses.items (supply_of c.renamed_uses.new.supply)
    (renamed c.args.heads.now (supply_of c.args.supply.now)) c.requires.note c.from_residual.result c.in_err-made.field-0.0 (supply_of c.renamed_uses.new.supply) c.from_residual.ensures.1 c.in_err-made.ensures

pub returns : goal.returns
returns c =
    let comes = c.in_ok-made.ensures in
    loop_comes c.args.terms.now c.renamed_uses.new.terms c.args.program.now c.args.body.now.here c.args.note (option_map annotation_of c.args.f.now) c.args.uses.items (supply_of c.renamed_uses.new.supply)
    (renamed c.args.heads.now (supply_of c.args.supply.now)) c.requires.note c.joined.result c.in_ok-made.made.items c.in_ok-first.first.items comes.grows comes.made comes.walk
    (c.in_ok-first.ensures.conditions c.renamed_uses.new.terms c.args.program.now (IsNoted-Extends c.args.program.now c.args.body.now.here c.args.note (option_map annotation_of c.args.f.now) comes.grows c.requires.note))
    c.joined.ensures.items (c.joined.ensures.walk c.renamed_uses.new.terms)
