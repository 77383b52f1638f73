use Rattle.std.proofs.Common.{refl, option_map}
use Rattle.spv_program.specs.typed.FormulaViews.{annotation_of}
use Rattle.spv_flow_parts.proofs.for_loops.Endings.{put_comes}
use Rattle.spv_flow_parts.proofs.for_loops.ending.wanted_put.Goals as goal

pub replaced_in-requires-clause-rest : goal.replaced_in-requires-clause-rest
replaced_in-requires-clause-rest c = (c.in_ok-first.ensures.conditions c.args.terms.now c.args.program.now c.requires.note).in_range

pub returns : goal.returns
returns c =
    put_comes c.args.program.now c.args.body.now.here c.args.kind (option_map annotation_of c.args.f.now) c.args.variable c.args.t c.args.terms.now c.replaced_in.new.terms c.in_ok-first.first.items c.in_ok-first.first.items
    c.replaced_in.result refl (c.in_ok-first.ensures.conditions c.args.terms.now c.args.program.now c.requires.note) c.replaced_in.ensures
