use Rattle.std.proofs.Common.{refl, option_map, ◌∙◌}
use Rattle.spv_program.specs.typed.FormulaViews.{annotation_of}
use Rattle.spv_term.proofs.ArenaLemmas.{sort_at-Extends}
use Rattle.spv_assign.specs.supply.Numbers.{supply_of}
use Rattle.spv_flow_parts.proofs.Steps.{IsTerm-Extends}
use Rattle.spv_flow_parts.proofs.LoopLemmas.{IsNoted-Extends, note_there}
use Rattle.spv_flow_parts.proofs.Pairs.{all_there}
use Rattle.spv_flow_parts.proofs.for_loops.Endings.{first_pair, begun_stops, numbers_then, grows_first, renaming_stops, pairs_fit, turn_then, inside_stops, numbers_inside, pairs_inside, rest_inside, outside_stops, grows_all, begun_in, inside_in, outside_in, pairs_all, ended_comes}
use Rattle.spv_flow_parts.proofs.for_loops.ending.end_of_for.Goals as goal

pub wanted_put-requires-clause-pair : goal.wanted_put-requires-clause-pair
wanted_put-requires-clause-pair c =
    first_pair c.args.terms.now c.args.x c.args.variable c.args.first c.requires.variable c.requires.first c.requires.number c.requires.first_sort

pub returns-in_err-begun : goal.returns-in_err-begun
returns-in_err-begun c =
    begun_stops c.args.program.now c.args.body.now.here (option_map annotation_of c.args.f.now) c.args.note c.args.direction c.args.x c.args.heads.now (supply_of c.args.supply.now) c.args.variable c.args.first c.args.end c.args.turn.now.items c.args.rest.now.items c.args.terms.now c.requires.variable c.requires.first c.requires.end c.requires.note c.requires.turn c.requires.rest c.requires.there c.from_residual.result c.in_err-begun.field-0.0 _ c.wanted_put.new.terms c.from_residual.ensures.1 c.in_err-begun.ensures

pub renamed-requires-clause-heads : goal.renamed-requires-clause-heads
renamed-requires-clause-heads c =
    all_there c.args.terms.now c.wanted_put.new.terms c.args.heads.now (grows_first c.args.program.now c.args.body.now.here (option_map annotation_of c.args.f.now) c.args.note c.args.direction c.args.x c.args.heads.now (supply_of c.args.supply.now) c.args.variable c.args.first c.args.end c.args.turn.now.items c.args.rest.now.items c.args.terms.now c.requires.variable c.requires.first c.requires.end c.requires.note c.requires.turn c.requires.rest c.requires.there c.wanted_put.new.terms c.in_ok-begun.begun c.in_ok-begun.ensures) c.requires.heads

pub renamed-requires-clause-there : goal.renamed-requires-clause-there
renamed-requires-clause-there c =
    numbers_then c.args.program.now c.args.body.now.here (option_map annotation_of c.args.f.now) c.args.note c.args.direction c.args.x c.args.heads.now (supply_of c.args.supply.now) c.args.variable c.args.first c.args.end c.args.turn.now.items c.args.rest.now.items c.args.terms.now c.requires.variable c.requires.first c.requires.end c.requires.note c.requires.turn c.requires.rest c.requires.there c.wanted_put.new.terms c.in_ok-begun.begun c.in_ok-begun.ensures

pub returns-in_err-made : goal.returns-in_err-made
returns-in_err-made c =
    renaming_stops c.args.program.now c.args.body.now.here (option_map annotation_of c.args.f.now) c.args.note c.args.direction c.args.x c.args.heads.now (supply_of c.args.supply.now) c.args.variable c.args.first c.args.end c.args.turn.now.items c.args.rest.now.items c.args.terms.now c.requires.variable c.requires.first c.requires.end c.requires.note c.requires.turn c.requires.rest c.requires.there c.wanted_put.new.terms c.in_ok-begun.begun c.in_ok-begun.ensures c.from_residual-in_err-made.result c.in_err-made.field-0.0 _ c.renamed.new.terms c.from_residual-in_err-made.ensures.1 c.in_err-made.ensures.grows c.in_err-made.ensures.walk

pub replaced_in-requires-clause-rest : goal.replaced_in-requires-clause-rest
replaced_in-requires-clause-rest c =
    turn_then c.args.program.now c.args.body.now.here (option_map annotation_of c.args.f.now) c.args.note c.args.direction c.args.x c.args.heads.now (supply_of c.args.supply.now) c.args.variable c.args.first c.args.end c.args.turn.now.items c.args.rest.now.items c.args.terms.now c.requires.variable c.requires.first c.requires.end c.requires.note c.requires.turn c.requires.rest c.requires.there c.wanted_put.new.terms c.in_ok-begun.begun c.in_ok-begun.ensures c.renamed.new.terms (supply_of c.renamed.new.supply) c.in_ok-made.made.items c.as_slice-pairs.result.now c.as_slice-pairs.ensures.value c.in_ok-made.ensures.grows c.in_ok-made.ensures.pairs c.in_ok-made.ensures.walk

pub replaced_in-requires-clause-pairs : goal.replaced_in-requires-clause-pairs
replaced_in-requires-clause-pairs c =
    pairs_fit c.args.program.now c.args.body.now.here (option_map annotation_of c.args.f.now) c.args.note c.args.direction c.args.x c.args.heads.now (supply_of c.args.supply.now) c.args.variable c.args.first c.args.end c.args.turn.now.items c.args.rest.now.items c.args.terms.now c.requires.variable c.requires.first c.requires.end c.requires.note c.requires.turn c.requires.rest c.requires.there c.wanted_put.new.terms c.in_ok-begun.begun c.in_ok-begun.ensures c.renamed.new.terms (supply_of c.renamed.new.supply) c.in_ok-made.made.items c.as_slice-pairs.result.now c.as_slice-pairs.ensures.value c.in_ok-made.ensures.grows c.in_ok-made.ensures.pairs c.in_ok-made.ensures.walk

pub returns-in_err-inside : goal.returns-in_err-inside
returns-in_err-inside c =
    inside_stops c.args.program.now c.args.body.now.here (option_map annotation_of c.args.f.now) c.args.note c.args.direction c.args.x c.args.heads.now (supply_of c.args.supply.now) c.args.variable c.args.first c.args.end c.args.turn.now.items c.args.rest.now.items c.args.terms.now c.requires.variable c.requires.first c.requires.end c.requires.note c.requires.turn c.requires.rest c.requires.there c.wanted_put.new.terms c.in_ok-begun.begun c.in_ok-begun.ensures c.renamed.new.terms (supply_of c.renamed.new.supply) c.in_ok-made.made.items c.as_slice-pairs.result.now c.as_slice-pairs.ensures.value c.in_ok-made.ensures.grows c.in_ok-made.ensures.pairs c.in_ok-made.ensures.walk c.from_residual-in_err-inside.result c.in_err-inside.field-0.0 _ c.replaced_in.new.terms c.from_residual-in_err-inside.ensures.1 c.in_err-inside.ensures

pub left_behind-requires-clause-there : goal.left_behind-requires-clause-there
left_behind-requires-clause-there c =
    numbers_inside c.args.program.now c.args.body.now.here (option_map annotation_of c.args.f.now) c.args.note c.args.direction c.args.x c.args.heads.now (supply_of c.args.supply.now) c.args.variable c.args.first c.args.end c.args.turn.now.items c.args.rest.now.items c.args.terms.now c.requires.variable c.requires.first c.requires.end c.requires.note c.requires.turn c.requires.rest c.requires.there c.wanted_put.new.terms c.in_ok-begun.begun c.in_ok-begun.ensures c.renamed.new.terms (supply_of c.renamed.new.supply) c.in_ok-made.made.items c.as_slice-pairs.result.now c.as_slice-pairs.ensures.value c.in_ok-made.ensures.grows c.in_ok-made.ensures.pairs c.in_ok-made.ensures.walk c.replaced_in.new.terms c.in_ok-inside.inside c.in_ok-inside.ensures

pub left_behind-requires-clause-pairs : goal.left_behind-requires-clause-pairs
left_behind-requires-clause-pairs c =
    pairs_inside c.args.program.now c.args.body.now.here (option_map annotation_of c.args.f.now) c.args.note c.args.direction c.args.x c.args.heads.now (supply_of c.args.supply.now) c.args.variable c.args.first c.args.end c.args.turn.now.items c.args.rest.now.items c.args.terms.now c.requires.variable c.requires.first c.requires.end c.requires.note c.requires.turn c.requires.rest c.requires.there c.wanted_put.new.terms c.in_ok-begun.begun c.in_ok-begun.ensures c.renamed.new.terms (supply_of c.renamed.new.supply) c.in_ok-made.made.items c.as_slice-pairs.result.now c.as_slice-pairs.ensures.value c.in_ok-made.ensures.grows c.in_ok-made.ensures.pairs c.in_ok-made.ensures.walk c.replaced_in.new.terms c.in_ok-inside.inside c.in_ok-inside.ensures

pub left_behind-requires-clause-rest : goal.left_behind-requires-clause-rest
left_behind-requires-clause-rest c =
    rest_inside c.args.program.now c.args.body.now.here (option_map annotation_of c.args.f.now) c.args.note c.args.direction c.args.x c.args.heads.now (supply_of c.args.supply.now) c.args.variable c.args.first c.args.end c.args.turn.now.items c.args.rest.now.items c.args.terms.now c.requires.variable c.requires.first c.requires.end c.requires.note c.requires.turn c.requires.rest c.requires.there c.wanted_put.new.terms c.in_ok-begun.begun c.in_ok-begun.ensures c.renamed.new.terms (supply_of c.renamed.new.supply) c.in_ok-made.made.items c.as_slice-pairs.result.now c.as_slice-pairs.ensures.value c.in_ok-made.ensures.grows c.in_ok-made.ensures.pairs c.in_ok-made.ensures.walk c.replaced_in.new.terms c.in_ok-inside.inside c.in_ok-inside.ensures

pub returns-in_err-outside : goal.returns-in_err-outside
returns-in_err-outside c =
    outside_stops c.args.program.now c.args.body.now.here (option_map annotation_of c.args.f.now) c.args.note c.args.direction c.args.x c.args.heads.now (supply_of c.args.supply.now) c.args.variable c.args.first c.args.end c.args.turn.now.items c.args.rest.now.items c.args.terms.now c.requires.variable c.requires.first c.requires.end c.requires.note c.requires.turn c.requires.rest c.requires.there c.wanted_put.new.terms c.in_ok-begun.begun c.in_ok-begun.ensures c.renamed.new.terms (supply_of c.renamed.new.supply) c.in_ok-made.made.items c.as_slice-pairs.result.now c.as_slice-pairs.ensures.value c.in_ok-made.ensures.grows c.in_ok-made.ensures.pairs c.in_ok-made.ensures.walk c.replaced_in.new.terms c.in_ok-inside.inside c.in_ok-inside.ensures c.from_residual-in_err-outside.result c.in_err-outside.field-0.0 _ _ c.left_behind.new.terms c.from_residual-in_err-outside.ensures.1 c.in_err-outside.ensures

pub close-requires-clause-pairs : goal.close-requires-clause-pairs
close-requires-clause-pairs c =
    pairs_all c.args.program.now c.args.body.now.here (option_map annotation_of c.args.f.now) c.args.note c.args.direction c.args.x c.args.heads.now (supply_of c.args.supply.now) c.args.variable c.args.first c.args.end c.args.turn.now.items c.args.rest.now.items c.args.terms.now c.requires.variable c.requires.first c.requires.end c.requires.note c.requires.turn c.requires.rest c.requires.there c.wanted_put.new.terms c.in_ok-begun.begun c.in_ok-begun.ensures c.renamed.new.terms (supply_of c.renamed.new.supply) c.in_ok-made.made.items c.as_slice-pairs.result.now c.as_slice-pairs.ensures.value c.in_ok-made.ensures.grows c.in_ok-made.ensures.pairs c.in_ok-made.ensures.walk c.replaced_in.new.terms c.in_ok-inside.inside c.in_ok-inside.ensures c.left_behind.new.terms (supply_of c.left_behind.new.supply) c.in_ok-outside.outside c.in_ok-outside.ensures

pub close-requires-clause-note : goal.close-requires-clause-note
close-requires-clause-note c =
    note_there c.left_behind.new.terms c.args.program.now c.args.body.now.here c.args.note (option_map annotation_of c.args.f.now)
    (IsNoted-Extends c.args.program.now c.args.body.now.here c.args.note (option_map annotation_of c.args.f.now) (grows_all c.args.program.now c.args.body.now.here (option_map annotation_of c.args.f.now) c.args.note c.args.direction c.args.x c.args.heads.now (supply_of c.args.supply.now) c.args.variable c.args.first c.args.end c.args.turn.now.items c.args.rest.now.items c.args.terms.now c.requires.variable c.requires.first c.requires.end c.requires.note c.requires.turn c.requires.rest c.requires.there c.wanted_put.new.terms c.in_ok-begun.begun c.in_ok-begun.ensures c.renamed.new.terms (supply_of c.renamed.new.supply) c.in_ok-made.made.items c.as_slice-pairs.result.now c.as_slice-pairs.ensures.value c.in_ok-made.ensures.grows c.in_ok-made.ensures.pairs c.in_ok-made.ensures.walk c.replaced_in.new.terms c.in_ok-inside.inside c.in_ok-inside.ensures c.left_behind.new.terms (supply_of c.left_behind.new.supply) c.in_ok-outside.outside c.in_ok-outside.ensures) c.requires.note)

pub close-requires-clause-variable : goal.close-requires-clause-variable
close-requires-clause-variable c =
    (IsTerm-Extends c.args.variable _ (grows_all c.args.program.now c.args.body.now.here (option_map annotation_of c.args.f.now) c.args.note c.args.direction c.args.x c.args.heads.now (supply_of c.args.supply.now) c.args.variable c.args.first c.args.end c.args.turn.now.items c.args.rest.now.items c.args.terms.now c.requires.variable c.requires.first c.requires.end c.requires.note c.requires.turn c.requires.rest c.requires.there c.wanted_put.new.terms c.in_ok-begun.begun c.in_ok-begun.ensures c.renamed.new.terms (supply_of c.renamed.new.supply) c.in_ok-made.made.items c.as_slice-pairs.result.now c.as_slice-pairs.ensures.value c.in_ok-made.ensures.grows c.in_ok-made.ensures.pairs c.in_ok-made.ensures.walk c.replaced_in.new.terms c.in_ok-inside.inside c.in_ok-inside.ensures c.left_behind.new.terms (supply_of c.left_behind.new.supply) c.in_ok-outside.outside c.in_ok-outside.ensures) c.requires.variable).there

pub close-requires-clause-number : goal.close-requires-clause-number
close-requires-clause-number c =
    sort_at-Extends (grows_all c.args.program.now c.args.body.now.here (option_map annotation_of c.args.f.now) c.args.note c.args.direction c.args.x c.args.heads.now (supply_of c.args.supply.now) c.args.variable c.args.first c.args.end c.args.turn.now.items c.args.rest.now.items c.args.terms.now c.requires.variable c.requires.first c.requires.end c.requires.note c.requires.turn c.requires.rest c.requires.there c.wanted_put.new.terms c.in_ok-begun.begun c.in_ok-begun.ensures c.renamed.new.terms (supply_of c.renamed.new.supply) c.in_ok-made.made.items c.as_slice-pairs.result.now c.as_slice-pairs.ensures.value c.in_ok-made.ensures.grows c.in_ok-made.ensures.pairs c.in_ok-made.ensures.walk c.replaced_in.new.terms c.in_ok-inside.inside c.in_ok-inside.ensures c.left_behind.new.terms (supply_of c.left_behind.new.supply) c.in_ok-outside.outside c.in_ok-outside.ensures) c.args.variable c.requires.variable.there ∙ c.requires.number

pub close-requires-clause-end : goal.close-requires-clause-end
close-requires-clause-end c =
    (IsTerm-Extends c.args.end _ (grows_all c.args.program.now c.args.body.now.here (option_map annotation_of c.args.f.now) c.args.note c.args.direction c.args.x c.args.heads.now (supply_of c.args.supply.now) c.args.variable c.args.first c.args.end c.args.turn.now.items c.args.rest.now.items c.args.terms.now c.requires.variable c.requires.first c.requires.end c.requires.note c.requires.turn c.requires.rest c.requires.there c.wanted_put.new.terms c.in_ok-begun.begun c.in_ok-begun.ensures c.renamed.new.terms (supply_of c.renamed.new.supply) c.in_ok-made.made.items c.as_slice-pairs.result.now c.as_slice-pairs.ensures.value c.in_ok-made.ensures.grows c.in_ok-made.ensures.pairs c.in_ok-made.ensures.walk c.replaced_in.new.terms c.in_ok-inside.inside c.in_ok-inside.ensures c.left_behind.new.terms (supply_of c.left_behind.new.supply) c.in_ok-outside.outside c.in_ok-outside.ensures) (record { there = c.requires.end; is_tree = refl })).there

pub close-requires-clause-end_sort : goal.close-requires-clause-end_sort
close-requires-clause-end_sort c =
    sort_at-Extends (grows_all c.args.program.now c.args.body.now.here (option_map annotation_of c.args.f.now) c.args.note c.args.direction c.args.x c.args.heads.now (supply_of c.args.supply.now) c.args.variable c.args.first c.args.end c.args.turn.now.items c.args.rest.now.items c.args.terms.now c.requires.variable c.requires.first c.requires.end c.requires.note c.requires.turn c.requires.rest c.requires.there c.wanted_put.new.terms c.in_ok-begun.begun c.in_ok-begun.ensures c.renamed.new.terms (supply_of c.renamed.new.supply) c.in_ok-made.made.items c.as_slice-pairs.result.now c.as_slice-pairs.ensures.value c.in_ok-made.ensures.grows c.in_ok-made.ensures.pairs c.in_ok-made.ensures.walk c.replaced_in.new.terms c.in_ok-inside.inside c.in_ok-inside.ensures c.left_behind.new.terms (supply_of c.left_behind.new.supply) c.in_ok-outside.outside c.in_ok-outside.ensures) c.args.end c.requires.end ∙ c.requires.end_sort

pub close-requires-clause-begun : goal.close-requires-clause-begun
close-requires-clause-begun c =
    begun_in c.args.program.now c.args.body.now.here (option_map annotation_of c.args.f.now) c.args.note c.args.direction c.args.x c.args.heads.now (supply_of c.args.supply.now) c.args.variable c.args.first c.args.end c.args.turn.now.items c.args.rest.now.items c.args.terms.now c.requires.variable c.requires.first c.requires.end c.requires.note c.requires.turn c.requires.rest c.requires.there c.wanted_put.new.terms c.in_ok-begun.begun c.in_ok-begun.ensures c.renamed.new.terms (supply_of c.renamed.new.supply) c.in_ok-made.made.items c.as_slice-pairs.result.now c.as_slice-pairs.ensures.value c.in_ok-made.ensures.grows c.in_ok-made.ensures.pairs c.in_ok-made.ensures.walk c.replaced_in.new.terms c.in_ok-inside.inside c.in_ok-inside.ensures c.left_behind.new.terms (supply_of c.left_behind.new.supply) c.in_ok-outside.outside c.in_ok-outside.ensures

pub close-requires-clause-inside : goal.close-requires-clause-inside
close-requires-clause-inside c =
    inside_in c.args.program.now c.args.body.now.here (option_map annotation_of c.args.f.now) c.args.note c.args.direction c.args.x c.args.heads.now (supply_of c.args.supply.now) c.args.variable c.args.first c.args.end c.args.turn.now.items c.args.rest.now.items c.args.terms.now c.requires.variable c.requires.first c.requires.end c.requires.note c.requires.turn c.requires.rest c.requires.there c.wanted_put.new.terms c.in_ok-begun.begun c.in_ok-begun.ensures c.renamed.new.terms (supply_of c.renamed.new.supply) c.in_ok-made.made.items c.as_slice-pairs.result.now c.as_slice-pairs.ensures.value c.in_ok-made.ensures.grows c.in_ok-made.ensures.pairs c.in_ok-made.ensures.walk c.replaced_in.new.terms c.in_ok-inside.inside c.in_ok-inside.ensures c.left_behind.new.terms (supply_of c.left_behind.new.supply) c.in_ok-outside.outside c.in_ok-outside.ensures

pub close-requires-clause-outside : goal.close-requires-clause-outside
close-requires-clause-outside c =
    outside_in c.args.program.now c.args.body.now.here (option_map annotation_of c.args.f.now) c.args.note c.args.direction c.args.x c.args.heads.now (supply_of c.args.supply.now) c.args.variable c.args.first c.args.end c.args.turn.now.items c.args.rest.now.items c.args.terms.now c.requires.variable c.requires.first c.requires.end c.requires.note c.requires.turn c.requires.rest c.requires.there c.wanted_put.new.terms c.in_ok-begun.begun c.in_ok-begun.ensures c.renamed.new.terms (supply_of c.renamed.new.supply) c.in_ok-made.made.items c.as_slice-pairs.result.now c.as_slice-pairs.ensures.value c.in_ok-made.ensures.grows c.in_ok-made.ensures.pairs c.in_ok-made.ensures.walk c.replaced_in.new.terms c.in_ok-inside.inside c.in_ok-inside.ensures c.left_behind.new.terms (supply_of c.left_behind.new.supply) c.in_ok-outside.outside c.in_ok-outside.ensures

pub returns : goal.returns
returns c =
    ended_comes c.args.program.now c.args.body.now.here (option_map annotation_of c.args.f.now) c.args.note c.args.direction c.args.x c.args.heads.now (supply_of c.args.supply.now) c.args.variable c.args.first c.args.end c.args.turn.now.items c.args.rest.now.items c.args.terms.now c.requires.variable c.requires.first c.requires.end c.requires.note c.requires.turn c.requires.rest c.requires.there c.wanted_put.new.terms c.in_ok-begun.begun c.in_ok-begun.ensures c.renamed.new.terms (supply_of c.renamed.new.supply) c.in_ok-made.made.items c.as_slice-pairs.result.now c.as_slice-pairs.ensures.value c.in_ok-made.ensures.grows c.in_ok-made.ensures.pairs c.in_ok-made.ensures.walk c.replaced_in.new.terms c.in_ok-inside.inside c.in_ok-inside.ensures c.left_behind.new.terms (supply_of c.left_behind.new.supply) c.in_ok-outside.outside c.in_ok-outside.ensures c.close.result c.close.new.terms c.in_ok-inside.inside.items c.in_ok-outside.outside.items refl refl c.close.ensures
