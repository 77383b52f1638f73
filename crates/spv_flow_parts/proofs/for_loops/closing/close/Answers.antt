use Rattle.std.proofs.Common.{refl, ◌∙◌}
use Rattle.spv_term.proofs.ArenaLemmas.{sort_at-Extends}
use Rattle.spv_flow_parts.proofs.Pairs.{ArePairs-Extends}
use Rattle.spv_flow_parts.proofs.for_loops.Closings.{known_stops, ends_stop, close_comes}
use Rattle.spv_flow_parts.proofs.for_loops.closing.close.Goals as goal

pub returns-in_err-h : goal.returns-in_err-h
returns-in_err-h c =
    λ n numbers.
    known_stops c.args.pairs.now c.args.note c.args.direction c.args.variable c.args.end c.args.begun.items c.args.inside.items c.args.outside.items c.args.terms.now n c.requires.pairs c.requires.variable c.requires.end c.requires.begun
    c.requires.inside c.requires.outside numbers c.from_residual.result c.in_err-h.field-0.0 c.put_if_there.new.terms c.from_residual.ensures.1 c.in_err-h.ensures.grows c.in_err-h.ensures.walk

pub ends-requires-clause-number : goal.ends-requires-clause-number
ends-requires-clause-number c = sort_at-Extends c.in_ok-h.ensures.grows c.args.variable c.requires.variable ∙ c.requires.number

pub ends-requires-clause-end_sort : goal.ends-requires-clause-end_sort
ends-requires-clause-end_sort c = sort_at-Extends c.in_ok-h.ensures.grows c.args.end c.requires.end ∙ c.requires.end_sort

pub ends-requires-clause-pairs : goal.ends-requires-clause-pairs
ends-requires-clause-pairs c = ArePairs-Extends c.in_ok-h.ensures.grows c.args.pairs.now c.requires.pairs

pub returns-in_err-e : goal.returns-in_err-e
returns-in_err-e c =
    λ n numbers.
    ends_stop c.args.pairs.now c.args.note c.args.direction c.args.variable c.args.end c.args.begun.items c.args.inside.items c.args.outside.items c.args.terms.now n c.requires.pairs c.requires.variable c.requires.end c.requires.begun
    c.requires.inside c.requires.outside numbers c.put_if_there.new.terms c.in_ok-h.h c.in_ok-h.ensures.grows c.in_ok-h.ensures.there c.in_ok-h.ensures.term c.in_ok-h.ensures.walk c.from_residual-in_err-e.result c.in_err-e.field-0.0
    c.ends.new.terms c.from_residual-in_err-e.ensures.1 c.in_err-e.ensures.grows c.in_err-e.ensures.walk

pub returns : goal.returns
returns c =
    λ n numbers.
    close_comes c.args.pairs.now c.args.note c.args.direction c.args.variable c.args.end c.args.begun.items c.args.inside.items c.args.outside.items c.args.terms.now n c.requires.pairs c.requires.variable c.requires.end c.requires.begun
    c.requires.inside c.requires.outside numbers c.put_if_there.new.terms c.in_ok-h.h c.in_ok-h.ensures.grows c.in_ok-h.ensures.there c.in_ok-h.ensures.term c.in_ok-h.ensures.walk c.joined_sides.result c.ends.new.terms c.in_ok-e.e
    c.args.inside.items c.args.outside.items refl refl c.in_ok-e.ensures.grows c.in_ok-e.ensures.ends c.in_ok-e.ensures.walk c.joined_sides.ensures
