use Rattle.std.proofs.Common.{refl}
use Rattle.spv_assign.specs.supply.Numbers.{supply_of}
use Rattle.spv_assign.proofs.Growing.{AreIn-Extends}
use Rattle.spv_flow_parts.proofs.for_loops.Endings.{pair_stops, behind_stops, behind_in, pairs_then, left_comes}
use Rattle.spv_flow_parts.proofs.for_loops.ending.left_behind.Goals as goal

pub returns-in_err-last : goal.returns-in_err-last
returns-in_err-last c =
    pair_stops c.args.x (supply_of c.args.supply.now) c.args.pairs.now c.args.rest.now.items c.args.terms.now c.requires.pairs c.requires.rest c.from_residual.result c.in_err-last.field-0.0 _ c.fresh_pair.new.terms
    c.from_residual.ensures.1 c.in_err-last.ensures.grows c.in_err-last.ensures.walk

pub replaced_in-requires-clause-rest : goal.replaced_in-requires-clause-rest
replaced_in-requires-clause-rest c = AreIn-Extends c.in_ok-last.ensures.grows c.args.rest.now.items c.requires.rest

pub replaced_in-requires-clause-pairs : goal.replaced_in-requires-clause-pairs
replaced_in-requires-clause-pairs c = (c.in_ok-last.ensures.fresh.pair, tt)

pub returns-in_err-behind : goal.returns-in_err-behind
returns-in_err-behind c =
    behind_stops c.args.x (supply_of c.args.supply.now) c.args.pairs.now c.args.rest.now.items c.args.terms.now c.requires.pairs c.requires.rest c.fresh_pair.new.terms c.fresh_pair.new.supply c.in_ok-last.last c.in_ok-last.ensures.fresh
    c.in_ok-last.ensures.grows c.in_ok-last.ensures.there c.in_ok-last.ensures.walk c.from_residual-in_err-behind.result c.in_err-behind.field-0.0 _ c.replaced_in.new.terms c.from_residual-in_err-behind.ensures.1 c.in_err-behind.ensures

pub replaced_in-requires-2-clause-rest : goal.replaced_in-requires-2-clause-rest
replaced_in-requires-2-clause-rest c =
    behind_in c.args.x (supply_of c.args.supply.now) c.args.pairs.now c.args.rest.now.items c.args.terms.now c.requires.pairs c.requires.rest c.fresh_pair.new.terms c.fresh_pair.new.supply c.in_ok-last.last c.in_ok-last.ensures.fresh
    c.in_ok-last.ensures.grows c.in_ok-last.ensures.there c.in_ok-last.ensures.walk c.replaced_in.new.terms c.in_ok-behind.behind c.in_ok-behind.ensures

pub replaced_in-requires-2-clause-pairs : goal.replaced_in-requires-2-clause-pairs
replaced_in-requires-2-clause-pairs c =
    pairs_then c.args.x (supply_of c.args.supply.now) c.args.pairs.now c.args.rest.now.items c.args.terms.now c.requires.pairs c.requires.rest c.fresh_pair.new.terms c.fresh_pair.new.supply c.in_ok-last.last c.in_ok-last.ensures.fresh
    c.in_ok-last.ensures.grows c.in_ok-last.ensures.there c.in_ok-last.ensures.walk c.replaced_in.new.terms c.in_ok-behind.behind c.in_ok-behind.ensures

pub returns : goal.returns
returns c =
    left_comes c.args.x (supply_of c.args.supply.now) c.args.pairs.now c.args.rest.now.items c.args.terms.now c.requires.pairs c.requires.rest c.fresh_pair.new.terms c.fresh_pair.new.supply c.in_ok-last.last c.in_ok-last.ensures.fresh
    c.in_ok-last.ensures.grows c.in_ok-last.ensures.there c.in_ok-last.ensures.walk c.replaced_in.new.terms c.in_ok-behind.behind c.in_ok-behind.ensures c.replaced_in-2.result c.replaced_in-2.new.terms c.in_ok-behind.behind.items
    refl c.replaced_in-2.ensures
