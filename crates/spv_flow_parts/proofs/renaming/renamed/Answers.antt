use Rattle.std.proofs.Common.{subst}
use Rattle.std.proofs.lemmas.List.{drop_more, drop_all}
use Rattle.spv_assign.specs.supply.Numbers.{supply_of}
use Rattle.spv_term.proofs.ArenaLemmas.{Extends-trans}
use Rattle.spv_assign.proofs.limited_steps.Limits.{same_stop}
use Rattle.spv_flow_parts.proofs.Pairs.{RenamedSoFar, renamed_first, next_variable, next_type, renamed_stops, renamed_pushed, renamed_all, renamed_walk}
use Rattle.spv_flow_parts.proofs.renaming.renamed.Goals as goal

pub loop-head-init : goal.loop-head-init
loop-head-init c = renamed_first c.args.terms.now (supply_of c.args.supply.now) c.args.heads.now c.new-pairs.result.items c.new-pairs.ensures.items c.requires.heads c.requires.there

pub fresh_pair-requires-clause-variable : goal.fresh_pair-requires-clause-variable
fresh_pair-requires-clause-variable c =
    next_variable c.args.terms.now c.loop-head.terms (supply_of c.args.supply.now) (supply_of c.loop-head.supply) c.args.heads.now _ _ c.loop-head.pairs.items
    (subst (λ l. RenamedSoFar c.args.terms.now c.loop-head.terms (supply_of c.args.supply.now) (supply_of c.loop-head.supply) c.args.heads.now l c.loop-head.pairs.items) (drop_more c.args.heads.now c.loop-head.head-index _ c.loop-head-test.true) c.loop-head.invariant)

pub fresh_pair-requires-clause-types : goal.fresh_pair-requires-clause-types
fresh_pair-requires-clause-types c =
    next_type c.args.terms.now c.loop-head.terms (supply_of c.args.supply.now) (supply_of c.loop-head.supply) c.args.heads.now _ _ c.loop-head.pairs.items
    (subst (λ l. RenamedSoFar c.args.terms.now c.loop-head.terms (supply_of c.args.supply.now) (supply_of c.loop-head.supply) c.args.heads.now l c.loop-head.pairs.items) (drop_more c.args.heads.now c.loop-head.head-index _ c.loop-head-test.true) c.loop-head.invariant)

pub fresh_pair-requires-clause-there : goal.fresh_pair-requires-clause-there
fresh_pair-requires-clause-there c = c.loop-head.invariant.there

pub returns-in_err-pair-clause-walk : goal.returns-in_err-pair-clause-walk
returns-in_err-pair-clause-walk c =
    same_stop c.from_residual.result c.in_err-pair.field-0.0 _ _ _ c.from_residual.ensures.1
    (renamed_stops c.args.terms.now c.loop-head.terms (supply_of c.args.supply.now) (supply_of c.loop-head.supply) c.args.heads.now _ _ c.loop-head.pairs.items
    (subst (λ l. RenamedSoFar c.args.terms.now c.loop-head.terms (supply_of c.args.supply.now) (supply_of c.loop-head.supply) c.args.heads.now l c.loop-head.pairs.items) (drop_more c.args.heads.now c.loop-head.head-index _ c.loop-head-test.true) c.loop-head.invariant)
    c.fresh_pair.new.terms c.in_err-pair.field-0.0 c.in_err-pair.ensures.walk)

pub returns-in_err-pair-clause-grows : goal.returns-in_err-pair-clause-grows
returns-in_err-pair-clause-grows c = Extends-trans c.loop-head.invariant.grows c.in_err-pair.ensures.grows

pub loop-head-preserved : goal.loop-head-preserved
loop-head-preserved c =
    renamed_pushed c.args.terms.now c.loop-head.terms (supply_of c.args.supply.now) (supply_of c.loop-head.supply) c.args.heads.now _ _ c.loop-head.pairs.items
    (subst (λ l. RenamedSoFar c.args.terms.now c.loop-head.terms (supply_of c.args.supply.now) (supply_of c.loop-head.supply) c.args.heads.now l c.loop-head.pairs.items) (drop_more c.args.heads.now c.loop-head.head-index _ c.loop-head-test.true) c.loop-head.invariant)
    c.fresh_pair.new.terms c.fresh_pair.new.supply c.in_ok-pair.pair c.in_ok-pair.ensures.fresh c.in_ok-pair.ensures.grows c.push.new.pairs.items c.in_ok-push.ensures c.in_ok-pair.ensures.there c.in_ok-pair.ensures.walk

pub returns-clause-pairs : goal.returns-clause-pairs
returns-clause-pairs c =
    renamed_all c.args.terms.now c.loop-head.terms (supply_of c.args.supply.now) (supply_of c.loop-head.supply) c.args.heads.now c.loop-head.pairs.items
    (subst (λ l. RenamedSoFar c.args.terms.now c.loop-head.terms (supply_of c.args.supply.now) (supply_of c.loop-head.supply) c.args.heads.now l c.loop-head.pairs.items) (drop_all c.loop-head.head-index c.args.heads.now c.loop-head-test.false) c.loop-head.invariant)

pub returns-clause-walk : goal.returns-clause-walk
returns-clause-walk c =
    renamed_walk c.args.terms.now c.loop-head.terms (supply_of c.args.supply.now) (supply_of c.loop-head.supply) c.args.heads.now c.loop-head.pairs.items
    (subst (λ l. RenamedSoFar c.args.terms.now c.loop-head.terms (supply_of c.args.supply.now) (supply_of c.loop-head.supply) c.args.heads.now l c.loop-head.pairs.items) (drop_all c.loop-head.head-index c.args.heads.now c.loop-head-test.false) c.loop-head.invariant)
