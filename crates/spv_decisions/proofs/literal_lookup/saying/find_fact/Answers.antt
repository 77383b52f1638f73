use Rattle.std.proofs.Common.{arith}
use Rattle.spv_term.specs.Arena.{tree}
use Rattle.spv_tableau_rules.specs.constraints.Sayings.{literal}
use Rattle.spv_decisions.proofs.literal_lookup.Turns.{all_of_them}
use Rattle.spv_decisions.proofs.literal_lookup.Among.{core_at}
use Rattle.spv_decisions.proofs.literal_lookup.Said.{IsOther, other_more, fact_found, none_cited}
use Rattle.spv_decisions.proofs.literal_lookup.saying.find_fact.Goals as goal

pub says-requires-clause-k : goal.says-requires-clause-k
says-requires-clause-k c = core_at c.args.terms.now c.args.known.now c.loop-k.k-index _ c.requires.known c.loop-k-test.true

pub returns-then-says-clause-found : goal.returns-then-says-clause-found
returns-then-says-clause-found c =
    fact_found c.args.terms.now (literal c.args.truth (tree c.args.terms.now c.args.t)) c.args.known.now c.loop-k.k-index _ c.says.result c.loop-k-test.true c.says.ensures c.if-says.true

pub loop-k-preserved : goal.loop-k-preserved
loop-k-preserved c =
    other_more c.args.terms.now (literal c.args.truth (tree c.args.terms.now c.args.t)) c.args.known.now c.loop-k.k-index _ c.says.result c.loop-k.invariant c.loop-k-test.true c.says.ensures c.if-says.false

pub returns-clause-none : goal.returns-clause-none
returns-clause-none c =
    let f = literal c.args.truth (tree c.args.terms.now c.args.t) in
    none_cited c.args.terms.now f c.args.known.now
    (all_of_them (IsOther c.args.terms.now f) c.args.known.now c.loop-k.k-index c.loop-k.invariant (omega (arith, c.loop-k-test.false)))
