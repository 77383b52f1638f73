use Rattle.spv_term.specs.Arena.{tree}
use Rattle.spv_assign.specs.Conditions.{conditions_of}
use Rattle.spv_meaning.specs.Before.{negated}
use Rattle.spv_flow.specs.statement_rules.Rules.{ways_made}
use Rattle.spv_flow.proofs.statement_rules.WayLemmas.{term_then, conditions_then, negation_stops, ways_behind}
use Rattle.spv_flow.proofs.statement_rules.ways.both_ways.Goals as goal

pub returns-in_err-other : goal.returns-in_err-other
returns-in_err-other c =
    λ n numbers. negation_stops c.args.terms.now c.negated.new.terms (tree c.args.terms.now c.args.test) n c.from_residual.result c.in_err-other.field-0.0 (ways_made (tree c.args.terms.now c.args.test) (negated (tree c.args.terms.now c.args.test)) (conditions_of c.args.terms.now c.args.first.items) (conditions_of c.args.terms.now c.args.second.items)) (conditions_of c.args.terms.now c.args.first.items) (conditions_of c.args.terms.now c.args.second.items) c.from_residual.ensures.1 c.in_err-other.ensures.grows c.in_err-other.ensures.walk

pub returns : goal.returns
returns c =
    λ n numbers.
    ways_behind c.args.terms.now c.negated.new.terms (tree c.args.terms.now c.args.test) n c.ways.result (ways_made (tree c.args.terms.now c.args.test) (negated (tree c.args.terms.now c.args.test)) (conditions_of c.args.terms.now c.args.first.items) (conditions_of c.args.terms.now c.args.second.items)) (conditions_of c.args.terms.now c.args.first.items) (conditions_of c.args.terms.now c.args.second.items) numbers c.in_ok-other.ensures.walk
    (c.ways.ensures c.negated.new.terms (tree c.args.terms.now c.args.test) (negated (tree c.args.terms.now c.args.test)) (conditions_of c.args.terms.now c.args.first.items) (conditions_of c.args.terms.now c.args.second.items) (term_then c.args.test c.in_ok-other.ensures.grows c.requires.test) c.in_ok-other.ensures.term (conditions_then c.args.first.items c.in_ok-other.ensures.grows c.requires.first) (conditions_then c.args.second.items c.in_ok-other.ensures.grows c.requires.second))
