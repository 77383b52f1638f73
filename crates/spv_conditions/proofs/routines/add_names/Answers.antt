use Rattle.spv_program.specs.Terms.{alone}
use Rattle.spv_flow_parts.proofs.calls.Building.{last_stops}
use Rattle.spv_conditions.proofs.Beginning.{names_added}
use Rattle.spv_conditions.proofs.routines.add_names.Goals as goal

pub returns-in_err-now : goal.returns-in_err-now
returns-in_err-now c =
    last_stops c.args.terms.now c.made.new.terms c.args.from (alone c.args.to) c.from_residual.result c.in_err-now.field-0.0 c.args.pairs.now.items c.args.pairs.now.items c.from_residual.ensures.1 c.in_err-now.ensures.grows
    c.in_err-now.ensures.walk

pub returns : goal.returns
returns c =
    names_added c.args.from c.args.to c.args.terms.now c.made.new.terms c.add_pair.new.terms c.in_ok-now.now c.add_pair.result c.args.pairs.now.items c.add_pair.new.pairs.items c.in_ok-now.ensures.term c.in_ok-now.ensures.grows
    c.in_ok-now.ensures.walk c.add_pair.ensures
