use Rattle.spv_flow_parts.proofs.Terms.{term_made}
use Rattle.spv_flow_parts.proofs.for_loops.Tests.{put_term, if_told}
use Rattle.spv_flow_parts.proofs.for_loops.terms.put_into.Goals as goal

pub returns-clause-made : goal.returns-clause-made
returns-clause-made c =
    let made = c.substitute-made.ensures in
    term_made c.args.terms.now c.substitute-made.new.terms _ _ (put_term c.args.terms.now c.args.pairs.now c.args.t) c.substitute-made.result c.limited.result made.tree made.in_range made.grows made.only made.size
    c.limited.ensures.same c.limited.ensures.walk

pub returns-clause-sort : goal.returns-clause-sort
returns-clause-sort c = if_told _ c.substitute-made.result c.limited.result c.limited.ensures.same c.substitute-made.ensures.sort
