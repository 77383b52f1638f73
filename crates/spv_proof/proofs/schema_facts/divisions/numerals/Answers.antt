use Rattle.std.proofs.Common.{ap, map, length, subst}
use Rattle.spv_term.specs.Arena.{AllBelow, tree}
use Rattle.spv_proof.proofs.schema_facts.Divided.{as_computed}
use Rattle.spv_proof.proofs.schema_facts.divisions.numerals.Goals as goal

pub returns : goal.returns
returns c =
    let a = c.args.terms.now in
    let below = subst (AllBelow (length a.nodes)) c.in_ok-dividend.ensures.there c.requires in
    as_computed a (map (tree a) c.args.ts.now) c.in_ok-dividend.dividend c.in_ok-dividend.divisor c.in_ok-number.number c.in_ok-by.by
    (ap (map (tree a)) c.in_ok-dividend.ensures.there) below.0 below.1.0 c.in_ok-number.ensures.there c.in_ok-by.ensures.there c.in_ok-by.ensures.nonzero
