use Rattle.std.proofs.Common.{refl, map}
use Rattle.spv_term.specs.Arena.{tree}
use Rattle.spv_proof.proofs.sums.Relations.{cited-some, cited-none}
use Rattle.spv_proof.proofs.sums.reading.find_cited.Goals as goal

pub read-requires : goal.read-requires
read-requires c = c.in-Some.ensures.in_range _ c.requires.facts c.in-Some.t refl

pub returns-in-Some-clause-value : goal.returns-in-Some-clause-value
returns-in-Some-clause-value c most shown =
    cited-some c.args.terms.now (map (tree c.args.terms.now) c.args.facts.now) _ c.args.number (tree c.args.terms.now c.in-Some.t) _ c.if-number-eq0.false (c.in-Some.ensures.value (tree c.args.terms.now)) (c.read.ensures.value most shown)

pub returns-in-None-clause-value : goal.returns-in-None-clause-value
returns-in-None-clause-value c most shown =
    cited-none c.args.terms.now (map (tree c.args.terms.now) c.args.facts.now) _ c.args.number c.if-number-eq0.false (c.in-None.ensures.value (tree c.args.terms.now))
