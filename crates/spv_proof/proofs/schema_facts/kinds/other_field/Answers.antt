use Rattle.std.proofs.Common.{ap, map}
use Rattle.spv_term.specs.Arena.{tree}
use Rattle.spv_proof.proofs.schema_facts.Saying.{no_such_field, other_field}
use Rattle.spv_proof.proofs.schema_facts.kinds.other_field.Goals as goal

pub returns-then-not-has_field : goal.returns-then-not-has_field
returns-then-not-has_field c =
    no_such_field c.args.terms.now c.law_arena.ensures (map (tree c.args.terms.now) c.args.ts.now) c.in_ok-change.change c.in_ok-change.ensures.there (ap (map (tree c.args.terms.now)) c.in_ok-change.ensures.terms)
    c.args.field c.has_field.result c.has_field.ensures c.if-not-has_field.true

pub returns : goal.returns
returns c =
    other_field c.args.terms.now c.law_arena.ensures (map (tree c.args.terms.now) c.args.ts.now) c.in_ok-change.change c.in_ok-change.ensures.there (ap (map (tree c.args.terms.now)) c.in_ok-change.ensures.terms)
    c.args.field c.eq.result c.has_field.result c.eq.ensures c.if-eq.false c.has_field.ensures c.if-not-has_field.false
