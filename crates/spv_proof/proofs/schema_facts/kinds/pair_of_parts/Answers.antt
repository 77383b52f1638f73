use Rattle.std.proofs.Common.{ap, sym, subst, map, None}
use Rattle.spv_schemas.specs.declared.kinds.SchemaKind.TheVariants.{ConsCarCdr}
use Rattle.spv_term.specs.Arena.{tree}
use Rattle.spv_proof.specs.schema_facts.Facts.{IsSaid}
use Rattle.spv_proof.specs.schema_facts.Kinds.{fitting}
use Rattle.spv_proof.proofs.schema_facts.Saying.{list_unsaid, pair_of_parts}
use Rattle.spv_proof.proofs.schema_facts.kinds.pair_of_parts.Goals as goal

pub returns : goal.returns
returns c =
    let k = c.in_ok-x.ensures.there in
    pair_of_parts c.args.terms.now c.law_arena.ensures (map (tree c.args.terms.now) c.args.ts.now) c.in_ok-x.x (ap (map (tree c.args.terms.now)) k.0) k.1 k.2

pub returns-in_err-x : goal.returns-in_err-x
returns-in_err-x c =
    let a = c.args.terms.now in
    subst (IsSaid a (fitting a ConsCarCdr (map (tree a) c.args.ts.now) None)) (sym c.from_residual.ensures)
    (list_unsaid a c.law_arena.ensures c.args.ts.now c.requires c.in_err-x.ensures.missing)
