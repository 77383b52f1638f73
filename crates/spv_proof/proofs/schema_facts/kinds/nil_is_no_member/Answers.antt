use Rattle.std.proofs.Common.{ap, sym, subst, map, None}
use Rattle.spv_schemas.specs.declared.kinds.SchemaKind.TheVariants.{PointerToNil}
use Rattle.spv_term.specs.Arena.{tree}
use Rattle.spv_proof.specs.schema_facts.Facts.{IsSaid}
use Rattle.spv_proof.specs.schema_facts.Kinds.{fitting}
use Rattle.spv_proof.proofs.schema_facts.Saying.{class_unsaid, nil_is_no_member}
use Rattle.spv_proof.proofs.schema_facts.kinds.nil_is_no_member.Goals as goal

pub returns : goal.returns
returns c =
    let k = c.in_ok-c.ensures.there in
    nil_is_no_member c.args.terms.now c.law_arena.ensures (map (tree c.args.terms.now) c.args.ts.now) c.in_ok-c.c c.in_ok-c.t (ap (map (tree c.args.terms.now)) k.0) k.1 k.2

pub returns-in_err-c : goal.returns-in_err-c
returns-in_err-c c =
    let a = c.args.terms.now in
    subst (IsSaid a (fitting a PointerToNil (map (tree a) c.args.ts.now) None)) (sym c.from_residual.ensures)
    (class_unsaid a c.law_arena.ensures c.args.ts.now c.requires c.in_err-c.ensures.missing)
