use Rattle.std.proofs.Common.{ap, map}
use Rattle.spv_schemas.specs.declared.kinds.SchemaKind.TheVariants.{FieldPutSame, CarCons, CdrCons, AtomCons}
use Rattle.spv_term.specs.Arena.{tree}
use Rattle.spv_proof.proofs.schema_facts.Saying.{atom_cons, car_cons, cdr_cons, field_put_same, named}
use Rattle.spv_proof.proofs.schema_facts.kinds.without_field.Goals as goal

pub returns-in_ok-c-in-FieldPutSame : goal.returns-in_ok-c-in-FieldPutSame
returns-in_ok-c-in-FieldPutSame c =
    let a = c.args.terms.now in
    let us = map (tree a) c.args.ts.now in
    named a us _ c.args.kind FieldPutSame c.in-FieldPutSame.is (field_put_same a c.law_arena.ensures us c.in_ok-c-in-FieldPutSame.c c.in_ok-c-in-FieldPutSame.ensures.there (ap (map (tree a)) c.in_ok-c-in-FieldPutSame.ensures.terms))

pub returns-in_ok-p-in-CarCons : goal.returns-in_ok-p-in-CarCons
returns-in_ok-p-in-CarCons c =
    let a = c.args.terms.now in
    let us = map (tree a) c.args.ts.now in
    named a us _ c.args.kind CarCons c.in-CarCons.is (car_cons a c.law_arena.ensures us c.in_ok-p-in-CarCons.p c.in_ok-p-in-CarCons.ensures.there (ap (map (tree a)) c.in_ok-p-in-CarCons.ensures.terms))

pub returns-in_ok-p-in-CdrCons : goal.returns-in_ok-p-in-CdrCons
returns-in_ok-p-in-CdrCons c =
    let a = c.args.terms.now in
    let us = map (tree a) c.args.ts.now in
    named a us _ c.args.kind CdrCons c.in-CdrCons.is (cdr_cons a c.law_arena.ensures us c.in_ok-p-in-CdrCons.p c.in_ok-p-in-CdrCons.ensures.there (ap (map (tree a)) c.in_ok-p-in-CdrCons.ensures.terms))

pub returns-in_ok-cons-in-AtomCons : goal.returns-in_ok-cons-in-AtomCons
returns-in_ok-cons-in-AtomCons c =
    let a = c.args.terms.now in
    let us = map (tree a) c.args.ts.now in
    named a us _ c.args.kind AtomCons c.in-AtomCons.is (atom_cons a c.law_arena.ensures us c.in_ok-cons-in-AtomCons.field-0 c.in_ok-cons-in-AtomCons.ensures.there (ap (map (tree a)) c.in_ok-cons-in-AtomCons.ensures.terms))
