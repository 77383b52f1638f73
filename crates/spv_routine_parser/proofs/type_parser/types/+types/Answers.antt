use Rattle.std.proofs.Common.{◌<◌, arith, ap, ◌∙◌}
use Rattle.spv_grammar.specs.reading.Readers.{Read}
use Rattle.spv_grammar.specs.reading.TypeReaders.{read_lower_type, read_field_part}
use Rattle.spv_formula_parser.proofs.primitives.Exits.{same_fault}
use Rattle.spv_formula_parser.proofs.primitives.Turns.{stopped, turn, failed, over, when_absent, when_there}
use Rattle.spv_routine_parser.proofs.type_parser.TypeLists.{put_types, put_fields, lower_is}
use Rattle.spv_routine_parser.proofs.type_parser.types.+types.Goals as goal

pub lower_type-returns-clause-read : goal.lower_type-returns-clause-read
lower_type-returns-clause-read t c =
    let above : 0 < c.args.levels = omega (arith, c.if-levels-eq0.false) in
    rw (lower_is c.args.levels c.args.tokens.now above) c.type_denoter.ensures.read

pub lower_type-returns-clause-absent : goal.lower_type-returns-clause-absent
lower_type-returns-clause-absent t c s h =
    let above : 0 < c.args.levels = omega (arith, c.if-levels-eq0.false) in
    lower_is c.args.levels c.args.tokens.now above ∙ c.type_denoter.ensures.absent s h

pub more_types-returns-then-not-is_sign-clause-read : goal.more_types-returns-then-not-is_sign-clause-read
more_types-returns-then-not-is_sign-clause-read t c = stopped c.loop.invariant (when_absent _ c.if-not-is_sign.ensures) ∙ ap (λ xs. Read (xs, c.loop.rest.now)) (put_types c.loop.types.items)

pub more_types-returns-clause-read : goal.more_types-returns-clause-read
more_types-returns-clause-read t c = over c.loop.invariant (omega (arith, c.loop-test.false)) ∙ ap (λ xs. Read (xs, c.loop.rest.now)) (put_types c.loop.types.items)

pub more_types-returns-in_err-of-clause-absent : goal.more_types-returns-in_err-of-clause-absent
more_types-returns-in_err-of-clause-absent t c s h = failed c.loop.invariant c.loop-test.true (when_there (read_lower_type c.args.levels) c.if-not-is_sign.ensures c.after.ensures (c.in_err-of.ensures.absent s (same_fault s _ c.from_residual.result c.from_residual.ensures.1 h)))

pub more_types-loop-preserved : goal.more_types-loop-preserved
more_types-loop-preserved t c = turn c.loop.invariant c.loop-test.true (when_there (read_lower_type c.args.levels) c.if-not-is_sign.ensures c.after.ensures c.in_ok-of.ensures.read) c.in_ok-push.ensures.items

pub more_fields-returns-then-not-is_sign-clause-read : goal.more_fields-returns-then-not-is_sign-clause-read
more_fields-returns-then-not-is_sign-clause-read t c = stopped c.loop.invariant (when_absent _ c.if-not-is_sign.ensures) ∙ ap (λ xs. Read (xs, c.loop.rest.now)) (put_fields c.loop.fields.items)

pub more_fields-returns-clause-read : goal.more_fields-returns-clause-read
more_fields-returns-clause-read t c = over c.loop.invariant (omega (arith, c.loop-test.false)) ∙ ap (λ xs. Read (xs, c.loop.rest.now)) (put_fields c.loop.fields.items)

pub more_fields-returns-in_err-part-clause-absent : goal.more_fields-returns-in_err-part-clause-absent
more_fields-returns-in_err-part-clause-absent t c s h = failed c.loop.invariant c.loop-test.true (when_there (read_field_part (read_lower_type c.args.levels)) c.if-not-is_sign.ensures c.after.ensures (c.in_err-part.ensures.absent s (same_fault s _ c.from_residual.result c.from_residual.ensures.1 h)))

pub more_fields-loop-preserved : goal.more_fields-loop-preserved
more_fields-loop-preserved t c = turn c.loop.invariant c.loop-test.true (when_there (read_field_part (read_lower_type c.args.levels)) c.if-not-is_sign.ensures c.after.ensures c.in_ok-part.ensures.read) c.in_ok-push.ensures.items
