use Rattle.std.proofs.Common.{refl}
use Rattle.spv_program.specs.typed.FormulaViews.{annotation_of}
use Rattle.spv_flow_parts.proofs.leaves.Asserts.{assert_stops, assert_never, assert_comes}
use Rattle.spv_flow_parts.proofs.leaves.noting.before_assert.Goals as goal

pub returns-in_err-term-clause-made : goal.returns-in_err-term-clause-made
returns-in_err-term-clause-made g c =
    λ n numbers.
    assert_stops c.args.program.now c.args.body.now.here (annotation_of c.args.a.now) c.args.rest.items n c.args.terms.now c.requires.rest numbers c.from_residual.result c.in_err-term.field-0.0 c.note.new.terms
    c.from_residual.ensures.1 c.in_err-term.ensures.made

pub returns-in_err-under-clause-made : goal.returns-in_err-under-clause-made
returns-in_err-under-clause-made g c =
    λ n numbers.
    assert_never c.args.program.now c.args.body.now.here (annotation_of c.args.a.now) c.args.rest.items n c.args.terms.now c.requires.rest numbers c.note.new.terms c.in_ok-term.term c.in_ok-term.ensures.made
    c.from_residual-in_err-under.result c.in_err-under.field-0.0 c.from_residual-in_err-under.ensures.1 c.in_err-under.ensures.err

pub returns-in_err-first-clause-made : goal.returns-in_err-first-clause-made
returns-in_err-first-clause-made g c =
    λ n numbers.
    assert_never c.args.program.now c.args.body.now.here (annotation_of c.args.a.now) c.args.rest.items n c.args.terms.now c.requires.rest numbers c.note.new.terms c.in_ok-term.term c.in_ok-term.ensures.made
    c.from_residual-in_err-first.result c.in_err-first.field-0.0 c.from_residual-in_err-first.ensures.1 c.in_err-first.ensures.err

pub returns-clause-made : goal.returns-clause-made
returns-clause-made g c =
    λ n numbers.
    assert_comes c.args.program.now c.args.body.now.here (annotation_of c.args.a.now) c.args.rest.items n c.args.terms.now c.requires.rest numbers c.note.new.terms c.in_ok-term.term c.in_ok-term.ensures.made
    c.joined.result c.in_ok-under.under.items c.in_ok-first.first.items c.args.a.now.line c.in_ok-under.ensures.assumes c.in_ok-first.ensures.item refl c.joined.ensures.items (c.joined.ensures.walk c.note.new.terms)
