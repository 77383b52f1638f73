use Rattle.std.proofs.Common.{sym, ◌∙◌, refl}
use Rattle.spv_term.specs.Arena.{tree}
use Rattle.spv_proof.specs.declared.sums.fault.SumFault.{SumFault}
use Rattle.spv_proof.specs.sums.Added.{StopsAt}
use Rattle.spv_proof.proofs.sums.Tallies.{if_same}
use Rattle.spv_proof.proofs.sums.Measures.{measure_some, measure_none}
use Rattle.spv_proof.proofs.sums.Multiples.{nothing_added, not_multiplied, too_wide_halts, multiple_stops, multiple_added}
use Rattle.spv_proof.proofs.sums.adding.add_cited.Goals as goal

pub returns-in_default-clause-added : goal.returns-in_default-clause-added
returns-in_default-clause-added c =
    nothing_added c.args.terms.now c.law_arena.ensures c.args.facts.now c.args.claim c.args.m c.law_frac.ensures.is_lowest c.args.number c.args.sum.now c.in_default.ensures.value c.requires.sum

pub returns-then-not-may_multiply-clause-added : goal.returns-then-not-may_multiply-clause-added
returns-then-not-may_multiply-clause-added c =
    not_multiplied c.args.terms.now c.law_arena.ensures c.args.facts.now c.args.claim c.args.m c.law_frac.ensures.is_lowest c.args.number c.args.sum.now c.in-Some.source c.in-Some.ensures.value
    (sym (c.may_multiply.ensures c.args.terms.now) ∙ c.if-not-may_multiply.true) c.requires.sum

pub returns-in_default-2-clause-stop : goal.returns-in_default-2-clause-stop
returns-in_default-2-clause-stop c =
    too_wide_halts c.args.terms.now c.law_arena.ensures c.args.facts.now c.args.claim c.args.m c.law_frac.ensures.is_lowest c.args.number c.args.sum.now c.in-Some.source c.in-Some.ensures.value
    (sym (c.may_multiply.ensures c.args.terms.now) ∙ c.if-not-may_multiply.false) c.fault.result
    (measure_none c.args.terms.now (tree c.args.terms.now c.in-Some.source.left) (tree c.args.terms.now c.in-Some.source.right) c.in-Some.source.is_above c.in_ok-form.field-0 c.in_ok-form.ensures.form c.in_default-2.is) (c.fault.ensures.halt c.args.terms.now)
    (c.fault.ensures.in_range c.args.terms.now (c.in-Some.ensures.in_range c.in-Some.source refl).relation)

pub returns-in_err-add_form-clause-stop : goal.returns-in_err-add_form-clause-stop
returns-in_err-add_form-clause-stop c =
    if_same c.from_residual-in_err-add_form.result c.in_err-add_form.field-0.0 (λ (e : SumFault). StopsAt c.args.terms.now c.args.facts.now c.args.claim c.args.m c.args.number c.args.sum.now e)
    c.from_residual-in_err-add_form.ensures.1
    (multiple_stops c.args.terms.now c.law_arena.ensures c.args.facts.now c.args.claim c.args.m c.law_frac.ensures.is_lowest c.args.number c.args.sum.now c.in-Some.source c.in-Some.ensures.value
    (sym (c.may_multiply.ensures c.args.terms.now) ∙ c.if-not-may_multiply.false) c.in-Some-2.form c.law_form.ensures
    (measure_some c.args.terms.now (tree c.args.terms.now c.in-Some.source.left) (tree c.args.terms.now c.in-Some.source.right) c.in-Some.source.is_above c.in_ok-form.field-0 c.in-Some-2.form c.in_ok-form.ensures.form c.in-Some-2.is) c.in_err-add_form.field-0.0 c.requires.sum c.in_err-add_form.ensures.stop)

pub returns-clause-added : goal.returns-clause-added
returns-clause-added c =
    multiple_added c.args.terms.now c.law_arena.ensures c.args.facts.now c.args.claim c.args.m c.law_frac.ensures.is_lowest c.args.number c.args.sum.now c.in-Some.source c.in-Some.ensures.value
    (sym (c.may_multiply.ensures c.args.terms.now) ∙ c.if-not-may_multiply.false) c.in-Some-2.form c.law_form.ensures
    (measure_some c.args.terms.now (tree c.args.terms.now c.in-Some.source.left) (tree c.args.terms.now c.in-Some.source.right) c.in-Some.source.is_above c.in_ok-form.field-0 c.in-Some-2.form c.in_ok-form.ensures.form c.in-Some-2.is) c.add_form.new.sum c.requires.sum c.in_ok-add_form.ensures.added
