use Rattle.std.proofs.Common.{ap, ◌∙◌, subst, List, ℤ}
use Rattle.spv_logic.specs.declared.conditions.TermId.{TermId}
use Rattle.spv_frac.specs.Range.{fits}
use Rattle.spv_atoms.proofs.Sums.{narrow}
use Rattle.spv_proof.specs.declared.sums.fault.SumFault.{SumFault}
use Rattle.spv_proof.specs.sums.Added.{AddsParts, StopsForm}
use Rattle.spv_proof.proofs.sums.Tallies.{constant_halts, constant_added, if_same}
use Rattle.spv_proof.proofs.sums.adding.add_form.Goals as goal

pub returns-in_err-constant-clause-stop : goal.returns-in_err-constant-clause-stop
returns-in_err-constant-clause-stop c =
    let added = subst (λ (ps : List (TermId × ℤ)). AddsParts c.args.m ps c.args.sum.now c.add_parts.new.sum) c.parts.ensures c.in_ok-add_parts.ensures.added in
    if_same c.from_residual-in_err-constant.result c.in_err-constant.field-0.0 (λ (e : SumFault). StopsForm c.args.m c.args.form.now c.args.sum.now e) c.from_residual-in_err-constant.ensures.1
    (constant_halts c.args.m c.args.form.now c.args.sum.now c.add_parts.new.sum added _ _ c.constant.ensures
    (narrow c.constant-2.result (ap fits c.constant-2.ensures ∙ c.law_form.ensures.constant) ∙ c.constant-2.ensures)
    c.in_err-constant.field-0.0 c.in_err-constant.ensures.stop)

pub returns-clause-added : goal.returns-clause-added
returns-clause-added c =
    let added = subst (λ (ps : List (TermId × ℤ)). AddsParts c.args.m ps c.args.sum.now c.add_parts.new.sum) c.parts.ensures c.in_ok-add_parts.ensures.added in
    constant_added c.args.m c.args.form.now c.args.sum.now c.add_parts.new.sum added _ _ c.constant.ensures
    (narrow c.constant-2.result (ap fits c.constant-2.ensures ∙ c.law_form.ensures.constant) ∙ c.constant-2.ensures)
    c.in_ok-constant.constant c.set_constant.new.self c.in_ok-constant.ensures.value c.set_constant.ensures
