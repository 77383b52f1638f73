use Rattle.spv_term.specs.Arena.{tree}
use Rattle.spv_proof.proofs.sums.Measures.{narrow_some, difference_some, difference_none, measured, too_wide}
use Rattle.spv_proof.proofs.sums.measure.form_of.Goals as goal

pub returns-in-Some-3 : goal.returns-in-Some-3
returns-in-Some-3 c =
    let a = c.args.terms.now in
    let x = tree a c.args.left in
    let y = tree a c.args.right in
    record {
      form = measured a c.law_arena.ensures x y c.args.is_above c.in-Some.left_form c.in-Some-2.right_form
          (narrow_some a x c.in_ok-left_form.field-0 c.in-Some.left_form c.in_ok-left_form.ensures.form c.in-Some.is)
          (narrow_some a y c.in_ok-right_form.field-0 c.in-Some-2.right_form c.in_ok-right_form.ensures.form c.in-Some-2.is)
          c.in-Some-3.form c.law_form.ensures (difference_some c.args.is_above _ _ c.in_ok-form.field-0 c.in-Some-3.form c.in_ok-form.ensures c.in-Some-3.is);
    }

pub returns : goal.returns
returns c =
    let a = c.args.terms.now in
    let x = tree a c.args.left in
    let y = tree a c.args.right in
    record {
      form = too_wide a c.law_arena.ensures x y c.args.is_above c.in-Some.left_form c.in-Some-2.right_form
          (narrow_some a x c.in_ok-left_form.field-0 c.in-Some.left_form c.in_ok-left_form.ensures.form c.in-Some.is)
          (narrow_some a y c.in_ok-right_form.field-0 c.in-Some-2.right_form c.in_ok-right_form.ensures.form c.in-Some-2.is)
          (difference_none c.args.is_above _ _ c.in_ok-form.field-0 c.in_ok-form.ensures c.in-None.is);
    }
