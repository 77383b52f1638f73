use Rattle.std.proofs.Common.{◌&&◌, map, sym, ◌∙◌}
use Rattle.std.specs.List.{list_all}
use Rattle.spv_listing_values.specs.Lines.{is_equation}
use Rattle.spv_listing_values.specs.Forms.{is_short, is_term, is_relation, is_multiple, are_sums}
use Rattle.spv_listing_values.specs.Places.{tree}
use Rattle.spv_listing_values.proofs.Numerals.{both_true}
use Rattle.spv_listing_values.proofs.Reach.{all_in}
use Rattle.spv_listing_values.proofs.Judging.{terms_fit, chain_two, chain_three}
use Rattle.spv_listing_values.proofs.TermForms.{tree_forms}
use Rattle.spv_listing_values.proofs.forms.is_step.Goals as goal

pub returns-in-Refl : goal.returns-in-Refl
returns-in-Refl c =
    rw c.in-Refl.is (sym (tree_forms c.args.texts.now c.requires.terms.table c.requires.terms.heads c.in-Refl.field-0 (rw c.in-Refl.is at c.requires.in_range).0))

pub returns-in-Cong : goal.returns-in-Cong
returns-in-Cong c =
    let fs = c.args.texts.now in
    let within = rw c.in-Cong.is at c.requires.in_range in
    let forms = tree_forms fs c.requires.terms.table c.requires.terms.heads in
    let t = c.in-Cong.field-0 in
    let u = c.in-Cong.field-1 in
    rw c.in-Cong.is
    (sym (both_true (is_term (tree fs t)) (is_term (tree fs u) && list_all is_short c.in-Cong.facts) (forms t within.0)
    (both_true (is_term (tree fs u)) (list_all is_short c.in-Cong.facts) (forms u within.1.0) (rw c.as_slice.ensures at c.law_shorts.ensures))))

pub returns-then-is_relation : goal.returns-then-is_relation
returns-then-is_relation c =
    let fs = c.args.texts.now in
    let r = c.in-Linear.r in
    rw c.in-Linear.is
    (c.are_sums.ensures
    ∙ ((λ i. are_sums (c.is_equation.ensures i) (c.as_slice-then-is_relation.ensures i))
    ∙ chain_three (is_term (tree fs r)) (is_relation (tree fs r)) (list_all is_multiple c.in-Linear.first) (are_sums (is_equation (tree fs r)) c.in-Linear.second)
    (tree_forms fs c.requires.terms.table c.requires.terms.heads r (rw c.in-Linear.is at c.requires.in_range).0) (sym c.is_relation.ensures ∙ c.if-is_relation.true)
    (rw c.as_slice-in-Linear.ensures at c.law_multiples.ensures)))

pub returns-in-Schema : goal.returns-in-Schema
returns-in-Schema c =
    let fs = c.args.texts.now in
    rw c.in-Schema.is
    (c.is_field.ensures
    ∙ chain_two _ (list_all is_term (map (tree fs) c.in-Schema.field-1)) _ c.law_byte.ensures
    (terms_fit fs c.requires.terms c.in-Schema.field-1 (all_in fs c.in-Schema.field-1 (rw c.in-Schema.is at c.requires.in_range))))

pub returns-in-Rule : goal.returns-in-Rule
returns-in-Rule c =
    let fs = c.args.texts.now in
    rw c.in-Rule.is
    (sym (both_true (is_short c.in-Rule.r) (list_all is_term (map (tree fs) c.in-Rule.field-1)) c.law_short-in-Rule.ensures
    (terms_fit fs c.requires.terms c.in-Rule.field-1 (all_in fs c.in-Rule.field-1 (rw c.in-Rule.is at c.requires.in_range)))))

pub returns-in-Eval : goal.returns-in-Eval
returns-in-Eval c =
    let fs = c.args.texts.now in
    rw c.in-Eval.is
    (sym (both_true (is_term (tree fs c.in-Eval.field-0)) (list_all is_short c.in-Eval.facts)
    (tree_forms fs c.requires.terms.table c.requires.terms.heads c.in-Eval.field-0 (rw c.in-Eval.is at c.requires.in_range).0) (rw c.as_slice-in-Eval.ensures at c.law_shorts-in-Eval.ensures)))
