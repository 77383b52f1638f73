use Rattle.std.proofs.Common.{ap, ◌∙◌}
use Rattle.spv_rechecking.specs.Made.{images_at}
use Rattle.spv_rechecking.proofs.ConvertLemmas.{refl_step, cong_step, linear_inside, schema_inside, rule_step, eval_step, schema_step}
use Rattle.spv_rechecking.proofs.converting.step_of.Goals as goal

pub linear_of-requires : goal.linear_of-requires
linear_of-requires c = linear_inside c.args.names.now c.args.terms.now c.args.images.now c.requires.images c.args.step.now c.requires.placed _ _ _ c.in-Linear.is c.id_at-in-Linear.result c.id_at-in-Linear.ensures

pub schema_of-requires : goal.schema_of-requires
schema_of-requires c =
    schema_inside c.args.names.now c.args.terms.now c.args.images.now c.requires.images c.args.step.now c.requires.placed _ _ _ c.in-Schema.is c.in_ok-ids-in-Schema.ids.items
    (c.in_ok-ids-in-Schema.ensures ∙ ap (images_at c.args.images.now) c.as_slice.ensures)

pub returns-in-Refl : goal.returns-in-Refl
returns-in-Refl c = refl_step c.args.names.now c.args.terms.now c.args.images.now c.requires.images c.args.step.now c.requires.placed _ c.in-Refl.is c.id_at.result c.id_at.ensures

pub returns-in_ok-facts-in-Cong : goal.returns-in_ok-facts-in-Cong
returns-in_ok-facts-in-Cong c =
    cong_step c.args.names.now c.args.terms.now c.args.images.now c.requires.images c.args.step.now c.requires.placed _ _ _ c.in-Cong.is c.id_at-in-Cong.result c.id_at-in-Cong-2.result c.id_at-in-Cong.ensures c.id_at-in-Cong-2.ensures
    c.in_ok-facts-in-Cong.facts c.in_ok-facts-in-Cong.ensures

pub returns-in_ok-facts-in-Eval : goal.returns-in_ok-facts-in-Eval
returns-in_ok-facts-in-Eval c =
    eval_step c.args.names.now c.args.terms.now c.args.images.now c.requires.images c.args.step.now c.requires.placed _ _ c.in-Eval.is c.id_at-in-Eval.result c.id_at-in-Eval.ensures c.in_ok-facts-in-Eval.facts c.in_ok-facts-in-Eval.ensures

pub returns-in_ok-ids-in-Schema : goal.returns-in_ok-ids-in-Schema
returns-in_ok-ids-in-Schema c =
    schema_step c.args.names.now c.args.terms.now c.args.images.now c.requires.images c.args.step.now c.requires.placed _ _ _ c.in-Schema.is c.in_ok-ids-in-Schema.ids.items
    (c.in_ok-ids-in-Schema.ensures ∙ ap (images_at c.args.images.now) c.as_slice.ensures) c.schema_of.result c.schema_of.ensures

pub returns-in_ok-ids-in-Rule : goal.returns-in_ok-ids-in-Rule
returns-in_ok-ids-in-Rule c =
    rule_step c.args.names.now c.args.terms.now c.args.images.now c.requires.images c.args.step.now c.requires.placed _ _ c.in-Rule.is c.from_vec.result
    (c.from_vec.ensures ∙ (c.in_ok-ids-in-Rule.ensures ∙ ap (images_at c.args.images.now) c.as_slice-in-Rule.ensures))
