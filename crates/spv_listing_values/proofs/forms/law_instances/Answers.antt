use Rattle.std.proofs.Common.{◌<◌, All, length, map}
use Rattle.std.specs.List.{list_all}
use Rattle.spv_listing_values.specs.Forms.{is_short, is_term, is_instance}
use Rattle.spv_listing_values.specs.Mapped.{instance_at}
use Rattle.spv_listing_values.specs.Places.{tree}
use Rattle.spv_listing_values.proofs.Numerals.{both_true}
use Rattle.spv_listing_values.proofs.Judging.{one_more, terms_fit, item_of}
use Rattle.spv_listing_values.proofs.forms.law_instances.Goals as goal

pub loop-instance-preserved : goal.loop-instance-preserved
loop-instance-preserved c =
    let fs = c.args.texts.now in
    let is = c.args.instances.now in
    let item = c.instance-item.result in
    one_more is_instance (instance_at (tree fs)) is c.loop-instance.instance-index item c.loop-instance-test.true c.instance-item.is c.loop-instance.invariant
    (both_true (is_short item.rule) (list_all is_term (map (tree fs) item.values)) c.law_short.ensures
    (terms_fit fs c.requires.terms item.values (item_of (λ i. All (λ t. t.0 < length fs) i.values) is c.loop-instance.instance-index item c.requires.in_range c.loop-instance-test.true c.instance-item.is)))
