use Rattle.std.proofs.Common.{codes, map}
use Rattle.spv_listing_values.specs.Lines.{number}
use Rattle.spv_listing_values.specs.Places.{tree}
use Rattle.spv_listing_values.proofs.Blanks.{line_with}
use Rattle.spv_listing_values.proofs.claims.push_instance.Goals as goal

pub returns : goal.returns
returns c =
    line_with _ (codes "INSTANCE") _ _ _ _ (number c.args.instance.now.rule) (map (tree c.args.texts.now) c.args.instance.now.values) c.in_ok-extend_from_slice.ensures.items c.in_ok-push_fact.ensures
    (rw c.as_slice.ensures at c.in_ok-push_texts.ensures) c.in_ok-push.ensures.items
