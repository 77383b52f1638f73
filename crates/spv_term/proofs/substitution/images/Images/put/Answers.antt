use Rattle.std.proofs.Common.{cond, Some, ap, ◌∙◌}
use Rattle.spv_term.specs.substitution.Images.{same_id, image_of}
use Rattle.spv_term.proofs.substitution.images.Images.put.Goals as goal

pub returns : goal.returns
returns c = record {
  image = λ k. c.in_ok-insert.ensures.updates.0 k ∙ ap (λ es. cond (same_id c.args.t k) (Some c.args.image) (image_of es k)) c.self.view_is;
}
