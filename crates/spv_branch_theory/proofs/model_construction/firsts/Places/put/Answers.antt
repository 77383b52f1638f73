use Rattle.std.proofs.Common.{cond, Some, ap, ◌∙◌}
use Rattle.std.specs.Prelude.{nat_eq}
use Rattle.spv_branch_theory.specs.model_construction.Firsts.{place_in}
use Rattle.spv_branch_theory.proofs.model_construction.firsts.Places.put.Goals as goal

pub returns : goal.returns
returns c = record {
  get = λ k. c.in_ok-insert.ensures.updates.0 k ∙ ap (λ es. cond (nat_eq c.args.class k) (Some c.args.place) (place_in es k)) c.self.view_is;
}
