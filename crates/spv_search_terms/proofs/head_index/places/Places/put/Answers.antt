use Rattle.std.proofs.Common.{cond, Some, ap, ◌∙◌}
use Rattle.spv_search_terms.specs.head_index.Chains.{same, place_in}
use Rattle.spv_search_terms.proofs.head_index.places.Places.put.Goals as goal

pub returns : goal.returns
returns c = record {
  get = λ k. c.in_ok-insert.ensures.updates.0 k ∙ ap (λ es. cond (same c.args.head k) (Some c.args.place) (place_in es k)) c.self.view_is;
}
