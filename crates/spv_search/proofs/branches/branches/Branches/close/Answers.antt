use Rattle.std.proofs.Common.{[], ◌∷◌, ◌++◌, refl, ap, ◌∙◌}
use Rattle.spv_verdicts.specs.declared.answers.growing.Grown.TheVariants as grown
use Rattle.spv_search.proofs.branches.Taking.{none-more, or-false, takes-next-seen}
use Rattle.spv_search.proofs.branches.Within.{stays-in-seen}
use Rattle.spv_search.proofs.branches.branches.Branches.close.Goals as goal

pub returns-clause-takes : goal.returns-clause-takes
returns-clause-takes c =
    takes-next-seen _ c.args.self.now _ (grown.Closed c.args.steps.items) c.self.view_is c.requires (c.in_ok-push.ensures.items ∙ ap (λ l. c.self.inside.nodes.items ++ grown.Closed l ∷ []) c.from_vec.ensures)
    (none-more c.self.inside.splits) (or-false c.self.inside.is_open) (λ q b. refl) c.in_ok-self-inside.ensures

pub returns-clause-within : goal.returns-clause-within
returns-clause-within c =
    λ a h k.
    stays-in-seen _ c.args.self.now _ (grown.Closed c.args.steps.items) c.self.view_is (c.in_ok-push.ensures.items ∙ ap (λ l. c.self.inside.nodes.items ++ grown.Closed l ∷ []) c.from_vec.ensures) c.in_ok-self-inside.ensures
    a h k
