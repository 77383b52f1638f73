use Rattle.std.proofs.Common.{refl}
use Rattle.spv_verdicts.specs.declared.answers.growing.Grown.TheVariants as grown
use Rattle.spv_search.proofs.branches.Taking.{none-more, or-true, takes-next-seen}
use Rattle.spv_search.proofs.branches.Within.{stays-in-seen}
use Rattle.spv_search.proofs.branches.branches.Branches.open.Goals as goal

pub returns-clause-takes : goal.returns-clause-takes
returns-clause-takes c =
    takes-next-seen _ c.args.self.now _ grown.Open c.self.view_is c.requires c.in_ok-push.ensures.items (none-more c.self.inside.splits) (or-true c.self.inside.is_open) (λ q b. refl) c.in_ok-self-inside.ensures

pub returns-clause-within : goal.returns-clause-within
returns-clause-within c = λ a h. stays-in-seen _ c.args.self.now _ grown.Open c.self.view_is c.in_ok-push.ensures.items c.in_ok-self-inside.ensures a h tt
