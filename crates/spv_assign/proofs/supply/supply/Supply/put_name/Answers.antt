use Rattle.std.proofs.Common.{ap, ◌∙◌, cond}
use Rattle.std.specs.Option.{unwrap_or}
use Rattle.spv_program.specs.Lists.{same_name}
use Rattle.spv_assign.specs.supply.Numbers.{Taken, last_of_name}
use Rattle.spv_assign.proofs.supply.FreshLemmas.{unwrap_cond}
use Rattle.spv_assign.proofs.supply.supply.Supply.put_name.Goals as goal

pub returns-clause-names : goal.returns-clause-names
returns-clause-names c =
    λ x.
    ap (λ o. unwrap_or o 0) (c.in_ok-insert.ensures.updates.0 x)
    ∙ (unwrap_cond (same_name c.args.name x) c.args.number _
    ∙ ap (λ (s : Taken). cond (same_name c.args.name x) c.args.number (last_of_name s.names x)) c.self.view_is)
