use Rattle.std.proofs.Common.{ap, ◌∙◌, cond}
use Rattle.std.specs.Option.{unwrap_or}
use Rattle.spv_program.specs.Types.{same_type}
use Rattle.spv_assign.specs.supply.Numbers.{Taken, last_of_class}
use Rattle.spv_assign.proofs.supply.FreshLemmas.{unwrap_cond}
use Rattle.spv_assign.proofs.supply.supply.Supply.put_class.Goals as goal

pub returns-clause-classes : goal.returns-clause-classes
returns-clause-classes c =
    λ t.
    ap (λ o. unwrap_or o 0) (c.in_ok-insert.ensures.updates.0 t)
    ∙ (unwrap_cond (same_type c.args.class t) c.args.number _
    ∙ ap (λ (s : Taken). cond (same_type c.args.class t) c.args.number (last_of_class s.classes t)) c.self.view_is)
