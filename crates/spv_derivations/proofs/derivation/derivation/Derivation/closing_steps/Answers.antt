use Rattle.std.proofs.Common.{ap, ◌∙◌}
use Rattle.spv_derivations.specs.derivation.Steps.{closed, copy_of}
use Rattle.spv_derivations.proofs.derivation.Bridges.{if_ok}
use Rattle.spv_derivations.proofs.derivation.Copies.{steps-close_at}
use Rattle.spv_derivations.proofs.derivation.derivation.Derivation.closing_steps.Goals as goal

pub returns-clause-closes : goal.returns-clause-closes
returns-clause-closes c =
    if_ok c.closed.result c.closed.ensures
    (λ v e a s known many f told end.
    steps-close_at a s known c.args.self.now c.args.facts v.items c.args.first c.args.second
    (e ∙ ap (λ x. closed x c.args.first c.args.second) (c.in_ok-done.ensures ∙ ap (copy_of c.args.facts) (c.as_slice.ensures.value ∙ c.self.view_is))) many f told end)
