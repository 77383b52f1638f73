use Rattle.std.proofs.Common.{ap, ◌∙◌}
use Rattle.spv_derivations.specs.derivation.Steps.{Copied, copy_of}
use Rattle.spv_derivations.proofs.derivation.Copies.{steps-add_at}
use Rattle.spv_derivations.proofs.derivation.derivation.Derivation.steps.Goals as goal

pub returns-clause-adds : goal.returns-clause-adds
returns-clause-adds c a s known many f told =
    steps-add_at a s known c.args.self.now c.args.facts c.in_ok-done.done.steps.items
    (ap (λ (x : Copied). x.steps) (c.in_ok-done.ensures ∙ ap (copy_of c.args.facts) (c.as_slice.ensures.value ∙ c.self.view_is))) many f told
