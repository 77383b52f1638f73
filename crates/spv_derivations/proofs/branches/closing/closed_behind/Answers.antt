use Rattle.spv_derivations.proofs.derivation.Bridges.{if_ok}
use Rattle.spv_proof_rules.specs.Stand.{question}
use Rattle.spv_derivations.specs.branches.Paths.{facts_in}
use Rattle.spv_derivations.proofs.branches.Behind.{ends_path, closing_closes}
use Rattle.spv_derivations.proofs.branches.Within.{closed_in}
use Rattle.spv_derivations.proofs.branches.closing.closed_behind.Goals as goal

pub close-closed-requires : goal.close-closed-requires
close-closed-requires c = record { ends = ends_path (question c.args.terms.now c.args.condition.now) (facts_in (question c.args.terms.now c.args.condition.now) c.args.path.now) c.args.steps.items c.requires.closes }

pub returns-clause-closes : goal.returns-clause-closes
returns-clause-closes c =
    if_ok c.close-closed.result c.close-closed.ensures.closing
    (λ v h known many path. closing_closes (question c.args.terms.now c.args.condition.now) c.args.path.now c.args.steps.items c.args.cases v.items c.requires.closes h known many path)

pub returns-clause-within : goal.returns-clause-within
returns-clause-within c =
    if_ok c.close-closed.result c.close-closed.ensures.closing
    (λ v h known path inside. closed_in c.args.terms.now c.args.condition.now known c.args.path.now c.args.steps.items v.items c.args.cases path inside h)
