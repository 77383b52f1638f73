use Rattle.std.proofs.Common.{List, Option, IfSome, subst}
use Rattle.spv_atoms.specs.declared.proofs.ProofNode.{ProofNode}
use Rattle.spv_proof_rules.specs.Stand.{IsProof}
use Rattle.spv_trimming.proofs.Growing.{proof_grows}
use Rattle.spv_trimming.proofs.trimming.trimmed.Goals as goal

pub returns-in-Some-clause-proof : goal.returns-in-Some-clause-proof
returns-in-Some-clause-proof c =
    let a = c.args.terms.now in
    let d = c.args.condition.now in
    proof_grows a c.proof_of.new.terms d c.in-Some.shorter c.proof_of.ensures.grows c.requires.given c.requires.goal
    (subst (λ (o : Option (List ProofNode)). IfSome o (IsProof a d)) c.in-Some.is c.in_ok-found.ensures.proof)

pub returns-in-None-clause-proof : goal.returns-in-None-clause-proof
returns-in-None-clause-proof c =
    proof_grows c.args.terms.now c.proof_of.new.terms c.args.condition.now c.args.proof c.proof_of.ensures.grows c.requires.given c.requires.goal c.requires.proof
