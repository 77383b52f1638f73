use Rattle.std.proofs.Common.{List, Option, IfSome, subst}
use Rattle.spv_atoms.specs.declared.proofs.ProofNode.{ProofNode}
use Rattle.spv_proof_rules.specs.Stand.{IsProof}
use Rattle.spv_fact_search.proofs.Staged.{proved-own}
use Rattle.spv_fact_search.proofs.reasoning.tested.Goals as goal

pub returns-in-Some : goal.returns-in-Some
returns-in-Some c =
    λ a k limits is.
    proved-own a k limits c.args.own c.proof_of.new.terms c.args.claim c.in-Some.proof is c.in_ok-found.ensures.grows
    (subst (λ (o : Option (List ProofNode)). IfSome o (IsProof c.args.own c.args.claim)) c.in-Some.is c.in_ok-found.ensures.proof)
