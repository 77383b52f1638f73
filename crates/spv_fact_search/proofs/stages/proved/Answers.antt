use Rattle.std.proofs.Common.{List, Option, IfSome, subst}
use Rattle.spv_atoms.specs.declared.proofs.ProofNode.{ProofNode}
use Rattle.spv_proof_rules.specs.Stand.{IsProof}
use Rattle.spv_fact_search.proofs.Staged.{proved-of}
use Rattle.spv_fact_search.proofs.stages.proved.Goals as goal

pub returns-in-Some-found : goal.returns-in-Some-found
returns-in-Some-found c =
    let stage = c.becoming.new.stage in
    proved-of c.args.stage stage c.tested.new.stage c.becoming.ensures c.tested.ensures.grows c.in-Some-found.proof
    (subst (λ (o : Option (List ProofNode)). IfSome o (IsProof stage.terms stage.condition)) c.in-Some-found.is c.in_ok-found.ensures.proof)
