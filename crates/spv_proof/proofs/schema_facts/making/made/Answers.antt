use Rattle.spv_term.specs.declared.nodes.TermFault.{TermFault}
use Rattle.spv_term.specs.declared.nodes.TermFault.TheVariants.{Memory}
use Rattle.spv_term.specs.Arena.{tree, trees_of}
use Rattle.spv_proof_rules.specs.Stops.{all_kept, layers}
use Rattle.spv_proof_rules.proofs.Growing.{all-kept-first}
use Rattle.spv_proof.specs.schema_facts.Facts.{said}
use Rattle.spv_rules.specs.making.Pieces.{IsMadeFault}
use Rattle.spv_rules.proofs.making.Applying.{handed}
use Rattle.spv_proof.proofs.schema_facts.making.made.Goals as goal

pub returns-in_err-pieces-clause-fault : goal.returns-in_err-pieces-clause-fault
returns-in_err-pieces-clause-fault c =
    let a = c.args.terms.now in
    handed c.from_residual.result Memory (λ (f : TermFault). IsMadeFault a f (all_kept a.most (trees_of a.nodes) (layers (said (tree a) c.args.fact)))) c.from_residual.ensures.1
    (all-kept-first a.most (layers (said (tree a) c.args.fact)) (trees_of a.nodes))
