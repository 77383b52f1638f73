use Rattle.std.proofs.lemmas.List.{drop_more}
use Rattle.spv_logic.specs.Terms.{Term}
use Rattle.spv_term.specs.declared.nodes.TermFault.{TermFault}
use Rattle.spv_term.specs.Arena.{trees_of}
use Rattle.spv_proof_rules.specs.Stops.{all_kept, layers}
use Rattle.spv_rules.specs.making.Pieces.{ArePieces, IsMadeFault}
use Rattle.spv_rules.proofs.making.Applying.{handed}
use Rattle.spv_rules.proofs.making.Turns.{next-may, next-built, next-fault}
use Rattle.spv_rules.proofs.making.building.build.Goals as goal

pub put-requires-clause-may : goal.put-requires-clause-may
put-requires-clause-may c = next-may c.args.terms.now c.loop-piece.terms c.args.pieces.now c.loop-piece.stack.items _ _ _ (drop_more c.args.pieces.now c.loop-piece.piece-index _ c.loop-piece-test.true) c.loop-piece.invariant c.requires

pub returns-in_err-put-clause-fault : goal.returns-in_err-put-clause-fault
returns-in_err-put-clause-fault c =
    handed c.from_residual.result c.in_err-put.field-0.0
    (λ (f : TermFault). (t : Term) → ArePieces c.args.terms.now c.args.pieces.now t → IsMadeFault c.put.new.terms f (all_kept c.args.terms.now.most (trees_of c.args.terms.now.nodes) (layers t)))
    c.from_residual.ensures.1
    (next-fault c.args.terms.now c.loop-piece.terms c.args.pieces.now c.loop-piece.stack.items _ _ _ (drop_more c.args.pieces.now c.loop-piece.piece-index _ c.loop-piece-test.true) c.loop-piece.invariant c.put.new.terms c.in_err-put.field-0.0 c.in_err-put.ensures.fault)

pub loop-piece-preserved : goal.loop-piece-preserved
loop-piece-preserved c =
    next-built c.args.terms.now c.loop-piece.terms c.args.pieces.now c.loop-piece.stack.items _ _ _ (drop_more c.args.pieces.now c.loop-piece.piece-index _ c.loop-piece-test.true) c.loop-piece.invariant c.put.new.terms c.in_ok-put.ensures.grows c.put.new.stack.items c.in_ok-put.ensures.trees c.in_ok-put.ensures.in_range c.in_ok-put.ensures.all
