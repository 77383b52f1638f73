use Rattle.std.proofs.Common.{sym, subst, ◌∙◌, ap, [], ◌∷◌, map, length}
use Rattle.spv_term.specs.declared.nodes.TermFault.{TermFault}
use Rattle.spv_term.specs.declared.nodes.TermFault.TheVariants.{Memory}
use Rattle.spv_term.specs.Arena.{AllBelow, tree, trees_of}
use Rattle.spv_term.proofs.TreeLemmas.{AllBelow-append}
use Rattle.spv_proof_rules.specs.Stops.{all_kept}
use Rattle.spv_proof_rules.proofs.Growing.{all-kept-first}
use Rattle.spv_rules.specs.declared.making.pieces.Piece.{Piece}
use Rattle.spv_rules.specs.making.Pieces.{with_piece, MayPut, IsMadeFault}
use Rattle.spv_rules.proofs.making.Applying.{handed}
use Rattle.spv_rules.proofs.making.Turns.{layers-kept}
use Rattle.spv_rules.proofs.making.building.put.Goals as goal

pub returns-in_err-put_last-in-Known-clause-fault : goal.returns-in_err-put_last-in-Known-clause-fault
returns-in_err-put_last-in-Known-clause-fault c =
    handed c.from_residual.result Memory
    (λ (f : TermFault). IsMadeFault c.args.terms.now f (all_kept c.args.terms.now.most (trees_of c.args.terms.now.nodes) (with_piece (tree c.args.terms.now) (map (tree c.args.terms.now) c.args.stack.now.items) c.args.piece)))
    c.from_residual.ensures.1
    (all-kept-first c.args.terms.now.most (with_piece (tree c.args.terms.now) (map (tree c.args.terms.now) c.args.stack.now.items) c.args.piece) (trees_of c.args.terms.now.nodes))

pub returns-in_ok-put_last-in-Known-clause-in_range : goal.returns-in_ok-put_last-in-Known-clause-in_range
returns-in_ok-put_last-in-Known-clause-in_range c =
    let h = subst (MayPut c.args.terms.now (map (tree c.args.terms.now) c.args.stack.now.items)) c.in-Known.is c.requires.may in
    subst (AllBelow (length c.args.terms.now.nodes)) (sym c.in_ok-put_last-in-Known.ensures)
    (AllBelow-append (length c.args.terms.now.nodes) c.args.stack.now.items (c.in-Known.t ∷ []) c.requires.stack (h, tt))

pub returns-in_ok-put_last-in-Known-clause-all : goal.returns-in_ok-put_last-in-Known-clause-all
returns-in_ok-put_last-in-Known-clause-all c =
    let h = subst (MayPut c.args.terms.now (map (tree c.args.terms.now) c.args.stack.now.items)) c.in-Known.is c.requires.may in
    ap (λ (p : Piece). all_kept c.args.terms.now.most (trees_of c.args.terms.now.nodes) (with_piece (tree c.args.terms.now) (map (tree c.args.terms.now) c.args.stack.now.items) p)) c.in-Known.is
    ∙ layers-kept c.args.terms.now c.law_arena.ensures c.in-Known.t h
