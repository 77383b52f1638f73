use Rattle.std.proofs.Common.{ap}
use Rattle.std.specs.Prelude.{Err}
use Rattle.spv_term.proofs.substitution.Exits.{same_fault}
use Rattle.spv_term.proofs.substitution.Finishing.{finish_args, finish_sorts, finish_types, finish_numeral, finish_made, finish_only, finish_size, args_are}
use Rattle.spv_term.proofs.substitution.walk.finish.Goals as goal
use Rattle.spv_term.specs.declared.nodes.TermFault.TheVariants.{Size}

pub make-requires-clause-args : goal.make-requires-clause-args
make-requires-clause-args c =
    finish_args c.args.terms.now c.law_arena.ensures c.args.t c.node-node.result.now c.node-node.ensures c.args.images.now c.requires.images c.as_slice-2.result.now
    (args_are _ _ _ _ _ c.as_slice-2.ensures.value c.in_ok-args.ensures c.as_slice.ensures)

pub make-requires-clause-sorts : goal.make-requires-clause-sorts
make-requires-clause-sorts c =
    finish_sorts c.args.terms.now c.law_arena.ensures c.args.t c.node-node.result.now c.node-node.ensures c.args.images.now c.requires.images c.as_slice-2.result.now
    (args_are _ _ _ _ _ c.as_slice-2.ensures.value c.in_ok-args.ensures c.as_slice.ensures)

pub make-requires-clause-types : goal.make-requires-clause-types
make-requires-clause-types c =
    finish_types c.args.terms.now c.law_arena.ensures c.args.t c.node-node.result.now c.node-node.ensures c.args.images.now c.requires.images c.as_slice-2.result.now
    (args_are _ _ _ _ _ c.as_slice-2.ensures.value c.in_ok-args.ensures c.as_slice.ensures)

pub make-requires-clause-numeral : goal.make-requires-clause-numeral
make-requires-clause-numeral c =
    finish_numeral c.args.terms.now c.law_arena.ensures c.args.t c.node-node.result.now c.node-node.ensures c.args.images.now c.requires.images c.as_slice-2.result.now
    (args_are _ _ _ _ _ c.as_slice-2.ensures.value c.in_ok-args.ensures c.as_slice.ensures)

pub returns-in_err-image-clause-size : goal.returns-in_err-image-clause-size
returns-in_err-image-clause-size c =
    λ is.
    finish_size c.args.terms.now c.law_arena.ensures c.args.t c.node-node.result.now c.node-node.ensures c.args.images.now c.requires.images c.as_slice-2.result.now
    (args_are _ _ _ _ _ c.as_slice-2.ensures.value c.in_ok-args.ensures c.as_slice.ensures)
    c.make.new.self c.in_err-image.ensures.unchanged
    (c.in_err-image.ensures.size (ap Err (same_fault c.in_err-image.field-0.0 c.from_residual-in_err-image.result c.from_residual-in_err-image.ensures.1 Size is)))

pub returns-in_err-put-clause-only : goal.returns-in_err-put-clause-only
returns-in_err-put-clause-only c =
    finish_only c.args.terms.now c.law_arena.ensures c.args.t c.node-node.result.now c.node-node.ensures c.args.images.now c.requires.images c.as_slice-2.result.now
    (args_are _ _ _ _ _ c.as_slice-2.ensures.value c.in_ok-args.ensures c.as_slice.ensures)
    c.make.new.self c.in_ok-image.image c.in_ok-image.ensures.arena c.in_ok-image.ensures.id c.in_ok-image.ensures.tree

pub returns-clause-made : goal.returns-clause-made
returns-clause-made c =
    finish_made c.args.terms.now c.law_arena.ensures c.args.t c.node-node.result.now c.node-node.ensures c.args.images.now c.requires.images c.as_slice-2.result.now
    (args_are _ _ _ _ _ c.as_slice-2.ensures.value c.in_ok-args.ensures c.as_slice.ensures)
    c.make.new.self c.in_ok-image.image c.put.new.self c.in_ok-image.ensures.in_range c.in_ok-image.ensures.tree c.in_ok-image.ensures.sort c.in_ok-put.ensures

pub returns-clause-only : goal.returns-clause-only
returns-clause-only c =
    finish_only c.args.terms.now c.law_arena.ensures c.args.t c.node-node.result.now c.node-node.ensures c.args.images.now c.requires.images c.as_slice-2.result.now
    (args_are _ _ _ _ _ c.as_slice-2.ensures.value c.in_ok-args.ensures c.as_slice.ensures)
    c.make.new.self c.in_ok-image.image c.in_ok-image.ensures.arena c.in_ok-image.ensures.id c.in_ok-image.ensures.tree
