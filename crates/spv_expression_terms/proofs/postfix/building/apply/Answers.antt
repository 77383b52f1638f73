use Rattle.std.proofs.Common.{ap}
use Rattle.std.specs.Prelude.{Err}
use Rattle.spv_term.specs.declared.nodes.TermFault.TheVariants.{Size}
use Rattle.spv_term.proofs.substitution.Exits.{same_fault}
use Rattle.spv_expression_terms.proofs.postfix.Turns.{last_are, rest_are, apply_args, apply_sorts, apply_made, apply_only, apply_size}
use Rattle.spv_expression_terms.proofs.postfix.building.apply.Goals as goal

pub make-requires-clause-args : goal.make-requires-clause-args
make-requires-clause-args c =
    apply_args c.args.terms.now c.law_arena.ensures c.args.piece c.args.stack.now.items c.requires.stack c.requires.makeable _
    (last_are c.as_slice-items.result.now c.args.stack.now.items c.args.piece c.as_slice-items.ensures.value)

pub make-requires-clause-sorts : goal.make-requires-clause-sorts
make-requires-clause-sorts c =
    apply_sorts c.args.terms.now c.law_arena.ensures c.args.piece c.args.stack.now.items c.requires.stack c.requires.makeable _
    (last_are c.as_slice-items.result.now c.args.stack.now.items c.args.piece c.as_slice-items.ensures.value)

pub returns-in_err-made-clause-size : goal.returns-in_err-made-clause-size
returns-in_err-made-clause-size c =
    λ is.
    apply_size c.args.terms.now c.law_arena.ensures c.args.piece c.args.stack.now.items c.requires.stack c.requires.makeable _
    (last_are c.as_slice-items.result.now c.args.stack.now.items c.args.piece c.as_slice-items.ensures.value) c.make.new.self c.in_err-made.ensures.unchanged
    (c.in_err-made.ensures.size (ap Err (same_fault c.in_err-made.field-0.0 c.from_residual.result c.from_residual.ensures.1 Size is)))

pub returns-in_err-put_over-clause-only : goal.returns-in_err-put_over-clause-only
returns-in_err-put_over-clause-only c =
    apply_only c.args.terms.now c.law_arena.ensures c.args.piece c.args.stack.now.items c.requires.stack c.requires.makeable _
    (last_are c.as_slice-items.result.now c.args.stack.now.items c.args.piece c.as_slice-items.ensures.value)
    c.make.new.self c.in_ok-made.made c.in_ok-made.ensures.arena c.in_ok-made.ensures.id c.in_ok-made.ensures.tree

pub returns-clause-applied : goal.returns-clause-applied
returns-clause-applied c =
    apply_made c.args.terms.now c.law_arena.ensures c.args.piece c.args.stack.now.items c.requires.stack c.requires.makeable _
    (last_are c.as_slice-items.result.now c.args.stack.now.items c.args.piece c.as_slice-items.ensures.value)
    c.make.new.self c.in_ok-made.made _ c.put_over.new.stack.items c.in_ok-made.ensures.in_range c.in_ok-made.ensures.tree
    (rest_are c.as_slice-items.result.now c.args.stack.now.items c.args.piece c.as_slice-items.ensures.value) c.in_ok-put_over.ensures

pub returns-clause-only : goal.returns-clause-only
returns-clause-only c =
    apply_only c.args.terms.now c.law_arena.ensures c.args.piece c.args.stack.now.items c.requires.stack c.requires.makeable _
    (last_are c.as_slice-items.result.now c.args.stack.now.items c.args.piece c.as_slice-items.ensures.value)
    c.make.new.self c.in_ok-made.made c.in_ok-made.ensures.arena c.in_ok-made.ensures.id c.in_ok-made.ensures.tree
