use Rattle.std.proofs.Common.{sym, subst, ◌∙◌, ap, [], ◌∷◌, map}
use Rattle.spv_logic.specs.Terms.{Term}
use Rattle.spv_term.specs.declared.nodes.TermFault.{TermFault}
use Rattle.spv_term.specs.declared.nodes.TermFault.TheVariants.{Memory}
use Rattle.spv_term.specs.Arena.{tree, trees_of}
use Rattle.spv_proof_rules.specs.Stops.{all_kept}
use Rattle.spv_rules.specs.making.Pieces.{over, IsMadeFault}
use Rattle.spv_rules.proofs.making.Applying.{handed, last_are, rest_are, made-first, over_is, apply_args, apply_sorts, apply_trees, apply_in_range}
use Rattle.spv_rules.proofs.making.building.apply.Goals as goal

pub make-requires-clause-args : goal.make-requires-clause-args
make-requires-clause-args c = apply_args c.args.terms.now c.law_arena.ensures c.args.head c.args.count c.args.stack.now.items c.requires.stack c.requires.may _ (last_are c.as_slice-items.result.now c.args.stack.now.items c.args.count c.as_slice-items.ensures.value)

pub make-requires-clause-sorts : goal.make-requires-clause-sorts
make-requires-clause-sorts c = apply_sorts c.args.terms.now c.law_arena.ensures c.args.head c.args.count c.args.stack.now.items c.requires.stack c.requires.may _ (last_are c.as_slice-items.result.now c.args.stack.now.items c.args.count c.as_slice-items.ensures.value)

pub returns-in_err-made-clause-fault : goal.returns-in_err-made-clause-fault
returns-in_err-made-clause-fault c =
    handed c.from_residual.result c.in_err-made.field-0.0
    (λ (f : TermFault). IsMadeFault c.make.new.terms f (all_kept c.args.terms.now.most (trees_of c.args.terms.now.nodes) (over c.args.head c.args.count (map (tree c.args.terms.now) c.args.stack.now.items) ∷ [])))
    c.from_residual.ensures.1
    (subst (λ (x : Term). IsMadeFault c.make.new.terms c.in_err-made.field-0.0 (all_kept c.args.terms.now.most (trees_of c.args.terms.now.nodes) (x ∷ [])))
    (over_is c.args.terms.now c.law_arena.ensures c.args.head c.args.count c.args.stack.now.items c.requires.stack c.requires.may _ (last_are c.as_slice-items.result.now c.args.stack.now.items c.args.count c.as_slice-items.ensures.value)) c.in_err-made.ensures.fault)

pub returns-in_err-put_over-clause-fault : goal.returns-in_err-put_over-clause-fault
returns-in_err-put_over-clause-fault c =
    handed c.from_residual-in_err-put_over.result Memory
    (λ (f : TermFault). IsMadeFault c.make.new.terms f (all_kept c.args.terms.now.most (trees_of c.args.terms.now.nodes) (over c.args.head c.args.count (map (tree c.args.terms.now) c.args.stack.now.items) ∷ [])))
    c.from_residual-in_err-put_over.ensures.1
    (made-first (trees_of c.make.new.terms.nodes) _
    (ap (λ (x : Term). all_kept c.args.terms.now.most (trees_of c.args.terms.now.nodes) (x ∷ [])) (sym (over_is c.args.terms.now c.law_arena.ensures c.args.head c.args.count c.args.stack.now.items c.requires.stack c.requires.may _ (last_are c.as_slice-items.result.now c.args.stack.now.items c.args.count c.as_slice-items.ensures.value))) ∙ c.in_ok-made.ensures.all))

pub returns-clause-trees : goal.returns-clause-trees
returns-clause-trees c =
    apply_trees c.args.terms.now c.law_arena.ensures c.args.head c.args.count c.args.stack.now.items c.requires.stack c.requires.may _ (last_are c.as_slice-items.result.now c.args.stack.now.items c.args.count c.as_slice-items.ensures.value)
    c.make.new.terms c.in_ok-made.ensures.grows c.in_ok-made.made c.put_over.new.stack.items _
    (rest_are c.as_slice-items.result.now c.args.stack.now.items c.args.count c.as_slice-items.ensures.value) c.in_ok-put_over.ensures c.in_ok-made.ensures.tree

pub returns-clause-in_range : goal.returns-clause-in_range
returns-clause-in_range c =
    apply_in_range c.args.terms.now c.law_arena.ensures c.args.head c.args.count c.args.stack.now.items c.requires.stack c.requires.may _ (last_are c.as_slice-items.result.now c.args.stack.now.items c.args.count c.as_slice-items.ensures.value)
    c.make.new.terms c.in_ok-made.ensures.grows c.in_ok-made.made c.put_over.new.stack.items _
    (rest_are c.as_slice-items.result.now c.args.stack.now.items c.args.count c.as_slice-items.ensures.value) c.in_ok-put_over.ensures c.in_ok-made.ensures.in_range

pub returns-clause-all : goal.returns-clause-all
returns-clause-all c =
    ap (λ (x : Term). all_kept c.args.terms.now.most (trees_of c.args.terms.now.nodes) (x ∷ [])) (sym (over_is c.args.terms.now c.law_arena.ensures c.args.head c.args.count c.args.stack.now.items c.requires.stack c.requires.may _ (last_are c.as_slice-items.result.now c.args.stack.now.items c.args.count c.as_slice-items.ensures.value))) ∙ c.in_ok-made.ensures.all
