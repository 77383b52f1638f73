use Rattle.std.proofs.Common.{◌∙◌, ap, map, length, List}
use Rattle.spv_term.specs.declared.nodes.TermFault.{TermFault}
use Rattle.spv_term.specs.declared.nodes.TermFault.TheVariants.{Memory}
use Rattle.spv_logic.specs.declared.conditions.TermId.{TermId}
use Rattle.spv_term.specs.Arena.{tree, trees_of}
use Rattle.spv_term.specs.substitution.Images.{head_at}
use Rattle.spv_proof_rules.specs.Stops.{all_kept, layers}
use Rattle.spv_proof_rules.proofs.Growing.{all-kept-first}
use Rattle.spv_rules.specs.making.Pieces.{IsMadeFault}
use Rattle.spv_rules.specs.making.Sketching.{id_for, pieces_of}
use Rattle.spv_rules.proofs.making.Applying.{handed}
use Rattle.spv_rules.proofs.making.InstanceLemmas.{are-pieces, said, many, if_ok, if_err}
use Rattle.spv_rules.proofs.making.Sketched.{on_ok}
use Rattle.spv_rules.proofs.making.instances.made.Goals as goal

pub sketch-requires-clause-lengths : goal.sketch-requires-clause-lengths
sketch-requires-clause-lengths c =
    ap length c.as_slice.ensures ∙ many c.args.from.now c.args.terms.now c.law_arena.ensures c.args.rule.now c.requires.rule c.args.values.now c.requires.values c.requires.shapes c.requires.decls c.requires.fits

pub returns-in_err-pieces-clause-fault : goal.returns-in_err-pieces-clause-fault
returns-in_err-pieces-clause-fault c =
    let a = c.args.terms.now in
    let x = said c.args.from.now a c.law_arena.ensures c.args.rule.now c.requires.rule c.args.values.now c.requires.values c.requires.shapes c.requires.decls c.requires.fits in
    handed c.from_residual.result Memory (λ (f : TermFault). IsMadeFault a f (all_kept a.most (trees_of a.nodes) (layers x))) c.from_residual.ensures.1 (all-kept-first a.most (layers x) (trees_of a.nodes))

pub build-requires : goal.build-requires
build-requires c = record { term = _; are = are-pieces c.args.from.now c.args.terms.now c.law_arena.ensures c.args.rule.now c.requires.rule c.args.values.now c.requires.values c.requires.shapes c.requires.decls c.requires.fits _ (c.as_slice-2.ensures.value ∙ (c.in_ok-pieces.ensures ∙ ap (λ (vs : List TermId). pieces_of (id_for (map (head_at c.args.from.now) vs) c.args.values.now) (tree c.args.from.now c.args.rule.now.formula)) c.as_slice.ensures)) }

pub returns-clause-tree : goal.returns-clause-tree
returns-clause-tree c =
    let are = are-pieces c.args.from.now c.args.terms.now c.law_arena.ensures c.args.rule.now c.requires.rule c.args.values.now c.requires.values c.requires.shapes c.requires.decls c.requires.fits _ (c.as_slice-2.ensures.value ∙ (c.in_ok-pieces.ensures ∙ ap (λ (vs : List TermId). pieces_of (id_for (map (head_at c.args.from.now) vs) c.args.values.now) (tree c.args.from.now c.args.rule.now.formula)) c.as_slice.ensures)) in
    if_ok c.build.result _ _ c.build.ensures.tree (λ u told. told _ are)

pub returns-clause-all : goal.returns-clause-all
returns-clause-all c =
    let are = are-pieces c.args.from.now c.args.terms.now c.law_arena.ensures c.args.rule.now c.requires.rule c.args.values.now c.requires.values c.requires.shapes c.requires.decls c.requires.fits _ (c.as_slice-2.ensures.value ∙ (c.in_ok-pieces.ensures ∙ ap (λ (vs : List TermId). pieces_of (id_for (map (head_at c.args.from.now) vs) c.args.values.now) (tree c.args.from.now c.args.rule.now.formula)) c.as_slice.ensures)) in
    on_ok c.build.result _ _ c.build.ensures.all (λ told. told _ are)

pub returns-clause-fault : goal.returns-clause-fault
returns-clause-fault c =
    let are = are-pieces c.args.from.now c.args.terms.now c.law_arena.ensures c.args.rule.now c.requires.rule c.args.values.now c.requires.values c.requires.shapes c.requires.decls c.requires.fits _ (c.as_slice-2.ensures.value ∙ (c.in_ok-pieces.ensures ∙ ap (λ (vs : List TermId). pieces_of (id_for (map (head_at c.args.from.now) vs) c.args.values.now) (tree c.args.from.now c.args.rule.now.formula)) c.as_slice.ensures)) in
    if_err c.build.result _ _ c.build.ensures.fault (λ f told. told _ are)
