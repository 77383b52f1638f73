use Rattle.std.proofs.Common.{◌≡◌, Bool, List, length, map, sym, ap, ◌∙◌, subst}
use Rattle.std.specs.Prelude.{Err}
use Rattle.spv_logic.specs.declared.conditions.TermId.{TermId}
use Rattle.spv_term.specs.declared.nodes.TermFault.TheVariants.{Size}
use Rattle.spv_term.specs.Arena.{AllBelow, tree, sorts_at}
use Rattle.spv_term.specs.substitution.Images.{substituted}
use Rattle.spv_term.specs.substitution.Parts.{AddsParts, LacksPart}
use Rattle.spv_term.proofs.substitution.Exits.{same_fault}
use Rattle.spv_assign.specs.pending.Staying.{marked, put_back}
use Rattle.spv_assign.proofs.pending.Unchanged.{marks_long, marked_below, back_trees, back_sorts, back_below, more_adds, more_lacks}
use Rattle.spv_assign.proofs.pending.substituting.without_those_that_stay.Goals as goal

pub marked-requires : goal.marked-requires
marked-requires c =
    ap length c.as_slice.ensures.value ∙ marks_long c.args.terms.now c.args.pairs.now c.in_ok-marks.marks.items c.args.list.now c.in_ok-marks.ensures

pub substitute_all-requires-clause-list : goal.substitute_all-requires-clause-list
substitute_all-requires-clause-list c =
    let is : c.as_slice-2.result.now ≡ marked c.in_ok-marks.marks.items c.args.list.now = c.as_slice-2.ensures.value ∙ (c.in_ok-changing.ensures ∙ ap (λ (m : List Bool). marked m c.args.list.now) c.as_slice.ensures.value) in
    subst (AllBelow (length c.args.terms.now.nodes)) (sym is) (marked_below (length c.args.terms.now.nodes) c.in_ok-marks.marks.items c.args.list.now c.requires.list)

pub returns-in_err-made-clause-only : goal.returns-in_err-made-clause-only
returns-in_err-made-clause-only c =
    let is : c.as_slice-2.result.now ≡ marked c.in_ok-marks.marks.items c.args.list.now = c.as_slice-2.ensures.value ∙ (c.in_ok-changing.ensures ∙ ap (λ (m : List Bool). marked m c.args.list.now) c.as_slice.ensures.value) in
    more_adds c.args.terms.now c.substitute_all.new.terms c.args.pairs.now c.in_err-made.ensures.grows c.in_ok-marks.marks.items c.args.list.now
    (subst (λ (l : List TermId). AddsParts c.args.terms.now c.substitute_all.new.terms (substituted c.args.terms.now c.args.pairs.now l)) is c.in_err-made.ensures.only)

pub returns-in_err-made-clause-size : goal.returns-in_err-made-clause-size
returns-in_err-made-clause-size c =
    let is : c.as_slice-2.result.now ≡ marked c.in_ok-marks.marks.items c.args.list.now = c.as_slice-2.ensures.value ∙ (c.in_ok-changing.ensures ∙ ap (λ (m : List Bool). marked m c.args.list.now) c.as_slice.ensures.value) in
    λ size.
    more_lacks c.args.terms.now c.substitute_all.new.terms c.args.pairs.now c.in_err-made.ensures.grows c.in_ok-marks.marks.items c.args.list.now
    (subst (λ (l : List TermId). LacksPart c.substitute_all.new.terms (substituted c.args.terms.now c.args.pairs.now l)) is
    (c.in_err-made.ensures.size (ap Err (same_fault c.in_err-made.field-0.0 c.from_residual-in_err-made.result c.from_residual-in_err-made.ensures.1 Size size))))

pub put_back-requires-clause-marks : goal.put_back-requires-clause-marks
put_back-requires-clause-marks c =
    ap length c.as_slice-3.ensures.value ∙ marks_long c.args.terms.now c.args.pairs.now c.in_ok-marks.marks.items c.args.list.now c.in_ok-marks.ensures

pub returns-in_err-all-clause-only : goal.returns-in_err-all-clause-only
returns-in_err-all-clause-only c =
    let is : c.as_slice-2.result.now ≡ marked c.in_ok-marks.marks.items c.args.list.now = c.as_slice-2.ensures.value ∙ (c.in_ok-changing.ensures ∙ ap (λ (m : List Bool). marked m c.args.list.now) c.as_slice.ensures.value) in
    more_adds c.args.terms.now c.substitute_all.new.terms c.args.pairs.now c.in_ok-made.ensures.grows c.in_ok-marks.marks.items c.args.list.now
    (subst (λ (l : List TermId). AddsParts c.args.terms.now c.substitute_all.new.terms (substituted c.args.terms.now c.args.pairs.now l)) is c.in_ok-made.ensures.only)

pub returns-clause-trees : goal.returns-clause-trees
returns-clause-trees c =
    let is : c.as_slice-2.result.now ≡ marked c.in_ok-marks.marks.items c.args.list.now = c.as_slice-2.ensures.value ∙ (c.in_ok-changing.ensures ∙ ap (λ (m : List Bool). marked m c.args.list.now) c.as_slice.ensures.value) in
    let made : c.in_ok-all.all.items ≡ put_back c.in_ok-marks.marks.items c.args.list.now c.in_ok-made.made.items = c.in_ok-all.ensures ∙ (λ k. put_back (c.as_slice-3.ensures.value k) c.args.list.now (c.as_slice-4.ensures.value k)) in
    ap (map (tree c.substitute_all.new.terms)) made
    ∙ back_trees c.args.terms.now c.substitute_all.new.terms c.args.pairs.now c.in_ok-made.ensures.grows c.in_ok-marks.marks.items c.args.list.now c.in_ok-made.made.items c.requires.list c.in_ok-marks.ensures
    (c.in_ok-made.ensures.trees ∙ ap (substituted c.args.terms.now c.args.pairs.now) is)

pub returns-clause-sorts : goal.returns-clause-sorts
returns-clause-sorts c =
    let is : c.as_slice-2.result.now ≡ marked c.in_ok-marks.marks.items c.args.list.now = c.as_slice-2.ensures.value ∙ (c.in_ok-changing.ensures ∙ ap (λ (m : List Bool). marked m c.args.list.now) c.as_slice.ensures.value) in
    let made : c.in_ok-all.all.items ≡ put_back c.in_ok-marks.marks.items c.args.list.now c.in_ok-made.made.items = c.in_ok-all.ensures ∙ (λ k. put_back (c.as_slice-3.ensures.value k) c.args.list.now (c.as_slice-4.ensures.value k)) in
    ap (sorts_at c.substitute_all.new.terms) made
    ∙ back_sorts c.args.terms.now c.substitute_all.new.terms c.args.pairs.now c.in_ok-made.ensures.grows c.in_ok-marks.marks.items c.args.list.now c.in_ok-made.made.items c.requires.list c.in_ok-marks.ensures
    (c.in_ok-made.ensures.sorts ∙ ap (sorts_at c.args.terms.now) is)

pub returns-clause-in_range : goal.returns-clause-in_range
returns-clause-in_range c =
    let made : c.in_ok-all.all.items ≡ put_back c.in_ok-marks.marks.items c.args.list.now c.in_ok-made.made.items = c.in_ok-all.ensures ∙ (λ k. put_back (c.as_slice-3.ensures.value k) c.args.list.now (c.as_slice-4.ensures.value k)) in
    subst (AllBelow (length c.substitute_all.new.terms.nodes)) (sym made)
    (back_below c.args.terms.now c.substitute_all.new.terms c.args.pairs.now c.in_ok-made.ensures.grows c.in_ok-marks.marks.items c.args.list.now c.in_ok-made.made.items c.requires.list c.in_ok-made.ensures.in_range)

pub returns-clause-only : goal.returns-clause-only
returns-clause-only c =
    let is : c.as_slice-2.result.now ≡ marked c.in_ok-marks.marks.items c.args.list.now = c.as_slice-2.ensures.value ∙ (c.in_ok-changing.ensures ∙ ap (λ (m : List Bool). marked m c.args.list.now) c.as_slice.ensures.value) in
    more_adds c.args.terms.now c.substitute_all.new.terms c.args.pairs.now c.in_ok-made.ensures.grows c.in_ok-marks.marks.items c.args.list.now
    (subst (λ (l : List TermId). AddsParts c.args.terms.now c.substitute_all.new.terms (substituted c.args.terms.now c.args.pairs.now l)) is c.in_ok-made.ensures.only)
