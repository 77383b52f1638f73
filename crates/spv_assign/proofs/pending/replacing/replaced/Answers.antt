use Rattle.std.proofs.Common.{ap, ◌∙◌}
use Rattle.std.specs.Prelude.{Err}
use Rattle.spv_term.specs.declared.nodes.TermFault.TheVariants.{Size}
use Rattle.spv_term.proofs.substitution.Exits.{same_fault}
use Rattle.spv_assign.proofs.pending.Images.{list_below, list_adds, list_lacks, made_conditions, made_sorts, made_in, made_steps, made_as_many}
use Rattle.spv_assign.proofs.pending.replacing.replaced.Goals as goal

pub images_of-requires-clause-list : goal.images_of-requires-clause-list
images_of-requires-clause-list c =
    list_below c.args.terms.now c.args.terms.now c.args.pairs.now c.args.steps.now.items c.as_slice.result.now (c.as_slice.ensures.value ∙ c.in_ok-list.ensures) c.requires.steps c.requires.there

pub returns-in_err-images-clause-only : goal.returns-in_err-images-clause-only
returns-in_err-images-clause-only c =
    list_adds c.args.terms.now c.images_of.new.terms c.args.pairs.now c.args.steps.now.items c.as_slice.result.now (c.as_slice.ensures.value ∙ c.in_ok-list.ensures) c.requires.steps c.in_err-images.ensures.only

pub returns-in_err-images-clause-size : goal.returns-in_err-images-clause-size
returns-in_err-images-clause-size c =
    λ is.
    list_lacks c.args.terms.now c.images_of.new.terms c.args.pairs.now c.args.steps.now.items c.as_slice.result.now (c.as_slice.ensures.value ∙ c.in_ok-list.ensures) c.requires.steps
    (c.in_err-images.ensures.size (ap Err (same_fault c.in_err-images.field-0.0 c.from_residual-in_err-images.result c.from_residual-in_err-images.ensures.1 Size is)))

pub returns-in_err-made-clause-only : goal.returns-in_err-made-clause-only
returns-in_err-made-clause-only c =
    list_adds c.args.terms.now c.images_of.new.terms c.args.pairs.now c.args.steps.now.items c.as_slice.result.now (c.as_slice.ensures.value ∙ c.in_ok-list.ensures) c.requires.steps c.in_ok-images.ensures.only

pub returns-clause-conditions : goal.returns-clause-conditions
returns-clause-conditions c =
    made_conditions c.args.terms.now c.images_of.new.terms c.args.pairs.now c.args.steps.now.items c.as_slice.result.now (c.as_slice.ensures.value ∙ c.in_ok-list.ensures) c.requires.steps
    c.in_ok-images.images.items c.as_slice-2.result.now c.in_ok-made.made.items c.as_slice-2.ensures.value c.in_ok-made.ensures c.in_ok-images.ensures.trees

pub returns-clause-sorts : goal.returns-clause-sorts
returns-clause-sorts c =
    made_sorts c.args.terms.now c.images_of.new.terms c.args.pairs.now c.args.steps.now.items c.as_slice.result.now (c.as_slice.ensures.value ∙ c.in_ok-list.ensures) c.requires.steps
    c.in_ok-images.images.items c.as_slice-2.result.now c.in_ok-made.made.items c.as_slice-2.ensures.value c.in_ok-made.ensures c.in_ok-images.ensures.sorts

pub returns-clause-in_range : goal.returns-clause-in_range
returns-clause-in_range c =
    made_in c.args.terms.now c.images_of.new.terms c.args.pairs.now c.args.steps.now.items c.as_slice.result.now (c.as_slice.ensures.value ∙ c.in_ok-list.ensures) c.requires.steps
    c.in_ok-images.images.items c.as_slice-2.result.now c.in_ok-made.made.items c.as_slice-2.ensures.value c.in_ok-made.ensures c.in_ok-images.ensures.in_range

pub returns-clause-steps : goal.returns-clause-steps
returns-clause-steps c =
    made_steps c.args.terms.now c.images_of.new.terms c.args.pairs.now c.args.steps.now.items c.as_slice.result.now (c.as_slice.ensures.value ∙ c.in_ok-list.ensures) c.requires.steps
    c.in_ok-images.images.items c.as_slice-2.result.now c.in_ok-made.made.items c.as_slice-2.ensures.value c.in_ok-made.ensures c.in_ok-images.ensures.sorts

pub returns-clause-as_many : goal.returns-clause-as_many
returns-clause-as_many c =
    made_as_many c.args.terms.now c.images_of.new.terms c.args.pairs.now c.args.steps.now.items c.as_slice.result.now (c.as_slice.ensures.value ∙ c.in_ok-list.ensures) c.requires.steps
    c.in_ok-images.images.items c.as_slice-2.result.now c.in_ok-made.made.items c.as_slice-2.ensures.value c.in_ok-made.ensures c.in_ok-images.ensures.sorts

pub returns-clause-only : goal.returns-clause-only
returns-clause-only c = list_adds c.args.terms.now c.images_of.new.terms c.args.pairs.now c.args.steps.now.items c.as_slice.result.now (c.as_slice.ensures.value ∙ c.in_ok-list.ensures) c.requires.steps c.in_ok-images.ensures.only
