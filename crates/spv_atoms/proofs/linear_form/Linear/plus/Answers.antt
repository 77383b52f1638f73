use Rattle.std.proofs.Common.{ap, ◌∙◌}
use Rattle.std.specs.Option.{option_map}
use Rattle.spv_atoms.specs.Linear.{IdForm}
use Rattle.spv_atoms.proofs.Sums.{wide_sum_parts}
use Rattle.spv_atoms.proofs.linear_form.Linear.plus.Goals as goal

pub returns-in-None : goal.returns-in-None
returns-in-None c =
    wide_sum_parts c.as_slice.result.now c.as_slice-2.result.now c.args.self.now c.args.other.now _ c.in_ok-parts.ensures (ap (option_map (λ v. v.items)) c.in-None.is)
    (c.as_slice.ensures.value ∙ ap (λ (f : IdForm). f.parts) c.self.view_is)
    (c.as_slice-2.ensures.value ∙ ap (λ (f : IdForm). f.parts) c.other.view_is)
