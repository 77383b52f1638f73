use Rattle.std.proofs.Common.{rules, ap, ◌∙◌}
use Rattle.std.proofs.lemmas.Int.{to_z-of_z}
use Rattle.std.specs.Option.{option_map}
use mir.Syntax.{w128}
use Rattle.spv_atoms.specs.Linear.{IdForm}
use Rattle.spv_atoms.proofs.Sums.{wide_parts}
use Rattle.spv_atoms.proofs.linear_form.Linear.times.Goals as goal

pub returns-in-None : goal.returns-in-None
returns-in-None c =
    wide_parts c.args.factor _ c.as_slice.result.now c.args.self.now _ c.in_ok-parts.ensures (ap (option_map (λ v. v.items)) c.in-None.is) (to_z-of_z w128 c.args.factor (search rules))
    (c.as_slice.ensures.value ∙ ap (λ (f : IdForm). f.parts) c.self.view_is)
