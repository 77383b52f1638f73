use Rattle.spv_program.specs.declared.types.TypeForm.TheVariants.{Record}
use Rattle.std.proofs.Common.{[]}
use Rattle.spv_effects.proofs.mod_sets.Forms.{sort_there, sort_outside}
use Rattle.spv_effects.proofs.mod_sets.kinds.sort_of.Goals as goal

pub returns-in-Some : goal.returns-in-Some
returns-in-Some c = sort_there c.args.forms.now c.args.t c.in-Some.form.now _ c.sort_of_form.ensures (c.in-Some.ensures.lookup.3.1 (Record []))

pub returns-in-None : goal.returns-in-None
returns-in-None c = sort_outside c.args.forms.now c.args.t c.in-None.ensures.lookup.3
