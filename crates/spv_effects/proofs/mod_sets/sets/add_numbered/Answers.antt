use Rattle.std.proofs.Common.{arith}
use Rattle.spv_effects.proofs.mod_sets.Members.{forms_end}
use Rattle.spv_effects.proofs.mod_sets.sets.add_numbered.Goals as goal

pub returns : goal.returns
returns c = forms_end c.args.forms.now c.loop-form._form-index c.loop-form.number _ _ (omega (arith, c.loop-form-test.false)) c.loop-form.invariant
