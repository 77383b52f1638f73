use Rattle.std.proofs.Common.{◌∙◌, sym, refl}
use Rattle.spv_environments.proofs.Numbers.{place_of-missing}
use Rattle.spv_environments.proofs.functions.number_of.Goals as goal

pub returns-in-None : goal.returns-in-None
returns-in-None c = λ i. record { 0 = (c.len.ensures.len ∙ sym (place_of-missing _ _ (c.in-None.ensures.absent.0 refl))) i }
