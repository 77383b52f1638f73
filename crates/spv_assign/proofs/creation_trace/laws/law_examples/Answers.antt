use Rattle.std.proofs.Common.{refl}
use Rattle.spv_assign.proofs.creation_trace.laws.law_examples.Goals as goal

pub returns : goal.returns
returns c = λ p here n c f. record {
  two_ifs = refl;
  assertion = refl;
  arms = λ labels. refl;
  while_loop = refl;
  repeat_loop = refl;
  counting_loop = λ x d. refl;
}
