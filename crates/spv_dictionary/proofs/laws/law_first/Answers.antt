use Rattle.spv_dictionary.proofs.FirstForm.{is_first_form}
use Rattle.spv_dictionary.proofs.laws.law_first.Goals as goal

pub returns : goal.returns
returns c = is_first_form
