use Rattle.spv_dictionary.proofs.Refusing.{refuses_pivot}
use Rattle.spv_dictionary.proofs.Exchanging.{same_basis, is_pivot}
use Rattle.spv_dictionary.proofs.laws.law_exchange.Goals as goal

pub returns-clause-basis : goal.returns-clause-basis
returns-clause-basis c = λ old new i j x. same_basis old new i j x.dictionary x.exchanged x.row_in x.slot_in x.nonzero

pub returns-clause-pivot : goal.returns-clause-pivot
returns-clause-pivot c = λ old new i j x. is_pivot old new i j x.dictionary x.exchanged x.row_in x.slot_in x.nonzero

pub returns-clause-refused : goal.returns-clause-refused
returns-clause-refused c = refuses_pivot
