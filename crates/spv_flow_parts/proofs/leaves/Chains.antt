-- Conditions and the supply that is left, put together.
use Rattle.std.proofs.Common.{◌≡◌, List}
use Rattle.spv_logic.specs.Conditions as logic
use Rattle.spv_term.specs.declared.nodes.Condition.{Condition}
use Rattle.spv_term.specs.Arena.{Arena, Extends}
use Rattle.spv_program.specs.Supplies.{Supply}
use Rattle.spv_assign.specs.Conditions.{conditions_of, AreIn}
use Rattle.spv_assign.proofs.Growing.{conditions_of-Extends}
use Rattle.spv_meaning.specs.Before.{Made}
use Rattle.spv_flow_parts.specs.Walks.{made_of}

abbrev pub made_with : List logic.Condition → Supply → Made
made_with cs n = record { conditions = cs; supply = n }

pub same_made : (cs ds : List logic.Condition) (n m : Supply) → cs ≡ ds → n ≡ m → made_with cs n ≡ made_with ds m
same_made cs ds n m e f = λ i. record { conditions = e i; supply = f i }

-- conditions that were there before, and the supply of what was made since
pub behind_made : {a b : Arena} (rest : List Condition) (n m : Supply) → Extends a b → AreIn a rest → n ≡ m → made_of b rest n ≡ made_of a rest m
behind_made {a} {b} rest n m more within e = same_made (conditions_of b rest) (conditions_of a rest) n m (conditions_of-Extends more rest within) e
