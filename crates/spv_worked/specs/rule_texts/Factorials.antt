-- A world in which the rules of factorials hold.
use Rattle.std.specs.Prelude.{◌≡◌, ℕ, zero, suc, ◌*◌, ℤ, pos, negsuc, List, [], ◌∷◌}
use Rattle.spv_logic.specs.declared.types.Shape.{Shape}
use Rattle.spv_logic.specs.declared.types.Decl.{Decl}
use Rattle.spv_logic.specs.declared.types.Sort.TheVariants as sort
use Rattle.spv_logic.specs.Values.{Number, number_of}
use Rattle.spv_logic.specs.Terms.{first}
use Rattle.spv_logic.specs.Sorts.{declared}
use Rattle.spv_logic.specs.Conditions.{Meaning, declared_result}
use Rattle.spv_proof_rules.specs.Rules.{RulesHold}
use Rattle.spv_worked.specs.rule_texts.Files.{zero_one, number_before}

abbrev pub factorial : ℕ → ℕ
factorial zero = 1
factorial (suc n) = suc n * factorial n

-- a number that is not below 0, and 0 for each other one
abbrev pub natural : ℤ → ℕ
natural (pos n) = n
natural (negsuc n) = 0

-- each symbol answers the factorial of its first argument
abbrev pub factorials : Meaning
factorials symbol values = Number (pos (factorial (natural (number_of (first values)))))

-- both rules that `f` is read with hold there, wherever it is declared to be a number
abbrev pub FactorialsHold : Type 0
FactorialsHold = (shapes : List Shape) (decls : List Decl) → declared_result (declared decls 7) ≡ sort.Int → RulesHold shapes decls factorials (zero_one ∷ number_before ∷ [])
