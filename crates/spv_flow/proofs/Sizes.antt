-- Statements are larger than what is inside of them.
use Rattle.std.proofs.Common.{◌<◌, ℕ, zero, suc, List, [], ◌∷◌, length, get_or, arith}
use Rattle.spv_program.specs.Statements.{Statement}
use Rattle.spv_program.specs.declared.typed.statements.Arm.{Arm}
use Rattle.spv_program.specs.typed.StatementViews.{arms_of, block_of}
use Rattle.spv_program.specs.typed.Model.StatementSizes.{arms_size, statement_size}

pub statement_within : (ss : List Statement) (i : ℕ) (d : Statement) → i < length ss → statement_size (get_or ss i d) < statement_size (block_of ss)
statement_within [] i d h = absurd (omega arith)
statement_within (s ∷ ss) zero d h = omega arith
statement_within (s ∷ ss) (suc i) d h = omega (arith, statement_within ss i d (omega arith))

pub arm_within : (arms : List Arm) (i : ℕ) (d : Arm) → i < length arms → statement_size (get_or arms i d).body.value < arms_size (arms_of arms)
arm_within [] i d h = absurd (omega arith)
arm_within (a ∷ arms) zero d h = omega arith
arm_within (a ∷ arms) (suc i) d h = omega (arith, arm_within arms i d (omega arith))
