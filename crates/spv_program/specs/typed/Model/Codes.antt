-- How the small parts of typed programs are kept apart: each as a tree of numbers that gives it back.
use Rattle.std.specs.Prelude.{ℕ, zero, suc, ◌≡◌, refl}
use base.Stored.{Gv, gnum, num}
use Rattle.spv_logic.specs.declared.names.names.Symbol.{Symbol}
use Rattle.spv_logic.specs.declared.types.TypeId.{TypeId}
use Rattle.spv_logic.specs.declared.conditions.RoutineId.{RoutineId}
use Rattle.spv_program.specs.declared.operators.Arithmetic.{Arithmetic}
use Rattle.spv_program.specs.declared.operators.Arithmetic.TheVariants as arithmetic
use Rattle.spv_program.specs.declared.operators.Comparison.{Comparison}
use Rattle.spv_program.specs.declared.operators.Comparison.TheVariants as comparison
use Rattle.spv_program.specs.declared.operators.Connective.{Connective}
use Rattle.spv_program.specs.declared.operators.Connective.TheVariants as connective
use Rattle.spv_logic.specs.list.Ways.{Way}

abbrev pub way_symbol : Way Symbol
way_symbol = record { to = λ x. gnum x.0; back = λ g. record { 0 = num g }; same = λ x. refl }

abbrev pub way_type : Way TypeId
way_type = record { to = λ t. gnum t.0; back = λ g. record { 0 = num g }; same = λ t. refl }

abbrev pub way_routine : Way RoutineId
way_routine = record { to = λ r. gnum r.0; back = λ g. record { 0 = num g }; same = λ r. refl }

abbrev arithmetic_to : Arithmetic → Gv
arithmetic_to arithmetic.Plus = gnum 0
arithmetic_to arithmetic.Minus = gnum 1
arithmetic_to arithmetic.Times = gnum 2
arithmetic_to arithmetic.Div = gnum 3
arithmetic_to arithmetic.Mod = gnum 4

abbrev arithmetic_by : ℕ → Arithmetic
arithmetic_by zero = arithmetic.Plus
arithmetic_by (suc zero) = arithmetic.Minus
arithmetic_by (suc (suc zero)) = arithmetic.Times
arithmetic_by (suc (suc (suc zero))) = arithmetic.Div
arithmetic_by _ = arithmetic.Mod

pub arithmetic_same : (o : Arithmetic) → arithmetic_by (num (arithmetic_to o)) ≡ o
arithmetic_same arithmetic.Plus = refl
arithmetic_same arithmetic.Minus = refl
arithmetic_same arithmetic.Times = refl
arithmetic_same arithmetic.Div = refl
arithmetic_same arithmetic.Mod = refl

abbrev pub way_arithmetic : Way Arithmetic
way_arithmetic = record { to = arithmetic_to; back = λ g. arithmetic_by (num g); same = arithmetic_same }

abbrev comparison_to : Comparison → Gv
comparison_to comparison.Equal = gnum 0
comparison_to comparison.NotEqual = gnum 1
comparison_to comparison.Less = gnum 2
comparison_to comparison.AtMost = gnum 3
comparison_to comparison.Greater = gnum 4
comparison_to comparison.AtLeast = gnum 5

abbrev comparison_by : ℕ → Comparison
comparison_by zero = comparison.Equal
comparison_by (suc zero) = comparison.NotEqual
comparison_by (suc (suc zero)) = comparison.Less
comparison_by (suc (suc (suc zero))) = comparison.AtMost
comparison_by (suc (suc (suc (suc zero)))) = comparison.Greater
comparison_by _ = comparison.AtLeast

pub comparison_same : (o : Comparison) → comparison_by (num (comparison_to o)) ≡ o
comparison_same comparison.Equal = refl
comparison_same comparison.NotEqual = refl
comparison_same comparison.Less = refl
comparison_same comparison.AtMost = refl
comparison_same comparison.Greater = refl
comparison_same comparison.AtLeast = refl

abbrev pub way_comparison : Way Comparison
way_comparison = record { to = comparison_to; back = λ g. comparison_by (num g); same = comparison_same }

abbrev connective_to : Connective → Gv
connective_to connective.And = gnum 0
connective_to connective.Or = gnum 1

abbrev connective_by : ℕ → Connective
connective_by zero = connective.And
connective_by _ = connective.Or

pub connective_same : (o : Connective) → connective_by (num (connective_to o)) ≡ o
connective_same connective.And = refl
connective_same connective.Or = refl

abbrev pub way_connective : Way Connective
way_connective = record { to = connective_to; back = λ g. connective_by (num g); same = connective_same }
