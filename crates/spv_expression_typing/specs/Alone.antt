-- Names alone, kind by kind.
use Rattle.std.specs.Prelude.{ℕ, Bool, false, Option, Some, None, Err, is_some, nat_eq, if◌then◌else◌}
use Rattle.spv_logic.specs.declared.names.names.Symbol.{Symbol}
use Rattle.spv_tree.specs.declared.syntax.names.Name.{Name}
use Rattle.spv_program.specs.Lists.{same_name}
use Rattle.spv_typing.specs.declared.faults.TypeFault.{TypeFault}
use Rattle.spv_typing.specs.declared.faults.TypeFault.TheVariants.{Count}
use Rattle.spv_typing.specs.Outcomes.{Outcome, undeclared, where_so, wrong}
use Rattle.spv_typing.specs.Known.{Scope, function}
use Rattle.spv_typing.specs.ExpressionWalk.{Reached}

abbrev pub unknown_alone : Scope → ℕ → Name → TypeFault
unknown_alone s line x = if is_some (function s x.symbol) then Count line else undeclared x

-- whether a routine's name is that of the routine in whose body this is
abbrev pub is_own : {H : Type 0} → Option (Symbol × H) → Symbol → Bool
is_own None name = false
is_own (Some own) name = same_name own.0 name

-- a declared symbol has no place in an expression, but so many arguments belong to it
abbrev pub symbol_alone : ℕ → ℕ → Outcome Reached
symbol_alone line count = where_so (nat_eq count 0) (Count line) (Err (wrong line))
