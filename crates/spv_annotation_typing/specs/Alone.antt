-- Names alone, kind by kind.
use Rattle.std.specs.Prelude.{ℕ, length, Ok, is_some, nat_eq, if◌then◌else◌}
use Rattle.spv_logic.specs.declared.types.Decl.{Decl}
use Rattle.spv_tree.specs.declared.syntax.names.Name.{Name}
use Rattle.spv_program.specs.Formulas.{Applied, no_formulas}
use Rattle.spv_typing.specs.declared.faults.TypeFault.{TypeFault}
use Rattle.spv_typing.specs.declared.faults.TypeFault.TheVariants.{Count}
use Rattle.spv_typing.specs.Outcomes.{Outcome, where_so, undeclared}
use Rattle.spv_typing.specs.Known.{Scope, function}
use Rattle.spv_typing.specs.FormulaWalk.{Sorted, with_sort}

abbrev pub symbol_alone : ℕ → Decl → Outcome Sorted
symbol_alone line d = where_so (nat_eq (length d.args) 0) (Count line) (Ok (with_sort (Applied d.name no_formulas) d.result))

abbrev pub unknown_alone : Scope → ℕ → Name → TypeFault
unknown_alone s line x = if is_some (function s x.symbol) then Count line else undeclared x
