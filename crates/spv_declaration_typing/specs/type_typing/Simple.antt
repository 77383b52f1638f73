-- Lines of the walk over types that do not call it again.
use Rattle.std.specs.Prelude.{ℕ, not, List, [], Option, Some, None, Ok}
use Rattle.std.specs.Int.RustNames.{int_lt}
use Rattle.spv_logic.specs.declared.types.TypeId.{TypeId}
use Rattle.spv_tree.specs.declared.syntax.names.Name.{Name}
use Rattle.spv_tree.specs.declared.syntax.names.Constant.{Constant}
use Rattle.spv_program.specs.declared.types.TypeForm.TheVariants.{Range}
use Rattle.spv_typing.specs.declared.faults.TypeFault.{TypeFault}
use Rattle.spv_typing.specs.Outcomes.{Outcome, after, where_so, each, undeclared, wrong}
use Rattle.spv_typing.specs.Merging.{Built}
use Rattle.spv_typing.specs.Known.{Meaning, meaning}
use Rattle.spv_typing.specs.TypeWalk as spec
use Rattle.spv_declaration_typing.specs.declared.pointer_types.written.Written.{Written}
use Rattle.spv_environments.specs.declared.scopes.Scope.{Scope}
use Rattle.spv_environments.specs.Scopes.{scope_of}
use Rattle.spv_declaration_typing.specs.declared.type_typing.targets.Targets.{Targets}
use Rattle.spv_declaration_typing.specs.declared.type_typing.nested.Index.{Index}
use Rattle.spv_declaration_typing.specs.type_typing.Reading.{is_target, types_of, indices_of}

abbrev pub range_walk : Scope → List Written → ℕ → Constant → Constant → Outcome spec.Reading
range_walk s new line low high =
    after (spec.constant (scope_of s) low) (λ a. after (spec.constant (scope_of s) high) (λ b.
    where_so (not (int_lt b a)) (wrong line) (Ok (spec.adding (types_of s new) (Built (Range a b))))))

abbrev pub no_target : ℕ → Name → Option Meaning → TypeFault
no_target line x None = undeclared x
no_target line x (Some other) = wrong line

abbrev pub pointer_walk : Scope → Targets → List Written → ℕ → Name → Outcome spec.Reading
pointer_walk s t new line x = spec.pointer_named (is_target s.known.now t) (types_of s new) line x (meaning (scope_of s) x.symbol)

abbrev pub nested_walk : Scope → List Written → List Index → TypeId → Outcome spec.Reading
nested_walk s new indices element = spec.nested_if_ranges (types_of s new) (indices_of indices) element

abbrev pub indices_checked : Scope → List Written → List Index → Outcome (List spec.Index)
indices_checked s new indices = each (spec.check_index (types_of s new)) [] (indices_of indices)
