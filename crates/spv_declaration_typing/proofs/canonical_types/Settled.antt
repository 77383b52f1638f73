-- A type that was read, put among those of the program.
use Rattle.std.proofs.Common.{◌≡◌, List, [], ◌++◌, map, Ok, sym, ap, ◌∙◌, subst}
use Rattle.std.proofs.lemmas.List.{append-nil}
use Rattle.spv_logic.specs.declared.types.TypeId.{TypeId}
use Rattle.spv_tree.specs.syntax.Types.{TypeDenoter}
use Rattle.spv_typing.specs.declared.faults.TypeFault.{TypeFault}
use Rattle.spv_typing.specs.Outcomes.{Outcome, after}
use Rattle.spv_typing.specs.Merging.{Written as WrittenText, Built, merged}
use Rattle.spv_typing.specs.TypeWalk as types
use Rattle.spv_typing.specs.DeclarationWalk as spec
use Rattle.spv_environments.specs.Answers.{Stops}
use Rattle.spv_environments.specs.declared.scopes.Scope.{Scope}
use Rattle.spv_environments.specs.Scopes.{scope_of}
use Rattle.spv_declaration_typing.specs.declared.pointer_types.written.Written.{Written}
use Rattle.spv_declaration_typing.specs.pointer_types.Views.{all_written}
use Rattle.spv_declaration_typing.specs.declared.type_typing.targets.Targets.TheVariants as targets
use Rattle.spv_declaration_typing.specs.type_typing.Reading.{read_as, denoted}
use Rattle.spv_declaration_typing.proofs.type_typing.Each.{stops_after}
use Rattle.spv_declaration_typing.specs.canonical_types.Types.{types_with}

module _ (s : Scope) (tree : TypeDenoter) where
  abbrev settling : types.Reading → Outcome spec.NewType
  settling r = let m = merged s.known.now.program.types r.written in Ok (record { forms = m.forms; type = m.new r.type })

  opened : (start : List Written) → start ≡ [] → spec.type_walk (scope_of s) tree ≡ after (denoted s targets.Declared start tree) settling
  opened start none =
      ap (λ (ws : List WrittenText). after (types.denoted (scope_of s) (spec.is_type_name s.known.now.program) ws tree) settling)
      (sym (append-nil (map Built s.known.now.program.forms)) ∙ ap (λ (ws : List Written). map Built s.known.now.program.forms ++ all_written ws) (sym none))

  pub read_settled : (start grown : List Written) (t : TypeId) → start ≡ [] → denoted s targets.Declared start tree ≡ Ok (read_as s grown t)
      → spec.type_walk (scope_of s) tree
      ≡ Ok (record { forms = (merged s.known.now.program.types (types_with s.known.now grown)).forms; type = (merged s.known.now.program.types (types_with s.known.now grown)).new t })
  read_settled start grown t none h = opened start none ∙ ap (λ (o : Outcome types.Reading). after o settling) h

  pub read_stops : (start : List Written) (e : TypeFault) → start ≡ [] → Stops e (denoted s targets.Declared start tree) → Stops e (spec.type_walk (scope_of s) tree)
  read_stops start e none h = subst (Stops e) (sym (opened start none)) (stops_after e (denoted s targets.Declared start tree) settling h)
