-- Fields of one type: their names, then the type.
use Rattle.std.proofs.Common.{◌≡◌, List, [], ◌++◌, map, Ok, sym, ap, ◌∙◌, subst}
use Rattle.spv_logic.specs.declared.names.names.Symbol.{Symbol}
use Rattle.spv_logic.specs.declared.types.TypeId.{TypeId}
use Rattle.spv_tree.specs.declared.syntax.lists.Several.{Several}
use Rattle.spv_tree.specs.declared.syntax.names.Name.{Name}
use Rattle.spv_tree.specs.syntax.Types.{TypeDenoter}
use Rattle.spv_program.specs.declared.types.TypeField.{TypeField}
use Rattle.spv_typing.specs.declared.faults.TypeFault.{TypeFault}
use Rattle.spv_typing.specs.Outcomes.{Outcome, after, each}
use Rattle.spv_typing.specs.TypeWalk as spec
use Rattle.spv_environments.specs.Answers.{Stops}
use Rattle.spv_environments.specs.declared.scopes.Scope.{Scope}
use Rattle.spv_declaration_typing.specs.declared.pointer_types.written.Written.{Written}
use Rattle.spv_declaration_typing.specs.declared.type_typing.targets.Targets.{Targets}
use Rattle.spv_declaration_typing.specs.type_typing.Reading.{types_of, read_as, denoted, fields_of, fields_so_far}
use Rattle.spv_declaration_typing.specs.type_typing.Walks.{names_walk}
use Rattle.spv_declaration_typing.proofs.type_typing.Each.{stops_after}

module _ (s : Scope) (t : Targets) (new : List Written) (entries : List (Symbol × TypeId)) (names : Several Name) (of : TypeDenoter) (all : List Symbol)
    (found : each (spec.new_field (fields_of entries)) [] (spec.all_names names) ≡ Ok all) where
  opened : names_walk s t new entries names of ≡ after (denoted s t new of) (λ r. Ok (spec.with_fields (fields_so_far s new entries) all r.type r.written))
  opened =
      ap (λ (o : Outcome (List Symbol)). after o (λ names. after (denoted s t new of) (λ r. Ok (spec.with_fields (fields_so_far s new entries) names r.type r.written)))) found

  pub names_stopped : (e : TypeFault) → Stops e (denoted s t new of) → Stops e (names_walk s t new entries names of)
  names_stopped e h = subst (Stops e) (sym opened) (stops_after e (denoted s t new of) (λ r. Ok (spec.with_fields (fields_so_far s new entries) all r.type r.written)) h)

  pub names_done : (grown : List Written) (u : TypeId) (now : List (Symbol × TypeId)) → denoted s t new of ≡ Ok (read_as s grown u)
      → fields_of now ≡ fields_of entries ++ map (λ x. record { name = x; of = u }) all → names_walk s t new entries names of ≡ Ok (fields_so_far s grown now)
  names_done grown u now h is =
      opened ∙ (ap (λ (o : Outcome spec.Reading). after o (λ r. Ok (spec.with_fields (fields_so_far s new entries) all r.type r.written))) h
      ∙ ap (λ (fs : List TypeField). let whole : spec.Fields = record { written = types_of s grown; fields = fs } in let o : Outcome spec.Fields = Ok whole in o) (sym is))
