-- What the code's scopes and meanings are in the definition of the walk.
use Rattle.std.specs.Prelude.{[], ◌∷◌, ◌++◌, map, Option, Some, None, option_map}
use Rattle.spv_logic.specs.declared.names.names.Symbol.{Symbol}
use Rattle.spv_logic.specs.declared.types.TypeId.{TypeId}
use Rattle.spv_typing.specs.Known as spec
use Rattle.spv_environments.specs.declared.scopes.Own.{Own}
use Rattle.spv_environments.specs.declared.scopes.Own.TheVariants as own
use Rattle.spv_environments.specs.declared.scopes.Meaning.{Meaning}
use Rattle.spv_environments.specs.declared.scopes.Meaning.TheVariants as meaning
use Rattle.spv_environments.specs.declared.scopes.Scope.{Scope}
use Rattle.spv_environments.specs.Views.{heading_of}
use Rattle.spv_environments.specs.Symbols.{decl_of}

abbrev pub own_of : Own → spec.Meaning
own_of (own.Constant z) = spec.OfConstant z
own_of (own.Place t) = spec.OfPlace t
own_of (own.Start s) = spec.OfStart s

abbrev pub meaning_of : Meaning → spec.Meaning
meaning_of (meaning.Type t) = spec.OfType t
meaning_of meaning.List = spec.OfList
meaning_of (meaning.Constant z) = spec.OfConstant z
meaning_of (meaning.Place t) = spec.OfPlace t
meaning_of (meaning.Start s) = spec.OfStart s
meaning_of (meaning.Declared name signature) = spec.OfSymbol (decl_of name signature.now)
meaning_of (meaning.Routine name heading) = spec.OfRoutine (heading_of name heading.now)

abbrev pub result_of : Option (Symbol × TypeId) → spec.Names
result_of None = []
result_of (Some entry) = (entry.0, spec.OfPlace entry.1) ∷ []

abbrev pub scope_of : Scope → spec.Scope
scope_of s = record {
  known = s.known.now;
  own = spec.named own_of s.parameters.now ++ (result_of s.result ++ spec.named own_of s.own.now);
  routine = option_map (λ r. heading_of r.0 r.1.now) s.routine;
}

-- ---- the names of the program's scope, from the last kind on

abbrev pub routines : spec.Known → spec.Names
routines k = map (λ h. (h.name, spec.OfRoutine h)) k.headings

abbrev pub callables : spec.Known → spec.Names
callables k = map (λ d. (d.name, spec.OfSymbol d)) k.program.symbols ++ routines k

abbrev pub places : spec.Known → spec.Names
places k = spec.named spec.OfPlace k.program.variables ++ callables k

abbrev pub declared_types : spec.Known → spec.Names
declared_types k = spec.named spec.OfType k.program.types ++ places k

abbrev pub declared_names : spec.Known → spec.Names
declared_names k = spec.named spec.OfConstant k.program.constants ++ declared_types k
