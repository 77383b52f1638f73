-- Names that are free, and what stands last.
use Rattle.std.proofs.Common.{◌≡◌, Bool, true, false, not, List, [], ◌∷◌, ◌++◌, map, Option, Some, None, is_some, option_map, if◌then◌else◌, sym, ap, ◌∙◌, refl}
use Rattle.std.proofs.lemmas.Bool.{false≢true}
use Rattle.std.proofs.lemmas.List.{map-append}
use Rattle.spv_logic.specs.declared.names.names.Symbol.{Symbol}
use Rattle.spv_logic.specs.declared.types.Decl.{Decl}
use Rattle.spv_program.specs.Lists.{found, first_of, same_name}
use Rattle.spv_typing.specs.Known as spec
use Rattle.spv_environments.specs.declared.known.Signature.{Signature}
use Rattle.spv_environments.specs.Symbols.{decl_of, symbols_of}
use Rattle.spv_environments.specs.Scopes.{routines, callables, places, declared_types, declared_names}
use Rattle.spv_environments.proofs.Meanings.{found_first, symbol_first}

none_of : {X : Type 0} (o : Option X) → not (is_some o) ≡ true → o ≡ None
none_of None h = refl
none_of (Some x) h = absurd (false≢true h)

first_none : {X : Type 0} (o p : Option X) → first_of o p ≡ None → o ≡ None
first_none None p h = refl
first_none (Some x) p h = absurd cc

rest_none : {X : Type 0} (o p : Option X) → first_of o p ≡ None → p ≡ None
rest_none None p h = h
rest_none (Some x) p h = absurd cc

map_none : {X Y : Type 0} (f : X → Y) (o : Option X) → option_map f o ≡ None → o ≡ None
map_none f None h = refl
map_none f (Some x) h = absurd cc

-- what stands under a name in front, or what stands behind
found_behind : {X : Type 0} (e : Symbol × X) (xs : List (Symbol × X)) (x : Symbol) → found (e ∷ xs) x ≡ None → found xs x ≡ None
found_behind e xs x h = by_case (same_name e.0 x) h
  where
    by_case : (b : Bool) → (if b then Some e.1 else found xs x) ≡ None → found xs x ≡ None
    by_case true h = absurd cc
    by_case false h = h

-- a free name is in none of the tables
module _ (k : spec.Known) (x : Symbol) (free : spec.is_free k x ≡ true) where
  nowhere : found (spec.program_names k) x ≡ None
  nowhere = none_of (found (spec.program_names k) x) free

  not_declared : found (declared_names k) x ≡ None
  not_declared =
      found_behind (k.start.list, spec.OfList) (declared_names k) x
      (found_behind (k.start.boolean, spec.OfType spec.boolean_type) ((k.start.list, spec.OfList) ∷ declared_names k) x
      (found_behind (k.start.integer, spec.OfType spec.integer_type) ((k.start.boolean, spec.OfType spec.boolean_type) ∷ (k.start.list, spec.OfList) ∷ declared_names k) x nowhere))

  constants_or_types : first_of (option_map spec.OfConstant (found k.program.constants x)) (found (declared_types k) x) ≡ None
  constants_or_types = sym (found_first spec.OfConstant x k.program.constants (declared_types k)) ∙ not_declared

  pub no_constant : found k.program.constants x ≡ None
  no_constant = map_none spec.OfConstant (found k.program.constants x) (first_none _ (found (declared_types k) x) constants_or_types)

  types_or_places : first_of (option_map spec.OfType (found k.program.types x)) (found (places k) x) ≡ None
  types_or_places =
      sym (found_first spec.OfType x k.program.types (places k)) ∙ rest_none (option_map spec.OfConstant (found k.program.constants x)) (found (declared_types k) x) constants_or_types

  pub no_type : found k.program.types x ≡ None
  no_type = map_none spec.OfType (found k.program.types x) (first_none _ (found (places k) x) types_or_places)

  places_or_callables : first_of (option_map spec.OfPlace (found k.program.variables x)) (found (callables k) x) ≡ None
  places_or_callables =
      sym (found_first spec.OfPlace x k.program.variables (callables k)) ∙ rest_none (option_map spec.OfType (found k.program.types x)) (found (places k) x) types_or_places

  pub no_variable : found k.program.variables x ≡ None
  no_variable = map_none spec.OfPlace (found k.program.variables x) (first_none _ (found (callables k) x) places_or_callables)

  pub no_callable : found (callables k) x ≡ None
  no_callable = rest_none (option_map spec.OfPlace (found k.program.variables x)) (found (callables k) x) places_or_callables

  -- nor among the symbols, as the code has them
  pub symbol_is_new : (table : List (Symbol × Signature)) → k.program.symbols ≡ symbols_of table → found table x ≡ None
  symbol_is_new table same =
      map_none (λ s. spec.OfSymbol (decl_of x s)) (found table x)
      (first_none _ (found (routines k) x)
      (sym (symbol_first table (routines k) x)
      ∙ (sym (ap (λ (l : List Decl). found (map (λ d. (d.name, spec.OfSymbol d)) l ++ routines k) x) same) ∙ no_callable)))

pub symbol_last : (table : List (Symbol × Signature)) (x : Symbol) (s : Signature) → symbols_of (table ++ (x, s) ∷ []) ≡ symbols_of table ++ decl_of x s ∷ []
symbol_last table x s = map-append (λ (e : Symbol × Signature). decl_of e.0 e.1) table ((x, s) ∷ [])
