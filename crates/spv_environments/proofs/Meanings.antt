-- Looking a name up in one list of names behind the other.
use Rattle.std.proofs.Common.{◌≡◌, ℕ, ℤ, Bool, true, false, cond, List, [], ◌∷◌, ◌++◌, map, Option, Some, None, refl, ap, ◌∙◌, option_map}
use Rattle.std.proofs.lemmas.Bool.{eqb-true}
use Rattle.spv_logic.specs.declared.names.names.Symbol.{Symbol}
use Rattle.spv_logic.specs.declared.types.TypeId.{TypeId}
use Rattle.spv_logic.specs.declared.types.Decl.{Decl}
use Rattle.spv_program.specs.Lists.{found, same_name, first_of}
use Rattle.spv_typing.specs.Known as spec
use Rattle.spv_environments.specs.declared.known.Signature.{Signature}
use Rattle.spv_environments.specs.declared.routines.Heading.{Heading}
use Rattle.spv_environments.specs.Symbols.{decl_of, symbols_of}
use Rattle.spv_environments.specs.Views.{heading_of, headings_of}
use Rattle.spv_environments.specs.declared.scopes.Own.{Own}
use Rattle.spv_environments.specs.Scopes.{own_of, routines, callables, places, declared_types, declared_names}

module _ {X Y : Type 0} (f : X → Y) (name : Symbol) where
  -- what stands under a name in front, or what stands behind
  pub found_first : (xs : List (Symbol × X)) (ys : List (Symbol × Y)) → found (map (λ e. (e.0, f e.1)) xs ++ ys) name ≡ first_of (option_map f (found xs name)) (found ys name)
  found_first [] ys = refl
  found_first (e ∷ xs) ys = by_case (same_name e.0 name) (found_first xs ys)
    where
      by_case : (b : Bool) → found (map (λ e. (e.0, f e.1)) xs ++ ys) name ≡ first_of (option_map f (found xs name)) (found ys name)
          → cond b (Some (f e.1)) (found (map (λ e. (e.0, f e.1)) xs ++ ys) name) ≡ first_of (option_map f (cond b (Some e.1) (found xs name))) (found ys name)
      by_case true later = refl
      by_case false later = later

module _ {X Y : Type 0} (f : Symbol → X → Y) (name : Symbol) where
  -- the same where what stands under a name has the name in it
  pub found_named : (xs : List (Symbol × X)) (ys : List (Symbol × Y)) → found (map (λ e. (e.0, f e.0 e.1)) xs ++ ys) name ≡ first_of (option_map (f name) (found xs name)) (found ys name)
  found_named [] ys = refl
  found_named (e ∷ xs) ys = by_case (same_name e.0 name) refl (found_named xs ys)
    where
      by_case : (b : Bool) → same_name e.0 name ≡ b → found (map (λ e. (e.0, f e.0 e.1)) xs ++ ys) name ≡ first_of (option_map (f name) (found xs name)) (found ys name)
          → cond b (Some (f e.0 e.1)) (found (map (λ e. (e.0, f e.0 e.1)) xs ++ ys) name) ≡ first_of (option_map (f name) (cond b (Some e.1) (found xs name))) (found ys name)
      by_case true same later = ap (λ (n : ℕ). Some (f (record { 0 = n }) e.1)) (eqb-true e.0.0 name.0 same)
      by_case false same later = later

-- ---- what a name stands for, kind by kind

module _ (k : spec.Known) (x : Symbol) where
  pub constant_found : (z : ℤ) → found k.program.constants x ≡ Some z → found (declared_names k) x ≡ Some (spec.OfConstant z)
  constant_found z h = found_first spec.OfConstant x k.program.constants (declared_types k) ∙ ap (λ o. first_of (option_map spec.OfConstant o) (found (declared_types k) x)) h

  pub constant_missing : found k.program.constants x ≡ None → found (declared_names k) x ≡ found (declared_types k) x
  constant_missing h = found_first spec.OfConstant x k.program.constants (declared_types k) ∙ ap (λ o. first_of (option_map spec.OfConstant o) (found (declared_types k) x)) h

  pub type_found : (t : TypeId) → found k.program.types x ≡ Some t → found (declared_types k) x ≡ Some (spec.OfType t)
  type_found t h = found_first spec.OfType x k.program.types (places k) ∙ ap (λ o. first_of (option_map spec.OfType o) (found (places k) x)) h

  pub type_missing : found k.program.types x ≡ None → found (declared_types k) x ≡ found (places k) x
  type_missing h = found_first spec.OfType x k.program.types (places k) ∙ ap (λ o. first_of (option_map spec.OfType o) (found (places k) x)) h

  pub place_found : (t : TypeId) → found k.program.variables x ≡ Some t → found (places k) x ≡ Some (spec.OfPlace t)
  place_found t h = found_first spec.OfPlace x k.program.variables (callables k) ∙ ap (λ o. first_of (option_map spec.OfPlace o) (found (callables k) x)) h

  pub place_missing : found k.program.variables x ≡ None → found (places k) x ≡ found (callables k) x
  place_missing h = found_first spec.OfPlace x k.program.variables (callables k) ∙ ap (λ o. first_of (option_map spec.OfPlace o) (found (callables k) x)) h

-- declared symbols and routines, which have their names in them
pub symbol_first : (table : List (Symbol × Signature)) (ys : spec.Names) (x : Symbol)
    → found (map (λ d. (d.name, spec.OfSymbol d)) (symbols_of table) ++ ys) x ≡ first_of (option_map (λ s. spec.OfSymbol (decl_of x s)) (found table x)) (found ys x)
symbol_first table ys x =
    ap (λ (l : spec.Names). found (l ++ ys) x) (map-map table) ∙ found_named (λ n s. spec.OfSymbol (decl_of n s)) x table ys
  where
    entry : Symbol × Signature → Symbol × spec.Meaning
    entry e = (e.0, spec.OfSymbol (decl_of e.0 e.1))

    declared : Decl → Symbol × spec.Meaning
    declared d = (d.name, spec.OfSymbol d)

    map-map : (table : List (Symbol × Signature)) → map declared (symbols_of table) ≡ map entry table
    map-map [] = refl
    map-map (e ∷ table) = ap (λ (l : spec.Names). entry e ∷ l) (map-map table)

pub routine_first : (table : List (Symbol × Heading)) (x : Symbol)
    → found (map (λ h. (h.name, spec.OfRoutine h)) (headings_of table)) x ≡ option_map (λ h. spec.OfRoutine (heading_of x h)) (found table x)
routine_first [] x = refl
routine_first (e ∷ table) x = by_case (same_name e.0 x) refl (routine_first table x)
  where
    by_case : (b : Bool) → same_name e.0 x ≡ b → found (map (λ h. (h.name, spec.OfRoutine h)) (headings_of table)) x ≡ option_map (λ h. spec.OfRoutine (heading_of x h)) (found table x)
        → cond b (Some (spec.OfRoutine (heading_of e.0 e.1))) (found (map (λ h. (h.name, spec.OfRoutine h)) (headings_of table)) x) ≡ option_map (λ h. spec.OfRoutine (heading_of x h)) (cond b (Some e.1) (found table x))
    by_case true same later = ap (λ (n : ℕ). Some (spec.OfRoutine (heading_of (record { 0 = n }) e.1))) (eqb-true e.0.0 x.0 same)
    by_case false same later = later

module _ (k : spec.Known) (x : Symbol) where
  pub symbol_found : (table : List (Symbol × Signature)) (s : Signature) → k.program.symbols ≡ symbols_of table → found table x ≡ Some s
      → found (callables k) x ≡ Some (spec.OfSymbol (decl_of x s))
  symbol_found table s same h =
      ap (λ l. found (map (λ d. (d.name, spec.OfSymbol d)) l ++ routines k) x) same ∙ symbol_first table (routines k) x
      ∙ ap (λ o. first_of (option_map (λ s. spec.OfSymbol (decl_of x s)) o) (found (routines k) x)) h

  pub symbol_missing : (table : List (Symbol × Signature)) → k.program.symbols ≡ symbols_of table → found table x ≡ None
      → found (callables k) x ≡ found (routines k) x
  symbol_missing table same h =
      ap (λ l. found (map (λ d. (d.name, spec.OfSymbol d)) l ++ routines k) x) same ∙ symbol_first table (routines k) x
      ∙ ap (λ o. first_of (option_map (λ s. spec.OfSymbol (decl_of x s)) o) (found (routines k) x)) h

  routine_looked_up : (table : List (Symbol × Heading)) (o : Option Heading) → k.headings ≡ headings_of table → found table x ≡ o
      → found (routines k) x ≡ option_map (λ h. spec.OfRoutine (heading_of x h)) o
  routine_looked_up table o same h =
      ap (λ l. found (map (λ h. (h.name, spec.OfRoutine h)) l) x) same ∙ routine_first table x
      ∙ ap (option_map (λ h. spec.OfRoutine (heading_of x h))) h

  pub routine_found : (table : List (Symbol × Heading)) (h : Heading) → k.headings ≡ headings_of table → found table x ≡ Some h
      → found (routines k) x ≡ Some (spec.OfRoutine (heading_of x h))
  routine_found table h same e = routine_looked_up table (Some h) same e

  pub routine_missing : (table : List (Symbol × Heading)) → k.headings ≡ headings_of table → found table x ≡ None → found (routines k) x ≡ None
  routine_missing table same e = routine_looked_up table None same e

-- ---- names of a routine

own_looked_up : (table : List (Symbol × Own)) (x : Symbol) → found (spec.named own_of table) x ≡ option_map own_of (found table x)
own_looked_up [] x = refl
own_looked_up (e ∷ table) x = by_case (same_name e.0 x) (own_looked_up table x)
  where
    by_case : (b : Bool) → found (spec.named own_of table) x ≡ option_map own_of (found table x)
        → cond b (Some (own_of e.1)) (found (spec.named own_of table) x) ≡ option_map own_of (cond b (Some e.1) (found table x))
    by_case true later = refl
    by_case false later = later

pub own_found : (table : List (Symbol × Own)) (x : Symbol) (o : Own) → found table x ≡ Some o → found (spec.named own_of table) x ≡ Some (own_of o)
own_found table x o e = own_looked_up table x ∙ ap (option_map own_of) e

pub own_missing : (table : List (Symbol × Own)) (x : Symbol) → found table x ≡ None → found (spec.named own_of table) x ≡ None
own_missing table x e = own_looked_up table x ∙ ap (option_map own_of) e

pub parameter_found : (table : List (Symbol × Own)) (names : spec.Names) (x : Symbol) (o : Own)
    → found table x ≡ Some o → found (spec.named own_of table ++ names) x ≡ Some (own_of o)
parameter_found table names x o e = found_first own_of x table names ∙ ap (λ p. first_of (option_map own_of p) (found names x)) e

pub parameter_missing : (table : List (Symbol × Own)) (names : spec.Names) (x : Symbol)
    → found table x ≡ None → found (spec.named own_of table ++ names) x ≡ found names x
parameter_missing table names x e = found_first own_of x table names ∙ ap (λ p. first_of (option_map own_of p) (found names x)) e
