-- Headings that come and go.
use Rattle.std.proofs.Common.{◌≡◌, Bool, true, false, cond, not, List, [], ◌∷◌, ◌++◌, map, Option, Some, None, is_some, refl, sym, ap, ◌∙◌, option_map}
use Rattle.std.proofs.lemmas.Bool.{false≢true}
use Rattle.std.proofs.lemmas.List.{map-append}
use Rattle.std.proofs.lemmas.Option.{none-some}
use Rattle.spv_logic.specs.declared.names.names.Symbol.{Symbol}
use Rattle.spv_program.specs.Lists.{found, same_name}
use Rattle.spv_typing.specs.Known as spec
use Rattle.spv_environments.specs.declared.routines.Heading.{Heading}
use Rattle.spv_environments.specs.Views.{heading_of, headings_of}
use Rattle.spv_environments.specs.Scopes.{routines, callables, places, declared_types, declared_names}
use Rattle.spv_environments.proofs.Meanings.{routine_first}

-- what two lists one behind the other do not have, the second does not have
pub none_behind : {X : Type 0} (xs ys : List (Symbol × X)) (name : Symbol) → found (xs ++ ys) name ≡ None → found ys name ≡ None
none_behind [] ys name h = h
none_behind (x ∷ xs) ys name h = by_case (same_name x.0 name) h (none_behind xs ys name)
  where
    by_case : (b : Bool) → cond b (Some x.1) (found (xs ++ ys) name) ≡ None → (found (xs ++ ys) name ≡ None → found ys name ≡ None) → found ys name ≡ None
    by_case true e more = absurd (none-some _ (sym e))
    by_case false e more = more e

is_none : {X : Type 0} (o : Option X) → not (is_some o) ≡ true → o ≡ None
is_none None h = refl
is_none (Some x) h = absurd (false≢true h)

none_mapped : {X Y : Type 0} (f : X → Y) (o : Option X) → option_map f o ≡ None → o ≡ None
none_mapped f None h = refl
none_mapped f (Some x) h = absurd (none-some _ (sym h))

pub routine_is_new : (k : spec.Known) (table : List (Symbol × Heading)) (x : Symbol) → k.headings ≡ headings_of table → spec.is_free k x ≡ true → found table x ≡ None
routine_is_new k table x same free =
    none_mapped (λ h. spec.OfRoutine (heading_of x h)) (found table x)
    (sym (routine_first table x) ∙ (ap (λ l. found (map (λ h. (h.name, spec.OfRoutine h)) l) x) (sym same) ∙ in_last))
  where
    in_last : found (routines k) x ≡ None
    in_last =
        none_behind (map (λ d. (d.name, spec.OfSymbol d)) k.program.symbols) (routines k) x
        (none_behind (spec.named spec.OfPlace k.program.variables) (callables k) x
        (none_behind (spec.named spec.OfType k.program.types) (places k) x
        (none_behind (spec.named spec.OfConstant k.program.constants) (declared_types k) x
        (none_behind (spec.names_from_start k.start) (declared_names k) x (is_none (found (spec.program_names k) x) free)))))

pub heading_last : (table new : List (Symbol × Heading)) (x : Symbol) (h : Heading) → new ≡ table ++ (x, h) ∷ [] → headings_of new ≡ headings_of table ++ heading_of x h ∷ []
heading_last table new x h e = ap headings_of e ∙ map-append (λ p. heading_of p.0 p.1) table ((x, h) ∷ [])
