-- Which names a routine may take, and what it has with them.
use Rattle.std.proofs.Common.{◌≡◌, ℤ, ℕ, Bool, ◌&&◌, ◌||◌, not, List, [], ◌∷◌, ◌++◌, map, refl, sym, ap, subst, ◌∙◌}
use Rattle.std.proofs.lemmas.List.{map-append}
use Rattle.spv_logic.specs.declared.names.names.Symbol.{Symbol}
use Rattle.spv_logic.specs.declared.types.TypeId.{TypeId}
use Rattle.spv_program.specs.ordered_map.Entries.{under}
use Rattle.spv_tree.specs.declared.syntax.names.Name.{Name}
use Rattle.spv_program.specs.Lists.{same_name}
use Rattle.spv_typing.specs.declared.faults.TypeFault.{TypeFault}
use Rattle.spv_typing.specs.Known.{KnownNames, is_fixed, Names, OfPlace, named, Known}
use Rattle.spv_typing.specs.Outcomes.{Outcome, each}
use Rattle.spv_typing.specs.DeclarationWalk.{new_name}
use Rattle.spv_environments.specs.Answers.{Stops}
use Rattle.spv_environments.specs.declared.scopes.Own.{Own}
use Rattle.spv_environments.specs.declared.scopes.Own.TheVariants.{Constant, Place}
use Rattle.spv_environments.specs.Scopes.{own_of}
use Rattle.spv_heading_typing.specs.Names.{has, free_by}
use Rattle.spv_heading_typing.proofs.Params.{named_alone}
use Rattle.spv_routine_typing.specs.declared.local_typing.places.Local.{Local}
use Rattle.spv_routine_typing.specs.local_typing.Locals.{free_among, names_of, local_of, with_constant, with_variables}

module _ (start : KnownNames) (routine : Symbol) (listed : List (Symbol × Bool)) (none own : List (Symbol × Own)) where
  pub free_here : none ≡ [] → (x : Symbol) → free_by start routine listed none own x ≡ free_among start routine listed (named own_of own) x
  free_here empty x =
      ap (λ (l : List (Symbol × Own)). not (is_fixed start x || same_name routine x) && not (has l x || (has own x || has listed x))) empty
      ∙ ap (λ b. not (is_fixed start x || same_name routine x) && not (b || has listed x)) (sym (named_alone own x))

  free_same : none ≡ [] → free_by start routine listed none own ≡ free_among start routine listed (named own_of own)
  free_same empty = λ i x. free_here empty x i

  pub locals_read : none ≡ [] → (names : List Name) (o : Outcome (List Symbol)) → each (new_name (free_by start routine listed none own)) [] names ≡ o
      → each (new_name (free_among start routine listed (named own_of own))) [] names ≡ o
  locals_read empty names o h = ap (λ free. each (new_name free) [] names) (sym (free_same empty)) ∙ h

  pub locals_end : none ≡ [] → (names : List Name) (e : TypeFault) → Stops e (each (new_name (free_by start routine listed none own)) [] names)
      → Stops e (each (new_name (free_among start routine listed (named own_of own))) [] names)
  locals_end empty names e h = subst (Stops e) (sym (locals_read empty names _ refl)) h

-- ---- a constant more, and variables more

pub constant_put : (l m : Local) (x : Symbol) (z : ℤ) → m.own ≡ l.own ++ (x, Constant z) ∷ [] → m.variables ≡ l.variables
    → (k : Known) → local_of k m ≡ with_constant (local_of k l) x z
constant_put l m x z own variables k = λ i. record {
  known = k;
  own = (ap (named own_of) own ∙ map-append (λ e. (e.0, own_of e.1)) l.own ((x, Constant z) ∷ [])) i;
  variables = variables i;
}

own_named : {X : Type 0} (names : List (Symbol × X)) (t : TypeId) → named own_of (map (under (Place t)) names) ≡ map (λ x. (x, OfPlace t)) (names_of names)
own_named [] t = refl
own_named (e ∷ names) t = ap (λ (l : Names). (e.0, OfPlace t) ∷ l) (own_named names t)

pairs_named : {X : Type 0} (names : List (Symbol × X)) (t : TypeId) → map {B = Symbol × TypeId} (λ e. (e.0, t)) names ≡ map {B = Symbol × TypeId} (λ x. (x, t)) (names_of names)
pairs_named [] t = refl
pairs_named (e ∷ names) t = ap (λ (l : List (Symbol × TypeId)). (e.0, t) ∷ l) (pairs_named names t)

pub variables_put : (l m : Local) (names : List (Symbol × ℕ)) (t : TypeId) → m.own ≡ l.own ++ map (under (Place t)) names → m.variables ≡ l.variables ++ map {B = Symbol × TypeId} (λ e. (e.0, t)) names
    → (k : Known) → local_of k m ≡ with_variables (local_of k l) (names_of names) t
variables_put l m names t own variables k = λ i. record {
  known = k;
  own = (ap (named own_of) own ∙ (map-append (λ e. (e.0, own_of e.1)) l.own (map (under (Place t)) names) ∙ ap (λ (n : Names). named own_of l.own ++ n) (own_named names t))) i;
  variables = (variables ∙ ap (λ (n : List (Symbol × TypeId)). l.variables ++ n) (pairs_named names t)) i;
}
