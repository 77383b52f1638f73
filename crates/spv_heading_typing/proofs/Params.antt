-- Parameters, group by group.
use Rattle.std.proofs.Common.{◌≡◌, ℕ, Bool, true, false, cond, ◌&&◌, ◌||◌, not, List, [], ◌∷◌, ◌++◌, map, Option, Some, None, Ok, Err, is_some, refl, sym, ap, subst, ◌∙◌, option_map}
use Rattle.std.proofs.lemmas.Bool.{false≢true, true≢false}
use Rattle.std.proofs.lemmas.List.{map-append, append-nil}
use Rattle.std.proofs.lemmas.List.Folds.{list_any-append}
use Rattle.std.specs.List.{list_any}
use Rattle.spv_logic.specs.declared.names.names.Symbol.{Symbol}
use Rattle.spv_logic.specs.declared.types.TypeId.{TypeId}
use Rattle.spv_logic.proofs.list.Tests.{left_true, right_true, left_false, right_false, both_false}
use Rattle.spv_program.specs.ordered_map.Entries.{under}
use Rattle.spv_tree.specs.declared.syntax.names.Name.{Name}
use Rattle.spv_tree.specs.declared.syntax.lists.Several.{Several}
use Rattle.spv_tree.specs.declared.syntax.routines.Group.{Group}
use Rattle.spv_tree.specs.declared.syntax.routines.GroupForm.{GroupForm}
use Rattle.spv_tree.specs.declared.syntax.routines.GroupForm.TheVariants.{Variables}
use Rattle.spv_program.specs.Lists.{found, first_of, same_name}
use Rattle.spv_program.specs.Programs.{GlobalItem}
use Rattle.spv_program.specs.typed.ProgramViews.{formal_of}
use Rattle.spv_typing.specs.Known as known
use Rattle.spv_typing.specs.declared.faults.TypeFault.{TypeFault}
use Rattle.spv_typing.specs.Outcomes.{Outcome, after, where_so, each, twice}
use Rattle.spv_typing.specs.DeclarationWalk.{new_name}
use Rattle.spv_typing.specs.RoutineWalk as spec
use Rattle.spv_environments.specs.declared.scopes.Own.{Own}
use Rattle.spv_environments.specs.declared.scopes.Own.TheVariants.{Place}
use Rattle.spv_environments.specs.Answers.{Stops}
use Rattle.spv_environments.specs.Scopes.{own_of}
use Rattle.spv_environments.proofs.Meanings.{found_first}
use Rattle.spv_heading_typing.specs.declared.parameters.Parameters.{Parameters}
use Rattle.spv_heading_typing.specs.Names.{symbols_of, has, free_by}
use Rattle.spv_heading_typing.specs.Parameters.{parameters_of, formals_named, group_of, IsPlaces, variables_walk}

-- ---- which names are free

some_mapped : {X Y : Type 0} (f : X → Y) (o : Option X) → is_some (option_map f o) ≡ is_some o
some_mapped f None = refl
some_mapped f (Some x) = refl

some_first : {X : Type 0} (o p : Option X) → is_some (first_of o p) ≡ (is_some o || is_some p)
some_first (Some x) p = refl
some_first None p = refl

named_in : (table : List (Symbol × Own)) (names : known.Names) (x : Symbol)
    → known.is_named (known.named own_of table ++ names) x ≡ (has table x || known.is_named names x)
named_in table names x =
    ap is_some (found_first own_of x table names)
    ∙ (some_first (option_map own_of (found table x)) (found names x) ∙ ap (λ b. b || is_some (found names x)) (some_mapped own_of (found table x)))

pub named_alone : (table : List (Symbol × Own)) (x : Symbol) → known.is_named (known.named own_of table) x ≡ has table x
named_alone table x =
    ap (λ (l : known.Names). known.is_named l x) (sym (append-nil (known.named own_of table))) ∙ (named_in table [] x ∙ or_false (has table x))
  where
    or_false : (b : Bool) → (b || false) ≡ b
    or_false true = refl
    or_false false = refl

regrouped : (a b c d e : Bool) → (not (a || b) && not (c || (d || e))) ≡ (not a && (not b && (not (c || d) && not e)))
regrouped true b c d e = refl
regrouped false true c d e = refl
regrouped false false true d e = refl
regrouped false false false d e = not_or d e
  where
    not_or : (d e : Bool) → not (d || e) ≡ (not d && not e)
    not_or true e = refl
    not_or false e = refl

module _ (start : known.KnownNames) (routine : Symbol) (listed : List (Symbol × Bool)) (parameters own : List (Symbol × Own)) where
  module _ (globals : List GlobalItem) (same : (x : Symbol) → has listed x ≡ spec.is_listed globals x) where
    pub free_at : (x : Symbol) → free_by start routine listed parameters own x ≡ spec.is_free_in start routine globals (known.named own_of parameters ++ known.named own_of own) x
    free_at x =
        regrouped (known.is_fixed start x) (same_name routine x) (has parameters x) (has own x) (has listed x)
        ∙ ap (λ b. not (known.is_fixed start x) && (not (same_name routine x) && (not b && not (has listed x))))
        (sym (named_in parameters (known.named own_of own) x ∙ ap (λ b. has parameters x || b) (named_alone own x)))
        ∙ ap (λ b. not (known.is_fixed start x) && (not (same_name routine x) && (not (known.is_named (known.named own_of parameters ++ known.named own_of own) x) && not b)))
        (same x)

    pub free_is : free_by start routine listed parameters own ≡ spec.is_free_in start routine globals (known.named own_of parameters ++ known.named own_of own)
    free_is = λ i x. free_at x i

    pub names_read : (names : List Name) (o : Outcome (List Symbol)) → each (new_name (free_by start routine listed parameters own)) [] names ≡ o
        → each (new_name (spec.is_free_in start routine globals (known.named own_of parameters ++ known.named own_of own))) [] names ≡ o
    names_read names o h = ap (λ free. each (new_name free) [] names) (sym free_is) ∙ h

  -- the same where the routine has no GLOBAL list yet
  pub group_names_read : (names : List Name) (o : Outcome (List Symbol)) → listed ≡ [] → parameters ≡ []
      → each (new_name (free_by start routine listed parameters own)) [] names ≡ o → each (new_name (spec.is_free_in start routine [] (known.named own_of own))) [] names ≡ o
  group_names_read names o unlisted none h =
      subst (λ (l : List (Symbol × Own)). each (new_name (spec.is_free_in start routine [] (known.named own_of l ++ known.named own_of own))) [] names ≡ o) none
      (names_read [] (λ x. ap (λ (l : List (Symbol × Bool)). has l x) unlisted) names o h)

  pub group_names_stop : (names : List Name) (e : TypeFault) → listed ≡ [] → parameters ≡ []
      → Stops e (each (new_name (free_by start routine listed parameters own)) [] names) → Stops e (each (new_name (spec.is_free_in start routine [] (known.named own_of own))) [] names)
  group_names_stop names e unlisted none h = subst (Stops e) (sym (group_names_read names _ unlisted none refl)) h

-- ---- names that were read are free

abbrev is_fault : {A : Type 0} → Outcome A → Bool
is_fault (Ok x) = false
is_fault (Err e) = true

no_fault : {A : Type 0} {e : TypeFault} {x : A} → Err e ≡ Ok x → ⊥
no_fault h = true≢false (ap is_fault h)

middle_false : (a b c : Bool) → (a || (b || c)) ≡ false → b ≡ false
middle_false a b c h = left_false b c (right_false a (b || c) h)

not_true : (b : Bool) → not b ≡ true → b ≡ false
not_true false h = refl
not_true true h = absurd (false≢true h)

any_named : {X : Type 0} (test : Symbol → Bool) (names : List (Symbol × X)) → list_any test (symbols_of names) ≡ list_any (λ e. test e.0) names
any_named test [] = refl
any_named test (e ∷ names) = ap (λ b. test e.0 || b) (any_named test names)

abbrev names_or : List Symbol → Outcome (List Symbol) → List Symbol
names_or other (Ok names) = names
names_or other (Err e) = other

all_free : (free : Symbol → Bool) (taken : Symbol → Bool) (done out : List Symbol) (names : List Name) → ((x : Symbol) → free x ≡ true → taken x ≡ false)
    → list_any taken done ≡ false → each (new_name free) done names ≡ Ok out → list_any taken out ≡ false
all_free free taken done out [] h none e = subst (λ (o : Outcome (List Symbol)). list_any taken (names_or done o) ≡ false) e none
all_free free taken done out (x ∷ names) h none e =
    by_case (free x.symbol && not (list_any (same_name x.symbol) done)) refl e (λ d. all_free free taken d out names h)
  where
    by_case : (b : Bool) → (free x.symbol && not (list_any (same_name x.symbol) done)) ≡ b
        → after (where_so b (twice x) (Ok (done ++ x.symbol ∷ []))) (λ next. each (new_name free) next names) ≡ Ok out
        → ((d : List Symbol) → list_any taken d ≡ false → each (new_name free) d names ≡ Ok out → list_any taken out ≡ false) → list_any taken out ≡ false
    by_case true is f more =
        more (done ++ x.symbol ∷ [])
        (list_any-append taken done (x.symbol ∷ []) ∙ both_false _ _ none (both_false (taken x.symbol) false (h x.symbol (left_true (free x.symbol) _ is)) refl)) f
    by_case false is f more = absurd (no_fault f)

-- none of the names that were read has the routine already
pub names_are_new : (start : known.KnownNames) (routine : Symbol) (listed : List (Symbol × Bool)) (parameters own : List (Symbol × Own)) (names : List Name) (new : List (Symbol × ℕ))
    → each (new_name (free_by start routine listed parameters own)) [] names ≡ Ok (symbols_of new) → list_any (λ e. has own e.0) new ≡ false
names_are_new start routine listed parameters own names new h =
    sym (any_named (has own) new) ∙ all_free (free_by start routine listed parameters own) (has own) [] (symbols_of new) names not_own refl h
  where
    not_own : (x : Symbol) → free_by start routine listed parameters own x ≡ true → has own x ≡ false
    not_own x free =
        middle_false (has parameters x) (has own x) (has listed x) (not_true _ (right_true (not (known.is_fixed start x || same_name routine x)) _ free))

-- a name that is free is none of the second table's
pub free_is_new : (start : known.KnownNames) (routine : Symbol) (listed : List (Symbol × Bool)) (parameters own : List (Symbol × Own)) (x : Symbol)
    → free_by start routine listed parameters own x ≡ true → found own x ≡ None
free_is_new start routine listed parameters own x free =
    none_there (found own x)
    (middle_false (has parameters x) (has own x) (has listed x) (not_true _ (right_true (not (known.is_fixed start x || same_name routine x)) _ free)))
  where
    none_there : {X : Type 0} (o : Option X) → is_some o ≡ false → o ≡ None
    none_there None h = refl
    none_there (Some y) h = absurd (true≢false h)

pub free_is_apart : (start : known.KnownNames) (routine : Symbol) (listed : List (Symbol × Bool)) (parameters own : List (Symbol × Own)) (x : Symbol)
    → free_by start routine listed parameters own x ≡ true → has parameters x ≡ false
free_is_apart start routine listed parameters own x free =
    left_false (has parameters x) _ (not_true _ (right_true (not (known.is_fixed start x || same_name routine x)) _ free))

-- ---- a further group

module _ (p q : Parameters) (names : List (Symbol × ℕ)) (of : TypeId) (by_place : Bool) (line : ℕ)
    (formals : q.formals ≡ p.formals ++ formals_named names of by_place line) (own : q.own ≡ p.own ++ map (under (Place of)) names) where
  formals_are : map formal_of q.formals ≡ map formal_of p.formals ++ map (λ x. record { name = x; of = of; by_place = by_place; line = line }) (symbols_of names)
  formals_are = ap (map formal_of) formals ∙ (map-append formal_of p.formals (formals_named names of by_place line) ∙ ap (λ l. map formal_of p.formals ++ l) (one_by_one names))
    where
      one_by_one : (names : List (Symbol × ℕ))
          → map formal_of (formals_named names of by_place line) ≡ map (λ x. record { name = x; of = of; by_place = by_place; line = line }) (symbols_of names)
      one_by_one [] = refl
      one_by_one (e ∷ names) = ap (λ l. record { name = e.0; of = of; by_place = by_place; line = line } ∷ l) (one_by_one names)

  own_is : known.named own_of q.own ≡ known.named own_of p.own ++ map (λ x. (x, known.OfPlace of)) (symbols_of names)
  own_is = ap (known.named own_of) own ∙ (map-append (λ e. (e.0, own_of e.1)) p.own (map (under (Place of)) names) ∙ ap (λ (l : known.Names). known.named own_of p.own ++ l) (one_by_one names))
    where
      one_by_one : (names : List (Symbol × ℕ)) → known.named own_of (map (under (Place of)) names) ≡ map (λ x. (x, known.OfPlace of)) (symbols_of names)
      one_by_one [] = refl
      one_by_one (e ∷ names) = ap (λ (l : known.Names). (e.0, known.OfPlace of) ∷ l) (one_by_one names)

  pub group_put : parameters_of q ≡ spec.with_group (parameters_of p) (symbols_of names) of by_place line
  group_put = λ i. record { formals = formals_are i; own = own_is i }

-- ---- which parameters have VAR

has_both : {X : Type 0} (xs ys : List (Symbol × X)) (x : Symbol) → has (xs ++ ys) x ≡ (has xs x || has ys x)
has_both [] ys x = refl
has_both (e ∷ xs) ys x = by_case (same_name e.0 x) (has_both xs ys x)
  where
    by_case : (b : Bool) → has (xs ++ ys) x ≡ (has xs x || has ys x)
        → is_some (cond b (Some e.1) (found (xs ++ ys) x)) ≡ (is_some (cond b (Some e.1) (found xs x)) || has ys x)
    by_case true later = refl
    by_case false later = later

has_under : {X Y : Type 0} (y : Y) (names : List (Symbol × X)) (x : Symbol) → has (map (under y) names) x ≡ has names x
has_under y [] x = refl
has_under y (e ∷ names) x = by_case (same_name e.0 x) (has_under y names x)
  where
    by_case : (b : Bool) → has (map (under y) names) x ≡ has names x
        → is_some (cond b (Some y) (found (map (under y) names) x)) ≡ is_some (cond b (Some e.1) (found names x))
    by_case true later = refl
    by_case false later = later

group_has : (names : List (Symbol × ℕ)) (of : TypeId) (by_place : Bool) (line : ℕ) (x : Symbol)
    → list_any (λ f. same_name f.name x && f.by_place) (map formal_of (formals_named names of by_place line)) ≡ has (group_of by_place names) x
group_has [] of true line x = refl
group_has [] of false line x = refl
group_has (e ∷ names) of true line x = by_case (same_name e.0 x) (group_has names of true line x)
  where
    by_case : (b : Bool) → list_any (λ f. same_name f.name x && f.by_place) (map formal_of (formals_named names of true line)) ≡ has names x
        → ((b && true) || list_any (λ f. same_name f.name x && f.by_place) (map formal_of (formals_named names of true line))) ≡ is_some (cond b (Some e.1) (found names x))
    by_case true later = refl
    by_case false later = later
group_has (e ∷ names) of false line x = by_case (same_name e.0 x) (group_has names of false line x)
  where
    by_case : (b : Bool) → list_any (λ f. same_name f.name x && f.by_place) (map formal_of (formals_named names of false line)) ≡ false
        → ((b && false) || list_any (λ f. same_name f.name x && f.by_place) (map formal_of (formals_named names of false line))) ≡ false
    by_case true later = later
    by_case false later = later

none_in_group : (by_place : Bool) (names : List (Symbol × ℕ)) (x : Symbol) → has names x ≡ false → has (group_of by_place names) x ≡ false
none_in_group true names x h = h
none_in_group false names x h = refl

module _ (p q : Parameters) (names : List (Symbol × ℕ)) (of : TypeId) (by_place : Bool) (line : ℕ)
    (formals : q.formals ≡ p.formals ++ formals_named names of by_place line) (own : q.own ≡ p.own ++ map (under (Place of)) names)
    (places : q.places ≡ p.places ++ group_of by_place names) (h : IsPlaces p) where
  pub places_kept : IsPlaces q
  places_kept = record {
    places = λ x.
        ap (λ (l : List (Symbol × ℕ)). has l x) places
        ∙ (has_both p.places (group_of by_place names) x
        ∙ (ap (λ b. b || has (group_of by_place names) x) (h.places x)
        ∙ (ap (λ b. list_any (λ f. same_name f.name x && f.by_place) (map formal_of p.formals) || b) (sym (group_has names of by_place line x))
        ∙ (sym (list_any-append (λ f. same_name f.name x && f.by_place) (map formal_of p.formals) (map formal_of (formals_named names of by_place line)))
        ∙ ap (list_any (λ f. same_name f.name x && f.by_place)) (sym (ap (map formal_of) formals ∙ map-append formal_of p.formals (formals_named names of by_place line)))))));
    within = λ x none.
        ap (λ (l : List (Symbol × ℕ)). has l x) places
        ∙ (has_both p.places (group_of by_place names) x
        ∙ both_false _ _ (h.within x (in_own x none)) (none_in_group by_place names x (in_group x none)));
  }
    where
      in_all : (x : Symbol) → has q.own x ≡ false → (has p.own x || has names x) ≡ false
      in_all x none =
          sym (ap (λ b. has p.own x || b) (has_under (Place of) names x)) ∙ (sym (has_both p.own (map (under (Place of)) names) x) ∙ (sym (ap (λ (l : List (Symbol × Own)). has l x) own) ∙ none))

      in_own : (x : Symbol) → has q.own x ≡ false → has p.own x ≡ false
      in_own x none = left_false (has p.own x) _ (in_all x none)

      in_group : (x : Symbol) → has q.own x ≡ false → has names x ≡ false
      in_group x none = right_false (has p.own x) _ (in_all x none)

-- what no parameter has, none with VAR has
pub not_among_places : (p : Parameters) (names : List (Symbol × ℕ)) → IsPlaces p → list_any (λ e. has p.own e.0) names ≡ false → list_any (λ e. has p.places e.0) names ≡ false
not_among_places p [] h none = refl
not_among_places p (e ∷ names) h none =
    both_false (has p.places e.0) _ (h.within e.0 (left_false (has p.own e.0) _ none)) (not_among_places p names h (right_false (has p.own e.0) _ none))

pub no_places : (p : Parameters) → p.formals ≡ [] → p.places ≡ [] → IsPlaces p
no_places p formals places = record {
  places = λ x. ap (λ (l : List (Symbol × ℕ)). has l x) places ∙ ap (λ l. list_any (λ f. same_name f.name x && f.by_place) (map formal_of l)) (sym formals);
  within = λ x none. ap (λ (l : List (Symbol × ℕ)). has l x) places;
}

pub variables_stop : (k : known.Known) (routine : Symbol) (ps : spec.Parameters) (g : Group) (by_place : Bool) (names : Several Name) (of : Name) (e : TypeFault)
    → g.form ≡ Variables by_place names of → Stops e (variables_walk k routine ps g.line by_place names of) → Stops e (spec.group_walk k routine ps g)
variables_stop k routine ps g by_place names of e is h =
    subst (λ (f : GroupForm). Stops e (spec.group_walk k routine ps (record { line = g.line; form = f }))) (sym is) h
