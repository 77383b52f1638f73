-- Names that are declared together are new, and what they add.
use Rattle.std.proofs.Common.{◌≡◌, ℕ, zero, suc, ◌≤◌, ◌+◌, Bool, true, false, cond, ◌&&◌, ◌||◌, not, List, [], ◌∷◌, ◌++◌, map, take, length, Option, Some, None, Result, Ok, Err, is_some, slice_get, refl, sym, ap, ◌∙◌, subst, arith}
use Rattle.std.specs.List.{list_any}
use Rattle.std.specs.Result.{IfOk}
use Rattle.std.proofs.lemmas.Bool.{false≢true}
use Rattle.std.proofs.lemmas.List.{append_assoc, map-append, take_all}
use Rattle.spv_logic.proofs.list.Tests.{left_true, right_true}
use Rattle.spv_logic.specs.declared.names.names.Symbol.{Symbol}
use Rattle.spv_logic.specs.declared.types.TypeId.{TypeId}
use Rattle.spv_tree.specs.declared.syntax.lists.Several.{Several}
use Rattle.spv_tree.specs.declared.syntax.names.Name.{Name}
use Rattle.spv_program.specs.declared.types.TypeField.{TypeField}
use Rattle.spv_program.specs.Lists.{found, same_name, first_of}
use Rattle.spv_program.proofs.ordered_map.Lookups.{nat_eq_turned}
use Rattle.spv_typing.specs.declared.faults.TypeFault.{TypeFault}
use Rattle.spv_typing.specs.TypeWalk.{all_names}
use Rattle.spv_typing.specs.Outcomes.{after, where_so, each, twice}
use Rattle.spv_typing.specs.DeclarationWalk.{new_name}
use Rattle.spv_declaration_typing.specs.type_typing.Names.{only_names}
use Rattle.spv_declaration_typing.specs.type_typing.Reading.{field_of, fields_of}
use Rattle.spv_declaration_typing.specs.type_typing.Fields.{is_no_field, under, AllNew, NoneThere}

-- ---- names of fields

some_or : {X : Type 0} (b : Bool) (x : X) (o : Option X) → is_some (cond b (Some x) o) ≡ (b || is_some o)
some_or true x o = refl
some_or false x o = refl

fields_there : (entries : List (Symbol × TypeId)) (x : Symbol) → is_some (found entries x) ≡ list_any (λ f. same_name f.name x) (fields_of entries)
fields_there [] x = refl
fields_there (e ∷ entries) x = some_or (same_name e.0 x) e.1 (found entries x) ∙ ap (λ b. same_name e.0 x || b) (fields_there entries x)

pub field_names : (entries : List (Symbol × TypeId)) (x : Symbol) → not (is_some (found entries x)) ≡ is_no_field entries x
field_names entries x = ap not (fields_there entries x)

none_of : {X : Type 0} (o : Option X) → not (is_some o) ≡ true → o ≡ None
none_of None h = refl
none_of (Some x) h = absurd (false≢true h)

pub no_field : (entries : List (Symbol × TypeId)) (x : Symbol) → is_no_field entries x ≡ true → found entries x ≡ None
no_field entries x h = none_of (found entries x) (field_names entries x ∙ h)

-- ---- items behind one another

-- the item at a place of a list with one more, which is in the list or is that one
at_grown : {X : Type 0} (xs : List X) (y : X) (i : ℕ) (x : X) (P : ℕ → X → List X → Type 0) → slice_get (xs ++ y ∷ []) i ≡ Some x
    → (slice_get xs i ≡ Some x → P i x (take i xs)) → P (length xs) y xs → P i x (take i (xs ++ y ∷ []))
at_grown [] y zero x P e front last = let same : y ≡ x = cc in subst (λ z. P 0 z []) same last
at_grown [] y (suc i) x P e front last = absurd cc
at_grown (z ∷ xs) y zero x P e front last = front e
at_grown (z ∷ xs) y (suc i) x P e front last = at_grown xs y i x (λ n w l. P (suc n) w (z ∷ l)) e front last

pub take_one : {X : Type 0} (xs : List X) (n : ℕ) (x : X) → slice_get xs n ≡ Some x → take (n + 1) xs ≡ take n xs ++ x ∷ []
take_one [] zero x e = absurd cc
take_one [] (suc n) x e = absurd cc
take_one (y ∷ xs) zero x e = let same : y ≡ x = cc in ap (λ z. z ∷ []) same
take_one (y ∷ xs) (suc n) x e = ap (λ m. take m (y ∷ xs)) (further n) ∙ ap (λ (l : List _). y ∷ l) (take_one xs n x e)
  where
    further : (n : ℕ) → suc n + 1 ≡ suc (n + 1)
    further n = omega arith

pub got_map : {X Y : Type 0} (f : X → Y) (xs : List X) (n : ℕ) (x : X) → slice_get xs n ≡ Some x → slice_get (map f xs) n ≡ Some (f x)
got_map f [] n x e = absurd cc
got_map f (y ∷ xs) zero x e = let same : y ≡ x = cc in ap (λ z. Some (f z)) same
got_map f (y ∷ xs) (suc n) x e = got_map f xs n x e

-- ---- names that the walk found new

module _ (free : Symbol → Bool) where
  one_new : (done : List Symbol) (x : Name) → free x.symbol ≡ true → not (list_any (same_name x.symbol) done) ≡ true → AllNew free done → AllNew free (done ++ x.symbol ∷ [])
  one_new done x is_free other so_far = record {
    is_free = λ i y e. at_grown done x.symbol i y (λ n z l. free z ≡ true) e (λ f. so_far.is_free i y f) is_free;
    differs = λ i y e. at_grown done x.symbol i y (λ n z l. list_any (same_name z) l ≡ false) e (λ f. so_far.differs i y f) (unlike (list_any (same_name x.symbol) done) other);
  }
    where
      unlike : (b : Bool) → not b ≡ true → b ≡ false
      unlike true h = absurd (false≢true h)
      unlike false h = refl

  from_done : (done : List Symbol) (names : List Name) (all : List Symbol) → AllNew free done → each (new_name free) done names ≡ Ok all → AllNew free all
  from_done done [] all so_far e = let same : done ≡ all = cc in subst (AllNew free) same so_far
  from_done done (x ∷ names) all so_far e = by_test (free x.symbol && not (list_any (same_name x.symbol) done)) refl e (λ grown f. from_done (done ++ x.symbol ∷ []) names all grown f)
    where
      by_test : (b : Bool) → (free x.symbol && not (list_any (same_name x.symbol) done)) ≡ b
          → after (where_so b (twice x) (Ok (done ++ x.symbol ∷ []))) (λ next. each (new_name free) next names) ≡ Ok all
          → (AllNew free (done ++ x.symbol ∷ []) → each (new_name free) (done ++ x.symbol ∷ []) names ≡ Ok all → AllNew free all) → AllNew free all
      by_test true h f later = later
          (one_new done x (left_true (free x.symbol) (not (list_any (same_name x.symbol) done)) h) (right_true (free x.symbol) (not (list_any (same_name x.symbol) done)) h) so_far) f
      by_test false h f later = absurd cc

  none_yet : AllNew free []
  none_yet = record { is_free = λ i x e. absurd (nothing i x e); differs = λ i x e. absurd (nothing i x e) }
    where
      nothing : (i : ℕ) (x : Symbol) → slice_get (let none : List Symbol = [] in none) i ≡ Some x → ⊥
      nothing i x e = cc

  pub all_new : (names : List Name) (all : List Symbol) → each (new_name free) [] names ≡ Ok all → AllNew free all
  all_new names all e = from_done [] names all none_yet e

  pub none_there : {X : Type 0} (entries : List (Symbol × X)) (all : List Symbol) → ((x : Symbol) → free x ≡ true → found entries x ≡ None) → AllNew free all → NoneThere entries all
  none_there entries all h new = record { missing = λ i x e. h x (new.is_free i x e); differs = new.differs }

-- ---- what they add

pub found_append : {X : Type 0} (xs ys : List (Symbol × X)) (x : Symbol) → found (xs ++ ys) x ≡ first_of (found xs x) (found ys x)
found_append [] ys x = refl
found_append (n ∷ xs) ys x = by_name (same_name n.0 x) (found_append xs ys x)
  where
    by_name : (b : Bool) → found (xs ++ ys) x ≡ first_of (found xs x) (found ys x) → cond b (Some n.1) (found (xs ++ ys) x) ≡ first_of (cond b (Some n.1) (found xs x)) (found ys x)
    by_name true e = refl
    by_name false e = e

found_under : {X : Type 0} (v : X) (names : List Symbol) (x : Symbol) → list_any (same_name x) names ≡ false → found (under v names) x ≡ None
found_under v [] x h = refl
found_under v (y ∷ names) x h = by_name (same_name x y) refl h (λ f. found_under v names x f)
  where
    by_name : (b : Bool) → same_name x y ≡ b → (b || list_any (same_name x) names) ≡ false → (list_any (same_name x) names ≡ false → found (under v names) x ≡ None)
        → cond (same_name y x) (Some v) (found (under v names) x) ≡ None
    by_name true e f later = absurd (false≢true (sym f))
    by_name false e f later = ap (λ b. cond b (Some v) (found (under v names) x)) (nat_eq_turned y.0 x.0 ∙ e) ∙ later f

-- the next of them is not there yet
pub next_missing : {X : Type 0} (entries now : List (Symbol × X)) (names : List Symbol) (v : X) (i : ℕ) (x : Symbol) → NoneThere entries names → slice_get names i ≡ Some x
    → now ≡ entries ++ under v (take i names) → found now x ≡ None
next_missing entries now names v i x none at is =
    ap (λ (l : List (Symbol × _)). found l x) is
    ∙ (found_append entries (under v (take i names)) x
    ∙ (ap (λ o. first_of o (found (under v (take i names)) x)) (none.missing i x at) ∙ found_under v (take i names) x (none.differs i x at)))

pub one_under : {X : Type 0} (entries now next : List (Symbol × X)) (names : List Symbol) (v : X) (i : ℕ) (x : Symbol) → slice_get names i ≡ Some x
    → now ≡ entries ++ under v (take i names) → next ≡ now ++ (x, v) ∷ [] → next ≡ entries ++ under v (take (i + 1) names)
one_under {X = X} entries now next names v i x at is pushed =
    let f : Symbol → Symbol × X = λ y. (y, v) in
    pushed ∙ (ap (λ (l : List (Symbol × X)). l ++ (x, v) ∷ []) is
    ∙ (append_assoc entries (under v (take i names)) ((x, v) ∷ [])
    ∙ ap (λ (l : List (Symbol × X)). entries ++ l) (sym (map-append f (take i names) (x ∷ [])) ∙ ap (λ (l : List Symbol). under v l) (sym (take_one names i x at)))))

pub one_listed : (entries : List (Symbol × TypeId)) (now next : List TypeField) (i : ℕ) (x : Symbol) (t : TypeId) → slice_get entries i ≡ Some (x, t)
    → now ≡ fields_of (take i entries) → next ≡ now ++ record { name = x; of = t } ∷ [] → next ≡ fields_of (take (i + 1) entries)
one_listed entries now next i x t at is pushed =
    let ending : List TypeField = record { name = x; of = t } ∷ [] in
    pushed ∙ (ap (λ (l : List TypeField). l ++ ending) is
    ∙ (sym (map-append field_of (take i entries) ((x, t) ∷ [])) ∙ ap fields_of (sym (take_one entries i (x, t) at))))

pub fields_under : (entries now : List (Symbol × TypeId)) (names : List Symbol) (t : TypeId) → now ≡ entries ++ under t names
    → fields_of now ≡ fields_of entries ++ map (λ x. record { name = x; of = t }) names
fields_under entries now names t is = ap fields_of is ∙ (map-append field_of entries (under t names) ∙ ap (λ (l : List TypeField). fields_of entries ++ l) (each_of names))
  where
    each_of : (names : List Symbol) → fields_of (under t names) ≡ map (λ x. record { name = x; of = t }) names
    each_of [] = refl
    each_of (x ∷ names) = let f : TypeField = record { name = x; of = t } in ap (λ (l : List TypeField). f ∷ l) (each_of names)

pub under_all : (entries now : List (Symbol × TypeId)) (names : List Symbol) (t : TypeId) (place : ℕ) → length names ≤ place → now ≡ entries ++ under t (take place names)
    → fields_of now ≡ fields_of entries ++ map (λ x. record { name = x; of = t }) names
under_all entries now names t place past is = fields_under entries now names t (is ∙ ap (λ (l : List Symbol). entries ++ under t l) (take_all place names past))

pub fresh_if_ok : (entries : List (Symbol × TypeId)) (names : Several Name) (r : Result (List (Symbol × ℕ)) TypeFault)
    → IfOk r (λ n. each (new_name (is_no_field entries)) [] (all_names names) ≡ Ok (only_names n)) → IfOk r (λ n. NoneThere entries (only_names n))
fresh_if_ok entries names (Ok n) h = none_there (is_no_field entries) entries (only_names n) (no_field entries) (all_new (is_no_field entries) (all_names names) (only_names n) h)
fresh_if_ok entries names (Err e) h = tt
