-- What stands under names in lists that are put together.
use Rattle.std.proofs.Common.{◌≡◌, Bool, true, false, cond, ◌||◌, List, [], ◌∷◌, ◌++◌, map, Option, Some, None, is_some, option_map, refl, sym, ap, ◌∙◌, subst}
use Rattle.std.specs.List.{list_any, list_all}
use Rattle.std.proofs.lemmas.Bool.{false≢true}
use Rattle.spv_logic.specs.declared.names.names.Symbol.{Symbol}
use Rattle.spv_logic.proofs.list.Tests.{left_true, right_true}
use Rattle.spv_program.specs.Lists.{same_name, found, first_of}
use Rattle.spv_program.proofs.SortFacts.{nothing_there, some_is}
use Rattle.spv_type_soundness.proofs.well_typed_programs.Differ.{name-refl, same_names}

abbrev pub pair : {X : Type 0} → Symbol → X → Symbol × X
pair x y = (x, y)

abbrev pub keys : {X : Type 0} → List (Symbol × X) → List Symbol
keys xs = map (λ n. n.0) xs

pub found_append : {X : Type 0} (xs ys : List (Symbol × X)) (x : Symbol) → found (xs ++ ys) x ≡ first_of (found xs x) (found ys x)
found_append [] ys x = refl
found_append (n ∷ xs) ys x = by_name (same_name n.0 x) (found_append xs ys x)
  where
    by_name : (b : Bool) → found (xs ++ ys) x ≡ first_of (found xs x) (found ys x)
        → cond b (Some n.1) (found (xs ++ ys) x) ≡ first_of (cond b (Some n.1) (found xs x)) (found ys x)
    by_name true e = refl
    by_name false e = e

-- names whose values are changed by a function
pub found_mapped : {X Y : Type 0} (f : X → Y) (xs : List (Symbol × X)) (x : Symbol)
    → found (map (λ (n : Symbol × X). pair n.0 (f n.1)) xs) x ≡ option_map f (found xs x)
found_mapped {X} f [] x = refl
found_mapped {X} f (n ∷ xs) x = by_name (same_name n.0 x) (found_mapped f xs x)
  where
    by_name : (b : Bool) → found (map (λ (n : Symbol × X). pair n.0 (f n.1)) xs) x ≡ option_map f (found xs x)
        → cond b (Some (f n.1)) (found (map (λ (n : Symbol × X). pair n.0 (f n.1)) xs) x) ≡ option_map f (cond b (Some n.1) (found xs x))
    by_name true e = refl
    by_name false e = e

-- items under their own names, with values that a function makes
pub found_items : {X Y : Type 0} (name : X → Symbol) (f : X → Y) (xs : List X) (x : Symbol)
    → found (map (λ (n : X). pair (name n) (f n)) xs) x ≡ option_map f (found (map (λ (n : X). pair (name n) n) xs) x)
found_items {X} name f [] x = refl
found_items {X} name f (n ∷ xs) x = by_name (same_name (name n) x) (found_items name f xs x)
  where
    by_name : (b : Bool) → found (map (λ (n : X). pair (name n) (f n)) xs) x ≡ option_map f (found (map (λ (n : X). pair (name n) n) xs) x)
        → cond b (Some (f n)) (found (map (λ (n : X). pair (name n) (f n)) xs) x)
        ≡ option_map f (cond b (Some n) (found (map (λ (n : X). pair (name n) n) xs) x))
    by_name true e = refl
    by_name false e = e

-- an item stands under its name
pub found_name : {X : Type 0} (name : X → Symbol) (xs : List X) (x : Symbol) (n : X)
    → found (map (λ (k : X). pair (name k) k) xs) x ≡ Some n → name n ≡ x
found_name {X} name [] x n e = absurd (nothing_there e)
found_name {X} name (k ∷ xs) x n e = by_name (same_name (name k) x) refl e (found_name name xs x n)
  where
    by_name : (b : Bool) → same_name (name k) x ≡ b → cond b (Some k) (found (map (λ (k : X). pair (name k) k) xs) x) ≡ Some n
        → (found (map (λ (k : X). pair (name k) k) xs) x ≡ Some n → name n ≡ x) → name n ≡ x
    by_name true h f later = ap name (sym (some_is f)) ∙ same_names (name k) x h
    by_name false h f later = later f

-- ---- whether a name is there

pub any_turned : (x : Symbol) (n : Symbol) → same_name n x ≡ same_name x n
any_turned x n = by_one (same_name n x) refl (same_name x n) refl
  where
    by_one : (a : Bool) → same_name n x ≡ a → (b : Bool) → same_name x n ≡ b → a ≡ b
    by_one true e true f = refl
    by_one false e false f = refl
    by_one true e false f = absurd (false≢true (sym f ∙ subst (λ y. same_name x y ≡ true) (sym (same_names n x e)) (name-refl x)))
    by_one false e true f = absurd (false≢true (sym e ∙ subst (λ y. same_name n y ≡ true) (sym (same_names x n f)) (name-refl n)))

pub found_there : {X : Type 0} (xs : List (Symbol × X)) (x : Symbol) → is_some (found xs x) ≡ list_any (same_name x) (keys xs)
found_there [] x = refl
found_there (n ∷ xs) x = by_name (same_name n.0 x) (found_there xs x) ∙ ap (λ b. b || list_any (same_name x) (keys xs)) (any_turned x n.0)
  where
    by_name : (b : Bool) → is_some (found xs x) ≡ list_any (same_name x) (keys xs)
        → is_some (cond b (Some n.1) (found xs x)) ≡ (b || list_any (same_name x) (keys xs))
    by_name true e = refl
    by_name false e = e

pub some_there : {X : Type 0} (o : Option X) (y : X) → o ≡ Some y → is_some o ≡ true
some_there o y e = ap is_some e

pub none_there : {X : Type 0} (o : Option X) → is_some o ≡ false → o ≡ None
none_there None e = refl
none_there (Some x) e = absurd (false≢true (sym e))

pub found_none : {X : Type 0} (xs : List (Symbol × X)) (x : Symbol) → list_any (same_name x) (keys xs) ≡ false → found xs x ≡ None
found_none xs x e = none_there (found xs x) (found_there xs x ∙ e)

pub found_key : {X : Type 0} (xs : List (Symbol × X)) (x : Symbol) (y : X) → found xs x ≡ Some y → list_any (same_name x) (keys xs) ≡ true
found_key xs x y e = sym (found_there xs x) ∙ some_there (found xs x) y e

-- what is found under a name that is there
pub record FoundAt {X : Type 0} (xs : List (Symbol × X)) (x : Symbol) : Type 0 where
  pub item : X
  pub is : found xs x ≡ Some item

pub some_item : {X : Type 0} (o : Option X) (P : Type 0) → ((y : X) → o ≡ Some y → P) → is_some o ≡ true → P
some_item None P go e = absurd (false≢true e)
some_item (Some y) P go e = go y refl

pub key_found : {X : Type 0} (xs : List (Symbol × X)) (x : Symbol) → list_any (same_name x) (keys xs) ≡ true → FoundAt xs x
key_found xs x e = some_item (found xs x) (FoundAt xs x) (λ y k. record { item = y; is = k }) (found_there xs x ∙ e)

-- what is found passes where all pass
pub found_all : {X : Type 0} (test : X → Bool) (xs : List (Symbol × X)) (x : Symbol) (y : X)
    → list_all (λ (n : Symbol × X). test n.1) xs ≡ true → found xs x ≡ Some y → test y ≡ true
found_all test [] x y h e = absurd (nothing_there e)
found_all test (n ∷ xs) x y h e = by_name (same_name n.0 x) e (found_all test xs x y (right_true (test n.1) _ h))
  where
    by_name : (b : Bool) → cond b (Some n.1) (found xs x) ≡ Some y → (found xs x ≡ Some y → test y ≡ true) → test y ≡ true
    by_name true k later = subst (λ z. test z ≡ true) (some_is k) (left_true _ _ h)
    by_name false k later = later k

-- ---- the first of two

pub first_case : {X : Type 0} (a b : Option X) (y : X) (P : Type 0) → first_of a b ≡ Some y → (a ≡ Some y → P)
    → (a ≡ None → b ≡ Some y → P) → P
first_case None b y P e one two = two refl e
first_case (Some x) b y P e one two = one e

pub first_none : {X : Type 0} (a b : Option X) → first_of a b ≡ None → a ≡ None
first_none None b e = refl
first_none (Some x) b e = absurd (nothing_there (sym e))

pub second_none : {X : Type 0} (a b : Option X) → first_of a b ≡ None → b ≡ None
second_none None b e = e
second_none (Some x) b e = absurd (nothing_there (sym e))

pub mapped_case : {X Y : Type 0} (f : X → Y) (o : Option X) (y : Y) (P : Type 0) → option_map f o ≡ Some y
    → ((x : X) → o ≡ Some x → f x ≡ y → P) → P
mapped_case f None y P e go = absurd (nothing_there e)
mapped_case f (Some x) y P e go = go x refl (some_is e)
