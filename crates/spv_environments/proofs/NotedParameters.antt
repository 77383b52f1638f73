-- A table of the names of parameters with VAR.
use Rattle.std.proofs.Common.{◌≡◌, ◌<◌, ◌≤◌, ◌||◌, ◌&&◌, ℕ, suc, Bool, true, false, cond, List, [], ◌∷◌, ◌++◌, length, drop, map, get_or, is_some, Some, None, refl, sym, ap, subst, ◌∙◌}
use Rattle.std.proofs.Math.ListN.{drop_of_length-le}
use Rattle.std.proofs.Math.Seq.{drop-cons}
use Rattle.std.proofs.lemmas.Bool.{eqb-true}
use Rattle.spv_logic.specs.declared.names.names.Symbol.{Symbol}
use Rattle.spv_program.specs.Lists.{same_name, found}
use Rattle.spv_program.specs.declared.typed.programs.Formal.{Formal}
use Rattle.spv_program.specs.typed.ProgramViews.{formal_of}
use Rattle.spv_environments.specs.PlaceParameters.{by_place_in, has, ArePlaces}

or_false : (b : Bool) → b ≡ (b || false)
or_false true = refl
or_false false = refl

or_together : (a b c : Bool) → ((a || b) || c) ≡ (a || (b || c))
or_together true b c = refl
or_together false b c = refl

and_true : (b : Bool) → b ≡ (b && true)
and_true true = refl
and_true false = refl

and_false : (b : Bool) → (b && false) ≡ false
and_false true = refl
and_false false = refl

has_last : {X : Type 0} (xs : List (Symbol × X)) (y x : Symbol) (v : X) → has (xs ++ (y, v) ∷ []) x ≡ (has xs x || same_name y x)
has_last [] y x v = by_case (same_name y x)
  where
    by_case : (b : Bool) → is_some (cond b (Some v) None) ≡ b
    by_case true = refl
    by_case false = refl
has_last (e ∷ xs) y x v = by_case (same_name e.0 x) (has_last xs y x v)
  where
    by_case : (b : Bool) → has (xs ++ (y, v) ∷ []) x ≡ (has xs x || same_name y x)
        → is_some (cond b (Some e.1) (found (xs ++ (y, v) ∷ []) x)) ≡ (is_some (cond b (Some e.1) (found xs x)) || same_name y x)
    by_case true later = refl
    by_case false later = later

module _ {X : Type 0} (old : List (Symbol × X)) (f : Formal) where
  pub noted : (new : List (Symbol × X)) (v : X) → new ≡ old ++ (f.name, v) ∷ [] → f.by_place ≡ true
      → (x : Symbol) → has new x ≡ (has old x || (same_name f.name x && f.by_place))
  noted new v is h x =
      ap (λ (l : List (Symbol × X)). has l x) is
      ∙ (has_last old f.name x v ∙ ap (λ b. has old x || b) (and_true (same_name f.name x) ∙ ap (λ b. same_name f.name x && b) (sym h)))

  pub noted_already : has old f.name ≡ true → (x : Symbol) → has old x ≡ (has old x || (same_name f.name x && f.by_place))
  noted_already there x = by_case (same_name f.name x) refl
    where
      same : same_name f.name x ≡ true → has old x ≡ true
      same h = ap (λ (n : ℕ). has old (record { 0 = n })) (sym (eqb-true f.name.0 x.0 h)) ∙ there

      by_case : (b : Bool) → same_name f.name x ≡ b → has old x ≡ (has old x || (b && f.by_place))
      by_case true h = same h ∙ sym (ap (λ c. c || f.by_place) (same h))
      by_case false h = or_false (has old x)

  pub not_noted : f.by_place ≡ false → (x : Symbol) → has old x ≡ (has old x || (same_name f.name x && f.by_place))
  not_noted h x = or_false (has old x) ∙ ap (λ b. has old x || b) (sym (ap (λ b. same_name f.name x && b) h ∙ and_false (same_name f.name x)))

pub none_are_places : {X : Type 0} → ArePlaces {X = X} [] []
none_are_places = record { names = λ x. refl }

-- ---- a loop over parameters

-- the names so far, and those behind
pub record NotedSoFar {X : Type 0} (formals : List Formal) (n : ℕ) (places : List (Symbol × X)) : Type 0 where
  pub names : (x : Symbol) → (has places x || by_place_in (map formal_of (drop n formals)) x) ≡ by_place_in (map formal_of formals) x

pub noted_first : {X : Type 0} (formals : List Formal) → NotedSoFar {X = X} formals 0 []
noted_first formals = record { names = λ x. refl }

module _ (formals : List Formal) (n : ℕ) (f : Formal) (within : n < length formals) (is : f ≡ get_or formals n f) where
  opened : (x : Symbol) → by_place_in (map formal_of (drop n formals)) x ≡ ((same_name f.name x && f.by_place) || by_place_in (map formal_of (drop (suc n) formals)) x)
  opened x = ap (λ (fs : List Formal). by_place_in (map formal_of fs) x) (drop-cons formals n f within ∙ ap (λ (g : Formal). g ∷ drop (suc n) formals) (sym is))

  noted_behind : {X : Type 0} (old new : List (Symbol × X)) → ((x : Symbol) → has new x ≡ (has old x || (same_name f.name x && f.by_place)))
      → NotedSoFar formals n old → NotedSoFar formals (suc n) new
  noted_behind old new more h = record {
    names = λ x.
        ap (λ b. b || by_place_in (map formal_of (drop (suc n) formals)) x) (more x)
        ∙ (or_together (has old x) _ _ ∙ (ap (λ b. has old x || b) (sym (opened x)) ∙ h.names x));
  }

  pub noted_next : {X : Type 0} (m : ℕ) → m ≡ suc n → (old new : List (Symbol × X)) → ((x : Symbol) → has new x ≡ (has old x || (same_name f.name x && f.by_place)))
      → NotedSoFar formals n old → NotedSoFar formals m new
  noted_next m next old new more h = subst (λ (k : ℕ). NotedSoFar formals k new) (sym next) (noted_behind old new more h)

-- at the end all are noted
pub all_noted : {X : Type 0} (formals : List Formal) (n : ℕ) (places : List (Symbol × X)) → length formals ≤ n → NotedSoFar formals n places → ArePlaces places formals
all_noted formals n places end h = record {
  names = λ x. or_false (has places x) ∙ (ap (λ (fs : List Formal). has places x || by_place_in (map formal_of fs) x) (sym (drop_of_length-le formals end)) ∙ h.names x);
}
