-- The first place of a name in a list, and a table of these.
use Rattle.std.proofs.Common.{◌≡◌, ◌<◌, ◌+◌, ℕ, suc, Bool, true, false, cond, List, [], ◌∷◌, ◌++◌, length, Option, Some, None, is_some, option_map, refl, sym, ap, subst, ◌∙◌, arith}
use Rattle.std.proofs.lemmas.Bool.{eqb-true}
use Rattle.std.proofs.lemmas.List.{append_assoc}
use Rattle.spv_logic.specs.declared.names.names.Symbol.{Symbol}
use Rattle.spv_tree.specs.declared.syntax.routines.Heading.{Heading}
use Rattle.spv_tree.specs.declared.syntax.routines.Clauses.{Clauses}
use Rattle.spv_tree.specs.declared.syntax.routines.Locals.{Locals}
use Rattle.spv_tree.specs.declared.syntax.routines.RoutineMark.{RoutineMark}
use Rattle.spv_tree.specs.declared.syntax.routines.RoutineMark.TheVariants.{Announced, Begins, Ends}
use Rattle.spv_tree.specs.syntax.Statements as tree
use Rattle.spv_program.specs.Lists.{same_name, found, first_of}
use Rattle.spv_program.proofs.ordered_map.Lookups.{nat_eq_turned}
use Rattle.spv_typing.specs.Merging.{first_where}
use Rattle.spv_typing.specs.RoutineWalk.{heading_name}
use Rattle.spv_typing.specs.ProgramWalk.{names_of_bodies}
use Rattle.spv_routine_typing.specs.Numbers.{place_in, IsNumbered, with_number}
use Rattle.spv_routine_typing.proofs.Listing.{found_last}

abbrev or_count : ℕ → Option ℕ → ℕ
or_count n None = n
or_count n (Some m) = m

first_is : (names : List Symbol) (x : Symbol) → first_where (same_name x) names ≡ or_count (length names) (place_in names x)
first_is [] x = refl
first_is (name ∷ names) x = by_case (same_name x name) (place_in names x) (first_is names x)
  where
    by_case : (b : Bool) (o : Option ℕ) → first_where (same_name x) names ≡ or_count (length names) o
        → cond b 0 (suc (first_where (same_name x) names)) ≡ or_count (suc (length names)) (cond b (Some 0) (option_map suc o))
    by_case true o later = refl
    by_case false None later = ap suc later
    by_case false (Some n) later = ap suc later

module _ (names : List Symbol) (numbers : List (Symbol × ℕ)) (h : IsNumbered names numbers) (x : Symbol) where
  pub number_there : (n : ℕ) → found numbers x ≡ Some n → first_where (same_name x) names ≡ n
  number_there n is = first_is names x ∙ ap (or_count (length names)) (sym (h.first x) ∙ is)

  pub number_missing : found numbers x ≡ None → first_where (same_name x) names ≡ length names
  number_missing is = first_is names x ∙ ap (or_count (length names)) (sym (h.first x) ∙ is)

pub none_numbered : IsNumbered [] []
none_numbered = record { within = grind arith; first = λ x. refl }

-- ---- one name more

mapped : (n : ℕ) (o : Option ℕ) (c : Bool) → option_map suc (first_of o (cond c (Some n) None)) ≡ first_of (option_map suc o) (cond c (Some (suc n)) None)
mapped n (Some m) c = refl
mapped n None true = refl
mapped n None false = refl

place_last : (names : List Symbol) (name x : Symbol) → place_in (names ++ name ∷ []) x ≡ first_of (place_in names x) (cond (same_name x name) (Some (length names)) None)
place_last [] name x = by_case (same_name x name)
  where
    by_case : (b : Bool) → cond b (Some 0) (option_map suc None) ≡ cond b (Some 0) None
    by_case true = refl
    by_case false = refl
place_last (n ∷ names) name x = by_case (same_name x n) (same_name x name) (place_last names name x)
  where
    by_case : (b c : Bool) → place_in (names ++ name ∷ []) x ≡ first_of (place_in names x) (cond c (Some (length names)) None)
        → cond b (Some 0) (option_map suc (place_in (names ++ name ∷ []) x)) ≡ first_of (cond b (Some 0) (option_map suc (place_in names x))) (cond c (Some (suc (length names))) None)
    by_case true c later = refl
    by_case false c later = ap (option_map suc) later ∙ mapped (length names) (place_in names x) c

first_stays : (o p : Option ℕ) (m : ℕ) → o ≡ Some m → o ≡ first_of o p
first_stays (Some n) p m h = refl
first_stays None p m h = absurd cc

nothing_behind : (o : Option ℕ) → o ≡ first_of o None
nothing_behind (Some n) = refl
nothing_behind None = refl

found_with : (numbers : List (Symbol × ℕ)) (name x : Symbol) (n : ℕ) → found (with_number numbers name n) x ≡ first_of (found numbers x) (cond (same_name x name) (Some n) None)
found_with numbers name x n = by_case (found numbers name) refl
  where
    by_same : (m : ℕ) (b : Bool) → found numbers name ≡ Some m → same_name x name ≡ b → found numbers x ≡ first_of (found numbers x) (cond b (Some n) None)
    by_same m true h same = first_stays (found numbers x) (Some n) m (ap (λ (k : ℕ). found numbers (record { 0 = k })) (eqb-true x.0 name.0 same) ∙ h)
    by_same m false h same = nothing_behind (found numbers x)

    by_case : (o : Option ℕ) → found numbers name ≡ o → found (cond (is_some o) numbers (numbers ++ (name, n) ∷ [])) x ≡ first_of (found numbers x) (cond (same_name x name) (Some n) None)
    by_case None h = found_last numbers name x n ∙ ap (λ b. first_of (found numbers x) (cond b (Some n) None)) (nat_eq_turned name.0 x.0)
    by_case (Some m) h = by_same m (same_name x name) h refl

one_longer : (names : List Symbol) (name : Symbol) → length (names ++ name ∷ []) ≡ suc (length names)
one_longer [] name = refl
one_longer (n ∷ names) name = ap suc (one_longer names name)

pub one_numbered : (names new : List Symbol) (numbers after : List (Symbol × ℕ)) (name : Symbol) (n : ℕ) → IsNumbered names numbers → n ≡ length names → n + 1 < 4294967296
    → after ≡ with_number numbers name n → new ≡ names ++ name ∷ [] → IsNumbered new after
one_numbered names new numbers after name n h many small put pushed =
    subst (λ (l : List Symbol). IsNumbered l after) (sym pushed) (subst (IsNumbered (names ++ name ∷ [])) (sym put) numbered)
  where
    numbered : IsNumbered (names ++ name ∷ []) (with_number numbers name n)
    numbered = record {
      within = let longer = one_longer names name in omega (arith, many, small, longer);
      first = λ x.
          found_with numbers name x n
          ∙ (ap (λ (k : ℕ). first_of (found numbers x) (cond (same_name x name) (Some k) None)) many
          ∙ (ap (λ (o : Option ℕ). first_of o (cond (same_name x name) (Some (length names)) None)) (h.first x) ∙ sym (place_last names name x)));
    }

-- ---- names of routines with bodies, mark by mark

pub begins_next : (self b : List Symbol) (m : RoutineMark) (h : Heading) (c : Clauses) (l : Locals) (name : Symbol) → m ≡ Begins h c l → name ≡ (heading_name h.form).symbol
    → b ≡ self ++ name ∷ [] → (marks : List RoutineMark) → b ++ names_of_bodies marks ≡ self ++ names_of_bodies (m ∷ marks)
begins_next self b m h c l name is named pushed marks =
    ap (λ (names : List Symbol). names ++ names_of_bodies marks) pushed
    ∙ (append_assoc self (name ∷ []) (names_of_bodies marks)
    ∙ (ap (λ (x : Symbol). self ++ x ∷ names_of_bodies marks) named ∙ ap (λ (m : RoutineMark). self ++ names_of_bodies (m ∷ marks)) (sym is)))

pub announced_next : (self : List Symbol) (m : RoutineMark) (h : Heading) (c : Clauses) → m ≡ Announced h c → (marks : List RoutineMark)
    → self ++ names_of_bodies marks ≡ self ++ names_of_bodies (m ∷ marks)
announced_next self m h c is marks = ap (λ (m : RoutineMark). self ++ names_of_bodies (m ∷ marks)) (sym is)

pub ends_next : (self : List Symbol) (m : RoutineMark) (b : tree.Block) → m ≡ Ends b → (marks : List RoutineMark) → self ++ names_of_bodies marks ≡ self ++ names_of_bodies (m ∷ marks)
ends_next self m b is marks = ap (λ (m : RoutineMark). self ++ names_of_bodies (m ∷ marks)) (sym is)
