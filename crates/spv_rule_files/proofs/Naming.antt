-- The names in a formula, and the variables that are made of them.
use Rattle.std.proofs.Common.{◌≡◌, Bool, true, false, cond, ◌&&◌, ◌||◌, List, [], ◌∷◌, ◌++◌, Option, Some, None, is_some, refl, sym, ap, ◌∙◌, subst}
use Rattle.std.specs.List.{list_all, list_any}
use Rattle.std.proofs.lemmas.Bool.{false≢true, true≢false}
use Rattle.spv_logic.proofs.list.Tests.{left_true, right_true}
use Rattle.spv_logic.specs.declared.names.names.Symbol.{Symbol}
use Rattle.spv_logic.specs.declared.types.Sort.{Sort}
use Rattle.spv_tree.specs.declared.syntax.names.Name.{Name}
use Rattle.spv_program.specs.Lists.{same_name, found, first_of}
use Rattle.spv_program.specs.Scopes.{Scope, sort_or_int}
use Rattle.spv_program.specs.Formulas.{Formula, Formulas, Numeral, Boolean, NilOf, Named, ClassOf, Element, FieldOf, Content, Applied, Known, Negative, Calculated, Compared, Negated, Joined, Implied, no_formulas, formulas}
use Rattle.spv_program.specs.ordered_map.Entries.{AreApart}
use Rattle.spv_program.proofs.SortFacts.{nothing_there, some_is}
use Rattle.spv_program.proofs.ordered_map.Putting.{still_new}
use Rattle.spv_type_soundness.proofs.well_typed_programs.Finding.{found_append}
use Rattle.spv_type_soundness.proofs.well_typed_programs.Differ.{name-refl, same_names}
use Rattle.spv_rule_files.specs.Outcomes.{fold}
use Rattle.spv_rule_files.specs.Triggers.{names_behind, all_names_behind, met, variables_of, first_unbound}
use Rattle.spv_rule_files.proofs.Carried.{names_pass, all_names_pass}

-- ---- a test on the names of a formula

and_assoc : (a b c : Bool) → ((a && b) && c) ≡ (a && (b && c))
and_assoc true b c = refl
and_assoc false b c = refl

and_true : (a : Bool) → (a && true) ≡ a
and_true true = refl
and_true false = refl

all_one_more : (test : Name → Bool) (done : List Name) (x : Name) → list_all test (done ++ x ∷ []) ≡ (list_all test done && test x)
all_one_more test [] x = and_true (test x)
all_one_more test (y ∷ done) x = ap (λ b. test y && b) (all_one_more test done x) ∙ sym (and_assoc (test y) (list_all test done) (test x))

module _ (test : Name → Bool) where
  two : (done : List Name) (f g : Formula) → list_all test (names_behind done f) ≡ (list_all test done && names_pass test f)
      → list_all test (names_behind (names_behind done f) g) ≡ (list_all test (names_behind done f) && names_pass test g)
      → list_all test (names_behind (names_behind done f) g) ≡ (list_all test done && (names_pass test f && names_pass test g))
  two done f g one other =
      other ∙ (ap (λ b. b && names_pass test g) one ∙ and_assoc (list_all test done) (names_pass test f) (names_pass test g))

  mutual
    pub passing : (done : List Name) (f : Formula) → list_all test (names_behind done f) ≡ (list_all test done && names_pass test f)
    passing done (Numeral z) = sym (and_true (list_all test done))
    passing done (Boolean b) = sym (and_true (list_all test done))
    passing done (NilOf t) = sym (and_true (list_all test done))
    passing done (Named line x) = all_one_more test done (record { line = line; symbol = x })
    passing done (ClassOf line t) = sym (and_true (list_all test done))
    passing done (Element a i) = two done a i (passing done a) (passing (names_behind done a) i)
    passing done (FieldOf r f) = passing done r
    passing done (Content line t q) = passing done q
    passing done (Applied f fs) = all_passing done fs
    passing done (Known b fs) = all_passing done fs
    passing done (Negative f) = passing done f
    passing done (Calculated o f g) = two done f g (passing done f) (passing (names_behind done f) g)
    passing done (Compared o f g) = two done f g (passing done f) (passing (names_behind done f) g)
    passing done (Negated f) = passing done f
    passing done (Joined o f g) = two done f g (passing done f) (passing (names_behind done f) g)
    passing done (Implied f g) = two done f g (passing done f) (passing (names_behind done f) g)

    all_passing : (done : List Name) (fs : Formulas) → list_all test (all_names_behind done fs) ≡ (list_all test done && all_names_pass test fs)
    all_passing done no_formulas = sym (and_true (list_all test done))
    all_passing done (formulas f fs) =
        all_passing (names_behind done f) fs
        ∙ (ap (λ b. b && all_names_pass test fs) (passing done f) ∙ and_assoc (list_all test done) (names_pass test f) (all_names_pass test fs))

  -- where each name behind others passes, each name of the formula does, and each of the others
  pub formula_passes : (done : List Name) (f : Formula) → list_all test (names_behind done f) ≡ true → names_pass test f ≡ true
  formula_passes done f h = right_true (list_all test done) _ (sym (passing done f) ∙ h)

  pub others_pass : (done : List Name) (f : Formula) → list_all test (names_behind done f) ≡ true → list_all test done ≡ true
  others_pass done f h = left_true (list_all test done) (names_pass test f) (sym (passing done f) ∙ h)

-- ---- variables

pub none_unbound : (bound : Scope) (names : List Name) → first_unbound bound names ≡ None → list_all (λ n. is_some (found bound n.symbol)) names ≡ true
none_unbound bound [] e = refl
none_unbound bound (x ∷ names) e = by_case (is_some (found bound x.symbol)) e (none_unbound bound names)
  where
    by_case : (b : Bool) → cond b (first_unbound bound names) (Some x) ≡ None → (first_unbound bound names ≡ None → list_all (λ n. is_some (found bound n.symbol)) names ≡ true)
        → (b && list_all (λ n. is_some (found bound n.symbol)) names) ≡ true
    by_case true h more = more h
    by_case false h more = absurd (nothing_there (sym h))

abbrev has : Scope → Symbol → Bool
has vars x = is_some (found vars x)

abbrev among : List Name → Symbol → Bool
among names x = list_any (λ n. same_name n.symbol x) names

or_assoc : (a b c : Bool) → ((a || b) || c) ≡ (a || (b || c))
or_assoc true b c = refl
or_assoc false b c = refl

or_false : (a : Bool) → (a || false) ≡ a
or_false true = refl
or_false false = refl

some_first : {X : Type 0} (o p : Option X) → is_some (first_of o p) ≡ (is_some o || is_some p)
some_first (Some x) p = refl
some_first None p = refl

one_has : (y : Symbol) (s : Sort) (x : Symbol) → has ((y, s) ∷ []) x ≡ same_name y x
one_has y s x = by_case (same_name y x)
  where
    by_case : (b : Bool) → is_some (cond b (Some s) None) ≡ b
    by_case true = refl
    by_case false = refl

module _ (vars : Scope) where
  -- a name more is met
  met_has : (done : Scope) (n : Name) (x : Symbol) → has (met vars done n) x ≡ (has done x || same_name n.symbol x)
  met_has done n x = by_case (has done n.symbol) refl
    where
      same : (b : Bool) → same_name n.symbol x ≡ b → has done n.symbol ≡ true → has done x ≡ (has done x || b)
      same false e h = sym (or_false (has done x))
      same true e h =
          let there : has done x ≡ true = subst (λ y. has done y ≡ true) (same_names n.symbol x e) h in
          there ∙ sym (ap (λ b. b || true) there)

      by_case : (b : Bool) → has done n.symbol ≡ b
          → has (cond b done (done ++ (n.symbol, sort_or_int (found vars n.symbol)) ∷ [])) x ≡ (has done x || same_name n.symbol x)
      by_case true h = same (same_name n.symbol x) refl h
      by_case false h =
          ap is_some (found_append done ((n.symbol, sort_or_int (found vars n.symbol)) ∷ []) x)
          ∙ (some_first (found done x) (found ((n.symbol, sort_or_int (found vars n.symbol)) ∷ []) x)
          ∙ ap (λ b. has done x || b) (one_has n.symbol (sort_or_int (found vars n.symbol)) x))

  -- the variables are those of the names, and those that were there
  pub fold_has : (done : Scope) (names : List Name) (x : Symbol) → has (fold (met vars) done names) x ≡ (has done x || among names x)
  fold_has done [] x = sym (or_false (has done x))
  fold_has done (n ∷ names) x =
      fold_has (met vars done n) names x
      ∙ (ap (λ b. b || among names x) (met_has done n x) ∙ or_assoc (has done x) (same_name n.symbol x) (among names x))

  pub variables_have : (f : Formula) (x : Symbol) → has (variables_of vars f) x ≡ among (names_behind [] f) x
  variables_have f x = fold_has [] (names_behind [] f) x

  -- each has the sort that the file gives it
  abbrev Sorted : Scope → Type 0
  Sorted done = (x : Symbol) (s : Sort) → found done x ≡ Some s → s ≡ sort_or_int (found vars x)

  met_sorted : (done : Scope) (n : Name) → Sorted done → Sorted (met vars done n)
  met_sorted done n h = by_case (has done n.symbol)
    where
      last : (x : Symbol) (s : Sort) (o : Option Sort) → found done x ≡ o
          → first_of o (found ((n.symbol, sort_or_int (found vars n.symbol)) ∷ []) x) ≡ Some s → s ≡ sort_or_int (found vars x)
      last x s (Some r) e f = h x s (e ∙ f)
      last x s None e f = by_name (same_name n.symbol x) refl f
        where
          by_name : (b : Bool) → same_name n.symbol x ≡ b → cond b (Some (sort_or_int (found vars n.symbol))) None ≡ Some s → s ≡ sort_or_int (found vars x)
          by_name true k g = sym (some_is g) ∙ ap (λ y. sort_or_int (found vars y)) (same_names n.symbol x k)
          by_name false k g = absurd (nothing_there g)

      by_case : (b : Bool) → Sorted (cond b done (done ++ (n.symbol, sort_or_int (found vars n.symbol)) ∷ []))
      by_case true = h
      by_case false = λ x s e. last x s (found done x) refl (sym (found_append done ((n.symbol, sort_or_int (found vars n.symbol)) ∷ []) x) ∙ e)

  fold_sorted : (done : Scope) (names : List Name) → Sorted done → Sorted (fold (met vars) done names)
  fold_sorted done [] h = h
  fold_sorted done (n ∷ names) h = fold_sorted (met vars done n) names (met_sorted done n h)

  pub variables_sorted : (f : Formula) (x : Symbol) (s : Sort) → found (variables_of vars f) x ≡ Some s → s ≡ sort_or_int (found vars x)
  variables_sorted f = fold_sorted [] (names_behind [] f) (λ x s e. absurd (nothing_there e))

  -- no name stands twice
  apart_one : (done : Scope) (y : Symbol) (s : Sort) → AreApart done → found done y ≡ None → AreApart (done ++ (y, s) ∷ [])
  apart_one [] y s h e = (refl, tt)
  apart_one (v ∷ done) y s h e = by_name (same_name v.0 y) refl e (apart_one done y s h.1)
    where
      other : (b : Bool) → same_name y v.0 ≡ b → same_name v.0 y ≡ false → cond b (Some s) None ≡ None
      other false k d = refl
      other true k d =
          absurd (false≢true (sym d ∙ subst (λ z. same_name v.0 z ≡ true) (sym (same_names y v.0 k)) (name-refl v.0)))

      by_name : (b : Bool) → same_name v.0 y ≡ b → cond b (Some v.1) (found done y) ≡ None → (found done y ≡ None → AreApart (done ++ (y, s) ∷ []))
          → AreApart (v ∷ (done ++ (y, s) ∷ []))
      by_name true k f more = absurd (nothing_there (sym f))
      by_name false k f more = (still_new done ((y, s) ∷ []) v.0 h.0 (other (same_name y v.0) refl k), more f)

  none_of : {X : Type 0} (o : Option X) → is_some o ≡ false → o ≡ None
  none_of None h = refl
  none_of (Some x) h = absurd (true≢false h)

  met_apart : (done : Scope) (n : Name) → AreApart done → AreApart (met vars done n)
  met_apart done n h = by_case (has done n.symbol) refl
    where
      by_case : (b : Bool) → has done n.symbol ≡ b → AreApart (cond b done (done ++ (n.symbol, sort_or_int (found vars n.symbol)) ∷ []))
      by_case true e = h
      by_case false e = apart_one done n.symbol (sort_or_int (found vars n.symbol)) h (none_of (found done n.symbol) e)

  fold_apart : (done : Scope) (names : List Name) → AreApart done → AreApart (fold (met vars) done names)
  fold_apart done [] h = h
  fold_apart done (n ∷ names) h = fold_apart (met vars done n) names (met_apart done n h)

  pub variables_apart : (f : Formula) → AreApart (variables_of vars f)
  variables_apart f = fold_apart [] (names_behind [] f) tt

-- each of some names is among them
pub each_among : (names : List Name) (test : Symbol → Bool) → ((x : Symbol) → among names x ≡ true → test x ≡ true) → list_all (λ n. test n.symbol) names ≡ true
each_among [] test h = refl
each_among (n ∷ names) test h =
    both (test n.symbol) _ (h n.symbol (ap (λ b. b || among names n.symbol) (name-refl n.symbol)))
    (each_among names test (λ x k. h x (or_right (same_name n.symbol x) (among names x) k)))
  where
    both : (a b : Bool) → a ≡ true → b ≡ true → (a && b) ≡ true
    both a b f g = ap (λ c. c && b) f ∙ g

    or_right : (a b : Bool) → b ≡ true → (a || b) ≡ true
    or_right true b k = refl
    or_right false b k = k
