-- What a variable, a numeral and a test find.
use Rattle.std.proofs.Common.{◌≡◌, ℕ, ◌<◌, Bool, true, false, List, [], ◌∷◌, ◌++◌, length, Some, None, Result, Ok, refl, sym, ap, ◌∙◌, subst, cond}
use Rattle.std.specs.Option.{option_map}
use Rattle.std.proofs.lemmas.List.{map-append}
use Rattle.spv_logic.specs.declared.conditions.TermId.{TermId}
use Rattle.spv_logic.specs.declared.operators.Head.{Head}
use Rattle.spv_logic.specs.Terms.{Term, head_eq, sort_eq}
use Rattle.spv_logic.specs.Fits.{on_sort}
use Rattle.spv_logic.specs.Sorts.{term_sort, variable_sort}
use Rattle.spv_term.specs.Arena.{Arena, IsArena, tree, sort_at}
use Rattle.spv_term.proofs.ArenaLemmas.{IsWellSorted-arena}
use Rattle.spv_rules.specs.declared.matching.faults.MatchFault.{MatchFault}
use Rattle.spv_rules.specs.declared.matching.bindings.Bound.{Bound}
use Rattle.spv_rules.specs.matching.Matches.{Wide, Found, Setting, if_passes, bound, met}
use Rattle.spv_rules.specs.matching.Views.{bindings_in, all_in, bound_id, AreBound, AllBound, GoesOn, IsMatchFault}
use Rattle.spv_rules.proofs.matching.Sequences.{behind-end, stops_too, err_after}

-- ---- ranges

pub AreBound-append : (n : ℕ) (b c : List Bound) → AreBound n b → AreBound n c → AreBound n (b ++ c)
AreBound-append n [] c h k = k
AreBound-append n (p ∷ b) c h k = (h.0, AreBound-append n b c h.1 k)

pub AllBound-append : (n : ℕ) (xs ys : List (List Bound)) → AllBound n xs → AllBound n ys → AllBound n (xs ++ ys)
AllBound-append n [] ys h k = k
AllBound-append n (x ∷ xs) ys h k = (h.0, AllBound-append n xs ys h.1 k)

-- ---- variables

pub bound-in : (a : Arena) (b : List Bound) (x : Head) → option_map (tree a) (bound_id b x) ≡ bound (bindings_in a b) x
bound-in a [] x = refl
bound-in a (p ∷ b) x = by_case (head_eq p.variable x) (bound-in a b x)
  where
    by_case : (c : Bool) → option_map (tree a) (bound_id b x) ≡ bound (bindings_in a b) x → option_map (tree a) (cond c (Some p.term) (bound_id b x)) ≡ cond c (Some (tree a p.term)) (bound (bindings_in a b) x)
    by_case true e = refl
    by_case false e = e

pub bound_below : (n : ℕ) (b : List Bound) (x : Head) (t : TermId) → AreBound n b → Some t ≡ bound_id b x → t.0 < n
bound_below n [] x t h e = cc
bound_below n (p ∷ b) x t h e = by_case (head_eq p.variable x) (bound_below n b x t h.1) e
  where
    by_case : (c : Bool) → (Some t ≡ bound_id b x → t.0 < n) → Some t ≡ cond c (Some p.term) (bound_id b x) → t.0 < n
    by_case true later f = let g : p.term ≡ t = cc in subst (λ (u : TermId). u.0 < n) g h.0
    by_case false later f = later f

-- the variable has met no term, or this one
pub met_none : (a : Arena) (b : List Bound) (x : Head) → None ≡ bound_id b x → bound (bindings_in a b) x ≡ None
met_none a b x e = sym (bound-in a b x) ∙ ap (option_map (tree a)) (sym e)

pub met_some : (a : Arena) (b : List Bound) (x : Head) (t : TermId) → Some t ≡ bound_id b x → bound (bindings_in a b) x ≡ Some (tree a t)
met_some a b x t e = sym (bound-in a b x) ∙ ap (option_map (tree a)) (sym e)

pub sort_found : (a : Arena) → IsArena a → (t : TermId) → t.0 < length a.nodes → (x : Head) (c : Bool) → c ≡ sort_eq (variable_sort x) (sort_at a t) → c ≡ on_sort (term_sort a.shapes a.decls (tree a t)) (sort_eq (variable_sort x))
sort_found a ok t h x c e = e ∙ sym (ap (λ o. on_sort o (sort_eq (variable_sort x))) (IsWellSorted-arena a ok t h))

-- ---- matches

module _ (a : Arena) (old : List (List Bound)) (known : AllBound (length a.nodes) old) where
  pub nothing_more : GoesOn a (Ok []) old old
  nothing_more = record { same = behind-end (all_in a old); in_range = known }

  pub one_match : (b : List Bound) → AreBound (length a.nodes) b → (new : List (List Bound)) → new ≡ old ++ b ∷ [] → GoesOn a (Ok (bindings_in a b ∷ [])) old new
  one_match b h new e = record {
    same = ap (λ (xs : List (List (Head × Term))). Ok xs) (sym (map-append (bindings_in a) old (b ∷ []))) ∙ ap (λ xs. Ok (all_in a xs)) (sym e);
    in_range = subst (AllBound (length a.nodes)) (sym e) (AllBound-append (length a.nodes) old (b ∷ []) known (h, tt));
  }

  pub test_failed : (test : Result Bool Wide) (found : Found) → test ≡ Ok false → GoesOn a (if_passes test found) old old
  test_failed test found e = subst (λ (r : Result Bool Wide). GoesOn a (if_passes r found) old old) (sym e) nothing_more

  pub test_passed : (test : Result Bool Wide) (found : Found) (new : List (List Bound)) → test ≡ Ok true → GoesOn a found old new → GoesOn a (if_passes test found) old new
  test_passed test found new e h = subst (λ (r : Result Bool Wide). GoesOn a (if_passes r found) old new) (sym e) h

  -- a variable that has met no term
  pub other_sort : (m : Setting) (x : Head) (t : Term) (b : List (Head × Term)) → false ≡ on_sort (term_sort m.shapes m.decls t) (sort_eq (variable_sort x)) → GoesOn a (met m x None t b) old old
  other_sort m x t b e = subst (λ (c : Bool). GoesOn a (Ok (cond c ((b ++ (x, t) ∷ []) ∷ []) [])) old old) e nothing_more

  pub same_sort : (m : Setting) (x : Head) (u : TermId) (b more : List Bound) → AreBound (length a.nodes) b → u.0 < length a.nodes → true ≡ on_sort (term_sort m.shapes m.decls (tree a u)) (sort_eq (variable_sort x))
      → more ≡ b ++ (record { variable = x; term = u }) ∷ [] → (new : List (List Bound)) → new ≡ old ++ more ∷ [] → GoesOn a (met m x None (tree a u) (bindings_in a b)) old new
  same_sort m x u b more h k e f new g =
      subst (λ (c : Bool). GoesOn a (Ok (cond c ((bindings_in a b ++ (x, tree a u) ∷ []) ∷ []) [])) old new) e
      (subst (λ (y : List (Head × Term)). GoesOn a (Ok (y ∷ [])) old new) (ap (bindings_in a) f ∙ map-append (λ (p : Bound). (p.variable, tree a p.term)) b (record { variable = x; term = u } ∷ []))
      (one_match more (subst (AreBound (length a.nodes)) (sym f) (AreBound-append (length a.nodes) b _ h (k, tt))) new g))

pub test_stops : (a : Arena) (test : Result Bool Wide) (found : Found) (e : MatchFault) → IsMatchFault a test e → IsMatchFault a (if_passes test found) e
test_stops a test found = stops_too a test (if_passes test found) (err_after test _)

-- behind a test that passed
pub passed_stops : (a : Arena) (test : Result Bool Wide) (found : Found) (e : MatchFault) → test ≡ Ok true → IsMatchFault a found e → IsMatchFault a (if_passes test found) e
passed_stops a test found e is = stops_too a found (if_passes test found) (λ w h. ap (λ (r : Result Bool Wide). if_passes r found) is ∙ h) e
