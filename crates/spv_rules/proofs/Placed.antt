-- Terms that stand in the place of variables: of their sorts, and of ids.
use Rattle.std.proofs.Common.{◌≡◌, ℕ, zero, suc, ◌<◌, Bool, true, false, cond, ◌&&◌, List, [], ◌∷◌, map, length, Option, Some, None, refl, sym, ap, ◌∙◌, subst, arith}
use Rattle.std.specs.List.{list_all}
use Rattle.std.specs.Option.{option_map}
use Rattle.std.specs.Cmp.Derive.{both_true}
use Rattle.std.proofs.lemmas.Bool.{false≢true}
use Rattle.std.proofs.lemmas.Option.{same_Some}
use Rattle.spv_logic.proofs.list.Tests.{left_true, right_true}
use Rattle.spv_logic.specs.declared.conditions.TermId.{TermId}
use Rattle.spv_logic.specs.declared.types.Sort.{Sort}
use Rattle.spv_logic.specs.declared.types.Shape.{Shape}
use Rattle.spv_logic.specs.declared.types.Decl.{Decl}
use Rattle.spv_logic.specs.declared.operators.Head.{Head}
use Rattle.spv_logic.specs.declared.operators.Head.TheVariants as head
use Rattle.spv_logic.specs.Terms.{Term, Terms, term, no_terms, terms, head_eq, sort_eq, heads_pass, all_heads_pass}
use Rattle.spv_logic.specs.Fits.{on_sort}
use Rattle.spv_logic.specs.Sorts.{variable_sort, result_sort, term_sort, term_sorts, with_sorts, sort_before, head_in_range, numeral_fits}
use Rattle.spv_logic.specs.Substitution.{Replacement, is_variable, replacement_at, replaced, substitute, substitute_all}
use Rattle.spv_logic.proofs.Equality.{head_eq-true, sort_eq-true}
use Rattle.spv_logic.proofs.Sorting.{taken}
use Rattle.spv_term.specs.Arena.{Arena, IsArena, AllBelow, tree, trees}
use Rattle.spv_term.proofs.TreeLemmas.{AllBelow-le}
use Rattle.spv_term.proofs.ArenaLemmas.{node_of, tree-node, args_before}
use Rattle.spv_proof_rules.specs.Rules.{placed, have_sorts}
use Rattle.spv_rules.specs.RuleSets.{is_rule_variable}
use Rattle.spv_rules.specs.making.Sketching.{id_for}

nothing_there : {X : Type 0} {x : X} → None ≡ Some x → ⊥
nothing_there e = cc

-- ---- a sort that is there

record Behind (o : Option (List Sort)) (go : List Sort → Option Sort) (s : Sort) : Type 0 where
  sorts : List Sort
  is : o ≡ Some sorts
  gives : go sorts ≡ Some s

behind : (o : Option (List Sort)) (go : List Sort → Option Sort) (s : Sort) → with_sorts o go ≡ Some s → Behind o go s
behind None go s e = absurd (nothing_there e)
behind (Some sorts) go s e = record { sorts = sorts; is = refl; gives = e }

record Before (o : Option Sort) (others : Option (List Sort)) (sorts : List Sort) : Type 0 where
  first : Sort
  rest : List Sort
  first_is : o ≡ Some first
  rest_is : others ≡ Some rest
  same : Some (first ∷ rest) ≡ Some sorts

before_is : (o : Option Sort) (others : Option (List Sort)) (sorts : List Sort) → sort_before o others ≡ Some sorts → Before o others sorts
before_is None others sorts e = absurd (nothing_there e)
before_is (Some s) None sorts e = absurd (nothing_there e)
before_is (Some s) (Some rest) sorts e = record { first = s; rest = rest; first_is = refl; rest_is = refl; same = e }

-- ---- substitution leaves sorts as they are

variable_is : (shapes : List Shape) (decls : List Decl) (h : Head) (given : List Sort) (s : Sort) → is_variable h ≡ true → result_sort shapes decls h given ≡ Some s → variable_sort h ≡ s
variable_is shapes decls (head.Var x t n) given s v e = (taken [] given t s e).result_is
variable_is shapes decls (head.ClassVar t n) given s v e = (taken [] given _ s e).result_is
variable_is shapes decls (head.Start x t) given s v e = (taken [] given t s e).result_is
variable_is shapes decls _ given s v e = absurd (false≢true v)

-- each term has the sort of the variable in whose place it stands
abbrev pub Keeps : List Shape → List Decl → Replacement → Type 0
Keeps shapes decls by = (h : Head) (u : Term) → by h ≡ Some u → term_sort shapes decls u ≡ Some (variable_sort h)

module _ (shapes : List Shape) (decls : List Decl) (by : Replacement) (keeps : Keeps shapes decls by) where
  put_in : (h : Head) (ts : Terms) (sorts : List Sort) (s : Sort) → term_sorts shapes decls (substitute_all by ts) ≡ Some sorts → result_sort shapes decls h sorts ≡ Some s
      → (b : Bool) → is_variable h ≡ b → (o : Option Term) → by h ≡ o → term_sort shapes decls (replaced (replacement_at b o) (term h (substitute_all by ts))) ≡ Some s
  put_in h ts sorts s given gives true v (Some u) is = keeps h u is ∙ ap Some (variable_is shapes decls h sorts s v gives)
  put_in h ts sorts s given gives true v None is = ap (λ o. with_sorts o (result_sort shapes decls h)) given ∙ gives
  put_in h ts sorts s given gives false v o is = ap (λ o. with_sorts o (result_sort shapes decls h)) given ∙ gives

  mutual
    pub substituted : (t : Term) (s : Sort) → term_sort shapes decls t ≡ Some s → term_sort shapes decls (substitute by t) ≡ Some s
    substituted (term h ts) s e =
        let k = behind (term_sorts shapes decls ts) (result_sort shapes decls h) s e in
        put_in h ts k.sorts s (all_substituted ts k.sorts k.is) k.gives (is_variable h) refl (by h) refl

    all_substituted : (ts : Terms) (sorts : List Sort) → term_sorts shapes decls ts ≡ Some sorts → term_sorts shapes decls (substitute_all by ts) ≡ Some sorts
    all_substituted no_terms sorts e = e
    all_substituted (terms t ts) sorts e =
        let k = before_is (term_sort shapes decls t) (term_sorts shapes decls ts) sorts e in
        ap (λ o. sort_before o (term_sorts shapes decls (substitute_all by ts))) (substituted t k.first k.first_is)
        ∙ (ap (sort_before (Some k.first)) (all_substituted ts k.rest k.rest_is) ∙ k.same)

-- ---- terms that have the sorts of variables

sort_there : (o : Option Sort) (s : Sort) → on_sort o (sort_eq s) ≡ true → o ≡ Some s
sort_there None s h = absurd (false≢true h)
sort_there (Some t) s h = ap Some (sym (sort_eq-true s t h))

module _ (shapes : List Shape) (decls : List Decl) where
  pub placed_keep : (xs : List Head) (ts : List Term) → have_sorts shapes decls xs ts ≡ true → Keeps shapes decls (placed xs ts)
  placed_keep [] ts e h u k = absurd (nothing_there k)
  placed_keep (x ∷ xs) [] e h u k = absurd (nothing_there k)
  placed_keep (x ∷ xs) (t ∷ ts) e h u k = by_case (head_eq x h) refl (placed_keep xs ts (right_true (on_sort (term_sort shapes decls t) (sort_eq (variable_sort x))) _ e) h u) k
    where
      by_case : (b : Bool) → head_eq x h ≡ b → (placed xs ts h ≡ Some u → term_sort shapes decls u ≡ Some (variable_sort h)) → cond b (Some t) (placed xs ts h) ≡ Some u
          → term_sort shapes decls u ≡ Some (variable_sort h)
      by_case true f later k =
          subst (λ v. term_sort shapes decls v ≡ Some (variable_sort h)) (same_Some t u k)
          (sort_there (term_sort shapes decls t) (variable_sort x) (left_true (on_sort (term_sort shapes decls t) (sort_eq (variable_sort x))) _ e) ∙ ap (λ y. Some (variable_sort y)) (head_eq-true x h f))
      by_case false f later k = later k

  pub sorts_many : (xs : List Head) (ts : List Term) → have_sorts shapes decls xs ts ≡ true → length xs ≡ length ts
  sorts_many [] [] e = refl
  sorts_many [] (t ∷ ts) e = absurd (false≢true e)
  sorts_many (x ∷ xs) [] e = absurd (false≢true e)
  sorts_many (x ∷ xs) (t ∷ ts) e = ap suc (sorts_many xs ts (right_true (on_sort (term_sort shapes decls t) (sort_eq (variable_sort x))) _ e))

  pub too_many : (xs : List Head) (ts : List Term) → (length xs ≡ length ts → ⊥) → have_sorts shapes decls xs ts ≡ false
  too_many xs ts differ = by_case (have_sorts shapes decls xs ts) refl
    where
      by_case : (b : Bool) → have_sorts shapes decls xs ts ≡ b → b ≡ false
      by_case true e = absurd (differ (sorts_many xs ts e))
      by_case false e = refl

-- ---- ids in the place of variables

module _ (at : TermId → Term) where
  pub placed-ids : (xs : List Head) (us : List TermId) (h : Head) → placed xs (map at us) h ≡ option_map at (id_for xs us h)
  placed-ids [] us h = refl
  placed-ids (x ∷ xs) [] h = refl
  placed-ids (x ∷ xs) (u ∷ us) h = by_case (head_eq x h) (placed-ids xs us h)
    where
      by_case : (b : Bool) → placed xs (map at us) h ≡ option_map at (id_for xs us h) → cond b (Some (at u)) (placed xs (map at us) h) ≡ option_map at (cond b (Some u) (id_for xs us h))
      by_case true later = refl
      by_case false later = later

rule_variable : (h : Head) → is_rule_variable h ≡ true → is_variable h ≡ true
rule_variable (head.Var x s n) e = refl
rule_variable _ e = absurd (false≢true e)

pub id_for-variable : (xs : List Head) (us : List TermId) → list_all is_rule_variable xs ≡ true → (h : Head) (u : TermId) → id_for xs us h ≡ Some u → is_variable h ≡ true
id_for-variable [] us all h u e = absurd (nothing_there e)
id_for-variable (x ∷ xs) [] all h u e = absurd (nothing_there e)
id_for-variable (x ∷ xs) (v ∷ us) all h u e = by_case (head_eq x h) refl (id_for-variable xs us (right_true (is_rule_variable x) _ all) h u) e
  where
    by_case : (b : Bool) → head_eq x h ≡ b → (id_for xs us h ≡ Some u → is_variable h ≡ true) → cond b (Some v) (id_for xs us h) ≡ Some u → is_variable h ≡ true
    by_case true f later k = ap is_variable (sym (head_eq-true x h f)) ∙ rule_variable x (left_true (is_rule_variable x) _ all)
    by_case false f later k = later k

pub id_for-below : (n : ℕ) (xs : List Head) (us : List TermId) → AllBelow n us → (h : Head) (u : TermId) → id_for xs us h ≡ Some u → u.0 < n
id_for-below n [] us all h u e = absurd (nothing_there e)
id_for-below n (x ∷ xs) [] all h u e = absurd (nothing_there e)
id_for-below n (x ∷ xs) (v ∷ us) all h u e = by_case (head_eq x h) (id_for-below n xs us all.1 h u) e
  where
    by_case : (b : Bool) → (id_for xs us h ≡ Some u → u.0 < n) → cond b (Some v) (id_for xs us h) ≡ Some u → u.0 < n
    by_case true later k = subst (λ (w : TermId). w.0 < n) (same_Some v u k) all.0
    by_case false later k = later k

-- ---- heads of an arena

abbrev pub may_stand : List Shape → Head → Bool
may_stand shapes h = head_in_range shapes h && numeral_fits h

module _ (a : Arena) (ok : IsArena a) where
  heads-args : (n : ℕ) → ((t : TermId) → t.0 < n → t.0 < length a.nodes → heads_pass (may_stand a.shapes) (tree a t) ≡ true) → (ts : List TermId) → AllBelow n ts → AllBelow (length a.nodes) ts
      → all_heads_pass (may_stand a.shapes) (trees a ts) ≡ true
  heads-args n earlier [] low h = refl
  heads-args n earlier (t ∷ ts) low h = both_true (earlier t low.0 h.0) (heads-args n earlier ts low.1 h.1)

  heads-below : (n : ℕ) (t : TermId) → t.0 < n → t.0 < length a.nodes → heads_pass (may_stand a.shapes) (tree a t) ≡ true
  heads-below zero t low h = absurd (omega arith)
  heads-below (suc n) t low h =
      let m = node_of a ok t h in
      let before = args_before a ok t m.0 m.1 in
      let may = ok.nodes t.0 m.0 m.1 in
      let args = heads-args n (λ u l k. heads-below n u l k) m.0.args (AllBelow-le t.0 n m.0.args (omega arith) before) (AllBelow-le t.0 (length a.nodes) m.0.args (omega arith) before) in
      ap (heads_pass (may_stand a.shapes)) (tree-node a ok t m.0 m.1) ∙ both_true (both_true may.types may.numeral) args

  pub heads-arena : (t : TermId) → t.0 < length a.nodes → heads_pass (may_stand a.shapes) (tree a t) ≡ true
  heads-arena t h = heads-below (suc t.0) t (omega arith) h
