-- Terms of the same sorts in the place of variables leave the sort of a term as it is.
use Rattle.std.proofs.Common.{◌≡◌, Bool, true, false, cond, List, [], ◌∷◌, Option, Some, None, refl, sym, ap, subst, ◌∙◌}
use Rattle.std.proofs.lemmas.Bool.{false≢true}
use Rattle.spv_logic.specs.declared.types.Sort.{Sort}
use Rattle.spv_logic.specs.declared.types.Shape.{Shape}
use Rattle.spv_logic.specs.declared.types.Decl.{Decl}
use Rattle.spv_logic.specs.declared.operators.Head.{Head}
use Rattle.spv_logic.specs.declared.operators.Head.TheVariants as head
use Rattle.spv_logic.specs.Terms.{Term, Terms, term, no_terms, terms, head_eq}
use Rattle.spv_logic.specs.Sorts.{variable_sort, result_sort, term_sort, term_sorts, with_sorts, sort_before}
use Rattle.spv_logic.specs.Substitution.{Replacement, is_variable, replacement_at, replaced, substitute, substitute_all}
use Rattle.spv_logic.proofs.Equality.{head_eq-true}
use Rattle.spv_logic.proofs.Sorting.{taken}
use Rattle.spv_program.specs.Programs.{Program, shapes}
use Rattle.spv_program.specs.Laws.{HasSort}
use Rattle.spv_program.specs.Calls.{replacing}
use Rattle.spv_program.proofs.SortFacts.{nothing_there, some_is}

-- ---- a sort that is there

record Behind (o : Option (List Sort)) (go : List Sort → Option Sort) (s : Sort) : Type 0 where
  sorts : List Sort
  is : o ≡ Some sorts
  gives : go sorts ≡ Some s

behind : (o : Option (List Sort)) (go : List Sort → Option Sort) (s : Sort) → with_sorts o go ≡ Some s → Behind o go s
behind None go s e = absurd (nothing_there e)
behind (Some sorts) go s e = record { sorts = sorts; is = refl; gives = e }

record Before (o : Option Sort) (others : Option (List Sort)) (sorts : List Sort) : Type 0 where
  first : Sort
  rest : List Sort
  first_is : o ≡ Some first
  rest_is : others ≡ Some rest
  same : Some (first ∷ rest) ≡ Some sorts

before_is : (o : Option Sort) (others : Option (List Sort)) (sorts : List Sort) → sort_before o others ≡ Some sorts → Before o others sorts
before_is None others sorts e = absurd (nothing_there e)
before_is (Some s) None sorts e = absurd (nothing_there e)
before_is (Some s) (Some rest) sorts e = record { first = s; rest = rest; first_is = refl; rest_is = refl; same = e }

-- ---- variables

variable_is : (shapes : List Shape) (decls : List Decl) (h : Head) (given : List Sort) (s : Sort) → is_variable h ≡ true → result_sort shapes decls h given ≡ Some s → variable_sort h ≡ s
variable_is shapes decls (head.Var x t n) given s v e = (taken [] given t s e).result_is
variable_is shapes decls (head.ClassVar t n) given s v e = (taken [] given _ s e).result_is
variable_is shapes decls (head.Start x t) given s v e = (taken [] given t s e).result_is
variable_is shapes decls _ given s v e = absurd (false≢true v)

-- ---- substitution

-- each term has the sort of the variable in whose place it stands
abbrev pub Keeps : Program → Replacement → Type 0
Keeps p by = (h : Head) (u : Term) → by h ≡ Some u → HasSort p u (variable_sort h)

module _ (p : Program) (by : Replacement) (keeps : Keeps p by) where
  placed : (h : Head) (ts : Terms) (sorts : List Sort) (s : Sort) → term_sorts (shapes p) p.symbols (substitute_all by ts) ≡ Some sorts → result_sort (shapes p) p.symbols h sorts ≡ Some s
      → (b : Bool) → is_variable h ≡ b → (o : Option Term) → by h ≡ o → HasSort p (replaced (replacement_at b o) (term h (substitute_all by ts))) s
  placed h ts sorts s given gives true v (Some u) is = keeps h u is ∙ ap Some (variable_is (shapes p) p.symbols h sorts s v gives)
  placed h ts sorts s given gives true v None is = ap (λ o. with_sorts o (result_sort (shapes p) p.symbols h)) given ∙ gives
  placed h ts sorts s given gives false v o is = ap (λ o. with_sorts o (result_sort (shapes p) p.symbols h)) given ∙ gives

  mutual
    pub substituted : (t : Term) (s : Sort) → HasSort p t s → HasSort p (substitute by t) s
    substituted (term h ts) s e =
        let k = behind (term_sorts (shapes p) p.symbols ts) (result_sort (shapes p) p.symbols h) s e in
        placed h ts k.sorts s (all_substituted ts k.sorts k.is) k.gives (is_variable h) refl (by h) refl

    all_substituted : (ts : Terms) (sorts : List Sort) → term_sorts (shapes p) p.symbols ts ≡ Some sorts → term_sorts (shapes p) p.symbols (substitute_all by ts) ≡ Some sorts
    all_substituted no_terms sorts e = e
    all_substituted (terms t ts) sorts e =
        let k = before_is (term_sort (shapes p) p.symbols t) (term_sorts (shapes p) p.symbols ts) sorts e in
        ap (λ o. sort_before o (term_sorts (shapes p) p.symbols (substitute_all by ts))) (substituted t k.first k.first_is)
        ∙ (ap (sort_before (Some k.first)) (all_substituted ts k.rest k.rest_is) ∙ k.same)

-- ---- pairs

abbrev pub AllKeep : Program → List (Head × Term) → Type 0
AllKeep p [] = Unit {0}
AllKeep p (pair ∷ pairs) = HasSort p pair.1 (variable_sort pair.0) × AllKeep p pairs

kept_at : (p : Program) (pair : Head × Term) (others : Option Term) (h : Head) (u : Term) → HasSort p pair.1 (variable_sort pair.0) → (others ≡ Some u → HasSort p u (variable_sort h))
    → (b : Bool) → head_eq h pair.0 ≡ b → cond b (Some pair.1) others ≡ Some u → HasSort p u (variable_sort h)
kept_at p pair others h u sorted rest true same is =
    subst (λ (x : Term). HasSort p x (variable_sort h)) (some_is is)
    (subst (λ (k : Head). HasSort p pair.1 (variable_sort k)) (sym (head_eq-true h pair.0 same)) sorted)
kept_at p pair others h u sorted rest false differ is = rest is

pub pairs_keep : (p : Program) (pairs : List (Head × Term)) → AllKeep p pairs → Keeps p (replacing pairs)
pairs_keep p [] all h u e = absurd (nothing_there e)
pairs_keep p (pair ∷ pairs) all h u e = kept_at p pair (replacing pairs h) h u all.0 (pairs_keep p pairs all.1 h u) (head_eq h pair.0) refl e
