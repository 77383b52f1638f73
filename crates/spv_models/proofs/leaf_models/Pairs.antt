-- Each two terms of a list have their equations among all equations.
use Rattle.std.proofs.Common.{◌≡◌, true, cond, ◌||◌, List, [], ◌∷◌, ◌++◌, refl, sym, ap, ◌∙◌, subst, Option, Some, None}
use Rattle.std.specs.Prelude.{is_some}
use Rattle.std.specs.List.{flat_map}
use Rattle.std.specs.Cmp.Derive.{both_true}
use Rattle.std.proofs.lemmas.Bool.{false≢true}
use Rattle.spv_logic.specs.declared.types.Sort.{Sort}
use Rattle.spv_logic.specs.declared.types.Shape.{Shape}
use Rattle.spv_logic.specs.declared.types.Decl.{Decl}
use Rattle.spv_logic.specs.declared.operators.Head.{Head}
use Rattle.spv_logic.specs.Terms.{Term, Terms, term, term_eq}
use Rattle.spv_logic.specs.Formulas.{equation}
use Rattle.spv_logic.specs.Sorts.{sorts_eq, term_sorts}
use Rattle.spv_logic.proofs.Equality.{head_eq-refl, sort_eq-refl, term_eq-true}
use Rattle.spv_atoms.specs.Atoms.{is_truth, is_number, only_if}
use Rattle.spv_atoms.proofs.Members.{has, or_cases, has-left, has-right}
use Rattle.spv_models.specs.leaf_models.Subterms.{is_listed}
use Rattle.spv_models.specs.leaf_models.Atoms.{same_sorts, argument_equations, are_comparable, equations_of, pair_equations, all_equations}
use Rattle.spv_models.proofs.leaf_models.Lookups.{has-flat_map}

-- each of these equations is among those
pub record AreAmong (others ts : List Term) : Type 0 where
  pub each : (e : Term) → has ts e ≡ true → has others e ≡ true

sorts_same : (ss : List Sort) → sorts_eq ss ss ≡ true
sorts_same [] = refl
sorts_same (s ∷ ss) = both_true (sort_eq-refl s) (sorts_same ss)

sorts_known : (o p : Option (List Sort)) → is_some o ≡ true → o ≡ p → same_sorts o p ≡ true
sorts_known None p h e = absurd (false≢true h)
sorts_known (Some ss) p h e = ap (same_sorts (Some ss)) (sym e) ∙ sorts_same ss

module _ (shapes : List Shape) (decls : List Decl) where
  -- two terms of a list are one, or the equations of the earlier with the later one are there
  pub data ArePaired (others : List Term) (s t : Term) : Type 0 where
    AreOne : s ≡ t → ArePaired others s t
    IsEarlier : AreAmong others (pair_equations shapes decls s t) → ArePaired others s t
    IsLater : AreAmong others (pair_equations shapes decls t s) → ArePaired others s t

  behind : (xs others : List Term) (s t : Term) → ArePaired others s t → ArePaired (xs ++ others) s t
  behind xs others s t (AreOne e) = AreOne e
  behind xs others s t (IsEarlier h) = IsEarlier (record { each = λ e k. has-right xs others e (h.each e k) })
  behind xs others s t (IsLater h) = IsLater (record { each = λ e k. has-right xs others e (h.each e k) })

  -- those of the first term with one of the others
  first_with : (u t : Term) (us : List Term) → has us t ≡ true → AreAmong (all_equations shapes decls (u ∷ us)) (pair_equations shapes decls u t)
  first_with u t us h = record { each = λ e k. has-left (flat_map (pair_equations shapes decls u) us) (all_equations shapes decls us) e (has-flat_map (pair_equations shapes decls u) us t e h k) }

  pub paired : (ts : List Term) (s t : Term) → has ts s ≡ true → has ts t ≡ true → ArePaired (all_equations shapes decls ts) s t
  paired [] s t h k = absurd (false≢true h)
  paired (u ∷ us) s t h k =
      or_cases (term_eq s u) (has us s) h
      (λ e. or_cases (term_eq t u) (has us t) k (λ f. AreOne (term_eq-true s u e ∙ sym (term_eq-true t u f)))
      (λ f. subst (λ (x : Term). ArePaired (all_equations shapes decls (u ∷ us)) x t) (sym (term_eq-true s u e)) (IsEarlier (first_with u t us f))))
      (λ e. or_cases (term_eq t u) (has us t) k
      (λ f. subst (λ (x : Term). ArePaired (all_equations shapes decls (u ∷ us)) s x) (sym (term_eq-true t u f)) (IsLater (first_with u s us e)))
      (λ f. behind (flat_map (pair_equations shapes decls u) us) (all_equations shapes decls us) s t (paired us s t e f)))

  -- ---- the equations of two comparable applications

  pub comparable : (h : Head) (ss us : Terms) → is_some (term_sorts shapes decls ss) ≡ true → term_sorts shapes decls ss ≡ term_sorts shapes decls us → (is_listed (term h ss) || is_listed (term h us)) ≡ true
      → are_comparable shapes decls (term h ss) (term h us) ≡ true
  comparable h ss us sorted same listed = both_true (head_eq-refl h) (both_true (sorts_known (term_sorts shapes decls ss) (term_sorts shapes decls us) sorted same) listed)

  pub arguments_among : (others : List Term) (h : Head) (ss us : Terms) → are_comparable shapes decls (term h ss) (term h us) ≡ true → AreAmong others (pair_equations shapes decls (term h ss) (term h us))
      → AreAmong others (argument_equations (is_truth shapes decls) ss us)
  arguments_among others h ss us c among = record {
    each = λ e k. among.each e (ap (λ b. has (cond b (equations_of shapes decls (term h ss) (term h us)) []) e) c
        ∙ has-left (argument_equations (is_truth shapes decls) ss us) (only_if (is_number shapes decls (term h ss)) (equation (term h ss) (term h us))) e k);
  }
