-- A condition in an arena of its own: it is as a recheck wants it, and what is found of it there was found of the condition.
use Rattle.std.proofs.Common.{◌≡◌, ℕ, ◌<◌, Bool, true, false, List, [], ◌∷◌, map, length, Option, Some, refl, sym, ap, subst, ◌∙◌, arith}
use Rattle.spv_logic.specs.declared.conditions.TermId.{TermId}
use Rattle.spv_logic.specs.declared.types.Sort.TheVariants as sort
use Rattle.spv_logic.specs.declared.types.Shape.{Shape}
use Rattle.spv_logic.specs.declared.types.Decl.{Decl}
use Rattle.spv_logic.specs.Terms.{term_eq}
use Rattle.spv_logic.specs.Conditions.{Sequent}
use Rattle.spv_logic.proofs.Equality.{sort_eq-true, term_eq-refl}
use Rattle.spv_term.specs.declared.nodes.Condition.{Condition}
use Rattle.spv_term.specs.Arena.{Arena, IsArena, AllBelow, Extends, sequent, tree, sort_at}
use Rattle.spv_term.proofs.ArenaLemmas.{IsWellSorted-arena, KeepsOld-Extends, length-Extends}
use Rattle.spv_atoms.specs.Atoms.{has_sort, is_truth}
use Rattle.spv_atoms.proofs.Members.{or_left, or_right, has-left, has-last}
use Rattle.spv_proof_steps.specs.Candidates.{IsBool, AllFormulas}
use Rattle.spv_proof.specs.checker.Ends.{ConditionIn}
use Rattle.spv_models.specs.leaf_models.Laws.{AreFormulas}
use Rattle.spv_models.specs.leaf_models.Subterms.{is_among}
use Rattle.spv_models.specs.leaf_models.Tables.{formulas_of}
use Rattle.spv_search_terms.specs.condition_copy.Copies.{all_terms, IsSameClaim, IsCopy}
use Rattle.spv_search_terms.specs.declared.condition_copy.filling.Copied.{Copied}
use Rattle.spv_verdicts.specs.declared.answers.verdicts.Verdict.{Verdict}
use Rattle.spv_verdicts.specs.answers.Views.{verdict_in}
use Rattle.spv_listing_values.specs.declared.data.Header.{Header}
use Rattle.spv_listing_values.specs.declared.data.Claim.{Claim}
use Rattle.spv_listing_values.specs.Written.{Written}
use Rattle.spv_rechecking.specs.Rechecked.{Recheck, vocabulary, reading, IsVerdictOf, IsRechecked}
use Rattle.spv_rechecking.specs.Asked.{IsAsked, IsFound}

-- ---- formulas of an arena

module _ (a : Arena) (ok : IsArena a) where
  is_bool : (t : TermId) → t.0 < length a.nodes → is_truth a.shapes a.decls (tree a t) ≡ true → IsBool a t
  is_bool t there truth = sort_eq-true (sort_at a t) sort.Bool (sym (ap (has_sort sort.Bool) (IsWellSorted-arena a ok t there)) ∙ truth)

  all_formulas : (ts : List TermId) → AllBelow (length a.nodes) ts → AreFormulas a.shapes a.decls (map (tree a) ts) → AllFormulas a ts
  all_formulas [] there are = tt
  all_formulas (t ∷ ts) there are = (
    there.0,
    is_bool t there.0 (are (tree a t) (or_left (term_eq (tree a t) (tree a t)) (is_among (map (tree a) ts) (tree a t)) (term_eq-refl (tree a t)))),
    all_formulas ts there.1 (λ f h. are f (or_right (term_eq f (tree a t)) (is_among (map (tree a) ts) f) h)),
  )

  pub formulas_in : (c : Condition) → AllBelow (length a.nodes) c.given → c.goal.0 < length a.nodes → AreFormulas a.shapes a.decls (formulas_of (sequent a c)) → ConditionIn a c
  formulas_in c given goal are = record {
    given = all_formulas c.given given (λ f h. are f (has-left (map (tree a) c.given) (tree a c.goal ∷ []) f h));
    goal = goal;
    sort = is_bool c.goal goal (are (tree a c.goal) (has-last (map (tree a) c.given) (tree a c.goal)));
  }

-- ---- the copy

module _ (a : Arena) (c : Condition) (limit : ℕ) (k : Copied) (copy : IsCopy a c limit k) where
  formulas_there : AreFormulas a.shapes a.decls (formulas_of (sequent a c)) → AreFormulas k.terms.shapes k.terms.decls (formulas_of (sequent k.terms k.condition))
  formulas_there are =
      subst (λ (s : Sequent). AreFormulas k.terms.shapes k.terms.decls (formulas_of s)) (sym copy.condition.claim)
      (subst (λ (ds : List Decl). AreFormulas k.terms.shapes ds (formulas_of (sequent a c))) (sym copy.decls)
      (subst (λ (ss : List Shape). AreFormulas ss a.decls (formulas_of (sequent a c))) (sym copy.shapes) are))

  -- with room for it, or without
  pub copy_asked : IsArena k.terms → AreFormulas a.shapes a.decls (formulas_of (sequent a c)) → (most : ℕ) (room : Bool) → (room ≡ true → limit ≡ most) → (room ≡ false → most < length (all_terms (sequent a c)))
      → IsAsked most room k.terms k.condition
  copy_asked ok are most room limit_is over = record {
    condition = formulas_in k.terms ok k.condition copy.condition.given_in copy.condition.goal_in (formulas_there are);
    terms = copy.terms ∙ ap all_terms (sym copy.condition.claim);
    limit = λ h. copy.most ∙ limit_is h;
    over = λ h. subst (λ (s : Sequent). most < length (all_terms s)) (sym copy.condition.claim) (over h);
  }

  pub asked_with_room : IsArena k.terms → AreFormulas a.shapes a.decls (formulas_of (sequent a c)) → IsAsked limit true k.terms k.condition
  asked_with_room ok are = copy_asked ok are limit true (λ h. refl) (λ h. absurd cc)

  pub asked_without_room : IsArena k.terms → AreFormulas a.shapes a.decls (formulas_of (sequent a c)) → (most : ℕ) → most < length (all_terms (sequent a c)) → IsAsked most false k.terms k.condition
  asked_without_room ok are most over = copy_asked ok are most false (λ h. absurd cc) (λ h. over)

  -- ---- what was found

  module _ (last : Arena) (grows : Extends k.terms last) where
    still_claimed : IsSameClaim a c last k.condition
    still_claimed =
        let keeps = KeepsOld-Extends grows in
        record {
          given_in = keeps.ids k.condition.given copy.condition.given_in;
          goal_in = omega (arith, copy.condition.goal_in, length-Extends grows);
          claim = keeps.conditions k.condition copy.condition.given_in copy.condition.goal_in ∙ copy.condition.claim;
          origin = copy.condition.origin;
        }

    pub found_of_copy : (r : Recheck) (header own : Header) → own ≡ header → (e : Claim Written) (entry : Option (Claim Written)) → Some e ≡ entry → (found : Verdict) → IsFound r own k.terms k.condition (Some e) last found
        → IsRechecked r header a c entry (record { terms = last; condition = k.condition; verdict = found })
    found_of_copy r header own own_is e entry entry_is found f = record {
      claim = still_claimed;
      shapes = grows.shapes ∙ copy.shapes;
      decls = grows.decls ∙ copy.decls;
      terms_in = f.terms_in;
      verdict =
          subst (λ (x : Option (Claim Written)). IsVerdictOf r (sequent a c) (reading (vocabulary r a.shapes a.decls (sequent a c)) r.most header (sequent a c) x) last (verdict_in last found)) entry_is
          (subst (λ (h : Header). IsVerdictOf r (sequent a c) (reading (vocabulary r a.shapes a.decls (sequent a c)) r.most h (sequent a c) (Some e)) last (verdict_in last found)) own_is
          (subst (λ (s : Sequent). IsVerdictOf r s (reading (vocabulary r a.shapes a.decls s) r.most own s (Some e)) last (verdict_in last found)) copy.condition.claim
          (subst (λ (ds : List Decl). IsVerdictOf r (sequent k.terms k.condition) (reading (vocabulary r a.shapes ds (sequent k.terms k.condition)) r.most own (sequent k.terms k.condition) (Some e)) last (verdict_in last found)) copy.decls
          (subst (λ (ss : List Shape). IsVerdictOf r (sequent k.terms k.condition) (reading (vocabulary r ss k.terms.decls (sequent k.terms k.condition)) r.most own (sequent k.terms k.condition) (Some e)) last (verdict_in last found)) copy.shapes
          f.right))));
    }
