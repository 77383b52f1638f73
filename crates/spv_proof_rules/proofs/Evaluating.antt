-- The step that evaluates adds what is true where the cited facts are.
use Rattle.std.proofs.Common.{◌≡◌, Bool, true, false, cond, ◌||◌, not, List, [], ◌∷◌, ℤ, refl, sym, ap, ◌∙◌, Option, Some, None, arith}
use Rattle.std.specs.List.{list_all, list_any, flat_map}
use Rattle.std.proofs.lemmas.Bool.{false≢true}
use Rattle.std.proofs.lemmas.Int.{ints}
use Rattle.std.specs.Int.RustNames.{int_lt}
use Rattle.spv_logic.proofs.list.Tests.{left_true, right_true}
use Rattle.spv_logic.specs.declared.types.Shape.{Shape}
use Rattle.spv_logic.specs.declared.types.Decl.{Decl}
use Rattle.spv_logic.specs.declared.operators.Head.TheVariants.{Eq, Not}
use Rattle.spv_logic.specs.Values.{Value, value_eq, bool_eq, number_of}
use Rattle.spv_logic.specs.Terms.{Term, term, no_terms, terms, term_eq, eval}
use Rattle.spv_logic.specs.Shapes.{shapes_ok}
use Rattle.spv_logic.specs.Formulas.{below}
use Rattle.spv_logic.specs.Conditions.{Meaning, Valuation, IsValuation, answers, holds}
use Rattle.spv_logic.proofs.Equality.{value_eq-true, value_eq-refl, bool_eq-refl, term_eq-true}
use Rattle.spv_atoms.specs.Tables.{assigned, computed}
use Rattle.spv_atoms.specs.Atoms.{is_truth}
use Rattle.spv_atoms.proofs.Truths.{Known, known_none, known_some, known_or_else}
use Rattle.spv_atoms.proofs.Truths as truths
use Rattle.spv_proof_rules.specs.Sums.{negated}
use Rattle.spv_proof_rules.specs.Evaluation.{sides, given_negated, given_by, assignment, cites, apart, given_to, opposite, bare, clashes, evaluates}

not_opposite : (p : Bool) (x y : Option Bool) → Known p x → Known p y → opposite x y ≡ true → ⊥
not_opposite p None y k l h = false≢true h
not_opposite p (Some a) None k l h = false≢true h
not_opposite p (Some a) (Some b) k l h =
    let same : a ≡ b = sym (k.tells a refl) ∙ l.tells b refl in
    false≢true (sym (ap not (ap (λ c. bool_eq c b) same ∙ bool_eq-refl b)) ∙ h)

module _ (shapes : List Shape) (ok : shapes_ok shapes ≡ true) (decls : List Decl) (world : Meaning) (v : Valuation) (typed : IsValuation shapes v) where
  abbrev worth_of : Term → Value
  worth_of t = eval (answers shapes decls world) v t

  abbrev true_in : Term → Bool
  true_in t = holds (answers shapes decls world) v t

  abbrev Agrees : List (Term × Bool) → Type 0
  Agrees known = truths.Agrees shapes ok decls world v typed known

  pub negated_is : (t s : Term) → negated t ≡ Some s → true_in t ≡ not (true_in s)
  negated_is (term Not (terms u no_terms)) s e = let same : u ≡ s = cc in ap (λ r. not (true_in r)) same
  negated_is _ s e = cc

  pub equal_sides : (t : Term) (st : Term × Term) → sides t ≡ Some st → true_in t ≡ value_eq (worth_of st.0) (worth_of st.1)
  equal_sides (term Eq (terms s (terms u no_terms))) st e = let same : (s, u) ≡ st = cc in ap (λ (r : Term × Term). value_eq (worth_of r.0) (worth_of r.1)) same
  equal_sides _ st e = cc

  below_apart : (s t : Term) → true_in (below s t) ≡ true → value_eq (worth_of s) (worth_of t) ≡ false
  below_apart s t h = by_case (value_eq (worth_of s) (worth_of t)) refl
    where
      by_case : (b : Bool) → value_eq (worth_of s) (worth_of t) ≡ b → b ≡ false
      by_case true e =
          let same = ap number_of (value_eq-true (worth_of s) (worth_of t) e) in
          let less : int_lt (number_of (worth_of s)) (number_of (worth_of t)) ≡ true = h in
          absurd (impossible_less (number_of (worth_of s)) (number_of (worth_of t)) same less)
        where
          impossible_less : (a b : ℤ) → a ≡ b → int_lt a b ≡ true → ⊥
          impossible_less a b e h = grind (arith, ints)
      by_case false e = refl

  value_eq-sym_false : (a b : Value) → value_eq a b ≡ false → value_eq b a ≡ false
  value_eq-sym_false a b h = by_case (value_eq b a) refl
    where
      by_case : (c : Bool) → value_eq b a ≡ c → c ≡ false
      by_case true e = sym (value_eq-refl a) ∙ (ap (value_eq a) (sym (value_eq-true b a e)) ∙ h)
      by_case false e = refl

  negated_agrees : (b : Bool) (t : Term) (o : Option Term) → negated t ≡ o → true_in t ≡ b → Agrees (given_negated b o)
  negated_agrees b t None e h = tt
  negated_agrees b t (Some s) e h = (back (true_in s) b (sym (negated_is t s e) ∙ h), tt)
    where
      back : (p q : Bool) → not p ≡ q → p ≡ not q
      back true true e = absurd (false≢true e)
      back true false e = refl
      back false true e = refl
      back false false e = sym e

  given_agrees : (b : Bool) (t : Term) → true_in t ≡ b → Agrees (given_by b t)
  given_agrees b t h = (h, negated_agrees b t (negated t) refl h)

  cited_agree : (facts : List Term) → list_all true_in facts ≡ true → Agrees (flat_map (given_by true) facts)
  cited_agree [] h = tt
  cited_agree (t ∷ facts) h =
      truths.agrees_append shapes ok decls world v typed (given_by true t) (flat_map (given_by true) facts) (given_agrees true t (left_true _ _ h)) (cited_agree facts (right_true (true_in t) _ h))

  cites_true : (facts : List Term) (t : Term) → list_all true_in facts ≡ true → cites facts t ≡ true → true_in t ≡ true
  cites_true [] t h c = absurd (false≢true c)
  cites_true (f ∷ facts) t h c = by_case (term_eq t f) refl c (cites_true facts t (right_true (true_in f) _ h))
    where
      by_case : (b : Bool) → term_eq t f ≡ b → (b || cites facts t) ≡ true → (cites facts t ≡ true → true_in t ≡ true) → true_in t ≡ true
      by_case true e c later = ap true_in (term_eq-true t f e) ∙ left_true _ _ h
      by_case false e c later = later c

  apart_known : (facts : List Term) (t : Term) (o : Option (Term × Term)) → list_all true_in facts ≡ true → sides t ≡ o → Known (true_in t) (apart facts o)
  apart_known facts t None h e = known_none (true_in t)
  apart_known facts t (Some st) h e = first_way (cites facts (below st.0 st.1)) refl
    where
      second_way : (b : Bool) → cites facts (below st.1 st.0) ≡ b → Known (true_in t) (cond b (Some false) None)
      second_way true c = known_some (true_in t) false (equal_sides t st e ∙ value_eq-sym_false (worth_of st.1) (worth_of st.0) (below_apart st.1 st.0 (cites_true facts (below st.1 st.0) h c)))
      second_way false c = known_none (true_in t)

      first_way : (a : Bool) → cites facts (below st.0 st.1) ≡ a → Known (true_in t) (cond (a || cites facts (below st.1 st.0)) (Some false) None)
      first_way true c = known_some (true_in t) false (equal_sides t st e ∙ below_apart st.0 st.1 (cites_true facts (below st.0 st.1) h c))
      first_way false c = second_way (cites facts (below st.1 st.0)) refl

  -- if the cited facts are true and the step's formula is false, each given value is right
  given_known : (facts : List Term) (formula : Term) → list_all true_in facts ≡ true → true_in formula ≡ false → (t : Term) → Known (true_in t) (given_to facts formula t)
  given_known facts formula h f t =
      known_or_else (true_in t) (assigned (assignment facts formula) t) (apart facts (sides t))
      (truths.assigned_known shapes ok decls world v typed (assignment facts formula) t (truths.agrees_append shapes ok decls world v typed (flat_map (given_by true) facts) (given_by false formula) (cited_agree facts h) (given_agrees false formula f)))
      (apart_known facts t (sides t) h refl)

  no_clash : (given : Term → Option Bool) → ((t : Term) → Known (true_in t) (given t)) → (ts : List Term) → list_any (λ t. clashes (is_truth shapes decls) given (bare t)) ts ≡ true → ⊥
  no_clash given h [] c = false≢true c
  no_clash given h (t ∷ ts) c = by_case (clashes (is_truth shapes decls) given (bare t)) refl c (no_clash given h ts)
    where
      by_case : (b : Bool) → clashes (is_truth shapes decls) given (bare t) ≡ b → (b || list_any (λ u. clashes (is_truth shapes decls) given (bare u)) ts) ≡ true → (list_any (λ u. clashes (is_truth shapes decls) given (bare u)) ts ≡ true → ⊥) → ⊥
      by_case true e c later =
          not_opposite (true_in (bare t)) (computed (is_truth shapes decls) given (bare t)) (given (bare t)) (truths.computed_known shapes ok decls world v typed given h (bare t)) (h (bare t)) e
      by_case false e c later = later c

  -- what an evaluation adds is true where the cited facts are
  pub evaluates_true : (facts : List Term) (formula : Term) → list_all true_in facts ≡ true → evaluates (is_truth shapes decls) facts formula ≡ true → true_in formula ≡ true
  evaluates_true facts formula h e = by_case (true_in formula) refl
    where
      by_case : (b : Bool) → true_in formula ≡ b → b ≡ true
      by_case true f = refl
      by_case false f = absurd (no_clash (given_to facts formula) (given_known facts formula h f) (formula ∷ facts) e)
