-- Evaluations that a derivation needs: formulas that equal TRUE or FALSE.
use Rattle.std.proofs.Common.{◌≡◌, ℕ, suc, ◌+◌, ◌<◌, Bool, true, false, ◌&&◌, ◌||◌, not, List, [], ◌∷◌, ◌++◌, Option, Some, None, if◌then◌else◌, refl, sym, ap, ◌∙◌, subst, inl, inr, ◌⊎◌, arith}
use Rattle.std.specs.List.{list_any}
use Rattle.spv_logic.specs.declared.operators.Head.TheVariants.{Eq, Not, Lt, True, False}
use Rattle.spv_logic.specs.Values.{bool_eq}
use Rattle.spv_logic.specs.Terms.{Term, Terms, term, no_terms, terms, term_eq}
use Rattle.spv_logic.specs.Formulas.{negation, equation, below}
use Rattle.spv_logic.proofs.Equality.{term_eq-true, term_eq-refl}
use Rattle.spv_atoms.specs.Tables.{assigned, combined, computed, or_else}
use Rattle.spv_proof_rules.specs.Sums.{negated}
use Rattle.spv_proof_rules.specs.Evaluation.{sides, given_negated, apart, given_to, opposite, bare, clashes, evaluates}

-- ---- sizes

abbrev mutual
  size : Term → ℕ
  size (term h ts) = suc (sizes ts)

  sizes : Terms → ℕ
  sizes no_terms = 0
  sizes (terms t ts) = size t + sizes ts

differ : (s t : Term) → size s < size t → term_eq s t ≡ false
differ s t h = by_case (term_eq s t) refl
  where
    by_case : (b : Bool) → term_eq s t ≡ b → b ≡ false
    by_case false e = refl
    by_case true e = absurd (omega (arith, ap size (term_eq-true s t e)))

differ_back : (s t : Term) → size t < size s → term_eq s t ≡ false
differ_back s t h = by_case (term_eq s t) refl
  where
    by_case : (b : Bool) → term_eq s t ≡ b → b ≡ false
    by_case false e = refl
    by_case true e = absurd (omega (arith, ap size (term_eq-true s t e)))

-- ---- parts of an evaluation

abbrev truth : Term
truth = term True no_terms

abbrev falsity : Term
falsity = term False no_terms

assigned-here : (s t : Term) (b : Bool) (others : List (Term × Bool)) → term_eq s t ≡ true → assigned ((s, b) ∷ others) t ≡ Some b
assigned-here s t b others e = ap (λ d. if d then Some b else assigned others t) e

assigned-behind : (s t : Term) (b : Bool) (others : List (Term × Bool)) → term_eq s t ≡ false → assigned ((s, b) ∷ others) t ≡ assigned others t
assigned-behind s t b others e = ap (λ d. if d then Some b else assigned others t) e

clash-first : (tr : Term → Bool) (cited : List Term) (f : Term) → clashes tr (given_to cited f) (bare f) ≡ true → evaluates tr cited f ≡ true
clash-first tr cited f e = ap (λ b. b || list_any (λ t. clashes tr (given_to cited f) (bare t)) cited) e

or_true : (b : Bool) → (b || true) ≡ true
or_true true = refl
or_true false = refl

clash-cited : (tr : Term → Bool) (fact f : Term) → clashes tr (given_to (fact ∷ []) f) (bare fact) ≡ true → evaluates tr (fact ∷ []) f ≡ true
clash-cited tr fact f e =
    ap (λ b. clashes tr (given_to (fact ∷ []) f) (bare f) || (b || false)) e ∙ or_true (clashes tr (given_to (fact ∷ []) f) (bare f))

clash_of : (tr : Term → Bool) (given : Term → Option Bool) (t : Term) (a b : Bool) → computed tr given t ≡ Some a → given t ≡ Some b → not (bool_eq a b) ≡ true → clashes tr given t ≡ true
clash_of tr given t a b e f g = (λ i. opposite (e i) (f i)) ∙ g

-- the computed value of an equation of truth values
computed-equation : (tr : Term → Bool) (given : Term → Option Bool) (s t : Term) (a b : Bool) → tr s ≡ true → tr t ≡ true
    → or_else (given s) (computed tr given s) ≡ Some a → or_else (given t) (computed tr given t) ≡ Some b → computed tr given (equation s t) ≡ Some (bool_eq a b)
computed-equation tr given s t a b h k e f = λ i. combined (h i && (k i && true)) Eq (e i) (f i) (terms s (terms t no_terms))

known : (tr : Term → Bool) (given : Term → Option Bool) (t : Term) (b : Bool) → given t ≡ Some b → or_else (given t) (computed tr given t) ≡ Some b
known tr given t b e = ap (λ o. or_else o (computed tr given t)) e

negated-is : (t u : Term) → negated t ≡ Some u → t ≡ negation u
negated-is (term Not (terms s no_terms)) u e = let same : s ≡ u = cc in ap negation same
negated-is _ u e = absurd (cc)

-- ---- a formula that is a fact equals TRUE

-- what is given to a term, where the fact negates this or nothing
abbrev given_true : Term → Option Term → Term → Option Bool
given_true p o t = or_else (assigned ((p, true) ∷ ((given_negated true o ++ []) ++ (equation p truth, false) ∷ [])) t) (apart (p ∷ []) (sides t))

module _ (tr : Term → Bool) (p : Term) (p_is : tr p ≡ true) (truth_is : tr truth ≡ true) where
  true_itself : (o : Option Term) → given_true p o p ≡ Some true
  true_itself o =
      ap (λ v. or_else v (apart (p ∷ []) (sides p))) (assigned-here p p true ((given_negated true o ++ []) ++ (equation p truth, false) ∷ []) (term_eq-refl p))

  true_equation : (o : Option Term) → given_true p o (equation p truth) ≡ Some false
  true_equation o =
      ap (λ v. or_else v (apart (p ∷ []) (sides (equation p truth))))
      (assigned-behind p (equation p truth) true ((given_negated true o ++ []) ++ (equation p truth, false) ∷ []) (differ p (equation p truth) (omega arith)) ∙ rest o)
    where
      last : assigned ((equation p truth, false) ∷ []) (equation p truth) ≡ Some false
      last = assigned-here (equation p truth) (equation p truth) false [] (term_eq-refl (equation p truth))

      by_test : (u : Term) (b : Bool) → term_eq u (equation p truth) ≡ b → assigned ((u, false) ∷ (equation p truth, false) ∷ []) (equation p truth) ≡ Some false
      by_test u true e = assigned-here u (equation p truth) false ((equation p truth, false) ∷ []) e
      by_test u false e = assigned-behind u (equation p truth) false ((equation p truth, false) ∷ []) e ∙ last

      rest : (o : Option Term) → assigned ((given_negated true o ++ []) ++ (equation p truth, false) ∷ []) (equation p truth) ≡ Some false
      rest None = last
      rest (Some u) = by_test u (term_eq u (equation p truth)) refl

  -- the value of TRUE
  true_value : (g : Term → Option Bool) (v : Option Bool) → g truth ≡ or_else v None → (v ≡ None) ⊎ (v ≡ Some true) → or_else (g truth) (computed tr g truth) ≡ Some true
  true_value g v e (inl is) = ap (λ o. or_else o (computed tr g truth)) (e ∙ ap (λ o. or_else o None) is)
  true_value g v e (inr is) = ap (λ o. or_else o (computed tr g truth)) (e ∙ ap (λ o. or_else o None) is)

  assigned_none : (b : Bool) → term_eq p truth ≡ b → (assigned ((p, true) ∷ (equation p truth, false) ∷ []) truth ≡ None) ⊎ (assigned ((p, true) ∷ (equation p truth, false) ∷ []) truth ≡ Some true)
  assigned_none true e = inr (assigned-here p truth true ((equation p truth, false) ∷ []) e)
  assigned_none false e = inl (assigned-behind p truth true ((equation p truth, false) ∷ []) e)

  assigned_some : (u : Term) (b : Bool) → term_eq p truth ≡ b → term_eq u truth ≡ false
      → (assigned ((p, true) ∷ (u, false) ∷ (equation p truth, false) ∷ []) truth ≡ None) ⊎ (assigned ((p, true) ∷ (u, false) ∷ (equation p truth, false) ∷ []) truth ≡ Some true)
  assigned_some u true e f = inr (assigned-here p truth true ((u, false) ∷ (equation p truth, false) ∷ []) e)
  assigned_some u false e f =
      inl (assigned-behind p truth true ((u, false) ∷ (equation p truth, false) ∷ []) e ∙ assigned-behind u truth false ((equation p truth, false) ∷ []) f)

  true_clash : (o : Option Term) → or_else (given_true p o truth) (computed tr (given_true p o) truth) ≡ Some true → clashes tr (given_true p o) (equation p truth) ≡ true
  true_clash o e =
      clash_of tr (given_true p o) (equation p truth) true false
      (computed-equation tr (given_true p o) p truth true true p_is truth_is (known tr (given_true p o) p true (true_itself o)) e)
      (true_equation o) refl

  -- where the fact negates TRUE, it has two values itself
  by_negation : (u : Term) → negated p ≡ Some u → term_eq u truth ≡ true → evaluates tr (p ∷ []) (equation p truth) ≡ true
  by_negation u e f =
      let is_u : u ≡ truth = term_eq-true u truth f in
      let is : p ≡ negation truth = negated-is p u e ∙ ap negation is_u in
      subst (λ x. evaluates tr (x ∷ []) (equation x truth) ≡ true) (sym is) (clash-cited tr (negation truth) (equation (negation truth) truth) refl)

  pub equals_true : evaluates tr (p ∷ []) (equation p truth) ≡ true
  equals_true = by_option (negated p) refl
    where
      given_is : (o : Option Term) → negated p ≡ o → clashes tr (given_true p o) (equation p truth) ≡ true → evaluates tr (p ∷ []) (equation p truth) ≡ true
      given_is o e h = clash-first tr (p ∷ []) (equation p truth) (ap (λ r. clashes tr (given_true p r) (equation p truth)) e ∙ h)

      by_test : (u : Term) → negated p ≡ Some u → (b : Bool) → term_eq u truth ≡ b → evaluates tr (p ∷ []) (equation p truth) ≡ true
      by_test u e true f = by_negation u e f
      by_test u e false f =
          given_is (Some u) e (true_clash (Some u) (true_value (given_true p (Some u)) (assigned ((p, true) ∷ (u, false) ∷ (equation p truth, false) ∷ []) truth) refl (assigned_some u (term_eq p truth) refl f)))

      by_option : (o : Option Term) → negated p ≡ o → evaluates tr (p ∷ []) (equation p truth) ≡ true
      by_option None e =
          given_is None e (true_clash None (true_value (given_true p None) (assigned ((p, true) ∷ (equation p truth, false) ∷ []) truth) refl (assigned_none (term_eq p truth) refl)))
      by_option (Some u) e = by_test u e (term_eq u truth) refl

-- ---- the value of FALSE

-- FALSE has the value false, where nothing or this value is given to it
false_value : (tr : Term → Bool) (g : Term → Option Bool) → (g falsity ≡ None) ⊎ (g falsity ≡ Some false) → or_else (g falsity) (computed tr g falsity) ≡ Some false
false_value tr g (inl is) = ap (λ o. or_else o (computed tr g falsity)) is
false_value tr g (inr is) = ap (λ o. or_else o (computed tr g falsity)) is

-- ---- a formula whose negation is a fact equals FALSE

module _ (tr : Term → Bool) (p : Term) (p_is : tr p ≡ true) (falsity_is : tr falsity ≡ true) where
  abbrev denial : List Term
  denial = negation p ∷ []

  abbrev is_false : Term
  is_false = equation p falsity

  denied_itself : given_to denial is_false p ≡ Some false
  denied_itself =
      ap (λ v. or_else v (apart denial (sides p)))
      (assigned-behind (negation p) p true ((p, false) ∷ (is_false, false) ∷ []) (differ_back (negation p) p (omega arith))
      ∙ assigned-here p p false ((is_false, false) ∷ []) (term_eq-refl p))

  denied_falsity : (b : Bool) → term_eq p falsity ≡ b → (given_to denial is_false falsity ≡ None) ⊎ (given_to denial is_false falsity ≡ Some false)
  denied_falsity true e = inr (ap (λ v. or_else v None) (assigned-here p falsity false ((is_false, false) ∷ []) e))
  denied_falsity false e = inl (ap (λ v. or_else v None) (assigned-behind p falsity false ((is_false, false) ∷ []) e))

  denied_equation : (b : Bool) → term_eq p is_false ≡ b → given_to denial is_false is_false ≡ Some false
  denied_equation true e = ap (λ v. or_else v (apart denial (sides is_false))) (assigned-here p is_false false ((is_false, false) ∷ []) e)
  denied_equation false e =
      ap (λ v. or_else v (apart denial (sides is_false)))
      (assigned-behind p is_false false ((is_false, false) ∷ []) e ∙ assigned-here is_false is_false false [] (term_eq-refl is_false))

  pub equals_false : evaluates tr (negation p ∷ []) (equation p falsity) ≡ true
  equals_false =
      let g = given_to denial is_false in
      clash-first tr denial is_false
      (clash_of tr (given_to denial is_false) is_false true false
      (computed-equation tr (given_to denial is_false) p falsity false false p_is falsity_is (known tr (given_to denial is_false) p false denied_itself)
      (false_value tr (given_to denial is_false) (denied_falsity (term_eq p falsity) refl)))
      (denied_equation (term_eq p is_false) refl) refl)

-- ---- an equation of two numbers, of which one is below the other, equals FALSE

module _ (tr : Term → Bool) (s t : Term) (p_is : tr (equation s t) ≡ true) (falsity_is : tr falsity ≡ true) where
  abbrev p_false : Term
  p_false = equation (equation s t) falsity

  lower_itself : given_to (below s t ∷ []) p_false (equation s t) ≡ Some false
  lower_itself =
      (λ i. or_else (assigned-behind p_false (equation s t) false [] (differ_back p_false (equation s t) (omega arith)) i)
      (if (term_eq-refl (below s t) i || false) || (term_eq (below t s) (below s t) || false) then Some false else None))

  upper_itself : given_to (below t s ∷ []) p_false (equation s t) ≡ Some false
  upper_itself =
      (λ i. or_else (assigned-behind p_false (equation s t) false [] (differ_back p_false (equation s t) (omega arith)) i)
      (if (term_eq (below s t) (below t s) || false) || (term_eq-refl (below t s) i || false) then Some false else None))
      ∙ ap (λ b. if b then Some false else None) (or_true (term_eq (below s t) (below t s) || false))

  -- whatever the order is that is the fact
  ordered : (lt : Terms) → given_to (term Lt lt ∷ []) p_false (equation s t) ≡ Some false → evaluates tr (term Lt lt ∷ []) p_false ≡ true
  ordered lt e =
      clash-first tr (term Lt lt ∷ []) p_false
      (clash_of tr (given_to (term Lt lt ∷ []) p_false) p_false true false
      (computed-equation tr (given_to (term Lt lt ∷ []) p_false) (equation s t) falsity false false p_is falsity_is (known tr (given_to (term Lt lt ∷ []) p_false) (equation s t) false e)
      (false_value tr (given_to (term Lt lt ∷ []) p_false) (inl refl)))
      (ap (λ v. or_else v (apart (term Lt lt ∷ []) (sides p_false))) (assigned-here p_false p_false false [] (term_eq-refl p_false))) refl)

  pub lower_is_false : evaluates tr (below s t ∷ []) (equation (equation s t) falsity) ≡ true
  lower_is_false = ordered (terms s (terms t no_terms)) lower_itself

  pub upper_is_false : evaluates tr (below t s ∷ []) (equation (equation s t) falsity) ≡ true
  upper_is_false = ordered (terms t (terms s no_terms)) upper_itself

-- ---- the negation of a formula that equals FALSE

module _ (tr : Term → Bool) (p : Term) (p_is : tr p ≡ true) (falsity_is : tr falsity ≡ true) where
  abbrev fact : Term
  fact = equation p falsity

  -- FALSE itself is no formula that may be true
  by_falsity : p ≡ falsity → evaluates tr (equation p falsity ∷ []) (negation p) ≡ true
  by_falsity e = subst (λ x. evaluates tr (equation x falsity ∷ []) (negation x) ≡ true) (sym e) (clash-first tr (equation falsity falsity ∷ []) (negation falsity) refl)

  given-p : given_to (fact ∷ []) (negation p) p ≡ Some true
  given-p =
      ap (λ v. or_else v (apart (fact ∷ []) (sides p)))
      (assigned-behind fact p true ((negation p, false) ∷ (p, true) ∷ []) (differ_back fact p (omega arith))
      ∙ assigned-behind (negation p) p false ((p, true) ∷ []) (differ_back (negation p) p (omega arith))
      ∙ assigned-here p p true [] (term_eq-refl p))

  by_other : term_eq p falsity ≡ false → evaluates tr (equation p falsity ∷ []) (negation p) ≡ true
  by_other e =
      clash-cited tr fact (negation p)
      (clash_of tr (given_to (fact ∷ []) (negation p)) fact false true
      (computed-equation tr (given_to (fact ∷ []) (negation p)) p falsity true false p_is falsity_is (known tr (given_to (fact ∷ []) (negation p)) p true given-p)
      (false_value tr (given_to (fact ∷ []) (negation p)) (inl (ap (λ v. or_else v None) (assigned-behind p falsity true [] e)))))
      (ap (λ v. or_else v (apart (fact ∷ []) (sides fact))) (assigned-here fact fact true ((negation p, false) ∷ (p, true) ∷ []) (term_eq-refl fact))) refl)

  pub denial_follows : evaluates tr (equation p falsity ∷ []) (negation p) ≡ true
  denial_follows = by_test (term_eq p falsity) refl
    where
      by_test : (b : Bool) → term_eq p falsity ≡ b → evaluates tr (equation p falsity ∷ []) (negation p) ≡ true
      by_test true e = by_falsity (term_eq-true p falsity e)
      by_test false e = by_other e

-- ---- FALSE, where TRUE and FALSE are equal

module _ (tr : Term → Bool) (truth_is : tr truth ≡ true) (falsity_is : tr falsity ≡ true) where
  pub clash_follows : evaluates tr (equation truth falsity ∷ []) falsity ≡ true
  clash_follows =
      clash-cited tr (equation truth falsity) falsity
      (clash_of tr (given_to (equation truth falsity ∷ []) falsity) (equation truth falsity) false true
      (computed-equation tr (given_to (equation truth falsity ∷ []) falsity) truth falsity true false truth_is falsity_is refl refl) refl refl)

  pub turned_clash_follows : evaluates tr (equation falsity truth ∷ []) falsity ≡ true
  turned_clash_follows =
      clash-cited tr (equation falsity truth) falsity
      (clash_of tr (given_to (equation falsity truth ∷ []) falsity) (equation falsity truth) false true
      (computed-equation tr (given_to (equation falsity truth ∷ []) falsity) falsity truth false true falsity_is truth_is refl refl) refl refl)
