-- Formulas as trees of numbers, and back.
use Rattle.std.specs.Prelude.{zero, suc, ◌≡◌, refl, None}
use base.Stored.{Gv, gnil, gnum, gcons, num}
use Rattle.spv_logic.specs.list.Ways.{Way, way_bool, way_option}
use Rattle.spv_tree.specs.syntax.Model.Codes.{way_name, way_prefix, way_comparison, way_adding, way_multiplying}
use Rattle.spv_tree.specs.syntax.Formulas.{Formula, formula, Conclusion, no_conclusion, implies, Relation, relation, RightSide, no_right_side, compared, Simple, simple, MoreTerms, no_more_terms, more_terms, Term, term, MoreFactors, no_more_factors, more_factors, Factor, number, truth, nil, class, place, application, bracketed, negation, MoreFormulas, no_more_formulas, more_formulas, Designator, designator, Selectors, no_selectors, selectors, Selector, content, index, field}

abbrev mutual
  formula_to : Formula → Gv
  formula_to (formula a b c) = gcons (gnum a) (gcons (relation_to b) (conclusion_to c))

  conclusion_to : Conclusion → Gv
  conclusion_to no_conclusion = gnil
  conclusion_to (implies a) = gcons (formula_to a) gnil

  relation_to : Relation → Gv
  relation_to (relation a b c) = gcons (gnum a) (gcons (simple_to b) (right_side_to c))

  right_side_to : RightSide → Gv
  right_side_to no_right_side = gnil
  right_side_to (compared a b) = gcons (way_comparison.to a) (simple_to b)

  simple_to : Simple → Gv
  simple_to (simple a b c d) = gcons (gnum a) (gcons ((way_option way_prefix).to b) (gcons (term_to c) (more_terms_to d)))

  more_terms_to : MoreTerms → Gv
  more_terms_to no_more_terms = gnil
  more_terms_to (more_terms a b c) = gcons (way_adding.to a) (gcons (term_to b) (more_terms_to c))

  term_to : Term → Gv
  term_to (term a b c) = gcons (gnum a) (gcons (factor_to b) (more_factors_to c))

  more_factors_to : MoreFactors → Gv
  more_factors_to no_more_factors = gnil
  more_factors_to (more_factors a b c) = gcons (way_multiplying.to a) (gcons (factor_to b) (more_factors_to c))

  factor_to : Factor → Gv
  factor_to (number a b) = gcons (gnum 0) (gcons (gnum a) (gnum b))
  factor_to (truth a b) = gcons (gnum 1) (gcons (gnum a) (way_bool.to b))
  factor_to (nil a) = gcons (gnum 2) (gnum a)
  factor_to (class a b) = gcons (gnum 3) (gcons (gnum a) (way_name.to b))
  factor_to (place a b) = gcons (gnum 4) (gcons (gnum a) (designator_to b))
  factor_to (application a b c d e) = gcons (gnum 5) (gcons (gnum a) (gcons (way_name.to b) (gcons (formula_to c) (gcons (more_formulas_to d) (selectors_to e)))))
  factor_to (bracketed a b) = gcons (gnum 6) (gcons (gnum a) (formula_to b))
  factor_to (negation a b) = gcons (gnum 7) (gcons (gnum a) (factor_to b))

  more_formulas_to : MoreFormulas → Gv
  more_formulas_to no_more_formulas = gnil
  more_formulas_to (more_formulas a b) = gcons (formula_to a) (more_formulas_to b)

  designator_to : Designator → Gv
  designator_to (designator a b c) = gcons (gnum a) (gcons (way_name.to b) (selectors_to c))

  selectors_to : Selectors → Gv
  selectors_to no_selectors = gnil
  selectors_to (selectors a b) = gcons (selector_to a) (selectors_to b)

  selector_to : Selector → Gv
  selector_to (content a) = gcons (gnum 0) (gnum a)
  selector_to (index a b c) = gcons (gnum 1) (gcons (gnum a) (gcons (formula_to b) (more_formulas_to c)))
  selector_to (field a b) = gcons (gnum 2) (gcons (gnum a) (way_name.to b))

abbrev mutual
  formula_back : Gv → Formula
  formula_back (gcons a (gcons b c)) = formula (num a) (relation_back b) (conclusion_back c)
  formula_back _ = formula 0 (relation 0 (simple 0 None (term 0 (nil 0) no_more_factors) no_more_terms) no_right_side) no_conclusion

  conclusion_back : Gv → Conclusion
  conclusion_back (gcons a none) = implies (formula_back a)
  conclusion_back _ = no_conclusion

  relation_back : Gv → Relation
  relation_back (gcons a (gcons b c)) = relation (num a) (simple_back b) (right_side_back c)
  relation_back _ = relation 0 (simple 0 None (term 0 (nil 0) no_more_factors) no_more_terms) no_right_side

  right_side_back : Gv → RightSide
  right_side_back (gcons a b) = compared (way_comparison.back a) (simple_back b)
  right_side_back _ = no_right_side

  simple_back : Gv → Simple
  simple_back (gcons a (gcons b (gcons c d))) = simple (num a) ((way_option way_prefix).back b) (term_back c) (more_terms_back d)
  simple_back _ = simple 0 None (term 0 (nil 0) no_more_factors) no_more_terms

  more_terms_back : Gv → MoreTerms
  more_terms_back (gcons a (gcons b c)) = more_terms (way_adding.back a) (term_back b) (more_terms_back c)
  more_terms_back _ = no_more_terms

  term_back : Gv → Term
  term_back (gcons a (gcons b c)) = term (num a) (factor_back b) (more_factors_back c)
  term_back _ = term 0 (nil 0) no_more_factors

  more_factors_back : Gv → MoreFactors
  more_factors_back (gcons a (gcons b c)) = more_factors (way_multiplying.back a) (factor_back b) (more_factors_back c)
  more_factors_back _ = no_more_factors

  factor_back : Gv → Factor
  factor_back (gcons (gnum zero) (gcons a b)) = number (num a) (num b)
  factor_back (gcons (gnum (suc zero)) (gcons a b)) = truth (num a) (way_bool.back b)
  factor_back (gcons (gnum (suc (suc zero))) a) = nil (num a)
  factor_back (gcons (gnum (suc (suc (suc zero)))) (gcons a b)) = class (num a) (way_name.back b)
  factor_back (gcons (gnum (suc (suc (suc (suc zero))))) (gcons a b)) = place (num a) (designator_back b)
  factor_back (gcons (gnum (suc (suc (suc (suc (suc zero)))))) (gcons a (gcons b (gcons c (gcons d e))))) = application (num a) (way_name.back b) (formula_back c) (more_formulas_back d) (selectors_back e)
  factor_back (gcons (gnum (suc (suc (suc (suc (suc (suc zero))))))) (gcons a b)) = bracketed (num a) (formula_back b)
  factor_back (gcons (gnum (suc (suc (suc (suc (suc (suc (suc zero)))))))) (gcons a b)) = negation (num a) (factor_back b)
  factor_back _ = nil 0

  more_formulas_back : Gv → MoreFormulas
  more_formulas_back (gcons a b) = more_formulas (formula_back a) (more_formulas_back b)
  more_formulas_back _ = no_more_formulas

  designator_back : Gv → Designator
  designator_back (gcons a (gcons b c)) = designator (num a) (way_name.back b) (selectors_back c)
  designator_back _ = designator 0 (way_name.back gnil) no_selectors

  selectors_back : Gv → Selectors
  selectors_back (gcons a b) = selectors (selector_back a) (selectors_back b)
  selectors_back _ = no_selectors

  selector_back : Gv → Selector
  selector_back (gcons (gnum zero) a) = content (num a)
  selector_back (gcons (gnum (suc zero)) (gcons a (gcons b c))) = index (num a) (formula_back b) (more_formulas_back c)
  selector_back (gcons (gnum (suc (suc zero))) (gcons a b)) = field (num a) (way_name.back b)
  selector_back _ = content 0

mutual
  pub formula_same : (x : Formula) → formula_back (formula_to x) ≡ x
  formula_same (formula a b c) = λ i. formula a (relation_same b i) (conclusion_same c i)

  conclusion_same : (x : Conclusion) → conclusion_back (conclusion_to x) ≡ x
  conclusion_same no_conclusion = refl
  conclusion_same (implies a) = λ i. implies (formula_same a i)

  pub relation_same : (x : Relation) → relation_back (relation_to x) ≡ x
  relation_same (relation a b c) = λ i. relation a (simple_same b i) (right_side_same c i)

  right_side_same : (x : RightSide) → right_side_back (right_side_to x) ≡ x
  right_side_same no_right_side = refl
  right_side_same (compared a b) = λ i. compared (way_comparison.same a i) (simple_same b i)

  pub simple_same : (x : Simple) → simple_back (simple_to x) ≡ x
  simple_same (simple a b c d) = λ i. simple a ((way_option way_prefix).same b i) (term_same c i) (more_terms_same d i)

  more_terms_same : (x : MoreTerms) → more_terms_back (more_terms_to x) ≡ x
  more_terms_same no_more_terms = refl
  more_terms_same (more_terms a b c) = λ i. more_terms (way_adding.same a i) (term_same b i) (more_terms_same c i)

  pub term_same : (x : Term) → term_back (term_to x) ≡ x
  term_same (term a b c) = λ i. term a (factor_same b i) (more_factors_same c i)

  more_factors_same : (x : MoreFactors) → more_factors_back (more_factors_to x) ≡ x
  more_factors_same no_more_factors = refl
  more_factors_same (more_factors a b c) = λ i. more_factors (way_multiplying.same a i) (factor_same b i) (more_factors_same c i)

  pub factor_same : (x : Factor) → factor_back (factor_to x) ≡ x
  factor_same (number a b) = refl
  factor_same (truth a b) = λ i. truth a (way_bool.same b i)
  factor_same (nil a) = refl
  factor_same (class a b) = refl
  factor_same (place a b) = λ i. place a (designator_same b i)
  factor_same (application a b c d e) = λ i. application a b (formula_same c i) (more_formulas_same d i) (selectors_same e i)
  factor_same (bracketed a b) = λ i. bracketed a (formula_same b i)
  factor_same (negation a b) = λ i. negation a (factor_same b i)

  more_formulas_same : (x : MoreFormulas) → more_formulas_back (more_formulas_to x) ≡ x
  more_formulas_same no_more_formulas = refl
  more_formulas_same (more_formulas a b) = λ i. more_formulas (formula_same a i) (more_formulas_same b i)

  pub designator_same : (x : Designator) → designator_back (designator_to x) ≡ x
  designator_same (designator a b c) = λ i. designator a b (selectors_same c i)

  selectors_same : (x : Selectors) → selectors_back (selectors_to x) ≡ x
  selectors_same no_selectors = refl
  selectors_same (selectors a b) = λ i. selectors (selector_same a i) (selectors_same b i)

  pub selector_same : (x : Selector) → selector_back (selector_to x) ≡ x
  selector_same (content a) = refl
  selector_same (index a b c) = λ i. index a (formula_same b i) (more_formulas_same c i)
  selector_same (field a b) = refl

abbrev pub way_formula : Way Formula
way_formula = record { to = formula_to; back = formula_back; same = formula_same }

abbrev pub way_relation : Way Relation
way_relation = record { to = relation_to; back = relation_back; same = relation_same }

abbrev pub way_simple : Way Simple
way_simple = record { to = simple_to; back = simple_back; same = simple_same }

abbrev pub way_term : Way Term
way_term = record { to = term_to; back = term_back; same = term_same }

abbrev pub way_factor : Way Factor
way_factor = record { to = factor_to; back = factor_back; same = factor_same }

abbrev pub way_designator : Way Designator
way_designator = record { to = designator_to; back = designator_back; same = designator_same }

abbrev pub way_selector : Way Selector
way_selector = record { to = selector_to; back = selector_back; same = selector_same }
