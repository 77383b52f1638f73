-- How large formulas are: larger than each of their parts. And the lists of the code as plain data.
use Rattle.std.specs.Prelude.{ℕ, suc, ◌+◌, List, [], ◌∷◌}
use Rattle.spv_tree.specs.declared.syntax.operators.Adding.{Adding}
use Rattle.spv_tree.specs.declared.syntax.operators.Multiplying.{Multiplying}
use Rattle.spv_tree.specs.syntax.Formulas.{Formula, formula, Conclusion, no_conclusion, implies, Relation, relation, RightSide, no_right_side, compared, Simple, simple, MoreTerms, no_more_terms, more_terms, Term, term, MoreFactors, no_more_factors, more_factors, Factor, number, truth, nil, class, place, application, bracketed, negation, MoreFormulas, no_more_formulas, more_formulas, Designator, designator, Selectors, no_selectors, selectors, Selector, content, index, field}

abbrev pub more_terms_of : List (Adding × Term) → MoreTerms
more_terms_of [] = no_more_terms
more_terms_of (t ∷ ts) = more_terms t.0 t.1 (more_terms_of ts)

abbrev pub more_factors_of : List (Multiplying × Factor) → MoreFactors
more_factors_of [] = no_more_factors
more_factors_of (f ∷ fs) = more_factors f.0 f.1 (more_factors_of fs)

abbrev pub more_formulas_of : List Formula → MoreFormulas
more_formulas_of [] = no_more_formulas
more_formulas_of (f ∷ fs) = more_formulas f (more_formulas_of fs)

abbrev pub selectors_of : List Selector → Selectors
selectors_of [] = no_selectors
selectors_of (s ∷ ss) = selectors s (selectors_of ss)

abbrev mutual
  pub formula_size : Formula → ℕ
  formula_size (formula a b c) = suc (relation_size b + conclusion_size c)

  pub conclusion_size : Conclusion → ℕ
  conclusion_size no_conclusion = 0
  conclusion_size (implies a) = formula_size a

  pub relation_size : Relation → ℕ
  relation_size (relation a b c) = suc (simple_size b + right_side_size c)

  pub right_side_size : RightSide → ℕ
  right_side_size no_right_side = 0
  right_side_size (compared a b) = simple_size b

  pub simple_size : Simple → ℕ
  simple_size (simple a b c d) = suc (term_size c + more_terms_size d)

  pub more_terms_size : MoreTerms → ℕ
  more_terms_size no_more_terms = 0
  more_terms_size (more_terms a b c) = term_size b + more_terms_size c

  pub term_size : Term → ℕ
  term_size (term a b c) = suc (factor_size b + more_factors_size c)

  pub more_factors_size : MoreFactors → ℕ
  more_factors_size no_more_factors = 0
  more_factors_size (more_factors a b c) = factor_size b + more_factors_size c

  pub factor_size : Factor → ℕ
  factor_size (number a b) = 1
  factor_size (truth a b) = 1
  factor_size (nil a) = 1
  factor_size (class a b) = 1
  factor_size (place a b) = suc (designator_size b)
  factor_size (application a b c d e) = suc (formula_size c + more_formulas_size d + selectors_size e)
  factor_size (bracketed a b) = suc (formula_size b)
  factor_size (negation a b) = suc (factor_size b)

  pub more_formulas_size : MoreFormulas → ℕ
  more_formulas_size no_more_formulas = 0
  more_formulas_size (more_formulas a b) = formula_size a + more_formulas_size b

  pub designator_size : Designator → ℕ
  designator_size (designator a b c) = suc (selectors_size c)

  pub selectors_size : Selectors → ℕ
  selectors_size no_selectors = 0
  selectors_size (selectors a b) = selector_size a + selectors_size b

  pub selector_size : Selector → ℕ
  selector_size (content a) = 1
  selector_size (index a b c) = suc (formula_size b + more_formulas_size c)
  selector_size (field a b) = 1
