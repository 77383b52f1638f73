-- A part of a list is no larger than the list, and a designator alone is smaller than its formula.
use Rattle.std.proofs.Common.{◌≡◌, ℕ, zero, suc, ◌≤◌, ◌<◌, List, [], ◌∷◌, length, get_or, Some, None, arith}
use Rattle.spv_tree.specs.syntax.Formulas.{Formula, Selector, Relation, Simple, Term, Factor, Designator, formula, no_conclusion, implies, relation, no_right_side, compared, simple, no_more_terms, more_terms, term, no_more_factors, more_factors, number, truth, nil, class, place, application, bracketed, negation}
use Rattle.spv_tree.specs.syntax.Model.FormulaSizes.{more_factors_of, more_factors_size, more_formulas_of, selectors_of, formula_size, relation_size, simple_size, term_size, factor_size, designator_size, more_formulas_size, selectors_size, selector_size}
use Rattle.spv_tree.specs.declared.syntax.operators.Multiplying.{Multiplying}
use Rattle.spv_typing.specs.OperatorWalk.{designator_alone, relation_alone, simple_alone, term_alone, factor_alone}

pub formula_within : (fs : List Formula) (i : ℕ) (d : Formula) → i < length fs → formula_size (get_or fs i d) ≤ more_formulas_size (more_formulas_of fs)
formula_within [] i d h = absurd (omega arith)
formula_within (f ∷ fs) zero d h = omega arith
formula_within (f ∷ fs) (suc i) d h = omega (arith, formula_within fs i d (omega arith))

more_within : (fs : List (Multiplying × Factor)) (i : ℕ) (d : Multiplying × Factor) → i < length fs → factor_size (get_or fs i d).1 ≤ more_factors_size (more_factors_of fs)
more_within [] i d h = absurd (omega arith)
more_within (f ∷ fs) zero d h = omega arith
more_within (f ∷ fs) (suc i) d h = omega (arith, more_within fs i d (omega arith))

pub factor_within : (line : ℕ) (f : Factor) (fs : List (Multiplying × Factor)) (i : ℕ) (d : Multiplying × Factor) → i < length fs
    → factor_size (get_or fs i d).1 < term_size (term line f (more_factors_of fs))
factor_within line f fs i d h = omega (arith, more_within fs i d h)

pub selector_within : (ss : List Selector) (i : ℕ) (d : Selector) → i < length ss → selector_size (get_or ss i d) ≤ selectors_size (selectors_of ss)
selector_within [] i d h = absurd (omega arith)
selector_within (s ∷ ss) zero d h = omega arith
selector_within (s ∷ ss) (suc i) d h = omega (arith, selector_within ss i d (omega arith))

factor_alone_within : (f : Factor) (d : Designator) → factor_alone f ≡ Some d → designator_size d ≤ factor_size f
factor_alone_within (place line e) d h = let same : e ≡ d = cc in rw same (omega arith)
factor_alone_within (number line n) d h = absurd cc
factor_alone_within (truth line b) d h = absurd cc
factor_alone_within (nil line) d h = absurd cc
factor_alone_within (class line x) d h = absurd cc
factor_alone_within (application line x f more behind) d h = absurd cc
factor_alone_within (bracketed line f) d h = absurd cc
factor_alone_within (negation line f) d h = absurd cc

term_alone_within : (t : Term) (d : Designator) → term_alone t ≡ Some d → designator_size d ≤ term_size t
term_alone_within (term line f no_more_factors) d h = omega (arith, factor_alone_within f d h)
term_alone_within (term line f (more_factors o g more)) d h = absurd cc

simple_alone_within : (s : Simple) (d : Designator) → simple_alone s ≡ Some d → designator_size d ≤ simple_size s
simple_alone_within (simple line None t no_more_terms) d h = omega (arith, term_alone_within t d h)
simple_alone_within (simple line None t (more_terms o u more)) d h = absurd cc
simple_alone_within (simple line (Some sign) t more) d h = absurd cc

relation_alone_within : (r : Relation) (d : Designator) → relation_alone r ≡ Some d → designator_size d ≤ relation_size r
relation_alone_within (relation line s no_right_side) d h = omega (arith, simple_alone_within s d h)
relation_alone_within (relation line s (compared o t)) d h = absurd cc

pub designator_alone_within : (f : Formula) (d : Designator) → designator_alone f ≡ Some d → designator_size d ≤ formula_size f
designator_alone_within (formula line r no_conclusion) d h = omega (arith, relation_alone_within r d h)
designator_alone_within (formula line r (implies f)) d h = absurd cc
