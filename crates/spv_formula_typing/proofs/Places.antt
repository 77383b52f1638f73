-- Arguments that are places.
use Rattle.std.proofs.Common.{◌≡◌, ℕ, ◌≤◌, List, [], ◌∷◌, length, arith, Some, None, Ok, refl, ap, ◌∙◌, option_map}
use Rattle.spv_tree.specs.syntax.Formulas.{Formula, Relation, Simple, Term, Factor, Designator, formula, no_conclusion, implies, relation, no_right_side, compared, simple, no_more_terms, more_terms, term, no_more_factors, more_factors, number, truth, nil, class, place, application, bracketed, negation}
use Rattle.spv_typing.specs.Outcomes.{after}
use Rattle.spv_tree.specs.syntax.Formulas.{Selector}
use Rattle.spv_tree.specs.declared.syntax.names.Name.{Name}
use Rattle.spv_tree.specs.declared.syntax.operators.Adding.{Adding}
use Rattle.spv_tree.specs.declared.syntax.operators.Multiplying.{Multiplying}
use Rattle.spv_tree.specs.syntax.Formulas.{designator}
use Rattle.spv_tree.specs.syntax.Model.FormulaSizes.{more_terms_of, more_factors_of, selectors_of}
use Rattle.spv_formula_typing.specs.Operands.{numeral_alone}
use Rattle.spv_typing.specs.OperatorWalk.{Forms, bare, designator_alone, relation_alone, simple_alone, term_alone, factor_alone, formula_walk, designator_walk, written_place, relation_place, simple_place, term_place, factor_place}
use Rattle.spv_formula_typing.specs.declared.forms.Way.TheVariants.{Place}
use Rattle.spv_formula_typing.specs.Arguments.{AsPlace, NoPlace, as_place, given_one, argument_of}

module _ {X S : Type 0} (k : Forms X S) where
  factor_is : (f : Factor) → factor_place k f ≡ option_map (designator_walk k k.begin_written) (factor_alone f)
  factor_is (place line d) = refl
  factor_is (number line n) = refl
  factor_is (truth line b) = refl
  factor_is (nil line) = refl
  factor_is (class line x) = refl
  factor_is (application line x f more behind) = refl
  factor_is (bracketed line f) = refl
  factor_is (negation line f) = refl

  term_is : (t : Term) → term_place k t ≡ option_map (designator_walk k k.begin_written) (term_alone t)
  term_is (term line f no_more_factors) = factor_is f
  term_is (term line f (more_factors o g more)) = refl

  simple_is : (s : Simple) → simple_place k s ≡ option_map (designator_walk k k.begin_written) (simple_alone s)
  simple_is (simple line None t no_more_terms) = term_is t
  simple_is (simple line None t (more_terms o u more)) = refl
  simple_is (simple line (Some sign) t more) = refl

  relation_is : (r : Relation) → relation_place k r ≡ option_map (designator_walk k k.begin_written) (relation_alone r)
  relation_is (relation line s no_right_side) = simple_is s
  relation_is (relation line s (compared o t)) = refl

  place_is : (f : Formula) → written_place k f ≡ option_map (designator_walk k k.begin_written) (designator_alone f)
  place_is (formula line r no_conclusion) = relation_is r
  place_is (formula line r (implies f)) = refl

  pub place_given : (f : Formula) (d : Designator) → designator_alone f ≡ Some d
      → given_one Place (argument_of k f) ≡ after (designator_walk k k.begin_written d) (λ s. Ok (AsPlace s))
  place_given f d h = ap (as_place (formula_walk k f)) (place_is f ∙ ap (option_map (designator_walk k k.begin_written)) h)

  pub no_place_given : (f : Formula) → designator_alone f ≡ None
      → given_one Place (argument_of k f) ≡ after (formula_walk k f) (λ o. Ok NoPlace)
  no_place_given f h = ap (as_place (formula_walk k f)) (place_is f ∙ ap (option_map (designator_walk k k.begin_written)) h)

-- ---- what has more behind it is nothing alone

pub more_selectors : (line : ℕ) (x : Name) (ss : List Selector) → 1 ≤ length ss → None ≡ bare (Some (designator line x (selectors_of ss)))
more_selectors line x [] h = absurd (omega (arith, h))
more_selectors line x (s ∷ ss) h = refl

pub more_factors_behind : (line : ℕ) (f : Factor) (fs : List (Multiplying × Factor)) → 1 ≤ length fs → None ≡ term_alone (term line f (more_factors_of fs))
more_factors_behind line f [] h = absurd (omega (arith, h))
more_factors_behind line f (g ∷ fs) h = refl

pub more_terms_behind : (line : ℕ) (t : Term) (ts : List (Adding × Term)) → 1 ≤ length ts → None ≡ simple_alone (simple line None t (more_terms_of ts))
more_terms_behind line t [] h = absurd (omega (arith, h))
more_terms_behind line t (u ∷ ts) h = refl

pub no_number : (line : ℕ) (f : Factor) (fs : List (Multiplying × Factor)) → 1 ≤ length fs → numeral_alone (term line f (more_factors_of fs)) ≡ None
no_number line f [] h = absurd (omega (arith, h))
no_number line f (g ∷ fs) h = refl
