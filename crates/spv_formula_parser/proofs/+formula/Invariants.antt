use Rattle.std.proofs.Common.{◌+◌, ◌*◌}
use Rattle.spv_tree.specs.declared.tokens.token.TokenKind.TheVariants as kind
use Rattle.spv_tree.specs.declared.tokens.token.Sign.TheVariants as sign
use Rattle.spv_tree.specs.syntax.Formulas.{no_more_terms, more_terms, no_more_factors, more_factors, no_more_formulas, more_formulas, no_selectors, selectors}
use Rattle.spv_grammar.specs.reading.Readers.{front, behind, operated}
use Rattle.spv_grammar.specs.reading.FormulaReaders.{adding_of, multiplying_of, read_inner, read_factor, read_more_formulas, selector_by, read_selectors, read_more_factors, read_term, read_more_terms}
use Rattle.spv_formula_parser.specs.primitives.Lists.{ItemsSoFar}
use Rattle.spv_formula_parser.proofs.+formula.Given as goal

-- each level has fifty places
abbrev pub decreases-formulas::formula : goal.decreases-formulas::formula
decreases-formulas::formula l = 50 * l.levels + 40

abbrev pub decreases-formulas::plain_formula : goal.decreases-formulas::plain_formula
decreases-formulas::plain_formula l = 50 * l.levels + 38

abbrev pub decreases-formulas::signed_formula : goal.decreases-formulas::signed_formula
decreases-formulas::signed_formula l = 50 * l.levels + 38

abbrev pub decreases-formulas::behind_factor : goal.decreases-formulas::behind_factor
decreases-formulas::behind_factor l = 50 * l.levels + 36

abbrev pub decreases-formulas::conclusion : goal.decreases-formulas::conclusion
decreases-formulas::conclusion l = 50 * l.levels + 2

abbrev pub decreases-formulas::relation : goal.decreases-formulas::relation
decreases-formulas::relation l = 50 * l.levels + 30

abbrev pub decreases-formulas::compared : goal.decreases-formulas::compared
decreases-formulas::compared l = 50 * l.levels + 27

abbrev pub decreases-formulas::right_side : goal.decreases-formulas::right_side
decreases-formulas::right_side l = 50 * l.levels + 28

abbrev pub decreases-formulas::simple : goal.decreases-formulas::simple
decreases-formulas::simple l = 50 * l.levels + 26

abbrev pub decreases-formulas::sum : goal.decreases-formulas::sum
decreases-formulas::sum l = 50 * l.levels + 24

abbrev pub decreases-formulas::further_terms : goal.decreases-formulas::further_terms
decreases-formulas::further_terms l = 50 * l.levels + 21

abbrev pub decreases-formulas::more_terms : goal.decreases-formulas::more_terms
decreases-formulas::more_terms l = 50 * l.levels + 22

abbrev pub decreases-formulas::term : goal.decreases-formulas::term
decreases-formulas::term l = 50 * l.levels + 20

abbrev pub decreases-formulas::further_factors : goal.decreases-formulas::further_factors
decreases-formulas::further_factors l = 50 * l.levels + 17

abbrev pub decreases-formulas::more_factors : goal.decreases-formulas::more_factors
decreases-formulas::more_factors l = 50 * l.levels + 18

abbrev pub decreases-factors::factor : goal.decreases-factors::factor
decreases-factors::factor l = 50 * l.levels + 16

abbrev pub decreases-factors::any_factor : goal.decreases-factors::any_factor
decreases-factors::any_factor l = 50 * l.levels + 14

abbrev pub decreases-factors::named : goal.decreases-factors::named
decreases-factors::named l = 50 * l.levels + 12

abbrev pub decreases-factors::application : goal.decreases-factors::application
decreases-factors::application l = 50 * l.levels + 10

abbrev pub decreases-factors::place : goal.decreases-factors::place
decreases-factors::place l = 50 * l.levels + 10

abbrev pub decreases-factors::further_selectors : goal.decreases-factors::further_selectors
decreases-factors::further_selectors l = 50 * l.levels + 7

abbrev pub decreases-factors::selectors : goal.decreases-factors::selectors
decreases-factors::selectors l = 50 * l.levels + 8

abbrev pub decreases-factors::selector : goal.decreases-factors::selector
decreases-factors::selector l = 50 * l.levels + 6

abbrev pub decreases-factors::index : goal.decreases-factors::index
decreases-factors::index l = 50 * l.levels + 4

abbrev pub decreases-factors::further_formulas : goal.decreases-factors::further_formulas
decreases-factors::further_formulas l = 50 * l.levels + 1

abbrev pub decreases-factors::more_formulas : goal.decreases-factors::more_formulas
decreases-factors::more_formulas l = 50 * l.levels + 2

abbrev pub decreases-factors::bracketed : goal.decreases-factors::bracketed
decreases-factors::bracketed l = 50 * l.levels + 2

abbrev pub decreases-factors::negation : goal.decreases-factors::negation
decreases-factors::negation l = 50 * l.levels

abbrev pub decreases-formulas::inner : goal.decreases-formulas::inner
decreases-formulas::inner l = 50 * l.levels

abbrev pub invariant-factors::further_formulas-loop : goal.invariant-factors::further_formulas-loop
invariant-factors::further_formulas-loop l = ItemsSoFar no_more_formulas more_formulas (behind (kind.Sign sign.Comma) (read_inner l.levels)) (read_more_formulas (read_inner l.levels) l.tokens) l.end l.counter l.more.items l.rest

abbrev pub invariant-factors::further_selectors-loop : goal.invariant-factors::further_selectors-loop
invariant-factors::further_selectors-loop l = ItemsSoFar no_selectors selectors (λ rest. selector_by (read_inner l.levels) (front rest) rest) (read_selectors (read_inner l.levels) l.tokens) l.end l.counter l.behind.items l.rest

abbrev pub invariant-formulas::further_factors-loop : goal.invariant-formulas::further_factors-loop
invariant-formulas::further_factors-loop l = ItemsSoFar no_more_factors (λ p. more_factors p.0 p.1) (λ rest. operated (multiplying_of (front rest)) (read_factor l.levels) rest) (read_more_factors (read_factor l.levels) l.tokens) l.end l.counter l.more.items l.rest

abbrev pub invariant-formulas::further_terms-loop : goal.invariant-formulas::further_terms-loop
invariant-formulas::further_terms-loop l = ItemsSoFar no_more_terms (λ p. more_terms p.0 p.1) (λ rest. operated (adding_of (front rest)) (read_term (read_factor l.levels)) rest) (read_more_terms (read_factor l.levels) l.tokens) l.end l.counter l.more.items l.rest
