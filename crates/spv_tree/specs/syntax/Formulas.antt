-- Formulas and designators as plain data: one type for each line of the grammar, with the parts as that line has them,
-- behind the line of the text on which it begins.
use Rattle.std.specs.Prelude.{ℕ, Bool, Option}
use Rattle.spv_tree.specs.declared.syntax.names.Name.{Name}
use Rattle.spv_tree.specs.declared.syntax.operators.PlusOrMinus.{PlusOrMinus}
use Rattle.spv_tree.specs.declared.syntax.operators.Comparison.{Comparison}
use Rattle.spv_tree.specs.declared.syntax.operators.Adding.{Adding}
use Rattle.spv_tree.specs.declared.syntax.operators.Multiplying.{Multiplying}

mutual
  -- relation ["->" formula]
  pub data Formula : Type 0 where
    formula : ℕ → Relation → Conclusion → Formula

  pub data Conclusion : Type 0 where
    no_conclusion : Conclusion
    implies : Formula → Conclusion

  -- simple [("=" | "<>" | "<" | "<=" | ">" | ">=") simple]
  pub data Relation : Type 0 where
    relation : ℕ → Simple → RightSide → Relation

  pub data RightSide : Type 0 where
    no_right_side : RightSide
    compared : Comparison → Simple → RightSide

  -- ["+" | "-"] term {("+" | "-" | OR) term}
  pub data Simple : Type 0 where
    simple : ℕ → Option PlusOrMinus → Term → MoreTerms → Simple

  pub data MoreTerms : Type 0 where
    no_more_terms : MoreTerms
    more_terms : Adding → Term → MoreTerms → MoreTerms

  -- factor {("*" | DIV | MOD | AND) factor}
  pub data Term : Type 0 where
    term : ℕ → Factor → MoreFactors → Term

  pub data MoreFactors : Type 0 where
    no_more_factors : MoreFactors
    more_factors : Multiplying → Factor → MoreFactors → MoreFactors

  -- number | TRUE | FALSE | NIL | "#" name | designator | name "(" formula {"," formula} ")" {selector} | "(" formula ")" | NOT factor
  pub data Factor : Type 0 where
    number : ℕ → ℕ → Factor
    truth : ℕ → Bool → Factor
    nil : ℕ → Factor
    class : ℕ → Name → Factor
    place : ℕ → Designator → Factor
    application : ℕ → Name → Formula → MoreFormulas → Selectors → Factor
    bracketed : ℕ → Formula → Factor
    negation : ℕ → Factor → Factor

  -- {"," formula}
  pub data MoreFormulas : Type 0 where
    no_more_formulas : MoreFormulas
    more_formulas : Formula → MoreFormulas → MoreFormulas

  -- name {selector}
  pub data Designator : Type 0 where
    designator : ℕ → Name → Selectors → Designator

  pub data Selectors : Type 0 where
    no_selectors : Selectors
    selectors : Selector → Selectors → Selectors

  -- "[" formula {"," formula} "]" | "." name | "^"
  pub data Selector : Type 0 where
    index : ℕ → Formula → MoreFormulas → Selector
    field : ℕ → Name → Selector
    content : ℕ → Selector
