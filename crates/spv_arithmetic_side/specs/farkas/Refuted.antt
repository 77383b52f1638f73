-- Contradictions of bounds that come from the facts of a derivation.
use Rattle.std.specs.Prelude.{◌≡◌, ◌<◌, List, length, pos}
use Rattle.spv_logic.specs.declared.conditions.TermId.{TermId}
use Rattle.spv_logic.specs.Terms.{Term}
use Rattle.spv_term.specs.Arena.{Arena, tree}
use Rattle.spv_atoms.specs.Linear.{IdForm}
use Rattle.spv_proof_rules.specs.Sums.{difference, is_at_most_zero, cited_reading}
use Rattle.spv_tableau_rules.specs.tableaux.Bounds.{Bound}
use Rattle.spv_tableau_rules.specs.tableaux.Forms.{rows_of}
use Rattle.spv_tableau_rules.specs.tableaux.Contradictions.{Multiple, IsContradiction}
use Rattle.spv_derivations.specs.declared.derivation.entries.Entry.{Entry}
use Rattle.spv_derivations.specs.derivation.Derivation.{facts}
use Rattle.spv_derivations.specs.derivation.Derived.{is_number}
use Rattle.spv_tableau_rules.specs.constraints.Relations.{AreIn}
use Rattle.spv_tableau_rules.specs.constraints.Sources.{fact_reading, Sources, AreSourced}
use Rattle.spv_tableau_rules.specs.constraints.Laws.{numeral_of}

-- multiples of bounds that are a contradiction, where each bound comes from a fact of the derivation
pub record IsRefuted (a : Arena) (es : List Entry) (sources : Sources) (multiples : List Multiple) : Type 0 where
  pub forms : List IdForm
  pub bounds : List Bound
  pub inside : AreIn a forms
  pub sourced : AreSourced a (fact_reading (is_number a) (facts a es)) forms bounds sources
  pub contradiction : IsContradiction (rows_of forms) bounds multiples

-- the same, where a bound may also come from what a step supposes: that p is above q
pub record IsRefutedAbove (a : Arena) (es : List Entry) (p q : Term) (sources : Sources) (multiples : List Multiple) : Type 0 where
  pub forms : List IdForm
  pub bounds : List Bound
  pub inside : AreIn a forms
  pub sourced : AreSourced a (cited_reading (is_number a) (facts a es) (is_at_most_zero (difference q p (pos 1)))) forms bounds sources
  pub contradiction : IsContradiction (rows_of forms) bounds multiples

-- the terms 1 and 0
pub record AreOneAndZero (a : Arena) (one zero : TermId) : Type 0 where
  pub one_in : one.0 < length a.nodes
  pub zero_in : zero.0 < length a.nodes
  pub one_is : tree a one ≡ numeral_of 1
  pub zero_is : tree a zero ≡ numeral_of 0
