-- The values that facts give to terms: those of the facts, of what they negate, and of equations of whose sides they give an order.
use Rattle.std.specs.Prelude.{◌≡◌, ◌<◌, ◌⊎◌, Bool, true, false, List, Option, Some, None, length, if◌then◌else◌}
use Rattle.spv_logic.specs.declared.conditions.TermId.{TermId}
use Rattle.spv_logic.specs.declared.operators.Head.TheVariants.{Not}
use Rattle.spv_logic.specs.Terms.{Term, term, no_terms, terms, term_eq}
use Rattle.spv_logic.specs.Formulas.{negation, equation, below}
use Rattle.spv_term.specs.Arena.{Arena, tree}
use Rattle.spv_atoms.specs.Tables.{not_of, or_else, numeral_relation}
use Rattle.spv_atoms.specs.Atoms.{is_number}
use Rattle.spv_proof_rules.specs.Sums.{negated}
use Rattle.spv_proof_rules.specs.Evaluation.{sides, cites, apart, bare}

-- ---- values

-- the truth that facts give to a term by itself: it is a fact, or its negation is one
abbrev pub told : List Term → Term → Option Bool
told facts t = if cites facts t then Some true else (if cites facts (negation t) then Some false else None)

-- and an equation is false where they give an order of its sides
abbrev pub told_or_apart : List Term → Term → Option Bool
told_or_apart facts t = or_else (told facts t) (apart facts (sides t))

-- the value that facts give to a term: to a negation the opposite of that of what it negates
abbrev pub value_by : List Term → Term → Option Bool
value_by facts (term Not (terms t no_terms)) = not_of (value_by facts t)
value_by facts t = told_or_apart facts t

abbrev pub unless_negation : Option Term → Option Bool → Option Bool
unless_negation None o = o
unless_negation (Some t) o = None

-- the value that facts give to a term that is no negation
abbrev pub core_value : List Term → Term → Option Bool
core_value facts t = unless_negation (negated t) (told_or_apart facts t)

-- the same where one term is supposed to have a value
abbrev pub supposed : List Term → Term → Bool → Term → Option Bool
supposed facts s v t = if term_eq t s then Some v else core_value facts t

-- the term that has a value where a formula is supposed to be false, and this value: its own, or that of what it negates
abbrev pub is_negation : Option Term → Bool
is_negation None = false
is_negation (Some t) = true

abbrev pub supposed_value : Term → Bool
supposed_value f = is_negation (negated f)

-- ---- facts

-- facts that say of terms that are no negations that they are true or false, and do not contradict each other
pub record AreLiterals (facts : List Term) : Type 0 where
  pub bare_terms : (t : Term) → cites facts t ≡ true → negated (bare t) ≡ None
  pub agree : (t : Term) → cites facts t ≡ true → cites facts (negation t) ≡ true → ⊥

-- an equation that is a fact is none of whose sides they give an order
pub record AreUncrossed (facts : List Term) : Type 0 where
  pub lower : (s t : Term) → cites facts (equation s t) ≡ true → cites facts (below s t) ≡ true → ⊥
  pub upper : (s t : Term) → cites facts (equation s t) ≡ true → cites facts (below t s) ≡ true → ⊥

-- a term of an arena
pub record IsIn (a : Arena) (t : Term) : Type 0 where
  pub id : TermId
  pub in_range : id.0 < length a.nodes
  pub is : tree a id ≡ t

-- an order that is a case; one of numerals holds
pub record IsCase (t : Term) : Type 0 where
  pub left : Term
  pub right : Term
  pub is : t ≡ below left right
  pub holds : numeral_relation t ≡ Some false → ⊥

-- facts over an arena: what they say is of its terms, or an order that is a case; and orders are of numbers
pub record AreOver (a : Arena) (facts : List Term) : Type 0 where
  pub there : (t : Term) → cites facts t ≡ true → IsIn a (bare t) ⊎ IsCase t
  pub numbers : (s t : Term) → cites facts (below s t) ≡ true → (is_number a.shapes a.decls s ≡ true) × (is_number a.shapes a.decls t ≡ true)
