-- What is true of bounds that come from the facts of a derivation.
use Rattle.std.specs.Prelude.{◌≡◌, ℕ, Bool, true, false, List, ◌++◌, Some, None, pos}
use Rattle.spv_frac.specs.rational.Rational.{Rational}
use Rattle.spv_logic.specs.Terms.{Term}
use Rattle.spv_term.specs.Arena.{Arena, IsArena}
use Rattle.spv_atoms.specs.Linear.{IdForm}
use Rattle.spv_proof_rules.specs.Sums.{reading, difference, is_at_most_zero, cited_reading, refutes}
use Rattle.spv_proof_rules.specs.Effects.{at_most}
use Rattle.spv_tableau_rules.specs.declared.tableaux.side.Side.{Side}
use Rattle.spv_tableau_rules.specs.tableaux.Bounds.{Bound, bound_on}
use Rattle.spv_tableau_rules.specs.tableaux.Contradictions.{Multiple}
use Rattle.spv_derivations.specs.declared.derivation.entries.Part.{Part}
use Rattle.spv_derivations.specs.declared.derivation.entries.Entry.{Entry}
use Rattle.spv_derivations.specs.derivation.Derivation.{literal, facts, fact_at}
use Rattle.spv_derivations.specs.derivation.Derived.{is_number}
use Rattle.spv_derivations.specs.derivation.Steps.{IsEnd}
use Rattle.spv_tableau_rules.specs.declared.constraints.saying.RowConstraint.{RowConstraint}
use Rattle.spv_tableau_rules.specs.declared.constraints.saying.RowConstraint.TheVariants.{Below, Above}
use Rattle.spv_tableau_rules.specs.constraints.Sayings.{reading_of, says_equal, bounds_of}
use Rattle.spv_tableau_rules.specs.constraints.Relations.{number_sides, IsRowOf}
use Rattle.spv_tableau_rules.specs.constraints.Sources.{fact_reading, Sources, IsSourced, AreSourced, fact_multiples}
use Rattle.spv_tableau_rules.specs.constraints.Laws.{numeral_of}
use Rattle.spv_arithmetic_side.specs.farkas.Told.{told_of}
use Rattle.spv_arithmetic_side.specs.farkas.Refuted.{IsRefutedAbove}

-- what is told of a relation of whole numbers is read as what it says of the sides
abbrev pub ToldIsRead : Type 0
ToldIsRead = (is_number : Term → Bool) (t s u : Term) (p : Part) (x : RowConstraint) → number_sides is_number t ≡ Some (s, u) → told_of t p ≡ Some x → reading is_number (literal t p) ≡ reading_of x s u

-- each bound that it is comes from it, where it is a fact of the derivation
abbrev pub ToldIsSourced : Type 0
ToldIsSourced = (a : Arena) (es : List Entry) (t s u : Term) (p : Part) (x : RowConstraint) → number_sides (is_number a) t ≡ Some (s, u) → told_of t p ≡ Some x
    → (k : ℕ) → fact_at a es k ≡ Some (literal t p) → (i : ℕ) (f : IdForm) → IsRowOf a (s, u) f → (side : Side) (value : Rational) → bound_on (bounds_of i f.constant x) i side ≡ Some value
    → IsSourced a (fact_reading (is_number a) (facts a es)) i f side value (record { fact = k; is_equal = says_equal x })

-- bounds come from facts of a derivation where it goes on
abbrev pub SourcedStays : Type 0
SourcedStays = (a : Arena) (es more : List Entry) (forms : List IdForm) (bounds : List Bound) (sources : Sources) → AreSourced a (fact_reading (is_number a) (facts a es)) forms bounds sources
    → AreSourced a (fact_reading (is_number a) (facts a (es ++ more))) forms bounds sources

-- where what a step supposes leads to a contradiction of bounds, the multiples of facts refute it
abbrev pub RefutedAbove : Type 0
RefutedAbove = (a : Arena) → IsArena a → (es : List Entry) (p q : Term) (sources : Sources) (multiples : List Multiple) → IsRefutedAbove a es p q sources multiples
    → refutes (is_number a) (facts a es) p q (fact_multiples sources multiples) ≡ true

-- that 1 is at most 0 ends a path
abbrev pub EndsByOne : Type 0
EndsByOne = (a : Arena) (es : List Entry) (n : ℕ) → fact_at a es n ≡ Some (at_most (numeral_of 1) (numeral_of 0)) → IsEnd a es n None

-- a bound that is what a step supposes of a row's sides comes from its number 0: that the left one is above, or below
abbrev pub AboveIsSourced : Type 0
AboveIsSourced = (is_number : Term → Bool) (a : Arena) (facts : List Term) (s t : Term) (i : ℕ) (f : IdForm) → IsRowOf a (s, t) f → (side : Side) (value : Rational)
    → bound_on (bounds_of i f.constant Above) i side ≡ Some value
    → IsSourced a (cited_reading is_number facts (is_at_most_zero (difference t s (pos 1)))) i f side value (record { fact = 0; is_equal = false })

abbrev pub BelowIsSourced : Type 0
BelowIsSourced = (is_number : Term → Bool) (a : Arena) (facts : List Term) (s t : Term) (i : ℕ) (f : IdForm) → IsRowOf a (s, t) f → (side : Side) (value : Rational)
    → bound_on (bounds_of i f.constant Below) i side ≡ Some value
    → IsSourced a (cited_reading is_number facts (is_at_most_zero (difference s t (pos 1)))) i f side value (record { fact = 0; is_equal = false })
