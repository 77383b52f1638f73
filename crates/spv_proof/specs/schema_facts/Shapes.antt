-- Terms of an arena that have the shapes that facts of schemas are about.
use Rattle.std.specs.Prelude.{◌≡◌, Bool, List, ℤ, pos, neg_ℤ, Option, None, IfSome, IsTrue, if◌then◌else◌}
use Rattle.std.specs.Option.{option_map}
use Rattle.std.specs.Int.RustNames.{int_div, int_rem}
use Rattle.spv_logic.specs.declared.conditions.TermId.{TermId}
use Rattle.spv_logic.specs.declared.types.Sort.{Sort}
use Rattle.spv_logic.specs.declared.types.Sort.TheVariants as sort
use Rattle.spv_logic.specs.declared.operators.Head.{Head}
use Rattle.spv_logic.specs.declared.operators.Head.TheVariants.{Num, Put, Cons}
use Rattle.spv_logic.specs.Terms.{Term, term, sort_eq}
use Rattle.spv_logic.specs.Shapes.{pointer_sort}
use Rattle.spv_logic.specs.Sorts.{term_sort, numeral_fits}
use Rattle.spv_schemas.specs.Facts.{two, three, numeral, about_quotient, about_numerals}
use Rattle.spv_schemas.specs.Facts as facts
use Rattle.spv_schemas.specs.SortsThatFit.{first_fits, two_fit}
use Rattle.spv_term.specs.Arena.{Arena, tree}
use Rattle.spv_proof.specs.declared.schema_facts.facts.Change.{Change}
use Rattle.spv_proof.specs.declared.schema_facts.facts.FieldChange.{FieldChange}
use Rattle.spv_proof.specs.declared.schema_facts.facts.Pair.{Pair}
use Rattle.spv_proof.specs.declared.schema_facts.facts.Division.{Division}
use Rattle.spv_proof.specs.declared.schema_facts.facts.NumeralDivision.{NumeralDivision}
use Rattle.spv_proof.specs.schema_facts.Facts.{In, ChangeIn}

-- ---- what terms are made of

-- a term is this head over these two
pub record AreTwo (a : Arena) (h : Head) (t : TermId) (p : TermId × TermId) : Type 0 where
  pub is : tree a t ≡ two h (tree a p.0) (tree a p.1)
  pub first : In a p.0
  pub second : In a p.1

pub record AreThree (a : Arena) (h : Head) (t : TermId) (p : TermId × TermId × TermId) : Type 0 where
  pub is : tree a t ≡ three h (tree a p.0) (tree a p.1) (tree a p.2)
  pub first : In a p.0
  pub second : In a p.1
  pub third : In a p.2

pub record IsChange (a : Arena) (h : Head) (c : Change) : Type 0 where
  pub is : tree a c.whole ≡ three h (tree a c.base) (tree a c.place) (tree a c.value)
  pub within : ChangeIn a c

pub record IsFieldChange (a : Arena) (c : FieldChange) : Type 0 where
  pub is : tree a c.whole ≡ two (Put c.field) (tree a c.base) (tree a c.value)
  pub whole : In a c.whole
  pub base : In a c.base
  pub value : In a c.value

pub record IsPair (a : Arena) (p : Pair) : Type 0 where
  pub is : tree a p.whole ≡ two Cons (tree a p.first) (tree a p.second)
  pub whole : In a p.whole
  pub first : In a p.first
  pub second : In a p.second

-- ---- changes where the other place is one of what is changed

abbrev pub index_fits : Sort → Sort → Bool
index_fits s j = sort_eq sort.Int j

abbrev pub pointer_fits : Sort → Sort → Bool
pointer_fits s q = sort_eq (pointer_sort s) q

-- a change by this head is what these terms are, where their sorts pass: there is none where they are of another shape, or do not pass
pub record IsFitting (a : Arena) (h : Head) (about : (Term → Term → Term → Term → Term) → List Term → Option Term) (test : Sort → Sort → Bool)
    (us : List Term) (o : Option Change) : Type 0 where
  pub fact : (make : Term → Term → Term → Term → Term)
      → (if two_fit (term_sort a.shapes a.decls) test us then about make us else None)
      ≡ option_map (λ c. make (tree a c.base) (tree a c.place) (tree a c.value) (tree a c.other)) o
  pub is : IfSome o (IsChange a h)

-- ---- divisions

-- the number of a numeral
abbrev pub number_of : Term → ℤ
number_of (term (Num z) ts) = z
number_of _ = pos 0

-- a term is the numeral of this number, which fits
pub record IsNumeral (a : Arena) (t : TermId) (z : ℤ) : Type 0 where
  pub is : tree a t ≡ numeral z
  pub fits : IsTrue (numeral_fits (Num z))

pub record IsDivision (a : Arena) (d : Division) : Type 0 where
  pub is : tree a d.divisor ≡ numeral (number_of (tree a d.divisor))
  pub greatest : d.greatest ≡ facts.greatest (number_of (tree a d.divisor))
  pub least : d.least ≡ neg_ℤ (facts.greatest (number_of (tree a d.divisor)))
  pub greatest_fits : IsTrue (numeral_fits (Num d.greatest))
  pub least_fits : IsTrue (numeral_fits (Num d.least))
  pub dividend : In a d.dividend
  pub divisor : In a d.divisor

-- a division is what these terms are, where the first one is a number
pub record IsDivided (a : Arena) (us : List Term) (o : Option Division) : Type 0 where
  pub fact : (make : Term → ℤ → Term)
      → (if first_fits (term_sort a.shapes a.decls) (sort_eq sort.Int) us then about_quotient make us else None)
      ≡ option_map (λ d. make (tree a d.dividend) (number_of (tree a d.divisor))) o
  pub is : IfSome o (IsDivision a)

pub record IsNumeralDivision (a : Arena) (d : NumeralDivision) : Type 0 where
  pub dividend_is : tree a d.dividend ≡ numeral (number_of (tree a d.dividend))
  pub divisor_is : tree a d.divisor ≡ numeral (number_of (tree a d.divisor))
  pub quotient : d.quotient ≡ int_div (number_of (tree a d.dividend)) (number_of (tree a d.divisor))
  pub remainder : d.remainder ≡ int_rem (number_of (tree a d.dividend)) (number_of (tree a d.divisor))
  pub quotient_fits : IsTrue (numeral_fits (Num d.quotient))
  pub remainder_fits : IsTrue (numeral_fits (Num d.remainder))
  pub dividend : In a d.dividend
  pub divisor : In a d.divisor

-- a division of numerals is what these terms are
pub record AreDivided (a : Arena) (us : List Term) (o : Option NumeralDivision) : Type 0 where
  pub fact : (make : ℤ → ℤ → Term) → about_numerals make us ≡ option_map (λ d. make (number_of (tree a d.dividend)) (number_of (tree a d.divisor))) o
  pub is : IfSome o (IsNumeralDivision a)
