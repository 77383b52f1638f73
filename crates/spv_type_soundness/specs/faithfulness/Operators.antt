-- From which trees of formulas a typed form may come: the operators and their operands, which annotations and expressions have in
-- common. What names, applications and selectors become differs between the two, and is given.
use Rattle.std.specs.Prelude.{◌≡◌, ℕ, Bool, true, false, List, [], ◌∷◌, Option, Some, None, ℤ, pos, ◌*ℤ◌, negsuc}
use Rattle.spv_logic.specs.declared.names.names.Symbol.{Symbol}
use Rattle.spv_logic.specs.declared.types.TypeId.{TypeId}
use Rattle.spv_tree.specs.declared.syntax.names.Name.{Name}
use Rattle.spv_tree.specs.declared.syntax.operators.PlusOrMinus.TheVariants as sign
use Rattle.spv_tree.specs.declared.syntax.operators.Comparison.{Comparison as ComparisonSign}
use Rattle.spv_tree.specs.declared.syntax.operators.Comparison.TheVariants as comparison_sign
use Rattle.spv_tree.specs.declared.syntax.operators.Adding.{Adding}
use Rattle.spv_tree.specs.declared.syntax.operators.Adding.TheVariants as adding
use Rattle.spv_tree.specs.declared.syntax.operators.Multiplying.{Multiplying}
use Rattle.spv_tree.specs.declared.syntax.operators.Multiplying.TheVariants as multiplying
use Rattle.spv_tree.specs.syntax.Formulas.{Formula, Relation, Simple, MoreTerms, Term, MoreFactors, Factor, MoreFormulas, Designator, Selectors, formula, no_conclusion, implies, relation, no_right_side, compared, simple, no_more_terms, more_terms, term, no_more_factors, more_factors, number, truth, nil, class, place, application, bracketed, negation, no_more_formulas, more_formulas, designator, no_selectors, selectors, index, field, content}
use Rattle.spv_program.specs.declared.operators.Arithmetic.{Arithmetic}
use Rattle.spv_program.specs.declared.operators.Arithmetic.TheVariants as arithmetic
use Rattle.spv_program.specs.declared.operators.Comparison.{Comparison}
use Rattle.spv_program.specs.declared.operators.Comparison.TheVariants as comparison
use Rattle.spv_program.specs.declared.operators.Connective.{Connective}
use Rattle.spv_program.specs.declared.operators.Connective.TheVariants as connective

-- ---- operators

abbrev pub comparison_of : ComparisonSign → Comparison
comparison_of comparison_sign.Equal = comparison.Equal
comparison_of comparison_sign.NotEqual = comparison.NotEqual
comparison_of comparison_sign.Less = comparison.Less
comparison_of comparison_sign.AtMost = comparison.AtMost
comparison_of comparison_sign.Greater = comparison.Greater
comparison_of comparison_sign.AtLeast = comparison.AtLeast

-- a numeral that is a whole term; a sign before it belongs to it
abbrev pub is_numeral : Term → Bool
is_numeral (term line (number at n) no_more_factors) = true
is_numeral _ = false

-- ---- formulas that are a name or a designator alone

abbrev pub factor_designator : Factor → Option Designator
factor_designator (place line d) = Some d
factor_designator other = None

abbrev pub term_designator : Term → Option Designator
term_designator (term line f no_more_factors) = factor_designator f
term_designator other = None

abbrev pub simple_designator : Simple → Option Designator
simple_designator (simple line None t no_more_terms) = term_designator t
simple_designator other = None

abbrev pub relation_designator : Relation → Option Designator
relation_designator (relation line s no_right_side) = simple_designator s
relation_designator other = None

-- the designator that a formula is, without brackets or operators
abbrev pub designator_of : Formula → Option Designator
designator_of (formula line r no_conclusion) = relation_designator r
designator_of other = None

-- ---- what the forms of the text become

-- an argument: a value, a place for a VAR parameter, or in PUT the name of a field
pub data Given (X : Type 0) : Type 0 where
  Value : X → Given X
  AtPlace : X → Given X
  FieldName : Symbol → Given X

pub record Operators (X : Type 0) : Type 0 where
  pub numeral : ℤ → X
  pub boolean : Bool → X
  pub nil_of : TypeId → X
  pub negative : X → X
  pub calculated : Arithmetic → X → X → X
  pub compared : Comparison → X → X → X
  pub negated : X → X
  pub joined : Connective → X → X → X
  -- `a -> b`, where it may stand
  pub implied : X → X → Option X
  -- `#T` on a line
  pub class_of : ℕ → Name → Option X
  -- something with one selector more, which stands behind something of this type, or with `^` leads to cells of this type
  pub element : TypeId → X → X → Option X
  pub field_of : TypeId → X → Symbol → Option X
  pub content_of : ℕ → TypeId → X → Option X

abbrev pub sum_of : {X : Type 0} → Operators X → Adding → X → X → X
sum_of k adding.Plus = k.calculated arithmetic.Plus
sum_of k adding.Minus = k.calculated arithmetic.Minus
sum_of k adding.Or = k.joined connective.Or

abbrev pub product_of : {X : Type 0} → Operators X → Multiplying → X → X → X
product_of k multiplying.Times = k.calculated arithmetic.Times
product_of k multiplying.Div = k.calculated arithmetic.Div
product_of k multiplying.Mod = k.calculated arithmetic.Mod
product_of k multiplying.And = k.joined connective.And

-- ---- from which trees

-- `Reads` and `Writes` say what a name alone is, `Applies` what it is with arguments
module _ {X : Type 0} (k : Operators X) (Reads Writes : Name → X → Type 0) (Applies : Name → List (Given X) → X → Type 0) where
  mutual
    pub data FromFormula : X → Formula → Type 0 where
      alone : {x : X} {line : ℕ} {r : Relation} → FromRelation x r → FromFormula x (formula line r no_conclusion)
      implication : {x y z : X} {line : ℕ} {r : Relation} {f : Formula}
          → FromRelation x r → FromFormula y f → k.implied x y ≡ Some z → FromFormula z (formula line r (implies f))

    pub data FromRelation : X → Relation → Type 0 where
      one_side : {x : X} {line : ℕ} {s : Simple} → FromSimple x s → FromRelation x (relation line s no_right_side)
      two_sides : {x y : X} {line : ℕ} {s t : Simple} {o : ComparisonSign}
          → FromSimple x s → FromSimple y t → FromRelation (k.compared (comparison_of o) x y) (relation line s (compared o t))

    pub data FromSimple : X → Simple → Type 0 where
      unsigned : {x z : X} {line : ℕ} {t : Term} {more : MoreTerms} → FromTerm x t → FromTerms x more z
          → FromSimple z (simple line None t more)
      plus : {x z : X} {line : ℕ} {t : Term} {more : MoreTerms} → FromTerm x t → FromTerms x more z
          → FromSimple z (simple line (Some sign.Plus) t more)
      -- a sign before a numeral that is the whole term makes a numeral
      minus_numeral : {z : X} {line at on n : ℕ} {more : MoreTerms}
          → FromTerms (k.numeral (negsuc 0 *ℤ pos n)) more z
          → FromSimple z (simple line (Some sign.Minus) (term at (number on n) no_more_factors) more)
      minus : {x z : X} {line : ℕ} {t : Term} {more : MoreTerms}
          → is_numeral t ≡ false → FromTerm x t → FromTerms (k.negative x) more z → FromSimple z (simple line (Some sign.Minus) t more)

    -- the terms behind what the first ones have come to
    pub data FromTerms : X → MoreTerms → X → Type 0 where
      no_terms : {x : X} → FromTerms x no_more_terms x
      one_term : {x y z : X} {o : Adding} {t : Term} {more : MoreTerms} → FromTerm y t → FromTerms (sum_of k o x y) more z
          → FromTerms x (more_terms o t more) z

    pub data FromTerm : X → Term → Type 0 where
      product : {x z : X} {line : ℕ} {f : Factor} {more : MoreFactors} → FromFactor x f → FromFactors x more z
          → FromTerm z (term line f more)

    pub data FromFactors : X → MoreFactors → X → Type 0 where
      no_factors : {x : X} → FromFactors x no_more_factors x
      one_factor : {x y z : X} {o : Multiplying} {f : Factor} {more : MoreFactors}
          → FromFactor y f → FromFactors (product_of k o x y) more z → FromFactors x (more_factors o f more) z

    pub data FromFactor : X → Factor → Type 0 where
      numeral : {line n : ℕ} → FromFactor (k.numeral (pos n)) (number line n)
      boolean : {line : ℕ} {b : Bool} → FromFactor (k.boolean b) (truth line b)
      nil_of : {line : ℕ} {t : TypeId} → FromFactor (k.nil_of t) (nil line)
      class_of : {z : X} {line : ℕ} {c : Name} → k.class_of line c ≡ Some z → FromFactor z (class line c)
      read : {x : X} {line : ℕ} {d : Designator} → FromRead x d → FromFactor x (place line d)
      applied : {x z : X} {line : ℕ} {name : Name} {f : Formula} {more : MoreFormulas} {behind : Selectors} {gs : List (Given X)}
          → FromArguments gs (more_formulas f more) → Applies name gs x → FromSelectors x behind z
          → FromFactor z (application line name f more behind)
      -- brackets are left out
      in_brackets : {x : X} {line : ℕ} {f : Formula} → FromFormula x f → FromFactor x (bracketed line f)
      negated : {x : X} {line : ℕ} {f : Factor} → FromFactor x f → FromFactor (k.negated x) (negation line f)

    -- a designator that is read, and one that is written
    pub data FromRead : X → Designator → Type 0 where
      read_name : {x z : X} {line : ℕ} {name : Name} {behind : Selectors} → Reads name x → FromSelectors x behind z
          → FromRead z (designator line name behind)

    pub data FromWritten : X → Designator → Type 0 where
      written_name : {x z : X} {line : ℕ} {name : Name} {behind : Selectors} → Writes name x → FromSelectors x behind z
          → FromWritten z (designator line name behind)

    -- the selectors behind what the first ones have come to
    pub data FromSelectors : X → Selectors → X → Type 0 where
      no_more : {x : X} → FromSelectors x no_selectors x
      by_index : {a x y z : X} {t : TypeId} {at : ℕ} {f : Formula} {more : Selectors}
          → FromFormula x f → k.element t a x ≡ Some y → FromSelectors y more z
          → FromSelectors a (selectors (index at f no_more_formulas) more) z
      -- `a[i, j]` is `a[i][j]`
      by_indices : {a x y z : X} {t : TypeId} {at : ℕ} {f g : Formula} {fs : MoreFormulas} {more : Selectors}
          → FromFormula x f → k.element t a x ≡ Some y → FromSelectors y (selectors (index at g fs) more) z
          → FromSelectors a (selectors (index at f (more_formulas g fs)) more) z
      by_field : {a y z : X} {t : TypeId} {at : ℕ} {name : Name} {more : Selectors}
          → k.field_of t a name.symbol ≡ Some y → FromSelectors y more z → FromSelectors a (selectors (field at name) more) z
      by_content : {a y z : X} {t : TypeId} {at : ℕ} {more : Selectors}
          → k.content_of at t a ≡ Some y → FromSelectors y more z → FromSelectors a (selectors (content at) more) z

    pub data FromArgument : Given X → Formula → Type 0 where
      value : {x : X} {f : Formula} → FromFormula x f → FromArgument (Value x) f
      at_place : {x : X} {f : Formula} {d : Designator} → designator_of f ≡ Some d → FromWritten x d → FromArgument (AtPlace x) f
      field_name : {line : ℕ} {name : Name} {f : Formula} → designator_of f ≡ Some (designator line name no_selectors)
          → FromArgument (FieldName name.symbol) f

    pub data FromArguments : List (Given X) → MoreFormulas → Type 0 where
      no_arguments : FromArguments [] no_more_formulas
      one_argument : {g : Given X} {gs : List (Given X)} {f : Formula} {more : MoreFormulas}
          → FromArgument g f → FromArguments gs more → FromArguments (g ∷ gs) (more_formulas f more)
