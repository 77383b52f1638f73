-- The walk over formulas, which annotations and expressions have in common: operators and their operands. What names,
-- selectors and applications become differs between the two, and is given.
use Rattle.std.specs.Prelude.{ℕ, Bool, List, [], ◌∷◌, Option, Some, None, Ok, Err, ℤ, pos, if◌then◌else◌}
use Rattle.spv_logic.specs.declared.types.TypeId.{TypeId}
use Rattle.spv_logic.specs.declared.types.Sort.{Sort}
use Rattle.spv_logic.specs.declared.types.Sort.TheVariants as sort
use Rattle.spv_logic.specs.Terms.{sort_eq}
use Rattle.spv_tree.specs.declared.syntax.names.Name.{Name}
use Rattle.spv_tree.specs.declared.syntax.operators.PlusOrMinus.{PlusOrMinus}
use Rattle.spv_tree.specs.declared.syntax.operators.PlusOrMinus.TheVariants as prefix
use Rattle.spv_tree.specs.declared.syntax.operators.Comparison.{Comparison as ComparisonSign}
use Rattle.spv_tree.specs.declared.syntax.operators.Comparison.TheVariants as comparison_sign
use Rattle.spv_tree.specs.declared.syntax.operators.Adding.{Adding}
use Rattle.spv_tree.specs.declared.syntax.operators.Adding.TheVariants as adding
use Rattle.spv_tree.specs.declared.syntax.operators.Multiplying.{Multiplying}
use Rattle.spv_tree.specs.declared.syntax.operators.Multiplying.TheVariants as multiplying
pub use Rattle.spv_tree.specs.syntax.Lines.{formula_line}
use Rattle.spv_tree.specs.syntax.Formulas.{Formula, Relation, Simple, MoreTerms, Term, MoreFactors, Factor, MoreFormulas, Designator, Selectors, Selector, formula, no_conclusion, implies, relation, no_right_side, compared, simple, no_more_terms, more_terms, term, no_more_factors, more_factors, number, truth, nil, class, place, application, bracketed, negation, no_more_formulas, more_formulas, designator, no_selectors, selectors, index, field, content}
use Rattle.spv_program.specs.declared.operators.Arithmetic.{Arithmetic}
use Rattle.spv_program.specs.declared.operators.Arithmetic.TheVariants as arithmetic
use Rattle.spv_program.specs.declared.operators.Comparison.{Comparison}
use Rattle.spv_program.specs.declared.operators.Comparison.TheVariants as comparison
use Rattle.spv_program.specs.declared.operators.Connective.{Connective}
use Rattle.spv_program.specs.declared.operators.Connective.TheVariants as connective
use Rattle.spv_typing.specs.declared.faults.TypeFault.{TypeFault}
use Rattle.spv_typing.specs.Outcomes.{Outcome, after, where_so, wrong}
use Rattle.spv_typing.specs.TypeWalk.{negative}

-- ---- operands

-- what an operand became, with its sort; or NIL on this line, whose type the other side tells
pub data Operand (X : Type 0) : Type 0 where
  Of : X → Sort → Operand X
  NilAt : ℕ → Operand X

-- an argument or an index: the line of its first token, what it is as an operand, the name that it is where it is a
-- name alone, and what it is as a place that is written, where it is a designator
pub record Argument (X S : Type 0) : Type 0 where
  pub line : ℕ
  pub operand : Outcome (Operand X)
  pub name : Option Name
  pub place : Option (Outcome S)

-- what the forms of the text become; S is what a name with selectors has come to
pub record Forms (X S : Type 0) : Type 0 where
  pub numeral : ℤ → X
  pub boolean : Bool → X
  pub nil_of : TypeId → X
  pub negative_of : X → X
  pub calculated : Arithmetic → X → X → X
  pub compares : Comparison → X → X → X
  pub negated : X → X
  pub joined : Connective → X → X → X
  -- whether `->` may stand, and what it becomes
  pub may_imply : Bool
  pub implied : X → X → X
  -- which sorts `=` and `<>` compare
  pub comparable : Sort → Bool
  pub class_of : ℕ → Name → Outcome (Operand X)
  -- a name that is read, one that is written, and a name with arguments
  pub begin : ℕ → Name → Outcome S
  pub begin_written : ℕ → Name → Outcome S
  pub apply : ℕ → Name → List (Argument X S) → Outcome S
  -- the selectors, behind something that begins on a line
  pub indexed : ℕ → S → List (Argument X S) → Outcome S
  pub field_of : ℕ → S → Name → Outcome S
  pub content_of : ℕ → ℕ → S → Outcome S
  pub finish : S → Operand X

-- ---- operands of wanted sorts

-- an operand of this sort; NIL is one of each pointer sort
abbrev pub settled : {X : Type 0} → (TypeId → X) → TypeFault → Sort → Operand X → Outcome X
settled nil_of fault wanted (Of x s) = if sort_eq s wanted then Ok x else Err fault
settled nil_of fault (sort.Ptr t) (NilAt line) = Ok (nil_of t)
settled nil_of fault wanted (NilAt line) = Err fault

module _ {X S : Type 0} (k : Forms X S) where
  abbrev pub two_of : ℕ → Sort → Operand X → Operand X → (X → X → Operand X) → Outcome (Operand X)
  two_of line s a b result =
      after (settled k.nil_of (wrong line) s a) (λ x. after (settled k.nil_of (wrong line) s b) (λ y. Ok (result x y)))

  -- ---- operators, in a construct that begins on this line

  abbrev pub numbers : ℕ → Arithmetic → Operand X → Operand X → Outcome (Operand X)
  numbers line o a b = two_of line sort.Int a b (λ x y. Of (k.calculated o x y) sort.Int)

  abbrev pub truths : ℕ → Connective → Operand X → Operand X → Outcome (Operand X)
  truths line o a b = two_of line sort.Bool a b (λ x y. Of (k.joined o x y) sort.Bool)

  abbrev pub product : ℕ → Multiplying → Operand X → Operand X → Outcome (Operand X)
  product line multiplying.Times = numbers line arithmetic.Times
  product line multiplying.Div = numbers line arithmetic.Div
  product line multiplying.Mod = numbers line arithmetic.Mod
  product line multiplying.And = truths line connective.And

  abbrev pub total : ℕ → Adding → Operand X → Operand X → Outcome (Operand X)
  total line adding.Plus = numbers line arithmetic.Plus
  total line adding.Minus = numbers line arithmetic.Minus
  total line adding.Or = truths line connective.Or

  -- a sign before a numeral that is the whole term makes a numeral
  abbrev pub with_sign : ℕ → Option PlusOrMinus → Term → Operand X → Outcome (Operand X)
  with_sign line None t a = Ok a
  with_sign line (Some prefix.Plus) t a =
      after (settled k.nil_of (wrong line) sort.Int a) (λ x. Ok (Of x sort.Int))
  with_sign line (Some prefix.Minus) (term at (number on n) no_more_factors) a = Ok (Of (k.numeral (negative (pos n))) sort.Int)
  with_sign line (Some prefix.Minus) t a =
      after (settled k.nil_of (wrong line) sort.Int a) (λ x. Ok (Of (k.negative_of x) sort.Int))

  abbrev pub opposite : ℕ → Operand X → Outcome (Operand X)
  opposite line a = after (settled k.nil_of (wrong line) sort.Bool a) (λ x. Ok (Of (k.negated x) sort.Bool))

  -- two values of one sort
  abbrev pub alike : ℕ → Comparison → Operand X → Operand X → Outcome (Operand X)
  alike line o (Of x s) b =
      where_so (k.comparable s) (wrong line)
      (after (settled k.nil_of (wrong line) s b) (λ y. Ok (Of (k.compares o x y) sort.Bool)))
  alike line o (NilAt at) (Of y s) =
      where_so (k.comparable s) (wrong line)
      (after (settled k.nil_of (wrong line) s (NilAt at)) (λ x. Ok (Of (k.compares o x y) sort.Bool)))
  alike line o (NilAt at) (NilAt on) = Err (wrong line)

  abbrev pub ordered : ℕ → Comparison → Operand X → Operand X → Outcome (Operand X)
  ordered line o a b = two_of line sort.Int a b (λ x y. Of (k.compares o x y) sort.Bool)

  abbrev pub related : ℕ → ComparisonSign → Operand X → Operand X → Outcome (Operand X)
  related line comparison_sign.Equal = alike line comparison.Equal
  related line comparison_sign.NotEqual = alike line comparison.NotEqual
  related line comparison_sign.Less = ordered line comparison.Less
  related line comparison_sign.AtMost = ordered line comparison.AtMost
  related line comparison_sign.Greater = ordered line comparison.Greater
  related line comparison_sign.AtLeast = ordered line comparison.AtLeast

  abbrev pub conclusion : ℕ → Operand X → Operand X → Outcome (Operand X)
  conclusion line a b =
      where_so k.may_imply (wrong line) (two_of line sort.Bool a b (λ x y. Of (k.implied x y) sort.Bool))

-- ---- what an argument is, by its form alone

-- the designator that a formula is
abbrev pub factor_alone : Factor → Option Designator
factor_alone (place line d) = Some d
factor_alone other = None

abbrev pub term_alone : Term → Option Designator
term_alone (term line f no_more_factors) = factor_alone f
term_alone (term line f (more_factors o g more)) = None

abbrev pub simple_alone : Simple → Option Designator
simple_alone (simple line None t no_more_terms) = term_alone t
simple_alone (simple line None t (more_terms o u more)) = None
simple_alone (simple line (Some sign) t more) = None

abbrev pub relation_alone : Relation → Option Designator
relation_alone (relation line s no_right_side) = simple_alone s
relation_alone (relation line s (compared o t)) = None

abbrev pub designator_alone : Formula → Option Designator
designator_alone (formula line r no_conclusion) = relation_alone r
designator_alone (formula line r (implies f)) = None

abbrev pub bare : Option Designator → Option Name
bare (Some (designator line x no_selectors)) = Some x
bare _ = None

-- the operands of arguments, in order, each with its line
abbrev pub operands : {X S : Type 0} → List (Argument X S) → Outcome (List (ℕ × Operand X))
operands [] = Ok []
operands (a ∷ others) = after a.operand (λ o. after (operands others) (λ rest. Ok ((a.line, o) ∷ rest)))

-- an argument that has this form, from what it is as an operand and as a place
abbrev pub argument : {X S : Type 0} → Formula → Outcome (Operand X) → Option (Outcome S) → Argument X S
argument f o written = record { line = formula_line f; operand = o; name = bare (designator_alone f); place = written }

-- ---- the walk

module _ {X S : Type 0} (k : Forms X S) where
  abbrev mutual
    pub formula_walk : Formula → Outcome (Operand X)
    formula_walk (formula line r no_conclusion) = relation_walk r
    formula_walk (formula line r (implies f)) =
        after (relation_walk r) (λ a. after (formula_walk f) (λ b. conclusion k line a b))

    pub relation_walk : Relation → Outcome (Operand X)
    relation_walk (relation line s no_right_side) = simple_walk s
    relation_walk (relation line s (compared o t)) =
        after (simple_walk s) (λ a. after (simple_walk t) (λ b. related k line o a b))

    pub simple_walk : Simple → Outcome (Operand X)
    simple_walk (simple line sign t more) =
        after (term_walk t) (λ a. after (with_sign k line sign t a) (λ b. more_terms_walk line b more))

    pub more_terms_walk : ℕ → Operand X → MoreTerms → Outcome (Operand X)
    more_terms_walk line a no_more_terms = Ok a
    more_terms_walk line a (more_terms o t more) =
        after (term_walk t) (λ b. after (total k line o a b) (λ c. more_terms_walk line c more))

    pub term_walk : Term → Outcome (Operand X)
    term_walk (term line f more) = after (factor_walk f) (λ a. more_factors_walk line a more)

    pub more_factors_walk : ℕ → Operand X → MoreFactors → Outcome (Operand X)
    more_factors_walk line a no_more_factors = Ok a
    more_factors_walk line a (more_factors o f more) =
        after (factor_walk f) (λ b. after (product k line o a b) (λ c. more_factors_walk line c more))

    pub factor_walk : Factor → Outcome (Operand X)
    factor_walk (number line n) = Ok (Of (k.numeral (pos n)) sort.Int)
    factor_walk (truth line b) = Ok (Of (k.boolean b) sort.Bool)
    factor_walk (nil line) = Ok (NilAt line)
    factor_walk (class line x) = k.class_of line x
    factor_walk (place line d) = after (designator_walk k.begin d) (λ s. Ok (k.finish s))
    factor_walk (application line x f more behind) =
        after (k.apply line x (argument f (formula_walk f) (written_place f) ∷ arguments more)) (λ s. after (selectors_walk line s behind) (λ t. Ok (k.finish t)))
    factor_walk (bracketed line f) = formula_walk f
    factor_walk (negation line f) = after (factor_walk f) (λ a. opposite k line a)

    pub designator_walk : (ℕ → Name → Outcome S) → Designator → Outcome S
    designator_walk start (designator line x behind) = after (start line x) (λ s. selectors_walk line s behind)

    pub selectors_walk : ℕ → S → Selectors → Outcome S
    selectors_walk line s no_selectors = Ok s
    selectors_walk line s (selectors one more) = after (selector_walk line s one) (λ next. selectors_walk line next more)

    pub selector_walk : ℕ → S → Selector → Outcome S
    selector_walk line s (index at f more) = k.indexed line s (argument f (formula_walk f) (written_place f) ∷ arguments more)
    selector_walk line s (field at x) = k.field_of line s x
    selector_walk line s (content at) = k.content_of line at s

    pub arguments : MoreFormulas → List (Argument X S)
    arguments no_more_formulas = []
    arguments (more_formulas f more) = argument f (formula_walk f) (written_place f) ∷ arguments more

    -- a designator as a place that is written
    pub written_place : Formula → Option (Outcome S)
    written_place (formula line r no_conclusion) = relation_place r
    written_place (formula line r (implies f)) = None

    pub relation_place : Relation → Option (Outcome S)
    relation_place (relation line s no_right_side) = simple_place s
    relation_place (relation line s (compared o t)) = None

    pub simple_place : Simple → Option (Outcome S)
    simple_place (simple line None t no_more_terms) = term_place t
    simple_place (simple line None t (more_terms o u more)) = None
    simple_place (simple line (Some sign) t more) = None

    pub term_place : Term → Option (Outcome S)
    term_place (term line f no_more_factors) = factor_place f
    term_place (term line f (more_factors o g more)) = None

    pub factor_place : Factor → Option (Outcome S)
    factor_place (place line d) = Some (designator_walk k.begin_written d)
    factor_place (number line n) = None
    factor_place (truth line b) = None
    factor_place (nil line) = None
    factor_place (class line x) = None
    factor_place (application line x f more behind) = None
    factor_place (bracketed line f) = None
    factor_place (negation line f) = None
