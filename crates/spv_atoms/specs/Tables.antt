-- Truth values that are computed from those that are known, by the three-valued tables: no value means that it is not known.
use Rattle.std.specs.Prelude.{Bool, true, false, ◌&&◌, not, List, [], ◌∷◌, Option, Some, None, ℤ, if◌then◌else◌}
use Rattle.std.specs.Int.RustNames.{int_lt}
use Rattle.std.specs.Ordering.{int_eq}
use Rattle.spv_logic.specs.declared.operators.Head.{Head}
use Rattle.spv_logic.specs.declared.operators.Head.TheVariants.{Num, Not, And, Or, Implies, Eq, Lt, Le, True, False}
use Rattle.spv_logic.specs.Values.{bool_eq}
use Rattle.spv_logic.specs.Terms.{Term, Terms, term, no_terms, terms, term_eq}

-- ---- the tables

abbrev pub not_of : Option Bool → Option Bool
not_of None = None
not_of (Some a) = Some (not a)

abbrev pub and_of : Option Bool → Option Bool → Option Bool
and_of (Some false) b = Some false
and_of (Some true) b = b
and_of None (Some false) = Some false
and_of None _ = None

abbrev pub or_of : Option Bool → Option Bool → Option Bool
or_of a b = not_of (and_of (not_of a) (not_of b))

abbrev pub implied : Option Bool → Option Bool → Option Bool
implied a b = or_of (not_of a) b

abbrev pub same_of : Option Bool → Option Bool → Option Bool
same_of None b = None
same_of (Some a) None = None
same_of (Some a) (Some b) = Some (bool_eq a b)

-- ---- relations of two numerals

-- the number of a numeral
abbrev pub numeral : Term → Option ℤ
numeral (term (Num z) ts) = Some z
numeral _ = None

abbrev pub compare_known : (ℤ → ℤ → Bool) → Option ℤ → Option ℤ → Option Bool
compare_known test None y = None
compare_known test (Some x) None = None
compare_known test (Some x) (Some y) = Some (test x y)

-- a test of two numerals
abbrev pub compare_numerals : (ℤ → ℤ → Bool) → Terms → Option Bool
compare_numerals test (terms s (terms t no_terms)) = compare_known test (numeral s) (numeral t)
compare_numerals test _ = None

-- the truth of a relation of two numerals
abbrev pub numeral_relation : Term → Option Bool
numeral_relation (term Eq ts) = compare_numerals int_eq ts
numeral_relation (term Lt ts) = compare_numerals int_lt ts
numeral_relation (term Le ts) = compare_numerals (λ x y. not (int_lt y x)) ts
numeral_relation _ = None

-- ---- formulas

abbrev pub all_truths : (Term → Bool) → Terms → Bool
all_truths is_truth no_terms = true
all_truths is_truth (terms t ts) = is_truth t && all_truths is_truth ts

-- the first and the second of a list of values
abbrev pub first_of : List (Option Bool) → Option Bool
first_of [] = None
first_of (a ∷ others) = a

abbrev pub second_of : List (Option Bool) → Option Bool
second_of [] = None
second_of (a ∷ others) = first_of others

-- the value of an equation: of truth values by their values, else of numerals
abbrev pub equation_value : Bool → Option Bool → Option Bool → Terms → Option Bool
equation_value true x y ts = same_of x y
equation_value false x y ts = numeral_relation (term Eq ts)

-- the value of a formula of this head over these arguments, whose first two have the values x and y;
-- `truths` says whether the arguments are all of sort Bool
abbrev pub combined : Bool → Head → Option Bool → Option Bool → Terms → Option Bool
combined truths Not x y ts = not_of x
combined truths And x y ts = and_of x y
combined truths Or x y ts = or_of x y
combined truths Implies x y ts = implied x y
combined truths Eq x y ts = equation_value truths x y ts
combined truths Lt x y ts = numeral_relation (term Lt ts)
combined truths Le x y ts = numeral_relation (term Le ts)
combined truths True x y ts = Some true
combined truths False x y ts = Some false
combined truths _ x y ts = None

abbrev pub or_else : Option Bool → Option Bool → Option Bool
or_else None b = b
or_else (Some a) b = Some a

abbrev mutual
  -- the computed value of a formula; each argument has its given value, and its computed value where none is given
  pub computed : (Term → Bool) → (Term → Option Bool) → Term → Option Bool
  computed is_truth given (term h ts) =
      combined (all_truths is_truth ts) h (first_of (values is_truth given ts)) (second_of (values is_truth given ts)) ts

  pub values : (Term → Bool) → (Term → Option Bool) → Terms → List (Option Bool)
  values is_truth given no_terms = []
  values is_truth given (terms t ts) = or_else (given t) (computed is_truth given t) ∷ values is_truth given ts

-- the value that a list gives to a term: of two the first
abbrev pub assigned : List (Term × Bool) → Term → Option Bool
assigned [] t = None
assigned (a ∷ others) t = if term_eq a.0 t then Some a.1 else assigned others t

-- the value of a formula, where these values are known: its own if it is among them, else the computed one
abbrev pub truth : (Term → Bool) → List (Term × Bool) → Term → Option Bool
truth is_truth known t = or_else (assigned known t) (computed is_truth (assigned known) t)
