-- How names, numbers and terms are printed.
use Rattle.std.specs.Prelude.{ℕ, zero, suc, Bool, true, false, Option, None, Some, List, [], ◌∷◌, ◌++◌, slice_index_or, nat_eq, codes, decimal, if◌then◌else◌}
use Rattle.std.specs.Fmt.{signed_decimal}
use Rattle.spv_whole.specs.Fraction.{Fraction}
use Rattle.spv_logic.specs.declared.names.names.Symbol.{Symbol}
use Rattle.spv_logic.specs.declared.types.TypeId.{TypeId}
use Rattle.spv_logic.specs.declared.operators.Head.{Head}
use Rattle.spv_logic.specs.declared.operators.Head.TheVariants.{Var, ClassVar, Start, Num, App, Add, Sub, Mul, Div, Mod, Eq, Lt, Le, Not, And, Or, Implies, Select, Store, Field, Put, Cell, SetCell, Extend, PointerTo, Car, Cdr, Cons, Atom, Nil, True, False}
use Rattle.spv_logic.specs.Terms.{Term, Terms, term, no_terms, terms}

-- a line with its end
abbrev pub line : List ℕ → List ℕ
line text = text ++ 10 ∷ []

-- ---- numbers

-- the denominator of a fraction behind a stroke; nothing for 1
abbrev pub denominator_text : ℕ → List ℕ
denominator_text den = if nat_eq den 1 then [] else codes "/" ++ decimal den

-- a fraction in lowest terms: a whole number, or two
abbrev pub fraction_text : Fraction → List ℕ
fraction_text x = signed_decimal x.num ++ denominator_text x.den

-- ---- names

-- the text of a name; nothing where the table does not have it
abbrev pub name_in : List (List ℕ) → Symbol → List ℕ
name_in names x = slice_index_or names x.0 []

-- the mark of a fresh name
abbrev pub mark : ℕ → List ℕ
mark zero = []
mark (suc n) = codes "@" ++ decimal (suc n)

-- the text of a title, which a type may lack
abbrev pub title_text : List (List ℕ) → Option Symbol → List ℕ
title_text names None = []
title_text names (Some x) = name_in names x

-- a type by its title; nothing where it has none
abbrev pub title_in : List (List ℕ) → List (Option Symbol) → TypeId → List ℕ
title_in names titles t = title_text names (slice_index_or titles t.0 None)

-- ---- heads

-- the word of a head that has no name and no number; of others nothing
abbrev pub word : Head → List ℕ
word Add = codes "+"
word Sub = codes "-"
word Mul = codes "*"
word Div = codes "DIV"
word Mod = codes "MOD"
word Eq = codes "="
word Lt = codes "<"
word Le = codes "<="
word Not = codes "NOT"
word And = codes "AND"
word Or = codes "OR"
word Implies = codes "IMPLIES"
word Select = codes "SELECT"
word Store = codes "STORE"
word Cell = codes "CELL"
word SetCell = codes "SETCELL"
word Extend = codes "EXTEND"
word PointerTo = codes "POINTERTO"
word Car = codes "CAR"
word Cdr = codes "CDR"
word Cons = codes "CONS"
word Atom = codes "ATOM"
word True = codes "TRUE"
word False = codes "FALSE"
word _ = []

-- a head with its name or number
abbrev pub head_text : List (List ℕ) → List (Option Symbol) → Head → List ℕ
head_text names titles (Var x s n) = name_in names x ++ mark n
head_text names titles (ClassVar t n) = codes "#" ++ title_in names titles t ++ mark n
head_text names titles (Start x s) = name_in names x
head_text names titles (Num z) = signed_decimal z
head_text names titles (App f) = name_in names f
head_text names titles (Field f) = codes "FIELD " ++ name_in names f
head_text names titles (Put f) = codes "PUT " ++ name_in names f
head_text names titles (Nil t) = codes "NIL " ++ title_in names titles t
head_text names titles h = word h

-- whether a head is a term by itself, and stands without brackets
abbrev pub stands_alone : Head → Bool
stands_alone (Var x s n) = true
stands_alone (ClassVar t n) = true
stands_alone (Start x s) = true
stands_alone (Num z) = true
stands_alone True = true
stands_alone False = true
stands_alone _ = false

-- ---- terms

abbrev mutual
  -- a term: a head that stands alone, or in brackets a head and its arguments
  pub term_text : List (List ℕ) → List (Option Symbol) → Term → List ℕ
  term_text names titles (term h ts) =
      if stands_alone h then head_text names titles h else codes "(" ++ head_text names titles h ++ arguments_text names titles ts ++ codes ")"

  -- arguments, each behind a blank
  pub arguments_text : List (List ℕ) → List (Option Symbol) → Terms → List ℕ
  arguments_text names titles no_terms = []
  arguments_text names titles (terms t ts) = codes " " ++ term_text names titles t ++ arguments_text names titles ts
