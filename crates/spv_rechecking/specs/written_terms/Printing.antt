-- How terms are written.
use Rattle.std.specs.Prelude.{ℕ, zero, suc, List, [], ◌∷◌, ◌++◌, Option, Some, None, slice_index_or, codes, decimal}
use Rattle.std.specs.Fmt.{signed_decimal}
use Rattle.spv_logic.specs.declared.names.names.Symbol.{Symbol}
use Rattle.spv_logic.specs.declared.types.TypeId.{TypeId}
use Rattle.spv_logic.specs.declared.operators.Head.{Head}
use Rattle.spv_logic.specs.declared.operators.Head.TheVariants as head
use Rattle.spv_logic.specs.Terms.{Term, Terms, term, no_terms, terms}
use Rattle.spv_listing_values.specs.Written.{Alone, Applied, Written, Writtens, written, no_written, writtens}
use Rattle.spv_listing_values.specs.Written as text
use Rattle.spv_listing_values.specs.Places.{name_at}

-- ---- names

-- the mark of a fresh name
abbrev pub mark : ℕ → List ℕ
mark zero = []
mark (suc n) = 64 ∷ decimal (suc n)

-- the text of a title, which a type may lack
abbrev pub title_text : List (List ℕ) → Option Symbol → List ℕ
title_text names None = []
title_text names (Some x) = name_at names x

-- a type by its title; nothing where it has none
abbrev pub title_at : List (List ℕ) → List (Option Symbol) → TypeId → List ℕ
title_at names titles t = title_text names (slice_index_or titles t.0 None)

-- ---- heads

-- the word of an operator that has no name; of other heads nothing
abbrev pub operator_word : Head → List ℕ
operator_word head.Add = codes "+"
operator_word head.Sub = codes "-"
operator_word head.Mul = codes "*"
operator_word head.Div = codes "DIV"
operator_word head.Mod = codes "MOD"
operator_word head.Eq = codes "="
operator_word head.Lt = codes "<"
operator_word head.Le = codes "<="
operator_word head.Not = codes "NOT"
operator_word head.And = codes "AND"
operator_word head.Or = codes "OR"
operator_word head.Implies = codes "IMPLIES"
operator_word head.Select = codes "SELECT"
operator_word head.Store = codes "STORE"
operator_word head.Cell = codes "CELL"
operator_word head.SetCell = codes "SETCELL"
operator_word head.Extend = codes "EXTEND"
operator_word head.PointerTo = codes "POINTERTO"
operator_word head.Car = codes "CAR"
operator_word head.Cdr = codes "CDR"
operator_word head.Cons = codes "CONS"
operator_word head.Atom = codes "ATOM"
operator_word _ = []

-- the word of a variable, a class or a start value; of other heads nothing
abbrev pub leaf_text : List (List ℕ) → List (Option Symbol) → Head → List ℕ
leaf_text names titles (head.Var x s n) = name_at names x ++ mark n
leaf_text names titles (head.ClassVar t n) = 35 ∷ (title_at names titles t ++ mark n)
leaf_text names titles (head.Start x s) = name_at names x
leaf_text names titles _ = []

-- a head as it is written
abbrev pub head_of : List (List ℕ) → List (Option Symbol) → Head → text.Head
head_of names titles (head.Var x s n) = Alone (leaf_text names titles (head.Var x s n))
head_of names titles (head.ClassVar t n) = Alone (leaf_text names titles (head.ClassVar t n))
head_of names titles (head.Start x s) = Alone (leaf_text names titles (head.Start x s))
head_of names titles (head.Num z) = Alone (signed_decimal z)
head_of names titles head.True = Alone (codes "TRUE")
head_of names titles head.False = Alone (codes "FALSE")
head_of names titles (head.App f) = Applied (name_at names f) None
head_of names titles (head.Field f) = Applied (codes "FIELD") (Some (name_at names f))
head_of names titles (head.Put f) = Applied (codes "PUT") (Some (name_at names f))
head_of names titles (head.Nil t) = Applied (codes "NIL") (Some (title_at names titles t))
head_of names titles h = Applied (operator_word h) None

-- ---- terms

abbrev mutual
  -- a term as it is written: its head over its arguments
  pub written_of : List (List ℕ) → List (Option Symbol) → Term → Written
  written_of names titles (term h ts) = written (head_of names titles h) (all_written names titles ts)

  pub all_written : List (List ℕ) → List (Option Symbol) → Terms → Writtens
  all_written names titles no_terms = no_written
  all_written names titles (terms t ts) = writtens (written_of names titles t) (all_written names titles ts)
