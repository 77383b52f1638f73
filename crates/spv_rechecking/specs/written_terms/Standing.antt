-- Which term a written term stands for.
use Rattle.std.specs.Prelude.{ℕ, Bool, true, false, ◌&&◌, List, [], ◌∷◌, Option, Some, None, is_some, map, slice_get, position, nat_eq, codes, if◌then◌else◌}
use Rattle.std.specs.Fmt.{signed_decimal}
use Rattle.std.specs.Map.{lookup}
use Rattle.std.specs.Option.{option_map, option_and_then}
use Rattle.std.specs.Str.{bytes_eq}
use Rattle.spv_logic.specs.declared.names.names.Symbol.{Symbol}
use Rattle.spv_logic.specs.declared.types.TypeId.{TypeId}
use Rattle.spv_logic.specs.declared.types.Sort.{Sort}
use Rattle.spv_logic.specs.declared.types.Shape.{Shape}
use Rattle.spv_logic.specs.declared.types.Decl.{Decl}
use Rattle.spv_logic.specs.declared.operators.Head.{Head}
use Rattle.spv_logic.specs.declared.operators.Head.TheVariants as head
use Rattle.spv_logic.specs.Terms.{Term, Terms, term, no_terms, terms, heads_pass}
use Rattle.spv_logic.specs.Sorts.{term_sort, result_sort, head_in_range, numeral_fits}
use Rattle.spv_listing_values.specs.Written.{Alone, Applied, Written, Writtens, written, no_written, writtens}
use Rattle.spv_listing_values.specs.Written as text
use Rattle.spv_listing_values.specs.Reading.{whole_of}
use Rattle.spv_rechecking.specs.written_terms.Printing.{leaf_text}

-- what words may name: the table of names, the first name of each type that has one, and the variables, classes and start values that may
-- be meant, in the order in which they are tried
pub record Words : Type 0 where
  pub names : List (List ℕ)
  pub titles : List (Option Symbol)
  pub leaves : List Head

-- and the types and symbols of the program
pub record Vocabulary : Type 0 where
  pub words : Words
  pub shapes : List Shape
  pub decls : List Decl

abbrev pub is_leaf : Head → Bool
is_leaf (head.Var x s n) = true
is_leaf (head.ClassVar t n) = true
is_leaf (head.Start x s) = true
is_leaf _ = false

abbrev pub top : Term → Head
top (term h ts) = h

-- the first of two, where it is there, else the second
abbrev pub either : Option Head → Option Head → Option Head
either (Some h) other = Some h
either None other = other

-- ---- names

-- the symbol whose name is this text
abbrev pub symbol_for : List (List ℕ) → List ℕ → Option Symbol
symbol_for names word = option_map (λ k. record { 0 = k }) (position (bytes_eq word) names)

abbrev pub is_title : Symbol → Option Symbol → Bool
is_title x None = false
is_title x (Some y) = nat_eq x.0 y.0

-- the first type with this title
abbrev pub type_of : List (Option Symbol) → Symbol → Option TypeId
type_of titles x = option_map (λ k. record { 0 = k }) (position (is_title x) titles)

abbrev pub type_for : List (List ℕ) → List (Option Symbol) → List ℕ → Option TypeId
type_for names titles word = option_and_then (type_of titles) (symbol_for names word)

-- ---- words that stand alone

-- the numeral that is written so
abbrev pub numeral_for : List ℕ → Option Head
numeral_for word = let z = whole_of word in if bytes_eq (signed_decimal z) word && numeral_fits (head.Num z) then Some (head.Num z) else None

-- the first variable, class or start value that is written so
abbrev pub leaf_for : Words → List ℕ → Option Head
leaf_for v word = option_and_then (slice_get v.leaves) (position (bytes_eq word) (map (leaf_text v.names v.titles) v.leaves))

abbrev pub constants : List (List ℕ × Head)
constants = (codes "TRUE", head.True) ∷ (codes "FALSE", head.False) ∷ []

abbrev pub alone_for : Words → List ℕ → Option Head
alone_for v word = either (lookup (bytes_eq word) constants) (either (numeral_for word) (leaf_for v word))

-- ---- words that are applied

abbrev pub operators : List (List ℕ × Head)
operators =
    (codes "+", head.Add) ∷ (codes "-", head.Sub) ∷ (codes "*", head.Mul) ∷ (codes "DIV", head.Div) ∷ (codes "MOD", head.Mod) ∷ (codes "=", head.Eq)
    ∷ (codes "<", head.Lt) ∷ (codes "<=", head.Le) ∷ (codes "NOT", head.Not) ∷ (codes "AND", head.And) ∷ (codes "OR", head.Or) ∷ (codes "IMPLIES", head.Implies)
    ∷ (codes "SELECT", head.Select) ∷ (codes "STORE", head.Store) ∷ (codes "CELL", head.Cell) ∷ (codes "SETCELL", head.SetCell) ∷ (codes "EXTEND", head.Extend)
    ∷ (codes "POINTERTO", head.PointerTo) ∷ (codes "CAR", head.Car) ∷ (codes "CDR", head.Cdr) ∷ (codes "CONS", head.Cons) ∷ (codes "ATOM", head.Atom) ∷ []

-- an operator, or the symbol of this name
abbrev pub applied_for : List (List ℕ) → List ℕ → Option Head
applied_for names word = either (lookup (bytes_eq word) operators) (option_map head.App (symbol_for names word))

-- an operator with the name of a field or of a type
abbrev pub named_for : List (List ℕ) → List (Option Symbol) → List ℕ → List ℕ → Option Head
named_for names titles word name =
    if bytes_eq word (codes "FIELD") then option_map head.Field (symbol_for names name)
    else if bytes_eq word (codes "PUT") then option_map head.Put (symbol_for names name)
    else if bytes_eq word (codes "NIL") then option_map head.Nil (type_for names titles name) else None

-- the head that is written so
abbrev pub head_for : Words → text.Head → Option Head
head_for v (Alone word) = alone_for v word
head_for v (Applied word None) = applied_for v.names word
head_for v (Applied word (Some name)) = named_for v.names v.titles word name

-- ---- terms

abbrev pub over : Option Head → Option Terms → Option Term
over None ts = None
over (Some h) None = None
over (Some h) (Some ts) = Some (term h ts)

abbrev pub in_front : Option Term → Option Terms → Option Terms
in_front None ts = None
in_front (Some t) None = None
in_front (Some t) (Some ts) = Some (terms t ts)

abbrev mutual
  -- the heads that are written so over the arguments
  pub heads_over : Words → Written → Option Term
  heads_over v (written h ts) = over (head_for v h) (all_heads_over v ts)

  pub all_heads_over : Words → Writtens → Option Terms
  all_heads_over v no_written = Some no_terms
  all_heads_over v (writtens t ts) = in_front (heads_over v t) (all_heads_over v ts)

-- whether the types that a head names are there, and its number fits
abbrev pub may_stand : List Shape → Head → Bool
may_stand shapes h = head_in_range shapes h && numeral_fits h

-- the sort of a head over arguments of these sorts, if it may stand there
abbrev pub sort_over : List Shape → List Decl → Head → List Sort → Option Sort
sort_over shapes decls h given = if may_stand shapes h then result_sort shapes decls h given else None

-- whether sorts fit, types are there, and numbers fit
abbrev pub is_term : Vocabulary → Term → Bool
is_term v t = is_some (term_sort v.shapes v.decls t) && heads_pass (may_stand v.shapes) t

abbrev pub if_term : Vocabulary → Option Term → Option Term
if_term v None = None
if_term v (Some t) = if is_term v t then Some t else None

-- the term that a written term stands for
abbrev pub term_for : Vocabulary → Written → Option Term
term_for v w = if_term v (heads_over v.words w)

-- whether it stands for one
abbrev pub stands : Vocabulary → Written → Bool
stands v w = is_some (term_for v w)
