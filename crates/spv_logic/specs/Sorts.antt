-- The sorts that a head takes and gives, and the sort of a term.
use Rattle.std.specs.Prelude.{ℕ, Bool, true, false, ◌&&◌, List, [], ◌∷◌, length, Option, Some, None, ◌^◌, nat_eq, nat_lt, if◌then◌else◌}
use Rattle.std.specs.Int.RustNames.{unsigned_abs}
use Rattle.spv_logic.specs.declared.types.Sort.{Sort}
use Rattle.spv_logic.specs.declared.types.Sort.TheVariants as sort
use Rattle.spv_logic.specs.declared.types.Shape.{Shape}
use Rattle.spv_logic.specs.declared.types.Decl.{Decl}
use Rattle.spv_logic.specs.declared.operators.Head.{Head}
use Rattle.spv_logic.specs.declared.operators.Head.TheVariants as head
use Rattle.spv_logic.specs.Terms.{Term, Terms, term, no_terms, terms, sort_eq}
use Rattle.spv_logic.specs.Shapes.{element_sort, fields_of, content_sort, pointer_sort, field_sort_of}

-- the sort of a variable
abbrev pub variable_sort : Head → Sort
variable_sort (head.Var x s n) = s
variable_sort (head.ClassVar t n) = sort.Class t
variable_sort (head.Start x s) = s
variable_sort _ = sort.Int

abbrev pub sorts_eq : List Sort → List Sort → Bool
sorts_eq [] [] = true
sorts_eq (s ∷ ss) (t ∷ ts) = sort_eq s t && sorts_eq ss ts
sorts_eq _ _ = false

-- the result where the arguments have the wanted sorts
abbrev pub takes : List Sort → List Sort → Sort → Option Sort
takes wanted given result = if sorts_eq wanted given then Some result else None

abbrev pub first_sort : List Sort → Sort
first_sort [] = sort.Int
first_sort (s ∷ sorts) = s

-- what a further sort decides, where it is there
abbrev pub with_sort : Option Sort → (Sort → Option Sort) → Option Sort
with_sort None go = None
with_sort (Some s) go = go s

-- the declaration of a symbol
abbrev pub declared : List Decl → ℕ → Option Decl
declared [] symbol = None
declared (d ∷ decls) symbol = if nat_eq d.name.0 symbol then Some d else declared decls symbol

abbrev pub takes_declared : Option Decl → List Sort → Option Sort
takes_declared None given = None
takes_declared (Some d) given = takes d.args given d.result

abbrev pub arithmetic : List Sort → Option Sort
arithmetic given = takes (sort.Int ∷ sort.Int ∷ []) given sort.Int

abbrev pub relation : List Sort → Option Sort
relation given = takes (sort.Int ∷ sort.Int ∷ []) given sort.Bool

abbrev pub connective : List Sort → Option Sort
connective given = takes (sort.Bool ∷ sort.Bool ∷ []) given sort.Bool

-- a class with the content at a pointer changed
abbrev pub class_change : List Shape → Sort → List Sort → Option Sort
class_change shapes c given = with_sort (content_sort shapes c) (λ s. takes (c ∷ pointer_sort c ∷ s ∷ []) given c)

-- a pointer, and the class of its cells
abbrev pub membership : Sort → List Sort → Option Sort
membership (sort.Ptr t) given = takes (sort.Ptr t ∷ sort.Class t ∷ []) given sort.Bool
membership _ given = None

-- the sort of a head over arguments of these sorts; none where they do not fit it
abbrev pub result_sort : List Shape → List Decl → Head → List Sort → Option Sort
result_sort shapes decls (head.Var x s n) given = takes [] given s
result_sort shapes decls (head.ClassVar t n) given = takes [] given (sort.Class t)
result_sort shapes decls (head.Start x s) given = takes [] given s
result_sort shapes decls (head.Num z) given = takes [] given sort.Int
result_sort shapes decls (head.App f) given = takes_declared (declared decls f.0) given
result_sort shapes decls head.Add given = arithmetic given
result_sort shapes decls head.Sub given = arithmetic given
result_sort shapes decls head.Mul given = arithmetic given
result_sort shapes decls head.Div given = arithmetic given
result_sort shapes decls head.Mod given = arithmetic given
result_sort shapes decls head.Eq given = takes (first_sort given ∷ first_sort given ∷ []) given sort.Bool
result_sort shapes decls head.Lt given = relation given
result_sort shapes decls head.Le given = relation given
result_sort shapes decls head.Not given = takes (sort.Bool ∷ []) given sort.Bool
result_sort shapes decls head.And given = connective given
result_sort shapes decls head.Or given = connective given
result_sort shapes decls head.Implies given = connective given
result_sort shapes decls head.Select given = let a = first_sort given in with_sort (element_sort shapes a) (λ e. takes (a ∷ sort.Int ∷ []) given e)
result_sort shapes decls head.Store given = let a = first_sort given in with_sort (element_sort shapes a) (λ e. takes (a ∷ sort.Int ∷ e ∷ []) given a)
result_sort shapes decls (head.Field f) given = let r = first_sort given in with_sort (field_sort_of (fields_of shapes r) f.0) (λ s. takes (r ∷ []) given s)
result_sort shapes decls (head.Put f) given = let r = first_sort given in with_sort (field_sort_of (fields_of shapes r) f.0) (λ s. takes (r ∷ s ∷ []) given r)
result_sort shapes decls head.Cell given = let c = first_sort given in with_sort (content_sort shapes c) (λ s. takes (c ∷ pointer_sort c ∷ []) given s)
result_sort shapes decls head.SetCell given = class_change shapes (first_sort given) given
result_sort shapes decls head.Extend given = class_change shapes (first_sort given) given
result_sort shapes decls head.PointerTo given = membership (first_sort given) given
result_sort shapes decls head.Car given = takes (sort.List ∷ []) given sort.List
result_sort shapes decls head.Cdr given = takes (sort.List ∷ []) given sort.List
result_sort shapes decls head.Cons given = takes (sort.List ∷ sort.List ∷ []) given sort.List
result_sort shapes decls head.Atom given = takes (sort.List ∷ []) given sort.Bool
result_sort shapes decls (head.Nil t) given = takes [] given (sort.Ptr t)
result_sort shapes decls head.True given = takes [] given sort.Bool
result_sort shapes decls head.False given = takes [] given sort.Bool

-- whether a numeral without its sign is below 2^127
abbrev pub numeral_fits : Head → Bool
numeral_fits (head.Num z) = nat_lt (unsigned_abs z) (2 ^ 127)
numeral_fits _ = true

-- whether the types that a sort names are there
abbrev pub sort_in_range : List Shape → Sort → Bool
sort_in_range shapes (sort.Ptr t) = nat_lt t.0 (length shapes)
sort_in_range shapes (sort.Whole t) = nat_lt t.0 (length shapes)
sort_in_range shapes (sort.Class t) = nat_lt t.0 (length shapes)
sort_in_range shapes _ = true

-- whether the types that a head names are there
abbrev pub head_in_range : List Shape → Head → Bool
head_in_range shapes (head.Var x s n) = sort_in_range shapes s
head_in_range shapes (head.ClassVar t n) = nat_lt t.0 (length shapes)
head_in_range shapes (head.Start x s) = sort_in_range shapes s
head_in_range shapes (head.Nil t) = nat_lt t.0 (length shapes)
head_in_range shapes _ = true

-- what a list of sorts decides, where each is there
abbrev pub with_sorts : Option (List Sort) → (List Sort → Option Sort) → Option Sort
with_sorts None go = None
with_sorts (Some sorts) go = go sorts

abbrev pub sort_before : Option Sort → Option (List Sort) → Option (List Sort)
sort_before None others = None
sort_before (Some s) None = None
sort_before (Some s) (Some sorts) = Some (s ∷ sorts)

abbrev mutual
  -- the sort of a term; none where the sorts in it do not fit
  pub term_sort : List Shape → List Decl → Term → Option Sort
  term_sort shapes decls (term h ts) = with_sorts (term_sorts shapes decls ts) (result_sort shapes decls h)

  pub term_sorts : List Shape → List Decl → Terms → Option (List Sort)
  term_sorts shapes decls no_terms = Some []
  term_sorts shapes decls (terms t ts) = sort_before (term_sort shapes decls t) (term_sorts shapes decls ts)
