-- The walk over formulas of annotations.
use Rattle.std.specs.Prelude.{ℕ, Bool, true, false, List, [], ◌∷◌, length, Option, Some, None, Ok, Err, is_some, nat_eq, if◌then◌else◌}
use Rattle.spv_logic.specs.declared.types.TypeId.{TypeId}
use Rattle.spv_logic.specs.declared.types.Sort.{Sort}
use Rattle.spv_logic.specs.declared.types.Sort.TheVariants as sort
use Rattle.spv_logic.specs.declared.types.Field.{Field as SortedField}
use Rattle.spv_logic.specs.declared.types.Shape.{Shape}
use Rattle.spv_logic.specs.Shapes.{element_sort, fields_of, field_sort}
use Rattle.spv_tree.specs.declared.syntax.names.Name.{Name}
use Rattle.spv_tree.specs.syntax.Formulas as tree
use Rattle.spv_program.specs.declared.operators.BuiltIn.{BuiltIn}
use Rattle.spv_program.specs.declared.operators.BuiltIn.TheVariants as known
use Rattle.spv_program.specs.Types.{sort_of}
use Rattle.spv_program.specs.Programs.{shapes}
use Rattle.spv_program.specs.Formulas.{Formula, Formulas, Annotation, Numeral, Boolean, NilOf, Named, ClassOf, Element, FieldOf, Content, Applied, Known as KnownApplied, Negative, Calculated, Compared, Negated, Joined, Implied, no_formulas, formulas}
use Rattle.spv_typing.specs.declared.faults.TypeFault.TheVariants.{Count}
use Rattle.spv_typing.specs.Outcomes.{Outcome, after, where_so, undeclared, wrong}
use Rattle.spv_typing.specs.Known.{Function, Select, Store, Put, Cell, SetCell, Extend, PointerTo, Car, Cdr, Cons, Atom, Meaning, OfConstant, OfPlace, OfStart, OfSymbol, OfRoutine, Scope, meaning, function}
use Rattle.spv_typing.specs.DeclarationWalk.{class_named}
use Rattle.spv_typing.specs.OperatorWalk.{Operand, Of, NilAt, Argument, Forms, settled, operands, formula_line, formula_walk}

-- a formula and its sort
pub record Sorted : Type 0 where
  pub formula : Formula
  pub sort : Sort

abbrev pub with_sort : Formula → Sort → Sorted
with_sort f s = record { formula = f; sort = s }

-- ---- names

-- a name alone; a function that is known from the start lacks its arguments
abbrev pub name_alone : Scope → ℕ → Name → Option Meaning → Outcome Sorted
name_alone s line x (Some (OfConstant z)) = Ok (with_sort (Numeral z) sort.Int)
name_alone s line x (Some (OfPlace t)) = Ok (with_sort (Named x.line x.symbol) (sort_of s.known.program.forms t))
name_alone s line x (Some (OfStart of)) = Ok (with_sort (Named x.line x.symbol) of)
name_alone s line x (Some (OfSymbol d)) =
    where_so (nat_eq (length d.args) 0) (Count line) (Ok (with_sort (Applied d.name no_formulas) d.result))
name_alone s line x (Some other) = Err (wrong line)
name_alone s line x None = Err (if is_some (function s x.symbol) then Count line else undeclared x)

abbrev pub class_at : Scope → ℕ → Name → Outcome (Operand Formula)
class_at s line x = after (class_named line x (meaning s x.symbol)) (λ t. Ok (Of (ClassOf line t) (sort.Class t)))

-- ---- arguments of wanted sorts

abbrev pub settled_all : List Sort → List (ℕ × Operand Formula) → Outcome Formulas
settled_all (s ∷ wanted) (a ∷ given) =
    after (settled NilOf (wrong a.0) s a.1) (λ f. after (settled_all wanted given) (λ fs. Ok (formulas f fs)))
settled_all _ _ = Ok no_formulas

-- ---- functions that are known from the start

abbrev pub arity : Function → ℕ
arity Select = 2
arity Store = 3
arity Put = 3
arity Cell = 2
arity SetCell = 3
arity Extend = 3
arity PointerTo = 2
arity Car = 1
arity Cdr = 1
arity Cons = 2
arity Atom = 1

-- the sorts that arguments must have, and that of the result
pub record Signature : Type 0 where
  pub wanted : List Sort
  pub result : Sort

-- those of an array of this sort; or the line of an argument that is none
abbrev pub signature_on : ℕ → Sort → (Sort → Sort → Signature) → Option Sort → Outcome Signature
signature_on line a signature None = Err (wrong line)
signature_on line a signature (Some e) = Ok (signature a e)

abbrev pub on_array : List Shape → List (ℕ × Operand Formula) → (Sort → Sort → Signature) → Outcome Signature
on_array shapes [] signature = Err (wrong 0)
on_array shapes ((line, NilAt at) ∷ others) signature = Err (wrong line)
on_array shapes ((line, Of f s) ∷ others) signature = signature_on line s signature (element_sort shapes s)

abbrev pub on_class : List (ℕ × Operand Formula) → (TypeId → Signature) → Outcome Signature
on_class ((line, Of f (sort.Class t)) ∷ others) signature = Ok (signature t)
on_class ((line, Of f s) ∷ others) signature = Err (wrong line)
on_class ((line, NilAt at) ∷ others) signature = Err (wrong line)
on_class [] signature = Err (wrong 0)

-- a pointer comes first, and the class tells of what type it is
abbrev pub on_pointer : List (ℕ × Operand Formula) → (TypeId → Signature) → Outcome Signature
on_pointer ((line, Of f (sort.Ptr t)) ∷ others) signature = on_class others signature
on_pointer ((line, Of f s) ∷ others) signature = Err (wrong line)
on_pointer ((line, NilAt at) ∷ others) signature = on_class others signature
on_pointer [] signature = Err (wrong 0)

abbrev pub signature_of : Scope → Function → List (ℕ × Operand Formula) → Outcome Signature
signature_of s Select given =
    on_array (shapes s.known.program) given (λ a e. record { wanted = a ∷ sort.Int ∷ []; result = e })
signature_of s Store given =
    on_array (shapes s.known.program) given (λ a e. record { wanted = a ∷ sort.Int ∷ e ∷ []; result = a })
signature_of s Cell given =
    on_class given (λ t. record { wanted = sort.Class t ∷ sort.Ptr t ∷ []; result = sort_of s.known.program.forms t })
signature_of s SetCell given =
    on_class given (λ t. record { wanted = sort.Class t ∷ sort.Ptr t ∷ sort_of s.known.program.forms t ∷ []; result = sort.Class t })
signature_of s Extend given =
    on_class given (λ t. record { wanted = sort.Class t ∷ sort.Ptr t ∷ sort_of s.known.program.forms t ∷ []; result = sort.Class t })
signature_of s PointerTo given =
    on_pointer given (λ t. record { wanted = sort.Ptr t ∷ sort.Class t ∷ []; result = sort.Bool })
signature_of s Cons given = Ok (record { wanted = sort.List ∷ sort.List ∷ []; result = sort.List })
signature_of s Atom given = Ok (record { wanted = sort.List ∷ []; result = sort.Bool })
signature_of s _ given = Ok (record { wanted = sort.List ∷ []; result = sort.List })

-- PUT has its field apart
abbrev pub operator_of : Function → BuiltIn
operator_of Select = known.Select
operator_of Store = known.Store
operator_of Cell = known.Cell
operator_of SetCell = known.SetCell
operator_of Extend = known.Extend
operator_of PointerTo = known.PointerTo
operator_of Car = known.Car
operator_of Cdr = known.Cdr
operator_of Cons = known.Cons
operator_of _ = known.Atom

-- ---- PUT: a record, the name of a field, and a value for it

abbrev pub field_named : Name → Option Sort → Outcome Sort
field_named x None = Err (undeclared x)
field_named x (Some s) = Ok s

abbrev pub put_at : Name → ℕ → Sorted → Option (List SortedField) → ℕ × Operand Formula → Outcome Sorted
put_at x line r None v = Err (wrong line)
put_at x line r (Some fields) v =
    after (field_named x (field_sort fields x.symbol.0)) (λ s.
    after (settled NilOf (wrong v.0) s v.1) (λ f.
    Ok (with_sort (KnownApplied (known.Put x.symbol) (formulas r.formula (formulas f no_formulas))) r.sort)))

abbrev pub put_with : Scope → ℕ → Option Name → ℕ × Operand Formula → ℕ × Operand Formula → Outcome Sorted
put_with s line None r v = Err (wrong line)
put_with s line (Some x) (at, NilAt on) v = Err (wrong at)
put_with s line (Some x) (at, Of f of) v = put_at x at (with_sort f of) (fields_of (shapes s.known.program) of) v

abbrev pub put_applied : {S : Type 0} → Scope → ℕ → List (Argument Formula S) → Outcome Sorted
put_applied s line (r ∷ field ∷ v ∷ []) =
    after r.operand (λ a. after v.operand (λ b. put_with s field.line field.name (r.line, a) (v.line, b)))
put_applied s line (r ∷ field ∷ others) = after r.operand (λ a. after (operands others) (λ bs. Err (Count line)))
put_applied s line given = after (operands given) (λ os. Err (Count line))

-- ---- applications

abbrev pub known_applied : {S : Type 0} → Scope → ℕ → Function → List (Argument Formula S) → Outcome Sorted
known_applied s line Put given = put_applied s line given
known_applied s line b given =
    after (operands given) (λ os.
    where_so (nat_eq (length os) (arity b)) (Count line)
    (after (signature_of s b os) (λ sign.
    after (settled_all sign.wanted os) (λ fs. Ok (with_sort (KnownApplied (operator_of b) fs) sign.result)))))

-- the program's routines do not stand in annotations
abbrev pub named_applied : {S : Type 0} → Scope → ℕ → Name → Option Meaning → List (Argument Formula S) → Outcome Sorted
named_applied s line x None given = Err (undeclared x)
named_applied s line x (Some (OfSymbol d)) given =
    after (operands given) (λ os.
    where_so (nat_eq (length os) (length d.args)) (Count line)
    (after (settled_all d.args os) (λ fs. Ok (with_sort (Applied d.name fs) d.result))))
named_applied s line x (Some (OfRoutine h)) given =
    after (operands given) (λ os. where_so (nat_eq (length os) (length h.formals)) (Count line) (Err (wrong line)))
named_applied s line x (Some other) given = after (operands given) (λ os. Err (wrong line))

abbrev pub applied_of : {S : Type 0} → Scope → ℕ → Name → Option Function → List (Argument Formula S) → Outcome Sorted
applied_of s line x None given = named_applied s line x (meaning s x.symbol) given
applied_of s line x (Some b) given = known_applied s line b given

-- a name with brackets is the function that is known from the start, where there is one of that name
abbrev pub applied : {S : Type 0} → Scope → ℕ → Name → List (Argument Formula S) → Outcome Sorted
applied s line x given = applied_of s line x (function s x.symbol) given

-- ---- selectors

abbrev pub on_element : {A : Type 0} → A → (Sort → A) → Option Sort → A
on_element other go None = other
on_element other go (Some e) = go e

-- whether there are arrays inside arrays for so many indices
abbrev pub takes_indices : List Shape → Sort → List (ℕ × Operand Formula) → Bool
takes_indices shapes s [] = true
takes_indices shapes s (i ∷ indices) = on_element false (λ e. takes_indices shapes e indices) (element_sort shapes s)

abbrev pub elements : List Shape → Sorted → List (ℕ × Operand Formula) → Outcome Sorted
elements shapes a [] = Ok a
elements shapes a (i ∷ indices) =
    after (settled NilOf (wrong i.0) sort.Int i.1) (λ f.
    on_element (Err (wrong i.0)) (λ e. elements shapes (with_sort (Element a.formula f) e) indices) (element_sort shapes a.sort))

abbrev pub indexed_at : Scope → ℕ → Sorted → List (ℕ × Operand Formula) → Outcome Sorted
indexed_at s line a indices =
    let forms = shapes s.known.program in
    where_so (is_some (element_sort forms a.sort)) (wrong line)
    (where_so (takes_indices forms a.sort indices) (Count line) (elements forms a indices))

abbrev pub field_in : ℕ → Sorted → Name → Option (List SortedField) → Outcome Sorted
field_in line r x None = Err (wrong line)
field_in line r x (Some fields) =
    after (field_named x (field_sort fields x.symbol.0)) (λ s. Ok (with_sort (FieldOf r.formula x.symbol) s))

abbrev pub content_at : Scope → ℕ → ℕ → Sorted → Outcome Sorted
content_at s line at q = of_sort q.sort
  where
    of_sort : Sort → Outcome Sorted
    of_sort (sort.Ptr t) = Ok (with_sort (Content at t q.formula) (sort_of s.known.program.forms t))
    of_sort _ = Err (wrong line)

-- ---- annotations

abbrev pub formula_forms : Scope → Forms Formula Sorted
formula_forms s = record {
  numeral = Numeral;
  boolean = Boolean;
  nil_of = NilOf;
  negative_of = Negative;
  calculated = Calculated;
  compares = Compared;
  negated = Negated;
  joined = Joined;
  may_imply = true;
  implied = Implied;
  comparable = λ of. true;
  class_of = class_at s;
  begin = λ line x. name_alone s line x (meaning s x.symbol);
  begin_written = λ line x. name_alone s line x (meaning s x.symbol);
  apply = applied s;
  indexed = λ line a given. after (operands given) (indexed_at s line a);
  field_of = λ line r x. field_in line r x (fields_of (shapes s.known.program) r.sort);
  content_of = content_at s;
  finish = λ f. Of f.formula f.sort;
}

-- an annotation is a truth value
abbrev pub annotation : Scope → tree.Formula → Outcome Annotation
annotation s f =
    after (formula_walk (formula_forms s) f) (λ a.
    after (settled NilOf (wrong (formula_line f)) sort.Bool a) (λ g. Ok (record { formula = g; line = formula_line f })))
