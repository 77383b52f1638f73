-- The walk over a program's own expressions: places, calls, and what they give.
use Rattle.std.specs.Prelude.{ℕ, Bool, true, false, ◌&&◌, List, [], ◌∷◌, ◌++◌, length, Option, Some, None, Ok, Err, ℤ, is_some, nat_eq, if◌then◌else◌}
use Rattle.spv_logic.specs.declared.names.names.Symbol.{Symbol}
use Rattle.spv_logic.specs.declared.types.TypeId.{TypeId}
use Rattle.spv_logic.specs.declared.types.Sort.{Sort}
use Rattle.spv_logic.specs.declared.types.Sort.TheVariants as sort
use Rattle.spv_tree.specs.declared.syntax.names.Name.{Name}
use Rattle.spv_tree.specs.syntax.Formulas as tree
use Rattle.spv_program.specs.declared.types.TypeForm.{TypeForm}
use Rattle.spv_program.specs.declared.types.TypeForm.TheVariants as form
use Rattle.spv_program.specs.Lists.{same_name}
use Rattle.spv_program.specs.Types.{form_at, sort_of, element_of, field_type, target_of, same_places}
use Rattle.spv_program.specs.Expressions.{Expression, Designator, Selectors, Call, Arguments, Numeral, Boolean, NilOf, Read, Result, Through, Negative, Calculated, Compared, Negated, Joined, designator, no_selectors, at_index, at_field, at_cell, call, no_arguments, by_value, by_place}
use Rattle.spv_program.specs.ExpressionTypes.{comparable}
use Rattle.spv_program.specs.Programs.{Formal}
use Rattle.spv_typing.specs.declared.faults.TypeFault.{TypeFault}
use Rattle.spv_typing.specs.declared.faults.TypeFault.TheVariants.{Count}
use Rattle.spv_typing.specs.Outcomes.{Outcome, after, where_so, undeclared, wrong}
use Rattle.spv_typing.specs.Known.{Function, Meaning, OfConstant, OfPlace, OfSymbol, OfRoutine, Heading, Scope, integer_type, meaning, function}
use Rattle.spv_typing.specs.FormulaWalk.{arity}
use Rattle.spv_typing.specs.OperatorWalk.{Operand, Of, Argument, Forms, settled, operands, formula_line, formula_walk, designator_walk}

-- ---- what a name with selectors has come to

-- where it begins
pub data Base : Type 0 where
  -- a variable or a parameter, with the line of its name
  AtName : ℕ → Symbol → Base
  -- the name of the function in whose body it stands, as a place
  AtResult : ℕ → Symbol → Base
  OfNumber : ℤ → Base
  OfCall : Call → Base

pub data Link : Type 0 where
  ByIndex : TypeId → Expression → Link
  ByField : TypeId → Symbol → Link
  ByCell : ℕ → TypeId → Link

-- where it begins, the selectors so far, and the type of what is reached
pub record Reached : Type 0 where
  pub base : Base
  pub links : List Link
  pub type : TypeId

abbrev pub reached : Base → TypeId → Reached
reached b t = record { base = b; links = []; type = t }

abbrev pub chained : List Link → Selectors
chained [] = no_selectors
chained (ByIndex t e ∷ links) = at_index t e (chained links)
chained (ByField t f ∷ links) = at_field t f (chained links)
chained (ByCell line t ∷ links) = at_cell line t (chained links)

abbrev pub place_at : ℕ → Symbol → List Link → Designator
place_at line x links = designator line x (chained links)

-- a function's result is followed by `^` where anything follows it
abbrev pub result_at : Call → List Link → Expression
result_at c (ByCell line t ∷ links) = Through c line t (chained links)
result_at c links = Result c

abbrev pub expression_at : Reached → Expression
expression_at r = of_base r.base
  where
    of_base : Base → Expression
    of_base (AtName line x) = Read (place_at line x r.links)
    of_base (AtResult line x) = Read (place_at line x r.links)
    of_base (OfNumber z) = Numeral z
    of_base (OfCall c) = result_at c r.links

abbrev pub designator_at : Reached → Option Designator
designator_at r = of_base r.base
  where
    of_base : Base → Option Designator
    of_base (AtName line x) = Some (place_at line x r.links)
    of_base (AtResult line x) = Some (place_at line x r.links)
    of_base other = None

-- ---- names

abbrev pub function_result : ℕ → Heading → Call → Outcome Reached
function_result line h c = of_result h.result
  where
    of_result : Option TypeId → Outcome Reached
    of_result None = Err (wrong line)
    of_result (Some t) = Ok (reached (OfCall c) t)

-- a name that is read; in an expression a function's name is a call
abbrev pub name_read : Scope → ℕ → Name → Option Meaning → Outcome Reached
name_read s line x (Some (OfConstant z)) = Ok (reached (OfNumber z) integer_type)
name_read s line x (Some (OfPlace t)) = Ok (reached (AtName x.line x.symbol) t)
name_read s line x (Some (OfSymbol d)) = where_so (nat_eq (length d.args) 0) (Count line) (Err (wrong line))
name_read s line x (Some (OfRoutine h)) =
    where_so (nat_eq (length h.formals) 0) (Count line) (function_result line h (call h.number x.line no_arguments))
name_read s line x (Some other) = Err (wrong line)
name_read s line x None = Err (if is_some (function s x.symbol) then Count line else undeclared x)

abbrev pub is_this : Option Heading → Heading → Bool
is_this None h = false
is_this (Some own) h = same_name own.name h.name

-- in its own body a function's name is a place
abbrev pub own_result : ℕ → Name → Bool → Option TypeId → Outcome Reached
own_result line x true (Some t) = Ok (reached (AtResult x.line x.symbol) t)
own_result line x is_own t = Err (wrong line)

-- a name that is written
abbrev pub name_written : Scope → ℕ → Name → Option Meaning → Outcome Reached
name_written s line x (Some (OfPlace t)) = Ok (reached (AtName x.line x.symbol) t)
name_written s line x (Some (OfRoutine h)) = own_result line x (is_this s.routine h) h.result
name_written s line x (Some other) = Err (wrong line)
name_written s line x None = Err (if is_some (function s x.symbol) then Count line else undeclared x)

-- ---- selectors

-- the result of a function is a place as a whole only
abbrev pub may_be_selected : Base → Bool
may_be_selected (AtResult line x) = false
may_be_selected other = true

abbrev pub further : Reached → Link → TypeId → Reached
further r l t = record { base = r.base; links = r.links ++ l ∷ []; type = t }

abbrev pub on_type : {A : Type 0} → A → (TypeId → A) → Option TypeId → A
on_type other go None = other
on_type other go (Some t) = go t

abbrev pub element_type : List TypeForm → TypeId → Option TypeId
element_type forms t = element_of (form_at forms t.0)

abbrev pub takes_indices : List TypeForm → TypeId → List (ℕ × Operand Expression) → Bool
takes_indices forms t [] = true
takes_indices forms t (i ∷ indices) = on_type false (λ u. takes_indices forms u indices) (element_type forms t)

abbrev pub elements : List TypeForm → Reached → List (ℕ × Operand Expression) → Outcome Reached
elements forms r [] = Ok r
elements forms r (i ∷ indices) =
    after (settled NilOf (wrong i.0) sort.Int i.1) (λ e.
    on_type (Err (wrong i.0)) (λ u. elements forms (further r (ByIndex r.type e) u) indices) (element_type forms r.type))

abbrev pub indexed_at : Scope → ℕ → Reached → List (ℕ × Operand Expression) → Outcome Reached
indexed_at s line r indices =
    let forms = s.known.program.forms in
    where_so (may_be_selected r.base && is_some (element_type forms r.type)) (wrong line)
    (where_so (takes_indices forms r.type indices) (Count line) (elements forms r indices))

abbrev pub field_in : ℕ → Reached → Name → TypeForm → Outcome Reached
field_in line r x (form.Record fields) =
    on_type (Err (undeclared x)) (λ t. Ok (further r (ByField r.type x.symbol) t)) (field_type fields x.symbol)
field_in line r x other = Err (wrong line)

abbrev pub field_at : Scope → ℕ → Reached → Name → Outcome Reached
field_at s line r x =
    where_so (may_be_selected r.base) (wrong line) (field_in line r x (form_at s.known.program.forms r.type.0))

abbrev pub content_at : Scope → ℕ → ℕ → Reached → Outcome Reached
content_at s line at r =
    where_so (may_be_selected r.base) (wrong line)
    (on_type (Err (wrong line)) (λ t. Ok (further r (ByCell at t) t)) (target_of (form_at s.known.program.forms r.type.0)))

-- ---- calls

-- an argument as its parameter wants it: a value, a place, or for a VAR parameter something that is no designator
pub data Given : Type 0 where
  AsValue : Operand Expression → Given
  AsPlace : Reached → Given
  NoPlace : Given

abbrev pub as_place : Argument Expression Reached → Option (Outcome Reached) → Outcome Given
as_place a None = after a.operand (λ o. Ok NoPlace)
as_place a (Some place) = after place (λ r. Ok (AsPlace r))

-- each argument, in order; those that have no parameter are values
abbrev pub given_to : List Formal → List (Argument Expression Reached) → Outcome (List (ℕ × Given))
given_to formals [] = Ok []
given_to [] (a ∷ others) = after a.operand (λ o. after (given_to [] others) (λ rest. Ok ((a.line, AsValue o) ∷ rest)))
given_to (f ∷ formals) (a ∷ others) =
    after (if f.by_place then as_place a a.place else after a.operand (λ o. Ok (AsValue o))) (λ g.
    after (given_to formals others) (λ rest. Ok ((a.line, g) ∷ rest)))

abbrev pub with_place : TypeFault → Option Designator → (Designator → Outcome Arguments) → Outcome Arguments
with_place fault None go = Err fault
with_place fault (Some d) go = go d

-- the arguments fit their parameters: a value is of the parameter's sort, a place of its type
abbrev pub fitted : List TypeForm → List Formal → List (ℕ × Given) → Outcome Arguments
fitted forms (f ∷ formals) ((line, AsValue o) ∷ given) =
    after (settled NilOf (wrong line) (sort_of forms f.of) o) (λ e. after (fitted forms formals given) (λ rest. Ok (by_value e rest)))
fitted forms (f ∷ formals) ((line, AsPlace r) ∷ given) =
    where_so (same_places forms f.of r.type) (wrong line)
    (with_place (wrong line) (designator_at r) (λ d. after (fitted forms formals given) (λ rest. Ok (by_place d rest))))
fitted forms (f ∷ formals) ((line, NoPlace) ∷ given) = Err (wrong line)
fitted forms _ _ = Ok no_arguments

-- the call of a routine whose name stands on a line
abbrev pub call_of : Scope → ℕ → ℕ → Heading → List (Argument Expression Reached) → Outcome Call
call_of s line at h given =
    after (given_to h.formals given) (λ gs.
    where_so (nat_eq (length gs) (length h.formals)) (Count line)
    (after (fitted s.known.program.forms h.formals gs) (λ arguments. Ok (call h.number at arguments))))

-- what is no routine has no place in an expression, but its arguments are looked at first, and then their number
abbrev pub no_call : ℕ → Option ℕ → List (Argument Expression Reached) → Outcome Reached
no_call line None given = after (operands given) (λ os. Err (wrong line))
no_call line (Some n) given = after (operands given) (λ os. where_so (nat_eq (length os) n) (Count line) (Err (wrong line)))

-- a procedure has no result, which is seen when its arguments are read
abbrev pub named_applied : Scope → ℕ → Name → Option Meaning → List (Argument Expression Reached) → Outcome Reached
named_applied s line x None given = Err (undeclared x)
named_applied s line x (Some (OfSymbol d)) given = no_call line (Some (length d.args)) given
named_applied s line x (Some (OfRoutine h)) given =
    after (call_of s line x.line h given) (λ c. function_result line h c)
named_applied s line x (Some other) given = no_call line None given

abbrev pub applied_of : Scope → ℕ → Name → Option Function → List (Argument Expression Reached) → Outcome Reached
applied_of s line x None given = named_applied s line x (meaning s x.symbol) given
applied_of s line x (Some b) given = no_call line (Some (arity b)) given

-- ---- expressions

-- a class has no place in an expression
abbrev pub class_at : Scope → Name → ℕ → Option Meaning → Outcome (Operand Expression)
class_at s x line None = Err (undeclared x)
class_at s x line (Some other) = Err (wrong line)

abbrev pub expression_forms : Scope → Forms Expression Reached
expression_forms s = record {
  numeral = Numeral;
  boolean = Boolean;
  nil_of = NilOf;
  negative_of = Negative;
  calculated = Calculated;
  compares = Compared;
  negated = Negated;
  joined = Joined;
  may_imply = false;
  implied = λ a b. a;
  comparable = comparable;
  class_of = λ line x. class_at s x line (meaning s x.symbol);
  begin = λ line x. name_read s line x (meaning s x.symbol);
  begin_written = λ line x. name_written s line x (meaning s x.symbol);
  apply = λ line x given. applied_of s line x (function s x.symbol) given;
  indexed = λ line r given. after (operands given) (indexed_at s line r);
  field_of = field_at s;
  content_of = content_at s;
  finish = λ r. Of (expression_at r) (sort_of s.known.program.forms r.type);
}

-- an expression that may be of any sort, NIL included
abbrev pub operand : Scope → tree.Formula → Outcome (Operand Expression)
operand s f = formula_walk (expression_forms s) f

-- an expression of this sort
abbrev pub expression_of : Scope → Sort → tree.Formula → Outcome Expression
expression_of s wanted f = after (operand s f) (settled NilOf (wrong (formula_line f)) wanted)

-- a place that is written
abbrev pub written : Scope → tree.Designator → Outcome Reached
written s d = designator_walk (expression_forms s) (expression_forms s).begin_written d
