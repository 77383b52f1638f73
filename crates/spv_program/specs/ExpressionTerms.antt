-- The terms of expressions and places, with the calls that they make.
use Rattle.std.specs.Prelude.{ℕ, List, [], ◌∷◌, ◌++◌, map, Option, Some, None}
use Rattle.spv_logic.specs.declared.names.names.Symbol.{Symbol}
use Rattle.spv_logic.specs.declared.types.TypeId.{TypeId}
use Rattle.spv_logic.specs.declared.types.Sort.{Sort}
use Rattle.spv_logic.specs.declared.operators.Head.{Head}
use Rattle.spv_logic.specs.declared.operators.Head.TheVariants as head
use Rattle.spv_logic.specs.Terms.{Term}
use Rattle.spv_program.specs.Expressions.{Expression, Designator, Selectors, Call, Arguments, Numeral, Boolean, NilOf, Read, Result, Through, Negative, Calculated, Compared, Negated, Joined, designator, no_selectors, at_index, at_field, at_cell, call, no_arguments, by_value, by_place}
use Rattle.spv_program.specs.Programs.{Routine, Program, routine_at}
use Rattle.spv_program.specs.Scopes.{sort_or_int}
use Rattle.spv_program.specs.ExpressionTypes.{sort_of_type}
use Rattle.spv_program.specs.declared.types.Item.TheVariants.{Variable}
use Rattle.spv_program.specs.Terms.{alone, unary, binary, numeral, truth, negative, head_of_arithmetic, comparing, head_of_connective, item_head}
use Rattle.spv_program.specs.Supplies.{Supply, fresh_variable}
use Rattle.spv_program.specs.Places.{ToElement, ToField, Target, present, further, cell_behind}
use Rattle.spv_program.specs.Calls.{Argument, Given, AtPlace, present_argument, entry_at_call, exit_at_call}

-- a call that was made: the terms of its arguments, its ENTRY, what its EXIT gives, and the line of the called name
pub record Called : Type 0 where
  pub args : List Term
  pub needs : Option Term
  pub gives : Option Term
  pub line : ℕ

-- the term of an expression, the calls in the order in which they are made, and the fresh variables that are left
pub record Valued : Type 0 where
  pub term : Term
  pub calls : List Called
  pub supply : Supply

-- the same of a place, and of arguments
pub record Placed : Type 0 where
  pub target : Target
  pub calls : List Called
  pub supply : Supply

pub record Argued : Type 0 where
  pub arguments : List Argument
  pub calls : List Called
  pub supply : Supply

-- ---- parts put together

-- a term that makes no call
abbrev pub without_calls : Supply → Term → Valued
without_calls n t = record { term = t; calls = []; supply = n }

abbrev pub with_term : (Term → Term) → Valued → Valued
with_term f v = record { term = f v.term; calls = v.calls; supply = v.supply }

-- two operands, from left to right
abbrev pub with_terms : (Term → Term → Term) → Valued → (Supply → Valued) → Valued
with_terms f v next = let w = next v.supply in record { term = f v.term w.term; calls = v.calls ++ w.calls; supply = w.supply }

abbrev pub read_at : Placed → Valued
read_at d = record { term = present d.target; calls = d.calls; supply = d.supply }

abbrev pub at_start : Supply → Head → Placed
at_start n h = record { target = record { root = h; pointer = None; path = [] }; calls = []; supply = n }

-- a step to the element at an index
abbrev pub to_element : Placed → (Supply → Valued) → Placed
to_element d next =
    let i = next d.supply in record { target = further (ToElement i.term) d.target; calls = d.calls ++ i.calls; supply = i.supply }

abbrev pub to_field : Symbol → Placed → Placed
to_field f d = record { target = further (ToField f) d.target; calls = d.calls; supply = d.supply }

-- a step to the cell that a pointer leads to
abbrev pub to_cell : TypeId → Valued → Placed
to_cell t v = record { target = cell_behind t v.term; calls = v.calls; supply = v.supply }

abbrev pub with_argument : Argument → List Called → Argued → Argued
with_argument a calls others = record { arguments = a ∷ others.arguments; calls = calls ++ others.calls; supply = others.supply }

-- ---- calls of functions

abbrev pub sort_of_result : Program → Routine → Sort
sort_of_result p r = sort_or_int (sort_of_type p r.result)

-- a function's name, as its EXIT has it
abbrev pub result_head : Program → Routine → Head
result_head p r = head.Var r.name (sort_of_result p r) 0

-- a call behind those in its arguments: its value is a fresh variable that has the function's name
abbrev pub with_call : Program → Routine → ℕ → Argued → Valued
with_call p r line given =
    let value = fresh_variable r.name (sort_of_result p r) given.supply in
    record {
      term = alone value.head;
      calls = given.calls ++ record {
        args = map present_argument given.arguments;
        needs = entry_at_call p r given.arguments;
        gives = exit_at_call p r given.arguments ((result_head p r, alone value.head) ∷ []);
        line = line;
      } ∷ [];
      supply = value.supply;
    }

abbrev pub called_in : Program → Option Routine → ℕ → Argued → Valued
called_in p None line given = without_calls given.supply (alone head.False)
called_in p (Some r) line given = with_call p r line given

-- ---- expressions

abbrev mutual
  pub valued : Program → Option Routine → Supply → Expression → Valued
  valued p here n (Numeral z) = without_calls n (numeral z)
  valued p here n (Boolean b) = without_calls n (truth b)
  valued p here n (NilOf t) = without_calls n (alone (head.Nil t))
  valued p here n (Read d) = read_at (placed p here n d)
  valued p here n (Result c) = called p here n c
  valued p here n (Through c line t others) = read_at (selected p here (to_cell t (called p here n c)) others)
  valued p here n (Negative e) = with_term negative (valued p here n e)
  valued p here n (Calculated o a b) = with_terms (binary (head_of_arithmetic o)) (valued p here n a) (λ m. valued p here m b)
  valued p here n (Compared o a b) = with_terms (comparing o) (valued p here n a) (λ m. valued p here m b)
  valued p here n (Negated e) = with_term (unary head.Not) (valued p here n e)
  valued p here n (Joined o a b) = with_terms (binary (head_of_connective o)) (valued p here n a) (λ m. valued p here m b)

  pub placed : Program → Option Routine → Supply → Designator → Placed
  placed p here n (designator line x others) = selected p here (at_start n (item_head p here (Variable x))) others

  -- the place that selectors lead to from a place
  pub selected : Program → Option Routine → Placed → Selectors → Placed
  selected p here d no_selectors = d
  selected p here d (at_index t e others) = selected p here (to_element d (λ m. valued p here m e)) others
  selected p here d (at_field t f others) = selected p here (to_field f d) others
  selected p here d (at_cell line t others) = selected p here (to_cell t (read_at d)) others

  pub called : Program → Option Routine → Supply → Call → Valued
  called p here n (call r line given) = called_in p (routine_at p r) line (argued p here n given)

  pub argued : Program → Option Routine → Supply → Arguments → Argued
  argued p here n no_arguments = record { arguments = []; calls = []; supply = n }
  argued p here n (by_value e others) = let v = valued p here n e in with_argument (Given v.term) v.calls (argued p here v.supply others)
  argued p here n (by_place d others) = let v = placed p here n d in with_argument (AtPlace v.target) v.calls (argued p here v.supply others)
