-- Routines and programs.
use Rattle.std.specs.Prelude.{ℕ, Bool, ◌&&◌, ◌||◌, not, List, Option, ℤ}
use Rattle.std.specs.List.{list_any}
use Rattle.std.specs.Option.{option_and_then}
use Rattle.spv_logic.specs.declared.names.names.Symbol.{Symbol}
use Rattle.spv_logic.specs.declared.types.TypeId.{TypeId}
use Rattle.spv_logic.specs.declared.types.Decl.{Decl}
use Rattle.spv_logic.specs.declared.types.Shape.{Shape}
use Rattle.spv_logic.specs.declared.conditions.RoutineId.{RoutineId}
use Rattle.spv_program.specs.declared.types.Item.{Item}
use Rattle.spv_program.specs.declared.types.TypeForm.{TypeForm}
use Rattle.spv_program.specs.Types.{same_item, shapes_of}
use Rattle.spv_program.specs.Formulas.{Annotation}
use Rattle.spv_program.specs.Statements.{Statement}
use Rattle.spv_program.specs.Lists.{item_at}

-- a parameter, by place where VAR stands before its group, and the line where the group begins
pub record Formal : Type 0 where
  pub name : Symbol
  pub of : TypeId
  pub by_place : Bool
  pub line : ℕ

-- an item of a GLOBAL list, whether VAR stands before its group, and the line where the group begins
pub record GlobalItem : Type 0 where
  pub item : Item
  pub is_var : Bool
  pub line : ℕ

-- whether a list has an item, in a VAR group where that is wanted
abbrev pub lists : List GlobalItem → Item → Bool → Bool
lists globals item var = list_any (λ g. same_item g.item item && (g.is_var || not var)) globals

-- a procedure, or with a result a function; `line` is that of its heading
pub record Routine : Type 0 where
  pub name : Symbol
  pub line : ℕ
  pub formals : List Formal
  pub result : Option TypeId
  pub globals : List GlobalItem
  pub initial : List (Symbol × Item)
  pub entry : Option Annotation
  pub exit : Option Annotation
  pub locals : List (Symbol × TypeId)
  pub body : Statement

pub record Main : Type 0 where
  pub entry : Option Annotation
  pub exit : Option Annotation
  pub body : Statement

-- a form and a title, which is its first name, for each type; names with what they stand for, in the order of the
-- text; routines in the order of their bodies
pub record Program : Type 0 where
  pub forms : List TypeForm
  pub titles : List (Option Symbol)
  pub types : List (Symbol × TypeId)
  pub constants : List (Symbol × ℤ)
  pub variables : List (Symbol × TypeId)
  pub symbols : List Decl
  pub routines : List Routine
  pub main : Main

abbrev pub shapes : Program → List Shape
shapes p = shapes_of p.forms

abbrev pub routine_at : Program → RoutineId → Option Routine
routine_at p r = item_at p.routines r.0

-- the routine that something stands in; none for the main block
abbrev pub routine_in : Program → Option RoutineId → Option Routine
routine_in p here = option_and_then (routine_at p) here
