-- What the place of a statement has to tell of a program, so that the statements that are read there are well typed in it.
use Rattle.std.specs.Prelude.{◌≡◌, ℕ, Bool, true, false, Option, Some, Ok, IsTrue}
use Rattle.std.specs.List.{list_any}
use Rattle.spv_logic.specs.declared.names.names.Symbol.{Symbol}
use Rattle.spv_logic.specs.declared.types.TypeId.{TypeId}
use Rattle.spv_logic.specs.declared.types.Sort.{Sort}
use Rattle.spv_logic.specs.declared.types.Decl.{Decl}
use Rattle.spv_logic.specs.Sorts.{sort_in_range, declared}
use Rattle.spv_tree.specs.syntax.Statements as tree
use Rattle.spv_program.specs.Lists.{same_name, found}
use Rattle.spv_program.specs.Expressions.{Call}
use Rattle.spv_program.specs.Statements.{Statement}
use Rattle.spv_program.specs.Programs.{Routine, Program, routine_at, shapes}
use Rattle.spv_program.specs.Scopes.{is_own, body_scope}
use Rattle.spv_program.specs.Uses.{Root}
use Rattle.spv_program.specs.Changes.{changed_by_call}
use Rattle.spv_program.specs.Typing.{statement_ok, may_count}
use Rattle.spv_typing.specs.Known.{OfPlace, OfRoutine, Heading, Scope, meaning}
use Rattle.spv_typing.specs.StatementWalk.{Setting, own_in, items_of, block_walk}
use Rattle.spv_typing.specs.StatementWalk as walk
use Rattle.spv_type_soundness.specs.well_typed.Expressions.{Belongs}
use Rattle.spv_type_soundness.specs.well_typed.Laws.{SeesAlike}
use Rattle.spv_type_soundness.specs.well_typed_programs.Grown.{GrowsTypes, Grows}

-- the names of a place's scopes, for what is run and for annotations, are those that the program `q` has in this routine,
-- which knows no more than the walk so far; and the whole program `p` has what `q` has
pub record Stands (inside noted : Scope) (q p : Program) (here : Option Routine) : Type 0 where
  pub names : Belongs inside q here
  pub noted_names : SeesAlike noted (body_scope p here)
  pub noted_grows : GrowsTypes noted.known.program p
  pub noted_sorts : (x : Symbol) (r : Sort) → found (body_scope p here) x ≡ Some r → IsTrue (sort_in_range (shapes noted.known.program) r)
  pub noted_symbols : (x : ℕ) (d : Decl) → declared noted.known.program.symbols x ≡ Some d
      → IsTrue (sort_in_range (shapes noted.known.program) d.result)
  pub grows : Grows q p here
  -- a routine that may be called is one of the whole program
  pub routines : (x : Symbol) (h : Heading) → meaning inside x ≡ Some (OfRoutine h) → routine_at p h.number ≡ routine_at q h.number
  -- what a call of it may change is known
  pub items : (c : Call) (test : Root → Bool) → list_any test (items_of inside.known.headings c) ≡ false
      → list_any test (changed_by_call q c) ≡ false
  -- the walk and typing agree on which variables are the routine's own, and which of them may count
  pub own : (x : Symbol) (t : TypeId) → meaning inside x ≡ Some (OfPlace t) → own_in inside x ≡ is_own here x
  pub counts : (x : Symbol) (t : TypeId) → meaning inside x ≡ Some (OfPlace t) → walk.may_count inside x ≡ true → may_count here x ≡ true

-- a block that the walk answers is well typed in the whole program
abbrev pub StatementsAreWellTyped : Type 0
StatementsAreWellTyped =
    (at : Setting) (q p : Program) (here : Option Routine) → Stands at.inside at.noted q p here
    → ((v : Symbol) → list_any (same_name v) at.counted ≡ true → own_in at.inside v ≡ is_own here v)
    → (b : tree.Block) (s : Statement) → block_walk at b ≡ Ok s → IsTrue (statement_ok p here s)
