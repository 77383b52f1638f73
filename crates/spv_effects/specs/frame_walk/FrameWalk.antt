-- The walk over what routines use and call: the first fault in the order of the text. A routine that is announced has its
-- heading, with ENTRY and EXIT, before other routines and its body behind them; so the two are parts of their own, and of
-- the parts' first faults the one on the first line counts. On one line the routines come in the order of their bodies.
use Rattle.std.specs.Prelude.{ℕ, nat_lt, Bool, true, List, [], ◌∷◌, Option, Some, None, is_some, option_map, if◌then◌else◌}
use Rattle.std.specs.List.{list_any}
use Rattle.spv_logic.specs.declared.names.names.Symbol.{Symbol}
use Rattle.spv_program.specs.declared.types.Item.{Item}
use Rattle.spv_program.specs.declared.types.Item.TheVariants.{Variable}
use Rattle.spv_program.specs.Lists.{first_of}
use Rattle.spv_program.specs.Expressions.{Call, call}
use Rattle.spv_program.specs.Programs.{Formal, GlobalItem, Routine, Program, routine_at, lists}
use Rattle.spv_program.specs.Scopes.{is_own}
use Rattle.spv_program.specs.Uses.{Root, Own, Shared, Use, same_root}
use Rattle.spv_program.specs.Frames.{place_roots, is_item_of, globals_of}
use Rattle.spv_effects.specs.declared.frame_walk.faults.FrameFault.{FrameFault}
use Rattle.spv_effects.specs.declared.frame_walk.faults.FrameFault.TheVariants.{Alias, GlobalMissing, FunctionWrites, Memory}
use Rattle.spv_effects.specs.frame_walk.Events.{Event, Used, Called, statement_events, clause_events, body_events}

-- ---- headings: a function has no VAR parameter and no VAR group

-- the line of the first VAR group among the parameters
abbrev pub var_parameter : List Formal → Option ℕ
var_parameter [] = None
var_parameter (f ∷ formals) = if f.by_place then Some f.line else var_parameter formals

-- the line of the first VAR group of a GLOBAL list
abbrev pub var_group : List GlobalItem → Option ℕ
var_group [] = None
var_group (g ∷ globals) = if g.is_var then Some g.line else var_group globals

abbrev pub writes_at : Symbol → Option ℕ → Option FrameFault
writes_at name line = option_map (λ n. FunctionWrites n name) line

abbrev pub heading_fault : Routine → Option FrameFault
heading_fault r = if is_some r.result then writes_at r.name (first_of (var_parameter r.formals) (var_group r.globals)) else None

-- ---- uses: `may` tells which items may be used, or where it is asked for, changed

-- a routine may use what its list has, the main block everything
abbrev pub anything : Item → Bool → Bool
anything i changes = true

abbrev pub root_fault : (Item → Bool → Bool) → Root → Bool → ℕ → Option FrameFault
root_fault may (Own x) changes line = None
root_fault may (Shared i) changes line = if may i changes then None else Some (GlobalMissing line i)

abbrev pub use_fault : (Item → Bool → Bool) → Use → Option FrameFault
use_fault may u = root_fault may u.root u.changes u.line

-- ---- calls: the caller may use the callee's items as the callee does, and then no roots meet

-- the first item of the callee's list that the caller may not use so
abbrev pub missing_item : (Item → Bool → Bool) → List GlobalItem → Option Item
missing_item may [] = None
missing_item may (g ∷ globals) = if may g.item g.is_var then missing_item may globals else Some g.item

-- the first root that a later one is
abbrev pub twice : List Root → Option Root
twice [] = None
twice (r ∷ roots) = if list_any (same_root r) roots then Some r else twice roots

-- the first root that is an item of the callee's list
abbrev pub listed : List GlobalItem → List Root → Option Root
listed globals [] = None
listed globals (r ∷ roots) = if is_item_of globals r then Some r else listed globals roots

abbrev pub root_item : Root → Item
root_item (Own x) = Variable x
root_item (Shared i) = i

-- where roots meet they are the same one, which is told twice
abbrev pub alias : ℕ → Root → FrameFault
alias line r = Alias line (root_item r) (root_item r)

abbrev pub meeting_fault : ℕ → List GlobalItem → List Root → Option FrameFault
meeting_fault line globals roots = option_map (alias line) (first_of (twice roots) (listed globals roots))

-- `own` tells the own names of the caller
abbrev pub call_fault : Program → (Symbol → Bool) → (Item → Bool → Bool) → Call → Option FrameFault
call_fault p own may (call r line given) =
    let globals = globals_of (routine_at p r) in
    first_of (option_map (GlobalMissing line) (missing_item may globals)) (meeting_fault line globals (place_roots own given))

-- ---- programs

abbrev pub event_fault : Program → (Symbol → Bool) → (Item → Bool → Bool) → Event → Option FrameFault
event_fault p own may (Used u) = use_fault may u
event_fault p own may (Called c) = call_fault p own may c

abbrev pub events_fault : Program → (Symbol → Bool) → (Item → Bool → Bool) → List Event → Option FrameFault
events_fault p own may [] = None
events_fault p own may (e ∷ events) = first_of (event_fault p own may e) (events_fault p own may events)

abbrev pub line_of : FrameFault → ℕ
line_of (Alias line i j) = line
line_of (GlobalMissing line i) = line
line_of (FunctionWrites line name) = line
line_of Memory = 0

-- the first of two faults; on one line the first one
abbrev pub earliest : Option FrameFault → Option FrameFault → Option FrameFault
earliest None g = g
earliest (Some f) None = Some f
earliest (Some f) (Some g) = if nat_lt (line_of g) (line_of f) then Some g else Some f

abbrev pub part_fault : Program → Routine → List Event → Option FrameFault
part_fault p r events = events_fault p (is_own (Some r)) (lists r.globals) events

-- the heading with its clauses, and the body
abbrev pub routine_fault : Program → Routine → Option FrameFault
routine_fault p r = earliest (first_of (heading_fault r) (part_fault p r (clause_events r))) (part_fault p r (body_events r))

-- behind a fault that was found
abbrev pub routines_fault : Program → Option FrameFault → List Routine → Option FrameFault
routines_fault p found [] = found
routines_fault p found (r ∷ routines) = routines_fault p (earliest found (routine_fault p r)) routines

-- the annotations of the main block may name everything
abbrev pub main_fault : Program → Option FrameFault
main_fault p = events_fault p (is_own None) anything (statement_events (is_own None) p.main.body)

-- the first fault of a program
abbrev pub frame_fault : Program → Option FrameFault
frame_fault p = earliest (routines_fault p None p.routines) (main_fault p)
