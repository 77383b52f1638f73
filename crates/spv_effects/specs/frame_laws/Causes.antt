-- What breaks a rule of frames, by what a fault names.
use Rattle.std.specs.Prelude.{ℕ, Bool, false, not, ◌&&◌, ◌||◌, List, Option, Some, None, is_some, nat_eq}
use Rattle.std.specs.List.{list_any}
use Rattle.spv_logic.specs.declared.names.names.Symbol.{Symbol}
use Rattle.spv_program.specs.declared.types.Item.{Item}
use Rattle.spv_program.specs.Lists.{same_name, all_differ}
use Rattle.spv_program.specs.Expressions.{Call, call}
use Rattle.spv_program.specs.Statements.{Statement}
use Rattle.spv_program.specs.Programs.{GlobalItem, Routine, Program, routine_at, lists}
use Rattle.spv_program.specs.Scopes.{is_own}
use Rattle.spv_program.specs.Types.{same_item}
use Rattle.spv_program.specs.Uses.{Root, Shared, Use, same_root, statement_calls}
use Rattle.spv_program.specs.Frames.{place_roots, is_item_of, globals_of, routine_uses}
use Rattle.spv_effects.specs.declared.frame_walk.faults.FrameFault.{FrameFault}
use Rattle.spv_effects.specs.declared.frame_walk.faults.FrameFault.TheVariants.{Alias, GlobalMissing, FunctionWrites, Memory}
use Rattle.spv_effects.specs.frame_walk.FrameWalk.{root_item}

-- a function with a VAR group that begins on this line
abbrev pub has_var_group : ℕ → Routine → Bool
has_var_group line r =
    list_any (λ f. f.by_place && nat_eq f.line line) r.formals || list_any (λ g. g.is_var && nat_eq g.line line) r.globals

abbrev pub writes_function : ℕ → Symbol → Routine → Bool
writes_function line name r = same_name r.name name && (is_some r.result && has_var_group line r)

-- a use of the item on this line that the list does not allow
abbrev pub is_missing_use : List GlobalItem → ℕ → Item → Use → Bool
is_missing_use globals line i u = nat_eq u.line line && (same_root u.root (Shared i) && not (lists globals i u.changes))

-- a call on this line of a routine whose list has the item so as this list does not
abbrev pub is_missing_call : Program → List GlobalItem → ℕ → Item → Call → Bool
is_missing_call p globals line i (call r at given) =
    nat_eq at line && list_any (λ g. same_item g.item i && not (lists globals i g.is_var)) (globals_of (routine_at p r))

abbrev pub misses : Program → ℕ → Item → Routine → Bool
misses p line i r =
    list_any (is_missing_use r.globals line i) (routine_uses r) || list_any (is_missing_call p r.globals line i) (statement_calls r.body)

-- whether two of these roots are one that names the item, or one of them is of the callee's list and names it
abbrev pub meets : List GlobalItem → Item → List Root → Bool
meets globals i roots =
    (not (all_differ same_root roots) || list_any (is_item_of globals) roots) && list_any (λ r. same_item (root_item r) i) roots

-- a call on this line with VAR arguments whose roots meet so
abbrev pub is_alias : Program → Option Routine → ℕ → Item → Call → Bool
is_alias p here line i (call r at given) = nat_eq at line && meets (globals_of (routine_at p r)) i (place_roots (is_own here) given)

abbrev pub aliases : Program → ℕ → Item → Option Routine → Statement → Bool
aliases p line i here s = list_any (is_alias p here line i) (statement_calls s)

-- whether a fault names what breaks its rule
abbrev pub has_cause : Program → FrameFault → Bool
has_cause p (FunctionWrites line name) = list_any (writes_function line name) p.routines
has_cause p (GlobalMissing line i) = list_any (misses p line i) p.routines
has_cause p (Alias line i j) =
    same_item i j && (list_any (λ r. aliases p line i (Some r) r.body) p.routines || aliases p line i None p.main.body)
has_cause p Memory = false
