-- What routines may share: globals, functions that change nothing, and arguments that do not meet.
use Rattle.std.specs.Prelude.{Bool, true, false, ◌&&◌, ◌||◌, not, List, [], ◌∷◌, ◌++◌, map, filter, Option, Some, None, is_some, if◌then◌else◌}
use Rattle.std.specs.List.{list_all, list_any}
use Rattle.spv_logic.specs.declared.names.names.Symbol.{Symbol}
use Rattle.spv_program.specs.declared.types.Item.{Item}
use Rattle.spv_program.specs.declared.types.Item.TheVariants.{Class}
use Rattle.spv_program.specs.Lists.{found, all_differ}
use Rattle.spv_program.specs.Expressions.{Designator, Selectors, Call, Arguments, designator, no_selectors, at_index, at_field, at_cell, call, no_arguments, by_value, by_place}
use Rattle.spv_program.specs.Programs.{GlobalItem, Routine, Program, lists, routine_at}
use Rattle.spv_program.specs.Scopes.{is_own, result_name}
use Rattle.spv_program.specs.Types.{same_item}
use Rattle.spv_program.specs.Uses.{Root, Own, Shared, Use, same_root, name_root, annotation_uses, body_uses, body_calls}

-- ---- what a routine uses

abbrev pub is_formal : Routine → Symbol → Bool
is_formal r x = is_some (found (map (λ f. (f.name, f.of)) r.formals) x)

abbrev pub is_initial : Routine → Symbol → Bool
is_initial r x = is_some (found r.initial x)

-- its uses in ENTRY, EXIT and the body, without those of the routines that it calls
abbrev pub routine_uses : Routine → List Use
routine_uses r =
    annotation_uses (is_formal r) r.entry
    ++ (annotation_uses (λ x. is_formal r x || (is_some (found (result_name r.name r.result) x) || is_initial r x)) r.exit
    ++ body_uses (λ x. is_own (Some r) x || is_initial r x) r.body)

abbrev pub items_once : List Item → List Root → List Item
items_once seen [] = []
items_once seen (Own x ∷ roots) = items_once seen roots
items_once seen (Shared i ∷ roots) = if list_any (same_item i) seen then items_once seen roots else i ∷ items_once (i ∷ seen) roots

-- the program variables and classes that a routine reads, and those that it writes, each where it stands first
pub record Effects : Type 0 where
  pub reads : List Item
  pub writes : List Item

abbrev pub effects_of : Routine → Effects
effects_of r = record {
  reads = items_once [] (map (λ u. u.root) (filter (λ u. not u.changes) (routine_uses r)));
  writes = items_once [] (map (λ u. u.root) (filter (λ u. u.changes) (routine_uses r)));
}

-- ---- what is allowed

abbrev pub use_allowed : List GlobalItem → Root → Bool → Bool
use_allowed globals (Own x) changes = true
use_allowed globals (Shared i) changes = lists globals i changes

-- a caller's list has what the callee's list has
abbrev pub lists_cover : List GlobalItem → List GlobalItem → Bool
lists_cover outer inner = list_all (λ g. lists outer g.item g.is_var) inner

-- the root of a place: its first name, or the class of its last `^`
abbrev pub root_behind : Root → Selectors → Root
root_behind root no_selectors = root
root_behind root (at_index t e others) = root_behind root others
root_behind root (at_field t f others) = root_behind root others
root_behind root (at_cell line t others) = root_behind (Shared (Class t)) others

abbrev pub root_of : (Symbol → Bool) → Designator → Root
root_of own (designator line x others) = root_behind (name_root own x) others

abbrev pub place_roots : (Symbol → Bool) → Arguments → List Root
place_roots own no_arguments = []
place_roots own (by_value e others) = place_roots own others
place_roots own (by_place d others) = root_of own d ∷ place_roots own others

abbrev pub is_item_of : List GlobalItem → Root → Bool
is_item_of globals (Own x) = false
is_item_of globals (Shared i) = list_any (λ g. same_item g.item i) globals

-- no two VAR arguments have one root, and none has an item of the callee's list as its root
abbrev pub roots_apart : List GlobalItem → List Root → Bool
roots_apart globals roots = all_differ same_root roots && not (list_any (is_item_of globals) roots)

abbrev pub globals_of : Option Routine → List GlobalItem
globals_of None = []
globals_of (Some r) = r.globals

abbrev pub arguments_apart : Program → Option Routine → Call → Bool
arguments_apart p here (call r line given) = roots_apart (globals_of (routine_at p r)) (place_roots (is_own here) given)

abbrev pub callee_covered : Program → List GlobalItem → Call → Bool
callee_covered p globals (call r line given) = lists_cover globals (globals_of (routine_at p r))

-- a function has no VAR parameter and no VAR group
abbrev pub changes_nothing : Routine → Bool
changes_nothing r = not (list_any (λ f. f.by_place) r.formals) && not (list_any (λ g. g.is_var) r.globals)

abbrev pub routine_framed : Program → Routine → Bool
routine_framed p r =
    (changes_nothing r || not (is_some r.result))
    && (list_all (λ u. use_allowed r.globals u.root u.changes) (routine_uses r)
    && list_all (λ c. callee_covered p r.globals c && arguments_apart p (Some r) c) (body_calls r.body))

-- whether each routine uses what its GLOBAL list has, functions change nothing, and no two roots meet at a call;
-- the main block may use everything
abbrev pub framed : Program → Bool
framed p = list_all (routine_framed p) p.routines && list_all (arguments_apart p None) (body_calls p.main.body)
