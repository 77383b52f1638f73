-- The lists of all routines at hand.
use Rattle.std.proofs.Common.{◌≡◌, ℕ, zero, suc, Bool, true, false, ◌&&◌, ◌||◌, cond, List, [], ◌∷◌, map, Option, Some, None, option_map, refl, sym, ap, subst, ◌∙◌}
use Rattle.std.specs.List.{list_any}
use Rattle.spv_logic.specs.declared.names.names.Symbol.{Symbol}
use Rattle.spv_logic.specs.declared.conditions.RoutineId.{RoutineId}
use Rattle.spv_program.specs.declared.types.Item.{Item}
use Rattle.spv_program.specs.Lists.{item_at, first_of}
use Rattle.spv_program.specs.Expressions.{Call, Arguments, call}
use Rattle.spv_program.specs.Programs.{GlobalItem, Routine, Program, routine_at, lists}
use Rattle.spv_program.specs.Types.{same_item}
use Rattle.spv_program.specs.Uses.{Root, Own, Shared}
use Rattle.spv_program.specs.Frames.{is_item_of, place_roots, globals_of}
use Rattle.spv_effects.specs.declared.frame_walk.faults.FrameFault.TheVariants.{GlobalMissing}
use Rattle.spv_effects.specs.frame_walk.FrameWalk.{anything, events_fault, main_fault, missing_item, twice, listed, meeting_fault, call_fault, alias}
use Rattle.spv_effects.specs.frame_walk.Events.{Event, statement_events}
use Rattle.spv_effects.specs.frame_events.Names.{named}
use Rattle.spv_program.specs.Statements.{Statement}
use Rattle.spv_frame_check.specs.Tables.{tables_of, has_item, has_root_in, listed_in, meeting_in}

-- ---- the lists

at_map : {X Y : Type 0} (f : X → Y) (xs : List X) (n : ℕ) → item_at (map f xs) n ≡ option_map f (item_at xs n)
at_map f [] n = refl
at_map f (x ∷ xs) zero = refl
at_map f (x ∷ xs) (suc n) = at_map f xs n

and_true : (b v : Bool) → b && (v || true) ≡ b
and_true true true = refl
and_true true false = refl
and_true false v = refl

lists_item : (globals : List GlobalItem) (i : Item) → lists globals i false ≡ list_any (λ (g : GlobalItem). same_item g.item i) globals
lists_item [] i = refl
lists_item (g ∷ globals) i =
    ap (λ b. b || lists globals i false) (and_true (same_item g.item i) g.is_var) ∙ ap (λ b. same_item g.item i || b) (lists_item globals i)

has_is : (o : Option Routine) (i : Item) → has_item (option_map (λ (r : Routine). lists r.globals) o) i ≡ is_item_of (globals_of o) (Shared i)
has_is None i = refl
has_is (Some r) i = lists_item r.globals i

root_is : (p : Program) (r : RoutineId) (root : Root) → has_root_in (tables_of p.routines) r root ≡ is_item_of (globals_of (routine_at p r)) root
root_is p r (Own x) = refl
root_is p r (Shared i) =
    ap (λ (o : Option (Item → Bool → Bool)). has_item o i) (at_map (λ (q : Routine). lists q.globals) p.routines r.0) ∙ has_is (routine_at p r) i

listed_is : (p : Program) (r : RoutineId) (roots : List Root) → listed_in (tables_of p.routines) r roots ≡ listed (globals_of (routine_at p r)) roots
listed_is p r [] = refl
listed_is p r (root ∷ roots) =
    ap (λ b. cond b (Some root) (listed_in (tables_of p.routines) r roots)) (root_is p r root)
    ∙ ap (λ (o : Option Root). cond (is_item_of (globals_of (routine_at p r)) root) (Some root) o) (listed_is p r roots)

pub call_is : (p : Program) (tables : List (Item → Bool → Bool)) (own : Symbol → Bool) (may : Item → Bool → Bool) (c : Call) (r : RoutineId) (line : ℕ) (given : Arguments)
    → call r line given ≡ c → tables ≡ tables_of p.routines → missing_item may (globals_of (routine_at p r)) ≡ None → meeting_in tables own c ≡ call_fault p own may c
call_is p tables own may c r line given is at_hand free =
    subst (λ (d : Call). meeting_in tables own d ≡ call_fault p own may d) is
    (ap (λ (ts : List (Item → Bool → Bool)). meeting_in ts own (call r line given)) at_hand
    ∙ ap (λ (o : Option Root). option_map (alias line) (first_of (twice (place_roots own given)) o)) (listed_is p r (place_roots own given))
    ∙ sym (ap (λ (o : Option Item). first_of (option_map (GlobalMissing line) o) (meeting_fault line (globals_of (routine_at p r)) (place_roots own given))) free))

-- ---- the main block

pub main_is : (p : Program) (own : List Symbol) (body : Statement) (es : List Event) → own ≡ [] → body ≡ p.main.body → es ≡ statement_events (named own) body
    → events_fault p (named own) anything es ≡ main_fault p
main_is p own body es none is h =
    ap (λ (fs : List Event). events_fault p (named own) anything fs) (h ∙ ap (statement_events (named own)) is)
    ∙ ap (λ (names : List Symbol). events_fault p (named names) anything (statement_events (named names) p.main.body)) none
