-- Where the walk meets no fault.
use Rattle.std.proofs.Common.{◌≡◌, ℕ, nat_lt, Bool, true, false, not, ◌&&◌, ◌||◌, cond, List, [], ◌∷◌, ◌++◌, Option, Some, None, is_some, option_map, refl, sym, ap, ◌∙◌}
use Rattle.std.specs.List.{list_all, list_any}
use Rattle.spv_logic.specs.declared.names.names.Symbol.{Symbol}
use Rattle.spv_program.specs.declared.types.Item.{Item}
use Rattle.spv_program.specs.Lists.{first_of, all_differ}
use Rattle.spv_program.specs.Expressions.{Call, call}
use Rattle.spv_program.specs.Programs.{Formal, GlobalItem, Routine, Program, routine_at, lists}
use Rattle.spv_program.specs.Scopes.{is_own}
use Rattle.spv_program.specs.Uses.{Root, Own, Shared, Use, same_root, statement_calls}
use Rattle.spv_program.specs.Frames.{use_allowed, place_roots, is_item_of, roots_apart, globals_of, arguments_apart, callee_covered, changes_nothing, routine_uses, routine_framed}
use Rattle.spv_effects.specs.declared.frame_walk.faults.FrameFault.{FrameFault}
use Rattle.spv_effects.specs.frame_walk.Events.{Event, Used, Called, statement_events, clause_events, body_events, uses_in, calls_in}
use Rattle.spv_effects.specs.frame_walk.FrameWalk.{var_parameter, var_group, writes_at, heading_fault, anything, root_fault, use_fault, missing_item, twice, listed, meeting_fault, call_fault, event_fault, events_fault, line_of, earliest, part_fault, routine_fault, routines_fault, main_fault, alias}
use Rattle.spv_effects.specs.declared.frame_walk.faults.FrameFault.TheVariants.{GlobalMissing, FunctionWrites}
use Rattle.spv_effects.specs.frame_laws.Laws.{FramedWithoutFault}
use Rattle.spv_effects.proofs.frame_laws.Parts.{parts_of_routine, parts_of_statement}

abbrev free : {X : Type 0} → Option X → Bool
free o = not (is_some o)

free_both : {X : Type 0} (a b : Option X) → free (first_of a b) ≡ free a && free b
free_both (Some x) b = refl
free_both None b = refl

free_map : {X Y : Type 0} (f : X → Y) (o : Option X) → free (option_map f o) ≡ free o
free_map f (Some x) = refl
free_map f None = refl

-- a choice between nothing and something
free_unless : {X : Type 0} (b : Bool) (x : X) → free (cond b None (Some x)) ≡ b
free_unless true x = refl
free_unless false x = refl

free_else : {X : Type 0} (b : Bool) (x : X) (o : Option X) (c : Bool) → free o ≡ c → free (cond b (Some x) o) ≡ not b && c
free_else true x o c h = refl
free_else false x o c h = h

all_alike : {X : Type 0} (f g : X → Bool) → ((x : X) → f x ≡ g x) → (xs : List X) → list_all f xs ≡ list_all g xs
all_alike f g same [] = refl
all_alike f g same (x ∷ xs) = ap (λ b. b && list_all f xs) (same x) ∙ ap (λ b. g x && b) (all_alike f g same xs)

all_hold : {X : Type 0} (f : X → Bool) → ((x : X) → f x ≡ true) → (xs : List X) → list_all f xs ≡ true
all_hold f holds [] = refl
all_hold f holds (x ∷ xs) = ap (λ b. b && list_all f xs) (holds x) ∙ all_hold f holds xs

and_true : (b : Bool) → b && true ≡ b
and_true true = refl
and_true false = refl

and_grouped : (a b c : Bool) → (a && b) && c ≡ a && (b && c)
and_grouped true b c = refl
and_grouped false b c = refl

and_swapped : (a b c : Bool) → a && (b && c) ≡ b && (a && c)
and_swapped true true c = refl
and_swapped true false c = refl
and_swapped false true c = refl
and_swapped false false c = refl

-- "none of these, and none of those" in one list
none_more : (a b : Bool) → not a && not b ≡ not (a || b)
none_more true b = refl
none_more false b = refl

-- ---- headings

parameters_free : (formals : List Formal) → free (var_parameter formals) ≡ not (list_any (λ f. f.by_place) formals)
parameters_free [] = refl
parameters_free (f ∷ formals) =
    free_else f.by_place f.line (var_parameter formals) _ (parameters_free formals) ∙ none_more f.by_place (list_any (λ f. f.by_place) formals)

groups_free : (globals : List GlobalItem) → free (var_group globals) ≡ not (list_any (λ g. g.is_var) globals)
groups_free [] = refl
groups_free (g ∷ globals) =
    free_else g.is_var g.line (var_group globals) _ (groups_free globals) ∙ none_more g.is_var (list_any (λ g. g.is_var) globals)

heading_free : (r : Routine) → free (heading_fault r) ≡ changes_nothing r || not (is_some r.result)
heading_free r = by_case (is_some r.result)
  where
    groups : free (first_of (var_parameter r.formals) (var_group r.globals)) ≡ changes_nothing r
    groups =
        free_both (var_parameter r.formals) (var_group r.globals)
        ∙ ap (λ b. b && free (var_group r.globals)) (parameters_free r.formals)
        ∙ ap (λ b. not (list_any (λ (f : Formal). f.by_place) r.formals) && b) (groups_free r.globals)

    or_false : (b : Bool) → b ≡ b || false
    or_false true = refl
    or_false false = refl

    or_true : (b : Bool) → true ≡ b || true
    or_true true = refl
    or_true false = refl

    by_case : (b : Bool) → free (cond b (writes_at r.name (first_of (var_parameter r.formals) (var_group r.globals))) None) ≡ changes_nothing r || not b
    by_case true =
        free_map (λ n. FunctionWrites n r.name) (first_of (var_parameter r.formals) (var_group r.globals)) ∙ groups ∙ or_false (changes_nothing r)
    by_case false = or_true (changes_nothing r)

-- ---- uses and calls

use_free : (r : Routine) (u : Use) → free (use_fault (lists r.globals) u) ≡ use_allowed r.globals u.root u.changes
use_free r u = by_root u.root
  where
    by_root : (root : Root) → free (root_fault (lists r.globals) root u.changes u.line) ≡ use_allowed r.globals root u.changes
    by_root (Own x) = refl
    by_root (Shared i) = free_unless (lists r.globals i u.changes) (GlobalMissing u.line i)

main_use_free : (u : Use) → free (use_fault anything u) ≡ true
main_use_free u = by_root u.root
  where
    by_root : (root : Root) → free (root_fault anything root u.changes u.line) ≡ true
    by_root (Own x) = refl
    by_root (Shared i) = refl

missing_free : (may : Item → Bool → Bool) (globals : List GlobalItem) → free (missing_item may globals) ≡ list_all (λ g. may g.item g.is_var) globals
missing_free may [] = refl
missing_free may (g ∷ globals) = by_case (may g.item g.is_var) (missing_free may globals)
  where
    by_case : (b : Bool) → free (missing_item may globals) ≡ list_all (λ (g : GlobalItem). may g.item g.is_var) globals
        → free (cond b (missing_item may globals) (Some g.item)) ≡ b && list_all (λ (g : GlobalItem). may g.item g.is_var) globals
    by_case true later = later
    by_case false later = refl

pub twice_free : (roots : List Root) → free (twice roots) ≡ all_differ same_root roots
twice_free [] = refl
twice_free (r ∷ roots) = free_else (list_any (same_root r) roots) r (twice roots) _ (twice_free roots)

pub listed_free : (globals : List GlobalItem) (roots : List Root) → free (listed globals roots) ≡ not (list_any (is_item_of globals) roots)
listed_free globals [] = refl
listed_free globals (r ∷ roots) =
    free_else (is_item_of globals r) r (listed globals roots) _ (listed_free globals roots) ∙ none_more (is_item_of globals r) (list_any (is_item_of globals) roots)

meeting_free : (line : ℕ) (globals : List GlobalItem) (roots : List Root) → free (meeting_fault line globals roots) ≡ roots_apart globals roots
meeting_free line globals roots =
    free_map (alias line) (first_of (twice roots) (listed globals roots)) ∙ free_both (twice roots) (listed globals roots)
    ∙ ap (λ b. b && free (listed globals roots)) (twice_free roots) ∙ ap (λ b. all_differ same_root roots && b) (listed_free globals roots)

-- whether a callee's items may be used
abbrev covers : Program → (Item → Bool → Bool) → Call → Bool
covers p may (call r line given) = list_all (λ g. may g.item g.is_var) (globals_of (routine_at p r))

call_free : (p : Program) (here : Option Routine) (may : Item → Bool → Bool) (c : Call)
    → free (call_fault p (is_own here) may c) ≡ covers p may c && arguments_apart p here c
call_free p here may (call r line given) =
    free_both (option_map (GlobalMissing line) (missing_item may (globals_of (routine_at p r)))) (meeting_fault line (globals_of (routine_at p r)) (place_roots (is_own here) given))
    ∙ ap (λ b. b && free (meeting_fault line (globals_of (routine_at p r)) (place_roots (is_own here) given)))
    (free_map (GlobalMissing line) (missing_item may (globals_of (routine_at p r))) ∙ missing_free may (globals_of (routine_at p r)))
    ∙ ap (λ b. covers p may (call r line given) && b) (meeting_free line (globals_of (routine_at p r)) (place_roots (is_own here) given))

routine_call_free : (p : Program) (r : Routine) (c : Call)
    → free (call_fault p (is_own (Some r)) (lists r.globals) c) ≡ callee_covered p r.globals c && arguments_apart p (Some r) c
routine_call_free p r (call q line given) = call_free p (Some r) (lists r.globals) (call q line given)

main_covers : (p : Program) (c : Call) → covers p anything c ≡ true
main_covers p (call r line given) = all_hold (λ (g : GlobalItem). true) (λ g. refl) (globals_of (routine_at p r))

main_call_free : (p : Program) (c : Call) → free (call_fault p (is_own None) anything c) ≡ arguments_apart p None c
main_call_free p c = call_free p None anything c ∙ ap (λ b. b && arguments_apart p None c) (main_covers p c)

-- ---- events

module _ (p : Program) (own : Symbol → Bool) (may : Item → Bool → Bool) where
  events_free : (es : List Event)
      → free (events_fault p own may es) ≡ list_all (λ u. free (use_fault may u)) (uses_in es) && list_all (λ c. free (call_fault p own may c)) (calls_in es)
  events_free [] = refl
  events_free (Used u ∷ es) =
      free_both (use_fault may u) (events_fault p own may es) ∙ ap (λ b. free (use_fault may u) && b) (events_free es)
      ∙ sym (and_grouped (free (use_fault may u)) (list_all (λ u. free (use_fault may u)) (uses_in es)) (list_all (λ c. free (call_fault p own may c)) (calls_in es)))
  events_free (Called c ∷ es) =
      free_both (call_fault p own may c) (events_fault p own may es) ∙ ap (λ b. free (call_fault p own may c) && b) (events_free es)
      ∙ and_swapped (free (call_fault p own may c)) (list_all (λ u. free (use_fault may u)) (uses_in es)) (list_all (λ c. free (call_fault p own may c)) (calls_in es))

free_earliest : (a b : Option FrameFault) → free (earliest a b) ≡ free a && free b
free_earliest None b = refl
free_earliest (Some f) None = refl
free_earliest (Some f) (Some g) = by_case (nat_lt (line_of g) (line_of f))
  where
    by_case : (b : Bool) → free (cond b (Some g) (Some f)) ≡ false
    by_case true = refl
    by_case false = refl

parts_both : (p : Program) (r : Routine) (es fs : List Event) → free (part_fault p r es) && free (part_fault p r fs) ≡ free (part_fault p r (es ++ fs))
parts_both p r [] fs = refl
parts_both p r (e ∷ es) fs =
    ap (λ b. b && free (part_fault p r fs)) (free_both (event_fault p (is_own (Some r)) (lists r.globals) e) (part_fault p r es))
    ∙ and_grouped (free (event_fault p (is_own (Some r)) (lists r.globals) e)) (free (part_fault p r es)) (free (part_fault p r fs))
    ∙ ap (λ b. free (event_fault p (is_own (Some r)) (lists r.globals) e) && b) (parts_both p r es fs)
    ∙ sym (free_both (event_fault p (is_own (Some r)) (lists r.globals) e) (part_fault p r (es ++ fs)))

module _ (p : Program) (r : Routine) where
  abbrev use_free_all : List Use → Bool
  use_free_all us = list_all (λ u. free (use_fault (lists r.globals) u)) us

  abbrev call_free_all : List Call → Bool
  call_free_all cs = list_all (λ c. free (call_fault p (is_own (Some r)) (lists r.globals) c)) cs

  all_parts_free : free (part_fault p r (clause_events r ++ body_events r))
      ≡ list_all (λ u. use_allowed r.globals u.root u.changes) (routine_uses r) && list_all (λ c. callee_covered p r.globals c && arguments_apart p (Some r) c) (statement_calls r.body)
  all_parts_free =
      events_free p (is_own (Some r)) (lists r.globals) (clause_events r ++ body_events r)
      ∙ ap (λ us. use_free_all us && call_free_all (calls_in (clause_events r ++ body_events r))) (parts_of_routine r).uses
      ∙ ap (λ cs. use_free_all (routine_uses r) && call_free_all cs) (parts_of_routine r).calls
      ∙ ap (λ b. b && call_free_all (statement_calls r.body))
      (all_alike (λ u. free (use_fault (lists r.globals) u)) (λ u. use_allowed r.globals u.root u.changes) (use_free r) (routine_uses r))
      ∙ ap (λ b. list_all (λ u. use_allowed r.globals u.root u.changes) (routine_uses r) && b)
      (all_alike (λ c. free (call_fault p (is_own (Some r)) (lists r.globals) c)) (λ c. callee_covered p r.globals c && arguments_apart p (Some r) c) (routine_call_free p r) (statement_calls r.body))

  routine_free : free (routine_fault p r) ≡ routine_framed p r
  routine_free =
      free_earliest (first_of (heading_fault r) (part_fault p r (clause_events r))) (part_fault p r (body_events r))
      ∙ ap (λ b. b && free (part_fault p r (body_events r))) (free_both (heading_fault r) (part_fault p r (clause_events r)))
      ∙ and_grouped (free (heading_fault r)) (free (part_fault p r (clause_events r))) (free (part_fault p r (body_events r)))
      ∙ ap (λ b. free (heading_fault r) && b) (parts_both p r (clause_events r) (body_events r) ∙ all_parts_free)
      ∙ ap (λ b. b && (list_all (λ u. use_allowed r.globals u.root u.changes) (routine_uses r) && list_all (λ c. callee_covered p r.globals c && arguments_apart p (Some r) c) (statement_calls r.body))) (heading_free r)

routines_free : (p : Program) (found : Option FrameFault) (rs : List Routine) → free (routines_fault p found rs) ≡ free found && list_all (routine_framed p) rs
routines_free p found [] = sym (and_true (free found))
routines_free p found (r ∷ rs) =
    routines_free p (earliest found (routine_fault p r)) rs
    ∙ ap (λ b. b && list_all (routine_framed p) rs) (free_earliest found (routine_fault p r) ∙ ap (λ b. free found && b) (routine_free p r))
    ∙ and_grouped (free found) (routine_framed p r) (list_all (routine_framed p) rs)

main_free : (p : Program) → free (main_fault p) ≡ list_all (arguments_apart p None) (statement_calls p.main.body)
main_free p =
    events_free p (is_own None) anything (statement_events (is_own None) p.main.body)
    ∙ ap (λ b. b && list_all (λ c. free (call_fault p (is_own None) anything c)) (calls_in (statement_events (is_own None) p.main.body)))
    (all_hold (λ u. free (use_fault anything u)) main_use_free (uses_in (statement_events (is_own None) p.main.body)))
    ∙ ap (λ cs. list_all (λ c. free (call_fault p (is_own None) anything c)) cs) (parts_of_statement (is_own None) p.main.body).calls
    ∙ all_alike (λ c. free (call_fault p (is_own None) anything c)) (arguments_apart p None) (main_call_free p) (statement_calls p.main.body)

pub framed_is : FramedWithoutFault
framed_is p =
    free_earliest (routines_fault p None p.routines) (main_fault p) ∙ ap (λ b. b && free (main_fault p)) (routines_free p None p.routines)
    ∙ ap (λ b. list_all (routine_framed p) p.routines && b) (main_free p)
