-- What goes down the induction over runs.
use Rattle.std.proofs.Common.{◌≡◌, Bool, true, false, cond, ◌&&◌, ◌||◌, not, List, [], ◌∷◌, map, filter, refl, sym, subst, Option, Some, is_some, ℤ}
use Rattle.std.specs.List.{list_all, list_any, flat_map}
use Rattle.std.specs.Cmp.Derive.{both_true}
use Rattle.std.proofs.lemmas.Bool.{eq-eqb}
use Rattle.spv_logic.specs.declared.conditions.RoutineId.{RoutineId}
use Rattle.spv_logic.specs.Values.{Value}
use Rattle.spv_program.specs.declared.types.Item.TheVariants.{Variable, Class}
use Rattle.spv_program.specs.Expressions.{Call}
use Rattle.spv_program.specs.Statements.{Statement}
use Rattle.spv_program.specs.Programs.{Routine, Program, routine_at, routine_in}
use Rattle.spv_program.specs.Scopes.{is_own}
use Rattle.spv_program.specs.Uses.{Root, Own, Shared, Use, same_root, name_root, statement_uses, statement_calls}
use Rattle.spv_program.specs.Frames.{changes_nothing, callee_covered, arguments_apart}
use Rattle.spv_program.specs.Changes.{var_items, changed_by_call, changed_roots}
use Rattle.spv_program.specs.Typing.{statement_ok}
use Rattle.spv_meaning.specs.Places.{State}
use Rattle.spv_meaning.specs.Outcomes.{Outcome}
use Rattle.spv_meaning.specs.Levels.{Here, Loop, Level, Bound}
use Rattle.spv_meaning.specs.Evaluation.{Got, Fixed}
use Rattle.spv_meaning.specs.FrameTypes.{FrameType, IsIn}
use Rattle.spv_meaning.specs.Starts.{IsRight}
use Rattle.spv_preservation.proofs.Outcomes.{IfEnded}
use Rattle.spv_preservation.proofs.Calls.{Counts}
use Rattle.spv_writes.specs.Writes.{Writes, is_in_one}
use Rattle.spv_frame_law.specs.Frames.{root_areas, areas_of, refer_in_turn}
use Rattle.spv_writes.proofs.Lists.{or_left, or_right, any_left, any_right}
use Rattle.spv_writes.proofs.Kept.{chain}
use Rattle.spv_writes.proofs.Outlines.{outlines_stay}
use Rattle.spv_frame_law.proofs.Names.{areas_kept}
use Rattle.spv_frame_law.proofs.Covering.{is_own_or}

-- ---- what a statement may change

-- whether the root of what is written passes a test
abbrev pub use_kept : (Root → Bool) → Use → Bool
use_kept keep u = not u.changes || keep u.root

abbrev pub is_among : List Root → Root → Bool
is_among roots root = list_any (same_root root) roots

abbrev pub use_among : List Root → Use → Bool
use_among roots = use_kept (is_among roots)

abbrev pub call_among : Program → List Root → Call → Bool
call_among p roots c = list_all (is_among roots) (changed_by_call p c)

-- a statement writes roots of a list alone, and so do the routines that it calls
pub record ChangesAmong (p : Program) (here : Option Routine) (roots : List Root) (s : Statement) : Type 0 where
  pub uses : list_all (use_among roots) (statement_uses (is_own here) s) ≡ true
  pub calls : list_all (call_among p roots) (statement_calls s) ≡ true

root_itself : (r : Root) → same_root r r ≡ true
root_itself (Own x) = eq-eqb x.0 x.0 refl
root_itself (Shared (Variable x)) = eq-eqb x.0 x.0 refl
root_itself (Shared (Class t)) = eq-eqb t.0 t.0 refl

pub all_among : (roots xs : List Root) → ((r : Root) → is_among xs r ≡ true → is_among roots r ≡ true) → list_all (is_among roots) xs ≡ true
all_among roots [] has = refl
all_among roots (x ∷ xs) has =
    both_true (has x (or_left (same_root x x) (is_among xs x) (root_itself x))) (all_among roots xs (λ r h. has r (or_right (same_root r x) (is_among xs r) h)))

abbrev written : List Use → List Root
written us = map (λ u. u.root) (filter (λ u. u.changes) us)

uses_among : (roots : List Root) (us : List Use) → ((r : Root) → is_among (written us) r ≡ true → is_among roots r ≡ true) → list_all (use_among roots) us ≡ true
uses_among roots [] has = refl
uses_among roots (u ∷ us) has = by_change u.changes has (uses_among roots us)
  where
    by_change : (b : Bool) → ((r : Root) → is_among (map (λ u. u.root) (cond b (u ∷ filter (λ u. u.changes) us) (filter (λ u. u.changes) us))) r ≡ true → is_among roots r ≡ true)
        → (((r : Root) → is_among (written us) r ≡ true → is_among roots r ≡ true) → list_all (use_among roots) us ≡ true)
        → ((not b || is_among roots u.root) && list_all (use_among roots) us) ≡ true
    by_change true has later =
        both_true (has u.root (or_left (same_root u.root u.root) (is_among (written us) u.root) (root_itself u.root))) (later (λ r h. has r (or_right (same_root r u.root) (is_among (written us) r) h)))
    by_change false has later = later has

calls_among : (p : Program) (roots : List Root) (cs : List Call) → ((r : Root) → is_among (flat_map (changed_by_call p) cs) r ≡ true → is_among roots r ≡ true) → list_all (call_among p roots) cs ≡ true
calls_among p roots [] has = refl
calls_among p roots (c ∷ cs) has =
    both_true (all_among roots (changed_by_call p c) (λ r h. has r (any_left (same_root r) (changed_by_call p c) (flat_map (changed_by_call p) cs) h)))
    (calls_among p roots cs (λ r h. has r (any_right (same_root r) (changed_by_call p c) (flat_map (changed_by_call p) cs) h)))

-- a statement writes what it changes
pub changes_itself : (p : Program) (here : Option Routine) (s : Statement) → ChangesAmong p here (changed_roots p here s) s
changes_itself p here s =
    let written : List Root = map (λ u. u.root) (filter (λ u. u.changes) (statement_uses (is_own here) s)) in
    let called : List Root = flat_map (changed_by_call p) (statement_calls s) in
    record {
      uses = uses_among (changed_roots p here s) (statement_uses (is_own here) s) (λ r h. any_left (same_root r) written called h);
      calls = calls_among p (changed_roots p here s) (statement_calls s) (λ r h. any_right (same_root r) written called h);
    }

-- ---- what routines keep to

-- the body of a routine writes own names and items of its VAR groups alone, its list has what it calls, no two VAR arguments
-- of a call have one root, and a function has neither VAR parameters nor VAR groups
pub record KeepsTo (p : Program) (q : Routine) : Type 0 where
  pub uses : list_all (use_kept (is_own_or (var_items q.globals))) (statement_uses (is_own (Some q)) q.body) ≡ true
  pub calls : list_all (λ c. callee_covered p q.globals c && arguments_apart p (Some q) c) (statement_calls q.body) ≡ true
  pub body : list_all (is_own_or (var_items q.globals)) (changed_roots p (Some q) q.body) ≡ true
  pub function : is_some q.result ≡ true → changes_nothing q ≡ true

pub record AllKeepTo (p : Program) : Type 0 where
  pub each : (id : RoutineId) (q : Routine) → routine_at p id ≡ Some q → KeepsTo p q

-- ---- what runs leave

-- two facts of what a run gave
pub record And {A : Type 0} (P Q : A → Type 0) (x : A) : Type 0 where
  pub one : P x
  pub two : Q x

pub if_and : {A : Type 0} (P Q : A → Type 0) (o : Outcome A) → IfEnded P o → IfEnded Q o → IfEnded (And P Q) o
if_and P Q o h k = record { holds = λ x e. record { one = h.holds x e; two = k.holds x e }; jumped = h.jumped }

pub if_as : {A : Type 0} (P Q : A → Type 0) (o : Outcome A) → ((x : A) → P x → Q x) → IfEnded P o → IfEnded Q o
if_as P Q o change h = record { holds = λ x e. change x (h.holds x e); jumped = h.jumped }

-- what is claimed of a state, claimed of one that is the same
pub moved : (P : State → Type 0) (x state : State) → x ≡ state → P state → P x
moved P x state same h = subst P (sym same) h

-- a right state again, with what was written
pub record Wrote (p : Program) (types : List FrameType) (roots : List Root) (before after : State) : Type 0 where
  pub right : IsRight p types after
  pub writes : Writes p (areas_of before.frames roots) before after

pub wrote_on : (p : Program) (types : List FrameType) (roots : List Root) (before mid after : State) → Wrote p types roots before mid → Wrote p types roots mid after → Wrote p types roots before after
wrote_on p types roots before mid after first second = record {
  right = second.right;
  writes = chain p (areas_of before.frames roots) before mid after first.writes
      (subst (λ areas. Writes p areas mid after) (areas_kept before mid (outlines_stay p (areas_of before.frames roots) before mid first.writes) roots) second.writes);
}

-- the state is as it was
pub record GotSame (state : State) (got : Got) : Type 0 where
  pub same : got.state ≡ state

-- the state is as it was, and the place lies in the areas of a root
pub record FixedSame (state : State) (root : Root) (fixed : Fixed) : Type 0 where
  pub same : fixed.state ≡ state
  pub inside : is_in_one state.heap (root_areas state.frames root) fixed.place ≡ true

-- the state is as it was, and VAR parameters refer in turn to places in the areas of roots
pub record BoundSame (state : State) (roots : List Root) (bound : Bound) : Type 0 where
  pub same : bound.state ≡ state
  pub names : refer_in_turn state.heap state.frames bound.names roots ≡ true

-- what there is with one turn less writes what it may
pub record LevelWrites (p : Program) (level : Level) : Type 0 where
  pub run : (here : Here) (types : List FrameType) → IsIn p here.routine types → (s : Statement) → statement_ok p (routine_in p here.routine) s ≡ true → (roots : List Root) → ChangesAmong p (routine_in p here.routine) roots s → (state : State) → IsRight p types state → (choices : List Value)
      → IfEnded (Wrote p types roots state) (level.run here s state choices)
  pub next : (here : Here) (types : List FrameType) → IsIn p here.routine types → (loop : Loop) → Counts p here.routine loop.count.variable → statement_ok p (routine_in p here.routine) loop.body ≡ true → (roots : List Root) → is_among roots (name_root (is_own (routine_in p here.routine)) loop.count.variable) ≡ true → ChangesAmong p (routine_in p here.routine) roots loop.body
      → (end candidate : ℤ) (state : State) → IsRight p types state → (choices : List Value) → IfEnded (Wrote p types roots state) (level.next here loop end candidate state choices)
