-- What events change, one after the other.
use Rattle.std.proofs.Common.{◌≡◌, ◌≤◌, ◌<◌, ◌+◌, ℕ, Bool, true, false, ◌&&◌, ◌||◌, cond, List, [], ◌∷◌, ◌++◌, map, filter, length, drop, get_or, Option, refl, sym, ap, subst, ◌∙◌}
use Rattle.std.specs.List.{list_any, flat_map}
use Rattle.std.proofs.lemmas.List.{drop_more, drop_all}
use Rattle.std.proofs.lemmas.List.Folds.{list_any-append}
use Rattle.spv_logic.specs.declared.names.names.Symbol.{Symbol}
use Rattle.spv_logic.specs.declared.conditions.RoutineId.{RoutineId}
use Rattle.spv_program.specs.declared.types.Item.TheVariants.{Variable, Class}
use Rattle.spv_program.specs.Expressions.{Call, Arguments, call}
use Rattle.spv_program.specs.Statements.{Statement}
use Rattle.spv_program.specs.Programs.{GlobalItem, Program, Routine, routine_at}
use Rattle.spv_program.specs.Scopes.{is_own}
use Rattle.spv_program.specs.Uses.{Root, Own, Shared, Use, same_root, statement_uses}
use Rattle.spv_program.specs.Changes.{var_items, items_of_callee, changed_by_call, changed_roots, all_roots, changed_heads}
use Rattle.spv_program.specs.declared.typed.programs.GlobalItem.{GlobalItem as GlobalText}
use Rattle.spv_program.specs.typed.ProgramViews.{global_of}
use Rattle.spv_effects.specs.frame_walk.Events as plain
use Rattle.spv_effects.specs.frame_walk.Events.{Used, Called, statement_events, uses_in, calls_in}
use Rattle.spv_effects.proofs.frame_laws.Parts.{parts_of_statement}
use Rattle.spv_effects.specs.declared.frame_events.events.Event.{Event}
use Rattle.spv_effects.specs.frame_events.EventViews.{event_of, events_of}
use Rattle.spv_effects.specs.declared.mod_sets.sets.RootSet.{RootSet}
use Rattle.spv_effects.specs.mod_sets.Sets.{Adds, has_root, no_roots, with_routine}
use Rattle.spv_effects.specs.mod_sets.Changing.{among, changed_in, found_by, of_callees, shared_roots, Follows}
use Rattle.spv_effects.proofs.mod_sets.Tests.{or_false}
use Rattle.spv_effects.proofs.mod_sets.Members.{callee_more}
use Rattle.spv_effects.proofs.mod_sets.Rows.{kept_are}
use Rattle.spv_effects.specs.mod_sets.Roots.{plain_root, rows_of}
use Rattle.spv_effects.specs.declared.mod_sets.roots.RootHead.{RootHead}

-- ---- one event

-- the second list comes first
second_first : (q : Root) (xs ys zs : List Root) → among (xs ++ (ys ++ zs)) q ≡ among ys q || among (xs ++ zs) q
second_first q xs ys zs =
    list_any-append (same_root q) xs (ys ++ zs) ∙ ap (λ b. among xs q || b) (list_any-append (same_root q) ys zs)
    ∙ moved (among xs q) (among ys q) (among zs q) ∙ ap (λ b. among ys q || b) (sym (list_any-append (same_root q) xs zs))
  where
    moved : (a b c : Bool) → a || (b || c) ≡ b || (a || c)
    moved true true c = refl
    moved true false c = refl
    moved false b c = refl

called_first : (p : Program) (r : RoutineId) (line : ℕ) (given : Arguments) (events : List plain.Event) (q : Root)
    → among (changed_in p (Called (call r line given) ∷ events)) q ≡ of_callees p (r ∷ []) q || among (changed_in p events) q
called_first p r line given events q =
    second_first q (map (λ (v : Use). v.root) (filter (λ (v : Use). v.changes) (uses_in events))) (shared_roots (items_of_callee (routine_at p r))) (flat_map (changed_by_call p) (calls_in events))
    ∙ ap (λ b. b || among (changed_in p events) q) (sym (or_false (among (shared_roots (items_of_callee (routine_at p r))) q)))

-- more among the callees
callees_more : (h m c x : Bool) → (h || (c || m)) || x ≡ (h || c) || (m || x)
callees_more true m c x = refl
callees_more false m true x = refl
callees_more false m false x = refl

pub follows_call : (c : Call) (r : RoutineId) (line : ℕ) (given : Arguments) (roots : RootSet) (old new : List RoutineId) → call r line given ≡ c → new ≡ with_routine old r
    → Follows (Called c) roots old roots new
follows_call c r line given roots old new is added = subst (λ (d : Call). Follows (Called d) roots old roots new) is (record {
  each = λ p events q.
      ap (λ b. (has_root roots q || b) || among (changed_in p events) q) (ap (λ (rs : List RoutineId). of_callees p rs q) added ∙ callee_more p old r q)
      ∙ callees_more (has_root roots q) (of_callees p (r ∷ []) q) (of_callees p old q) (among (changed_in p events) q)
      ∙ ap (λ b. found_by p roots old q || b) (sym (called_first p r line given events q));
})

-- ---- all events

none_held : (q : Root) → has_root no_roots q ≡ false
none_held (Own x) = refl
none_held (Shared (Variable x)) = refl
none_held (Shared (Class t)) = refl

module _ (p : Program) (events : List Event) where
  abbrev pub SoFar : ℕ → RootSet → List RoutineId → Type 0
  SoFar i roots callees = (q : Root) → found_by p roots callees q || among (changed_in p (events_of (drop i events))) q ≡ among (changed_in p (events_of events)) q

  pub begins : (roots : RootSet) (callees : List RoutineId) → roots ≡ no_roots → callees ≡ [] → SoFar 0 roots callees
  begins roots callees a b q =
      ap (λ (s : RootSet). found_by p s callees q || among (changed_in p (events_of events)) q) a
      ∙ ap (λ (rs : List RoutineId). found_by p no_roots rs q || among (changed_in p (events_of events)) q) b
      ∙ ap (λ c. (c || false) || among (changed_in p (events_of events)) q) (none_held q)

  pub goes_on : (i : ℕ) (e : Event) (old new : RootSet) (callees later : List RoutineId) → i < length events → e ≡ get_or events i e
      → Follows (event_of e) old callees new later → SoFar i old callees → SoFar (i + 1) new later
  goes_on i e old new callees later below is follows so_far q =
      follows.each p (events_of (drop (i + 1) events)) q
      ∙ ap (λ (es : List Event). found_by p old callees q || among (changed_in p (events_of es)) q)
      (sym (drop_more events i e below ∙ ap (λ d. d ∷ drop (i + 1) events) (sym is)))
      ∙ so_far q

  pub ends : (i : ℕ) (roots all : RootSet) (callees : List RoutineId) → length events ≤ i → SoFar i roots callees → Adds roots all (of_callees p callees)
      → has_root all ≡ among (changed_in p (events_of events))
  ends i roots all callees over so_far adds at q = proof q at
    where
      proof : (q : Root) → has_root all q ≡ among (changed_in p (events_of events)) q
      proof q =
          adds.each q ∙ sym (or_false (found_by p roots callees q))
          ∙ ap (λ (es : List Event). found_by p roots callees q || among (changed_in p (events_of es)) q) (sym (drop_all i events over)) ∙ so_far q

-- ---- the items of a callee

pub var_items_are : (globals : List GlobalText) (q : Root)
    → list_any (λ (g : GlobalText). g.is_var && same_root q (Shared g.item)) globals ≡ among (shared_roots (var_items (map global_of globals))) q
var_items_are [] q = refl
var_items_are (g ∷ globals) q = by_case g.is_var (var_items_are globals q)
  where
    by_case : (b : Bool) → list_any (λ (h : GlobalText). h.is_var && same_root q (Shared h.item)) globals ≡ among (shared_roots (var_items (map global_of globals))) q
        → (b && same_root q (Shared g.item)) || list_any (λ (h : GlobalText). h.is_var && same_root q (Shared h.item)) globals
        ≡ among (shared_roots (map (λ (h : GlobalItem). h.item) (cond b (global_of g ∷ filter (λ (h : GlobalItem). h.is_var) (map global_of globals)) (filter (λ (h : GlobalItem). h.is_var) (map global_of globals))))) q
    by_case true later = ap (λ c. same_root q (Shared g.item) || c) later
    by_case false later = later

-- ---- a statement

pub statement_changes : (p : Program) (here : Option Routine) (own : Symbol → Bool) (s : Statement) (events : List plain.Event) → own ≡ is_own here → events ≡ statement_events own s
    → among (changed_in p events) ≡ among (changed_roots p here s)
statement_changes p here own s events same are =
    let parts = parts_of_statement (is_own here) s in
    ap (λ (es : List plain.Event). among (changed_in p es)) (are ∙ ap (λ (o : Symbol → Bool). statement_events o s) same)
    ∙ ap (λ (us : List Use). among (map (λ (u : Use). u.root) (filter (λ (u : Use). u.changes) us) ++ flat_map (changed_by_call p) (calls_in (statement_events (is_own here) s)))) parts.uses
    ∙ ap (λ (cs : List Call). among (map (λ (u : Use). u.root) (filter (λ (u : Use). u.changes) (statement_uses (is_own here) s)) ++ flat_map (changed_by_call p) cs)) parts.calls

-- ---- what is kept

pub heads_are : (p : Program) (here : Option Routine) (s : Statement) (t : Root → Bool) (rows : List RootHead) → t ≡ among (changed_roots p here s) → rows_of rows ≡ all_roots p here
    → map (λ (x : RootHead). x.head) (filter (λ (x : RootHead). t (plain_root x.root)) rows) ≡ changed_heads p here s
heads_are p here s t rows same are = kept_are t (among (changed_roots p here s)) rows (all_roots p here) same are
