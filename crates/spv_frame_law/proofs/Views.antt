-- What a view shows after writing.
use Rattle.std.proofs.Common.{◌≡◌, ℕ, zero, suc, Bool, true, false, cond, not, ◌&&◌, ◌||◌, List, [], ◌∷◌, ◌++◌, map, filter, length, refl, sym, ap, ◌∙◌, Option, Some, None, is_some, option_map}
use Rattle.std.specs.List.{list_all, list_any}
use Rattle.std.specs.Cmp.Derive.{both_true}
use Rattle.std.proofs.lemmas.Bool.{false≢true}
use Rattle.spv_logic.proofs.list.Tests.{left_true, right_true}
use Rattle.spv_logic.specs.declared.names.names.Symbol.{Symbol}
use Rattle.spv_logic.specs.declared.types.TypeId.{TypeId}
use Rattle.spv_logic.specs.declared.types.Sort.{Sort}
use Rattle.spv_logic.specs.declared.conditions.RoutineId.{RoutineId}
use Rattle.spv_logic.specs.declared.operators.Head.{Head}
use Rattle.spv_logic.specs.declared.operators.Head.TheVariants as head
use Rattle.spv_logic.specs.Values.{Value}
use Rattle.spv_logic.specs.Fits.{fits}
use Rattle.spv_program.specs.declared.types.Item.{Item}
use Rattle.spv_program.specs.declared.types.Item.TheVariants.{Variable, Class}
use Rattle.spv_program.specs.Lists.{same_name, found, all_differ}
use Rattle.spv_program.specs.Types.{sort_of, same_item}
use Rattle.spv_program.specs.Programs.{GlobalItem, Routine, Program, shapes, routine_at, routine_in, lists}
use Rattle.spv_program.specs.Scopes.{own_names_in, is_own}
use Rattle.spv_program.specs.Uses.{Root, Own, Shared, Use, same_root, name_root, statement_uses, statement_calls}
use Rattle.spv_program.specs.Expressions.{Call, call}
use Rattle.spv_program.specs.Frames.{lists_cover, globals_of, arguments_apart, callee_covered, routine_framed}
use Rattle.spv_program.specs.Changes.{var_items, changed_roots}
use Rattle.spv_program.specs.Statements.{Statement}
use Rattle.spv_program.specs.Typing.{statement_ok}
use Rattle.spv_meaning.specs.Places.{Place, Binding, Frame, State, Holding, Referring, look, put}
use Rattle.spv_meaning.specs.Views.{bound_place, place_in, place_of, class_of, sees, shown_type, of_sort, now_view}
use Rattle.spv_meaning.specs.Outcomes.{Ended}
use Rattle.spv_meaning.specs.Levels.{Here}
use Rattle.spv_meaning.specs.Walks.{run}
use Rattle.spv_meaning.specs.Correct.{body_of, routine_body, is_there}
use Rattle.spv_meaning.specs.FrameTypes.{FrameType, IsIn, frame_of, frames_right, in_main, in_routine}
use Rattle.spv_meaning.specs.Starts.{Area, At, CellsOf, IsRight, IsStart, is_of_type, overlap, bound_area, frame_areas, item_area, apart}
use Rattle.spv_meaning.proofs.RoutineStarts.{found_passes}
use Rattle.spv_preservation.specs.facts.Places.{IsPlace}
use Rattle.spv_preservation.proofs.Roots.{first_frame}
use Rattle.spv_writes.specs.Writes.{Writes, is_in, is_in_one, is_touched}
use Rattle.spv_writes.proofs.Lists.{or_left, or_right, swapped, any_left, any_passes}
use Rattle.spv_writes.proofs.Kept.{one_put, untouched_stays, class_stays}
use Rattle.spv_writes.proofs.Outlines.{outlines_stay, places_stay}
use Rattle.spv_frame_law.specs.Frames.{area_of_item, bound_areas, root_areas, areas_of, root_shown, is_of_one, call_shown}
use Rattle.spv_frame_law.specs.Laws.{IsFramed}
use Rattle.spv_frame_law.proofs.Covering.{items_same, is_own_or}
use Rattle.spv_frame_law.proofs.Records.{use_kept}
use Rattle.spv_frame_law.proofs.Uses.{placed, statement_placed}
use Rattle.spv_frame_law.proofs.Sharing.{item_itself, statement_named, roots_named}
use Rattle.spv_frame_law.proofs.Levels.{all_keep, statement_writes}
use Rattle.spv_frame_law.proofs.Names.{own_bound}
use Rattle.spv_frame_law.proofs.Apart.{in_untouched, own_untouched, item_untouched, main_untouched}

-- ---- what shows is touched by no area of other roots

-- the place of a name is what the name covers
bound_is : (number : ℕ) (x : Symbol) (b : Binding) → At (bound_place number x (Some b)) ≡ bound_area number (x, b)
bound_is number x (Holding v) = refl
bound_is number x (Referring a) = refl

-- a name that shows and is no own name is a variable that is seen
found_append : {X : Type 0} (xs ys : List (Symbol × X)) (x : Symbol) → is_some (found xs x) ≡ false → found (xs ++ ys) x ≡ found ys x
found_append [] ys x none = refl
found_append {X} (n ∷ xs) ys x none = by_name (same_name n.0 x) none (found_append xs ys x)
  where
    by_name : (b : Bool) → is_some (cond b (Some n.1) (found xs x)) ≡ false → (is_some (found xs x) ≡ false → found (xs ++ ys) x ≡ found ys x) → cond b (Some n.1) (found (xs ++ ys) x) ≡ found ys x
    by_name true none later = absurd (false≢true (sym none))
    by_name false none later = later none

shown_seen : (p : Program) (here : Option Routine) (x : Symbol) (t : TypeId) → shown_type p here x ≡ Some t → is_own here x ≡ false → sees here (Variable x) ≡ true
shown_seen p here x t shown other =
    found_passes (λ y. sees here (Variable y)) p.variables x t (sym (found_append (own_names_in here) (filter (λ n. sees here (Variable n.0)) p.variables) x other) ∙ shown)

-- where a routine or the main block runs, no area of roots that show touches the place of another name, or another class
pub record Untouched (p : Program) (here : Option RoutineId) (state : State) (roots : List Root) : Type 0 where
  pub name : (x : Symbol) (t : TypeId) → shown_type p (routine_in p here) x ≡ Some t → list_any (same_root (name_root (is_own (routine_in p here)) x)) roots ≡ false → is_touched state.heap (areas_of state.frames roots) (At (place_of here state x)) ≡ false
  pub class : (t : TypeId) → sees (routine_in p here) (Class t) ≡ true → list_any (same_root (Shared (Class t))) roots ≡ false → is_touched state.heap (areas_of state.frames roots) (CellsOf t) ≡ false

main_shown : (p : Program) (state : State) (roots : List Root) → list_all (root_shown None) roots ≡ true → Untouched p None state roots
main_shown p state roots shown = record {
  name = λ x t is other. main_untouched state.heap state.frames (Variable x) roots shown other;
  class = λ t seen other. main_untouched state.heap state.frames (Class t) roots shown other;
}

module _ (p : Program) (id : RoutineId) (r : Routine) (older : List FrameType) (state : State) (f : Frame) (frames : List Frame) (is : state.frames ≡ f ∷ frames) (right : frames_right p (frame_of id r ∷ older) state.heap (f ∷ frames) ≡ true) (parts : apart (Some r) state ≡ true) (roots : List Root) (shown : list_all (root_shown (Some r)) roots ≡ true) where
  differ : all_differ (overlap state.heap) (map (bound_area (length frames)) f.names ++ map item_area r.globals) ≡ true
  differ = ap (λ k. all_differ (overlap state.heap) (frame_areas k ++ map item_area r.globals)) (sym is) ∙ parts

  own_is : (x : Symbol) → is_own (Some r) x ≡ is_some (found f.names x)
  own_is x = own_bound p older state.heap r f.names x (first_frame p (frame_of id r) older state.heap f frames right).names

  shown_name : (x : Symbol) (t : TypeId) → shown_type p (Some r) x ≡ Some t → list_any (same_root (name_root (is_own (Some r)) x)) roots ≡ false → is_touched state.heap (areas_of (f ∷ frames) roots) (At (place_in (f ∷ frames) x)) ≡ false
  shown_name x t told other = by_found (found f.names x) refl (own_is x) other
    where
      by_found : (o : Option Binding) → found f.names x ≡ o → is_own (Some r) x ≡ is_some (found f.names x) → list_any (same_root (name_root (is_own (Some r)) x)) roots ≡ false → is_touched state.heap (areas_of (f ∷ frames) roots) (At (place_in (f ∷ frames) x)) ≡ false
      by_found None there own other =
          let none : is_own (Some r) x ≡ false = own ∙ ap is_some there in
          ap (λ o. is_touched state.heap (areas_of (f ∷ frames) roots) (At (bound_place (length frames) x o))) there
          ∙ item_untouched state.heap r f frames differ (Variable x) (shown_seen p (Some r) x t told none) roots shown
          (ap (λ b. list_any (same_root (cond b (Own x) (Shared (Variable x)))) roots) (sym none) ∙ other)
      by_found (Some b) there own other =
          let has : is_own (Some r) x ≡ true = own ∙ ap is_some there in
          ap (λ o. is_touched state.heap (areas_of (f ∷ frames) roots) (At (bound_place (length frames) x o))) there
          ∙ (ap (is_touched state.heap (areas_of (f ∷ frames) roots)) (bound_is (length frames) x b)
          ∙ own_untouched state.heap r f frames differ x b there roots shown
          (ap (λ c. list_any (same_root (cond c (Own x) (Shared (Variable x)))) roots) (sym has) ∙ other))

  shown_class : (t : TypeId) → sees (Some r) (Class t) ≡ true → list_any (same_root (Shared (Class t))) roots ≡ false → is_touched state.heap (areas_of (f ∷ frames) roots) (CellsOf t) ≡ false
  shown_class t seen other = item_untouched state.heap r f frames differ (Class t) seen roots shown other

routine_shown : (p : Program) (id : RoutineId) (r : Routine) → routine_at p id ≡ Some r → (older : List FrameType) (state : State) → IsRight p (frame_of id r ∷ older) state → apart (Some r) state ≡ true → (roots : List Root) → list_all (root_shown (Some r)) roots ≡ true → Untouched p (Some id) state roots
routine_shown p id r there older state right parts roots shown = by_frames state.frames refl right.frames
  where
    by_frames : (frames : List Frame) → state.frames ≡ frames → frames_right p (frame_of id r ∷ older) state.heap frames ≡ true → Untouched p (Some id) state roots
    by_frames [] is h = absurd (false≢true h)
    by_frames (f ∷ frames) is h = record {
      name = λ x t told other.
          ap (λ k. is_touched state.heap (areas_of k roots) (At (place_in k x))) is
          ∙ shown_name p id r older state f frames is h parts roots shown x t (ap (λ o. shown_type p o x) (sym there) ∙ told) (ap (λ o. list_any (same_root (name_root (is_own o) x)) roots) (sym there) ∙ other);
      class = λ t seen other.
          ap (λ k. is_touched state.heap (areas_of k roots) (CellsOf t)) is
          ∙ shown_class p id r older state f frames is h parts roots shown t (ap (λ o. sees o (Class t)) (sym there) ∙ seen) other;
    }

pub untouched : (p : Program) (here : Option RoutineId) (state : State) → IsStart p here state → (roots : List Root) → list_all (root_shown (routine_in p here)) roots ≡ true → Untouched p here state roots
untouched p here state start roots shown = by_types here start.right.types start.right.inside start.right.right start.areas shown
  where
    by_types : (here : Option RoutineId) (types : List FrameType) → IsIn p here types → IsRight p types state → apart (routine_in p here) state ≡ true → list_all (root_shown (routine_in p here)) roots ≡ true → Untouched p here state roots
    by_types None _ (in_main types) right parts shown = main_shown p state roots shown
    by_types (Some _) _ (in_routine id r older there) right parts shown =
        routine_shown p id r there older state right (ap (λ o. apart o state) (sym there) ∙ parts) roots (ap (λ o. list_all (root_shown o) roots) (sym there) ∙ shown)

-- a place in the areas of a root is touched by no area of other roots
pub shown_apart : (p : Program) (here : Option RoutineId) (state : State) → IsStart p here state → (root : Root) → root_shown (routine_in p here) root ≡ true → (others : List Root) → list_all (root_shown (routine_in p here)) others ≡ true → list_any (same_root root) others ≡ false
    → (a : Place) → is_in_one state.heap (root_areas state.frames root) a ≡ true → is_touched state.heap (areas_of state.frames others) (At a) ≡ false
shown_apart p here state start root shown others all other a inside = by_types here start.right.types start.right.inside start.right.right start.areas shown all
  where
    only : (b : Bool) → (b || false) ≡ true → b ≡ true
    only true h = refl
    only false h = h

    in_main_block : (root : Root) → root_shown None root ≡ true → list_all (root_shown None) others ≡ true → list_any (same_root root) others ≡ false → is_in_one state.heap (root_areas state.frames root) a ≡ true → is_touched state.heap (areas_of state.frames others) (At a) ≡ false
    in_main_block (Own x) shown all other inside = absurd (false≢true shown)
    in_main_block (Shared i) shown all other inside =
        in_untouched state.heap a (areas_of state.frames others) (area_of_item i) (only (is_in state.heap a (area_of_item i)) inside) (main_untouched state.heap state.frames i others all other)

    in_a_routine : (r : Routine) (f : Frame) (frames : List Frame) → all_differ (overlap state.heap) (map (bound_area (length frames)) f.names ++ map item_area r.globals) ≡ true → (root : Root) → root_shown (Some r) root ≡ true → list_all (root_shown (Some r)) others ≡ true → list_any (same_root root) others ≡ false
        → is_in_one state.heap (root_areas (f ∷ frames) root) a ≡ true → is_touched state.heap (areas_of (f ∷ frames) others) (At a) ≡ false
    in_a_routine r f frames differ (Own x) shown all other inside = by_found (found f.names x) refl inside
      where
        by_found : (o : Option Binding) → found f.names x ≡ o → is_in_one state.heap (bound_areas (length frames) x o) a ≡ true → is_touched state.heap (areas_of (f ∷ frames) others) (At a) ≡ false
        by_found None is inside = absurd (false≢true inside)
        by_found (Some b) is inside =
            in_untouched state.heap a (areas_of (f ∷ frames) others) (bound_area (length frames) (x, b)) (only (is_in state.heap a (bound_area (length frames) (x, b))) inside) (own_untouched state.heap r f frames differ x b is others all other)
    in_a_routine r f frames differ (Shared i) shown all other inside =
        in_untouched state.heap a (areas_of (f ∷ frames) others) (area_of_item i) (only (is_in state.heap a (area_of_item i)) inside) (item_untouched state.heap r f frames differ i shown others all other)

    by_frames : (older : List FrameType) (id : RoutineId) (r : Routine) (frames : List Frame) → state.frames ≡ frames → frames_right p (frame_of id r ∷ older) state.heap frames ≡ true → apart (Some r) state ≡ true → root_shown (Some r) root ≡ true → list_all (root_shown (Some r)) others ≡ true → is_touched state.heap (areas_of state.frames others) (At a) ≡ false
    by_frames older id r [] is h parts shown all = absurd (false≢true h)
    by_frames older id r (f ∷ frames) is h parts shown all =
        ap (λ k. is_touched state.heap (areas_of k others) (At a)) is
        ∙ in_a_routine r f frames (ap (λ k. all_differ (overlap state.heap) (frame_areas k ++ map item_area r.globals)) (sym is) ∙ parts) root shown all other
        (ap (λ k. is_in_one state.heap (root_areas k root) a) (sym is) ∙ inside)

    by_types : (here : Option RoutineId) (types : List FrameType) → IsIn p here types → IsRight p types state → apart (routine_in p here) state ≡ true → root_shown (routine_in p here) root ≡ true → list_all (root_shown (routine_in p here)) others ≡ true → is_touched state.heap (areas_of state.frames others) (At a) ≡ false
    by_types None _ (in_main types) right parts shown all = in_main_block root shown all other inside
    by_types (Some _) _ (in_routine id r older there) right parts shown all =
        by_frames older id r state.frames refl right.frames (ap (λ o. apart o state) (sym there) ∙ parts) (ap (λ o. root_shown o root) (sym there) ∙ shown) (ap (λ o. list_all (root_shown o) others) (sym there) ∙ all)

-- ---- views

pub place_stays : (p : Program) (areas : List Area) (here : Option RoutineId) (s t : State) → Writes p areas s t → (x : Symbol) → place_of here t x ≡ place_of here s x
place_stays p areas None s t w x = refl
place_stays p areas (Some id) s t w x = places_stay s t (outlines_stay p areas s t w) x

value_there : (p : Program) (t : TypeId) (o : Option Value) → is_of_type p t o ≡ true → is_some o ≡ true
value_there p t None h = absurd (false≢true h)
value_there p t (Some v) h = refl

pub view_stays : (p : Program) (here : Option RoutineId) (state : State) → IsStart p here state → (roots : List Root) → list_all (root_shown (routine_in p here)) roots ≡ true → (after : State) → Writes p (areas_of state.frames roots) state after
    → (h : Head) → is_of_one (routine_in p here) roots h ≡ false → now_view p here after h ≡ now_view p here state h
view_stays p here state start roots shown after w (head.Var x s zero) other = by_type (shown_type p (routine_in p here) x) refl
  where
    held : (t : TypeId) → shown_type p (routine_in p here) x ≡ Some t → (o : Option Value) → look state (place_of here state x) ≡ o → is_some o ≡ true → look after (place_of here state x) ≡ look state (place_of here state x)
    held t told None is h = absurd (false≢true h)
    held t told (Some v) is h =
        untouched_stays p (areas_of state.frames roots) state after w (place_of here state x) v is ((untouched p here state start roots shown).name x t told other) ∙ sym is

    by_type : (o : Option TypeId) → shown_type p (routine_in p here) x ≡ o → now_view p here after (head.Var x s zero) ≡ now_view p here state (head.Var x s zero)
    by_type None told = ap (λ o. of_sort (option_map (sort_of p.forms) o) s (look after (place_of here after x))) told ∙ sym (ap (λ o. of_sort (option_map (sort_of p.forms) o) s (look state (place_of here state x))) told)
    by_type (Some t) told =
        ap (of_sort (option_map (sort_of p.forms) (shown_type p (routine_in p here) x)) s)
        (ap (look after) (place_stays p (areas_of state.frames roots) here state after w x)
        ∙ held t told (look state (place_of here state x)) refl (value_there p t (look state (place_of here state x)) (start.names x t told)))
view_stays p here state start roots shown after w (head.Var x s (suc n)) other = refl
view_stays p here state start roots shown after w (head.ClassVar t zero) other = by_seen (sees (routine_in p here) (Class t)) refl
  where
    by_seen : (b : Bool) → sees (routine_in p here) (Class t) ≡ b → now_view p here after (head.ClassVar t zero) ≡ now_view p here state (head.ClassVar t zero)
    by_seen true seen =
        ap (λ c. cond (sees (routine_in p here) (Class t)) (Some c) None)
        (class_stays p (areas_of state.frames roots) state after w t ((untouched p here state start roots shown).class t seen other))
    by_seen false seen =
        ap (λ b. cond b (Some (class_of (shapes p) after.heap t)) None) seen ∙ sym (ap (λ b. cond b (Some (class_of (shapes p) state.heap t)) None) seen)
view_stays p here state start roots shown after w (head.ClassVar t (suc n)) other = refl
view_stays p here state start roots shown after w _ other = refl

-- one put
pub put_shows : (p : Program) (here : Option RoutineId) (state : State) → IsStart p here state → (root : Root) → root_shown (routine_in p here) root ≡ true → (a : Place) (e : Sort) (v : Value) → IsPlace (shapes p) state a e → fits (shapes p) v e ≡ true → is_in_one state.heap (root_areas state.frames root) a ≡ true
    → (h : Head) → is_of_one (routine_in p here) (root ∷ []) h ≡ false → now_view p here (put state a v) h ≡ now_view p here state h
put_shows p here state start root shown a e v place fit inside h other =
    view_stays p here state start (root ∷ []) (alone (root_shown (routine_in p here) root) shown) (put state a v)
    (one_put p (areas_of state.frames (root ∷ [])) state a e v place fit (any_left (is_in state.heap a) (root_areas state.frames root) [] inside)) h other
  where
    alone : (b : Bool) → b ≡ true → (b && true) ≡ true
    alone true h = refl
    alone false h = h

-- ---- statements

-- something that passes two tests
all_and : {X : Type 0} (f g h : X → Bool) → ((x : X) → f x ≡ true → g x ≡ true → h x ≡ true) → (xs : List X) → list_all f xs ≡ true → list_all g xs ≡ true → list_all h xs ≡ true
all_and f g h both [] one two = refl
all_and f g h both (x ∷ xs) one two =
    both_true (both x (left_true (f x) (list_all f xs) one) (left_true (g x) (list_all g xs) two)) (all_and f g h both xs (right_true (f x) (list_all f xs) one) (right_true (g x) (list_all g xs) two))

-- an item that a list may change is one that it has
may_change_has : (globals : List GlobalItem) (i : Item) → list_any (same_item i) (var_items globals) ≡ true → lists globals i false ≡ true
may_change_has [] i h = h
may_change_has (g ∷ globals) i h = by_group g.is_var h (may_change_has globals i)
  where
    by_item : (b : Bool) → same_item i g.item ≡ b → (var : Bool) → (b || list_any (same_item i) (var_items globals)) ≡ true → (list_any (same_item i) (var_items globals) ≡ true → lists globals i false ≡ true) → ((same_item g.item i && (var || true)) || lists globals i false) ≡ true
    by_item true e var h later = or_left (same_item g.item i && (var || true)) (lists globals i false) (both_true (swapped same_item items_same item_itself g.item i ∙ e) (or_right var true refl))
    by_item false e var h later = or_right (same_item g.item i && (var || true)) (lists globals i false) (later h)

    by_group : (b : Bool) → list_any (same_item i) (map (λ g. g.item) (cond b (g ∷ filter (λ g. g.is_var) globals) (filter (λ g. g.is_var) globals))) ≡ true → (list_any (same_item i) (var_items globals) ≡ true → lists globals i false ≡ true) → lists (record { item = g.item; is_var = b; line = g.line } ∷ globals) i false ≡ true
    by_group true h later = by_item (same_item i g.item) refl true h later
    by_group false h later = or_right (same_item g.item i && true) (lists globals i false) (later h)

-- whether an own name is one that is own
abbrev is_own_root : Option Routine → Root → Bool
is_own_root here (Own x) = is_own here x
is_own_root here (Shared i) = true

own_named : (here : Option Routine) (x : Symbol) (b : Bool) → is_own here x ≡ b → is_own_root here (cond b (Own x) (Shared (Variable x))) ≡ true
own_named here x true e = e
own_named here x false e = refl

changed_named : (p : Program) (here : Option Routine) (s : Statement) → list_all (is_own_root here) (changed_roots p here s) ≡ true
changed_named p here s = roots_named p here (is_own_root here) (λ x. own_named here x (is_own here x) refl) (λ i. refl) s

routine_root : (q : Routine) (r : Root) → is_own_root (Some q) r ≡ true → is_own_or (var_items q.globals) r ≡ true → root_shown (Some q) r ≡ true
routine_root q (Own x) own h = own
routine_root q (Shared i) own h = may_change_has q.globals i h

-- what a body changes shows
pub body_shown : (p : Program) → IsFramed p → (here : Option RoutineId) → is_there p here ≡ true → list_all (root_shown (routine_in p here)) (changed_roots p (routine_in p here) (body_of p here)) ≡ true
body_shown p f None there = all_and (is_own_root None) (λ r. true) (root_shown None) each (changed_roots p None p.main.body) (changed_named p None p.main.body) (all_true (changed_roots p None p.main.body))
  where
    all_true : (xs : List Root) → list_all (λ r. true) xs ≡ true
    all_true [] = refl
    all_true (x ∷ xs) = all_true xs

    each : (r : Root) → is_own_root None r ≡ true → true ≡ true → root_shown None r ≡ true
    each (Own x) own h = own
    each (Shared i) own h = refl
body_shown p f (Some id) there = by_routine (routine_at p id) refl there
  where
    by_routine : (o : Option Routine) → routine_at p id ≡ o → is_some o ≡ true → list_all (root_shown (routine_at p id)) (changed_roots p (routine_at p id) (routine_body (routine_at p id))) ≡ true
    by_routine None is h = absurd (false≢true h)
    by_routine (Some q) is h =
        ap (λ o. list_all (root_shown o) (changed_roots p o (routine_body o))) is
        ∙ all_and (is_own_root (Some q)) (is_own_or (var_items q.globals)) (root_shown (Some q)) (routine_root q) (changed_roots p (Some q) q.body) (changed_named p (Some q) q.body) ((all_keep p f).each id q is).body

-- ---- calls

shown_use : (r : Routine) (u : Use) → use_kept (is_own_root (Some r)) u ≡ true → use_kept (is_own_or (var_items r.globals)) u ≡ true → use_kept (root_shown (Some r)) u ≡ true
shown_use r u one two = by_change u.changes one two
  where
    by_change : (b : Bool) → (not b || is_own_root (Some r) u.root) ≡ true → (not b || is_own_or (var_items r.globals) u.root) ≡ true → (not b || root_shown (Some r) u.root) ≡ true
    by_change true one two = routine_root r u.root one two
    by_change false one two = refl

main_use : (u : Use) → use_kept (is_own_root None) u ≡ true → use_kept (root_shown None) u ≡ true
main_use u h = by_change u.changes u.root h
  where
    by_change : (b : Bool) (r : Root) → (not b || is_own_root None r) ≡ true → (not b || root_shown None r) ≡ true
    by_change true (Own x) h = h
    by_change true (Shared i) h = refl
    by_change false r h = refl

-- what a list has in any group it has
lists_any : (globals : List GlobalItem) (i : Item) (var : Bool) → lists globals i var ≡ true → lists globals i false ≡ true
lists_any globals i var h = any_passes (λ g. same_item g.item i && (g.is_var || not var)) (λ g. same_item g.item i && (g.is_var || true)) (λ g h. both_true (left_true (same_item g.item i) _ h) (or_right g.is_var true refl)) globals h

covered_shown : (r : Routine) (inner : List GlobalItem) → lists_cover r.globals inner ≡ true → list_all (λ g. sees (Some r) g.item) inner ≡ true
covered_shown r [] h = refl
covered_shown r (g ∷ inner) h = both_true (lists_any r.globals g.item g.is_var (left_true (lists r.globals g.item g.is_var) _ h)) (covered_shown r inner (right_true (lists r.globals g.item g.is_var) _ h))

main_sees : (inner : List GlobalItem) → list_all (λ g. sees None g.item) inner ≡ true
main_sees [] = refl
main_sees (g ∷ inner) = main_sees inner

abbrev call_ok : Program → Option Routine → Call → Bool
call_ok p here c = arguments_apart p here c && call_shown p here c

routine_call : (p : Program) (r : Routine) (c : Call) → (callee_covered p r.globals c && arguments_apart p (Some r) c) ≡ true → placed (root_shown (Some r)) (is_own (Some r)) c ≡ true → call_ok p (Some r) c ≡ true
routine_call p r (call id line given) one two =
    both_true (right_true (callee_covered p r.globals (call id line given)) _ one)
    (both_true two (covered_shown r (globals_of (routine_at p id)) (left_true (callee_covered p r.globals (call id line given)) _ one)))

main_call : (p : Program) (c : Call) → arguments_apart p None c ≡ true → placed (root_shown None) (is_own None) c ≡ true → call_ok p None c ≡ true
main_call p (call id line given) one two = both_true one (both_true two (main_sees (globals_of (routine_at p id))))

named_uses : (here : Option Routine) (s : Statement) → list_all (use_kept (is_own_root here)) (statement_uses (is_own here) s) ≡ true
named_uses here s = statement_named (is_own_root here) (is_own here) (λ x. own_named here x (is_own here x) refl) (λ i. refl) s

-- each call in a body is such that it begins its routine in a start
pub body_calls : (p : Program) → IsFramed p → (here : Option RoutineId) → is_there p here ≡ true → list_all (call_ok p (routine_in p here)) (statement_calls (body_of p here)) ≡ true
body_calls p f None there =
    let uses = all_and (use_kept (is_own_root None)) (λ u. true) (use_kept (root_shown None)) (λ u h k. main_use u h) (statement_uses (is_own None) p.main.body) (named_uses None p.main.body) (all_uses (statement_uses (is_own None) p.main.body)) in
    all_and (arguments_apart p None) (placed (root_shown None) (is_own None)) (call_ok p None) (main_call p) (statement_calls p.main.body) (right_true (list_all (routine_framed p) p.routines) _ f.framed) (statement_placed (root_shown None) (is_own None) p.main.body uses)
  where
    all_uses : (us : List Use) → list_all (λ u. true) us ≡ true
    all_uses [] = refl
    all_uses (u ∷ us) = all_uses us
body_calls p f (Some id) there = by_routine (routine_at p id) refl there
  where
    by_routine : (o : Option Routine) → routine_at p id ≡ o → is_some o ≡ true → list_all (call_ok p (routine_at p id)) (statement_calls (routine_body (routine_at p id))) ≡ true
    by_routine None is h = absurd (false≢true h)
    by_routine (Some q) is h =
        let to = (all_keep p f).each id q is in
        let uses = all_and (use_kept (is_own_root (Some q))) (use_kept (is_own_or (var_items q.globals))) (use_kept (root_shown (Some q))) (shown_use q) (statement_uses (is_own (Some q)) q.body) (named_uses (Some q) q.body) to.uses in
        ap (λ o. list_all (call_ok p o) (statement_calls (routine_body o))) is
        ∙ all_and (λ c. callee_covered p q.globals c && arguments_apart p (Some q) c) (placed (root_shown (Some q)) (is_own (Some q))) (call_ok p (Some q)) (routine_call p q) (statement_calls q.body) to.calls (statement_placed (root_shown (Some q)) (is_own (Some q)) q.body uses)

-- what a statement does not change shows what it did
pub statement_shows : (p : Program) → IsFramed p → (here : Here) (s : Statement) → statement_ok p (routine_in p here.routine) s ≡ true → list_all (root_shown (routine_in p here.routine)) (changed_roots p (routine_in p here.routine) s) ≡ true
    → (state : State) → IsStart p here.routine state → (turns : ℕ) (choices : List Value) (after : State) → (run p turns here s state choices).end ≡ Ended after
    → (h : Head) → is_of_one (routine_in p here.routine) (changed_roots p (routine_in p here.routine) s) h ≡ false → now_view p here.routine after h ≡ now_view p here.routine state h
statement_shows p f here s ok shown state start turns choices after ended h other =
    view_stays p here.routine state start (changed_roots p (routine_in p here.routine) s) shown after
    (statement_writes p f here start.right.types start.right.inside s ok state start.right.right turns choices after ended) h other
