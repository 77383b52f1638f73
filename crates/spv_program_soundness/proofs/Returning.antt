-- What a called procedure shows at its end, in its caller's terms.
use Rattle.std.proofs.Common.{◌≡◌, Bool, true, false, cond, not, ◌&&◌, ◌||◌, List, [], ◌∷◌, map, filter, refl, sym, ap, subst, ◌∙◌, Option, Some, None, option_map}
use Rattle.std.specs.Prelude.{is_some}
use Rattle.std.specs.List.{list_all, list_any}
use Rattle.std.specs.Cmp.Derive.{both_true}
use Rattle.std.proofs.lemmas.Bool.{false≢true}
use Rattle.spv_logic.proofs.list.Tests.{left_true, right_true, left_false, right_false, both_false}
use Rattle.spv_logic.specs.declared.names.names.Symbol.{Symbol}
use Rattle.spv_logic.specs.declared.types.TypeId.{TypeId}
use Rattle.spv_logic.specs.declared.types.Sort.{Sort}
use Rattle.spv_logic.specs.declared.conditions.RoutineId.{RoutineId}
use Rattle.spv_logic.specs.declared.operators.Head.{Head}
use Rattle.spv_logic.specs.declared.operators.Head.TheVariants as head
use Rattle.spv_logic.specs.Terms.{head_eq}
use Rattle.spv_logic.specs.Conditions.{Meaning, View}
use Rattle.spv_logic.proofs.Equality.{head_eq-true, head_eq-refl}
use Rattle.spv_program.specs.declared.types.Item.{Item}
use Rattle.spv_program.specs.declared.types.Item.TheVariants.{Variable, Class}
use Rattle.spv_program.specs.Lists.{same_name, found, first_of}
use Rattle.spv_program.specs.Types.{sort_of, same_item}
use Rattle.spv_program.specs.Programs.{Formal, GlobalItem, Routine, Program, lists, routine_at, routine_in}
use Rattle.spv_program.specs.Scopes.{is_own, own_names_in, sort_or_int, item_sort}
use Rattle.spv_program.specs.Uses.{Root, Own, Shared, same_root, name_root}
use Rattle.spv_program.specs.Changes.{var_items}
use Rattle.spv_program.specs.Terms.{item_head}
use Rattle.spv_program.specs.Calls.{Argument, formal_head}
use Rattle.spv_program.specs.Typing.{item_exists}
use Rattle.spv_program.proofs.SortFacts.{nothing_there, some_is}
use Rattle.spv_meaning.specs.Places.{Place, Binding, State, Holding, Referring}
use Rattle.spv_meaning.specs.Views.{sees}
use Rattle.spv_meaning.specs.Levels.{Here}
use Rattle.spv_meaning.specs.Starts.{IsStart}
use Rattle.spv_meaning.proofs.Maps.{same_names}
use Rattle.spv_rule_soundness.specs.evaluation.Laws.{root_seen}
use Rattle.spv_rule_soundness.specs.statements.Truth.{IsEntry}
use Rattle.spv_writes.proofs.Lists.{not_so, or_left, or_right, swapped}
use Rattle.spv_frame_law.specs.Laws.{IsFramed}
use Rattle.spv_frame_law.proofs.Sharing.{item_itself}
use Rattle.spv_frame_law.proofs.Covering.{items_same}
use Rattle.spv_call_evaluation.specs.Lying.{AreBound, NoneBound, ValueBound, PlaceBound}
use Rattle.spv_call_evaluation.proofs.Globals.{listed_passes, seen_not_own}
use Rattle.spv_call_evaluation.proofs.Callees as callees
use Rattle.spv_program_soundness.proofs.Roots.{IsRootOf, OfName, OfClass}
use Rattle.spv_program_soundness.proofs.Staying.{AreRoots, NoRoots, OneRoot}
use Rattle.spv_program_soundness.proofs.Changed.{heads_changed, item_heads}

-- ---- parameters by place

-- a parameter that is no value refers to a place
pub record Refers (names : List (Symbol × Binding)) (x : Symbol) : Type 0 where
  pub place : Place
  pub is : found names x ≡ Some (Referring place)

module _ (p : Program) (symbols : Meaning) (here : Here) (state : State) (window : View) where
  pub refers : (formals : List Formal) (terms : List Argument) (names : List (Symbol × Binding)) → AreBound p symbols here state window formals terms names → (x : Symbol) (t : TypeId) → found (map (λ f. (f.name, f.of)) formals) x ≡ Some t → list_any (λ f. same_name f.name x && not f.by_place) formals ≡ false → Refers names x
  refers _ _ _ NoneBound x t e none = absurd (nothing_there e)
  refers _ _ _ (ValueBound f u w kept sorted worth formals terms names others) x t e none =
      by_name (same_name f.name x) refl e (left_false (same_name f.name x && not f.by_place) _ none) (λ e. refers formals terms names others x t e (right_false (same_name f.name x && not f.by_place) _ none))
    where
      by_name : (b : Bool) → same_name f.name x ≡ b → cond b (Some f.of) (found (map (λ f. (f.name, f.of)) formals) x) ≡ Some t → (b && not f.by_place) ≡ false → (found (map (λ f. (f.name, f.of)) formals) x ≡ Some t → Refers names x) → Refers ((f.name, Holding w) ∷ names) x
      by_name true is e none later = absurd (false≢true (sym none ∙ kept))
      by_name false is e none later = let r = later e in record { place = r.place; is = ap (λ b. cond b (Some (Holding w)) (found names x)) is ∙ r.is }
  refers _ _ _ (PlaceBound f d a placed sorted lies formals terms names others) x t e none =
      by_name (same_name f.name x) refl e (λ e. refers formals terms names others x t e (right_false (same_name f.name x && not f.by_place) _ none))
    where
      by_name : (b : Bool) → same_name f.name x ≡ b → cond b (Some f.of) (found (map (λ f. (f.name, f.of)) formals) x) ≡ Some t → (found (map (λ f. (f.name, f.of)) formals) x ≡ Some t → Refers names x) → Refers ((f.name, Referring a) ∷ names) x
      by_name true is e later = record { place = a; is = ap (λ b. cond b (Some (Referring a)) (found names x)) is }
      by_name false is e later = let r = later e in record { place = r.place; is = ap (λ b. cond b (Some (Referring a)) (found names x)) is ∙ r.is }

  -- and it is among what the call changes
  pub place_changed : (q : Routine) (formals : List Formal) (terms : List Argument) (names : List (Symbol × Binding)) → AreBound p symbols here state window formals terms names → (x : Symbol) (t : TypeId) (a : Place) → found (map (λ f. (f.name, f.of)) formals) x ≡ Some t → found names x ≡ Some (Referring a)
      → list_any (head_eq (head.Var x (sort_of p.forms t) 0)) (heads_changed p q formals terms) ≡ true
  place_changed q _ _ _ NoneBound x t a e r = absurd (nothing_there e)
  place_changed q _ _ _ (ValueBound f u w kept sorted worth formals terms names others) x t a e r = by_name (same_name f.name x) e r (place_changed q formals terms names others x t a)
    where
      by_name : (b : Bool) → cond b (Some f.of) (found (map (λ f. (f.name, f.of)) formals) x) ≡ Some t → cond b (Some (Holding w)) (found names x) ≡ Some (Referring a) → (found (map (λ f. (f.name, f.of)) formals) x ≡ Some t → found names x ≡ Some (Referring a) → list_any (head_eq (head.Var x (sort_of p.forms t) 0)) (heads_changed p q formals terms) ≡ true) → list_any (head_eq (head.Var x (sort_of p.forms t) 0)) (heads_changed p q formals terms) ≡ true
      by_name true e r later = absurd (never (some_is r))
        where
          never : Holding w ≡ Referring a → ⊥
          never e = cc
      by_name false e r later = later e r
  place_changed q _ _ _ (PlaceBound f d b placed sorted lies formals terms names others) x t a e r = by_name (same_name f.name x) refl e r (place_changed q formals terms names others x t a)
    where
      k : Head
      k = head.Var x (sort_of p.forms t) 0

      by_name : (c : Bool) → same_name f.name x ≡ c → cond c (Some f.of) (found (map (λ f. (f.name, f.of)) formals) x) ≡ Some t → cond c (Some (Referring b)) (found names x) ≡ Some (Referring a) → (found (map (λ f. (f.name, f.of)) formals) x ≡ Some t → found names x ≡ Some (Referring a) → list_any (head_eq (head.Var x (sort_of p.forms t) 0)) (heads_changed p q formals terms) ≡ true) → (head_eq (head.Var x (sort_of p.forms t) 0) (formal_head p f) || list_any (head_eq (head.Var x (sort_of p.forms t) 0)) (heads_changed p q formals terms)) ≡ true
      by_name true is e r later =
          let name = same_names f.name x is in
          let type = some_is e in
          or_left (head_eq k (formal_head p f)) _ ((λ i. head_eq (head.Var x (sort_of p.forms t) 0) (head.Var (name i) (sort_of p.forms (type i)) 0)) ∙ head_eq-refl (head.Var x (sort_of p.forms t) 0))
      by_name false is e r later = or_right (head_eq k (formal_head p f)) _ (later e r)

-- ---- items of a list

-- an item of a list that is none of a VAR group
var_among : (globals : List GlobalItem) (root : Root) → list_any (same_root root) (map Shared (map (λ g. g.item) globals)) ≡ false → list_any (same_root root) (map Shared (var_items globals)) ≡ false
var_among [] root none = refl
var_among (g ∷ globals) root none = by_group g.is_var (left_false (same_root root (Shared g.item)) _ none) (var_among globals root (right_false (same_root root (Shared g.item)) _ none))
  where
    by_group : (b : Bool) → same_root root (Shared g.item) ≡ false → list_any (same_root root) (map Shared (var_items globals)) ≡ false → list_any (same_root root) (map Shared (map (λ g. g.item) (cond b (g ∷ filter (λ g. g.is_var) globals) (filter (λ g. g.is_var) globals)))) ≡ false
    by_group true one rest = both_false (same_root root (Shared g.item)) _ one rest
    by_group false one rest = rest

pub vars_among : (globals : List GlobalItem) (roots : List Root) → list_any (λ r. list_any (same_root r) (map Shared (map (λ g. g.item) globals))) roots ≡ false → list_any (λ r. list_any (same_root r) (map Shared (var_items globals))) roots ≡ false
vars_among globals [] none = refl
vars_among globals (r ∷ roots) none = both_false (list_any (same_root r) (map Shared (var_items globals))) _ (var_among globals r (left_false (list_any (same_root r) (map Shared (map (λ g. g.item) globals))) _ none)) (vars_among globals roots (right_false (list_any (same_root r) (map Shared (map (λ g. g.item) globals))) _ none))

vars_pass : (test : Item → Bool) (globals : List GlobalItem) → list_all (λ g. test g.item) globals ≡ true → list_all test (var_items globals) ≡ true
vars_pass test [] all = refl
vars_pass test (g ∷ globals) all = by_group g.is_var (left_true (test g.item) _ all) (vars_pass test globals (right_true (test g.item) _ all))
  where
    by_group : (b : Bool) → test g.item ≡ true → list_all test (var_items globals) ≡ true → list_all test (map (λ g. g.item) (cond b (g ∷ filter (λ g. g.is_var) globals) (filter (λ g. g.is_var) globals))) ≡ true
    by_group true one rest = both_true one rest
    by_group false one rest = rest

-- the roots of a list's items
pub listed_root : (globals : List GlobalItem) (i : Item) → lists globals i false ≡ true → list_any (same_root (Shared i)) (map Shared (map (λ g. g.item) globals)) ≡ true
listed_root [] i h = h
listed_root (g ∷ globals) i h = by_item (same_item g.item i) refl h (listed_root globals i)
  where
    by_item : (b : Bool) → same_item g.item i ≡ b → ((b && (g.is_var || true)) || lists globals i false) ≡ true → (lists globals i false ≡ true → list_any (same_root (Shared i)) (map Shared (map (λ g. g.item) globals)) ≡ true) → list_any (same_root (Shared i)) (map Shared (map (λ g. g.item) (g ∷ globals))) ≡ true
    by_item true e h later = or_left (same_item i g.item) _ (swapped same_item items_same item_itself i g.item ∙ e)
    by_item false e h later = or_right (same_item i g.item) _ (later h)

-- what stands in a VAR group is listed
pub var_listed : (globals : List GlobalItem) (i : Item) → list_any (same_item i) (var_items globals) ≡ true → lists globals i false ≡ true
var_listed [] i h = h
var_listed (g ∷ globals) i h = by_group g.is_var h (var_listed globals i)
  where
    first : same_item i g.item ≡ true → same_item g.item i ≡ true
    first e = swapped same_item items_same item_itself g.item i ∙ e

    by_item : (b : Bool) → same_item i g.item ≡ b → (b || list_any (same_item i) (var_items globals)) ≡ true → (list_any (same_item i) (var_items globals) ≡ true → lists globals i false ≡ true) → ((same_item g.item i && (g.is_var || true)) || lists globals i false) ≡ true
    by_item true e h later = or_left (same_item g.item i && (g.is_var || true)) _ (both_true (first e) (or_right g.is_var true refl))
    by_item false e h later = or_right (same_item g.item i && (g.is_var || true)) _ (later h)

    by_group : (b : Bool) → list_any (same_item i) (map (λ g. g.item) (cond b (g ∷ filter (λ g. g.is_var) globals) (filter (λ g. g.is_var) globals))) ≡ true → (list_any (same_item i) (var_items globals) ≡ true → lists globals i false ≡ true) → ((same_item g.item i && (g.is_var || true)) || lists globals i false) ≡ true
    by_group true h later = by_item (same_item i g.item) refl h later
    by_group false h later = or_right (same_item g.item i && (g.is_var || true)) _ (later h)

-- ---- a call that returned

module _ (p : Program) (f : IsFramed p) (world : Meaning) (here : Here) (entry : IsEntry p here.entry) (state : State) (start : IsStart p here.routine state) (id : RoutineId) (q : Routine) (there : routine_at p id ≡ Some q)
    (seen : list_all (λ g. sees (routine_in p here.routine) g.item) q.globals ≡ true) where
  abbrev r : Option Routine
  r = routine_in p here.routine

  -- an item of the callee's list is one of the caller's view
  pub item_root : (i : Item) → lists q.globals i false ≡ true → IsRootOf p (routine_in p here.routine) (Shared i) (item_head p (Some q) i)
  item_root (Class c) listed = OfClass c (listed_passes (item_exists p) q.globals (Class c) (callees.all_items p f id q there) listed) (listed_passes (sees (routine_in p here.routine)) q.globals (Class c) seen listed)
  item_root (Variable x) listed =
      let r = routine_in p here.routine in
      let k = callees.declared p f id q there x listed in
      let sees_it = listed_passes (sees r) q.globals (Variable x) seen listed in
      let other = seen_not_own p f.typed here.routine x sees_it in
      let root : name_root (is_own r) x ≡ Shared (Variable x) = ap (λ b. cond b (Own x) (Shared (Variable x))) other in
      let sort : item_sort p (Some q) (Variable x) ≡ sort_of p.forms k.type = ap (λ o. sort_or_int (option_map (sort_of p.forms) (first_of o (found p.variables x)))) (callees.not_own p f id q there x listed) ∙ ap (λ o. sort_or_int (option_map (sort_of p.forms) o)) k.is in
      subst (λ (s : Sort). IsRootOf p r (Shared (Variable x)) (head.Var x s 0)) (sym sort)
      (subst (λ (root : Root). IsRootOf p r root (head.Var x (sort_of p.forms k.type) 0)) root
      (OfName x k.type (name_told (found (own_names_in r) x) other k.is) (ap (λ b. root_seen r (cond b (Own x) (Shared (Variable x)))) other ∙ sees_it)))
    where
      name_told : (o : Option TypeId) → {u : TypeId} → is_some o ≡ false → found p.variables x ≡ Some u → first_of o (found p.variables x) ≡ Some u
      name_told None e type = type
      name_told (Some k) e type = absurd (false≢true (sym e))

  pub items_roots : (items : List Item) → list_all (λ i. lists q.globals i false) items ≡ true → AreRoots p here (map Shared items) (item_heads p q items)
  items_roots [] all = NoRoots
  items_roots (i ∷ items) all = OneRoot (Shared i) (item_head p (Some q) i) (item_root i (left_true (lists q.globals i false) _ all)) (map Shared items) (item_heads p q items) (items_roots items (right_true (lists q.globals i false) _ all))

  -- no root of a VAR argument is an item of the list
  pub item_apart : (i : Item) → lists q.globals i false ≡ true → (roots : List Root) (heads : List Head) → AreRoots p here roots heads → list_any (λ r. list_any (same_root r) (map Shared (map (λ g. g.item) q.globals))) roots ≡ false → list_any (head_eq (item_head p (Some q) i)) heads ≡ false
  item_apart i listed _ _ NoRoots none = refl
  item_apart i listed _ _ (OneRoot root h is roots heads others) none =
      both_false (head_eq (item_head p (Some q) i) h) _
      (not_so (head_eq (item_head p (Some q) i) h) (λ e. sym (left_false (list_any (same_root root) (map Shared (map (λ g. g.item) q.globals))) _ none) ∙ (ap (λ (k : Root). list_any (same_root k) (map Shared (map (λ g. g.item) q.globals))) (same_roots (routine_in p here.routine) root h is (Shared i) (item_head p (Some q) i) (item_root i listed) (sym (head_eq-true (item_head p (Some q) i) h e))) ∙ listed_root q.globals i listed)))
      (item_apart i listed roots heads others (right_false (list_any (same_root root) (map Shared (map (λ g. g.item) q.globals))) _ none))
    where
      one_name : (x y : Symbol) (s t : Sort) → head.Var x s 0 ≡ head.Var y t 0 → x ≡ y
      one_name x y s t e = cc

      one_class : (c d : TypeId) → head.ClassVar c 0 ≡ head.ClassVar d 0 → c ≡ d
      one_class c d e = cc

      never : (x : Symbol) (s : Sort) (c : TypeId) → head.Var x s 0 ≡ head.ClassVar c 0 → ⊥
      never x s c e = cc

      -- one head has one root
      same_roots : (r : Option Routine) (a : Root) (h : Head) → IsRootOf p r a h → (b : Root) (k : Head) → IsRootOf p r b k → h ≡ k → a ≡ b
      same_roots r _ _ (OfName x t told seen) _ _ (OfName y u told_y seen_y) e = ap (name_root (is_own r)) (one_name x y (sort_of p.forms t) (sort_of p.forms u) e)
      same_roots r _ _ (OfName x t told seen) _ _ (OfClass c exists_c seen_c) e = absurd (never x (sort_of p.forms t) c e)
      same_roots r _ _ (OfClass c exists_c seen_c) _ _ (OfName x t told seen) e = absurd (never x (sort_of p.forms t) c (sym e))
      same_roots r _ _ (OfClass c exists_c seen_c) _ _ (OfClass d exists_d seen_d) e = ap (λ (z : TypeId). Shared (Class z)) (one_class c d e)
