-- A valuation that shows a state knows the values of its names and the contents of its cells.
use Rattle.std.proofs.Common.{◌≡◌, ◌≢◌, ℕ, Bool, true, false, cond, not, List, [], ◌∷◌, ◌++◌, filter, pos, refl, sym, ap, subst, ◌∙◌, nat_eq, Option, Some, None, option_map, is_some}
use Rattle.std.specs.List.{list_all, list_any}
use Rattle.std.specs.Cmp.Derive.{both_true}
use Rattle.std.proofs.lemmas.Bool.{false≢true, eqb-true, eq-eqb}
use Rattle.spv_logic.proofs.list.Tests.{left_true, right_true}
use Rattle.spv_logic.specs.declared.names.names.Symbol.{Symbol}
use Rattle.spv_logic.specs.declared.types.TypeId.{TypeId}
use Rattle.spv_logic.specs.declared.conditions.RoutineId.{RoutineId}
use Rattle.spv_logic.specs.declared.types.Sort.TheVariants as sort
use Rattle.spv_logic.specs.declared.operators.Head.{Head}
use Rattle.spv_logic.specs.declared.operators.Head.TheVariants as head
use Rattle.spv_logic.specs.Values.{Value, rows_in, default_in, row_at}
use Rattle.spv_logic.specs.Shapes.{shapes_ok, sort_of_type}
use Rattle.spv_logic.specs.Conditions.{Meaning, Valuation, View, Shows, answers}
use Rattle.spv_logic.proofs.Equality.{sort_eq-refl}
use Rattle.spv_logic.proofs.Sorting.{eval-fits}
use Rattle.spv_logic.proofs.Changes.{class_same, put_other, pos_differs, differs}
use Rattle.spv_program.specs.declared.types.Item.TheVariants.{Variable, Class}
use Rattle.spv_program.specs.Lists.{same_name, found, first_of}
use Rattle.spv_program.specs.Types.{same_type, sort_of, form_ok, forms_ok}
use Rattle.spv_program.specs.Programs.{Routine, Program, shapes, routine_in}
use Rattle.spv_program.specs.Scopes.{own_names_in, is_own, name_type}
use Rattle.spv_program.specs.Uses.{name_root}
use Rattle.spv_program.specs.Typing.{declarations_ok, well_typed}
use Rattle.spv_program.proofs.SortFacts.{nothing_there, some_is}
use Rattle.spv_meaning.specs.Places.{HeapRow, State, row_of, look}
use Rattle.spv_meaning.specs.Views.{place_of, sees, shown_type, of_sort, with_heap_row, class_of, now_view}
use Rattle.spv_meaning.specs.Levels.{Here}
use Rattle.spv_meaning.specs.Starts.{is_of_type, row_ok, heap_ok}
use Rattle.spv_meaning.proofs.Heaps.{class_fits}
use Rattle.spv_rule_soundness.specs.evaluation.Laws.{root_seen, Shown, Setting}

-- ---- names

same_names : (x y : Symbol) → same_name x y ≡ true → x ≡ y
same_names x y h = let e = eqb-true x.0 y.0 h in λ i. record { 0 = e i }

pub found-append : {X : Type 0} (xs ys : List (Symbol × X)) (x : Symbol) → found (xs ++ ys) x ≡ first_of (found xs x) (found ys x)
found-append [] ys x = refl
found-append (n ∷ xs) ys x = by_case (same_name n.0 x) (found-append xs ys x)
  where
    by_case : (b : Bool) → found (xs ++ ys) x ≡ first_of (found xs x) (found ys x) → cond b (Some n.1) (found (xs ++ ys) x) ≡ first_of (cond b (Some n.1) (found xs x)) (found ys x)
    by_case true later = refl
    by_case false later = later

found-filter : {X : Type 0} (test : Symbol → Bool) (xs : List (Symbol × X)) (x : Symbol) → test x ≡ true → found (filter (λ n. test n.0) xs) x ≡ found xs x
found-filter test [] x passes = refl
found-filter {X} test (n ∷ xs) x passes = by_name (same_name n.0 x) refl (found-filter test xs x passes)
  where
    Kept : Bool → Bool → Type 0
    Kept keeps here = found (cond keeps (n ∷ filter (λ n. test n.0) xs) (filter (λ n. test n.0) xs)) x ≡ cond here (Some n.1) (found xs x)

    by_test : (here keeps : Bool) → same_name n.0 x ≡ here → found (filter (λ n. test n.0) xs) x ≡ found xs x → (here ≡ true → keeps ≡ true) → Kept keeps here
    by_test true true e later there = ap (λ b. cond b (Some n.1) (found (filter (λ n. test n.0) xs) x)) e
    by_test true false e later there = absurd (false≢true (there refl))
    by_test false true e later there = ap (λ b. cond b (Some n.1) (found (filter (λ n. test n.0) xs) x)) e ∙ later
    by_test false false e later there = later

    by_name : (here : Bool) → same_name n.0 x ≡ here → found (filter (λ n. test n.0) xs) x ≡ found xs x → Kept (test n.0) (same_name n.0 x)
    by_name here e later =
        subst (Kept (test n.0)) (sym e) (by_test here (test n.0) e later (λ is. ap test (same_names n.0 x (e ∙ is)) ∙ passes))

-- a name that is seen shows, with its type
pub shown : (p : Program) (r : Option Routine) (x : Symbol) (t : TypeId) → name_type p r x ≡ Some t → root_seen r (name_root (is_own r) x) ≡ true → shown_type p r x ≡ Some t
shown p r x t is seen =
    found-append (own_names_in r) (filter (λ n. sees r (Variable n.0)) p.variables) x ∙ by_own (found (own_names_in r) x) is seen
  where
    by_own : (o : Option TypeId) → first_of o (found p.variables x) ≡ Some t → root_seen r (name_root (λ y. is_some o) x) ≡ true → first_of o (found (filter (λ n. sees r (Variable n.0)) p.variables) x) ≡ Some t
    by_own (Some u) is seen = is
    by_own None is seen = found-filter (λ y. sees r (Variable y)) p.variables x seen ∙ is

something : (p : Program) (t : TypeId) (o : Option Value) → is_of_type p t o ≡ true → (w : Value) × (o ≡ Some w)
something p t None h = absurd (false≢true h)
something p t (Some w) h = (w, refl)

-- what a view shows at a head
at_head : (view : View) (v : Valuation) (h : Head) (w : Value) → Shows view v → view h ≡ Some w → v h ≡ w
at_head view v h w shows e = shows h w e

-- what a name that is seen shows
pub view_name : (p : Program) (here : Option RoutineId) (state : State) (x : Symbol) (t : TypeId) (w : Value) → name_type p (routine_in p here) x ≡ Some t → root_seen (routine_in p here) (name_root (is_own (routine_in p here)) x) ≡ true → look state (place_of here state x) ≡ Some w → now_view p here state (head.Var x (sort_of p.forms t) 0) ≡ Some w
view_name p here state x t w is seen there =
    ap (λ o. of_sort (option_map (sort_of p.forms) o) (sort_of p.forms t) (look state (place_of here state x))) (shown p (routine_in p here) x t is seen)
    ∙ (ap (λ b. cond b (look state (place_of here state x)) None) (sort_eq-refl (sort_of p.forms t)) ∙ there)

pub name_shown : (p : Program) (here : Here) (state : State) (v : Valuation) → Shown p here state v → (x : Symbol) (t : TypeId) → name_type p (routine_in p here.routine) x ≡ Some t → root_seen (routine_in p here.routine) (name_root (is_own (routine_in p here.routine)) x) ≡ true → look state (place_of here.routine state x) ≡ Some (v (head.Var x (sort_of p.forms t) 0))
name_shown p here state v all x t is seen =
    let holds = all.start.names x t (shown p (routine_in p here.routine) x t is seen) in
    let w = something p t (look state (place_of here.routine state x)) holds in
    w.1 ∙ ap Some (sym (at_head (now_view p here.routine state) v (head.Var x (sort_of p.forms t) 0) w.0 all.shows (view_name p here.routine state x t w.0 is seen w.1)))

-- ---- cells

-- the class with a row more, at the row's own cell and at another one
at_own_cell : (p : Program) → shapes_ok (shapes p) ≡ true → (heap : List HeapRow) → heap_ok p heap ≡ true → (t : TypeId) (r : HeapRow) (q : ℕ) → r.cell ≡ q → row_at (rows_in (with_heap_row r (class_of (shapes p) heap t))) (pos q) (default_in (class_of (shapes p) heap t)) ≡ r.content
at_own_cell p ok heap h t r q is =
    let c = class_of (shapes p) heap t in
    ap (λ n. row_at (rows_in (with_heap_row r c)) (pos n) (default_in c)) (sym is)
    ∙ class_same (shapes p) (sort.Class t) (sort_of_type (shapes p) t) c r.content (pos r.cell) refl (class_fits p ok heap h t)

not_same : (m n : ℕ) → nat_eq m n ≡ false → n ≢ m
not_same m n h e = false≢true (sym h ∙ (ap (nat_eq m) e ∙ eq-eqb m m refl))

at_other_cell : (r : HeapRow) (c : Value) (q : ℕ) → nat_eq r.cell q ≡ false → row_at (rows_in (with_heap_row r c)) (pos q) (default_in c) ≡ row_at (rows_in c) (pos q) (default_in c)
at_other_cell r c q other =
    put_other (rows_in c) (pos r.cell) (pos q) r.content (default_in c) (differs (pos q) (pos r.cell) (pos_differs q r.cell (not_same r.cell q other)))

-- the content of a cell is what its class has there
pub content : (p : Program) → shapes_ok (shapes p) ≡ true → (heap : List HeapRow) → heap_ok p heap ≡ true → (t : TypeId) (r : HeapRow) (q : ℕ) → row_of heap q ≡ Some r → same_type r.type t ≡ true → row_at (rows_in (class_of (shapes p) heap t)) (pos q) (default_in (class_of (shapes p) heap t)) ≡ r.content
content p ok [] h t r q e is = absurd (nothing_there e)
content p ok (s ∷ heap) h t r q e is =
    let differ = right_true (list_all (row_ok p) (s ∷ heap)) _ h in
    let below = both_true (right_true (row_ok p s) _ (left_true (list_all (row_ok p) (s ∷ heap)) _ h)) (right_true (not (list_any (λ x. nat_eq s.cell x.cell) heap)) _ differ) in
    by_cell (nat_eq s.cell q) refl below e (λ later. content p ok heap below t r q later is)
  where
    Goal : Bool → Type 0
    Goal here = row_at (rows_in (cond here (with_heap_row s (class_of (shapes p) heap t)) (class_of (shapes p) heap t))) (pos q) (default_in (cond here (with_heap_row s (class_of (shapes p) heap t)) (class_of (shapes p) heap t))) ≡ r.content

    by_type : nat_eq s.cell q ≡ false → row_at (rows_in (class_of (shapes p) heap t)) (pos q) (default_in (class_of (shapes p) heap t)) ≡ r.content → (b : Bool) → Goal b
    by_type other later true = at_other_cell s (class_of (shapes p) heap t) q other ∙ later
    by_type other later false = later

    by_cell : (b : Bool) → nat_eq s.cell q ≡ b → heap_ok p heap ≡ true → cond b (Some s) (row_of heap q) ≡ Some r → (row_of heap q ≡ Some r → row_at (rows_in (class_of (shapes p) heap t)) (pos q) (default_in (class_of (shapes p) heap t)) ≡ r.content) → Goal (nat_eq s.type.0 t.0)
    by_cell true here below e later =
        subst Goal (sym (ap (λ x. same_type x.type t) (some_is e) ∙ is)) (at_own_cell p ok heap below t s q (eqb-true s.cell q here) ∙ ap (λ x. x.content) (some_is e))
    by_cell false here below e later = by_type here (later e) (nat_eq s.type.0 t.0)

pub cell_shown : (p : Program) → shapes_ok (shapes p) ≡ true → (here : Here) (state : State) (v : Valuation) → Shown p here state v → (t : TypeId) (r : HeapRow) (q : ℕ) → sees (routine_in p here.routine) (Class t) ≡ true → row_of state.heap q ≡ Some r → same_type r.type t ≡ true → row_at (rows_in (v (head.ClassVar t 0))) (pos q) (default_in (v (head.ClassVar t 0))) ≡ r.content
cell_shown p ok here state v all t r q seen e is =
    let class = class_of (shapes p) state.heap t in
    let view = ap (λ b. cond b (Some class) None) seen in
    ap (λ w. row_at (rows_in w) (pos q) (default_in w)) (at_head (now_view p here.routine state) v (head.ClassVar t 0) class all.shows view)
    ∙ content p ok state.heap all.start.heap t r q e is

-- ---- all together

pub forms_right : (p : Program) → well_typed p ≡ true → shapes_ok (shapes p) ≡ true
forms_right p ok = right_true (list_all (form_ok p.forms) p.forms) _ (left_true (forms_ok p.forms) _ (left_true (declarations_ok p) _ ok))

pub setting : (p : Program) → well_typed p ≡ true → (world : Meaning) (v : Valuation) (here : Here) (state : State) → Shown p here state v → Setting p (answers (shapes p) p.symbols world) v here state
setting p ok world v here state all = record {
  sorted = λ t s h. eval-fits (shapes p) (forms_right p ok) p.symbols world v all.valuation t s h;
  named = name_shown p here state v all;
  cells = cell_shown p (forms_right p ok) here state v all;
}
