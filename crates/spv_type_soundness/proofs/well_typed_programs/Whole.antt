-- Whole programs that the walk answers are well typed.
use Rattle.std.proofs.Common.{◌≡◌, ℕ, zero, suc, Bool, true, false, cond, not, ◌||◌, List, [], ◌∷◌, ◌++◌, map, Option, Some, None, refl, sym, ap, ◌∙◌, subst}
use Rattle.std.specs.Prelude.{Ok}
use Rattle.std.specs.List.{list_any, list_all}
use Rattle.std.specs.Cmp.Derive.{both_true}
use Rattle.std.proofs.lemmas.Bool.{false≢true}
use Rattle.std.proofs.lemmas.List.{append-nil, append_assoc}
use Rattle.spv_logic.specs.declared.names.names.Symbol.{Symbol}
use Rattle.spv_logic.proofs.list.Tests.{left_true, right_true}
use Rattle.spv_logic.specs.declared.types.TypeId.{TypeId}
use Rattle.spv_logic.specs.Sorts.{sort_in_range}
use Rattle.spv_logic.specs.declared.conditions.RoutineId.{RoutineId}
use Rattle.spv_tree.specs.declared.syntax.declarations.Declarations.{Declarations}
use Rattle.spv_tree.specs.declared.syntax.routines.RoutineMark.{RoutineMark}
use Rattle.spv_tree.specs.syntax.Formulas as formulas
use Rattle.spv_tree.specs.syntax.Statements as tree
use Rattle.spv_tree.specs.syntax.Reads.{routines_ok}
use Rattle.spv_program.specs.Lists.{same_name, found, item_at, names_differ}
use Rattle.spv_program.specs.Types.{type_exists}
use Rattle.spv_program.specs.Formulas.{Annotation}
use Rattle.spv_program.specs.FormulaTypes.{annotation_ok}
use Rattle.spv_program.specs.Statements.{Statement, Assert}
use Rattle.spv_program.specs.Programs.{Routine, Main, Program, shapes}
use Rattle.spv_program.specs.Scopes.{name_type, with_sorts_of, body_scope}
use Rattle.spv_program.specs.Typing.{statement_ok, routine_ok, well_typed}
use Rattle.spv_program.proofs.SortFacts.{nothing_there, some_is}
use Rattle.spv_typing.specs.Outcomes.{after, if_there, each}
use Rattle.spv_typing.specs.Known.{KnownNames, Heading, Specified, OfPlace, Known, at_top, meaning}
use Rattle.spv_typing.specs.Merging.{first_where}
use Rattle.spv_typing.specs.DeclarationWalk.{declarations_walk}
use Rattle.spv_typing.specs.FormulaWalk.{annotation}
use Rattle.spv_typing.specs.StatementWalk.{block_walk}
use Rattle.spv_typing.specs.ProgramWalk.{names_of_bodies, mark_walk, routines_walk, known_at_first, none_awaited, with_main, main_setting}
use Rattle.spv_type_soundness.specs.well_typed.Laws.{SeesAlike}
use Rattle.spv_type_soundness.proofs.well_typed.Outcomes.{fine, no_fault, same_value, went}
use Rattle.spv_type_soundness.specs.well_typed_programs.Statements.{Stands}
use Rattle.spv_type_soundness.specs.well_typed_programs.Programs.{RoutinesAreWellTyped, ProgramsAreWellTyped, FormulaTextsAreWellTyped}
use Rattle.spv_type_soundness.proofs.well_typed_programs.Differ.{or_left, or_right, by_test, name-refl, same_names, differ_append, differ_first, differ_apart, not_true}
use Rattle.spv_type_soundness.proofs.well_typed_programs.Finding.{keys, found_key, found_name, found_all}
use Rattle.spv_type_soundness.proofs.well_typed_programs.Items.{item_map, item_mapped, all_at}
use Rattle.spv_type_soundness.proofs.well_typed_programs.Denoted.{begins_same}
use Rattle.spv_type_soundness.proofs.well_typed_programs.Naming.{symbol_names, heading_names, headings_named}
use Rattle.spv_type_soundness.proofs.well_typed_programs.Declaring.{RightProgram, RightKnown, declarations_right}
use Rattle.spv_type_soundness.proofs.well_typed_programs.Declared.{first_right, declarations_same, declared_ok}
use Rattle.spv_type_soundness.proofs.well_typed_programs.Seeing.{sees_none, plain_none, symbol_there, variable_meant, sees_alike}
use Rattle.spv_type_soundness.proofs.well_typed_programs.Headings.{Later, all_in_range, sorts_in_range, variables_same, annotation_later}
use Rattle.spv_type_soundness.proofs.well_typed_programs.HeadingWalk.{noted_ok}
use Rattle.spv_type_soundness.proofs.well_typed_programs.Statements.{statements_are_well_typed}
use Rattle.spv_type_soundness.proofs.well_typed_programs.Bodies.{HasBody, Final, known_program, program_grows, known_grows, items_known, same_routine, belongs}
use Rattle.spv_type_soundness.proofs.well_typed_programs.RoutineBody.{keys_headings}
use Rattle.spv_type_soundness.proofs.well_typed_programs.States.{heading_at, routine_names, specified_named, Has, still_awaited, just_begun, is_done, RightState}
use Rattle.spv_type_soundness.proofs.well_typed_programs.Marks.{between, marks_right}

-- ---- routines by their numbers

any_at : (names : List Symbol) (i : ℕ) (x : Symbol) → item_at names i ≡ Some x → list_any (same_name x) names ≡ true
any_at [] i x e = absurd (nothing_there e)
any_at (y ∷ names) zero x e = or_left (same_name x y) _ (subst (λ z. same_name x z ≡ true) (sym (some_is e)) (name-refl x))
any_at (y ∷ names) (suc i) x e = or_right (same_name x y) _ (any_at names i x e)

-- in a list of different names each stands at its first place
place_of_name : (names : List Symbol) (i : ℕ) (x : Symbol) → names_differ names ≡ true → item_at names i ≡ Some x
    → first_where (same_name x) names ≡ i
place_of_name [] i x d e = absurd (nothing_there e)
place_of_name (y ∷ names) zero x d e =
    ap (λ b. cond b 0 (suc (first_where (same_name x) names))) (subst (λ z. same_name x z ≡ true) (sym (some_is e)) (name-refl x))
place_of_name (y ∷ names) (suc i) x d e =
    by_name (same_name x y) refl (place_of_name names i x (right_true (not (list_any (same_name y) names)) _ d) e)
  where
    by_name : (b : Bool) → same_name x y ≡ b → first_where (same_name x) names ≡ i
        → cond (same_name x y) 0 (suc (first_where (same_name x) names)) ≡ suc i
    by_name false k r = ap (λ b. cond b 0 (suc (first_where (same_name x) names))) k ∙ ap suc r
    by_name true k r =
        absurd (false≢true (sym (not_true (list_any (same_name y) names) (left_true _ _ d))
        ∙ subst (λ z. list_any (same_name z) names ≡ true) (same_names x y k) (any_at names i x e)))

-- a name that is there stands at its first place
name_at_place : (names : List Symbol) (x : Symbol) → list_any (same_name x) names ≡ true
    → item_at names (first_where (same_name x) names) ≡ Some x
name_at_place [] x e = absurd (false≢true e)
name_at_place (y ∷ names) x e = by_name (same_name x y) refl e (name_at_place names x)
  where
    by_name : (b : Bool) → same_name x y ≡ b → (b || list_any (same_name x) names) ≡ true
        → (list_any (same_name x) names ≡ true → item_at names (first_where (same_name x) names) ≡ Some x)
        → item_at (y ∷ names) (cond (same_name x y) 0 (suc (first_where (same_name x) names))) ≡ Some x
    by_name true k f later = ap (λ b. item_at (y ∷ names) (cond b 0 (suc (first_where (same_name x) names)))) k
        ∙ ap Some (sym (same_names x y k))
    by_name false k f later = ap (λ b. item_at (y ∷ names) (cond b 0 (suc (first_where (same_name x) names)))) k ∙ later f

abbrev routine_name : Routine → Symbol
routine_name c = c.name

-- ---- before the first routine

first_state : (bodies : List Symbol) (k : Known) → RightKnown k → k.program.routines ≡ [] → k.headings ≡ [] → k.awaited ≡ []
    → RightState bodies k []
first_state bodies k right routines headings awaited = record {
  known = right;
  headings = record { each = λ x g e. absurd (no_heading x g e) };
  numbers = λ x g e. absurd (no_heading x g e);
  awaited = λ x s e. absurd (nothing_there (sym (ap (λ ss. found (specified_named ss) x) awaited) ∙ e));
  routines = λ i c e. absurd (nothing_there (sym (ap (λ cs. item_at cs i) routines) ∙ e));
  has = λ x g e. absurd (no_heading x g e);
  differ = ap (λ cs. names_differ (map routine_name cs ++ [])) routines;
}
  where
    no_heading : (x : Symbol) (g : Heading) → heading_at k x ≡ Some g → ⊥
    no_heading x g e = nothing_there (sym (ap (λ hs. found (headings_named hs) x) headings) ∙ e)

-- ---- the whole program

module _ (start : KnownNames) (bodies : List Symbol) (k : Known) (state : RightState bodies k []) (all : bodies ≡ routine_names k)
    (none : k.awaited ≡ []) (m : Main) where
  abbrev p : Program
  p = with_main start k.program m

  later : Later k.program p
  later = record { forms = begins_same k.program.forms; types = refl; variables = refl; symbols = refl }

  names_apart : names_differ (routine_names k) ≡ true
  names_apart = ap names_differ (sym (append-nil (routine_names k))) ∙ state.differ

  number_is : (g : Heading) (x : Symbol) → heading_at k x ≡ Some g → g.name ≡ x → g.number.0 ≡ first_where (same_name x) (routine_names k)
  number_is g x e name =
      ap (λ (n : RoutineId). n.0) (state.numbers x g e)
      ∙ (ap (λ y. first_where (same_name y) bodies) name ∙ ap (first_where (same_name x)) all)

  pub final : Final k p
  final = record {
    later = later;
    agree = λ r c g at f.
        let d = state.routines r.0 c at in
        let same : d.heading ≡ g = some_is (sym d.is ∙ f) in
        let name : g.name ≡ c.name = found_name (λ (h : Heading). h.name) k.headings c.name g f in
        let place : g.number.0 ≡ r.0 =
        number_is g c.name f name ∙ place_of_name (routine_names k) r.0 c.name names_apart
        (item_map routine_name k.program.routines r.0 c at) in
        record {
          number = λ i. record { 0 = place i };
          formals = d.formals ∙ ap (λ (h : Heading). h.formals) same;
          result = d.result ∙ ap (λ (h : Heading). h.result) same;
          globals = d.globals ∙ ap (λ (h : Heading). h.globals) same;
        };
    bodies = λ x g f. has_body x g f (state.has x g f);
  }
    where
      has_body : (x : Symbol) (g : Heading) → heading_at k x ≡ Some g → Has k [] x g → HasBody (with_main start k.program m) g
      has_body x g f (still_awaited s is e) = absurd (nothing_there (sym (ap (λ ss. found (specified_named ss) x) none) ∙ e))
      has_body x g f (just_begun e) = absurd (false≢true e)
      has_body x g f (is_done e) =
          let name : g.name ≡ x = found_name (λ (h : Heading). h.name) k.headings x g f in
          let c = item_mapped routine_name k.program.routines (first_where (same_name x) (routine_names k)) x
          (name_at_place (routine_names k) x e) in
          record { routine = c.item; at = ap (item_at k.program.routines) (number_is g x f name) ∙ c.at; name = c.is ∙ sym name }

  -- ---- routines and declarations

  pub routines_right : list_all (routine_ok p) k.program.routines ≡ true
  routines_right = all_at (routine_ok p) k.program.routines (λ i c e. (state.routines i c e).ok p final)

  within : (x : Symbol) (cs : List Routine)
      → ((i : ℕ) (c : Routine) → item_at cs i ≡ Some c → list_any (same_name c.name) (heading_names k.headings) ≡ true)
      → list_any (same_name x) (map routine_name cs) ≡ true → list_any (same_name x) (heading_names k.headings) ≡ true
  within x [] h e = absurd (false≢true e)
  within x (c ∷ cs) h e = by_name (same_name x c.name) refl e (within x cs (λ i d f. h (suc i) d f))
    where
      by_name : (b : Bool) → same_name x c.name ≡ b → (b || list_any (same_name x) (map routine_name cs)) ≡ true
          → (list_any (same_name x) (map routine_name cs) ≡ true → list_any (same_name x) (heading_names k.headings) ≡ true)
          → list_any (same_name x) (heading_names k.headings) ≡ true
      by_name true i f go = subst (λ y. list_any (same_name y) (heading_names k.headings) ≡ true) (sym (same_names x c.name i)) (h 0 c refl)
      by_name false i f go = go f

  routine_heading : (i : ℕ) (c : Routine) → item_at k.program.routines i ≡ Some c
      → list_any (same_name c.name) (heading_names k.headings) ≡ true
  routine_heading i c e =
      let d = state.routines i c e in
      ap (list_any (same_name c.name)) (sym (keys_headings k.headings)) ∙ found_key (headings_named k.headings) c.name d.heading d.is

  all_differ : names_differ (keys k.program.constants
      ++ (keys k.program.types ++ (keys k.program.variables ++ (symbol_names k.program.symbols ++ routine_names k)))) ≡ true
  all_differ =
      let q = k.program in
      let front = keys q.constants ++ (keys q.types ++ (keys q.variables ++ symbol_names q.symbols)) in
      let turn = λ (last : List Symbol). append_assoc (keys q.constants) (keys q.types ++ (keys q.variables ++ symbol_names q.symbols)) last
      ∙ ap (λ l. keys q.constants ++ l) (append_assoc (keys q.types) (keys q.variables ++ symbol_names q.symbols) last
      ∙ ap (λ l. keys q.types ++ l) (append_assoc (keys q.variables) (symbol_names q.symbols) last)) in
      let before : names_differ (front ++ heading_names k.headings) ≡ true =
      ap names_differ (turn (heading_names k.headings)) ∙ state.known.names.differ in
      let away = differ_apart same_name name-refl same_names front (heading_names k.headings) before in
      ap names_differ (sym (turn (routine_names k)))
      ∙ differ_append same_name name-refl same_names front (routine_names k)
      (differ_first same_name name-refl same_names front (heading_names k.headings) before) names_apart
      (record {
        apart = λ x e. by_test (list_any (same_name x) (routine_names k)) (list_any (same_name x) (routine_names k) ≡ false)
            (λ i. absurd (false≢true (sym (away.apart x e) ∙ within x k.program.routines routine_heading i))) (λ i. i);
      })

  -- ---- the main block

  right : RightProgram k.program
  right = state.known.program

  main_names : body_scope p None ≡ with_sorts_of k.program k.program.variables
  main_names = variables_same k.program p right later

  main_range : all_in_range k.program (with_sorts_of k.program k.program.variables) ≡ true
  main_range = sorts_in_range k.program k.program.variables right.forms right.variables

  main_sees : SeesAlike (at_top k) (with_sorts_of k.program k.program.variables)
  main_sees = sees_alike (at_top k) right (plain_none k.program) [] (sees_none k.program)

  pub main_noted : (f : Option formulas.Formula) (a : Option Annotation) → if_there (annotation (at_top k)) f ≡ Ok a
      → annotation_ok p (body_scope p None) a ≡ true
  main_noted f a e =
      ap (λ names. annotation_ok p names a) main_names
      ∙ annotation_later k.program p right later (with_sorts_of k.program k.program.variables) a main_range
      (noted_ok (at_top k) (with_sorts_of k.program k.program.variables) main_sees f a e)

  main_places : (x : Symbol) (t : TypeId) → meaning (at_top k) x ≡ Some (OfPlace t) → name_type (known_program k p) None x ≡ Some t
  main_places x t e = variable_meant (at_top k) right (plain_none k.program) x t e

  pub main_stands : Stands (at_top k) (at_top k) (known_program k p) p None
  main_stands = record {
    names = belongs k p right state.headings final (at_top k) refl (plain_none k.program) None main_places (λ x t e. refl) (λ x t e. refl)
        (λ x h t e this f. absurd (false≢true this)) (λ x h e this. refl);
    noted_names = subst (SeesAlike (at_top k)) (sym main_names) main_sees;
    noted_grows = program_grows k p right state.headings final;
    noted_sorts = λ x s e. found_all (sort_in_range (shapes k.program)) (with_sorts_of k.program k.program.variables) x s main_range
        (ap (λ l. found l x) (sym main_names) ∙ e);
    noted_symbols = λ x d e. right_true (list_all (sort_in_range (shapes k.program)) d.args) _ (symbol_there k.program right x d e);
    grows = known_grows k p right state.headings final None
        (λ x t e. found_all (type_exists k.program.forms) k.program.variables x t right.variables e);
    routines = λ x h e. same_routine k p right state.headings final (at_top k) refl (plain_none k.program) x h e;
    items = λ c test e. items_known k p right state.headings final c test e;
    own = λ x t e. refl;
    counts = λ x t e f. refl;
  }

  pub main_block : (b : tree.Block) (s : Statement) → block_walk (main_setting k) b ≡ Ok s → statement_ok p None s ≡ true
  main_block b s e = statements_are_well_typed (main_setting k) (known_program k p) p None main_stands (λ v h. absurd (false≢true h)) b s e

  pub whole : annotation_ok p (body_scope p None) m.entry ≡ true → annotation_ok p (body_scope p None) m.exit ≡ true
      → statement_ok p None m.body ≡ true → well_typed p ≡ true
  whole entry exit body = both_true (declared_ok start k.program m right all_differ)
      (both_true routines_right (both_true entry (both_true exit body)))

-- ---- whole texts

abbrev main_of : Option Annotation → Option Annotation → Statement → Main
main_of entry exit s = record { entry = entry; exit = exit; body = s }

-- what is known when all routines are read
record AllRead (k : Known) : Type 0 where
  bodies : List Symbol
  state : RightState bodies k []
  all : bodies ≡ routine_names k

all_read : (start : KnownNames) (d : Declarations) (marks : List RoutineMark) (k end : Known)
    → declarations_walk (known_at_first start) d ≡ Ok k → routines_ok 0 marks ≡ true → routines_walk k marks ≡ Ok end → AllRead end
all_read start d marks k end declared ok e =
    let bodies = names_of_bodies marks in
    let right = declarations_right (known_at_first start) k d (first_right start) declared in
    let same = declarations_same (known_at_first start) k d declared in
    let one = went (each (mark_walk bodies) (record { known = k; begun = None }) marks) (λ at. fine at.known) end e in
    let first = first_state bodies k right same.routines same.headings same.awaited in
    let r = marks_right bodies marks (record { known = k; begun = None }) 0 [] one.value (between k first) ok
    (ap (λ cs. map routine_name cs ++ bodies) (sym same.routines)) one.first in
    subst AllRead (same_value one.rest) (record { bodies = bodies; state = r.state; all = r.all })

no_one_waits : (hs : List Specified) (b : Bool) → none_awaited hs ≡ Ok b → hs ≡ []
no_one_waits [] b e = refl
no_one_waits (h ∷ hs) b e = absurd (no_fault e)

pub routines_are_well_typed : RoutinesAreWellTyped
routines_are_well_typed start d marks k all m declared ok e none =
    let r = all_read start d marks k all declared ok e in routines_right start r.bodies all r.state r.all none m

pub programs_are_well_typed : ProgramsAreWellTyped
programs_are_well_typed start text p ok e =
    let made = λ (all : Known) (entry exit : Option Annotation) (s : Statement).
    fine (with_main start all.program (main_of entry exit s)) in
    let last = λ (all : Known) (entry exit : Option Annotation) (none : Bool).
    after (block_walk (main_setting all) text.block) (made all entry exit) in
    let waits = λ (all : Known) (entry exit : Option Annotation). after (none_awaited all.awaited) (last all entry exit) in
    let exits = λ (all : Known) (entry : Option Annotation). after (if_there (annotation (at_top all)) text.exit) (waits all entry) in
    let entries = λ (all : Known). after (if_there (annotation (at_top all)) text.entry) (exits all) in
    let one = went (declarations_walk (known_at_first start) text.declarations) (λ k. after (routines_walk k text.routines) entries) p e in
    let two = went (routines_walk one.value text.routines) entries p one.rest in
    let all = two.value in
    let three = went (if_there (annotation (at_top all)) text.entry) (exits all) p two.rest in
    let four = went (if_there (annotation (at_top all)) text.exit) (waits all three.value) p three.rest in
    let five = went (none_awaited all.awaited) (last all three.value four.value) p four.rest in
    let six = went (block_walk (main_setting all) text.block) (made all three.value four.value) p five.rest in
    let r = all_read start text.declarations text.routines one.value all one.first ok two.first in
    let none = no_one_waits all.awaited five.value five.first in
    let m = main_of three.value four.value six.value in
    subst (λ (q : Program). well_typed q ≡ true) (same_value six.rest)
    (whole start r.bodies all r.state r.all none m (main_noted start r.bodies all r.state r.all none m text.entry three.value three.first)
    (main_noted start r.bodies all r.state r.all none m text.exit four.value four.first)
    (main_block start r.bodies all r.state r.all none m text.block six.value six.first))

pub formula_texts_are_well_typed : FormulaTextsAreWellTyped
formula_texts_are_well_typed start text p e =
    let made = λ (k : Known) (a : Annotation). fine (with_main start k.program (main_of None None (Assert a))) in
    let one = went (declarations_walk (known_at_first start) text.declarations) (λ k. after (annotation (at_top k) text.formula) (made k))
    p e in
    let k = one.value in
    let two = went (annotation (at_top k) text.formula) (made k) p one.rest in
    let right = declarations_right (known_at_first start) k text.declarations (first_right start) one.first in
    let same = declarations_same (known_at_first start) k text.declarations one.first in
    let state = first_state [] k right same.routines same.headings same.awaited in
    let all : [] ≡ routine_names k = ap (map routine_name) (sym same.routines) in
    let m = main_of None None (Assert two.value) in
    subst (λ (q : Program). well_typed q ≡ true) (same_value two.rest)
    (whole start [] k state all same.awaited m refl refl
    (main_noted start [] k state all same.awaited m (Some text.formula) (Some two.value)
    (ap (λ o. after o (λ b. fine (Some b))) two.first)))
