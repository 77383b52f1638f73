-- The programs of texts.
use Rattle.std.proofs.Common.{◌≡◌, Bool, true, false, cond, not, List, [], ◌∷◌, ◌++◌, map, Option, Some, None, sym, ap, ◌∙◌, subst}
use Rattle.std.specs.Prelude.{⊤, Ok}
use Rattle.std.specs.List.{list_all, list_any}
use Rattle.spv_logic.proofs.list.Tests.{left_true, right_true, left_false, right_false}
use Rattle.spv_logic.specs.declared.names.names.Symbol.{Symbol}
use Rattle.spv_logic.specs.declared.types.Decl.{Decl}
use Rattle.spv_logic.specs.Sorts.{declared}
use Rattle.spv_tree.specs.declared.syntax.declarations.Declarations.{Declarations}
use Rattle.spv_tree.specs.declared.syntax.routines.RoutineMark.{RoutineMark}
use Rattle.spv_tree.specs.declared.syntax.programs.Program.{Program as ProgramText}
use Rattle.spv_tree.specs.declared.syntax.formula_texts.FormulaText.{FormulaText}
use Rattle.spv_tree.specs.syntax.Reads.{routines_ok}
use Rattle.spv_program.specs.Lists.{same_name, found, item_at, names_differ}
use Rattle.spv_program.specs.Types.{forms_ok}
use Rattle.spv_program.specs.Formulas.{Annotation}
use Rattle.spv_program.specs.Statements.{Statement, Assert}
use Rattle.spv_program.specs.Programs.{Routine, Main, Program}
use Rattle.spv_program.specs.Typing.{well_typed, declarations_ok, types_exist, symbol_ok}
use Rattle.spv_program.proofs.SortFacts.{nothing_there}
use Rattle.spv_typing.specs.Outcomes.{after, each, if_there}
use Rattle.spv_typing.specs.Known.{KnownNames, Heading, Known, at_top}
use Rattle.spv_typing.specs.DeclarationWalk.{declarations_walk}
use Rattle.spv_typing.specs.FormulaWalk.{annotation}
use Rattle.spv_typing.specs.StatementWalk.{block_walk}
use Rattle.spv_typing.specs.ProgramWalk.{known_at_first, names_of_bodies, mark_walk, routines_walk, main_setting, none_awaited, with_main, program_walk, formula_text_walk}
use Rattle.spv_type_soundness.proofs.well_typed.Outcomes.{fine, same_value, went}
use Rattle.spv_type_soundness.proofs.well_typed_programs.Differ.{not_true, name-refl, same_names, differ_first, differ_rest}
use Rattle.spv_type_soundness.proofs.well_typed_programs.Naming.{headings_named}
use Rattle.spv_type_soundness.proofs.well_typed_programs.Declaring.{RightProgram, RightKnown, declarations_right}
use Rattle.spv_type_soundness.proofs.well_typed_programs.Declared.{declarations_same, first_right}
use Rattle.spv_type_soundness.proofs.well_typed_programs.States.{RightState, heading_at, specified_named}
use Rattle.spv_type_soundness.proofs.well_typed_programs.Marks.{between, marks_right}

-- ---- what is right of the program of a text

first_state : (bodies : List Symbol) (k : Known) → RightKnown k → k.program.routines ≡ [] → k.headings ≡ [] → k.awaited ≡ []
    → RightState bodies k []
first_state bodies k right routines headings awaited = record {
  known = right;
  headings = record { each = λ x g e. absurd (no_heading x g e) };
  numbers = λ x g e. absurd (no_heading x g e);
  awaited = λ x s e. absurd (nothing_there (sym (ap (λ ss. found (specified_named ss) x) awaited) ∙ e));
  routines = λ i c e. absurd (nothing_there (sym (ap (λ cs. item_at cs i) routines) ∙ e));
  has = λ x g e. absurd (no_heading x g e);
  differ = ap (λ cs. names_differ (map routine_name cs ++ [])) routines;
}
  where
    routine_name : Routine → Symbol
    routine_name c = c.name

    no_heading : (x : Symbol) (g : Heading) → heading_at k x ≡ Some g → ⊥
    no_heading x g e = nothing_there (sym (ap (λ hs. found (headings_named hs) x) headings) ∙ e)

right_known : (first : KnownNames) (d : Declarations) (marks : List RoutineMark) (k end : Known) → declarations_walk (known_at_first first) d ≡ Ok k
    → routines_ok 0 marks ≡ true → routines_walk k marks ≡ Ok end → RightProgram end.program
right_known first d marks k end declared ok e =
    let bodies = names_of_bodies marks in
    let right = declarations_right (known_at_first first) k d (first_right first) declared in
    let same = declarations_same (known_at_first first) k d declared in
    let one = went (each (mark_walk bodies) (record { known = k; begun = None }) marks) (λ at. fine at.known) end e in
    let state = first_state bodies k right same.routines same.headings same.awaited in
    let r = marks_right bodies marks (record { known = k; begun = None }) 0 [] one.value (between k state) ok
    (ap (λ cs. map routine_name cs ++ bodies) (sym same.routines)) one.first in
    subst (λ (l : Known). RightProgram l.program) (same_value one.rest) r.state.known.program
  where
    routine_name : Routine → Symbol
    routine_name c = c.name

with_main_right : (first : KnownNames) (q : Program) (m : Main) → RightProgram q → RightProgram (with_main first q m)
with_main_right first q m r = record { forms = r.forms; types = r.types; variables = r.variables; symbols = r.symbols }

pub right_program : (first : KnownNames) (text : ProgramText) (p : Program) → routines_ok 0 text.routines ≡ true → program_walk first text ≡ Ok p
    → RightProgram p
right_program first text p ok e =
    let made = λ (all : Known) (entry exit : Option Annotation) (s : Statement). fine (with_main first all.program (record { entry = entry; exit = exit; body = s })) in
    let last = λ (all : Known) (entry exit : Option Annotation) (none : Bool). after (block_walk (main_setting all) text.block) (made all entry exit) in
    let waits = λ (all : Known) (entry exit : Option Annotation). after (none_awaited all.awaited) (last all entry exit) in
    let exits = λ (all : Known) (entry : Option Annotation). after (if_there (annotation (at_top all)) text.exit) (waits all entry) in
    let entries = λ (all : Known). after (if_there (annotation (at_top all)) text.entry) (exits all) in
    let one = went (declarations_walk (known_at_first first) text.declarations) (λ k. after (routines_walk k text.routines) entries) p e in
    let two = went (routines_walk one.value text.routines) entries p one.rest in
    let all = two.value in
    let three = went (if_there (annotation (at_top all)) text.entry) (exits all) p two.rest in
    let four = went (if_there (annotation (at_top all)) text.exit) (waits all three.value) p three.rest in
    let five = went (none_awaited all.awaited) (last all three.value four.value) p four.rest in
    let six = went (block_walk (main_setting all) text.block) (made all three.value four.value) p five.rest in
    subst RightProgram (same_value six.rest)
    (with_main_right first all.program (record { entry = three.value; exit = four.value; body = six.value })
    (right_known first text.declarations text.routines one.value all one.first ok two.first))

pub right_formula_program : (first : KnownNames) (text : FormulaText) (p : Program) → formula_text_walk first text ≡ Ok p → RightProgram p
right_formula_program first text p e =
    let made = λ (k : Known) (a : Annotation). fine (with_main first k.program (record { entry = None; exit = None; body = Assert a })) in
    let one = went (declarations_walk (known_at_first first) text.declarations) (λ k. after (annotation (at_top k) text.formula) (made k)) p e in
    let two = went (annotation (at_top one.value) text.formula) (made one.value) p one.rest in
    subst RightProgram (same_value two.rest)
    (with_main_right first one.value.program (record { entry = None; exit = None; body = Assert two.value })
    (declarations_right (known_at_first first) one.value text.declarations (first_right first) one.first).program)

-- ---- each symbol stands under its name

abbrev pub Declared : List Decl → List Decl → Type 0
Declared all [] = ⊤
Declared all (d ∷ ds) = (declared all d.name.0 ≡ Some d) × Declared all ds

abbrev symbol_names : List Decl → List Symbol
symbol_names ds = map (λ (d : Decl). d.name) ds

one_before : (d : Decl) (all ds : List Decl) → list_any (same_name d.name) (symbol_names ds) ≡ false → Declared all ds → Declared (d ∷ all) ds
one_before d all [] apart h = tt
one_before d all (e ∷ ds) apart h = (
  ap (λ b. cond b (Some d) (declared all e.name.0)) (left_false (same_name d.name e.name) _ apart) ∙ h.0,
  one_before d all ds (right_false (same_name d.name e.name) _ apart) h.1,
)

pub each_declared : (ds : List Decl) → names_differ (symbol_names ds) ≡ true → Declared ds ds
each_declared [] h = tt
each_declared (d ∷ ds) h = (
  ap (λ b. cond b (Some d) (declared ds d.name.0)) (name-refl d.name),
  one_before d ds ds (not_true _ (left_true _ _ h)) (each_declared ds (right_true (not (list_any (same_name d.name) (symbol_names ds))) _ h)),
)

pub symbols_declared : (p : Program) → well_typed p ≡ true → Declared p.symbols p.symbols
symbols_declared p h =
    let ok = left_true (declarations_ok p) _ h in
    let one = right_true (forms_ok p.forms) _ ok in
    let two = right_true _ _ one in
    let three = right_true (types_exist p p.types) _ two in
    let four = right_true (types_exist p p.variables) _ three in
    let names = right_true (list_all (symbol_ok p) p.symbols) _ four in
    each_declared p.symbols
    (differ_first same_name name-refl same_names (symbol_names p.symbols) (map (λ (r : Routine). r.name) p.routines)
    (differ_rest same_name name-refl same_names (map (λ n. n.0) p.variables) _ (differ_rest same_name name-refl same_names (map (λ n. n.0) p.types) _ (differ_rest same_name name-refl same_names (map (λ n. n.0) p.constants) _ names))))
