-- Programs and formula texts come from their trees.
use Rattle.std.proofs.Common.{◌≡◌, Bool, true, List, [], ◌∷◌, ◌++◌, map, Option, None, refl, sym, ap, ◌∙◌, subst}
use Rattle.std.specs.Prelude.{Ok}
use Rattle.std.proofs.lemmas.Bool.{false≢true}
use Rattle.spv_logic.proofs.list.Tests.{left_true}
use Rattle.spv_logic.specs.declared.names.names.Symbol.{Symbol}
use Rattle.spv_tree.specs.declared.syntax.programs.Program.{Program as ProgramText}
use Rattle.spv_tree.specs.declared.syntax.formula_texts.FormulaText.{FormulaText}
use Rattle.spv_tree.specs.declared.syntax.declarations.Declarations.{Declarations}
use Rattle.spv_tree.specs.declared.syntax.routines.RoutineMark.{RoutineMark}
use Rattle.spv_tree.specs.syntax.Reads.{well_formed, routines_ok, block_ok}
use Rattle.spv_program.specs.Formulas.{Annotation}
use Rattle.spv_program.specs.Statements.{Statement, Assert}
use Rattle.spv_program.specs.Programs.{Routine, Main, Program}
use Rattle.spv_typing.specs.Outcomes.{after, each, if_there}
use Rattle.spv_typing.specs.Known.{KnownNames, Heading, Specified, Known}
use Rattle.spv_typing.specs.Known as walk
use Rattle.spv_typing.specs.DeclarationWalk.{declarations_walk}
use Rattle.spv_typing.specs.FormulaWalk.{annotation}
use Rattle.spv_typing.specs.StatementWalk.{block_walk}
use Rattle.spv_typing.specs.ProgramWalk.{Progress, names_of_bodies, mark_walk, routines_walk, known_at_first, none_awaited, with_main, main_setting, program_walk, formula_text_walk}
use Rattle.spv_type_soundness.proofs.well_typed.Outcomes.{fine, no_fault, same_value, went}
use Rattle.spv_type_soundness.specs.faithfulness.Names.{at_top}
use Rattle.spv_type_soundness.specs.faithfulness.Programs.{ProgramFrom, FormulaTextFrom}
use Rattle.spv_type_soundness.specs.faithfulness.Laws.{ProgramsComeFromTheirTrees, FormulaTextsComeFromTheirTrees}
use Rattle.spv_type_soundness.proofs.faithfulness.Scopes.{In, no_own}
use Rattle.spv_type_soundness.proofs.faithfulness.Seeing.{KnowsNames, sees, sees_places}
use Rattle.spv_type_soundness.proofs.faithfulness.Annotations.{annotations_come}
use Rattle.spv_type_soundness.proofs.faithfulness.Statements.{blocks_come}
use Rattle.spv_type_soundness.proofs.faithfulness.NewTypes.{Keeps, keeps_same, keeps_on}
use Rattle.spv_type_soundness.proofs.faithfulness.Declared.{Declared, declared}
use Rattle.spv_type_soundness.proofs.faithfulness.Headings.{noted_come}
use Rattle.spv_type_soundness.proofs.faithfulness.Bodies.{Ready, Later, is_among, AllAmong, knows_later, knows_all}
use Rattle.spv_type_soundness.proofs.faithfulness.Marks.{Waits, none_waits, AwaitedAt, has_body, still_waits, HeadingAt, before, behind, MarksDone, marks_done}

abbrev main_of : Option Annotation → Option Annotation → Statement → Main
main_of entry exit body = record { entry = entry; exit = exit; body = body }

abbrev known_of : Progress → Known
known_of at = at.known

keeps_at : {start : KnownNames} {d : Declarations} {k : Known} (h : Declared start d k) → Keeps h.forms k.program.forms
keeps_at h = subst (λ (q : Known). Keeps h.forms q.program.forms) h.is (keeps_same h.forms)

keeps_declared : {start : KnownNames} {d : Declarations} {k : Known} (h : Declared start d k) (next : Known) → Later k next
    → Keeps h.forms next.program.forms
keeps_declared {start} {d} {k} h next later = keeps_on h.forms k.program.forms next.program.forms (keeps_at h) later.keeps

module _ (start : KnownNames) where
  -- where declarations alone are known all is right
  ready_declared : (d : Declarations) (k : Known) (bodies : List Symbol) → Declared start d k → Ready start bodies k
  ready_declared d k bodies h =
      subst (Ready start bodies) h.is
      (record {
        starts = refl;
        right = h.right;
        first = h.first;
        there = h.there;
        numbers = λ g i. elim i [ ];
        plain = λ g t i. elim i [ ];
      })

  none_left : (hs : List Specified) (b : Bool) → none_awaited hs ≡ Ok b → hs ≡ []
  none_left [] b e = refl
  none_left (h ∷ hs) b e = absurd (no_fault e)

  -- each heading is that of a routine with a body, where none waits
  all_among : (d : Declarations) (k all : Known) (marks : List RoutineMark) → Declared start d k → all.awaited ≡ []
      → MarksDone start (names_of_bodies marks) k marks all → AllAmong (names_of_bodies marks) all
  all_among d k all marks declared_first empty done = record { among = λ h i. by_place h (done.headings_covered h i) }
    where
      by_awaited : (h : Heading) → AwaitedAt all (names_of_bodies marks) h → is_among (names_of_bodies marks) h.name ≡ true
      by_awaited h (has_body e) = e
      by_awaited h (still_waits q i same) = elim (subst (λ hs. In hs q) empty i) [ ]

      by_place : (h : Heading) → HeadingAt k all (names_of_bodies marks) h → is_among (names_of_bodies marks) h.name ≡ true
      by_place h (before i) = elim (subst (λ (q : Known). In q.headings h) (sym declared_first.is) i) [ ]
      by_place h (behind j) = by_awaited h j

  program_come : (t : ProgramText) (p : Program) → well_formed t ≡ true → program_walk start t ≡ Ok p → ProgramFrom start p t
  program_come t p formed e =
      let bodies = names_of_bodies t.routines in
      let result = λ (all : Known) (entry exit : Option Annotation) (body : Statement). with_main start all.program
      (main_of entry exit body) in
      let six = λ (all : Known) (entry exit : Option Annotation). after (block_walk (main_setting all) t.block)
      (λ body. fine (result all entry exit body)) in
      let five = λ (all : Known) (entry exit : Option Annotation). after (none_awaited all.awaited) (λ none. six all entry exit) in
      let four = λ (all : Known) (entry : Option Annotation). after (if_there (annotation (walk.at_top all)) t.exit) (five all entry) in
      let three = λ (all : Known). after (if_there (annotation (walk.at_top all)) t.entry) (four all) in
      let d = went (declarations_walk (known_at_first start) t.declarations) (λ k. after (routines_walk k t.routines) three) p e in
      let r = went (routines_walk d.value t.routines) three p d.rest in
      let at = went (each (mark_walk bodies) (record { known = d.value; begun = None }) t.routines) (λ at. fine (known_of at)) r.value
      r.first in
      let all = r.value in
      let entry = went (if_there (annotation (walk.at_top all)) t.entry) (four all) p r.rest in
      let exit = went (if_there (annotation (walk.at_top all)) t.exit) (five all entry.value) p entry.rest in
      let none = went (none_awaited all.awaited) (λ none. six all entry.value exit.value) p exit.rest in
      let body = went (block_walk (main_setting all) t.block) (λ body. fine (result all entry.value exit.value body)) p none.rest in
      let final = result all entry.value exit.value body.value in
      let declared_first = declared start t.declarations d.value d.first in
      let ready = ready_declared t.declarations d.value bodies declared_first in
      let done : MarksDone start bodies d.value t.routines all = subst (MarksDone start bodies d.value t.routines) (same_value at.rest)
      (marks_done start bodies t.routines d.value at.value ready (left_true (routines_ok 0 t.routines) (block_ok t.block) formed)
      at.first) in
      let start_known : KnowsNames d.value start final = record {
        start_is = ready.starts;
        constants_are = sym (done.later).constants_are;
        types_are = sym (done.later).types_are;
        variables_are = sym (done.later).variables_are;
        symbols_are = sym (done.later).symbols_are;
      } in
      let known = knows_later start final d.value all done.later start_known in
      let routines_are : done.routines ≡ all.program.routines = ap (λ (k : Known). k.program.routines ++ done.routines) declared_first.is
      ∙ done.routines_are in
      let names_are : map (λ (q : Routine). q.name) all.program.routines ≡ bodies = ap (λ rs. map (λ (q : Routine). q.name) rs)
      (sym routines_are) ∙ done.names_are in
      let empty = none_left all.awaited none.value none.first in
      let among = all_among t.declarations d.value all t.routines declared_first empty done in
      let right = knows_all start bodies all final done.ready known names_are among in
      let waits : Waits start final (d.value).awaited [] = subst (λ (k : Known). Waits start final k.awaited []) declared_first.is
      none_waits in
      let keeps = keeps_same all.program.forms in
      subst (λ (q : Program). ProgramFrom start q t) (same_value body.rest)
      (record {
        titles = refl;
        declarations = declared_first.from final (keeps_declared declared_first all done.later)
            (ap (λ (k : Known). k.program.constants) declared_first.is ∙ start_known.constants_are)
            (ap (λ (k : Known). k.program.types) declared_first.is ∙ start_known.types_are)
            (ap (λ (k : Known). k.program.variables) declared_first.is ∙ start_known.variables_are)
            (ap (λ (k : Known). k.program.symbols) declared_first.is ∙ start_known.symbols_are);
        routines = subst (λ rs. Rattle.spv_type_soundness.specs.faithfulness.Routines.RoutinesFrom start final [] t.routines rs) routines_are
            (done.from final start_known keeps names_are among [] waits empty);
        entry = noted_come start final all known [] [] no_own t.entry entry.value entry.first;
        exit = noted_come start final all known [] [] no_own t.exit exit.value exit.first;
        body = blocks_come (main_setting all) (at_top start final) (at_top start final)
            (sees_places all [] [] no_own None start final None right (λ h k. absurd (false≢true k)))
            (sees all [] [] no_own None start final None known) t.block body.value body.first;
      })

  formula_text_come : (t : FormulaText) (p : Program) → formula_text_walk start t ≡ Ok p → FormulaTextFrom start p t
  formula_text_come t p e =
      let result = λ (k : Known) (a : Annotation). with_main start k.program (main_of None None (Assert a)) in
      let d = went (declarations_walk (known_at_first start) t.declarations)
      (λ k. after (annotation (walk.at_top k) t.formula) (λ a. fine (result k a))) p e in
      let a = went (annotation (walk.at_top d.value) t.formula) (λ a. fine (result d.value a)) p d.rest in
      let k = d.value in
      let final = result k a.value in
      let declared_first = declared start t.declarations k d.first in
      let ready = ready_declared t.declarations k [] declared_first in
      let known : KnowsNames k start final = record {
        start_is = ready.starts;
        constants_are = refl;
        types_are = refl;
        variables_are = refl;
        symbols_are = refl;
      } in
      subst (λ (q : Program). FormulaTextFrom start q t) (same_value a.rest)
      (record {
        annotation = a.value;
        titles = refl;
        declarations = declared_first.from final (keeps_at declared_first)
            (ap (λ (q : Known). q.program.constants) declared_first.is) (ap (λ (q : Known). q.program.types) declared_first.is)
            (ap (λ (q : Known). q.program.variables) declared_first.is) (ap (λ (q : Known). q.program.symbols) declared_first.is);
        no_routines = ap (λ (q : Known). q.program.routines) (sym declared_first.is);
        no_entry = refl;
        no_exit = refl;
        is = refl;
        formula = annotations_come (walk.at_top k) (at_top start final) (sees k [] [] no_own None start final None known) t.formula
            a.value a.first;
      })

pub programs_come : ProgramsComeFromTheirTrees
programs_come start t p formed e = program_come start t p formed e

pub formula_texts_come : FormulaTextsComeFromTheirTrees
formula_texts_come start t p e = formula_text_come start t p e
