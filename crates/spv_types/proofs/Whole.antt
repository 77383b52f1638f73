-- The parts of a text make the whole.
use Rattle.std.proofs.Common.{◌≡◌, List, Option, None, Ok, Err, refl, sym, ap, ◌∙◌, subst}
use Rattle.spv_tree.specs.declared.syntax.programs.Program.{Program as ProgramText}
use Rattle.spv_tree.specs.declared.syntax.formula_texts.FormulaText.{FormulaText}
use Rattle.spv_program.specs.Formulas.{Annotation}
use Rattle.spv_program.specs.Statements.{Assert}
use Rattle.spv_program.specs.Programs.{Main, Program}
use Rattle.spv_typing.specs.declared.faults.TypeFault.{TypeFault}
use Rattle.spv_typing.specs.declared.faults.TypeFault.TheVariants.{Undeclared, DeclaredTwice, LabelTwice, WrongType, Count, Nested, ProcParameter, ControlChanged, Memory}
use Rattle.spv_typing.specs.Outcomes.{Outcome, after, if_there}
use Rattle.spv_typing.specs.Known.{KnownNames, Known, at_top}
use Rattle.spv_typing.specs.DeclarationWalk.{declarations_walk}
use Rattle.spv_typing.specs.FormulaWalk.{annotation}
use Rattle.spv_typing.specs.StatementWalk.{block_walk}
use Rattle.spv_typing.specs.ProgramWalk.{known_at_first, routines_walk, main_setting, none_awaited, titles_of, with_main, program_walk, formula_text_walk}
use Rattle.std.specs.Prelude.{IsTrue}
use Rattle.spv_logic.proofs.list.Tests.{left_true}
use Rattle.spv_tree.specs.syntax.Reads.{well_formed, routines_ok, block_ok}
use Rattle.spv_program.specs.Typing.{well_typed}
use Rattle.spv_type_soundness.specs.well_typed_programs.Programs.{ProgramsAreWellTyped}
use Rattle.spv_logic.specs.declared.names.names.Symbol.{Symbol}
use Rattle.spv_environments.specs.Answers.{Stops}
use Rattle.spv_environments.specs.Ended.{ended as with_titles}
use Rattle.spv_types.specs.Walks.{main_walk, Parts, parts_walk, formula_parts_walk}

-- ---- a fault of a step is that of the whole

stops_after : {A B : Type 0} (e : TypeFault) (o : Outcome A) (next : A → Outcome B) → Stops e o → Stops e (after o next)
stops_after Memory o next h = h
stops_after (Undeclared line x) o next h = ap (λ w. after w next) h
stops_after (DeclaredTwice line x) o next h = ap (λ w. after w next) h
stops_after (LabelTwice line z) o next h = ap (λ w. after w next) h
stops_after (WrongType line) o next h = ap (λ w. after w next) h
stops_after (Count line) o next h = ap (λ w. after w next) h
stops_after (Nested line x) o next h = ap (λ w. after w next) h
stops_after (ProcParameter line x) o next h = ap (λ w. after w next) h
stops_after (ControlChanged line x) o next h = ap (λ w. after w next) h

-- ---- the main block

-- four steps one behind the other, grouped in two ways
four : {A B C D E : Type 0} (a : Outcome A) (b : Outcome B) (c : Outcome C) (d : Outcome D) (made : A → B → D → E) {F : Type 0} (next : E → Outcome F)
    → after a (λ x. after b (λ y. after c (λ z. after d (λ w. next (made x y w))))) ≡ after (after a (λ x. after b (λ y. after c (λ z. after d (λ w. Ok (made x y w)))))) next
four (Ok x) (Ok y) (Ok z) (Ok w) made next = refl
four (Ok x) (Ok y) (Ok z) (Err e) made next = refl
four (Ok x) (Ok y) (Err e) d made next = refl
four (Ok x) (Err e) c d made next = refl
four (Err e) b c d made next = refl

module _ (tree : ProgramText) where
  module _ (k : Known) where
    pub parts_stop_at_declarations : (e : TypeFault) → Stops e (declarations_walk k tree.declarations) → Stops e (parts_walk k tree)
    parts_stop_at_declarations e h = stops_after e (declarations_walk k tree.declarations) _ h

    module _ (declared : Known) (first : declarations_walk k tree.declarations ≡ Ok declared) where
      from_routines : parts_walk k tree ≡ after (routines_walk declared tree.routines) (λ all. after (main_walk all tree) (λ main. Ok (record { known = all; main = main })))
      from_routines = ap (λ o. after o (λ declared. after (routines_walk declared tree.routines) (λ all. after (main_walk all tree) (λ main. Ok (record { known = all; main = main }))))) first

      pub parts_stop_at_routines : (e : TypeFault) → Stops e (routines_walk declared tree.routines) → Stops e (parts_walk k tree)
      parts_stop_at_routines e h = subst (Stops e) (sym from_routines) (stops_after e (routines_walk declared tree.routines) _ h)

      module _ (all : Known) (row : routines_walk declared tree.routines ≡ Ok all) where
        from_main : parts_walk k tree ≡ after (main_walk all tree) (λ main. Ok (record { known = all; main = main }))
        from_main = from_routines ∙ ap (λ o. after o (λ all. after (main_walk all tree) (λ main. Ok (record { known = all; main = main })))) row

        pub parts_stop_at_main : (e : TypeFault) → Stops e (main_walk all tree) → Stops e (parts_walk k tree)
        parts_stop_at_main e h = subst (Stops e) (sym from_main) (stops_after e (main_walk all tree) _ h)

        pub parts_made : (m : Main) → main_walk all tree ≡ Ok m → parts_walk k tree ≡ Ok (record { known = all; main = m })
        parts_made m block = from_main ∙ ap (λ o. after o (λ main. Ok (record { known = all; main = main }))) block

  module _ (start : KnownNames) where
    abbrev behind : Known → Outcome Program
    behind all =
        after (if_there (annotation (at_top all)) tree.entry) (λ entry.
        after (if_there (annotation (at_top all)) tree.exit) (λ exit.
        after (none_awaited all.awaited) (λ none.
        after (block_walk (main_setting all) tree.block) (λ body.
        Ok (with_main start all.program (record { entry = entry; exit = exit; body = body }))))))

    abbrev ended : Parts → Outcome Program
    ended r = Ok (with_main start r.known.program r.main)

    grouped : (all : Known) → behind all ≡ after (after (main_walk all tree) (λ main. Ok (record { known = all; main = main }))) ended
    grouped all =
        four (if_there (annotation (at_top all)) tree.entry) (if_there (annotation (at_top all)) tree.exit) (none_awaited all.awaited) (block_walk (main_setting all) tree.block)
        (λ entry exit body. record { entry = entry; exit = exit; body = body }) (λ m. Ok (with_main start all.program m))
        ∙ one_more (main_walk all tree)
      where
        one_more : (o : Outcome Main) → after o (λ m. Ok (with_main start all.program m)) ≡ after (after o (λ main. Ok (record { known = all; main = main }))) ended
        one_more (Ok m) = refl
        one_more (Err e) = refl

    by_routines : (o : Outcome Known) → after o behind ≡ after (after o (λ all. after (main_walk all tree) (λ main. Ok (record { known = all; main = main })))) ended
    by_routines (Ok all) = grouped all
    by_routines (Err e) = refl

    in_parts : (o : Outcome Known) → after o (λ k. after (routines_walk k tree.routines) behind)
        ≡ after (after o (λ declared. after (routines_walk declared tree.routines) (λ all. after (main_walk all tree) (λ main. Ok (record { known = all; main = main }))))) ended
    in_parts (Ok k) = by_routines (routines_walk k tree.routines)
    in_parts (Err e) = refl

    by_parts : program_walk start tree ≡ after (parts_walk (known_at_first start) tree) ended
    by_parts = in_parts (declarations_walk (known_at_first start) tree.declarations)

    pub program_stops : (first : Known) (e : TypeFault) → first ≡ known_at_first start → Stops e (parts_walk first tree) → Stops e (program_walk start tree)
    program_stops first e is h =
        subst (Stops e) (sym by_parts) (stops_after e (parts_walk (known_at_first start) tree) ended (subst (λ (k : Known). Stops e (parts_walk k tree)) is h))

    pub program_made : (first all : Known) (m : Main) (p : Program) → first ≡ known_at_first start → parts_walk first tree ≡ Ok (record { known = all; main = m })
        → (titles : List (Option Symbol)) → titles ≡ titles_of start all.program → p ≡ with_titles all.program titles m → program_walk start tree ≡ Ok p
    program_made first all m p is made titles titled ends =
        by_parts ∙ (ap (λ o. after o ended) (ap (λ (k : Known). parts_walk k tree) (sym is) ∙ made)
        ∙ ap Ok (ap (λ (l : List (Option Symbol)). with_titles all.program l m) (sym titled) ∙ sym ends))

-- ---- formula texts

abbrev asserting : Known → Annotation → Parts
asserting declared a = record { known = declared; main = record { entry = None; exit = None; body = Assert a } }

module _ (tree : FormulaText) where
  module _ (k : Known) where
    pub formula_parts_stop_at_declarations : (e : TypeFault) → Stops e (declarations_walk k tree.declarations) → Stops e (formula_parts_walk k tree)
    formula_parts_stop_at_declarations e h = stops_after e (declarations_walk k tree.declarations) _ h

    module _ (declared : Known) (first : declarations_walk k tree.declarations ≡ Ok declared) where
      from_formula : formula_parts_walk k tree ≡ after (annotation (at_top declared) tree.formula) (λ a. Ok (asserting declared a))
      from_formula = ap (λ o. after o (λ declared. after (annotation (at_top declared) tree.formula) (λ a. Ok (asserting declared a)))) first

      pub formula_parts_stop : (e : TypeFault) → Stops e (annotation (at_top declared) tree.formula) → Stops e (formula_parts_walk k tree)
      formula_parts_stop e h = subst (Stops e) (sym from_formula) (stops_after e (annotation (at_top declared) tree.formula) _ h)

      pub formula_parts_made : (a : Annotation) (m : Main) → annotation (at_top declared) tree.formula ≡ Ok a → m ≡ record { entry = None; exit = None; body = Assert a }
          → formula_parts_walk k tree ≡ Ok (record { known = declared; main = m })
      formula_parts_made a m read main =
          from_formula ∙ (ap (λ o. after o (λ a. Ok (asserting declared a))) read ∙ ap (λ (m : Main). Ok (record { known = declared; main = m })) (sym main))

  module _ (start : KnownNames) where
    abbrev formula_ended : Parts → Outcome Program
    formula_ended r = Ok (with_main start r.known.program r.main)

    abbrev asserted : Known → Outcome Program
    asserted k = after (annotation (at_top k) tree.formula) (λ a. Ok (with_main start k.program (record { entry = None; exit = None; body = Assert a })))

    by_formula : (k : Known) (o : Outcome Annotation) → after o (λ a. Ok (with_main start k.program (record { entry = None; exit = None; body = Assert a })))
        ≡ after (after o (λ a. Ok (asserting k a))) formula_ended
    by_formula k (Ok a) = refl
    by_formula k (Err e) = refl

    in_formula_parts : (o : Outcome Known) → after o asserted ≡ after (after o (λ declared. after (annotation (at_top declared) tree.formula) (λ a. Ok (asserting declared a)))) formula_ended
    in_formula_parts (Ok k) = by_formula k (annotation (at_top k) tree.formula)
    in_formula_parts (Err e) = refl

    by_formula_parts : formula_text_walk start tree ≡ after (formula_parts_walk (known_at_first start) tree) formula_ended
    by_formula_parts = in_formula_parts (declarations_walk (known_at_first start) tree.declarations)

    pub formula_program_stops : (first : Known) (e : TypeFault) → first ≡ known_at_first start → Stops e (formula_parts_walk first tree) → Stops e (formula_text_walk start tree)
    formula_program_stops first e is h =
        subst (Stops e) (sym by_formula_parts)
        (stops_after e (formula_parts_walk (known_at_first start) tree) formula_ended (subst (λ (k : Known). Stops e (formula_parts_walk k tree)) is h))

    pub formula_program_made : (first all : Known) (m : Main) (p : Program) → first ≡ known_at_first start
        → formula_parts_walk first tree ≡ Ok (record { known = all; main = m })
        → (titles : List (Option Symbol)) → titles ≡ titles_of start all.program → p ≡ with_titles all.program titles m → formula_text_walk start tree ≡ Ok p
    formula_program_made first all m p is made titles titled ends =
        by_formula_parts ∙ (ap (λ o. after o formula_ended) (ap (λ (k : Known). formula_parts_walk k tree) (sym is) ∙ made)
        ∙ ap Ok (ap (λ (l : List (Option Symbol)). with_titles all.program l m) (sym titled) ∙ sym ends))

-- what the walk answers for a well formed tree is well typed
pub is_well_typed : (start : KnownNames) (tree : ProgramText) (p : Program) → ProgramsAreWellTyped → IsTrue (well_formed tree) → program_walk start tree ≡ Ok p → IsTrue (well_typed p)
is_well_typed start tree p law formed answered = law start tree p (left_true (routines_ok 0 tree.routines) (block_ok tree.block) formed) answered
