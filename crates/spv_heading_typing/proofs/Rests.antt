-- Clauses behind a heading's parameters and result.
use Rattle.std.proofs.Common.{◌≡◌, List, ◌++◌, Option, None, Ok, Err, refl, sym, ap, subst, ◌∙◌}
use Rattle.spv_logic.specs.declared.types.TypeId.{TypeId}
use Rattle.spv_tree.specs.declared.syntax.routines.Clauses.{Clauses as ClausesText}
use Rattle.spv_program.specs.declared.typed.programs.Formal.{Formal as FormalText}
use Rattle.spv_typing.specs.declared.faults.TypeFault.{TypeFault}
use Rattle.spv_typing.specs.Known.{Known}
use Rattle.spv_typing.specs.Outcomes.{Outcome, after, if_there}
use Rattle.spv_typing.specs.FormulaWalk.{annotation}
use Rattle.spv_typing.specs.RoutineWalk as spec
use Rattle.spv_environments.specs.Answers.{Stops}
use Rattle.spv_formula_typing.proofs.Exits.{stops_after}
use Rattle.spv_heading_typing.specs.declared.parameters.Parameters.{Parameters}
use Rattle.spv_heading_typing.specs.declared.headings.Title.{Title}
use Rattle.spv_heading_typing.specs.Parameters.{parameters_of}
use Rattle.spv_heading_typing.specs.Clauses.{Said, clauses_in}
use Rattle.spv_heading_typing.specs.Headings.{announced, headed_with, rest_walk}

-- what comes behind a step may be grouped otherwise
nested : {A B C : Type 0} (o : Outcome A) (one : A → Outcome C) (two : A → Outcome B) (next : B → Outcome C) → ((x : A) → one x ≡ after (two x) next) → after o one ≡ after (after o two) next
nested (Ok x) one two next h = h x
nested (Err e) one two next h = refl

nested_twice : {A B C D : Type 0} (o : Outcome A) (one : A → Outcome D) (two : A → Outcome B) (three : B → Outcome C) (next : C → Outcome D)
    → ((x : A) → one x ≡ after (after (two x) three) next) → after o one ≡ after (after (after o two) three) next
nested_twice (Ok x) one two three next h = h x
nested_twice (Err e) one two three next h = refl

last : {A B C D : Type 0} (o : Outcome A) (made : A → D) (pair : A → B) (said : B → C) (next : C → Outcome D)
    → ((x : A) → Ok (made x) ≡ next (said (pair x))) → after o (λ x. Ok (made x)) ≡ after (after (after o (λ x. Ok (pair x))) (λ p. Ok (said p))) next
last (Ok x) made pair said next h = h x
last (Err e) made pair said next h = refl

module _ (inner : Known) (t : Title) (ps : Parameters) (of : Option TypeId) (c : ClausesText) where
  clauses_same : spec.clauses_walk inner t.name t.line t.is_function t.number (parameters_of ps) of c
      ≡ after (clauses_in inner t.name ps of c) (λ said. Ok (headed_with t (parameters_of ps).formals of said))
  clauses_same =
      nested (spec.globals_walk inner (parameters_of ps).own c.globals) _ _ (λ said. Ok (headed_with t (parameters_of ps).formals of said)) (λ globals.
      nested (spec.initial_walk inner t.name (parameters_of ps).formals globals (parameters_of ps).own c.initial) _ _ (λ said. Ok (headed_with t (parameters_of ps).formals of said)) (λ starts.
      nested_twice (if_there (annotation (spec.in_routine inner (parameters_of ps).own None)) c.entry) _ _ _ (λ said. Ok (headed_with t (parameters_of ps).formals of said)) (λ entry.
      last (if_there (annotation (spec.in_routine inner ((parameters_of ps).own ++ (spec.result_names t.name of ++ starts.own)) None)) c.exit) _ (λ exit. (entry, exit)) _ (λ said. Ok (headed_with t (parameters_of ps).formals of said)) (λ exit. refl))))

module _ (k inner : Known) (t : Title) (ps : Parameters) (of : Option TypeId) (c : ClausesText) (formals : List FormalText) (copied : formals ≡ ps.formals)
    (is : inner ≡ spec.with_heading k (announced t formals of)) where
  rest_is : rest_walk k t (parameters_of ps) of c ≡ after (clauses_in inner t.name ps of c) (λ said. Ok (headed_with t (parameters_of ps).formals of said))
  rest_is =
      ap (λ (known : Known). spec.clauses_walk known t.name t.line t.is_function t.number (parameters_of ps) of c)
      (sym (is ∙ ap (λ (l : List FormalText). spec.with_heading k (announced t l of)) copied))
      ∙ clauses_same inner t ps of c

  pub rest_stops : (e : TypeFault) → Stops e (clauses_in inner t.name ps of c) → Stops e (rest_walk k t (parameters_of ps) of c)
  rest_stops e h = subst (Stops e) (sym rest_is) (stops_after e _ _ h)

  pub rest_done : (said : Said) (h : spec.Headed) → clauses_in inner t.name ps of c ≡ Ok said → h ≡ headed_with t (parameters_of ps).formals of said
      → rest_walk k t (parameters_of ps) of c ≡ Ok h
  rest_done said h e same =
      rest_is ∙ (ap (λ o. after o (λ said. Ok (headed_with t (parameters_of ps).formals of said))) e ∙ ap Ok (sym same))
