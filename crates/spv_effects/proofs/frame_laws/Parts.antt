-- The uses and the calls among what the walk goes over.
use Rattle.std.proofs.Common.{◌≡◌, Bool, true, false, List, [], ◌∷◌, ◌++◌, Option, Some, None, refl, ap, ◌∙◌}
use Rattle.std.proofs.lemmas.List.{append_assoc, append-nil}
use Rattle.spv_logic.specs.declared.names.names.Symbol.{Symbol}
use Rattle.spv_program.specs.Expressions.{Expression, Designator, Selectors, Call, Arguments, Numeral, Boolean, NilOf, Read, Result, Through, Negative, Calculated, Compared, Negated, Joined, designator, no_selectors, at_index, at_field, at_cell, call, no_arguments, by_value, by_place}
use Rattle.spv_program.specs.Formulas as formula
use Rattle.spv_program.specs.Formulas.{Formula, Formulas, Annotation, no_formulas, formulas}
use Rattle.spv_program.specs.Statements.{Statement, Arms, Empty, Assign, Perform, New, Sequence, If, Case, While, Repeat, For, Assert, no_arms, arm}
use Rattle.spv_program.specs.Programs.{Routine}
use Rattle.spv_program.specs.Uses.{Use, expression_uses, designator_uses, selector_uses, call_uses, argument_uses, expression_calls, designator_calls, selector_calls, calls_with, argument_calls, formula_uses, formulas_uses, annotation_uses, statement_uses, arms_uses, statement_calls, arms_calls}
use Rattle.spv_program.specs.Frames.{is_formal, routine_uses}
use Rattle.spv_effects.specs.frame_walk.Events.{Event, Used, Called, expression_events, designator_events, selector_events, call_events, argument_events, formula_events, formulas_events, annotation_events, statement_events, arms_events, own_at_exit, own_in_body, clause_events, body_events, uses_in, calls_in}
use Rattle.spv_effects.specs.frame_laws.Laws.{EventsAreUsesAndCalls}

-- these are the uses and the calls, in order
pub record Parts (events : List Event) (us : List Use) (cs : List Call) : Type 0 where
  pub uses : uses_in events ≡ us
  pub calls : calls_in events ≡ cs

uses_both : (es fs : List Event) → uses_in (es ++ fs) ≡ uses_in es ++ uses_in fs
uses_both [] fs = refl
uses_both (Used u ∷ es) fs = ap (λ (us : List Use). u ∷ us) (uses_both es fs)
uses_both (Called c ∷ es) fs = uses_both es fs

calls_both : (es fs : List Event) → calls_in (es ++ fs) ≡ calls_in es ++ calls_in fs
calls_both [] fs = refl
calls_both (Used u ∷ es) fs = calls_both es fs
calls_both (Called c ∷ es) fs = ap (λ (cs : List Call). c ∷ cs) (calls_both es fs)

none : Parts [] [] []
none = record { uses = refl; calls = refl }

join : {es fs : List Event} {us vs : List Use} {cs ds : List Call} → Parts es us cs → Parts fs vs ds → Parts (es ++ fs) (us ++ vs) (cs ++ ds)
join {es} {fs} {us} {vs} {cs} {ds} a b = record {
  uses = uses_both es fs ∙ ap (λ (l : List Use). l ++ uses_in fs) a.uses ∙ ap (λ (l : List Use). us ++ l) b.uses;
  calls = calls_both es fs ∙ ap (λ (l : List Call). l ++ calls_in fs) a.calls ∙ ap (λ (l : List Call). cs ++ l) b.calls;
}

use_first : (u : Use) {es : List Event} {us : List Use} {cs : List Call} → Parts es us cs → Parts (Used u ∷ es) (u ∷ us) cs
use_first u a = record { uses = ap (λ (us : List Use). u ∷ us) a.uses; calls = a.calls }

-- with a use behind it
use_last : (u : Use) {es : List Event} {us : List Use} {cs : List Call} → Parts es us cs → Parts (es ++ Used u ∷ []) (us ++ u ∷ []) cs
use_last u {es} {us} {cs} a = record {
  uses = uses_both es (Used u ∷ []) ∙ ap (λ (l : List Use). l ++ u ∷ []) a.uses;
  calls = calls_both es (Used u ∷ []) ∙ append-nil (calls_in es) ∙ a.calls;
}

-- with a call behind it
call_last : (c : Call) {es : List Event} {us : List Use} {cs : List Call} → Parts es us cs → Parts (es ++ Called c ∷ []) us (cs ++ c ∷ [])
call_last c {es} {us} {cs} a = record {
  uses = uses_both es (Called c ∷ []) ∙ append-nil (uses_in es) ∙ a.uses;
  calls = calls_both es (Called c ∷ []) ∙ ap (λ (l : List Call). l ++ c ∷ []) a.calls;
}

module _ (own : Symbol → Bool) where
  mutual
    expression_parts : (e : Expression) → Parts (expression_events own e) (expression_uses own e) (expression_calls e)
    expression_parts (Numeral z) = none
    expression_parts (Boolean b) = none
    expression_parts (NilOf t) = none
    expression_parts (Read d) = designator_parts false d
    expression_parts (Result c) = call_parts c
    expression_parts (Through c line t others) = join (call_parts c) (use_first _ (selector_parts false others))
    expression_parts (Negative e) = expression_parts e
    expression_parts (Calculated o a b) = join (expression_parts a) (expression_parts b)
    expression_parts (Compared o a b) = join (expression_parts a) (expression_parts b)
    expression_parts (Negated e) = expression_parts e
    expression_parts (Joined o a b) = join (expression_parts a) (expression_parts b)

    designator_parts : (writes : Bool) (d : Designator) → Parts (designator_events own writes d) (designator_uses own writes d) (designator_calls d)
    designator_parts writes (designator line x others) = use_first _ (selector_parts writes others)

    selector_parts : (writes : Bool) (ss : Selectors) → Parts (selector_events own writes ss) (selector_uses own writes ss) (selector_calls ss)
    selector_parts writes no_selectors = none
    selector_parts writes (at_index t e others) = join (expression_parts e) (selector_parts writes others)
    selector_parts writes (at_field t f others) = selector_parts writes others
    selector_parts writes (at_cell line t others) = use_first _ (selector_parts writes others)

    call_parts : (c : Call) → Parts (call_events own c) (call_uses own c) (calls_with c)
    call_parts (call r line arguments) = call_last _ (argument_parts arguments)

    argument_parts : (xs : Arguments) → Parts (argument_events own xs) (argument_uses own xs) (argument_calls xs)
    argument_parts no_arguments = none
    argument_parts (by_value e others) = join (expression_parts e) (argument_parts others)
    argument_parts (by_place d others) = join (designator_parts true d) (argument_parts others)

  mutual
    formula_parts : (f : Formula) → Parts (formula_events own f) (formula_uses own f) []
    formula_parts (formula.Numeral z) = none
    formula_parts (formula.Boolean b) = none
    formula_parts (formula.NilOf t) = none
    formula_parts (formula.Named line x) = use_first _ none
    formula_parts (formula.ClassOf line t) = use_first _ none
    formula_parts (formula.Element a i) = join (formula_parts a) (formula_parts i)
    formula_parts (formula.FieldOf r f) = formula_parts r
    formula_parts (formula.Content line t q) = use_last _ (formula_parts q)
    formula_parts (formula.Applied f fs) = formulas_parts fs
    formula_parts (formula.Known b fs) = formulas_parts fs
    formula_parts (formula.Negative f) = formula_parts f
    formula_parts (formula.Calculated o f g) = join (formula_parts f) (formula_parts g)
    formula_parts (formula.Compared o f g) = join (formula_parts f) (formula_parts g)
    formula_parts (formula.Negated f) = formula_parts f
    formula_parts (formula.Joined o f g) = join (formula_parts f) (formula_parts g)
    formula_parts (formula.Implied f g) = join (formula_parts f) (formula_parts g)

    formulas_parts : (fs : Formulas) → Parts (formulas_events own fs) (formulas_uses own fs) []
    formulas_parts no_formulas = none
    formulas_parts (formulas f fs) = join (formula_parts f) (formulas_parts fs)

  annotation_parts : (a : Option Annotation) → Parts (annotation_events own a) (annotation_uses own a) []
  annotation_parts None = none
  annotation_parts (Some a) = formula_parts a.formula

  mutual
    statement_parts : (s : Statement) → Parts (statement_events own s) (statement_uses own s) (statement_calls s)
    statement_parts Empty = none
    statement_parts (Assign d e) = join (designator_parts true d) (expression_parts e)
    statement_parts (Perform c) = call_parts c
    statement_parts (New line d t) = use_last _ (designator_parts true d)
    statement_parts (Sequence a b) = join (statement_parts a) (statement_parts b)
    statement_parts (If line e a b) = join (expression_parts e) (join (statement_parts a) (statement_parts b))
    statement_parts (Case line e arms) = join (expression_parts e) (arms_parts arms)
    statement_parts (While line f e s) = join (annotation_parts f) (join (expression_parts e) (statement_parts s))
    statement_parts (Repeat line f s e) = join (annotation_parts f) (join (statement_parts s) (expression_parts e))
    statement_parts (For line f count s) =
        join (annotation_parts f) (use_first _ (join (expression_parts count.first) (join (expression_parts count.last) (statement_parts s))))
    statement_parts (Assert a) = formula_parts a.formula

    arms_parts : (arms : Arms) → Parts (arms_events own arms) (arms_uses own arms) (arms_calls arms)
    arms_parts no_arms = none
    arms_parts (arm labels s others) = join (statement_parts s) (arms_parts others)

pub parts_of_statement : (own : Symbol → Bool) (s : Statement) → Parts (statement_events own s) (statement_uses own s) (statement_calls s)
parts_of_statement own s = statement_parts own s

pub parts_of_routine : (r : Routine) → Parts (clause_events r ++ body_events r) (routine_uses r) (statement_calls r.body)
parts_of_routine r =
    let entry = annotation_parts (is_formal r) r.entry in
    let exit = annotation_parts (own_at_exit r) r.exit in
    let body = statement_parts (own_in_body r) r.body in
    let all = join (join entry exit) body in
    record {
      uses =
          all.uses
          ∙ append_assoc (annotation_uses (is_formal r) r.entry) (annotation_uses (own_at_exit r) r.exit) (statement_uses (own_in_body r) r.body);
      calls = all.calls;
    }

pub events_are : EventsAreUsesAndCalls
events_are = record {
  routine_uses = λ r. (parts_of_routine r).uses;
  routine_calls = λ r. (parts_of_routine r).calls;
  statement_uses = λ own s. (statement_parts own s).uses;
  statement_calls = λ own s. (statement_parts own s).calls;
}
