-- Whole headings come from their trees.
use Rattle.std.proofs.Common.{◌≡◌, ℕ, Bool, true, false, List, [], ◌++◌, Option, Some, None, refl, sym, ap, ◌∙◌, subst}
use Rattle.std.specs.Prelude.{Ok}
use Rattle.spv_logic.specs.declared.names.names.Symbol.{Symbol}
use Rattle.spv_logic.specs.declared.types.TypeId.{TypeId}
use Rattle.spv_logic.specs.declared.conditions.RoutineId.{RoutineId}
use Rattle.spv_tree.specs.declared.syntax.names.Name.{Name}
use Rattle.spv_tree.specs.declared.syntax.routines.Params.{Params}
use Rattle.spv_tree.specs.declared.syntax.routines.HeadingForm.{HeadingForm}
use Rattle.spv_tree.specs.declared.syntax.routines.HeadingForm.TheVariants.{Procedure, Function}
use Rattle.spv_tree.specs.declared.syntax.routines.Clauses.{Clauses}
use Rattle.spv_program.specs.Types.{form_at, may_be_result}
use Rattle.spv_program.specs.Statements.{Statement}
use Rattle.spv_program.specs.Programs.{Program}
use Rattle.spv_program.proofs.SortFacts.{nothing_there, some_is}
use Rattle.spv_typing.specs.Outcomes.{after, where_so, wrong}
use Rattle.spv_typing.specs.Known.{KnownNames, Heading, Known, meaning}
use Rattle.spv_typing.specs.TypeWalk.{type_named}
use Rattle.spv_typing.specs.RoutineWalk.{in_routine, Parameters, params_walk, result_walk, Headed, clauses_walk, is_function_form, announced, with_heading, form_walk, with_body}
use Rattle.spv_type_soundness.proofs.well_typed.Outcomes.{fine, no_fault, same_value, went, held, behind_test}
use Rattle.spv_type_soundness.specs.faithfulness.Names.{Own, seen}
use Rattle.spv_type_soundness.specs.faithfulness.Names as names
use Rattle.spv_type_soundness.specs.faithfulness.Routines.{parameter_names, start_names, groups_of, name_of, FormFrom, procedure, function, FormalsFrom, HeadingFrom}
use Rattle.spv_type_soundness.proofs.faithfulness.Scopes.{OwnAs}
use Rattle.spv_type_soundness.proofs.faithfulness.Seeing.{KnowsNames}
use Rattle.spv_type_soundness.proofs.faithfulness.Headings.{params_come, type_come, ClausesDone, clauses_come}

-- a heading that was read: what it is, and that the routine comes from it, whatever its body
pub record HeadedFrom (start : KnownNames) (p : Program) (k : Known) (number : RoutineId) (line : ℕ) (c : Clauses) (form : HeadingForm)
    (h : Headed) : Type 0 where
  pub own : OwnAs h.own (parameter_names h.specified.heading.formals ++ start_names h.specified.initial)
  pub name_is : h.specified.heading.name ≡ name_of form
  pub kind_is : h.specified.heading.is_function ≡ is_function_form form
  pub number_is : h.specified.heading.number ≡ number
  pub from : (locals : List (Symbol × TypeId)) (body : Statement)
      → HeadingFrom start p (with_body h.specified locals body) (record { line = line; form = form }) c
  pub plain : (t : TypeId) → h.specified.heading.result ≡ Some t → may_be_result (form_at k.program.forms t.0) ≡ true

module _ (start : KnownNames) (p : Program) (k : Known) (knows : KnowsNames k start p) where
  knows_with : (a : Heading) → KnowsNames (with_heading k a) start p
  knows_with a = record {
    start_is = knows.start_is;
    constants_are = knows.constants_are;
    types_are = knows.types_are;
    variables_are = knows.variables_are;
    symbols_are = knows.symbols_are;
  }

  abbrev ClausesAt : Heading → Symbol → ℕ → Bool → RoutineId → Parameters → Option TypeId → Clauses → Headed → Type 0
  ClausesAt a name line kind number ps result c h = ClausesDone start p (with_heading k a) (knows_with a) name line kind number ps result
      c h

  headed : (a : Heading) (form : HeadingForm) (line : ℕ) (kind : Bool) (number : RoutineId) (ps : Parameters) (result : Option TypeId)
      (c : Clauses) (h : Headed) → is_function_form form ≡ kind
      → ((locals : List (Symbol × TypeId)) (body : Statement) → FormFrom start p (with_body h.specified locals body) form)
      → ((t : TypeId) → result ≡ Some t → may_be_result (form_at k.program.forms t.0) ≡ true)
      → ClausesAt a (name_of form) line kind number ps result c h → HeadedFrom start p k number line c form h
  headed a form line kind number ps result c h same from plain done = record {
    own = done.own;
    name_is = done.name_is;
    kind_is = done.kind_is ∙ sym same;
    number_is = done.number_is;
    from = λ locals body. record {
      line = done.line_is;
      form = from locals body;
      globals = done.globals;
      initial = done.initial;
      entry = done.entry;
      exit = done.exit;
    };
    plain = λ t e. plain t (sym done.result_is ∙ e);
  }

  record ResultDone (ps : Parameters) (of : Name) (t : TypeId) : Type 0 where
    pub named : names.type_named (seen start p None (parameter_names ps.formals)) of.symbol ≡ Some t
    pub plain : may_be_result (form_at k.program.forms t.0) ≡ true

  result_come : (a : Heading) (line : ℕ) (ps : Parameters) (of : Name) (t : TypeId) → OwnAs ps.own (parameter_names ps.formals)
      → result_walk (with_heading k a) line ps.own (Some of) ≡ Ok t → ResultDone ps of t
  result_come a line ps of t own e =
      let next = λ (u : TypeId). where_so (may_be_result (form_at k.program.forms u.0)) (wrong of.line) (fine u) in
      let one = went (type_named of.line of (meaning (in_routine (with_heading k a) ps.own None) of.symbol)) next t e in
      let plain = held (may_be_result (form_at k.program.forms one.value.0)) (wrong of.line) (fine one.value) t one.rest in
      let is : one.value ≡ t = same_value (behind_test (may_be_result (form_at k.program.forms one.value.0)) (wrong of.line)
      (fine one.value) t one.rest) in
      record {
        named = type_come start p (with_heading k a) (knows_with a) ps.own (parameter_names ps.formals) own of.line of
            (meaning (in_routine (with_heading k a) ps.own None) of.symbol) one.value refl one.first ∙ ap Some is;
        plain = subst (λ (u : TypeId). may_be_result (form_at k.program.forms u.0) ≡ true) is plain;
      }

  procedure_come : (number : RoutineId) (line : ℕ) (c : Clauses) (x : Name) (params : Option Params) (h : Headed)
      → form_walk k number line c (Procedure x params) ≡ Ok h → HeadedFrom start p k number line c (Procedure x params) h
  procedure_come number line c x params h e =
      let a0 = announced x.symbol line false number [] None in
      let last = λ (ps : Parameters). clauses_walk (with_heading k (announced x.symbol line false number ps.formals None)) x.symbol line
      false number ps None c in
      let one = went (params_walk (with_heading k a0) x.symbol params) last h e in
      let ps = one.value in
      let a1 = announced x.symbol line false number ps.formals None in
      let from = params_come start p (with_heading k a0) (knows_with a0) x.symbol params ps one.first in
      let done = clauses_come start p (with_heading k a1) (knows_with a1) x.symbol line false number ps None c h from.own one.rest in
      headed a1 (Procedure x params) line false number ps None c h refl
      (λ locals body. procedure done.name_is (subst (λ fs. FormalsFrom start p [] (groups_of params) fs) (sym done.formals_are) from.from)
      done.result_is) (λ t k. absurd (nothing_there k)) done

  function_come : (number : RoutineId) (line : ℕ) (c : Clauses) (x : Name) (params : Option Params) (result : Option Name) (h : Headed)
      → form_walk k number line c (Function x params result) ≡ Ok h → HeadedFrom start p k number line c (Function x params result) h
  function_come number line c x params None h e =
      let a0 = announced x.symbol line true number [] None in
      let last = λ (ps : Parameters) (t : TypeId). clauses_walk (with_heading k (announced x.symbol line true number ps.formals (Some t)))
      x.symbol line true number ps (Some t) c in
      let one = went (params_walk (with_heading k a0) x.symbol params)
      (λ ps. after (result_walk (with_heading k a0) line ps.own None) (last ps)) h e in
      absurd (no_fault one.rest)
  function_come number line c x params (Some of) h e =
      let a0 = announced x.symbol line true number [] None in
      let last = λ (ps : Parameters) (t : TypeId). clauses_walk (with_heading k (announced x.symbol line true number ps.formals (Some t)))
      x.symbol line true number ps (Some t) c in
      let one = went (params_walk (with_heading k a0) x.symbol params)
      (λ ps. after (result_walk (with_heading k a0) line ps.own (Some of)) (last ps)) h e in
      let ps = one.value in
      let two = went (result_walk (with_heading k a0) line ps.own (Some of)) (last ps) h one.rest in
      let t = two.value in
      let a1 = announced x.symbol line true number ps.formals (Some t) in
      let from = params_come start p (with_heading k a0) (knows_with a0) x.symbol params ps one.first in
      let result = result_come a0 line ps of t from.own two.first in
      let done = clauses_come start p (with_heading k a1) (knows_with a1) x.symbol line true number ps (Some t) c h from.own two.rest in
      headed a1 (Function x params (Some of)) line true number ps (Some t) c h refl
      (λ locals body. function done.name_is (subst (λ fs. FormalsFrom start p [] (groups_of params) fs) (sym done.formals_are) from.from)
      done.result_is
      (ap (λ fs. names.type_named (seen start p None (parameter_names fs)) of.symbol) done.formals_are ∙ result.named))
      (λ u same. subst (λ (q : TypeId). may_be_result (form_at k.program.forms q.0) ≡ true) (some_is same) result.plain) done

  pub heading_come : (number : RoutineId) (line : ℕ) (c : Clauses) (form : HeadingForm) (h : Headed)
      → form_walk k number line c form ≡ Ok h → HeadedFrom start p k number line c form h
  heading_come number line c (Procedure x params) h e = procedure_come number line c x params h e
  heading_come number line c (Function x params result) h e = function_come number line c x params result h e
