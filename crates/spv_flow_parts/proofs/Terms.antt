-- The terms of expressions, variables and annotations of a body.
use Rattle.std.proofs.Common.{◌≡◌, ◌<◌, true, List, [], ◌∷◌, length, Result, Ok, Err, IfOk, Option, Some, refl, sym, ap, subst, ◌∙◌}
use Rattle.std.proofs.lemmas.Bool.{false≢true}
use Rattle.spv_logic.specs.declared.conditions.TermId.{TermId}
use Rattle.spv_logic.specs.declared.types.Sort.{Sort}
use Rattle.spv_logic.specs.declared.types.Sort.TheVariants as sort
use Rattle.spv_logic.specs.declared.types.Shape.{Shape}
use Rattle.spv_logic.specs.declared.types.Decl.{Decl}
use Rattle.spv_logic.specs.Terms.{Term}
use Rattle.spv_logic.specs.Sorts.{term_sort}
use Rattle.spv_term.specs.declared.nodes.TermFault.{TermFault}
use Rattle.spv_term.specs.declared.nodes.TermFault.TheVariants.{Size}
use Rattle.spv_term.specs.Arena.{Arena, Extends, tree, sort_at}
use Rattle.spv_term.specs.substitution.Parts.{AddsParts, LacksPart}
use Rattle.spv_program.specs.Expressions.{Expression, Designator, Call, designator, no_selectors, at_index, at_field, at_cell}
use Rattle.spv_program.specs.Formulas.{Annotation}
use Rattle.spv_program.specs.Programs.{Program, shapes, routine_in}
use Rattle.spv_program.specs.Scopes.{body_scope}
use Rattle.spv_program.specs.ExpressionTypes.{expression_sort, designator_type, sort_of_type}
use Rattle.spv_program.specs.FormulaTypes.{formula_sort}
use Rattle.spv_program.specs.Supplies.{full_supply}
use Rattle.spv_program.specs.Places.{present}
use Rattle.spv_program.specs.Terms.{formula_term, name_in, body_term}
use Rattle.spv_program.specs.Uses.{expression_calls}
use Rattle.spv_program.specs.ExpressionTerms.{valued, placed}
use Rattle.spv_program.proofs.SortFacts.{is_sort-true}
use Rattle.spv_program.proofs.ExpressionSorting.{value_sorted, place_sorted as place_has_sort}
use Rattle.spv_expression_terms.specs.term_walk.ExpressionTerms.{has_no_calls, place_has_no_calls, expression_term, place_term}
use Rattle.spv_expression_terms.specs.term_walk.Makeable.{IsWellSorted}
use Rattle.spv_expression_terms.specs.term_walk.Laws.{variable_head}
use Rattle.spv_expression_terms.proofs.term_walk.Listed.{makes_none}
use Rattle.spv_expression_terms.proofs.term_walk.Values.{value_is, place_is, terms_are_present}
use Rattle.spv_expression_terms.proofs.term_walk.Tables.{tables_give_formulas, tables_give_expressions, tables_give_places}
use Rattle.spv_expression_terms.specs.makeable_terms.Laws.{IsSorted}
use Rattle.spv_expression_terms.proofs.makeable_terms.Scopes.{body_sorts}
use Rattle.spv_expression_terms.proofs.makeable_terms.Sorting.{formula_sorted, expression_sorted, place_sorted}
use Rattle.spv_rule_soundness.specs.control.Blocks.{none, is_whole, calls_nothing}
use Rattle.spv_assign.specs.declared.creation_trace.faults.GenFault.{GenFault}
use Rattle.spv_assign.specs.creation_trace.Events.{Answers}
use Rattle.spv_assign.specs.creation_trace.StatementEvents.{several}
use Rattle.spv_assign.specs.limited_steps.Makes.{IsTerm, Makes}
use Rattle.spv_assign.proofs.limited_steps.Renamings.{ok_at}
use Rattle.spv_flow_parts.specs.declared.bodies.Body.{Body}
use Rattle.spv_flow_parts.specs.Standing.{Stands, IsValue, IsVariable, AreNotes, value_of, variable_of}
use Rattle.spv_flow_parts.specs.Walks.{MakesTerm}

-- ---- what a call on the arena made

module _ (a b : Arena) (x y : Term) (same : x ≡ y) (r : Result TermId TermFault) where
  call_makes : IfOk r (λ t. tree b t ≡ x) → IfOk r (λ t. t.0 < length b.nodes) → Extends a b → AddsParts a b (x ∷ []) → (r ≡ Err Size → LacksPart b (x ∷ [])) → Makes r a b (y ∷ [])
  call_makes is there grows only size = by r is there size
    where
      by : (r : Result TermId TermFault) → IfOk r (λ t. tree b t ≡ x) → IfOk r (λ t. t.0 < length b.nodes) → (r ≡ Err Size → LacksPart b (x ∷ [])) → Makes r a b (y ∷ [])
      by (Ok t) is there size = record {
        grows = grows;
        there = (record { id = t; there = there; is_tree = is ∙ same }, tt);
        only = subst (λ (z : Term). AddsParts a b (z ∷ [])) same only;
        size = λ e. subst (λ (z : Term). LacksPart b (z ∷ [])) same (size e);
      }
      by (Err e) is there size = record {
        grows = grows;
        there = tt;
        only = subst (λ (z : Term). AddsParts a b (z ∷ [])) same only;
        size = λ e. subst (λ (z : Term). LacksPart b (z ∷ [])) same (size e);
      }

  pub term_made : (s : Result TermId GenFault) → IfOk r (λ t. tree b t ≡ x) → IfOk r (λ t. t.0 < length b.nodes) → Extends a b → AddsParts a b (x ∷ []) → (r ≡ Err Size → LacksPart b (x ∷ []))
      → IfOk s (λ t. r ≡ Ok t) → ((old : Arena) (ts : List Term) → Makes r old b ts → Answers s (several ts) old b) → MakesTerm s y a b
  term_made s is there grows only size told walk = record { grows = grows; walk = walk a (y ∷ []) (call_makes is there grows only size); term = by s told }
    where
      by : (s : Result TermId GenFault) → IfOk s (λ t. r ≡ Ok t) → IfOk s (λ t. IsTerm b t y)
      by (Ok t) told = record { there = ok_at (λ (u : TermId). u.0 < length b.nodes) r t told there; is_tree = ok_at (λ (u : TermId). tree b u ≡ x) r t told is ∙ same }
      by (Err e) told = tt

  pub sort_made : (s : Result TermId GenFault) (o given : Option Sort) → o ≡ given → IfOk r (λ t. given ≡ Some (sort_at b t)) → IfOk s (λ t. r ≡ Ok t) → IfOk s (λ t. o ≡ Some (sort_at b t))
  sort_made (Ok t) o given e h told = e ∙ ok_at (λ (u : TermId). given ≡ Some (sort_at b u)) r t told h
  sort_made (Err f) o given e h told = tt

-- ---- the terms of a body

pub nothing_called : (calls : List Call) → none calls ≡ true → calls ≡ []
nothing_called [] h = refl
nothing_called (c ∷ calls) h = absurd (false≢true h)

pub no_calls : (e : Expression) → calls_nothing e ≡ true → has_no_calls e ≡ true
no_calls e h = makes_none e (nothing_called (expression_calls e) h)

pub no_selectors_called : (d : Designator) → is_whole d ≡ true → place_has_no_calls d ≡ true
no_selectors_called (designator line x no_selectors) h = refl
no_selectors_called (designator line x (at_index t e others)) h = absurd (false≢true h)
no_selectors_called (designator line x (at_field t f others)) h = absurd (false≢true h)
no_selectors_called (designator line x (at_cell l t others)) h = absurd (false≢true h)

module _ (p : Program) (body : Body) (a : Arena) (h : Stands p body a) where
  in_arena : (x y : Term) → x ≡ y → IsSorted p y → IsWellSorted a.shapes a.decls x
  in_arena x y e sorted =
      subst (λ (s : List Shape). IsWellSorted s a.decls x) (sym h.shapes)
      (subst (λ (d : List Decl). IsWellSorted (shapes p) d x) (sym h.decls) (subst (λ (t : Term). IsWellSorted (shapes p) p.symbols t) (sym e) sorted))

  same_sort : (x y : Term) → x ≡ y → term_sort a.shapes a.decls x ≡ term_sort (shapes p) p.symbols y
  same_sort x y e = let shapes = h.shapes in let decls = h.decls in λ i. term_sort (shapes i) (decls i) (e i)

  -- expressions
  module _ (e : Expression) (v : IsValue p body.here e) where
    pub value_calls : has_no_calls e ≡ true
    value_calls = no_calls e v.calls

    pub value_in : expression_term (name_in body.variables) e ≡ value_of p body.here e
    value_in = tables_give_expressions p (routine_in p body.here) body.variables e h.body.variables

    pub value_sorts : IsWellSorted a.shapes a.decls (expression_term (name_in body.variables) e)
    value_sorts =
        in_arena (expression_term (name_in body.variables) e) (value_of p body.here e) value_in
        (expression_sorted p (routine_in p body.here) e v.sort h.declarations h.heading value_calls v.sorted)

    pub value_sort : expression_sort p (routine_in p body.here) e ≡ term_sort a.shapes a.decls (expression_term (name_in body.variables) e)
    value_sort =
        let term : (valued p (routine_in p body.here) full_supply e).term ≡ value_of p body.here e = ap (λ w. w.term) (value_is p (routine_in p body.here) full_supply e value_calls) in
        v.sorted
        ∙ sym (value_sorted p (routine_in p body.here) full_supply e v.sort v.sorted)
        ∙ ap (term_sort (shapes p) p.symbols) term
        ∙ sym (same_sort (expression_term (name_in body.variables) e) (value_of p body.here e) value_in)

  -- variables
  module _ (d : Designator) (v : IsVariable p body.here d) where
    pub variable_calls : place_has_no_calls d ≡ true
    variable_calls = no_selectors_called d v.whole

    pub variable_in : place_term (name_in body.variables) d ≡ variable_of p body.here d
    variable_in = tables_give_places p (routine_in p body.here) body.variables d h.body.variables

    pub variable_sorts : IsWellSorted a.shapes a.decls (place_term (name_in body.variables) d)
    variable_sorts =
        in_arena (place_term (name_in body.variables) d) (variable_of p body.here d) variable_in
        (place_sorted p (routine_in p body.here) d v.of h.declarations h.heading variable_calls v.typed)

    pub variable_sort : sort_of_type p (designator_type p (routine_in p body.here) d) ≡ term_sort a.shapes a.decls (place_term (name_in body.variables) d)
    variable_sort =
        let heads = variable_head p (routine_in p body.here) in
        let term : present (placed p (routine_in p body.here) full_supply d).target ≡ variable_of p body.here d =
        ap (λ w. present w.target) (place_is p (routine_in p body.here) full_supply d variable_calls) ∙ terms_are_present heads d in
        ap (sort_of_type p) v.typed
        ∙ sym (place_has_sort p (routine_in p body.here) full_supply d v.of v.typed)
        ∙ ap (term_sort (shapes p) p.symbols) term
        ∙ sym (same_sort (place_term (name_in body.variables) d) (variable_of p body.here d) variable_in)

  -- annotations
  module _ (f : Annotation) (v : AreNotes p body.here (Some f)) where
    pub note_in : formula_term (name_in body.names) f.formula ≡ body_term p (routine_in p body.here) f
    note_in = tables_give_formulas body.names (body_scope p (routine_in p body.here)) f.formula h.body.names

    pub note_sorts : IsWellSorted a.shapes a.decls (formula_term (name_in body.names) f.formula)
    note_sorts =
        in_arena (formula_term (name_in body.names) f.formula) (body_term p (routine_in p body.here) f) note_in
        (formula_sorted p (body_scope p (routine_in p body.here)) f.formula sort.Bool (body_sorts p (routine_in p body.here) h.declarations h.heading)
        (is_sort-true sort.Bool (formula_sort p (body_scope p (routine_in p body.here)) f.formula) v))
