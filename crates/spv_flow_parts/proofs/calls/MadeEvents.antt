-- What calls make, by the outermost ones, and that it has no lists.
use Rattle.std.proofs.Common.{◌≡◌, List, [], ◌∷◌, ◌++◌, Option, Some, None, refl, sym, ap, ◌∙◌}
use Rattle.std.proofs.lemmas.List.{append_assoc, append-nil}
use Rattle.spv_logic.specs.declared.operators.Head.{Head}
use Rattle.spv_logic.specs.Terms.{Term}
use Rattle.spv_program.specs.Formulas.{Annotation}
use Rattle.spv_program.specs.declared.types.Item.TheVariants.{Variable}
use Rattle.spv_program.specs.Expressions.{Expression, Designator, Selectors, Call, Arguments, Numeral, Boolean, NilOf, Read, Result, Through, Negative, Calculated, Compared, Negated, Joined, designator, no_selectors, at_index, at_field, at_cell, call, no_arguments, by_value, by_place}
use Rattle.spv_program.specs.Programs.{Routine, Program, routine_at}
use Rattle.spv_program.specs.Supplies.{Supply}
use Rattle.spv_program.specs.Calls.{Argument}
use Rattle.spv_program.specs.Terms.{item_head}
use Rattle.spv_program.specs.ExpressionTerms.{Valued, Placed, Argued, at_start, to_element, to_field, to_cell, read_at, valued, placed, called, argued}
use Rattle.spv_expression_terms.specs.term_walk.OuterCalls.{head_of, made_calls, outer_calls, selectors_outer_calls}
use Rattle.spv_expression_terms.proofs.term_walk.Gathered.{value_gathered}
use Rattle.spv_assign.specs.creation_trace.Events.{Event}
use Rattle.spv_flow_parts.specs.calls.Events.{entry_events, exit_events, at_call_events, made_at_call, calls_in_value, calls_in_place, calls_in_selectors, call_events, argument_events, made_events}
use Rattle.spv_flow_parts.proofs.calls.Adding.{both}
use Rattle.spv_flow_parts.proofs.calls.Retold.{HaveNoLists, no_lists_both}

-- ---- by the outermost calls

module _ (p : Program) (here : Option Routine) where
  pub made_events_both : (n : Supply) (xs ys : List Call) → made_events p here n (xs ++ ys) ≡ made_events p here n xs ++ made_events p here (made_calls p here n xs).supply ys
  made_events_both n [] ys = refl
  made_events_both n (c ∷ xs) ys =
      let m = (called p here n c).supply in
      ap (λ (l : List Event). call_events p here n c ++ l) (made_events_both m xs ys)
      ∙ sym (append_assoc (call_events p here n c) (made_events p here m xs) (made_events p here (made_calls p here m xs).supply ys))

  -- calls behind others
  pub made_calls_both : (n : Supply) (xs ys : List Call) → made_calls p here n (xs ++ ys) ≡ both (made_calls p here n xs) (made_calls p here (made_calls p here n xs).supply ys)
  made_calls_both n [] ys = refl
  made_calls_both n (c ∷ xs) ys =
      let first = called p here n c in
      let rest = made_calls_both first.supply xs ys in
      let others = made_calls p here first.supply xs in
      let last = made_calls p here others.supply ys in
      (λ i. record { variables = head_of first.term ∷ (rest i).variables; calls = first.calls ++ (rest i).calls; supply = (rest i).supply })
      ∙ (λ i. record { variables = head_of first.term ∷ (others.variables ++ last.variables); calls = sym (append_assoc first.calls others.calls last.calls) i; supply = last.supply })

  pub supply_behind : (n : Supply) (e : Expression) → (valued p here n e).supply ≡ (made_calls p here n (outer_calls e)).supply
  supply_behind n e = ap (λ (v : Valued). v.supply) (value_gathered p here n e)

  -- those of an expression, and others behind it
  behind_value : (n : Supply) (a : Expression) (ys : List Call) (first rest : List Event) → first ≡ made_events p here n (outer_calls a) → rest ≡ made_events p here (valued p here n a).supply ys
      → first ++ rest ≡ made_events p here n (outer_calls a ++ ys)
  behind_value n a ys first rest e f =
      (λ i. e i ++ f i)
      ∙ (ap (λ (m : Supply). made_events p here n (outer_calls a) ++ made_events p here m ys) (supply_behind n a)
      ∙ sym (made_events_both n (outer_calls a) ys))

  mutual
    pub value_told : (n : Supply) (e : Expression) → calls_in_value p here n e ≡ made_events p here n (outer_calls e)
    value_told n (Numeral z) = refl
    value_told n (Boolean b) = refl
    value_told n (NilOf t) = refl
    value_told n (Read (designator line x others)) = selectors_told (at_start n (item_head p here (Variable x))) others
    value_told n (Result c) = sym (append-nil (call_events p here n c))
    value_told n (Through c line t others) = ap (λ (l : List Event). call_events p here n c ++ l) (selectors_told (to_cell t (called p here n c)) others)
    value_told n (Negative e) = value_told n e
    value_told n (Calculated o a b) = behind_value n a (outer_calls b) _ _ (value_told n a) (value_told (valued p here n a).supply b)
    value_told n (Compared o a b) = behind_value n a (outer_calls b) _ _ (value_told n a) (value_told (valued p here n a).supply b)
    value_told n (Negated e) = value_told n e
    value_told n (Joined o a b) = behind_value n a (outer_calls b) _ _ (value_told n a) (value_told (valued p here n a).supply b)

    pub selectors_told : (d : Placed) (others : Selectors) → calls_in_selectors p here d others ≡ made_events p here d.supply (selectors_outer_calls others)
    selectors_told d no_selectors = refl
    selectors_told d (at_index t e others) =
        behind_value d.supply e (selectors_outer_calls others) _ _ (value_told d.supply e) (selectors_told (to_element d (λ m. valued p here m e)) others)
    selectors_told d (at_field t f others) = selectors_told (to_field f d) others
    selectors_told d (at_cell line t others) = selectors_told (to_cell t (read_at d)) others

-- ---- no lists

module _ (p : Program) (r : Routine) (arguments : List Argument) where
  entry_alone : (a : Option Annotation) → HaveNoLists (entry_events p r arguments a)
  entry_alone None = tt
  entry_alone (Some a) = tt

  exit_alone : (after : List (Head × Term)) (a : Option Annotation) → HaveNoLists (exit_events p r arguments after a)
  exit_alone after None = tt
  exit_alone after (Some a) = tt

  at_call_alone : (after : List (Head × Term)) → HaveNoLists (at_call_events p r arguments after)
  at_call_alone after =
      no_lists_both (entry_events p r arguments r.entry) (exit_events p r arguments after r.exit ++ []) (entry_alone r.entry)
      (no_lists_both (exit_events p r arguments after r.exit) [] (exit_alone after r.exit) tt)

made_alone : (p : Program) (o : Option Routine) (given : Argued) → HaveNoLists (made_at_call p o given)
made_alone p None given = tt
made_alone p (Some r) given = at_call_alone p r given.arguments _

module _ (p : Program) (here : Option Routine) where
  mutual
    pub value_alone : (n : Supply) (e : Expression) → HaveNoLists (calls_in_value p here n e)
    value_alone n (Numeral z) = tt
    value_alone n (Boolean b) = tt
    value_alone n (NilOf t) = tt
    value_alone n (Read d) = place_alone n d
    value_alone n (Result c) = call_alone n c
    value_alone n (Through c line t others) = no_lists_both (call_events p here n c) _ (call_alone n c) (selectors_alone (to_cell t (called p here n c)) others)
    value_alone n (Negative e) = value_alone n e
    value_alone n (Calculated o a b) = no_lists_both (calls_in_value p here n a) _ (value_alone n a) (value_alone (valued p here n a).supply b)
    value_alone n (Compared o a b) = no_lists_both (calls_in_value p here n a) _ (value_alone n a) (value_alone (valued p here n a).supply b)
    value_alone n (Negated e) = value_alone n e
    value_alone n (Joined o a b) = no_lists_both (calls_in_value p here n a) _ (value_alone n a) (value_alone (valued p here n a).supply b)

    place_alone : (n : Supply) (d : Designator) → HaveNoLists (calls_in_place p here n d)
    place_alone n (designator line x others) = selectors_alone (at_start n (item_head p here (Variable x))) others

    pub selectors_alone : (d : Placed) (others : Selectors) → HaveNoLists (calls_in_selectors p here d others)
    selectors_alone d no_selectors = tt
    selectors_alone d (at_index t e others) = no_lists_both (calls_in_value p here d.supply e) _ (value_alone d.supply e) (selectors_alone (to_element d (λ m. valued p here m e)) others)
    selectors_alone d (at_field t f others) = selectors_alone (to_field f d) others
    selectors_alone d (at_cell line t others) = selectors_alone (to_cell t (read_at d)) others

    call_alone : (n : Supply) (c : Call) → HaveNoLists (call_events p here n c)
    call_alone n (call r line given) = no_lists_both (argument_events p here n given) _ (arguments_alone n given) (made_alone p (routine_at p r) (argued p here n given))

    arguments_alone : (n : Supply) (given : Arguments) → HaveNoLists (argument_events p here n given)
    arguments_alone n no_arguments = tt
    arguments_alone n (by_value e others) = no_lists_both (calls_in_value p here n e) _ (value_alone n e) (arguments_alone (valued p here n e).supply others)
    arguments_alone n (by_place d others) = no_lists_both (calls_in_place p here n d) _ (place_alone n d) (arguments_alone (placed p here n d).supply others)
