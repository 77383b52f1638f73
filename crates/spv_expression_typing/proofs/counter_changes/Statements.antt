-- What the parts of statements change.
use Rattle.std.proofs.Common.{◌≡◌, ℕ, true, false, List, [], ◌∷◌, ◌++◌, None, sym, ap, subst, ◌∙◌}
use Rattle.std.proofs.lemmas.List.{append-nil}
use Rattle.spv_logic.specs.declared.names.names.Symbol.{Symbol}
use Rattle.spv_logic.specs.declared.types.TypeId.{TypeId}
use Rattle.spv_program.specs.Expressions.{Expression, Designator, Call, call}
use Rattle.spv_program.specs.Uses.{statement_uses}
use Rattle.spv_logic.specs.declared.conditions.RoutineId.{RoutineId}
use Rattle.spv_program.specs.declared.typed.expressions.Argument.{Argument}
use Rattle.spv_program.specs.typed.ExpressionViews.{arguments_of}
use Rattle.spv_expression_typing.specs.declared.counter_changes.works.Event.{Event}
use Rattle.spv_program.specs.Statements.{Counting, Assign, Perform, New, If, For, Empty}
use Rattle.spv_typing.specs.Known.{Scope}
use Rattle.spv_typing.specs.StatementWalk.{own_in, changes, first_counted}
use Rattle.spv_expression_typing.specs.declared.counter_changes.works.Event.TheVariants as event
use Rattle.spv_expression_typing.specs.counter_changes.Events.{expression_events, place_events, call_events, argument_events}
use Rattle.spv_expression_typing.specs.counter_changes.Counted.{first_in}
use Rattle.spv_expression_typing.proofs.counter_changes.Same.{SameUses, uses_join, uses_nil, no_uses, name_use, class_use, expression_same, place_same, call_same, calls_join, calls_nil, wrote_first, expression_calls_same, place_calls_same, call_calls_same, both}

module _ (s : Scope) (counted : List Symbol) where
  pub assignment_is : (d : Designator) (e : Expression) → first_counted (own_in s) counted (changes s (Assign d e)) ≡ first_in s counted (place_events d ++ expression_events e)
  assignment_is d e =
      both s counted _ _ _ (uses_join s counted _ _ _ _ (place_same s counted d) (expression_same s counted e))
      (calls_join s counted _ _ _ _ (place_calls_same s counted d) (expression_calls_same s counted e))

  pub call_is : (c : Call) → first_counted (own_in s) counted (changes s (Perform c)) ≡ first_in s counted (call_events c)
  call_is c = both s counted _ _ _ (call_same s counted c) (call_calls_same s counted c)

  pub creation_is : (line : ℕ) (d : Designator) (t : TypeId) → first_counted (own_in s) counted (changes s (New line d t)) ≡ first_in s counted (place_events d)
  creation_is line d t =
      both s counted _ _ _
      (subst (λ (es : List Event). SameUses s counted (statement_uses (own_in s) (New line d t)) es) (append-nil (place_events d))
      (uses_join s counted _ _ _ _ (place_same s counted d) (class_use s counted t line true [] [] (no_uses s counted))))
      (place_calls_same s counted d)

  -- by its parts
  pub call_with : (c : Call) (r : RoutineId) (line : ℕ) (xs ys : List Argument) → call r line (arguments_of xs) ≡ c → ys ≡ xs
      → first_counted (own_in s) counted (changes s (Perform c)) ≡ first_in s counted (argument_events (arguments_of ys) ++ event.Called r ∷ [])
  call_with c r line xs ys h same =
      call_is c ∙ ap (λ (d : Call). first_in s counted (call_events d)) (sym h)
      ∙ ap (λ (zs : List Argument). first_in s counted (argument_events (arguments_of zs) ++ event.Called r ∷ [])) (sym same)

  pub test_is : (line : ℕ) (e : Expression) → first_counted (own_in s) counted (changes s (If line e Empty Empty)) ≡ first_in s counted (expression_events e)
  test_is line e = both s counted _ _ _ (uses_nil s counted _ _ (expression_same s counted e)) (calls_nil s counted _ _ (expression_calls_same s counted e))

  pub head_is : (line : ℕ) (head : Counting)
      → first_counted (own_in s) counted (changes s (For line None head Empty)) ≡ first_in s counted (event.Wrote head.variable ∷ expression_events head.first ++ expression_events head.last)
  head_is line head =
      both s counted _ _ _
      (name_use s counted head.variable line false _ _ (uses_join s counted _ _ _ _ (expression_same s counted head.first) (uses_nil s counted _ _ (expression_same s counted head.last))))
      (wrote_first s counted head.variable false _ _ (calls_join s counted _ _ _ _ (expression_calls_same s counted head.first) (calls_nil s counted _ _ (expression_calls_same s counted head.last))))
