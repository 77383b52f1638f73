-- The parts of statements that are taken are taken.
use Rattle.std.proofs.Common.{◌≡◌, ℕ, zero, suc, ◌<◌, ◌&&◌, true, List, [], ◌∷◌, length, get_or, Option, Some, refl, ap, arith}
use Rattle.std.specs.Ordering.{int_eq}
use Rattle.std.specs.Cmp.Derive.{both_true}
use Rattle.spv_logic.proofs.list.Tests.{left_true, right_true}
use Rattle.spv_logic.specs.declared.conditions.RoutineId.{RoutineId}
use Rattle.spv_logic.specs.declared.types.Sort.{Sort}
use Rattle.spv_logic.specs.declared.types.Sort.TheVariants as sort
use Rattle.spv_logic.specs.declared.operators.Head.TheVariants as head
use Rattle.spv_program.specs.declared.types.Item.TheVariants.{Variable}
use Rattle.spv_program.specs.Lists.{all_differ}
use Rattle.spv_program.specs.Expressions.{Expression}
use Rattle.spv_program.specs.Formulas.{Annotation}
use Rattle.spv_program.specs.Statements.{Counting, Statement, Arms, Sequence, If, Case, While, Repeat, For, Assert}
use Rattle.spv_program.specs.Programs.{Routine, Program, routine_in}
use Rattle.spv_program.specs.Scopes.{body_scope, name_type, sort_or_int}
use Rattle.spv_program.specs.Terms.{item_head}
use Rattle.spv_program.specs.FormulaTypes.{is_sort, annotation_ok}
use Rattle.spv_program.specs.ExpressionTypes.{expression_sort, sort_of_type}
use Rattle.spv_program.specs.Typing.{statement_ok, arms_ok, labels_in, may_count, counting_ok}
use Rattle.spv_program.proofs.SortFacts.{is_sort-true}
use Rattle.spv_program.specs.declared.typed.statements.Arm.{Arm}
use Rattle.spv_program.specs.typed.StatementViews.{arms_of, block_of}
use Rattle.spv_rule_soundness.specs.statements.Parts.{Passing, parts_pass, arms_pass}
use Rattle.spv_flow_parts.specs.for_loops.Counting.{number_head}
use Rattle.spv_flow_parts.specs.leaves.Parts.{IsTaken, Taking, passing}
use Rattle.spv_flow.specs.statement_rules.Rules.{IsTestOf, IsTested, IsCounted}
use Rattle.spv_flow_parts.specs.declared.bodies.Body.{Body}
use Rattle.spv_flow_parts.specs.Standing.{AreNotes}
use Rattle.spv_flow.specs.Walking.{AreTakenArms}

module _ (taking : Taking) (p : Program) (here : Option RoutineId) where
  abbrev r : Option Routine
  r = routine_in p here

  abbrev pass : Passing
  pass = passing p here taking

  test_taken : (e : Expression) (s : Sort) → taking.test e ≡ true → is_sort s (expression_sort p r e) ≡ true → IsTestOf taking p here e s
  test_taken e s taken h = record { taken = taken; sorted = is_sort-true s (expression_sort p r e) h }

  -- ---- blocks

  module _ (a b : Statement) (h : IsTaken p here taking (Sequence a b)) where
    first_taken : IsTaken p here taking a
    first_taken = record { typed = left_true (statement_ok p r a) _ h.typed; passes = left_true (parts_pass pass a) _ h.passes }

    others_taken : IsTaken p here taking b
    others_taken = record { typed = right_true (statement_ok p r a) _ h.typed; passes = right_true (parts_pass pass a) _ h.passes }

  pub each_taken : (ss : List Statement) (i : ℕ) (d : Statement) → i < length ss → IsTaken p here taking (block_of ss) → IsTaken p here taking (get_or ss i d)
  each_taken [] i d within h = absurd (omega arith)
  each_taken (s ∷ ss) zero d within h = first_taken s (block_of ss) h
  each_taken (s ∷ ss) (suc i) d within h = each_taken ss i d (omega arith) (others_taken s (block_of ss) h)

  -- ---- IF

  module _ (line : ℕ) (e : Expression) (a b : Statement) (h : IsTaken p here taking (If line e a b)) where
    ways_pass : (parts_pass pass a && parts_pass pass b) ≡ true
    ways_pass = right_true (taking.test e) _ h.passes

    ways_typed : (statement_ok p r a && statement_ok p r b) ≡ true
    ways_typed = right_true (is_sort sort.Bool (expression_sort p r e)) _ h.typed

    pub if_test : IsTestOf taking p here e sort.Bool
    if_test = test_taken e sort.Bool (left_true (taking.test e) _ h.passes) (left_true (is_sort sort.Bool (expression_sort p r e)) _ h.typed)

    pub if_first : IsTaken p here taking a
    if_first = record { typed = left_true (statement_ok p r a) _ ways_typed; passes = left_true (parts_pass pass a) _ ways_pass }

    pub if_second : IsTaken p here taking b
    if_second = record { typed = right_true (statement_ok p r a) _ ways_typed; passes = right_true (parts_pass pass a) _ ways_pass }

  -- ---- WHILE

  module _ (line : ℕ) (f : Option Annotation) (e : Expression) (s : Statement) (h : IsTaken p here taking (While line f e s)) where
    pub while_tested : IsTested taking p here e f
    while_tested = record {
      value = test_taken e sort.Bool (left_true (taking.test e) _ h.passes) (left_true (is_sort sort.Bool (expression_sort p r e)) _ (right_true (annotation_ok p (body_scope p r) f) _ h.typed));
      notes = left_true (annotation_ok p (body_scope p r) f) _ h.typed;
    }

    pub while_inside : IsTaken p here taking s
    while_inside = record {
      typed = right_true (is_sort sort.Bool (expression_sort p r e)) _ (right_true (annotation_ok p (body_scope p r) f) _ h.typed);
      passes = right_true (taking.test e) _ h.passes;
    }

  -- ---- REPEAT

  module _ (line : ℕ) (f : Option Annotation) (s : Statement) (e : Expression) (h : IsTaken p here taking (Repeat line f s e)) where
    pub repeat_tested : IsTested taking p here e f
    repeat_tested = record {
      value = test_taken e sort.Bool (left_true (taking.test e) _ h.passes) (left_true (is_sort sort.Bool (expression_sort p r e)) _ (right_true (annotation_ok p (body_scope p r) f) _ h.typed));
      notes = left_true (annotation_ok p (body_scope p r) f) _ h.typed;
    }

    pub repeat_inside : IsTaken p here taking s
    repeat_inside = record {
      typed = right_true (is_sort sort.Bool (expression_sort p r e)) _ (right_true (annotation_ok p (body_scope p r) f) _ h.typed);
      passes = right_true (taking.test e) _ h.passes;
    }

  -- ---- FOR

  module _ (line : ℕ) (f : Option Annotation) (count : Counting) (s : Statement) (h : IsTaken p here taking (For line f count s)) where
    parts_of_for : (taking.test count.first && (taking.test count.last && (pass.number count.first && parts_pass pass s))) ≡ true
    parts_of_for = right_true (counting_ok p r count s) _ h.passes

    behind_first : (taking.test count.last && (pass.number count.first && parts_pass pass s)) ≡ true
    behind_first = right_true (taking.test count.first) _ parts_of_for

    head_typed : counting_ok p r count s ≡ true
    head_typed = left_true (counting_ok p r count s) _ (right_true (annotation_ok p (body_scope p r) f) _ h.typed)

    variable_typed : is_sort sort.Int (sort_of_type p (name_type p r count.variable)) ≡ true
    variable_typed = left_true (is_sort sort.Int (sort_of_type p (name_type p r count.variable))) _ (right_true (may_count r count.variable) _ head_typed)

    pub for_notes : AreNotes p here f
    for_notes = left_true (annotation_ok p (body_scope p r) f) _ h.typed

    pub for_counted : IsCounted taking p here count
    for_counted =
        let ends = right_true (is_sort sort.Int (sort_of_type p (name_type p r count.variable))) _ (right_true (may_count r count.variable) _ head_typed) in
        record {
          first = test_taken count.first sort.Int (left_true (taking.test count.first) _ parts_of_for) (left_true (is_sort sort.Int (expression_sort p r count.first)) _ ends);
          last = test_taken count.last sort.Int (left_true (taking.test count.last) _ behind_first)
              (left_true (is_sort sort.Int (expression_sort p r count.last)) _ (right_true (is_sort sort.Int (expression_sort p r count.first)) _ ends));
        }

    pub for_variable : item_head p r (Variable count.variable) ≡ number_head count.variable
    for_variable = ap (λ (o : Option Sort). head.Var count.variable (sort_or_int o) 0) (is_sort-true sort.Int (sort_of_type p (name_type p r count.variable)) variable_typed)

    pub for_inside : IsTaken p here taking s
    for_inside = record {
      typed = right_true (counting_ok p r count s) _ (right_true (annotation_ok p (body_scope p r) f) _ h.typed);
      passes = right_true (pass.number count.first) _ (right_true (taking.test count.last) _ behind_first);
    }

  -- ---- ASSERT

  pub assert_notes : (a : Annotation) → IsTaken p here taking (Assert a) → AreNotes p here (Some a)
  assert_notes a h = h.typed

-- ---- CASE

module _ (taking : Taking) (p : Program) (body : Body) where
  abbrev own : Option Routine
  own = routine_in p body.here

  abbrev passed : Passing
  passed = passing p body.here taking

  module _ (line : ℕ) (e : Expression) (arms : Arms) (h : IsTaken p body.here taking (Case line e arms)) where
    pub case_value : IsTestOf taking p body.here e sort.Int
    case_value = record {
      taken = left_true (taking.test e) _ h.passes;
      sorted = is_sort-true sort.Int (expression_sort p own e) (left_true (is_sort sort.Int (expression_sort p own e)) _ h.typed);
    }

    pub case_arms : AreTakenArms taking p body arms
    case_arms = record {
      typed = right_true (all_differ int_eq (labels_in arms)) _ (right_true (is_sort sort.Int (expression_sort p own e)) _ h.typed);
      passes = right_true (passed.number e) _ (right_true (taking.test e) _ h.passes);
    }

  pub arm_taken : (a : Arm) → AreTakenArms taking p body (arms_of (a ∷ [])) → IsTaken p body.here taking a.body.value
  arm_taken a h = record { typed = left_true (statement_ok p own a.body.value) _ h.typed; passes = left_true (parts_pass passed a.body.value) _ h.passes }

  pub each_arm_taken : (arms : List Arm) (i : ℕ) (d : Arm) → i < length arms → AreTakenArms taking p body (arms_of arms) → AreTakenArms taking p body (arms_of (get_or arms i d ∷ []))
  each_arm_taken [] i d within h = absurd (omega arith)
  each_arm_taken (a ∷ arms) zero d within h = record {
    typed = both_true (left_true (statement_ok p own a.body.value) (arms_ok p own (arms_of arms)) h.typed) refl;
    passes = both_true (left_true (parts_pass passed a.body.value) (arms_pass passed (arms_of arms)) h.passes) refl;
  }
  each_arm_taken (a ∷ arms) (suc i) d within h =
      each_arm_taken arms i d (omega arith) (record {
        typed = right_true (statement_ok p own a.body.value) (arms_ok p own (arms_of arms)) h.typed;
        passes = right_true (parts_pass passed a.body.value) (arms_pass passed (arms_of arms)) h.passes;
      })
