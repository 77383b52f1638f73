-- Statements as trees of numbers, and back.
use Rattle.std.specs.Prelude.{ℕ, zero, suc, ◌≡◌, refl}
use base.Stored.{Gv, gnil, gnum, gcons, num}
use Rattle.spv_logic.specs.list.Ways.{Way, head, tail, way_ℤ, way_option, way_list}
use Rattle.spv_program.specs.declared.operators.Direction.{Direction}
use Rattle.spv_program.specs.declared.operators.Direction.TheVariants as direction
use Rattle.spv_program.specs.Statements.{Counting, Statement, Arms, Empty, Assign, Perform, New, Sequence, If, Case, While, Repeat, For, Assert, no_arms, arm}
use Rattle.spv_program.specs.typed.Model.Codes.{way_type, way_symbol}
use Rattle.spv_program.specs.typed.Model.ExpressionCodes.{way_expression, way_designator, way_call}
use Rattle.spv_program.specs.typed.Model.FormulaCodes.{way_annotation}

abbrev direction_to : Direction → Gv
direction_to direction.Up = gnum 0
direction_to direction.Down = gnum 1

abbrev direction_by : ℕ → Direction
direction_by zero = direction.Up
direction_by _ = direction.Down

pub direction_same : (d : Direction) → direction_by (num (direction_to d)) ≡ d
direction_same direction.Up = refl
direction_same direction.Down = refl

abbrev pub way_counting : Way Counting
way_counting = record {
  to = λ c. gcons (way_symbol.to c.variable) (gcons (direction_to c.direction) (gcons (way_expression.to c.first) (way_expression.to c.last)));
  back = λ g. record {
    variable = way_symbol.back (head g);
    direction = direction_by (num (head (tail g)));
    first = way_expression.back (head (tail (tail g)));
    last = way_expression.back (tail (tail (tail g)));
  };
  same = λ c i. record {
    variable = c.variable;
    direction = direction_same c.direction i;
    first = way_expression.same c.first i;
    last = way_expression.same c.last i;
  };
}

abbrev mutual
  statement_to : Statement → Gv
  statement_to Empty = gcons (gnum 0) gnil
  statement_to (Assign a b) = gcons (gnum 1) (gcons (way_designator.to a) (way_expression.to b))
  statement_to (Perform a) = gcons (gnum 2) (way_call.to a)
  statement_to (New a b c) = gcons (gnum 3) (gcons (gnum a) (gcons (way_designator.to b) (way_type.to c)))
  statement_to (Sequence a b) = gcons (gnum 4) (gcons (statement_to a) (statement_to b))
  statement_to (If a b c d) = gcons (gnum 5) (gcons (gnum a) (gcons (way_expression.to b) (gcons (statement_to c) (statement_to d))))
  statement_to (Case a b c) = gcons (gnum 6) (gcons (gnum a) (gcons (way_expression.to b) (arms_to c)))
  statement_to (While a b c d) = gcons (gnum 7) (gcons (gnum a) (gcons ((way_option way_annotation).to b) (gcons (way_expression.to c) (statement_to d))))
  statement_to (Repeat a b c d) = gcons (gnum 8) (gcons (gnum a) (gcons ((way_option way_annotation).to b) (gcons (statement_to c) (way_expression.to d))))
  statement_to (For a b c d) = gcons (gnum 9) (gcons (gnum a) (gcons ((way_option way_annotation).to b) (gcons (way_counting.to c) (statement_to d))))
  statement_to (Assert a) = gcons (gnum 10) (way_annotation.to a)

  arms_to : Arms → Gv
  arms_to no_arms = gcons (gnum 0) gnil
  arms_to (arm a b c) = gcons (gnum 1) (gcons ((way_list way_ℤ).to a) (gcons (statement_to b) (arms_to c)))

abbrev mutual
  statement_back : Gv → Statement
  statement_back (gcons (gnum zero) rest) = Empty
  statement_back (gcons (gnum (suc zero)) (gcons a b)) = Assign (way_designator.back a) (way_expression.back b)
  statement_back (gcons (gnum (suc (suc zero))) a) = Perform (way_call.back a)
  statement_back (gcons (gnum (suc (suc (suc zero)))) (gcons a (gcons b c))) = New (num a) (way_designator.back b) (way_type.back c)
  statement_back (gcons (gnum (suc (suc (suc (suc zero))))) (gcons a b)) = Sequence (statement_back a) (statement_back b)
  statement_back (gcons (gnum (suc (suc (suc (suc (suc zero)))))) (gcons a (gcons b (gcons c d)))) = If (num a) (way_expression.back b) (statement_back c) (statement_back d)
  statement_back (gcons (gnum (suc (suc (suc (suc (suc (suc zero))))))) (gcons a (gcons b c))) = Case (num a) (way_expression.back b) (arms_back c)
  statement_back (gcons (gnum (suc (suc (suc (suc (suc (suc (suc zero)))))))) (gcons a (gcons b (gcons c d)))) = While (num a) ((way_option way_annotation).back b) (way_expression.back c) (statement_back d)
  statement_back (gcons (gnum (suc (suc (suc (suc (suc (suc (suc (suc zero))))))))) (gcons a (gcons b (gcons c d)))) = Repeat (num a) ((way_option way_annotation).back b) (statement_back c) (way_expression.back d)
  statement_back (gcons (gnum (suc (suc (suc (suc (suc (suc (suc (suc (suc zero)))))))))) (gcons a (gcons b (gcons c d)))) = For (num a) ((way_option way_annotation).back b) (way_counting.back c) (statement_back d)
  statement_back (gcons (gnum (suc (suc (suc (suc (suc (suc (suc (suc (suc (suc zero))))))))))) a) = Assert (way_annotation.back a)
  statement_back _ = Empty

  arms_back : Gv → Arms
  arms_back (gcons (gnum zero) rest) = no_arms
  arms_back (gcons (gnum (suc zero)) (gcons a (gcons b c))) = arm ((way_list way_ℤ).back a) (statement_back b) (arms_back c)
  arms_back _ = no_arms

mutual
  pub statement_same : (x : Statement) → statement_back (statement_to x) ≡ x
  statement_same Empty = refl
  statement_same (Assign a b) = λ i. Assign (way_designator.same a i) (way_expression.same b i)
  statement_same (Perform a) = λ i. Perform (way_call.same a i)
  statement_same (New a b c) = λ i. New a (way_designator.same b i) (way_type.same c i)
  statement_same (Sequence a b) = λ i. Sequence (statement_same a i) (statement_same b i)
  statement_same (If a b c d) = λ i. If a (way_expression.same b i) (statement_same c i) (statement_same d i)
  statement_same (Case a b c) = λ i. Case a (way_expression.same b i) (arms_same c i)
  statement_same (While a b c d) = λ i. While a ((way_option way_annotation).same b i) (way_expression.same c i) (statement_same d i)
  statement_same (Repeat a b c d) = λ i. Repeat a ((way_option way_annotation).same b i) (statement_same c i) (way_expression.same d i)
  statement_same (For a b c d) = λ i. For a ((way_option way_annotation).same b i) (way_counting.same c i) (statement_same d i)
  statement_same (Assert a) = λ i. Assert (way_annotation.same a i)

  pub arms_same : (x : Arms) → arms_back (arms_to x) ≡ x
  arms_same no_arms = refl
  arms_same (arm a b c) = λ i. arm ((way_list way_ℤ).same a i) (statement_same b i) (arms_same c i)

abbrev pub way_statement : Way Statement
way_statement = record { to = statement_to; back = statement_back; same = statement_same }
