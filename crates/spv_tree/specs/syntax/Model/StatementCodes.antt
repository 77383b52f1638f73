-- Statements as trees of numbers, and back.
use Rattle.std.specs.Prelude.{zero, suc, ◌≡◌, refl}
use base.Stored.{Gv, gnil, gnum, gcons, num}
use Rattle.spv_logic.specs.list.Ways.{Way, way_option}
use Rattle.spv_tree.specs.syntax.Model.Codes.{way_name, way_constant, way_several, way_direction}
use Rattle.spv_tree.specs.syntax.Model.FormulaCodes.{way_formula, way_designator}
use Rattle.spv_tree.specs.syntax.Statements.{Statement, empty, assignment, call, creation, compound, conditional, selection, repetition, assertion, Otherwise, nothing_otherwise, otherwise, Block, block, MoreStatements, no_more_statements, more_statements, Arm, no_arm, arm, MoreArms, no_more_arms, more_arms, Loop, while_loop, repeat_loop, for_loop}

abbrev mutual
  statement_to : Statement → Gv
  statement_to (empty a) = gcons (gnum 0) (gnum a)
  statement_to (assignment a b c) = gcons (gnum 1) (gcons (gnum a) (gcons (way_designator.to b) (way_formula.to c)))
  statement_to (call a b c) = gcons (gnum 2) (gcons (gnum a) (gcons (way_name.to b) ((way_option (way_several way_formula)).to c)))
  statement_to (creation a b) = gcons (gnum 3) (gcons (gnum a) (way_designator.to b))
  statement_to (compound a b) = gcons (gnum 4) (gcons (gnum a) (block_to b))
  statement_to (conditional a b c d) = gcons (gnum 5) (gcons (gnum a) (gcons (way_formula.to b) (gcons (statement_to c) (otherwise_to d))))
  statement_to (selection a b c d) = gcons (gnum 6) (gcons (gnum a) (gcons (way_formula.to b) (gcons (arm_to c) (more_arms_to d))))
  statement_to (repetition a b c) = gcons (gnum 7) (gcons (gnum a) (gcons ((way_option way_formula).to b) (loop_to c)))
  statement_to (assertion a b) = gcons (gnum 8) (gcons (gnum a) (way_formula.to b))

  otherwise_to : Otherwise → Gv
  otherwise_to nothing_otherwise = gnil
  otherwise_to (otherwise a) = gcons (statement_to a) gnil

  block_to : Block → Gv
  block_to (block a b c) = gcons (gnum a) (gcons (statement_to b) (more_statements_to c))

  more_statements_to : MoreStatements → Gv
  more_statements_to no_more_statements = gnil
  more_statements_to (more_statements a b) = gcons (statement_to a) (more_statements_to b)

  arm_to : Arm → Gv
  arm_to (no_arm a) = gcons (gnum 0) (gnum a)
  arm_to (arm a b c) = gcons (gnum 1) (gcons (gnum a) (gcons ((way_several way_constant).to b) (statement_to c)))

  more_arms_to : MoreArms → Gv
  more_arms_to no_more_arms = gnil
  more_arms_to (more_arms a b) = gcons (arm_to a) (more_arms_to b)

  loop_to : Loop → Gv
  loop_to (while_loop a b c) = gcons (gnum 0) (gcons (gnum a) (gcons (way_formula.to b) (statement_to c)))
  loop_to (repeat_loop a b c d) = gcons (gnum 1) (gcons (gnum a) (gcons (statement_to b) (gcons (more_statements_to c) (way_formula.to d))))
  loop_to (for_loop a b c d e f) = gcons (gnum 2) (gcons (gnum a) (gcons (way_name.to b) (gcons (way_formula.to c) (gcons (way_direction.to d) (gcons (way_formula.to e) (statement_to f))))))

abbrev mutual
  statement_back : Gv → Statement
  statement_back (gcons (gnum zero) a) = empty (num a)
  statement_back (gcons (gnum (suc zero)) (gcons a (gcons b c))) = assignment (num a) (way_designator.back b) (way_formula.back c)
  statement_back (gcons (gnum (suc (suc zero))) (gcons a (gcons b c))) = call (num a) (way_name.back b) ((way_option (way_several way_formula)).back c)
  statement_back (gcons (gnum (suc (suc (suc zero)))) (gcons a b)) = creation (num a) (way_designator.back b)
  statement_back (gcons (gnum (suc (suc (suc (suc zero))))) (gcons a b)) = compound (num a) (block_back b)
  statement_back (gcons (gnum (suc (suc (suc (suc (suc zero)))))) (gcons a (gcons b (gcons c d)))) = conditional (num a) (way_formula.back b) (statement_back c) (otherwise_back d)
  statement_back (gcons (gnum (suc (suc (suc (suc (suc (suc zero))))))) (gcons a (gcons b (gcons c d)))) = selection (num a) (way_formula.back b) (arm_back c) (more_arms_back d)
  statement_back (gcons (gnum (suc (suc (suc (suc (suc (suc (suc zero)))))))) (gcons a (gcons b c))) = repetition (num a) ((way_option way_formula).back b) (loop_back c)
  statement_back (gcons (gnum (suc (suc (suc (suc (suc (suc (suc (suc zero))))))))) (gcons a b)) = assertion (num a) (way_formula.back b)
  statement_back _ = empty 0

  otherwise_back : Gv → Otherwise
  otherwise_back (gcons a none) = otherwise (statement_back a)
  otherwise_back _ = nothing_otherwise

  block_back : Gv → Block
  block_back (gcons a (gcons b c)) = block (num a) (statement_back b) (more_statements_back c)
  block_back _ = block 0 (empty 0) no_more_statements

  more_statements_back : Gv → MoreStatements
  more_statements_back (gcons a b) = more_statements (statement_back a) (more_statements_back b)
  more_statements_back _ = no_more_statements

  arm_back : Gv → Arm
  arm_back (gcons (gnum zero) a) = no_arm (num a)
  arm_back (gcons (gnum (suc zero)) (gcons a (gcons b c))) = arm (num a) ((way_several way_constant).back b) (statement_back c)
  arm_back _ = no_arm 0

  more_arms_back : Gv → MoreArms
  more_arms_back (gcons a b) = more_arms (arm_back a) (more_arms_back b)
  more_arms_back _ = no_more_arms

  loop_back : Gv → Loop
  loop_back (gcons (gnum zero) (gcons a (gcons b c))) = while_loop (num a) (way_formula.back b) (statement_back c)
  loop_back (gcons (gnum (suc zero)) (gcons a (gcons b (gcons c d)))) = repeat_loop (num a) (statement_back b) (more_statements_back c) (way_formula.back d)
  loop_back (gcons (gnum (suc (suc zero))) (gcons a (gcons b (gcons c (gcons d (gcons e f)))))) = for_loop (num a) (way_name.back b) (way_formula.back c) (way_direction.back d) (way_formula.back e) (statement_back f)
  loop_back _ = repeat_loop 0 (empty 0) no_more_statements (way_formula.back gnil)

mutual
  pub statement_same : (x : Statement) → statement_back (statement_to x) ≡ x
  statement_same (empty a) = refl
  statement_same (assignment a b c) = λ i. assignment a (way_designator.same b i) (way_formula.same c i)
  statement_same (call a b c) = λ i. call a b ((way_option (way_several way_formula)).same c i)
  statement_same (creation a b) = λ i. creation a (way_designator.same b i)
  statement_same (compound a b) = λ i. compound a (block_same b i)
  statement_same (conditional a b c d) = λ i. conditional a (way_formula.same b i) (statement_same c i) (otherwise_same d i)
  statement_same (selection a b c d) = λ i. selection a (way_formula.same b i) (arm_same c i) (more_arms_same d i)
  statement_same (repetition a b c) = λ i. repetition a ((way_option way_formula).same b i) (loop_same c i)
  statement_same (assertion a b) = λ i. assertion a (way_formula.same b i)

  otherwise_same : (x : Otherwise) → otherwise_back (otherwise_to x) ≡ x
  otherwise_same nothing_otherwise = refl
  otherwise_same (otherwise a) = λ i. otherwise (statement_same a i)

  pub block_same : (x : Block) → block_back (block_to x) ≡ x
  block_same (block a b c) = λ i. block a (statement_same b i) (more_statements_same c i)

  more_statements_same : (x : MoreStatements) → more_statements_back (more_statements_to x) ≡ x
  more_statements_same no_more_statements = refl
  more_statements_same (more_statements a b) = λ i. more_statements (statement_same a i) (more_statements_same b i)

  pub arm_same : (x : Arm) → arm_back (arm_to x) ≡ x
  arm_same (no_arm a) = refl
  arm_same (arm a b c) = λ i. arm a ((way_several way_constant).same b i) (statement_same c i)

  more_arms_same : (x : MoreArms) → more_arms_back (more_arms_to x) ≡ x
  more_arms_same no_more_arms = refl
  more_arms_same (more_arms a b) = λ i. more_arms (arm_same a i) (more_arms_same b i)

  pub loop_same : (x : Loop) → loop_back (loop_to x) ≡ x
  loop_same (while_loop a b c) = λ i. while_loop a (way_formula.same b i) (statement_same c i)
  loop_same (repeat_loop a b c d) = λ i. repeat_loop a (statement_same b i) (more_statements_same c i) (way_formula.same d i)
  loop_same (for_loop a b c d e f) = λ i. for_loop a b (way_formula.same c i) (way_direction.same d i) (way_formula.same e i) (statement_same f i)

abbrev pub way_statement : Way Statement
way_statement = record { to = statement_to; back = statement_back; same = statement_same }

abbrev pub way_block : Way Block
way_block = record { to = block_to; back = block_back; same = block_same }

abbrev pub way_arm : Way Arm
way_arm = record { to = arm_to; back = arm_back; same = arm_same }

abbrev pub way_loop : Way Loop
way_loop = record { to = loop_to; back = loop_back; same = loop_same }
