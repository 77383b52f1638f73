use Rattle.std.proofs.Common.{refl}
use Rattle.std.proofs.lemmas.Bool.{false≢true}
use Rattle.spv_whole.specs.Fraction as fraction
use Rattle.spv_whole.specs.Gcd.{gcd}
use Rattle.spv_models.specs.leaf_models.Examples as example
use Rattle.spv_models.specs.leaf_models.Tables.{formulas_of}
use Rattle.spv_models.proofs.leaf_models.Testing.{tests-show}
use Rattle.spv_models.proofs.leaf_models.laws.law_example.Goals as goal

pub returns-clause-atoms : goal.returns-clause-atoms
returns-clause-atoms c = refl

pub returns-clause-questions : goal.returns-clause-questions
returns-clause-questions c = refl

pub returns-clause-is_leaf : goal.returns-clause-is_leaf
unfolding fraction.sum fraction.product fraction.lowest gcd
returns-clause-is_leaf c =
    tests-show example.no_shapes example.decls (formulas_of example.condition) example.leaf.given (example.class_in example.classes) example.leaf.point refl refl refl refl refl refl refl refl refl refl

pub returns-clause-table : goal.returns-clause-table
returns-clause-table c = refl

pub returns-clause-hypothesis : goal.returns-clause-hypothesis
unfolding gcd
returns-clause-hypothesis c = refl

pub returns-clause-goal : goal.returns-clause-goal
unfolding gcd
returns-clause-goal c = refl

pub returns-clause-each_equation_has_a_truth : goal.returns-clause-each_equation_has_a_truth
returns-clause-each_equation_has_a_truth c leaf = false≢true (leaf.full example.arguments_equal refl)

pub returns-clause-what_differs_has_an_order : goal.returns-clause-what_differs_has_an_order
unfolding fraction.sum fraction.product fraction.lowest gcd
returns-clause-what_differs_has_an_order c leaf = false≢true (leaf.point.orders (example.f_of example.y) (example.f_of example.x) refl refl refl)
