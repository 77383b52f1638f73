use Rattle.spv_models.proofs.leaf_models.Classes.{class-one, class-differs}
use Rattle.spv_models.proofs.leaf_models.Falsifying.{truth-there, truth-value}
use Rattle.spv_models.proofs.leaf_models.Values.{right}
use Rattle.spv_models.proofs.leaf_models.laws.law_values.Goals as goal

pub returns-clause-numbers : goal.returns-clause-numbers
returns-clause-numbers c shapes decls fs leaf ok t x m h e = ((right shapes decls fs leaf ok t m).numbers h).is x e

pub returns-clause-truths_there : goal.returns-clause-truths_there
returns-clause-truths_there c = truth-there

pub returns-clause-truths : goal.returns-clause-truths
returns-clause-truths c = truth-value

pub returns-clause-others : goal.returns-clause-others
returns-clause-others c shapes decls fs leaf ok t m h k = (right shapes decls fs leaf ok t m).others h k

pub returns-clause-classes_differ : goal.returns-clause-classes_differ
returns-clause-classes_differ c same acting ts ok s t h e = class-differs same acting ok ts s t h e

pub returns-clause-classes_are_one : goal.returns-clause-classes_are_one
returns-clause-classes_are_one c same acting ts ok s t h = class-one same acting ok ts s t h
