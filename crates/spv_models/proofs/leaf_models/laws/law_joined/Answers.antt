use Rattle.std.proofs.Common.{◌≡◌, true}
use Rattle.spv_models.proofs.leaf_models.Classes.{decided-same, literals-told, sorts-kept}
use Rattle.spv_models.proofs.leaf_models.Labels.{label-tree, labels-same}
use Rattle.spv_models.proofs.leaf_models.laws.law_joined.Goals as goal

pub returns-clause-trees : goal.returns-clause-trees
returns-clause-trees c = decided-same

pub returns-clause-literals : goal.returns-clause-literals
returns-clause-literals c subterms questions atoms given added told same decided h = literals-told added told same decided subterms questions atoms given h

pub returns-clause-sorts : goal.returns-clause-sorts
returns-clause-sorts c = sorts-kept

pub returns-clause-labels : goal.returns-clause-labels
returns-clause-labels c a ok label ids told exact ts have = labels-same a ok label ids (λ s t. told s t ≡ true) exact ts have

pub returns-clause-kept : goal.returns-clause-kept
returns-clause-kept c a ok label ids told exact t l = label-tree a ok label ids (λ s t. told s t ≡ true) exact t l
