use Rattle.spv_verify.proofs.Both.{not_both, is_one_program, is_one_list, is_one_listing}
use Rattle.spv_verify.proofs.verifying.law_not_both.Goals as goal

pub returns-clause-both : goal.returns-clause-both
returns-clause-both c = not_both c.law_one_tree.ensures.programs c.law_one_tree.ensures.formula_texts c.law_one_tree.ensures.rules c.law_limits.ensures.within

pub returns-clause-one : goal.returns-clause-one
returns-clause-one c = is_one_program c.law_one_tree.ensures.programs c.law_one_tree.ensures.formula_texts

pub returns-clause-rules : goal.returns-clause-rules
returns-clause-rules c = is_one_list c.law_one_tree.ensures.rules

pub returns-clause-listing : goal.returns-clause-listing
returns-clause-listing c = is_one_listing c.law_exact.ensures.one
