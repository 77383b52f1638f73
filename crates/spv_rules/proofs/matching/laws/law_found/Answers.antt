use Rattle.spv_rules.proofs.matching.Fitting.{found_instances_say, found_terms_are_arguments, found_instances_are_once}
use Rattle.spv_rules.proofs.matching.laws.law_found.Goals as goal

pub returns-clause-say : goal.returns-clause-say
returns-clause-say c = found_instances_say

pub returns-clause-arguments : goal.returns-clause-arguments
returns-clause-arguments c = found_terms_are_arguments

pub returns-clause-once : goal.returns-clause-once
returns-clause-once c = found_instances_are_once
