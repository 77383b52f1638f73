use Rattle.spv_grammar.proofs.first_sets.Small.{whole_begins, nothing_begins, cut_off_wrong, without_name_wrong}
use Rattle.spv_grammar.proofs.first_sets.laws.law_examples.Goals as goal

pub returns-clause-no_tokens : goal.returns-clause-no_tokens
returns-clause-no_tokens c = nothing_begins

pub returns-clause-whole : goal.returns-clause-whole
returns-clause-whole c = whole_begins

pub returns-clause-at_the_end : goal.returns-clause-at_the_end
returns-clause-at_the_end c = cut_off_wrong

pub returns-clause-at_a_token : goal.returns-clause-at_a_token
returns-clause-at_a_token c = without_name_wrong
