use Rattle.spv_tableau_rules.proofs.constraints.Sourcing.{none_sourced, one_more_sourced, first_sourced, kept_sourced, kept_with_facts, kept_in_step}
use Rattle.spv_tableau_rules.proofs.constraints.laws.law_sources.Goals as goal

pub returns-clause-none : goal.returns-clause-none
returns-clause-none c = none_sourced

pub returns-clause-one_more : goal.returns-clause-one_more
returns-clause-one_more c = one_more_sourced

pub returns-clause-first : goal.returns-clause-first
returns-clause-first c = λ a facts forms bounds sources n are. first_sourced a facts forms bounds sources are n

pub returns-clause-read : goal.returns-clause-read
returns-clause-read c = kept_sourced

pub returns-clause-facts : goal.returns-clause-facts
returns-clause-facts c = kept_with_facts

pub returns-clause-step : goal.returns-clause-step
returns-clause-step c = kept_in_step
