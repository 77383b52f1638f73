use Rattle.spv_expression_terms.proofs.makeable_terms.Scopes.{body_sorts, entry_sorts, exit_sorts}
use Rattle.spv_expression_terms.proofs.makeable_terms.laws.law_scopes.Goals as goal

pub returns-clause-bodies : goal.returns-clause-bodies
returns-clause-bodies c = body_sorts

pub returns-clause-entries : goal.returns-clause-entries
returns-clause-entries c = entry_sorts

pub returns-clause-exits : goal.returns-clause-exits
returns-clause-exits c = exit_sorts
