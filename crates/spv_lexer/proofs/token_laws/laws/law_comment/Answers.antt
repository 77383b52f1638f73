use Rattle.spv_lexer.proofs.token_laws.Comments.{gap-between, braces-front, stars-front}
use Rattle.spv_lexer.proofs.token_laws.laws.law_comment.Goals as goal

pub returns-clause-between : goal.returns-clause-between
returns-clause-between c = gap-between

pub returns-clause-braces : goal.returns-clause-braces
returns-clause-braces c = braces-front

pub returns-clause-stars : goal.returns-clause-stars
returns-clause-stars c = stars-front
