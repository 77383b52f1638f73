use Rattle.std.proofs.Common.{refl, sym}
use Rattle.std.proofs.lemmas.List.{take_rest}
use Rattle.spv_lexer.specs.Front.{comment}
use Rattle.spv_lexer.proofs.front.comment.Goals as goal

pub returns-in-Some-clause-front : goal.returns-in-Some-clause-front
unfolding comment
returns-in-Some-clause-front c = rw (sym (rw take_rest at c.in-Some.ensures.end)) refl

pub returns-in-None-clause-front : goal.returns-in-None-clause-front
unfolding comment
returns-in-None-clause-front c = rw (sym (rw take_rest at c.in-None.ensures.end)) refl
