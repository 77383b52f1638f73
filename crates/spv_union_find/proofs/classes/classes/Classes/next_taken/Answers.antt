use Rattle.std.proofs.Common.{sym, ◌∙◌, arith}
use Rattle.spv_union_find.proofs.classes.Moments.{next_first, next_alone, next_turned}
use Rattle.spv_union_find.proofs.classes.classes.Classes.next_taken.Goals as goal

pub returns-then-i-j : goal.returns-then-i-j
returns-then-i-j c = next_first _ _ _ _ _ (sym c.taken_at.ensures ∙ c.in-Some.is) (sym c.taken_at-in-Some.ensures ∙ c.in-Some-taken_at.is) (let t = c.if-i-j.true in omega (arith, t))

pub returns-else-i-j : goal.returns-else-i-j
returns-else-i-j c = next_turned _ _ _ _ (next_first _ _ _ _ _ (sym c.taken_at-in-Some.ensures ∙ c.in-Some-taken_at.is) (sym c.taken_at.ensures ∙ c.in-Some.is) (let t = c.if-i-j.false in omega (arith, t)))

pub returns-in-None-taken_at : goal.returns-in-None-taken_at
returns-in-None-taken_at c = next_alone _ _ _ _ (sym c.taken_at.ensures ∙ c.in-Some.is) (sym c.taken_at-in-Some.ensures ∙ c.in-None-taken_at.is)

pub returns-in-Some-taken_at-2 : goal.returns-in-Some-taken_at-2
returns-in-Some-taken_at-2 c = next_turned _ _ _ _ (next_alone _ _ _ _ (sym c.taken_at-in-None.ensures ∙ c.in-Some-taken_at-2.is) (sym c.taken_at.ensures ∙ c.in-None.is))
