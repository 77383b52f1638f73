use Rattle.std.proofs.Common.{ℕ, refl, subst, Result, Ok, Err, OnOk}
use Rattle.spv_derivations.proofs.derivation.Bridges.{if_ok}
use Rattle.spv_share.specs.States.{IsAnswer}
use Rattle.spv_search.proofs.stating.state.Goals as goal

always : {T E : Type 0} {P : Type 0} (r : Result T E) → P → OnOk r P
always (Ok t) p = p
always (Err e) p = tt

pub returns-clause-stated : goal.returns-clause-stated
returns-clause-stated c =
    always c.state.result
    (record { course_is = refl; known_is = refl; lists_are = refl; both = c.state.ensures.both; told_is = c.state.ensures.told; levels = c.state.ensures.levels; stays = c.state.ensures.stays })

pub returns-clause-answer : goal.returns-clause-answer
returns-clause-answer c = if_ok c.state.result c.state.ensures.answer (λ s h. subst (λ (n : ℕ). IsAnswer c.args.terms.now c.state.new.self n s) c.in_ok-facts.ensures h)
