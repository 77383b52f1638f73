use Rattle.std.proofs.Common.{refl, IfOk, subst, sym, ◌∙◌}
use Rattle.spv_congruence.specs.Keep.{Enters}
use Rattle.spv_congruence.proofs.Nexts.{next_first_in, next_same, next_apart, next_is_join, next_fits}
use Rattle.spv_congruence.proofs.kept.Kept.enter_next.Goals as goal

pub label-requires : goal.label-requires
label-requires c = next_first_in _ _ c.args.place _ _ c.enter.ensures.same (subst (λ r. IfOk r (Enters c.args.self.now c.enter.new.self c.term_at-t.result)) c.unwrap-first.ensures c.enter.ensures.ok) c.requires.fits c.law_joins.ensures c.requires.graph c.term_at-t.ensures

pub join_of-join-requires-clause-right : goal.join_of-join-requires-clause-right
join_of-join-requires-clause-right c = next_first_in _ _ c.args.place _ _ c.enter.ensures.same (subst (λ r. IfOk r (Enters c.args.self.now c.enter.new.self c.term_at-t.result)) c.unwrap-first.ensures c.enter.ensures.ok) c.requires.fits c.law_joins.ensures c.requires.graph c.term_at-t.ensures

pub add_join-requires : goal.add_join-requires
add_join-requires c = next_is_join _ _ c.args.place _ _ c.enter.ensures.same (subst (λ r. IfOk r (Enters c.args.self.now c.enter.new.self c.term_at-t.result)) c.unwrap-first.ensures c.enter.ensures.ok) c.requires.fits c.law_joins.ensures c.requires.graph c.term_at-t.ensures
    _ _ (λ f. c.if-label.true (c.label.ensures ∙ (f ∙ sym c.label-2.ensures))) c.join_of-join.ensures refl

pub returns-then-label-clause-fits : goal.returns-then-label-clause-fits
returns-then-label-clause-fits c = next_fits _ _ c.args.place _ _ c.enter.ensures.same (subst (λ r. IfOk r (Enters c.args.self.now c.enter.new.self c.term_at-t.result)) c.unwrap-first.ensures c.enter.ensures.ok) c.requires.fits c.law_joins.ensures c.requires.graph c.term_at-t.ensures
    _ _ (λ f. c.if-label.true (c.label.ensures ∙ (f ∙ sym c.label-2.ensures))) c.join_of-join.ensures c.add_join.ensures

pub returns-then-label-clause-next : goal.returns-then-label-clause-next
returns-then-label-clause-next c = next_apart _ _ c.args.place _ _ c.enter.ensures.same (subst (λ r. IfOk r (Enters c.args.self.now c.enter.new.self c.term_at-t.result)) c.unwrap-first.ensures c.enter.ensures.ok) c.requires.fits c.law_joins.ensures c.requires.graph c.term_at-t.ensures
    _ _ (λ f. c.if-label.true (c.label.ensures ∙ (f ∙ sym c.label-2.ensures))) c.join_of-join.ensures c.add_join.ensures

pub returns-else-label-clause-next : goal.returns-else-label-clause-next
returns-else-label-clause-next c = next_same _ _ c.args.place _ _ c.enter.ensures.same (subst (λ r. IfOk r (Enters c.args.self.now c.enter.new.self c.term_at-t.result)) c.unwrap-first.ensures c.enter.ensures.ok) c.requires.fits c.law_joins.ensures c.requires.graph c.term_at-t.ensures
    (sym c.label.ensures ∙ (c.if-label.false ∙ c.label-2.ensures))
