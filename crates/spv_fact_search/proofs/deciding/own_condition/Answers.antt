use Rattle.std.proofs.Common.{Some, None, ◌++◌, length, take, refl, ap, ◌∙◌}
use Rattle.spv_fact_search.proofs.Owning.{denied-in, never-none, own-claim}
use Rattle.spv_fact_search.proofs.deciding.own_condition.Goals as goal

pub negated-requires : goal.negated-requires
negated-requires c = denied-in c.args.from.now c.args.whole.now c.args.terms.now c.args.condition.now c.requires.given c.requires.claim (length c.as_slice-hypotheses.result.now) (ap length c.as_slice-hypotheses.ensures) c.as_slice-given.result.now c.as_slice-given.ensures _

pub unreachable-requires : goal.unreachable-requires
unreachable-requires c =
    never-none c.args.from.now c.args.whole.now c.args.terms.now c.args.condition.now c.requires.given c.requires.claim (length c.as_slice-hypotheses.result.now) (ap length c.as_slice-hypotheses.ensures) c.as_slice-given.result.now c.as_slice-given.ensures _ None c.in-None.ensures.value refl

pub returns : goal.returns
returns c =
    own-claim c.args.from.now c.args.whole.now c.args.terms.now c.args.condition.now c.requires.given c.requires.claim (length c.as_slice-hypotheses.result.now) (ap length c.as_slice-hypotheses.ensures) c.as_slice-given.result.now c.as_slice-given.ensures _ (Some c.in-Some.goal) c.in-Some.ensures.value
    c.in-Some.goal refl (c.in-Some.ensures.in_range c.in-Some.goal refl) c.from_vec.result
    (c.from_vec.ensures ∙ c.in_ok-extend_from_slice.ensures.items ∙ (λ i. c.new-own.ensures.items i ++ take (length c.as_slice-hypotheses.result.now) (c.as_slice-given.ensures i))) c.requires.origin
