use Rattle.std.proofs.Common.{[], ◌∷◌}
use Rattle.spv_assign.proofs.Growing.{AreIn-Extends}
use Rattle.spv_flow_parts.proofs.Conditions.{replaced_comes}
use Rattle.spv_flow_parts.proofs.calls.Wholes.{gives_makes, gives_at}
use Rattle.spv_flow_parts.proofs.assigning.Putting.{whole_fits, whole_stops, put_pair, put_done}
use Rattle.spv_flow_parts.proofs.assigning.with_place.Goals as goal

pub whole_with-whole-requires-clause-sorts : goal.whole_with-whole-requires-clause-sorts
whole_with-whole-requires-clause-sorts c = whole_fits c.args.target.now c.args.v c.args.terms.now c.law_arena.ensures c.requires.target c.requires.v c.requires.sorts

pub returns-in_err-whole : goal.returns-in_err-whole
returns-in_err-whole c =
    whole_stops c.args.target.now c.args.v c.args.terms.now c.law_arena.ensures c.requires.target c.requires.v c.requires.sorts c.args.rest.items c.requires.rest
    c.from_residual.result c.in_err-whole.field-0.0 c.whole_with-whole.new.terms c.from_residual.ensures.1 c.whole_with-whole.ensures.grows
    (c.in_err-whole.ensures.walk c.args.terms.now (_ ∷ []) (gives_makes c.args.terms.now c.whole_with-whole.new.terms c.whole_with-whole.result _ c.whole_with-whole.ensures))

pub replaced-requires-clause-rest : goal.replaced-requires-clause-rest
replaced-requires-clause-rest c = AreIn-Extends c.whole_with-whole.ensures.grows c.args.rest.items c.requires.rest

pub replaced-requires-clause-pairs : goal.replaced-requires-clause-pairs
replaced-requires-clause-pairs c =
    put_pair c.args.target.now c.args.v c.args.terms.now c.law_arena.ensures c.requires.target c.requires.v c.requires.sorts c.args.rest.items c.requires.rest
    c.whole_with-whole.new.terms c.in_ok-whole.whole (gives_at c.whole_with-whole.result c.in_ok-whole.whole _ c.args.terms.now c.whole_with-whole.new.terms c.in_ok-whole.ensures.same c.whole_with-whole.ensures)
    (c.in_ok-whole.ensures.walk c.args.terms.now (_ ∷ []) (gives_makes c.args.terms.now c.whole_with-whole.new.terms c.whole_with-whole.result _ c.whole_with-whole.ensures))

pub returns : goal.returns
returns c =
    put_done c.args.target.now c.args.v c.args.terms.now c.law_arena.ensures c.requires.target c.requires.v c.requires.sorts c.args.rest.items c.requires.rest
    c.whole_with-whole.new.terms c.in_ok-whole.whole (gives_at c.whole_with-whole.result c.in_ok-whole.whole _ c.args.terms.now c.whole_with-whole.new.terms c.in_ok-whole.ensures.same c.whole_with-whole.ensures)
    (c.in_ok-whole.ensures.walk c.args.terms.now (_ ∷ []) (gives_makes c.args.terms.now c.whole_with-whole.new.terms c.whole_with-whole.result _ c.whole_with-whole.ensures))
    c.replaced.result c.replaced.new.terms (replaced_comes c.replaced.result c.whole_with-whole.new.terms c.replaced.new.terms _ c.replaced.ensures.conditions c.replaced.ensures.in_range c.replaced.ensures.grows c.replaced.ensures.walk)
