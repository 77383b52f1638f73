use Rattle.std.proofs.Common.{◌≡◌, slice_get, Some, IfSome, subst}
use Rattle.spv_rule_files.proofs.rule_terms.Made.{sort_at_place, variable_more}
use Rattle.spv_rule_files.proofs.rule_terms.making.variables.Goals as goal

pub variable-requires : goal.variable-requires
variable-requires c =
    sort_at_place c.args.terms.now c.loop-place.terms c.args.names.now c.loop-place.place c.unwrap.result.0 c.unwrap.result.1.now c.loop-place.invariant.grows c.requires
    (subst (λ o. IfSome o (λ e. slice_get c.args.names.now c.loop-place.place ≡ Some (e.0, e.1.now))) c.unwrap.ensures c.entry.ensures.entry)

pub loop-place-preserved : goal.loop-place-preserved
loop-place-preserved c =
    variable_more c.args.terms.now c.loop-place.terms c.variable.new.terms c.args.names.now c.loop-place.place c.loop-place.made.items c.unwrap.result.0 c.unwrap.result.1.now
    c.in_ok-one.one c.push.new.items.items c.loop-place.invariant
    (subst (λ o. IfSome o (λ e. slice_get c.args.names.now c.loop-place.place ≡ Some (e.0, e.1.now))) c.unwrap.ensures c.entry.ensures.entry)
    c.variable.ensures.grows c.in_ok-one.ensures.head c.in_ok-one.ensures.in_range c.in_ok-push.ensures
