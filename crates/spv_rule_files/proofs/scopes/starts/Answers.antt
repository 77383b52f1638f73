use Rattle.std.proofs.Common.{◌≡◌, take, slice_get, Some, None, IfSome, subst}
use Rattle.spv_program.specs.Lists.{found}
use Rattle.spv_rule_files.proofs.Knowing.{starts_missing, starts_next}
use Rattle.spv_rule_files.proofs.scopes.starts.Goals as goal

pub insert-requires : goal.insert-requires
insert-requires c = record {
  new =
      starts_missing c.loop-place.own (take c.loop-place.place c.args.vars.now) c.unwrap.result.0 c.loop-place.invariant
      (subst (λ o. IfSome o (λ e. found (take c.loop-place.place c.args.vars.now) e.0 ≡ None)) c.unwrap.ensures c.entry.ensures.earlier);
}

pub loop-place-preserved : goal.loop-place-preserved
loop-place-preserved c =
    starts_next c.loop-place.own c.insert.new.self c.args.vars.now c.loop-place.place c.unwrap.result.0 c.unwrap.result.1.now c.loop-place.invariant
    (subst (λ o. IfSome o (λ e. slice_get c.args.vars.now c.loop-place.place ≡ Some (e.0, e.1.now))) c.unwrap.ensures c.entry.ensures.entry)
    c.in_ok-insert.ensures.ok
