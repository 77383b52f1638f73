use Rattle.std.proofs.Common.{arith}
use Rattle.spv_fact_search.proofs.Guessed.{no-entries, flags-many, next-entries, all-within, all-listed}
use Rattle.spv_fact_search.proofs.trying.table_by.Goals as goal

pub bounds-flags-place : goal.bounds-flags-place
bounds-flags-place c = let many = flags-many c.args.terms.now c.args.ids.now c.args.flags.now c.requires.flags in omega (arith, c.loop-place-test.true, many)

pub loop-place-init : goal.loop-place-init
loop-place-init c = no-entries c.args.terms.now c.args.ids.now c.args.flags.now c.requires.flags c.new-values.result.items c.new-values.ensures.items

pub loop-place-preserved : goal.loop-place-preserved
loop-place-preserved c =
    next-entries c.args.terms.now c.args.ids.now c.args.flags.now c.requires.flags c.loop-place.place c.loop-place.values.items c.push_if.new.values.items c.at-number.result c.requires.in_range (omega (arith, c.loop-place-test.true))
    c.loop-place.invariant c.in_ok-push_if.ensures

pub returns : goal.returns
returns c = record {
  within = all-within c.args.terms.now c.args.ids.now c.args.flags.now c.requires.flags c.loop-place.place c.loop-place.values.items c.from_vec.result c.from_vec.ensures c.loop-place.invariant;
  lists = all-listed c.args.terms.now c.args.ids.now c.args.flags.now c.requires.flags c.loop-place.place c.loop-place.values.items c.from_vec.result c.from_vec.ensures
      (omega (arith, c.loop-place-test.false, c.loop-place.auto.place-end)) c.loop-place.invariant;
}
