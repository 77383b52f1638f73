use Rattle.std.proofs.Common.{rules, ◌<◌, List, length, sym, subst, ◌∙◌, arith}
use Rattle.spv_frac.specs.rational.Rational.{Rational}
use Rattle.spv_dictionary.specs.pivoting.Choosing.{limits_of}
use Rattle.spv_simplex.specs.pivot_runs.Derivation.{ArePlaced, IsPlacing, none, more}
use Rattle.spv_simplex.proofs.searching.place_all.Goals as goal

pub loop-slot-init : goal.loop-slot-init
loop-slot-init c = record { placed = none; count = c.requires.count }

pub loop-slot-preserved : goal.loop-slot-preserved
loop-slot-preserved c =
    let inside : c.loop-slot.slot < length c.args.dictionary.now.outside = search rules in
    record {
      placed = more c.loop-slot.slot _ c.loop-slot.values c.place.new.values c.loop-slot.invariant.placed inside c.in-Ok.ensures.placed (omega arith);
      count = c.place.auto.values ∙ c.loop-slot.invariant.count;
    }

pub returns-in-Err-clause-refused : goal.returns-in-Err-clause-refused
returns-in-Err-clause-refused c =
    let inside : c.loop-slot.slot < length c.args.dictionary.now.outside = search rules in
    record {
      slot = c.loop-slot.slot;
      placed = subst (λ (v : List Rational). ArePlaced (limits_of (length c.args.dictionary.now.outside) c.args.trail.now.bounds) c.args.dictionary.now c.args.values.now c.loop-slot.slot v) (sym c.in-Err.ensures.values) c.loop-slot.invariant.placed;
      inside = inside;
      refused = subst (λ (v : List Rational). IsPlacing (limits_of (length c.args.dictionary.now.outside) c.args.trail.now.bounds) c.args.dictionary.now v c.loop-slot.slot c.in-Err.refused) (sym c.in-Err.ensures.values) c.in-Err.ensures.refused;
      unfit = c.in-Err.ensures.unfit;
    }
