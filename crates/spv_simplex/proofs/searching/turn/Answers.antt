use Rattle.std.proofs.Common.{length, map, refl, subst}
use Rattle.spv_dictionary.specs.updates.Shifts.{value_in}
use Rattle.spv_dictionary.specs.pivoting.Choosing.{limits_of}
use Rattle.spv_dictionary.specs.pivoting.Combining.{multiple_in}
use Rattle.spv_dictionary.specs.pivoting.Finding.{IsFound}
use Rattle.spv_simplex.specs.pivot_runs.Derivation.{compares}
use Rattle.spv_simplex.specs.Searching.{met, stuck}
use Rattle.spv_simplex.proofs.Searches.{too_wide}
use Rattle.spv_simplex.proofs.searching.turn.Goals as goal

pub returns-in-Ok-Met-clause-stopped : goal.returns-in-Ok-Met-clause-stopped
returns-in-Ok-Met-clause-stopped c = record {
  values_are = refl;
  evidence_is = refl;
  stops = met (subst (IsFound (limits_of (length c.args.dictionary.now.outside) c.args.trail.now.bounds) c.args.dictionary.now (value_in c.args.values.now)) c.in-Ok-Met.field-0-is c.in-Ok-Met.ensures.value) refl;
}

pub returns-in-Ok-Stuck-clause-stopped : goal.returns-in-Ok-Stuck-clause-stopped
returns-in-Ok-Stuck-clause-stopped c = record {
  values_are = refl;
  evidence_is = refl;
  stops = stuck c.in-Ok-Stuck.chosen
      (subst (IsFound (limits_of (length c.args.dictionary.now.outside) c.args.trail.now.bounds) c.args.dictionary.now (value_in c.args.values.now)) c.in-Ok-Stuck.field-0-is c.in-Ok-Stuck.ensures.value)
      c.combine.ensures.items refl;
}

pub returns-in-Err-clause-stopped : goal.returns-in-Err-clause-stopped
returns-in-Err-clause-stopped c =
    too_wide (limits_of (length c.args.dictionary.now.outside) c.args.trail.now.bounds) c.args.dictionary.now c.args.values.now c.args.evidence.now c.args.dictionary.now c.args.values.now
    (map multiple_in c.args.combination.now.items) c.refuse.new.self c.in-Err.refused (compares c.in-Err.ensures.refused) c.in-Err.ensures.unfit refl refl c.refuse.ensures
