use Rattle.std.proofs.Common.{rules, ◌≡◌, ◌<◌, length, refl}
use Rattle.spv_dictionary.specs.pivoting.Choosing.{limits_of}
use Rattle.spv_simplex.specs.pivot_runs.Derivation.{makes}
use Rattle.spv_simplex.specs.Searching.{full}
use Rattle.spv_simplex.proofs.Searches.{is_turn, too_wide}
use Rattle.spv_simplex.proofs.searching.advance.Goals as goal

pub returns-then-is_full-clause-stopped : goal.returns-then-is_full-clause-stopped
returns-then-is_full-clause-stopped c =
    let all : length c.args.evidence.now.steps ≡ c.args.evidence.now.room.steps = search rules in
    λ combination. record { values_are = refl; evidence_is = refl; stops = full c.args.chosen c.args.entry c.requires.chosen all c.requires.operation refl }

pub returns-in-Ok-clause-on : goal.returns-in-Ok-clause-on
returns-in-Ok-clause-on c =
    let room : length c.args.evidence.now.steps < c.args.evidence.now.room.steps = search rules in
    is_turn (limits_of (length c.args.dictionary.now.outside) c.args.trail.now.bounds) c.args.dictionary.now c.args.values.now c.args.evidence.now c.step.new.dictionary c.step.new.values c.add_step.new.self
    c.args.chosen c.args.entry c.basic-leaving.result c.outside-entering.result room c.law_dictionary.ensures c.law_dictionary-in-Ok.ensures c.requires.chosen c.in-Ok.ensures.made
    c.basic-leaving.ensures c.outside-entering.ensures c.add_step.ensures

pub returns-in-Err-clause-stopped : goal.returns-in-Err-clause-stopped
returns-in-Err-clause-stopped c =
    λ combination. too_wide (limits_of (length c.args.dictionary.now.outside) c.args.trail.now.bounds) c.args.dictionary.now c.args.values.now c.args.evidence.now c.step.new.dictionary c.step.new.values combination c.refuse.new.self
    c.in-Err.refused (makes c.args.chosen c.args.entry c.requires.chosen c.in-Err.ensures.refused) c.in-Err.ensures.unfit c.in-Err.ensures.form c.in-Err.ensures.values c.refuse.ensures
