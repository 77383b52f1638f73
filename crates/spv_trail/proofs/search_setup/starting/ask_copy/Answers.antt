use Rattle.std.proofs.Common.{ap}
use Rattle.std.specs.Prelude.{Err}
use Rattle.spv_search_terms.proofs.condition_copy.FillLemmas.{base_on}
use Rattle.spv_trail.proofs.search_setup.Copies.{asked_there, asks_too_many, copied, copied_on, formulas_copied}
use Rattle.spv_trail.proofs.search_setup.starting.ask_copy.Goals as goal

pub open_sides-requires-clause-copy : goal.open_sides-requires-clause-copy
open_sides-requires-clause-copy c =
    copied_on c.args.terms.now c.args.condition.now c.args.copied.terms c.ask.new.terms c.args.copied.condition c.in-Ok.ensures.grows (copied c.args.terms.now c.args.condition.now _ c.args.copied c.requires.copy)

pub open_sides-requires-clause-formulas : goal.open_sides-requires-clause-formulas
open_sides-requires-clause-formulas c =
    formulas_copied c.args.terms.now c.args.condition.now c.ask.new.terms c.args.copied.condition
    (copied_on c.args.terms.now c.args.condition.now c.args.copied.terms c.ask.new.terms c.args.copied.condition c.in-Ok.ensures.grows (copied c.args.terms.now c.args.condition.now _ c.args.copied c.requires.copy)) c.requires.formulas

pub open_sides-requires-clause-base : goal.open_sides-requires-clause-base
open_sides-requires-clause-base c = base_on c.args.copied.terms c.ask.new.terms c.args.copied.base c.in-Ok.ensures.grows c.requires.copy.base

pub open_sides-requires-clause-asked : goal.open_sides-requires-clause-asked
open_sides-requires-clause-asked c =
    asked_there c.args.copied.terms c.ask.new.terms c.args.copied.condition c.in-Ok.questions c.in-Ok.ensures.grows c.requires.copy.condition.given_in c.requires.copy.condition.goal_in c.in-Ok.ensures.asked

pub returns-in-Err-Size : goal.returns-in-Err-Size
returns-in-Err-Size c = asks_too_many c.args.terms.now c.args.condition.now _ c.args.copied c.ask.new.terms c.requires.copy c.in-Err-Size.ensures.grows (c.in-Err-Size.ensures.size (ap Err c.in-Err-Size.field-0-is))
