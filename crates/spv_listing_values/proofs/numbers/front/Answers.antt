use Rattle.std.proofs.Common.{sym}
use Rattle.spv_listing_values.proofs.Digits.{stroke_found, no_stroke_found}
use Rattle.spv_listing_values.proofs.numbers.front.Goals as goal

pub returns-in-None : goal.returns-in-None
returns-in-None c = sym (no_stroke_found c.args.text.now c.in-None.ensures).front_is

pub returns-in-Some : goal.returns-in-Some
returns-in-Some c = sym (stroke_found c.args.text.now c.in-Some.at c.in-Some.ensures).front_is
