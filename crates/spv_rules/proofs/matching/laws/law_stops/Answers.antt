use Rattle.spv_rules.proofs.matching.Fitting.{stops_where_too_wide}
use Rattle.spv_rules.proofs.matching.laws.law_stops.Goals as goal

pub returns : goal.returns
returns c = stops_where_too_wide
