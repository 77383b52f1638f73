use Rattle.spv_grammar.proofs.expected_tokens.Texts.{programs_stop, programs_leave, programs_take}
use Rattle.spv_grammar.proofs.expected_tokens.laws.law_program_stops.Goals as goal

pub returns : goal.returns
returns c = record { stops = programs_stop; surplus = programs_leave; levels = programs_take }
