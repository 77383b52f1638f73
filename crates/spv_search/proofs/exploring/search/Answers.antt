use Rattle.spv_search.proofs.exploring.search.Goals as goal

pub begin-requires-clause-asked : goal.begin-requires-clause-asked
begin-requires-clause-asked c = c.requires.set_up.asked
