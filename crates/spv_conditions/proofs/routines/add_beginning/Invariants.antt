use Rattle.spv_conditions.proofs.routines.add_beginning.Given as goal

abbrev pub ghost-add_items : goal.ghost-add_items
ghost-add_items g a = g.of

abbrev pub ghost-add_starts : goal.ghost-add_starts
ghost-add_starts g a = g.of
