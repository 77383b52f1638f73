use Rattle.spv_environments.proofs.headings.with_heading.Given as goal

abbrev pub ghost-longer : goal.ghost-longer
ghost-longer a = a.places.items
