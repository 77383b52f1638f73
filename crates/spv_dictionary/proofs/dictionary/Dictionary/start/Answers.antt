use Rattle.spv_dictionary.proofs.dictionary.Dictionary.start.Goals as goal
use Rattle.spv_dictionary.proofs.First.{is_first}

pub invariant_of-result : goal.invariant_of-result
invariant_of-result c = rw (c.in_ok-spots.ensures, c.in_ok-basic.ensures, c.in_ok-outside.ensures, c.in_ok-solved.ensures, c.as_slice-count.ensures.value) (is_first c.args.width c.args.rows.items c.requires.widths)
