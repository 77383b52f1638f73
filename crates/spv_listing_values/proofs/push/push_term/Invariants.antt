use Rattle.std.proofs.Common.{◌++◌}
use Rattle.spv_listing_values.specs.Waiting.{rest_texts, steps_left}
use Rattle.spv_listing_values.proofs.Pieces.{Reached}
use Rattle.spv_listing_values.proofs.push.push_term.Given as goal

abbrev pub invariant-loop-args : goal.invariant-loop-args
invariant-loop-args l = Reached l.texts (l.initial.out.items ++ rest_texts l.texts l.initial.waiting.items) l.out.items l.waiting.items

abbrev pub decreases-loop-args : goal.decreases-loop-args
decreases-loop-args l = steps_left l.texts l.waiting.items
