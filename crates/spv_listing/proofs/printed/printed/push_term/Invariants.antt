use Rattle.std.proofs.Common.{◌++◌}
use Rattle.spv_listing.specs.printed.Waiting.{rest_texts, steps_left}
use Rattle.spv_listing.proofs.printed.Texts.{Reached}
use Rattle.spv_listing.proofs.printed.printed.push_term.Given as goal

abbrev pub invariant-loop-args : goal.invariant-loop-args
invariant-loop-args l = Reached l.names l.titles l.terms (l.initial.out.items ++ rest_texts l.names l.titles l.terms l.initial.waiting.items) l.out.items l.waiting.items

abbrev pub decreases-loop-args : goal.decreases-loop-args
decreases-loop-args l = steps_left l.terms l.waiting.items
