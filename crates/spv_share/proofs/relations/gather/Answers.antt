use Rattle.std.proofs.Common.{arith, length, get_or}
use Rattle.std.proofs.lemmas.Option.{slice_get-get_or}
use Rattle.spv_term.proofs.TreeLemmas.{AllBelow-at}
use Rattle.spv_share.proofs.Gathering.{gathered_start}
use Rattle.spv_share.proofs.relations.gather.Goals as goal

pub loop-atom-init : goal.loop-atom-init
loop-atom-init c = gathered_start c.args.terms.now c.args.trail.now c.args.atoms.now _ c.new-relations.ensures.items c.requires.holds c.requires.empty c.requires.untold c.requires.parts

pub gather_one-requires-clause-within : goal.gather_one-requires-clause-within
gather_one-requires-clause-within c = AllBelow-at (length c.args.terms.now.nodes) c.args.atoms.now c.loop-atom.atom-index (get_or c.args.atoms.now c.loop-atom.atom-index (record { 0 = 0 })) c.requires.below (slice_get-get_or c.args.atoms.now c.loop-atom.atom-index (record { 0 = 0 }) (omega (arith, c.loop-atom-test.true)))
