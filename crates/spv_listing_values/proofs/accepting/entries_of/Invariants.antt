use Rattle.std.proofs.Common.{All, length, map}
use Rattle.spv_listing_values.specs.Entries.{written_claim}
use Rattle.spv_listing_values.specs.Followed.{IsRead}
use Rattle.spv_listing_values.proofs.Accepts.{AreFormed}
use Rattle.spv_listing_values.proofs.accepting.entries_of.Given as goal

abbrev pub invariant-loop-one : goal.invariant-loop-one
invariant-loop-one l = record {
  read : All (λ e. IsRead e.texts e.claim) l.read.items;
  formed : AreFormed (map (λ e. written_claim e.texts e.claim) l.initial.read.items) (map (λ e. written_claim e.texts e.claim) l.read.items) l.entries.items;
}

abbrev pub decreases-loop-one : goal.decreases-loop-one
decreases-loop-one l = length l.read.items
