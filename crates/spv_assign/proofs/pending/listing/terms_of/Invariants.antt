use Rattle.std.proofs.Common.{◌≡◌, take}
use Rattle.spv_assign.specs.pending.Steps.{terms_of}
use Rattle.spv_assign.proofs.pending.listing.terms_of.Given as goal

abbrev pub invariant-loop-h : goal.invariant-loop-h
invariant-loop-h l = l.terms.items ≡ terms_of (take l.h-index l.known)
