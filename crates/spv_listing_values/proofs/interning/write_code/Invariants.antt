use Rattle.std.proofs.Common.{◌≡◌, ◌++◌, take}
use Rattle.spv_listing_values.specs.Interned.{numbers_of}
use Rattle.spv_listing_values.proofs.interning.write_code.Given as goal

abbrev pub invariant-loop-arg : goal.invariant-loop-arg
invariant-loop-arg l = l.key.items ≡ l.initial.key.items ++ numbers_of (take l.arg-index l.args)
