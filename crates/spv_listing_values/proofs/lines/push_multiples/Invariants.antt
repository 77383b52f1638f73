use Rattle.std.proofs.Common.{◌≡◌, ◌++◌, take}
use Rattle.spv_listing_values.specs.Lines.{multiples}
use Rattle.spv_listing_values.specs.Blanks.{blanks}
use Rattle.spv_listing_values.proofs.lines.push_multiples.Given as goal

abbrev pub invariant-loop-m : goal.invariant-loop-m
invariant-loop-m l = l.out.items ≡ l.initial.out.items ++ blanks (multiples (take l.m-index l.ms))
