use Rattle.std.proofs.Common.{◌≤◌, ◌-◌, length}
use Rattle.spv_listing_values.specs.Followed.{IsReading, reading_of}
use Rattle.spv_listing_values.proofs.LinesBehind.{IsLeft}
use Rattle.spv_listing_values.proofs.reading.claims_in.Given as goal

abbrev pub invariant-loop-line : goal.invariant-loop-line
invariant-loop-line l = record { within : l.at ≤ length l.bytes; reading : IsReading l.reader; left : IsLeft l.bytes (reading_of l.reader) l.at }

abbrev pub decreases-loop-line : goal.decreases-loop-line
decreases-loop-line l = length l.bytes - l.at
