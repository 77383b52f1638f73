use Rattle.std.proofs.Common.{◌≡◌, drop}
use Rattle.std.specs.List.{list_all}
use Rattle.spv_listing_values.specs.Forms as spec
use Rattle.spv_listing_values.proofs.spelling.are_name_bytes.Given as goal

abbrev pub invariant-loop-byte : goal.invariant-loop-byte
invariant-loop-byte l = list_all spec.is_name_byte l.text ≡ list_all spec.is_name_byte (drop l.byte-index l.text)
