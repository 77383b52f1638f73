use Rattle.spv_listing_values.specs.Parts.{item_at}
use Rattle.spv_listing_values.specs.Interned.{flats_at, entered_at, IsSound}
use Rattle.spv_listing_values.proofs.Tables.{IsEntering}
use Rattle.spv_listing_values.proofs.interning.Table.enter.Given as goal

abbrev pub invariant-loop-k : goal.invariant-loop-k
invariant-loop-k l = record {
  sound : IsSound l.self;
  entering : IsEntering l.bytes l.line.parts.items l.fn.item.end (item_at l.bytes l.line.parts.items l.fn.item) (flats_at l.initial.self) (entered_at l.self) l.k;
}
