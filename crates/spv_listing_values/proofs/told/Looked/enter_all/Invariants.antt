use Rattle.std.proofs.Common.{take}
use Rattle.spv_listing_values.specs.Interned.{flats_at}
use Rattle.spv_listing_values.specs.Told.{terms_in, IsReady, Enters}
use Rattle.spv_listing_values.proofs.told.Looked.enter_all.Given as goal

abbrev pub invariant-loop-item : goal.invariant-loop-item
invariant-loop-item l = record {
  ready : IsReady l.table;
  entered : Enters (flats_at l.initial.table) (flats_at l.table) (terms_in l.self (take l.item-index l.items)) l.texts.items;
}
