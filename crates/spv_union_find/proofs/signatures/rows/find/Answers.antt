use Rattle.std.proofs.Common.{sym, ◌∙◌}
use Rattle.spv_union_find.proofs.signatures.RowLemmas.{row_within, seek_none, place_in, place_less, seek_found, seek_on}
use Rattle.spv_union_find.proofs.signatures.rows.find.Goals as goal

pub row_at-row-requires : goal.row_at-row-requires
row_at-row-requires c = place_in _ _ _ _ _ _ _ _ c.requires.hashes c.loop-place.invariant (sym c.in-Some.is ∙ c.last_below.ensures)

pub is_for-requires : goal.is_for-requires
is_for-requires c = row_within 0 _ _ c.requires.laid _ _ c.row_at-row.ensures

pub returns-then-is_for : goal.returns-then-is_for
returns-then-is_for c = seek_found _ _ _ _ _ _ _ _ c.requires.hashes c.loop-place.invariant (sym c.in-Some.is ∙ c.last_below.ensures) _ c.row_at-row.ensures (sym c.is_for.ensures ∙ c.if-is_for.true)

pub loop-place-smaller : goal.loop-place-smaller
loop-place-smaller c = place_less _ _ _ _ _ _ _ _ c.requires.hashes c.loop-place.invariant (sym c.in-Some.is ∙ c.last_below.ensures)

pub loop-place-preserved : goal.loop-place-preserved
loop-place-preserved c = seek_on _ _ _ _ _ _ _ _ c.requires.hashes c.loop-place.invariant (sym c.in-Some.is ∙ c.last_below.ensures) _ c.row_at-row.ensures (sym c.is_for.ensures ∙ c.if-is_for.false)

pub returns : goal.returns
returns c = seek_none _ _ _ _ _ _ _ 0 c.requires.hashes c.loop-place.invariant (sym c.in_default.is ∙ c.last_below.ensures)
