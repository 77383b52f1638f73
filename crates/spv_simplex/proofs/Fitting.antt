-- The numbers of a form fit.
use Rattle.std.proofs.Common.{◌≡◌, ℕ, zero, suc, ◌<◌, true, List, [], ◌∷◌, length, slice_index_or, ap, ◌∙◌, arith, ℤ}
use mir.Val.{to_z, of_z}
use mir.Syntax.{w128}
use Rattle.spv_logic.specs.declared.conditions.TermId.{TermId}
use Rattle.spv_frac.specs.Range.{fits}
use Rattle.spv_atoms.specs.Linear.{ArePartsFrom}
use Rattle.spv_atoms.proofs.Sums.{narrow}

part_fits : (low : ℕ) (parts : List (TermId × ℤ)) (i : ℕ) (d : TermId × ℤ) → ArePartsFrom low parts → i < length parts → fits (slice_index_or parts i d).1 ≡ true
part_fits low [] i d h below = absurd (omega arith)
part_fits low (p ∷ parts) zero d h below = h.0.fits
part_fits low (p ∷ parts) (suc i) d h below = part_fits (suc p.0.0) parts i d h.1 (nearer i parts below)
  where
    nearer : (i : ℕ) (parts : List (TermId × ℤ)) → suc i < suc (length parts) → i < length parts
    nearer i parts h = omega arith

pub read_fits : (parts : List (TermId × ℤ)) (i : ℕ) (d : TermId × ℤ) → ArePartsFrom 0 parts → i < length parts → fits (to_z w128 (of_z w128 (slice_index_or parts i d).1)) ≡ true
read_fits parts i d h below = let f = part_fits 0 parts i d h below in ap fits (narrow (slice_index_or parts i d).1 f) ∙ f
