use Rattle.std.proofs.Common.{List, ℕ, refl, true≢false}
use Rattle.spv_logic.specs.names.Names.{AreBytes}
use Rattle.spv_logic.proofs.names.NameTable.{contains_at}
use Rattle.spv_logic.proofs.names.Places.{number-absent, number-place, number-stands}
use Rattle.spv_logic.proofs.names.names.Names.find.Goals as goal

pub returns-in_err-place-clause-absent : goal.returns-in_err-place-clause-absent
returns-in_err-place-clause-absent c =
    let bytes : AreBytes c.args.text.now = record { each = λ k. (c.type_inv.text k).fits } in
    (λ _. rw (← c.self.view_is) (number-absent _ _ _ _ c.self.invariant.places c.args.text.now bytes c.in_err-place.ensures), λ _. rw c.from_residual.ensures refl)

pub returns-clause-number : goal.returns-clause-number
returns-clause-number c =
    let bytes : AreBytes c.args.text.now = record { each = λ k. (c.type_inv.text k).fits } in
    rw (← c.self.view_is) (number-place _ _ _ _ c.self.invariant.places c.args.text.now bytes _ c.in_ok-place.ensures)

pub returns-clause-stands : goal.returns-clause-stands
returns-clause-stands c =
    let bytes : AreBytes c.args.text.now = record { each = λ k. (c.type_inv.text k).fits } in
    rw (← c.self.view_is) (number-stands _ _ _ _ c.self.invariant.places c.args.text.now bytes _ c.in_ok-place.ensures)

pub returns-clause-absent : goal.returns-clause-absent
returns-clause-absent c = (λ e _. true≢false e, λ nowhere. absurd (nowhere (contains_at _ _ c.in_ok-place.place (returns-clause-stands c))))
