use Rattle.std.proofs.Common.{◌≡◌, ℕ, List, Some, true, false, nat_le, length, subst, sym, arith}
use Rattle.std.proofs.lemmas.Bool.Decides.{nat_tests}
use Rattle.spv_logic.specs.names.Names.{AreBytes, is_short}
use Rattle.spv_logic.proofs.names.Places.{short-put, long-puts}
use Rattle.spv_logic.proofs.names.maps.put_place.Goals as goal

pub returns-then-text-le15-clause-ok : goal.returns-then-text-le15-clause-ok
returns-then-text-le15-clause-ok c =
    let bytes : AreBytes c.args.text.now = record { each = λ k. (c.type_inv.text k).fits } in
    let small : is_short c.args.text.now ≡ true = grind (arith, nat_tests, c.if-text-le15.true) in
    short-put (λ t. t.items) c.args.short.now c.insert.new.self c.args.long.now c.args.text.now c.args.place small bytes (rw c.packed.ensures at c.in_ok-_none.ensures.updates)

pub returns-clause-ok : goal.returns-clause-ok
returns-clause-ok c =
    let large : is_short c.args.text.now ≡ false = grind (arith, nat_tests, c.if-text-le15.false) in
    long-puts (λ t. t.items) c.args.short.now c.args.long.now c.insert-2.new.self c.args.text.now c.in_ok-key.key.items c.args.place large c.in_ok-key.ensures.items c.in_ok-_none-2.ensures.updates
