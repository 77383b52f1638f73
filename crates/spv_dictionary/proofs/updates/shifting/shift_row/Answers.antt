use Rattle.std.proofs.Common.{rules, ◌≡◌, sym, ap, ◌∙◌}
use Rattle.spv_frac.specs.rational.Rational.{is_zero}
use Rattle.spv_dictionary.specs.updates.Shifts.{entry_in}
use Rattle.spv_dictionary.proofs.updates.Going.{stands_still}
use Rattle.spv_dictionary.proofs.updates.shifting.shift_row.Goals as goal

pub returns-then-is_zero : goal.returns-then-is_zero
returns-then-is_zero c =
    let entry : c.get-entry.result ≡ entry_in c.args.dictionary.now c.args.row c.args.slot = search rules in
    stands_still c.args.dictionary.now c.args.values.now c.args.slot c.args.distance c.args.skip c.args.row (ap is_zero (sym entry) ∙ sym c.is_zero.ensures ∙ c.if-is_zero.true)
