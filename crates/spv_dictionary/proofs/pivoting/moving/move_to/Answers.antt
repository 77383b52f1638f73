use Rattle.std.proofs.Common.{ℕ, length, subst}
use Rattle.spv_dictionary.specs.updates.Shifts.{HasGoneTo}
use Rattle.spv_dictionary.proofs.pivoting.Steps.{are_moved}
use Rattle.spv_dictionary.proofs.pivoting.moving.move_to.Goals as goal

pub returns-in-Ok-clause-made : goal.returns-in-Ok-clause-made
returns-in-Ok-clause-made c =
    rw c.outside.ensures
    (are_moved c.args.dictionary.now c.law_dictionary.ensures c.args.values.now c.shift.new.values c.args.slot c.args.bound c.in-Ok.way c.requires.count c.requires.slot c.in-Ok.ensures.value
    (subst (λ (n : ℕ). HasGoneTo c.args.dictionary.now c.args.values.now c.args.slot c.in-Ok.way n (length c.args.dictionary.now.basic) c.shift.new.values) c.rows.ensures c.shift.ensures))
