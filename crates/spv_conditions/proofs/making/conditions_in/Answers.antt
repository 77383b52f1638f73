use Rattle.spv_assign.specs.supply.Numbers.{supply_of}
use Rattle.spv_conditions.proofs.Mains.{may_begin}
use Rattle.spv_conditions.proofs.making.conditions_in.Goals as goal

pub all_conditions-made-requires : goal.all_conditions-made-requires
all_conditions-made-requires c =
    record { may = may_begin c.args.program.now c.args.empty (supply_of c.new-supply.result) c.requires.typed c.requires.empty c.new-supply.ensures }
