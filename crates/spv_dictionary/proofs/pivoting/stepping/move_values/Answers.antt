use Rattle.spv_dictionary.proofs.pivoting.Steps.{are_stepped}
use Rattle.spv_dictionary.proofs.pivoting.stepping.move_values.Goals as goal

pub returns : goal.returns
returns c =
    rw (c.basic.ensures, c.outside.ensures)
    (are_stepped c.args.dictionary.now c.law_dictionary.ensures c.args.values.now c.shift.new.values c.args.row c.args.slot c.args.bound c.args.shifted.shift c.args.shifted.next
    c.requires.count c.requires.row c.requires.slot c.shift.ensures c.requires.next)
