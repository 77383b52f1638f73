use Rattle.spv_typing.specs.Known.{integer_type, boolean_type}
use Rattle.spv_types.proofs.Entitling.{both_first}
use Rattle.spv_types.proofs.titles.titles.Goals as goal

pub returns : goal.returns
returns c =
    both_first c.args.types.now c.args.forms.now c.in_ok-titles.titles.items c.entitle.new.titles.items c.entitle-2.new.titles.items c.from_vec.result
    c.args.start.now.integer c.args.start.now.boolean integer_type boolean_type c.in_ok-titles.ensures c.entitle.ensures c.entitle-2.ensures c.from_vec.ensures
