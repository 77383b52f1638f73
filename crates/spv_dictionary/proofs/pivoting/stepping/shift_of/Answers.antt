use Rattle.std.proofs.Common.{rules, ◌≡◌, ◌∙◌, ap}
use mathlib.Core.Path.{ap₂}
use Rattle.spv_tableau_rules.specs.tableaux.Numbers.{minus, divided}
use Rattle.spv_dictionary.specs.Dictionary.{basic_at}
use Rattle.spv_dictionary.specs.updates.Shifts.{value_in, entry_in}
use Rattle.spv_dictionary.proofs.updates.Going.{value_read}
use Rattle.spv_dictionary.proofs.pivoting.Choices.{if_ok}
use Rattle.spv_dictionary.proofs.pivoting.stepping.shift_of.Goals as goal

pub returns-in-Ok-clause-value : goal.returns-in-Ok-clause-value
returns-in-Ok-clause-value c =
    let value : c.index-values-basic.result ≡ value_in c.args.values.now (basic_at c.args.dictionary.now c.args.row) =
    value_read c.args.dictionary.now c.args.values.now c.args.row c.basic.result c.index-values-basic.result c.law_dictionary.ensures c.requires.count c.requires.row c.basic.ensures c.index-values-basic.is in
    let entry : c.get.result ≡ entry_in c.args.dictionary.now c.args.row c.args.slot = search rules in
    if_ok c.div.result _ _ c.div.ensures.value (λ n is. is ∙ ap₂ divided (c.in-Ok.ensures.value ∙ ap (minus c.args.bound) value) entry)
