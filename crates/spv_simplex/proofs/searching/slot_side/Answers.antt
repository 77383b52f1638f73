use Rattle.std.proofs.Common.{rules, ℕ, ◌≡◌, ◌<◌, length, sym, subst}
use Rattle.spv_tableau_rules.specs.declared.tableaux.side.Side.TheVariants.{Lower, Upper}
use Rattle.spv_dictionary.specs.Dictionary.{outside_at}
use Rattle.spv_dictionary.proofs.Mixed.{if_err}
use Rattle.spv_dictionary.specs.updates.Shifts.{value_in}
use Rattle.spv_dictionary.specs.pivoting.Choosing.{limits_of}
use Rattle.spv_dictionary.proofs.pivoting.Choices.{read_value}
use Rattle.spv_simplex.proofs.Searches.{side_compares}
use Rattle.spv_simplex.proofs.searching.slot_side.Goals as goal

pub returns-clause-refused : goal.returns-clause-refused
returns-clause-refused c =
    let inside : c.outside-column.result < length c.args.values.now =
    subst (λ (n : ℕ). n < length c.args.values.now) (sym c.outside-column.ensures)
    (subst (λ (n : ℕ). outside_at c.args.dictionary.now c.args.slot < n) (sym c.requires.count) (c.law_dictionary.ensures.slots c.args.slot c.requires.slot).0) in
    let lower : c.limit.result ≡ limits_of (length c.args.dictionary.now.outside) c.args.trail.now.bounds c.outside-column.result Lower = search rules in
    let upper : c.limit-2.result ≡ limits_of (length c.args.dictionary.now.outside) c.args.trail.now.bounds c.outside-column.result Upper = search rules in
    if_err c.broken.result _ _ c.broken.ensures.refused
    (λ o is. side_compares (limits_of (length c.args.dictionary.now.outside) c.args.trail.now.bounds) (value_in c.args.values.now) c.outside-column.result c.limit.result c.limit-2.result c.index-values-column.result o lower upper
    (read_value c.args.values.now c.outside-column.result c.index-values-column.result inside c.index-values-column.is) is)
