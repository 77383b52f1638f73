use Rattle.std.proofs.Common.{rules, ℕ, ◌≡◌, ◌<◌, length, sym, subst}
use Rattle.spv_dictionary.proofs.Mixed.{if_err}
use Rattle.spv_dictionary.specs.Dictionary.{outside_at}
use Rattle.spv_dictionary.specs.pivoting.Choosing.{limits_of}
use Rattle.spv_dictionary.proofs.pivoting.Choices.{column_compares}
use Rattle.spv_dictionary.proofs.pivoting.entering.is_admitted.Goals as goal

pub returns-clause-refused : goal.returns-clause-refused
returns-clause-refused c =
    let bound : c.limit-bound.result ≡ limits_of (length c.args.dictionary.now.outside) c.args.trail.now.bounds c.outside-column.result c.way-way.result = search rules in
    let inside : c.outside-column.result < length c.args.values.now =
    subst (λ (n : ℕ). n < length c.args.values.now) (sym c.outside-column.ensures)
    (subst (λ (n : ℕ). outside_at c.args.dictionary.now c.args.slot < n) (sym c.requires.count) (c.law_dictionary.ensures.slots c.args.slot c.requires.slot).0) in
    if_err c.has_room.result _ _ c.has_room.ensures.refused
    (λ o is. column_compares (length c.args.dictionary.now.outside) c.args.trail.now.bounds c.args.values.now c.outside-column.result c.way-way.result c.limit-bound.result c.index-values-column.result o bound inside c.index-values-column.is is)
