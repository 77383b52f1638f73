use Rattle.std.proofs.Common.{w64, rules, ap, ◌∙◌}
use Rattle.std.specs.List.{list_any}
use Rattle.std.specs.Ordering.{int_eq}
use Rattle.std.proofs.lemmas.Int.{to_z-of_z}
use Rattle.spv_statement_typing.proofs.LabelLemmas.{found-there}
use Rattle.spv_statement_typing.proofs.labels.LabelSet.has.Goals as goal

pub returns : goal.returns
returns c =
    c.contains.ensures ∙ found-there _ c.args.z (to_z-of_z w64 c.args.z (search rules)) c.self.inside.sorted c.self.inside.listed.items c.self.invariant
    ∙ ap (list_any (int_eq c.args.z)) c.self.view_is
