use Rattle.std.proofs.Common.{◌≡◌, ◌++◌, ◌∷◌, [], true, is_ok, if◌then◌else◌, to_z, of_z, w64, rules, ap, ◌∙◌}
use Rattle.std.proofs.lemmas.Int.{to_z-of_z}
use Rattle.spv_statement_typing.proofs.LabelLemmas.{AreThose-put}
use Rattle.spv_statement_typing.proofs.labels.LabelSet.add.Goals as goal

pub invariant_of-self-2 : goal.invariant_of-self-2
invariant_of-self-2 c =
    let z = c.args.z in
    let y = to_z w64 (of_z w64 z) in
    let ok : is_ok c.push.result ≡ true = ap is_ok c.unwrap.ensures in
    AreThose-put y z (to_z-of_z w64 z (search rules)) c.self.inside.sorted c.insert.new.self c.self.inside.listed.items c.push.new.self.items c.self.invariant c.in_ok-_new.ensures.updates
    (c.push.ensures.items ∙ (λ i. if ok i then c.reserve.ensures.items i ++ y ∷ [] else c.reserve.ensures.items i))
