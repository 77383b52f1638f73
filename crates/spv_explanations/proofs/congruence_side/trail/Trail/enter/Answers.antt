use Rattle.std.proofs.Common.{◌≡◌, [], ◌∷◌, ◌++◌, refl, arith}
use Rattle.std.proofs.lemmas.Grind.{common_steps}
use Rattle.spv_explanations.proofs.congruence_side.Trails.{grows_enters, grows_same, holds_enters}
use Rattle.spv_explanations.proofs.congruence_side.trail.Trail.enter.Goals as goal

pub returns-in_err-reserve-clause-grows : goal.returns-in_err-reserve-clause-grows
returns-in_err-reserve-clause-grows c = grows_same _ _ refl refl refl refl

pub returns-in_err-tell_graph-clause-grows : goal.returns-in_err-tell_graph-clause-grows
returns-in_err-tell_graph-clause-grows c = grows_same _ _ refl c.in_err-tell_graph.ensures.err refl refl

pub returns-clause-holds : goal.returns-clause-holds
returns-clause-holds c =
    let facts : c.push.new.self.items ≡ c.args.self.now.facts.items ++ c.args.fact ∷ [] = grind (arith, common_steps) in
    holds_enters c.args.terms.now c.args.self.now _ c.args.fact c.requires.holds c.requires.left c.requires.right c.requires.backed c.in_ok-tell_graph.ensures.ok refl facts refl refl

pub returns-clause-grows : goal.returns-clause-grows
returns-clause-grows c = grows_enters c.args.self.now _ c.args.fact c.in_ok-tell_graph.ensures.ok refl refl refl
