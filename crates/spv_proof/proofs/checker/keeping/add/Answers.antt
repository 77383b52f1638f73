use Rattle.std.proofs.Common.{◌≡◌, ◌++◌, ◌∷◌, [], rules}
use Rattle.spv_proof_steps.specs.Steps.{fact_of}
use Rattle.spv_proof.proofs.checker.Kept.{map-added, below-added}
use Rattle.spv_proof.proofs.checker.keeping.add.Goals as goal

pub returns-clause-facts : goal.returns-clause-facts
returns-clause-facts c =
    let pushed : c.push.new.self.items ≡ c.args.facts.now.items ++ c.in_ok-t.t ∷ [] = search rules in
    map-added c.args.terms.now c.make.new.terms c.in_ok-t.ensures.grows c.args.facts.now.items c.push.new.self.items c.in_ok-t.t c.requires.facts pushed (fact_of c.args.terms.now c.args.fact) c.in_ok-t.ensures.tree

pub returns-clause-in_range : goal.returns-clause-in_range
returns-clause-in_range c =
    let pushed : c.push.new.self.items ≡ c.args.facts.now.items ++ c.in_ok-t.t ∷ [] = search rules in
    below-added c.args.terms.now c.make.new.terms c.in_ok-t.ensures.grows c.args.facts.now.items c.push.new.self.items c.in_ok-t.t c.requires.facts pushed c.in_ok-t.ensures.in_range
