-- The node is there and the arena stays, or it was put at the end.
use Rattle.std.proofs.Common.{◌≡◌, length, ◌++◌, ◌∷◌, [], sym}
use Rattle.spv_logic.specs.declared.conditions.TermId.{TermId}
use Rattle.spv_term.proofs.ArenaLemmas.{IsMade, IsMade-there, IsMade-pushed, if_made}
use Rattle.spv_term.proofs.terms.Terms.make.Goals as goal

made_there : (c : goal.Joined-node) → IsMade c.args.self.now c.args.self.now c.args.head c.args.args.now c.in-Some.t
made_there c =
    IsMade-there c.args.self.now c.law_arena.ensures c.args.head c.args.args.now c.requires.args c.requires.sorts c.in_ok-node.node c.in_ok-node.ensures.node
    (sym c.in-Some.ensures.found) c.in-Some.t c.in-Some.ensures.there

made_last : (c : goal.After-push) (t : TermId) → t.0 ≡ length c.args.self.now.nodes → c.push.new.self ≡ record c.args.self.now { nodes = c.args.self.now.nodes ++ c.in_ok-node.node ∷ [] }
    → IsMade c.args.self.now c.push.new.self c.args.head c.args.args.now t
made_last c t at after =
    IsMade-pushed c.args.self.now c.law_arena.ensures c.args.head c.args.args.now c.requires.args c.requires.sorts c.push.new.self c.in_ok-node.node c.in_ok-node.ensures.node
    (sym c.in_default.ensures.found) after t at

pub returns-in-Some-clause-node : goal.returns-in-Some-clause-node
returns-in-Some-clause-node c = (made_there c).node

pub returns-in-Some-clause-in_range : goal.returns-in-Some-clause-in_range
returns-in-Some-clause-in_range c = (made_there c).in_range

pub returns-in-Some-clause-tree : goal.returns-in-Some-clause-tree
returns-in-Some-clause-tree c = (made_there c).tree

pub returns-in-Some-clause-sort : goal.returns-in-Some-clause-sort
returns-in-Some-clause-sort c = (made_there c).sort

pub returns-clause-id : goal.returns-clause-id
returns-clause-id c = if_made c.push.result c.push.ensures.id c.push.ensures.ok (λ t at after. (made_last c t at after).id)

pub returns-clause-node : goal.returns-clause-node
returns-clause-node c = if_made c.push.result c.push.ensures.id c.push.ensures.ok (λ t at after. (made_last c t at after).node)

pub returns-clause-tree : goal.returns-clause-tree
returns-clause-tree c = if_made c.push.result c.push.ensures.id c.push.ensures.ok (λ t at after. (made_last c t at after).tree)

pub returns-clause-sort : goal.returns-clause-sort
returns-clause-sort c = if_made c.push.result c.push.ensures.id c.push.ensures.ok (λ t at after. (made_last c t at after).sort)
