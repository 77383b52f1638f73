use Rattle.std.proofs.Common.{OnOk, false, subst}
use Rattle.spv_congruence.specs.declared.facts.Fact.{Fact}
use Rattle.spv_congruence.specs.Graph.{Graph}
use Rattle.spv_congruence.specs.Keep.{graph}
use Rattle.spv_congruence.specs.Told.{Joins}
use Rattle.spv_congruence.proofs.Promises.{on_ok, joins_is}
use Rattle.spv_congruence.proofs.graph.Graph.separate.Goals as goal

pub returns-clause-ok : goal.returns-clause-ok
returns-clause-ok c =
    let x : Fact = record { left = c.args.s; right = c.args.t; why = c.args.why; equal = false } in
    subst (λ (g : Graph). OnOk c.tell-told.result (Joins g x (graph c.tell-told.new.self))) c.self.view_is
    (on_ok c.tell-told.result c.tell-told.ensures.ok (λ h. joins_is c.self.inside.kept c.tell-told.new.self x h c.self.invariant.graph_is c.law_joins.ensures))
