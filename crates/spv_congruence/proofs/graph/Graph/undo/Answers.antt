use Rattle.std.proofs.Common.{ℕ, length, ap, subst, arith}
use Rattle.spv_congruence.specs.Graph.{Graph}
use Rattle.spv_congruence.specs.Keep.{graph}
use Rattle.spv_congruence.specs.Told.{Undone}
use Rattle.spv_congruence.proofs.Promises.{undone_graph, undone_is}
use Rattle.spv_congruence.proofs.graph.Graph.undo.Goals as goal

pub invariant_of-self : goal.invariant_of-self
invariant_of-self c = record {
  fits = c.undo.ensures.fits;
  graph_is = undone_graph c.self.inside.kept c.undo.new.self c.mark.inside.facts
      (let e = c.mark.view_is in let f = ap (λ (g : Graph). length g.told) c.self.view_is in omega (arith, e, f, c.requires)) c.self.invariant.graph_is c.undo.ensures.same c.undo.ensures.back;
}

pub returns : goal.returns
returns c =
    subst (λ (g : Graph). Undone g c.args.mark (graph c.undo.new.self)) c.self.view_is
    (subst (λ (n : ℕ). Undone (graph c.self.inside.kept) n (graph c.undo.new.self)) c.mark.view_is
    (undone_is c.self.inside.kept c.undo.new.self c.mark.inside.facts (let e = c.mark.view_is in let f = ap (λ (g : Graph). length g.told) c.self.view_is in omega (arith, e, f, c.requires)) c.self.invariant.graph_is c.undo.ensures.same c.undo.ensures.back))
