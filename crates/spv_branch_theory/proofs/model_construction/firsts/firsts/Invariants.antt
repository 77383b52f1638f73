use Rattle.spv_congruence.specs.Graph.{label_of}
use Rattle.spv_branch_theory.proofs.model_construction.FirstLemmas.{Firsting}
use Rattle.spv_branch_theory.proofs.model_construction.firsts.firsts.Given as goal

abbrev pub invariant-loop-place : goal.invariant-loop-place
invariant-loop-place l = Firsting (label_of l.graph.joins) l.ids l.flags l.place l.seen l.places.items
