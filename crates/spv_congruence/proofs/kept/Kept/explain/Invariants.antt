use Rattle.std.proofs.Common.{ℕ, ◌≤◌, length}
use Rattle.spv_logic.specs.declared.conditions.TermId.{TermId}
use Rattle.spv_congruence.specs.Keep.{graph}
use Rattle.spv_congruence.specs.Explained.{AreWorks, SameAt, Leads, Owes, costs}
use Rattle.spv_congruence.proofs.kept.Kept.explain.Given as goal

abbrev pub invariant-loop-work : goal.invariant-loop-work
invariant-loop-work l = record {
  works : AreWorks (graph l.self) l.works.items;
  leads : (k : ℕ) → k ≤ length l.self.classes.joins → SameAt (graph l.self) k l.fn.s l.fn.t → (u : TermId) × Leads (graph l.self) k l.fn.s l.links.items u × Owes (graph l.self) k u l.works.items l.fn.t;
}

abbrev pub decreases-loop-work : goal.decreases-loop-work
decreases-loop-work l = costs (graph l.self) l.works.items
