use Rattle.std.proofs.Common.{◌≡◌, length, map, refl, sym, ap, ◌∙◌, subst}
use mathlib.Core.Path.{ap₂}
use Rattle.spv_tableau_rules.specs.tableaux.Operations.{Operation}
use Rattle.spv_dictionary.specs.pivoting.Choosing.{limits_of}
use Rattle.spv_dictionary.specs.pivoting.Combining.{multiple_in}
use Rattle.spv_simplex.specs.Evidence.{EvidenceValue, with_operation}
use Rattle.spv_simplex.specs.Searching.{PlacingEnds, Arrives, placing, arriving}
use Rattle.spv_simplex.proofs.searching.search.Goals as goal

pub returns-in-Ok-clause-ends : goal.returns-in-Ok-clause-ends
returns-in-Ok-clause-ends c =
    arriving c.place_all.new.values c.go.result c.in-Ok.ensures.placed
    (subst (λ (e : EvidenceValue). Arrives (limits_of (length c.args.dictionary.now.outside) c.args.trail.now.bounds) c.args.dictionary.now c.place_all.new.values e c.go.new.dictionary c.go.new.values
    (map multiple_in c.go.new.combination.items) c.go.new.evidence c.go.result) c.begin.ensures c.go.ensures.arrives)

pub returns-in-Err-clause-ends : goal.returns-in-Err-clause-ends
returns-in-Err-clause-ends c =
    let operation : c.refuse.new.self.operation ≡ c.in-Err.refused = ap (λ (e : EvidenceValue). e.operation) c.refuse.ensures in
    placing
    (subst (λ (o : Operation). PlacingEnds (limits_of (length c.args.dictionary.now.outside) c.args.trail.now.bounds) c.args.dictionary.now c.args.values.now c.place_all.new.values o) (sym operation) c.in-Err.ensures.refused)
    refl (c.refuse.ensures ∙ ap₂ (λ (e : EvidenceValue) (o : Operation). with_operation e o) c.begin.ensures (sym operation))
