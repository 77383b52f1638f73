use Rattle.std.proofs.Common.{◌||◌, not, ap, ◌∙◌}
use mathlib.Core.Path.{ap₂}
use Rattle.spv_atoms.proofs.Walks.{term_eq-ids}
use Rattle.spv_search_terms.proofs.split_candidates.equations.wants.Goals as goal

pub returns : goal.returns
returns c =
    c.neither.ensures ∙ ap not (ap₂ ◌||◌ (term_eq-ids c.args.terms.now c.law_arena.ensures c.args.s c.args.t c.requires.s c.requires.t) c.is_truth-truth.ensures)
