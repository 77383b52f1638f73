use Rattle.std.proofs.Common.{◌∙◌, sym, ap}
use Rattle.spv_atoms.specs.Atoms.{is_truth_value}
use Rattle.spv_term.proofs.ArenaLemmas.{tree-node}
use Rattle.spv_search_terms.proofs.head_index.tests.is_truth_value.Goals as goal

pub returns : goal.returns
returns c = c.is_fixed.ensures ∙ ap is_truth_value (sym (tree-node c.args.terms.now c.law_arena.ensures c.args.t c.node.result.now c.node.ensures))
