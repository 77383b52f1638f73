-- What is true of the verdicts of a search.
use Rattle.std.specs.Prelude.{◌≡◌, ◌^◌, ◌<◌, true, length}
use Rattle.spv_logic.specs.Terms.{Term}
use Rattle.spv_term.specs.Arena.{Arena, trees_of}
use Rattle.spv_proof_rules.specs.Effects.{Question}
use Rattle.spv_models.specs.leaf_models.Atoms.{all_equations}
use Rattle.spv_models.specs.leaf_models.Subterms.{is_among, subterms}
use Rattle.spv_models.specs.leaf_models.Tables.{formulas_of}
use Rattle.spv_search_terms.specs.subterms.Gaining.{Stops}
use Rattle.spv_models.specs.split_trees.Trees.{Tree}
use Rattle.spv_models.specs.split_trees.Paths.{atoms}
use Rattle.spv_search_terms.specs.condition_copy.Copies.{all_terms}
use Rattle.spv_verdicts.specs.Verdicts.{Limits, Splits, TooManyTerms, IsReached, search_terms}

-- ---- terms

-- each subterm of the condition counts
abbrev pub HasParts : Type 0
HasParts = (q : Question) (t : Term) → is_among (subterms (formulas_of q.sequent)) t ≡ true → is_among (search_terms q) t ≡ true

-- and each atom
abbrev pub HasAtoms : Type 0
HasAtoms = (q : Question) (t : Term) → is_among (atoms q) t ≡ true → is_among (search_terms q) t ≡ true

-- where a copy of the condition has no room, there are too many terms
abbrev pub CopiesTooMany : Type 0
CopiesTooMany = (a : Arena) (q : Question) (limits : Limits) → limits.terms < length (all_terms q.sequent) → IsReached a q limits (TooManyTerms limits.terms)

-- so there are where the equations of the atoms have no room in the arena of such a copy
abbrev pub AsksTooMany : Type 0
AsksTooMany = (a : Arena) (q : Question) (limits : Limits) → trees_of a.nodes ≡ all_terms q.sequent → a.most ≡ limits.terms → Stops a (all_equations q.shapes q.decls (subterms (formulas_of q.sequent)))
    → IsReached a q limits (TooManyTerms limits.terms)

-- ---- splits

-- a search that gave up for want of splits was allowed fewer than 3 to the power of the number of atoms
abbrev pub SplitsAreFew : Type 0
SplitsAreFew = (a : Arena) (q : Question) (limits : Limits) (tree : Tree) → IsReached a q limits (Splits tree) → limits.splits < 3 ^ length (atoms q)
