-- What is true of nodes that take branches, and of cases.
use Rattle.std.specs.Prelude.{◌≡◌, ◌<◌, ℕ, true, false, List, [], ◌∷◌, ◌++◌, IsTrue, Some, slice_get}
use Rattle.spv_logic.specs.declared.conditions.TermId.{TermId}
use Rattle.spv_logic.specs.Terms.{Term, term_eq}
use Rattle.spv_term.specs.Arena.{Arena}
use Rattle.spv_proof_rules.specs.Effects.{Question}
use Rattle.spv_proof_rules.specs.Accepted.{accepts}
use Rattle.spv_models.specs.leaf_models.Laws.{AreFormulas}
use Rattle.spv_models.specs.leaf_models.Subterms.{is_among}
use Rattle.spv_models.specs.leaf_models.Tables.{formulas_of}
use Rattle.spv_models.specs.split_trees.Kept.{Stands, IsKept}
use Rattle.spv_verdicts.specs.declared.answers.growing.Grown.{Grown}
use Rattle.spv_verdicts.specs.declared.answers.trees.SplitNode.{SplitNode}
use Rattle.spv_verdicts.specs.answers.Growing.{is_whole, grown_at}
use Rattle.spv_verdicts.specs.answers.Laws.{AllClosed}
use Rattle.spv_verdicts.specs.answers.Nodes.{is_split_tree, tree_at, proof_nodes}
use Rattle.spv_search.specs.declared.branches.cases.Case.{Case}
use Rattle.spv_search.specs.branches.Branches.{Branch, root, left_by, MayTake, Comes}
use Rattle.spv_search.specs.branches.Counts.{some_open, split_count, room}
use Rattle.spv_search.specs.branches.Growth.{branch_of, CaseIn, CasesIn}

-- one more node takes the branch that comes next
abbrev pub NodesGoOn : Type 0
NodesGoOn = (q : Question) (bs : List Branch) (nodes : List Grown) (b : Branch) (rest : List Branch) (n : Grown)
    → Comes q bs nodes (b ∷ rest) → MayTake q b n → Comes q bs (nodes ++ n ∷ []) (left_by q b n ++ rest)

-- a node takes more room than it leaves: so no walk over a tree goes on for ever
abbrev pub NodesTakeRoom : Type 0
NodesTakeRoom = (q : Question) (b : Branch) (rest : List Branch) (n : Grown) → MayTake q b n → room q (left_by q b n ++ rest) < room q (b ∷ rest)

-- nodes after which no branch is left are one whole tree
abbrev pub NodesAreWhole : Type 0
NodesAreWhole = (q : Question) (nodes : List Grown) → Comes q (root ∷ []) nodes [] → IsTrue (is_whole nodes)

-- which stands
abbrev pub TreeStands : Type 0
TreeStands = (q : Question) (nodes : List Grown) → Comes q (root ∷ []) nodes [] → Stands q [] [] (grown_at q.at nodes)

-- with an open node, and so many splits, it is kept
abbrev pub TreeIsKept : Type 0
TreeIsKept = (q : Question) (limit : ℕ) (nodes : List Grown) → Comes q (root ∷ []) nodes [] → split_count nodes ≡ limit → some_open nodes ≡ true
    → IsKept q limit (grown_at q.at nodes)

-- where no node is open, each path is closed
abbrev pub TreeIsClosed : Type 0
TreeIsClosed = (q : Question) (nodes : List Grown) → AreFormulas q.shapes q.decls (formulas_of q.sequent) → Comes q (root ∷ []) nodes [] → some_open nodes ≡ false
    → AllClosed q [] (grown_at q.at nodes)

-- so the list that the tree is in the end is an accepted proof
abbrev pub TreeIsProof : Type 0
TreeIsProof = (q : Question) (nodes : List Grown) (tree : List SplitNode) → AreFormulas q.shapes q.decls (formulas_of q.sequent) → Comes q (root ∷ []) nodes [] → some_open nodes ≡ false
    → IsTrue (is_split_tree tree) → tree_at q.at tree ≡ grown_at q.at nodes → accepts q (proof_nodes tree) ≡ true

-- ---- cases

-- an atom that no case is of was not split on above
abbrev pub OthersAreNew : Type 0
OthersAreNew = (at : TermId → Term) (cs : List Case) (t : Term) → ((i : ℕ) (c : Case) → slice_get cs i ≡ Some c → term_eq t (at c.atom) ≡ false) → is_among (branch_of at cs).above t ≡ false

-- of cases that are in the arena the last one may be told
abbrev pub LastIsIn : Type 0
LastIsIn = (a : Arena) (cs : List Case) (c : Case) → CasesIn a (cs ++ c ∷ []) → CaseIn a c
