-- What comes of a tree that is whole.
use Rattle.std.proofs.Common.{◌≡◌, true, false, List, [], ◌∷◌, sym, ap, ◌∙◌, subst}
use Rattle.spv_term.specs.Arena.{Arena}
use Rattle.spv_atoms.specs.declared.proofs.ProofNode.{ProofNode}
use Rattle.spv_proof_rules.specs.Effects.{Question}
use Rattle.spv_proof_rules.specs.Accepted.{accepts}
use Rattle.spv_proof_rules.specs.Stand.{NodesIn}
use Rattle.spv_models.specs.split_trees.Trees.{Tree}
use Rattle.spv_models.specs.split_trees.Kept.{IsKept}
use Rattle.spv_verdicts.specs.declared.answers.trees.SplitNode.{SplitNode}
use Rattle.spv_verdicts.specs.answers.Growing.{is_whole}
use Rattle.spv_verdicts.specs.answers.Views.{SplitNodesIn}
use Rattle.spv_search.specs.declared.branches.finishing.Finished.{Finished}
use Rattle.spv_search.specs.declared.branches.finishing.Finished.TheVariants as finished
use Rattle.spv_search.specs.branches.Branches.{Branch, root, Comes}
use Rattle.spv_search.specs.branches.Growth.{Growth, IsGrowing, HasQuestion, IsIn, all_if, next, others}
use Rattle.spv_search.specs.branches.Ends.{EndsAs, IsFinished, FinishedIn}
use Rattle.spv_search.proofs.branches.Coming.{whole}
use Rattle.spv_search.proofs.branches.Ending.{kept, proof}
use Rattle.spv_search.proofs.branches.Within.{tree-in, proof-in}

-- nothing is left
ended : (q : Question) (s : Growth) → s.is_left ≡ false → IsGrowing q s → Comes q (root ∷ []) s.nodes []
ended q s e g = subst (λ (bs : List Branch). Comes q (root ∷ []) s.nodes bs) (ap (λ b. all_if b (next q.at s) (others q.at s)) e) g.comes

pub whole-at-end : (s : Growth) → s.is_left ≡ false → HasQuestion s → is_whole s.nodes ≡ true
whole-at-end s e h = whole h.question s.nodes (ended h.question s e h.grows)

pub is-finished : (s : Growth) (f : Finished) → s.is_left ≡ false → EndsAs s.nodes s.is_open f → IsFinished s f
is-finished s (finished.Proved p) e h =
    (h.0, λ q g formulas. ap (accepts q) h.1.proof_is ∙ proof q s.nodes h.1.tree formulas (ended q s e g) (sym g.open_is ∙ h.0) h.1.of_nodes.is (h.1.of_nodes.same q.at))
is-finished s (finished.Open tree) e h =
    (h.0, λ q g. subst (λ (t : Tree). IsKept q s.splits t) (sym (h.1.same q.at)) (kept q s.splits s.nodes (ended q s e g) (sym g.splits_are) (sym g.open_is ∙ h.0)))

pub finished-in : (s : Growth) (f : Finished) → EndsAs s.nodes s.is_open f → (a : Arena) → IsIn a s → FinishedIn a f
finished-in s (finished.Proved p) h a i =
    subst (λ (ns : List ProofNode). NodesIn a ns) (sym h.1.proof_is)
    (proof-in a h.1.tree (subst (λ (ns : List SplitNode). SplitNodesIn a ns) (sym h.1.of_nodes.nodes_are) (tree-in a 0 s.nodes i.nodes)))
finished-in s (finished.Open tree) h a i = subst (λ (ns : List SplitNode). SplitNodesIn a ns) (sym h.1.nodes_are) (tree-in a 0 s.nodes i.nodes)

-- ---- a call, whose tree is seen as this value

pub whole-seen : (view s : Growth) → view ≡ s → s.is_left ≡ false → HasQuestion s → is_whole view.nodes ≡ true
whole-seen view s e gone h = ap (λ (x : Growth). is_whole x.nodes) e ∙ whole-at-end s gone h

pub ends-seen : (view s : Growth) (f : Finished) → view ≡ s → EndsAs view.nodes view.is_open f → EndsAs s.nodes s.is_open f
ends-seen view s f e h = subst (λ (x : Growth). EndsAs x.nodes x.is_open f) e h

pub finished-seen : (view s : Growth) (f : Finished) → view ≡ s → s.is_left ≡ false → EndsAs view.nodes view.is_open f → IsFinished s f
finished-seen view s f e gone h = is-finished s f gone (ends-seen view s f e h)

pub finished-in-seen : (view s : Growth) (f : Finished) → view ≡ s → EndsAs view.nodes view.is_open f → (a : Arena) → IsIn a s → FinishedIn a f
finished-in-seen view s f e h = finished-in s f (ends-seen view s f e h)
