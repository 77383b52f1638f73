-- Nodes that are taken one after the other are a tree.
use Rattle.std.proofs.Common.{◌≡◌, ℕ, ◌+◌, ◌<◌, ◌≤◌, List, [], ◌∷◌, length, get_or, drop, IsTrue, refl, sym, ap, ◌∙◌, subst, add-one}
use Rattle.std.proofs.lemmas.List.{drop_more, drop_all}
use Rattle.spv_atoms.specs.declared.proofs.ProofNode.{ProofNode}
use Rattle.spv_atoms.specs.Shape.{in_order}
use Rattle.spv_trimming.specs.Waiting.{Takes}

node-at : (nodes : List ProofNode) (place : ℕ) (n : ProofNode) → place < length nodes → n ≡ get_or nodes place n → drop place nodes ≡ n ∷ drop (place + 1) nodes
node-at nodes place n within is = drop_more nodes place n within ∙ ap (λ (m : ProofNode). m ∷ drop (place + 1) nodes) (sym is)

-- nodes from a place on are in order, if those behind it are
pub goes-on : (old : List ℕ) (place : ℕ) (n : ProofNode) (nodes : List ProofNode) (new : List ℕ) → Takes old place n.split new → place < length nodes → n ≡ get_or nodes place n
    → IsTrue (in_order (place + 1) new (drop (place + 1) nodes)) → IsTrue (in_order place old (drop place nodes))
goes-on old place n nodes new takes within is h =
    subst (λ (ns : List ProofNode). IsTrue (in_order place old ns)) (sym (node-at nodes place n within is))
    (takes n (drop (place + 1) nodes) refl (subst (λ (k : ℕ). IsTrue (in_order k new (drop (place + 1) nodes))) (add-one place) h))

-- behind the last one none may be wanted
pub at-end : (place : ℕ) (left : List ℕ) (nodes : List ProofNode) → left ≡ [] → length nodes ≤ place → IsTrue (in_order place left (drop place nodes))
at-end place left nodes empty behind =
    subst (λ (ns : List ProofNode). IsTrue (in_order place left ns)) (sym (drop_all place nodes behind))
    (subst (λ (ws : List ℕ). IsTrue (in_order place ws [])) (sym empty) refl)
