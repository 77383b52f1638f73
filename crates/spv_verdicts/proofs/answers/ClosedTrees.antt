-- A tree whose paths are all closed is an accepted proof.
use Rattle.std.proofs.Common.{◌≡◌, ℕ, suc, Bool, true, ◌&&◌, List, [], ◌∷◌, ◌++◌, map, take, drop, length, refl, sym, ap, ◌∙◌, subst, None, arith}
use Rattle.std.specs.Prelude.{nat_eq, ⊤}
use Rattle.std.specs.Cmp.Derive.{both_true}
use Rattle.std.proofs.lemmas.Bool.{false≢true}
use Rattle.std.proofs.lemmas.Bool.Decides.{nat_tests}
use Rattle.std.proofs.lemmas.List.{take-append-drop}
use Rattle.spv_logic.proofs.list.Tests.{left_true, right_true}
use Rattle.spv_logic.specs.declared.conditions.TermId.{TermId}
use Rattle.spv_logic.specs.Terms.{Term}
use Rattle.spv_atoms.specs.declared.proofs.Step.{Step}
use Rattle.spv_atoms.specs.declared.proofs.ProofNode.{ProofNode}
use Rattle.spv_atoms.specs.Atoms.{is_atom}
use Rattle.spv_atoms.specs.Shape as shape
use Rattle.spv_proof_rules.specs.Effects.{Question, is_truth}
use Rattle.spv_proof_rules.specs.Accepted as accepted
use Rattle.spv_proof_rules.specs.Accepted.{Path, accepts, after_node, cases_of, closes, on_opened, opened_if, walk}
use Rattle.spv_models.specs.split_trees.Trees.{Tree}
use Rattle.spv_verdicts.specs.declared.answers.trees.SplitNode.{SplitNode}
use Rattle.spv_verdicts.specs.declared.answers.trees.SplitNode.TheVariants as node
use Rattle.spv_verdicts.specs.answers.Nodes.{parts_of, has_parts, in_order, is_split_tree, joined, trees_at, first_tree, tree_at, proof_node, proof_nodes}
use Rattle.spv_verdicts.specs.answers.Laws.{AllClosed, PartsClosed}
use Rattle.spv_verdicts.proofs.answers.OneTree.{as_many, behind, taken}

same_number : (n : ℕ) → nat_eq n n ≡ true
same_number n = grind (arith, nat_tests)

-- each of these paths is closed by the tree at its place
abbrev PathsClosed : Question → List (List Term) → List Tree → Type 0
PathsClosed q [] [] = ⊤
PathsClosed q (cases ∷ paths) (t ∷ ts) = AllClosed q cases t × PathsClosed q paths ts
PathsClosed q _ _ = ⊥

paths-append : (q : Question) (ps qs : List (List Term)) (ts us : List Tree) → PathsClosed q ps ts → PathsClosed q qs us → PathsClosed q (ps ++ qs) (ts ++ us)
paths-append q [] qs [] us h k = k
paths-append q [] qs (t ∷ ts) us h k = absurd h
paths-append q (p ∷ ps) qs [] us h k = absurd h
paths-append q (p ∷ ps) qs (t ∷ ts) us h k = (h.0, paths-append q ps qs ts us h.1 k)

abbrev case_behind : List Term → Term → List Term
case_behind cases f = cases ++ f ∷ []

parts-paths : (q : Question) (cases fs : List Term) (ts : List Tree) → PartsClosed q cases fs (joined ts) → PathsClosed q (map (case_behind cases) fs) ts
parts-paths q cases [] [] h = tt
parts-paths q cases [] (t ∷ ts) h = absurd h
parts-paths q cases (f ∷ fs) [] h = absurd h
parts-paths q cases (f ∷ fs) (t ∷ ts) h = (h.0, parts-paths q cases fs ts h.1)

parts-count : (q : Question) (cases fs : List Term) (ts : List Tree) → PartsClosed q cases fs (joined ts) → length ts ≡ length fs
parts-count q cases [] [] h = refl
parts-count q cases [] (t ∷ ts) h = absurd h
parts-count q cases (f ∷ fs) [] h = absurd h
parts-count q cases (f ∷ fs) (t ∷ ts) h = ap suc (parts-count q cases fs ts h.1)

abbrev onward : Question → List (List Term) → List SplitNode → List (List Term) → Bool
onward q paths nodes new = closes q (new ++ paths) (proof_nodes nodes)

closed_node : (q : Question) (cases : List Term) (paths : List (List Term)) (steps : List Step) (nodes : List SplitNode) → walk q cases steps ≡ accepted.Closed → closes q paths (proof_nodes nodes) ≡ true
    → closes q (cases ∷ paths) (proof_nodes (node.Closed steps ∷ nodes)) ≡ true
closed_node q cases paths steps nodes e h = ap (λ (p : Path). on_opened (after_node q p None) (onward q paths nodes)) e ∙ h

split_node : (q : Question) (cases : List Term) (paths : List (List Term)) (t : TermId) (parts : List ℕ) (nodes : List SplitNode) → is_atom (is_truth q) (q.at t) ≡ true → length parts ≡ length (cases_of q (q.at t))
    → closes q (map (case_behind cases) (cases_of q (q.at t)) ++ paths) (proof_nodes nodes) ≡ true → closes q (cases ∷ paths) (proof_nodes (node.Split t parts ∷ nodes)) ≡ true
split_node q cases paths t parts nodes atom many h =
    let fits : (is_atom (is_truth q) (q.at t) && nat_eq (length parts) (length (cases_of q (q.at t)))) ≡ true =
    both_true atom (ap (nat_eq (length parts)) (sym many) ∙ same_number (length parts)) in
    ap (λ (b : Bool). on_opened (opened_if b cases (cases_of q (q.at t))) (onward q paths nodes)) fits ∙ h

all_close : (q : Question) (place : ℕ) (wanted : List ℕ) (nodes : List SplitNode) (paths : List (List Term)) → in_order place wanted nodes ≡ true → PathsClosed q paths (trees_at q.at nodes) → closes q paths (proof_nodes nodes) ≡ true
all_close q place [] [] [] h k = refl
all_close q place [] [] (p ∷ paths) h k = absurd k
all_close q place [] (n ∷ nodes) paths h k = absurd (false≢true h)
all_close q place (w ∷ others) [] paths h k = absurd (false≢true h)
all_close q place (w ∷ others) (node.Open ∷ nodes) [] h k = absurd k
all_close q place (w ∷ others) (node.Open ∷ nodes) (p ∷ paths) h k = absurd k.0
all_close q place (w ∷ others) (node.Closed steps ∷ nodes) [] h k = absurd k
all_close q place (w ∷ others) (node.Closed steps ∷ nodes) (p ∷ paths) h k =
    closed_node q p paths steps nodes k.0 (all_close q (suc place) others nodes paths (behind place w others (node.Closed steps) nodes h) k.1)
all_close q place (w ∷ others) (node.Split t parts ∷ nodes) [] h k = absurd k
all_close q place (w ∷ others) (node.Split t parts ∷ nodes) (p ∷ paths) h k =
    let next : in_order (suc place) (parts ++ others) nodes ≡ true = behind place w others (node.Split t parts) nodes h in
    let ts : List Tree = trees_at q.at nodes in
    let fs : List Term = cases_of q (q.at t) in
    let front : List Tree = take (length parts) ts in
    let many : length parts ≡ length fs = sym (taken ts parts others (as_many q.at (suc place) (parts ++ others) nodes next)) ∙ parts-count q p fs front k.0.1 in
    let both : PathsClosed q (map (case_behind p) fs ++ paths) (front ++ drop (length parts) ts) = paths-append q (map (case_behind p) fs) paths front (drop (length parts) ts) (parts-paths q p fs front k.0.1) k.1 in
    split_node q p paths t parts nodes k.0.0 many
    (all_close q (suc place) (parts ++ others) nodes (map (case_behind p) fs ++ paths) next
    (subst (λ (us : List Tree). PathsClosed q (map (case_behind p) fs ++ paths) us) (take-append-drop (length parts) ts) both))

one_path : (q : Question) (ts : List Tree) → length ts ≡ 1 → AllClosed q [] (first_tree ts) → PathsClosed q ([] ∷ []) ts
one_path q [] e h = absurd (cc)
one_path q (t ∷ []) e h = (h, tt)
one_path q (t ∷ u ∷ ts) e h = absurd (omega (arith, e))

pub closed_accepted : (q : Question) (nodes : List SplitNode) → is_split_tree nodes ≡ true → AllClosed q [] (tree_at q.at nodes) → accepts q (proof_nodes nodes) ≡ true
closed_accepted q nodes h k = all_close q 0 (0 ∷ []) nodes ([] ∷ []) h (one_path q (trees_at q.at nodes) (as_many q.at 0 (0 ∷ []) nodes h) k)

-- ---- as the nodes of a proof

stands : (wanted place : ℕ) (n : SplitNode) (others : List ℕ) (rest : List ProofNode) (b : Bool) → (nat_eq wanted place && (has_parts n && b)) ≡ true
    → (b ≡ true → shape.in_order (suc place) (parts_of n ++ others) rest ≡ true) → shape.in_order place (wanted ∷ others) (proof_node n ∷ rest) ≡ true
stands wanted place node.Open others rest b h next = both_true (left_true (nat_eq wanted place) _ h) (next (right_true (nat_eq wanted place) _ h))
stands wanted place (node.Closed steps) others rest b h next = both_true (left_true (nat_eq wanted place) _ h) (next (right_true (nat_eq wanted place) _ h))
stands wanted place (node.Split t parts) others rest b h next =
    let second = right_true (nat_eq wanted place) _ h in
    both_true (left_true (nat_eq wanted place) _ h) (both_true (left_true (shape.is_some_part parts) _ second) (next (right_true (shape.is_some_part parts) _ second)))

in_order_too : (place : ℕ) (wanted : List ℕ) (nodes : List SplitNode) → in_order place wanted nodes ≡ true → shape.in_order place wanted (proof_nodes nodes) ≡ true
in_order_too place [] [] h = refl
in_order_too place [] (n ∷ nodes) h = absurd (false≢true h)
in_order_too place (w ∷ others) [] h = absurd (false≢true h)
in_order_too place (w ∷ others) (n ∷ nodes) h = stands w place n others (proof_nodes nodes) (in_order (suc place) (parts_of n ++ others) nodes) h (in_order_too (suc place) (parts_of n ++ others) nodes)

pub closed_tree : (nodes : List SplitNode) → is_split_tree nodes ≡ true → shape.is_tree (proof_nodes nodes) ≡ true
closed_tree nodes h = in_order_too 0 (0 ∷ []) nodes h
