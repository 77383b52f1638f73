-- The list that a tree is in the end.
use Rattle.std.proofs.Common.{◌≡◌, ℕ, zero, suc, ◌+◌, ◌-◌, ◌<◌, ◌≤◌, true, List, [], ◌∷◌, ◌++◌, take, drop, length, refl, sym, ap, ◌∙◌, arith}
use mathlib.Core.Path.{ap₂}
use Rattle.std.specs.Prelude.{nat_eq, reverse}
use Rattle.std.specs.Cmp.Derive.{both_true}
use Rattle.std.proofs.Math.Seq.{take-append_seam, drop-append_seam}
use Rattle.std.proofs.lemmas.Bool.{false≢true}
use Rattle.std.proofs.lemmas.Bool.Decides.{nat_tests}
use Rattle.std.proofs.lemmas.List.{append-nil, append_assoc, length-append, length-drop, length-take-le, length_push, take-append-drop, reverse-append, length-reverse}
use Rattle.spv_logic.proofs.list.Tests.{left_true, right_true}
use Rattle.spv_logic.specs.declared.conditions.TermId.{TermId}
use Rattle.spv_logic.specs.Terms.{Term}
use Rattle.spv_atoms.specs.Shape.{is_some_part}
use Rattle.spv_models.specs.split_trees.Trees as trees
use Rattle.spv_models.specs.split_trees.Trees.{Tree}
use Rattle.spv_verdicts.specs.declared.answers.growing.Grown.{Grown}
use Rattle.spv_verdicts.specs.declared.answers.growing.Grown.TheVariants as grown
use Rattle.spv_verdicts.specs.declared.answers.trees.SplitNode.{SplitNode}
use Rattle.spv_verdicts.specs.declared.answers.trees.SplitNode.TheVariants as node
use Rattle.spv_verdicts.specs.answers.Nodes as list
use Rattle.spv_verdicts.specs.answers.Nodes.{in_order, is_split_tree, joined, trees_at, first_tree, tree_at}
use Rattle.spv_verdicts.specs.answers.Growing.{parts_count, is_positive, has_parts, are_whole, is_whole, with_grown, grown_trees, grown_at, roots, placed_node, placed, IsTaken, IsNodePlaced}

same_number : (n : ℕ) → nat_eq n n ≡ true
same_number n = grind (arith, nat_tests)

-- ---- as many trees as are wanted

pub many_roots : (wanted place : ℕ) (nodes : List Grown) → are_whole wanted nodes ≡ true → length (roots place nodes) ≡ wanted
many_roots zero place [] h = refl
many_roots zero place (n ∷ nodes) h = absurd (false≢true h)
many_roots (suc wanted) place [] h = absurd (false≢true h)
many_roots (suc wanted) place (n ∷ nodes) h =
    let rest = many_roots (parts_count n + wanted) (suc place) nodes (right_true (has_parts n) (are_whole (parts_count n + wanted) nodes) h) in
    let less = length-drop (parts_count n) (roots (suc place) nodes) in
    ap suc (left_over (parts_count n) (length (roots (suc place) nodes)) (length (drop (parts_count n) (roots (suc place) nodes))) rest less)
  where
    left_over : (k m d : ℕ) → m ≡ k + wanted → d ≡ m - k → d ≡ wanted
    left_over k m d e f = omega (arith, e, f)

-- ---- in order

some_part : (n : ℕ) (xs : List ℕ) → is_positive n ≡ true → n ≤ length xs → is_some_part (take n xs) ≡ true
some_part zero xs h k = absurd (false≢true h)
some_part (suc n) [] h k = absurd (omega (arith, k))
some_part (suc n) (x ∷ xs) h k = refl

drop_none : (xs : List ℕ) → drop 0 xs ≡ xs
drop_none [] = refl
drop_none (x ∷ xs) = refl

-- the parts of a node, and the places that it leaves
node_parts : (n : Grown) (places : List ℕ) → list.parts_of (placed_node n places) ++ drop (parts_count n) places ≡ places
node_parts grown.Open places = drop_none places
node_parts (grown.Closed steps) places = drop_none places
node_parts (grown.Split t count) places = take-append-drop count places

node_has : (n : Grown) (places : List ℕ) → has_parts n ≡ true → parts_count n ≤ length places → list.has_parts (placed_node n places) ≡ true
node_has grown.Open places h k = refl
node_has (grown.Closed steps) places h k = refl
node_has (grown.Split t count) places h k = some_part count places h k

enough : (k wanted m : ℕ) → m ≡ k + wanted → k ≤ m
enough k wanted m e = omega (arith, e)

pub ordered : (wanted place : ℕ) (nodes : List Grown) → are_whole wanted nodes ≡ true → in_order place (roots place nodes) (placed place nodes) ≡ true
ordered zero place [] h = refl
ordered zero place (n ∷ nodes) h = absurd (false≢true h)
ordered (suc wanted) place [] h = absurd (false≢true h)
ordered (suc wanted) place (n ∷ nodes) h =
    let whole = right_true (has_parts n) (are_whole (parts_count n + wanted) nodes) h in
    let many = many_roots (parts_count n + wanted) (suc place) nodes whole in
    both_true (same_number place)
    (both_true (node_has n (roots (suc place) nodes) (left_true (has_parts n) _ h) (enough (parts_count n) wanted (length (roots (suc place) nodes)) many))
    (ap (λ ps. in_order (suc place) ps (placed (suc place) nodes)) (node_parts n (roots (suc place) nodes)) ∙ ordered (parts_count n + wanted) (suc place) nodes whole))

one_root : (nodes : List Grown) → length (roots 0 nodes) ≡ 1 → roots 0 nodes ≡ 0 ∷ []
one_root [] e = absurd (cc)
one_root (n ∷ nodes) e = ap (λ xs. 0 ∷ xs) (none (drop (parts_count n) (roots 1 nodes)) e)
  where
    none : (xs : List ℕ) → suc (length xs) ≡ 1 → xs ≡ []
    none [] f = refl
    none (x ∷ xs) f = absurd (omega (arith, f))

pub placed_tree : (nodes : List Grown) → is_whole nodes ≡ true → is_split_tree (placed 0 nodes) ≡ true
placed_tree nodes h = ap (λ ps. in_order 0 ps (placed 0 nodes)) (sym (one_root nodes (many_roots 1 0 nodes h))) ∙ ordered 1 0 nodes h

-- ---- the same trees

same_node : (at : TermId → Term) (n : Grown) (places : List ℕ) (others : List Tree) → parts_count n ≤ length places → list.with_node at (placed_node n places) others ≡ with_grown at n others
same_node at grown.Open places others h = refl
same_node at (grown.Closed steps) places others h = refl
same_node at (grown.Split t count) places others h = ap (λ k. trees.Split (at t) (joined (take k others)) ∷ drop k others) (length-take-le count places h)

same_trees : (at : TermId → Term) (wanted place : ℕ) (nodes : List Grown) → are_whole wanted nodes ≡ true → trees_at at (placed place nodes) ≡ grown_trees at nodes
same_trees at zero place [] h = refl
same_trees at zero place (n ∷ nodes) h = absurd (false≢true h)
same_trees at (suc wanted) place [] h = absurd (false≢true h)
same_trees at (suc wanted) place (n ∷ nodes) h =
    let whole = right_true (has_parts n) (are_whole (parts_count n + wanted) nodes) h in
    let many = many_roots (parts_count n + wanted) (suc place) nodes whole in
    same_node at n (roots (suc place) nodes) (trees_at at (placed (suc place) nodes)) (enough (parts_count n) wanted (length (roots (suc place) nodes)) many)
    ∙ ap (with_grown at n) (same_trees at (parts_count n + wanted) (suc place) nodes whole)

pub same_tree : (at : TermId → Term) (nodes : List Grown) → is_whole nodes ≡ true → tree_at at (placed 0 nodes) ≡ grown_at at nodes
same_tree at nodes h = ap first_tree (same_trees at 1 0 nodes h)

-- ---- taking parts

pub record Taking (start now : List ℕ) (parts : List ℕ) (count : ℕ) : Type 0 where
  pub same : reverse start ≡ parts ++ reverse now
  pub many : length parts ≡ count

pub taking_starts : (start parts : List ℕ) → parts ≡ [] → Taking start start parts 0
taking_starts start parts e = record { same = ap (λ xs. xs ++ reverse start) (sym e); many = ap length e }

pub taking_on : (start now next parts more : List ℕ) (count x : ℕ) → Taking start now parts count → now ≡ next ++ x ∷ [] → more ≡ parts ++ x ∷ [] → Taking start next more (count + 1)
taking_on start now next parts more count x h e f = record {
  same = h.same ∙ (ap (λ xs. parts ++ reverse xs) e ∙ (ap (λ xs. parts ++ xs) (reverse-append next (x ∷ [])) ∙ (sym (append_assoc parts (x ∷ []) (reverse next)) ∙ ap (λ xs. xs ++ reverse next) (sym f))));
  many = let longer = length_push parts x in let same : length more ≡ length (parts ++ x ∷ []) = ap length f in let old = h.many in omega (arith, longer, same, old);
}

-- there is a place to be taken
pub place_left : (start now parts : List ℕ) (count all : ℕ) → Taking start now parts count → all ≤ length start → count < all → 0 < length now
place_left start now parts count all h enough_are below =
    let front = length-reverse start in
    let back = length-reverse now in
    let both : length (reverse start) ≡ length (parts ++ reverse now) = ap length h.same in
    let split = length-append parts (reverse now) in
    let many = h.many in
    omega (arith, front, back, both, split, many, enough_are, below)

-- ---- one node

pub node_alone : (place : ℕ) (old new : List ℕ) → new ≡ old ++ place ∷ [] → reverse new ≡ place ∷ drop 0 (reverse old)
node_alone place old new e = ap reverse e ∙ (reverse-append old (place ∷ []) ∙ ap (λ xs. place ∷ xs) (sym (drop_none (reverse old))))

pub node_split : (t : TermId) (place count : ℕ) (old now new parts : List ℕ) → IsTaken old now parts count → new ≡ now ++ place ∷ [] → IsNodePlaced (grown.Split t count) place old new (node.Split t parts)
node_split t place count old now new parts h e = record {
  roots_are =
      ap reverse e
      ∙ (reverse-append now (place ∷ []) ∙ ap (λ xs. place ∷ xs) (sym (ap (λ k. drop k (reverse old)) (sym h.many) ∙ (ap (drop (length parts)) h.same ∙ drop-append_seam parts (reverse now)))));
  node_is = ap (node.Split t) (sym (ap (λ k. take k (reverse old)) (sym h.many) ∙ (ap (take (length parts)) h.same ∙ take-append_seam parts (reverse now))));
}

-- ---- all nodes, the last one first

pub record PlacingAll (all left : List Grown) (roots_now : List ℕ) (other : List SplitNode) : Type 0 where
  pub tail : List Grown
  pub all_is : all ≡ left ++ tail
  pub roots_are : reverse roots_now ≡ roots (length left) tail
  pub placed_are : reverse other ≡ placed (length left) tail

pub placing_starts : (all left : List Grown) (roots_now : List ℕ) (other : List SplitNode) → left ≡ all → roots_now ≡ [] → other ≡ [] → PlacingAll all left roots_now other
placing_starts all left roots_now other e f g = record { tail = []; all_is = sym e ∙ sym (append-nil left); roots_are = ap reverse f; placed_are = ap reverse g }

-- what is behind some nodes is whole too
record IsBehind (nodes : List Grown) : Type 0 where
  wanted : ℕ
  whole : are_whole wanted nodes ≡ true

behind : (wanted : ℕ) (left tail : List Grown) → are_whole wanted (left ++ tail) ≡ true → IsBehind tail
behind wanted [] tail h = record { wanted = wanted; whole = h }
behind zero (n ∷ left) tail h = absurd (false≢true h)
behind (suc wanted) (n ∷ left) tail h = behind (parts_count n + wanted) left tail (right_true (has_parts n) (are_whole (parts_count n + wanted) (left ++ tail)) h)

-- the nodes behind one have as many trees as it has parts, or more
behind_one : (n : Grown) (tail : List Grown) (place : ℕ) → IsBehind (n ∷ tail) → parts_count n ≤ length (roots place tail)
behind_one n tail place h = by_wanted h.wanted h.whole
  where
    by_wanted : (wanted : ℕ) → are_whole wanted (n ∷ tail) ≡ true → parts_count n ≤ length (roots place tail)
    by_wanted zero e = absurd (false≢true e)
    by_wanted (suc wanted) e = enough (parts_count n) wanted (length (roots place tail)) (many_roots (parts_count n + wanted) place tail (right_true (has_parts n) (are_whole (parts_count n + wanted) tail) e))

pub parts_there : (all left popped : List Grown) (n : Grown) (roots_now : List ℕ) (other : List SplitNode) → is_whole all ≡ true → PlacingAll all left roots_now other → left ≡ popped ++ n ∷ [] → parts_count n ≤ length roots_now
parts_there all left popped n roots_now other whole h e =
    let is : all ≡ popped ++ n ∷ h.tail = h.all_is ∙ (ap (λ xs. xs ++ h.tail) e ∙ append_assoc popped (n ∷ []) h.tail) in
    let many = behind_one n h.tail (length left) (behind 1 popped (n ∷ h.tail) (sym (ap is_whole is) ∙ whole)) in
    let turned = length-reverse roots_now in
    let same : length (reverse roots_now) ≡ length (roots (length left) h.tail) = ap length h.roots_are in
    omega (arith, many, turned, same)

pub placing_on : (all left popped : List Grown) (n : Grown) (roots_now next : List ℕ) (other more : List SplitNode) (m : SplitNode) (place : ℕ) → PlacingAll all left roots_now other → left ≡ popped ++ n ∷ [] → place ≡ length popped → IsNodePlaced n place roots_now next m
    → more ≡ other ++ m ∷ [] → PlacingAll all popped next more
placing_on all left popped n roots_now next other more m place h e at p f =
    let longer = length_push popped n in let same_length : length left ≡ length (popped ++ n ∷ []) = ap length e in let count : length left ≡ suc (length popped) = omega (arith, longer, same_length) in
    let roots_old : reverse roots_now ≡ roots (suc (length popped)) h.tail = h.roots_are ∙ ap (λ k. roots k h.tail) count in
    let placed_old : reverse other ≡ placed (suc (length popped)) h.tail = h.placed_are ∙ ap (λ k. placed k h.tail) count in
    record {
      tail = n ∷ h.tail;
      all_is = h.all_is ∙ (ap (λ xs. xs ++ h.tail) e ∙ append_assoc popped (n ∷ []) h.tail);
      roots_are = p.roots_are ∙ ap₂ (λ k xs. k ∷ drop (parts_count n) xs) at roots_old;
      placed_are = ap reverse f ∙ (reverse-append other (m ∷ []) ∙ ap₂ (λ x xs. x ∷ xs) (p.node_is ∙ ap (placed_node n) roots_old) placed_old);
    }

pub placing_ends : (all left : List Grown) (roots_now : List ℕ) (other : List SplitNode) → PlacingAll all left roots_now other → left ≡ [] → reverse other ≡ placed 0 all
placing_ends all left roots_now other h e =
    h.placed_are ∙ ap₂ (λ k xs. placed k xs) (ap length e) (sym (h.all_is ∙ ap (λ xs. xs ++ h.tail) e))

-- ---- turning

pub record Turning (done left all : List SplitNode) : Type 0 where
  pub same : done ++ reverse left ≡ reverse all

pub turning_starts : (all left done : List SplitNode) → left ≡ all → done ≡ [] → Turning done left all
turning_starts all left done e f = record { same = ap (λ xs. xs ++ reverse left) f ∙ ap reverse e }

pub turning_on : (done more left popped all : List SplitNode) (n : SplitNode) → Turning done left all → left ≡ popped ++ n ∷ [] → more ≡ done ++ n ∷ [] → Turning more popped all
turning_on done more left popped all n h e f = record {
  same = ap (λ xs. xs ++ reverse popped) f ∙ (append_assoc done (n ∷ []) (reverse popped) ∙ (ap (λ xs. done ++ xs) (sym (reverse-append popped (n ∷ [])) ∙ ap reverse (sym e)) ∙ h.same));
}

pub turned_back : (nodes : List Grown) (other turned : List SplitNode) → reverse other ≡ placed 0 nodes → turned ≡ reverse other → turned ≡ placed 0 nodes
turned_back nodes other turned e f = f ∙ e

pub turned_tree : (nodes : List Grown) (other turned : List SplitNode) → is_whole nodes ≡ true → reverse other ≡ placed 0 nodes → turned ≡ reverse other → is_split_tree turned ≡ true
turned_tree nodes other turned h e f = ap is_split_tree (f ∙ e) ∙ placed_tree nodes h

pub turned_trees : (at : TermId → Term) (nodes : List Grown) (other turned : List SplitNode) → is_whole nodes ≡ true → reverse other ≡ placed 0 nodes → turned ≡ reverse other → tree_at at turned ≡ grown_at at nodes
turned_trees at nodes other turned h e f = ap (tree_at at) (f ∙ e) ∙ same_tree at nodes h
