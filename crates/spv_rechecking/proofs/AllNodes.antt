-- Nodes that are made one behind the other, and what a listing says of all of them, over plain variables.
use Rattle.std.proofs.Common.{◌≡◌, ℕ, zero, suc, ◌+◌, ◌<◌, ◌≤◌, true, false, ◌&&◌, Option, Some, None, IsTrue, List, [], ◌∷◌, ◌++◌, map, take, length, get_or, nat_eq, refl, sym, ap, subst, ◌∙◌, arith}
use Rattle.std.specs.List.{list_all}
use Rattle.std.specs.Option.{option_map}
use Rattle.std.proofs.lemmas.Bool.{false≢true, eqb-true}
use Rattle.std.proofs.lemmas.List.{take_more, take_all}
use Rattle.spv_logic.specs.declared.conditions.TermId.{TermId}
use Rattle.spv_logic.specs.Terms.{Term}
use Rattle.spv_logic.proofs.list.Tests.{left_true, right_true, and_false}
use Rattle.spv_term.specs.Arena.{Arena, AllBelow, tree}
use Rattle.spv_atoms.specs.declared.proofs.Split as own_split
use Rattle.spv_atoms.specs.declared.proofs.ProofNode as own
use Rattle.spv_atoms.specs.Shape as shape
use Rattle.spv_proof_rules.specs.Stand.{SplitIn}
use Rattle.spv_listing_values.specs.declared.texts.Text.{Text}
use Rattle.spv_listing_values.specs.declared.data.Split.{Split}
use Rattle.spv_listing_values.specs.declared.data.ProofNode.{ProofNode}
use Rattle.spv_listing_values.specs.Mapped.{split_at, node_at, split_terms}
use Rattle.spv_listing_values.specs.Places.{AreBefore}
use Rattle.spv_listing_values.proofs.Numerals.{both_true}
use Rattle.spv_rechecking.specs.Rechecked.{is_node}
use Rattle.spv_rechecking.specs.Listed.{listed_split}
use Rattle.spv_rechecking.specs.Parts.{cases_of, counts, are_placed, has_cases}
use Rattle.spv_rechecking.specs.Converted.{term_at, IsSplitOf, IsNodeOf, AreNodesOf, StepsPlaced, NodesPlaced}
use Rattle.spv_rechecking.proofs.ConvertLemmas.{image_inside}
use Rattle.spv_rechecking.proofs.NodeLemmas.{Match, placed_tree}

-- ---- the terms that a node of a list names have their places

nodes_placed : (count : ℕ) (ns : List (ProofNode Text)) (i : ℕ) (d : ProofNode Text) → i < length ns → NodesPlaced count ns → StepsPlaced count (get_or ns i d).steps × AreBefore count (split_terms (get_or ns i d).split)
nodes_placed count [] i d lt h = absurd (omega (arith, lt))
nodes_placed count (n ∷ ns) zero d lt h = h.0
nodes_placed count (n ∷ ns) (suc i) d lt h = nodes_placed count ns i d (omega (arith, lt)) h.1

pub steps_placed : (count : ℕ) (ns : List (ProofNode Text)) (i : ℕ) (d : ProofNode Text) → i < length ns → NodesPlaced count ns → StepsPlaced count (get_or ns i d).steps
steps_placed count ns i d lt h = (nodes_placed count ns i d lt h).0

pub split_placed : (count : ℕ) (ns : List (ProofNode Text)) (i : ℕ) (d : ProofNode Text) → i < length ns → NodesPlaced count ns → AreBefore count (split_terms (get_or ns i d).split)
split_placed count ns i d lt h = (nodes_placed count ns i d lt h).1

module _ (names : List (List ℕ)) (a : Arena) (images : List TermId) where
  abbrev said : ProofNode Text → ProofNode Term
  said n = node_at (term_at a images) n

  -- nodes over an arena are made of these, with these places of cases
  abbrev pub AreMade : List (ProofNode Text) → List (List ℕ) → List own.ProofNode → Type 0
  AreMade [] [] [] = Unit {0}
  AreMade (n ∷ ns) (p ∷ ps) (o ∷ os) = IsNodeOf names a images n p (Some o) × AreMade ns ps os
  AreMade _ _ _ = ⊥

  one_behind : (ns : List (ProofNode Text)) (ps : List (List ℕ)) (os : List own.ProofNode) (n : ProofNode Text) (p : List ℕ) (o : own.ProofNode) → AreMade ns ps os → IsNodeOf names a images n p (Some o)
      → AreMade (ns ++ n ∷ []) (ps ++ p ∷ []) (os ++ o ∷ [])
  one_behind [] [] [] n p o h k = (k, tt)
  one_behind (m ∷ ns) (q ∷ ps) (r ∷ os) n p o h k = (h.0, one_behind ns ps os n p o h.1 k)
  one_behind [] [] (r ∷ os) n p o h k = absurd h
  one_behind [] (q ∷ ps) os n p o h k = absurd h
  one_behind (m ∷ ns) [] os n p o h k = absurd h
  one_behind (m ∷ ns) (q ∷ ps) [] n p o h k = absurd h

  matched : (ns : List (ProofNode Text)) (ps : List (List ℕ)) (os : List own.ProofNode) → AreMade ns ps os → Match images ns ps os
  matched [] [] [] h = tt
  matched (n ∷ ns) (p ∷ ps) (o ∷ os) h = (h.0.1, matched ns ps os h.1)
  matched [] [] (o ∷ os) h = absurd h
  matched [] (p ∷ ps) os h = absurd h
  matched (n ∷ ns) [] os h = absurd h
  matched (n ∷ ns) (p ∷ ps) [] h = absurd h

  -- ---- one turn

  module _ (ns : List (ProofNode Text)) (ps : List (List ℕ)) where
    pub no_nodes : (os : List own.ProofNode) → os ≡ [] → AreMade (take 0 ns) (take 0 ps) os
    no_nodes os e = subst (AreMade [] []) (sym e) tt

    module _ (i : ℕ) (d : ProofNode Text) (n : ProofNode Text) (n_is : n ≡ get_or ns i d) (lt : i < length ns) (q p : List ℕ) (o : Option own.ProofNode) (made : IsNodeOf names a images n p o) where
      pub node_fails : o ≡ None → list_all (is_node names) (map said ns) ≡ false
      node_fails e = by o made e
        where
          mapped_fails : (xs : List (ProofNode Text)) (k : ℕ) → k < length xs → is_node names (said (get_or xs k d)) ≡ false → list_all (is_node names) (map said xs) ≡ false
          mapped_fails [] k low h = absurd (omega (arith, low))
          mapped_fails (x ∷ xs) zero low h = ap (λ b. b && list_all (is_node names) (map said xs)) h
          mapped_fails (x ∷ xs) (suc k) low h = and_false (is_node names (said x)) (list_all (is_node names) (map said xs)) (mapped_fails xs k (omega (arith, low)) h)

          by : (x : Option own.ProofNode) → IsNodeOf names a images n p x → x ≡ None → list_all (is_node names) (map said ns) ≡ false
          by None h f = mapped_fails ns i lt (ap (λ m. is_node names (said m)) (sym n_is) ∙ h)
          by (Some x) h f = absurd cc

      pub more_nodes : p ≡ get_or ps i q → i < length ps → (os : List own.ProofNode) → AreMade (take i ns) (take i ps) os → (x : own.ProofNode) → o ≡ Some x → (more : List own.ProofNode) → more ≡ os ++ x ∷ []
          → AreMade (take (i + 1) ns) (take (i + 1) ps) more
      more_nodes p_is low os h x e more add =
          subst (AreMade (take (i + 1) ns) (take (i + 1) ps)) (sym add)
          (subst (λ ms. AreMade ms (take (i + 1) ps) (os ++ x ∷ [])) (sym (take_more ns i d lt))
          (subst (λ rs. AreMade (take i ns ++ get_or ns i d ∷ []) rs (os ++ x ∷ [])) (sym (take_more ps i q low))
          (one_behind (take i ns) (take i ps) os (get_or ns i d) (get_or ps i q) x h
          (subst (λ m. IsNodeOf names a images m (get_or ps i q) (Some x)) n_is
          (subst (λ r. IsNodeOf names a images n r (Some x)) p_is
          (subst (IsNodeOf names a images n p) e made))))))

  -- ---- all nodes

  module _ (inside : AllBelow (length a.nodes) images) where
    split_listed : (s : Option (Split Text)) (p : List ℕ) (o : Option own_split.Split) → IsSplitOf images s p o → cases_of s ≡ length p → option_map (listed_split (tree a)) o ≡ option_map (split_at (term_at a images)) s
    split_listed None p o h e = ap (option_map (listed_split (tree a))) h
    split_listed (Some s) p o h e =
        let with_cases : ℕ → Option (Split Term) = λ n. Some (record { cases = n; atom = term_at a images s.atom }) in
        ap (option_map (listed_split (tree a))) h ∙ ap with_cases (sym e)

    split_inside : (s : Option (Split Text)) (p : List ℕ) (o : Option own_split.Split) → IsSplitOf images s p o → AreBefore (length images) (split_terms s) → SplitIn a o
    split_inside None p o h k = subst (SplitIn a) (sym h) tt
    split_inside (Some s) p o h k = subst (SplitIn a) (sym h) (image_inside a images inside s.atom k.0)

    are_nodes : (place : ℕ) (wanted : List ℕ) (ns : List (ProofNode Text)) (ps : List (List ℕ)) (os : List own.ProofNode) → AreMade ns ps os → are_placed place wanted (counts ns) ps ≡ true → NodesPlaced (length images) ns
        → AreNodesOf names a (map said ns) (Some os)
    are_nodes place wanted [] [] [] m h k = (refl, tt, refl)
    are_nodes place [] (n ∷ ns) (p ∷ ps) (o ∷ os) m h k = absurd (false≢true h)
    are_nodes place (w ∷ wanted) (n ∷ ns) (p ∷ ps) (o ∷ os) m h k =
        let c = cases_of n.split in
        let rest = right_true (nat_eq w place) (nat_eq c (length p) && are_placed (suc place) (p ++ wanted) (counts ns) ps) h in
        let count : c ≡ length p = eqb-true c (length p) (left_true (nat_eq c (length p)) (are_placed (suc place) (p ++ wanted) (counts ns) ps) rest) in
        let behind = right_true (nat_eq c (length p)) (are_placed (suc place) (p ++ wanted) (counts ns) ps) rest in
        let others = are_nodes (suc place) (p ++ wanted) ns ps os m.1 behind k.1 in
        let one = m.0 in
        let split = split_listed n.split p o.split one.1 count in (
          (λ i. record { steps = one.0 i; split = split i } ∷ others.0 i),
          (one.2, split_inside n.split p o.split one.1 k.0.1, others.1),
          both_true (is_node names (said n)) (list_all (is_node names) (map said ns)) one.3 others.2,
        )
    are_nodes place wanted [] [] (o ∷ os) m h k = absurd m
    are_nodes place wanted [] (p ∷ ps) os m h k = absurd m
    are_nodes place wanted (n ∷ ns) [] os m h k = absurd m
    are_nodes place wanted (n ∷ ns) (p ∷ ps) [] m h k = absurd m

    module _ (ns : List (ProofNode Text)) (ps : List (List ℕ)) (placed : are_placed 0 (0 ∷ []) (counts ns) ps ≡ true) (i : ℕ) (past : length ns ≤ i) (past_too : length ps ≤ i) (os : List own.ProofNode) (made : AreMade (take i ns) (take i ps) os) where
      all_made : AreMade ns ps os
      all_made = subst (λ ms. AreMade ms ps os) (take_all i ns past) (subst (λ rs. AreMade (take i ns) rs os) (take_all i ps past_too) made)

      pub all_nodes : NodesPlaced (length images) ns → AreNodesOf names a (map said ns) (Some os)
      all_nodes k = are_nodes 0 (0 ∷ []) ns ps os all_made placed k

      pub all_tree : list_all has_cases ns ≡ true → IsTrue (shape.is_tree os)
      all_tree k = placed_tree images 0 (0 ∷ []) ns ps os (matched ns ps os all_made) placed k
