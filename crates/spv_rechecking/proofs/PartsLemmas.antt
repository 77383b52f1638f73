-- Places of cases that are found from the last node to the first, over plain variables.
use Rattle.std.proofs.Common.{◌≡◌, ℕ, zero, suc, ◌+◌, ◌-◌, ◌<◌, ◌≤◌, true, ◌&&◌, List, [], ◌∷◌, ◌++◌, take, drop, length, get_or, reverse, nat_eq, refl, sym, ap, subst, ◌∙◌, arith}
use Rattle.std.proofs.lemmas.Bool.{false≢true, eqb-true, eq-eqb}
use Rattle.std.proofs.lemmas.List.{drop_more, length-append, length-reverse, length-take-le, reverse-append, take-append-drop}
use Rattle.spv_logic.proofs.list.Tests.{left_true}
use Rattle.spv_listing_values.specs.declared.texts.Text.{Text}
use Rattle.spv_listing_values.specs.declared.data.ProofNode.{ProofNode}
use Rattle.spv_listing_values.proofs.Numerals.{both_true}
use Rattle.spv_rechecking.specs.Parts.{cases_of, counts, are_trees, are_placed}

-- from a place on there are so many trees
record SomeTrees (cs : List ℕ) : Type 0 where
  n : ℕ
  are : are_trees n cs ≡ true

trees_left : (n : ℕ) (cs : List ℕ) (i : ℕ) → are_trees n cs ≡ true → SomeTrees (drop i cs)
trees_left n cs zero h = record { n = n; are = h }
trees_left n [] (suc i) h = record { n = 0; are = refl }
trees_left zero (c ∷ cs) (suc i) h = absurd (false≢true h)
trees_left (suc n) (c ∷ cs) (suc i) h = trees_left (c + n) cs i h

-- so many places are left over
record LeavesOver (k n count : ℕ) (cs : List ℕ) : Type 0 where
  others : ℕ
  is : n ≡ suc others
  rest : are_trees (k + others) cs ≡ true

leaves_over : (k n count : ℕ) (cs : List ℕ) → are_trees n (k ∷ cs) ≡ true → LeavesOver k n count cs
leaves_over k zero count cs h = absurd (false≢true h)
leaves_over k (suc n) count cs h = record { others = n; is = refl; rest = h }

module _ (nodes : List (ProofNode Text)) where
  abbrev from : ℕ → List ℕ
  from i = counts (drop i nodes)

  -- what is true before and after each turn
  pub record ArePlacing (roots : List ℕ) (parts : List (List ℕ)) (place : ℕ) : Type 0 where
    pub placed : are_placed place (reverse roots) (from place) (reverse parts) ≡ true
    pub size : (n : ℕ) → are_trees n (from place) ≡ true → n ≡ length roots
    pub within : place ≤ length nodes

  counts_drop : (i : ℕ) → from i ≡ drop i (counts nodes)
  counts_drop i = by nodes i
    where
      by : (ns : List (ProofNode Text)) (j : ℕ) → counts (drop j ns) ≡ drop j (counts ns)
      by ns zero = refl
      by [] (suc j) = refl
      by (n ∷ ns) (suc j) = by ns j

  none_past : drop (length nodes) nodes ≡ []
  none_past = by nodes
    where
      by : (ns : List (ProofNode Text)) → drop (length ns) ns ≡ []
      by [] = refl
      by (n ∷ ns) = by ns

  begins_empty : ArePlacing [] [] (length nodes)
  begins_empty = record {
    placed = ap (λ ns. are_placed (length nodes) [] (counts ns) []) none_past;
    size = λ n h. no_trees n (subst (λ ns. are_trees n (counts ns) ≡ true) none_past h);
    within = omega arith;
  }
    where
      no_trees : (n : ℕ) → are_trees n [] ≡ true → n ≡ 0
      no_trees zero h = refl
      no_trees (suc n) h = absurd (false≢true h)

  pub begins : (roots : List ℕ) (parts : List (List ℕ)) → roots ≡ [] → parts ≡ [] → ArePlacing roots parts (length nodes)
  begins roots parts e f = subst (λ rs. ArePlacing rs parts (length nodes)) (sym e) (subst (λ ps. ArePlacing [] ps (length nodes)) (sym f) begins_empty)

module _ (nodes : List (ProofNode Text)) (tree : are_trees 1 (counts nodes) ≡ true) where
  module _ (roots : List ℕ) (parts : List (List ℕ)) (place : ℕ) (inv : ArePlacing nodes roots parts place) (i : ℕ) (is : place ≡ i + 1) (d : ProofNode Text) where
    lt : i < length nodes
    lt = let w = inv.within in omega (arith, w, is)

    abbrev k : ℕ
    k = cases_of (get_or nodes i d).split

    from_is : from nodes i ≡ k ∷ from nodes place
    from_is = ap counts (drop_more nodes i d lt) ∙ ap (λ j. k ∷ from nodes j) (sym is)

    some : SomeTrees (k ∷ from nodes place)
    some = subst SomeTrees (sym (counts_drop nodes i) ∙ from_is) (trees_left 1 (counts nodes) i tree)

    pub enough : k ≤ length roots
    enough =
        let l = leaves_over k some.n 0 (from nodes place) some.are in
        let size = inv.size (k + l.others) l.rest in
        omega (arith, size)

    module _ (count : ℕ) (count_is : count ≡ k) (more_roots : List ℕ) (roots_are : more_roots ≡ take (length roots - count) roots ++ i ∷ []) (more_parts : List (List ℕ)) (parts_are : more_parts ≡ parts ++ reverse (drop (length roots - count) roots) ∷ []) where
      low : length roots - count ≤ length roots
      low = omega arith

      pub one_more : ArePlacing nodes more_roots more_parts i
      one_more = record {
        placed =
            (λ j. are_placed i (roots_back j) (from_is j) (parts_back j))
            ∙ both_true (nat_eq i i) (nat_eq k (length (reverse (drop (length roots - count) roots))) && are_placed (suc i) (reverse (drop (length roots - count) roots) ++ reverse (take (length roots - count) roots)) (from nodes place) (reverse parts))
            (eq-eqb i i refl)
            (both_true (nat_eq k (length (reverse (drop (length roots - count) roots)))) (are_placed (suc i) (reverse (drop (length roots - count) roots) ++ reverse (take (length roots - count) roots)) (from nodes place) (reverse parts))
            (eq-eqb k (length (reverse (drop (length roots - count) roots))) so_many) placed_behind);
        size = λ n h. size_more n (subst (λ cs. are_trees n cs ≡ true) from_is h);
        within = let w = inv.within in omega (arith, w, is);
      }
        where
          roots_back : reverse more_roots ≡ i ∷ reverse (take (length roots - count) roots)
          roots_back = ap reverse roots_are ∙ reverse-append (take (length roots - count) roots) (i ∷ [])

          parts_back : reverse more_parts ≡ reverse (drop (length roots - count) roots) ∷ reverse parts
          parts_back = ap reverse parts_are ∙ reverse-append parts (reverse (drop (length roots - count) roots) ∷ [])

          halves : take (length roots - count) roots ++ drop (length roots - count) roots ≡ roots
          halves = take-append-drop (length roots - count) roots

          taken : length (take (length roots - count) roots) ≡ length roots - count
          taken = length-take-le (length roots - count) roots low

          so_many : k ≡ length (reverse (drop (length roots - count) roots))
          so_many =
              let both = length-append (take (length roots - count) roots) (drop (length roots - count) roots) in
              let whole : length (take (length roots - count) roots ++ drop (length roots - count) roots) ≡ length roots = ap length halves in
              let back = length-reverse (drop (length roots - count) roots) in
              let first = taken in
              let most = enough in
              omega (arith, both, whole, back, first, most, count_is)

          placed_behind : are_placed (suc i) (reverse (drop (length roots - count) roots) ++ reverse (take (length roots - count) roots)) (from nodes place) (reverse parts) ≡ true
          placed_behind =
              (λ j. are_placed (next j) (together j) (from nodes place) (reverse parts)) ∙ inv.placed
            where
              next : suc i ≡ place
              next = omega (arith, is)

              together : reverse (drop (length roots - count) roots) ++ reverse (take (length roots - count) roots) ≡ reverse roots
              together = sym (reverse-append (take (length roots - count) roots) (drop (length roots - count) roots)) ∙ ap reverse halves

          size_more : (n : ℕ) → are_trees n (k ∷ from nodes place) ≡ true → n ≡ length more_roots
          size_more n h =
              let l = leaves_over k n 0 (from nodes place) h in
              let size = inv.size (k + l.others) l.rest in
              let own_size : length more_roots ≡ length (take (length roots - count) roots) + 1 = ap length roots_are ∙ length-append (take (length roots - count) roots) (i ∷ []) in
              let first = taken in
              let n_is = l.is in
              omega (arith, size, own_size, first, n_is, count_is)

  -- at the end there is one root, the first node
  pub all_placed : (roots : List ℕ) (parts : List (List ℕ)) → ArePlacing nodes roots parts 0 → are_placed 0 (0 ∷ []) (counts nodes) (reverse parts) ≡ true
  all_placed roots parts inv = by roots (inv.size 1 tree) inv.placed
    where
      first_is : (r : ℕ) → are_placed 0 (r ∷ []) (counts nodes) (reverse parts) ≡ true → (cs : List ℕ) → cs ≡ counts nodes → (ps : List (List ℕ)) → ps ≡ reverse parts → are_placed 0 (r ∷ []) cs ps ≡ true → r ≡ 0
      first_is r whole [] e ps f h = absurd (false≢true h)
      first_is r whole (c ∷ cs) e [] f h = absurd (false≢true h)
      first_is r whole (c ∷ cs) e (p ∷ ps) f h = eqb-true r 0 (left_true (nat_eq r 0) (nat_eq c (length p) && are_placed 1 (p ++ []) cs ps) h)

      by : (rs : List ℕ) → 1 ≡ length rs → are_placed 0 (reverse rs) (counts nodes) (reverse parts) ≡ true → are_placed 0 (0 ∷ []) (counts nodes) (reverse parts) ≡ true
      by [] e h = absurd (omega (arith, e))
      by (r ∷ []) e h =
          let root : r ≡ 0 = first_is r h (counts nodes) refl (reverse parts) refl h in
          ap (λ q. are_placed 0 (q ∷ []) (counts nodes) (reverse parts)) (sym root) ∙ h
      by (r ∷ s ∷ rs) e h = absurd (omega (arith, e))
