-- Terms of texts that are made one behind the other, over plain variables.
use Rattle.std.proofs.Common.{◌≡◌, ℕ, zero, suc, ◌+◌, ◌<◌, ◌≤◌, true, Option, Some, None, IsSome, is_some, IsTrue, List, [], ◌∷◌, ◌++◌, map, take, drop, length, get_or, slice_get, refl, sym, ap, subst, ◌∙◌, arith}
use Rattle.std.specs.Option.{option_map}
use Rattle.std.proofs.lemmas.List.{length-map, length-take-le, get_or-take, map-append, drop_more, take_more, take_all}
use Rattle.std.proofs.lemmas.Option.{slice_get-get_or, get_or_from_slice_get}
use Rattle.spv_logic.specs.declared.names.names.Symbol.{Symbol}
use Rattle.spv_logic.specs.declared.conditions.TermId.{TermId}
use Rattle.spv_logic.specs.declared.operators.Head.{Head}
use Rattle.spv_logic.specs.Terms.{Term, Terms, term, no_terms, terms, heads_pass, all_heads_pass}
use Rattle.spv_logic.specs.Sorts.{term_sort, term_sorts, with_sorts, result_sort, head_in_range, numeral_fits}
use Rattle.spv_logic.proofs.list.Tests.{left_true, right_true}
use Rattle.spv_term.specs.Arena.{Arena, IsArena, AllBelow, tree, trees, sorts_at, Extends}
use Rattle.spv_term.proofs.ArenaLemmas.{term_sorts-trees, map_tree-Extends, AllBelow-Extends, Extends-refl, Extends-trans}
use Rattle.spv_term.proofs.TreeLemmas.{AllBelow-append, AllBelow-at}
use Rattle.spv_listing_values.specs.declared.texts.Text.{Text}
use Rattle.spv_listing_values.specs.Written.{Written, written, word}
use Rattle.spv_listing_values.specs.Places.{Flat, flat_in, AreBefore, IsTable, args_at, at}
use Rattle.spv_listing_values.specs.Places as places
use Rattle.spv_listing_values.proofs.Trees.{tree-node}
use Rattle.spv_search_terms.specs.subterms.Gaining.{Gains, Stops, Remains}
use Rattle.spv_search_terms.proofs.subterms.GainLemmas.{Remains-all, remains-behind, remains-stops, remains-gained}
use Rattle.spv_rechecking.specs.declared.written_terms.leaves.Leaves.{Leaves}
use Rattle.spv_rechecking.specs.written_terms.Standing.{Vocabulary, top, may_stand, term_for}
use Rattle.spv_rechecking.specs.written_terms.Read.{head_read}
use Rattle.spv_rechecking.proofs.written_terms.Lists.{mapped-at}
use Rattle.spv_rechecking.proofs.written_terms.Levels.{table_before, so_many_trees}
use Rattle.spv_rechecking.specs.Rechecked.{term_of}
use Rattle.spv_rechecking.specs.Made.{vocabulary_in, image_at, images_at, AreHeads, AreImages}
use Rattle.spv_rechecking.proofs.Standing.{Reads, AllReads, ReadsOver, reads_of, reads_over, reads_first, term_is, stands_as}

-- a text with a head stands for a term
has_term : (o : Option Term) (k : Head) → option_map top o ≡ Some k → is_some o ≡ true
has_term None k e = absurd cc
has_term (Some t) k e = refl

module _ (names : List (List ℕ)) (titles : List (Option Symbol)) (l : Leaves) (a : Arena) (ok : IsArena a) (fs : List Flat) (table : IsTable fs) (heads : List Head) (are : AreHeads (vocabulary_in names titles l a) (places.trees fs) heads) where
  abbrev words_in : Vocabulary
  words_in = vocabulary_in names titles l a

  abbrev texts_in : List Written
  texts_in = places.trees fs

  pub so_many_heads : length heads ≡ length fs
  so_many_heads = sym (length-map heads Some) ∙ (ap length (sym are) ∙ (length-map texts_in (head_read words_in) ∙ so_many_trees fs))

  module _ (t : Text) (here : t.0 < length fs) (images : List TermId) (count : length images ≡ t.0) (images_are : map (tree a) images ≡ map (term_of words_in) (take t.0 texts_in)) (inside : AllBelow (length a.nodes) images) where
    pub args_placed : (args : List Text) → args ≡ (flat_in fs t).args → AreBefore (length images) args
    args_placed args e = subst (λ n. AreBefore n args) (sym count) (subst (AreBefore t.0) (sym e) (table_before fs table t here))

    pub head_there : t.0 < length heads
    head_there = let size = so_many_heads in omega (arith, here, size)

    -- the ids of arguments
    abbrev no_id : TermId
    no_id = record { 0 = 0 }

    image_inside : (p : Text) → p.0 < length images → (image_at images p).0 < length a.nodes
    image_inside p lt = AllBelow-at (length a.nodes) images p.0 (image_at images p) inside (slice_get-get_or images p.0 no_id lt)

    pub ids_inside : (args : List Text) → AreBefore (length images) args → AllBelow (length a.nodes) (images_at images args)
    ids_inside [] h = tt
    ids_inside (p ∷ args) h = (image_inside p h.0, ids_inside args h.1)

    image_tree : (p : Text) → p.0 < length images → tree a (image_at images p) ≡ term_of words_in (at texts_in p)
    image_tree p lt =
        mapped-at (tree a) (term_of words_in) images (take t.0 texts_in) images_are p.0 lt no_id (word [])
        ∙ ap (term_of words_in) (get_or-take t.0 texts_in p.0 (word []) (subst (λ n. p.0 < n) count lt))

    ids_trees : (args : List Text) → AreBefore (length images) args → (us : Terms) → AllReads words_in (args_at texts_in args) us → trees a (images_at images args) ≡ us
    ids_trees [] h us r = nothing us r.heads
      where
        nothing : (us : Terms) → Some no_terms ≡ Some us → no_terms ≡ us
        nothing us e = cc
    ids_trees (p ∷ args) h us r =
        let o = reads_first words_in (at texts_in p) (args_at texts_in args) us r in
        let first : tree a (image_at images p) ≡ o.first = image_tree p h.0 ∙ term_is words_in (at texts_in p) o.first o.one in
        let others : trees a (images_at images args) ≡ o.others = ids_trees args h.1 o.others o.rest in
        (λ i. terms (first i) (others i)) ∙ o.is

    abbrev mine : Written
    mine = places.tree fs t

    head_here : (k : Head) → slice_get heads t.0 ≡ Some k → head_read words_in mine ≡ Some k
    head_here k at =
        let size = so_many_trees fs in
        mapped-at (head_read words_in) Some texts_in heads are t.0 (omega (arith, here, size)) (word []) k ∙ ap (λ (g : Head). Some g) (get_or_from_slice_get heads t.0 k k at)

    module _ (k : Head) (k_at : slice_get heads t.0 ≡ Some k) where
      abbrev own : Written
      own = written (flat_in fs t).head (args_at texts_in (flat_in fs t).args)

      own_is : mine ≡ own
      own_is = tree-node fs table t here

      own_reads : Reads words_in own (term_of words_in mine)
      own_reads = subst (λ w. Reads words_in w (term_of words_in mine)) own_is (reads_of words_in mine (has_term (term_for words_in mine) k (head_here k k_at)))

      over : ReadsOver words_in (flat_in fs t).head (args_at texts_in (flat_in fs t).args) (term_of words_in mine)
      over = reads_over words_in (flat_in fs t).head (args_at texts_in (flat_in fs t).args) (term_of words_in mine) own_reads

      -- the head that is read is that of the term
      same_head : over.k ≡ k
      same_head =
          let one : option_map top (Some (term over.k over.us)) ≡ Some k =
          ap (λ u. option_map top (Some u)) over.is ∙ (ap (option_map top) (sym (stands_as words_in own (term_of words_in mine) own_reads)) ∙ (ap (head_read words_in) (sym own_is) ∙ (head_here k k_at))) in
          some_same over.k k one
        where
          some_same : (g h : Head) → Some g ≡ Some h → g ≡ h
          some_same g h e = cc

      module _ (args : List Text) (args_are : args ≡ (flat_in fs t).args) (ids : List TermId) (ids_are : ids ≡ images_at images args) where
        own_ids : ids ≡ images_at images (flat_in fs t).args
        own_ids = ids_are ∙ ap (images_at images) args_are

        own_before : AreBefore (length images) (flat_in fs t).args
        own_before = args_placed (flat_in fs t).args refl

        pub made_args : AllBelow (length a.nodes) ids
        made_args = subst (AllBelow (length a.nodes)) (sym own_ids) (ids_inside (flat_in fs t).args own_before)

        trees_are : trees a ids ≡ over.us
        trees_are = ap (trees a) own_ids ∙ ids_trees (flat_in fs t).args own_before over.us over.args

        pub made_tree : term k (trees a ids) ≡ term_of words_in mine
        made_tree = (λ i. term (sym same_head i) (trees_are i)) ∙ over.is

        pub made_sorts : IsSome (result_sort a.shapes a.decls k (sorts_at a ids))
        made_sorts =
            let sorted : is_some (term_sort a.shapes a.decls (term k (trees a ids))) ≡ true = ap (λ u. is_some (term_sort a.shapes a.decls u)) made_tree ∙ own_reads.sorted in
            let given : term_sorts a.shapes a.decls (trees a ids) ≡ Some (sorts_at a ids) = term_sorts-trees a ok (trees a ids) ids made_args refl in
            ap (λ o. is_some (with_sorts o (result_sort a.shapes a.decls k))) (sym given) ∙ sorted

        may : may_stand a.shapes k ≡ true
        may = left_true (may_stand a.shapes k) (all_heads_pass (may_stand a.shapes) (trees a ids)) (ap (heads_pass (may_stand a.shapes)) made_tree ∙ own_reads.pass)

        pub made_types : IsTrue (head_in_range a.shapes k)
        made_types = left_true (head_in_range a.shapes k) (numeral_fits k) may

        pub made_numeral : IsTrue (numeral_fits k)
        made_numeral = right_true (head_in_range a.shapes k) (numeral_fits k) may

-- ---- all texts

module _ (names : List (List ℕ)) (titles : List (Option Symbol)) (l : Leaves) (start : Arena) (ws : List Written) where
  abbrev vs : Vocabulary
  vs = vocabulary_in names titles l start

  abbrev all : List Term
  all = map (term_of vs) ws

  abbrev left : ℕ → List Term
  left i = map (term_of vs) (drop i ws)

  -- what is true before and after each turn
  pub record IsMaking (now : Arena) (images : List TermId) (i : ℕ) : Type 0 where
    pub remains : Remains start now all (left i)
    pub trees_are : map (tree now) images ≡ map (term_of vs) (take i ws)
    pub inside : AllBelow (length now.nodes) images
    pub within : i ≤ length ws
    pub grows : Extends start now

  pub same_words : (now : Arena) → Extends start now → vocabulary_in names titles l now ≡ vs
  same_words now grows = λ i. vocabulary_in names titles l (record { nodes = now.nodes; most = now.most; shapes = grows.shapes i; decls = grows.decls i })

  pub begins : (images : List TermId) → images ≡ [] → IsMaking start images 0
  begins images e = subst (λ us. IsMaking start us 0) (sym e) (record { remains = Remains-all start all; trees_are = refl; inside = tt; within = omega arith; grows = Extends-refl start })

  module _ (now : Arena) (images : List TermId) (i : ℕ) (m : IsMaking now images i) where
    pub so_many : length images ≡ i
    so_many = sym (length-map images (tree now)) ∙ (ap length m.trees_are ∙ (length-map (take i ws) (term_of vs) ∙ length-take-le i ws m.within))

    module _ (below : i < length ws) where
      left_next : left i ≡ (term_of vs (get_or ws i (word [])) ∷ []) ++ left (i + 1)
      left_next = ap (map (term_of vs)) (drop_more ws i (word []) below)

      pub one_more : (next : Arena) (more : List TermId) (u : TermId) → Gains now next (term_of vs (get_or ws i (word [])) ∷ []) → Extends now next → Extends start next → tree next u ≡ term_of vs (get_or ws i (word [])) → u.0 < length next.nodes
          → more ≡ images ++ u ∷ [] → IsMaking next more (i + 1)
      one_more next more u g grows from_start is inside add = record {
        remains = remains-behind start now all (left i) (term_of vs (get_or ws i (word [])) ∷ []) (left (i + 1)) m.remains left_next next g;
        trees_are =
            ap (map (tree next)) add
            ∙ (map-append (tree next) images (u ∷ [])
            ∙ ((λ j. (map_tree-Extends grows images m.inside ∙ m.trees_are) j ++ is j ∷ [])
            ∙ (sym (map-append (term_of vs) (take i ws) (get_or ws i (word []) ∷ [])) ∙ ap (map (term_of vs)) (sym (take_more ws i (word []) below)))));
        inside = subst (AllBelow (length next.nodes)) (sym add) (AllBelow-append (length next.nodes) images (u ∷ []) (AllBelow-Extends grows images m.inside) (inside, tt));
        within = omega (arith, below);
        grows = from_start;
      }

      pub one_stops : Stops now (term_of vs (get_or ws i (word [])) ∷ []) → Stops start all
      one_stops s = remains-stops start now all (left i) (term_of vs (get_or ws i (word [])) ∷ []) (left (i + 1)) m.remains left_next s

    -- the same with the words of the arena as it is now
    same_now : vocabulary_in names titles l now ≡ vs
    same_now = same_words now m.grows

    pub heads_now : (heads : List Head) → AreHeads vs ws heads → AreHeads (vocabulary_in names titles l now) ws heads
    heads_now heads h = subst (λ (v : Vocabulary). AreHeads v ws heads) (sym same_now) h

    pub count_now : (slice : List TermId) → slice ≡ images → (n : ℕ) → n ≡ i → length slice ≡ n
    count_now slice e n is = ap length e ∙ (so_many ∙ sym is)

    pub images_now : (slice : List TermId) → slice ≡ images → (n : ℕ) → n ≡ i → map (tree now) slice ≡ map (term_of (vocabulary_in names titles l now)) (take n ws)
    images_now slice e n is = ap (map (tree now)) e ∙ (m.trees_are ∙ (λ j. map (term_of (sym same_now j)) (take (sym is j) ws)))

    pub inside_now : (slice : List TermId) → slice ≡ images → AllBelow (length now.nodes) slice
    inside_now slice e = subst (AllBelow (length now.nodes)) (sym e) m.inside

    module _ (n : ℕ) (is : n ≡ i) (low : n < length ws) where
      same_term : term_of (vocabulary_in names titles l now) (get_or ws n (word [])) ≡ term_of vs (get_or ws i (word []))
      same_term = λ j. term_of (same_now j) (get_or ws (is j) (word []))

      pub more_now : (next : Arena) (more : List TermId) (u : TermId) → Gains now next (term_of (vocabulary_in names titles l now) (get_or ws n (word [])) ∷ []) → Extends now next
          → tree next u ≡ term_of (vocabulary_in names titles l now) (get_or ws n (word [])) → u.0 < length next.nodes → more ≡ images ++ u ∷ [] → IsMaking next more (i + 1)
      more_now next more u g grows at inside add =
          one_more (subst (λ k. k < length ws) is low) next more u (subst (λ (x : Term). Gains now next (x ∷ [])) same_term g) grows (Extends-trans m.grows grows) (at ∙ same_term) inside add

      pub stops_now : Stops now (term_of (vocabulary_in names titles l now) (get_or ws n (word [])) ∷ []) → Stops start all
      stops_now s = one_stops (subst (λ k. k < length ws) is low) (subst (λ (x : Term). Stops now (x ∷ [])) same_term s)

    module _ (past : length ws ≤ i) where
      nothing_left : left i ≡ []
      nothing_left = ap (map (term_of vs)) (empty ws i past)
        where
          empty : (xs : List Written) (j : ℕ) → length xs ≤ j → drop j xs ≡ []
          empty [] zero h = refl
          empty [] (suc j) h = refl
          empty (x ∷ xs) zero h = absurd (omega (arith, h))
          empty (x ∷ xs) (suc j) h = empty xs j (omega (arith, h))

      pub all_gained : Gains start now all
      all_gained = remains-gained start now all (left i) m.remains nothing_left

      pub all_images : AreImages vs now ws images
      all_images = record { trees = m.trees_are ∙ ap (map (term_of vs)) (take_all i ws past); in_range = m.inside }
