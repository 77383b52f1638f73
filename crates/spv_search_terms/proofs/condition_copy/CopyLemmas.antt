-- Terms of one arena, made in another one, over plain variables.
use Rattle.std.proofs.Common.{◌≡◌, ℕ, zero, suc, ◌+◌, ◌<◌, ◌≤◌, List, [], ◌∷◌, ◌++◌, map, take, drop, length, slice_get, get_or, refl, sym, ap, ◌∙◌, subst, Some, IsSome, is_some, IsTrue, arith}
use Rattle.std.specs.Option.{option_map}
use Rattle.std.proofs.lemmas.List.{length-map, length-take-le, map-append, drop_more}
use Rattle.std.proofs.lemmas.Option.{slice_get-map, same_Some}
use Rattle.spv_logic.specs.declared.conditions.TermId.{TermId}
use Rattle.spv_logic.specs.Terms.{Term, term, terms}
use Rattle.spv_logic.specs.Sorts.{result_sort, term_sort, head_in_range, numeral_fits}
use Rattle.spv_term.specs.declared.nodes.Node.{Node}
use Rattle.spv_term.specs.Arena.{Arena, IsArena, AllBelow, tree, trees, sort_at, sorts_at, Extends}
use Rattle.spv_term.proofs.ArenaLemmas.{tree-node, sort-node, args_in_range, IsWellSorted-arena, AllBelow-Extends, map_tree-Extends}
use Rattle.spv_term.proofs.ListLemmas.{slice_get-take}
use Rattle.spv_term.proofs.TreeLemmas.{AllBelow-append, AllBelow-at}
use Rattle.spv_atoms.specs.Found.{IsReady, AreReady}
use Rattle.spv_search_terms.specs.subterms.Gaining.{Gains, Stops, Remains}
use Rattle.spv_search_terms.proofs.subterms.GainLemmas.{Remains-all, remains-behind, remains-stops, remains-gained}
use Rattle.spv_search_terms.proofs.subterms.PlaceLemmas.{there, map_next}
use Rattle.spv_search_terms.specs.condition_copy.Copies.{image_in, AreImages}

module _ (a b : Arena) (ids images : List TermId) (im : AreImages a ids b images (length images)) where
  -- an image has the tree of its term
  pub record IsImage (t : TermId) : Type 0 where
    pub inside : (image_in ids images t).0 < length b.nodes
    pub same : tree b (image_in ids images t) ≡ tree a t

  image_there : (t : TermId) → IsReady ids (length images) t → IsImage t
  image_there t ready =
      let p = there t ids images t ready in
      let left : slice_get (map (tree b) images) p.place ≡ Some (tree b p.item) = slice_get-map (tree b) images p.place ∙ ap (option_map (tree b)) p.item_there in
      let right : slice_get (map (tree a) (take (length images) ids)) p.place ≡ Some (tree a t) =
      slice_get-map (tree a) (take (length images) ids) p.place ∙ ap (option_map (tree a)) (slice_get-take ids p.place (length images) p.below ∙ p.id_there) in
      record {
        inside = subst (λ (u : TermId). u.0 < length b.nodes) (sym p.is) (AllBelow-at (length b.nodes) images p.place p.item im.in_range p.item_there);
        same = ap (tree b) p.is ∙ same_Some (tree b p.item) (tree a t) (sym left ∙ (ap (λ (ts : List Term). slice_get ts p.place) im.trees ∙ right));
      }

  pub images-below : (ts : List TermId) → AreReady ids (length images) ts → AllBelow (length b.nodes) (map (image_in ids images) ts)
  images-below [] r = tt
  images-below (t ∷ ts) r = ((image_there t r.0).inside, images-below ts r.1)

  pub images-trees : (ts : List TermId) → AreReady ids (length images) ts → trees b (map (image_in ids images) ts) ≡ trees a ts
  images-trees [] r = refl
  images-trees (t ∷ ts) r =
      let first = (image_there t r.0).same in
      let others = images-trees ts r.1 in
      λ i. terms (first i) (others i)

  pub images-map : (ts : List TermId) → AreReady ids (length images) ts → map (tree b) (map (image_in ids images) ts) ≡ map (tree a) ts
  images-map [] r = refl
  images-map (t ∷ ts) r =
      let first = (image_there t r.0).same in
      let others = images-map ts r.1 in
      λ i. first i ∷ others i

module _ (a : Arena) (ok : IsArena a) (b : Arena) (okb : IsArena b) (ids images : List TermId) (im : AreImages a ids b images (length images)) where
  -- equal trees have equal sorts
  sort-same : (u t : TermId) → u.0 < length b.nodes → t.0 < length a.nodes → tree b u ≡ tree a t → sort_at b u ≡ sort_at a t
  sort-same u t h k e =
      same_Some (sort_at b u) (sort_at a t)
      (sym (IsWellSorted-arena b okb u h) ∙ ((λ i. term_sort (im.shapes i) (im.decls i) (e i)) ∙ IsWellSorted-arena a ok t k))

  images-sorts : (ts : List TermId) → AllBelow (length a.nodes) ts → AreReady ids (length images) ts → sorts_at b (map (image_in ids images) ts) ≡ sorts_at a ts
  images-sorts [] h r = refl
  images-sorts (t ∷ ts) h r =
      let image = image_there a b ids images im t r.0 in
      let first = sort-same (image_in ids images t) t image.inside h.0 image.same in
      let others = images-sorts ts h.1 r.1 in
      λ i. first i ∷ others i

  -- ---- one term

  module _ (t : TermId) (n : Node) (at : slice_get a.nodes t.0 ≡ Some n) (ready : AreReady ids (length images) n.args) (own args : List TermId) (own_are : own ≡ n.args) (is : args ≡ map (image_in ids images) own) where
    args_are : args ≡ map (image_in ids images) n.args
    args_are = is ∙ ap (map (image_in ids images)) own_are

    pub one_args : AllBelow (length b.nodes) args
    one_args = subst (AllBelow (length b.nodes)) (sym args_are) (images-below a b ids images im n.args ready)

    sorts_are : result_sort b.shapes b.decls n.head (sorts_at b args) ≡ Some (sort_at a t)
    sorts_are =
        (λ i. result_sort (im.shapes i) (im.decls i) n.head ((ap (sorts_at b) args_are ∙ images-sorts n.args (args_in_range a ok t n at) ready) i)) ∙ sort-node a ok t n at

    pub one_sorts : IsSome (result_sort b.shapes b.decls n.head (sorts_at b args))
    one_sorts = ap is_some sorts_are

    pub one_types : IsTrue (head_in_range b.shapes n.head)
    one_types = ap (λ shapes. head_in_range shapes n.head) im.shapes ∙ (ok.nodes t.0 n at).types

    pub one_numeral : IsTrue (numeral_fits n.head)
    one_numeral = (ok.nodes t.0 n at).numeral

    pub one_tree : term n.head (trees b args) ≡ tree a t
    one_tree = ap (term n.head) (ap (trees b) args_are ∙ images-trees a b ids images im n.args ready) ∙ sym (tree-node a ok t n at)

-- the same of what an arena gains, and where it stops
pub gains_as : (a b : Arena) (x y : Term) → x ≡ y → Gains a b (x ∷ []) → Gains a b (y ∷ [])
gains_as a b x y e g = subst (λ (z : Term). Gains a b (z ∷ [])) e g

pub stops_as : (a : Arena) (x y : Term) → x ≡ y → Stops a (x ∷ []) → Stops a (y ∷ [])
stops_as a x y e s = subst (λ (z : Term). Stops a (z ∷ [])) e s

-- ---- all terms

module _ (a : Arena) (ids : List TermId) where
  abbrev all : List Term
  all = map (tree a) ids

  abbrev left : ℕ → List Term
  left i = map (tree a) (drop i ids)

  -- what is true before and after each turn
  pub record IsCopying (start now : Arena) (images : List TermId) (i : ℕ) : Type 0 where
    pub remains : Remains start now all (left i)
    pub are : AreImages a ids now images i
    pub within : i ≤ length ids

  pub begins : (start : Arena) (images : List TermId) → start.shapes ≡ a.shapes → start.decls ≡ a.decls → images ≡ [] → IsCopying start start images 0
  begins start images e f g = record {
    remains = Remains-all start all;
    are = record { shapes = e; decls = f; trees = ap (map (tree start)) g; in_range = subst (AllBelow (length start.nodes)) (sym g) tt };
    within = omega arith;
  }

  pub so_many : (start now : Arena) (images : List TermId) (i : ℕ) → IsCopying start now images i → length images ≡ i
  so_many start now images i c =
      sym (length-map images (tree now)) ∙ (ap length c.are.trees ∙ (length-map (take i ids) (tree a) ∙ length-take-le i ids c.within))

  pub images_so_far : (start now : Arena) (images slice : List TermId) (i : ℕ) → IsCopying start now images i → slice ≡ images → AreImages a ids now slice (length slice)
  images_so_far start now images slice i c e =
      subst (λ (us : List TermId). AreImages a ids now us (length us)) (sym e) (subst (AreImages a ids now images) (sym (so_many start now images i c)) c.are)

  pub ready_so_far : (start now : Arena) (images slice : List TermId) (i : ℕ) → IsCopying start now images i → slice ≡ images → (ts : List TermId) → AreReady ids i ts → AreReady ids (length slice) ts
  ready_so_far start now images slice i c e ts r = subst (λ k. AreReady ids k ts) (sym (ap length e ∙ so_many start now images i c)) r

module _ (a : Arena) (ids items : List TermId) (same : items ≡ ids) where
  left_next : (i : ℕ) (d : TermId) → i < length items → left a ids i ≡ (tree a (get_or items i d) ∷ []) ++ left a ids (i + 1)
  left_next i d below =
      ap (λ (xs : List TermId). map (tree a) (drop i xs)) (sym same)
      ∙ (ap (map (tree a)) (drop_more items i d below) ∙ ap (λ (xs : List TermId). tree a (get_or items i d) ∷ map (tree a) (drop (i + 1) xs)) same)

  module _ (start now : Arena) (images : List TermId) (i : ℕ) (d : TermId) (c : IsCopying a ids start now images i) (below : i < length items) where
    low : i + 1 ≤ length ids
    low = let e : length items ≡ length ids = ap length same in omega (arith, e, below)

    pub one_more : (next : Arena) (more : List TermId) (u : TermId) → Gains now next (tree a (get_or items i d) ∷ []) → Extends now next → tree next u ≡ tree a (get_or items i d) → u.0 < length next.nodes → more ≡ images ++ u ∷ []
        → IsCopying a ids start next more (i + 1)
    one_more next more u g grows is inside add = record {
      remains = remains-behind start now (all a ids) (left a ids i) (tree a (get_or items i d) ∷ []) (left a ids (i + 1)) c.remains (left_next i d below) next g;
      are = record {
        shapes = grows.shapes ∙ c.are.shapes;
        decls = grows.decls ∙ c.are.decls;
        trees =
            ap (map (tree next)) add
            ∙ (map-append (tree next) images (u ∷ [])
            ∙ ((λ j. (map_tree-Extends grows images c.are.in_range ∙ c.are.trees) j ++ is j ∷ [])
            ∙ (ap (λ (xs : List TermId). map (tree a) (take i xs) ++ tree a (get_or items i d) ∷ []) (sym same)
            ∙ (sym (map_next (tree a) items i d below) ∙ ap (λ (xs : List TermId). map (tree a) (take (i + 1) xs)) same))));
        in_range = subst (AllBelow (length next.nodes)) (sym add) (AllBelow-append (length next.nodes) images (u ∷ []) (AllBelow-Extends grows images c.are.in_range) (inside, tt));
      };
      within = low;
    }

    pub one_stops : Stops now (tree a (get_or items i d) ∷ []) → Stops start (all a ids)
    one_stops s = remains-stops start now (all a ids) (left a ids i) (tree a (get_or items i d) ∷ []) (left a ids (i + 1)) c.remains (left_next i d below) s

  nothing_left : (i : ℕ) → length ids ≤ i → left a ids i ≡ []
  nothing_left i h = ap (map (tree a)) (empty ids i h)
    where
      empty : (xs : List TermId) (j : ℕ) → length xs ≤ j → drop j xs ≡ []
      empty [] zero k = refl
      empty [] (suc j) k = refl
      empty (x ∷ xs) zero k = absurd (omega (arith, k))
      empty (x ∷ xs) (suc j) k = empty xs j (omega (arith, k))

  module _ (start now : Arena) (images : List TermId) (i : ℕ) (c : IsCopying a ids start now images i) (over : length items ≤ i) where
    done : length ids ≤ i
    done = let e : length items ≡ length ids = ap length same in omega (arith, e, over)

    pub all_gained : Gains start now (all a ids)
    all_gained = remains-gained start now (all a ids) (left a ids i) c.remains (nothing_left i done)

    pub all_images : AreImages a ids now images (length ids)
    all_images = let w = c.within in let d = done in let e : i ≡ length ids = omega (arith, w, d) in subst (AreImages a ids now images) e c.are
