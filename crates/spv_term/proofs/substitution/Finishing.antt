-- The term of a head over images.
use Rattle.std.proofs.Common.{◌≡◌, ◌<◌, List, [], ◌∷◌, map, length, slice_get, Option, Some, None, IsSome, is_some, IsTrue, refl, sym, ap, ◌∙◌, subst}
use Rattle.std.specs.Option.{unwrap_or}
use Rattle.std.proofs.lemmas.Option.{same_Some}
use Rattle.spv_logic.specs.declared.conditions.TermId.{TermId}
use Rattle.spv_logic.specs.Terms.{term}
use Rattle.spv_logic.specs.Sorts.{result_sort, head_in_range, numeral_fits}
use Rattle.spv_term.specs.declared.nodes.Node.{Node}
use Rattle.spv_term.specs.Arena.{Arena, IsArena, AllBelow, node, with_node, place_of, lacks_room, tree, trees, sort_at, sorts_at}
use Rattle.spv_term.proofs.ArenaLemmas.{args_in_range, tree-node, sort-node}
use Rattle.spv_term.specs.substitution.Images.{image_of, image_or, head_of, head_at, Puts, Fits, ImagesFit}
use Rattle.spv_term.specs.substitution.Parts.{AddsOnly, Lacks}
use Rattle.spv_term.specs.substitution.Walk.{args_of, args_at, over_images, Finishes}
use Rattle.spv_term.proofs.substitution.MakeLemmas.{adds_node, lacks_tree}

module _ (a : Arena) (ok : IsArena a) (t : TermId) (n : Node) (at : slice_get a.nodes t.0 ≡ Some n)
    (images : List (TermId × TermId)) (fit : ImagesFit a images) (args : List TermId) (is : args ≡ map (image_or images) n.args) where
  fits_one : (x : TermId) → x.0 < length a.nodes → Fits a x (image_or images x)
  fits_one x there = by (image_of images x) refl
    where
      by : (o : Option TermId) → image_of images x ≡ o → Fits a x (unwrap_or o x)
      by (Some v) e = fit.each x v there e
      by None e = record { there = there; same_sort = refl }

  fits_below : (xs : List TermId) → AllBelow (length a.nodes) xs → AllBelow (length a.nodes) (map (image_or images) xs)
  fits_below [] h = tt
  fits_below (x ∷ xs) h = ((fits_one x h.0).there, fits_below xs h.1)

  fits_sorts : (xs : List TermId) → AllBelow (length a.nodes) xs → sorts_at a (map (image_or images) xs) ≡ sorts_at a xs
  fits_sorts [] h = refl
  fits_sorts (x ∷ xs) h =
      let first = (fits_one x h.0).same_sort in
      let others = fits_sorts xs h.1 in
      λ i. first i ∷ others i

  own_args : AllBelow (length a.nodes) n.args
  own_args = args_in_range a ok t n at

  same_sorts : sorts_at a args ≡ sorts_at a n.args
  same_sorts = ap (sorts_at a) is ∙ fits_sorts n.args own_args

  result_is : result_sort a.shapes a.decls n.head (sorts_at a args) ≡ Some (sort_at a t)
  result_is = ap (result_sort a.shapes a.decls n.head) same_sorts ∙ sort-node a ok t n at

  over_is : term n.head (trees a args) ≡ over_images a images t
  over_is =
      let head : head_at a t ≡ n.head = ap head_of (tree-node a ok t n at) in
      let own : args_at a t ≡ n.args = ap args_of at in
      λ i. term (sym head i) (trees a ((is ∙ ap (map (image_or images)) (sym own)) i))

  -- what `make` asks

  pub finish_args : AllBelow (length a.nodes) args
  finish_args = subst (AllBelow (length a.nodes)) (sym is) (fits_below n.args own_args)

  pub finish_sorts : IsSome (result_sort a.shapes a.decls n.head (sorts_at a args))
  finish_sorts = ap is_some result_is

  pub finish_types : IsTrue (head_in_range a.shapes n.head)
  finish_types = (ok.nodes t.0 n at).types

  pub finish_numeral : IsTrue (numeral_fits n.head)
  finish_numeral = (ok.nodes t.0 n at).numeral

  -- what it gives

  pub finish_made : (b : Arena) (u : TermId) (more : List (TermId × TermId)) → u.0 < length b.nodes → tree b u ≡ term n.head (trees a args)
      → result_sort a.shapes a.decls n.head (sorts_at a args) ≡ Some (sort_at b u) → Puts t u images more → Finishes a t images b more
  finish_made b u more there is_tree is_sort puts = record {
    image = u;
    there = there;
    is_tree = is_tree ∙ over_is;
    is_sort = same_Some (sort_at b u) (sort_at a t) (sym is_sort ∙ result_is);
    puts = puts;
  }

  pub finish_only : (b : Arena) (u : TermId) → b ≡ record a { nodes = with_node a.nodes (node n.head args) } → u.0 ≡ place_of a.nodes (node n.head args)
      → tree b u ≡ term n.head (trees a args) → AddsOnly a b (over_images a images t)
  finish_only b u e at_place is_tree = adds_node a b (node n.head args) e u (over_images a images t) at_place (is_tree ∙ over_is)

  pub finish_size : (b : Arena) → b ≡ a → IsTrue (lacks_room a (node n.head args)) → Lacks b (over_images a images t)
  finish_size b same h =
      subst (λ c. Lacks c (over_images a images t)) (sym same) (subst (Lacks a) over_is (lacks_tree a ok n.head args finish_args h))

-- the images of a node's arguments, by the slices that hand them on
pub args_are : (images : List (TermId × TermId)) (given own made args : List TermId) → args ≡ made → made ≡ map (image_or images) given → given ≡ own → args ≡ map (image_or images) own
args_are images given own made args e f g = e ∙ (f ∙ ap (map (image_or images)) g)
