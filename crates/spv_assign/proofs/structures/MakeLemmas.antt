-- What `make` makes, as a term.
use Rattle.std.proofs.Common.{◌≡◌, ◌<◌, List, length, Result, Ok, Err, OnOk, OnErr, IfOk, IsSome, Some, IsTrue, refl, ap, ◌∙◌, subst}
use Rattle.spv_logic.specs.declared.conditions.TermId.{TermId}
use Rattle.spv_logic.specs.declared.operators.Head.{Head}
use Rattle.spv_logic.specs.Terms.{term}
use Rattle.spv_logic.specs.Sorts.{result_sort, with_sorts, term_sort}
use Rattle.spv_term.specs.declared.nodes.TermFault.{TermFault}
use Rattle.spv_term.specs.declared.nodes.TermFault.TheVariants.{Size}
use Rattle.spv_term.specs.Arena.{Arena, IsArena, AllBelow, Extends, node, with_node, place_of, lacks_room, tree, trees, sort_at, sorts_at}
use Rattle.spv_term.proofs.ArenaLemmas.{term_sorts-trees}
use Rattle.spv_assign.specs.structures.Making.{GivesTerm}
use Rattle.spv_assign.proofs.limited_steps.Limits.{make_makes}

module _ (a b : Arena) (ok : IsArena a) (h : Head) (ts : List TermId) (below : AllBelow (length a.nodes) ts) where
  sort_over : term_sort a.shapes a.decls (term h (trees a ts)) ≡ result_sort a.shapes a.decls h (sorts_at a ts)
  sort_over = ap (λ o. with_sorts o (result_sort a.shapes a.decls h)) (term_sorts-trees a ok (trees a ts) ts below refl)

  pub sorts_fit : IsSome (term_sort a.shapes a.decls (term h (trees a ts))) → IsSome (result_sort a.shapes a.decls h (sorts_at a ts))
  sorts_fit fits = subst IsSome sort_over fits

  pub makes : (r : Result TermId TermFault)
      → IfOk r (λ t. t.0 ≡ place_of a.nodes (node h ts))
      → OnOk r (b ≡ record a { nodes = with_node a.nodes (node h ts) })
      → IfOk r (λ t. t.0 < length b.nodes)
      → IfOk r (λ t. tree b t ≡ term h (trees a ts))
      → IfOk r (λ t. result_sort a.shapes a.decls h (sorts_at a ts) ≡ Some (sort_at b t))
      → Extends a b
      → (r ≡ Err Size → IsTrue (lacks_room a (node h ts)))
      → OnErr r (b ≡ a)
      → GivesTerm r (term h (trees a ts)) a b
  makes (Ok t) id arena there is sorted grows size same =
      let made = make_makes a b ok h ts below (Ok t) id arena there is grows size same in
      record { grows = grows; term = record { there = there; is_tree = is }; sort = sort_over ∙ sorted; only = made.only; size = made.size }
  makes (Err e) id arena there is sorted grows size same =
      let made = make_makes a b ok h ts below (Err e) id arena there is grows size same in
      record { grows = grows; term = tt; sort = tt; only = made.only; size = made.size }
