-- The lists have one item more, at their ends, and the map the place of the node.
use Rattle.std.proofs.Common.{◌≡◌, ◌<◌, ◌++◌, ◌∷◌, [], List, length, true, is_ok, sym, ap, ◌∙◌, subst, Some, if◌then◌else◌}
use Rattle.spv_logic.specs.declared.types.Sort.{Sort}
use Rattle.spv_logic.specs.Sorts.{result_sort}
use Rattle.spv_term.specs.declared.nodes.Node.{Node}
use Rattle.spv_term.specs.Arena.{Arena, MayFollow, node, node_eq, number_of, sorts_at}
use Rattle.spv_term.proofs.ArenaLemmas.{IsArena-pushed, sorts_of-pushed}
use Rattle.spv_term.proofs.SameLemmas.{ArePlaces-push}
use Rattle.spv_term.proofs.terms.Terms.push.Goals as goal

pub invariant_of-self-2 : goal.invariant_of-self-2
invariant_of-self-2 c =
    let n = c.args.node in
    let inside = c.self.inside in
    let nodes : List Node = inside.nodes.items in
    let sorts : List Sort = inside.sorts.items in
    let follows : MayFollow inside.shapes inside.decls nodes n = subst (λ (a : Arena). MayFollow a.shapes a.decls a.nodes n) (sym c.self.view_is) c.requires.new in
    let room : length nodes < inside.most = subst (λ (a : Arena). length a.nodes < a.most) (sym c.self.view_is) c.requires.room in
    let fits = subst (λ (a : Arena). result_sort a.shapes a.decls n.head (sorts_at a n.args) ≡ Some c.args.sort) (sym c.self.view_is) c.requires.sort in
    let ms : List Node = c.push.new.self.items in
    let more : List Sort = c.push-2.new.self.items in
    let listed : is_ok c.push.result ≡ true = ap is_ok c.unwrap.ensures in
    let beside : is_ok c.push-2.result ≡ true = ap is_ok c.unwrap-2.ensures in
    let pushed : ms ≡ nodes ++ n ∷ [] = c.push.ensures.items ∙ (λ i. if listed i then c.reserve.ensures.items i ++ n ∷ [] else c.reserve.ensures.items i) in
    let sorted : more ≡ sorts ++ c.args.sort ∷ [] = c.push-2.ensures.items ∙ (λ i. if beside i then c.reserve-2.ensures.items i ++ c.args.sort ∷ [] else c.reserve-2.ensures.items i) in
    let same : c.in_ok-key.key ≡ n = c.in_ok-key.ensures.node ∙ ap (node n.head) c.as_slice.ensures in
    record {
      arena = IsArena-pushed _ n ms pushed c.self.invariant.arena follows room;
      sorts = sorts_of-pushed inside.shapes inside.decls nodes ms n c.args.sort sorts more pushed sorted c.self.invariant.sorts fits;
      places = ArePlaces-push inside.places c.put_place.new.places nodes ms n c.len-place.result c.self.invariant.places follows.new
          (λ m. c.in_ok-put_place.ensures.ok m ∙ ap (λ (k : Node). if node_eq k m then Some c.len-place.result else number_of inside.places m) same)
          (c.len-place.ensures ∙ inside.nodes.ok.0) pushed;
    }
