-- What `make` adds, and what it lacks.
use Rattle.std.proofs.Common.{◌≡◌, ◌+◌, ◌<◌, ◌≤◌, Bool, true, false, not, List, [], ◌∷◌, ◌++◌, length, Some, nat_eq, refl, sym, ap, ◌∙◌, arith}
use Rattle.std.proofs.lemmas.Bool.{false≢true, eqb-true, and_parts, not-true}
use Rattle.std.proofs.lemmas.List.{length_push}
use Rattle.spv_logic.specs.declared.conditions.TermId.{TermId}
use Rattle.spv_logic.specs.declared.operators.Head.{Head}
use Rattle.spv_logic.specs.Terms.{Term, term}
use Rattle.spv_term.specs.declared.nodes.Node.{Node}
use Rattle.spv_term.specs.Arena.{Arena, IsArena, AllBelow, node, has_node, with_node, place_of, lacks_room, tree, trees}
use Rattle.spv_term.proofs.NodeLemmas.{id_from, has_node-at, with_node-there, with_node-absent, place_of-absent}
use Rattle.spv_term.proofs.ArenaLemmas.{node_of, args_in_range, tree-node, same_ids}
use Rattle.spv_term.specs.substitution.Parts.{AddsOnly, Lacks}

-- nothing was added
pub adds_nothing : (a b : Arena) (x : Term) → b ≡ a → AddsOnly a b x
adds_nothing a b x e = record { each = λ u low high. let same : length b.nodes ≡ length a.nodes = ap (λ (c : Arena). length c.nodes) e in absurd (omega arith) }

module _ (a b : Arena) (n : Node) (e : b ≡ record a { nodes = with_node a.nodes n }) where
  -- the only node that was added is that of the id that is given
  pub adds_node : (t : TermId) (x : Term) → t.0 ≡ place_of a.nodes n → tree b t ≡ x → AddsOnly a b x
  adds_node t x at is = record { each = each }
    where
      nodes_are : b.nodes ≡ with_node a.nodes n
      nodes_are = ap (λ (c : Arena). c.nodes) e

      by : (u : TermId) → length a.nodes ≤ u.0 → u.0 < length b.nodes → (there : Bool) → has_node a.nodes n ≡ there → tree b u ≡ x
      by u low high true f =
          let same : length b.nodes ≡ length a.nodes = ap length (nodes_are ∙ with_node-there a.nodes n f) in
          absurd (omega arith)
      by u low high false f =
          let longer : length b.nodes ≡ length (a.nodes ++ n ∷ []) = ap length (nodes_are ∙ with_node-absent a.nodes n f) in
          let last : t.0 ≡ length a.nodes = at ∙ place_of-absent a.nodes n f in
          let one : length (a.nodes ++ n ∷ []) ≡ length a.nodes + 1 = length_push a.nodes n in
          let here : t.0 ≡ u.0 = omega arith in
          ap (tree b) (sym (id_from t u here)) ∙ is

      each : (u : TermId) → length a.nodes ≤ u.0 → u.0 < length b.nodes → tree b u ≡ x
      each u low high = by u low high (has_node a.nodes n) refl

module _ (a : Arena) (ok : IsArena a) (h : Head) (ts : List TermId) (below : AllBelow (length a.nodes) ts) where
  -- a term of this head over these terms has their node
  tree-has_node : (u : TermId) → u.0 < length a.nodes → tree a u ≡ term h (trees a ts) → has_node a.nodes (node h ts) ≡ true
  tree-has_node u there e =
      let m = node_of a ok u there in
      let f : term m.0.head (trees a m.0.args) ≡ term h (trees a ts) = sym (tree-node a ok u m.0 m.1) ∙ e in
      let heads : m.0.head ≡ h = cc in
      let others : trees a m.0.args ≡ trees a ts = cc in
      let args = same_ids a ok (trees a ts) m.0.args ts (args_in_range a ok u m.0 m.1) below others refl in
      let one : m.0 ≡ node h ts = λ i. record { head = heads i; args = args i } in
      has_node-at a.nodes u.0 (node h ts) (m.1 ∙ ap Some one)

  -- where `make` lacks room, the term is not there and there may be no more
  pub lacks_tree : lacks_room a (node h ts) ≡ true → Lacks a (term h (trees a ts))
  lacks_tree e =
      let parts = and_parts (not (has_node a.nodes (node h ts))) (nat_eq (length a.nodes) a.most) e in
      record {
        full = eqb-true (length a.nodes) a.most parts.1;
        absent = λ u there is. false≢true (sym (not-true (has_node a.nodes (node h ts)) parts.0) ∙ tree-has_node u there is);
      }
