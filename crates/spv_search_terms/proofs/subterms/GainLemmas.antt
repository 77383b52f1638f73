-- What an arena gains by `make`, as the trees of its nodes show it.
use Rattle.std.proofs.Common.{◌≡◌, ℕ, zero, suc, ◌<◌, ◌≤◌, Bool, true, false, cond, not, List, [], ◌∷◌, ◌++◌, length, slice_get, get_or, nat_eq, refl, sym, ap, ◌∙◌, subst, Some, pos, arith}
use Rattle.std.proofs.lemmas.Bool.{false≢true, eqb-true, and_parts, not-true}
use Rattle.std.proofs.lemmas.List.{length_push}
use Rattle.std.proofs.lemmas.List.Sums.{fold-append}
use Rattle.std.proofs.lemmas.Option.{slice_get-get_or, slice_get_within, same_Some}
use Rattle.spv_logic.specs.declared.conditions.TermId.{TermId}
use Rattle.spv_logic.specs.declared.operators.Head.{Head}
use Rattle.spv_logic.specs.declared.operators.Head.TheVariants.{Num}
use Rattle.spv_logic.specs.Terms.{Term, term, no_terms, term_eq}
use Rattle.spv_logic.proofs.Equality.{term_eq-true}
use Rattle.spv_term.specs.Arena.{Arena, IsArena, AllBelow, node, has_node, with_node, place_of, lacks_room, tree, trees, with_tree, trees_of, Extends}
use Rattle.spv_term.proofs.ArenaLemmas.{node_of, args_in_range, tree-node, same_ids, Extends-refl, Extends-trans, Extends-with_node}
use Rattle.spv_term.proofs.NodeLemmas.{has_node-at, with_node-there, with_node-absent, place_of-there}
use Rattle.spv_term.proofs.TreeLemmas.{length-trees_of}
use Rattle.spv_atoms.specs.Atoms.{with_term, with_terms}
use Rattle.spv_atoms.proofs.Members.{has, or_cases, with_term-known, with_term-new, with_terms-append}
use Rattle.spv_tableau_rules.proofs.pivots.Algebra.{false_of}
use Rattle.spv_models.proofs.leaf_models.Once.{at-has}
use Rattle.spv_search_terms.specs.subterms.Gaining.{Gains, Stops, Remains}

abbrev no_tree : Term
no_tree = term (Num (pos 0)) no_terms

-- ---- the trees of an arena's nodes

pub tree-among : (a : Arena) (t : TermId) → t.0 < length a.nodes → has (trees_of a.nodes) (tree a t) ≡ true
tree-among a t h = let count = length-trees_of a.nodes in at-has (trees_of a.nodes) t.0 (tree a t) (slice_get-get_or (trees_of a.nodes) t.0 no_tree (omega (arith, h, count)))

record IsAt (xs : List Term) (x : Term) : Type 0 where
  place : ℕ
  at : slice_get xs place ≡ Some x

at_place : (xs : List Term) (x : Term) → has xs x ≡ true → IsAt xs x
at_place [] x h = absurd (false≢true h)
at_place (y ∷ ys) x h =
    or_cases (term_eq x y) (has ys x) h (λ e. record { place = zero; at = ap Some (sym (term_eq-true x y e)) }) (λ e. let p = at_place ys x e in record { place = suc p.place; at = p.at })

-- a term of an arena has an id
pub record HasPlace (a : Arena) (x : Term) : Type 0 where
  pub id : TermId
  pub there : id.0 < length a.nodes
  pub is : tree a id ≡ x

pub among-tree : (a : Arena) (x : Term) → has (trees_of a.nodes) x ≡ true → HasPlace a x
among-tree a x h =
    let p = at_place (trees_of a.nodes) x h in
    let count = length-trees_of a.nodes in
    let within = slice_get_within (trees_of a.nodes) p.place x p.at in
    record {
      id = record { 0 = p.place };
      there = omega (arith, within, count);
      is = same_Some (get_or (trees_of a.nodes) p.place no_tree) x (sym (slice_get-get_or (trees_of a.nodes) p.place no_tree within) ∙ p.at);
    }

module _ (a : Arena) (ok : IsArena a) (h : Head) (ts : List TermId) (below : AllBelow (length a.nodes) ts) where
  abbrev one : Term
  one = term h (trees a ts)

  -- a term of this head over these terms has their node
  tree-has_node : (u : TermId) → u.0 < length a.nodes → tree a u ≡ one → has_node a.nodes (node h ts) ≡ true
  tree-has_node u there e =
      let m = node_of a ok u there in
      let f : term m.0.head (trees a m.0.args) ≡ term h (trees a ts) = sym (tree-node a ok u m.0 m.1) ∙ e in
      let heads : m.0.head ≡ h = cc in
      let others : trees a m.0.args ≡ trees a ts = cc in
      let args = same_ids a ok (trees a ts) m.0.args ts (args_in_range a ok u m.0 m.1) below others refl in
      let same : m.0 ≡ node h ts = λ i. record { head = heads i; args = args i } in
      has_node-at a.nodes u.0 (node h ts) (m.1 ∙ ap Some same)

  one_there : has_node a.nodes (node h ts) ≡ true → has (trees_of a.nodes) one ≡ true
  one_there e =
      let t : TermId = record { 0 = place_of a.nodes (node h ts) } in
      let at = place_of-there a.nodes (node h ts) e in
      ap (has (trees_of a.nodes)) (sym (tree-node a ok t (node h ts) at)) ∙ tree-among a t (slice_get_within a.nodes t.0 (node h ts) at)

  one_absent : has_node a.nodes (node h ts) ≡ false → has (trees_of a.nodes) one ≡ false
  one_absent e = false_of (has (trees_of a.nodes) one) (λ k. let p = among-tree a one k in false≢true (sym e ∙ tree-has_node p.id p.there p.is))

  nodes_gained : trees_of (with_node a.nodes (node h ts)) ≡ with_term (trees_of a.nodes) one
  nodes_gained = by_case (has_node a.nodes (node h ts)) refl
    where
      by_case : (b : Bool) → has_node a.nodes (node h ts) ≡ b → trees_of (with_node a.nodes (node h ts)) ≡ with_term (trees_of a.nodes) one
      by_case true e = ap trees_of (with_node-there a.nodes (node h ts) e) ∙ sym (with_term-known (trees_of a.nodes) one (one_there e))
      by_case false e = ap trees_of (with_node-absent a.nodes (node h ts) e) ∙ (fold-append with_tree [] a.nodes (node h ts ∷ []) ∙ sym (with_term-new (trees_of a.nodes) one (one_absent e)))

  pub gained : (b : Arena) → b ≡ record a { nodes = with_node a.nodes (node h ts) } → Gains a b (one ∷ [])
  gained b e = record { grows = subst (Extends a) (sym e) (Extends-with_node a (node h ts)); terms = ap (λ (c : Arena). trees_of c.nodes) e ∙ nodes_gained }

  pub stopped : lacks_room a (node h ts) ≡ true → Stops a (one ∷ [])
  stopped e =
      let parts = and_parts (not (has_node a.nodes (node h ts))) (nat_eq (length a.nodes) a.most) e in
      let full : length a.nodes ≡ a.most = eqb-true (length a.nodes) a.most parts.1 in
      let count = length-trees_of a.nodes in
      let longer : length (with_term (trees_of a.nodes) one) ≡ length (trees_of a.nodes ++ one ∷ []) = ap length (with_term-new (trees_of a.nodes) one (one_absent (not-true (has_node a.nodes (node h ts)) parts.0))) in
      let last = length_push (trees_of a.nodes) one in
      record { more = omega (arith, full, count, longer, last) }

-- ---- one behind the other

longer_one : (xs : List Term) (t : Term) → length xs ≤ length (with_term xs t)
longer_one xs t = by_case (has xs t)
  where
    by_case : (b : Bool) → length xs ≤ length (cond b xs (xs ++ t ∷ []))
    by_case true = omega arith
    by_case false = let e = length_push xs t in omega (arith, e)

pub longer : (xs ts : List Term) → length xs ≤ length (with_terms xs ts)
longer xs [] = omega arith
longer xs (t ∷ ts) = let e = longer_one xs t in let f = longer (with_term xs t) ts in omega (arith, e, f)

pub Gains-nothing : (a : Arena) → Gains a a []
Gains-nothing a = record { grows = Extends-refl a; terms = refl }

pub Gains-trans : (a b c : Arena) (es fs : List Term) → Gains a b es → Gains b c fs → Gains a c (es ++ fs)
Gains-trans a b c es fs f g = record { grows = Extends-trans f.grows g.grows; terms = g.terms ∙ (ap (λ xs. with_terms xs fs) f.terms ∙ sym (with_terms-append (trees_of a.nodes) es fs)) }

pub Stops-left : (a : Arena) (es fs : List Term) → Stops a es → Stops a (es ++ fs)
Stops-left a es fs s =
    let more = s.more in
    let rest = longer (with_terms (trees_of a.nodes) es) fs in
    let same : length (with_terms (trees_of a.nodes) (es ++ fs)) ≡ length (with_terms (with_terms (trees_of a.nodes) es) fs) = ap length (with_terms-append (trees_of a.nodes) es fs) in
    record { more = omega (arith, more, rest, same) }

pub Stops-behind : (a b : Arena) (es fs : List Term) → Gains a b es → Stops b fs → Stops a (es ++ fs)
Stops-behind a b es fs g s =
    let more = s.more in
    let most : b.most ≡ a.most = g.grows.most in
    let same : length (with_terms (trees_of b.nodes) fs) ≡ length (with_terms (trees_of a.nodes) (es ++ fs)) = ap length (ap (λ xs. with_terms xs fs) g.terms ∙ sym (with_terms-append (trees_of a.nodes) es fs)) in
    record { more = omega (arith, more, most, same) }

-- ---- what is left

pub Remains-all : (a : Arena) (all : List Term) → Remains a a all all
Remains-all a all = record { grows = Extends-refl a; terms = refl }

module _ (a b : Arena) (all rest es later : List Term) (r : Remains a b all rest) (e : rest ≡ es ++ later) where
  pub remains-behind : (c : Arena) → Gains b c es → Remains a c all later
  remains-behind c g = record {
    grows = Extends-trans r.grows g.grows;
    terms = ap (λ xs. with_terms xs later) g.terms ∙ (sym (with_terms-append (trees_of b.nodes) es later) ∙ (ap (with_terms (trees_of b.nodes)) (sym e) ∙ r.terms));
  }

  pub remains-stops : Stops b es → Stops a all
  remains-stops s =
      let all_of_it = Stops-left b es later s in
      let more = all_of_it.more in
      let most : b.most ≡ a.most = r.grows.most in
      let same : length (with_terms (trees_of b.nodes) (es ++ later)) ≡ length (with_terms (trees_of a.nodes) all) = ap length (ap (with_terms (trees_of b.nodes)) (sym e) ∙ r.terms) in
      record { more = omega (arith, more, most, same) }

pub remains-gained : (a b : Arena) (all rest : List Term) → Remains a b all rest → rest ≡ [] → Gains a b all
remains-gained a b all rest r e = record { grows = r.grows; terms = ap (with_terms (trees_of b.nodes)) (sym e) ∙ r.terms }
