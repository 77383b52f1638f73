-- Each subterm of terms that were added was added.
use Rattle.std.proofs.Common.{◌≡◌, ℕ, suc, Bool, true, false, cond, List, [], ◌∷◌, map, refl, sym, ◌∙◌, subst, Some}
use Rattle.std.specs.Prelude.{slice_get}
use Rattle.std.proofs.lemmas.Bool.{false≢true}
use Rattle.spv_logic.specs.declared.conditions.TermId.{TermId}
use Rattle.spv_logic.specs.declared.operators.Head.{Head}
use Rattle.spv_logic.specs.Terms.{Term, Terms, term, no_terms, terms, term_eq}
use Rattle.spv_logic.proofs.Equality.{term_eq-refl}
use Rattle.spv_term.specs.declared.nodes.Condition.{Condition}
use Rattle.spv_term.specs.Arena.{Arena, IsArena, tree, trees}
use Rattle.spv_term.proofs.ArenaLemmas.{tree-node}
use Rattle.spv_atoms.specs.Atoms.{with_term}
use Rattle.spv_atoms.specs.Order.{order, order_all}
use Rattle.spv_atoms.proofs.Members.{has, or_left, or_right}
use Rattle.spv_congruence.specs.Graph.{AreTerms, Graph}
use Rattle.spv_congruence.specs.Told.{IsOf}
use Rattle.spv_term.specs.closure.Laws.{Listed}
use Rattle.spv_proof_rules.specs.Stand.{question}
use Rattle.spv_models.specs.leaf_models.Labels.{HasId}
use Rattle.spv_models.specs.leaf_models.Subterms.{is_among, enters_each, with_subterms}
use Rattle.spv_models.proofs.leaf_models.Closed.{with_term-parts}
use Rattle.spv_models.specs.split_trees.Paths.{atoms}
use Rattle.spv_share.specs.declared.both.Both.{Both}
use Rattle.spv_share.specs.Relations.{AreNodes}
use Rattle.spv_branch_theory.specs.consistency.States.{HasAtoms}
use Rattle.spv_branch_theory.proofs.consistency.Sameness.{id_found}

arguments_same : (h k : Head) (ss ts : Terms) → term h ss ≡ term k ts → ss ≡ ts
arguments_same h k ss ts e = cc

module _ (a : Arena) (ok : IsArena a) (g : Graph) (of : IsOf a g) (are : AreTerms g.nodes g.added) where
  -- each of these terms was added
  abbrev AllAdded : Terms → Type 0
  AllAdded no_terms = Unit {0}
  AllAdded (terms t ts) = HasId a g.added t × AllAdded ts

  abbrev HaveIds : List Term → Type 0
  HaveIds ts = (t : Term) → has ts t ≡ true → HasId a g.added t

  trees_added : (us : List TermId) → ((k : ℕ) (u : TermId) → slice_get us k ≡ Some u → Listed g.added u) → AllAdded (trees a us)
  trees_added [] each = tt
  trees_added (u ∷ us) each = (record { id = u; listed = each 0 u refl; is = refl }, trees_added us (λ k v at. each (suc k) v at))

  -- the arguments of an added term were added
  arguments_added : (h : Head) (ts : Terms) → HasId a g.added (term h ts) → AllAdded ts
  arguments_added h ts i =
      let n = are.noded i.listed.0 i.id i.listed.1 in
      let tree_is : term h ts ≡ term n.0.head (trees a n.0.args) = sym i.is ∙ tree-node a ok i.id n.0 (of.node i.id n.0 n.1) in
      subst AllAdded (sym (arguments_same h n.0.head ts (trees a n.0.args) tree_is))
      (trees_added n.0.args (λ k u at. let early = are.args i.listed.0 i.id n.0 i.listed.1 n.1 k u at in (early.place, early.there)))

  mutual
    order_added : (t : Term) (done : List Term) → HaveIds done → HasId a g.added t → HaveIds (order enters_each t done)
    order_added (term h ts) done have i = by_known (has done (term h ts)) (order_all_added ts done have (arguments_added h ts i))
      where
        by_known : (b : Bool) → HaveIds (order_all enters_each ts done) → HaveIds (cond b done (with_term (order_all enters_each ts done) (term h ts)))
        by_known true later = have
        by_known false later = λ u m. with_term-parts (order_all enters_each ts done) (term h ts) u m (later u) (λ e. subst (HasId a g.added) (sym e) i)

    order_all_added : (ts : Terms) (done : List Term) → HaveIds done → AllAdded ts → HaveIds (order_all enters_each ts done)
    order_all_added no_terms done have is = have
    order_all_added (terms t ts) done have is = order_all_added ts (order enters_each t done) (order_added t done have is.0) is.1

  with_subterms_added : (fs done : List Term) → HaveIds done → HaveIds fs → HaveIds (with_subterms done fs)
  with_subterms_added [] done have each = have
  with_subterms_added (f ∷ fs) done have each =
      with_subterms_added fs (order enters_each f done) (order_added f done have (each f (or_left (term_eq f f) (has fs f) (term_eq-refl f)))) (λ t m. each t (or_right (term_eq t f) (has fs t) m))

  nothing_added : HaveIds []
  nothing_added t m = absurd (false≢true m)

  -- a term among the trees of nodes was added
  tree_added : (ids : List TermId) → AreNodes g.nodes ids → (t : Term) → is_among (map (tree a) ids) t ≡ true → HasId a g.added t
  tree_added ids nodes t m =
      let i = id_found a ids t m in
      let n = nodes.each i.listed.0 i.id i.listed.1 in
      let early = are.listed i.id n.0 n.1 in
      record { id = i.id; listed = (early.place, early.there); is = i.is }

pub subterms_added : (a : Arena) (c : Condition) (b : Both) (ids : List TermId) → IsArena a → IsOf a b.trail.graph → AreTerms b.trail.graph.nodes b.trail.graph.added → AreNodes b.trail.graph.nodes ids
    → ((t : Term) → is_among (atoms (question a c)) t ≡ true → is_among (map (tree a) ids) t ≡ true) → HasAtoms a b (question a c)
subterms_added a c b ids ok of are nodes each = record {
  each = with_subterms_added a ok b.trail.graph of are (atoms (question a c)) [] (nothing_added a ok b.trail.graph of are) (λ t m. tree_added a ok b.trail.graph of are ids nodes t (each t m));
}
