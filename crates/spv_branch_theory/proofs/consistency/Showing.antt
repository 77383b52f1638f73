-- An open state shows that its path is live.
use Rattle.std.proofs.Common.{◌≡◌, Bool, true, false, ◌&&◌, ◌||◌, not, List, nat_eq, refl, sym, ap, ◌∙◌, Option, Some}
use mathlib.Core.Path.{ap₂}
use Rattle.std.specs.Cmp.Derive.{both_true}
use Rattle.std.proofs.lemmas.Bool.{false≢true}
use Rattle.spv_logic.proofs.list.Tests.{right_true}
use Rattle.spv_logic.specs.declared.operators.Head.{Head}
use Rattle.spv_logic.specs.declared.operators.Head.TheVariants.{Eq}
use Rattle.spv_logic.specs.Formulas.{equation, below}
use Rattle.spv_logic.specs.Terms.{Term, Terms, term, no_terms, terms}
use Rattle.spv_term.specs.declared.nodes.Condition.{Condition}
use Rattle.spv_term.specs.Arena.{Arena, tree}
use Rattle.spv_atoms.specs.Atoms as atoms_of
use Rattle.spv_atoms.proofs.Members.{has}
use Rattle.spv_tableau_rules.proofs.pivots.Algebra.{false_of}
use Rattle.spv_tableau_rules.specs.tableaux.Rows.{Point, IsSolution}
use Rattle.spv_tableau_rules.specs.tableaux.Bounds.{limits, Meets}
use Rattle.spv_tableau_rules.specs.constraints.Values.{part_value}
use Rattle.spv_tableau_rules.specs.declared.constraints.saying.RowConstraint.TheVariants.{Equal}
use Rattle.spv_derivations.specs.derivation.Derived.{is_truth}
use Rattle.spv_proof_rules.specs.Stand.{question}
use Rattle.spv_proof.specs.sums.Readings.{number_in}
use Rattle.spv_congruence.specs.Graph.{are_same}
use Rattle.spv_congruence.specs.Keep.{IsNode}
use Rattle.spv_simplex.specs.State.{kept_point, rows_in}
use Rattle.spv_models.specs.leaf_models.Labels.{HasId}
use Rattle.spv_models.specs.leaf_models.Leaves.{worth_at, is_met}
use Rattle.spv_models.specs.leaf_models.Subterms.{subterms}
use Rattle.spv_models.specs.leaf_models.Tables.{formulas_of}
use Rattle.spv_models.proofs.leaf_models.Covering.{atoms-are}
use Rattle.spv_models.specs.split_trees.Paths.{atoms, facts, Gives, Told, member, negated, true_one, false_one, sides, MeetsKnown, IsLive}
use Rattle.spv_models.specs.split_trees.Shown.{HasOrder, IsEqualAt, ShowsLive}
use Rattle.spv_models.proofs.split_trees.Finishing.{gives-least}
use Rattle.spv_models.proofs.split_trees.Showing.{shown-live}
use Rattle.spv_share.specs.declared.both.Both.{Both}
use Rattle.spv_share.specs.States.{is_equality, is_open}
use Rattle.spv_share.proofs.combination_laws.Exact.{node_listed}
use Rattle.spv_share.proofs.combination_laws.Graphs.{have_one_value}
use Rattle.spv_branch_theory.specs.consistency.States.{same_in}
use Rattle.spv_branch_theory.specs.consistency.Laws.{IsOpenState}
use Rattle.spv_branch_theory.proofs.consistency.Sameness.{joined_same, same_is, tree_label, sameness, IsSame, one, labelled}
use Rattle.spv_branch_theory.proofs.consistency.Telling.{true_same, false_same, sides_same, sides_apart, truths_apart, numerals_one}
use Rattle.spv_branch_theory.proofs.consistency.Meeting.{atom_asked, atom_relation, meets_known, ordered_at}

module _ (a : Arena) (c : Condition) (b : Both) (cases : List Term) (value : Term → Option Bool) (s : IsOpenState a c b cases value) where
  abbrev fs : List Term
  fs = facts (question a c) cases

  gives : (t : Term) (d : Bool) → Gives (question a c) (facts (question a c) cases) t d → value t ≡ Some d
  gives t d g = gives-least (question a c) (facts (question a c) cases) value s.finished t d g

  -- an equation that is an atom has sides that are not both of sort Bool
  not_truths : (x y : Term) → has (atoms (question a c)) (equation x y) ≡ true → (is_truth a x && is_truth a y) ≡ false
  not_truths x y m = by_atom (is_truth a x) (is_truth a y) (atoms-are a.shapes a.decls (formulas_of (question a c).sequent) s.formulas (equation x y) m)
    where
      by_atom : (d e : Bool) → (atoms_of.is_truth a.shapes a.decls (equation x y) && (not (d && (e && true)) && true)) ≡ true → (d && e) ≡ false
      by_atom false e k = refl
      by_atom true false k = refl
      by_atom true true k = absurd (false≢true (right_true (atoms_of.is_truth a.shapes a.decls (equation x y)) false k))

  told_same : (x y : Term) → Told (question a c) (facts (question a c) cases) x y → same_in a b x y ≡ true
  told_same _ _ (true_one t m k) = true_same a s.ok b s.both s.exact s.terms_are s.agree.clash t (s.answered.affirmed t m (gives t true (member t k)))
  told_same _ _ (false_one t m k) = false_same a s.ok b s.both s.exact s.terms_are s.agree.clash t (s.answered.denied t m (gives t false (negated t k)))
  told_same _ _ (sides x y m k) =
      let t = s.answered.affirmed (equation x y) (atom_asked a c (equation x y) m) (gives (equation x y) true (member (equation x y) k)) in
      sides_same a s.ok b s.both s.exact s.terms_are s.agree.clash x y t (not_truths x y m)

  -- ---- points

  id_node : (t : Term) (k : HasId a b.trail.graph.added t) → IsNode b.trail.graph.nodes k.id
  id_node t k = node_listed a s.ok b.trail.graph s.both.sound.trail.of s.exact s.terms_are k.id k.listed

  equal_at : (v : Point) → (solution : IsSolution (rows_in b.standing.tableau) v) → (meets : Meets (limits (rows_in b.standing.tableau) b.standing.tableau.bounds) v) → IsEqualAt (question a c) (same_in a b) (part_value a b.standing.tableau.forms v)
  equal_at v solution meets = λ x y m n e. by_same x y m (same_is a s.ok b s.both s.exact s.terms_are x y e)
    where
      by_same : (x y : Term) → number_in a x ≡ true → IsSame a s.ok b s.both s.exact s.terms_are x y → worth_at (part_value a b.standing.tableau.forms v) x ≡ worth_at (part_value a b.standing.tableau.forms v) y
      by_same x y m (one e) = ap (worth_at (part_value a b.standing.tableau.forms v)) e
      by_same x y m (labelled p q e) =
          let same : are_same b.trail.graph p.id q.id ≡ true = ap₂ nat_eq (sym (tree_label a s.ok b s.both s.exact s.terms_are x p)) (sym (tree_label a s.ok b s.both s.exact s.terms_are y q)) ∙ e in
          ap (worth_at (part_value a b.standing.tableau.forms v)) (sym p.is)
          ∙ (have_one_value a s.ok b s.both s.agree s.exact s.terms_are s.enough v solution meets p.id q.id (id_node x p) (id_node y q) (ap (number_in a) p.is ∙ m) same ∙ ap (worth_at (part_value a b.standing.tableau.forms v)) q.is)

  known_at : (v : Point) → (solution : IsSolution (rows_in b.standing.tableau) v) → (meets : Meets (limits (rows_in b.standing.tableau) b.standing.tableau.bounds) v) → MeetsKnown (question a c) (facts (question a c) cases) (part_value a b.standing.tableau.forms v)
  known_at v solution meets = meets_known a s.ok b s.both s.agree c s.of_atoms v solution meets (facts (question a c) cases) value s.answered s.known gives

  -- ---- orders

  orders : (x y : Term) → has (atoms (question a c)) (equation x y) ≡ true → number_in a x ≡ true → number_in a y ≡ true → same_in a b x y ≡ false → HasOrder (question a c) (facts (question a c) cases) (same_in a b) x y
  orders x y m nx ny apart =
      let r = atom_relation a s.ok b s.both s.agree c s.of_atoms Eq x y true Equal nx ny refl m in
      let rel = s.both.sound.related.are.each r.place r.relation r.there in
      let tree_is : term r.relation.head (terms (tree a r.relation.left) (terms (tree a r.relation.right) no_terms)) ≡ equation x y = sym rel.is ∙ r.is in
      let head : r.relation.head ≡ Eq = heads r.relation.head Eq (terms (tree a r.relation.left) (terms (tree a r.relation.right) no_terms)) (terms x (terms y no_terms)) tree_is in
      let left : tree a r.relation.left ≡ x = firsts r.relation.head Eq (tree a r.relation.left) (tree a r.relation.right) x y tree_is in
      let right : tree a r.relation.right ≡ y = seconds r.relation.head Eq (tree a r.relation.left) (tree a r.relation.right) x y tree_is in
      let open_is : is_open b r.relation ≡ true =
      both_true (ap is_equality head)
      (ap not (false_of (are_same b.trail.graph r.relation.left r.relation.right)
      (λ same. false≢true (sym apart ∙ (ap₂ (same_in a b) (sym left) (sym right) ∙ joined_same a s.ok b s.both s.exact s.terms_are r.relation.left r.relation.right rel.left rel.right same))))) in
      let p = ordered_at a s.ok b s.both s.agree c s.of_atoms r.place r.relation r.there (ap (number_in a) left ∙ nx) (ap (number_in a) right ∙ ny) (s.agree.apart r.place r.relation r.there open_is) in
      record {
        point = part_value a b.standing.tableau.forms p.point;
        meets = known_at p.point p.solution p.stand;
        equal = equal_at p.point p.solution p.stand;
        order =
            ap₂ (λ u v. is_met (number_in a) (part_value a b.standing.tableau.forms p.point) (below u v) || is_met (number_in a) (part_value a b.standing.tableau.forms p.point) (below v u)) (sym left) (sym right) ∙ p.order;
      }
    where
      heads : (r s : Head) (ss us : Terms) → term r ss ≡ term s us → r ≡ s
      heads r s ss us e = cc

      firsts : (r s : Head) (p q u v : Term) → term r (terms p (terms q no_terms)) ≡ term s (terms u (terms v no_terms)) → p ≡ u
      firsts r s p q u v e = cc

      seconds : (r s : Head) (p q u v : Term) → term r (terms p (terms q no_terms)) ≡ term s (terms u (terms v no_terms)) → q ≡ v
      seconds r s p q u v e = cc

  pub open_shows : ShowsLive (question a c) (facts (question a c) cases) (same_in a b)
  open_shows = record {
    sameness = sameness a s.ok b s.both s.exact s.terms_are (subterms (atoms (question a c))) s.parts.each;
    told = told_same;
    orders = orders;
    value = value;
    covers = gives;
    agree = s.finished.agree;
    apart = λ x y m k.
        sides_apart a s.ok b s.both s.exact s.terms_are s.agree.clash x y (s.answered.denied (equation x y) (atom_asked a c (equation x y) m) (gives (equation x y) false (negated (equation x y) k))) (not_truths x y m);
    numerals = numerals_one a s.ok b s.both s.exact s.terms_are s.agree.clash;
    truths = truths_apart a s.ok b s.both s.exact s.terms_are s.agree.clash;
    point = part_value a b.standing.tableau.forms (kept_point b.standing.tableau);
    meets = known_at (kept_point b.standing.tableau) s.tableau.solution s.agree.point;
    equal = equal_at (kept_point b.standing.tableau) s.tableau.solution s.agree.point;
  }

  pub open_live : IsLive (question a c) (facts (question a c) cases)
  open_live = shown-live (question a c) (facts (question a c) cases) (same_in a b) open_shows
