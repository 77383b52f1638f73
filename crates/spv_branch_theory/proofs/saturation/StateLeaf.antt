-- The leaf of a full state, and that its table is the state's.
use Rattle.std.proofs.Common.{◌≡◌, Bool, true, false, List, map, nat_eq, refl, sym, ap, ◌∙◌, ◌⊎◌, inl, inr, Option, Some}
use mathlib.Core.Path.{ap₂}
use Rattle.std.proofs.lemmas.Bool.{false≢true}
use Rattle.spv_whole.specs.Fraction.{Fraction}
use Rattle.spv_logic.specs.declared.conditions.TermId.{TermId}
use Rattle.spv_logic.specs.declared.types.Sort.TheVariants as sort
use Rattle.spv_logic.specs.Sorts.{term_sort}
use Rattle.spv_logic.specs.Terms.{Term, term}
use Rattle.spv_term.specs.declared.nodes.Condition.{Condition}
use Rattle.spv_term.specs.Arena.{Arena, tree}
use Rattle.spv_atoms.specs.Atoms.{has_sort, is_atom}
use Rattle.spv_atoms.specs.Forms.{constant_values}
use Rattle.spv_atoms.specs.Tables.{or_else, computed, all_truths}
use Rattle.spv_atoms.proofs.Members.{has}
use Rattle.spv_tableau_rules.proofs.pivots.Algebra.{false_of}
use Rattle.spv_proof_rules.specs.Stand.{question}
use Rattle.spv_derivations.specs.derivation.Derived.{is_number, is_truth}
use Rattle.spv_congruence.specs.Graph.{are_same}
use Rattle.spv_congruence.specs.Keep.{IsNode}
use Rattle.spv_simplex.specs.State.{kept_point}
use Rattle.spv_tableau_rules.specs.constraints.Values.{part_value}
use Rattle.spv_table.specs.Values.{truth_value}
use Rattle.spv_models.specs.leaf_models.Leaves.{Leaf, IsLeaf, truth_term, truth_at, worth_at}
use Rattle.spv_models.specs.leaf_models.Labels.{HasId}
use Rattle.spv_models.specs.leaf_models.Subterms.{subterms, is_listed, means}
use Rattle.spv_models.specs.leaf_models.Tables.{formulas_of, table, truth_number}
use Rattle.spv_models.proofs.leaf_models.Owns.{own-plain, own-open}
use Rattle.spv_models.proofs.leaf_models.TermKinds.{kind}
use Rattle.spv_models.proofs.leaf_models.Values.{atom-there, atom-asked, atom-given, plain-atom, the_sort, IsSome}
use Rattle.spv_models.specs.split_trees.Paths.{atoms, facts, questions, Gives, MeetsKnown}
use Rattle.spv_models.specs.split_trees.Shown.{IsEqualAt, ShowsLive}
use Rattle.spv_models.proofs.split_trees.Finishing.{gives-least}
use Rattle.spv_share.specs.declared.both.Both.{Both}
use Rattle.spv_share.proofs.combination_laws.Exact.{node_listed}
use Rattle.spv_share.proofs.combination_laws.Graphs.{have_one_value}
use Rattle.spv_branch_theory.specs.model_construction.Laws.{IsOne, IsOther, IsLeafOf, IsTableOfLeaf}
use Rattle.spv_branch_theory.specs.consistency.States.{same_in}
use Rattle.spv_branch_theory.proofs.consistency.Meeting.{meets_known}
use Rattle.spv_branch_theory.proofs.consistency.Sameness.{joined_same, same_joined, same_is, tree_label, IsSame, one, labelled}
use Rattle.spv_branch_theory.proofs.consistency.Showing.{open_shows}
use Rattle.spv_branch_theory.specs.saturation.Filled.{on_questions, shown_leaf}
use Rattle.spv_branch_theory.specs.saturation.States.{IsFullState, AreListed, IsTableOf}
use Rattle.spv_branch_theory.proofs.saturation.Filling.{filled_leaf, truth_same}
use Rattle.spv_branch_theory.proofs.saturation.Nodes.{not_true, id_there, id_inside, one_listed, other_unlisted, listed_nodes}
use Rattle.spv_branch_theory.proofs.saturation.Points.{part_is}
use Rattle.spv_branch_theory.proofs.saturation.Sorts.{one_sort, unlisted_sort}

both_ways : (x y : Bool) → (x ≡ true → y ≡ true) → (y ≡ true → x ≡ true) → x ≡ y
both_ways true y f g = sym (f refl)
both_ways false true f g = g refl
both_ways false false f g = refl

module _ (a : Arena) (c : Condition) (b : Both) (cases : List Term) (value : Term → Option Bool) (s : IsFullState a c b cases value) where
  abbrev pub given : Term → Option Bool
  given = on_questions (question a c) value

  -- what shows the path live, with the kept point
  shown_by : ShowsLive (question a c) (facts (question a c) cases) (same_in a b)
  shown_by = open_shows a c b cases value s.opened

  gives : (t : Term) (d : Bool) → Gives (question a c) (facts (question a c) cases) t d → value t ≡ Some d
  gives t d g = gives-least (question a c) (facts (question a c) cases) value s.opened.finished t d g

  meets_here : MeetsKnown (question a c) (facts (question a c) cases) (part_value a b.standing.tableau.forms (kept_point b.standing.tableau))
  meets_here =
      meets_known a s.opened.ok b s.opened.both s.opened.agree c s.opened.of_atoms (kept_point b.standing.tableau) s.opened.tableau.solution s.opened.agree.point (facts (question a c) cases) value s.opened.answered
      s.opened.known gives

  id_node : (t : Term) (k : HasId a b.trail.graph.added t) → IsNode b.trail.graph.nodes k.id
  id_node t k = node_listed a s.opened.ok b.trail.graph s.opened.both.sound.trail.of s.opened.exact s.opened.terms_are k.id k.listed

  equal_here : IsEqualAt (question a c) (same_in a b) (part_value a b.standing.tableau.forms (kept_point b.standing.tableau))
  equal_here = λ x y m n e. by_same x y m (same_is a s.opened.ok b s.opened.both s.opened.exact s.opened.terms_are x y e)
    where
      by_same : (x y : Term) → is_number a x ≡ true → IsSame a s.opened.ok b s.opened.both s.opened.exact s.opened.terms_are x y
          → worth_at (part_value a b.standing.tableau.forms (kept_point b.standing.tableau)) x ≡ worth_at (part_value a b.standing.tableau.forms (kept_point b.standing.tableau)) y
      by_same x y m (one e) = ap (worth_at (part_value a b.standing.tableau.forms (kept_point b.standing.tableau))) e
      by_same x y m (labelled p q e) =
          let same : are_same b.trail.graph p.id q.id ≡ true =
          ap₂ nat_eq (sym (tree_label a s.opened.ok b s.opened.both s.opened.exact s.opened.terms_are x p)) (sym (tree_label a s.opened.ok b s.opened.both s.opened.exact s.opened.terms_are y q)) ∙ e in
          ap (worth_at (part_value a b.standing.tableau.forms (kept_point b.standing.tableau))) (sym p.is)
          ∙ (have_one_value a s.opened.ok b s.opened.both s.opened.agree s.opened.exact s.opened.terms_are s.opened.enough (kept_point b.standing.tableau) s.opened.tableau.solution s.opened.agree.point p.id q.id (id_node x p) (id_node y q)
          (ap (is_number a) p.is ∙ m) same
          ∙ ap (worth_at (part_value a b.standing.tableau.forms (kept_point b.standing.tableau))) q.is)

  pub shows : ShowsLive (question a c) (facts (question a c) cases) (same_in a b)
  shows = record {
    sameness = shown_by.sameness;
    told = shown_by.told;
    orders = shown_by.orders;
    value = shown_by.value;
    covers = shown_by.covers;
    agree = shown_by.agree;
    apart = shown_by.apart;
    numerals = shown_by.numerals;
    truths = shown_by.truths;
    point = part_value a b.standing.tableau.forms (kept_point b.standing.tableau);
    meets = meets_here;
    equal = equal_here;
  }

  abbrev pub leaf : Leaf
  leaf = shown_leaf (question a c) (facts (question a c) cases) (same_in a b) shows (on_questions (question a c) value)

  -- its numbers are those of the kept point
  pub leaf_point : (u : Term) → shows.point u ≡ part_value a b.standing.tableau.forms (kept_point b.standing.tableau) u
  unfolding shows
  leaf_point u = refl

  pub is_leaf : IsLeaf a.shapes a.decls (formulas_of (question a c).sequent) leaf
  is_leaf = filled_leaf (question a c) (facts (question a c) cases) (same_in a b) shows given s.filled s.opened.formulas

  -- two added ids are the same exactly where their trees are
  same_ids : (x y : TermId) → IsNode b.trail.graph.nodes x → IsNode b.trail.graph.nodes y → same_in a b (tree a x) (tree a y) ≡ are_same b.trail.graph x y
  same_ids x y m n =
      both_ways (same_in a b (tree a x) (tree a y)) (are_same b.trail.graph x y)
      (same_joined a s.opened.ok b s.opened.both s.opened.exact s.opened.terms_are x y m n) (joined_same a s.opened.ok b s.opened.both s.opened.exact s.opened.terms_are x y m n)

  -- ---- truths

  -- a listed term of sort Bool is an atom
  listed_atom : (t : Term) → is_truth a t ≡ true → is_listed t ≡ true → is_atom (is_truth a) t ≡ true
  listed_atom (term h ts) k e =
      let own : means h (constant_values ts) ≡ false = not_true (means h (constant_values ts)) e in
      plain-atom a.shapes a.decls (formulas_of (question a c).sequent) leaf is_leaf h ts k (own-plain h (constant_values ts) (all_truths (is_truth a) ts) own) (own-open h (constant_values ts) own)

  -- what is the same as a truth value is the same as TRUE exactly where that is it
  joined_truth : (x : TermId) → IsNode b.trail.graph.nodes x → (d : Bool) → same_in a b (tree a x) (truth_term d) ≡ true → are_same b.trail.graph x b.trail.truth ≡ d
  joined_truth x n d e = sym (same_ids x b.trail.truth n s.opened.both.sound.trail.truth_node) ∙ (ap (same_in a b (tree a x)) s.opened.both.sound.trail.truth.is ∙ by_truth d e)
    where
      by_truth : (d : Bool) → same_in a b (tree a x) (truth_term d) ≡ true → same_in a b (tree a x) (truth_term true) ≡ d
      by_truth true f = f
      by_truth false f =
          false_of (same_in a b (tree a x) (truth_term true))
          (λ g. false≢true (sym shows.truths ∙ shows.sameness.through (truth_term true) (tree a x) (truth_term false) (shows.sameness.turned (tree a x) (truth_term true) g) f))

  module _ (ids : List TermId) (flags : List Bool) (are : AreListed a c ids flags) where
    node_of : (t : TermId) → IsOne ids flags t → IsNode b.trail.graph.nodes t
    node_of t listed = (listed_nodes a c b cases value s.opened ids flags are).each listed.place t listed.there listed.flagged

    subterm_of : (t : TermId) → IsOne ids flags t → has (subterms (formulas_of (question a c).sequent)) (tree a t) ≡ true
    subterm_of t listed = id_there a c ids flags are listed.place t listed.there

    truth_is : (t : TermId) → IsOne ids flags t → is_truth a (tree a t) ≡ true → truth_number (truth_at (is_truth a) given (tree a t)) ≡ truth_value (are_same b.trail.graph t b.trail.truth)
    truth_is t listed k =
        let fs = formulas_of (question a c).sequent in
        let among : has (atoms (question a c)) (tree a t) ≡ true = atom-there a.shapes a.decls fs leaf is_leaf (tree a t) (subterm_of t listed) (listed_atom (tree a t) k (one_listed a c ids flags are t listed)) in
        let asked : has (questions (question a c)) (tree a t) ≡ true = atom-asked a.shapes a.decls fs leaf is_leaf (tree a t) among in
        let d = atom-given a.shapes a.decls fs leaf is_leaf (tree a t) among in
        let same : same_in a b (tree a t) (truth_term d.item) ≡ true =
        truth_same (question a c) (facts (question a c) cases) (same_in a b) shows given s.filled (tree a t) d.item asked (s.filled.known (tree a t) d.item d.is) in
        ap (λ o. truth_number (or_else o (computed (is_truth a) given (tree a t)))) d.is ∙ ap truth_value (sym (joined_truth t (node_of t listed) d.item same))

    -- ---- other sorts

    other_apart : (x t : TermId) → IsOther ids flags x → IsOne ids flags t → is_number a (tree a t) ≡ false → is_truth a (tree a t) ≡ false → same_in a b (tree a x) (tree a t) ≡ false
    other_apart x t other listed n k = false_of (same_in a b (tree a x) (tree a t)) (λ e. by_sort (unlisted_sort a.shapes a.decls (tree a x) sort_x.item (kind a.shapes a.decls (tree a x) sort_x.item sort_x.is) (other_unlisted a c ids flags are x other)) e)
      where
        sort_x : IsSome (term_sort a.shapes a.decls (tree a x))
        sort_x = the_sort a.shapes a.decls (formulas_of (question a c).sequent) leaf is_leaf (tree a x) (id_there a c ids flags are other.place x other.there)

        same_sort : same_in a b (tree a x) (tree a t) ≡ true → term_sort a.shapes a.decls (tree a t) ≡ Some sort_x.item
        same_sort e = sym (one_sort a s.opened.ok b s.opened.both s.opened.exact s.opened.terms_are (tree a x) (tree a t) e) ∙ sort_x.is

        by_sort : (sort_x.item ≡ sort.Int) ⊎ (sort_x.item ≡ sort.Bool) → same_in a b (tree a x) (tree a t) ≡ true → ⊥
        by_sort (inl f) e = false≢true (sym n ∙ ap (has_sort sort.Int) (same_sort e ∙ ap Some f))
        by_sort (inr f) e = false≢true (sym k ∙ ap (has_sort sort.Bool) (same_sort e ∙ ap Some f))

    pub leaf_of_state : IsLeafOf a b ids flags leaf
    leaf_of_state = record {
      numbers = λ t listed k. leaf_point (tree a t) ∙ part_is a s.opened.ok t (id_inside a c ids flags are listed.place t listed.there) b.standing.tableau s.opened.both.sound.inside;
      truths = truth_is;
      classes = λ x y listed more. same_ids x y (node_of x listed) (node_of y more);
      others = other_apart;
    }

abbrev pub leaf_in : (a : Arena) (c : Condition) (b : Both) (cases : List Term) (value : Term → Option Bool) → IsFullState a c b cases value → Leaf
leaf_in a c b cases value s = shown_leaf (question a c) (facts (question a c) cases) (same_in a b) (shows a c b cases value s) (on_questions (question a c) value)

-- the table of a full state is that of its leaf
pub table_in : IsTableOfLeaf → (a : Arena) (c : Condition) (b : Both) (cases : List Term) (value : Term → Option Bool) (values : List (TermId × Fraction)) → (h : IsTableOf a c b cases value values)
    → map (λ (p : TermId × Fraction). (tree a p.0, p.1)) values ≡ table a.shapes a.decls (formulas_of (question a c).sequent) (leaf_in a c b cases value h.state)
table_in tables a c b cases value values h =
    tables a b (formulas_of (question a c).sequent) h.ids h.flags (leaf_in a c b cases value h.state) values h.listed.subterms (leaf_of_state a c b cases value h.state h.ids h.flags h.listed) h.table
