-- Terms that a graph joins have one value where a tableau agrees with it.
use Rattle.std.proofs.Common.{◌≡◌, ℕ, ◌<◌, Bool, true, false, ◌&&◌, ◌||◌, List, [], ◌∷◌, ◌++◌, map, take, length, nat_eq, pos, refl, sym, ap, ◌∙◌, subst, Option, Some, None, inl, inr}
use mathlib.Core.Path.{ap₂}
use Rattle.std.specs.Prelude.{slice_get, ◌⊎◌}
use Rattle.std.specs.Option.{option_map}
use Rattle.std.specs.Cmp.Derive.{both_true}
use Rattle.std.proofs.lemmas.Bool.{false≢true}
use Rattle.std.proofs.lemmas.Option.{slice_get-map}
use Rattle.spv_frac.specs.rational.Rational.{Rational}
use Rattle.spv_logic.specs.declared.types.Sort.{Sort}
use Rattle.spv_logic.specs.declared.types.Sort.TheVariants as sort
use Rattle.spv_logic.specs.declared.conditions.TermId.{TermId}
use Rattle.spv_logic.specs.declared.operators.Head.{Head}
use Rattle.spv_logic.specs.declared.operators.Head.TheVariants.{Eq}
use Rattle.spv_logic.specs.Sorts.{result_sort, sorts_eq, term_sort, term_sorts}
use Rattle.spv_logic.specs.Terms.{head_eq, Term, Terms, term, terms, no_terms}
use Rattle.spv_logic.proofs.Equality.{head_eq-refl, sort_eq-refl}
use Rattle.spv_term.specs.Arena.{Arena, IsArena, sort_at, tree}
use Rattle.spv_term.proofs.ArenaLemmas.{HasOneId-arena, IsWellSorted-arena}
use Rattle.spv_atoms.specs.Linear.{IdForm}
use Rattle.spv_union_find.proofs.classes.Lists.{nat_same}
use Rattle.spv_tableau_rules.proofs.pivots.Sums.{eq_is}
use Rattle.spv_tableau_rules.proofs.pivots.Tests.{and_left, and_right}
use Rattle.spv_tableau_rules.specs.tableaux.Rows.{Point, IsSolution}
use Rattle.spv_tableau_rules.specs.tableaux.Bounds.{Bound, limits, Meets}
use Rattle.spv_proof_rules.specs.Sums.{difference}
use Rattle.spv_tableau_rules.specs.declared.constraints.saying.RowConstraint.TheVariants.{Equal}
use Rattle.spv_tableau_rules.specs.constraints.Values.{part_value}
use Rattle.spv_tableau_rules.proofs.constraints.Standing.{equal_where_true, true_where_standing}
use Rattle.spv_term.specs.closure.Joined.{AllJoined, congruent, IsAmong, Joined}
use Rattle.spv_term.specs.closure.Joined as joined
use Rattle.spv_congruence.specs.declared.facts.Fact.{Fact}
use Rattle.spv_congruence.specs.Graph.{are_same, AreTerms, id, IsFact, label_of}
use Rattle.spv_congruence.specs.Keep.{IsNode}
use Rattle.spv_congruence.specs.Told.{IsAdded, IsExact, IsTold}
use Rattle.spv_derivations.specs.derivation.Derived.{is_number, is_truth}
use Rattle.spv_explanations.specs.congruence_side.Telling.{equation_sides, Tie, tie_of, ties}
use Rattle.spv_derivations.specs.derivation.Sides.{Pair}
use Rattle.std.proofs.lemmas.Option.{slice_get_within}
use Rattle.spv_tableau_rules.specs.constraints.Relations.{number_sides}
use Rattle.spv_atoms.specs.Atoms.{has_sort}
use Rattle.spv_explanations.proofs.congruence_side.Ties.{has-sides, sides-node, sides-tree}
use Rattle.spv_simplex.specs.State.{IsTableau, kept_point, rows_in}
use Rattle.spv_arithmetic_side.proofs.constraint_rows.Forms.{form_at}
use Rattle.spv_models.specs.leaf_models.Atoms.{are_comparable, same_sorts}
use Rattle.spv_models.specs.leaf_models.Labels.{HasId, label_in, same_labels}
use Rattle.spv_models.specs.leaf_models.Leaves.{worth_at}
use Rattle.spv_models.specs.leaf_models.Subterms.{is_among, is_listed}
use Rattle.spv_models.proofs.leaf_models.Labels.{label-tree}
use Rattle.spv_models.proofs.leaf_models.TermKinds.{head_parts, kind}
use Rattle.spv_models.proofs.leaf_models.Values.{sort_known}
use Rattle.spv_share.specs.declared.both.Both.{Both}
use Rattle.spv_share.specs.declared.relations.Related.{Related}
use Rattle.spv_share.specs.Both.{IsBoth, IsReason, of_literal, of_relation, of_truths, told}
use Rattle.spv_share.specs.Relations.{IsRelation}
use Rattle.spv_share.specs.States.{is_equality, is_joined, IsOpen}
use Rattle.spv_share.proofs.Rowed.{row_at, row_inside}
use Rattle.spv_share.proofs.Seeking.{numbers_are}
use Rattle.spv_share.specs.combination_laws.Laws.{HaveOneValue, HaveOneValueApart, LabelsAreExact, SameHaveOneValue}
use Rattle.spv_share.specs.combination_laws.Pairs.{AreEnough, HasEquality, told_by}
use Rattle.spv_share.proofs.combination_laws.Exact.{derived_same, inside, labels_exact, node_listed, same_derived}
use Rattle.spv_share.proofs.combination_laws.OneValue.{all_sorts_same, one_value, sides_sorts}

not_both : sort.Int ≡ sort.Bool → ⊥
not_both e = cc

one_sort : (r s : Sort) → Some r ≡ Some s → r ≡ s
one_sort r s e = cc

list_same : (ss : List Sort) → sorts_eq ss ss ≡ true
list_same [] = refl
list_same (s ∷ ss) = both_true (sort_eq-refl s) (list_same ss)

module _ (a : Arena) (ok : IsArena a) (b : Both) (h : IsBoth a b) (agree : IsOpen b) (exact : IsExact b.trail.graph) (terms_are : AreTerms b.trail.graph.nodes b.trail.graph.added) (enough : AreEnough a b)
    (v : Point) (solution : IsSolution (rows_in b.standing.tableau) v) (meets : Meets (limits (rows_in b.standing.tableau) b.standing.tableau.bounds) v) where
  abbrev w : Term → Rational
  w = part_value a b.standing.tableau.forms v

  of_arena : (t : TermId) → IsNode b.trail.graph.nodes t → t.0 < length a.nodes
  of_arena t n = inside a ok b.trail.graph h.sound.trail.of exact terms_are t n

  -- ---- an equality that stands

  joined_worth : (row : ℕ) (r : Related) → slice_get b.relations.items row ≡ Some r → r.head ≡ Eq → are_same b.trail.graph r.left r.right ≡ true → worth_at w (tree a r.left) ≡ worth_at w (tree a r.right)
  joined_worth row r at head same =
      let inside_rows = row_inside a b.trail.graph.nodes b.relations.items b.standing.tableau.forms h.sound.related row r at in
      let form = form_at b.standing.tableau.forms row inside_rows in
      let equal : is_joined b r ≡ true = both_true (ap is_equality head) same in
      let stands = agree.joined.each row r at equal in
      let true_there =
      true_where_standing a ok b.standing.tableau.forms h.sound.inside b.standing.tableau.bounds v solution meets row form.0 form.1 (tree a r.left) (tree a r.right)
      (row_at a b.relations.items b.standing.tableau.forms h.sound.related.rows row r form.0 at form.1) Equal (record { form = difference (tree a r.left) (tree a r.right) (pos 0); is_equal = true }) refl
      (λ j bound there. stands.each form.0 form.1 j bound there) in
      equal_where_true w (tree a r.left) (tree a r.right) true_there

  turned_same : (s t : TermId) → are_same b.trail.graph s t ≡ true → are_same b.trail.graph t s ≡ true
  turned_same s t e =
      let same : label_of b.trail.graph.joins s ≡ label_of b.trail.graph.joins t = eq_is (label_of b.trail.graph.joins s) (label_of b.trail.graph.joins t) e in
      ap (λ n. nat_eq n (label_of b.trail.graph.joins s)) (sym same) ∙ nat_same (label_of b.trail.graph.joins s)

  equality_worth : (s t : TermId) → IsNode b.trail.graph.nodes s → IsNode b.trail.graph.nodes t → HasEquality a b.relations.items (tree a s) (tree a t) → are_same b.trail.graph s t ≡ true → worth_at w (tree a s) ≡ worth_at w (tree a t)
  equality_worth s t ns nt e same = by_sides e.sides
    where
      rel : IsRelation a b.trail.graph.nodes e.relation
      rel = h.sound.related.are.each e.row e.relation e.there

      by_sides : ((tree a e.relation.left ≡ tree a s) × (tree a e.relation.right ≡ tree a t)) ⊎ ((tree a e.relation.left ≡ tree a t) × (tree a e.relation.right ≡ tree a s)) → worth_at w (tree a s) ≡ worth_at w (tree a t)
      by_sides (inl k) =
          let left : e.relation.left ≡ s = HasOneId-arena a ok e.relation.left s rel.left_in (of_arena s ns) k.0 in
          let right : e.relation.right ≡ t = HasOneId-arena a ok e.relation.right t rel.right_in (of_arena t nt) k.1 in
          ap (worth_at w) (sym k.0)
          ∙ (joined_worth e.row e.relation e.there e.equality (ap₂ (are_same b.trail.graph) left right ∙ same) ∙ ap (worth_at w) k.1)
      by_sides (inr k) =
          let left : e.relation.left ≡ t = HasOneId-arena a ok e.relation.left t rel.left_in (of_arena t nt) k.0 in
          let right : e.relation.right ≡ s = HasOneId-arena a ok e.relation.right s rel.right_in (of_arena s ns) k.1 in
          ap (worth_at w) (sym k.1)
          ∙ (sym (joined_worth e.row e.relation e.there e.equality (ap₂ (are_same b.trail.graph) left right ∙ turned_same s t same)) ∙ ap (worth_at w) k.0)

  -- ---- what was told

  numbers_of : (r : Related) (row : ℕ) → slice_get b.relations.items row ≡ Some r → (is_number a (tree a r.left) && is_number a (tree a r.right)) ≡ true
  numbers_of r row at =
      let rel = h.sound.related.are.each row r at in
      numbers_are (is_number a) r.head (tree a r.left) (tree a r.right) _ (ap (λ t. number_sides (is_number a) t) (sym rel.is) ∙ rel.sides)

  sort_of : (s : Sort) (t : Term) → has_sort s (term_sort a.shapes a.decls t) ≡ true → term_sort a.shapes a.decls t ≡ Some s
  sort_of s t e = sort_known s (term_sort a.shapes a.decls t) e

  no_truth : (t : Term) → is_number a t ≡ true → is_truth a t ≡ true → ⊥
  no_truth t n k = not_both (one_sort sort.Int sort.Bool (sym (sort_of sort.Int t n) ∙ sort_of sort.Bool t k))

  in_nodes : (l : TermId) (st : Pair) → equation_sides a l ≡ Some st → l.0 < length a.nodes
  in_nodes l st e = let sides = has-sides a l st (sides-node a l st e) in slice_get_within a.nodes l.0 sides.node sides.at

  reason_sorts : (x : Tie) → IsReason a b.relations.items (told b) x → term_sort a.shapes a.decls (tree a x.left) ≡ term_sort a.shapes a.decls (tree a x.right)
  reason_sorts x (of_truths l r) = sort_of sort.Bool (tree a x.left) l ∙ sym (sort_of sort.Bool (tree a x.right) r)
  reason_sorts x (of_literal place l st at part sides left right) =
      let tree_is = sides-tree a ok l.atom st (sides-node a l.atom st sides) in
      let sorted : term_sort a.shapes a.decls (tree a l.atom) ≡ Some (sort_at a l.atom) = IsWellSorted-arena a ok l.atom (in_nodes l.atom st sides) in
      ap (λ u. term_sort a.shapes a.decls (tree a u)) (sym left)
      ∙ (sides_sorts a.shapes a.decls (tree a l.atom) (sort_at a l.atom) (kind a.shapes a.decls (tree a l.atom) (sort_at a l.atom) sorted) (tree a st.0) (tree a st.1) tree_is
      ∙ ap (λ u. term_sort a.shapes a.decls (tree a u)) right)
  reason_sorts x (of_relation row r at head left right) =
      let both_numbers = numbers_of r row at in
      ap (λ u. term_sort a.shapes a.decls (tree a u)) (sym left)
      ∙ (sort_of sort.Int (tree a r.left) (and_left (is_number a (tree a r.left)) (is_number a (tree a r.right)) both_numbers)
      ∙ (sym (sort_of sort.Int (tree a r.right) (and_right (is_number a (tree a r.left)) (is_number a (tree a r.right)) both_numbers)) ∙ ap (λ u. term_sort a.shapes a.decls (tree a u)) right))

  reason_worth : (x : Tie) → IsReason a b.relations.items (told b) x → IsNode b.trail.graph.nodes x.left → IsNode b.trail.graph.nodes x.right → are_same b.trail.graph x.left x.right ≡ true → is_number a (tree a x.left) ≡ true
      → worth_at w (tree a x.left) ≡ worth_at w (tree a x.right)
  reason_worth x (of_truths l r) nl nr same n = absurd (no_truth (tree a x.left) n l)
  reason_worth x (of_literal place l st at part sides left right) nl nr same n =
      let there = enough.equations place l st at part sides (ap (λ u. is_number a (tree a u)) left ∙ n) in
      equality_worth x.left x.right nl nr
      (subst (λ (u : TermId). HasEquality a b.relations.items (tree a u) (tree a x.right)) left (subst (λ (u : TermId). HasEquality a b.relations.items (tree a st.0) (tree a u)) right there)) same
  reason_worth x (of_relation row r at head left right) nl nr same n =
      equality_worth x.left x.right nl nr (record { row = row; relation = r; there = at; equality = head; sides = inl (ap (tree a) left, ap (tree a) right) }) same

  reason_at : (place : ℕ) (x : Fact) → slice_get b.trail.graph.told place ≡ Some x → x.equal ≡ true → IsReason a b.relations.items (told b) (tie_of x)
  reason_at place x at e = h.reasons.each place (tie_of x) (slice_get-map tie_of b.trail.graph.told place ∙ ap (option_map tie_of) at) e

  abbrev Told : Term → Term → Type 0
  Told s t = joined.IsTold a (IsTold b.trail.graph) s t

  keeps : (s t : Term) → joined.IsTold a (IsTold b.trail.graph) s t → term_sort a.shapes a.decls s ≡ term_sort a.shapes a.decls t
  keeps s t k =
      let f : IsFact b.trail.graph.told k.told.0 k.left k.right = k.told.1 in
      ap (term_sort a.shapes a.decls) (sym k.left_is) ∙ (ap (λ u. term_sort a.shapes a.decls (tree a u)) (sym f.left)
      ∙ (reason_sorts (tie_of f.fact) (reason_at k.told.0 f.fact f.there f.equal) ∙ (ap (λ u. term_sort a.shapes a.decls (tree a u)) f.right ∙ ap (term_sort a.shapes a.decls) k.right_is)))

  told_equal : (s t : Term) → joined.IsTold a (IsTold b.trail.graph) s t → is_number a s ≡ true → worth_at w s ≡ worth_at w t
  told_equal s t k n =
      let f : IsFact b.trail.graph.told k.told.0 k.left k.right = k.told.1 in
      let nodes = h.sound.trail.ends.each k.told.0 f.fact f.there in
      let left : tree a f.fact.left ≡ s = ap (tree a) f.left ∙ k.left_is in
      let right : tree a f.fact.right ≡ t = ap (tree a) f.right ∙ k.right_is in
      let same =
      derived_same a ok b.trail.graph h.sound.trail.of exact terms_are f.fact.left f.fact.right nodes.0 nodes.1
      (joined.told (tree a f.fact.left) (tree a f.fact.right) (record { left = f.fact.left; right = f.fact.right; told = (k.told.0, record { fact = f.fact; there = f.there; equal = f.equal; left = refl; right = refl }); left_is = refl; right_is = refl })) in
      ap (worth_at w) (sym left)
      ∙ (reason_worth (tie_of f.fact) (reason_at k.told.0 f.fact f.there f.equal) nodes.0 nodes.1 same (ap (is_number a) left ∙ n) ∙ ap (worth_at w) right)

  -- ---- two applications

  comparable : (q : Head) (ss us : Terms) → AllJoined (IsAmong a (IsAdded b.trail.graph)) (joined.IsTold a (IsTold b.trail.graph)) ss us → is_number a (term q ss) ≡ true → (is_listed (term q ss) || is_listed (term q us)) ≡ true
      → are_comparable a.shapes a.decls (term q ss) (term q us) ≡ true
  comparable q ss us all n listed =
      let p = head_parts (term_sorts a.shapes a.decls ss) (result_sort a.shapes a.decls q) sort.Int (sort_of sort.Int (term q ss) n) in
      let sorts : term_sorts a.shapes a.decls ss ≡ term_sorts a.shapes a.decls us = all_sorts_same a.shapes a.decls w (IsAmong a (IsAdded b.trail.graph)) (joined.IsTold a (IsTold b.trail.graph)) keeps ss us all in
      both_true (head_eq-refl q) (both_true (ap₂ same_sorts p.sorts_are (sym sorts ∙ p.sorts_are) ∙ list_same p.sorts) listed)

  pair_equal : (q : Head) (ss us : Terms) → IsAmong a (IsAdded b.trail.graph) (term q ss) → IsAmong a (IsAdded b.trail.graph) (term q us) → AllJoined (IsAmong a (IsAdded b.trail.graph)) (joined.IsTold a (IsTold b.trail.graph)) ss us
      → is_number a (term q ss) ≡ true → (is_listed (term q ss) || is_listed (term q us)) ≡ true → worth_at w (term q ss) ≡ worth_at w (term q us)
  pair_equal q ss us i j all n listed = by_id (nat_eq i.id.0 j.id.0) refl
    where
      node_i : IsNode b.trail.graph.nodes i.id
      node_i = node_listed a ok b.trail.graph h.sound.trail.of exact terms_are i.id i.added

      node_j : IsNode b.trail.graph.nodes j.id
      node_j = node_listed a ok b.trail.graph h.sound.trail.of exact terms_are j.id j.added

      derived : Joined (IsAmong a (IsAdded b.trail.graph)) (joined.IsTold a (IsTold b.trail.graph)) (tree a i.id) (tree a j.id)
      derived =
          subst (λ (x : Term). Joined (IsAmong a (IsAdded b.trail.graph)) (joined.IsTold a (IsTold b.trail.graph)) x (tree a j.id)) (sym i.is)
          (subst (λ (y : Term). Joined (IsAmong a (IsAdded b.trail.graph)) (joined.IsTold a (IsTold b.trail.graph)) (term q ss) y) (sym j.is) (congruent q ss us i j all))

      by_id : (c : Bool) → nat_eq i.id.0 j.id.0 ≡ c → worth_at w (term q ss) ≡ worth_at w (term q us)
      by_id true e =
          let one : i.id.0 ≡ j.id.0 = eq_is i.id.0 j.id.0 e in
          let trees_same : tree a i.id ≡ tree a j.id = ap (λ n. tree a (id n)) one in
          ap (worth_at w) (sym i.is ∙ (trees_same ∙ j.is))
      by_id false e =
          let same = derived_same a ok b.trail.graph h.sound.trail.of exact terms_are i.id j.id node_i node_j derived in
          let there =
          enough.pairs i.id j.id node_i node_j e (ap (is_number a) i.is ∙ n) (ap₂ (are_comparable a.shapes a.decls) i.is j.is ∙ comparable q ss us all n listed) in
          ap (worth_at w) (sym i.is) ∙ (equality_worth i.id j.id node_i node_j there same ∙ ap (worth_at w) j.is)

  -- ---- all terms

  pub values_equal : (s t : TermId) → IsNode b.trail.graph.nodes s → IsNode b.trail.graph.nodes t → is_number a (tree a s) ≡ true → are_same b.trail.graph s t ≡ true → worth_at w (tree a s) ≡ worth_at w (tree a t)
  values_equal s t ns nt n same =
      one_value a.shapes a.decls w (IsAmong a (IsAdded b.trail.graph)) (joined.IsTold a (IsTold b.trail.graph)) keeps told_equal pair_equal (tree a s) (tree a t)
      (same_derived a ok b.trail.graph h.sound.trail.of exact terms_are s t ns nt same) n

pub have_one_value : (a : Arena) → IsArena a → (b : Both) → IsBoth a b → IsOpen b → IsExact b.trail.graph → AreTerms b.trail.graph.nodes b.trail.graph.added → AreEnough a b → HaveOneValue a b
have_one_value a ok b h agree exact terms_are enough = λ v solution meets s t ns nt n same. values_equal a ok b h agree exact terms_are enough v solution meets s t ns nt n same

pub have_one_value_apart : (a : Arena) → IsArena a → (b : Both) → IsBoth a b → IsOpen b → IsExact b.trail.graph → AreTerms b.trail.graph.nodes b.trail.graph.added → AreEnough a b → HaveOneValueApart a b
have_one_value_apart a ok b h agree exact terms_are enough = λ row x p s t ns nt n same.
    values_equal a ok b h agree exact terms_are enough p.point p.solution p.stand s t ns nt n same

pub exact_labels : (a : Arena) → IsArena a → (b : Both) → IsBoth a b → IsExact b.trail.graph → AreTerms b.trail.graph.nodes b.trail.graph.added → LabelsAreExact a b
exact_labels a ok b h exact terms_are = labels_exact a ok b.trail.graph h.sound.trail.of exact terms_are

pub same_have_one_value : (a : Arena) → IsArena a → (b : Both) → IsBoth a b → IsOpen b → IsExact b.trail.graph → AreTerms b.trail.graph.nodes b.trail.graph.added → IsTableau b.standing.tableau → AreEnough a b → SameHaveOneValue a b
same_have_one_value a ok b h agree exact terms_are kept enough = λ subterms have s t ms mt n m e.
    let p = have s ms in
    let q = have t mt in
    let labels = labels_exact a ok b.trail.graph h.sound.trail.of exact terms_are in
    let first : label_in a (label_of b.trail.graph.joins) b.trail.graph.added s ≡ label_of b.trail.graph.joins p.id =
    ap (label_in a (label_of b.trail.graph.joins) b.trail.graph.added) (sym p.is) ∙ label-tree a ok (label_of b.trail.graph.joins) b.trail.graph.added (λ s t. told_by b.trail.graph.told s t ≡ true) labels p.id p.listed in
    let second : label_in a (label_of b.trail.graph.joins) b.trail.graph.added t ≡ label_of b.trail.graph.joins q.id =
    ap (label_in a (label_of b.trail.graph.joins) b.trail.graph.added) (sym q.is) ∙ label-tree a ok (label_of b.trail.graph.joins) b.trail.graph.added (λ s t. told_by b.trail.graph.told s t ≡ true) labels q.id q.listed in
    let same : are_same b.trail.graph p.id q.id ≡ true = ap₂ nat_eq (sym first) (sym second) ∙ e in
    ap (worth_at (part_value a b.standing.tableau.forms (kept_point b.standing.tableau))) (sym p.is)
    ∙ (values_equal a ok b h agree exact terms_are enough (kept_point b.standing.tableau) kept.solution agree.point p.id q.id (node_listed a ok b.trail.graph h.sound.trail.of exact terms_are p.id p.listed)
    (node_listed a ok b.trail.graph h.sound.trail.of exact terms_are q.id q.listed) (ap (is_number a) p.is ∙ n) same
    ∙ ap (worth_at (part_value a b.standing.tableau.forms (kept_point b.standing.tableau))) q.is)
