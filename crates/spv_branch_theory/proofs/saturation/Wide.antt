-- Where the evaluation of a subterm in the table of a full state meets an operation that is too wide, the search may give up.
use Rattle.std.proofs.Common.{◌≡◌, ℕ, zero, suc, Bool, true, false, cond, ◌&&◌, ◌||◌, List, [], ◌∷◌, ◌++◌, map, length, ℤ, pos, refl, sym, ap, ◌∙◌, subst, Option, Some, None}
use mathlib.Core.Path.{ap₂}
use Rattle.std.specs.Prelude.{slice_get, is_some}
use Rattle.std.proofs.lemmas.Bool.{false≢true}
use Rattle.std.proofs.lemmas.Option.{same_Some}
use Rattle.spv_whole.specs.Fraction.{Fraction, whole}
use Rattle.spv_frac.specs.rational.Rational.{Rational}
use Rattle.spv_logic.specs.declared.conditions.TermId.{TermId}
use Rattle.spv_logic.specs.Terms.{Term, term_eq}
use Rattle.spv_logic.proofs.Equality.{term_eq-true, term_eq-refl}
use Rattle.spv_term.specs.declared.nodes.Condition.{Condition}
use Rattle.spv_term.specs.Arena.{Arena, AllBelow, tree}
use Rattle.spv_atoms.specs.Atoms.{only_if}
use Rattle.spv_atoms.specs.Forms.{form}
use Rattle.spv_atoms.specs.Linear.{IdForm}
use Rattle.spv_atoms.specs.Order.{passing}
use Rattle.spv_atoms.proofs.Members.{has, or_left, or_right, has-left, has-last}
use Rattle.spv_tableau_rules.proofs.pivots.Tests.{and_left, and_right}
use Rattle.spv_proof_rules.specs.Stand.{question}
use Rattle.spv_proof_rules.specs.Sums.{difference}
use Rattle.spv_derivations.specs.derivation.Derived.{is_truth, is_number}
use Rattle.spv_proof.specs.sums.Readings.{number_in}
use Rattle.spv_tableau_rules.specs.tableaux.Bounds.{Bound}
use Rattle.spv_tableau_rules.specs.tableaux.Forms.{part_ids, rows_of}
use Rattle.spv_tableau_rules.specs.tableaux.Walks.{HoldsBounds}
use Rattle.spv_tableau_rules.specs.constraints.Relations.{AreRowsOf, IsRowOf, number_sides, relations, in_front}
use Rattle.spv_tableau_rules.proofs.constraints.Columns.{ids_in, column-in}
use Rattle.spv_dictionary.specs.Dictionary as dictionary
use Rattle.spv_simplex.specs.State.{kept_point}
use Rattle.spv_table.specs.declared.operations.WideValue.{WideValue}
use Rattle.spv_table.specs.Kept.{listed_over}
use Rattle.spv_table.specs.Values.{listed_in}
use Rattle.spv_models.specs.leaf_models.Subterms.{subterms, arguments, is_listed}
use Rattle.spv_models.specs.leaf_models.Tables.{formulas_of, number_at}
use Rattle.spv_models.specs.leaf_models.Leaves.{truth_at}
use Rattle.spv_models.proofs.leaf_models.Closed.{IsClosed}
use Rattle.spv_models.proofs.leaf_models.Covering.{atoms-over}
use Rattle.spv_models.proofs.leaf_models.Lookups.{beside, passing-parts}
use Rattle.spv_models.proofs.leaf_models.Values.{closed, listed-number, number-at}
use Rattle.spv_models.specs.split_trees.Paths.{atoms}
use Rattle.spv_share.specs.declared.both.Both.{Both}
use Rattle.spv_share.specs.declared.relations.Related.{Related}
use Rattle.spv_share.specs.Relations.{sides_in, sayable, is_relation}
use Rattle.spv_share.proofs.Seeking.{numbers_are}
use Rattle.spv_verdicts.specs.Exact.{is_exactly_true}
use Rattle.spv_verdicts.specs.Rows.{head_of, relation_heads, readable, AreRows}
use Rattle.spv_verdicts.specs.Verdicts.{AreAtBasis, HasWideValue}
use Rattle.spv_branch_theory.proofs.saturation.Readings.{heads, heads_are, is_some_relation, readable_sayable}
use Rattle.spv_verdicts.specs.model_check.Surviving.{IsFaultFor}
use Rattle.spv_verdicts.specs.declared.model_check.faults.SurvivingFault.TheVariants as fault
use Rattle.spv_branch_theory.specs.model_construction.Laws.{IsTableOfLeaf}
use Rattle.spv_verdicts.specs.answers.Views.{pairs_in}
use Rattle.spv_branch_theory.specs.saturation.Filled.{on_questions}
use Rattle.spv_branch_theory.specs.saturation.States.{IsTableOf}
use Rattle.spv_branch_theory.proofs.saturation.Columns.{IsNumberIn, form_in, difference_keeps, part_of, not_zero, column_is, column_value, value_nowhere}
use Rattle.spv_branch_theory.proofs.saturation.Exactly.{exact_formula}
use Rattle.spv_branch_theory.proofs.saturation.Full.{is_table, lists_subterms, state_facts, table_same}
use Rattle.spv_branch_theory.proofs.saturation.StateLeaf.{leaf_in, leaf_point, is_leaf}

-- ---- relations of atoms

sides_passing : (test : Term → Bool) (ts : List Term) → relations test ts ≡ relations test (passing (is_some_relation test) ts)
sides_passing test [] = refl
sides_passing test (t ∷ ts) = by_case (number_sides test t) refl (sides_passing test ts)
  where
    by_case : (o : Option (Term × Term)) → number_sides test t ≡ o → relations test ts ≡ relations test (passing (is_some_relation test) ts)
        → in_front o (relations test ts) ≡ relations test (only_if (is_some o) t ++ passing (is_some_relation test) ts)
    by_case None e rest = rest
    by_case (Some st) e rest = ap (λ xs. st ∷ xs) rest ∙ ap (λ o. in_front o (relations test (passing (is_some_relation test) ts))) (sym e)

relations_of : (a : Arena) (rels : List Related) → ((row : ℕ) (r : Related) → slice_get rels row ≡ Some r → number_sides (number_in a) (tree a r.atom) ≡ Some (sides_in a r)) → relations (number_in a) (map (λ r. tree a r.atom) rels) ≡ map (sides_in a) rels
relations_of a [] h = refl
relations_of a (r ∷ rels) h = ap₂ (λ o xs. in_front o xs) (h 0 r refl) (relations_of a rels (λ row q at. h (suc row) q at))

-- the atom of a relation is among those of all
atom_among : (a : Arena) (rels : List Related) (row : ℕ) (r : Related) → slice_get rels row ≡ Some r → has (map (λ (q : Related). tree a q.atom) rels) (tree a r.atom) ≡ true
atom_among a [] row r at = absurd (cc)
atom_among a (q ∷ rels) zero r at =
    or_left (term_eq (tree a r.atom) (tree a q.atom)) (has (map (λ (x : Related). tree a x.atom) rels) (tree a r.atom)) (ap (λ (x : Related). term_eq (tree a r.atom) (tree a x.atom)) (same_Some q r at) ∙ term_eq-refl (tree a r.atom))
atom_among a (q ∷ rels) (suc row) r at = or_right (term_eq (tree a r.atom) (tree a q.atom)) (has (map (λ (x : Related). tree a x.atom) rels) (tree a r.atom)) (atom_among a rels row r at)

-- the relation of a row
record HasRelation (a : Arena) (rels : List Related) (i : ℕ) (f : IdForm) : Type 0 where
  relation : Related
  there : slice_get rels i ≡ Some relation
  row : IsRowOf a (sides_in a relation) f

row_relation : (a : Arena) (rels : List Related) (fs : List IdForm) → AreRowsOf a (map (sides_in a) rels) fs → (i : ℕ) (f : IdForm) → slice_get fs i ≡ Some f → HasRelation a rels i f
row_relation a [] [] rows i f at = absurd (cc)
row_relation a [] (g ∷ fs) rows i f at = absurd rows
row_relation a (r ∷ rels) [] rows i f at = absurd rows
row_relation a (r ∷ rels) (g ∷ fs) rows zero f at = record { relation = r; there = refl; row = subst (λ (x : IdForm). IsRowOf a (sides_in a r) x) (same_Some g f at) rows.0 }
row_relation a (r ∷ rels) (g ∷ fs) rows (suc i) f at = let k = row_relation a rels fs rows.1 i f at in record { relation = k.relation; there = k.there; row = k.row }

-- ---- what is not listed

unlisted : (n : Term → Fraction) (ts : List Term) (u : Term) → has ts u ≡ false → listed_in (beside n ts) u ≡ whole (pos 0)
unlisted n [] u h = refl
unlisted n (t ∷ ts) u h = by_case (term_eq t u) refl (unlisted n ts u (later h))
  where
    later : (term_eq u t || has ts u) ≡ false → has ts u ≡ false
    later = second (term_eq u t) (has ts u)
      where
        second : (b c : Bool) → (b || c) ≡ false → c ≡ false
        second true c e = absurd (false≢true (sym e))
        second false c e = e

    by_case : (b : Bool) → term_eq t u ≡ b → listed_in (beside n ts) u ≡ whole (pos 0) → cond b (n t) (listed_in (beside n ts) u) ≡ whole (pos 0)
    by_case true e rest = absurd (false≢true (sym h ∙ or_left (term_eq u t) (has ts u) (ap (term_eq u) (term_eq-true t u e) ∙ term_eq-refl u)))
    by_case false e rest = rest

module _ (tables : IsTableOfLeaf) (a : Arena) (c : Condition) (b : Both) (cases : List Term) (given : Term → Option Bool) (values : List (TermId × Fraction)) (h : IsTableOf a c b cases given values) where
  abbrev fs : List Term
  fs = formulas_of (question a c).sequent

  closed_here : IsClosed a.shapes a.decls (subterms (formulas_of (question a c).sequent))
  closed_here = closed a.shapes a.decls (formulas_of (question a c).sequent) (leaf_in a c b cases given h.state) (is_leaf a c b cases given h.state)

  abbrev InSubterms : Term → Type 0
  InSubterms t = IsNumberIn a.shapes a.decls (subterms (formulas_of (question a c).sequent)) closed_here t

  -- ---- columns

  atom_there : (row : ℕ) (r : Related) → slice_get b.relations.items row ≡ Some r → has (atoms (question a c)) (tree a r.atom) ≡ true
  atom_there row r at =
      (passing-parts (is_relation a) (atoms (question a c)) (tree a r.atom) (ap (λ ts. has ts (tree a r.atom)) (sym h.state.opened.of_atoms) ∙ atom_among a b.relations.items row r at)).among

  side_there : (row : ℕ) (r : Related) → slice_get b.relations.items row ≡ Some r → (x : Term) → has (tree a r.left ∷ tree a r.right ∷ []) x ≡ true → has (subterms (formulas_of (question a c).sequent)) x ≡ true
  side_there row r at x m =
      let rel = h.state.opened.both.sound.related.are.each row r at in
      atoms-over a.shapes a.decls (formulas_of (question a c).sequent) h.state.opened.formulas (tree a r.atom) x (atom_there row r at) (ap (λ t. has (arguments t) x) rel.is ∙ m)

  sides_number : (row : ℕ) (r : Related) → slice_get b.relations.items row ≡ Some r → (number_in a (tree a r.left) && number_in a (tree a r.right)) ≡ true
  sides_number row r at =
      let rel = h.state.opened.both.sound.related.are.each row r at in
      numbers_are (number_in a) r.head (tree a r.left) (tree a r.right) _ (ap (λ t. number_sides (number_in a) t) (sym rel.is) ∙ rel.sides)

  left_in : (row : ℕ) (r : Related) → slice_get b.relations.items row ≡ Some r → InSubterms (tree a r.left)
  left_in row r at = record {
    among = side_there row r at (tree a r.left) (or_left (term_eq (tree a r.left) (tree a r.left)) _ (term_eq-refl (tree a r.left)));
    number = and_left (number_in a (tree a r.left)) (number_in a (tree a r.right)) (sides_number row r at);
  }

  right_in : (row : ℕ) (r : Related) → slice_get b.relations.items row ≡ Some r → InSubterms (tree a r.right)
  right_in row r at = record {
    among = side_there row r at (tree a r.right)
        (or_right (term_eq (tree a r.right) (tree a r.left)) _ (or_left (term_eq (tree a r.right) (tree a r.right)) false (term_eq-refl (tree a r.right))));
    number = and_right (number_in a (tree a r.left)) (number_in a (tree a r.right)) (sides_number row r at);
  }

  part_in : (i : ℕ) (f : IdForm) (j : ℕ) (p : TermId × ℤ) → slice_get b.standing.tableau.forms i ≡ Some f → slice_get f.parts j ≡ Some p → InSubterms (tree a p.0)
  part_in i f j p at there =
      let k = row_relation a b.relations.items b.standing.tableau.forms h.state.opened.both.sound.related.rows i f at in
      let left = left_in i k.relation k.there in
      let right = right_in i k.relation k.there in
      part_of InSubterms (difference (tree a k.relation.left) (tree a k.relation.right) (pos 0)).parts (tree a p.0)
      (difference_keeps InSubterms (form (tree a k.relation.left)) (form (tree a k.relation.right))
      (form_in a.shapes a.decls (subterms (formulas_of (question a c).sequent)) closed_here (tree a k.relation.left) left)
      (form_in a.shapes a.decls (subterms (formulas_of (question a c).sequent)) closed_here (tree a k.relation.right) right))
      (λ e. not_zero a 0 f.parts (h.state.opened.both.sound.standing.room.kept i f at).parts j p there (k.row.same.parts (tree a p.0) ∙ e))

  column_in : (n : ℕ) (t : TermId) → slice_get (part_ids b.standing.tableau.forms) n ≡ Some t → InSubterms (tree a t)
  column_in = column_is (λ (t : TermId). InSubterms (tree a t)) b.standing.tableau.forms part_in

  -- ---- the numbers of the table

  -- a listed subterm of sort Int has its value at the point
  number_listed : (u : Term) → has (subterms (formulas_of (question a c).sequent)) u ≡ true → is_listed u ≡ true → is_number a u ≡ true → listed_in (pairs_in a values) u ≡ ((leaf_in a c b cases given h.state).point u).fraction
  number_listed u m l n =
      ap (λ ps. listed_in ps u) (table_same tables a c b cases given values h)
      ∙ (listed-number a.shapes a.decls (formulas_of (question a c).sequent) (leaf_in a c b cases given h.state) (is_leaf a c b cases given h.state) u m l
      ∙ number-at a.shapes a.decls (formulas_of (question a c).sequent) (leaf_in a c b cases given h.state) (is_leaf a c b cases given h.state) u n)

  columns_below : AllBelow (length a.nodes) (part_ids b.standing.tableau.forms)
  columns_below = ids_in a b.standing.tableau.forms h.state.opened.both.sound.inside

  column_listed : (n : ℕ) (t : TermId) → slice_get (part_ids b.standing.tableau.forms) n ≡ Some t → is_listed (tree a t) ≡ true → listed_in (pairs_in a values) (tree a t) ≡ (kept_point b.standing.tableau n).fraction
  column_listed n t at l =
      let k = column_in n t at in
      number_listed (tree a t) k.among l k.number
      ∙ ap (λ (x : Rational). x.fraction)
      (leaf_point a c b cases given h.state (tree a t)
      ∙ column_value a h.state.opened.ok b.standing.tableau.forms columns_below n t at (column-in a b.standing.tableau.forms h.state.opened.both.sound.inside n t at) (kept_point b.standing.tableau))

  other_listed : (u : Term) → is_number a u ≡ true → ((n : ℕ) (t : TermId) → slice_get (part_ids b.standing.tableau.forms) n ≡ Some t → tree a t ≡ u → ⊥) → listed_in (pairs_in a values) u ≡ whole (pos 0)
  other_listed u m none = by_case (has (passing is_listed (subterms (formulas_of (question a c).sequent))) u) refl
    where
      by_case : (d : Bool) → has (passing is_listed (subterms (formulas_of (question a c).sequent))) u ≡ d → listed_in (pairs_in a values) u ≡ whole (pos 0)
      by_case true e =
          let k = passing-parts is_listed (subterms (formulas_of (question a c).sequent)) u e in
          number_listed u k.among k.passes m ∙ ap (λ (x : Rational). x.fraction) (leaf_point a c b cases given h.state u ∙ value_nowhere a (part_ids b.standing.tableau.forms) u none (kept_point b.standing.tableau))
      by_case false e =
          ap (λ ps. listed_in ps u) (table_same tables a c b cases given values h)
          ∙ unlisted (number_at a.shapes a.decls (subterms (formulas_of (question a c).sequent)) (leaf_in a c b cases given h.state)) (passing is_listed (subterms (formulas_of (question a c).sequent))) u e

  -- ---- the basis

  rows_are : AreRows a (question a c) b.standing.tableau.forms
  rows_are =
      subst (λ (sides : List (Term × Term)). AreRowsOf a sides b.standing.tableau.forms)
      (sym (relations_of a b.relations.items (λ row r at. (h.state.opened.both.sound.related.are.each row r at).sides))
      ∙ (ap (relations (number_in a)) h.state.opened.of_atoms ∙ sym (sides_passing (number_in a) (atoms (question a c)))))
      h.state.opened.both.sound.related.rows

  heads_same : relation_heads (number_in a) (atoms (question a c)) ≡ heads b.relations.items
  heads_same = heads_are a (atoms (question a c)) b.relations.items (λ row r at. ap head_of (h.state.opened.both.sound.related.are.each row r at).is) h.state.opened.of_atoms

  readable_same : sayable b.relations.items b.standing.tableau.forms ≡ readable 0 (relation_heads (number_in a) (atoms (question a c))) b.standing.tableau.forms
  readable_same = sym (ap (λ hs. readable 0 hs b.standing.tableau.forms) heads_same ∙ readable_sayable 0 b.relations.items b.standing.tableau.forms)

  pub at_basis : AreAtBasis a (question a c) b.standing.tableau.forms (pairs_in a values)
  at_basis = record {
    rows = rows_are;
    places = dictionary.places b.standing.tableau.form;
    entries = dictionary.entries b.standing.tableau.form;
    solved = h.state.opened.tableau.solved;
    point = kept_point b.standing.tableau;
    solution = h.state.opened.tableau.solution;
    held = subst (λ (known : List Bound). HoldsBounds (rows_of b.standing.tableau.forms) known (dictionary.places b.standing.tableau.form) (kept_point b.standing.tableau)) readable_same h.state.opened.both.sound.asserted.held;
    parts = column_listed;
    others = other_listed;
  }

  -- a formula is true by exact numbers where its truth is
  exact_truth : (f : Term) (d : Bool) → has (formulas_of (question a c).sequent) f ≡ true → truth_at (is_truth a) (on_questions (question a c) given) f ≡ Some d → is_exactly_true (listed_in (pairs_in a values)) f ≡ d
  exact_truth f d m e =
      ap (λ ps. is_exactly_true (listed_in ps) f) (table_same tables a c b cases given values h)
      ∙ exact_formula a.shapes a.decls (formulas_of (question a c).sequent) (leaf_in a c b cases given h.state) (is_leaf a c b cases given h.state) f d m e

  pub wide_reached : (t : TermId) (w : WideValue) → IsFaultFor a c (listed_over a values) (fault.Wide t w) → HasWideValue a (question a c) (pairs_in a values) (tree a t) w
  wide_reached t w k = record {
    lists = lists_subterms tables a c b cases given values h;
    is_table = is_table tables a c b cases given values h;
    given_true = λ f m. exact_truth f true (has-left (question a c).sequent.given ((question a c).sequent.goal ∷ []) f m) ((state_facts tables a c b cases given values h).given_true f m);
    goal_false = exact_truth (question a c).sequent.goal false (has-last (question a c).sequent.given (question a c).sequent.goal) (state_facts tables a c b cases given values h).goal_false;
    subterm = k.1;
    stops = k.2;
    forms = b.standing.tableau.forms;
    numbers = at_basis;
  }
