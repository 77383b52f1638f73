-- A point that meets the bounds that stand makes all relations true that are known.
use Rattle.std.proofs.Common.{◌≡◌, ℕ, zero, suc, ◌<◌, Bool, true, false, cond, ◌&&◌, ◌||◌, List, [], ◌∷◌, map, get_or, nat_eq, refl, sym, ap, ◌∙◌, subst, Option, Some, None, inl, inr}
use Rattle.std.specs.Prelude.{slice_get, is_some}
use Rattle.std.proofs.lemmas.Bool.{false≢true}
use Rattle.std.proofs.lemmas.Option.{same_Some, slice_get-get_or, slice_get_within}
use Rattle.spv_frac.specs.rational.Rational.{Rational}
use Rattle.spv_logic.proofs.list.Tests.{left_true, right_true}
use Rattle.spv_logic.specs.declared.conditions.TermId.{TermId}
use Rattle.spv_logic.specs.declared.operators.Head.{Head}
use Rattle.spv_logic.specs.declared.operators.Head.TheVariants.{Eq, Lt, Le, Not}
use Rattle.spv_logic.specs.Formulas.{negation, equation, below}
use Rattle.spv_logic.specs.Terms.{Term, Terms, term, no_terms, terms, term_eq}
use Rattle.spv_term.specs.Arena.{Arena, IsArena, tree}
use Rattle.spv_proof_rules.specs.Sums.{Reading, reading, read_if}
use Rattle.spv_tableau_rules.specs.declared.constraints.saying.RowConstraint.{RowConstraint}
use Rattle.spv_tableau_rules.specs.declared.constraints.saying.RowConstraint.TheVariants.{Equal, Below, AtMost, Above, AtLeast}
use Rattle.spv_tableau_rules.specs.constraints.Sayings.{bounds_of, saying, literal}
use Rattle.spv_tableau_rules.proofs.constraints.Bounding.{bound_is_on}
use Rattle.spv_models.specs.leaf_models.Leaves.{is_met, is_met_by}
use Rattle.spv_logic.proofs.Equality.{term_eq-true}
use Rattle.spv_term.specs.declared.nodes.Condition.{Condition}
use Rattle.spv_term.proofs.ArenaLemmas.{HasOneId-arena}
use Rattle.spv_atoms.specs.Linear.{IdForm}
use Rattle.spv_atoms.specs.Order.{passing}
use Rattle.spv_atoms.proofs.Members.{has, or_cases, or_left, or_right, has-with_terms}
use Rattle.std.specs.Cmp.Derive.{both_true}
use Rattle.spv_union_find.proofs.classes.Lists.{nat_same}
use Rattle.spv_tableau_rules.proofs.pivots.Sums.{eq_is}
use Rattle.spv_congruence.specs.Graph.{id}
use Rattle.spv_derivations.specs.declared.derivation.entries.Part.{Part}
use Rattle.spv_derivations.specs.declared.derivation.entries.Part.TheVariants as part
use Rattle.spv_proof_rules.specs.Stand.{question}
use Rattle.spv_proof.specs.sums.Readings.{number_in}
use Rattle.spv_tableau_rules.specs.tableaux.Rows.{Point, IsSolution}
use Rattle.spv_tableau_rules.specs.tableaux.Bounds.{limits, Meets}
use Rattle.spv_tableau_rules.specs.constraints.Relations.{IsRowOf}
use Rattle.spv_tableau_rules.specs.constraints.Values.{part_value}
use Rattle.spv_arithmetic_side.specs.farkas.Told as told
use Rattle.spv_simplex.specs.State.{rows_in}
use Rattle.spv_atoms.specs.Atoms.{is_truth}
use Rattle.spv_models.specs.leaf_models.Atoms.{is_open}
use Rattle.spv_models.specs.leaf_models.Subterms.{subterms, truth_arguments}
use Rattle.spv_models.specs.leaf_models.Tables.{formulas_of}
use Rattle.spv_models.specs.leaf_models.Laws as points
use Rattle.spv_models.proofs.leaf_models.Lookups.{has-passing}
use Rattle.spv_models.proofs.leaf_models.Points.{literal-met, above-met}
use Rattle.spv_models.specs.split_trees.Paths.{atoms, questions, Known, Gives, member, negated, MeetsKnown}
use Rattle.spv_arithmetic_side.specs.constraint_rows.Standing.{Stands}
use Rattle.spv_arithmetic_side.specs.constraint_rows.Forcing.{HasPoint}
use Rattle.spv_arithmetic_side.proofs.constraint_rows.Forms.{form_at}
use Rattle.spv_arithmetic_side.proofs.constraint_rows.Meeting.{met_alone}
use Rattle.spv_share.specs.declared.both.Both.{Both}
use Rattle.spv_share.specs.declared.relations.Related.{Related}
use Rattle.spv_share.specs.declared.relations.Claim.{Claim}
use Rattle.spv_share.specs.declared.relations.Noted.{Noted}
use Rattle.spv_share.specs.Relations.{AreRelationsAmong, is_relation, find, claim, claim_of, said}
use Rattle.spv_share.specs.Both as both
use Rattle.spv_share.specs.Both.{IsBoth}
use Rattle.spv_share.specs.States.{HasOrder, IsOpen}
use Rattle.spv_share.proofs.Rowed.{row_at, row_inside}
use Rattle.spv_share.proofs.Ties.{told_inside}
use Rattle.spv_branch_theory.specs.consistency.States.{IsToldAs, IsDenied, by_itself, by_below, by_above, AreTold, IsOrderTold, below_it, above_it, AreRelated}

-- ---- what is read of a term

-- a term that is read as nothing, or a relation of two numbers, or the negation of one
pub data IsRead (number : Term → Bool) : Term → Type 0 where
  nothing : (t : Term) → reading number t ≡ None → IsRead number t
  relation : (h : Head) (x y : Term) (c : Bool) (s : RowConstraint) → number x ≡ true → number y ≡ true → saying h c ≡ Some s → IsRead number (literal c (term h (terms x (terms y no_terms))))

by_numbers : (number : Term → Bool) (x y : Term) (t : Term) (r : Option Reading) → reading number t ≡ read_if (number x && number y) r → (number x ≡ true → number y ≡ true → IsRead number t) → IsRead number t
by_numbers number x y t r e f = by_case (number x && number y) refl e
  where
    by_case : (c : Bool) → (number x && number y) ≡ c → reading number t ≡ read_if c r → IsRead number t
    by_case true k g = f (left_true (number x) (number y) k) (right_true (number x) (number y) k)
    by_case false k g = nothing t g

-- under NOT
read_negation : (number : Term → Bool) (u : Term) → IsRead number (negation u)
read_negation number (term Eq no_terms) = nothing _ refl
read_negation number (term Eq (terms x no_terms)) = nothing _ refl
read_negation number (term Eq (terms x (terms y no_terms))) = nothing _ (none (number x && number y))
  where
    none : (c : Bool) → read_if c None ≡ None
    none true = refl
    none false = refl
read_negation number (term Eq (terms x (terms y (terms z ts)))) = nothing _ refl
read_negation number (term Lt no_terms) = nothing _ refl
read_negation number (term Lt (terms x no_terms)) = nothing _ refl
read_negation number (term Lt (terms x (terms y no_terms))) =
    by_numbers number x y (negation (term Lt (terms x (terms y no_terms)))) _ refl (λ m n. relation Lt x y false AtLeast m n refl)
read_negation number (term Lt (terms x (terms y (terms z ts)))) = nothing _ refl
read_negation number (term Le no_terms) = nothing _ refl
read_negation number (term Le (terms x no_terms)) = nothing _ refl
read_negation number (term Le (terms x (terms y no_terms))) =
    by_numbers number x y (negation (term Le (terms x (terms y no_terms)))) _ refl (λ m n. relation Le x y false Above m n refl)
read_negation number (term Le (terms x (terms y (terms z ts)))) = nothing _ refl
read_negation number (term q ts) = nothing _ refl

pub read_as : (number : Term → Bool) (t : Term) → IsRead number t
read_as number (term Eq no_terms) = nothing _ refl
read_as number (term Eq (terms x no_terms)) = nothing _ refl
read_as number (term Eq (terms x (terms y no_terms))) = by_numbers number x y (term Eq (terms x (terms y no_terms))) _ refl (λ m n. relation Eq x y true Equal m n refl)
read_as number (term Eq (terms x (terms y (terms z ts)))) = nothing _ refl
read_as number (term Lt no_terms) = nothing _ refl
read_as number (term Lt (terms x no_terms)) = nothing _ refl
read_as number (term Lt (terms x (terms y no_terms))) = by_numbers number x y (term Lt (terms x (terms y no_terms))) _ refl (λ m n. relation Lt x y true Below m n refl)
read_as number (term Lt (terms x (terms y (terms z ts)))) = nothing _ refl
read_as number (term Le no_terms) = nothing _ refl
read_as number (term Le (terms x no_terms)) = nothing _ refl
read_as number (term Le (terms x (terms y no_terms))) = by_numbers number x y (term Le (terms x (terms y no_terms))) _ refl (λ m n. relation Le x y true AtMost m n refl)
read_as number (term Le (terms x (terms y (terms z ts)))) = nothing _ refl
read_as number (term Not no_terms) = nothing _ refl
read_as number (term Not (terms u no_terms)) = read_negation number u
read_as number (term Not (terms u (terms v ts))) = nothing _ refl
read_as number (term q ts) = nothing _ refl

-- a term is met where it is met as a relation
pub met_as : (number : Term → Bool) (point : Term → Rational) (t : Term) → ((h : Head) (x y : Term) (c : Bool) (s : RowConstraint) → t ≡ literal c (term h (terms x (terms y no_terms))) → number x ≡ true → number y ≡ true → saying h c ≡ Some s → is_met number point t ≡ true)
    → is_met number point t ≡ true
met_as number point t f = by_read t (read_as number t) f
  where
    by_read : (u : Term) → IsRead number u → ((h : Head) (x y : Term) (c : Bool) (s : RowConstraint) → u ≡ literal c (term h (terms x (terms y no_terms))) → number x ≡ true → number y ≡ true → saying h c ≡ Some s → is_met number point u ≡ true)
        → is_met number point u ≡ true
    by_read u (nothing _ e) g = ap (is_met_by point) e
    by_read _ (relation h x y c s m n e) g = g h x y c s refl m n e

-- that two numbers differ is read as nothing
pub unequal_met : (number : Term → Bool) (point : Term → Rational) (x y : Term) → is_met number point (negation (equation x y)) ≡ true
unequal_met number point x y = by_case (number x && number y)
  where
    by_case : (c : Bool) → is_met_by point (read_if c None) ≡ true
    by_case true = refl
    by_case false = refl

-- ---- relations among atoms

pub record IsRelationAt (a : Arena) (rels : List Related) (t : Term) : Type 0 where
  pub place : ℕ
  pub relation : Related
  pub there : slice_get rels place ≡ Some relation
  pub is : tree a relation.atom ≡ t

relation_found : (a : Arena) (rels : List Related) (t : Term) → has (map (λ r. tree a r.atom) rels) t ≡ true → IsRelationAt a rels t
relation_found a [] t h = absurd (false≢true h)
relation_found a (r ∷ rels) t h = or_cases (term_eq t (tree a r.atom)) (has (map (λ q. tree a q.atom) rels) t) h here (λ k. behind (relation_found a rels t k))
  where
    here : term_eq t (tree a r.atom) ≡ true → IsRelationAt a (r ∷ rels) t
    here e = record { place = 0; relation = r; there = refl; is = sym (term_eq-true t (tree a r.atom) e) }

    behind : IsRelationAt a rels t → IsRelationAt a (r ∷ rels) t
    behind k = record { place = suc k.place; relation = k.relation; there = k.there; is = k.is }

-- the one that is found for an id
record IsFoundAt (rels : List Related) (t : TermId) : Type 0 where
  place : ℕ
  relation : Related
  there : slice_get rels place ≡ Some relation
  found : find rels t ≡ Some relation
  is : relation.atom ≡ t

found_at : (rels : List Related) (t : TermId) (i : ℕ) (r : Related) → slice_get rels i ≡ Some r → r.atom ≡ t → IsFoundAt rels t
found_at [] t i r at e = absurd (cc)
found_at (q ∷ rels) t i r at e = by_case (nat_eq q.atom.0 t.0) refl i at (λ j k. found_at rels t j r k e)
  where
    by_case : (c : Bool) → nat_eq q.atom.0 t.0 ≡ c → (j : ℕ) → slice_get (q ∷ rels) j ≡ Some r → ((k : ℕ) → slice_get rels k ≡ Some r → IsFoundAt rels t) → IsFoundAt (q ∷ rels) t
    by_case true f j k later = record {
      place = 0;
      relation = q;
      there = refl;
      found = ap (λ c. cond c (Some q) (find rels t)) f;
      is = let same : q.atom.0 ≡ t.0 = eq_is q.atom.0 t.0 f in ap id same;
    }
    by_case false f zero k later = absurd (false≢true (sym f ∙ (ap (λ (x : Related). nat_eq x.atom.0 t.0) (same_Some q r k) ∙ (ap (λ (u : TermId). nat_eq u.0 t.0) e ∙ nat_same t.0))))
    by_case false f (suc j) k later =
        let rest = later j k in
        record { place = suc rest.place; relation = rest.relation; there = rest.there; found = ap (λ c. cond c (Some q) (find rels t)) f ∙ rest.found; is = rest.is }

abbrev two : Term → Term → Term × Term
two x y = (x, y)

-- a relation of two numbers is one
relation_is : (a : Arena) (h : Head) (x y : Term) (c : Bool) (s : RowConstraint) → number_in a x ≡ true → number_in a y ≡ true → saying h c ≡ Some s → is_relation a (term h (terms x (terms y no_terms))) ≡ true
relation_is a Eq x y c s m n e = ap (λ b. is_some (cond b (Some (two x y)) None)) (both_true m n)
relation_is a Lt x y c s m n e = ap (λ b. is_some (cond b (Some (two x y)) None)) (both_true m n)
relation_is a Le x y c s m n e = ap (λ b. is_some (cond b (Some (two x y)) None)) (both_true m n)
relation_is a q x y c s m n e = absurd (cc)

-- each atom is a question
pub atom_asked : (a : Arena) (c : Condition) (t : Term) → has (atoms (question a c)) t ≡ true → has (questions (question a c)) t ≡ true
atom_asked a c t m = has-with_terms (atoms (question a c)) (passing is_open (truth_arguments (is_truth a.shapes a.decls) (subterms (formulas_of (question a c).sequent)))) t m

-- ---- what was told of relations stands

abbrev claim_with : ℕ → RowConstraint → Claim
claim_with row x = record { row = row; saying = x }

-- a saying of two terms stands on their row
pub record HasStanding (a : Arena) (b : Both) (x y : Term) (s : RowConstraint) : Type 0 where
  pub row : ℕ
  pub form : IdForm
  pub formed : slice_get b.standing.tableau.forms row ≡ Some form
  pub is_row : IsRowOf a (x, y) form
  pub stands : points.Stands b.standing.tableau.bounds row form s

-- a point that meets the bounds that stand, and puts one of two terms below the other
pub record IsOrderedAt (a : Arena) (b : Both) (x y : Term) : Type 0 where
  pub point : Point
  pub solution : IsSolution (rows_in b.standing.tableau) point
  pub stand : Meets (limits (rows_in b.standing.tableau) b.standing.tableau.bounds) point
  pub order : (is_met (number_in a) (part_value a b.standing.tableau.forms point) (below x y) || is_met (number_in a) (part_value a b.standing.tableau.forms point) (below y x)) ≡ true

unclaimed : Noted
unclaimed = record { claim = None; fact = 0 }

module _ (a : Arena) (ok : IsArena a) (b : Both) (h : IsBoth a b) (agree : IsOpen b) (c : Condition) (related : AreRelationsAmong a (atoms (question a c)) b.relations.items) where
  literal_stands : (q : Head) (x y : Term) (p : Part) (k : IsToldAs a b (term q (terms x (terms y no_terms))) p) (r : IsRelationAt a b.relations.items (term q (terms x (terms y no_terms)))) (s : RowConstraint) → told.told q p ≡ Some s → HasStanding a b x y s
  literal_stands q x y p k r s says =
      let rel = h.sound.related.are.each r.place r.relation r.there in
      let one_id : r.relation.atom ≡ k.told_one.atom = HasOneId-arena a ok r.relation.atom k.told_one.atom rel.within (told_inside a b.relations.items b.trail.derivation b.claims.items h.claims k.place k.told_one k.there) (r.is ∙ sym k.atom) in
      let f = found_at b.relations.items k.told_one.atom r.place r.relation r.there one_id in
      let found_rel = h.sound.related.are.each f.place f.relation f.there in
      let tree_is : term f.relation.head (terms (tree a f.relation.left) (terms (tree a f.relation.right) no_terms)) ≡ term q (terms x (terms y no_terms)) = sym found_rel.is ∙ (ap (tree a) f.is ∙ k.atom) in
      let head : f.relation.head ≡ q = heads f.relation.head q (terms (tree a f.relation.left) (terms (tree a f.relation.right) no_terms)) (terms x (terms y no_terms)) tree_is in
      let left : tree a f.relation.left ≡ x = firsts f.relation.head q (tree a f.relation.left) (tree a f.relation.right) x y tree_is in
      let right : tree a f.relation.right ≡ y = seconds f.relation.head q (tree a f.relation.left) (tree a f.relation.right) x y tree_is in
      let inside_rows = row_inside a b.trail.graph.nodes b.relations.items b.standing.tableau.forms h.sound.related f.place f.relation f.there in
      let form = form_at b.standing.tableau.forms f.place inside_rows in
      let claim_is : claim_of b.relations.items k.told_one ≡ Some (claim_with f.relation.row s) =
      ap (λ o. claim o k.told_one.part) f.found ∙ (ap (λ r. said f.relation.row (told.told f.relation.head r)) k.part_is ∙ (ap (λ z. said f.relation.row (told.told z p)) head ∙ ap (said f.relation.row) says)) in
      let n = get_or b.claims.items k.place unclaimed in
      let there : slice_get b.claims.items k.place ≡ Some n =
      slice_get-get_or b.claims.items k.place unclaimed (subst (λ (m : ℕ). k.place < m) (sym h.claims.many) (slice_get_within (both.told b) k.place k.told_one k.there)) in
      let noted = h.claims.each k.place k.told_one n k.there there in
      let stands = agree.claims.each k.place n (claim_with f.relation.row s) there (noted.claim ∙ claim_is) in
      let row_is : f.relation.row ≡ f.place = h.sound.related.are.placed f.place f.relation f.there in
      record {
        row = f.place;
        form = form.0;
        formed = form.1;
        is_row = subst (λ (u : Term). IsRowOf a (u, y) form.0) left (subst (λ (v : Term). IsRowOf a (tree a f.relation.left, v) form.0) right (row_at a b.relations.items b.standing.tableau.forms h.sound.related.rows f.place f.relation form.0 f.there form.1));
        stands = λ j bound at. (subst (λ (n : ℕ). Stands b.standing n s) row_is stands).each form.0 form.1 j bound at;
      }
    where
      heads : (r s : Head) (ss us : Terms) → term r ss ≡ term s us → r ≡ s
      heads r s ss us e = cc

      firsts : (r s : Head) (p q u v : Term) → term r (terms p (terms q no_terms)) ≡ term s (terms u (terms v no_terms)) → p ≡ u
      firsts r s p q u v e = cc

      seconds : (r s : Head) (p q u v : Term) → term r (terms p (terms q no_terms)) ≡ term s (terms u (terms v no_terms)) → q ≡ v
      seconds r s p q u v e = cc

  -- an atom that is a relation has its row
  pub atom_relation : (q : Head) (x y : Term) (d : Bool) (s : RowConstraint) → number_in a x ≡ true → number_in a y ≡ true → saying q d ≡ Some s → has (atoms (question a c)) (term q (terms x (terms y no_terms))) ≡ true
      → IsRelationAt a b.relations.items (term q (terms x (terms y no_terms)))
  atom_relation q x y d s m n e among =
      relation_found a b.relations.items (term q (terms x (terms y no_terms)))
      (ap (λ ts. has ts (term q (terms x (terms y no_terms)))) related ∙ has-passing (is_relation a) (atoms (question a c)) (term q (terms x (terms y no_terms))) among (relation_is a q x y d s m n e))

  -- a point that was found for an order of a relation's sides meets the bounds that stand and this order
  module _ (row : ℕ) (r : Related) (there : slice_get b.relations.items row ≡ Some r) (m : number_in a (tree a r.left) ≡ true) (n : number_in a (tree a r.right) ≡ true) where
    form : (f : IdForm) × (slice_get b.standing.tableau.forms row ≡ Some f)
    form = form_at b.standing.tableau.forms row (row_inside a b.trail.graph.nodes b.relations.items b.standing.tableau.forms h.sound.related row r there)

    is_row : IsRowOf a (tree a r.left, tree a r.right) form.0
    is_row = row_at a b.relations.items b.standing.tableau.forms h.sound.related.rows row r form.0 there form.1

    below_at : HasPoint b.standing row Below → IsOrderedAt a b (tree a r.left) (tree a r.right)
    below_at p = record {
      point = p.point;
      solution = p.solution;
      stand = p.stand;
      order =
          or_left (is_met (number_in a) (part_value a b.standing.tableau.forms p.point) (below (tree a r.left) (tree a r.right))) _
          (literal-met a ok b.standing.tableau.forms h.sound.inside (bounds_of row (form.0).constant Below) p.point p.solution (met_alone b.standing row Below p.point p.meets form.0 form.1) row form.0 form.1 (tree a r.left) (tree a r.right) is_row
          (number_in a) Lt true Below m n refl (bound_is_on row (form.0).constant Below));
    }

    above_at : HasPoint b.standing row Above → IsOrderedAt a b (tree a r.left) (tree a r.right)
    above_at p = record {
      point = p.point;
      solution = p.solution;
      stand = p.stand;
      order =
          or_right (is_met (number_in a) (part_value a b.standing.tableau.forms p.point) (below (tree a r.left) (tree a r.right))) _
          (above-met a ok b.standing.tableau.forms h.sound.inside (bounds_of row (form.0).constant Above) p.point p.solution (met_alone b.standing row Above p.point p.meets form.0 form.1) row form.0 form.1 (tree a r.left) (tree a r.right) is_row
          (number_in a) m n (bound_is_on row (form.0).constant Above));
    }

    pub ordered_at : HasOrder b.standing row → IsOrderedAt a b (tree a r.left) (tree a r.right)
    ordered_at o = elim o [ inl p ↦ above_at p | inr p ↦ below_at p ]

  module _ (v : Point) (solution : IsSolution (rows_in b.standing.tableau) v) (meets : Meets (limits (rows_in b.standing.tableau) b.standing.tableau.bounds) v) where
    abbrev w : Term → Rational
    w = part_value a b.standing.tableau.forms v

    standing_met : (q : Head) (x y : Term) (d : Bool) (s : RowConstraint) → number_in a x ≡ true → number_in a y ≡ true → saying q d ≡ Some s → HasStanding a b x y s → is_met (number_in a) w (literal d (term q (terms x (terms y no_terms)))) ≡ true
    standing_met q x y d s m n e k =
        literal-met a ok b.standing.tableau.forms h.sound.inside b.standing.tableau.bounds v solution meets k.row k.form k.formed x y k.is_row (number_in a) q d s m n e k.stands

    -- an atom that is a relation is met with its value
    atom_met : (value : Term → Option Bool) → AreTold a b (question a c) value → (q : Head) (x y : Term) (d : Bool) (s : RowConstraint) → number_in a x ≡ true → number_in a y ≡ true → saying q d ≡ Some s
        → has (atoms (question a c)) (term q (terms x (terms y no_terms))) ≡ true → has (questions (question a c)) (term q (terms x (terms y no_terms))) ≡ true → value (term q (terms x (terms y no_terms))) ≡ Some d
        → is_met (number_in a) w (literal d (term q (terms x (terms y no_terms)))) ≡ true
    atom_met value are q x y true s m n e among asked is =
        standing_met q x y true s m n e (literal_stands q x y part.True (are.affirmed (term q (terms x (terms y no_terms))) asked is) (atom_relation q x y true s m n e among) s e)
    atom_met value are q x y false s m n e among asked is = by_denied (are.denied (term q (terms x (terms y no_terms))) asked is)
      where
        unequal : (u v : Term) → term q (terms x (terms y no_terms)) ≡ equation u v → is_met (number_in a) w (negation (term q (terms x (terms y no_terms)))) ≡ true
        unequal u v f = ap (λ t. is_met (number_in a) w (negation t)) f ∙ unequal_met (number_in a) w u v

        by_denied : IsDenied a b (term q (terms x (terms y no_terms))) → is_met (number_in a) w (negation (term q (terms x (terms y no_terms)))) ≡ true
        by_denied (by_itself k) = standing_met q x y false s m n e (literal_stands q x y part.False k (atom_relation q x y false s m n e among) s e)
        by_denied (by_below u v f k) = unequal u v f
        by_denied (by_above u v f k) = unequal u v f

    -- an order that was told is met
    order_met : (t : Term) → IsOrderTold a b (question a c) t → ((x y : Term) → t ≡ below x y → (number_in a x ≡ true) × (number_in a y ≡ true)) → is_met (number_in a) w t ≡ true
    order_met _ (below_it x y among k) n =
        let numbers = n x y refl in
        let r = atom_relation Eq x y true Equal numbers.0 numbers.1 refl among in
        standing_met Lt x y true Below numbers.0 numbers.1 refl (literal_stands Eq x y part.Below k r Below refl)
    order_met _ (above_it x y among k) n =
        let numbers = n y x refl in
        let r = atom_relation Eq x y true Equal numbers.1 numbers.0 refl among in
        let s = literal_stands Eq x y part.Above k r Above refl in
        above-met a ok b.standing.tableau.forms h.sound.inside b.standing.tableau.bounds v solution meets s.row s.form s.formed x y s.is_row (number_in a) numbers.1 numbers.0 s.stands

    -- all that is known is
    pub meets_known : (fs : List Term) (value : Term → Option Bool) → AreTold a b (question a c) value → AreRelated a b (question a c) fs → ((t : Term) (d : Bool) → Gives (question a c) fs t d → value t ≡ Some d) → MeetsKnown (question a c) fs w
    meets_known fs value are known_relations gives = record {
      met = λ t known. met_as (number_in a) w t (λ q x y d s e m n says. subst (λ (u : Term). is_met (number_in a) w u ≡ true) (sym e) (by_relation q x y d s m n says (subst (λ (u : Term). Known (question a c) fs u) e known)));
    }
      where
        value_is : (t : Term) (d : Bool) → Known (question a c) fs (literal d t) → value t ≡ Some d
        value_is t true k = gives t true (member t k)
        value_is t false k = gives t false (negated t k)

        sides_numbers : (q : Head) (x y u v : Term) → number_in a x ≡ true → number_in a y ≡ true → term q (terms x (terms y no_terms)) ≡ below u v → (number_in a u ≡ true) × (number_in a v ≡ true)
        sides_numbers q x y u v m n e = (ap (number_in a) (sym (first q x y u v e)) ∙ m, ap (number_in a) (sym (second q x y u v e)) ∙ n)
          where
            first : (r : Head) (p z u v : Term) → term r (terms p (terms z no_terms)) ≡ below u v → p ≡ u
            first r p z u v f = cc

            second : (r : Head) (p z u v : Term) → term r (terms p (terms z no_terms)) ≡ below u v → z ≡ v
            second r p z u v f = cc

        by_relation : (q : Head) (x y : Term) (d : Bool) (s : RowConstraint) → number_in a x ≡ true → number_in a y ≡ true → saying q d ≡ Some s → Known (question a c) fs (literal d (term q (terms x (terms y no_terms))))
            → is_met (number_in a) w (literal d (term q (terms x (terms y no_terms)))) ≡ true
        by_relation q x y d s m n says k = elim (known_relations.each q x y d m n k) [
          | inl among ↦ atom_met value are q x y d s m n says among (atom_asked a c (term q (terms x (terms y no_terms))) among) (value_is (term q (terms x (terms y no_terms))) d k)
          | inr o ↦
              subst (λ (z : Bool). is_met (number_in a) w (literal z (term q (terms x (terms y no_terms)))) ≡ true) (sym o.0)
              (order_met (term q (terms x (terms y no_terms))) o.1 (λ u v e. sides_numbers q x y u v m n e))
        ]
