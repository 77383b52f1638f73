-- The evidence of a check that was stopped, as that of a limit.
use Rattle.std.proofs.Common.{◌≡◌, ℕ, zero, suc, ◌+◌, Bool, List, [], ◌∷◌, map, refl, sym, ap, ◌∙◌, subst, Option, Some, None, arith, ℤ, pos, ◌++◌}
use mathlib.Core.Path.{ap₂}
use Rattle.std.specs.Prelude.{slice_get, is_some}
use Rattle.std.proofs.lemmas.Option.{same_Some}
use Rattle.spv_logic.specs.declared.operators.Head.{Head}
use Rattle.spv_logic.specs.declared.operators.Head.TheVariants.{Eq, Lt, Le}
use Rattle.spv_logic.specs.Terms.{Term, Terms, term, terms, no_terms}
use Rattle.spv_term.specs.declared.nodes.Condition.{Condition}
use Rattle.spv_term.specs.Arena.{Arena, tree}
use Rattle.spv_atoms.specs.Atoms.{only_if}
use Rattle.spv_atoms.specs.Linear.{IdForm}
use Rattle.spv_atoms.specs.Order.{passing}
use Rattle.spv_proof_rules.specs.Stand.{question}
use Rattle.spv_proof.specs.sums.Readings.{number_in}
use Rattle.spv_tableau_rules.specs.declared.tableaux.side.Side.TheVariants.{Lower, Upper}
use Rattle.spv_tableau_rules.specs.tableaux.Rows.{Rows}
use Rattle.spv_tableau_rules.specs.tableaux.Bounds.{Bound, bound_on, AreBounds}
use Rattle.spv_tableau_rules.specs.tableaux.Forms.{rows_of}
use Rattle.spv_tableau_rules.specs.tableaux.Solved.{basis_of}
use Rattle.spv_tableau_rules.specs.tableaux.Walks.{held_at, HoldsBounds}
use Rattle.spv_tableau_rules.specs.declared.constraints.saying.RowConstraint.{RowConstraint}
use Rattle.spv_tableau_rules.specs.constraints.Sayings.{bounds_of}
use Rattle.spv_tableau_rules.specs.constraints.Relations.{AreRowsOf, number_sides, relations, in_front}
use Rattle.spv_simplex.specs.declared.checked.Checked.{Checked}
use Rattle.spv_simplex.specs.declared.checked.Checked.TheVariants.{Wide, Pivots}
use Rattle.spv_simplex.specs.Checks.{IsAmong}
use Rattle.spv_models.specs.split_trees.Paths.{atoms}
use Rattle.spv_arithmetic_side.specs.constraint_rows.Forcing.{Halts, too_wide, all_pivots}
use Rattle.spv_share.specs.declared.both.Both.{Both}
use Rattle.spv_share.specs.declared.relations.Related.{Related}
use Rattle.spv_share.specs.Relations.{sides_in, sayable, row_bounds}
use Rattle.spv_share.specs.Both.{IsBoth}
use Rattle.spv_verdicts.specs.Verdicts.{HasWidePivot, HasAllPivots}
use Rattle.spv_verdicts.specs.Rows.{head_of, relation_heads, readable, sayings, IsBegun, IsBoundIn, IsOneOf}
use Rattle.spv_branch_theory.specs.evidence.Laws.{IsStoppedFor}
use Rattle.spv_branch_theory.proofs.evidence.Orders.{bound_found}
use Rattle.spv_branch_theory.proofs.evidence.Readable.{heads, heads_are, is_some_relation, readable_sayable, IsOfRow, of_row}
use Rattle.spv_branch_theory.proofs.evidence.Ways.{way_of, may_be, IsSaid, read}

-- ---- the way of each row

abbrev head_in : Option Head → Head
head_in None = Eq
head_in (Some h) = h

abbrev constant_in : Option IdForm → ℤ
constant_in None = pos 0
constant_in (Some f) = f.constant

abbrev way : List Related → List IdForm → List Bound → ℕ → RowConstraint
way rels forms bounds row =
    way_of (head_in (slice_get (heads rels) row)) (constant_in (slice_get forms row)) (bound_on bounds row Lower) (bound_on bounds row Upper)

-- the head of a relation is one under which something may be said
said : (test : Term → Bool) (h : Head) (ts : Terms) (st : Term × Term) → number_sides test (term h ts) ≡ Some st → IsSaid h
said test Eq ts st e none = cc
said test Lt ts st e none = cc
said test Le ts st e none = cc
said test q ts st e none = cc

head_at : (rels : List Related) (row : ℕ) (r : Related) → slice_get rels row ≡ Some r → slice_get (heads rels) row ≡ Some r.head
head_at [] row r e = absurd (cc)
head_at (q ∷ rels) zero r e = ap (λ (x : Related). Some x.head) (same_Some q r e)
head_at (q ∷ rels) (suc row) r e = head_at rels row r e

-- the relation that has a head
record HasHead (rels : List Related) (row : ℕ) (h : Head) : Type 0 where
  relation : Related
  there : slice_get rels row ≡ Some relation
  head : relation.head ≡ h

with_head : (rels : List Related) (row : ℕ) (h : Head) → slice_get (heads rels) row ≡ Some h → HasHead rels row h
with_head [] row h e = absurd (cc)
with_head (q ∷ rels) zero h e = record { relation = q; there = refl; head = same_Some q.head h e }
with_head (q ∷ rels) (suc row) h e = let k = with_head rels row h e in record { relation = k.relation; there = k.there; head = k.head }

module _ (rows : Rows) (rels : List Related) (forms : List IdForm) (bounds : List Bound) (are : AreBounds rows bounds) (known : (i : ℕ) (b : Bound) → slice_get bounds i ≡ Some b → IsAmong (sayable rels forms) b) where
  row_of : (i : ℕ) (b : Bound) → slice_get bounds i ≡ Some b → IsOfRow 0 rels forms b
  row_of i b e = let k = known i b e in of_row 0 rels forms k.place b k.there

  same_row : (b : Bound) (row : ℕ) → b.row ≡ 0 + row → b.row ≡ row
  same_row b row e = omega (arith, e)

  read_one : (i : ℕ) (b : Bound) (f : IdForm) → slice_get bounds i ≡ Some b → slice_get forms b.row ≡ Some f → IsBoundIn b.row f (way rels forms bounds b.row) b
  read_one i b f e formed =
      let k = row_of i b e in
      let on_row : b.row ≡ k.row = same_row b k.row k.row_is in
      let same : k.form ≡ f = same_Some k.form f (sym k.formed ∙ (ap (slice_get forms) (sym on_row) ∙ formed)) in
      let head : slice_get (heads rels) b.row ≡ Some k.relation.head = ap (slice_get (heads rels)) on_row ∙ head_at rels k.row k.relation k.related in
      let at : slice_get (row_bounds b.row k.relation.head f.constant) k.place ≡ Some b = ap (λ (g : IdForm). slice_get (row_bounds b.row k.relation.head g.constant) k.place) (sym same) ∙ k.there in
      let found = read b.row f.constant (bound_on bounds b.row) (λ low high p q. are.ordered b.row low high p q) k.relation.head k.place b at (bound_found bounds i b are.apart e) in
      let way_is : way rels forms bounds b.row ≡ way_of k.relation.head f.constant (bound_on bounds b.row Lower) (bound_on bounds b.row Upper) =
      ap₂ (λ (o : Option Head) (p : Option IdForm). way_of (head_in o) (constant_in p) (bound_on bounds b.row Lower) (bound_on bounds b.row Upper)) head formed in
      record { place = found.place; there = ap (λ x. slice_get (bounds_of b.row f.constant x) found.place) way_is ∙ found.there }

  within_one : (i : ℕ) (b : Bound) → slice_get bounds i ≡ Some b → (f : IdForm) × (slice_get forms b.row ≡ Some f)
  within_one i b e = let k = row_of i b e in (k.form, ap (slice_get forms) (same_row b k.row k.row_is) ∙ k.formed)

-- ---- the evidence

head_of_atom : (a : Arena) (b : Both) → IsBoth a b → (row : ℕ) (r : Related) → slice_get b.relations.items row ≡ Some r → head_of (tree a r.atom) ≡ r.head
head_of_atom a b h row r e = ap head_of (h.sound.related.are.each row r e).is

said_at : (a : Arena) (b : Both) → IsBoth a b → (row : ℕ) (r : Related) → slice_get b.relations.items row ≡ Some r → IsSaid r.head
said_at a b h row r e =
    let k = h.sound.related.are.each row r e in
    said (number_in a) r.head (terms (tree a r.left) (terms (tree a r.right) no_terms)) (sides_in a r) (ap (number_sides (number_in a)) (sym k.is) ∙ k.sides)

-- the relations of terms are those of their atoms
sides_passing : (test : Term → Bool) (ts : List Term) → relations test ts ≡ relations test (passing (is_some_relation test) ts)
sides_passing test [] = refl
sides_passing test (t ∷ ts) = by_case (number_sides test t) refl (sides_passing test ts)
  where
    by_case : (o : Option (Term × Term)) → number_sides test t ≡ o → relations test ts ≡ relations test (passing (is_some_relation test) ts)
        → in_front o (relations test ts) ≡ relations test (only_if (is_some o) t ++ passing (is_some_relation test) ts)
    by_case None e rest = rest
    by_case (Some st) e rest = ap (λ xs. st ∷ xs) rest ∙ ap (λ o. in_front o (relations test (passing (is_some_relation test) ts))) (sym e)

relations_of : (a : Arena) (rels : List Related) → ((row : ℕ) (r : Related) → slice_get rels row ≡ Some r → number_sides (number_in a) (tree a r.atom) ≡ Some (sides_in a r)) → relations (number_in a) (map (λ r. tree a r.atom) rels) ≡ map (sides_in a) rels
relations_of a [] h = refl
relations_of a (r ∷ rels) h = ap₂ (λ o xs. in_front o xs) (h 0 r refl) (relations_of a rels (λ row q at. h (suc row) q at))

begun : (a : Arena) (c : Condition) (b : Both) → IsStoppedFor a c b → IsBegun a (question a c) b.standing.tableau.forms b.standing.tableau.evidence.start
begun a c b h =
    let rels = b.relations.items in
    let forms = b.standing.tableau.forms in
    let e = h.limit.evidence in
    let ts : List Term = atoms (question a c) in
    let heads_eq : relation_heads (number_in a) ts ≡ heads rels = heads_are a ts rels (head_of_atom a b h.both) h.related in
    let readable_eq : readable 0 (relation_heads (number_in a) ts) forms ≡ sayable rels forms = ap (λ hs. readable 0 hs forms) heads_eq ∙ readable_sayable 0 rels forms in
    let sides_eq : map (sides_in a) rels ≡ relations (number_in a) ts =
    sym (relations_of a rels (λ row r at. (h.both.sound.related.are.each row r at).sides)) ∙ (ap (relations (number_in a)) h.related ∙ sym (sides_passing (number_in a) ts)) in
    record {
      rows = subst (λ (sides : List (Term × Term)). AreRowsOf a sides forms) sides_eq h.both.sound.related.rows;
      read = record {
        way = way rels forms b.standing.tableau.evidence.start.bounds;
        may = λ row head at.
            let k = with_head rels row head (ap (λ hs. slice_get hs row) (sym heads_eq) ∙ at) in
            let is_said : IsSaid head = subst (λ (x : Head). IsSaid x) k.head (said_at a b h.both row k.relation k.there) in
            let here : slice_get (heads rels) row ≡ Some head = ap (λ hs. slice_get hs row) (sym heads_eq) ∙ at in
            subst (λ (o : Option Head). IsOneOf (sayings head) (way_of (head_in o) (constant_in (slice_get forms row)) (bound_on b.standing.tableau.evidence.start.bounds row Lower) (bound_on b.standing.tableau.evidence.start.bounds row Upper)))
            (sym here) (may_be head (constant_in (slice_get forms row)) (bound_on b.standing.tableau.evidence.start.bounds row Lower) (bound_on b.standing.tableau.evidence.start.bounds row Upper) is_said);
        each = read_one (rows_of forms) rels forms b.standing.tableau.evidence.start.bounds e.are e.bounds;
        within = within_one (rows_of forms) rels forms b.standing.tableau.evidence.start.bounds e.are e.bounds;
      };
      held = subst (λ (known : List Bound). HoldsBounds (rows_of forms) known (basis_of b.standing.tableau.evidence.start.basis) (held_at b.standing.tableau.evidence.start.held)) (sym readable_eq) e.held;
    }

two_answers : (o : Option Checked) → o ≡ Some Wide → o ≡ Some Pivots → ⊥
two_answers o e f = cc

pub wide_reached : (a : Arena) (c : Condition) (b : Both) → IsStoppedFor a c b → b.standing.tableau.answer ≡ Some Wide
    → HasWidePivot a (question a c) b.standing.tableau.evidence.start b.standing.tableau.evidence.steps b.standing.tableau.evidence.operation
wide_reached a c b h e = by_halts h.limit.evidence.halts
  where
    by_halts : Halts b.standing.tableau → HasWidePivot a (question a c) b.standing.tableau.evidence.start b.standing.tableau.evidence.steps b.standing.tableau.evidence.operation
    by_halts (too_wide f w) = record { forms = b.standing.tableau.forms; begun = begun a c b h; wide = w }
    by_halts (all_pivots f u none) = absurd (two_answers b.standing.tableau.answer e f)

pub pivots_reached : (a : Arena) (c : Condition) (b : Both) → IsStoppedFor a c b → b.standing.tableau.answer ≡ Some Pivots
    → HasAllPivots a (question a c) b.standing.tableau.pivots b.standing.tableau.evidence.start b.standing.tableau.evidence.steps
pivots_reached a c b h e = by_halts h.limit.evidence.halts
  where
    by_halts : Halts b.standing.tableau → HasAllPivots a (question a c) b.standing.tableau.pivots b.standing.tableau.evidence.start b.standing.tableau.evidence.steps
    by_halts (too_wide f w) = absurd (two_answers b.standing.tableau.answer f e)
    by_halts (all_pivots f u none) = record { forms = b.standing.tableau.forms; begun = begun a c b h; unfinished = u }
