-- Relations, their rows, and what is claimed of them.
use Rattle.std.proofs.Common.{◌≡◌, ℕ, zero, suc, ◌<◌, Bool, true, false, cond, List, [], ◌∷◌, map, length, nat_eq, refl, sym, ap, ◌∙◌, subst, Option, Some, None}
use Rattle.std.specs.Prelude.{slice_get}
use Rattle.std.proofs.lemmas.List.{length-map}
use Rattle.std.proofs.lemmas.Option.{slice_get_within, same_Some}
use Rattle.spv_tableau_rules.proofs.pivots.Sums.{eq_is}
use Rattle.spv_logic.specs.declared.conditions.TermId.{TermId}
use Rattle.spv_logic.specs.declared.operators.Head.{Head}
use Rattle.spv_logic.specs.declared.operators.Head.TheVariants.{Eq}
use Rattle.spv_logic.specs.Formulas.{equation}
use Rattle.spv_logic.specs.Terms.{Term, term, no_terms, terms}
use Rattle.spv_term.specs.declared.nodes.Node.{Node}
use Rattle.spv_term.specs.Arena.{Arena, tree}
use Rattle.spv_congruence.specs.Graph.{id}
use Rattle.spv_atoms.specs.Linear.{IdForm}
use Rattle.spv_derivations.specs.declared.derivation.entries.Part.{Part}
use Rattle.spv_derivations.specs.declared.derivation.entries.Part.TheVariants as part
use Rattle.spv_derivations.specs.derivation.Derivation.{fact_at, literal}
use Rattle.spv_tableau_rules.specs.declared.constraints.saying.RowConstraint.{RowConstraint}
use Rattle.spv_tableau_rules.specs.declared.constraints.saying.RowConstraint.TheVariants.{Equal}
use Rattle.spv_tableau_rules.specs.constraints.Relations.{AreRowsOf, IsRowOf}
use Rattle.spv_arithmetic_side.specs.farkas.Told.{told_of}
use Rattle.spv_arithmetic_side.specs.farkas.Told as told
use Rattle.spv_arithmetic_side.proofs.farkas.Readings.{told_is_sourced}
use Rattle.spv_arithmetic_side.specs.constraint_rows.Standing.{HasSaid, readings, SaidBy}
use Rattle.spv_share.specs.declared.relations.Related.{Related}
use Rattle.spv_share.specs.declared.relations.Claim.{Claim}
use Rattle.spv_share.specs.declared.both.Both.{Both}
use Rattle.spv_share.specs.Relations.{AreRelated, claim, find, may_say, said, sayable, sides_in}
use Rattle.spv_share.proofs.RowConstraint.{told_may}
use Rattle.spv_share.proofs.Sayable.{said_among}
use Rattle.spv_share.specs.Both.{IsClaimed, IsSound}
use Rattle.spv_share.specs.States.{is_equality}

-- ---- rows

pub rows_count : (a : Arena) (sides : List (Term × Term)) (forms : List IdForm) → AreRowsOf a sides forms → length sides ≡ length forms
rows_count a [] [] h = refl
rows_count a [] (f ∷ forms) h = absurd h
rows_count a (st ∷ sides) [] h = absurd h
rows_count a (st ∷ sides) (f ∷ forms) h = ap suc (rows_count a sides forms h.1)

pub row_at : (a : Arena) (rels : List Related) (forms : List IdForm) → AreRowsOf a (map (sides_in a) rels) forms → (i : ℕ) (r : Related) (f : IdForm) → slice_get rels i ≡ Some r → slice_get forms i ≡ Some f
    → IsRowOf a (sides_in a r) f
row_at a [] forms h i r f at form = absurd (cc)
row_at a (q ∷ rels) [] h i r f at form = absurd h
row_at a (q ∷ rels) (g ∷ forms) h zero r f at form =
    subst (λ (x : Related). IsRowOf a (sides_in a x) f) (same_Some q r at) (subst (λ (k : IdForm). IsRowOf a (sides_in a q) k) (same_Some g f form) h.0)
row_at a (q ∷ rels) (g ∷ forms) h (suc i) r f at form = row_at a rels forms h.1 i r f at form

module _ (a : Arena) (nodes : List (Option Node)) (rels : List Related) (forms : List IdForm) (h : AreRelated a nodes rels forms) where
  -- as many rows as relations
  pub count_is : length rels ≡ length forms
  count_is = sym (length-map rels (sides_in a)) ∙ rows_count a (map (sides_in a) rels) forms h.rows

  pub row_inside : (i : ℕ) (r : Related) → slice_get rels i ≡ Some r → i < length forms
  row_inside i r at = subst (λ (n : ℕ). i < n) count_is (slice_get_within rels i r at)

  pub row_within : (i : ℕ) (r : Related) → slice_get rels i ≡ Some r → r.row < length forms
  row_within i r at = subst (λ (n : ℕ). n < length forms) (sym (h.are.placed i r at)) (row_inside i r at)

-- ---- claims

-- a relation among others
record IsAmong (rels : List Related) (t : TermId) (r : Related) : Type 0 where
  place : ℕ
  there : slice_get rels place ≡ Some r
  is : r.atom ≡ t

find_there : (rels : List Related) (t : TermId) (r : Related) → find rels t ≡ Some r → IsAmong rels t r
find_there [] t r e = absurd (cc)
find_there (q ∷ rels) t r e = by_case (find_there rels t r) (nat_eq q.atom.0 t.0) refl e
  where
    by_case : (find rels t ≡ Some r → IsAmong rels t r) → (b : Bool) → nat_eq q.atom.0 t.0 ≡ b → cond b (Some q) (find rels t) ≡ Some r → IsAmong (q ∷ rels) t r
    by_case rest true f e = record {
      place = 0;
      there = e;
      is = subst (λ (x : Related). x.atom ≡ t) (same_Some q r e) (let same : q.atom.0 ≡ t.0 = eq_is q.atom.0 t.0 f in ap id same);
    }
    by_case rest false f e = let found = rest e in record { place = suc found.place; there = found.there; is = found.is }

-- a claim is what is told of the relation
abbrev claim_as : ℕ → RowConstraint → Claim
claim_as row x = record { row = row; saying = x }

pub record IsClaimOf (r : Related) (p : Part) (c : Claim) : Type 0 where
  pub row : c.row ≡ r.row
  pub saying : told.told r.head p ≡ Some c.saying

claim_is : (r : Related) (p : Part) (c : Claim) → claim (Some r) p ≡ Some c → IsClaimOf r p c
claim_is r p c e = by_case (told.told r.head p) refl e
  where
    by_case : (o : Option RowConstraint) → told.told r.head p ≡ o → said r.row o ≡ Some c → IsClaimOf r p c
    by_case None f e = absurd (cc)
    by_case (Some x) f e =
        let same : claim_as r.row x ≡ c = same_Some (claim_as r.row x) c e in
        record { row = ap (λ (k : Claim). k.row) (sym same); saying = f ∙ ap (λ (k : Claim). Some k.saying) same }

module _ (a : Arena) (b : Both) (h : IsSound a b) where
  -- what a fact says of the row of its relation
  said_at : (i : ℕ) (r : Related) (p : Part) (x : RowConstraint) (k : ℕ) → slice_get b.relations.items i ≡ Some r → told.told r.head p ≡ Some x → fact_at a b.trail.derivation k ≡ Some (literal (tree a r.atom) p)
      → SaidBy a (readings a b.trail.derivation) b.standing i x k
  said_at i r p x k at says fact = λ f form side value bound.
      told_is_sourced a b.trail.derivation (tree a r.atom) (tree a r.left) (tree a r.right) p x (h.related.are.each i r at).sides (ap (λ t. told_of t p) (h.related.are.each i r at).is ∙ says) k fact i f
      (row_at a b.relations.items b.standing.tableau.forms h.related.rows i r f at form) side value bound

  pub claimed_at : (i : ℕ) (r : Related) (p : Part) (c : Claim) (k : ℕ) → slice_get b.relations.items i ≡ Some r → IsClaimOf r p c → fact_at a b.trail.derivation k ≡ Some (literal (tree a r.atom) p)
      → IsClaimed a b c k
  claimed_at i r p c k at is fact =
      let row_is : c.row ≡ i = is.row ∙ h.related.are.placed i r at in
      record {
        row_in = subst (λ (n : ℕ). n < length b.standing.tableau.forms) (sym row_is) (row_inside a b.trail.graph.nodes b.relations.items b.standing.tableau.forms h.related i r at);
        said = subst (λ (n : ℕ). SaidBy a (readings a b.trail.derivation) b.standing n c.saying k) (sym row_is) (said_at i r p c.saying k at is.saying fact);
        among = subst (λ (n : ℕ). HasSaid (sayable b.relations.items b.standing.tableau.forms) b.standing n c.saying) (sym row_is) (said_among b.relations.items b.standing i r p c.saying at is.saying);
        may = λ q there. subst (λ (x : Related). may_say c.saying x.head ≡ true) (same_Some r q (sym at ∙ (ap (slice_get b.relations.items) (sym row_is) ∙ there))) (told_may r.head p c.saying is.saying);
      }

  -- a literal that is a fact, and what is claimed by it
  pub literal_claimed : (t : TermId) (p : Part) (c : Claim) (k : ℕ) → claim (find b.relations.items t) p ≡ Some c → fact_at a b.trail.derivation k ≡ Some (literal (tree a t) p) → IsClaimed a b c k
  literal_claimed t p c k e fact = by_found (find b.relations.items t) refl e
    where
      by_found : (o : Option Related) → find b.relations.items t ≡ o → claim o p ≡ Some c → IsClaimed a b c k
      by_found None f e = absurd (cc)
      by_found (Some r) f e =
          let among = find_there b.relations.items t r f in
          claimed_at among.place r p c k among.there (claim_is r p c e) (fact ∙ ap (λ x. Some (literal (tree a x) p)) (sym among.is))

  -- an equality that is a fact
  pub equality_claimed : (r : Related) (k : ℕ) → slice_get b.relations.items r.row ≡ Some r → is_equality r.head ≡ true → fact_at a b.trail.derivation k ≡ Some (equation (tree a r.left) (tree a r.right))
      → IsClaimed a b (record { row = r.row; saying = Equal }) k
  equality_claimed r k at equal fact =
      let head : r.head ≡ Eq = equality_head r.head equal in
      let is : tree a r.atom ≡ equation (tree a r.left) (tree a r.right) = (h.related.are.each r.row r at).is ∙ ap (λ q. term q (terms (tree a r.left) (terms (tree a r.right) no_terms))) head in
      claimed_at r.row r part.True (record { row = r.row; saying = Equal }) k at (record { row = refl; saying = ap (λ q. told.told q part.True) head }) (fact ∙ ap (λ t. Some t) (sym is))
    where
      equality_head : (q : Head) → is_equality q ≡ true → q ≡ Eq
      equality_head Eq e = refl
      equality_head q e = absurd (cc)
