-- Both sides stay sound where one of them goes on.
use Rattle.std.proofs.Common.{◌≡◌, ℕ, ◌+◌, ◌≤◌, List, ◌++◌, map, take, length, sym, ap, ◌∙◌, subst, Option, arith}
use Rattle.std.proofs.lemmas.List.{length-append, take-append-le}
use Rattle.spv_logic.specs.declared.conditions.TermId.{TermId}
use Rattle.spv_term.specs.declared.nodes.Node.{Node}
use Rattle.spv_term.specs.Arena.{Arena}
use Rattle.spv_atoms.specs.Linear.{IdForm}
use Rattle.spv_tableau_rules.specs.tableaux.Bounds.{Bound}
use Rattle.spv_congruence.specs.declared.facts.Fact.{Fact}
use Rattle.spv_congruence.specs.Keep.{IsNode}
use Rattle.spv_derivations.specs.declared.derivation.entries.Entry.{Entry}
use Rattle.spv_derivations.specs.derivation.Literals.{literals}
use Rattle.spv_tableau_rules.specs.constraints.Relations.{AreIn, AreRowsOf}
use Rattle.spv_arithmetic_side.specs.farkas.Refuted.{AreOneAndZero}
use Rattle.spv_arithmetic_side.proofs.farkas.Readings.{sourced_stays}
use Rattle.spv_arithmetic_side.specs.bounds.Sources.{sources_in}
use Rattle.spv_explanations.specs.declared.congruence_side.trail.Trail.{Trail}
use Rattle.spv_explanations.specs.congruence_side.Holding.{Backs, Grows, Holds, WasSoFar}
use Rattle.spv_explanations.specs.congruence_side.Telling.{ties}
use Rattle.spv_simplex.specs.Checks.{HoldsAsserted}
use Rattle.spv_arithmetic_side.specs.declared.constraint_rows.standing.Standing.{Standing}
use Rattle.spv_arithmetic_side.specs.constraint_rows.Standing.{AddsSome, IsStanding, readings, Sourced}
use Rattle.spv_share.specs.declared.relations.Related.{Related}
use Rattle.spv_share.specs.declared.relations.Noted.{Noted}
use Rattle.spv_share.specs.declared.both.Both.{Both}
use Rattle.spv_share.specs.declared.both.Level.{Level}
use Rattle.spv_share.specs.Relations.{AreRelations, AreSaid, IsRelation, sayable, sides_in}
use Rattle.spv_share.proofs.Noted.{noted_as}
use Rattle.spv_share.proofs.Ties.{tied_same}
use Rattle.spv_share.proofs.RowConstraint.{said_as}
use Rattle.spv_share.specs.Both.{AreReasoned, IsLevel, IsSound}

-- ---- relations where terms were added

pub relation_more : (a : Arena) (old new : List (Option Node)) (r : Related) → ((t : TermId) → IsNode old t → IsNode new t) → IsRelation a old r → IsRelation a new r
relation_more a old new r more h = record {
  within = h.within;
  left_in = h.left_in;
  right_in = h.right_in;
  left = more r.left h.left;
  right = more r.right h.right;
  is = h.is;
  sides = h.sides;
}

pub relations_more : (a : Arena) (old new : List (Option Node)) (rels : List Related) → ((t : TermId) → IsNode old t → IsNode new t) → AreRelations a old rels → AreRelations a new rels
relations_more a old new rels more h = record {
  each = λ row r at. relation_more a old new r more (h.each row r at);
  placed = h.placed;
}

-- ---- bounds where the derivation goes on

pub sourced_on : (a : Arena) (old more new : List Entry) (st : Standing) (bounds : List Bound) → new ≡ old ++ more → Sourced a (readings a old) st bounds → Sourced a (readings a new) st bounds
sourced_on a old more new st bounds e h =
    let P : List Entry → Type 0 = λ es. Sourced a (readings a es) st bounds in
    subst P (sym e) (sourced_stays a old more st.tableau.forms bounds (sources_in st.sources.items) h)

-- ---- one side changed

pub sound_trail : (a : Arena) (old : Both) (tr : Trail) → IsSound a old → Holds a tr → Grows old.trail tr → IsSound a (record old { trail = tr })
sound_trail a old tr h holds grows = record {
  trail = holds;
  standing = h.standing;
  related = record { are = relations_more a old.trail.graph.nodes tr.graph.nodes old.relations.items grows.nodes h.related.are; rows = h.related.rows };
  sourced = sourced_on a old.trail.derivation grows.entries tr.derivation old.standing old.standing.tableau.bounds grows.derivation h.sourced;
  inside = h.inside;
  numbers = h.numbers;
  asserted = h.asserted;
  said = h.said;
}

pub sound_standing : (a : Arena) (old : Both) (st : Standing) → IsSound a old → IsStanding st → st.tableau.forms ≡ old.standing.tableau.forms → Sourced a (readings a old.trail.derivation) st st.tableau.bounds
    → HoldsAsserted (sayable old.relations.items old.standing.tableau.forms) st.tableau → AreSaid old.relations.items st.tableau.forms st.tableau.bounds → IsSound a (record old { standing = st })
sound_standing a old st h stands forms sourced asserted said = record {
  trail = h.trail;
  standing = stands;
  related = record { are = h.related.are; rows = subst (λ (fs : List IdForm). AreRowsOf a (map (sides_in a) old.relations.items) fs) (sym forms) h.related.rows };
  sourced = sourced;
  inside = subst (AreIn a) (sym forms) h.inside;
  numbers = h.numbers;
  asserted = subst (λ (fs : List IdForm). HoldsAsserted (sayable old.relations.items fs) st.tableau) (sym forms) asserted;
  said = said;
}

pub sound_as : (a : Arena) (old new : Both) → IsSound a old → new.trail ≡ old.trail → new.standing ≡ old.standing → new.relations ≡ old.relations → new.one ≡ old.one → new.zero ≡ old.zero → IsSound a new
sound_as a old new h trail standing relations one zero = record {
  trail = subst (Holds a) (sym trail) h.trail;
  standing = subst IsStanding (sym standing) h.standing;
  related = record {
    are = subst (λ (t : Trail). AreRelations a t.graph.nodes new.relations.items) (sym trail) (subst (λ (rs : List Related). AreRelations a old.trail.graph.nodes rs) (sym (ap (λ v. v.items) relations)) h.related.are);
    rows = subst (λ (s : Standing). AreRowsOf a (map (sides_in a) new.relations.items) s.tableau.forms) (sym standing)
        (subst (λ (rs : List Related). AreRowsOf a (map (sides_in a) rs) old.standing.tableau.forms) (sym (ap (λ v. v.items) relations)) h.related.rows);
  };
  sourced = subst (λ (t : Trail). Sourced a (readings a t.derivation) new.standing new.standing.tableau.bounds) (sym trail)
      (subst (λ (s : Standing). Sourced a (readings a old.trail.derivation) s s.tableau.bounds) (sym standing) h.sourced);
  inside = subst (λ (s : Standing). AreIn a s.tableau.forms) (sym standing) h.inside;
  numbers = subst (λ (t : TermId). AreOneAndZero a t new.zero) (sym one) (subst (λ (t : TermId). AreOneAndZero a old.one t) (sym zero) h.numbers);
  asserted = subst (λ (s : Standing). HoldsAsserted (sayable new.relations.items s.tableau.forms) s.tableau) (sym standing)
      (subst (λ (rs : List Related). HoldsAsserted (sayable rs old.standing.tableau.forms) old.standing.tableau) (sym (ap (λ v. v.items) relations)) h.asserted);
  said =
      said_as old.relations.items new.relations.items old.standing.tableau.forms new.standing.tableau.forms old.standing.tableau.bounds new.standing.tableau.bounds (ap (λ v. v.items) relations)
      (ap (λ (s : Standing). s.tableau.forms) standing) (ap (λ (s : Standing). s.tableau.bounds) standing) h.said;
}

-- ---- levels

-- the first entries and bounds are what they were
pub record GoesBehind (old new : Both) : Type 0 where
  pub trail : Grows old.trail new.trail
  pub standing : AddsSome old.standing new.standing
  pub relations : new.relations.items ≡ old.relations.items
  pub more : List Noted
  pub claims : new.claims.items ≡ old.claims.items ++ more

take_first : {A : Type 0} (old more new : List A) (n : ℕ) → new ≡ old ++ more → n ≤ length old → take n new ≡ take n old
take_first old more new n e h = ap (take n) e ∙ take-append-le n old more h

within : {A : Type 0} (old more new : List A) (n : ℕ) → new ≡ old ++ more → n ≤ length old → n ≤ length new
within old more new n e h = let l : length new ≡ length old + length more = ap length e ∙ length-append old more in omega (arith, l)

pub was_so_far : (a : Arena) (old new : Trail) (entries facts : ℕ) → Grows old new → WasSoFar a old entries facts → WasSoFar a new entries facts
was_so_far a old new entries facts g h = record {
  entries_in = within old.derivation g.entries new.derivation entries g.derivation h.entries_in;
  facts_in = within old.graph.told g.facts new.graph.told facts g.told h.facts_in;
  backs =
      let first : take entries new.derivation ≡ take entries old.derivation = take_first old.derivation g.entries new.derivation entries g.derivation h.entries_in in
      let told : take facts new.graph.told ≡ take facts old.graph.told = take_first old.graph.told g.facts new.graph.told facts g.told h.facts_in in
      subst (λ (es : List Entry). Backs a es (take facts new.graph.told)) (sym first) (subst (λ (xs : List Fact). Backs a (take entries old.derivation) xs) (sym told) h.backs);
}

pub level_stays : (a : Arena) (old new : Both) (l : Level) → GoesBehind old new → IsLevel a old l → IsLevel a new l
level_stays a old new l g h = record {
  trail = was_so_far a old.trail new.trail l.trail.entries l.trail.facts g.trail h.trail;
  mark = h.mark;
  bounds_in = within old.standing.tableau.bounds g.standing.more new.standing.tableau.bounds l.bounds g.standing.adds.bounds h.bounds_in;
  sourced =
      subst (λ (es : List Entry). Sourced a (readings a es) new.standing (take l.bounds new.standing.tableau.bounds)) (sym first)
      (subst (λ (bs : List Bound). Sourced a (readings a (take l.trail.entries old.trail.derivation)) new.standing bs) (sym bounds)
      (g.standing.adds.first a (readings a (take l.trail.entries old.trail.derivation)) l.bounds h.bounds_in h.sourced));
  said =
      said_as old.relations.items new.relations.items old.standing.tableau.forms new.standing.tableau.forms (take l.bounds old.standing.tableau.bounds) (take l.bounds new.standing.tableau.bounds) g.relations g.standing.adds.forms bounds h.said;
  claims_in = within old.claims.items g.more new.claims.items l.claims g.claims h.claims_in;
  claims =
      noted_as a old.relations.items new.relations.items (take l.trail.entries old.trail.derivation) (take l.trail.entries new.trail.derivation) (take l.claims old.claims.items) (take l.claims new.claims.items) g.relations first
      (take_first old.claims.items g.more new.claims.items l.claims g.claims h.claims_in) h.claims;
  tied =
      tied_same a old.trail.truth old.trail.falsity new.trail.truth new.trail.falsity (literals (take l.trail.entries old.trail.derivation)) (literals (take l.trail.entries new.trail.derivation)) (take l.trail.facts old.trail.graph.told)
      (take l.trail.facts new.trail.graph.told) g.trail.truth g.trail.falsity (ap literals first) facts h.tied;
  reasons =
      subst (λ (rs : List Related). AreReasoned a rs (literals (take l.trail.entries new.trail.derivation)) (ties (take l.trail.facts new.trail.graph.told))) (sym g.relations)
      (subst (λ (es : List Entry). AreReasoned a old.relations.items (literals es) (ties (take l.trail.facts new.trail.graph.told))) (sym first)
      (subst (λ (xs : List Fact). AreReasoned a old.relations.items (literals (take l.trail.entries old.trail.derivation)) (ties xs)) (sym facts) h.reasons));
}
  where
    facts : take l.trail.facts new.trail.graph.told ≡ take l.trail.facts old.trail.graph.told
    facts = take_first old.trail.graph.told g.trail.facts new.trail.graph.told l.trail.facts g.trail.told h.trail.facts_in

    first : take l.trail.entries new.trail.derivation ≡ take l.trail.entries old.trail.derivation
    first = take_first old.trail.derivation g.trail.entries new.trail.derivation l.trail.entries g.trail.derivation h.trail.entries_in

    bounds : take l.bounds new.standing.tableau.bounds ≡ take l.bounds old.standing.tableau.bounds
    bounds = take_first old.standing.tableau.bounds g.standing.more new.standing.tableau.bounds l.bounds g.standing.adds.bounds h.bounds_in
