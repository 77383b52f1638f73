-- Going back to a level.
use Rattle.std.proofs.Common.{◌≡◌, ℕ, zero, suc, ◌≤◌, List, [], ◌∷◌, map, take, drop, length, refl, sym, ap, ◌∙◌, subst, Option, Some, Vec, Global, arith}
use Rattle.std.specs.Prelude.{slice_get}
use Rattle.std.proofs.lemmas.List.{length-take-le, take-append-drop}
use Rattle.std.proofs.lemmas.Option.{slice_get_within}
use Rattle.spv_logic.specs.declared.conditions.TermId.{TermId}
use Rattle.spv_term.specs.declared.nodes.Node.{Node}
use Rattle.spv_term.specs.Arena.{Arena}
use Rattle.spv_term.proofs.ListLemmas.{slice_get-append_left}
use Rattle.spv_tableau_rules.specs.tableaux.Bounds.{Bound}
use Rattle.spv_congruence.specs.declared.facts.Fact.{Fact}
use Rattle.spv_congruence.specs.Keep.{IsNode}
use Rattle.spv_congruence.specs.Told.{Undone}
use Rattle.spv_derivations.specs.declared.derivation.entries.Entry.{Entry}
use Rattle.spv_derivations.specs.derivation.Derivation.{IsDerivation}
use Rattle.spv_derivations.specs.derivation.Derived.{IsTrueTerm, IsFalseTerm}
use Rattle.spv_derivations.specs.derivation.Literals.{literals}
use Rattle.spv_derivations.proofs.derivation.Growth.{derivation-take}
use Rattle.spv_derivations.proofs.derivation.Literals.{literals-take}
use Rattle.spv_atoms.specs.Linear.{IdForm}
use Rattle.spv_tableau_rules.specs.constraints.Relations.{AreIn, AreRowsOf}
use Rattle.spv_arithmetic_side.specs.farkas.Refuted.{AreOneAndZero}
use Rattle.spv_tableau_rules.specs.constraints.Sources.{AreSourced}
use Rattle.spv_arithmetic_side.specs.declared.bounds.sources.RowSources.{RowSources}
use Rattle.spv_arithmetic_side.specs.bounds.Sources.{sources_in}
use Rattle.spv_simplex.specs.State.{State, with_first}
use Rattle.spv_simplex.specs.Checks.{HoldsAsserted}
use Rattle.spv_simplex.proofs.Held.{undoes_none}
use Rattle.spv_explanations.specs.congruence_side.Telling.{ties}
use Rattle.spv_explanations.specs.declared.congruence_side.trail.Trail.{Trail}
use Rattle.spv_explanations.specs.congruence_side.Holding.{Backs, Holds, WasSoFar}
use Rattle.spv_arithmetic_side.specs.declared.constraint_rows.standing.Standing.{Standing}
use Rattle.spv_arithmetic_side.specs.constraint_rows.Standing.{IsStanding, readings, Sourced}
use Rattle.spv_share.specs.declared.relations.Noted.{Noted}
use Rattle.spv_share.specs.declared.relations.Related.{Related}
use Rattle.spv_share.specs.declared.both.Both.{Both}
use Rattle.spv_share.specs.declared.both.Level.{Level}
use Rattle.spv_share.specs.Relations.{AreRelations, sayable, sides_in}
use Rattle.spv_share.proofs.Noted.{noted_as}
use Rattle.spv_share.proofs.Ties.{tied_same}
use Rattle.spv_share.proofs.RowConstraint.{said_as}
use Rattle.spv_share.specs.Both.{AreReasoned, IsBoth, IsLevel, IsNoLater, IsSound, Stays, told}
use Rattle.spv_share.proofs.Sound.{relations_more}

-- ---- the first items of a list

pub take-take : {A : Type 0} (n m : ℕ) (xs : List A) → n ≤ m → take n (take m xs) ≡ take n xs
take-take zero m xs h = none (take m xs) ∙ sym (none xs)
  where
    none : {B : Type 0} (ys : List B) → take 0 ys ≡ []
    none [] = refl
    none (y ∷ ys) = refl
take-take (suc n) zero xs h = absurd (omega arith)
take-take (suc n) (suc m) [] h = refl
take-take (suc n) (suc m) (x ∷ xs) h = ap (λ ys. x ∷ ys) (take-take n m xs (omega arith))

-- an item of the first ones
among_first : {A : Type 0} (xs : List A) (n i : ℕ) (x : A) → slice_get (take n xs) i ≡ Some x → slice_get xs i ≡ Some x
among_first xs n i x at =
    sym (ap (λ ys. slice_get ys i) (take-append-drop n xs)) ∙ (slice_get-append_left (take n xs) (drop n xs) i (slice_get_within (take n xs) i x at) ∙ at)

shorter : {A : Type 0} (xs : List A) (n m : ℕ) → n ≤ m → m ≤ length xs → n ≤ length (take m xs)
shorter xs n m h k = let e : length (take m xs) ≡ m = length-take-le m xs k in omega (arith, e)

-- ---- the trail

node_as : (old new : List (Option Node)) (t : TermId) → new ≡ old → IsNode old t → IsNode new t
node_as old new t e h = (h.0, ap (λ ns. slice_get ns t.0) e ∙ h.1)

pub undone_holds : (a : Arena) (old new : Trail) (entries facts : ℕ) → Holds a old → WasSoFar a old entries facts → new.derivation ≡ take entries old.derivation → Undone old.graph facts new.graph
    → new.facts.items ≡ take facts old.facts.items → new.truth ≡ old.truth → new.falsity ≡ old.falsity → Holds a new
undone_holds a old new entries facts h w derivation u kept truth falsity = record {
  of = record { node = λ t n at. h.of.node t n (ap (λ ns. slice_get ns t.0) (sym u.nodes) ∙ at) };
  derivation = subst (IsDerivation a) (sym derivation) (derivation-take a old.derivation entries h.derivation);
  kept = kept ∙ (ap (take facts) h.kept ∙ sym u.told);
  backs = subst (λ (es : List Entry). Backs a es new.graph.told) (sym derivation) (subst (λ (xs : List Fact). Backs a (take entries old.derivation) xs) (sym u.told) w.backs);
  ends = record { each = ends };
  truth = subst (IsTrueTerm a) (sym truth) h.truth;
  falsity = subst (IsFalseTerm a) (sym falsity) h.falsity;
  truth_node = node_as old.graph.nodes new.graph.nodes new.truth u.nodes (subst (IsNode old.graph.nodes) (sym truth) h.truth_node);
  falsity_node = node_as old.graph.nodes new.graph.nodes new.falsity u.nodes (subst (IsNode old.graph.nodes) (sym falsity) h.falsity_node);
}
  where
    ends : (place : ℕ) (x : Fact) → slice_get new.graph.told place ≡ Some x → IsNode new.graph.nodes x.left × IsNode new.graph.nodes x.right
    ends place x at =
        let both = h.ends.each place x (among_first old.graph.told facts place x (ap (λ xs. slice_get xs place) (sym u.told) ∙ at)) in
        (node_as old.graph.nodes new.graph.nodes x.left u.nodes both.0, node_as old.graph.nodes new.graph.nodes x.right u.nodes both.1)

-- ---- both sides

-- what going back leaves
pub record GoesBack (old new : Both) (l : Level) : Type 0 where
  pub derivation : new.trail.derivation ≡ take l.trail.entries old.trail.derivation
  pub graph : Undone old.trail.graph l.trail.facts new.trail.graph
  pub facts : new.trail.facts.items ≡ take l.trail.facts old.trail.facts.items
  pub truth : new.trail.truth ≡ old.trail.truth
  pub falsity : new.trail.falsity ≡ old.trail.falsity
  pub stands : IsStanding new.standing
  pub tableau : new.standing.tableau ≡ with_first old.standing.tableau l.bounds
  pub sources : new.standing.sources.items ≡ old.standing.sources.items
  pub claims : new.claims.items ≡ take l.claims old.claims.items
  pub relations : new.relations.items ≡ old.relations.items
  pub one : new.one ≡ old.one
  pub zero_same : new.zero ≡ old.zero

abbrev VecOf : Type 0 → Type 0
VecOf A = Vec A Global

pub went_back : (old : Both) (l : Level) (tr : Trail) (st : Standing) (cs : VecOf Noted) → tr.derivation ≡ take l.trail.entries old.trail.derivation → Undone old.trail.graph l.trail.facts tr.graph
    → tr.facts.items ≡ take l.trail.facts old.trail.facts.items → tr.truth ≡ old.trail.truth → tr.falsity ≡ old.trail.falsity → IsStanding st → st.tableau ≡ with_first old.standing.tableau l.bounds
    → st.sources ≡ old.standing.sources → cs.items ≡ take l.claims old.claims.items → GoesBack old (record old { trail = tr; standing = st; claims = cs }) l
went_back old l tr st cs derivation graph facts truth falsity stands tableau sources claims = record {
  derivation = derivation;
  graph = graph;
  facts = facts;
  truth = truth;
  falsity = falsity;
  stands = stands;
  tableau = tableau;
  sources = ap (λ v. v.items) sources;
  claims = claims;
  relations = refl;
  one = refl;
  zero_same = refl;
}

module _ (a : Arena) (old new : Both) (l : Level) (g : GoesBack old new l) where
  forms_same : new.standing.tableau.forms ≡ old.standing.tableau.forms
  forms_same = ap (λ (s : State). s.forms) g.tableau

  bounds_are : new.standing.tableau.bounds ≡ take l.bounds old.standing.tableau.bounds
  bounds_are = ap (λ (s : State). s.bounds) g.tableau

  -- what was known of sources stays known
  sourced_back : (es : List Entry) (bounds : List Bound) → Sourced a (readings a es) old.standing bounds → Sourced a (readings a es) new.standing bounds
  sourced_back es bounds h =
      let P : List IdForm → Type 0 = λ fs. AreSourced a (readings a es) fs bounds (sources_in new.standing.sources.items) in
      let Q : List RowSources → Type 0 = λ ss. AreSourced a (readings a es) old.standing.tableau.forms bounds (sources_in ss) in
      subst P (sym forms_same) (subst Q (sym g.sources) h)

  pub back_sound : IsSound a old → IsLevel a old l → IsSound a new
  back_sound h k = record {
    trail = undone_holds a old.trail new.trail l.trail.entries l.trail.facts h.trail k.trail g.derivation g.graph g.facts g.truth g.falsity;
    standing = g.stands;
    related = record {
      are =
          let P : List Related → Type 0 = λ rs. AreRelations a new.trail.graph.nodes rs in
          subst P (sym g.relations) (relations_more a old.trail.graph.nodes new.trail.graph.nodes old.relations.items (λ t n. node_as old.trail.graph.nodes new.trail.graph.nodes t g.graph.nodes n) h.related.are);
      rows =
          let P : List Related → Type 0 = λ rs. AreRowsOf a (map (sides_in a) rs) new.standing.tableau.forms in
          let Q : List IdForm → Type 0 = λ fs. AreRowsOf a (map (sides_in a) old.relations.items) fs in
          subst P (sym g.relations) (subst Q (sym forms_same) h.related.rows);
    };
    sourced =
        let P : List Bound → Type 0 = λ bs. Sourced a (readings a new.trail.derivation) new.standing bs in
        let Q : List Entry → Type 0 = λ es. Sourced a (readings a es) new.standing (take l.bounds old.standing.tableau.bounds) in
        subst P (sym bounds_are) (subst Q (sym g.derivation) (sourced_back (take l.trail.entries old.trail.derivation) (take l.bounds old.standing.tableau.bounds) k.sourced));
    inside = let P : List IdForm → Type 0 = λ fs. AreIn a fs in subst P (sym forms_same) h.inside;
    numbers =
        let P : TermId → Type 0 = λ t. AreOneAndZero a t new.zero in
        let Q : TermId → Type 0 = λ t. AreOneAndZero a old.one t in
        subst P (sym g.one) (subst Q (sym g.zero_same) h.numbers);
    asserted =
        subst (λ (rs : List Related). HoldsAsserted (sayable rs new.standing.tableau.forms) new.standing.tableau) (sym g.relations)
        (subst (λ (s : State). HoldsAsserted (sayable old.relations.items s.forms) s) (sym g.tableau) (undoes_none (sayable old.relations.items old.standing.tableau.forms) old.standing.tableau l.bounds h.asserted));
    said =
        said_as old.relations.items new.relations.items old.standing.tableau.forms new.standing.tableau.forms (take l.bounds old.standing.tableau.bounds) new.standing.tableau.bounds g.relations forms_same bounds_are k.said;
  }

  pub back_stays : Stays old new
  back_stays = record {
    nodes = g.graph.nodes;
    terms = g.graph.added;
    truth = g.truth;
    falsity = g.falsity;
    relations = g.relations;
    forms = forms_same;
    pivots = ap (λ (s : State). s.pivots) g.tableau;
  }

  pub back_both : IsSound a old → IsLevel a old l → IsBoth a new
  back_both h k = record {
    sound = back_sound h k;
    claims =
        noted_as a old.relations.items new.relations.items (take l.trail.entries old.trail.derivation) new.trail.derivation (take l.claims old.claims.items) new.claims.items g.relations g.derivation g.claims k.claims;
    tied =
        tied_same a old.trail.truth old.trail.falsity new.trail.truth new.trail.falsity (literals (take l.trail.entries old.trail.derivation)) (told new) (take l.trail.facts old.trail.graph.told) new.trail.graph.told g.truth g.falsity
        (ap literals g.derivation) g.graph.told k.tied;
    reasons =
        subst (λ (rs : List Related). AreReasoned a rs (told new) (ties new.trail.graph.told)) (sym g.relations)
        (subst (λ (es : List Entry). AreReasoned a old.relations.items (literals es) (ties new.trail.graph.told)) (sym g.derivation)
        (subst (λ (xs : List Fact). AreReasoned a old.relations.items (literals (take l.trail.entries old.trail.derivation)) (ties xs)) (sym g.graph.told) k.reasons));
  }

  -- so many literals were told
  count_is : IsLevel a old l → length (literals (take l.trail.entries old.trail.derivation)) ≡ l.claims
  count_is k = sym k.claims.many ∙ length-take-le l.claims old.claims.items k.claims_in

  pub back_told : IsLevel a old l → told new ≡ take l.claims (told old)
  back_told k =
      ap literals g.derivation
      ∙ (literals-take old.trail.derivation l.trail.entries ∙ ap (λ n. take n (literals old.trail.derivation)) (count_is k))

  -- a level that is no later is one still
  pub back_level : IsLevel a old l → (m : Level) → IsLevel a old m → IsNoLater m l → IsLevel a new m
  back_level k m h e = record {
    trail = record {
      entries_in = subst (λ (es : List Entry). m.trail.entries ≤ length es) (sym g.derivation) (shorter old.trail.derivation m.trail.entries l.trail.entries e.entries k.trail.entries_in);
      facts_in = subst (λ (xs : List Fact). m.trail.facts ≤ length xs) (sym g.graph.told) (shorter old.trail.graph.told m.trail.facts l.trail.facts e.facts k.trail.facts_in);
      backs =
          subst (λ (es : List Entry). Backs a es (take m.trail.facts new.trail.graph.told)) (sym first)
          (subst (λ (xs : List Fact). Backs a (take m.trail.entries old.trail.derivation) xs) (sym facts) h.trail.backs);
    };
    mark = h.mark;
    bounds_in = subst (λ (bs : List Bound). m.bounds ≤ length bs) (sym bounds_are) (shorter old.standing.tableau.bounds m.bounds l.bounds e.bounds k.bounds_in);
    sourced =
        subst (λ (es : List Entry). Sourced a (readings a es) new.standing (take m.bounds new.standing.tableau.bounds)) (sym first)
        (subst (λ (bs : List Bound). Sourced a (readings a (take m.trail.entries old.trail.derivation)) new.standing bs) (sym bounds)
        (sourced_back (take m.trail.entries old.trail.derivation) (take m.bounds old.standing.tableau.bounds) h.sourced));
    said =
        said_as old.relations.items new.relations.items old.standing.tableau.forms new.standing.tableau.forms (take m.bounds old.standing.tableau.bounds) (take m.bounds new.standing.tableau.bounds) g.relations forms_same bounds h.said;
    claims_in = subst (λ (ns : List Noted). m.claims ≤ length ns) (sym g.claims) (shorter old.claims.items m.claims l.claims e.claims k.claims_in);
    claims =
        noted_as a old.relations.items new.relations.items (take m.trail.entries old.trail.derivation) (take m.trail.entries new.trail.derivation) (take m.claims old.claims.items) (take m.claims new.claims.items) g.relations first
        (ap (take m.claims) g.claims ∙ take-take m.claims l.claims old.claims.items e.claims) h.claims;
    tied =
        tied_same a old.trail.truth old.trail.falsity new.trail.truth new.trail.falsity (literals (take m.trail.entries old.trail.derivation)) (literals (take m.trail.entries new.trail.derivation)) (take m.trail.facts old.trail.graph.told)
        (take m.trail.facts new.trail.graph.told) g.truth g.falsity (ap literals first) facts h.tied;
    reasons =
        subst (λ (rs : List Related). AreReasoned a rs (literals (take m.trail.entries new.trail.derivation)) (ties (take m.trail.facts new.trail.graph.told))) (sym g.relations)
        (subst (λ (es : List Entry). AreReasoned a old.relations.items (literals es) (ties (take m.trail.facts new.trail.graph.told))) (sym first)
        (subst (λ (xs : List Fact). AreReasoned a old.relations.items (literals (take m.trail.entries old.trail.derivation)) (ties xs)) (sym facts) h.reasons));
  }
    where
      first : take m.trail.entries new.trail.derivation ≡ take m.trail.entries old.trail.derivation
      first = ap (take m.trail.entries) g.derivation ∙ take-take m.trail.entries l.trail.entries old.trail.derivation e.entries

      facts : take m.trail.facts new.trail.graph.told ≡ take m.trail.facts old.trail.graph.told
      facts = ap (take m.trail.facts) g.graph.told ∙ take-take m.trail.facts l.trail.facts old.trail.graph.told e.facts

      bounds : take m.bounds new.standing.tableau.bounds ≡ take m.bounds old.standing.tableau.bounds
      bounds = ap (take m.bounds) bounds_are ∙ take-take m.bounds l.bounds old.standing.tableau.bounds e.bounds

-- ---- marking

take_whole : {A : Type 0} (xs : List A) → take (length xs) xs ≡ xs
take_whole [] = refl
take_whole (x ∷ xs) = ap (λ ys. x ∷ ys) (take_whole xs)

same_length : (n m : ℕ) → n ≡ m → n ≤ m
same_length n m e = omega arith

pub level_now : (a : Arena) (b : Both) (l : Level) → IsBoth a b → l.trail.entries ≡ length b.trail.derivation → l.trail.facts ≡ length b.trail.facts.items → l.trail.mark ≡ length b.trail.graph.told
    → l.bounds ≡ length b.standing.tableau.bounds → l.claims ≡ length b.claims.items → IsLevel a b l
level_now a b l h entries facts mark bounds claims = record {
  trail = record {
    entries_in = same_length l.trail.entries (length b.trail.derivation) entries;
    facts_in = same_length l.trail.facts (length b.trail.graph.told) facts_are;
    backs =
        subst (λ (es : List Entry). Backs a es (take l.trail.facts b.trail.graph.told)) (sym derivation)
        (subst (λ (xs : List Fact). Backs a b.trail.derivation xs) (sym (ap (λ n. take n b.trail.graph.told) facts_are ∙ take_whole b.trail.graph.told)) h.sound.trail.backs);
  };
  mark = mark ∙ sym facts_are;
  bounds_in = same_length l.bounds (length b.standing.tableau.bounds) bounds;
  sourced =
      subst (λ (es : List Entry). Sourced a (readings a es) b.standing (take l.bounds b.standing.tableau.bounds)) (sym derivation)
      (subst (λ (bs : List Bound). Sourced a (readings a b.trail.derivation) b.standing bs) (sym (ap (λ n. take n b.standing.tableau.bounds) bounds ∙ take_whole b.standing.tableau.bounds)) h.sound.sourced);
  said =
      said_as b.relations.items b.relations.items b.standing.tableau.forms b.standing.tableau.forms b.standing.tableau.bounds (take l.bounds b.standing.tableau.bounds) refl refl
      (ap (λ n. take n b.standing.tableau.bounds) bounds ∙ take_whole b.standing.tableau.bounds) h.sound.said;
  claims_in = same_length l.claims (length b.claims.items) claims;
  claims =
      noted_as a b.relations.items b.relations.items b.trail.derivation (take l.trail.entries b.trail.derivation) b.claims.items (take l.claims b.claims.items) refl derivation (ap (λ n. take n b.claims.items) claims ∙ take_whole b.claims.items) h.claims;
  tied =
      tied_same a b.trail.truth b.trail.falsity b.trail.truth b.trail.falsity (told b) (literals (take l.trail.entries b.trail.derivation)) b.trail.graph.told (take l.trail.facts b.trail.graph.told) refl refl (ap literals derivation)
      (ap (λ n. take n b.trail.graph.told) facts_are ∙ take_whole b.trail.graph.told) h.tied;
  reasons =
      subst (λ (es : List Entry). AreReasoned a b.relations.items (literals es) (ties (take l.trail.facts b.trail.graph.told))) (sym derivation)
      (subst (λ (xs : List Fact). AreReasoned a b.relations.items (told b) (ties xs)) (sym (ap (λ n. take n b.trail.graph.told) facts_are ∙ take_whole b.trail.graph.told)) h.reasons);
}
  where
    derivation : take l.trail.entries b.trail.derivation ≡ b.trail.derivation
    derivation = ap (λ n. take n b.trail.derivation) entries ∙ take_whole b.trail.derivation

    facts_are : l.trail.facts ≡ length b.trail.graph.told
    facts_are = facts ∙ ap (λ (xs : List Fact). length xs) h.sound.trail.kept

pub claims_count : (a : Arena) (b : Both) → IsBoth a b → length b.claims.items ≡ length (told b)
claims_count a b h = h.claims.many

pub last_level : (a : Arena) (b : Both) (l m : Level) → l.trail.entries ≡ length b.trail.derivation → l.trail.facts ≡ length b.trail.graph.told
    → l.bounds ≡ length b.standing.tableau.bounds → l.claims ≡ length b.claims.items → IsLevel a b m → IsNoLater m l
last_level a b l m entries facts bounds claims h = record {
  entries = subst (λ (n : ℕ). m.trail.entries ≤ n) (sym entries) h.trail.entries_in;
  facts = subst (λ (n : ℕ). m.trail.facts ≤ n) (sym facts) h.trail.facts_in;
  bounds = subst (λ (n : ℕ). m.bounds ≤ n) (sym bounds) h.bounds_in;
  claims = subst (λ (n : ℕ). m.claims ≤ n) (sym claims) h.claims_in;
}
