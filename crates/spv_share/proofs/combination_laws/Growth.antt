-- Both sides where the arena grows.
use Rattle.std.proofs.Common.{◌≡◌, ℕ, zero, suc, ◌<◌, ◌≤◌, Bool, true, false, cond, ◌&&◌, ℤ, pos, List, [], ◌∷◌, ◌++◌, map, take, drop, length, refl, sym, ap, ◌∙◌, subst, Option, Some, None, arith}
use mathlib.Core.Path.{ap₂}
use Rattle.std.specs.Prelude.{slice_get}
use Rattle.std.proofs.lemmas.List.{take-append-drop}
use Rattle.std.proofs.lemmas.Option.{slice_get_within, same_Some}
use Rattle.spv_logic.specs.declared.conditions.TermId.{TermId}
use Rattle.spv_logic.specs.Formulas.{equation, negation}
use Rattle.spv_logic.specs.Terms.{no_terms, Term, term, terms}
use Rattle.spv_term.specs.declared.nodes.Node.{Node}
use Rattle.spv_term.specs.Arena.{AllBelow, Arena, Extends, IsArena, tree}
use Rattle.spv_term.proofs.ArenaLemmas.{args_in_range, length-Extends, slice_get-Extends, tree-Extends}
use Rattle.spv_term.proofs.ListLemmas.{slice_get-append_left}
use Rattle.spv_atoms.specs.Atoms as atoms
use Rattle.spv_atoms.specs.Linear.{form_over, IdForm, IsSameForm, over_trees, PartsIn}
use Rattle.spv_proof_rules.specs.Effects.{numbered}
use Rattle.spv_proof_rules.specs.Sums.{difference, Reading}
use Rattle.spv_tableau_rules.specs.tableaux.Bounds.{Bound}
use Rattle.spv_congruence.specs.declared.facts.Fact.{Fact}
use Rattle.spv_congruence.specs.Keep.{IsNode}
use Rattle.spv_congruence.specs.Told.{IsOf}
use Rattle.spv_derivations.specs.declared.derivation.entries.Part.{Part}
use Rattle.spv_derivations.specs.declared.derivation.entries.Part.TheVariants as part
use Rattle.spv_derivations.specs.declared.derivation.entries.Entry.{Entry}
use Rattle.spv_derivations.specs.declared.derivation.entries.Entry.TheVariants.{Derived, Told}
use Rattle.spv_derivations.specs.derivation.Derivation.{facts, IsDerivation, literal}
use Rattle.spv_derivations.specs.derivation.Derived.{is_number, is_truth, IsFalseTerm, IsTrueTerm}
use Rattle.spv_derivations.specs.derivation.Laws.{Stays}
use Rattle.spv_derivations.specs.derivation.Literals.{Literal, literals}
use Rattle.spv_derivations.specs.derivation.Sides.{node_sides, Pair, sides_at, sides_of_entry}
use Rattle.spv_derivations.proofs.derivation.Growth.{derivation-Extends, derivation-take}
use Rattle.spv_proof.specs.sums.Readings.{number_in}
use Rattle.spv_tableau_rules.specs.constraints.Relations.{AreIn, AreRowsOf, IsRowOf, number_sides}
use Rattle.spv_tableau_rules.specs.constraints.Sources.{AreSourced, fact_reading, IsSourced}
use Rattle.spv_arithmetic_side.specs.bounds.Sources.{sources_in}
use Rattle.spv_arithmetic_side.specs.farkas.Refuted.{AreOneAndZero}
use Rattle.spv_explanations.specs.declared.congruence_side.trail.Trail.{Trail}
use Rattle.spv_explanations.specs.congruence_side.Holding.{Backs, HasFacts, Holds, IsBackedFact, WasSoFar}
use Rattle.spv_explanations.specs.congruence_side.Telling.{equation_sides, literal_ties, sides_tie, Tie, tie_of, ties, unless_truths, value_tie}
use Rattle.spv_explanations.proofs.congruence_side.Ties.{has-sides, sides-node}
use Rattle.spv_arithmetic_side.specs.declared.constraint_rows.standing.Standing.{Standing}
use Rattle.spv_arithmetic_side.specs.constraint_rows.Standing.{readings, Sourced}
use Rattle.spv_share.specs.declared.both.Both.{Both}
use Rattle.spv_share.specs.declared.both.Level.{Level}
use Rattle.spv_share.specs.declared.relations.Related.{Related}
use Rattle.spv_share.specs.Relations.{AreRelations, IsRelation, sides_in}
use Rattle.spv_share.specs.declared.relations.Noted.{Noted}
use Rattle.spv_share.specs.Both.{AreNoted, AreReasoned, AreTied, IsBoth, IsLevel, IsReason, IsSound, of_literal, of_relation, of_truths, told}
use Rattle.spv_share.proofs.Closing.{tie_fact}
use Rattle.spv_share.proofs.Ties.{told_inside}

-- ---- lists

-- an item of the first ones
among_first : {A : Type 0} (xs : List A) (n i : ℕ) (x : A) → slice_get (take n xs) i ≡ Some x → slice_get xs i ≡ Some x
among_first xs n i x at = sym (ap (λ ys. slice_get ys i) (take-append-drop n xs)) ∙ (slice_get-append_left (take n xs) (drop n xs) i (slice_get_within (take n xs) i x at) ∙ at)

abbrev part_of : Term → ℤ → Term × ℤ
part_of t z = (t, z)

abbrev two : Term → Term → Term × Term
two s t = (s, t)

module _ (old new : Arena) (ok : IsArena old) (more : Extends old new) where
  below : (n : ℕ) → n < length old.nodes → n < length new.nodes
  below n h = let e = length-Extends more in omega (arith, e)

  tree_on : (t : TermId) → t.0 < length old.nodes → tree new t ≡ tree old t
  tree_on t h = tree-Extends more t h

  number_on : is_number new ≡ is_number old
  number_on = λ i. atoms.is_number (more.shapes i) (more.decls i)

  truth_on : is_truth new ≡ is_truth old
  truth_on = λ i. atoms.is_truth (more.shapes i) (more.decls i)

  node_on : (t : TermId) (n : Node) → slice_get old.nodes t.0 ≡ Some n → slice_get new.nodes t.0 ≡ Some n
  node_on t n at = slice_get-Extends more t (slice_get_within old.nodes t.0 n at) ∙ at

  -- ---- the trail

  node_sides_on : (t : TermId) (p : Pair) → node_sides (slice_get old.nodes t.0) ≡ Some p → node_sides (slice_get new.nodes t.0) ≡ Some p
  node_sides_on t p e = by_node (slice_get old.nodes t.0) refl e
    where
      by_node : (o : Option Node) → slice_get old.nodes t.0 ≡ o → node_sides o ≡ Some p → node_sides (slice_get new.nodes t.0) ≡ Some p
      by_node None at f = absurd (cc)
      by_node (Some n) at f = ap node_sides (node_on t n at) ∙ f

  entry_on : (o : Option Entry) (p : Pair) → sides_of_entry old o ≡ Some p → sides_of_entry new o ≡ Some p
  entry_on None p e = absurd (cc)
  entry_on (Some (Told t part.True why)) p e = node_sides_on t p e
  entry_on (Some (Told t part.False why)) p e = absurd (cc)
  entry_on (Some (Told t part.Below why)) p e = absurd (cc)
  entry_on (Some (Told t part.Above why)) p e = absurd (cc)
  entry_on (Some (Derived s)) p e = e

  sides_on : (es : List Entry) (n : ℕ) (p : Pair) → sides_at old es n ≡ Some p → sides_at new es n ≡ Some p
  sides_on es zero p e = absurd (cc)
  sides_on es (suc k) p e = entry_on (slice_get es k) p e

  inside : (nodes : List (Option Node)) (t : TermId) → ((t : TermId) (n : Node) → slice_get nodes t.0 ≡ Some (Some n) → slice_get old.nodes t.0 ≡ Some n) → IsNode nodes t → t.0 < length old.nodes
  inside nodes t of n = slice_get_within old.nodes t.0 n.0 (of t n.0 n.1)

  -- ids of facts are in the arena
  record AreInside (xs : List Fact) : Type 0 where
    each : (place : ℕ) (x : Fact) → slice_get xs place ≡ Some x → (x.left.0 < length old.nodes) × (x.right.0 < length old.nodes)

  facts_inside : (tr : Trail) → Holds old tr → AreInside tr.graph.told
  facts_inside tr h = record {
    each = λ place x at. let n = h.ends.each place x at in (inside tr.graph.nodes x.left (λ t m e. h.of.node t m e) n.0, inside tr.graph.nodes x.right (λ t m e. h.of.node t m e) n.1);
  }

  first_inside : (xs : List Fact) (n : ℕ) → AreInside xs → AreInside (take n xs)
  first_inside xs n h = record { each = λ place x at. h.each place x (among_first xs n place x at) }

  backs_on : (es : List Entry) (xs : List Fact) → IsDerivation old es → AreInside xs → Backs old es xs → Backs new es xs
  backs_on es xs derivation within h = record { each = each }
    where
      each : (place : ℕ) (x : Fact) → slice_get xs place ≡ Some x → IsBackedFact new es x
      each place x at =
          let k = h.each place x at in
          let ids = within.each place x at in
          record {
            equal = λ e. sides_on es x.why (x.left, x.right) (k.equal e);
            apart = λ e.
                ap (λ ts. numbered ts x.why) (derivation-Extends more es derivation).facts_same
                ∙ (k.apart e ∙ ap₂ (λ s t. Some (negation (equation s t))) (sym (tree_on x.left ids.0)) (sym (tree_on x.right ids.1)));
          }

  true_on : (t : TermId) → IsTrueTerm old t → IsTrueTerm new t
  true_on t h = record { within = below t.0 h.within; is = tree_on t h.within ∙ h.is }

  false_on : (t : TermId) → IsFalseTerm old t → IsFalseTerm new t
  false_on t h = record { within = below t.0 h.within; is = tree_on t h.within ∙ h.is }

  holds_on : (tr : Trail) → Holds old tr → Holds new tr
  holds_on tr h = record {
    of = record { node = λ t n at. node_on t n (h.of.node t n at) };
    derivation = (derivation-Extends more tr.derivation h.derivation).derivation;
    kept = h.kept;
    backs = backs_on tr.derivation tr.graph.told h.derivation (facts_inside tr h) h.backs;
    ends = h.ends;
    truth = true_on tr.truth h.truth;
    falsity = false_on tr.falsity h.falsity;
    truth_node = h.truth_node;
    falsity_node = h.falsity_node;
  }

  -- ---- rows

  parts_on : (ps : List (TermId × ℤ)) → PartsIn old ps → PartsIn new ps
  parts_on [] h = tt
  parts_on (p ∷ ps) h = (below p.0.0 h.0, parts_on ps h.1)

  parts_same : (ps : List (TermId × ℤ)) → PartsIn old ps → over_trees new ps ≡ over_trees old ps
  parts_same [] h = refl
  parts_same (p ∷ ps) h = ap₂ (λ t rest. part_of t p.1 ∷ rest) (tree_on p.0 h.0) (parts_same ps h.1)

  row_on : (st : Term × Term) (f : IdForm) → IsRowOf old st f → IsRowOf new st f
  row_on st f h = record {
    in_range = parts_on f.parts h.in_range;
    same = subst (λ ps. IsSameForm (record { parts = ps; constant = f.constant }) (difference st.0 st.1 (pos 0))) (sym (parts_same f.parts h.in_range)) h.same;
  }

  sides_same : (r : Related) → r.left.0 < length old.nodes → r.right.0 < length old.nodes → sides_in new r ≡ sides_in old r
  sides_same r left right = ap₂ two (tree_on r.left left) (tree_on r.right right)

  -- the sides are in the arena
  record HaveSides (rels : List Related) : Type 0 where
    each : (i : ℕ) (r : Related) → slice_get rels i ≡ Some r → (r.left.0 < length old.nodes) × (r.right.0 < length old.nodes)

  rows_on : (rels : List Related) (forms : List IdForm) → HaveSides rels → AreRowsOf old (map (sides_in old) rels) forms → AreRowsOf new (map (sides_in new) rels) forms
  rows_on [] [] h k = tt
  rows_on [] (f ∷ forms) h k = absurd k
  rows_on (r ∷ rels) [] h k = absurd k
  rows_on (r ∷ rels) (f ∷ forms) h k =
      let ids = h.each 0 r refl in
      (subst (λ st. IsRowOf new st f) (sym (sides_same r ids.0 ids.1)) (row_on (sides_in old r) f k.0), rows_on rels forms (record { each = λ i q at. h.each (suc i) q at }) k.1)

  relation_on : (nodes : List (Option Node)) (r : Related) → IsRelation old nodes r → IsRelation new nodes r
  relation_on nodes r h = record {
    within = below r.atom.0 h.within;
    left_in = below r.left.0 h.left_in;
    right_in = below r.right.0 h.right_in;
    left = h.left;
    right = h.right;
    is = tree_on r.atom h.within ∙ (h.is ∙ ap₂ (λ s t. term r.head (terms s (terms t no_terms))) (sym (tree_on r.left h.left_in)) (sym (tree_on r.right h.right_in)));
    sides =
        ap (λ f. number_sides f (tree new r.atom)) number_on
        ∙ (ap (number_sides (number_in old)) (tree_on r.atom h.within) ∙ (h.sides ∙ ap (λ st. Some st) (sym (sides_same r h.left_in h.right_in))));
  }

  relations_on : (nodes : List (Option Node)) (rels : List Related) → AreRelations old nodes rels → AreRelations new nodes rels
  relations_on nodes rels h = record { each = λ row r at. relation_on nodes r (h.each row r at); placed = h.placed }

  -- ---- where bounds come from

  readings_on : (es : List Entry) → IsDerivation old es → readings new es ≡ readings old es
  readings_on es derivation = ap₂ (λ f ts. fact_reading f ts) number_on (derivation-Extends more es derivation).facts_same

  sourced_on : (es : List Entry) (st : Standing) (bounds : List Bound) → IsDerivation old es → Sourced old (readings old es) st bounds → Sourced new (readings new es) st bounds
  sourced_on es st bounds derivation h = record {
    each = λ i f side value at bound.
        let k = h.each i f side value at bound in
        record {
          left = k.left;
          right = k.right;
          saying = k.saying;
          row = row_on (k.left, k.right) f k.row;
          bound = k.bound;
          read = ap (λ g. g (sources_in st.sources.items i side).fact) (readings_on es derivation) ∙ k.read;
          equal = k.equal;
        };
  }

  in_on : (forms : List IdForm) → AreIn old forms → AreIn new forms
  in_on forms h = record { each = λ i f at. parts_on f.parts (h.each i f at) }

  numbers_on : (one zero_id : TermId) → AreOneAndZero old one zero_id → AreOneAndZero new one zero_id
  numbers_on one zero_id h = record {
    one_in = below one.0 h.one_in;
    zero_in = below zero_id.0 h.zero_in;
    one_is = tree_on one h.one_in ∙ h.one_is;
    zero_is = tree_on zero_id h.zero_in ∙ h.zero_is;
  }

  -- ---- reasons

  truth_of : (t : TermId) → t.0 < length old.nodes → is_truth new (tree new t) ≡ is_truth old (tree old t)
  truth_of t h = ap (λ f. f (tree new t)) truth_on ∙ ap (is_truth old) (tree_on t h)

  equation_on : (t : TermId) (st : Pair) → equation_sides old t ≡ Some st → equation_sides new t ≡ Some st
  equation_on t st e =
      let sides = sides-node old t st e in
      let k = has-sides old t st sides in
      let args = args_in_range old ok t k.node k.at in
      let ids = subst (λ xs. AllBelow (length old.nodes) xs) k.args args in
      ap (unless_truths new) (node_sides_on t st sides)
      ∙ (ap₂ (λ b c. cond (b && c) None (Some st)) (truth_of st.0 ids.0) (truth_of st.1 ids.1.0) ∙ (ap (unless_truths old) (sym sides) ∙ e))

  reason_on : (rels : List Related) (ls : List Literal) (x : Tie) → x.left.0 < length old.nodes → x.right.0 < length old.nodes → IsReason old rels ls x → IsReason new rels ls x
  reason_on rels ls x left right (of_truths h k) = of_truths (truth_of x.left left ∙ h) (truth_of x.right right ∙ k)
  reason_on rels ls x left right (of_literal place l st at p e f g) = of_literal place l st at p (equation_on l.atom st e) f g
  reason_on rels ls x left right (of_relation row r at head f g) = of_relation row r at head f g

  reasons_on : (rels : List Related) (ls : List Literal) (xs : List Fact) → AreInside xs → AreReasoned old rels ls (ties xs) → AreReasoned new rels ls (ties xs)
  reasons_on rels ls xs within h = record { each = each }
    where
      each : (place : ℕ) (x : Tie) → slice_get (ties xs) place ≡ Some x → x.equal ≡ true → IsReason new rels ls x
      each place x at e =
          let f = tie_fact xs place x at in
          let ids = within.each place f.fact f.there in
          reason_on rels ls x (subst (λ (y : Tie). y.left.0 < length old.nodes) f.is ids.0) (subst (λ (y : Tie). y.right.0 < length old.nodes) f.is ids.1) (h.each place x at e)

  -- ---- ties

  equation_same : (t : TermId) → t.0 < length old.nodes → equation_sides new t ≡ equation_sides old t
  equation_same t h = by_sides (node_sides (slice_get old.nodes t.0)) refl
    where
      sides_same : node_sides (slice_get new.nodes t.0) ≡ node_sides (slice_get old.nodes t.0)
      sides_same = ap node_sides (slice_get-Extends more t h)

      by_sides : (o : Option Pair) → node_sides (slice_get old.nodes t.0) ≡ o → equation_sides new t ≡ equation_sides old t
      by_sides None e = ap (unless_truths new) (sides_same ∙ e) ∙ sym (ap (unless_truths old) e)
      by_sides (Some st) e =
          let k = has-sides old t st e in
          let args = args_in_range old ok t k.node k.at in
          let ids = subst (λ xs. AllBelow (length old.nodes) xs) k.args args in
          ap (unless_truths new) (sides_same ∙ e)
          ∙ (ap₂ (λ b c. cond (b && c) None (Some st)) (truth_of st.0 ids.0) (truth_of st.1 ids.1.0) ∙ sym (ap (unless_truths old) e))

  ties_same : (truth falsity t : TermId) (p : Part) → t.0 < length old.nodes → literal_ties new truth falsity t p ≡ literal_ties old truth falsity t p
  ties_same truth falsity t part.True h = ap (λ o. value_tie t truth ∷ sides_tie true o) (equation_same t h)
  ties_same truth falsity t part.False h = ap (λ o. value_tie t falsity ∷ sides_tie false o) (equation_same t h)
  ties_same truth falsity t part.Below h = ap (λ o. value_tie t falsity ∷ sides_tie false o) (equation_same t h)
  ties_same truth falsity t part.Above h = ap (λ o. value_tie t falsity ∷ sides_tie false o) (equation_same t h)

  tied_on : (truth falsity : TermId) (rels : List Related) (es : List Entry) (ns : List Noted) (ts : List Tie) → AreNoted old rels es ns → AreTied old truth falsity (literals es) ts → AreTied new truth falsity (literals es) ts
  tied_on truth falsity rels es ns ts noted h = record {
    each = λ place l i x at there.
        h.each place l i x at (ap (λ xs. slice_get xs i) (sym (ties_same truth falsity l.atom l.part (told_inside old rels es ns noted place l at))) ∙ there);
  }

  -- ---- both sides

  sound_on : (b : Both) → IsSound old b → IsSound new b
  sound_on b h = record {
    trail = holds_on b.trail h.trail;
    standing = h.standing;
    related = record {
      are = relations_on b.trail.graph.nodes b.relations.items h.related.are;
      rows =
          rows_on b.relations.items b.standing.tableau.forms (record { each = λ i r at. let k = h.related.are.each i r at in (k.left_in, k.right_in) }) h.related.rows;
    };
    sourced = sourced_on b.trail.derivation b.standing b.standing.tableau.bounds h.trail.derivation h.sourced;
    inside = in_on b.standing.tableau.forms h.inside;
    numbers = numbers_on b.one b.zero h.numbers;
    asserted = h.asserted;
    said = h.said;
  }

  -- what is noted of literals
  noted_on : (rels : List Related) (es : List Entry) (ns : List Noted) → IsDerivation old es → AreNoted old rels es ns → AreNoted new rels es ns
  noted_on rels es ns derivation h = record {
    many = h.many;
    each = λ place l n at there.
        let k = h.each place l n at there in
        record {
          within = below l.atom.0 k.within;
          claim = k.claim;
          fact = ap (λ ts. numbered ts n.fact) (derivation-Extends more es derivation).facts_same ∙ (k.fact ∙ ap (λ t. Some (literal t l.part)) (sym (tree_on l.atom k.within)));
        };
  }

  pub both_on : (b : Both) → IsBoth old b → IsBoth new b
  both_on b h = record {
    sound = sound_on b h.sound;
    claims = noted_on b.relations.items b.trail.derivation b.claims.items h.sound.trail.derivation h.claims;
    tied = tied_on b.trail.truth b.trail.falsity b.relations.items b.trail.derivation b.claims.items (ties b.trail.graph.told) h.claims h.tied;
    reasons = reasons_on b.relations.items (told b) b.trail.graph.told (facts_inside b.trail h.sound.trail) h.reasons;
  }

  pub level_on : (b : Both) → IsBoth old b → (l : Level) → IsLevel old b l → IsLevel new b l
  level_on b h l k = record {
    trail = record {
      entries_in = k.trail.entries_in;
      facts_in = k.trail.facts_in;
      backs =
          backs_on (take l.trail.entries b.trail.derivation) (take l.trail.facts b.trail.graph.told) (derivation-take old b.trail.derivation l.trail.entries h.sound.trail.derivation)
          (first_inside b.trail.graph.told l.trail.facts (facts_inside b.trail h.sound.trail)) k.trail.backs;
    };
    mark = k.mark;
    bounds_in = k.bounds_in;
    sourced = sourced_on (take l.trail.entries b.trail.derivation) b.standing (take l.bounds b.standing.tableau.bounds) (derivation-take old b.trail.derivation l.trail.entries h.sound.trail.derivation) k.sourced;
    said = k.said;
    claims_in = k.claims_in;
    claims =
        noted_on b.relations.items (take l.trail.entries b.trail.derivation) (take l.claims b.claims.items) (derivation-take old b.trail.derivation l.trail.entries h.sound.trail.derivation) k.claims;
    tied =
        tied_on b.trail.truth b.trail.falsity b.relations.items (take l.trail.entries b.trail.derivation) (take l.claims b.claims.items) (ties (take l.trail.facts b.trail.graph.told)) k.claims k.tied;
    reasons =
        reasons_on b.relations.items (literals (take l.trail.entries b.trail.derivation)) (take l.trail.facts b.trail.graph.told)
        (first_inside b.trail.graph.told l.trail.facts (facts_inside b.trail h.sound.trail)) k.reasons;
  }
