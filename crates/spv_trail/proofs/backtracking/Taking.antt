-- A case is taken.
use Rattle.std.proofs.Common.{◌≡◌, ℕ, ◌+◌, true, false, List, [], ◌∷◌, ◌++◌, length, refl, sym, ap, ◌∙◌, subst, Option, Some, None}
use mathlib.Core.List.{map-append}
use Rattle.spv_logic.specs.declared.conditions.TermId.{TermId}
use Rattle.spv_logic.specs.Terms.{Term}
use Rattle.spv_logic.specs.Formulas.{below}
use Rattle.std.proofs.lemmas.Bool.{false≢true}
use Rattle.spv_term.specs.declared.nodes.Condition.{Condition}
use Rattle.spv_term.specs.Arena.{Arena, tree}
use Rattle.spv_atoms.specs.Order.{passing}
use Rattle.spv_atoms.specs.Tables.{numeral_relation}
use Rattle.spv_atoms.proofs.Members.{has, has-left, has-last, has-parts, has_one, has-with_terms}
use Rattle.spv_proof_rules.specs.Evaluation.{cites}
use Rattle.spv_proof_rules.specs.Effects.{is_false, is_truth}
use Rattle.spv_proof_rules.specs.Stand.{question}
use Rattle.spv_derivations.specs.declared.derivation.entries.Part.{Part}
use Rattle.spv_derivations.specs.declared.derivation.entries.Part.TheVariants.{True, False, Below, Above}
use Rattle.spv_derivations.specs.declared.derivation.entries.Entry.{Entry}
use Rattle.spv_derivations.specs.derivation.Derivation.{literal, PartFits}
use Rattle.spv_derivations.specs.derivation.Literals.{Literal}
use Rattle.spv_models.specs.leaf_models.Subterms.{subterms, truth_arguments}
use Rattle.spv_models.specs.leaf_models.Atoms.{is_open}
use Rattle.spv_models.specs.leaf_models.Tables.{formulas_of}
use Rattle.spv_models.specs.split_trees.Paths.{atoms, questions}
use Rattle.spv_share.specs.declared.both.Both.{Both}
use Rattle.spv_share.specs.Both.{IsBoth, told}
use Rattle.spv_explanations.specs.congruence_side.Holding.{MayTell}
use Rattle.spv_derivations.specs.branches.Paths.{IsGrown, IsPath}
use Rattle.spv_assignments.specs.declared.partial_assignment.facts.Known.{Known}
use Rattle.spv_assignments.specs.declared.partial_assignment.lists.Listed.{Listed}
use Rattle.spv_assignments.specs.partial_assignment.Facts.{fact_of, facts_of}
use Rattle.spv_decisions.specs.literal_lookup.Clashes.{clash, NoneClashes}
use Rattle.spv_branch_theory.specs.search_invariant.Facts.{of_atoms}
use Rattle.spv_trail.specs.trail_states.Told.{IsAsked, IsFounded, IsOrderToldIn, IsStored, IsToldIn}
use Rattle.spv_trail.proofs.trail_states.RowConstraint.{compared}
use Rattle.spv_trail.proofs.trail_states.Growing.{IsUnrefuted, at_last, formula_truth, literal_of, stored_case, values_keep}
use Rattle.spv_trail.specs.asserted_steps.Steps.{IsDerived}
use Rattle.spv_trail.specs.propagation.Learning.{AreCitable, ContradictsIf, EndsBy, EndsNow, IsCitable, MayCite, is_refuted}
use Rattle.spv_trail.specs.propagation.Telling.{AreToldAs, Goes, TellsLiteral}
use Rattle.spv_trail.proofs.propagation.Citing.{all_cite_more, stored_citable}
use Rattle.spv_trail.proofs.propagation.Cores.{atom_bare}
use Rattle.spv_trail.proofs.propagation.Learned.{contradicts_none, contradicts_some, grown_then, quiet_among}
use Rattle.spv_trail.specs.declared.backtracking.path.Ground.{Ground}
use Rattle.spv_trail.specs.declared.backtracking.path.BranchTrail.{BranchTrail}
use Rattle.spv_trail.specs.backtracking.Paths.{GoesOn, HasPath, IsAskedOf, IsBegun, IsEnded, IsHeld, IsSplitAtom, IsBranchTrail, WasToldWith}
use Rattle.spv_trail.proofs.backtracking.Going.{goes_on_then, one_longer}
use Rattle.spv_trail.specs.declared.propagation.ending.End.{End}
use Rattle.spv_trail.proofs.propagation.Changes.{goes_same}
use Rattle.spv_trail.proofs.propagation.RowConstraint.{goes_by}
use Rattle.std.proofs.lemmas.List.{append-nil}
use Rattle.spv_trail.proofs.backtracking.Held.{asked_then, told_as_longer, told_by_lists}

-- ---- orders that hold

order_stands : (f l r : Term) → f ≡ below l r → is_refuted f ≡ false → numeral_relation f ≡ Some false → ⊥
order_stands f l r is e h =
    false≢true (sym (ap is_refuted (sym is) ∙ e) ∙ ap is_false (ap numeral_relation (sym is) ∙ h))

pub unrefuted_case : (a : Arena) (t : TermId) (p : Part) → PartFits a t p → is_refuted (literal (tree a t) p) ≡ false → IsUnrefuted a t p
unrefuted_case a t True fits e = tt
unrefuted_case a t False fits e = tt
unrefuted_case a t Below fits e = let m = compared a (tree a t) fits in order_stands (literal (tree a t) Below) m.left m.right (ap (λ (x : Term). literal x Below) m.is) e
unrefuted_case a t Above fits e = let m = compared a (tree a t) fits in order_stands (literal (tree a t) Above) m.right m.left (ap (λ (x : Term). literal x Above) m.is) e

facts_push : (a : Arena) (ks : List Known) (k : Known) → facts_of a (ks ++ k ∷ []) ≡ facts_of a ks ++ fact_of a k ∷ []
facts_push a ks k = map-append (fact_of a) ks (k ∷ [])

-- ---- an atom

pub atom_asked : (a : Arena) (c : Condition) (t : Term) → has (atoms (question a c)) t ≡ true → has (questions (question a c)) t ≡ true
atom_asked a c t m = has-with_terms (atoms (question a c)) (passing is_open (truth_arguments (is_truth (question a c)) (subterms (formulas_of (question a c).sequent)))) t m

pub atom_told : (a : Arena) (c : Condition) (g : Ground) (b : Both) (t : TermId) (p : Part) → IsAskedOf a c g b → IsSplitAtom a c b t → PartFits a t p → MayTell a b.trail t p
atom_told a c g b t p asked h fits = record {
  formula = record { within = h.within; truth = formula_truth (question a c) asked.ground.formulas (tree a t) (of_atoms h.among) };
  part_fits = fits;
  node = h.node;
}

-- ---- the case becomes known, and is told

module _ (a : Arena) (c : Condition) (g : Ground) (old : BranchTrail) (asked : IsAskedOf a c g old.both) (t : TermId) (p : Part) (n : ℕ) (atom : IsSplitAtom a c old.both t) (fits : PartFits a t p) (cases : List Term) (es : List Entry)
    (h : IsBranchTrail a c cases old) (d : IsDerived (question a c) (cases ++ literal (tree a t) p ∷ []) old.derivation es n (literal (tree a t) p)) where
  abbrev case_fact : Known
  case_fact = record { term = t; part = p; fact = n }

  abbrev case_literal : Literal
  case_literal = literal_of case_fact

  pub may_cite : (ks : List Known) → ks ≡ old.known.items → MayCite a c old.both.trail.falsity (cases ++ literal (tree a t) p ∷ []) es ks
  may_cite ks e = record {
    falsity_is = h.both.sound.trail.falsity;
    path = d.path;
    citable = subst (λ (xs : List Known). AreCitable a c es xs) (sym e)
        (all_cite_more a c old.derivation es (literal (tree a t) p ∷ []) old.known.items d.facts_are (stored_citable a c old.derivation old.known.items (told old.both) asked.ground.formulas h.settled.stored));
  }

  pub case_citable : IsCitable a c es case_fact
  case_citable = record { number = d.number; truth = formula_truth (question a c) asked.ground.formulas (tree a t) (of_atoms atom.among) }

  -- it contradicts nothing
  module _ (none : NoneClashes a old.known.items case_fact) (stands : is_refuted (fact_of a case_fact) ≡ false) where
    quiet : (u : Term) → cites (facts_of a old.known.items) u ≡ true → clash (fact_of a case_fact) u ≡ false
    quiet = quiet_among a old.known.items case_fact none

    unrefuted : IsUnrefuted a t p
    unrefuted = unrefuted_case a t p fits stands

    last_told : IsToldIn a (told old.both ++ case_literal ∷ []) (tree a t) p
    last_told = let k = at_last (told old.both) case_literal in record { place = k.0; told_one = case_literal; there = k.1; atom = refl; part_is = refl }

    order : IsOrderToldIn a (told old.both ++ case_literal ∷ []) t p
    order = by_part p last_told
      where
        by_part : (q : Part) → IsToldIn a (told old.both ++ case_literal ∷ []) (tree a t) q → IsOrderToldIn a (told old.both ++ case_literal ∷ []) t q
        by_part True k = tt
        by_part False k = tt
        by_part Below k = k
        by_part Above k = k

    founded : IsFounded a (question a c) (told old.both ++ case_literal ∷ []) case_fact
    founded = record { within = atom.within; bare = atom_bare (question a c) asked.ground.formulas (tree a t) atom.among; formula = of_atoms atom.among; fits = fits; order = order }

    asked_one : IsAsked a (question a c) case_literal
    asked_one = record { asked = atom_asked a c (tree a t) atom.among; fits = fits }

    stored_now : IsStored a c es (old.known.items ++ case_fact ∷ []) (told old.both ++ case_literal ∷ [])
    stored_now =
        stored_case a c old.derivation es old.known.items (told old.both) case_fact (literal (tree a t) p ∷ []) asked.ground.formulas h.settled.stored d.facts_are d.number founded asked_one quiet unrefuted

    -- what was known stays known, and so is the case
    pub begun_now : IsBegun a c (cases ++ literal (tree a t) p ∷ []) (old.known.items ++ case_fact ∷ [])
    begun_now = record {
      begun = λ u m. values_keep a c asked.ground.formulas (told old.both ++ case_literal ∷ []) case_fact founded old.known.items h.settled.stored.knowledge h.settled.stored.uncrossed quiet unrefuted u true (h.settled.begun u m);
      cases_known = λ u m. ap (λ (fs : List Term). has fs u) (facts_push a old.known.items case_fact)
          ∙ has-parts cases (literal (tree a t) p ∷ []) u m (λ k. has-left (facts_of a old.known.items) (fact_of a case_fact ∷ []) u (h.settled.cases_known u k))
          (λ k. ap (has (facts_of a old.known.items ++ fact_of a case_fact ∷ [])) (has_one u (literal (tree a t) p) k) ∙ has-last (facts_of a old.known.items) (fact_of a case_fact));
    }

    -- and the path is held with it
    pub held_now : (mid : BranchTrail) → mid.derivation ≡ es → mid.known.items ≡ old.known.items ++ case_fact ∷ [] → mid.lists ≡ old.lists → TellsLiteral a old.both mid.both case_literal → IsBoth a mid.both → IsHeld a c g mid
    held_now mid course_is known_is lists_are l both = record {
      asked = asked_then a c g old.both mid.both l.stays asked;
      stored = subst (λ (xs : List Entry). IsStored a c xs mid.known.items (told mid.both)) (sym course_is)
          (subst (λ (xs : List Known). IsStored a c es xs (told mid.both)) (sym known_is) (subst (λ (xs : List Literal). IsStored a c es (old.known.items ++ case_fact ∷ []) xs) (sym l.told_is) stored_now));
      both = both;
      told_ones = subst (λ (xs : Listed). AreToldAs a g.questions.items xs.all.items (told mid.both)) (sym lists_are)
          (subst (λ (xs : List Literal). AreToldAs a g.questions.items old.lists.all.items xs) (sym l.told_is)
          (told_as_longer a c g old.lists.all.items (told old.both) (case_literal ∷ []) (told_by_lists a c g cases old asked.ground h)));
    }

-- ---- the call

module _ (a : Arena) (c : Condition) (g : Ground) (old : BranchTrail) (asked : IsAskedOf a c g old.both) (t : TermId) (p : Part) (n why : ℕ) (atom : IsSplitAtom a c old.both t) (fits : PartFits a t p) (mid : List Entry)
    (derives : (cases : List Term) → IsPath (question a c) cases old.derivation → why ≡ length cases + 1 → IsDerived (question a c) (cases ++ literal (tree a t) p ∷ []) old.derivation mid n (literal (tree a t) p)) (es : List Entry) (slice : List Known)
    (slice_is : slice ≡ old.known.items) (o : Option End) (ends : ContradictsIf a c old.both.trail.falsity slice (record { term = t; part = p; fact = n }) mid es o) where
  abbrev added : Known
  added = record { term = t; part = p; fact = n }

  derived : (cases : List Term) → IsBranchTrail a c cases old → why ≡ length cases + 1 → IsDerived (question a c) (cases ++ literal (tree a t) p ∷ []) old.derivation mid n (literal (tree a t) p)
  derived cases h count = derives cases h.settled.path count

  -- it ends the path
  ended_now : (cases : List Term) → IsBranchTrail a c cases old → why ≡ length cases + 1 → (e : End) → o ≡ Some e → EndsNow a c (cases ++ literal (tree a t) p ∷ []) old.derivation es e
  ended_now cases h count e is =
      let d = derived cases h count in
      let now = contradicts_some a c old.both.trail.falsity slice added mid es o e is ends (cases ++ literal (tree a t) p ∷ [])
      (may_cite a c g old asked t p n atom fits cases mid h d slice slice_is) (case_citable a c g old asked t p n atom fits cases mid h d) in
      record { ends = now.ends; grown = grown_then old.derivation mid es d.grown now.grown }

  pub case_ended : (cases : List Term) → IsBranchTrail a c cases old → why ≡ length cases + 1 → (e : End) → o ≡ Some e → (new : BranchTrail) → new.derivation ≡ es → new.both ≡ old.both → IsEnded a c (cases ++ literal (tree a t) p ∷ []) new e
  case_ended cases h count e is new course_is both_is = record {
    ends = subst (λ (xs : List Entry). EndsBy a c (cases ++ literal (tree a t) p ∷ []) xs e) (sym course_is) (ended_now cases h count e is).ends;
    both = subst (IsBoth a) (sym both_is) h.both;
  }

  pub case_ended_goes : WasToldWith a c why old → (e : End) → o ≡ Some e → (new : BranchTrail) → new.derivation ≡ es → new.both ≡ old.both → new.known ≡ old.known → GoesOn a old new
  case_ended_goes w e is new course_is both_is known_is = record {
    derivation = subst (IsGrown old.derivation) (sym course_is) (ended_now w.cases w.path_told w.count e is).grown;
    known = record { more = []; is = ap (λ k. k.items) known_is ∙ sym (append-nil old.known.items) };
    both = subst (Goes a old.both) (sym both_is) (goes_same a old.both);
  }

  -- it contradicts nothing
  module _ (is_none : o ≡ None) where
    same : es ≡ mid
    same = (contradicts_none a c old.both.trail.falsity slice added mid es o is_none ends).1

    none : NoneClashes a old.known.items added
    none = subst (λ (ks : List Known). NoneClashes a ks added) slice_is (contradicts_none a c old.both.trail.falsity slice added mid es o is_none ends).0.0

    stands : is_refuted (fact_of a added) ≡ false
    stands = (contradicts_none a c old.both.trail.falsity slice added mid es o is_none ends).0.1

    pub case_held : WasToldWith a c why old → (now : BranchTrail) → now.derivation ≡ es → now.known.items ≡ old.known.items ++ added ∷ [] → now.lists ≡ old.lists → TellsLiteral a old.both now.both (literal_of added) → IsBoth a now.both → IsHeld a c g now
    case_held w now course_is known_is lists_are l both =
        held_now a c g old asked t p n atom fits w.cases mid w.path_told (derived w.cases w.path_told w.count) none stands now (course_is ∙ same) known_is lists_are l both

    pub case_path : WasToldWith a c why old → (now : BranchTrail) → now.derivation ≡ es → HasPath a c now.derivation
    case_path w now course_is = record {
      cases = w.cases ++ literal (tree a t) p ∷ [];
      path = subst (IsPath (question a c) (w.cases ++ literal (tree a t) p ∷ [])) (sym (course_is ∙ same)) (derived w.cases w.path_told w.count).path;
    }

    pub case_told : (cases : List Term) → IsBranchTrail a c cases old → why ≡ length cases + 1 → (now new : BranchTrail) → now.derivation ≡ es → now.known.items ≡ old.known.items ++ added ∷ []
        → ((cs : List Term) → IsPath (question a c) cs now.derivation → IsBegun a c cs now.known.items → IsBranchTrail a c cs new) → IsBranchTrail a c (cases ++ literal (tree a t) p ∷ []) new
    case_told cases h count now new course_is known_is settles =
        let d = derived cases h count in
        settles (cases ++ literal (tree a t) p ∷ []) (subst (IsPath (question a c) (cases ++ literal (tree a t) p ∷ [])) (sym (course_is ∙ same)) d.path)
        (subst (IsBegun a c (cases ++ literal (tree a t) p ∷ [])) (sym known_is) (begun_now a c g old asked t p n atom fits cases mid h d none stands))

    pub case_goes : WasToldWith a c why old → (now new : BranchTrail) → now.derivation ≡ es → now.known.items ≡ old.known.items ++ added ∷ [] → TellsLiteral a old.both now.both (literal_of added) → GoesOn a now new → GoesOn a old new
    case_goes w now new course_is known_is l goes =
        goes_on_then a old now new
        (record { derivation = subst (IsGrown old.derivation) (sym (course_is ∙ same)) (derived w.cases w.path_told w.count).grown; known = one_longer old.known.items now.known.items added known_is; both = goes_by a old.both now.both (literal_of added) l }) goes
