-- Values of terms of an arena, over plain variables.
use Rattle.std.proofs.Common.{◌≡◌, ℕ, zero, suc, ◌<◌, ◌+◌, Bool, true, false, ◌||◌, cond, List, [], ◌∷◌, ◌++◌, map, length, take, drop, ◌-◌, get_or, refl, sym, ap, ◌∙◌, subst, Option, Some, None, add-one, arith}
use Rattle.std.proofs.lemmas.List.{append_assoc, at_drop_more, drop_more, drop-map, length-drop, map-append, take_all, take_more}
use Rattle.std.specs.List.{list_any, flat_map}
use Rattle.spv_logic.specs.declared.conditions.TermId.{TermId}
use Rattle.spv_logic.specs.declared.types.Sort.{Sort}
use Rattle.spv_logic.specs.declared.types.Sort.TheVariants as sort
use Rattle.spv_logic.specs.Terms.{Term, term_eq, sort_eq}
use Rattle.spv_term.specs.Arena.{Arena, IsArena, AllBelow, tree, sort_at}
use Rattle.spv_term.proofs.ArenaLemmas.{HasOneId-arena, IsWellSorted-arena}
use Rattle.spv_proof_steps.specs.declared.candidates.Candidate.{Candidate}
use Rattle.spv_proof_steps.specs.declared.candidates.Candidate.TheVariants.{Equation}
use Rattle.spv_logic.specs.Formulas as formulas
use Rattle.spv_atoms.specs.Tables as tables
use Rattle.spv_proof_rules.specs.Evaluation as spec
use Rattle.spv_atoms.specs.Atoms.{has_sort}
use Rattle.spv_atoms.specs.Valued.{AllAmong, AllValued, IsInside, IsLayered}
use Rattle.spv_atoms.specs.Order.{same_id}
use Rattle.spv_atoms.proofs.Values.{inside_of}
use Rattle.spv_logic.proofs.names.NameTable.{list_any-map}
use Rattle.spv_proof_steps.specs.Candidates.{formula_of}
use Rattle.spv_proof_steps.specs.Valued.{truth_in, given_in, computed_in, clash_in, AllInside}

-- ---- sorts

pub truth-at : (a : Arena) → IsArena a → (t : TermId) → t.0 < length a.nodes → truth_in a (tree a t) ≡ sort_eq (sort_at a t) sort.Bool
truth-at a ok t h = ap (has_sort sort.Bool) (IsWellSorted-arena a ok t h)

-- ---- lists of given values

pub assigned-append : (xs ys : List (Term × Bool)) (t : Term) → tables.assigned (xs ++ ys) t ≡ tables.or_else (tables.assigned xs t) (tables.assigned ys t)
assigned-append [] ys t = refl
assigned-append (x ∷ xs) ys t = by_case (term_eq x.0 t) (assigned-append xs ys t)
  where
    by_case : (b : Bool) → tables.assigned (xs ++ ys) t ≡ tables.or_else (tables.assigned xs t) (tables.assigned ys t)
        → cond b (Some x.1) (tables.assigned (xs ++ ys) t) ≡ tables.or_else (cond b (Some x.1) (tables.assigned xs t)) (tables.assigned ys t)
    by_case true e = refl
    by_case false e = e

-- ---- what loops over the rest of a list of ids find

abbrev pub facts_give : Arena → Candidate → List TermId → Option Bool
facts_give a t facts = tables.assigned (flat_map (spec.given_by true) (map (tree a) facts)) (formula_of a t)

abbrev pub orders : Arena → TermId → TermId → List TermId → Bool
orders a s t facts = spec.cites (map (tree a) facts) (formulas.below (tree a s) (tree a t))

pub sort_eq-other : (s : Sort) → (s ≡ sort.Bool → ⊥) → false ≡ sort_eq s sort.Bool
sort_eq-other sort.Bool e = absurd (e refl)
sort_eq-other _ e = refl

pub facts_give-cons : (a : Arena) (t : Candidate) (fact : TermId) (facts : List TermId)
    → facts_give a t (fact ∷ facts) ≡ tables.or_else (tables.assigned (spec.given_by true (tree a fact)) (formula_of a t)) (facts_give a t facts)
facts_give-cons a t fact facts = assigned-append (spec.given_by true (tree a fact)) (flat_map (spec.given_by true) (map (tree a) facts)) (formula_of a t)

-- a value that one fact gives is that of all, where none comes before
pub facts_give-here : (a : Arena) (t : Candidate) (facts : List TermId) (i : ℕ) (d : TermId) (v : Bool)
    → i < length facts → facts_give a t (drop i facts) ≡ facts_give a t facts → Some v ≡ tables.assigned (spec.given_by true (tree a (get_or facts i d))) (formula_of a t) → Some v ≡ facts_give a t facts
facts_give-here a t facts i d v below same e =
    ap (λ o. tables.or_else o (facts_give a t (drop (i + 1) facts))) e
    ∙ (sym (facts_give-cons a t (get_or facts i d) (drop (i + 1) facts)) ∙ (sym (at_drop_more (facts_give a t) facts i d below) ∙ same))

pub facts_give-later : (a : Arena) (t : Candidate) (facts : List TermId) (i : ℕ) (d : TermId)
    → i < length facts → facts_give a t (drop i facts) ≡ facts_give a t facts → None ≡ tables.assigned (spec.given_by true (tree a (get_or facts i d))) (formula_of a t) → facts_give a t (drop (i + 1) facts) ≡ facts_give a t facts
facts_give-later a t facts i d below same e =
    ap (λ o. tables.or_else o (facts_give a t (drop (i + 1) facts))) e
    ∙ (sym (facts_give-cons a t (get_or facts i d) (drop (i + 1) facts)) ∙ (sym (at_drop_more (facts_give a t) facts i d below) ∙ same))

AllBelow-after : (n : ℕ) (ts : List TermId) (i : ℕ) → AllBelow n (drop i ts) → AllBelow n (drop (suc i) ts)
AllBelow-after n [] zero h = h
AllBelow-after n [] (suc i) h = h
AllBelow-after n (t ∷ ts) zero h = h.1
AllBelow-after n (t ∷ ts) (suc i) h = AllBelow-after n ts i h

pub AllBelow-more : (n : ℕ) (ts : List TermId) (i : ℕ) → AllBelow n (drop i ts) → AllBelow n (drop (i + 1) ts)
AllBelow-more n ts i h = rw add-one (AllBelow-after n ts i h)

-- ---- the given value

module _ (a : Arena) (cited : List TermId) (formula t : Candidate) where
  abbrev by_formula : Option Bool
  by_formula = tables.assigned (spec.given_by false (formula_of a formula)) (formula_of a t)

  abbrev by_order : Option Bool
  by_order = spec.apart (map (tree a) cited) (spec.sides (formula_of a t))

  given_parts : given_in a cited formula (formula_of a t) ≡ tables.or_else (tables.or_else (facts_give a t cited) by_formula) by_order
  given_parts = ap (λ o. tables.or_else o by_order) (assigned-append (flat_map (spec.given_by true) (map (tree a) cited)) (spec.given_by false (formula_of a formula)) (formula_of a t))

  pub given-by_facts : (v : Bool) → Some v ≡ facts_give a t cited → Some v ≡ given_in a cited formula (formula_of a t)
  given-by_facts v e = ap (λ o. tables.or_else (tables.or_else o by_formula) by_order) e ∙ sym given_parts

  pub given-by_formula : (v : Bool) → None ≡ facts_give a t cited → Some v ≡ by_formula → Some v ≡ given_in a cited formula (formula_of a t)
  given-by_formula v e f = (λ i. tables.or_else (tables.or_else (e i) (f i)) by_order) ∙ sym given_parts

  pub given-by_order : (o : Option Bool) → None ≡ facts_give a t cited → None ≡ by_formula → o ≡ by_order → o ≡ given_in a cited formula (formula_of a t)
  given-by_order o e f g = (λ i. tables.or_else (tables.or_else (e i) (f i)) (g i)) ∙ sym given_parts

-- ---- clashes

abbrev pub some_clash : Arena → List TermId → Candidate → List TermId → Bool
some_clash a cited formula ts = list_any (clash_in a cited formula) (map (tree a) ts)

-- facts without their outer negations
abbrev pub bare_terms : Arena → List TermId → List Term
bare_terms a facts = map spec.bare (map (tree a) facts)

-- the clashes of the roots are those of the formula and the facts
pub term_evaluates : (a : Arena) (cited roots slice : List TermId) (formula : Candidate) (inner : TermId) (b : Bool) → tree a inner ≡ spec.bare (formula_of a formula)
    → map (tree a) roots ≡ tree a inner ∷ bare_terms a cited → slice ≡ roots → b ≡ some_clash a cited formula slice → b ≡ spec.evaluates (truth_in a) (map (tree a) cited) (formula_of a formula)
term_evaluates a cited roots slice formula inner b is e f g =
    g
    ∙ (ap (λ ts. list_any (clash_in a cited formula) (map (tree a) ts)) f
    ∙ (ap (list_any (clash_in a cited formula)) e
    ∙ ((λ i. clash_in a cited formula (is i) || list_any-map (clash_in a cited formula) spec.bare (map (tree a) cited) i))))

pub all_inside : (a : Arena) (ids : List TermId) (found : List (Option Bool)) (ts : List TermId) → IsLayered a ids → length found ≡ length ids → AllAmong ids ts → AllInside a ids found ts
all_inside a ids found [] layered len h = tt
all_inside a ids found (t ∷ ts) layered len h = (inside_of a ids found t layered len h.0, all_inside a ids found ts layered len h.1)

pub inside-at : (a : Arena) (ids : List TermId) (found : List (Option Bool)) (ts : List TermId) (i : ℕ) (d : TermId) → i < length ts → AllInside a ids found (drop i ts) → IsInside a ids found (get_or ts i d)
inside-at a ids found ts i d below h = (subst (AllInside a ids found) (drop_more ts i d below) h).0

pub inside-more : (a : Arena) (ids : List TermId) (found : List (Option Bool)) (ts : List TermId) (i : ℕ) (d : TermId) → i < length ts → AllInside a ids found (drop i ts) → AllInside a ids found (drop (i + 1) ts)
inside-more a ids found ts i d below h = (subst (AllInside a ids found) (drop_more ts i d below) h).1

pub below-at : (n : ℕ) (ts : List TermId) (i : ℕ) (d : TermId) → i < length ts → AllBelow n (drop i ts) → (get_or ts i d).0 < n
below-at n ts i d below h = (subst (AllBelow n) (drop_more ts i d below) h).0

pub bare_more : (a : Arena) (start out more : List TermId) (facts : List TermId) (i : ℕ) (d t : TermId) → i < length facts → map (tree a) out ≡ map (tree a) start ++ bare_terms a (take i facts)
    → tree a t ≡ spec.bare (tree a (get_or facts i d)) → more ≡ out ++ t ∷ [] → map (tree a) more ≡ map (tree a) start ++ bare_terms a (take (i + 1) facts)
bare_more a start out more facts i d t below same is e =
    ap (map (tree a)) e
    ∙ (map-append (tree a) out (t ∷ [])
    ∙ ((λ k. same k ++ is k ∷ [])
    ∙ (append_assoc (map (tree a) start) (bare_terms a (take i facts)) (spec.bare (tree a (get_or facts i d)) ∷ [])
    ∙ ap (λ xs. map (tree a) start ++ xs) (
    sym (ap (bare_terms a) (take_more facts i d below)
    ∙ (ap (map spec.bare) (map-append (tree a) (take i facts) (get_or facts i d ∷ [])) ∙ map-append spec.bare (map (tree a) (take i facts)) (tree a (get_or facts i d) ∷ [])))))))

-- ---- a stated equation

pub behind_two : (a : Arena) (roots slice rest : List TermId) (s t : TermId) (ys : List Term) → map (tree a) roots ≡ tree a s ∷ tree a t ∷ ys → slice ≡ roots → rest ≡ take (length slice - 2) (drop 2 slice) → map (tree a) rest ≡ ys
behind_two a roots slice rest s t ys e f g =
    let same : rest ≡ drop 2 roots = g ∙ (take_all (length slice - 2) (drop 2 slice) (omega (arith, length-drop 2 slice)) ∙ ap (drop 2) f) in
    ap (map (tree a)) same ∙ (sym (drop-map (tree a) 2 roots) ∙ ap (drop 2) e)

pub inside-behind : (a : Arena) (ids : List TermId) (found : List (Option Bool)) (roots slice : List TermId) → slice ≡ roots → AllInside a ids found roots → AllInside a ids found (take (length slice - 2) (drop 2 slice))
inside-behind a ids found roots slice e h =
    subst (AllInside a ids found) (sym (take_all (length slice - 2) (drop 2 slice) (omega (arith, length-drop 2 slice)) ∙ ap (drop 2) e)) (later roots h)
  where
    later : (ts : List TermId) → AllInside a ids found ts → AllInside a ids found (drop 2 ts)
    later [] h = h
    later (t ∷ []) h = h.1
    later (t ∷ u ∷ ts) h = h.1.1

pub first_two : (a : Arena) → IsArena a → (ids : List TermId) (found : List (Option Bool)) (roots slice : List TermId) (s t : TermId) (ys : List Term) → s.0 < length a.nodes → t.0 < length a.nodes → AllBelow (length a.nodes) roots
    → map (tree a) roots ≡ tree a s ∷ tree a t ∷ ys → slice ≡ roots → AllValued ids found slice → AllValued ids found (s ∷ t ∷ [])
first_two a ok ids found roots slice s t ys h k inside e f valued = there roots inside e (subst (AllValued ids found) f valued)
  where
    there : (rs : List TermId) → AllBelow (length a.nodes) rs → map (tree a) rs ≡ tree a s ∷ tree a t ∷ ys → AllValued ids found rs → AllValued ids found (s ∷ t ∷ [])
    there [] i e g = absurd (cc)
    there (p ∷ []) i e g = absurd (cc)
    there (p ∷ q ∷ rs) i e g =
        let first : tree a p ≡ tree a s = cc in
        let second : tree a q ≡ tree a t = cc in
        let P : TermId → Type 0 = λ u. list_any (same_id u) (take (length found) ids) ≡ true in
        (subst P (HasOneId-arena a ok p s i.0 h first) g.0, (subst P (HasOneId-arena a ok q t i.1.0 k second) g.1.0, tt))

module _ (a : Arena) (cited : List TermId) (s t : TermId) (own given : Option Bool) (clash : Bool)
    (e : own ≡ computed_in a cited (Equation s t) (formula_of a (Equation s t))) (f : given ≡ given_in a cited (Equation s t) (formula_of a (Equation s t))) (g : clash ≡ spec.opposite own given) where
  abbrev whole : Bool → Bool
  whole b = b || list_any (λ x. clash_in a cited (Equation s t) (spec.bare x)) (map (tree a) cited)

  clash_is : clash ≡ clash_in a cited (Equation s t) (formula_of a (Equation s t))
  clash_is = g ∙ (λ i. spec.opposite (e i) (f i))

  pub equation_clashes : clash ≡ true → true ≡ spec.evaluates (truth_in a) (map (tree a) cited) (formula_of a (Equation s t))
  equation_clashes h = ap whole (sym h ∙ clash_is)

  pub equation_evaluates : clash ≡ false → (rest : List TermId) (b : Bool) → map (tree a) rest ≡ bare_terms a cited → b ≡ some_clash a cited (Equation s t) rest
      → b ≡ spec.evaluates (truth_in a) (map (tree a) cited) (formula_of a (Equation s t))
  equation_evaluates h rest b k is =
      is
      ∙ (ap (list_any (clash_in a cited (Equation s t))) k
      ∙ (list_any-map (clash_in a cited (Equation s t)) spec.bare (map (tree a) cited) ∙ ap whole (sym h ∙ clash_is)))
