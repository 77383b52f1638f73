-- Putting a part back, from the innermost structure to the whole.
use Rattle.std.proofs.Common.{◌≡◌, ℕ, zero, suc, ◌<◌, ◌≤◌, true, List, [], ◌∷◌, ◌++◌, map, take, get_or, length, Result, Ok, Err, IsErrAnd, IsSome, refl, sym, ap, ◌∙◌, subst, arith}
use Rattle.std.proofs.lemmas.List.{length-map, take-map}
use Rattle.spv_logic.specs.declared.conditions.TermId.{TermId}
use Rattle.spv_logic.specs.Terms.{Term}
use Rattle.spv_logic.specs.Sorts.{term_sort}
use Rattle.spv_term.specs.declared.nodes.TermFault.{TermFault}
use Rattle.spv_term.specs.Arena.{Arena, IsArena, AllBelow, tree}
use Rattle.spv_term.proofs.ArenaLemmas.{tree-Extends, length-Extends}
use Rattle.spv_term.specs.substitution.Parts.{is_part}
use Rattle.spv_program.specs.Places as place
use Rattle.spv_program.specs.Places.{part, part_behind, changed_part}
use Rattle.spv_assign.specs.declared.structures.elements.Step.{Step}
use Rattle.spv_assign.specs.structures.Making.{GivesTerm, GivesTerms}
use Rattle.spv_assign.specs.structures.Steps.{step_in, steps_in, IsStep, AreSteps, changed_by, structures_to, structures_before}
use Rattle.spv_assign.proofs.structures.Parts.{part_sorted, sorted_stays, Toward, toward_begins, toward_more, toward_within, lacks_in, done, stopped, part_stopped, behind}
use Rattle.spv_assign.proofs.structures.Paths.{value_in, changed_first, structures_in, structures_are, step_stays, step_there, steps_stay, steps_there}

-- ---- lists
take_whole : {X : Type 0} (xs : List X) → take (length xs) xs ≡ xs
take_whole [] = refl
take_whole (x ∷ xs) = ap (λ ys. x ∷ ys) (take_whole xs)

ids-at : (n : ℕ) (ts : List TermId) (k : ℕ) (d : TermId) → AllBelow n ts → k < length ts → (get_or ts k d).0 < n
ids-at n [] k d h there = absurd (omega arith)
ids-at n (t ∷ ts) zero d h there = h.0
ids-at n (t ∷ ts) (suc k) d h there = ids-at n ts k d h.1 (omega (arith, there))

steps-at : (a : Arena) (path : List Step) (k : ℕ) (d : Step) → AreSteps a path → k < length path → IsStep a (get_or path k d)
steps-at a [] k d h there = absurd (omega arith)
steps-at a (s ∷ path) zero d h there = h.0
steps-at a (s ∷ path) (suc k) d h there = steps-at a path k d h.1 (omega (arith, there))

take_steps : (a : Arena) (path : List Step) (k : ℕ) (d : Step) → k < length path
    → take (suc k) (steps_in a path) ≡ take k (steps_in a path) ++ step_in a (get_or path k d) ∷ []
take_steps a [] k d there = absurd (omega arith)
take_steps a (s ∷ path) zero d there = refl
take_steps a (s ∷ path) (suc k) d there = ap (λ xs. step_in a s ∷ xs) (take_steps a path k d (omega (arith, there)))

-- the structures on a path, by their places
structure_at : (a : Arena) (structures : List TermId) (whole : Term) (path : List Step) (k : ℕ) (d : TermId) → map (tree a) structures ≡ structures_before whole (steps_in a path)
    → k < length path → (k < length structures) × (tree a (get_or structures k d) ≡ part_behind whole (take k (steps_in a path)))
structure_at a structures whole [] k d e there = absurd (omega arith)
structure_at a [] whole (s ∷ path) k d e there = absurd (cc)
structure_at a (t ∷ structures) whole (s ∷ path) zero d e there = (omega arith, cc)
structure_at a (t ∷ structures) whole (s ∷ path) (suc k) d e there =
    let others : map (tree a) structures ≡ structures_before (part whole (step_in a s)) (steps_in a path) = cc in
    let found = structure_at a structures (part whole (step_in a s)) path k d others (omega (arith, there)) in
    (omega (arith, found.0), found.1)

-- the last step of a change is the first that is made
changed_last : (s : Term) (path : List place.Step) (x : place.Step) (v : Term) → changed_part s (path ++ x ∷ []) v ≡ changed_part s path (changed_by (part_behind s path) x v)
changed_last s [] x v = changed_first s x [] v
changed_last s (y ∷ path) x v =
    changed_first s y (path ++ x ∷ []) v
    ∙ (ap (changed_by s y) (changed_last (part s y) path x v)
    ∙ sym (changed_first s y path (changed_by (part_behind (part s y) path) x v)))

-- ---- putting back

-- what was made so far, put behind the steps that are left, is the whole change
pub record Puts (old a : Arena) (goal whole : Term) (path : List Step) (made : TermId) (left : ℕ) : Type 0 where
  pub toward : Toward old a goal
  pub within : left ≤ length path
  pub there : made.0 < length a.nodes
  pub leads : changed_part whole (take left (steps_in old path)) (tree a made) ≡ goal

pub puts_begin : (a : Arena) (whole : Term) (path : List Step) (v : TermId) (n : ℕ) → n ≡ length path → v.0 < length a.nodes
    → Puts a a (changed_part whole (steps_in a path) (tree a v)) whole path v n
puts_begin a whole path v n all there = record {
  toward = toward_begins a (changed_part whole (steps_in a path) (tree a v));
  within = omega (arith, all);
  there = there;
  leads = ap (λ xs. changed_part whole xs (tree a v)) (ap (λ k. take k (steps_in a path)) (all ∙ sym (length-map path (step_in a))) ∙ take_whole (steps_in a path));
}

pub puts_done : (old a : Arena) (goal whole : Term) (path : List Step) (made : TermId) (left : ℕ) → left ≡ 0 → Puts old a goal whole path made left → IsArena a → GivesTerm (Ok made) goal old a
puts_done old a goal whole path made left none known ok =
    done old a goal ok known.toward made known.there (ap (λ n. changed_part whole (take n (steps_in old path)) (tree a made)) (sym none) ∙ known.leads)

module _ (old a : Arena) (goal whole : Term) (path : List Step) (made : TermId) (k : ℕ) (left : ℕ) (is : left ≡ suc k) (structures : List TermId)
    (below : AllBelow (length old.nodes) structures) (steps : AreSteps old path) (are : map (tree old) structures ≡ structures_before whole (steps_in old path))
    (known : Puts old a goal whole path made left) (w d : TermId) (w_is : w ≡ get_or structures k d) (s e : Step) (s_is : s ≡ get_or path k e) where
  in_path : k < length path
  in_path = omega (arith, is, known.within)

  found : (k < length structures) × (tree old (get_or structures k d) ≡ part_behind whole (take k (steps_in old path)))
  found = structure_at old structures whole path k d are in_path

  w_there : w.0 < length old.nodes
  w_there = subst (λ t. t.0 < length old.nodes) (sym w_is) (ids-at (length old.nodes) structures k d below found.0)

  s_there : IsStep old s
  s_there = subst (IsStep old) (sym s_is) (steps-at old path k e steps in_path)

  pub put_within : k < length structures
  put_within = found.0

  pub put_structure : w.0 < length a.nodes
  put_structure = omega (arith, length-Extends known.toward.grows, w_there)

  pub put_step : IsStep a s
  put_step = step_there known.toward.grows s s_there

  x_is : changed_by (tree a w) (step_in a s) (tree a made) ≡ changed_by (part_behind whole (take k (steps_in old path))) (step_in old s) (tree a made)
  x_is =
      let structure = tree-Extends known.toward.grows w w_there ∙ (ap (tree old) w_is ∙ found.1) in
      let stays = step_stays known.toward.grows s s_there in
      λ i. changed_by (structure i) (stays i) (tree a made)

  next_is : changed_part whole (take k (steps_in old path)) (changed_by (tree a w) (step_in a s) (tree a made)) ≡ goal
  next_is =
      ap (changed_part whole (take k (steps_in old path))) x_is
      ∙ (sym (changed_last whole (take k (steps_in old path)) (step_in old s) (tree a made))
      ∙ (ap (λ xs. changed_part whole xs (tree a made)) (ap (λ x. take k (steps_in old path) ++ step_in old x ∷ []) s_is ∙ (sym (take_steps old path k e in_path) ∙ ap (λ n. take n (steps_in old path)) (sym is)))
      ∙ known.leads))

  pub put_in : is_part (changed_by (tree a w) (step_in a s) (tree a made)) goal ≡ true
  put_in = subst (λ g. is_part (changed_by (tree a w) (step_in a s) (tree a made)) g ≡ true) next_is (value_in whole (take k (steps_in old path)) (changed_by (tree a w) (step_in a s) (tree a made)))

  pub put_sorts : IsSome (term_sort old.shapes old.decls goal) → IsSome (term_sort a.shapes a.decls (changed_by (tree a w) (step_in a s) (tree a made)))
  put_sorts sorted =
      sorted_stays known.toward.grows (changed_by (tree a w) (step_in a s) (tree a made))
      (part_sorted old.shapes old.decls (changed_by (tree a w) (step_in a s) (tree a made)) goal put_in sorted)

  pub put_stopped : (b : Arena) (r : Result TermId TermFault) (f : TermFault) → IsErrAnd r (λ g. g ≡ f) → GivesTerm (Err f) (changed_by (tree a w) (step_in a s) (tree a made)) a b → GivesTerm r goal old b
  put_stopped b r f told m = part_stopped old a b goal (changed_by (tree a w) (step_in a s) (tree a made)) put_in known.toward r f told m

  pub put_toward : (b : Arena) (r : Result TermId TermFault) → GivesTerm r (changed_by (tree a w) (step_in a s) (tree a made)) a b → Toward old b goal
  put_toward b r m = toward_more old a b goal (changed_by (tree a w) (step_in a s) (tree a made)) put_in known.toward r m

  pub put_next : (b : Arena) (u : TermId) (j : ℕ) → j ≡ k → GivesTerm (Ok u) (changed_by (tree a w) (step_in a s) (tree a made)) a b → Puts old b goal whole path u j
  put_next b u j same m = record {
    toward = put_toward b (Ok u) m;
    within = omega (arith, same, in_path);
    there = m.term.there;
    leads = ap (λ j. changed_part whole (take j (steps_in old path)) (tree b u)) same ∙ (ap (changed_part whole (take k (steps_in old path))) m.term.is_tree ∙ next_is);
  }

-- ---- all of a change

first_structure : (a : Arena) (s : Term) (path : List place.Step) (ts : List TermId) (d : TermId) → map (tree a) ts ≡ structures_to s path → tree a (get_or ts 0 d) ≡ s
first_structure a s [] [] d e = absurd (cc)
first_structure a s [] (t ∷ ts) d e = cc
first_structure a s (x ∷ path) [] d e = absurd (cc)
first_structure a s (x ∷ path) (t ∷ ts) d e = cc

module _ (old : Arena) (root v : TermId) (path : List Step) (steps : AreSteps old path) (hv : v.0 < length old.nodes) (n : ℕ) (len : length path ≡ suc n) where
  abbrev change : Term
  change = changed_part (tree old root) (steps_in old path) (tree old v)

  abbrev way : Term
  way = part_behind (tree old root) (steps_in old (take n path))

  all_steps : length (steps_in old path) ≡ suc n
  all_steps = length-map path (step_in old) ∙ len

  taken : steps_in old (take n path) ≡ take n (steps_in old path)
  taken = sym (take-map (step_in old) n path)

  way_in : is_part way change ≡ true
  way_in = subst (λ xs. is_part (part_behind (tree old root) xs) change ≡ true) (sym taken) (structures_in (tree old root) (steps_in old path) (tree old v) n all_steps)

  pub way_sorts : IsSome (term_sort old.shapes old.decls change) → IsSome (term_sort old.shapes old.decls way)
  way_sorts h = part_sorted old.shapes old.decls way change way_in h

  pub way_stopped : {X : Type 0} (b : Arena) (ids : X → List TermId) (xs : List Term) (r : Result TermId TermFault) (e : TermFault) → IsErrAnd r (λ f. f ≡ e)
      → GivesTerms (Err e) ids xs way old b → GivesTerm r change old b
  way_stopped b ids xs r e told m =
      stopped old b change r e told (toward_within old b change way way_in m.grows m.only) (λ is. lacks_in old old b change way way_in (m.size (ap Err is)))

  module _ {X : Type 0} (b : Arena) (ids : X → List TermId) (x : X) (found : List TermId) (same : found ≡ ids x) (m : GivesTerms (Ok x) ids (structures_to (tree old root) (steps_in old (take n path))) way old b) where
    found_trees : map (tree b) found ≡ structures_to (tree old root) (steps_in old (take n path))
    found_trees = ap (map (tree b)) same ∙ m.terms.trees

    pub found_there : AllBelow (length b.nodes) found
    found_there = subst (AllBelow (length b.nodes)) (sym same) m.terms.there

    pub found_steps : AreSteps b path
    found_steps = steps_there m.grows path steps

    pub found_value : v.0 < length b.nodes
    found_value = omega (arith, length-Extends m.grows, hv)

    whole_is : tree b (get_or found 0 v) ≡ tree old root
    whole_is = first_structure b (tree old root) (steps_in old (take n path)) found v found_trees

    pub found_are : map (tree b) found ≡ structures_before (tree b (get_or found 0 v)) (steps_in b path)
    found_are =
        let stay = steps_stay m.grows path steps in
        found_trees ∙ (ap (structures_to (tree old root)) taken ∙ (structures_are (tree old root) (steps_in old path) n all_steps
        ∙ sym (λ i. structures_before (whole_is i) (stay i))))

    change_is : changed_part (tree b (get_or found 0 v)) (steps_in b path) (tree b v) ≡ change
    change_is = let stay = steps_stay m.grows path steps in let value = tree-Extends m.grows v hv in λ i. changed_part (whole_is i) (stay i) (value i)

    pub found_sorts : IsSome (term_sort old.shapes old.decls change) → IsSome (term_sort b.shapes b.decls (changed_part (tree b (get_or found 0 v)) (steps_in b path) (tree b v)))
    found_sorts h = subst (λ x. IsSome (term_sort b.shapes b.decls x)) (sym change_is) (sorted_stays m.grows change h)

    pub change_done : (c : Arena) (r : Result TermId TermFault) → GivesTerm r (changed_part (tree b (get_or found 0 v)) (steps_in b path) (tree b v)) b c → GivesTerm r change old c
    change_done c r n = behind old b c change (changed_part (tree b (get_or found 0 v)) (steps_in b path) (tree b v)) change_is (toward_within old b change way way_in m.grows m.only) r n

pub nothing_changed : (a : Arena) → IsArena a → (root v : TermId) (path : List Step) → v.0 < length a.nodes → length path ≡ 0 → GivesTerm (Ok v) (changed_part (tree a root) (steps_in a path) (tree a v)) a a
nothing_changed a ok root v [] hv e = done a a (tree a v) ok (toward_begins a (tree a v)) v hv refl
nothing_changed a ok root v (x ∷ path) hv e = absurd (omega (arith, e))
