-- Going along a path.
use Rattle.std.proofs.Common.{◌≡◌, ℕ, zero, suc, ◌<◌, ◌||◌, true, List, [], ◌∷◌, ◌++◌, map, take, length, Result, Ok, Err, IsErrAnd, IsSome, refl, sym, ap, ◌∙◌, subst, arith}
use Rattle.std.proofs.lemmas.Bool.{or_left, or_right}
use Rattle.std.proofs.lemmas.List.{map_push, append_assoc}
use Rattle.spv_logic.specs.declared.conditions.TermId.{TermId}
use Rattle.spv_logic.specs.declared.operators.Head.{Head}
use Rattle.spv_logic.specs.declared.operators.Head.TheVariants as head
use Rattle.spv_logic.specs.Terms.{Term, Terms, term, no_terms, terms}
use Rattle.spv_logic.specs.Sorts.{term_sort}
use Rattle.spv_term.specs.declared.nodes.TermFault.{TermFault}
use Rattle.spv_term.specs.Arena.{Arena, IsArena, AllBelow, Extends, tree}
use Rattle.spv_term.proofs.TreeLemmas.{AllBelow-append}
use Rattle.spv_term.proofs.ArenaLemmas.{tree-Extends, map_tree-Extends, AllBelow-Extends, length-Extends}
use Rattle.spv_term.specs.substitution.Parts.{is_part, is_part_of_some}
use Rattle.spv_term.proofs.substitution.PartLemmas.{is_part-refl, part_of_args}
use Rattle.spv_program.specs.Places as place
use Rattle.spv_program.specs.Places.{ToElement, ToField, part, part_behind, changed_part}
use Rattle.spv_assign.specs.declared.structures.elements.Step.{Step}
use Rattle.spv_assign.specs.declared.structures.elements.Step.TheVariants as step
use Rattle.spv_assign.specs.structures.Making.{GivesTerm, GivesTerms}
use Rattle.spv_assign.specs.structures.Steps.{step_in, steps_in, IsStep, AreSteps, changed_by, structures_to, structures_before}
use Rattle.spv_assign.proofs.creation_trace.Covering.{part_of_part}
use Rattle.spv_assign.proofs.structures.Parts.{part_sorted, sorted_stays, Toward, toward_begins, toward_more, lacks_in, done, part_stopped, all_stopped}

-- ---- arguments are parts

first_part : (h : Head) (s : Term) (ts : Terms) → is_part s (term h (terms s ts)) ≡ true
first_part h s ts = part_of_args s h (terms s ts) (or_left (is_part s s) (is_part_of_some s ts) (is_part-refl s))

second_part : (h : Head) (s t : Term) (ts : Terms) → is_part t (term h (terms s (terms t ts))) ≡ true
second_part h s t ts =
    part_of_args t h (terms s (terms t ts))
    (or_right (is_part t s) (is_part t t || is_part_of_some t ts) (or_left (is_part t t) (is_part_of_some t ts) (is_part-refl t)))

pub third_part : (h : Head) (s t u : Term) (ts : Terms) → is_part u (term h (terms s (terms t (terms u ts)))) ≡ true
third_part h s t u ts =
    part_of_args u h (terms s (terms t (terms u ts)))
    (or_right (is_part u s) (is_part u t || (is_part u u || is_part_of_some u ts))
    (or_right (is_part u t) (is_part u u || is_part_of_some u ts) (or_left (is_part u u) (is_part_of_some u ts) (is_part-refl u))))

structure_in_part : (s : Term) (x : place.Step) → is_part s (part s x) ≡ true
structure_in_part s (ToElement i) = first_part head.Select s (terms i no_terms)
structure_in_part s (ToField f) = first_part (head.Field f) s no_terms

structure_in_changed : (s : Term) (x : place.Step) (v : Term) → is_part s (changed_by s x v) ≡ true
structure_in_changed s (ToElement i) v = first_part head.Store s (terms i (terms v no_terms))
structure_in_changed s (ToField f) v = first_part (head.Put f) s (terms v no_terms)

value_in_changed : (s : Term) (x : place.Step) (v : Term) → is_part v (changed_by s x v) ≡ true
value_in_changed s (ToElement i) v = third_part head.Store s i v no_terms
value_in_changed s (ToField f) v = second_part (head.Put f) s v no_terms

-- ---- parts on a path

pub structure_in : (s : Term) (path : List place.Step) → is_part s (part_behind s path) ≡ true
structure_in s [] = is_part-refl s
structure_in s (x ∷ path) = part_of_part s (part s x) (part_behind (part s x) path) (structure_in_part s x) (structure_in (part s x) path)

-- the first step of a change is the last that is made
pub changed_first : (s : Term) (x : place.Step) (path : List place.Step) (v : Term) → changed_part s (x ∷ path) v ≡ changed_by s x (changed_part (part s x) path v)
changed_first s (ToElement i) path v = refl
changed_first s (ToField f) path v = refl

pub value_in : (s : Term) (path : List place.Step) (v : Term) → is_part v (changed_part s path v) ≡ true
value_in s [] v = is_part-refl v
value_in s (x ∷ path) v =
    subst (λ y. is_part v y ≡ true) (sym (changed_first s x path v))
    (part_of_part v (changed_part (part s x) path v) (changed_by s x (changed_part (part s x) path v)) (value_in (part s x) path v)
    (value_in_changed s x (changed_part (part s x) path v)))

pub whole_in : (s : Term) (path : List place.Step) (v : Term) → 0 < length path → is_part s (changed_part s path v) ≡ true
whole_in s [] v h = absurd (omega arith)
whole_in s (x ∷ path) v h = subst (λ y. is_part s y ≡ true) (sym (changed_first s x path v)) (structure_in_changed s x (changed_part (part s x) path v))

-- what stands behind all steps but the last is a part
pub structures_in : (s : Term) (path : List place.Step) (v : Term) (n : ℕ) → length path ≡ suc n → is_part (part_behind s (take n path)) (changed_part s path v) ≡ true
structures_in s [] v n e = absurd (omega (arith, e))
structures_in s (x ∷ path) v zero e = whole_in s (x ∷ path) v (omega arith)
structures_in s (x ∷ path) v (suc n) e =
    let shorter : length path ≡ suc n = omega (arith, e) in
    subst (λ y. is_part (part_behind (part s x) (take n path)) y ≡ true) (sym (changed_first s x path v))
    (part_of_part (part_behind (part s x) (take n path)) (changed_part (part s x) path v) (changed_by s x (changed_part (part s x) path v))
    (structures_in (part s x) path v n shorter) (value_in_changed s x (changed_part (part s x) path v)))

-- the structures up to the last step are those that each step goes into
pub structures_are : (s : Term) (path : List place.Step) (n : ℕ) → length path ≡ suc n → structures_to s (take n path) ≡ structures_before s path
structures_are s [] n e = absurd (omega (arith, e))
structures_are s (x ∷ []) zero e = refl
structures_are s (x ∷ y ∷ path) zero e = absurd (omega (arith, e))
structures_are s (x ∷ path) (suc n) e = let shorter : length path ≡ suc n = omega (arith, e) in ap (λ xs. s ∷ xs) (structures_are (part s x) path n shorter)

-- ---- steps in an arena that grows

pub step_stays : {a b : Arena} → Extends a b → (s : Step) → IsStep a s → step_in b s ≡ step_in a s
step_stays grows (step.Index i) h = ap ToElement (tree-Extends grows i h)
step_stays grows (step.Field f) h = refl

pub step_there : {a b : Arena} → Extends a b → (s : Step) → IsStep a s → IsStep b s
step_there grows (step.Index i) h = omega (arith, length-Extends grows, h)
step_there grows (step.Field f) h = tt

pub steps_stay : {a b : Arena} → Extends a b → (path : List Step) → AreSteps a path → steps_in b path ≡ steps_in a path
steps_stay grows [] h = refl
steps_stay grows (s ∷ path) h = let first = step_stays grows s h.0 in let others = steps_stay grows path h.1 in λ i. first i ∷ others i

pub steps_there : {a b : Arena} → Extends a b → (path : List Step) → AreSteps a path → AreSteps b path
steps_there grows [] h = tt
steps_there grows (s ∷ path) h = (step_there grows s h.0, steps_there grows path h.1)

pub steps_taken : (a : Arena) (n : ℕ) (path : List Step) → AreSteps a path → AreSteps a (take n path)
steps_taken a zero path h = tt
steps_taken a (suc n) [] h = tt
steps_taken a (suc n) (s ∷ path) h = (h.0, steps_taken a n path h.1)

-- ---- reading

-- what stands behind the steps that are left is what stands behind all of them
pub record Reads (old a : Arena) (goal : Term) (t : TermId) (left : List Step) : Type 0 where
  pub toward : Toward old a goal
  pub there : t.0 < length a.nodes
  pub steps : AreSteps old left
  pub leads : part_behind (tree a t) (steps_in old left) ≡ goal

pub reads_begin : (a : Arena) (root : TermId) (path : List Step) → root.0 < length a.nodes → AreSteps a path
    → Reads a a (part_behind (tree a root) (steps_in a path)) root path
reads_begin a root path there steps = record { toward = toward_begins a (part_behind (tree a root) (steps_in a path)); there = there; steps = steps; leads = refl }

module _ (old a : Arena) (goal : Term) (t : TermId) (s : Step) (rest left : List Step) (is : left ≡ s ∷ rest) (known : Reads old a goal t left) where
  all_steps : AreSteps old (s ∷ rest)
  all_steps = subst (AreSteps old) is known.steps

  pub read_step : IsStep a s
  read_step = step_there known.toward.grows s all_steps.0

  pub read_stays : step_in a s ≡ step_in old s
  read_stays = step_stays known.toward.grows s all_steps.0

  next_is : part_behind (part (tree a t) (step_in a s)) (steps_in old rest) ≡ goal
  next_is = ap (λ x. part_behind (part (tree a t) x) (steps_in old rest)) read_stays ∙ (ap (λ xs. part_behind (tree a t) (steps_in old xs)) (sym is) ∙ known.leads)

  pub next_in : is_part (part (tree a t) (step_in a s)) goal ≡ true
  next_in = subst (λ g. is_part (part (tree a t) (step_in a s)) g ≡ true) next_is (structure_in (part (tree a t) (step_in a s)) (steps_in old rest))

  pub read_sorts : IsSome (term_sort old.shapes old.decls goal) → IsSome (term_sort a.shapes a.decls (part (tree a t) (step_in a s)))
  read_sorts sorted = sorted_stays known.toward.grows (part (tree a t) (step_in a s)) (part_sorted old.shapes old.decls (part (tree a t) (step_in a s)) goal next_in sorted)

  pub read_toward : (b : Arena) (r : Result TermId TermFault) → GivesTerm r (part (tree a t) (step_in a s)) a b → Toward old b goal
  read_toward b r m = toward_more old a b goal (part (tree a t) (step_in a s)) next_in known.toward r m

  pub read_next : (b : Arena) (u : TermId) → GivesTerm (Ok u) (part (tree a t) (step_in a s)) a b → Reads old b goal u rest
  read_next b u m = record {
    toward = read_toward b (Ok u) m;
    there = m.term.there;
    steps = all_steps.1;
    leads = ap (λ x. part_behind x (steps_in old rest)) m.term.is_tree ∙ next_is;
  }

  pub read_stopped : (b : Arena) (r : Result TermId TermFault) (e : TermFault) → IsErrAnd r (λ f. f ≡ e) → GivesTerm (Err e) (part (tree a t) (step_in a s)) a b → GivesTerm r goal old b
  read_stopped b r e told m = part_stopped old a b goal (part (tree a t) (step_in a s)) next_in known.toward r e told m

pub read_done : (old a : Arena) (goal : Term) (t : TermId) (left : List Step) → left ≡ [] → Reads old a goal t left → IsArena a → GivesTerm (Ok t) goal old a
read_done old a goal t left none known ok =
    done old a goal ok known.toward t known.there (ap (λ xs. part_behind (tree a t) (steps_in old xs)) (sym none) ∙ known.leads)

-- ---- the structures on the way

pub record Finds (old a : Arena) (goal : Term) (all : List Term) (found : List TermId) (t : TermId) (left : List Step) : Type 0 where
  pub reads : Reads old a goal t left
  pub in_range : AllBelow (length a.nodes) found
  pub trees : map (tree a) found ++ structures_to (tree a t) (steps_in old left) ≡ all

pub finds_begin : (a : Arena) (root : TermId) (path : List Step) → root.0 < length a.nodes → AreSteps a path
    → Finds a a (part_behind (tree a root) (steps_in a path)) (structures_to (tree a root) (steps_in a path)) [] root path
finds_begin a root path there steps = record { reads = reads_begin a root path there steps; in_range = tt; trees = refl }

module _ (old a : Arena) (goal : Term) (all : List Term) (found : List TermId) (t : TermId) (s : Step) (rest left : List Step) (is : left ≡ s ∷ rest)
    (so_far : Finds old a goal all found t left) where
  pub find_next : (b : Arena) (u : TermId) (more : List TermId) → more ≡ found ++ t ∷ [] → GivesTerm (Ok u) (part (tree a t) (step_in a s)) a b
      → Finds old b goal all more u rest
  find_next b u more pushed m = record {
    reads = read_next old a goal t s rest left is so_far.reads b u m;
    in_range = subst (AllBelow (length b.nodes)) (sym pushed) (AllBelow-append (length b.nodes) found (t ∷ []) (AllBelow-Extends m.grows found so_far.in_range) (omega (arith, length-Extends m.grows, so_far.reads.there), tt));
    trees =
        ap (λ xs. map (tree b) xs ++ structures_to (tree b u) (steps_in old rest)) pushed
        ∙ (ap (λ xs. xs ++ structures_to (tree b u) (steps_in old rest)) before_are
        ∙ (append_assoc (map (tree a) found) (tree a t ∷ []) (structures_to (tree b u) (steps_in old rest))
        ∙ (ap (λ x. map (tree a) found ++ tree a t ∷ structures_to x (steps_in old rest)) next_tree
        ∙ unfolded)));
  }
    where
      before_are : map (tree b) (found ++ t ∷ []) ≡ map (tree a) found ++ tree a t ∷ []
      before_are =
          map_push (tree b) found t
          ∙ (λ i. map_tree-Extends m.grows found so_far.in_range i ++ tree-Extends m.grows t so_far.reads.there i ∷ [])

      next_tree : tree b u ≡ part (tree a t) (step_in old s)
      next_tree = m.term.is_tree ∙ ap (part (tree a t)) (read_stays old a goal t s rest left is so_far.reads)

      unfolded : map (tree a) found ++ tree a t ∷ structures_to (part (tree a t) (step_in old s)) (steps_in old rest) ≡ all
      unfolded = ap (λ xs. map (tree a) found ++ structures_to (tree a t) (steps_in old xs)) (sym is) ∙ so_far.trees

-- a step on the way could not be made
pub find_stopped : (old a : Arena) (goal : Term) (all : List Term) (found : List TermId) (t : TermId) (s : Step) (rest left : List Step) → left ≡ s ∷ rest
    → Finds old a goal all found t left → {X : Type 0} (b : Arena) (r : Result X TermFault) (ids : X → List TermId) (e : TermFault) → IsErrAnd r (λ f. f ≡ e)
    → GivesTerm (Err e) (part (tree a t) (step_in a s)) a b → GivesTerms r ids all goal old b
find_stopped old a goal all found t s rest left is so_far b r ids e told m =
    let x = part (tree a t) (step_in a s) in
    let inside = next_in old a goal t s rest left is so_far.reads in
    all_stopped old b goal r ids all e told (toward_more old a b goal x inside so_far.reads.toward (Err e) m) (λ is. lacks_in old a b goal x inside (m.size (ap Err is)))

pub find_done : (old a : Arena) (goal : Term) (all : List Term) (found more : List TermId) (t : TermId) (left : List Step) → left ≡ [] → more ≡ found ++ t ∷ []
    → Finds old a goal all found t left → {X : Type 0} (x : X) (ids : X → List TermId) → ids x ≡ more → GivesTerms (Ok x) ids all goal old a
find_done old a goal all found more t left none pushed known x ids is = record {
  grows = known.reads.toward.grows;
  terms = record {
    there = subst (AllBelow (length a.nodes)) (sym (is ∙ pushed)) (AllBelow-append (length a.nodes) found (t ∷ []) known.in_range (known.reads.there, tt));
    trees = ap (map (tree a)) (is ∙ pushed)
        ∙ (map_push (tree a) found t ∙ (ap (λ xs. map (tree a) found ++ structures_to (tree a t) (steps_in old xs)) (sym none) ∙ known.trees));
  };
  only = known.reads.toward.only;
  size = λ e. cc;
}
