-- Steps over the ids of an arena, over plain variables.
use Rattle.std.proofs.Common.{◌≡◌, ℕ, zero, suc, ◌<◌, ◌-◌, true, false, ◌&&◌, List, [], ◌∷◌, ◌++◌, map, length, drop, get_or, slice_get, slice_index_or, refl, sym, ap, ◌∙◌, subst, Option, Some, None, ◌+◌, ◌≤◌, Bor, arith}
use Rattle.std.proofs.lemmas.Option.{slice_get-map, slice_get_past, slice_get_read}
use Rattle.std.proofs.lemmas.List.{at_drop_more, map-append, append_assoc}
use Rattle.std.specs.Prelude.{IfSome, MatchOption}
use Rattle.std.specs.List.{HoldsAt}
use Rattle.std.specs.Option.{option_copied}
use Rattle.spv_logic.specs.Conditions.{Sequent}
use Rattle.std.specs.Option.{option_map}
use Rattle.spv_logic.specs.declared.conditions.TermId.{TermId}
use Rattle.spv_logic.specs.declared.types.Sort.{Sort}
use Rattle.spv_logic.specs.declared.types.Sort.TheVariants as sort
use Rattle.spv_logic.specs.declared.operators.Head.{Head}
use Rattle.spv_logic.specs.declared.operators.Head.TheVariants as head
use Rattle.spv_logic.specs.Terms.{Term, Terms, term, no_terms, term_eq, head_eq}
use Rattle.spv_logic.specs.Sorts.{result_sort}
use Rattle.spv_logic.proofs.Sorting.{taken}
use Rattle.spv_term.specs.declared.nodes.Node.{Node}
use Rattle.spv_term.specs.Arena.{Arena, IsArena, AllBelow, tree, trees, sort_at, sorts_at}
use Rattle.spv_term.proofs.ArenaLemmas.{tree-node, sort-node}
use Rattle.spv_proof_rules.specs.Effects as spec
use Rattle.spv_proof_steps.specs.Candidates.{AllFormulas}

-- ---- facts by their numbers

pub numbered-at : (at : TermId → Term) (facts : List TermId) (k : ℕ) (o : Option TermId) → (k ≡ 0 → ⊥) → slice_get facts (k - 1) ≡ o → option_map at o ≡ spec.numbered (map at facts) k
numbered-at at facts zero o ne e = absurd (ne refl)
numbered-at at facts (suc k) o ne e =
    let same : suc k - 1 ≡ k = omega arith in
    ap (option_map at) (sym e ∙ ap (slice_get facts) same) ∙ sym (slice_get-map at facts k)

pub AllBelow-at : (n : ℕ) (ts : List TermId) (i : ℕ) (t : TermId) → AllBelow n ts → slice_get ts i ≡ Some t → t.0 < n
AllBelow-at n [] i t h e = absurd (cc)
AllBelow-at n (u ∷ ts) zero t h e = let same : u ≡ t = cc in let P : TermId → Type 0 = λ v. v.0 < n in subst P same h.0
AllBelow-at n (u ∷ ts) (suc i) t h e = AllBelow-at n ts i t h.1 e

pub AllBelow-read : (n : ℕ) (ts : List TermId) (i : ℕ) (d : TermId) → AllBelow n ts → i < length ts → (slice_index_or ts i d).0 < n
AllBelow-read n [] i d h e = absurd (omega arith)
AllBelow-read n (t ∷ ts) zero d h e = h.0
AllBelow-read n (t ∷ ts) (suc i) d h e = AllBelow-read n ts i d h.1 (omega arith)

pub AllBelow-formulas : (a : Arena) (ts : List TermId) → AllFormulas a ts → AllBelow (length a.nodes) ts
AllBelow-formulas a [] h = tt
AllBelow-formulas a (t ∷ ts) h = (h.0, AllBelow-formulas a ts h.2)

-- ---- constants

empty_of : (f : TermId → Sort) (ts : List TermId) → [] ≡ map f ts → ts ≡ []
empty_of f [] e = refl
empty_of f (t ∷ ts) e = absurd (cc)

-- a node of a head without arguments
pub constant-at : (a : Arena) → IsArena a → (t : TermId) (n : Node) (h : Head) → slice_get a.nodes t.0 ≡ Some n → n.head ≡ h
    → result_sort a.shapes a.decls h ≡ result_sort a.shapes a.decls head.True → head_eq h h ≡ true → true ≡ term_eq (tree a t) (term h no_terms)
constant-at a ok t n h at e takes same =
    let sorted : result_sort a.shapes a.decls head.True (sorts_at a n.args) ≡ Some (sort_at a t) =
    sym (ap (λ f. f (sorts_at a n.args)) takes) ∙ (ap (λ k. result_sort a.shapes a.decls k (sorts_at a n.args)) (sym e) ∙ sort-node a ok t n at) in
    let none : n.args ≡ [] = empty_of (sort_at a) n.args (taken [] (sorts_at a n.args) sort.Bool (sort_at a t) sorted).wanted_is in
    let is : tree a t ≡ term h no_terms = tree-node a ok t n at ∙ (λ i. term (e i) (trees a (none i))) in
    sym (ap (λ x. term_eq x (term h no_terms)) is ∙ ap (λ b. b && true) same)

false-other : (h : Head) (ts : Terms) → (h ≡ head.False → ⊥) → false ≡ term_eq (term h ts) (term head.False no_terms)
false-other head.False ts e = absurd (e refl)
false-other _ ts e = refl

true-other : (h : Head) (ts : Terms) → (h ≡ head.True → ⊥) → false ≡ term_eq (term h ts) (term head.True no_terms)
true-other head.True ts e = absurd (e refl)
true-other _ ts e = refl

pub not_false : (a : Arena) → IsArena a → (t : TermId) (n : Node) → slice_get a.nodes t.0 ≡ Some n → (n.head ≡ head.False → ⊥) → false ≡ term_eq (tree a t) (term head.False no_terms)
not_false a ok t n at e = false-other n.head (trees a n.args) e ∙ sym (ap (λ x. term_eq x (term head.False no_terms)) (tree-node a ok t n at))

pub not_true : (a : Arena) → IsArena a → (t : TermId) (n : Node) → slice_get a.nodes t.0 ≡ Some n → (n.head ≡ head.True → ⊥) → false ≡ term_eq (tree a t) (term head.True no_terms)
not_true a ok t n at e = true-other n.head (trees a n.args) e ∙ sym (ap (λ x. term_eq x (term head.True no_terms)) (tree-node a ok t n at))

-- ---- the cited facts

abbrev pub before_all : List Term → Option (List Term) → Option (List Term)
before_all found None = None
before_all found (Some facts) = Some (found ++ facts)

before_all-fact : (found : List Term) (x : Term) (o : Option (List Term)) → before_all (found ++ x ∷ []) o ≡ before_all found (spec.fact_before (Some x) o)
before_all-fact found x None = refl
before_all-fact found x (Some facts) = ap Some (append_assoc found (x ∷ []) facts)

-- one number more
pub cited-more : (at : TermId → Term) (facts list more : List TermId) (numbers : List ℕ) (i d : ℕ) (t : TermId) (whole : Option (List Term))
    → i < length numbers → Some (at t) ≡ spec.numbered (map at facts) (get_or numbers i d) → more ≡ list ++ t ∷ []
    → before_all (map at list) (spec.cited (map at facts) (drop i numbers)) ≡ whole → before_all (map at more) (spec.cited (map at facts) (drop (i + 1) numbers)) ≡ whole
cited-more at facts list more numbers i d t whole below known e same =
    ap (λ ts. before_all ts rest) (ap (map at) e ∙ map-append at list (t ∷ []))
    ∙ (before_all-fact (map at list) (at t) rest
    ∙ (ap (λ o. before_all (map at list) (spec.fact_before o rest)) known
    ∙ (ap (before_all (map at list)) (sym (at_drop_more (spec.cited (map at facts)) numbers i d below)) ∙ same)))
  where
    rest : Option (List Term)
    rest = spec.cited (map at facts) (drop (i + 1) numbers)

pub AllBelow-pushed : (n : ℕ) (ts more : List TermId) (t : TermId) → AllBelow n ts → t.0 < n → more ≡ ts ++ t ∷ [] → AllBelow n more
AllBelow-pushed n ts more t h k e = subst (AllBelow n) (sym e) (pushed ts h)
  where
    pushed : (us : List TermId) → AllBelow n us → AllBelow n (us ++ t ∷ [])
    pushed [] g = (k, tt)
    pushed (u ∷ us) g = (g.0, pushed us g.1)

-- ---- a hypothesis

pub given-number : (c : Sequent) (k : ℕ) (o : Option Term) → (k ≡ 0 → ⊥) → o ≡ spec.numbered c.given k → spec.adds_known o ≡ spec.given_effect c k
given-number c zero o ne e = absurd (ne refl)
given-number c (suc k) o ne e = ap spec.adds_known e

-- ---- what `get` and `copied` give

pub copied-get : (ts : List TermId) (i : ℕ) (o : Option (Bor TermId)) → IfSome o (λ x. x.now ≡ get_or ts i x.now) → MatchOption o (length ts ≤ i) (λ x. (i < length ts) × HoldsAt (λ y. x.now ≡ y) ts i) → slice_get ts i ≡ option_copied o
copied-get ts i None h k = slice_get_past ts i k
copied-get ts i (Some x) h k = slice_get_read ts (length ts) i x.now refl k.0 h
