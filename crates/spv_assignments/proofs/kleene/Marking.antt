-- Marks of the arguments of connectives; and a term that is none of them clashes no connective, whatever is supposed of it.
use Rattle.std.proofs.Common.{◌≡◌, ◌≢◌, ℕ, zero, suc, ◌<◌, ◌≤◌, ◌+◌, Bool, true, false, cond, List, [], ◌∷◌, length, nat_eq, slice_get, slice_index_or, slice_set, refl, sym, ap, subst, ◌∙◌, Option, Some, None, arith, inl, inr}
use native.Mathlib.Numerals.{unary_clauses}
use mathlib.Core.Path.{ap₂}
use mathlib.Core.Logic.{◌⊎◌}
use Rattle.std.proofs.lemmas.Bool.{false≢true}
use Rattle.std.proofs.lemmas.Bool.Decides.{eqb_tells}
use Rattle.std.proofs.lemmas.List.{get_or-set_same, get_or-set_other, length-set}
use Rattle.std.proofs.lemmas.Option.{slice_get_within, same_Some, slice_get-get_or}
use Rattle.spv_logic.specs.declared.conditions.TermId.{TermId}
use Rattle.spv_logic.specs.Terms.{Term, term_eq}
use Rattle.spv_term.specs.declared.nodes.Node.{Node}
use Rattle.spv_term.specs.Arena.{Arena, IsArena, tree}
use Rattle.spv_term.proofs.ArenaLemmas.{node_of}
use Rattle.spv_term.proofs.NodeLemmas.{id_from}
use Rattle.spv_atoms.specs.Tables.{or_else, computed}
use Rattle.spv_atoms.specs.Atoms as atoms
use Rattle.spv_atoms.specs.Valued.{valued_in}
use Rattle.spv_atoms.proofs.Walks.{term_eq-ids}
use Rattle.spv_proof_rules.specs.Evaluation.{opposite}
use Rattle.spv_assignments.specs.kleene.Passes.{connects, connected, plain_at, at, given_at, first_found, second_found, of_node, Gives, AreConnectives, AreStarted, AreQuiet, IsFilled, QuietBefore, NoneClashes, is_marked, Keeps, Marks, MarksAll, MarksArguments, PassesListed}
use Rattle.spv_assignments.proofs.kleene.Heads.{plain_value}
use Rattle.spv_assignments.proofs.kleene.Filling.{next_computed, new_filled, new_quiet, given_here, given_there, listed_at, none_clashes}

-- ---- marks

-- a term past the end is marked
pub marked_past : (marks : List Bool) (t : TermId) → length marks ≤ t.0 → slice_index_or marks t.0 true ≡ true
marked_past marks t h = past marks t.0 h
  where
    past : (marks : List Bool) (i : ℕ) → length marks ≤ i → slice_index_or marks i true ≡ true
    past [] i h = refl
    past (b ∷ marks) zero h = absurd (omega (arith, h))
    past (b ∷ marks) (suc i) h = past marks i (omega (arith, h))

pub marks_one : (old new : List Bool) (t : TermId) → t.0 < length old → new ≡ slice_set old t.0 true → Marks old new t
marks_one old new t inside set = record {
  here = ap (λ xs. slice_index_or xs t.0 true) set ∙ get_or-set_same old t.0 true true inside;
  kept = record { each = λ u h. by_case u h (eqb_tells u.0 t.0) };
}
  where
    by_case : (u : TermId) → is_marked old u ≡ true → ((nat_eq u.0 t.0 ≡ true) × (u.0 ≡ t.0)) ⊎ ((nat_eq u.0 t.0 ≡ false) × (u.0 ≢ t.0)) → is_marked new u ≡ true
    by_case u h (inl same) = ap (λ xs. slice_index_or xs u.0 true) set ∙ (ap (λ i. slice_index_or (slice_set old t.0 true) i true) same.1 ∙ get_or-set_same old t.0 true true inside)
    by_case u h (inr other) = ap (λ xs. slice_index_or xs u.0 true) set ∙ (get_or-set_other old t.0 u.0 true true other.1 ∙ h)

pub marks_past : (marks : List Bool) (t : TermId) → length marks ≤ t.0 → Marks marks marks t
marks_past marks t h = record { here = marked_past marks t h; kept = record { each = λ u e. e } }

-- the first of some terms are marked
pub record MarkedTo (old new : List Bool) (ids : List TermId) (k : ℕ) : Type 0 where
  pub each : (i : ℕ) (t : TermId) → i < k → slice_get ids i ≡ Some t → is_marked new t ≡ true
  pub kept : Keeps old new

pub marked_none : (old : List Bool) (ids : List TermId) → MarkedTo old old ids 0
marked_none old ids = record { each = λ i t h e. absurd (omega (arith, h)); kept = record { each = λ t e. e } }

before_or_at : (i k : ℕ) → i < k + 1 → (i < k) ⊎ (i ≡ k)
before_or_at i k h = by_case (eqb_tells i k)
  where
    by_case : ((nat_eq i k ≡ true) × (i ≡ k)) ⊎ ((nat_eq i k ≡ false) × (i ≢ k)) → (i < k) ⊎ (i ≡ k)
    by_case (inl e) = inr e.1
    by_case (inr e) = inl (let other : i ≢ k = e.1 in omega (arith, h, other))

pub marked_next : (old middle new : List Bool) (ids : List TermId) (k : ℕ) (d : TermId) → k < length ids → MarkedTo old middle ids k → Marks middle new (slice_index_or ids k d) → MarkedTo old new ids (k + 1)
marked_next old middle new ids k d inside so_far now = record {
  each = λ i t h e. by_case i t e (before_or_at i k h);
  kept = record { each = λ t e. now.kept.each t (so_far.kept.each t e) };
}
  where
    by_case : (i : ℕ) (t : TermId) → slice_get ids i ≡ Some t → (i < k) ⊎ (i ≡ k) → is_marked new t ≡ true
    by_case i t e (inl before) = now.kept.each t (so_far.each i t before e)
    by_case i t e (inr here) =
        let same : slice_index_or ids k d ≡ t = same_Some (slice_index_or ids k d) t (sym (slice_get-get_or ids k d inside) ∙ (sym (ap (slice_get ids) here) ∙ e)) in
        subst (λ (x : TermId). is_marked new x ≡ true) same now.here

pub marked_all : (old new : List Bool) (ids : List TermId) (k : ℕ) → length ids ≤ k → MarkedTo old new ids k → MarksAll new ids
marked_all old new ids k end to = record { each = λ i t e. to.each i t (let h : i < length ids = slice_get_within ids i t e in omega (arith, h, end)) e }

-- the arguments of the first connectives are marked
pub record ArgumentsTo (a : Arena) (marks : List Bool) (ids : List TermId) (k : ℕ) : Type 0 where
  pub each : (i : ℕ) (t : TermId) (n : Node) → i < k → slice_get ids i ≡ Some t → slice_get a.nodes t.0 ≡ Some n → MarksAll marks n.args

pub arguments_none : (a : Arena) (marks : List Bool) (ids : List TermId) → ArgumentsTo a marks ids 0
arguments_none a marks ids = record { each = λ i t n h e f. absurd (omega (arith, h)) }

pub arguments_next : (a : Arena) (old new : List Bool) (ids : List TermId) (k : ℕ) (d : TermId) (n : Node) (args : List TermId) → k < length ids → ArgumentsTo a old ids k
    → slice_get a.nodes (slice_index_or ids k d).0 ≡ Some n → args ≡ n.args → MarksAll new args → Keeps old new → ArgumentsTo a new ids (k + 1)
arguments_next a old new ids k d n args inside so_far node same_args now kept = record { each = λ i t m h e f. by_case i t m e f (before_or_at i k h) }
  where
    by_case : (i : ℕ) (t : TermId) (m : Node) → slice_get ids i ≡ Some t → slice_get a.nodes t.0 ≡ Some m → (i < k) ⊎ (i ≡ k) → MarksAll new m.args
    by_case i t m e f (inl before) = record { each = λ j u g. kept.each u ((so_far.each i t m before e f).each j u g) }
    by_case i t m e f (inr here) =
        let same : slice_index_or ids k d ≡ t = same_Some (slice_index_or ids k d) t (sym (slice_get-get_or ids k d inside) ∙ (sym (ap (slice_get ids) here) ∙ e)) in
        let one : n ≡ m = same_Some n m (sym node ∙ (ap (λ (x : TermId). slice_get a.nodes x.0) same ∙ f)) in
        subst (MarksAll new) (same_args ∙ ap (λ (x : Node). x.args) one) now

pub arguments_all : (a : Arena) (marks : List Bool) (ids : List TermId) (k : ℕ) → AreConnectives a ids → length ids ≤ k → ArgumentsTo a marks ids k → MarksArguments a marks
arguments_all a marks ids k are end to = record {
  each = λ t n f c.
      let stands = are.all t (slice_get_within a.nodes t.0 n f) c in
      let h : stands.place < length ids = slice_get_within ids stands.place t stands.is in
      to.each stands.place t n (omega (arith, h, end)) stands.is f;
}

-- ---- a term that is no argument of a connective

-- what stands at a place may be put there
set_same : (xs : List (Option Bool)) (i : ℕ) (x : Option Bool) → i < length xs → at xs i ≡ x → xs ≡ slice_set xs i x
set_same [] i x h e = refl
set_same (y ∷ xs) zero x h e = ap (λ z. z ∷ xs) e
set_same (y ∷ xs) (suc i) x h e = ap (λ zs. y ∷ zs) (set_same xs i x (omega (arith, h)) e)

module _ (a : Arena) (ok : IsArena a) (ids : List TermId) (are : AreConnectives a ids) (own start : List (Option Bool)) (started : AreStarted a own start) (s : TermId) (v : Bool) (inside : s.0 < length a.nodes)
    (marks : List Bool) (arguments : MarksArguments a marks) (unmarked : is_marked marks s ≡ false) (bare : connects a s ≡ false) (base : PassesListed a own ids) where
  abbrev found : List (Option Bool)
  found = base.all.found

  abbrev changed : List (Option Bool)
  changed = slice_set found s.0 (Some v)

  -- the way to give values where nothing is supposed of the term
  abbrev without : (Term → Option Bool) → Term → Option Bool
  without given u = cond (term_eq u (tree a s)) (at own s.0) (given u)

  gives_without : (given : Term → Option Bool) → Gives a own s v given → Gives a own base.past true (without given)
  gives_without given gives = record { each = λ t h. by_case t h (eqb_tells t.0 s.0) ∙ sym (listed_at a own start started base.past true base.is_past t h) }
    where
      by_case : (t : TermId) → t.0 < length a.nodes → ((nat_eq t.0 s.0 ≡ true) × (t.0 ≡ s.0)) ⊎ ((nat_eq t.0 s.0 ≡ false) × (t.0 ≢ s.0)) → without given (tree a t) ≡ at own t.0
      by_case t h (inl same) = ap (λ b. cond b (at own s.0) (given (tree a t))) (sym (term_eq-ids a ok t s h inside) ∙ same.0) ∙ sym (ap (at own) same.1)
      by_case t h (inr other) =
          ap (λ b. cond b (at own s.0) (given (tree a t))) (sym (term_eq-ids a ok t s h inside) ∙ other.0)
          ∙ (gives.each t h ∙ given_there a own start started s v inside t other.1)

  -- its value is nowhere looked at
  module _ (given : Term → Option Bool) (gives : Gives a own s v given) where
    before : IsFilled a (without given) ids (length ids) found
    before = base.all.passed.filled (without given) (gives_without given gives)

    before_to : (k : ℕ) → k ≤ length ids → IsFilled a (without given) ids k found
    before_to k h = record { count = before.count; others = before.others; earlier = λ i t below e. before.earlier i t (omega (arith, h, below)) e }

    found_there : (t : TermId) → t.0 ≢ s.0 → at changed t.0 ≡ at found t.0
    found_there t other = get_or-set_other found s.0 t.0 (Some v) None other

    changed_count : length changed ≡ length a.nodes
    changed_count = length-set found s.0 (Some v) ∙ before.count

    apart : (t : TermId) → connects a t ≡ true → t.0 ≢ s.0
    apart t c same = false≢true (sym bare ∙ (sym (ap (connects a) (id_from t s same)) ∙ c))

    unseen : (t : TermId) → is_marked marks t ≡ true → t.0 ≢ s.0
    unseen t h same = false≢true (sym unmarked ∙ (sym (ap (is_marked marks) (id_from t s same)) ∙ h))

    first_same : (args : List TermId) → MarksAll marks args → first_found changed args ≡ first_found found args
    first_same [] all = refl
    first_same (x ∷ args) all = found_there x (unseen x (all.each 0 x refl))

    second_same : (args : List TermId) → MarksAll marks args → second_found changed args ≡ second_found found args
    second_same [] all = refl
    second_same (x ∷ []) all = refl
    second_same (x ∷ y ∷ args) all = found_there y (unseen y (all.each 1 y refl))

    node_same : (t : TermId) → t.0 < length a.nodes → connects a t ≡ true → of_node changed (slice_get a.nodes t.0) ≡ of_node found (slice_get a.nodes t.0)
    node_same t h c =
        let n = node_of a ok t h in
        let all : MarksAll marks n.0.args = arguments.each t n.0 n.1 c in
        ap (of_node changed) n.1 ∙ (ap₂ (connected n.0.head) (first_same n.0.args all) (second_same n.0.args all) ∙ sym (ap (of_node found) n.1))

    others : (t : TermId) → t.0 < length a.nodes → connects a t ≡ false → at changed t.0 ≡ valued_in a given t
    others t h c = by_case (eqb_tells t.0 s.0)
      where
        by_case : ((nat_eq t.0 s.0 ≡ true) × (t.0 ≡ s.0)) ⊎ ((nat_eq t.0 s.0 ≡ false) × (t.0 ≢ s.0)) → at changed t.0 ≡ valued_in a given t
        by_case (inl same) =
            ap (at changed) same.1
            ∙ (get_or-set_same found s.0 (Some v) None (omega (arith, inside, before.count))
            ∙ sym (ap (λ o. or_else o (computed (atoms.is_truth a.shapes a.decls) given (tree a t))) (gives.each t h ∙ given_here a own start started s v inside t same.1)))
        by_case (inr other) =
            found_there t other.1
            ∙ (before.others t h c
            ∙ (ap₂ or_else ((gives_without given gives).each t h ∙ listed_at a own start started base.past true base.is_past t h) (plain_value a (without given) t c)
            ∙ sym (ap₂ or_else (gives.each t h ∙ given_there a own start started s v inside t other.1) (plain_value a given t c))))

    module _ (k : ℕ) (below : k < length ids) (t : TermId) (is : slice_get ids k ≡ Some t) where
      in_range : t.0 < length a.nodes
      in_range = are.in_range k t is

      connective : connects a t ≡ true
      connective = are.connect k t is

      given_is : given_at own s v t ≡ at own t.0
      given_is = given_there a own start started s v inside t (apart t connective)

      computed_is : computed (atoms.is_truth a.shapes a.decls) (without given) (tree a t) ≡ of_node found (slice_get a.nodes t.0)
      computed_is = next_computed a ok ids are (without given) k found (before_to k (omega (arith, below))) t is

      value_is : at changed t.0 ≡ or_else (given_at own s v t) (of_node changed (slice_get a.nodes t.0))
      value_is =
          found_there t (apart t connective)
          ∙ (before.earlier k t below is
          ∙ ap₂ or_else ((gives_without given gives).each t in_range ∙ (listed_at a own start started base.past true base.is_past t in_range ∙ sym given_is)) (computed_is ∙ sym (node_same t in_range connective)))

      set_is : changed ≡ slice_set changed t.0 (or_else (given_at own s v t) (of_node changed (slice_get a.nodes t.0)))
      set_is = set_same changed t.0 (or_else (given_at own s v t) (of_node changed (slice_get a.nodes t.0))) (let h = in_range in omega (arith, h, changed_count)) value_is

      quiet_is : opposite (of_node changed (slice_get a.nodes t.0)) (given_at own s v t) ≡ false
      quiet_is =
          ap₂ opposite (node_same t in_range connective ∙ sym computed_is) (given_is ∙ sym ((gives_without given gives).each t in_range ∙ listed_at a own start started base.past true base.is_past t in_range))
          ∙ (base.all.passed.quiet (without given) (gives_without given gives)).each k t below is

    to : (k : ℕ) → k ≤ length ids → IsFilled a given ids k changed × QuietBefore a given ids k
    to zero h = (record { count = changed_count; others = others; earlier = λ i t below e. absurd (omega (arith, below)) }, record { each = λ i t below e. absurd (omega (arith, below)) })
    to (suc k) h =
        let below : k < length ids = omega (arith, h) in
        let t : TermId = slice_index_or ids k (record { 0 = 0 }) in
        let is : slice_get ids k ≡ Some t = slice_get-get_or ids k (record { 0 = 0 }) below in
        let so_far = to k (omega (arith, h)) in (
          simp unary_clauses at (new_filled a ok ids are own s v k changed changed t is (set_is k below t is) given gives so_far.0),
          simp unary_clauses at (new_quiet a ok ids are own s v k changed changed t is (set_is k below t is) given gives so_far.0 so_far.1 (quiet_is k below t is)),
        )

  pub unmarked_quiet : AreQuiet a own → opposite (plain_at a s) (Some v) ≡ false → NoneClashes a own s v
  unmarked_quiet quiet e = none_clashes a own start started s v inside quiet e (record {
    quiet = λ given gives t h c.
        let stands = are.all t h c in
        (to given gives (length ids) (omega (arith))).1.each stands.place t (slice_get_within ids stands.place t stands.is) stands.is;
  })
