-- What arguments are worth, one by one.
use Rattle.std.proofs.Common.{◌≡◌, ℕ, zero, suc, ◌+◌, ◌<◌, ◌≤◌, List, [], ◌∷◌, ◌++◌, map, take, length, get_or, refl, sym, ap, ◌∙◌, subst, Some, Ok, arith, inl, inr}
use mathlib.Core.Path.{ap₂}
use mathlib.Core.List.{map-append}
use Rattle.std.specs.Prelude.{slice_get, Option, None, Result, Err, IfOk, IfSome}
use Rattle.std.specs.declared.alloc.AllocError.{AllocError}
use Rattle.std.proofs.lemmas.Bool.{cases_lt}
use Rattle.std.proofs.lemmas.List.{length_push, take_more}
use Rattle.std.proofs.lemmas.Option.{slice_get-get_or, slice_get_within, same_Some}
use Rattle.spv_whole.specs.Fraction.{Fraction}
use Rattle.spv_logic.specs.declared.conditions.TermId.{TermId}
use Rattle.spv_logic.specs.Terms.{Term}
use Rattle.spv_term.specs.declared.nodes.Node.{Node}
use Rattle.spv_term.specs.Arena.{Arena, AllBelow, IsArena, tree, trees, trees_in, trees_of}
use Rattle.spv_term.proofs.ArenaLemmas.{tree-node, args_in_range}
use Rattle.spv_term.proofs.ListLemmas.{slice_get-append_left, slice_get_push}
use Rattle.spv_term.proofs.TreeLemmas.{AllBelow-append, AllBelow-at}
use Rattle.spv_table.specs.Kept.{PairsIn}
use Rattle.spv_table.specs.Values.{value}
use Rattle.spv_search_terms.specs.head_index.Chains.{head_of}
use Rattle.spv_models.specs.leaf_models.Subterms.{arguments, list_of}
use Rattle.spv_verdicts.specs.candidate_models.Trying.{AreKeys, AreWorth, IsWorthOfOne, known_values}

pub item_in : (n : ℕ) (ids : List TermId) (i : ℕ) (d : TermId) → AllBelow n ids → i < length ids → (get_or ids i d).0 < n
item_in n ids i d h below = AllBelow-at n ids i (get_or ids i d) h (slice_get-get_or ids i d below)

pub pair_in_at : (a : Arena) (pairs : List (TermId × Fraction)) (i : ℕ) (p : TermId × Fraction) → PairsIn a pairs → slice_get pairs i ≡ Some p → p.0.0 < length a.nodes
pair_in_at a [] i p h at = absurd (cc)
pair_in_at a (q ∷ pairs) zero p h at = subst (λ (x : TermId × Fraction). x.0.0 < length a.nodes) (same_Some q p at) h.0
pair_in_at a (q ∷ pairs) (suc i) p h at = pair_in_at a pairs i p h.1 at

pub pair_in_here : (a : Arena) (pairs : List (TermId × Fraction)) (i : ℕ) (d : TermId × Fraction) → PairsIn a pairs → i < length pairs → (get_or pairs i d).0.0 < length a.nodes
pair_in_here a pairs i d h below = pair_in_at a pairs i (get_or pairs i d) h (slice_get-get_or pairs i d below)

-- ---- terms one by one

known-push : (xs : List Fraction) (x : Fraction) → known_values (xs ++ x ∷ []) ≡ known_values xs ++ Ok x ∷ []
known-push [] x = refl
known-push (y ∷ xs) x = ap (λ os. Ok y ∷ os) (known-push xs x)

pub none_worth : (listed : Term → Fraction) (a : Arena) (ids : List TermId) (xs : List Fraction) → xs ≡ [] → AreWorth listed (map (tree a) (take 0 ids)) xs
none_worth listed a [] xs e = ap known_values (sym e)
none_worth listed a (t ∷ ids) xs e = ap known_values (sym e)

pub one_worth : (listed : Term → Fraction) (a : Arena) (ids : List TermId) (n : ℕ) (d : TermId) → n < length ids → (xs ys : List Fraction) → AreWorth listed (map (tree a) (take n ids)) xs → IsWorthOfOne listed (tree a (get_or ids n d)) xs ys
    → AreWorth listed (map (tree a) (take (n + 1) ids)) ys
one_worth listed a ids n d within xs ys h k =
    ap (λ (ts : List TermId). map (value listed) (map (tree a) ts)) (take_more ids n d within)
    ∙ (ap (map (value listed)) (map-append (tree a) (take n ids) (get_or ids n d ∷ []))
    ∙ (map-append (value listed) (map (tree a) (take n ids)) (tree a (get_or ids n d) ∷ [])
    ∙ (ap₂ (λ os o. os ++ o ∷ []) h k.worth ∙ (sym (known-push xs k.number) ∙ ap known_values (sym k.is)))))

whole : (ids : List TermId) (n : ℕ) → length ids ≤ n → take n ids ≡ ids
whole [] zero past = refl
whole [] (suc n) past = refl
whole (t ∷ ids) zero past = absurd (omega (arith, past))
whole (t ∷ ids) (suc n) past = ap (λ ts. t ∷ ts) (whole ids n (omega (arith, past)))

pub all_worth : (listed : Term → Fraction) (a : Arena) (ids : List TermId) (n : ℕ) → length ids ≤ n → (xs : List Fraction) → AreWorth listed (map (tree a) (take n ids)) xs → AreWorth listed (map (tree a) ids) xs
all_worth listed a ids n past xs h = ap (λ (ts : List TermId). map (value listed) (map (tree a) ts)) (sym (whole ids n past)) ∙ h

-- ---- the arguments of a term

list-trees : (ts : List Term) (a : Arena) (ids : List TermId) → list_of (trees a ids) ≡ map (tree a) ids
list-trees ts a [] = refl
list-trees ts a (t ∷ ids) = ap (λ us. tree a t ∷ us) (list-trees ts a ids)

pub arguments-node : (a : Arena) → IsArena a → (t : TermId) (n : Node) → slice_get a.nodes t.0 ≡ Some n → arguments (tree a t) ≡ map (tree a) n.args
arguments-node a ok t n at = ap arguments (tree-node a ok t n at) ∙ list-trees [] a n.args

pub key_is : (listed : Term → Fraction) (a : Arena) → IsArena a → (t : TermId) (n : Node) → slice_get a.nodes t.0 ≡ Some n → (ids : List TermId) → ids ≡ n.args → (xs : List Fraction) → AreWorth listed (map (tree a) ids) xs → AreWorth listed (arguments (tree a t)) xs
key_is listed a ok t n at ids e xs h = ap (map (value listed)) (arguments-node a ok t n at ∙ ap (map (tree a)) (sym e)) ∙ h

pub arguments_in : (a : Arena) → IsArena a → (t : TermId) (n : Node) → slice_get a.nodes t.0 ≡ Some n → (ids : List TermId) → ids ≡ n.args → AllBelow (length a.nodes) ids
arguments_in a ok t n at ids e = subst (AllBelow (length a.nodes)) (sym e) (args_in_range a ok t n at)

-- the arguments of one term more
pub more_in : (n : ℕ) (old new args : List TermId) → new ≡ old ++ args → AllBelow n old → AllBelow n args → AllBelow n new
more_in n old new args e h k = subst (AllBelow n) (sym e) (AllBelow-append n old args h k)

-- ---- entries one by one

pub record KeysSoFar (a : Arena) (listed : Term → Fraction) (pairs : List (TermId × Fraction)) (n : ℕ) (keys : List (List Fraction)) : Type 0 where
  pub many : length keys ≡ n
  pub each : (i : ℕ) (p : TermId × Fraction) (xs : List Fraction) → slice_get pairs i ≡ Some p → slice_get keys i ≡ Some xs → AreWorth listed (arguments (tree a p.0)) xs

pub no_keys : (a : Arena) (listed : Term → Fraction) (pairs : List (TermId × Fraction)) (keys : List (List Fraction)) → keys ≡ [] → KeysSoFar a listed pairs 0 keys
no_keys a listed pairs keys e = subst (λ (ks : List (List Fraction)). KeysSoFar a listed pairs 0 ks) (sym e) (record { many = refl; each = λ i p xs at there. absurd (nothing i xs there) })
  where
    nothing : (i : ℕ) (xs : List Fraction) → slice_get [] i ≡ Some xs → ⊥
    nothing i xs at = cc

pub one_key : (a : Arena) (listed : Term → Fraction) (pairs : List (TermId × Fraction)) (n : ℕ) (d : TermId × Fraction) → n < length pairs → (keys more : List (List Fraction)) (xs : List Fraction) → KeysSoFar a listed pairs n keys
    → AreWorth listed (arguments (tree a (get_or pairs n d).0)) xs → more ≡ keys ++ xs ∷ [] → KeysSoFar a listed pairs (n + 1) more
one_key a listed pairs n d within keys more xs h k e = subst (λ (ks : List (List Fraction)). KeysSoFar a listed pairs (n + 1) ks) (sym e) (record {
  many = length_push keys xs ∙ ap (λ m. m + 1) h.many;
  each = each;
})
  where
    each : (i : ℕ) (p : TermId × Fraction) (ys : List Fraction) → slice_get pairs i ≡ Some p → slice_get (keys ++ xs ∷ []) i ≡ Some ys → AreWorth listed (arguments (tree a p.0)) ys
    each i p ys at there = elim (cases_lt i (length keys)) [
      | inl l ↦ h.each i p ys at (sym (slice_get-append_left keys (xs ∷ []) i l) ∙ there)
      | inr l ↦
          let inside = slice_get_within (keys ++ xs ∷ []) i ys there in
          let long = length_push keys xs in
          let place : i ≡ length keys = omega (arith, long, inside, l) in
          let same : xs ≡ ys = same_Some xs ys (sym (slice_get_push keys xs) ∙ (ap (slice_get (keys ++ xs ∷ [])) (sym place) ∙ there)) in
          let many = h.many in
          let spot : n ≡ i = omega (arith, many, place) in
          let here : get_or pairs n d ≡ p = same_Some (get_or pairs n d) p (sym (slice_get-get_or pairs n d within) ∙ (ap (slice_get pairs) spot ∙ at)) in
          subst (λ (zs : List Fraction). AreWorth listed (arguments (tree a p.0)) zs) same (subst (λ (q : TermId × Fraction). AreWorth listed (arguments (tree a q.0)) xs) here k)
    ]

pub all_keys : (a : Arena) (listed : Term → Fraction) (pairs : List (TermId × Fraction)) (n : ℕ) → n ≡ length pairs → (keys : List (List Fraction)) → KeysSoFar a listed pairs n keys → AreKeys a listed pairs keys
all_keys a listed pairs n past keys h = record { many = h.many ∙ past; each = h.each }

-- ---- entries that are there

pub pairs_as : (a : Arena) (values seen : List (TermId × Fraction)) → seen ≡ values → PairsIn a values → PairsIn a seen
pairs_as a values seen e h = subst (PairsIn a) (sym e) h

-- ---- heads

pub head-node : (a : Arena) → IsArena a → (t : TermId) (n : Node) → slice_get a.nodes t.0 ≡ Some n → head_of (tree a t) ≡ n.head
head-node a ok t n at = ap head_of (tree-node a ok t n at)

-- ---- the key of a term, if there is one

pub if_key : (listed : Term → Fraction) (a : Arena) → IsArena a → (t : TermId) (n : Node) → slice_get a.nodes t.0 ≡ Some n → (ids : List TermId) → ids ≡ n.args → (r : Result (Option (List Fraction)) AllocError)
    → IfOk r (λ o. IfSome o (AreWorth listed (map (tree a) ids))) → IfOk r (λ o. IfSome o (AreWorth listed (arguments (tree a t))))
if_key listed a ok t n at ids e (Ok (Some xs)) h = key_is listed a ok t n at ids e xs h
if_key listed a ok t n at ids e (Ok None) h = tt
if_key listed a ok t n at ids e (Err x) h = tt

pub pair_in_as : (a : Arena) (pairs : List (TermId × Fraction)) (i : ℕ) (d : TermId × Fraction) → PairsIn a pairs → i < length pairs → d ≡ get_or pairs i d → d.0.0 < length a.nodes
pair_in_as a pairs i d h below e = subst (λ (x : TermId × Fraction). x.0.0 < length a.nodes) (sym e) (pair_in_here a pairs i d h below)
