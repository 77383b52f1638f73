-- Equations of each two comparable terms of a list, over plain variables.
use Rattle.std.proofs.Common.{◌≡◌, ℕ, zero, suc, ◌+◌, ◌-◌, ◌<◌, ◌≤◌, Bool, true, false, cond, ◌&&◌, ◌||◌, List, [], ◌∷◌, ◌++◌, map, drop, length, slice_get, get_or, refl, sym, ap, ◌∙◌, Some, arith}
use Rattle.std.specs.List.{flat_map}
use Rattle.std.proofs.lemmas.List.{length-map, drop_more}
use Rattle.std.proofs.lemmas.Option.{slice_get-get_or, same_Some}
use Rattle.spv_logic.specs.declared.conditions.TermId.{TermId}
use Rattle.spv_logic.specs.declared.types.Shape.{Shape}
use Rattle.spv_logic.specs.declared.types.Decl.{Decl}
use Rattle.spv_logic.specs.declared.operators.Head.{Head}
use Rattle.spv_logic.specs.Terms.{Term, Terms, term, head_eq}
use Rattle.spv_logic.specs.Sorts.{term_sorts}
use Rattle.spv_logic.proofs.Equality.{head_eq-true}
use Rattle.spv_term.specs.Arena.{Arena, AllBelow, tree, Extends}
use Rattle.spv_term.proofs.ArenaLemmas.{tree-Extends, map_tree-Extends, length-Extends}
use Rattle.spv_models.specs.leaf_models.Subterms.{is_listed}
use Rattle.spv_models.specs.leaf_models.Atoms.{same_sorts, equations_of, pair_equations, all_equations}
use Rattle.spv_search_terms.specs.subterms.Gaining.{Stops}
use Rattle.spv_search_terms.specs.head_index.Chains.{head_of, heads, IsFirstFrom, AreChained}
use Rattle.spv_search_terms.specs.split_candidates.Equating.{at, GainsAtoms, RemainsAtoms}
use Rattle.spv_search_terms.proofs.split_candidates.EquationLemmas.{remains_all, remains_as, remains_next, remains_stop, remains_end, gains_as, stops_as}

-- ---- lists

-- what gives nothing may be left out
skip : (f : Term → List Term) (ts : List Term) (from to : ℕ) → from ≤ to → ((k : ℕ) (u : Term) → from ≤ k → k < to → slice_get ts k ≡ Some u → f u ≡ []) → flat_map f (drop from ts) ≡ flat_map f (drop to ts)
skip f [] zero zero h none = refl
skip f [] zero (suc to) h none = refl
skip f [] (suc from) zero h none = refl
skip f [] (suc from) (suc to) h none = refl
skip f (t ∷ ts) zero zero h none = refl
skip f (t ∷ ts) zero (suc to) h none =
    ap (λ es. es ++ flat_map f ts) (none zero t (omega arith) (omega arith) refl) ∙ skip f ts zero to (omega arith) (λ k u low high e. none (suc k) u (omega arith) (omega (arith, high)) e)
skip f (t ∷ ts) (suc from) zero h none = absurd (omega (arith, h))
skip f (t ∷ ts) (suc from) (suc to) h none = skip f ts from to (omega (arith, h)) (λ k u low high e. none (suc k) u (omega (arith, low)) (omega (arith, high)) e)

drop_end : {A : Type 0} (xs : List A) (i : ℕ) → length xs ≤ i → drop i xs ≡ []
drop_end [] zero h = refl
drop_end [] (suc i) h = refl
drop_end (x ∷ xs) zero h = absurd (omega (arith, h))
drop_end (x ∷ xs) (suc i) h = drop_end xs i (omega (arith, h))

-- what else makes two applications comparable
abbrev others_of : List Shape → List Decl → Head → Terms → Head → Terms → Bool
others_of shapes decls h ss k us = same_sorts (term_sorts shapes decls ss) (term_sorts shapes decls us) && (is_listed (term h ss) || is_listed (term k us))

-- of two heads that differ there is no pair
apart : (shapes : List Shape) (decls : List Decl) (x y : Term) → (head_of y ≡ head_of x → ⊥) → pair_equations shapes decls x y ≡ []
apart shapes decls (term h ss) (term k us) differ = by_case (head_eq h k) refl
  where
    by_case : (b : Bool) → head_eq h k ≡ b → pair_equations shapes decls (term h ss) (term k us) ≡ []
    by_case true e = absurd (differ (sym (head_eq-true h k e)))
    by_case false e = ap (λ b. cond (b && others_of shapes decls h ss k us) (equations_of shapes decls (term h ss) (term k us)) []) e

heads_at : (a : Arena) (ids : List TermId) (k : ℕ) (u : Term) → slice_get (map (tree a) ids) k ≡ Some u → slice_get (heads a ids) k ≡ Some (head_of u)
heads_at a [] k u e = absurd (cc)
heads_at a (t ∷ ids) zero u e = ap (λ (x : Term). Some (head_of x)) (same_Some (tree a t) u e)
heads_at a (t ∷ ids) (suc k) u e = heads_at a ids k u e

map_at : (a : Arena) (ids : List TermId) (k : ℕ) → k < length ids → slice_get (map (tree a) ids) k ≡ Some (tree a (at ids k))
map_at a [] k h = absurd (omega (arith, h))
map_at a (t ∷ ids) zero h = refl
map_at a (t ∷ ids) (suc k) h = map_at a ids k (omega (arith, h))

pub at_in : (n : ℕ) (ids : List TermId) (k : ℕ) → AllBelow n ids → k < length ids → (at ids k).0 < n
at_in n [] k h low = absurd (omega (arith, low))
at_in n (t ∷ ids) zero h low = h.0
at_in n (t ∷ ids) (suc k) h low = at_in n ids k h.1 (omega (arith, low))

flag_at : (a : Arena) (ids : List TermId) (k : ℕ) → k < length ids → get_or (map (λ t. is_listed (tree a t)) ids) k false ≡ is_listed (tree a (at ids k))
flag_at a [] k h = absurd (omega (arith, h))
flag_at a (t ∷ ids) zero h = refl
flag_at a (t ∷ ids) (suc k) h = flag_at a ids k (omega (arith, h))

drop_map : (a : Arena) (ids : List TermId) (k : ℕ) → k < length ids → drop k (map (tree a) ids) ≡ tree a (at ids k) ∷ drop (k + 1) (map (tree a) ids)
drop_map a ids k h =
    let count = length-map ids (tree a) in
    drop_more (map (tree a) ids) k (tree a (at ids k)) (omega (arith, count, h))
    ∙ ap (λ (u : Term). u ∷ drop (k + 1) (map (tree a) ids)) (same_Some _ (tree a (at ids k)) (sym (slice_get-get_or (map (tree a) ids) k (tree a (at ids k)) (omega (arith, count, h))) ∙ map_at a ids k h))

-- ---- one term with the later ones of its head

module _ (a : Arena) (ids : List TermId) (place : ℕ) where
  abbrev one_of : Term
  one_of = tree a (at ids place)

  abbrev pub pairs_of : Term → List Term
  pairs_of = pair_equations a.shapes a.decls one_of

  abbrev pub later_of : ℕ → List Term
  later_of k = flat_map pairs_of (drop k (map (tree a) ids))

  -- what is true before and after each turn
  pub record IsPairing (out : List TermId) (now : Arena) (found : List TermId) (later : ℕ) : Type 0 where
    pub remains : RemainsAtoms a out now found (later_of (place + 1)) (later_of later)
    pub within : later ≤ length ids
    pub same : (h : Head) → slice_get (heads a ids) later ≡ Some h → h ≡ head_of one_of

module _ (a : Arena) (ids : List TermId) (inside : AllBelow (length a.nodes) ids) (place : ℕ) (place_in : place < length ids) where
  abbrev one : Term
  one = one_of a ids place

  abbrev pub pairs_with : Term → List Term
  pairs_with = pairs_of a ids place

  abbrev pub later_from : ℕ → List Term
  later_from k = later_of a ids place k

  own_head : slice_get (heads a ids) place ≡ Some (head_of one)
  own_head = heads_at a ids place one (map_at a ids place place_in)

  -- the later ones up to the next one of this head give nothing
  skipped : (k next : ℕ) → IsFirstFrom (heads a ids) (suc k) (head_of one) next → later_from (k + 1) ≡ later_from next
  skipped k next f =
      let behind = f.behind in
      skip pairs_with (map (tree a) ids) (k + 1) next (omega (arith, behind))
      (λ i u low high e. apart a.shapes a.decls one u (λ same. f.skips i (omega (arith, low)) high (heads_at a ids i u e ∙ ap (λ (h : Head). Some h) same)))

  module _ (next : List ℕ) (chained : AreChained (heads a ids) next) where
    first_behind : (k p : ℕ) → slice_get (heads a ids) k ≡ Some (head_of one) → slice_get next k ≡ Some p → IsFirstFrom (heads a ids) (suc k) (head_of one) p
    first_behind k p head beside = chained.each k p (head_of one) head beside

    pub pairing_starts : (out : List TermId) (later : ℕ) → AllBelow (length a.nodes) out → slice_get next place ≡ Some later → IsPairing a ids place out a out later
    pairing_starts out later h beside =
        let f = first_behind place later own_head beside in
        let count : length (heads a ids) ≡ length ids = length-map ids (λ t. head_of (tree a t)) in
        let within = f.within in
        record {
          remains = remains_as a out a out (later_from (place + 1)) (later_from (place + 1)) (remains_all a out (later_from (place + 1)) h) (later_from later) (skipped place later f);
          within = omega (arith, within, count);
          same = f.is;
        }

    module _ (out : List TermId) (now : Arena) (found : List TermId) (later : ℕ) (p : IsPairing a ids place out now found later) (low : later < length ids) where
      more : Extends a now
      more = p.remains.remains.grows

      abbrev other : Term
      other = tree a (at ids later)

      later_is : later_from later ≡ pairs_with other ++ later_from (later + 1)
      later_is = ap (flat_map pairs_with) (drop_map a ids later low)

      pub pair_now : pair_equations now.shapes now.decls (tree now (at ids place)) (tree now (at ids later)) ≡ pairs_with other
      pair_now =
          λ i. pair_equations (more.shapes i) (more.decls i) (tree-Extends more (at ids place) (at_in (length a.nodes) ids place inside place_in) i) (tree-Extends more (at ids later) (at_in (length a.nodes) ids later inside low) i)

      pub first_in : (at ids place).0 < length now.nodes
      first_in = let h = at_in (length a.nodes) ids place inside place_in in let e = length-Extends more in omega (arith, h, e)

      pub second_in : (at ids later).0 < length now.nodes
      second_in = let h = at_in (length a.nodes) ids later inside low in let e = length-Extends more in omega (arith, h, e)

      pub pairing_stops : Stops now (pair_equations now.shapes now.decls (tree now (at ids place)) (tree now (at ids later))) → Stops a (later_from (place + 1))
      pairing_stops s = remains_stop a out now found (later_from (place + 1)) (later_from later) p.remains (pairs_with other) (later_from (later + 1)) later_is (stops_as now _ (pairs_with other) pair_now s)

      pub pairing_next : (c : Arena) (found' : List TermId) (q : ℕ) → slice_get next later ≡ Some q → GainsAtoms now found c found' (pair_equations now.shapes now.decls (tree now (at ids place)) (tree now (at ids later))) → IsPairing a ids place out c found' q
      pairing_next c found' q beside g =
          let head = heads_at a ids later other (map_at a ids later low) in
          let same = p.same (head_of other) head in
          let f = first_behind later q (head ∙ ap (λ (h : Head). Some h) same) beside in
          let count : length (heads a ids) ≡ length ids = length-map ids (λ t. head_of (tree a t)) in
          let within = f.within in
          record {
            remains =
                remains_as a out c found' (later_from (place + 1)) (later_from (later + 1))
                (remains_next a out now found (later_from (place + 1)) (later_from later) p.remains (pairs_with other) (later_from (later + 1)) later_is c found' (gains_as now c found found' _ (pairs_with other) pair_now g))
                (later_from q) (skipped later q f);
            within = omega (arith, within, count);
            same = f.is;
          }

      pairing_less : (q : ℕ) → slice_get next later ≡ Some q → later < q
      pairing_less q beside =
          let head = heads_at a ids later other (map_at a ids later low) in
          let same = p.same (head_of other) head in
          let behind = (first_behind later q (head ∙ ap (λ (h : Head). Some h) same) beside).behind in
          omega (arith, behind)

      pub pairing_smaller : (q : ℕ) → slice_get next later ≡ Some q → length ids - q < length ids - later
      pairing_smaller q beside = let less = pairing_less q beside in omega (arith, less, low)

    pub pairing_ends : (out : List TermId) (now : Arena) (found : List TermId) (later : ℕ) → IsPairing a ids place out now found later → length ids ≤ later → GainsAtoms a out now found (later_from (place + 1))
    pairing_ends out now found later p over =
        let count = length-map ids (tree a) in
        remains_end a out now found (later_from (place + 1)) (later_from later) p.remains (ap (flat_map pairs_with) (drop_end (map (tree a) ids) later (omega (arith, over, count))))

  pub flag_here : (now : Arena) → Extends a now → (listed : List Bool) → listed ≡ map (λ t. is_listed (tree a t)) ids → (k : ℕ) → k < length ids → get_or listed k false ≡ is_listed (tree now (at ids k))
  flag_here now more listed e k h =
      ap (λ (bs : List Bool). get_or bs k false) e ∙ (flag_at a ids k h ∙ ap is_listed (sym (tree-Extends more (at ids k) (at_in (length a.nodes) ids k inside h))))

  -- the length of the chain
  pub next_in : (next : List ℕ) (k : ℕ) → AreChained (heads a ids) next → k < length ids → k < length next
  next_in next k c h = let e = c.count in let f = length-map ids (λ t. head_of (tree a t)) in omega (arith, h, e, f)

-- ---- all pairs

module _ (a : Arena) (ids : List TermId) (inside : AllBelow (length a.nodes) ids) where
  abbrev pub pairs_from : ℕ → List Term
  pairs_from k = all_equations a.shapes a.decls (drop k (map (tree a) ids))

  pub pairs_next : (k : ℕ) → k < length ids → pairs_from k ≡ flat_map (pair_equations a.shapes a.decls (tree a (at ids k))) (drop (k + 1) (map (tree a) ids)) ++ pairs_from (k + 1)
  pairs_next k h = ap (all_equations a.shapes a.decls) (drop_map a ids k h)

  pub pairs_end : (k : ℕ) → length ids ≤ k → pairs_from k ≡ []
  pairs_end k h = let count = length-map ids (tree a) in ap (all_equations a.shapes a.decls) (drop_end (map (tree a) ids) k (omega (arith, h, count)))

  module _ (now : Arena) (more : Extends a now) where
    pub heads_now : heads now ids ≡ heads a ids
    heads_now = heads_are ids inside
      where
        heads_are : (ts : List TermId) → AllBelow (length a.nodes) ts → heads now ts ≡ heads a ts
        heads_are [] h = refl
        heads_are (t ∷ ts) h =
            let first = ap head_of (tree-Extends more t h.0) in
            let others = heads_are ts h.1 in
            λ i. first i ∷ others i

    pub listed_now : map (λ t. is_listed (tree now t)) ids ≡ map (λ t. is_listed (tree a t)) ids
    listed_now = listed_are ids inside
      where
        listed_are : (ts : List TermId) → AllBelow (length a.nodes) ts → map (λ t. is_listed (tree now t)) ts ≡ map (λ t. is_listed (tree a t)) ts
        listed_are [] h = refl
        listed_are (t ∷ ts) h =
            let first = ap is_listed (tree-Extends more t h.0) in
            let others = listed_are ts h.1 in
            λ i. first i ∷ others i

    pub later_now : (k : ℕ) → k < length ids → flat_map (pair_equations now.shapes now.decls (tree now (at ids k))) (drop (k + 1) (map (tree now) ids)) ≡ flat_map (pair_equations a.shapes a.decls (tree a (at ids k))) (drop (k + 1) (map (tree a) ids))
    later_now k h =
        λ i. flat_map (pair_equations (more.shapes i) (more.decls i) (tree-Extends more (at ids k) (at_in (length a.nodes) ids k inside h) i)) (drop (k + 1) (map_tree-Extends more ids inside i))
