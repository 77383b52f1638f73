-- Terms of one head, each with the next one behind it, over plain variables.
use Rattle.std.proofs.Common.{◌≡◌, ℕ, zero, suc, ◌<◌, ◌≤◌, Bool, true, false, cond, List, [], ◌∷◌, length, slice_get, slice_set, get_or, unwrap_or, nat_eq, refl, sym, ap, ◌∙◌, subst, Some, arith}
use Rattle.std.specs.Option.{option_map}
use Rattle.std.proofs.lemmas.Bool.{false≢true, eqb-true, eq-eqb}
use Rattle.std.proofs.lemmas.List.{length-map, length-set}
use Rattle.std.proofs.lemmas.Option.{slice_get-get_or, slice_get-map, slice_get_within, same_Some}
use Rattle.spv_logic.specs.declared.conditions.TermId.{TermId}
use Rattle.spv_logic.specs.declared.operators.Head.{Head}
use Rattle.spv_logic.specs.Terms.{Term}
use Rattle.spv_logic.proofs.Equality.{head_eq-true, head_eq-refl}
use Rattle.spv_logic.specs.contracts.operators.HeadOrd.TheImpl.Laws as order_laws
use Rattle.spv_term.specs.declared.nodes.Node.{Node}
use Rattle.spv_term.specs.Arena.{Arena, IsArena, AllBelow, tree}
use Rattle.spv_term.proofs.ArenaLemmas.{tree-node}
use Rattle.spv_term.proofs.TreeLemmas.{AllBelow-at}
use Rattle.spv_proof_steps.proofs.Heads.{head_test}
use Rattle.spv_search_terms.specs.head_index.Chains.{head_of, heads, IsFirstFrom, AreChained, same, place_in, PutsPlace, IsChaining}

module _ {X : Type 0} where
  set_same : (xs : List X) (i : ℕ) (y : X) → i < length xs → slice_get (slice_set xs i y) i ≡ Some y
  set_same [] i y h = absurd (omega (arith, h))
  set_same (x ∷ xs) zero y h = refl
  set_same (x ∷ xs) (suc i) y h = set_same xs i y (omega (arith, h))

  set_other : (xs : List X) (i j : ℕ) (y : X) → (j ≡ i → ⊥) → slice_get (slice_set xs i y) j ≡ slice_get xs j
  set_other [] i j y h = refl
  set_other (x ∷ xs) zero zero y h = absurd (h refl)
  set_other (x ∷ xs) zero (suc j) y h = refl
  set_other (x ∷ xs) (suc i) zero y h = refl
  set_other (x ∷ xs) (suc i) (suc j) y h = set_other xs i j y (λ e. h (ap suc e))

same-true : (h k : Head) → same h k ≡ true → h ≡ k
same-true h k e = head_eq-true h k (sym (head_test h k) ∙ order_laws.matches_eq-law h k ∙ e)

same-refl : (h : Head) → same h h ≡ true
same-refl h = sym (order_laws.matches_eq-law h h) ∙ head_test h h ∙ head_eq-refl h

-- the head of a term is that of its node
pub head-at : (a : Arena) → IsArena a → (ids : List TermId) (i : ℕ) (t : TermId) (n : Node) → slice_get ids i ≡ Some t → slice_get a.nodes t.0 ≡ Some n → slice_get (heads a ids) i ≡ Some n.head
head-at a ok ids i t n at node_at = slice_get-map (λ u. head_of (tree a u)) ids i ∙ (ap (option_map (λ u. head_of (tree a u))) at ∙ ap (λ (x : Term). Some (head_of x)) (tree-node a ok t n node_at))

module _ (hs : List Head) where
  -- nothing is known yet
  pub chain_start : (next : List ℕ) (left : ℕ) → length next ≡ length hs → left ≡ length hs → IsChaining hs left next []
  chain_start next left count e = record {
    within = omega (arith, e);
    count = count;
    each = λ i place h low at beside. absurd (omega (arith, e, low, slice_get_within hs i h at));
    first = λ h. record {
      behind = omega (arith, e);
      within = omega arith;
      is = λ g at. absurd (omega (arith, slice_get_within hs (length hs) g at));
      skips = λ k low high at. omega (arith, e, low, high);
    };
  }

  module _ (left m : ℕ) (next : List ℕ) (entries : List (Head × ℕ)) (c : IsChaining hs left next entries) (one : left ≡ suc m) (h0 : Head) (here : slice_get hs m ≡ Some h0) where
    abbrev place : ℕ
    place = unwrap_or (place_in entries h0) (length hs)

    m_in : m < length hs
    m_in = slice_get_within hs m h0 here

    first_here : IsFirstFrom hs (suc m) h0 place
    first_here = subst (λ n. IsFirstFrom hs n h0 place) one (c.first h0)

    -- the place of this head is known
    known : (h : Head) → h0 ≡ h → IsFirstFrom hs m h m
    known h e = record {
      behind = omega arith;
      within = let w = m_in in omega (arith, w);
      is = λ g at. same_Some g h0 (sym at ∙ here) ∙ e;
      skips = λ k low high at. omega (arith, low, high);
    }

    -- that of another head stays
    kept : (h : Head) → same h0 h ≡ false → IsFirstFrom hs m h (unwrap_or (place_in entries h) (length hs))
    kept h e =
        let old = c.first h in
        let low = old.behind in
        record {
          behind = omega (arith, one, low);
          within = old.within;
          is = old.is;
          skips = λ k from to at. by_case k from to at (nat_eq k m) refl;
        }
      where
        by_case : (k : ℕ) → m ≤ k → k < unwrap_or (place_in entries h) (length hs) → slice_get hs k ≡ Some h → (b : Bool) → nat_eq k m ≡ b → ⊥
        by_case k from to at true f =
            let is_m : k ≡ m = eqb-true k m f in
            let one_head : h0 ≡ h = same_Some h0 h (sym here ∙ (ap (slice_get hs) (sym is_m) ∙ at)) in
            false≢true (sym e ∙ (ap (same h0) (sym one_head) ∙ same-refl h0))
        by_case k from to at false f = (c.first h).skips k (above (λ g. false≢true (sym f ∙ eq-eqb k m g))) to at
          where
            above : (k ≡ m → ⊥) → left ≤ k
            above n = omega (arith, one, from, n)

    pub chain_next : (next' : List ℕ) (entries' : List (Head × ℕ)) (q : ℕ) → q ≡ place → next' ≡ slice_set next m q → PutsPlace h0 m entries entries' → IsChaining hs m next' entries'
    chain_next next' entries' q is_q set puts = record {
      within = let w = m_in in omega (arith, w);
      count = ap length set ∙ (length-set next m q ∙ c.count);
      each = λ i p h low at beside. by_place i p h low at (sym (ap (λ (ns : List ℕ). slice_get ns i) set) ∙ beside) (nat_eq i m) refl;
      first = λ h. by_head h (same h0 h) refl;
    }
      where
        by_place : (i p : ℕ) (h : Head) → m ≤ i → slice_get hs i ≡ Some h → slice_get (slice_set next m q) i ≡ Some p → (b : Bool) → nat_eq i m ≡ b → IsFirstFrom hs (suc i) h p
        by_place i p h low at beside true f =
            let is_m : i ≡ m = eqb-true i m f in
            let one_head : h0 ≡ h = same_Some h0 h (sym here ∙ (ap (slice_get hs) (sym is_m) ∙ at)) in
            let w = m_in in
            let count = c.count in
            let one_place : place ≡ p = sym is_q ∙ same_Some q p (sym (set_same next m q (omega (arith, w, count))) ∙ (ap (slice_get (slice_set next m q)) (sym is_m) ∙ beside)) in
            subst (λ n. IsFirstFrom hs (suc n) h p) (sym is_m) (subst (λ (g : Head). IsFirstFrom hs (suc m) g p) one_head (subst (IsFirstFrom hs (suc m) h0) one_place first_here))
        by_place i p h low at beside false f =
            c.each i p h (above (λ g. false≢true (sym f ∙ eq-eqb i m g))) at (sym (set_other next m i q (λ g. false≢true (sym f ∙ eq-eqb i m g))) ∙ beside)
          where
            above : (i ≡ m → ⊥) → left ≤ i
            above n = omega (arith, one, low, n)

        by_head : (h : Head) (b : Bool) → same h0 h ≡ b → IsFirstFrom hs m h (unwrap_or (place_in entries' h) (length hs))
        by_head h true e =
            subst (IsFirstFrom hs m h) (sym (ap (λ o. unwrap_or o (length hs)) (puts.get h ∙ ap (λ b. cond b (Some m) (place_in entries h)) e))) (known h (same-true h0 h e))
        by_head h false e =
            subst (IsFirstFrom hs m h) (sym (ap (λ o. unwrap_or o (length hs)) (puts.get h ∙ ap (λ b. cond b (Some m) (place_in entries h)) e))) (kept h e)

  pub chain_end : (left : ℕ) (next : List ℕ) (entries : List (Head × ℕ)) → IsChaining hs left next entries → left ≡ 0 → AreChained hs next
  chain_end left next entries c e = record { count = c.count; each = λ i place h at beside. c.each i place h (omega (arith, e)) at beside }

pub length-heads : (a : Arena) (ids : List TermId) → length (heads a ids) ≡ length ids
length-heads a ids = length-map ids (λ t. head_of (tree a t))

pub item_in : (n : ℕ) (ids : List TermId) (i : ℕ) (d : TermId) → AllBelow n ids → i < length ids → (get_or ids i d).0 < n
item_in n ids i d h below = AllBelow-at n ids i (get_or ids i d) h (slice_get-get_or ids i d below)
