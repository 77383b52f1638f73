-- Cores, orders and equations of an arena.
use Rattle.std.proofs.Common.{◌≡◌, ℕ, zero, suc, ◌+◌, ◌<◌, Bool, true, false, cond, ◌&&◌, List, [], length, Option, Some, None, refl, sym, ap, ◌∙◌, subst, inl, inr, ◌⊎◌, arith}
use Rattle.std.specs.Option.{option_map, ForSome}
use Rattle.std.specs.Cmp.Derive.{both_true}
use Rattle.std.proofs.lemmas.Bool.{cases_lt, false≢true, eqb-true}
use Rattle.std.proofs.lemmas.Option.{same_Some}
use Rattle.spv_logic.specs.declared.conditions.TermId.{TermId}
use Rattle.spv_logic.specs.declared.operators.Head.TheVariants.{Eq, Lt}
use Rattle.spv_logic.specs.Terms.{Term, term, terms, no_terms}
use Rattle.spv_logic.specs.Formulas.{equation, below}
use Rattle.spv_term.specs.Arena.{Arena, IsArena, tree}
use Rattle.spv_term.proofs.ArenaLemmas.{HasOneId-arena}
use Rattle.spv_term.proofs.NodeLemmas.{id_from}
use Rattle.spv_atoms.specs.Order.{same_id}
use Rattle.spv_proof_rules.specs.Sums.{negated}
use Rattle.spv_proof_rules.specs.Evaluation.{sides}
use Rattle.spv_proof_steps.specs.Candidates.{lower, pair_of, PairIn}
use Rattle.spv_derivations.specs.declared.derivation.entries.Part.{Part}
use Rattle.spv_derivations.specs.declared.derivation.entries.Part.TheVariants.{True, False, Below, Above}
use Rattle.spv_assignments.specs.polarity.Cores.{denials, is_even, IsCore}
use Rattle.spv_trail.specs.declared.followers.orders.Pair.{Pair}
use Rattle.spv_trail.specs.followers.Followers.{beside, Stands, Puts, PutsAt, Adds, IsNegation, IsEquation, pair, same_pair, order_of, PutsOrder, IsOrder, AreOrders, HaveLists}
use Rattle.spv_trail.proofs.followers.Listing.{same_itself, none_some, at_many, at_keeps, at_there, at_only, adds_nothing, adds_one, says_same}

-- ---- terms by their parts

abbrev two : Term → Term → Term × Term
two s t = (s, t)

sides_are : (t : Term) (st : Term × Term) → sides t ≡ Some st → t ≡ equation st.0 st.1
sides_are (term Eq (terms s (terms u no_terms))) st e = ap (λ (p : Term × Term). equation p.0 p.1) (same_Some (two s u) st e)
sides_are _ st e = absurd cc

lower_are : (t : Term) (st : Term × Term) → lower t ≡ Some st → t ≡ below st.0 st.1
lower_are (term Lt (terms s (terms u no_terms))) st e = ap (λ (p : Term × Term). below p.0 p.1) (same_Some (two s u) st e)
lower_are _ st e = absurd cc

same_sides : (s t u v : Term) → equation s t ≡ equation u v → (s ≡ u) × (t ≡ v)
same_sides s t u v e =
    let h = same_Some (two s t) (two u v) (ap sides e) in
    (ap (λ (p : Term × Term). p.0) h, ap (λ (p : Term × Term). p.1) h)

same_lower : (s t u v : Term) → below s t ≡ below u v → (s ≡ u) × (t ≡ v)
same_lower s t u v e =
    let h = same_Some (two s t) (two u v) (ap lower e) in
    (ap (λ (p : Term × Term). p.0) h, ap (λ (p : Term × Term). p.1) h)

-- ---- pairs

same_ids : (t u : TermId) → same_id t u ≡ true → t ≡ u
same_ids t u e = id_from t u (eqb-true t.0 u.0 e)

same_pairs : (p q : Pair) → same_pair p q ≡ true → p ≡ q
same_pairs p q h = both (same_id p.left q.left) (same_id p.right q.right) refl refl h
  where
    both : (b d : Bool) → same_id p.left q.left ≡ b → same_id p.right q.right ≡ d → (b && d) ≡ true → p ≡ q
    both true true e f g = λ i. record { left = same_ids p.left q.left e i; right = same_ids p.right q.right f i }
    both true false e f g = absurd (false≢true g)
    both false d e f g = absurd (false≢true g)

pairs_same : (p q : Pair) → p.left ≡ q.left → p.right ≡ q.right → same_pair p q ≡ true
pairs_same p q e f = both_true (ap (same_id p.left) (sym e) ∙ same_itself p.left) (ap (same_id p.right) (sym f) ∙ same_itself p.right)

-- two terms that an answer gives are in the arena
pub pair_in : (a : Arena) (o : Option (TermId × TermId)) (s : TermId × TermId) → ForSome o (PairIn a) → o ≡ Some s → PairIn a s
pair_in a o s h e = h s e

module _ (a : Arena) (ok : IsArena a) where
  -- ---- cores

  -- a term has one core, and one number of negations
  one_core : (k i : ℕ) (u v : Term) → negated u ≡ None → negated v ≡ None → denials k u ≡ denials i v → (k ≡ i) × (u ≡ v)
  one_core zero zero u v bare_u bare_v e = (refl, e)
  one_core zero (suc i) u v bare_u bare_v e = absurd (none_some (denials i v) (sym bare_u ∙ ap negated e))
  one_core (suc k) zero u v bare_u bare_v e = absurd (none_some (denials k u) (sym bare_v ∙ ap negated (sym e)))
  one_core (suc k) (suc i) u v bare_u bare_v e =
      let h = one_core k i u v bare_u bare_v (same_Some (denials k u) (denials i v) (ap negated e)) in
      (ap suc h.0, h.1)

  same_core : (q t u : TermId) (b c : Bool) → IsCore a q t b → IsCore a q u c → (t ≡ u) × (b ≡ c)
  same_core q t u b c left right =
      let h = one_core left.count right.count (tree a t) (tree a u) left.bare right.bare (sym left.under ∙ right.under) in
      (HasOneId-arena a ok t u left.inside right.inside h.1, left.parity ∙ (ap is_even h.0 ∙ sym right.parity))

  pub core_itself : (q t : TermId) (b : Bool) (lists : List (List (TermId × Bool))) → IsCore a q t b → same_id t q ≡ true → Adds a (IsNegation a) q lists lists
  core_itself q t b lists core same = adds_nothing a (IsNegation a) q lists (λ u o says. says.other (sym (same_ids t q same) ∙ (same_core q t u b o core says.core).0))

  pub core_other : (q t : TermId) (b : Bool) (old new : List (List (TermId × Bool))) → IsCore a q t b → same_id t q ≡ false → Puts t q b old new → Adds a (IsNegation a) q old new
  core_other q t b old new core other puts = adds_one a (IsNegation a) t q b old new puts (record { core = core; other = λ e. false≢true (sym other ∙ (ap (same_id t) e ∙ same_itself t)) }) (λ u o within says. same_core q t u b o core says.core)

  -- ---- orders

  pub no_orders : (orders : List (Pair × TermId)) → orders ≡ [] → AreOrders a 0 orders
  no_orders orders e = record {
    known = λ p t at. absurd (none_some t (sym (ap (λ os. order_of os p) e) ∙ at));
    all = λ p t left right early is. absurd (omega (arith, early));
  }

  module _ (t : TermId) (within : t.0 < length a.nodes) (old : List (Pair × TermId)) (before : AreOrders a t.0 old) where
    early_or_here : (u : TermId) → u.0 < t.0 + 1 → (u.0 < t.0) ⊎ (u ≡ t)
    early_or_here u h = elim (cases_lt u.0 t.0) [
      | inl below ↦ inl below
      | inr above ↦ inr (id_from u t (omega (arith, h, above)))
    ]

    pub one_order : (o : Option (TermId × TermId)) → option_map (pair_of a) o ≡ lower (tree a t) → (s : TermId × TermId) → o ≡ Some s → PairIn a s → (new : List (Pair × TermId)) → PutsOrder (pair s.0 s.1) t old new → AreOrders a (t.0 + 1) new
    one_order o value s some inside new puts = record { known = known; all = all }
      where
        here : Pair
        here = pair s.0 s.1

        is_lower : tree a t ≡ below (tree a s.0) (tree a s.1)
        is_lower = lower_are (tree a t) (two (tree a s.0) (tree a s.1)) (sym value ∙ ap (option_map (pair_of a)) some)

        known : (p : Pair) (u : TermId) → order_of new p ≡ Some u → IsOrder a p u
        known p u at = by_case (same_pair here p) refl (sym (puts.get p) ∙ at)
          where
            by_case : (b : Bool) → same_pair here p ≡ b → cond b (Some t) (order_of old p) ≡ Some u → IsOrder a p u
            by_case true same f =
                subst (λ (v : TermId). IsOrder a p v) (same_Some t u f) (subst (λ (x : Pair). IsOrder a x t) (same_pairs here p same) (record { inside = within; is = is_lower }))
            by_case false same f = before.known p u f

        all : (p : Pair) (u : TermId) → p.left.0 < length a.nodes → p.right.0 < length a.nodes → u.0 < t.0 + 1 → IsOrder a p u → order_of new p ≡ Some u
        all p u left right early is = puts.get p ∙ by_case (same_pair here p) refl
          where
            by_case : (b : Bool) → same_pair here p ≡ b → cond b (Some t) (order_of old p) ≡ Some u
            by_case true same =
                let sides_same = same_pairs here p same in
                let trees : tree a u ≡ tree a t = is.is ∙ (ap (λ (x : Pair). below (tree a x.left) (tree a x.right)) (sym sides_same) ∙ sym is_lower) in
                ap Some (sym (HasOneId-arena a ok u t is.inside within trees))
            by_case false differs = elim (early_or_here u early) [
              | inl before_it ↦ before.all p u left right before_it is
              | inr it ↦
                  let h = same_lower (tree a s.0) (tree a s.1) (tree a p.left) (tree a p.right) (sym is_lower ∙ (ap (tree a) (sym it) ∙ is.is)) in
                  absurd (false≢true (sym differs ∙ pairs_same here p (HasOneId-arena a ok s.0 p.left inside.0 left h.0) (HasOneId-arena a ok s.1 p.right inside.1 right h.1)))
            ]

-- ---- equations

module _ (a : Arena) (orders : List (Pair × TermId)) (all : AreOrders a (length a.nodes) orders) where
  pub have_lists : (count : ℕ) → count ≡ length a.nodes → HaveLists orders count
  have_lists count e p t at = let h = (all.known p t at).inside in omega (arith, h, e)

  module _ (q : TermId) (o : Option (TermId × TermId)) (value : option_map (pair_of a) o ≡ sides (tree a q)) where
    module _ (s : TermId × TermId) (some : o ≡ Some s) (inside : PairIn a s) where
      is_equation : tree a q ≡ equation (tree a s.0) (tree a s.1)
      is_equation = sides_are (tree a q) (two (tree a s.0) (tree a s.1)) (sym value ∙ ap (option_map (pair_of a)) some)

      says_below : (t : TermId) → order_of orders (pair s.0 s.1) ≡ Some t → IsEquation a t q Below
      says_below t at = (tree a s.0, tree a s.1, (all.known (pair s.0 s.1) t at).is, is_equation)

      says_above : (t : TermId) → order_of orders (pair s.1 s.0) ≡ Some t → IsEquation a t q Above
      says_above t at = (tree a s.1, tree a s.0, (all.known (pair s.1 s.0) t at).is, is_equation)

      below_found : (t : TermId) → t.0 < length a.nodes → IsEquation a t q Below → order_of orders (pair s.0 s.1) ≡ Some t
      below_found t within says =
          let h = same_sides says.0 says.1 (tree a s.0) (tree a s.1) (sym says.3 ∙ is_equation) in
          all.all (pair s.0 s.1) t inside.0 inside.1 within (record { inside = within; is = says.2 ∙ (λ i. below (h.0 i) (h.1 i)) })

      above_found : (t : TermId) → t.0 < length a.nodes → IsEquation a t q Above → order_of orders (pair s.1 s.0) ≡ Some t
      above_found t within says =
          let h = same_sides says.1 says.0 (tree a s.0) (tree a s.1) (sym says.3 ∙ is_equation) in
          all.all (pair s.1 s.0) t inside.1 inside.0 within (record { inside = within; is = says.2 ∙ (λ i. below (h.1 i) (h.0 i)) })

      pub an_equation : (old mid new : List (List (TermId × Part))) → PutsAt (order_of orders (pair s.0 s.1)) q Below old mid → PutsAt (order_of orders (pair s.1 s.0)) q Above mid new → Adds a (IsEquation a) q old new
      an_equation old mid new first second = record {
        many = at_many (order_of orders (pair s.1 s.0)) q Above mid new second ∙ at_many (order_of orders (pair s.0 s.1)) q Below old mid first;
        keeps = λ t r p st. keeps_second t r p (at_keeps (order_of orders (pair s.0 s.1)) q Below old mid first t r p st);
        comes = comes;
        has = has;
      }
        where
          keeps_second : (t r : TermId) (p : Part) → Stands (beside mid t) r p → Stands (beside new t) r p
          keeps_second = at_keeps (order_of orders (pair s.1 s.0)) q Above mid new second

          comes : (t r : TermId) (p : Part) → Stands (beside new t) r p → Stands (beside old t) r p ⊎ ((r ≡ q) × IsEquation a t q p)
          comes t r p st = elim (at_only (order_of orders (pair s.1 s.0)) q Above mid new second t r p st) [
            | inl earlier ↦ elim (at_only (order_of orders (pair s.0 s.1)) q Below old mid first t r p earlier) [
              | inl earliest ↦ inl earliest
              | inr both ↦ inr (says_same a (IsEquation a) t q r Below p (says_below t both.0) both.1)
            ]
            | inr both ↦ inr (says_same a (IsEquation a) t q r Above p (says_above t both.0) both.1)
          ]

          has : (t : TermId) (p : Part) → t.0 < length a.nodes → IsEquation a t q p → Stands (beside new t) q p
          has t True within says = absurd says
          has t False within says = absurd says
          has t Below within says = keeps_second t q Below (at_there (order_of orders (pair s.0 s.1)) q Below old mid first t (below_found t within says))
          has t Above within says = at_there (order_of orders (pair s.1 s.0)) q Above mid new second t (above_found t within says)
