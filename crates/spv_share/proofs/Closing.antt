-- Equalities that a graph joins, as it is told more.
use Rattle.std.proofs.Common.{◌≡◌, ◌↔◌, ℕ, zero, suc, ◌<◌, ◌≤◌, Bool, true, false, cond, not, ◌&&◌, List, [], ◌∷◌, ◌++◌, length, refl, sym, ap, ◌∙◌, Some, arith, IsTrue}
use Rattle.std.specs.Prelude.{slice_get}
use Rattle.std.proofs.lemmas.Bool.{false≢true}
use Rattle.std.proofs.lemmas.Option.{slice_get_within, same_Some}
use Rattle.spv_logic.specs.declared.conditions.TermId.{TermId}
use Rattle.spv_logic.specs.declared.operators.Head.{Head}
use Rattle.spv_logic.specs.declared.operators.Head.TheVariants.{Eq}
use Rattle.spv_logic.specs.Terms.{Term, Terms}
use Rattle.spv_term.specs.Arena.{Arena, IsArena, tree}
use Rattle.spv_term.proofs.ListLemmas.{slice_get-append_left}
use Rattle.spv_term.specs.closure.Joined.{AllJoined, congruent, IsAmong, itself, Joined, more, none, through, told, turned}
use Rattle.spv_term.specs.closure.Joined as joined
use Rattle.spv_congruence.specs.declared.facts.Fact.{Fact}
use Rattle.spv_congruence.specs.Graph.{are_same, Graph, IsFact}
use Rattle.spv_congruence.specs.Keep.{IsNode}
use Rattle.spv_congruence.specs.Told.{IsAdded, IsExact, IsOf, IsTold}
use Rattle.spv_congruence.specs.Told as graph
use Rattle.spv_tableau_rules.proofs.pivots.Tests.{and_left, and_right}
use Rattle.spv_explanations.specs.congruence_side.Telling.{Tie, tie_of, ties, value_tie}
use Rattle.spv_share.specs.declared.relations.Related.{Related}
use Rattle.spv_share.specs.States.{count_open, is_equality}

-- ---- derivations from more

pub record IsFrom (a : Arena) (old new : Graph) : Type 0 where
  pub terms : new.added ≡ old.added
  pub more : List Fact
  pub told : new.told ≡ old.told ++ more

module _ (a : Arena) (old new : Graph) (from : IsFrom a old new) where
  added_on : (t : TermId) → IsAdded old t → IsAdded new t
  added_on t h = (h.0, ap (λ xs. slice_get xs h.0) from.terms ∙ h.1)

  told_on : (s t : TermId) → IsTold old s t → IsTold new s t
  told_on s t h =
      let f = h.1 in
      let there : slice_get new.told h.0 ≡ Some f.fact = ap (λ xs. slice_get xs h.0) from.told ∙ (slice_get-append_left old.told from.more h.0 (slice_get_within old.told h.0 f.fact f.there) ∙ f.there) in
      (h.0, record { fact = f.fact; there = there; equal = f.equal; left = f.left; right = f.right })

  among_on : (t : Term) → IsAmong a (IsAdded old) t → IsAmong a (IsAdded new) t
  among_on t h = record { id = h.id; added = added_on h.id h.added; is = h.is }

  mutual
    joined_on : (s t : Term) → Joined (IsAmong a (IsAdded old)) (joined.IsTold a (IsTold old)) s t → Joined (IsAmong a (IsAdded new)) (joined.IsTold a (IsTold new)) s t
    joined_on _ _ (told s t h) = told s t (record { left = h.left; right = h.right; told = told_on h.left h.right h.told; left_is = h.left_is; right_is = h.right_is })
    joined_on _ _ (itself t) = itself t
    joined_on _ _ (turned s t d) = turned s t (joined_on s t d)
    joined_on _ _ (through s t u d e) = through s t u (joined_on s t d) (joined_on t u e)
    joined_on _ _ (congruent h ss ts i j all) = congruent h ss ts (among_on _ i) (among_on _ j) (all_joined_on ss ts all)

    all_joined_on : (ss ts : Terms) → AllJoined (IsAmong a (IsAdded old)) (joined.IsTold a (IsTold old)) ss ts → AllJoined (IsAmong a (IsAdded new)) (joined.IsTold a (IsTold new)) ss ts
    all_joined_on _ _ none = none
    all_joined_on _ _ (more s t ss ts d all) = more s t ss ts (joined_on s t d) (all_joined_on ss ts all)

  -- what is the same stays so
  pub same_on : IsArena a → IsOf a old → IsOf a new → IsExact old → IsExact new → (s t : TermId) → IsNode old.nodes s → IsNode old.nodes t → IsNode new.nodes s → IsNode new.nodes t → are_same old s t ≡ true → are_same new s t ≡ true
  same_on ok of now exact exact_now s t m n p q e =
      let old_way : IsTrue (are_same old s t) ↔ graph.Joined a old s t = exact a ok of s t m.0 n.0 m.1 n.1 in
      let new_way : IsTrue (are_same new s t) ↔ graph.Joined a new s t = exact_now a ok now s t p.0 q.0 p.1 q.1 in
      new_way.1 (joined_on (tree a s) (tree a t) (old_way.0 e))

-- ---- what was told last

pub record IsTieFact (xs : List Fact) (place : ℕ) (t : Tie) : Type 0 where
  pub fact : Fact
  pub there : slice_get xs place ≡ Some fact
  pub is : tie_of fact ≡ t

pub tie_fact : (xs : List Fact) (place : ℕ) (t : Tie) → slice_get (ties xs) place ≡ Some t → IsTieFact xs place t
tie_fact [] place t at = absurd (cc)
tie_fact (x ∷ xs) zero t at = record { fact = x; there = refl; is = same_Some (tie_of x) t at }
tie_fact (x ∷ xs) (suc place) t at = let k = tie_fact xs place t at in record { fact = k.fact; there = k.there; is = k.is }

last_tie : (xs : List Tie) (t : Tie) → slice_get (xs ++ t ∷ []) (length xs) ≡ Some t
last_tie [] t = refl
last_tie (x ∷ xs) t = last_tie xs t

-- the sides of the last tie are the same
pub same_last : (a : Arena) → IsArena a → (old : List Fact) (new : Graph) (s t : TermId) → IsOf a new → IsExact new → IsNode new.nodes s → IsNode new.nodes t → ties new.told ≡ ties old ++ value_tie s t ∷ [] → are_same new s t ≡ true
same_last a ok old new s t of exact p q e =
    let f = tie_fact new.told (length (ties old)) (value_tie s t) (ap (λ xs. slice_get xs (length (ties old))) e ∙ last_tie (ties old) (value_tie s t)) in
    let way : IsTrue (are_same new s t) ↔ graph.Joined a new s t = exact a ok of s t p.0 q.0 p.1 q.1 in
    let fact : IsFact new.told (length (ties old)) s t = record {
      fact = f.fact;
      there = f.there;
      equal = ap (λ (x : Tie). x.equal) f.is;
      left = ap (λ (x : Tie). x.left) f.is;
      right = ap (λ (x : Tie). x.right) f.is;
    } in
    way.1 (told (tree a s) (tree a t) (record { left = s; right = t; told = (length (ties old), fact); left_is = refl; right_is = refl }))

-- ---- how many are open

abbrev open_in : Graph → Related → Bool
open_in g r = is_equality r.head && not (are_same g r.left r.right)

no_more : (old new : Graph) (rels : List Related) → ((row : ℕ) (r : Related) → slice_get rels row ≡ Some r → open_in new r ≡ true → open_in old r ≡ true) → count_open new rels ≤ count_open old rels
no_more old new [] each = omega arith
no_more old new (r ∷ rels) each = by_case (open_in new r) refl (open_in old r) refl (no_more old new rels (λ row q at e. each (suc row) q at e))
  where
    by_case : (b : Bool) → open_in new r ≡ b → (c : Bool) → open_in old r ≡ c → count_open new rels ≤ count_open old rels
        → cond b (suc (count_open new rels)) (count_open new rels) ≤ cond c (suc (count_open old rels)) (count_open old rels)
    by_case true e true f h = omega (arith, h)
    by_case true e false f h = absurd (false≢true (sym f ∙ each zero r refl e))
    by_case false e true f h = omega (arith, h)
    by_case false e false f h = h

pub one_less : (old new : Graph) (rels : List Related) → ((row : ℕ) (r : Related) → slice_get rels row ≡ Some r → open_in new r ≡ true → open_in old r ≡ true) → (row : ℕ) (q : Related) → slice_get rels row ≡ Some q
    → open_in old q ≡ true → open_in new q ≡ false → count_open new rels < count_open old rels
one_less old new [] each row q at was is = absurd (cc)
one_less old new (r ∷ rels) each zero q at was is =
    let same : r ≡ q = same_Some r q at in
    by_case (open_in new r) (ap (open_in new) same ∙ is) (open_in old r) (ap (open_in old) same ∙ was) (no_more old new rels (λ row q at e. each (suc row) q at e))
  where
    by_case : (b : Bool) → b ≡ false → (c : Bool) → c ≡ true → count_open new rels ≤ count_open old rels → cond b (suc (count_open new rels)) (count_open new rels) < cond c (suc (count_open old rels)) (count_open old rels)
    by_case true e c f h = absurd (false≢true (sym e))
    by_case false e false f h = absurd (false≢true f)
    by_case false e true f h = omega (arith, h)
one_less old new (r ∷ rels) each (suc row) q at was is =
    by_case (open_in new r) refl (open_in old r) refl (one_less old new rels (λ row q at e. each (suc row) q at e) row q at was is)
  where
    by_case : (b : Bool) → open_in new r ≡ b → (c : Bool) → open_in old r ≡ c → count_open new rels < count_open old rels
        → cond b (suc (count_open new rels)) (count_open new rels) < cond c (suc (count_open old rels)) (count_open old rels)
    by_case true e true f h = omega (arith, h)
    by_case true e false f h = absurd (false≢true (sym f ∙ each zero r refl e))
    by_case false e true f h = omega (arith, h)
    by_case false e false f h = h

-- ---- one equality

open_here : (g : Graph) (r : Related) → open_in g r ≡ true → are_same g r.left r.right ≡ true → ⊥
open_here g r e same = false≢true (sym (ap not same) ∙ and_right (is_equality r.head) (not (are_same g r.left r.right)) e)

-- an equality that is open was open, where what is the same stays so
pub was_open : (old new : Graph) (r : Related) → (are_same old r.left r.right ≡ true → are_same new r.left r.right ≡ true) → open_in new r ≡ true → open_in old r ≡ true
was_open old new r stays e = by_same (are_same old r.left r.right) refl
  where
    by_same : (b : Bool) → are_same old r.left r.right ≡ b → open_in old r ≡ true
    by_same true f = absurd (open_here new r e (stays f))
    by_same false f = ap (λ c. is_equality r.head && not c) f ∙ (ap (λ c. c && true) (and_left (is_equality r.head) (not (are_same new r.left r.right)) e))

pub closed_now : (g : Graph) (r : Related) → are_same g r.left r.right ≡ true → open_in g r ≡ false
closed_now g r same = ap (λ c. is_equality r.head && not c) same ∙ nothing (is_equality r.head)
  where
    nothing : (b : Bool) → (b && false) ≡ false
    nothing true = refl
    nothing false = refl

pub equality_head : (q : Head) → is_equality q ≡ true → q ≡ Eq
equality_head Eq e = refl
equality_head q e = absurd (cc)

pub open_head : (g : Graph) (r : Related) → open_in g r ≡ true → r.head ≡ Eq
open_head g r e = equality_head r.head (and_left (is_equality r.head) (not (are_same g r.left r.right)) e)
