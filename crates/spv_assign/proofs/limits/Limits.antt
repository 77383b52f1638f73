-- A full arena has no room for all the parts that another one has.
use Rattle.std.proofs.Common.{◌≡◌, ◌⊎◌, inl, inr, ℕ, zero, suc, ◌<◌, ◌≤◌, true, List, [], ◌∷◌, ◌++◌, map, length, Some, IsTrue, refl, sym, ap, subst, ◌∙◌, arith}
use Rattle.std.proofs.lemmas.List.{length-map}
use Rattle.spv_logic.specs.declared.conditions.TermId.{TermId}
use Rattle.spv_logic.specs.declared.operators.Head.TheVariants.{Num}
use Rattle.std.specs.Prelude.{pos}
use Rattle.spv_logic.specs.Terms.{Term, term, no_terms}
use Rattle.spv_term.specs.Arena.{Arena, IsArena, tree, trees_of}
use Rattle.spv_term.proofs.TreeLemmas.{length-trees_of}
use Rattle.spv_term.proofs.ArenaLemmas.{HasOneId-arena}
use Rattle.spv_term.specs.substitution.Parts.{is_part_of}
use Rattle.spv_assign.specs.creation_trace.Events.{Event, Terms as Made, Conditions, longest_list, HasTerm, ListsFit, terms_of}
use Rattle.spv_assign.specs.creation_trace.Laws.{AreMoreParts}
use Rattle.spv_assign.proofs.creation_trace.Walks.{part_first, terms_of_both}
use Rattle.spv_assign.proofs.creation_trace.Parts.{has_the_parts, full_means_more}
use Rattle.spv_assign.proofs.supply.Counting.{has, has-map, pigeons}
use Rattle.spv_assign.specs.limits.Laws.{MeetsList, MeetsRoom, IsMadeWhole, MeetsNone}
use Rattle.spv_assign.proofs.limits.Places.{place, at_place, has_place, no_place, some_at}

abbrev zero_term : Term
zero_term = term (Num (pos 0)) no_terms

-- a full arena b, and another one, c, that has all its terms and one more
module _ (b c : Arena) (sound : IsArena b) (have : (u : TermId) → u.0 < length b.nodes → HasTerm c (tree b u)) (x : Term) (other : HasTerm c x) (absent : HasTerm b x → ⊥) where
  abbrev ts : List Term
  ts = trees_of b.nodes

  abbrev number : Term → ℕ
  number y = suc (place ts y)

  abbrev numbers : List ℕ
  numbers = map number (trees_of c.nodes)

  long : length ts ≡ length b.nodes
  long = length-trees_of b.nodes

  long_other : length (trees_of c.nodes) ≡ length c.nodes
  long_other = length-trees_of c.nodes

  numbered : (y : Term) → HasTerm c y → (k : ℕ) → number y ≡ k → has numbers k ≡ true
  numbered y h k e =
      let within : h.id.0 < length (trees_of c.nodes) = (let t = h.there in let l = long_other in omega (arith, t, l)) in
      has-map number (trees_of c.nodes) h.id.0 y k (some_at (trees_of c.nodes) zero_term h.id.0 within ∙ ap Some h.is_tree) e

  -- the place of the tree of an id is the id
  placed : (n : ℕ) → n < length b.nodes → place ts (tree b (record { 0 = n })) ≡ n
  placed n within =
      let u : TermId = record { 0 = n } in
      let inside : n < length ts = (let l = long in omega (arith, within, l)) in
      let found : place ts (tree b u) < length ts = has_place ts (tree b u) zero_term n inside refl in
      let v : TermId = record { 0 = place ts (tree b u) } in
      let same : tree b v ≡ tree b u = at_place ts (tree b u) zero_term found in
      let there : place ts (tree b u) < length b.nodes = (let l = long in omega (arith, found, l)) in
      ap (λ (t : TermId). t.0) (HasOneId-arena b sound v u there within same)

  missing : place ts x ≡ length ts
  missing = no_place ts x zero_term (λ i h e. absent (record { id = record { 0 = i }; there = (let l = long in omega (arith, h, l)); is_tree = e }))

  each : (k : ℕ) → 0 < k → k ≤ suc (length b.nodes) → has numbers k ≡ true
  each zero low high = absurd (none low)
    where
      none : 0 < 0 → ⊥
      none h = omega (arith, h)
  each (suc n) low high = by_end (below_or_end n (length b.nodes) (omega (arith, high)))
    where
      below_or_end : (n m : ℕ) → n ≤ m → (n < m) ⊎ (n ≡ m)
      below_or_end zero zero h = inr refl
      below_or_end zero (suc m) h = inl (omega arith)
      below_or_end (suc n) zero h = absurd (none n h)
        where
          none : (n : ℕ) → suc n ≤ 0 → ⊥
          none n h = omega (arith, h)
      below_or_end (suc n) (suc m) h = by (below_or_end n m (omega (arith, h)))
        where
          by : (n < m) ⊎ (n ≡ m) → (suc n < suc m) ⊎ (suc n ≡ suc m)
          by (inl l) = inl (omega (arith, l))
          by (inr e) = inr (ap suc e)

      by_end : (n < length b.nodes) ⊎ (n ≡ length b.nodes) → has numbers (suc n) ≡ true
      by_end (inl within) = numbered (tree b (record { 0 = n })) (have (record { 0 = n }) within) (suc n) (ap suc (placed n within))
      by_end (inr end) = numbered x other (suc n) (ap suc (missing ∙ long ∙ sym end))

  pub longer : length b.nodes < length c.nodes
  longer =
      let enough : suc (length b.nodes) ≤ length numbers = pigeons (suc (length b.nodes)) numbers each in
      let count : length numbers ≡ length (trees_of c.nodes) = length-map (trees_of c.nodes) number in
      let l = long_other in
      omega (arith, enough, count, l)

-- a full arena whose terms are parts of what another one has is not without one of them
no_room : (ts : List Term) (b c : Arena) → IsArena b → IsArena c → b.most ≡ c.most → AreMoreParts b ts → ((x : Term) → IsTrue (is_part_of ts x) → HasTerm c x) → ⊥
no_room ts b c sound ok same more there =
    let less : length b.nodes < length c.nodes = longer b c sound (λ u within. there (tree b u) (more.parts u within)) more.other (there more.other more.part) more.absent in
    let full = more.full in
    let room = ok.room in
    none (length b.nodes) (length c.nodes) b.most c.most less full room same
  where
    none : (n m k l : ℕ) → n < m → n ≡ k → m ≤ l → k ≡ l → ⊥
    none n m k l a e f g = omega (arith, a, e, f, g)

-- lists that fit are none that is too long
too_long : (before after : List Event) (n : ℕ) → ListsFit (before ++ Conditions n ∷ after) → longest_list < n → ⊥
too_long [] after n fit long = none n fit.0 long
  where
    none : (n : ℕ) → n ≤ 20000 → 20000 < n → ⊥
    none n h k = omega (arith, h, k)
too_long (Made ts ∷ before) after n fit long = too_long before after n fit long
too_long (Conditions m ∷ before) after n fit long = too_long before after n fit.1 long

pub made_meets_none : (events : List Event) (a : Arena) → a.nodes ≡ [] → IsMadeWhole events a → MeetsNone events a
made_meets_none events a empty whole = record {
  list = λ h. too_long h.meets.before h.meets.after h.meets.length (subst ListsFit h.meets.parts whole.walked.lists) h.meets.too_long;
  room = λ h.
      no_room (terms_of events) h.arena whole.arena h.sound whole.sound (h.meets.grows.most ∙ sym whole.walked.grows.most) (full_means_more events a h.arena empty h.meets)
      (λ x part. (has_the_parts events a whole.arena empty whole.sound whole.walked x).0 part);
}

-- ---- one limit

-- one of two beginnings of a list is a beginning of the other one
pub record IsBehind (xs zs : List Event) : Type 0 where
  pub rest : List Event
  pub is : zs ≡ xs ++ rest

beginnings : (xs ys zs ws : List Event) → xs ++ ys ≡ zs ++ ws → IsBehind xs zs ⊎ IsBehind zs xs
beginnings [] ys zs ws e = inl (record { rest = zs; is = refl })
beginnings (x ∷ xs) ys [] ws e = inr (record { rest = x ∷ xs; is = refl })
beginnings (x ∷ xs) ys (z ∷ zs) ws e = by (beginnings xs ys zs ws (tail x z (xs ++ ys) (zs ++ ws) e))
  where
    tail : (x z : Event) (l m : List Event) → x ∷ l ≡ z ∷ m → l ≡ m
    tail x z l m e = cc

    head : (x z : Event) (l m : List Event) → x ∷ l ≡ z ∷ m → x ≡ z
    head x z l m e = cc

    first : x ≡ z
    first = head x z (xs ++ ys) (zs ++ ws) e

    by : IsBehind xs zs ⊎ IsBehind zs xs → IsBehind (x ∷ xs) (z ∷ zs) ⊎ IsBehind (z ∷ zs) (x ∷ xs)
    by (inl h) = inl (record { rest = h.rest; is = λ i. sym first i ∷ h.is i })
    by (inr h) = inr (record { rest = h.rest; is = λ i. first i ∷ h.is i })

-- a walk that was made whole up to a list that is too long
module _ (events : List Event) (a : Arena) (empty : a.nodes ≡ []) (m : MeetsList events a) (r : MeetsRoom events a) where
  -- what met the full arena is in front of that list
  in_front : IsBehind r.meets.first m.meets.before → ⊥
  in_front h =
      let walked = m.meets.walked in
      no_room (terms_of r.meets.first) r.arena m.arena r.sound m.sound (r.meets.grows.most ∙ sym walked.grows.most)
      (full_means_more r.meets.first a r.arena empty (record { first = r.meets.first; after = []; parts = nothing_behind r.meets.first; lists = r.meets.lists; grows = r.meets.grows; only = r.meets.only; lacks = r.meets.lacks }))
      (λ x part.
      (has_the_parts m.meets.before a m.arena empty m.sound walked x).0
      (ap (λ (l : List Term). is_part_of l x) (ap terms_of h.is ∙ terms_of_both r.meets.first h.rest) ∙ part_first (terms_of r.meets.first) (terms_of h.rest) x part))
    where
      nothing_behind : (xs : List Event) → xs ≡ xs ++ []
      nothing_behind [] = refl
      nothing_behind (x ∷ xs) = ap (λ (l : List Event). x ∷ l) (nothing_behind xs)

  -- or it has that list
  behind : IsBehind m.meets.before r.meets.first → ⊥
  behind h = by h.rest h.is (same_rest m.meets.before h.rest (Conditions m.meets.length ∷ m.meets.after) r.meets.after (sym m.meets.parts ∙ r.meets.parts ∙ ap (λ (l : List Event). l ++ r.meets.after) h.is))
    where
      -- what is behind the same beginning
      same_rest : (xs rest ys after : List Event) → xs ++ ys ≡ (xs ++ rest) ++ after → ys ≡ rest ++ after
      same_rest [] rest ys after e = e
      same_rest (x ∷ xs) rest ys after e = same_rest xs rest ys after (tail x x (xs ++ ys) ((xs ++ rest) ++ after) e)
        where
          tail : (x z : Event) (l m : List Event) → x ∷ l ≡ z ∷ m → l ≡ m
          tail x z l m e = cc

      by : (rest : List Event) → r.meets.first ≡ m.meets.before ++ rest → Conditions m.meets.length ∷ m.meets.after ≡ rest ++ r.meets.after → ⊥
      by [] is e = in_front (record { rest = []; is = nothing_more m.meets.before r.meets.first is })
        where
          nothing_more : (xs ys : List Event) → ys ≡ xs ++ [] → xs ≡ ys ++ []
          nothing_more xs ys e = sym (e ∙ trim xs) ∙ sym (trim ys)
            where
              trim : (zs : List Event) → zs ++ [] ≡ zs
              trim [] = refl
              trim (z ∷ zs) = ap (λ (l : List Event). z ∷ l) (trim zs)
      by (x ∷ rest) is e =
          too_long m.meets.before rest m.meets.length (subst (λ (y : Event). ListsFit (m.meets.before ++ y ∷ rest)) (head (Conditions m.meets.length) x m.meets.after (rest ++ r.meets.after) e) (subst ListsFit is r.meets.lists)) m.meets.too_long
        where
          head : (x z : Event) (l m : List Event) → x ∷ l ≡ z ∷ m → z ≡ x
          head x z l m e = cc

  pub not_both : ⊥
  not_both = by (beginnings m.meets.before (Conditions m.meets.length ∷ m.meets.after) r.meets.first r.meets.after (sym m.meets.parts ∙ r.meets.parts))
    where
      by : IsBehind m.meets.before r.meets.first ⊎ IsBehind r.meets.first m.meets.before → ⊥
      by (inl h) = behind h
      by (inr h) = in_front h
