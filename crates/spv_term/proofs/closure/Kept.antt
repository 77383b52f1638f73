-- Numbers that respect equalities and congruence are equal wherever there is a derivation.
use Rattle.std.proofs.Common.{◌≡◌, ℕ, ◌<◌, List, [], ◌∷◌, map, length, Some, slice_get, refl, sym, ap, ◌∙◌, subst}
use Rattle.spv_logic.specs.declared.conditions.TermId.{TermId}
use Rattle.spv_logic.specs.declared.operators.Head.{Head}
use Rattle.spv_logic.specs.Terms.{Term, Terms, term, no_terms, terms}
use Rattle.spv_term.specs.declared.nodes.Node.{Node}
use Rattle.spv_term.specs.Arena.{Arena, IsArena, AllBelow, tree, trees}
use Rattle.spv_term.proofs.ArenaLemmas.{node_of, args_in_range, tree-node, HasOneId-arena}
use Rattle.spv_term.specs.closure.Joined.{Joined, AllJoined, told, itself, turned, through, congruent, none, more, IsAmong, IsTold, JoinedIn}
use Rattle.spv_term.specs.closure.Laws.{Respects, KeepsJoined}

-- a term of this tree, with the number of another term
pub record Found (a : Arena) (f : TermId → ℕ) (x : TermId) (v : Term) : Type 0 where
  pub id : TermId
  pub within : id.0 < length a.nodes
  pub is : tree a id ≡ v
  pub same : f x ≡ f id

pub record AllFound (a : Arena) (f : TermId → ℕ) (xs : List TermId) (vs : Terms) : Type 0 where
  pub ids : List TermId
  pub within : AllBelow (length a.nodes) ids
  pub are : trees a ids ≡ vs
  pub same : map f xs ≡ map f ids

head_is : (h k : Head) (ss ts : Terms) → term h ss ≡ term k ts → h ≡ k
head_is h k ss ts e = cc

args_are : (h k : Head) (ss ts : Terms) → term h ss ≡ term k ts → ss ≡ ts
args_are h k ss ts e = cc

first_is : (s t : Term) (ss ts : Terms) → terms s ss ≡ terms t ts → s ≡ t
first_is s t ss ts e = cc

rest_is : (s t : Term) (ss ts : Terms) → terms s ss ≡ terms t ts → ss ≡ ts
rest_is s t ss ts e = cc

two : (x y : TermId) (xs ys : List TermId) → x ≡ y → xs ≡ ys → x ∷ xs ≡ y ∷ ys
two x y xs ys e g = cc

two_numbers : (x y : ℕ) (xs ys : List ℕ) → x ≡ y → xs ≡ ys → x ∷ xs ≡ y ∷ ys
two_numbers x y xs ys e g = cc

two_terms : (s t : Term) (ss ts : Terms) → s ≡ t → ss ≡ ts → terms s ss ≡ terms t ts
two_terms s t ss ts e g = cc

module _ (a : Arena) (ok : IsArena a) where
  one_id : (x y : TermId) (u : Term) → x.0 < length a.nodes → y.0 < length a.nodes → tree a x ≡ u → tree a y ≡ u → x ≡ y
  one_id x y u h k e g = HasOneId-arena a ok x y h k (e ∙ sym g)

  one_list : (xs ys : List TermId) (us : Terms) → AllBelow (length a.nodes) xs → AllBelow (length a.nodes) ys → trees a xs ≡ us → trees a ys ≡ us → xs ≡ ys
  one_list [] [] us h k e g = refl
  one_list [] (y ∷ ys) us h k e g = absurd (no _ _ (e ∙ sym g))
    where
      no : (s : Term) (ss : Terms) → no_terms ≡ terms s ss → ⊥
      no s ss e = cc
  one_list (x ∷ xs) [] us h k e g = absurd (no _ _ (g ∙ sym e))
    where
      no : (s : Term) (ss : Terms) → no_terms ≡ terms s ss → ⊥
      no s ss e = cc
  one_list (x ∷ xs) (y ∷ ys) us h k e g =
      let both : terms (tree a x) (trees a xs) ≡ terms (tree a y) (trees a ys) = e ∙ sym g in
      two x y xs ys (one_id x y (tree a y) h.0 k.0 (first_is _ _ _ _ both) refl) (one_list xs ys (trees a ys) h.1 k.1 (rest_is _ _ _ _ both) refl)

  module _ (Added : TermId → Type 0) (Told : TermId → TermId → Type 0) (f : TermId → ℕ) (r : Respects a Added Told f) where
    by_told : (s t : Term) → IsTold a Told s t → (x : TermId) → x.0 < length a.nodes → tree a x ≡ s → Found a f x t
    by_told s t h x within is =
        let e : x ≡ h.left = one_id x h.left s within (r.sides h.left h.right h.told).0 is h.left_is in
        record { id = h.right; within = (r.sides h.left h.right h.told).1; is = h.right_is; same = ap f e ∙ r.told h.left h.right h.told }

    by_told_back : (s t : Term) → IsTold a Told s t → (x : TermId) → x.0 < length a.nodes → tree a x ≡ t → Found a f x s
    by_told_back s t h x within is =
        let e : x ≡ h.right = one_id x h.right t within (r.sides h.left h.right h.told).1 is h.right_is in
        record { id = h.left; within = (r.sides h.left h.right h.told).0; is = h.left_is; same = ap f e ∙ sym (r.told h.left h.right h.told) }

    through_one : (x : TermId) (t u : Term) → Found a f x t → ((y : TermId) → y.0 < length a.nodes → tree a y ≡ t → Found a f y u) → Found a f x u
    through_one x t u m next =
        let n = next m.id m.within m.is in
        record { id = n.id; within = n.within; is = n.is; same = m.same ∙ n.same }

    by_congruence : (h : Head) (ss ts : Terms) → IsAmong a Added (term h ss) → IsAmong a Added (term h ts)
        → ((xs : List TermId) → AllBelow (length a.nodes) xs → trees a xs ≡ ss → AllFound a f xs ts)
        → (x : TermId) → x.0 < length a.nodes → tree a x ≡ term h ss → Found a f x (term h ts)
    by_congruence h ss ts i j all x within is =
        let i_in = r.within i.id i.added in
        let j_in = r.within j.id j.added in
        let m = node_of a ok i.id i_in in
        let n = node_of a ok j.id j_in in
        let m_is : term m.0.head (trees a m.0.args) ≡ term h ss = sym (tree-node a ok i.id m.0 m.1) ∙ i.is in
        let n_is : term n.0.head (trees a n.0.args) ≡ term h ts = sym (tree-node a ok j.id n.0 n.1) ∙ j.is in
        let found = all m.0.args (args_in_range a ok i.id m.0 m.1) (args_are _ _ _ _ m_is) in
        let ids_are : found.ids ≡ n.0.args = one_list found.ids n.0.args ts found.within (args_in_range a ok j.id n.0 n.1) found.are (args_are _ _ _ _ n_is) in
        let heads : m.0.head ≡ n.0.head = head_is _ _ _ _ m_is ∙ sym (head_is _ _ _ _ n_is) in
        let e : x ≡ i.id = one_id x i.id (term h ss) within i_in is i.is in
        record { id = j.id; within = j_in; is = j.is; same = ap f e ∙ r.congruent i.id j.id m.0 n.0 i.added j.added m.1 n.1 heads (found.same ∙ ap (map f) ids_are) }

    no_more : (xs : List TermId) → trees a xs ≡ no_terms → AllFound a f xs no_terms
    no_more [] e = record { ids = []; within = tt; are = refl; same = refl }
    no_more (x ∷ xs) e = absurd (no _ _ e)
      where
        no : (s : Term) (ss : Terms) → terms s ss ≡ no_terms → ⊥
        no s ss e = cc

    one_more : (s t : Term) (ss ts : Terms) → ((x : TermId) → x.0 < length a.nodes → tree a x ≡ s → Found a f x t)
        → ((xs : List TermId) → AllBelow (length a.nodes) xs → trees a xs ≡ ss → AllFound a f xs ts)
        → (xs : List TermId) → AllBelow (length a.nodes) xs → trees a xs ≡ terms s ss → AllFound a f xs (terms t ts)
    one_more s t ss ts one rest [] h e = absurd (no _ _ e)
      where
        no : (s : Term) (ss : Terms) → no_terms ≡ terms s ss → ⊥
        no s ss e = cc
    one_more s t ss ts one rest (x ∷ xs) h e =
        let y = one x h.0 (first_is _ _ _ _ e) in
        let ys = rest xs h.1 (rest_is _ _ _ _ e) in
        record { ids = y.id ∷ ys.ids; within = (y.within, ys.within); are = two_terms _ _ _ _ y.is ys.are; same = two_numbers _ _ _ _ y.same ys.same }

    mutual
      to : (u v : Term) → Joined (IsAmong a Added) (IsTold a Told) u v → (x : TermId) → x.0 < length a.nodes → tree a x ≡ u → Found a f x v
      to u v (told s t h) x within is = by_told s t h x within is
      to u v (itself t) x within is = record { id = x; within = within; is = is; same = refl }
      to u v (turned s t d) x within is = back s t d x within is
      to u v (through s t w d e) x within is = through_one x t w (to s t d x within is) (λ y h k. to t w e y h k)
      to u v (congruent h ss ts i j all) x within is = by_congruence h ss ts i j (λ xs k e. all_to ss ts all xs k e) x within is

      back : (u v : Term) → Joined (IsAmong a Added) (IsTold a Told) u v → (x : TermId) → x.0 < length a.nodes → tree a x ≡ v → Found a f x u
      back u v (told s t h) x within is = by_told_back s t h x within is
      back u v (itself t) x within is = record { id = x; within = within; is = is; same = refl }
      back u v (turned s t d) x within is = to s t d x within is
      back u v (through s t w d e) x within is = through_one x t s (back t w e x within is) (λ y h k. back s t d y h k)
      back u v (congruent h ss ts i j all) x within is = by_congruence h ts ss j i (λ xs k e. all_back ss ts all xs k e) x within is

      all_to : (us vs : Terms) → AllJoined (IsAmong a Added) (IsTold a Told) us vs → (xs : List TermId) → AllBelow (length a.nodes) xs → trees a xs ≡ us → AllFound a f xs vs
      all_to us vs none xs within are = no_more xs are
      all_to us vs (more s t ss ts d all) xs within are = one_more s t ss ts (λ x h e. to s t d x h e) (λ ys h e. all_to ss ts all ys h e) xs within are

      all_back : (us vs : Terms) → AllJoined (IsAmong a Added) (IsTold a Told) us vs → (xs : List TermId) → AllBelow (length a.nodes) xs → trees a xs ≡ vs → AllFound a f xs us
      all_back us vs none xs within are = no_more xs are
      all_back us vs (more s t ss ts d all) xs within are = one_more t s ts ss (λ x h e. back s t d x h e) (λ ys h e. all_back ss ts all ys h e) xs within are

    -- numbers are equal wherever there is a derivation
    pub kept : (s t : TermId) → s.0 < length a.nodes → t.0 < length a.nodes → JoinedIn a Added Told s t → f s ≡ f t
    kept s t h k d =
        let y = to (tree a s) (tree a t) d s h refl in
        y.same ∙ ap f (one_id y.id t (tree a t) y.within k y.is refl)
