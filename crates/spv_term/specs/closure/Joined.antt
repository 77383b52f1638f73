-- What follows from equalities by congruence, over trees and over the terms of an arena.
use Rattle.std.specs.Prelude.{◌≡◌}
use Rattle.spv_logic.specs.declared.conditions.TermId.{TermId}
use Rattle.spv_logic.specs.declared.operators.Head.{Head}
use Rattle.spv_logic.specs.Terms.{Term, Terms, term, no_terms, terms}
use Rattle.spv_term.specs.Arena.{Arena, tree}

mutual
  -- a derivation that two terms are equal, from equalities that were told, where some terms were added
  pub data Joined (Added : Term → Type 0) (Told : Term → Term → Type 0) : Term → Term → Type 0 where
    told : (s t : Term) → Told s t → Joined Added Told s t
    itself : (t : Term) → Joined Added Told t t
    turned : (s t : Term) → Joined Added Told s t → Joined Added Told t s
    through : (s t u : Term) → Joined Added Told s t → Joined Added Told t u → Joined Added Told s u
    congruent : (h : Head) (ss ts : Terms) → Added (term h ss) → Added (term h ts) → AllJoined Added Told ss ts → Joined Added Told (term h ss) (term h ts)

  -- the same for the terms of two lists, one by one
  pub data AllJoined (Added : Term → Type 0) (Told : Term → Term → Type 0) : Terms → Terms → Type 0 where
    none : AllJoined Added Told no_terms no_terms
    more : (s t : Term) (ss ts : Terms) → Joined Added Told s t → AllJoined Added Told ss ts → AllJoined Added Told (terms s ss) (terms t ts)

-- one of these ids stands for the tree
pub record IsAmong (a : Arena) (Added : TermId → Type 0) (t : Term) : Type 0 where
  pub id : TermId
  pub added : Added id
  pub is : tree a id ≡ t

-- these two trees are those of an equality of ids
pub record IsTold (a : Arena) (Told : TermId → TermId → Type 0) (s t : Term) : Type 0 where
  pub left : TermId
  pub right : TermId
  pub told : Told left right
  pub left_is : tree a left ≡ s
  pub right_is : tree a right ≡ t

-- the same for terms of an arena: what was added and told is given by ids
abbrev pub JoinedIn : Arena → (TermId → Type 0) → (TermId → TermId → Type 0) → TermId → TermId → Type 0
JoinedIn a Added Told s t = Joined (IsAmong a Added) (IsTold a Told) (tree a s) (tree a t)
