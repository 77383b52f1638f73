-- What stands in the place of terms, over the ids of an arena.
use Rattle.std.specs.Prelude.{◌≡◌, ◌<◌, Bool, List, [], ◌∷◌, map, length, Option, Some, None, nat_eq, IsTrue, if◌then◌else◌}
use Rattle.std.specs.Map.{lookup}
use Rattle.std.specs.Option.{unwrap_or}
use Rattle.spv_logic.specs.declared.conditions.TermId.{TermId}
use Rattle.spv_logic.specs.declared.operators.Head.{Head}
use Rattle.spv_logic.specs.Terms.{Term, term, head_eq}
use Rattle.spv_logic.specs.Substitution.{Replacement, is_variable, substitute}
use Rattle.spv_term.specs.Arena.{Arena, tree, sort_at}

abbrev pub same_id : TermId → TermId → Bool
same_id t u = nat_eq t.0 u.0

-- what pairs put in the place of an id; the first pair counts
abbrev pub image_of : List (TermId × TermId) → TermId → Option TermId
image_of pairs t = lookup (same_id t) pairs

-- the same, or the id itself where nothing is put in its place
abbrev pub image_or : List (TermId × TermId) → TermId → TermId
image_or pairs t = unwrap_or (image_of pairs t) t

-- ---- the replacement that pairs are

abbrev pub head_of : Term → Head
head_of (term h ts) = h

-- the head of the term that an id stands for
abbrev pub head_at : Arena → TermId → Head
head_at a t = head_of (tree a t)

-- the second term stands in the place of the head of the first one; the first pair counts
abbrev pub pairs_at : Arena → List (TermId × TermId) → Replacement
pairs_at a [] h = None
pairs_at a (p ∷ pairs) h = if head_eq h (head_at a p.0) then Some (tree a p.1) else pairs_at a pairs h

-- a variable, a class or a start value, and a term of its sort
pub record IsPair (a : Arena) (p : TermId × TermId) : Type 0 where
  pub variable_there : p.0.0 < length a.nodes
  pub term_there : p.1.0 < length a.nodes
  pub variable : IsTrue (is_variable (head_at a p.0))
  pub same_sort : sort_at a p.1 ≡ sort_at a p.0

abbrev pub ArePairs : Arena → List (TermId × TermId) → Type 0
ArePairs a [] = Unit {0}
ArePairs a (p ∷ pairs) = IsPair a p × ArePairs a pairs

-- the terms of a list with the pairs put in, all at once
abbrev pub substituted : Arena → List (TermId × TermId) → List TermId → List Term
substituted a pairs ts = map (substitute (pairs_at a pairs)) (map (tree a) ts)

-- ---- images that were made

-- one more image, in the place of an older one of the same id
pub record Puts (t u : TermId) (old new : List (TermId × TermId)) : Type 0 where
  pub image : (k : TermId) → image_of new k ≡ (if same_id t k then Some u else image_of old k)

-- two lists give each id the same image
pub record SameImages (left right : List (TermId × TermId)) : Type 0 where
  pub image : (k : TermId) → image_of left k ≡ image_of right k

-- an image is there and has the sort of its term
pub record Fits (a : Arena) (k v : TermId) : Type 0 where
  pub there : v.0 < length a.nodes
  pub same_sort : sort_at a v ≡ sort_at a k

-- each image fits
pub record ImagesFit (a : Arena) (images : List (TermId × TermId)) : Type 0 where
  pub each : (k v : TermId) → k.0 < length a.nodes → image_of images k ≡ Some v → Fits a k v
