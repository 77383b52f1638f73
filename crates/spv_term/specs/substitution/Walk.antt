-- Going through terms: what is still to be done, and what one step does.
use Rattle.std.specs.Prelude.{◌≡◌, ℕ, suc, ◌+◌, ◌*◌, ◌<◌, List, [], ◌∷◌, ◌++◌, map, length, Option, Some, None, slice_get}
use Rattle.spv_logic.specs.declared.conditions.TermId.{TermId}
use Rattle.spv_logic.specs.Terms.{Term, Terms, term, no_terms, terms}
use Rattle.spv_term.specs.declared.nodes.Node.{Node}
use Rattle.spv_term.specs.Arena.{Arena, tree, trees, sort_at}
use Rattle.spv_term.specs.declared.substitution.walk.Work.{Work}
use Rattle.spv_term.specs.declared.substitution.walk.Work.TheVariants.{Visit, Finish}
use Rattle.spv_term.specs.substitution.Images.{image_of, image_or, head_at, Puts}
use Rattle.spv_term.specs.substitution.Parts.{AddsOnly, Lacks}

-- ---- what is still to be done: the last of these works comes first

abbrev pub id_of : Work → TermId
id_of (Visit t) = t
id_of (Finish t) = t

-- visits of these terms, the first of them first
abbrev pub visits : List TermId → List Work
visits [] = []
visits (t ∷ ts) = visits ts ++ Visit t ∷ []

abbrev mutual
  -- how many nodes a tree has
  pub size : Term → ℕ
  size (term h ts) = suc (sizes ts)

  pub sizes : Terms → ℕ
  sizes no_terms = 0
  sizes (terms t ts) = size t + sizes ts

-- a bound of the steps that it takes
abbrev pub weight : Arena → Work → ℕ
weight a (Visit t) = 2 * size (tree a t)
weight a (Finish t) = 1

abbrev pub weights : Arena → List Work → ℕ
weights a [] = 0
weights a (w ∷ works) = weight a w + weights a works

-- ---- steps

abbrev pub args_of : Option Node → List TermId
args_of None = []
args_of (Some n) = n.args

-- the arguments of a term
abbrev pub args_at : Arena → TermId → List TermId
args_at a t = args_of (slice_get a.nodes t.0)

-- the head of a term over its arguments' images
abbrev pub over_images : Arena → List (TermId × TermId) → TermId → Term
over_images a images t = term (head_at a t) (trees a (map (image_or images) (args_at a t)))

-- what a work adds to an arena: nothing, or the term of the head over the images
abbrev pub AddsFor : Arena → List (TermId × TermId) → Arena → Work → Type 0
AddsFor a images b (Visit t) = b ≡ a
AddsFor a images b (Finish t) = AddsOnly a b (over_images a images t)

-- what a work lacks for want of room: that term
abbrev pub LacksFor : Arena → List (TermId × TermId) → Arena → Work → Type 0
LacksFor a images b (Visit t) = ⊥
LacksFor a images b (Finish t) = Lacks b (over_images a images t)

-- a term that has an image is left; of another one the arguments come first, and then the term itself
pub data Visits (a : Arena) (t : TermId) (images : List (TermId × TermId)) (works left : List Work) : Type 0 where
  known : (v : TermId) → image_of images t ≡ Some v → left ≡ works → Visits a t images works left
  opened : image_of images t ≡ None → left ≡ (works ++ Finish t ∷ []) ++ visits (args_at a t) → Visits a t images works left

-- the image of a term is the term of its head over its arguments' images
pub record Finishes (a : Arena) (t : TermId) (images : List (TermId × TermId)) (b : Arena) (more : List (TermId × TermId)) : Type 0 where
  pub image : TermId
  pub there : image.0 < length b.nodes
  pub is_tree : tree b image ≡ over_images a images t
  pub is_sort : sort_at b image ≡ sort_at a t
  pub puts : Puts t image images more

-- one work is done
pub data Steps (a : Arena) (w : Work) (works : List Work) (images : List (TermId × TermId)) (b : Arena) (left : List Work) (more : List (TermId × TermId)) : Type 0 where
  visited : (t : TermId) → w ≡ Visit t → Visits a t images works left → b ≡ a → more ≡ images → Steps a w works images b left more
  finished : (t : TermId) → w ≡ Finish t → Finishes a t images b more → left ≡ works → Steps a w works images b left more
