-- Subterms in order, each once, arguments first.
use Rattle.std.specs.Prelude.{◌≡◌, Some, slice_get, ℕ, suc, ◌+◌, ◌*◌, ◌<◌, Bool, true, false, List, [], ◌∷◌, ◌++◌, map, length, nat_eq, if◌then◌else◌}
use Rattle.std.specs.List.{list_any}
use Rattle.spv_logic.specs.declared.conditions.TermId.{TermId}
use Rattle.spv_logic.specs.declared.operators.Head.{Head}
use Rattle.spv_logic.specs.declared.operators.Head.TheVariants.{Add, Sub, Mul, Eq, Lt, Le, Not, And, Or, Implies}
use Rattle.spv_logic.specs.Terms.{Term, Terms, term, no_terms, terms, term_eq}
use Rattle.spv_term.specs.declared.nodes.Node.{Node}
use Rattle.spv_term.specs.Arena.{Arena, AllBelow, tree}
use Rattle.spv_atoms.specs.declared.walk.Through.{Through}
use Rattle.spv_atoms.specs.declared.walk.Through.TheVariants.{Connectives, Sums, Meanings}
use Rattle.spv_atoms.specs.declared.walk.Work.{Work}
use Rattle.spv_atoms.specs.declared.walk.Work.TheVariants.{Visit, Finish}
use Rattle.spv_atoms.specs.Atoms.{is_truth, is_connective, is_atom, only_if, with_term, with_terms}

abbrev mutual
  -- the terms with a term and those that it is gone through to, each where it is new and behind its arguments
  pub order : (Term → Bool) → Term → List Term → List Term
  order enters (term h ts) done =
      if list_any (term_eq (term h ts)) done then done else with_term (if enters (term h ts) then order_all enters ts done else done) (term h ts)

  pub order_all : (Term → Bool) → Terms → List Term → List Term
  order_all enters no_terms done = done
  order_all enters (terms t ts) done = order_all enters ts (order enters t done)

abbrev mutual
  -- how many nodes a tree has
  pub size : Term → ℕ
  size (term h ts) = suc (sizes ts)

  pub sizes : Terms → ℕ
  sizes no_terms = 0
  sizes (terms t ts) = size t + sizes ts

-- ---- what is gone through

abbrev pub is_sum_head : Head → Bool
is_sum_head Add = true
is_sum_head Sub = true
is_sum_head Mul = true
is_sum_head _ = false

abbrev pub is_sum : Term → Bool
is_sum (term h ts) = is_sum_head h

-- whether a head has a meaning of its own, which takes what its arguments are worth
abbrev pub has_meaning_head : Head → Bool
has_meaning_head Add = true
has_meaning_head Sub = true
has_meaning_head Mul = true
has_meaning_head Eq = true
has_meaning_head Lt = true
has_meaning_head Le = true
has_meaning_head Not = true
has_meaning_head And = true
has_meaning_head Or = true
has_meaning_head Implies = true
has_meaning_head _ = false

abbrev pub has_meaning : Term → Bool
has_meaning (term h ts) = has_meaning_head h

-- whether the arguments of a term are gone through
abbrev pub enters_in : Arena → Through → Term → Bool
enters_in a Connectives t = is_connective (is_truth a.shapes a.decls) t
enters_in a Sums t = is_sum t
enters_in a Meanings t = has_meaning t

-- ---- ids

abbrev pub same_id : TermId → TermId → Bool
same_id t u = nat_eq t.0 u.0

-- ids with one more: as they are where it is among them, else with it at the end
abbrev pub with_id : List TermId → TermId → List TermId
with_id ids t = if list_any (same_id t) ids then ids else ids ++ t ∷ []

-- ---- what is still to be done: the last of these works comes first

-- visits of these terms, the first of them first
abbrev pub visits : List TermId → List Work
visits [] = []
visits (t ∷ ts) = visits ts ++ Visit t ∷ []

abbrev pub done_by : Arena → Through → Work → List Term → List Term
done_by a through (Visit t) done = order (enters_in a through) (tree a t) done
done_by a through (Finish t) done = with_term done (tree a t)

-- the terms when all of it is done
abbrev pub after : Arena → Through → List Work → List Term → List Term
after a through [] done = done
after a through (w ∷ works) done = done_by a through w (after a through works done)

-- a bound of the steps that it takes
abbrev pub weight : Arena → Work → ℕ
weight a (Visit t) = 2 * size (tree a t)
weight a (Finish t) = 1

abbrev pub weights : Arena → List Work → ℕ
weights a [] = 0
weights a (w ∷ works) = weight a w + weights a works

abbrev pub WorkIn : Arena → Work → Type 0
WorkIn a (Visit t) = t.0 < length a.nodes
WorkIn a (Finish t) = t.0 < length a.nodes

abbrev pub WorksIn : Arena → List Work → Type 0
WorksIn a [] = Unit {0}
WorksIn a (w ∷ works) = WorkIn a w × WorksIn a works

-- one work is done: what is left to be done, and the terms that are, come to the same; and it takes fewer steps
pub record IsStep (a : Arena) (through : Through) (w : Work)
    (works : List Work) (done : List TermId) (left : List Work) (more : List TermId) : Type 0 where
  pub same : after a through left (map (tree a) more) ≡ after a through works (done_by a through w (map (tree a) done))
  pub less : weights a left < weights a works + weight a w
  pub works_in : WorksIn a left
  pub done_in : AllBelow (length a.nodes) more

-- a term and the visits of its arguments are put in front of all other works
abbrev pub Inside : Arena → TermId → List Work → List Work → Type 0
Inside a t works left = (n : Node) → slice_get a.nodes t.0 ≡ Some n → left ≡ (works ++ Finish t ∷ []) ++ visits n.args

-- ---- atoms that are added

-- the same ids are among both
abbrev pub SameMembers : List TermId → List TermId → Type 0
SameMembers known ids = (t : TermId) → list_any (same_id t) known ≡ list_any (same_id t) ids

-- a term is added where it is an atom and new
pub record IsAdded (a : Arena) (t : TermId) (out known more : List TermId) : Type 0 where
  pub atoms : map (tree a) more ≡ with_terms (map (tree a) out) (only_if (is_atom (is_truth a.shapes a.decls) (tree a t)) (tree a t))
  pub same : SameMembers known more
  pub in_range : AllBelow (length a.nodes) more

-- the terms that pass a test, in order
abbrev pub passing : (Term → Bool) → List Term → List Term
passing test [] = []
passing test (t ∷ ts) = only_if (test t) t ++ passing test ts

-- terms with those of these that are atoms and new
abbrev pub added : Arena → List TermId → List TermId → List Term
added a out ts = with_terms (map (tree a) out) (passing (is_atom (is_truth a.shapes a.decls)) (map (tree a) ts))
