-- What is asked of a search was tested.
use Rattle.std.proofs.Common.{◌≡◌, ℕ, ◌+◌, ◌<◌, ◌≤◌, List, [], ◌∷◌, map, drop, length, get_or, slice_get, Some, IsSome, is_some, IsTrue, refl, sym, ap, ◌∙◌, subst}
use Rattle.std.proofs.lemmas.List.{drop_more, drop_all}
use Rattle.spv_logic.specs.declared.conditions.TermId.{TermId}
use Rattle.spv_term.specs.declared.nodes.Condition.{Condition}
use Rattle.spv_logic.specs.Sorts.{result_sort, head_in_range, numeral_fits}
use Rattle.spv_term.specs.declared.nodes.Node.{Node}
use Rattle.spv_term.specs.Arena.{AllBelow, Arena, IsArena, sorts_at, tree}
use Rattle.spv_term.proofs.ArenaLemmas.{sort-node}
use Rattle.spv_proof_rules.specs.Stand.{question}
use Rattle.spv_models.specs.leaf_models.Laws.{AreFormulas}
use Rattle.spv_models.specs.leaf_models.Tables.{formulas_of}
use Rattle.spv_fact_search.specs.Asking.{AreTruthsThere, HasSortOf, HaveSortsOf, IsAsked}
use Rattle.spv_fact_search.proofs.Formulas.{AllTruths, both, each-truth}

pub given-there : (a : Arena) (ts : List TermId) → AreTruthsThere a ts → AllBelow (length a.nodes) ts
given-there a [] h = tt
given-there a (t ∷ ts) h = (h.0.0, given-there a ts h.1)

all-truths : (a : Arena) (ts : List TermId) → AreTruthsThere a ts → AllTruths a.shapes a.decls (map (tree a) ts)
all-truths a [] h = tt
all-truths a (t ∷ ts) h = (h.0.1, all-truths a ts h.1)

pub formulas-asked : (a : Arena) (c : Condition) → IsAsked a c → AreFormulas a.shapes a.decls (formulas_of (question a c).sequent)
formulas-asked a c h =
    each-truth a.shapes a.decls (formulas_of (question a c).sequent)
    (both a.shapes a.decls (map (tree a) c.given) (tree a c.goal ∷ []) (all-truths a c.given h.given) (h.goal.1, tt))

-- ---- arguments of the same sorts

list-at : {X : Type 0} (xs : List X) (i : ℕ) (x : X) → i < length xs → x ≡ get_or xs i x → drop i xs ≡ x ∷ drop (i + 1) xs
list-at xs i x within is = drop_more xs i x within ∙ ap (λ y. y ∷ drop (i + 1) xs) (sym is)

pub next-sorts : (a : Arena) (list own : List TermId) (i : ℕ) (t u : TermId) → i < length list → i < length own → t ≡ get_or list i t → u ≡ get_or own i u → HasSortOf a t u
    → HaveSortsOf a (drop (i + 1) list) (drop (i + 1) own) → HaveSortsOf a (drop i list) (drop i own)
next-sorts a list own i t u within own_within is own_is h rest =
    subst (λ (ts : List TermId). HaveSortsOf a ts (drop i own)) (sym (list-at list i t within is))
    (subst (λ (us : List TermId). HaveSortsOf a (t ∷ drop (i + 1) list) us) (sym (list-at own i u own_within own_is)) (h, rest))

pub no-sorts : (a : Arena) (list own : List TermId) (i : ℕ) → length list ≤ i → length own ≤ i → HaveSortsOf a (drop i list) (drop i own)
no-sorts a list own i h k =
    subst (λ (ts : List TermId). HaveSortsOf a ts (drop i own)) (sym (drop_all i list h)) (subst (HaveSortsOf a []) (sym (drop_all i own k)) tt)

sorts-below : (a : Arena) (list own : List TermId) → HaveSortsOf a list own → AllBelow (length a.nodes) list
sorts-below a [] [] h = tt
sorts-below a (t ∷ ts) (u ∷ us) h = (h.0.0, sorts-below a ts us h.1)
sorts-below a [] (u ∷ us) h = absurd h
sorts-below a (t ∷ ts) [] h = absurd h

sorts-same : (a : Arena) (list own : List TermId) → HaveSortsOf a list own → sorts_at a list ≡ sorts_at a own
sorts-same a [] [] h = refl
sorts-same a (t ∷ ts) (u ∷ us) h = let others = sorts-same a ts us h.1 in λ i. h.0.1 i ∷ others i
sorts-same a [] (u ∷ us) h = absurd h
sorts-same a (t ∷ ts) [] h = absurd h

-- ---- a node over them

module _ (a : Arena) (ok : IsArena a) (t : TermId) (n : Node) (at : slice_get a.nodes t.0 ≡ Some n) (args : List TermId) (sorts : HaveSortsOf a args n.args) where
  pub remade-args : AllBelow (length a.nodes) args
  remade-args = sorts-below a args n.args sorts

  pub remade-sorts : IsSome (result_sort a.shapes a.decls n.head (sorts_at a args))
  remade-sorts = ap is_some (ap (result_sort a.shapes a.decls n.head) (sorts-same a args n.args sorts) ∙ sort-node a ok t n at)

  pub remade-types : IsTrue (head_in_range a.shapes n.head)
  remade-types = (ok.nodes t.0 n at).types

  pub remade-numeral : IsTrue (numeral_fits n.head)
  remade-numeral = (ok.nodes t.0 n at).numeral
