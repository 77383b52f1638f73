-- A head over the last terms of a stack.
use Rattle.std.proofs.Common.{◌≡◌, ℕ, zero, suc, ◌-◌, ◌<◌, List, [], ◌∷◌, ◌++◌, map, length, take, drop, Some, IsSome, is_some, IsTrue, IsErr, refl, sym, ap, ◌∙◌, subst, Result, Ok, Err, OnOk, OnErr, IfErr}
use Rattle.std.proofs.lemmas.List.{length-map, take-map, drop-map, take_rest, map_push}
use Rattle.std.specs.Result.{IsErrAnd}
use Rattle.spv_logic.specs.declared.conditions.TermId.{TermId}
use Rattle.spv_logic.specs.declared.operators.Head.{Head}
use Rattle.spv_logic.specs.Terms.{Term, term, terms}
use Rattle.spv_logic.specs.Sorts.{result_sort, with_sorts, term_sort}
use Rattle.spv_term.specs.declared.nodes.TermFault.{TermFault}
use Rattle.spv_term.specs.declared.nodes.TermFault.TheVariants as fault
use Rattle.spv_term.specs.Arena.{Arena, IsArena, AllBelow, Extends, node, with_node, lacks_room, tree, trees, trees_of, sorts_at}
use Rattle.spv_term.proofs.TreeLemmas.{AllBelow-append}
use Rattle.spv_term.proofs.ArenaLemmas.{AllBelow-Extends, map_tree-Extends, term_sorts-trees}
use Rattle.spv_proof_rules.specs.Stops.{kept, on_room, all_kept, terms_of}
use Rattle.spv_proof_rules.specs.Outcomes.{IsFirst}
use Rattle.spv_proof_rules.proofs.Growing.{first-same, all-kept-first}
use Rattle.spv_rules.specs.making.Pieces.{arguments, below, over, put, MayPut, IsMadeFault}
use Rattle.spv_rules.specs.declared.making.pieces.Piece.TheVariants.{Over}
use Rattle.spv_rules.proofs.making.Kept.{kept_ok, kept_err}

-- ---- one term

one_ok : (most : ℕ) (known : List Term) (x : Term) (new : List Term) (r : Result TermId TermFault) → OnOk r (kept most known x ≡ Some new) → OnOk r (all_kept most known (x ∷ []) ≡ Ok new)
one_ok most known x new (Ok t) e = ap (λ o. on_room known o (λ more. all_kept most more [])) e
one_ok most known x new (Err f) e = tt

module _ (a : Arena) (ok : IsArena a) (h : Head) (ts : List TermId) (below_it : AllBelow (length a.nodes) ts) where
  abbrev x : Term
  x = term h (trees a ts)

  pub make-all : (new : Arena) (r : Result TermId TermFault) → (IsTrue (lacks_room a (node h ts)) → IsErr r) → OnOk r (new ≡ record a { nodes = with_node a.nodes (node h ts) })
      → OnOk r (all_kept a.most (trees_of a.nodes) (x ∷ []) ≡ Ok (trees_of new.nodes))
  make-all new r full e = one_ok a.most (trees_of a.nodes) x (trees_of new.nodes) r (kept_ok a ok h ts below_it new r x refl full e)

  pub make-fault : (new : Arena) (r : Result TermId TermFault) → (r ≡ Err fault.Size → IsTrue (lacks_room a (node h ts))) → OnErr r (new ≡ a) → IfErr r (λ f. IsMadeFault new f (all_kept a.most (trees_of a.nodes) (x ∷ [])))
  make-fault new (Ok t) size same = tt
  make-fault new (Err fault.Size) size same =
      let none = kept_err a ok h ts below_it (Err fault.Size) x refl size in
      ap (λ o. on_room (trees_of a.nodes) o (λ more. all_kept a.most more [])) none ∙ ap (λ (b : Arena). Err (trees_of b.nodes)) (sym same)
  make-fault new (Err fault.Memory) size same = subst (λ (b : Arena). IsFirst (trees_of b.nodes) (terms_of (all_kept a.most (trees_of a.nodes) (x ∷ [])))) (sym same) (all-kept-first a.most (x ∷ []) (trees_of a.nodes))

-- for want of memory behind it, it is there
pub made-first : (new : List Term) (r : Result (List Term) (List Term)) → r ≡ Ok new → IsFirst new (terms_of r)
made-first new r e = subst (λ s. IsFirst new (terms_of s)) (sym e) (first-same new)

-- ---- the last terms of a stack

AllBelow-take : (n k : ℕ) (ts : List TermId) → AllBelow n ts → AllBelow n (take k ts)
AllBelow-take n zero ts h = tt
AllBelow-take n (suc k) [] h = tt
AllBelow-take n (suc k) (t ∷ ts) h = (h.0, AllBelow-take n k ts h.1)

AllBelow-drop : (n k : ℕ) (ts : List TermId) → AllBelow n ts → AllBelow n (drop k ts)
AllBelow-drop n zero ts h = h
AllBelow-drop n (suc k) [] h = tt
AllBelow-drop n (suc k) (t ∷ ts) h = AllBelow-drop n k ts h.1

arguments-tree : (a : Arena) (ts : List TermId) → arguments (map (tree a) ts) ≡ trees a ts
arguments-tree a [] = refl
arguments-tree a (t ∷ ts) = ap (terms (tree a t)) (arguments-tree a ts)

below-map : (a : Arena) (n : ℕ) (stack : List TermId) → below n (map (tree a) stack) ≡ below n stack
below-map a n stack = ap (λ m. m - n) (length-map stack (tree a))

over_ids : (a : Arena) (h : Head) (n : ℕ) (stack : List TermId) → over h n (map (tree a) stack) ≡ term h (trees a (drop (below n stack) stack))
over_ids a h n stack =
    ap (λ k. term h (arguments (drop k (map (tree a) stack)))) (below-map a n stack)
    ∙ (ap (λ us. term h (arguments us)) (drop-map (tree a) (below n stack) stack)
    ∙ ap (term h) (arguments-tree a (drop (below n stack) stack)))

pub last_are : (items stack : List TermId) (n : ℕ) → items ≡ stack → take (length items - (length items - n)) (drop (length items - n) items) ≡ drop (below n stack) stack
last_are items stack n e = take_rest items (length items - n) ∙ ap (λ s. drop (below n s) s) e

pub rest_are : (items stack : List TermId) (n : ℕ) → items ≡ stack → take (length items - n) stack ≡ take (below n stack) stack
rest_are items stack n e = ap (λ s. take (below n s) stack) e

module _ (a : Arena) (ok : IsArena a) (h : Head) (n : ℕ) (stack : List TermId) (in_range : AllBelow (length a.nodes) stack)
    (may : MayPut a (map (tree a) stack) (Over h n)) (args : List TermId) (is : args ≡ drop (below n stack) stack) where
  pub over_is : term h (trees a args) ≡ over h n (map (tree a) stack)
  over_is = ap (λ ts. term h (trees a ts)) is ∙ sym (over_ids a h n stack)

  -- what `make` asks

  pub apply_args : AllBelow (length a.nodes) args
  apply_args = subst (AllBelow (length a.nodes)) (sym is) (AllBelow-drop (length a.nodes) (below n stack) stack in_range)

  pub apply_sorts : IsSome (result_sort a.shapes a.decls h (sorts_at a args))
  apply_sorts =
      ap (λ o. is_some (with_sorts o (result_sort a.shapes a.decls h))) (sym (term_sorts-trees a ok (trees a args) args apply_args refl))
      ∙ (ap (λ x. is_some (term_sort a.shapes a.decls x)) over_is ∙ may.3)

  -- what it gives

  module _ (b : Arena) (grows : Extends a b) (u : TermId) (new rest : List TermId) (cut : rest ≡ take (below n stack) stack) (pushed : new ≡ rest ++ u ∷ []) where
    stay : AllBelow (length a.nodes) rest
    stay = subst (AllBelow (length a.nodes)) (sym cut) (AllBelow-take (length a.nodes) (below n stack) stack in_range)

    pub apply_trees : tree b u ≡ term h (trees a args) → map (tree b) new ≡ put (tree a) (map (tree a) stack) (Over h n)
    apply_trees is_tree =
        let front : map (tree b) rest ≡ take (below n (map (tree a) stack)) (map (tree a) stack) =
        map_tree-Extends grows rest stay ∙ (ap (map (tree a)) cut ∙ (sym (take-map (tree a) (below n stack) stack) ∙ ap (λ k. take k (map (tree a) stack)) (sym (below-map a n stack)))) in
        let last : tree b u ≡ over h n (map (tree a) stack) = is_tree ∙ over_is in
        ap (map (tree b)) pushed ∙ (map_push (tree b) rest u ∙ (λ i. front i ++ last i ∷ []))

    pub apply_in_range : u.0 < length b.nodes → AllBelow (length b.nodes) new
    apply_in_range there = subst (AllBelow (length b.nodes)) (sym pushed) (AllBelow-append (length b.nodes) rest (u ∷ []) (AllBelow-Extends grows rest stay) (there, tt))

-- ---- faults that are handed on

pub handed : {T : Type 0} (r : Result T TermFault) (e : TermFault) (Q : TermFault → Type 0) → IsErrAnd r (λ f. f ≡ e) → Q e → IfErr r Q
handed (Ok x) e Q k q = tt
handed (Err f) e Q k q = subst Q (sym k) q
