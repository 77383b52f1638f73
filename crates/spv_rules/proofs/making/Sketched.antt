-- Pieces of terms, as they are written one by one.
use Rattle.std.proofs.Common.{◌≡◌, ℕ, suc, ◌+◌, ◌*◌, ◌<◌, List, [], ◌∷◌, ◌++◌, length, slice_get, Option, Some, None, refl, sym, ap, ◌∙◌, subst, arith, Result, Ok, Err, OnOk}
use Rattle.std.proofs.lemmas.List.{append_assoc, append-nil}
use Rattle.spv_logic.specs.declared.conditions.TermId.{TermId}
use Rattle.spv_logic.specs.declared.operators.Head.{Head}
use Rattle.spv_logic.specs.Terms.{Term, Terms, term}
use Rattle.spv_term.specs.declared.nodes.Node.{Node}
use Rattle.spv_term.specs.Arena.{Arena, IsArena, AllBelow, tree, trees}
use Rattle.spv_term.specs.substitution.Images.{head_of, head_at}
use Rattle.spv_term.specs.substitution.Walk.{size, sizes}
use Rattle.spv_term.proofs.ArenaLemmas.{tree-node, args_in_range}
use Rattle.spv_rules.specs.declared.making.pieces.Piece.{Piece}
use Rattle.spv_rules.specs.declared.making.pieces.Piece.TheVariants.{Known, Over}
use Rattle.spv_rules.specs.declared.making.sketching.Work.{Work}
use Rattle.spv_rules.specs.declared.making.sketching.Work.TheVariants.{Visit, Place}
use Rattle.spv_rules.specs.making.Sketching.{count, known_or, pieces_of, pieces_of_all, visits, written, awaited, weight, weights, WorkIn, WorksIn, Inside, IsStep}

pub on_ok : {T E : Type 0} (r : Result T E) (P Q : Type 0) → OnOk r P → (P → Q) → OnOk r Q
on_ok (Ok x) P Q p go = go p
on_ok (Err e) P Q p go = tt

-- the head of a term of an arena is that of its node
pub head-node : (a : Arena) → IsArena a → (t : TermId) (n : Node) → slice_get a.nodes t.0 ≡ Some n → head_at a t ≡ n.head
head-node a ok t n at = ap head_of (tree-node a ok t n at)

size_positive : (x : Term) → 0 < size x
size_positive (term h ts) = omega arith

module _ (by : Head → Option TermId) (a : Arena) (ok : IsArena a) where
  awaited-append : (xs ys : List Work) → awaited by a (xs ++ ys) ≡ awaited by a ys ++ awaited by a xs
  awaited-append [] ys = sym (append-nil (awaited by a ys))
  awaited-append (x ∷ xs) ys = ap (λ ps. ps ++ written by a x) (awaited-append xs ys) ∙ append_assoc (awaited by a ys) (awaited by a xs) (written by a x)

  awaited-visits : (ts : List TermId) → awaited by a (visits ts) ≡ pieces_of_all by (trees a ts)
  awaited-visits [] = refl
  awaited-visits (t ∷ ts) = awaited-append (visits ts) (Visit t ∷ []) ∙ ap (λ ps. pieces_of by (tree a t) ++ ps) (awaited-visits ts)

  count-trees : (ts : List TermId) → count (trees a ts) ≡ length ts
  count-trees [] = refl
  count-trees (t ∷ ts) = ap suc (count-trees ts)

  weights-append : (xs ys : List Work) → weights a (xs ++ ys) ≡ weights a xs + weights a ys
  weights-append [] ys = omega arith
  weights-append (x ∷ xs) ys = let e = weights-append xs ys in omega (arith, e)

  weights-visits : (ts : List TermId) → weights a (visits ts) ≡ 2 * sizes (trees a ts)
  weights-visits [] = refl
  weights-visits (t ∷ ts) = weights-append (visits ts) (Visit t ∷ []) ∙ total (weights a (visits ts)) (sizes (trees a ts)) (size (tree a t)) (weights-visits ts)
    where
      total : (w n m : ℕ) → w ≡ 2 * n → w + (2 * m + 0) ≡ 2 * (m + n)
      total w n m e = omega (arith, e)

  WorksIn-append : (xs ys : List Work) → WorksIn a xs → WorksIn a ys → WorksIn a (xs ++ ys)
  WorksIn-append [] ys h k = k
  WorksIn-append (x ∷ xs) ys h k = (h.0, WorksIn-append xs ys h.1 k)

  WorksIn-visits : (ts : List TermId) → AllBelow (length a.nodes) ts → WorksIn a (visits ts)
  WorksIn-visits [] h = tt
  WorksIn-visits (t ∷ ts) h = WorksIn-append (visits ts) (Visit t ∷ []) (WorksIn-visits ts h.1) (h.0, tt)

  pieces-known : (x : Term) (u : TermId) → by (head_of x) ≡ Some u → pieces_of by x ≡ Known u ∷ []
  pieces-known (term h ts) u e = ap (λ o. known_or o (pieces_of_all by ts ++ Over h (count ts) ∷ [])) e

  pieces-over : (h : Head) (ts : Terms) → by h ≡ None → pieces_of by (term h ts) ≡ pieces_of_all by ts ++ Over h (count ts) ∷ []
  pieces-over h ts e = ap (λ o. known_or o (pieces_of_all by ts ++ Over h (count ts) ∷ [])) e

  module _ (works : List Work) (out : List Piece) (works_in : WorksIn a works) where
    pub step_place : (h : Head) (n : ℕ) (more : List Piece) → more ≡ out ++ Over h n ∷ [] → IsStep by a (Place h n) works out works more
    step_place h n more e = record {
      same = ap (λ ps. ps ++ awaited by a works) e ∙ append_assoc out (Over h n ∷ []) (awaited by a works);
      less = omega arith;
      works_in = works_in;
    }

    pub step_known : (t u : TermId) (n : Node) (more : List Piece) → slice_get a.nodes t.0 ≡ Some n → by n.head ≡ Some u → more ≡ out ++ Known u ∷ [] → IsStep by a (Visit t) works out works more
    step_known t u n more at e f =
        let p : pieces_of by (tree a t) ≡ Known u ∷ [] = pieces-known (tree a t) u (ap by (head-node a ok t n at) ∙ e) in
        record {
          same = ap (λ ps. ps ++ awaited by a works) f ∙ (append_assoc out (Known u ∷ []) (awaited by a works) ∙ ap (λ ps. out ++ (ps ++ awaited by a works)) (sym p));
          less = let s = size_positive (tree a t) in omega (arith, s);
          works_in = works_in;
        }

    pub step_inside : (t : TermId) (n : Node) (left : List Work) → slice_get a.nodes t.0 ≡ Some n → by n.head ≡ None → Inside a t works left → IsStep by a (Visit t) works out left out
    step_inside t n left at e inside = record { same = ap (λ ps. out ++ ps) now; less = less; works_in = subst (WorksIn a) (sym all) (WorksIn-append works (Place n.head (length n.args) ∷ visits n.args) works_in (tt, WorksIn-visits n.args (args_in_range a ok t n at))) }
      where
        all : left ≡ works ++ Place n.head (length n.args) ∷ visits n.args
        all = inside n at ∙ append_assoc works (Place n.head (length n.args) ∷ []) (visits n.args)

        whole : pieces_of by (tree a t) ≡ pieces_of_all by (trees a n.args) ++ Over n.head (length n.args) ∷ []
        whole =
            ap (pieces_of by) (tree-node a ok t n at)
            ∙ (pieces-over n.head (trees a n.args) e ∙ ap (λ k. pieces_of_all by (trees a n.args) ++ Over n.head k ∷ []) (count-trees n.args))

        now : awaited by a left ≡ pieces_of by (tree a t) ++ awaited by a works
        now =
            ap (awaited by a) all
            ∙ (awaited-append works (Place n.head (length n.args) ∷ visits n.args)
            ∙ ap (λ ps. ps ++ awaited by a works) (ap (λ ps. ps ++ Over n.head (length n.args) ∷ []) (awaited-visits n.args) ∙ sym whole))

        weight_is : size (tree a t) ≡ suc (sizes (trees a n.args))
        weight_is = ap size (tree-node a ok t n at)

        less : weights a left < weights a works + weight a (Visit t)
        less =
            let total = ap (weights a) all ∙ weights-append works (Place n.head (length n.args) ∷ visits n.args) in
            let more = weights-visits n.args in
            smaller (weights a left) (weights a works) (weights a (visits n.args)) (sizes (trees a n.args)) (size (tree a t)) total more weight_is
          where
            smaller : (l w v n s : ℕ) → l ≡ w + (1 + v) → v ≡ 2 * n → s ≡ suc n → l < w + 2 * s
            smaller l w v n s e f g = omega (arith, e, f, g)

  -- ---- turns of the loop

  pub popped_in : (works rest : List Work) (w : Work) → works ≡ rest ++ w ∷ [] → WorksIn a works → WorksIn a rest × WorkIn a w
  popped_in works rest w e h = parts rest (subst (WorksIn a) e h)
    where
      parts : (ws : List Work) → WorksIn a (ws ++ w ∷ []) → WorksIn a ws × WorkIn a w
      parts [] h = (tt, h.0)
      parts (x ∷ ws) h = let others = parts ws h.1 in ((h.0, others.0), others.1)

  module _ (works rest left : List Work) (w : Work) (out more : List Piece) (popped : works ≡ rest ++ w ∷ []) (s : IsStep by a w rest out left more) where
    pub turn_less : weights a left < weights a works
    turn_less = smaller (weights a left) (weights a works) (weights a rest) (weight a w) s.less (ap (weights a) popped ∙ weights-append rest (w ∷ []))
      where
        smaller : (l ws r x : ℕ) → l < r + x → ws ≡ r + (x + 0) → l < ws
        smaller l ws r x h e = omega (arith, h, e)

    pub turn_same : (goal : List Piece) → out ++ awaited by a works ≡ goal → more ++ awaited by a left ≡ goal
    turn_same goal e = s.same ∙ (ap (λ ps. out ++ ps) (sym (awaited-append rest (w ∷ []))) ∙ (ap (λ ws. out ++ awaited by a ws) (sym popped) ∙ e))
