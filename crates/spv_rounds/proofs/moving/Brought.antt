-- All terms of an arena, made in another one.
use Rattle.std.proofs.Common.{◌≡◌, ℕ, zero, suc, ◌+◌, ◌<◌, List, [], ◌∷◌, ◌++◌, map, length, Option, Some, None, is_some, IsSome, refl, sym, ap, ◌∙◌, subst, arith, slice_get, Result, Ok, Err, IfOk}
use Rattle.spv_term.specs.declared.nodes.TermFault.{TermFault}
use Rattle.std.proofs.lemmas.Option.{same_Some}
use Rattle.spv_logic.specs.declared.conditions.TermId.{TermId}
use Rattle.spv_logic.specs.Terms.{term, terms}
use Rattle.spv_logic.specs.Sorts.{result_sort, with_sorts, term_sort}
use Rattle.spv_term.specs.declared.nodes.Node.{Node}
use Rattle.spv_term.specs.Arena.{Arena, IsArena, Extends, tree, trees, sorts_at}
use Rattle.spv_term.proofs.ArenaLemmas.{tree-node, IsWellSorted-arena, term_sorts-trees, Extends-refl, Extends-trans, length-Extends, tree-Extends}
use Rattle.spv_rounds.specs.moving.Moves.{known_id, moved_id, IsMove, AreMoves, AllMoved, Was, put, stayed}

-- ---- one term

trees-map : (a b : Arena) (ts us : List TermId) → map (tree b) us ≡ map (tree a) ts → trees b us ≡ trees a ts
trees-map a b [] [] e = refl
trees-map a b [] (u ∷ us) e = absurd (cc)
trees-map a b (t ∷ ts) [] e = absurd (cc)
trees-map a b (t ∷ ts) (u ∷ us) e =
    let first : tree b u ≡ tree a t = cc in
    let rest : map (tree b) us ≡ map (tree a) ts = cc in
    λ i. terms (first i) (trees-map a b ts us rest i)

module _ (a b : Arena) (ok_a : IsArena a) (ok_b : IsArena b) (t : TermId) (below : t.0 < length a.nodes) (n : Node) (at : slice_get a.nodes t.0 ≡ Some n) (us : List TermId) (moved : AllMoved a b n.args us) where
  pub one-tree : term n.head (trees b us) ≡ tree a t
  one-tree = ap (term n.head) (trees-map a b n.args us moved.same) ∙ sym (tree-node a ok_a t n at)

  pub one-sorts : a.shapes ≡ b.shapes → a.decls ≡ b.decls → IsSome (result_sort b.shapes b.decls n.head (sorts_at b us))
  one-sorts shapes decls =
      ap (λ o. is_some (with_sorts o (result_sort b.shapes b.decls n.head))) (sym (term_sorts-trees b ok_b (trees b us) us moved.there refl))
      ∙ (ap (λ x. is_some (term_sort b.shapes b.decls x)) one-tree ∙ ((λ i. is_some (term_sort (sym shapes i) (sym decls i) (tree a t))) ∙ ap is_some (IsWellSorted-arena a ok_a t below)))

  pub one-moved : (c : Arena) (r : Result TermId TermFault) → IfOk r (λ u. u.0 < length c.nodes) → IfOk r (λ u. tree c u ≡ term n.head (trees b us)) → IfOk r (IsMove a c t)
  one-moved c (Ok u) there same = record { there = there; same = same ∙ one-tree }
  one-moved c (Err f) there same = tt

pub args-moved : (a b : Arena) (args ts us vs : List TermId) → ts ≡ args → vs ≡ us → AllMoved a b ts us → AllMoved a b args vs
args-moved a b args ts us vs e f m = subst (AllMoved a b args) (sym f) (subst (λ xs. AllMoved a b xs us) e m)

-- ---- all terms

pub record Brings (from old own : Arena) (places : List (Option TermId)) (count : ℕ) : Type 0 where
  pub grows : Extends old own
  pub moves : AreMoves from own places
  pub many : length places ≡ count

moves-grow : (a b c : Arena) (t u : TermId) → Extends b c → IsMove a b t u → IsMove a c t u
moves-grow a b c t u more m =
    let le = length-Extends more in
    let h = m.there in
    record { there = omega (arith, le, h); same = tree-Extends more u m.there ∙ m.same }

nothing-known : (t u : TermId) → moved_id [] t ≡ Some u → ⊥
nothing-known t u e = cc

pub brings-begin : (from old : Arena) (places : List (Option TermId)) → places ≡ [] → Brings from old old places 0
brings-begin from old places e = subst (λ ps. Brings from old old ps 0) (sym e) (record { grows = Extends-refl old; moves = record { each = λ t u k. absurd (nothing-known t u k) }; many = refl })

-- of an id among these places, or the one behind them
pub data Placed (places : List (Option TermId)) (u t w : TermId) : Type 0 where
  before : moved_id places t ≡ Some w → Placed places u t w
  last : t.0 ≡ length places → w ≡ u → Placed places u t w

placed-push : (places : List (Option TermId)) (u : TermId) (k : ℕ) (w : TermId) → known_id (slice_get (places ++ Some u ∷ []) k) ≡ Some w → Placed places u (record { 0 = k }) w
placed-push [] u zero w e = last refl (sym (same_Some u w e))
placed-push [] u (suc k) w e = absurd (cc)
placed-push (p ∷ places) u zero w e = before e
placed-push (p ∷ places) u (suc k) w e = by_case (placed-push places u k w e)
  where
    by_case : Placed places u (record { 0 = k }) w → Placed (p ∷ places) u (record { 0 = suc k }) w
    by_case (before h) = before h
    by_case (last h same) = last (ap suc h) same

pub brings-more : (from old own new : Arena) (places after : List (Option TermId)) (k : ℕ) (t u : TermId) → t.0 ≡ k → Brings from old own places k → Extends own new → IsMove from new t u → after ≡ places ++ Some u ∷ [] → Brings from old new after (k + 1)
brings-more from old own new places after k t u at b more m e = subst (λ ps. Brings from old new ps (k + 1)) (sym e) (record {
  grows = Extends-trans b.grows more;
  moves = record { each = λ v w h. by_case v w (placed-push places u v.0 w h) };
  many = length-more places u ∙ ap (λ n. n + 1) b.many;
})
  where
    length-more : (ps : List (Option TermId)) (x : TermId) → length (ps ++ Some x ∷ []) ≡ length ps + 1
    length-more [] x = refl
    length-more (p ∷ ps) x = let rest = length-more ps x in omega (arith, rest)

    by_case : (v w : TermId) → Placed places u v w → IsMove from new v w
    by_case v w (before h) = moves-grow from own new v w more (b.moves.each v w h)
    by_case v w (last h same) =
        let where_ : t ≡ v = (λ i. record { 0 = (at ∙ (sym b.many ∙ sym h)) i }) in
        subst (IsMove from new v) (sym same) (subst (λ (x : TermId). IsMove from new x u) where_ m)

-- ---- and back

pub nowhere-begins : (places : List (Option TermId)) → places ≡ [] → (t u : TermId) → moved_id places t ≡ Some u → ⊥
nowhere-begins places e t u h = nothing-known t u (subst (λ ps. moved_id ps t ≡ Some u) e h)

nowhere-push : (places : List (Option TermId)) (k : ℕ) (u : TermId) → known_id (slice_get (places ++ None ∷ []) k) ≡ Some u → known_id (slice_get places k) ≡ Some u
nowhere-push [] zero u e = absurd (cc)
nowhere-push [] (suc k) u e = absurd (cc)
nowhere-push (p ∷ places) zero u e = e
nowhere-push (p ∷ places) (suc k) u e = nowhere-push places k u e

pub nowhere-more : (places after : List (Option TermId)) → after ≡ places ++ None ∷ [] → ((t u : TermId) → moved_id places t ≡ Some u → ⊥) → (t u : TermId) → moved_id after t ≡ Some u → ⊥
nowhere-more places after e none t u h = none t u (nowhere-push places t.0 u (subst (λ ps. moved_id ps t ≡ Some u) e h))

-- what is put at the place of a term stands for it
pub back-more : (own from : Arena) (found after : List (Option TermId)) (u t : TermId) → t.0 < length from.nodes → IsMove from own t u → AreMoves own from found
    → ((v w : TermId) → moved_id after v ≡ Some w → Was u t v w (moved_id found v ≡ Some w)) → AreMoves own from after
back-more own from found after u t there m moves was = record { each = λ v w h. by_case v w (was v w h) }
  where
    by_case : (v w : TermId) → Was u t v w (moved_id found v ≡ Some w) → IsMove own from v w
    by_case v w (stayed h) = moves.each v w h
    by_case v w (put at is) = subst (IsMove own from v) (sym is) (subst (λ (x : TermId). IsMove own from x t) (sym at) (record { there = there; same = sym m.same }))
