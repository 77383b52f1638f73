-- The marks of a path and its cases.
use Rattle.std.proofs.Common.{◌≡◌, ◌⊎◌, ℕ, ◌+◌, ◌<◌, ◌≤◌, List, [], ◌∷◌, ◌++◌, take, length, sym, ap, ◌∙◌, subst, Some, inl, inr, arith}
use Rattle.std.specs.Prelude.{slice_get}
use Rattle.std.proofs.lemmas.List.{length-take-le, length_push}
use Rattle.spv_logic.specs.Terms.{Term}
use Rattle.spv_term.specs.declared.nodes.Condition.{Condition}
use Rattle.spv_term.specs.Arena.{Arena}
use Rattle.spv_search.specs.declared.branches.cases.Case.{Case}
use Rattle.spv_trail.specs.declared.backtracking.path.BranchTrail.{BranchTrail}
use Rattle.spv_trail.specs.declared.backtracking.marks.TrailMark.{TrailMark}
use Rattle.spv_trail.specs.backtracking.Paths.{IsEarlier, IsMark}
use Rattle.spv_search.specs.Searching.{formulas_in, AreMarks, KeepsFewer}
use Rattle.spv_search.proofs.Lists.{push_cases, take_at, take_all, take_front}

-- ---- going back

-- the branch that comes then has its marks
pub marks_back : (a : Arena) (c : Condition) (p : BranchTrail) (ms : List TrailMark) (count : ℕ) (old new : List Case) → KeepsFewer count old new → AreMarks a c p ms old count → AreMarks a c p ms new (length new)
marks_back a c p ms count old new k h = record {
  many = let l = long in let f = k.fewer in let m = h.many in omega (arith, l, f, m);
  each = λ i m below at. subst (λ (cs : List Case). IsMark a c (formulas_in a cs) p m) (sym (front i (few i below))) (h.each i m (under i below) at);
  rising = λ i j m n le below at behind. h.rising i j m n le (under j below) at behind;
}
  where
    long : length new ≡ k.kept + 1
    long = ap length k.cases_are ∙ (length_push (take k.kept old) k.last ∙ ap (λ (n : ℕ). n + 1) (length-take-le k.kept old k.within))

    few : (i : ℕ) → i < length new → i ≤ k.kept
    few i below = let l = long in omega (arith, l, below)

    under : (i : ℕ) → i < length new → i < count
    under i below = let l = long in let f = k.fewer in omega (arith, l, below, f)

    front : (i : ℕ) → i ≤ k.kept → take i new ≡ take i old
    front i l = ap (take i) k.cases_are ∙ take_front k.kept i old k.last l k.within

-- ---- one mark more

module _ (a : Arena) (c : Condition) (p : BranchTrail) (ms more : List TrailMark) (cs : List Case) (count : ℕ) (m : TrailMark) (many : count ≡ length cs) (more_is : more ≡ take count ms ++ m ∷ [])
    (mark : IsMark a c (formulas_in a cs) p m) (last : (cases : List Term) (n : TrailMark) → IsMark a c cases p n → IsEarlier n m) (h : AreMarks a c p ms cs count) where
  cut : length (take count ms) ≡ count
  cut = length-take-le count ms h.many

  place : (i : ℕ) (n : TrailMark) → slice_get more i ≡ Some n → ((i < length (take count ms)) × (slice_get (take count ms) i ≡ Some n)) ⊎ ((i ≡ length (take count ms)) × (m ≡ n))
  place i n at = push_cases (take count ms) m n i (subst (λ (xs : List TrailMark). slice_get xs i ≡ Some n) more_is at)

  below : (i : ℕ) → i < length (take count ms) → i < count
  below i l = let k = cut in omega (arith, k, l)

  each_one : (i : ℕ) (n : TrailMark) → slice_get more i ≡ Some n → IsMark a c (formulas_in a (take i cs)) p n
  each_one i n at = by_place (place i n at)
    where
      by_place : ((i < length (take count ms)) × (slice_get (take count ms) i ≡ Some n)) ⊎ ((i ≡ length (take count ms)) × (m ≡ n)) → IsMark a c (formulas_in a (take i cs)) p n
      by_place (inl k) = h.each i n (below i k.0) (take_at count ms n i k.1)
      by_place (inr k) =
          subst (λ (o : TrailMark). IsMark a c (formulas_in a (take i cs)) p o) k.1
          (subst (λ (xs : List Case). IsMark a c (formulas_in a xs) p m) (sym (ap (λ (j : ℕ). take j cs) (k.0 ∙ (cut ∙ many)) ∙ take_all cs)) mark)

  later : (i j : ℕ) (n o : TrailMark) → i ≤ j → slice_get more i ≡ Some n → slice_get more j ≡ Some o → IsEarlier n o
  later i j n o le at behind = by_place (place j o behind)
    where
      both_before : (j < length (take count ms)) × (slice_get (take count ms) j ≡ Some o) → ((i < length (take count ms)) × (slice_get (take count ms) i ≡ Some n)) ⊎ ((i ≡ length (take count ms)) × (m ≡ n)) → IsEarlier n o
      both_before k (inl l) = h.rising i j n o le (below j k.0) (take_at count ms n i l.1) (take_at count ms o j k.1)
      both_before k (inr l) = absurd (let x = k.0 in let y = l.0 in omega (arith, x, y, le))

      by_place : ((j < length (take count ms)) × (slice_get (take count ms) j ≡ Some o)) ⊎ ((j ≡ length (take count ms)) × (m ≡ o)) → IsEarlier n o
      by_place (inl k) = both_before k (place i n at)
      by_place (inr k) = subst (λ (x : TrailMark). IsEarlier n x) k.1 (last (formulas_in a (take i cs)) n (each_one i n at))

  pub marks_pushed : AreMarks a c p more cs (count + 1)
  marks_pushed = record {
    many = let l = ap length more_is ∙ length_push (take count ms) m in let k = cut in omega (arith, l, k);
    each = λ i n under at. each_one i n at;
    rising = λ i j n o le under at behind. later i j n o le at behind;
  }
