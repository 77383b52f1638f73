-- Loops over formulas.
use Rattle.std.proofs.Common.{◌≡◌, ℕ, zero, suc, ◌+◌, ◌<◌, ◌≤◌, Bool, true, false, List, [], ◌∷◌, ◌++◌, map, take, drop, length, refl, sym, ap, ◌∙◌, subst, Some, arith, get_or, inl, inr}
use Rattle.std.specs.Prelude.{slice_get, Ok}
use Rattle.std.proofs.lemmas.Bool.{cases_lt}
use Rattle.std.proofs.lemmas.List.{length_push, map-append, take_more, drop_more}
use Rattle.std.proofs.lemmas.Option.{slice_get-get_or, slice_get_within, same_Some}
use Rattle.spv_whole.specs.Fraction.{Fraction}
use Rattle.spv_logic.specs.declared.conditions.TermId.{TermId}
use Rattle.spv_logic.specs.Terms.{Term}
use Rattle.spv_term.specs.Arena.{Arena, AllBelow, tree}
use Rattle.spv_term.proofs.ListLemmas.{slice_get-append_left, slice_get_push}
use Rattle.spv_term.proofs.TreeLemmas.{AllBelow-at}
use Rattle.spv_atoms.specs.Atoms.{is_truth, with_atoms}
use Rattle.spv_table.specs.Values.{holds}
use Rattle.spv_verdicts.specs.Verdicts.{with_all_atoms}
use Rattle.spv_verdicts.specs.model_check.Surviving.{AllHold, SomeFails, IsListedAt, AreTruths}

pub item_in : (n : ℕ) (ids : List TermId) (i : ℕ) (d : TermId) → AllBelow n ids → i < length ids → (get_or ids i d).0 < n
item_in n ids i d h below = AllBelow-at n ids i (get_or ids i d) h (slice_get-get_or ids i d below)

pub item_there : (ids : List TermId) (i : ℕ) (d : TermId) → i < length ids → IsListedAt ids (get_or ids i d)
item_there ids i d below = record { place = i; there = slice_get-get_or ids i d below }

-- ---- all hold

pub record HoldSoFar (a : Arena) (listed : Term → Fraction) (fs : List TermId) (n : ℕ) : Type 0 where
  pub each : (i : ℕ) (f : TermId) → i < n → slice_get fs i ≡ Some f → holds listed (tree a f) ≡ Ok true

pub none_hold : (a : Arena) (listed : Term → Fraction) (fs : List TermId) → HoldSoFar a listed fs 0
none_hold a listed fs = record { each = λ i f below at. absurd (omega (arith, below)) }

pub one_holds : (a : Arena) (listed : Term → Fraction) (fs : List TermId) (n : ℕ) (d : TermId) → n < length fs → HoldSoFar a listed fs n → (b : Bool) → holds listed (tree a (get_or fs n d)) ≡ Ok b → b ≡ true → HoldSoFar a listed fs (n + 1)
one_holds a listed fs n d within h b e is = record { each = each }
  where
    each : (i : ℕ) (f : TermId) → i < n + 1 → slice_get fs i ≡ Some f → holds listed (tree a f) ≡ Ok true
    each i f below at = elim (cases_lt i n) [
      | inl k ↦ h.each i f k at
      | inr k ↦
          let last : i ≡ n = omega (arith, below, k) in
          let same : get_or fs n d ≡ f = same_Some (get_or fs n d) f (sym (slice_get-get_or fs n d within) ∙ (ap (slice_get fs) (sym last) ∙ at)) in
          ap (λ x. holds listed (tree a x)) (sym same) ∙ (e ∙ ap Ok is)
    ]

pub all_hold : (a : Arena) (listed : Term → Fraction) (fs : List TermId) (n : ℕ) → length fs ≤ n → HoldSoFar a listed fs n → AllHold a listed fs
all_hold a listed fs n past h = record { each = λ i f at. let within = slice_get_within fs i f at in h.each i f (omega (arith, within, past)) at }

pub one_fails : (a : Arena) (listed : Term → Fraction) (fs : List TermId) (n : ℕ) (d : TermId) → n < length fs → (b : Bool) → holds listed (tree a (get_or fs n d)) ≡ Ok b → b ≡ false → SomeFails a listed fs
one_fails a listed fs n d within b e is = record { place = n; formula = get_or fs n d; there = slice_get-get_or fs n d within; fails = e ∙ ap Ok is }

-- ---- atoms

-- what the rest adds is what all of them do
pub record AddingAtoms (a : Arena) (out : List TermId) (rest goal : List Term) : Type 0 where
  pub same : with_all_atoms (is_truth a.shapes a.decls) (map (tree a) out) rest ≡ goal
  pub in_range : AllBelow (length a.nodes) out

pub one_added : (a : Arena) (fs : List TermId) (n : ℕ) (d : TermId) → n < length fs → (out more : List TermId) (goal : List Term) → AddingAtoms a out (map (tree a) (drop n fs)) goal
    → map (tree a) more ≡ with_atoms (is_truth a.shapes a.decls) (map (tree a) out) (tree a (get_or fs n d)) → AllBelow (length a.nodes) more → AddingAtoms a more (map (tree a) (drop (n + 1) fs)) goal
one_added a fs n d within out more goal h e below = record {
  same =
      ap (λ known. with_all_atoms (is_truth a.shapes a.decls) known (map (tree a) (drop (n + 1) fs))) e
      ∙ (ap (λ ids. with_all_atoms (is_truth a.shapes a.decls) (map (tree a) out) (map (tree a) ids)) (sym (drop_more fs n d within)) ∙ h.same);
  in_range = below;
}

pub all_added : (a : Arena) (fs : List TermId) (n : ℕ) → length fs ≤ n → (out : List TermId) (goal : List Term) → AddingAtoms a out (map (tree a) (drop n fs)) goal → map (tree a) out ≡ goal
all_added a fs n past out goal h = sym (ap (λ ids. with_all_atoms (is_truth a.shapes a.decls) (map (tree a) out) (map (tree a) ids)) (nothing_left fs n past)) ∙ h.same
  where
    nothing_left : (xs : List TermId) (k : ℕ) → length xs ≤ k → drop k xs ≡ []
    nothing_left [] zero l = refl
    nothing_left [] (suc k) l = refl
    nothing_left (x ∷ xs) zero l = absurd (omega (arith, l))
    nothing_left (x ∷ xs) (suc k) l = nothing_left xs k (omega (arith, l))

-- ---- truths

abbrev case_of : TermId → Bool → TermId × Bool
case_of t b = (t, b)

-- the first terms, each with its truth
pub record TruthsSoFar (a : Arena) (listed : Term → Fraction) (fs : List TermId) (n : ℕ) (branch : List (TermId × Bool)) : Type 0 where
  pub terms : map (λ p. p.0) branch ≡ take n fs
  pub truths : (i : ℕ) (p : TermId × Bool) → slice_get branch i ≡ Some p → holds listed (tree a p.0) ≡ Ok p.1

pub none_so_far : (a : Arena) (listed : Term → Fraction) (fs : List TermId) (branch : List (TermId × Bool)) → branch ≡ [] → TruthsSoFar a listed fs 0 branch
none_so_far a listed fs branch none = subst (λ (ps : List (TermId × Bool)). TruthsSoFar a listed fs 0 ps) (sym none) (record { terms = no_first fs; truths = λ i p at. absurd (nothing i p at) })
  where
    no_first : (xs : List TermId) → [] ≡ take 0 xs
    no_first [] = refl
    no_first (x ∷ xs) = refl

    pairs : List (TermId × Bool)
    pairs = []

    nothing : (i : ℕ) (p : TermId × Bool) → slice_get [] i ≡ Some p → ⊥
    nothing i p at = cc

pub one_truth : (a : Arena) (listed : Term → Fraction) (fs : List TermId) (n : ℕ) (d : TermId) → n < length fs → (branch more : List (TermId × Bool)) (b : Bool) → TruthsSoFar a listed fs n branch → holds listed (tree a (get_or fs n d)) ≡ Ok b
    → more ≡ branch ++ (get_or fs n d, b) ∷ [] → TruthsSoFar a listed fs (n + 1) more
one_truth a listed fs n d within branch more b h e add = subst (λ (ps : List (TermId × Bool)). TruthsSoFar a listed fs (n + 1) ps) (sym add) (record {
  terms = map-append (λ p. p.0) branch (case_of (get_or fs n d) b ∷ []) ∙ (ap (λ xs. xs ++ get_or fs n d ∷ []) h.terms ∙ sym (take_more fs n d within));
  truths = truths;
})
  where
    truths : (i : ℕ) (p : TermId × Bool) → slice_get (branch ++ case_of (get_or fs n d) b ∷ []) i ≡ Some p → holds listed (tree a p.0) ≡ Ok p.1
    truths i p at = elim (cases_lt i (length branch)) [
      | inl k ↦ h.truths i p (sym (slice_get-append_left branch (case_of (get_or fs n d) b ∷ []) i k) ∙ at)
      | inr k ↦
          let inside = slice_get_within (branch ++ case_of (get_or fs n d) b ∷ []) i p at in
          let place : i ≡ length branch = omega (arith, length_push branch (case_of (get_or fs n d) b)) in
          let same : case_of (get_or fs n d) b ≡ p = same_Some (case_of (get_or fs n d) b) p (sym (slice_get_push branch (case_of (get_or fs n d) b)) ∙ (ap (slice_get (branch ++ case_of (get_or fs n d) b ∷ [])) (sym place) ∙ at)) in
          subst (λ (x : TermId × Bool). holds listed (tree a x.0) ≡ Ok x.1) same e
    ]

pub all_truths : (a : Arena) (listed : Term → Fraction) (fs : List TermId) (n : ℕ) (branch : List (TermId × Bool)) → n ≡ length fs → TruthsSoFar a listed fs n branch → AreTruths a listed fs branch
all_truths a listed fs n branch past h = record { terms = h.terms ∙ (ap (λ k. take k fs) past ∙ whole fs); truths = h.truths }
  where
    whole : (xs : List TermId) → take (length xs) xs ≡ xs
    whole [] = refl
    whole (x ∷ xs) = ap (λ ys. x ∷ ys) (whole xs)
