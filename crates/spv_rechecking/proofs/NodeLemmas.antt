-- Nodes of a proof over an arena, and what a listing says of them, over plain variables.
use Rattle.std.proofs.Common.{◌≡◌, ℕ, zero, suc, ◌<◌, Bool, true, ◌&&◌, Option, Some, None, List, [], ◌∷◌, ◌++◌, length, nat_eq, nat_lt, refl, sym, ap, subst, ◌∙◌, arith}
use Rattle.std.specs.List.{list_all}
use Rattle.std.proofs.lemmas.Bool.{false≢true, eqb-true}
use Rattle.spv_logic.specs.declared.conditions.TermId.{TermId}
use Rattle.spv_logic.proofs.list.Tests.{left_true, right_true}
use Rattle.spv_atoms.specs.declared.proofs.Split as own_split
use Rattle.spv_atoms.specs.declared.proofs.ProofNode as own
use Rattle.spv_atoms.specs.Shape as shape
use Rattle.spv_listing_values.specs.declared.texts.Text.{Text}
use Rattle.spv_listing_values.specs.declared.data.Split.{Split}
use Rattle.spv_listing_values.specs.declared.data.ProofNode.{ProofNode}
use Rattle.spv_listing_values.proofs.Numerals.{both_true}
use Rattle.spv_rechecking.specs.Made.{image_at}
use Rattle.spv_rechecking.specs.Parts.{cases_of, counts, are_placed, has_cases}
use Rattle.spv_rechecking.specs.Converted.{IsSplitOf}

-- ---- each node has the places of its cases

pub placed_length : (place : ℕ) (wanted : List ℕ) (ns : List (ProofNode Text)) (ps : List (List ℕ)) → are_placed place wanted (counts ns) ps ≡ true → length ps ≡ length ns
placed_length place [] [] [] h = refl
placed_length place (w ∷ wanted) [] [] h = refl
placed_length place [] [] (p ∷ ps) h = absurd (false≢true h)
placed_length place (w ∷ wanted) [] (p ∷ ps) h = absurd (false≢true h)
placed_length place [] (n ∷ ns) [] h = absurd (false≢true h)
placed_length place (w ∷ wanted) (n ∷ ns) [] h = absurd (false≢true h)
placed_length place [] (n ∷ ns) (p ∷ ps) h = absurd (false≢true h)
placed_length place (w ∷ wanted) (n ∷ ns) (p ∷ ps) h =
    let rest = right_true (nat_eq w place) (nat_eq (cases_of n.split) (length p) && are_placed (suc place) (p ++ wanted) (counts ns) ps) h in
    ap suc (placed_length (suc place) (p ++ wanted) ns ps (right_true (nat_eq (cases_of n.split) (length p)) (are_placed (suc place) (p ++ wanted) (counts ns) ps) rest))

-- ---- the places of cases make a tree

-- nodes over an arena have these places of cases
abbrev pub Match : List TermId → List (ProofNode Text) → List (List ℕ) → List own.ProofNode → Type 0
Match images [] [] [] = Unit {0}
Match images (n ∷ ns) (p ∷ ps) (o ∷ os) = IsSplitOf images n.split p o.split × Match images ns ps os
Match images _ _ _ = ⊥

module _ (images : List TermId) where
  some_part : (p : List ℕ) → 0 < length p → shape.is_some_part p ≡ true
  some_part [] h = absurd (omega (arith, h))
  some_part (x ∷ p) h = refl

  parts_are : (s : Option (Split Text)) (p : List ℕ) (o : Option own_split.Split) → IsSplitOf images s p o → cases_of s ≡ length p → shape.parts_of o ≡ p
  parts_are None [] o h e = ap shape.parts_of h
  parts_are None (x ∷ p) o h e = absurd (never (length p) e)
    where
      never : (n : ℕ) → 0 ≡ suc n → ⊥
      never n f = omega (arith, f)
  parts_are (Some s) p o h e = ap shape.parts_of h

  cases_there : (n : ProofNode Text) (p : List ℕ) (o : Option own_split.Split) → IsSplitOf images n.split p o → has_cases n ≡ true → cases_of n.split ≡ length p → shape.has_cases o ≡ true
  cases_there n p o = by n.split refl
    where
      by : (s : Option (Split Text)) → n.split ≡ s → IsSplitOf images n.split p o → has_cases n ≡ true → cases_of n.split ≡ length p → shape.has_cases o ≡ true
      by None e h k f = ap shape.has_cases (subst (λ t. IsSplitOf images t p o) e h)
      by (Some s) e h k f =
          let whole : o ≡ Some (record { atom = image_at images s.atom; parts = p }) = subst (λ t. IsSplitOf images t p o) e h in
          let above : nat_lt 0 s.cases ≡ true = sym (ap (λ t. elim t as (λ _. Bool) [ None ↦ true | Some r ↦ nat_lt 0 r.cases ]) e) ∙ k in
          let count : s.cases ≡ length p = sym (ap cases_of e) ∙ f in
          ap shape.has_cases whole ∙ some_part p (low s.cases (length p) count above)
        where
          low : (c n : ℕ) → c ≡ n → nat_lt 0 c ≡ true → 0 < n
          low zero n e h = absurd (false≢true h)
          low (suc c) n e h = omega (arith, e)

  pub placed_tree : (place : ℕ) (wanted : List ℕ) (ns : List (ProofNode Text)) (ps : List (List ℕ)) (os : List own.ProofNode) → Match images ns ps os → are_placed place wanted (counts ns) ps ≡ true → list_all has_cases ns ≡ true
      → shape.in_order place wanted os ≡ true
  placed_tree place [] [] [] [] m h k = refl
  placed_tree place (w ∷ wanted) [] [] [] m h k = absurd (false≢true h)
  placed_tree place [] (n ∷ ns) (p ∷ ps) (o ∷ os) m h k = absurd (false≢true h)
  placed_tree place (w ∷ wanted) (n ∷ ns) (p ∷ ps) (o ∷ os) m h k =
      let c = cases_of n.split in
      let rest = right_true (nat_eq w place) (nat_eq c (length p) && are_placed (suc place) (p ++ wanted) (counts ns) ps) h in
      let count : c ≡ length p = eqb-true c (length p) (left_true (nat_eq c (length p)) (are_placed (suc place) (p ++ wanted) (counts ns) ps) rest) in
      let behind = right_true (nat_eq c (length p)) (are_placed (suc place) (p ++ wanted) (counts ns) ps) rest in
      let others = placed_tree (suc place) (p ++ wanted) ns ps os m.1 behind (right_true (has_cases n) (list_all has_cases ns) k) in
      both_true (nat_eq w place) (shape.has_cases o.split && shape.in_order (suc place) (shape.parts_of o.split ++ wanted) os) (left_true (nat_eq w place) (nat_eq c (length p) && are_placed (suc place) (p ++ wanted) (counts ns) ps) h)
      (both_true (shape.has_cases o.split) (shape.in_order (suc place) (shape.parts_of o.split ++ wanted) os) (cases_there n p o.split m.0 (left_true (has_cases n) (list_all has_cases ns) k) count)
      (ap (λ q. shape.in_order (suc place) (q ++ wanted) os) (parts_are n.split p o.split m.0 count) ∙ others))
  placed_tree place wanted [] [] (o ∷ os) m h k = absurd m
  placed_tree place wanted [] (p ∷ ps) os m h k = absurd m
  placed_tree place wanted (n ∷ ns) [] os m h k = absurd m
  placed_tree place wanted (n ∷ ns) (p ∷ ps) [] m h k = absurd m
