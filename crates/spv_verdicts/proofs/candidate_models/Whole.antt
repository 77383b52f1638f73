-- A list of which no two entries are apart is a table.
use Rattle.std.proofs.Common.{◌≡◌, ◌⊎◌, inl, inr, ℕ, zero, suc, ◌<◌, ◌≤◌, Bool, true, false, ◌&&◌, ◌||◌, not, List, [], ◌∷◌, map, length, get_or, pos, refl, sym, ap, ◌∙◌, subst, Option, Some, None, Ok, Err, arith}
use Rattle.std.specs.Prelude.{slice_get}
use Rattle.std.specs.Option.{option_map}
use Rattle.std.specs.Cmp.Derive.{both_true}
use Rattle.std.proofs.lemmas.Bool.{false≢true, cases_lt}
use Rattle.std.proofs.lemmas.Option.{get_or_from_slice_get, slice_get-get_or, slice_get-map, slice_get_within, same_Some}
use Rattle.spv_whole.specs.Fraction.{Fraction, whole}
use Rattle.spv_logic.specs.declared.conditions.TermId.{TermId}
use Rattle.spv_logic.specs.declared.operators.Head.{Head}
use Rattle.spv_logic.specs.Terms.{Term, Terms, term, no_terms, terms, head_eq}
use Rattle.spv_logic.proofs.Equality.{head_eq-refl}
use Rattle.spv_term.specs.Arena.{Arena, tree}
use Rattle.spv_atoms.specs.Atoms.{is_truth}
use Rattle.spv_table.specs.Kept.{PairsIn, listed_over}
use Rattle.spv_table.specs.Tables.{HaveEqualValues, IsAlike, IsTable}
use Rattle.spv_table.specs.Values.{Outcome, is_same, listed_in, value, values}
use Rattle.spv_search_terms.specs.head_index.Chains.{head_of}
use Rattle.spv_models.specs.leaf_models.Subterms.{arguments, list_of}
use Rattle.spv_models.proofs.leaf_models.Comparisons.{same-refl, same-true}
use Rattle.spv_verdicts.specs.answers.Views.{pair_in, pairs_in}
use Rattle.spv_verdicts.proofs.candidate_models.Worths.{pair_in_here}
use Rattle.spv_verdicts.specs.declared.candidate_models.agreeing.Agreement.TheVariants as agreement
use Rattle.spv_verdicts.specs.candidate_models.Trying.{IsAgreement, AreKeys, AreNotApart, AreTruthful, AreWorth, Entry, IsApartFromNone, are_apart, entry_at, is_truthful, known_values, numbers_eq}

-- ---- two entries

pub left_agrees : (b c : Bool) → b ≡ true → (b && not c) ≡ false → c ≡ true
left_agrees true true e h = refl
left_agrees true false e h = sym h
left_agrees false c e h = absurd (false≢true e)

right_of : (b c : Bool) → b ≡ true → (b && c) ≡ false → c ≡ false
right_of true c e h = h
right_of false c e h = absurd (false≢true e)

not_apart : (a : Arena) (p q : Entry) → head_of (tree a p.0.0) ≡ head_of (tree a q.0.0) → numbers_eq p.1 q.1 ≡ true → are_apart a p q ≡ false → p.0.1 ≡ q.0.1
not_apart a p q heads keys apart =
    same-true p.0.1 q.0.1
    (left_agrees (numbers_eq p.1 q.1) (is_same p.0.1 q.0.1) keys
    (right_of (head_eq (head_of (tree a p.0.0)) (head_of (tree a q.0.0))) (numbers_eq p.1 q.1 && not (is_same p.0.1 q.0.1)) (ap (head_eq (head_of (tree a p.0.0))) (sym heads) ∙ head_eq-refl (head_of (tree a p.0.0))) apart))

-- ---- keys of equal values

equal_keys : (xs ys : List Fraction) → HaveEqualValues (known_values xs) (known_values ys) → numbers_eq xs ys ≡ true
equal_keys [] [] h = refl
equal_keys [] (y ∷ ys) h = absurd h
equal_keys (x ∷ xs) [] h = absurd h
equal_keys (x ∷ xs) (y ∷ ys) h = both_true (ap (is_same x) (sym h.0) ∙ same-refl x) (equal_keys xs ys h.1)

values-list : (listed : Term → Fraction) (ts : Terms) → values listed ts ≡ map (value listed) (list_of ts)
values-list listed no_terms = refl
values-list listed (terms t ts) = ap (λ os. value listed t ∷ os) (values-list listed ts)

abbrev equal_worth : (Term → Fraction) → Term → Term → Type 0
equal_worth listed t u = HaveEqualValues (map (value listed) (arguments t)) (map (value listed) (arguments u))

alike_parts : (a : Arena) (listed : Term → Fraction) (t u : Term) → IsAlike a.shapes a.decls listed t u → (head_of t ≡ head_of u) × equal_worth listed t u
alike_parts a listed (term h ts) (term k us) (heads, sorts, worth) = (
  heads,
  subst (λ (os : List Outcome). HaveEqualValues (map (value listed) (list_of ts)) os) (values-list listed us) (subst (λ (os : List Outcome). HaveEqualValues os (values listed us)) (values-list listed ts) worth),
)

keys_equal : (listed : Term → Fraction) (t u : Term) (xs ys : List Fraction) → AreWorth listed (arguments t) xs → AreWorth listed (arguments u) ys → equal_worth listed t u → numbers_eq xs ys ≡ true
keys_equal listed t u xs ys h k e =
    equal_keys xs ys (subst (λ (os : List Outcome). HaveEqualValues (known_values xs) os) k (subst (λ (os : List Outcome). HaveEqualValues os (map (value listed) (arguments u))) h e))

-- ---- places

-- an entry over trees is that of an id
record IsEntryOf (a : Arena) (pairs : List (TermId × Fraction)) (i : ℕ) (p : Term × Fraction) : Type 0 where
  id : TermId × Fraction
  there : slice_get pairs i ≡ Some id
  is : pair_in a id ≡ p

entry_of : (a : Arena) (pairs : List (TermId × Fraction)) (i : ℕ) (p : Term × Fraction) → slice_get (pairs_in a pairs) i ≡ Some p → IsEntryOf a pairs i p
entry_of a pairs i p e = by_option (slice_get pairs i) refl (sym (slice_get-map (pair_in a) pairs i) ∙ e)
  where
    by_option : (o : Option (TermId × Fraction)) → slice_get pairs i ≡ o → option_map (pair_in a) o ≡ Some p → IsEntryOf a pairs i p
    by_option None f g = absurd (cc)
    by_option (Some id) f g = record { id = id; there = f; is = same_Some (pair_in a id) p g }

module _ (a : Arena) (pairs : List (TermId × Fraction)) (keys : List (List Fraction)) (are : AreKeys a (listed_over a pairs) pairs keys) (apart : AreNotApart a pairs keys (length pairs)) where
  -- one entry before another
  ordered : (i j : ℕ) (p q : TermId × Fraction) → j < i → slice_get pairs i ≡ Some p → slice_get pairs j ≡ Some q → head_of (tree a p.0) ≡ head_of (tree a q.0) → equal_worth (listed_over a pairs) (tree a p.0) (tree a q.0) → p.1 ≡ q.1
  ordered i j p q before at there heads worth =
      let i_in = slice_get_within pairs i p at in
      let j_in = slice_get_within pairs j q there in
      let many = are.many in
      let i_key : slice_get keys i ≡ Some (get_or keys i []) = slice_get-get_or keys i [] (omega (arith, i_in, many)) in
      let j_key : slice_get keys j ≡ Some (get_or keys j []) = slice_get-get_or keys j [] (omega (arith, j_in, many)) in
      let same : numbers_eq (get_or keys i []) (get_or keys j []) ≡ true =
      keys_equal (listed_over a pairs) (tree a p.0) (tree a q.0) (get_or keys i []) (get_or keys j []) (are.each i p (get_or keys i []) at i_key) (are.each j q (get_or keys j []) there j_key) worth in
      not_apart a (p, get_or keys i []) (q, get_or keys j []) heads same
      (subst (λ (x : TermId × Fraction). are_apart a (x, get_or keys i []) (q, get_or keys j []) ≡ false) (get_or_from_slice_get pairs i p _ at)
      (subst (λ (x : TermId × Fraction). are_apart a (entry_at pairs keys i) (x, get_or keys j []) ≡ false) (get_or_from_slice_get pairs j q _ there) ((apart.each i i_in).each j before)))

  turned : (vs ws : List Outcome) → HaveEqualValues vs ws → HaveEqualValues ws vs
  turned [] [] h = tt
  turned [] (w ∷ ws) h = absurd h
  turned (Ok x ∷ vs) [] h = absurd h
  turned (Err x ∷ vs) [] h = absurd h
  turned (Ok x ∷ vs) (Ok y ∷ ws) h = (sym h.0, turned vs ws h.1)
  turned (Ok x ∷ vs) (Err y ∷ ws) h = absurd h
  turned (Err x ∷ vs) (w ∷ ws) h = absurd h

  agree : (i j : ℕ) (p q : TermId × Fraction) → slice_get pairs i ≡ Some p → slice_get pairs j ≡ Some q → head_of (tree a p.0) ≡ head_of (tree a q.0) → equal_worth (listed_over a pairs) (tree a p.0) (tree a q.0) → p.1 ≡ q.1
  agree i j p q at there heads worth = elim (cases_lt j i) [
    | inl before ↦ ordered i j p q before at there heads worth
    | inr behind ↦
        elim (cases_lt i j) [
          | inl after ↦
              sym (ordered j i q p after there at (sym heads)
              (turned (map (value (listed_over a pairs)) (arguments (tree a p.0))) (map (value (listed_over a pairs)) (arguments (tree a q.0))) worth))
          | inr other ↦
              let same : i ≡ j = omega (arith, behind, other) in
              ap (λ (x : TermId × Fraction). x.1) (same_Some p q (sym at ∙ (ap (slice_get pairs) same ∙ there)))
        ]
  ]

  alike : (i j : ℕ) (p q : Term × Fraction) → slice_get (pairs_in a pairs) i ≡ Some p → slice_get (pairs_in a pairs) j ≡ Some q → IsAlike a.shapes a.decls (listed_in (pairs_in a pairs)) p.0 q.0 → p.1 ≡ q.1
  alike i j p q at there h =
      let k = entry_of a pairs i p at in
      let l = entry_of a pairs j q there in
      let here : IsAlike a.shapes a.decls (listed_over a pairs) (tree a k.id.0) (tree a l.id.0) =
      subst (λ (x : Term × Fraction). IsAlike a.shapes a.decls (listed_over a pairs) (tree a k.id.0) x.0) (sym l.is) (subst (λ (x : Term × Fraction). IsAlike a.shapes a.decls (listed_over a pairs) x.0 q.0) (sym k.is) h) in
      let parts = alike_parts a (listed_over a pairs) (tree a k.id.0) (tree a l.id.0) here in
      ap (λ (x : Term × Fraction). x.1) (sym k.is) ∙ (agree i j k.id l.id k.there l.there parts.0 parts.1 ∙ ap (λ (x : Term × Fraction). x.1) l.is)

  module _ (truthful : AreTruthful a pairs (length pairs)) where
    truth_number : (b : Bool) (x : Fraction) → b ≡ true → (not b || (is_same x (whole (pos 0)) || is_same x (whole (pos 1)))) ≡ true → (x ≡ whole (pos 0)) ⊎ (x ≡ whole (pos 1))
    truth_number false x e h = absurd (false≢true e)
    truth_number true x e h = by_case (is_same x (whole (pos 0))) refl h
      where
        by_case : (c : Bool) → is_same x (whole (pos 0)) ≡ c → (c || is_same x (whole (pos 1))) ≡ true → (x ≡ whole (pos 0)) ⊎ (x ≡ whole (pos 1))
        by_case true f g = inl (same-true x (whole (pos 0)) f)
        by_case false f g = inr (same-true x (whole (pos 1)) g)

    truths : (i : ℕ) (p : Term × Fraction) → slice_get (pairs_in a pairs) i ≡ Some p → is_truth a.shapes a.decls p.0 ≡ true → (p.1 ≡ whole (pos 0)) ⊎ (p.1 ≡ whole (pos 1))
    truths i p at e =
        let k = entry_of a pairs i p at in
        subst (λ (x : Term × Fraction). (x.1 ≡ whole (pos 0)) ⊎ (x.1 ≡ whole (pos 1))) k.is
        (truth_number (is_truth a.shapes a.decls (tree a k.id.0)) k.id.1 (ap (λ (x : Term × Fraction). is_truth a.shapes a.decls x.0) k.is ∙ e) (truthful.each i k.id (slice_get_within pairs i k.id k.there) k.there))

    pub is_table : IsTable a.shapes a.decls (pairs_in a pairs)
    is_table = record { alike = alike; truths = truths }

-- ---- what is found

pub found_apart : (a : Arena) (values pairs : List (TermId × Fraction)) → pairs ≡ values → PairsIn a values → (i j : ℕ) (d e : TermId × Fraction) → (i < length pairs) × (j < length pairs)
    → IsAgreement a values (agreement.Apart (get_or pairs i d).0 (get_or pairs j e).0)
found_apart a values pairs same within i j d e h =
    let here : PairsIn a pairs = subst (PairsIn a) (sym same) within in
    (pair_in_here a pairs i d here h.0, pair_in_here a pairs j e here h.1)

pub found_whole : (a : Arena) (values pairs : List (TermId × Fraction)) (keys : List (List Fraction)) → pairs ≡ values → AreKeys a (listed_over a values) pairs keys → AreNotApart a pairs keys (length pairs) → AreTruthful a pairs (length pairs)
    → IsAgreement a values agreement.Whole
found_whole a values pairs keys same are apart truthful =
    subst (λ (ps : List (TermId × Fraction)). IsTable a.shapes a.decls (pairs_in a ps)) same
    (is_table a pairs keys (subst (λ (ps : List (TermId × Fraction)). AreKeys a (listed_over a ps) pairs keys) (sym same) are) apart truthful)
