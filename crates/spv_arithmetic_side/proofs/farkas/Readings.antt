-- What is told, as it is read, and where bounds come from.
use Rattle.std.proofs.Common.{◌≡◌, ℕ, zero, suc, Bool, true, false, cond, ◌&&◌, List, [], ◌++◌, pos, refl, sym, ap, ◌∙◌, Option, Some, None}
use Rattle.std.proofs.lemmas.Option.{same_Some}
use Rattle.std.specs.Prelude.{slice_get}
use Rattle.spv_tableau_rules.proofs.pivots.Tests.{and_left, and_right}
use Rattle.spv_frac.specs.rational.Rational.{Rational}
use Rattle.spv_logic.specs.declared.operators.Head.{Head}
use Rattle.spv_logic.specs.declared.operators.Head.TheVariants.{Eq, Lt, Le}
use Rattle.spv_logic.specs.Terms.{Term, Terms, term, no_terms, terms}
use Rattle.spv_term.specs.Arena.{Arena}
use Rattle.spv_atoms.specs.Linear.{IdForm}
use Rattle.spv_proof_rules.specs.Sums.{Reading, pair, difference, is_at_most_zero, reading, read_cited, cited_reading}
use Rattle.spv_proof_rules.specs.Effects.{numbered}
use Rattle.spv_tableau_rules.specs.declared.tableaux.side.Side.{Side}
use Rattle.spv_tableau_rules.specs.tableaux.Bounds.{Bound, bound_on}
use Rattle.spv_derivations.specs.declared.derivation.entries.Part.{Part}
use Rattle.spv_derivations.specs.declared.derivation.entries.Part.TheVariants as part
use Rattle.spv_derivations.specs.declared.derivation.entries.Entry.{Entry}
use Rattle.spv_derivations.specs.derivation.Derivation.{literal, facts, fact_at}
use Rattle.spv_derivations.specs.derivation.Derived.{is_number}
use Rattle.spv_derivations.proofs.derivation.Growth.{facts_from-append, facts_from-keeps}
use Rattle.spv_tableau_rules.specs.declared.constraints.saying.RowConstraint.{RowConstraint}
use Rattle.spv_tableau_rules.specs.declared.constraints.saying.RowConstraint.TheVariants.{Below, Above}
use Rattle.spv_tableau_rules.specs.constraints.Sayings.{reading_of, says_equal, bounds_of}
use Rattle.spv_tableau_rules.specs.constraints.Relations.{if_numbers, number_sides, IsRowOf}
use Rattle.spv_tableau_rules.specs.constraints.Sources.{fact_reading, Sources, IsSourced, AreSourced}
use Rattle.spv_tableau_rules.proofs.constraints.Literals.{literal_read, below_read, above_read}
use Rattle.spv_tableau_rules.proofs.constraints.Sourcing.{kept_sourced}
use Rattle.spv_arithmetic_side.specs.farkas.Told.{told, told_of}

-- ---- relations by their sides

-- a list of these two terms, both of which are numbers
record AreSides (is_number : Term → Bool) (ts : Terms) (s u : Term) : Type 0 where
  are : ts ≡ terms s (terms u no_terms)
  left : is_number s ≡ true
  right : is_number u ≡ true

abbrev two : Term → Term → Term × Term
two x y = (x, y)

sides_in : (is_number : Term → Bool) (ts : Terms) (s u : Term) → if_numbers is_number (pair ts) ≡ Some (s, u) → AreSides is_number ts s u
sides_in is_number (terms x (terms y no_terms)) s u e = by_case (is_number x && is_number y) refl e
  where
    by_case : (b : Bool) → (is_number x && is_number y) ≡ b → cond b (Some (two x y)) None ≡ Some (two s u) → AreSides is_number (terms x (terms y no_terms)) s u
    by_case false f e = absurd (cc)
    by_case true f e =
        let same : two x y ≡ two s u = same_Some (two x y) (two s u) e in
        let left_is : x ≡ s = ap (λ (q : Term × Term). q.0) same in
        let right_is : y ≡ u = ap (λ (q : Term × Term). q.1) same in
        record {
          are = ap (λ z. terms z (terms y no_terms)) left_is ∙ ap (λ z. terms s (terms z no_terms)) right_is;
          left = ap is_number (sym left_is) ∙ and_left (is_number x) (is_number y) f;
          right = ap is_number (sym right_is) ∙ and_right (is_number x) (is_number y) f;
        }
sides_in is_number ts s u e = absurd (cc)

-- ---- what is told

module _ (is_number : Term → Bool) (s u : Term) (p : Part) (x : RowConstraint) where
  abbrev relation : Head → Term
  relation h = term h (terms s (terms u no_terms))

  told_read : (h : Head) → is_number s ≡ true → is_number u ≡ true → (q : Part) → told h q ≡ Some x → reading is_number (literal (relation h) q) ≡ reading_of x s u
  told_read h hs hu part.True e = literal_read is_number s u hs hu h true x e
  told_read h hs hu part.False e = literal_read is_number s u hs hu h false x e
  told_read Eq hs hu part.Below e = below_read is_number s u hs hu ∙ ap (λ y. reading_of y s u) (same_Some Below x e)
  told_read Eq hs hu part.Above e = above_read is_number s u hs hu ∙ ap (λ y. reading_of y s u) (same_Some Above x e)
  told_read h hs hu q e = absurd (cc)

  with_sides : (h : Head) (ts : Terms) → if_numbers is_number (pair ts) ≡ Some (s, u) → told h p ≡ Some x → reading is_number (literal (term h ts) p) ≡ reading_of x s u
  with_sides h ts e t =
      let sides = sides_in is_number ts s u e in
      ap (λ k. reading is_number (literal (term h k) p)) sides.are ∙ told_read h sides.left sides.right p t

  pub told_is_read : (t : Term) → number_sides is_number t ≡ Some (s, u) → told_of t p ≡ Some x → reading is_number (literal t p) ≡ reading_of x s u
  told_is_read (term Eq ts) e t = with_sides Eq ts e t
  told_is_read (term Lt ts) e t = with_sides Lt ts e t
  told_is_read (term Le ts) e t = with_sides Le ts e t
  told_is_read (term h ts) e t = absurd (cc)

-- ---- facts of a derivation

fact_read : (is_number : Term → Bool) (fs : List Term) (k : ℕ) (t : Term) → numbered fs k ≡ Some t → fact_reading is_number fs k ≡ reading is_number t
fact_read is_number fs zero t e = absurd (cc)
fact_read is_number fs (suc k) t e = ap (read_cited is_number) e

pub told_is_sourced : (a : Arena) (es : List Entry) (t s u : Term) (p : Part) (x : RowConstraint) → number_sides (is_number a) t ≡ Some (s, u) → told_of t p ≡ Some x
    → (k : ℕ) → fact_at a es k ≡ Some (literal t p) → (i : ℕ) (f : IdForm) → IsRowOf a (s, u) f → (side : Side) (value : Rational) → bound_on (bounds_of i f.constant x) i side ≡ Some value
    → IsSourced a (fact_reading (is_number a) (facts a es)) i f side value (record { fact = k; is_equal = says_equal x })
told_is_sourced a es t s u p x sides says k fact i f row side value bound = record {
  left = s;
  right = u;
  saying = x;
  row = row;
  bound = bound;
  read = fact_read (is_number a) (facts a es) k (literal t p) fact ∙ told_is_read (is_number a) s u p x t sides says;
  equal = refl;
}

-- a fact stays where the derivation goes on
stays : (a : Arena) (es more : List Entry) (k : ℕ) (t : Term) → numbered (facts a es) k ≡ Some t → numbered (facts a (es ++ more)) k ≡ Some t
stays a es more k t e = ap (λ fs. numbered fs k) (facts_from-append a [] es more) ∙ facts_from-keeps a (facts a es) more k t e

pub sourced_stays : (a : Arena) (es more : List Entry) (forms : List IdForm) (bounds : List Bound) (sources : Sources) → AreSourced a (fact_reading (is_number a) (facts a es)) forms bounds sources
    → AreSourced a (fact_reading (is_number a) (facts a (es ++ more))) forms bounds sources
sourced_stays a es more forms bounds sources are = kept_sourced a (fact_reading (is_number a) (facts a es)) (fact_reading (is_number a) (facts a (es ++ more))) kept forms bounds sources are
  where
    by_fact : (k : ℕ) (r : Reading) (o : Option Term) → slice_get (facts a es) k ≡ o → read_cited (is_number a) o ≡ Some r → fact_reading (is_number a) (facts a (es ++ more)) (suc k) ≡ Some r
    by_fact k r None e h = absurd (cc)
    by_fact k r (Some t) e h = ap (read_cited (is_number a)) (stays a es more (suc k) t e) ∙ h

    kept : (k : ℕ) (r : Reading) → fact_reading (is_number a) (facts a es) k ≡ Some r → fact_reading (is_number a) (facts a (es ++ more)) k ≡ Some r
    kept zero r h = absurd (cc)
    kept (suc k) r h = by_fact k r (slice_get (facts a es) k) refl h

-- ---- what a step supposes

pub above_is_sourced : (is_number : Term → Bool) (a : Arena) (facts : List Term) (s t : Term) (i : ℕ) (f : IdForm) → IsRowOf a (s, t) f → (side : Side) (value : Rational)
    → bound_on (bounds_of i f.constant Above) i side ≡ Some value
    → IsSourced a (cited_reading is_number facts (is_at_most_zero (difference t s (pos 1)))) i f side value (record { fact = 0; is_equal = false })
above_is_sourced is_number a facts s t i f row side value bound = record { left = s; right = t; saying = Above; row = row; bound = bound; read = refl; equal = refl }

pub below_is_sourced : (is_number : Term → Bool) (a : Arena) (facts : List Term) (s t : Term) (i : ℕ) (f : IdForm) → IsRowOf a (s, t) f → (side : Side) (value : Rational)
    → bound_on (bounds_of i f.constant Below) i side ≡ Some value
    → IsSourced a (cited_reading is_number facts (is_at_most_zero (difference s t (pos 1)))) i f side value (record { fact = 0; is_equal = false })
below_is_sourced is_number a facts s t i f row side value bound = record { left = s; right = t; saying = Below; row = row; bound = bound; read = refl; equal = refl }
