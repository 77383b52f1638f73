-- Sums of multiples of what cited numbers stand for.
use Rattle.std.proofs.Common.{◌≡◌, ℕ, suc, ◌+◌, ◌<◌, ◌≤◌, Bool, true, false, cond, ◌&&◌, ◌||◌, List, [], ◌∷◌, map, length, drop, get_or, ℤ, pos, nat_eq, refl, sym, ap, ◌∙◌, subst, Option, Some, None, IfSome, arith}
use Rattle.std.proofs.lemmas.Bool.Decides.{nat_tests}
use Rattle.std.proofs.lemmas.List.{drop_more, drop_all}
use Rattle.std.specs.Option.{option_map}
use Rattle.std.specs.List.{list_all}
use Rattle.std.specs.Map.{values_of}
use Rattle.std.specs.Ordering.{int_eq}
use Rattle.std.specs.Int.RustNames.{int_lt}
use Rattle.spv_whole.specs.Fraction.{Fraction, IsLowest, whole}
use Rattle.spv_frac.specs.rational.Rational.{Rational, number, is_positive}
use Rattle.spv_frac.specs.rational.Rational as rational
use Rattle.spv_frac.proofs.rational.Field.{number_is}
use Rattle.spv_logic.specs.declared.conditions.TermId.{TermId}
use Rattle.spv_logic.specs.declared.operators.Head.TheVariants.{Num, Sub}
use Rattle.spv_logic.specs.Terms.{Term, term, no_terms, terms, term_eq}
use Rattle.spv_term.specs.Arena.{Arena, IsArena, tree, trees_of}
use Rattle.spv_atoms.specs.Forms.{Form}
use Rattle.spv_atoms.specs.Linear.{IdForm, IsIdForm, ArePartsFrom, PartsIn, over_trees, form_over}
use Rattle.spv_atoms.proofs.Coefficients.{has_part, AreDifferent, form-different}
use Rattle.spv_atoms.proofs.Walks.{term_eq-ids}
use Rattle.spv_proof_rules.specs.Sums.{Combination, nothing, difference, add_form, may_multiply, add_reading, then_add, sum_of, shows_above_zero, refutes}
use Rattle.spv_proof_rules.specs.Stops.{Halt, Source, Partial, empty, Tally, Stands, Ended, Halted, then_tally, in_order, add_multiple, add_source, add_all, denied, halt_of}
use Rattle.spv_proof_rules.specs.Stops as stops
use Rattle.spv_proof.specs.declared.sums.fault.SumFault.{SumFault}
use Rattle.spv_proof.specs.declared.sums.fault.SumFault.TheVariants as fault
use Rattle.spv_proof.specs.declared.sums.reading.Claim.{Claim}
use Rattle.spv_proof.specs.declared.sums.reading.Cited.{Cited}
use Rattle.spv_proof.specs.sums.Differences.{more, IsMeasureOf}
use Rattle.spv_proof.specs.sums.Readings.{number_in, halt_in, reading_in, source_in, source_of, reading_of, denial}
use Rattle.spv_proof.specs.sums.Partials.{IdSum, sum_over, FactorsIn, IsExact, is_above_zero, factors_over}
use Rattle.spv_proof.specs.sums.Added.{FaultIn, fault_halt, add_ordered, AddsForm, StopsForm, IsAdded, IsSummed, StopsAt, StopsSum}
use Rattle.spv_proof.proofs.sums.Ordered.{ordered-over}
use Rattle.spv_proof.proofs.sums.Relations.{reading-source}
use Rattle.spv_proof.proofs.sums.Exact.{exact-added, exact-zeros}
use Rattle.spv_proof.proofs.sums.Tallies.{halts-too}

-- ---- the parts of a form over ids have different terms

not-listed : (a : Arena) → IsArena a → (low : ℕ) (parts : List (TermId × ℤ)) (t : TermId) → ArePartsFrom low parts → PartsIn a parts → t.0 < length a.nodes → t.0 < low → has_part (over_trees a parts) (tree a t) ≡ false
not-listed a ok low [] t h i k l = refl
not-listed a ok low (p ∷ parts) t h i k l =
    let o = h.0.order in
    both_false (term_eq (tree a p.0) (tree a t)) (has_part (over_trees a parts) (tree a t))
    (sym (term_eq-ids a ok p.0 t i.0 k) ∙ differ p.0.0 t.0 (omega (arith, o, l)))
    (not-listed a ok (suc p.0.0) parts t h.1 i.1 k (omega (arith, o, l)))
  where
    differ : (n m : ℕ) → m < n → nat_eq n m ≡ false
    differ n m h = grind (arith, nat_tests)

    both_false : (b c : Bool) → b ≡ false → c ≡ false → (b || c) ≡ false
    both_false true c h k = h
    both_false false c h k = k

over-different : (a : Arena) → IsArena a → (low : ℕ) (parts : List (TermId × ℤ)) → ArePartsFrom low parts → PartsIn a parts → AreDifferent (over_trees a parts)
over-different a ok low [] h i = tt
over-different a ok low (p ∷ parts) h i = (not-listed a ok (suc p.0.0) parts p.0 h.1 i.1 i.0 (omega arith), over-different a ok (suc p.0.0) parts h.1 i.1)

-- ---- one multiple

module _ (a : Arena) (ok : IsArena a) (facts : List TermId) (c : Claim) (m : Fraction) (lowest : IsLowest m) (k : ℕ) (old : IdSum) where
  any : Term
  any = term (Num (pos 0)) no_terms

  read : (o : Option Source) → source_of a facts c 0 any k ≡ o → reading_of a facts c k ≡ option_map (λ (s : Source). s.reading) o
  read o e =
      reading-source (number_in a) (trees_of a.nodes) (map (tree a) facts) (denied 0 (trees_of a.nodes) any (tree a c.left) (tree a c.right)) k ∙ ap (option_map (λ (s : Source). s.reading)) e

  -- nothing is read
  pub nothing_added : ((most : ℕ) (shown : Term) → None ≡ source_of a facts c most shown k) → FactorsIn a old.parts → IsAdded a facts c m k old old false
  nothing_added none i = record {
    tally = λ most shown. ap (λ o. add_source (trees_of a.nodes) m o (sum_over a old)) (sym (none most shown));
    exact = λ d e. ap (λ o. add_reading (number m) o d) (read None (sym (none 0 any)));
    in_range = i;
  }

  module _ (s : Cited) (found : (most : ℕ) (shown : Term) → Some (source_in a most shown s) ≡ source_of a facts c most shown k) where
    abbrev x : Term
    x = tree a s.left

    abbrev y : Term
    y = tree a s.right

    abbrev exact_form : Form
    exact_form = difference x y (more s.is_above)

    -- what comes of it, by whether it may be multiplied and whether it fits
    abbrev comes : Bool → Bool → ℕ → Term → Tally Partial
    comes may fits most shown = cond may (cond fits (add_multiple (trees_of a.nodes) m exact_form (sum_over a old)) (Halted (halt_in a most shown s.relation))) Ended

    here : (most : ℕ) (shown : Term)
        → add_source (trees_of a.nodes) m (source_of a facts c most shown k) (sum_over a old) ≡ comes (may_multiply (number m) (reading_in a s)) (stops.is_measured x y (more s.is_above)) most shown
    here most shown = ap (λ o. add_source (trees_of a.nodes) m o (sum_over a old)) (sym (found most shown))

    exactly : (d : Combination) → add_reading (number m) (reading_of a facts c k) d ≡ cond (may_multiply (number m) (reading_in a s)) (Some (add_form (number m) exact_form d)) None
    exactly d = ap (λ o. add_reading (number m) o d) (read (Some (source_in a 0 any s)) (sym (found 0 any)))

    pub not_multiplied : may_multiply (number m) (reading_in a s) ≡ false → FactorsIn a old.parts → IsAdded a facts c m k old old false
    not_multiplied no_more i = record {
      tally = λ most shown. here most shown ∙ ap (λ b. comes b (stops.is_measured x y (more s.is_above)) most shown) no_more;
      exact = λ d e. exactly d ∙ ap (λ b. cond b (Some (add_form (number m) exact_form d)) None) no_more;
      in_range = i;
    }

    module _ (may : may_multiply (number m) (reading_in a s) ≡ true) where
      -- the form does not fit
      pub too_wide_halts : (e : SumFault) → stops.is_measured x y (more s.is_above) ≡ false → ((most : ℕ) (shown : Term) → fault_halt a most shown e ≡ Some (halt_in a most shown s.relation))
          → FaultIn a e → StopsAt a facts c m k old e
      too_wide_halts e wide halt i = record {
        told = λ most shown.
            subst (λ (o : Option Halt). IfSome o (λ h. add_source (trees_of a.nodes) m (source_of a facts c most shown k) (sum_over a old) ≡ Halted h)) (sym (halt most shown))
            (here most shown ∙ (ap (λ b. comes b (stops.is_measured x y (more s.is_above)) most shown) may ∙ ap (λ b. comes true b most shown) wide));
        in_range = i;
      }

      module _ (f : IdForm) (form : IsIdForm f) (measure : IsMeasureOf a x y s.is_above f) where
        ordered : in_order exact_form.parts (trees_of a.nodes) ≡ over_trees a f.parts
        ordered = ordered-over a ok f.parts exact_form.parts form.parts measure.over.in_range measure.over.same.parts

        added_as : add_multiple (trees_of a.nodes) m exact_form (sum_over a old) ≡ add_ordered (trees_of a.nodes) m (form_over a f) (sum_over a old)
        added_as =
            ap (λ ps. add_ordered (trees_of a.nodes) m (record { parts = ps; constant = exact_form.constant }) (sum_over a old)) ordered
            ∙ ap (λ z. add_ordered (trees_of a.nodes) m (record { parts = over_trees a f.parts; constant = z }) (sum_over a old)) (sym measure.over.same.constant)

        becomes : (most : ℕ) (shown : Term) → add_source (trees_of a.nodes) m (source_of a facts c most shown k) (sum_over a old) ≡ add_ordered (trees_of a.nodes) m (form_over a f) (sum_over a old)
        becomes most shown =
            here most shown ∙ (ap (λ b. comes b (stops.is_measured x y (more s.is_above)) most shown) may ∙ (ap (λ b. comes true b most shown) measure.fits ∙ added_as))

        pub multiple_stops : (e : SumFault) → FactorsIn a old.parts → StopsForm m f old e → StopsAt a facts c m k old e
        multiple_stops e i s =
            halts-too a e (λ most shown. add_ordered (trees_of a.nodes) m (form_over a f) (sum_over a old)) (λ most shown. add_source (trees_of a.nodes) m (source_of a facts c most shown k) (sum_over a old))
            (λ most shown h g. becomes most shown ∙ g) (s.halt a ok measure.over.in_range i)

        pub multiple_added : (new : IdSum) → FactorsIn a old.parts → AddsForm m f old new → IsAdded a facts c m k old new true
        multiple_added new i adds = record {
          tally = λ most shown. becomes most shown ∙ stands;
          exact = λ d e. (
            add_form (number m) exact_form d,
            exactly d ∙ ap (λ b. cond b (Some (add_form (number m) exact_form d)) None) may,
            exact-added (trees_of a.nodes) (number m) (form_over a f) exact_form (sum_over a old) (sum_over a new) d
                (over-different a ok 0 f.parts form.parts measure.over.in_range) (form-different (term Sub (terms x (terms y no_terms))))
                measure.over.same.parts measure.over.same.constant e
                (ap (λ n. add_ordered (trees_of a.nodes) n (form_over a f) (sum_over a old)) (number_is m lowest) ∙ stands),
          );
          in_range = adds.in_range a measure.over.in_range i;
        }
          where
            stands : add_ordered (trees_of a.nodes) m (form_over a f) (sum_over a old) ≡ Stands (sum_over a new)
            stands = adds.tally a ok measure.over.in_range i

-- ---- all multiples

-- the sum so far, and the multiples that are still to come
pub record Summing (a : Arena) (facts : List TermId) (c : Claim) (multiples rest : List (Fraction × ℕ)) (now : IdSum) : Type 0 where
  pub in_range : FactorsIn a now.parts
  pub tally : (most : ℕ) (shown : Term) → add_all (trees_of a.nodes) (source_of a facts c most shown) rest (sum_over a now) ≡ add_all (trees_of a.nodes) (source_of a facts c most shown) multiples empty
  pub combination : Combination
  pub is_exact : IsExact (sum_over a now) combination
  pub exact : sum_of (number_in a) (map (tree a) facts) (denial a c) rest combination ≡ sum_of (number_in a) (map (tree a) facts) (denial a c) multiples nothing

pub summing_starts : (a : Arena) (facts : List TermId) (c : Claim) (multiples : List (Fraction × ℕ)) (now : IdSum) → now ≡ record { parts = []; constant = whole (pos 0) } → Summing a facts c multiples multiples now
summing_starts a facts c multiples now is = subst (λ (s : IdSum). Summing a facts c multiples multiples s) (sym is) (record {
  in_range = tt;
  tally = λ most shown. refl;
  combination = nothing;
  is_exact = record { factors = λ x. refl; constant = refl; once = tt; exact_once = tt };
  exact = refl;
})

module _ (a : Arena) (facts : List TermId) (c : Claim) (multiples rest : List (Fraction × ℕ)) (now : IdSum) (p : Fraction × ℕ) (s : Summing a facts c multiples (p ∷ rest) now) where
  first : (most : ℕ) (shown : Term) → then_tally (add_source (trees_of a.nodes) p.0 (source_of a facts c most shown p.1) (sum_over a now)) (λ r. add_all (trees_of a.nodes) (source_of a facts c most shown) rest r)
      ≡ add_all (trees_of a.nodes) (source_of a facts c most shown) multiples empty
  first most shown = s.tally most shown

  summing_step : (new : IdSum) → IsAdded a facts c p.0 p.1 now new true → Summing a facts c multiples rest new
  summing_step new added =
      let e = added.exact s.combination s.is_exact in
      record {
        in_range = added.in_range;
        tally = λ most shown. ap (λ t. then_tally t (λ r. add_all (trees_of a.nodes) (source_of a facts c most shown) rest r)) (sym (added.tally most shown)) ∙ first most shown;
        combination = e.0;
        is_exact = e.2;
        exact = ap (λ o. then_add o (sum_of (number_in a) (map (tree a) facts) (denial a c) rest)) (sym e.1) ∙ s.exact;
      }

  summing_fails : (new : IdSum) → IsAdded a facts c p.0 p.1 now new false → IsSummed a facts c multiples None
  summing_fails new added = record {
    tally = λ most shown. sym (ap (λ t. then_tally t (λ r. add_all (trees_of a.nodes) (source_of a facts c most shown) rest r)) (sym (added.tally most shown)) ∙ first most shown);
    exact = sym (ap (λ o. then_add o (sum_of (number_in a) (map (tree a) facts) (denial a c) rest)) (sym (added.exact s.combination s.is_exact)) ∙ s.exact);
  }

  summing_stops : (e : SumFault) → StopsAt a facts c p.0 p.1 now e → StopsSum a facts c multiples e
  summing_stops e halts =
      halts-too a e (λ most shown. add_source (trees_of a.nodes) p.0 (source_of a facts c most shown p.1) (sum_over a now)) (λ most shown. add_all (trees_of a.nodes) (source_of a facts c most shown) multiples empty)
      (λ most shown h g. sym (first most shown) ∙ ap (λ t. then_tally t (λ r. add_all (trees_of a.nodes) (source_of a facts c most shown) rest r)) g) halts

pub summing_ends : (a : Arena) (facts : List TermId) (c : Claim) (multiples : List (Fraction × ℕ)) (now : IdSum) → Summing a facts c multiples [] now → IsSummed a facts c multiples (Some now)
summing_ends a facts c multiples now s = record { tally = λ most shown. sym (s.tally most shown); exact = (s.combination, sym s.exact, s.is_exact) }

-- ---- turns of the loop over the multiples

module _ (a : Arena) (facts : List TermId) (c : Claim) (multiples : List (Fraction × ℕ)) (now : IdSum) (at : ℕ) (p : Fraction × ℕ) (below : at < length multiples) (is : p ≡ get_or multiples at p)
    (s : Summing a facts c multiples (drop at multiples) now) where
  summing_here : Summing a facts c multiples (p ∷ drop (at + 1) multiples) now
  summing_here = subst (λ (ps : List (Fraction × ℕ)). Summing a facts c multiples ps now) (drop_more multiples at p below ∙ ap (λ q. q ∷ drop (at + 1) multiples) (sym is)) s

  pub summing_turn : (new : IdSum) (b : Bool) → IsAdded a facts c p.0 p.1 now new b → b ≡ true → Summing a facts c multiples (drop (at + 1) multiples) new
  summing_turn new b added e = summing_step a facts c multiples (drop (at + 1) multiples) now p summing_here new (subst (λ b. IsAdded a facts c p.0 p.1 now new b) e added)

  pub summing_turn_fails : (new : IdSum) (b : Bool) → IsAdded a facts c p.0 p.1 now new b → b ≡ false → IsSummed a facts c multiples None
  summing_turn_fails new b added e = summing_fails a facts c multiples (drop (at + 1) multiples) now p summing_here new (subst (λ b. IsAdded a facts c p.0 p.1 now new b) e added)

  pub summing_turn_stops : (e : SumFault) → StopsAt a facts c p.0 p.1 now e → StopsSum a facts c multiples e
  summing_turn_stops e halts = summing_stops a facts c multiples (drop (at + 1) multiples) now p summing_here e halts

pub summing_done : (a : Arena) (facts : List TermId) (c : Claim) (multiples : List (Fraction × ℕ)) (now : IdSum) (at : ℕ) → length multiples ≤ at → Summing a facts c multiples (drop at multiples) now
    → IsSummed a facts c multiples (Some now)
summing_done a facts c multiples now at h s = summing_ends a facts c multiples now (subst (λ (ps : List (Fraction × ℕ)). Summing a facts c multiples ps now) (drop_all at multiples h) s)

-- ---- whether a sum shows a claim

values-over : (a : Arena) (parts : List (TermId × Fraction)) → list_all (λ (f : Fraction). int_eq f.num (pos 0)) (values_of parts) ≡ list_all (λ (p : Term × Fraction). int_eq p.1.num (pos 0)) (factors_over a parts)
values-over a [] = refl
values-over a (p ∷ parts) = ap (λ b. int_eq p.1.num (pos 0) && b) (values-over a parts)

pub sum_shows : (a : Arena) (facts : List TermId) (c : Claim) (multiples : List (Fraction × ℕ)) (s : IdSum) → IsSummed a facts c multiples (Some s)
    → is_above_zero s ≡ refutes (number_in a) (map (tree a) facts) (tree a c.left) (tree a c.right) multiples
sum_shows a facts c multiples s summed =
    let d = summed.exact in
    ap (λ b. b && int_lt (pos 0) s.constant.num) (values-over a s.parts ∙ exact-zeros (sum_over a s) d.0 d.2)
    ∙ (ap (λ (f : Fraction). list_all (λ (p : Term × Rational). rational.is_zero p.1) d.0.parts && int_lt (pos 0) f.num) d.2.constant ∙ ap shows_above_zero (sym d.1))

pub unstopped : (a : Arena) (facts : List TermId) (c : Claim) (multiples : List (Fraction × ℕ)) (s : Option IdSum) → IsSummed a facts c multiples s → (most : ℕ) (shown : Term)
    → stops.halt_in (number_in a) most (trees_of a.nodes) (map (tree a) facts) shown (tree a c.left) (tree a c.right) multiples ≡ None
unstopped a facts c multiples None summed most shown = ap halt_of (summed.tally most shown)
unstopped a facts c multiples (Some s) summed most shown = ap halt_of (summed.tally most shown)

pub stopped : (a : Arena) (facts : List TermId) (c : Claim) (multiples : List (Fraction × ℕ)) (e : SumFault) → StopsSum a facts c multiples e → (most : ℕ) (shown : Term)
    → IfSome (fault_halt a most shown e) (λ h. stops.halt_in (number_in a) most (trees_of a.nodes) (map (tree a) facts) shown (tree a c.left) (tree a c.right) multiples ≡ Some h)
stopped a facts c multiples (fault.Wide op x y) s most shown = ap halt_of (s.told most shown)
stopped a facts c multiples (fault.Form t) s most shown = ap halt_of (s.told most shown)
stopped a facts c multiples fault.Shown s most shown = ap halt_of (s.told most shown)
stopped a facts c multiples fault.Memory s most shown = tt

-- ---- what was found

pub summed_some : (a : Arena) (facts : List TermId) (c : Claim) (multiples : List (Fraction × ℕ)) (o : Option IdSum) (s : IdSum) → IsSummed a facts c multiples o → o ≡ Some s → IsSummed a facts c multiples (Some s)
summed_some a facts c multiples o s h e = subst (IsSummed a facts c multiples) e h

pub summed_none : (a : Arena) (facts : List TermId) (c : Claim) (multiples : List (Fraction × ℕ)) (o : Option IdSum) → IsSummed a facts c multiples o → o ≡ None → IsSummed a facts c multiples None
summed_none a facts c multiples o h e = subst (IsSummed a facts c multiples) e h
