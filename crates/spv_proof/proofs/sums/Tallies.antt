-- Sums that are made number by number, as the definition makes them.
use Rattle.std.proofs.Common.{◌≡◌, ℕ, ◌+◌, ◌<◌, ◌≤◌, true, List, [], ◌∷◌, length, drop, get_or, ℤ, refl, sym, ap, ◌∙◌, subst, Result, Ok, Err, IfErr}
use mathlib.Core.Path.{ap₂}
use mir.Val.{to_z, of_z}
use mir.Syntax.{w128}
use Rattle.std.specs.Result.{IsErrAnd}
use Rattle.std.proofs.lemmas.List.{drop_more, drop_all}
use Rattle.spv_whole.specs.Fraction.{Fraction}
use Rattle.spv_frac.specs.Range.{fits}
use Rattle.spv_logic.specs.declared.conditions.TermId.{TermId}
use Rattle.spv_logic.specs.Terms.{Term}
use Rattle.spv_term.specs.Arena.{Arena, IsArena, tree, trees_of}
use Rattle.spv_atoms.specs.Linear.{IdForm, ArePartsFrom, PartsIn, over_trees, form_over}
use Rattle.spv_atoms.proofs.Sums.{narrow}
use Rattle.spv_proof_rules.specs.Stops.{Halt, Tally, Stands, Halted, then_tally, add_number, with_factor, with_constant, add_parts}
use Rattle.spv_proof.specs.declared.sums.fault.SumFault.{SumFault}
use Rattle.spv_proof.specs.declared.sums.fault.SumFault.TheVariants as fault
use Rattle.spv_proof.specs.sums.Partials.{IdSum, factor_at, with_factor_at, sum_over, FactorsIn}
use Rattle.spv_proof.specs.sums.Added.{HaltsAs, add_ordered, AddsParts, StopsParts, AddsForm, StopsForm}
use Rattle.spv_proof.proofs.sums.Factors.{factor-over, sum-with, with-factor-in}

-- ---- faults

-- what halts a tally halts what follows from it
pub halts-too : {S T : Type 0} (a : Arena) (e : SumFault) (t : ℕ → Term → Tally S) (u : ℕ → Term → Tally T) → ((most : ℕ) (shown : Term) (h : Halt) → t most shown ≡ Halted h → u most shown ≡ Halted h)
    → HaltsAs a e t → HaltsAs a e u
halts-too a (fault.Wide op x y) t u way h = record { told = λ most shown. way most shown _ (h.told most shown); in_range = h.in_range }
halts-too a (fault.Form r) t u way h = record { told = λ most shown. way most shown _ (h.told most shown); in_range = h.in_range }
halts-too a fault.Shown t u way h = record { told = λ most shown. way most shown _ (h.told most shown); in_range = h.in_range }
halts-too a fault.Memory t u way h = record { told = λ most shown. tt; in_range = tt }

-- ---- parts

-- the parts so far, and those that are still to come
pub record AddingParts (m : Fraction) (parts rest : List (TermId × ℤ)) (start now : IdSum) : Type 0 where
  pub low : ℕ
  pub rest_from : ArePartsFrom low rest
  pub rest_in : (a : Arena) → PartsIn a parts → PartsIn a rest
  pub in_range : (a : Arena) → PartsIn a parts → FactorsIn a start.parts → FactorsIn a now.parts
  pub same : (a : Arena) → IsArena a → PartsIn a parts → FactorsIn a start.parts
      → add_parts (trees_of a.nodes) m (over_trees a rest) (sum_over a now) ≡ add_parts (trees_of a.nodes) m (over_trees a parts) (sum_over a start)

pub adding_starts : (m : Fraction) (parts : List (TermId × ℤ)) (start : IdSum) → ArePartsFrom 0 parts → AddingParts m parts parts start start
adding_starts m parts start h = record { low = 0; rest_from = h; rest_in = λ a i. i; in_range = λ a i f. f; same = λ a ok i f. refl }

module _ (m : Fraction) (parts rest : List (TermId × ℤ)) (start now : IdSum) (p : TermId × ℤ) (s : AddingParts m parts (p ∷ rest) start now) where
  -- the next number stands on what the sum has for its term
  next : (a : Arena) → IsArena a → PartsIn a parts → FactorsIn a start.parts
      → then_tally (add_number (trees_of a.nodes) m (factor_at now.parts p.0) p.1) (λ f. add_parts (trees_of a.nodes) m (over_trees a rest) (with_factor (sum_over a now) (tree a p.0) f))
      ≡ add_parts (trees_of a.nodes) m (over_trees a parts) (sum_over a start)
  next a ok i k =
      ap (λ f. then_tally (add_number (trees_of a.nodes) m f p.1) (λ f. add_parts (trees_of a.nodes) m (over_trees a rest) (with_factor (sum_over a now) (tree a p.0) f)))
      (sym (factor-over a ok now.parts p.0 (s.in_range a i k) (s.rest_in a i).0))
      ∙ s.same a ok i k

  pub adding_step : (f : Fraction) (new : IdSum) → ((known : List Term) → add_number known m (factor_at now.parts p.0) p.1 ≡ Stands f) → new ≡ with_factor_at now p.0 f → AddingParts m parts rest start new
  adding_step f new stands is = subst (λ (n : IdSum). AddingParts m parts rest start n) (sym is) (record {
    low = _;
    rest_from = s.rest_from.1;
    rest_in = λ a i. (s.rest_in a i).1;
    in_range = λ a i k. with-factor-in a now p.0 f (s.in_range a i k) (s.rest_in a i).0;
    same = λ a ok i k.
        ap (add_parts (trees_of a.nodes) m (over_trees a rest)) (sym (sum-with a ok now p.0 f (s.in_range a i k) (s.rest_in a i).0))
        ∙ (ap (λ t. then_tally t (λ f. add_parts (trees_of a.nodes) m (over_trees a rest) (with_factor (sum_over a now) (tree a p.0) f))) (sym (stands (trees_of a.nodes))) ∙ next a ok i k);
  })

  pub adding_stops : (e : SumFault) → ((a : Arena) → HaltsAs a e (λ most shown. add_number (trees_of a.nodes) m (factor_at now.parts p.0) p.1)) → StopsParts m parts start e
  adding_stops e halts = record {
    halt = λ a ok i k. halts-too a e (λ most shown. add_number (trees_of a.nodes) m (factor_at now.parts p.0) p.1) (λ most shown. add_parts (trees_of a.nodes) m (over_trees a parts) (sum_over a start))
        (λ most shown h g. sym (next a ok i k) ∙ ap (λ t. then_tally t (λ f. add_parts (trees_of a.nodes) m (over_trees a rest) (with_factor (sum_over a now) (tree a p.0) f))) g)
        (halts a);
  }

pub adding_ends : (m : Fraction) (parts : List (TermId × ℤ)) (start now : IdSum) → AddingParts m parts [] start now → AddsParts m parts start now
adding_ends m parts start now s = record { in_range = s.in_range; tally = λ a ok i k. sym (s.same a ok i k) }

-- ---- turns of the loop over the parts

module _ (m : Fraction) (parts : List (TermId × ℤ)) (start now : IdSum) (at : ℕ) (d : TermId × ℤ) (below : at < length parts) (s : AddingParts m parts (drop at parts) start now) where
  adding_here : AddingParts m parts (get_or parts at d ∷ drop (at + 1) parts) start now
  adding_here = subst (λ (ps : List (TermId × ℤ)). AddingParts m parts ps start now) (drop_more parts at d below) s

  pub part-fits : fits (get_or parts at d).1 ≡ true
  part-fits = adding_here.rest_from.0.fits

  pub part-narrow : to_z w128 (of_z w128 (get_or parts at d).1) ≡ (get_or parts at d).1
  part-narrow = narrow (get_or parts at d).1 part-fits

  module _ (stood : Fraction) (n : ℤ) (is : stood ≡ factor_at now.parts (get_or parts at d).0) (number : n ≡ (get_or parts at d).1) where
    handed : (known : List Term) → add_number known m stood n ≡ add_number known m (factor_at now.parts (get_or parts at d).0) (get_or parts at d).1
    handed known = ap₂ (add_number known m) is number

    pub adding_turn : (f : Fraction) (new : IdSum) → ((known : List Term) → add_number known m stood n ≡ Stands f) → new ≡ with_factor_at now (get_or parts at d).0 f
        → AddingParts m parts (drop (at + 1) parts) start new
    adding_turn f new stands made = adding_step m parts (drop (at + 1) parts) start now (get_or parts at d) adding_here f new (λ known. sym (handed known) ∙ stands known) made

    pub adding_turn_stops : (e : SumFault) → ((a : Arena) → HaltsAs a e (λ most shown. add_number (trees_of a.nodes) m stood n)) → StopsParts m parts start e
    adding_turn_stops e halts =
        adding_stops m parts (drop (at + 1) parts) start now (get_or parts at d) adding_here e
        (λ a. halts-too a e (λ most shown. add_number (trees_of a.nodes) m stood n) (λ most shown. add_number (trees_of a.nodes) m (factor_at now.parts (get_or parts at d).0) (get_or parts at d).1)
        (λ most shown h g. sym (handed (trees_of a.nodes)) ∙ g) (halts a))

pub adding_done : (m : Fraction) (parts : List (TermId × ℤ)) (start now : IdSum) (at : ℕ) → length parts ≤ at → AddingParts m parts (drop at parts) start now → AddsParts m parts start now
adding_done m parts start now at h s = adding_ends m parts start now (subst (λ (ps : List (TermId × ℤ)). AddingParts m parts ps start now) (drop_all at parts h) s)

-- ---- forms

module _ (m : Fraction) (f : IdForm) (start : IdSum) where
  module _ (middle : IdSum) (added : AddsParts m f.parts start middle) where
    constant-stops : (e : SumFault) → ((a : Arena) → HaltsAs a e (λ most shown. add_number (trees_of a.nodes) m middle.constant f.constant)) → StopsForm m f start e
    constant-stops e halts = record {
      halt = λ a ok i k. halts-too a e (λ most shown. add_number (trees_of a.nodes) m middle.constant f.constant) (λ most shown. add_ordered (trees_of a.nodes) m (form_over a f) (sum_over a start))
          (λ most shown h g.
          ap (λ t. then_tally t (λ r. then_tally (add_number (trees_of a.nodes) m r.constant f.constant) (λ c. Stands (with_constant r c)))) (added.tally a ok i k)
          ∙ ap (λ t. then_tally t (λ c. Stands (with_constant (sum_over a middle) c))) g)
          (halts a);
    }

    form-added : (z : Fraction) (new : IdSum) → ((known : List Term) → add_number known m middle.constant f.constant ≡ Stands z) → new ≡ record { parts = middle.parts; constant = z } → AddsForm m f start new
    form-added z new stands is = subst (λ (n : IdSum). AddsForm m f start n) (sym is) (record {
      in_range = added.in_range;
      tally = λ a ok i k.
          ap (λ t. then_tally t (λ r. then_tally (add_number (trees_of a.nodes) m r.constant f.constant) (λ c. Stands (with_constant r c)))) (added.tally a ok i k)
          ∙ ap (λ t. then_tally t (λ c. Stands (with_constant (sum_over a middle) c))) (stands (trees_of a.nodes));
    })

    module _ (stood : Fraction) (n : ℤ) (is : stood ≡ middle.constant) (number : n ≡ f.constant) where
      pub constant_halts : (e : SumFault) → ((a : Arena) → HaltsAs a e (λ most shown. add_number (trees_of a.nodes) m stood n)) → StopsForm m f start e
      constant_halts e halts =
          constant-stops e (λ a. halts-too a e (λ most shown. add_number (trees_of a.nodes) m stood n) (λ most shown. add_number (trees_of a.nodes) m middle.constant f.constant)
          (λ most shown h g. sym (ap₂ (add_number (trees_of a.nodes) m) is number) ∙ g) (halts a))

      pub constant_added : (z : Fraction) (new : IdSum) → ((known : List Term) → add_number known m stood n ≡ Stands z) → new ≡ record { parts = middle.parts; constant = z } → AddsForm m f start new
      constant_added z new stands made = form-added z new (λ known. sym (ap₂ (add_number known m) is number) ∙ stands known) made

-- the exit of a fault that is handed on
pub if_same : {T : Type 0} (r : Result T SumFault) (e : SumFault) (P : SumFault → Type 0) → IsErrAnd r (λ f. f ≡ e) → P e → IfErr r P
if_same (Ok x) e P h p = tt
if_same (Err f) e P h p = subst P (sym h) p
