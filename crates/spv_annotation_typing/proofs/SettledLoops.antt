-- A loop over arguments and the sorts that are wanted of them.
use Rattle.std.proofs.Common.{◌≡◌, ◌≤◌, ◌<◌, ◌+◌, ℕ, suc, List, [], ◌∷◌, ◌++◌, length, drop, get_or, Ok, Err, refl, sym, ap, subst, ◌∙◌, arith}
use Rattle.std.proofs.Math.Seq.{drop-cons}
use Rattle.std.proofs.lemmas.List.{drop_all}
use Rattle.spv_logic.specs.declared.types.Sort.{Sort}
use Rattle.spv_program.specs.Formulas.{Formula, Formulas, NilOf, no_formulas, formulas}
use Rattle.spv_program.specs.typed.FormulaViews.{formulas_of}
use Rattle.spv_typing.specs.declared.faults.TypeFault.{TypeFault}
use Rattle.spv_typing.specs.Outcomes.{Outcome, after, wrong}
use Rattle.spv_typing.specs.OperatorWalk.{Operand, settled}
use Rattle.spv_typing.specs.FormulaWalk.{settled_all}
use Rattle.spv_environments.specs.Answers.{Stops}
use Rattle.spv_formula_typing.proofs.Exits.{stops_after}
use Rattle.spv_annotation_typing.specs.Signatures.{joined}

abbrev joined_on : List Formula → Formulas → Outcome Formulas
joined_on made fs = Ok (joined made fs)

module _ (wanted : List Sort) (all : List (ℕ × Operand Formula)) where
  -- what was made, and what the arguments that wait make behind it, is the whole
  pub record SettledSoFar (place : ℕ) (waiting : List (ℕ × Operand Formula)) (made : List Formula) : Type 0 where
    pub within : place ≤ length wanted
    pub rest : settled_all wanted all ≡ after (settled_all (drop place wanted) waiting) (λ fs. Ok (joined made fs))

  pub settled_first : settled_all wanted all ≡ settled_all wanted all → SettledSoFar 0 all []
  settled_first h = record { within = omega arith; rest = by_case (settled_all wanted all) }
    where
      by_case : (o : Outcome Formulas) → o ≡ after o (λ fs. Ok (joined [] fs))
      by_case (Ok fs) = refl
      by_case (Err e) = refl

  opened : (place : ℕ) (a : ℕ × Operand Formula) (waiting : List (ℕ × Operand Formula)) (made : List Formula) (s d : Sort) → place < length wanted
      → s ≡ get_or wanted place d → SettledSoFar place (a ∷ waiting) made
      → settled_all wanted all ≡ after (after (settled NilOf (wrong a.0) s a.1) (λ f. after (settled_all (drop (suc place) wanted) waiting) (λ fs. Ok (formulas f fs)))) (λ fs. Ok (joined made fs))
  opened place a waiting made s d within is so_far =
      so_far.rest
      ∙ ap (λ (w : List Sort). after (settled_all w (a ∷ waiting)) (λ fs. Ok (joined made fs))) (drop-cons wanted place d within ∙ ap (λ (t : Sort). t ∷ drop (suc place) wanted) (sym is))

  pub settled_more : (place : ℕ) (a : ℕ × Operand Formula) (waiting : List (ℕ × Operand Formula)) (made new : List Formula) (s d : Sort) (f : Formula) → place < length wanted
      → s ≡ get_or wanted place d → settled NilOf (wrong a.0) s a.1 ≡ Ok f → new ≡ made ++ f ∷ [] → SettledSoFar place (a ∷ waiting) made
      → SettledSoFar (place + 1) waiting new
  settled_more place a waiting made new s d f within is h grown so_far = record {
    within = omega (arith, within);
    rest =
        opened place a waiting made s d within is so_far
        ∙ ap (λ o. after (after o (λ f. after (settled_all (drop (suc place) wanted) waiting) (λ fs. Ok (formulas f fs)))) (λ fs. Ok (joined made fs))) h
        ∙ by_case (settled_all (drop (suc place) wanted) waiting)
        ∙ ap (λ (n : ℕ). after (settled_all (drop n wanted) waiting) (λ fs. Ok (joined new fs))) next;
  }
    where
      next : suc place ≡ place + 1
      next = omega arith

      joined_last : (made : List Formula) (fs : Formulas) → joined made (formulas f fs) ≡ joined (made ++ f ∷ []) fs
      joined_last [] fs = refl
      joined_last (g ∷ made) fs = ap (formulas g) (joined_last made fs)

      by_case : (o : Outcome Formulas) → after (after o (λ fs. Ok (formulas f fs))) (λ fs. Ok (joined made fs)) ≡ after o (λ fs. Ok (joined new fs))
      by_case (Ok fs) = ap Ok (joined_last made fs ∙ ap (λ (m : List Formula). joined m fs) (sym grown))
      by_case (Err e) = refl

  pub settled_stops : (place : ℕ) (a : ℕ × Operand Formula) (waiting : List (ℕ × Operand Formula)) (made : List Formula) (s d : Sort) (e : TypeFault) → place < length wanted
      → s ≡ get_or wanted place d → Stops e (settled NilOf (wrong a.0) s a.1) → SettledSoFar place (a ∷ waiting) made → Stops e (settled_all wanted all)
  settled_stops place a waiting made s d e within is h so_far =
      subst (Stops e) (sym (opened place a waiting made s d within is so_far))
      (stops_after e _ (λ fs. Ok (joined made fs)) (stops_after e (settled NilOf (wrong a.0) s a.1) _ h))

  made_are : (made : List Formula) → joined made no_formulas ≡ formulas_of made
  made_are [] = refl
  made_are (f ∷ made) = ap (formulas f) (made_are made)

  nothing_wanted : (w : List Sort) (waiting : List (ℕ × Operand Formula)) → w ≡ [] → settled_all w waiting ≡ Ok no_formulas
  nothing_wanted [] waiting h = refl
  nothing_wanted (s ∷ w) waiting h = absurd cc

  nothing_given : (w : List Sort) → settled_all w [] ≡ Ok no_formulas
  nothing_given [] = refl
  nothing_given (s ∷ w) = refl

  pub settled_full : (place : ℕ) (waiting : List (ℕ × Operand Formula)) (made : List Formula) → place ≡ length wanted → SettledSoFar place waiting made
      → settled_all wanted all ≡ Ok (formulas_of made)
  settled_full place waiting made full so_far =
      so_far.rest ∙ ap (λ o. after o (λ fs. Ok (joined made fs))) (nothing_wanted (drop place wanted) waiting (drop_all place wanted (omega (arith, full)))) ∙ ap Ok (made_are made)

  pub settled_end : (place : ℕ) (made : List Formula) → SettledSoFar place [] made → settled_all wanted all ≡ Ok (formulas_of made)
  settled_end place made so_far =
      so_far.rest ∙ ap (λ o. after o (λ fs. Ok (joined made fs))) (nothing_given (drop place wanted)) ∙ ap Ok (made_are made)

-- where no item is left, there is none
pub none_left : {X : Type 0} (xs : List X) (n : ℕ) → n ≡ length xs → n ≡ 0 → xs ≡ []
none_left [] n h z = refl
none_left (x ∷ xs) n h z = absurd (omega (arith, h, z))
