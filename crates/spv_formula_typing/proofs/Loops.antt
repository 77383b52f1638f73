-- Loops over arguments: what was read, and what the rest makes of it.
use Rattle.std.proofs.Common.{◌≡◌, ℕ, suc, ◌+◌, ◌<◌, ◌≤◌, List, [], ◌∷◌, ◌++◌, length, drop, get_or, Ok, Err, refl, sym, ap, ◌∙◌, subst, arith}
use Rattle.std.proofs.Math.Seq.{drop-cons}
use Rattle.std.proofs.lemmas.List.{append_assoc, append-nil, drop_all, map-append}
use Rattle.spv_tree.specs.syntax.Formulas.{Formula}
use Rattle.spv_tree.specs.syntax.Model.FormulaSizes.{more_formulas_of}
use Rattle.spv_typing.specs.declared.faults.TypeFault.{TypeFault}
use Rattle.spv_typing.specs.Outcomes.{Outcome, after}
use Rattle.spv_typing.specs.OperatorWalk.{Operand, Forms, operands, arguments, formula_walk, formula_line}
use Rattle.spv_environments.specs.Answers.{Stops}
use Rattle.spv_formula_typing.specs.declared.forms.Way.{Way}
use Rattle.spv_formula_typing.specs.declared.forms.Operand.{Operand as OperandText}
use Rattle.spv_formula_typing.specs.declared.forms.Given.{Given as GivenText}
use Rattle.spv_formula_typing.specs.Operands.{operand_of, on_line, operands_of}
use Rattle.spv_formula_typing.specs.Arguments.{Given, given_of, given_on_line, all_given, given_one, given_as, argument_of, arguments_of}
use Rattle.spv_formula_typing.proofs.Exits.{stops_after}

-- one more item, put behind those that are done
one_more : {A : Type 0} (o : Outcome (List A)) (done : List A) (x : A)
    → after (after o (λ rest. Ok (x ∷ rest))) (λ all. Ok (done ++ all)) ≡ after o (λ all. Ok ((done ++ x ∷ []) ++ all))
one_more (Ok rest) done x = ap Ok (sym (append_assoc done (x ∷ []) rest))
one_more (Err e) done x = refl

module _ {X S : Type 0} (k : Forms X S) (first : Formula) (more : List Formula) where
  -- the arguments from a place on
  behind : (n : ℕ) (f : Formula) → n < length more → f ≡ get_or more n f → drop n more ≡ f ∷ drop (suc n) more
  behind n f within is = drop-cons more n f within ∙ ap (λ (g : Formula). g ∷ drop (suc n) more) (sym is)

  module _ (ways : ℕ → Way) where
    -- as many arguments behind the first were read, and the others are behind them
    pub record GivenSoFar (n : ℕ) (done : List (ℕ × Given X S)) : Type 0 where
      pub rest : given_as ways 0 (arguments_of k first more) ≡ after (given_as ways (suc n) (arguments k (more_formulas_of (drop n more)))) (λ gs. Ok (done ++ gs))

    opened : (n : ℕ) (done : List (ℕ × Given X S)) (f : Formula) → n < length more → f ≡ get_or more n f → GivenSoFar n done
        → given_as ways 0 (arguments_of k first more) ≡ after (given_as ways (suc n) (argument_of k f ∷ arguments k (more_formulas_of (drop (suc n) more)))) (λ gs. Ok (done ++ gs))
    opened n done f within is so_far =
        so_far.rest ∙ ap (λ (fs : List Formula). after (given_as ways (suc n) (arguments k (more_formulas_of fs))) (λ gs. Ok (done ++ gs))) (behind n f within is)

    pub given_first : (g : Given X S) → given_one (ways 0) (argument_of k first) ≡ Ok g → GivenSoFar 0 ((formula_line first, g) ∷ [])
    given_first g h = record {
      rest =
          ap (λ o. after o (λ g. after (given_as ways 1 (arguments k (more_formulas_of more))) (λ rest. Ok ((formula_line first, g) ∷ rest)))) h;
    }

    pub given_more : (n : ℕ) (done : List (ℕ × Given X S)) (f : Formula) (g : Given X S) → n < length more → f ≡ get_or more n f
        → given_one (ways (suc n)) (argument_of k f) ≡ Ok g → GivenSoFar n done → GivenSoFar (suc n) (done ++ (formula_line f, g) ∷ [])
    given_more n done f g within is h so_far = record {
      rest =
          opened n done f within is so_far
          ∙ ap (λ o. after (after o (λ g. after (given_as ways (suc (suc n)) (arguments k (more_formulas_of (drop (suc n) more)))) (λ rest. Ok ((formula_line f, g) ∷ rest)))) (λ gs. Ok (done ++ gs))) h
          ∙ one_more (given_as ways (suc (suc n)) (arguments k (more_formulas_of (drop (suc n) more)))) done (formula_line f, g);
    }

    pub given_fault : (n : ℕ) (done : List (ℕ × Given X S)) (f : Formula) (e : TypeFault) → n < length more → f ≡ get_or more n f
        → Stops e (given_one (ways (suc n)) (argument_of k f)) → GivenSoFar n done → Stops e (given_as ways 0 (arguments_of k first more))
    given_fault n done f e within is h so_far =
        subst (Stops e) (sym (opened n done f within is so_far))
        (stops_after e _ (λ gs. Ok (done ++ gs)) (stops_after e (given_one (ways (suc n)) (argument_of k f)) _ h))

    pub given_all : (n : ℕ) (done : List (ℕ × Given X S)) → length more ≤ n → GivenSoFar n done → given_as ways 0 (arguments_of k first more) ≡ Ok done
    given_all n done past so_far =
        so_far.rest ∙ ap (λ (fs : List Formula). after (given_as ways (suc n) (arguments k (more_formulas_of fs))) (λ gs. Ok (done ++ gs))) (drop_all n more past)
        ∙ ap Ok (append-nil done)

  pub record FoundSoFar (n : ℕ) (done : List (ℕ × Operand X)) : Type 0 where
    pub rest : operands (arguments_of k first more) ≡ after (operands (arguments k (more_formulas_of (drop n more)))) (λ os. Ok (done ++ os))

  pub found_more : (n : ℕ) (done : List (ℕ × Operand X)) (f : Formula) (o : Operand X) → n < length more → f ≡ get_or more n f
      → formula_walk k f ≡ Ok o → FoundSoFar n done → FoundSoFar (suc n) (done ++ (formula_line f, o) ∷ [])
  found_more n done f o within is h so_far = record {
    rest =
        so_far.rest ∙ ap (λ (fs : List Formula). after (operands (arguments k (more_formulas_of fs))) (λ os. Ok (done ++ os))) (behind n f within is)
        ∙ ap (λ w. after (after w (λ o. after (operands (arguments k (more_formulas_of (drop (suc n) more)))) (λ rest. Ok ((formula_line f, o) ∷ rest)))) (λ os. Ok (done ++ os))) h
        ∙ one_more (operands (arguments k (more_formulas_of (drop (suc n) more)))) done (formula_line f, o);
  }

  -- ---- what the code pushed

  pub found_pushed : (n : ℕ) (old new : List (ℕ × OperandText X)) (f : Formula) (line : ℕ) (o : OperandText X) → n < length more → f ≡ get_or more n f
      → line ≡ formula_line f → formula_walk k f ≡ Ok (operand_of o) → new ≡ old ++ (line, o) ∷ [] → FoundSoFar n (operands_of old) → FoundSoFar (n + 1) (operands_of new)
  found_pushed n old new f line o within is at h grown so_far =
      let further : FoundSoFar (suc n) (operands_of old ++ (formula_line f, operand_of o) ∷ []) = found_more n (operands_of old) f (operand_of o) within is h so_far in
      let next : suc n ≡ n + 1 = omega arith in
      let same : operands_of old ++ (line, operand_of o) ∷ [] ≡ operands_of new = sym (ap operands_of grown ∙ map-append on_line old ((line, o) ∷ [])) in
      subst (λ (m : ℕ). FoundSoFar m (operands_of new)) next
      (subst (FoundSoFar (suc n)) same (subst (λ (l : ℕ). FoundSoFar (suc n) (operands_of old ++ (l, operand_of o) ∷ [])) (sym at) further))

  module _ (ways : ℕ → Way) where
    pub given_pushed : (n place : ℕ) (old new : List (ℕ × GivenText X S)) (f : Formula) (line : ℕ) (g : GivenText X S) → place ≡ n → n < length more → f ≡ get_or more n f
        → line ≡ formula_line f → given_one (ways (place + 1)) (argument_of k f) ≡ Ok (given_of g) → new ≡ old ++ (line, g) ∷ [] → GivenSoFar ways n (all_given old)
        → (place + 1 ≡ n + 1) × GivenSoFar ways (n + 1) (all_given new)
    given_pushed n place old new f line g here within is at h grown so_far =
        let next : suc n ≡ n + 1 = omega arith in
        let there : place + 1 ≡ suc n = omega (arith, here) in
        let read : given_one (ways (suc n)) (argument_of k f) ≡ Ok (given_of g) = subst (λ (m : ℕ). given_one (ways m) (argument_of k f) ≡ Ok (given_of g)) there h in
        let further : GivenSoFar ways (suc n) (all_given old ++ (formula_line f, given_of g) ∷ []) = given_more ways n (all_given old) f (given_of g) within is read so_far in
        let same : all_given old ++ (line, given_of g) ∷ [] ≡ all_given new = sym (ap all_given grown ∙ map-append given_on_line old ((line, g) ∷ [])) in (
          omega (arith, here),
          subst (λ (m : ℕ). GivenSoFar ways m (all_given new)) next
              (subst (GivenSoFar ways (suc n)) same (subst (λ (l : ℕ). GivenSoFar ways (suc n) (all_given old ++ (l, given_of g) ∷ [])) (sym at) further)),
        )

    pub given_begun : (old new : List (ℕ × GivenText X S)) (line : ℕ) (g : GivenText X S) → line ≡ formula_line first → given_one (ways 0) (argument_of k first) ≡ Ok (given_of g)
        → old ≡ [] → new ≡ old ++ (line, g) ∷ [] → GivenSoFar ways 0 (all_given new)
    given_begun old new line g at h none grown =
        let begun : GivenSoFar ways 0 ((formula_line first, given_of g) ∷ []) = given_first ways (given_of g) h in
        let alone : (line, g) ∷ [] ≡ new = sym (grown ∙ ap (λ (gs : List (ℕ × GivenText X S)). gs ++ (line, g) ∷ []) none) in
        subst (λ (gs : List (ℕ × GivenText X S)). GivenSoFar ways 0 (all_given gs)) alone
        (subst (λ (l : ℕ). GivenSoFar ways 0 ((l, given_of g) ∷ [])) (sym at) begun)

    pub given_stopped : (n place : ℕ) (old : List (ℕ × GivenText X S)) (f : Formula) (e : TypeFault) → place ≡ n → n < length more → f ≡ get_or more n f
        → Stops e (given_one (ways (place + 1)) (argument_of k f)) → GivenSoFar ways n (all_given old) → Stops e (given_as ways 0 (arguments_of k first more))
    given_stopped n place old f e here within is h so_far =
        let there : place + 1 ≡ suc n = omega (arith, here) in
        given_fault ways n (all_given old) f e within is (subst (λ (m : ℕ). Stops e (given_one (ways m) (argument_of k f))) there h) so_far
