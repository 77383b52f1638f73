-- A loop over arguments and their parameters.
use Rattle.std.proofs.Common.{◌≡◌, ◌≤◌, ◌<◌, ◌+◌, ℕ, suc, Bool, true, false, List, [], ◌∷◌, ◌++◌, length, map, drop, get_or, Option, Some, None, Ok, Err, refl, sym, ap, subst, ◌∙◌, arith}
use Rattle.std.proofs.Math.Seq.{drop-cons}
use Rattle.std.proofs.lemmas.List.{drop_all}
use Rattle.spv_program.specs.declared.types.TypeForm.{TypeForm}
use Rattle.spv_program.specs.Programs.{Formal as FormalSpec}
use Rattle.spv_program.specs.Types.{sort_of, same_places}
use Rattle.spv_program.specs.Expressions.{Expression, Designator, Arguments, NilOf, no_arguments}
use Rattle.spv_program.specs.declared.typed.programs.Formal.{Formal}
use Rattle.spv_program.specs.declared.typed.expressions.Argument.{Argument}
use Rattle.spv_program.specs.declared.typed.expressions.Argument.TheVariants as argument
use Rattle.spv_program.specs.typed.ExpressionViews.{arguments_of}
use Rattle.spv_program.specs.typed.ProgramViews.{formal_of}
use Rattle.spv_typing.specs.declared.faults.TypeFault.{TypeFault}
use Rattle.spv_typing.specs.Outcomes.{Outcome, after, where_so, wrong}
use Rattle.spv_typing.specs.OperatorWalk.{settled}
use Rattle.spv_typing.specs.ExpressionWalk.{Given, AsValue, AsPlace, NoPlace, designator_at, with_place, fitted}
use Rattle.spv_environments.specs.Answers.{Stops}
use Rattle.spv_formula_typing.proofs.Exits.{stops_after}
use Rattle.spv_expression_typing.specs.Applied.{Fitted, Value, fitted_of, in_front, fitted_place, fitted_one}

abbrev joined : List Argument → Arguments → Arguments
joined [] others = others
joined (a ∷ made) others = in_front (fitted_of a) (joined made others)

made_are : (made : List Argument) → joined made no_arguments ≡ arguments_of made
made_are [] = refl
made_are (argument.Value e ∷ made) = ap (in_front (fitted_of (argument.Value e))) (made_are made)
made_are (argument.Place d ∷ made) = ap (in_front (fitted_of (argument.Place d))) (made_are made)

joined_last : (made : List Argument) (a : Argument) (others : Arguments) → joined made (in_front (fitted_of a) others) ≡ joined (made ++ a ∷ []) others
joined_last [] a others = refl
joined_last (b ∷ made) a others = ap (in_front (fitted_of b)) (joined_last made a others)

module _ (forms : List TypeForm) where
  one_fitted : (f : FormalSpec) (line : ℕ) (g : Given) (formals : List FormalSpec) (given : List (ℕ × Given))
      → fitted forms (f ∷ formals) ((line, g) ∷ given) ≡ after (fitted_one forms f.of line g) (λ a. after (fitted forms formals given) (λ rest. Ok (in_front a rest)))
  one_fitted f line (AsValue o) formals given = by_value (settled NilOf (wrong line) (sort_of forms f.of) o)
    where
      by_value : (p : Outcome Expression)
          → after p (λ e. after (fitted forms formals given) (λ rest. Ok (in_front (Value e) rest)))
          ≡ after (after p (λ e. Ok (Value e))) (λ a. after (fitted forms formals given) (λ rest. Ok (in_front a rest)))
      by_value (Ok e) = refl
      by_value (Err e) = refl
  one_fitted f line (AsPlace r) formals given = by_place (same_places forms f.of r.type) (designator_at r)
    where
      by_place : (b : Bool) (d : Option Designator)
          → where_so b (wrong line) (with_place (wrong line) d (λ d. after (fitted forms formals given) (λ rest. Ok (in_front (Rattle.spv_expression_typing.specs.Applied.Place d) rest))))
          ≡ after (where_so b (wrong line) (fitted_place line d)) (λ a. after (fitted forms formals given) (λ rest. Ok (in_front a rest)))
      by_place true (Some d) = refl
      by_place true None = refl
      by_place false d = refl
  one_fitted f line NoPlace formals given = refl

  module _ (formals : List Formal) (all : List (ℕ × Given)) where
    -- what was made, and what the arguments that wait make behind it, is the whole
    pub record FittedSoFar (place : ℕ) (waiting : List (ℕ × Given)) (made : List Argument) : Type 0 where
      pub within : place ≤ length formals
      pub rest : fitted forms (map formal_of formals) all ≡ after (fitted forms (map formal_of (drop place formals)) waiting) (λ xs. Ok (joined made xs))

    pub fitted_first : fitted forms (map formal_of formals) all ≡ fitted forms (map formal_of formals) all → FittedSoFar 0 all []
    fitted_first h = record { within = omega arith; rest = by_case (fitted forms (map formal_of formals) all) }
      where
        by_case : (o : Outcome Arguments) → o ≡ after o (λ xs. Ok (joined [] xs))
        by_case (Ok xs) = refl
        by_case (Err e) = refl

    opened : (place line : ℕ) (g : Given) (waiting : List (ℕ × Given)) (made : List Argument) (f d : Formal) → place < length formals
        → f ≡ get_or formals place d → FittedSoFar place ((line, g) ∷ waiting) made
        → fitted forms (map formal_of formals) all
        ≡ after (after (fitted_one forms f.of line g) (λ a. after (fitted forms (map formal_of (drop (suc place) formals)) waiting) (λ rest. Ok (in_front a rest)))) (λ xs. Ok (joined made xs))
    opened place line g waiting made f d within is so_far =
        so_far.rest
        ∙ ap (λ (fs : List Formal). after (fitted forms (map formal_of fs) ((line, g) ∷ waiting)) (λ xs. Ok (joined made xs)))
        (drop-cons formals place d within ∙ ap (λ (e : Formal). e ∷ drop (suc place) formals) (sym is))
        ∙ ap (λ o. after o (λ xs. Ok (joined made xs))) (one_fitted (formal_of f) line g (map formal_of (drop (suc place) formals)) waiting)

    pub fitted_more : (place line : ℕ) (g : Given) (waiting : List (ℕ × Given)) (made new : List Argument) (f d : Formal) (a : Argument) → place < length formals
        → f ≡ get_or formals place d → fitted_one forms f.of line g ≡ Ok (fitted_of a) → new ≡ made ++ a ∷ [] → FittedSoFar place ((line, g) ∷ waiting) made
        → FittedSoFar (place + 1) waiting new
    fitted_more place line g waiting made new f d a within is h grown so_far = record {
      within = omega (arith, within);
      rest =
          opened place line g waiting made f d within is so_far
          ∙ ap (λ o. after (after o (λ a. after (fitted forms (map formal_of (drop (suc place) formals)) waiting) (λ rest. Ok (in_front a rest)))) (λ xs. Ok (joined made xs))) h
          ∙ by_case (fitted forms (map formal_of (drop (suc place) formals)) waiting)
          ∙ ap (λ (n : ℕ). after (fitted forms (map formal_of (drop n formals)) waiting) (λ xs. Ok (joined new xs))) next;
    }
      where
        next : suc place ≡ place + 1
        next = omega arith

        by_case : (o : Outcome Arguments) → after (after o (λ rest. Ok (in_front (fitted_of a) rest))) (λ xs. Ok (joined made xs)) ≡ after o (λ xs. Ok (joined new xs))
        by_case (Ok xs) = ap Ok (joined_last made a xs ∙ ap (λ (m : List Argument). joined m xs) (sym grown))
        by_case (Err e) = refl

    pub fitted_stops : (place line : ℕ) (g : Given) (waiting : List (ℕ × Given)) (made : List Argument) (f d : Formal) (e : TypeFault) → place < length formals
        → f ≡ get_or formals place d → Stops e (fitted_one forms f.of line g) → FittedSoFar place ((line, g) ∷ waiting) made → Stops e (fitted forms (map formal_of formals) all)
    fitted_stops place line g waiting made f d e within is h so_far =
        subst (Stops e) (sym (opened place line g waiting made f d within is so_far))
        (stops_after e _ (λ xs. Ok (joined made xs)) (stops_after e (fitted_one forms f.of line g) _ h))

    nothing_wanted : (fs : List Formal) (waiting : List (ℕ × Given)) → fs ≡ [] → fitted forms (map formal_of fs) waiting ≡ Ok no_arguments
    nothing_wanted [] [] h = refl
    nothing_wanted [] (g ∷ waiting) h = refl
    nothing_wanted (f ∷ fs) waiting h = absurd cc

    nothing_given : (fs : List Formal) → fitted forms (map formal_of fs) [] ≡ Ok no_arguments
    nothing_given [] = refl
    nothing_given (f ∷ fs) = refl

    pub fitted_full : (place : ℕ) (waiting : List (ℕ × Given)) (made : List Argument) → place ≡ length formals → FittedSoFar place waiting made
        → fitted forms (map formal_of formals) all ≡ Ok (arguments_of made)
    fitted_full place waiting made full so_far =
        so_far.rest ∙ ap (λ o. after o (λ xs. Ok (joined made xs))) (nothing_wanted (drop place formals) waiting (drop_all place formals (omega (arith, full)))) ∙ ap Ok (made_are made)

    pub fitted_end : (place : ℕ) (made : List Argument) → FittedSoFar place [] made → fitted forms (map formal_of formals) all ≡ Ok (arguments_of made)
    fitted_end place made so_far =
        so_far.rest ∙ ap (λ o. after o (λ xs. Ok (joined made xs))) (nothing_given (drop place formals)) ∙ ap Ok (made_are made)

-- where no item is left, there is none
pub none_left : {X : Type 0} (xs : List X) (n : ℕ) → n ≡ length xs → n ≡ 0 → xs ≡ []
none_left [] n h z = refl
none_left (x ∷ xs) n h z = absurd (omega (arith, h, z))
