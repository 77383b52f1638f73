-- What is called, with its arguments read as it wants them, is what the definition makes of the application.
use Rattle.std.proofs.Common.{◌≡◌, Bool, true, false, cond, ◌≤◌, ℕ, suc, List, [], ◌∷◌, length, map, Option, Some, None, Result, Ok, Err, IfOk, refl, sym, ap, subst, ◌∙◌, option_map, nat_eq, arith}
use Rattle.std.proofs.Math.Path.{fun_ext}
use Rattle.std.proofs.lemmas.Bool.Decides.{nat_tests}
use Rattle.spv_tree.specs.declared.syntax.names.Name.{Name}
use Rattle.spv_program.specs.Formulas.{Formula}
use Rattle.spv_typing.specs.declared.faults.TypeFault.{TypeFault}
use Rattle.spv_typing.specs.declared.faults.TypeFault.TheVariants.{Count}
use Rattle.spv_typing.specs.Outcomes.{Outcome, after, where_so, wrong}
use Rattle.spv_typing.specs.Known as known
use Rattle.spv_typing.specs.OperatorWalk.{Operand, Argument, operands}
use Rattle.spv_typing.specs.FormulaWalk.{Sorted, known_applied, put_applied, put_with, named_applied, applied, applied_of}
use Rattle.spv_environments.specs.declared.functions.Function.{Function}
use Rattle.spv_environments.specs.declared.functions.Function.TheVariants as function
use Rattle.spv_environments.specs.declared.scopes.Meaning.{Meaning}
use Rattle.spv_environments.specs.declared.scopes.Meaning.TheVariants as meaning
use Rattle.spv_program.specs.typed.ProgramViews.{formal_of}
use Rattle.spv_environments.specs.Symbols.{decl_of}
use Rattle.spv_environments.specs.Views.{function_of}
use Rattle.spv_environments.specs.Scopes.{meaning_of}
use Rattle.spv_formula_typing.specs.declared.forms.Way.{Way}
use Rattle.spv_formula_typing.specs.declared.forms.Way.TheVariants as way
use Rattle.spv_formula_typing.specs.Arguments.{Given, AsValue, AsField, given_one, given_as}
use Rattle.spv_annotation_typing.specs.declared.callee.Callee.{Callee}
use Rattle.spv_annotation_typing.specs.Applied.{function_callee, meaning_callee, put_way, way_in, values, put_given, known_on, symbol_on, routine_fault, applied_to}

module _ (S : Type 0) where
  abbrev valued : List (ℕ × Operand Formula) → List (ℕ × Given Formula S)
  valued [] = []
  valued (o ∷ os) = (o.0, AsValue o.1) ∷ valued os

  values_valued : (os : List (ℕ × Operand Formula)) → values (valued os) ≡ os
  values_valued [] = refl
  values_valued (o ∷ os) = ap (λ (l : List (ℕ × Operand Formula)). o ∷ l) (values_valued os)

  abbrev on_line : ℕ → Given Formula S → List (ℕ × Given Formula S) → Outcome (List (ℕ × Given Formula S))
  on_line line g rest = Ok ((line, g) ∷ rest)

  abbrev operand_on : ℕ → Operand Formula → List (ℕ × Operand Formula) → Outcome (List (ℕ × Operand Formula))
  operand_on line o rest = Ok ((line, o) ∷ rest)

  abbrev all_valued : List (ℕ × Operand Formula) → Outcome (List (ℕ × Given Formula S))
  all_valued os = Ok (valued os)

  abbrev value_read : Operand Formula → Outcome (Given Formula S)
  value_read o = Ok (AsValue o)

  -- arguments that are all read as values
  given_values : (ways : ℕ → Way) (n : ℕ) → ((m : ℕ) → n ≤ m → ways m ≡ way.Value) → (given : List (Argument Formula S))
      → given_as ways n given ≡ after (operands given) all_valued
  given_values ways n each [] = refl
  given_values ways n each (a ∷ others) =
      ap (λ w. after (given_one w a) (λ g. after (given_as ways (suc n) others) (on_line a.line g))) (each n (omega arith))
      ∙ by_operand a.operand (given_values ways (suc n) (λ m h. each m (omega (arith, h))) others)
    where
      by_rest : (o : Operand Formula) (r : Outcome (List (ℕ × Operand Formula)))
          → after (after r all_valued) (on_line a.line (AsValue o)) ≡ after (after r (operand_on a.line o)) all_valued
      by_rest o (Ok os) = refl
      by_rest o (Err e) = refl

      by_operand : (p : Outcome (Operand Formula)) → given_as ways (suc n) others ≡ after (operands others) all_valued
          → after (after p value_read) (λ g. after (given_as ways (suc n) others) (on_line a.line g))
          ≡ after (after p (λ o. after (operands others) (operand_on a.line o))) all_valued
      by_operand (Err e) later = refl
      by_operand (Ok o) later = ap (λ r. after r (on_line a.line (AsValue o))) later ∙ by_rest o (operands others)

  by_values : (body : List (ℕ × Operand Formula) → Outcome Sorted) (given : List (Argument Formula S))
      → after (operands given) body ≡ after (given_as (λ n. way.Value) 0 given) (λ gs. body (values gs))
  by_values body given = by_case (operands given) ∙ ap (λ r. after r (λ gs. body (values gs))) (sym (given_values (λ n. way.Value) 0 (λ m h. refl) given))
    where
      by_case : (r : Outcome (List (ℕ × Operand Formula))) → after r body ≡ after (after r all_valued) (λ gs. body (values gs))
      by_case (Ok os) = ap body (sym (values_valued os))
      by_case (Err e) = refl

  -- ---- PUT

  later_value : (m : ℕ) → 2 ≤ m → put_way m ≡ way.Value
  later_value m h = let other : nat_eq m 1 ≡ false = grind (arith, nat_tests) in ap (λ b. cond b way.Field way.Value) other

  put_is : (s : known.Scope) (line : ℕ) (given : List (Argument Formula S)) → put_applied s line given ≡ after (given_as put_way 0 given) (put_given s line)
  put_is s line [] = refl
  put_is s line (r ∷ []) = by_case r.operand
    where
      by_case : (p : Outcome (Operand Formula))
          → after (after p (λ o. operand_on r.line o [])) (λ os. Err (Count line)) ≡ after (after (after p value_read) (λ g. on_line r.line g [])) (put_given s line)
      by_case (Ok o) = refl
      by_case (Err e) = refl
  put_is s line (r ∷ f ∷ []) = by_case r.operand
    where
      to_sorted : Outcome Sorted → Outcome Sorted
      to_sorted o = o

      by_case : (p : Outcome (Operand Formula))
          → after p (λ a. to_sorted (Err (Count line)))
          ≡ after (after (after p value_read) (λ g. after (on_line f.line (AsField f.name) []) (on_line r.line g))) (put_given s line)
      by_case (Ok o) = refl
      by_case (Err e) = refl
  put_is s line (r ∷ f ∷ v ∷ []) = by_case r.operand v.operand
    where
      by_case : (p q : Outcome (Operand Formula))
          → after p (λ a. after q (λ b. put_with s f.line f.name (r.line, a) (v.line, b)))
          ≡ after (after (after p value_read) (λ g. after (after (after (after q value_read) (λ h. on_line v.line h [])) (on_line f.line (AsField f.name))) (on_line r.line g))) (put_given s line)
      by_case (Ok a) (Ok b) = refl
      by_case (Ok a) (Err e) = refl
      by_case (Err e) q = refl
  put_is s line (r ∷ f ∷ v ∷ w ∷ more) = by_case r.operand v.operand w.operand (operands more) (given_as put_way 4 more) (given_values put_way 4 (λ m h. later_value m (omega (arith, h))) more)
    where
      by_case : (p q t : Outcome (Operand Formula)) (m : Outcome (List (ℕ × Operand Formula))) (rest : Outcome (List (ℕ × Given Formula S))) → rest ≡ after m all_valued
          → after p (λ a. after (after q (λ b. after (after t (λ c. after m (operand_on w.line c))) (operand_on v.line b))) (λ bs. Err (Count line)))
          ≡ after (after (after p value_read) (λ g. after (after (after (after q value_read) (λ h. after (after (after t value_read) (λ i. after rest (on_line w.line i))) (on_line v.line h))) (on_line f.line (AsField f.name))) (on_line r.line g))) (put_given s line)
      by_case (Err e) q t m rest h = refl
      by_case (Ok a) (Err e) t m rest h = refl
      by_case (Ok a) (Ok b) (Err e) m rest h = refl
      by_case (Ok a) (Ok b) (Ok c) (Ok os) rest h = rw h refl
      by_case (Ok a) (Ok b) (Ok c) (Err e) rest h = rw h refl

  -- ---- what is called

  known_is : (s : known.Scope) (line : ℕ) (b : Function) (given : List (Argument Formula S))
      → known_applied s line (function_of b) given ≡ after (given_as (way_in (function_callee b)) 0 given) (applied_to s line (function_callee b))
  known_is s line function.Put given = put_is s line given
  known_is s line function.Select given = by_values (known_on s line known.Select) given
  known_is s line function.Store given = by_values (known_on s line known.Store) given
  known_is s line function.Cell given = by_values (known_on s line known.Cell) given
  known_is s line function.SetCell given = by_values (known_on s line known.SetCell) given
  known_is s line function.Extend given = by_values (known_on s line known.Extend) given
  known_is s line function.PointerTo given = by_values (known_on s line known.PointerTo) given
  known_is s line function.Car given = by_values (known_on s line known.Car) given
  known_is s line function.Cdr given = by_values (known_on s line known.Cdr) given
  known_is s line function.Cons given = by_values (known_on s line known.Cons) given
  known_is s line function.Atom given = by_values (known_on s line known.Atom) given

pub function_called : (s : known.Scope) (line : ℕ) (x : Name) (b : Function) → known.function s x.symbol ≡ Some (function_of b)
    → (given : List (Argument Formula Sorted)) → applied s line x given ≡ after (given_as (way_in (function_callee b)) 0 given) (applied_to s line (function_callee b))
function_called s line x b h given = ap (λ o. applied_of s line x o given) h ∙ known_is Sorted s line b given

same_length : {X Y : Type 0} (f : X → Y) (xs : List X) → length (map f xs) ≡ length xs
same_length f [] = refl
same_length f (x ∷ xs) = ap suc (same_length f xs)

found_called : (s : known.Scope) (line : ℕ) (x : Name) (found : Meaning) (given : List (Argument Formula Sorted))
    → IfOk (meaning_callee x (Some found)) (λ c. named_applied s line x (Some (meaning_of found)) given ≡ after (given_as (way_in c) 0 given) (applied_to s line c))
found_called s line x (meaning.Type t) given = by_values Sorted (λ os. Err (wrong line)) given
found_called s line x meaning.List given = by_values Sorted (λ os. Err (wrong line)) given
found_called s line x (meaning.Constant z) given = by_values Sorted (λ os. Err (wrong line)) given
found_called s line x (meaning.Place t) given = by_values Sorted (λ os. Err (wrong line)) given
found_called s line x (meaning.Start t) given = by_values Sorted (λ os. Err (wrong line)) given
found_called s line x (meaning.Declared name signature) given = by_values Sorted (symbol_on line (decl_of name signature.now)) given
found_called s line x (meaning.Routine name heading) given =
    ap (λ n. after (operands given) (λ os. where_so (nat_eq (length os) n) (Count line) (Err (wrong line)))) (same_length formal_of heading.now.formals)
    ∙ ap (after (operands given)) (fun_ext (λ os. counted (nat_eq (length os) (length heading.now.formals))))
    ∙ by_values Sorted (λ os. Err (routine_fault line (length heading.now.formals) os)) given
  where
    to_sorted : Outcome Sorted → Outcome Sorted
    to_sorted o = o

    counted : (b : Bool) → where_so b (Count line) (Err (wrong line)) ≡ to_sorted (Err (cond b (wrong line) (Count line)))
    counted true = refl
    counted false = refl

pub meaning_called : (s : known.Scope) (line : ℕ) (x : Name) (found : Option Meaning) (r : Result Callee TypeFault) → known.function s x.symbol ≡ None
    → option_map meaning_of found ≡ known.meaning s x.symbol → r ≡ meaning_callee x found
    → IfOk r (λ c. (given : List (Argument Formula Sorted)) → applied s line x given ≡ after (given_as (way_in c) 0 given) (applied_to s line c))
meaning_called s line x None (Ok c) none is h = absurd cc
meaning_called s line x None (Err e) none is h = tt
meaning_called s line x (Some found) r none is h =
    subst (λ (r : Result Callee TypeFault). IfOk r (λ c. (given : List (Argument Formula Sorted)) → applied s line x given ≡ after (given_as (way_in c) 0 given) (applied_to s line c))) (sym h)
    (by_result (meaning_callee x (Some found)) (λ given. found_called s line x found given))
  where
    by_result : (r : Result Callee TypeFault)
        → ((given : List (Argument Formula Sorted)) → IfOk r (λ c. named_applied s line x (Some (meaning_of found)) given ≡ after (given_as (way_in c) 0 given) (applied_to s line c)))
        → IfOk r (λ c. (given : List (Argument Formula Sorted)) → applied s line x given ≡ after (given_as (way_in c) 0 given) (applied_to s line c))
    by_result (Ok c) each = λ given. ap (λ o. applied_of s line x o given) none ∙ ap (λ o. named_applied s line x o given) (sym is) ∙ each given
    by_result (Err e) each = tt
