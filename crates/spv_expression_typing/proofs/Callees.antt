-- What is called, with its arguments read as it wants them, is what the definition makes of the call.
use Rattle.std.proofs.Math.Path.{fun_ext}
use Rattle.std.proofs.Common.{◌≡◌, Bool, true, false, cond, ◌+◌, ℕ, suc, List, [], ◌∷◌, length, map, Option, Some, None, Result, Ok, Err, IfOk, refl, sym, ap, subst, ◌∙◌, option_map, nat_eq, slice_get, arith}
use Rattle.spv_tree.specs.declared.syntax.names.Name.{Name}
use Rattle.spv_program.specs.Expressions.{Expression, Call}
use Rattle.spv_program.specs.declared.typed.programs.Formal.{Formal}
use Rattle.spv_program.specs.typed.ProgramViews.{formal_of}
use Rattle.spv_typing.specs.declared.faults.TypeFault.{TypeFault}
use Rattle.spv_typing.specs.declared.faults.TypeFault.TheVariants.{Count}
use Rattle.spv_typing.specs.declared.faults.TypeFault.TheVariants as fault
use Rattle.spv_typing.specs.FormulaWalk.{arity}
use Rattle.spv_environments.specs.Answers.{Stops}
use Rattle.spv_typing.specs.Outcomes.{Outcome, after, where_so, wrong}
use Rattle.spv_typing.specs.Known as known
use Rattle.spv_typing.specs.OperatorWalk.{Operand, Argument, operands}
use Rattle.spv_typing.specs.ExpressionWalk as spec
use Rattle.spv_environments.specs.declared.scopes.Meaning.{Meaning}
use Rattle.spv_environments.specs.declared.scopes.Meaning.TheVariants as meaning
use Rattle.spv_environments.specs.declared.routines.Heading.{Heading}
use Rattle.spv_logic.specs.declared.names.names.Symbol.{Symbol}
use Rattle.spv_environments.specs.Views.{heading_of}
use Rattle.spv_environments.specs.Scopes.{meaning_of}
use Rattle.spv_formula_typing.specs.declared.forms.Way.{Way}
use Rattle.spv_formula_typing.specs.declared.forms.Way.TheVariants as way
use Rattle.spv_formula_typing.proofs.Exits.{stops_after}
use Rattle.spv_formula_typing.specs.Arguments.{Given, AsValue, AsPlace, NoPlace, as_place, given_one, given_as}
use Rattle.spv_expression_typing.specs.declared.callee.Callee.{Callee}
use Rattle.spv_expression_typing.specs.declared.callee.Callee.TheVariants as callee
use Rattle.spv_expression_typing.specs.Applied.{meaning_callee, formal_way, way_in, seen, all_seen, call_with, no_call_fault, applied_to}

abbrev One : Type 0
One = Given Expression spec.Reached

abbrev Several : Type 0
Several = List (ℕ × One)

abbrev on_line : ℕ → One → Several → Outcome Several
on_line line g rest = Ok ((line, g) ∷ rest)

abbrev made_on : ℕ → spec.Given → List (ℕ × spec.Given) → Outcome (List (ℕ × spec.Given))
made_on line g rest = Ok ((line, g) ∷ rest)

abbrev all_of : Several → Outcome (List (ℕ × spec.Given))
all_of gs = Ok (all_seen gs)

abbrev seen_so : One → Outcome spec.Given
seen_so g = Ok (seen g)

abbrev value_read : Operand Expression → Outcome One
value_read o = Ok (AsValue o)

abbrev value_made : Operand Expression → Outcome spec.Given
value_made o = Ok (spec.AsValue o)

abbrev place_read : spec.Reached → Outcome One
place_read r = Ok (AsPlace r)

abbrev other_read : Operand Expression → Outcome One
other_read o = Ok NoPlace

through : {A B C : Type 0} (o : Outcome A) (f : A → Outcome B) (g : B → Outcome C) → after (after o f) g ≡ after o (λ x. after (f x) g)
through (Ok x) f g = refl
through (Err e) f g = refl

-- ---- the arguments of a routine

value_given : (p : Outcome (Operand Expression)) → after p (λ o. Ok (spec.AsValue o)) ≡ after (after p value_read) seen_so
value_given (Ok o) = refl
value_given (Err e) = refl

place_given : (a : Argument Expression spec.Reached) (p : Option (Outcome spec.Reached)) → spec.as_place a p ≡ after (as_place a.operand p) seen_so
place_given a None = by_case a.operand
  where
    by_case : (p : Outcome (Operand Expression)) → after p (λ o. Ok spec.NoPlace) ≡ after (after p other_read) seen_so
    by_case (Ok o) = refl
    by_case (Err e) = refl
place_given a (Some p) = by_case p
  where
    by_case : (p : Outcome spec.Reached) → after p (λ r. Ok (spec.AsPlace r)) ≡ after (after p place_read) seen_so
    by_case (Ok r) = refl
    by_case (Err e) = refl

one_given : (a : Argument Expression spec.Reached) (by_place : Bool)
    → cond by_place (spec.as_place a a.place) (after a.operand (λ o. Ok (spec.AsValue o))) ≡ after (given_one (cond by_place way.Place way.Value) a) seen_so
one_given a true = place_given a a.place
one_given a false = value_given a.operand

front : (line : ℕ) (p : Outcome spec.Given) (q : Outcome One) (r : Outcome (List (ℕ × spec.Given))) (s : Outcome Several)
    → p ≡ after q seen_so → r ≡ after s all_of
    → after p (λ g. after r (made_on line g)) ≡ after (after q (λ g. after s (on_line line g))) all_of
front line p (Ok g) r (Ok gs) h t = ap (λ o. after o (λ g. after r (made_on line g))) h ∙ ap (λ o. after o (made_on line (seen g))) t
front line p (Ok g) r (Err e) h t = ap (λ o. after o (λ g. after r (made_on line g))) h ∙ ap (λ o. after o (made_on line (seen g))) t
front line p (Err e) r s h t = ap (λ o. after o (λ g. after r (made_on line g))) h

given_is : (formals : List Formal) (given : List (Argument Expression spec.Reached)) (ways : ℕ → Way) (n : ℕ)
    → ((m : ℕ) → ways (m + n) ≡ formal_way (slice_get formals m))
    → spec.given_to (map formal_of formals) given ≡ after (given_as ways n given) all_of
given_is formals [] ways n each = refl
given_is [] (a ∷ others) ways n each =
    sym (through a.operand value_made (λ g. after (spec.given_to [] others) (made_on a.line g)))
    ∙ front a.line _ (given_one (ways n) a) (spec.given_to [] others) (given_as ways (suc n) others)
    (value_given a.operand ∙ ap (λ w. after (given_one w a) seen_so) (sym (ap ways here ∙ each 0)))
    (given_is [] others ways (suc n) (λ m. ap ways (next m) ∙ each (suc m)))
  where
    here : n ≡ 0 + n
    here = omega arith

    next : (m : ℕ) → m + suc n ≡ suc m + n
    next m = omega arith
given_is (f ∷ formals) (a ∷ others) ways n each =
    front a.line _ (given_one (ways n) a) (spec.given_to (map formal_of formals) others) (given_as ways (suc n) others)
    (one_given a f.by_place ∙ ap (λ w. after (given_one w a) seen_so) (sym (ap ways here ∙ each 0)))
    (given_is formals others ways (suc n) (λ m. ap ways (next m) ∙ each (suc m)))
  where
    here : n ≡ 0 + n
    here = omega arith

    next : (m : ℕ) → m + suc n ≡ suc m + n
    next m = omega arith

abbrev call_made : known.Scope → ℕ → ℕ → known.Heading → Several → Outcome Call
call_made s line at h gs = call_with s.known.program.forms line at h (all_seen gs)

pub routine_called : (s : known.Scope) (line at : ℕ) (name : Symbol) (h : Heading) (given : List (Argument Expression spec.Reached)) (ways : ℕ → Way)
    → ((m : ℕ) → ways m ≡ formal_way (slice_get h.formals m))
    → spec.call_of s line at (heading_of name h) given ≡ after (given_as ways 0 given) (call_made s line at (heading_of name h))
routine_called s line at name h given ways each =
    ap (λ o. after o (call_with s.known.program.forms line at (heading_of name h))) (given_is h.formals given ways 0 (λ m. ap ways (at_first m) ∙ each m))
    ∙ by_case (given_as ways 0 given)
  where
    at_first : (m : ℕ) → m + 0 ≡ m
    at_first m = omega arith

    by_case : (o : Outcome Several) → after (after o all_of) (call_with s.known.program.forms line at (heading_of name h)) ≡ after o (call_made s line at (heading_of name h))
    by_case (Ok gs) = refl
    by_case (Err e) = refl

-- ---- the arguments of what is no routine

module _ (A : Type 0) (ways : ℕ → Way) (each : (m : ℕ) → ways m ≡ way.Value) where
  -- as many, and the same first fault
  many_given : (n : ℕ) (given : List (Argument Expression spec.Reached)) (answer : ℕ → Outcome A)
      → after (operands given) (λ os. answer (length os)) ≡ after (given_as ways n given) (λ gs. answer (length gs))
  many_given n [] answer = refl
  many_given n (a ∷ others) answer =
      by_operand a.operand (many_given (suc n) others (λ m. answer (suc m)))
      ∙ ap (λ w. after (after (given_one w a) (λ g. after (given_as ways (suc n) others) (on_line a.line g))) (λ gs. answer (length gs))) (sym (each n))
    where
      by_rest : (o : Operand Expression) (p : Outcome (List (ℕ × Operand Expression))) (q : Outcome Several)
          → after p (λ os. answer (suc (length os))) ≡ after q (λ gs. answer (suc (length gs)))
          → after (after p (λ rest. Ok ((a.line, o) ∷ rest))) (λ os. answer (length os)) ≡ after (after q (on_line a.line (AsValue o))) (λ gs. answer (length gs))
      by_rest o (Ok os) (Ok gs) h = h
      by_rest o (Ok os) (Err e) h = h
      by_rest o (Err e) (Ok gs) h = h
      by_rest o (Err e) (Err f) h = h

      by_operand : (p : Outcome (Operand Expression))
          → after (operands others) (λ os. answer (suc (length os))) ≡ after (given_as ways (suc n) others) (λ gs. answer (suc (length gs)))
          → after (after p (λ o. after (operands others) (λ rest. Ok ((a.line, o) ∷ rest)))) (λ os. answer (length os))
          ≡ after (after (after p value_read) (λ g. after (given_as ways (suc n) others) (on_line a.line g))) (λ gs. answer (length gs))
      by_operand (Ok o) h = by_rest o (operands others) (given_as ways (suc n) others) h
      by_operand (Err e) h = refl

abbrev refused : ℕ → Option ℕ → ℕ → Outcome spec.Reached
refused line count n = Err (no_call_fault line count n)

abbrev refused_by : ℕ → Bool → Outcome spec.Reached
refused_by line b = Err (cond b (wrong line) (Count line))

counted : (line : ℕ) (b : Bool) → where_so b (Count line) (Err (wrong line)) ≡ refused_by line b
counted line true = refl
counted line false = refl

refused_is : (line : ℕ) (count : Option ℕ) (given : List (Argument Expression spec.Reached))
    → spec.no_call line count given ≡ after (operands given) (λ os. refused line count (length os))
refused_is line None given = refl
refused_is line (Some n) given = ap (after (operands given)) (fun_ext (λ os. counted line (nat_eq (length os) n)))

abbrev other_way : ℕ → Way
other_way n = way.Value

pub other_called : (line : ℕ) (count : Option ℕ) (given : List (Argument Expression spec.Reached))
    → spec.no_call line count given ≡ after (given_as other_way 0 given) (λ gs. refused line count (length gs))
other_called line count given = refused_is line count given ∙ many_given spec.Reached other_way (λ m. refl) 0 given (refused line count)

-- ---- what is called

pub function_called : (s : known.Scope) (line : ℕ) (x : Name) (b : known.Function) (given : List (Argument Expression spec.Reached)) → known.function s x.symbol ≡ Some b
    → spec.applied_of s line x (known.function s x.symbol) given
    ≡ after (given_as (way_in (callee.Other (Some (arity b)))) 0 given) (applied_to s line x (callee.Other (Some (arity b))))
function_called s line x b given h = ap (λ o. spec.applied_of s line x o given) h ∙ other_called line (Some (arity b)) given

found_called : (s : known.Scope) (line : ℕ) (x : Name) (found : Meaning) (given : List (Argument Expression spec.Reached))
    → IfOk (meaning_callee x (Some found)) (λ c. spec.named_applied s line x (Some (meaning_of found)) given ≡ after (given_as (way_in c) 0 given) (applied_to s line x c))
found_called s line x (meaning.Type t) given = other_called line None given
found_called s line x meaning.List given = other_called line None given
found_called s line x (meaning.Constant z) given = other_called line None given
found_called s line x (meaning.Place t) given = other_called line None given
found_called s line x (meaning.Start t) given = other_called line None given
found_called s line x (meaning.Declared name signature) given = other_called line (Some (length signature.now.args)) given
found_called s line x (meaning.Routine name heading) given =
    ap (λ o. after o (λ c. spec.function_result line (heading_of name heading.now) c))
    (routine_called s line x.line name heading.now given (way_in (callee.Routine name heading)) (λ m. refl))
    ∙ through (given_as (way_in (callee.Routine name heading)) 0 given) (call_made s line x.line (heading_of name heading.now)) (λ c. spec.function_result line (heading_of name heading.now) c)

pub meaning_called : (s : known.Scope) (line : ℕ) (x : Name) (found : Option Meaning) (r : Result Callee TypeFault) → known.function s x.symbol ≡ None
    → option_map meaning_of found ≡ known.meaning s x.symbol → r ≡ meaning_callee x found
    → IfOk r (λ c. (given : List (Argument Expression spec.Reached)) → spec.applied_of s line x (known.function s x.symbol) given ≡ after (given_as (way_in c) 0 given) (applied_to s line x c))
meaning_called s line x None (Ok c) none is h = absurd cc
meaning_called s line x None (Err e) none is h = tt
meaning_called s line x (Some found) r none is h =
    subst (λ (r : Result Callee TypeFault). IfOk r (λ c. (given : List (Argument Expression spec.Reached)) → spec.applied_of s line x (known.function s x.symbol) given ≡ after (given_as (way_in c) 0 given) (applied_to s line x c))) (sym h)
    (by_result (meaning_callee x (Some found)) (λ given. found_called s line x found given))
  where
    by_result : (r : Result Callee TypeFault)
        → ((given : List (Argument Expression spec.Reached)) → IfOk r (λ c. spec.named_applied s line x (Some (meaning_of found)) given ≡ after (given_as (way_in c) 0 given) (applied_to s line x c)))
        → IfOk r (λ c. (given : List (Argument Expression spec.Reached)) → spec.applied_of s line x (known.function s x.symbol) given ≡ after (given_as (way_in c) 0 given) (applied_to s line x c))
    by_result (Ok c) each = λ given. ap (λ o. spec.applied_of s line x o given) none ∙ ap (λ o. spec.named_applied s line x o given) (sym is) ∙ each given
    by_result (Err e) each = tt

-- ---- calls that are statements

pub stopped : {A : Type 0} (e : TypeFault) (o : Outcome A) → o ≡ Err e → Stops e o
stopped fault.Memory o h = tt
stopped (fault.Undeclared line x) o h = h
stopped (fault.DeclaredTwice line x) o h = h
stopped (fault.LabelTwice line z) o h = h
stopped (fault.WrongType line) o h = h
stopped (fault.Count line) o h = h
stopped (fault.Nested line x) o h = h
stopped (fault.ProcParameter line x) o h = h
stopped (fault.ControlChanged line x) o h = h

module _ (s : known.Scope) (line : ℕ) (given : List (Argument Expression spec.Reached)) where
  pub nothing_called : (count : Option ℕ) (gs : Several) (n : ℕ) → given_as (way_in (callee.Other count)) 0 given ≡ Ok gs → n ≡ length gs
      → Stops (no_call_fault line count n) (spec.no_call line count given)
  nothing_called count gs n h same =
      stopped (no_call_fault line count n) (spec.no_call line count given)
      (other_called line count given ∙ ap (λ o. after o (λ gs. refused line count (length gs))) h ∙ ap (refused line count) (sym same))

  pub nothing_stops : (count : Option ℕ) (e : TypeFault) → Stops e (given_as (way_in (callee.Other count)) 0 given) → Stops e (spec.no_call line count given)
  nothing_stops count e h =
      subst (Stops e) (sym (other_called line count given)) (stops_after e (given_as (way_in (callee.Other count)) 0 given) (λ gs. refused line count (length gs)) h)

  module _ (at : ℕ) (name : Symbol) (h : Heading) (ways : ℕ → Way) (each : (m : ℕ) → ways m ≡ formal_way (slice_get h.formals m)) where
    pub call_is : (gs : Several) → given_as ways 0 given ≡ Ok gs → spec.call_of s line at (heading_of name h) given ≡ call_made s line at (heading_of name h) gs
    call_is gs read = routine_called s line at name h given ways each ∙ ap (λ o. after o (call_made s line at (heading_of name h))) read

    pub call_stops : (e : TypeFault) → Stops e (given_as ways 0 given) → Stops e (spec.call_of s line at (heading_of name h) given)
    call_stops e stops =
        subst (Stops e) (sym (routine_called s line at name h given ways each)) (stops_after e (given_as ways 0 given) (call_made s line at (heading_of name h)) stops)
