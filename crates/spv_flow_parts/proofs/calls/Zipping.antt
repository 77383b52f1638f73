-- Parameters and arguments side by side.
use Rattle.std.proofs.Common.{◌≡◌, ℕ, zero, suc, ◌+◌, ◌<◌, ◌≤◌, true, false, List, [], ◌∷◌, ◌++◌, map, get_or, drop, length, Result, Ok, Err, IsErrAnd, Some, refl, sym, ap, subst, ◌∙◌, arith}
use Rattle.std.proofs.lemmas.List.{drop_all, drop_more}
use Rattle.std.specs.Prelude.{⊤}
use Rattle.std.specs.List.{list_all}
use Rattle.spv_logic.proofs.list.Tests.{left_true, right_true}
use Rattle.spv_logic.specs.declared.conditions.TermId.{TermId}
use Rattle.spv_logic.specs.declared.conditions.RoutineId.{RoutineId}
use Rattle.spv_logic.specs.declared.types.Shape.{Shape}
use Rattle.spv_logic.specs.declared.types.Sort.{Sort}
use Rattle.spv_logic.specs.declared.operators.Head.{Head}
use Rattle.spv_logic.specs.declared.operators.Head.TheVariants as head
use Rattle.spv_logic.specs.Terms.{Term}
use Rattle.spv_logic.specs.Sorts.{sort_in_range, term_sort}
use Rattle.spv_term.specs.Arena.{Arena, Extends}
use Rattle.spv_program.specs.declared.types.TypeForm.{TypeForm}
use Rattle.spv_program.specs.declared.typed.programs.Formal.{Formal as FormalText}
use Rattle.spv_program.specs.typed.ProgramViews.{formal_of}
use Rattle.spv_program.specs.Lists.{item_at}
use Rattle.spv_program.specs.Types.{sort_of, type_exists}
use Rattle.spv_program.specs.Programs.{Formal, Routine, Program, shapes}
use Rattle.spv_program.specs.Terms.{truth}
use Rattle.spv_program.specs.Typing.{declarations_ok, heading_ok, routine_ok}
use Rattle.spv_program.specs.Calls as argument
use Rattle.spv_program.specs.Calls.{Argument, at_call, formal_head, present_argument, starts_at_call}
use Rattle.spv_program.proofs.SortFacts.{nothing_there, some_is}
use Rattle.spv_expression_terms.proofs.makeable_terms.Ranges.{sort_there}
use Rattle.spv_expression_terms.proofs.makeable_terms.Scopes.{forms_right}
use Rattle.spv_assign.specs.declared.creation_trace.faults.GenFault.{GenFault}
use Rattle.spv_assign.specs.creation_trace.Events.{Stops}
use Rattle.spv_assign.specs.creation_trace.StatementEvents.{pair_terms, several}
use Rattle.spv_assign.specs.limited_steps.Makes.{IsTerm}
use Rattle.spv_flow_parts.specs.declared.calls.passed.Argument as code_argument
use Rattle.spv_flow_parts.specs.calls.Arguments.{IsOver, AddsPairs, AreArguments, ArePresent, FitFormals, IsArgument, IsAtCall, argument_in}
use Rattle.spv_flow_parts.proofs.calls.Building.{PairsSoFar, pairs_begin, pairs_end, pairs_next, pairs_stop, pairs_stop_walk}
use Rattle.spv_flow_parts.proofs.calls.Passing.{AreArguments-Extends, argument_is, argument_itself, given_at, given_count, present_at, present_count, sort_at_place, texts_count}

-- ---- a routine of a well typed program

routine_right : (p : Program) (rs : List Routine) (n : ℕ) (r : Routine) → list_all (routine_ok p) rs ≡ true → item_at rs n ≡ Some r → routine_ok p r ≡ true
routine_right p [] n r h e = absurd (nothing_there e)
routine_right p (q ∷ rs) zero r h e = ap (routine_ok p) (sym (some_is e)) ∙ left_true (routine_ok p q) (list_all (routine_ok p) rs) h
routine_right p (q ∷ rs) (suc n) r h e = routine_right p rs n r (right_true (routine_ok p q) (list_all (routine_ok p) rs) h) e

type_somewhere : (p : Program) (formals : List FormalText) (place : ℕ) (d : FormalText) → list_all (λ f. type_exists p.forms f.of) (map formal_of formals) ≡ true → place < length formals
    → type_exists p.forms (get_or formals place d).of ≡ true
type_somewhere p [] place d h low = absurd (omega (arith, low))
type_somewhere p (f ∷ formals) zero d h low = left_true (type_exists p.forms f.of) (list_all (λ f. type_exists p.forms f.of) (map formal_of formals)) h
type_somewhere p (f ∷ formals) (suc n) d h low =
    type_somewhere p formals n d (right_true (type_exists p.forms f.of) (list_all (λ f. type_exists p.forms f.of) (map formal_of formals)) h) (let e : n < length formals = omega (arith, low) in e)

module _ (p : Program) (old : Arena) (number : RoutineId) (r : Routine) (arguments : List Argument) (at : IsAtCall p old number r arguments) where
  pub right_declarations : declarations_ok p ≡ true
  right_declarations = left_true (declarations_ok p) _ at.typed

  pub over_at : IsOver p old
  over_at = record { typed = at.typed; shapes_are = at.shapes_are; decls_are = at.decls_are }

  pub right_routine : routine_ok p r ≡ true
  right_routine = routine_right p p.routines number.0 r (left_true (list_all (routine_ok p) p.routines) _ (right_true (declarations_ok p) _ at.typed)) at.routine

  pub right_heading : heading_ok p r ≡ true
  right_heading = left_true (heading_ok p r) _ right_routine

  pub IsAtCall-Extends : (a : Arena) → Extends old a → IsAtCall p a number r arguments
  IsAtCall-Extends a more = record {
    typed = at.typed;
    shapes_are = more.shapes ∙ at.shapes_are;
    decls_are = more.decls ∙ at.decls_are;
    routine = at.routine;
    fit = at.fit;
  }

  pub sort_in : (x : Term) → term_sort old.shapes old.decls x ≡ term_sort (shapes p) p.symbols x
  sort_in x = let first = at.shapes_are in let second = at.decls_are in λ i. term_sort (first i) (second i) x

  pub range_in : (s : Sort) → sort_in_range (shapes p) s ≡ true → sort_in_range old.shapes s ≡ true
  range_in s e = ap (λ (l : List Shape). sort_in_range l s) at.shapes_are ∙ e

  module _ (formals : List FormalText) (given : List code_argument.Argument) (place : ℕ) (are : map formal_of formals ≡ r.formals) (are_given : AreArguments old given arguments) where
    pub formal_low : place < length given → place < length formals
    formal_low low =
        let count = given_count old given arguments are_given in
        let formal = texts_count p formals r.formals arguments are at.fit in
        omega (arith, low, count, formal)

    pub formal_past : length given ≤ place → length formals ≤ place
    formal_past past =
        let count = given_count old given arguments are_given in
        let formal = texts_count p formals r.formals arguments are at.fit in
        omega (arith, past, count, formal)

  pub passed_count : (formals : List FormalText) (now : List TermId) → map formal_of formals ≡ r.formals → ArePresent old now arguments → length formals ≤ length now
  passed_count formals now are present =
      let count = present_count old now arguments present in
      let formal = texts_count p formals r.formals arguments are at.fit in
      omega (arith, count, formal)

  -- ---- the parameter at a place

  module _ (forms : List TypeForm) (formals : List FormalText) (d : FormalText) (place : ℕ) (x : Argument) (are : map formal_of formals ≡ r.formals) (forms_are : forms ≡ p.forms) (low : place < length formals) where
    fit : FitFormals p (map formal_of formals) arguments
    fit = subst (λ (fs : List Formal). FitFormals p fs arguments) (sym are) at.fit

    pub place_given : place < length arguments
    place_given = let count = texts_count p formals r.formals arguments are at.fit in omega (arith, low, count)

    pub formal_range : (s : Sort) → s ≡ sort_of forms (get_or formals place d).of → sort_in_range old.shapes s ≡ true
    formal_range s is =
        let exists = type_somewhere p formals place d (ap (λ (fs : List Formal). list_all (λ f. type_exists p.forms f.of) fs) are ∙ left_true (list_all (λ f. type_exists p.forms f.of) r.formals) _ right_heading) low in
        ap (sort_in_range old.shapes) (is ∙ ap (λ (fs : List TypeForm). sort_of fs (get_or formals place d).of) forms_are)
        ∙ range_in (sort_of p.forms (get_or formals place d).of) (sort_there p.forms (get_or formals place d).of (forms_right p right_declarations) exists)

    pub formal_sort : (s : Sort) → s ≡ sort_of forms (get_or formals place d).of → (t : Term) → t ≡ present_argument (get_or arguments place x) → term_sort old.shapes old.decls t ≡ Some s
    formal_sort s is t same =
        ap (term_sort old.shapes old.decls) same
        ∙ sort_in (present_argument (get_or arguments place x))
        ∙ sort_at_place p formals arguments place d x fit low
        ∙ ap Some (sym (is ∙ ap (λ (fs : List TypeForm). sort_of fs (get_or formals place d).of) forms_are))

    module _ (now : List TermId) (present : ArePresent old now arguments) where
      pub place_present : place < length now
      place_present = let count = present_count old now arguments present in let given = place_given in omega (arith, given, count)

      pub is_present : (t : TermId) → IsTerm old (get_or now place t) (present_argument (get_or arguments place x))
      is_present t = present_at old now arguments place t x present place_present

-- the same by other names
pub at_as : (p q : Program) (a : Arena) (number : RoutineId) (r s : Routine) (arguments : List Argument) → q ≡ p → s ≡ r → IsAtCall p a number r arguments → IsAtCall q a number s arguments
at_as p q a number r s arguments e f at = subst (λ (x : Program). IsAtCall x a number s arguments) (sym e) (subst (λ (x : Routine). IsAtCall p a number x arguments) (sym f) at)

-- ---- pairs of parameters and arguments

module _ (zip : List Formal → List Argument → List (Head × Term)) where
  -- a list for each parameter with its argument, one after the other
  pub record IsByPlace : Type 0 where
    pub more : (f : Formal) (fs : List Formal) (x : Argument) (xs : List Argument) → zip (f ∷ fs) (x ∷ xs) ≡ zip (f ∷ []) (x ∷ []) ++ zip fs xs
    pub none : (xs : List Argument) → zip [] xs ≡ []

  pub zip_more : IsByPlace → (formals : List FormalText) (arguments : List Argument) (place : ℕ) (d : FormalText) (x : Argument) → place < length formals → place < length arguments
      → zip (map formal_of (drop place formals)) (drop place arguments)
      ≡ zip (formal_of (get_or formals place d) ∷ []) (get_or arguments place x ∷ []) ++ zip (map formal_of (drop (place + 1) formals)) (drop (place + 1) arguments)
  zip_more by formals arguments place d x low given =
      let fs = drop_more formals place d low in
      let xs = drop_more arguments place x given in
      (λ i. zip (map formal_of (fs i)) (xs i))
      ∙ by.more (formal_of (get_or formals place d)) (map formal_of (drop (place + 1) formals)) (get_or arguments place x) (drop (place + 1) arguments)

  pub zip_none : IsByPlace → (formals : List FormalText) (arguments : List Argument) (place : ℕ) → length formals ≤ place → zip (map formal_of (drop place formals)) (drop place arguments) ≡ []
  zip_none by formals arguments place past = ap (λ (fs : List FormalText). zip (map formal_of fs) (drop place arguments)) (drop_all place formals past) ∙ by.none (drop place arguments)

pub at_call_by_place : (p : Program) → IsByPlace (at_call p)
at_call_by_place p = record { more = λ f fs x xs. refl; none = λ xs. refl }

pub starts_by_place : (p : Program) → IsByPlace (starts_at_call p)
starts_by_place p = record { more = more; none = λ xs. refl }
  where
    more : (f : Formal) (fs : List Formal) (x : Argument) (xs : List Argument) → starts_at_call p (f ∷ fs) (x ∷ xs) ≡ starts_at_call p (f ∷ []) (x ∷ []) ++ starts_at_call p fs xs
    more f fs (argument.Given t) xs = refl
    more f fs (argument.AtPlace d) xs = refl

abbrev pub no_formal : FormalText
no_formal = record { name = record { 0 = 0 }; of = record { 0 = 0 }; by_place = false; line = 0 }

abbrev pub no_argument : Argument
no_argument = argument.Given (truth true)

-- what was put in place so far
module _ (zip : List Formal → List Argument → List (Head × Term)) (by : IsByPlace zip) (formals : List FormalText) (wanted : List Formal) (arguments : List Argument) where
  abbrev left_at : ℕ → List (Head × Term)
  left_at place = zip (map formal_of (drop place formals)) (drop place arguments)

  pub zip_begin : (old : Arena) (start : List (TermId × TermId)) → map formal_of formals ≡ wanted → PairsSoFar old old (zip wanted arguments) (zip (map formal_of (drop 0 formals)) (drop 0 arguments)) start start
  zip_begin old start are =
      subst (λ (fs : List Formal). PairsSoFar old old (zip fs arguments) (zip (map formal_of formals) arguments) start start) are (pairs_begin old (zip (map formal_of formals) arguments) start)

  pub zip_begin_none : (old : Arena) (start : List (TermId × TermId)) → map formal_of formals ≡ wanted → start ≡ [] → PairsSoFar old old (zip wanted arguments) (zip (map formal_of (drop 0 formals)) (drop 0 arguments)) [] start
  zip_begin_none old start are none =
      subst (λ (l : List (TermId × TermId)). PairsSoFar old old (zip wanted arguments) (zip (map formal_of (drop 0 formals)) (drop 0 arguments)) [] l) (sym none) (zip_begin old [] are)

  module _ (old a b : Arena) (place : ℕ) (start now : List (TermId × TermId)) (low : place < length formals) (given : place < length arguments)
      (h : PairsSoFar old a (zip wanted arguments) (zip (map formal_of (drop place formals)) (drop place arguments)) start now) where
    abbrev here : List (Head × Term)
    here = zip (formal_of (get_or formals place no_formal) ∷ []) (get_or arguments place no_argument ∷ [])

    split : PairsSoFar old a (zip wanted arguments) (here ++ left_at (place + 1)) start now
    split = subst (λ (l : List (Head × Term)). PairsSoFar old a (zip wanted arguments) l start now) (zip_more zip by formals arguments place no_formal no_argument low given) h

    pub zip_next : (qs : List (Head × Term)) → qs ≡ zip (formal_of (get_or formals place no_formal) ∷ []) (get_or arguments place no_argument ∷ []) → (u : ⊤) (new : List (TermId × TermId)) → AddsPairs (Ok u) qs a b now new
        → PairsSoFar old b (zip wanted arguments) (zip (map formal_of (drop (place + 1) formals)) (drop (place + 1) arguments)) start new
    zip_next qs are u new k = pairs_next old a b (zip wanted arguments) here (left_at (place + 1)) start now split u new (subst (λ (l : List (Head × Term)). AddsPairs (Ok u) l a b now new) are k)

    pub zip_stop_walk : (qs : List (Head × Term)) → qs ≡ zip (formal_of (get_or formals place no_formal) ∷ []) (get_or arguments place no_argument ∷ []) → (e : GenFault) → Stops e (several (pair_terms qs)) a b
        → Stops e (several (pair_terms (zip wanted arguments))) old b
    zip_stop_walk qs are e stops =
        pairs_stop_walk old a b (zip wanted arguments) here (left_at (place + 1)) start now split e (subst (λ (l : List (Head × Term)). Stops e (several (pair_terms l)) a b) are stops)

    pub zip_stop : (qs : List (Head × Term)) → qs ≡ zip (formal_of (get_or formals place no_formal) ∷ []) (get_or arguments place no_argument ∷ []) → (r : Result ⊤ GenFault) (e : GenFault) (new last : List (TermId × TermId))
        → IsErrAnd r (λ f. f ≡ e) → AddsPairs (Err e) qs a b now new → AddsPairs r (zip wanted arguments) old b start last
    zip_stop qs are r e new last is k =
        pairs_stop old a b (zip wanted arguments) here (left_at (place + 1)) start now split r e new last is (subst (λ (l : List (Head × Term)). AddsPairs (Err e) l a b now new) are k)

  pub zip_end : (old a : Arena) (place : ℕ) (start now : List (TermId × TermId)) → length formals ≤ place → PairsSoFar old a (zip wanted arguments) (zip (map formal_of (drop place formals)) (drop place arguments)) start now → (u : ⊤)
      → AddsPairs (Ok u) (zip wanted arguments) old a start now
  zip_end old a place start now past h u = pairs_end (zip wanted arguments) (left_at place) start now (zip_none zip by formals arguments place past) h u

-- a parameter and what stands for it
pub at_call_pair : (p : Program) (f : FormalText) (x : Argument) (forms : List TypeForm) (s : Sort) (t : Term) → forms ≡ p.forms → s ≡ sort_of forms f.of → t ≡ present_argument x
    → (head.Var f.name s 0, t) ∷ [] ≡ at_call p (formal_of f ∷ []) (x ∷ [])
at_call_pair p f x forms s t forms_are is same =
    let sort : s ≡ sort_of p.forms f.of = is ∙ ap (λ (fs : List TypeForm). sort_of fs f.of) forms_are in
    λ i. (head.Var f.name (sort i) 0, same i) ∷ []

-- a value parameter and its argument, or a VAR parameter and its place
pub record StartHere (p : Program) (a : Arena) (f : FormalText) (g : code_argument.Argument) (arguments : List Argument) (place : ℕ) : Type 0 where
  pub low : place < length arguments
  pub range : sort_in_range a.shapes (sort_of p.forms f.of) ≡ true
  pub given : IsArgument a g (argument_in a g)
  pub sort : term_sort a.shapes a.decls (present_argument (argument_in a g)) ≡ Some (sort_of p.forms f.of)
  pub same : starts_at_call p (formal_of f ∷ []) (argument_in a g ∷ []) ≡ starts_at_call p (formal_of f ∷ []) (get_or arguments place no_argument ∷ [])

pub start_here : (p : Program) (old a : Arena) (number : RoutineId) (r : Routine) (arguments : List Argument) → IsAtCall p old number r arguments → Extends old a → (formals : List FormalText) (given : List code_argument.Argument) (g : code_argument.Argument) (place : ℕ)
    → map formal_of formals ≡ r.formals → AreArguments old given arguments → place < length formals → place < length given → g ≡ get_or given place g → StartHere p a (get_or formals place no_formal) g arguments place
start_here p old a number r arguments at more formals given g place are are_given low given_low item =
    let f = get_or formals place no_formal in
    let now = IsAtCall-Extends p old number r arguments at a more in
    let is = subst (λ (t : code_argument.Argument). IsArgument a t (get_or arguments place no_argument)) (sym item) (given_at a given arguments place g no_argument (AreArguments-Extends more given arguments are_given) given_low) in
    let same = argument_is a g (get_or arguments place no_argument) is in
    record {
      low = place_given p old number r arguments at p.forms formals f place no_argument are refl low;
      range = formal_range p a number r arguments now p.forms formals no_formal place no_argument are refl low (sort_of p.forms f.of) refl;
      given = argument_itself a g (get_or arguments place no_argument) is;
      sort = formal_sort p a number r arguments now p.forms formals no_formal place no_argument are refl low (sort_of p.forms f.of) refl (present_argument (argument_in a g)) (ap present_argument same);
      same = ap (λ (x : Argument). starts_at_call p (formal_of f ∷ []) (x ∷ [])) same;
    }
