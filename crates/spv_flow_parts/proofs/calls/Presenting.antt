-- What stands for arguments, one after the other.
use Rattle.std.proofs.Common.{◌≡◌, ℕ, zero, suc, ◌+◌, ◌<◌, ◌≤◌, List, [], ◌∷◌, ◌++◌, map, get_or, drop, take, length, IsSome, refl, sym, ap, subst, ◌∙◌, arith}
use Rattle.std.proofs.lemmas.List.{drop_all, drop_more, take_all, take_more}
use Rattle.spv_logic.specs.declared.conditions.TermId.{TermId}
use Rattle.spv_logic.specs.declared.conditions.RoutineId.{RoutineId}
use Rattle.spv_logic.specs.declared.types.Decl.{Decl}
use Rattle.spv_logic.specs.declared.types.Shape.{Shape}
use Rattle.spv_logic.specs.Terms.{Term}
use Rattle.spv_logic.specs.Sorts.{term_sort}
use Rattle.spv_term.specs.Arena.{Arena, Extends}
use Rattle.spv_program.specs.Programs.{Formal, Routine, Program}
use Rattle.spv_program.specs.Calls.{Argument, present_argument}
use Rattle.spv_assign.specs.declared.creation_trace.faults.GenFault.{GenFault}
use Rattle.spv_assign.specs.creation_trace.Events.{Stops, Walked}
use Rattle.spv_assign.specs.creation_trace.StatementEvents.{several}
use Rattle.spv_assign.specs.limited_steps.Makes.{IsTerm}
use Rattle.spv_flow_parts.specs.declared.calls.passed.Argument as code_argument
use Rattle.spv_flow_parts.specs.calls.Arguments.{AreArguments, ArePresent, IsArgument, FitFormals, HaveSorts, IsAtCall, argument_in}
use Rattle.spv_flow_parts.proofs.calls.Building.{TermsSoFar, terms_begin, terms_end, terms_next, terms_stop}
use Rattle.spv_flow_parts.proofs.calls.Passing.{AreArguments-Extends, ArePresent-Extends, argument_is, argument_itself, given_at, given_count}
use Rattle.spv_flow_parts.proofs.calls.Zipping.{no_argument, sort_in}

pub record PresentSoFar (old a : Arena) (arguments : List Argument) (place : ℕ) (ids : List TermId) : Type 0 where
  pub terms : TermsSoFar old a (map present_argument arguments) (map present_argument (drop place arguments))
  pub present : ArePresent a ids (take place arguments)

pub present_begin : (old : Arena) (arguments : List Argument) (ids : List TermId) → ids ≡ [] → PresentSoFar old old arguments 0 ids
present_begin old arguments ids none = subst (λ (l : List TermId). PresentSoFar old old arguments 0 l) (sym none) (record { terms = terms_begin old (map present_argument arguments); present = tt })

present_push : (a : Arena) (ids : List TermId) (arguments : List Argument) (t : TermId) (x : Argument) → ArePresent a ids arguments → IsTerm a t (present_argument x) → ArePresent a (ids ++ t ∷ []) (arguments ++ x ∷ [])
present_push a [] [] t x h is = (is, tt)
present_push a (s ∷ ids) (y ∷ arguments) t x h is = (h.0, present_push a ids arguments t x h.1 is)
present_push a [] (y ∷ arguments) t x h is = absurd h
present_push a (s ∷ ids) [] t x h is = absurd h

have_sort : (shapes : List Shape) (decls : List Decl) (arguments : List Argument) (place : ℕ) (d : Argument) → HaveSorts shapes decls arguments → place < length arguments → IsSome (term_sort shapes decls (present_argument (get_or arguments place d)))
have_sort shapes decls [] place d h low = absurd (omega (arith, low))
have_sort shapes decls (x ∷ arguments) zero d h low = h.0
have_sort shapes decls (x ∷ arguments) (suc n) d h low = have_sort shapes decls arguments n d h.1 (let e : n < length arguments = omega (arith, low) in e)

-- arguments of a call have sorts
pub have_sorts : (p : Program) (a : Arena) (number : RoutineId) (r : Routine) (arguments : List Argument) → IsAtCall p a number r arguments → HaveSorts a.shapes a.decls arguments
have_sorts p a number r arguments at = by r.formals arguments at.fit
  where
    by : (formals : List Formal) (xs : List Argument) → FitFormals p formals xs → HaveSorts a.shapes a.decls xs
    by [] [] h = tt
    by (f ∷ formals) (x ∷ xs) h = (subst IsSome (sym (sort_in p a number r arguments at (present_argument x) ∙ h.0)) refl, by formals xs h.1)
    by [] (x ∷ xs) h = absurd h
    by (f ∷ formals) [] h = absurd h

module _ (old a : Arena) (arguments : List Argument) (place : ℕ) (ids : List TermId) (given : List code_argument.Argument) (g : code_argument.Argument) (h : PresentSoFar old a arguments place ids) (are : AreArguments old given arguments)
    (low : place < length given) (item : g ≡ get_or given place g) where
  pub given_low : place < length arguments
  given_low = let count = given_count old given arguments are in omega (arith, low, count)

  abbrev x : Argument
  x = get_or arguments place no_argument

  pub is_given_item : IsArgument a g (get_or arguments place no_argument)
  is_given_item =
      subst (λ (t : code_argument.Argument). IsArgument a t (get_or arguments place no_argument)) (sym item)
      (given_at a given arguments place g no_argument (AreArguments-Extends h.terms.walked.grows given arguments are) low)

  pub given_itself : IsArgument a g (argument_in a g)
  given_itself = argument_itself a g x is_given_item

  same_item : argument_in a g ≡ get_or arguments place no_argument
  same_item = argument_is a g x is_given_item

  pub given_sort : HaveSorts old.shapes old.decls arguments → IsSome (term_sort a.shapes a.decls (present_argument (argument_in a g)))
  given_sort sorts =
      let more = h.terms.walked.grows in
      let first = more.shapes in
      let second = more.decls in
      subst IsSome (sym (ap (λ (y : Argument). term_sort a.shapes a.decls (present_argument y)) same_item ∙ (λ i. term_sort (first i) (second i) (present_argument x))))
      (have_sort old.shapes old.decls arguments place no_argument sorts given_low)

  split : TermsSoFar old a (map present_argument arguments) ((present_argument x ∷ []) ++ map present_argument (drop (place + 1) arguments))
  split = subst (λ (l : List Argument). TermsSoFar old a (map present_argument arguments) (map present_argument l)) (drop_more arguments place no_argument given_low) h.terms

  same_walk : present_argument (argument_in a g) ∷ [] ≡ present_argument x ∷ []
  same_walk = ap (λ (y : Argument). present_argument y ∷ []) same_item

  pub present_stop : (b : Arena) (e : GenFault) → Stops e (several (present_argument (argument_in a g) ∷ [])) a b → Stops e (several (map present_argument arguments)) old b
  present_stop b e stops =
      terms_stop e old a b (map present_argument arguments) (present_argument x ∷ []) (map present_argument (drop (place + 1) arguments)) split
      (subst (λ (l : List Term). Stops e (several l) a b) same_walk stops)

  pub present_next : (b : Arena) (t : TermId) (new : List TermId) → Extends a b → Walked (several (present_argument (argument_in a g) ∷ [])) a b → IsTerm b t (present_argument (argument_in a g)) → new ≡ ids ++ t ∷ []
      → PresentSoFar old b arguments (place + 1) new
  present_next b t new more walked is pushed = record {
    terms = terms_next (map present_argument arguments) (present_argument x ∷ []) (map present_argument (drop (place + 1) arguments)) split (subst (λ (l : List Term). Walked (several l) a b) same_walk walked);
    present =
        subst (λ (l : List TermId). ArePresent b l (take (place + 1) arguments)) (sym pushed)
        (subst (λ (l : List Argument). ArePresent b (ids ++ t ∷ []) l) (sym (take_more arguments place no_argument given_low))
        (present_push b ids (take place arguments) t x (ArePresent-Extends more ids (take place arguments) h.present) (subst (λ (y : Argument). IsTerm b t (present_argument y)) same_item is)));
  }

module _ (old a : Arena) (arguments : List Argument) (place : ℕ) (ids : List TermId) (given : List code_argument.Argument) (h : PresentSoFar old a arguments place ids) (are : AreArguments old given arguments) (past : length given ≤ place) where
  over : length arguments ≤ place
  over = let count = given_count old given arguments are in omega (arith, past, count)

  pub present_walk : Walked (several (map present_argument arguments)) old a
  present_walk = terms_end (map present_argument arguments) (map present_argument (drop place arguments)) (ap (map present_argument) (drop_all place arguments over)) h.terms

  pub present_all : ArePresent a ids arguments
  present_all = subst (λ (l : List Argument). ArePresent a ids l) (take_all place arguments over) h.present
