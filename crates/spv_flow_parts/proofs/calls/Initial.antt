-- INITIAL names, and what their items are at a call.
use Rattle.std.proofs.Common.{◌≡◌, ℕ, zero, suc, ◌+◌, ◌<◌, ◌≤◌, Bool, true, false, cond, ◌&&◌, ◌||◌, not, List, [], ◌∷◌, ◌++◌, map, get_or, drop, length, Result, Ok, Err, IsErrAnd, Option, Some, None, refl, sym, ap, subst, ◌∙◌, arith}
use Rattle.std.proofs.lemmas.Bool.{false≢true}
use Rattle.std.proofs.lemmas.List.{drop_all, drop_more}
use Rattle.std.specs.Prelude.{⊤}
use Rattle.std.specs.List.{list_all}
use Rattle.spv_logic.proofs.list.Tests.{left_true, right_true}
use Rattle.spv_logic.specs.declared.names.names.Symbol.{Symbol}
use Rattle.spv_logic.specs.declared.conditions.TermId.{TermId}
use Rattle.spv_logic.specs.declared.conditions.RoutineId.{RoutineId}
use Rattle.spv_logic.specs.declared.types.Shape.{Shape}
use Rattle.spv_logic.specs.declared.types.Sort.{Sort}
use Rattle.spv_logic.specs.declared.types.TypeId.{TypeId}
use Rattle.spv_logic.specs.declared.operators.Head.{Head}
use Rattle.spv_logic.specs.declared.operators.Head.TheVariants as head
use Rattle.spv_logic.specs.Terms.{Term, head_eq}
use Rattle.spv_logic.specs.Sorts.{head_in_range, sort_in_range, term_sort, variable_sort}
use Rattle.spv_logic.specs.Substitution.{Replacement, is_variable, replaced, replacement_at, substitute}
use Rattle.spv_logic.proofs.Equality.{head_eq-true}
use Rattle.spv_term.specs.Arena.{Arena, Extends, tree}
use Rattle.spv_program.specs.declared.types.Item.{Item}
use Rattle.spv_program.specs.declared.types.Item.TheVariants.{Variable, Class}
use Rattle.spv_program.specs.Types.{same_item, type_exists}
use Rattle.spv_program.specs.Programs.{Formal, GlobalItem, Routine, Program, lists, shapes}
use Rattle.spv_program.specs.Scopes.{item_sort}
use Rattle.spv_program.specs.Terms.{alone, item_head}
use Rattle.spv_program.specs.Typing.{item_exists, may_be_initial, result_ok, types_exist}
use Rattle.spv_program.specs.Lists.{all_differ}
use Rattle.spv_program.specs.Calls.{Argument, at_call, formal_head, present_argument, replacing}
use Rattle.spv_program.proofs.ExpressionSorting.{same_types}
use Rattle.spv_program.proofs.SortFacts.{nothing_there, some_is}
use Rattle.spv_expression_terms.proofs.makeable_terms.Ranges.{shape_there}
use Rattle.spv_expression_terms.proofs.makeable_terms.Scopes.{variable_there}
use Rattle.spv_assign.specs.declared.creation_trace.faults.GenFault.{GenFault}
use Rattle.spv_assign.proofs.supply.FreshLemmas.{variable_result}
use Rattle.spv_assign.specs.limited_steps.Makes.{IsTerm}
use Rattle.spv_flow_parts.specs.Walks.{MakesTerm}
use Rattle.spv_flow_parts.specs.calls.Arguments.{AddsPairs, FitFormals, IsAtCall, initial_pair}
use Rattle.spv_flow_parts.proofs.calls.Building.{PairsSoFar, last_first, last_stops, pairs_begin, pairs_end, pairs_next, pairs_stop}
use Rattle.spv_flow_parts.proofs.calls.Zipping.{right_declarations, right_heading, sort_in}

-- ---- the head of an item

pub item_variable : (p : Program) (r : Routine) (item : Item) → is_variable (item_head p (Some r) item) ≡ true
item_variable p r (Variable x) = refl
item_variable p r (Class t) = refl

head_sort : (p : Program) (r : Routine) (item : Item) → variable_sort (item_head p (Some r) item) ≡ item_sort p (Some r) item
head_sort p r (Variable x) = refl
head_sort p r (Class t) = refl

pub item_range : (p : Program) (r : Routine) (shapes : List Shape) (item : Item) → sort_in_range shapes (item_sort p (Some r) item) ≡ head_in_range shapes (item_head p (Some r) item)
item_range p r shapes (Variable x) = refl
item_range p r shapes (Class t) = refl

pub item_range_in : (p : Program) (r : Routine) (a b : Arena) (item : Item) (s : Sort) → s ≡ item_sort p (Some r) item → Extends a b → head_in_range a.shapes (item_head p (Some r) item) ≡ true → sort_in_range b.shapes s ≡ true
item_range_in p r a b item s is more there =
    ap (sort_in_range b.shapes) is ∙ ap (λ (l : List Shape). sort_in_range l (item_sort p (Some r) item)) more.shapes ∙ item_range p r a.shapes item ∙ there

-- ---- what stands for it

at_variable : (b : Bool) (o : Option Term) (x : Term) → b ≡ true → replaced o x ≡ replaced (replacement_at b o) x
at_variable true o x e = refl
at_variable false o x e = absurd (false≢true e)

pub itself_put : (by : Replacement) (h k : Head) → h ≡ k → is_variable k ≡ true → replaced (by h) (alone h) ≡ substitute by (alone k)
itself_put by h k same variable = ap (λ (l : Head). replaced (by l) (alone l)) same ∙ at_variable (is_variable k) (by k) (alone k) variable

pub item_put : (r : Result TermId GenFault) (a b : Arena) (by : Replacement) (h k : Head) → h ≡ k → is_variable k ≡ true → MakesTerm r (replaced (by h) (alone h)) a b → MakesTerm r (substitute by (alone k)) a b
item_put r a b by h k same variable made = subst (λ (x : Term). MakesTerm r x a b) (itself_put by h k same variable) made

module _ (p : Program) where
  replacing_sort : (formals : List Formal) (arguments : List Argument) (h : Head) (u : Term) → FitFormals p formals arguments → replacing (at_call p formals arguments) h ≡ Some u → term_sort (shapes p) p.symbols u ≡ Some (variable_sort h)
  replacing_sort [] [] h u fit e = absurd (nothing_there e)
  replacing_sort [] (x ∷ arguments) h u fit e = absurd fit
  replacing_sort (f ∷ formals) [] h u fit e = absurd fit
  replacing_sort (f ∷ formals) (x ∷ arguments) h u fit e = by_case (head_eq h (formal_head p f)) refl e (λ k. replacing_sort formals arguments h u fit.1 k)
    where
      by_case : (b : Bool) → head_eq h (formal_head p f) ≡ b → cond b (Some (present_argument x)) (replacing (at_call p formals arguments) h) ≡ Some u
          → (replacing (at_call p formals arguments) h ≡ Some u → term_sort (shapes p) p.symbols u ≡ Some (variable_sort h)) → term_sort (shapes p) p.symbols u ≡ Some (variable_sort h)
      by_case true same e later =
          let k : h ≡ formal_head p f = head_eq-true h (formal_head p f) same in
          ap (term_sort (shapes p) p.symbols) (sym (some_is e)) ∙ fit.0 ∙ ap (λ (l : Head). Some (variable_sort l)) (sym k)
      by_case false same e later = later e

  initial_sort : (formals : List Formal) (arguments : List Argument) (h : Head) → FitFormals p formals arguments → is_variable h ≡ true
      → term_sort (shapes p) p.symbols (substitute (replacing (at_call p formals arguments)) (alone h)) ≡ Some (variable_sort h)
  initial_sort formals arguments h fit variable =
      ap (term_sort (shapes p) p.symbols) (sym (at_variable (is_variable h) (replacing (at_call p formals arguments) h) (alone h) variable)) ∙ by_case (replacing (at_call p formals arguments) h) refl
    where
      by_case : (o : Option Term) → replacing (at_call p formals arguments) h ≡ o → term_sort (shapes p) p.symbols (replaced o (alone h)) ≡ Some (variable_sort h)
      by_case None e = variable_result (shapes p) p.symbols h variable
      by_case (Some u) e = replacing_sort formals arguments h u fit e

-- ---- one INITIAL name

module _ (p : Program) (number : RoutineId) (r : Routine) (arguments : List Argument) (name : Symbol) (item : Item) where
  abbrev x : Term
  x = substitute (replacing (at_call p r.formals arguments)) (alone (item_head p (Some r) item))

  abbrev h : Head
  h = head.Var name (item_sort p (Some r) item) 0

  pub item_stops : (a b : Arena) (o : Result ⊤ GenFault) (e : GenFault) (now new : List (TermId × TermId)) → IsErrAnd o (λ f. f ≡ e) → MakesTerm (Err e) (substitute (replacing (at_call p r.formals arguments)) (alone (item_head p (Some r) item))) a b
      → AddsPairs o (initial_pair p r arguments (name, item) ∷ []) a b now new
  item_stops a b o e now new is made = last_stops a b h x o e now new is made.grows made.walk

  module _ (b : Arena) (t : TermId) (is : IsTerm b t (substitute (replacing (at_call p r.formals arguments)) (alone (item_head p (Some r) item)))) (s : Sort) (of : s ≡ item_sort p (Some r) item) where
    pub item_sorted : IsAtCall p b number r arguments → term_sort b.shapes b.decls (tree b t) ≡ Some s
    item_sorted at =
        ap (term_sort b.shapes b.decls) is.is_tree
        ∙ sort_in p b number r arguments at x
        ∙ initial_sort p r.formals arguments (item_head p (Some r) item) at.fit (item_variable p r item)
        ∙ ap Some (head_sort p r item ∙ sym of)

    pub item_added : (a c : Arena) (o : Result ⊤ GenFault) (now new : List (TermId × TermId)) → MakesTerm (Ok t) (substitute (replacing (at_call p r.formals arguments)) (alone (item_head p (Some r) item))) a b
        → AddsPairs o ((head.Var name s 0, tree b t) ∷ []) b c now new → AddsPairs o (initial_pair p r arguments (name, item) ∷ []) a c now new
    item_added a c o now new made added =
        let same : (head.Var name s 0, tree b t) ∷ [] ≡ (head.Var name (item_sort p (Some r) item) 0, x) ∷ [] = let term = is.is_tree in λ i. (head.Var name (of i) 0, term i) ∷ [] in
        last_first a b h x o c now new made.grows made.walk (subst (λ (qs : List (Head × Term)). AddsPairs o qs b c now new) same added)

-- ---- the sorts of the items are there

listed_there : (p : Program) (globals : List GlobalItem) (t : TypeId) → list_all (λ g. item_exists p g.item) globals ≡ true → lists globals (Class t) true ≡ true → type_exists p.forms t ≡ true
listed_there p [] t h e = absurd (false≢true e)
listed_there p (g ∷ globals) t h e = by_case (same_item g.item (Class t) && (g.is_var || not true)) refl e (λ k. listed_there p globals t (right_true (item_exists p g.item) (list_all (λ g. item_exists p g.item) globals) h) k)
  where
    by_item : (i : Item) → item_exists p i ≡ true → same_item i (Class t) ≡ true → type_exists p.forms t ≡ true
    by_item (Variable x) exists same = absurd (false≢true same)
    by_item (Class u) exists same = ap (type_exists p.forms) (sym (same_types u t same)) ∙ exists

    by_case : (b : Bool) → (same_item g.item (Class t) && (g.is_var || not true)) ≡ b → (b || lists globals (Class t) true) ≡ true → (lists globals (Class t) true ≡ true → type_exists p.forms t ≡ true) → type_exists p.forms t ≡ true
    by_case true same e later = by_item g.item (left_true (item_exists p g.item) (list_all (λ g. item_exists p g.item) globals) h) (left_true (same_item g.item (Class t)) (g.is_var || not true) same)
    by_case false same e later = later e

test_at : {X : Type 0} (test : X → Bool) (xs : List X) (place : ℕ) (d : X) → list_all test xs ≡ true → place < length xs → test (get_or xs place d) ≡ true
test_at test [] place d h low = absurd (omega (arith, low))
test_at test (x ∷ xs) zero d h low = left_true (test x) (list_all test xs) h
test_at test (x ∷ xs) (suc n) d h low = test_at test xs n d (right_true (test x) (list_all test xs) h) (let e : n < length xs = omega (arith, low) in e)

module _ (p : Program) (old : Arena) (number : RoutineId) (r : Routine) (arguments : List Argument) (at : IsAtCall p old number r arguments) where
  pub may_be_item : (item : Item) → may_be_initial r item ≡ true → head_in_range old.shapes (item_head p (Some r) item) ≡ true
  may_be_item item may = ap (λ (l : List Shape). head_in_range l (item_head p (Some r) item)) at.shapes_are ∙ by_item item may
    where
      by_item : (item : Item) → may_be_initial r item ≡ true → head_in_range (shapes p) (item_head p (Some r) item) ≡ true
      by_item (Variable x) may = variable_there p (Some r) x (right_declarations p old number r arguments at) (right_heading p old number r arguments at)
      by_item (Class t) may =
          let h1 = right_true (list_all (λ f. type_exists p.forms f.of) r.formals) _ (right_heading p old number r arguments at) in
          let h2 = right_true (result_ok p r.result) _ h1 in
          let h3 = right_true (types_exist p r.locals) _ h2 in
          shape_there p.forms t (listed_there p r.globals t (left_true (list_all (λ g. item_exists p g.item) r.globals) _ h3) may)

  pub initial_may : list_all (λ i. may_be_initial r i.1) r.initial ≡ true
  initial_may =
      let h1 = right_true (list_all (λ f. type_exists p.forms f.of) r.formals) _ (right_heading p old number r arguments at) in
      let h2 = right_true (result_ok p r.result) _ h1 in
      let h3 = right_true (types_exist p r.locals) _ h2 in
      let h4 = right_true (list_all (λ g. item_exists p g.item) r.globals) _ h3 in
      let h5 = right_true (all_differ same_item (map (λ g. g.item) r.globals)) _ h4 in
      left_true (list_all (λ i. may_be_initial r i.1) r.initial) _ h5

  pub initial_there : (initial : List (Symbol × Item)) (place : ℕ) (d : Symbol × Item) → initial ≡ r.initial → place < length initial → head_in_range old.shapes (item_head p (Some r) (get_or initial place d).1) ≡ true
  initial_there initial place d are low =
      may_be_item (get_or initial place d).1 (test_at (λ i. may_be_initial r i.1) initial place d (ap (λ (l : List (Symbol × Item)). list_all (λ i. may_be_initial r i.1) l) are ∙ initial_may) low)

-- ---- all of them

abbrev pub no_item : Symbol × Item
no_item = (record { 0 = 0 }, Variable (record { 0 = 0 }))

module _ (p : Program) (r : Routine) (arguments : List Argument) (initial : List (Symbol × Item)) where
  abbrev left_at : ℕ → List (Head × Term)
  left_at place = map (initial_pair p r arguments) (drop place initial)

  abbrev all : List (Head × Term)
  all = map (initial_pair p r arguments) r.initial

  pub initial_begin : (old : Arena) (start : List (TermId × TermId)) → initial ≡ r.initial → PairsSoFar old old (map (initial_pair p r arguments) r.initial) (map (initial_pair p r arguments) (drop 0 initial)) start start
  initial_begin old start are =
      subst (λ (l : List (Symbol × Item)). PairsSoFar old old (map (initial_pair p r arguments) l) (map (initial_pair p r arguments) initial) start start) are (pairs_begin old (map (initial_pair p r arguments) initial) start)

  module _ (old a b : Arena) (place : ℕ) (d : Symbol × Item) (start now : List (TermId × TermId)) (low : place < length initial)
      (h : PairsSoFar old a (map (initial_pair p r arguments) r.initial) (map (initial_pair p r arguments) (drop place initial)) start now) where
    split : PairsSoFar old a all ((initial_pair p r arguments (get_or initial place d) ∷ []) ++ left_at (place + 1)) start now
    split = subst (λ (l : List (Symbol × Item)). PairsSoFar old a all (map (initial_pair p r arguments) l) start now) (drop_more initial place d low) h

    pub initial_next : (u : ⊤) (new : List (TermId × TermId)) → AddsPairs (Ok u) (initial_pair p r arguments (get_or initial place d) ∷ []) a b now new
        → PairsSoFar old b (map (initial_pair p r arguments) r.initial) (map (initial_pair p r arguments) (drop (place + 1) initial)) start new
    initial_next u new k = pairs_next old a b all (initial_pair p r arguments (get_or initial place d) ∷ []) (left_at (place + 1)) start now split u new k

    pub initial_stop : (o : Result ⊤ GenFault) (e : GenFault) (new last : List (TermId × TermId)) → IsErrAnd o (λ f. f ≡ e) → AddsPairs (Err e) (initial_pair p r arguments (get_or initial place d) ∷ []) a b now new
        → AddsPairs o (map (initial_pair p r arguments) r.initial) old b start last
    initial_stop o e new last is k = pairs_stop old a b all (initial_pair p r arguments (get_or initial place d) ∷ []) (left_at (place + 1)) start now split o e new last is k

  pub initial_end : (old a : Arena) (place : ℕ) (start now : List (TermId × TermId)) → length initial ≤ place
      → PairsSoFar old a (map (initial_pair p r arguments) r.initial) (map (initial_pair p r arguments) (drop place initial)) start now → (u : ⊤) → AddsPairs (Ok u) (map (initial_pair p r arguments) r.initial) old a start now
  initial_end old a place start now past h u = pairs_end all (left_at place) start now (ap (map (initial_pair p r arguments)) (drop_all place initial past)) h u
