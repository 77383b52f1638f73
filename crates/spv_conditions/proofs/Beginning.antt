-- What is replaced where a routine begins: INITIAL names by their items, and the starts of value parameters by the parameters.
use Rattle.std.proofs.Common.{◌≡◌, ℕ, zero, suc, ◌+◌, ◌<◌, ◌≤◌, Bool, true, false, ◌&&◌, ◌||◌, not, List, [], ◌∷◌, ◌++◌, map, filter, get_or, drop, length, Result, Ok, Err, IsErrAnd, Option, Some, Vec, refl, sym, ap, subst, ◌∙◌, arith}
use Rattle.std.proofs.lemmas.Bool.{false≢true}
use Rattle.std.proofs.lemmas.List.{drop_all, drop_more, map-append}
use Rattle.std.proofs.lemmas.List.Elements.{filter-append}
use Rattle.std.specs.Prelude.{⊤}
use Rattle.std.specs.Global.{Global}
use Rattle.std.specs.List.{list_all}
use Rattle.spv_logic.proofs.list.Tests.{left_true, right_true}
use Rattle.spv_logic.specs.declared.names.names.Symbol.{Symbol}
use Rattle.spv_logic.specs.declared.conditions.RoutineId.{RoutineId}
use Rattle.spv_logic.specs.declared.conditions.TermId.{TermId}
use Rattle.spv_logic.specs.declared.types.Shape.{Shape}
use Rattle.spv_logic.specs.declared.types.Sort.{Sort}
use Rattle.spv_logic.specs.declared.types.TypeId.{TypeId}
use Rattle.spv_logic.specs.declared.operators.Head.{Head}
use Rattle.spv_logic.specs.declared.operators.Head.TheVariants as head
use Rattle.spv_logic.specs.Sorts.{head_in_range, sort_in_range, variable_sort}
use Rattle.spv_logic.specs.Terms.{Term}
use Rattle.spv_term.specs.Arena.{Arena, Extends, tree}
use Rattle.spv_program.specs.declared.types.Item.{Item}
use Rattle.spv_program.specs.declared.types.Item.TheVariants.{Variable, Class}
use Rattle.spv_program.specs.declared.typed.programs.Formal.{Formal as FormalText}
use Rattle.spv_program.specs.typed.ProgramViews.{formal_of}
use Rattle.spv_program.specs.Lists.{all_differ}
use Rattle.spv_program.specs.Types.{same_item, sort_of, type_exists}
use Rattle.spv_program.specs.Programs.{Formal, GlobalItem, Routine, Program, lists, routine_at, routine_in, shapes}
use Rattle.spv_program.specs.Scopes.{Scope, item_sort}
use Rattle.spv_program.specs.Terms.{alone, item_head}
use Rattle.spv_program.specs.Typing.{heading_ok, item_exists, may_be_initial, result_ok, routine_ok, types_exist}
use Rattle.spv_program.proofs.ExpressionSorting.{same_types}
use Rattle.spv_expression_terms.specs.term_walk.Laws.{HasNamesOf, variable_scope}
use Rattle.spv_expression_terms.proofs.makeable_terms.Ranges.{shape_there, sort_there}
use Rattle.spv_expression_terms.proofs.makeable_terms.Scopes.{forms_right, variable_there}
use Rattle.spv_assign.specs.declared.creation_trace.faults.GenFault.{GenFault}
use Rattle.spv_assign.specs.creation_trace.Events.{Walked}
use Rattle.spv_assign.specs.creation_trace.StatementEvents.{one, pair_terms, several}
use Rattle.spv_assign.specs.limited_steps.Makes.{IsTerm}
use Rattle.spv_assign.proofs.limited_steps.Limits.{same_stop}
use Rattle.spv_flow_parts.specs.calls.Arguments.{AddsPairs, IsOver}
use Rattle.spv_flow_parts.proofs.Steps.{append_nil}
use Rattle.spv_flow_parts.proofs.calls.Building.{PairsSoFar, last_first, pairs_begin, pairs_end, pairs_next, pairs_stop}
use Rattle.spv_conditions.specs.Making.{initial_pair, start_pairs_of}
use Rattle.spv_conditions.specs.Steps.{MakesPairs}
use Rattle.spv_conditions.proofs.Entering.{right_declarations}

-- ---- two names

pub names_added : (from to : Head) (a b c : Arena) (t : TermId) (o : Result ⊤ GenFault) (now new : List (TermId × TermId)) → IsTerm b t (alone to) → Extends a b → Walked (one (alone to)) a b
    → AddsPairs o ((from, tree b t) ∷ []) b c now new → AddsPairs o ((from, alone to) ∷ []) a c now new
names_added from to a b c t o now new is grows walked added =
    last_first a b from (alone to) o c now new grows walked (subst (λ (x : Term). AddsPairs o ((from, x) ∷ []) b c now new) is.is_tree added)

-- ---- an INITIAL name and its item

head_sort : (p : Program) (r : Routine) (item : Item) → variable_sort (item_head p (Some r) item) ≡ item_sort p (Some r) item
head_sort p r (Variable x) = refl
head_sort p r (Class t) = refl

item_range : (p : Program) (r : Routine) (shapes : List Shape) (item : Item) → sort_in_range shapes (item_sort p (Some r) item) ≡ head_in_range shapes (item_head p (Some r) item)
item_range p r shapes (Variable x) = refl
item_range p r shapes (Class t) = refl

module _ (p : Program) (r : Routine) (name : Symbol) (item : Item) (s : Sort) (is : s ≡ item_sort p (Some r) item) where
  pub item_in_range : (shapes : List Shape) → head_in_range shapes (item_head p (Some r) item) ≡ true → sort_in_range shapes s ≡ true
  item_in_range shapes there = ap (sort_in_range shapes) is ∙ item_range p r shapes item ∙ there

  module _ (h : Head) (same : h ≡ item_head p (Some r) item) where
    pub item_sorts : variable_sort h ≡ s
    item_sorts = ap variable_sort same ∙ head_sort p r item ∙ sym is

    pub item_added : (o : Result ⊤ GenFault) (a b : Arena) (now new : List (TermId × TermId)) → AddsPairs o ((head.Var name s 0, alone h) ∷ []) a b now new → AddsPairs o (initial_pair p r (name, item) ∷ []) a b now new
    item_added o a b now new added = subst (λ (qs : List (Head × Term)). AddsPairs o qs a b now new) (λ i. (head.Var name (is i) 0, alone (same i)) ∷ []) added

-- ---- types that are there

test_at : {X : Type 0} (test : X → Bool) (xs : List X) (place : ℕ) (d : X) → list_all test xs ≡ true → place < length xs → test (get_or xs place d) ≡ true
test_at test [] place d h low = absurd (omega (arith, low))
test_at test (x ∷ xs) zero d h low = left_true (test x) (list_all test xs) h
test_at test (x ∷ xs) (suc n) d h low = test_at test xs n d (right_true (test x) (list_all test xs) h) (let e : n < length xs = omega (arith, low) in e)

listed_there : (p : Program) (globals : List GlobalItem) (t : TypeId) → list_all (λ g. item_exists p g.item) globals ≡ true → lists globals (Class t) true ≡ true → type_exists p.forms t ≡ true
listed_there p [] t h e = absurd (false≢true e)
listed_there p (g ∷ globals) t h e = by_case (same_item g.item (Class t) && (g.is_var || not true)) refl e (λ k. listed_there p globals t (right_true (item_exists p g.item) (list_all (λ g. item_exists p g.item) globals) h) k)
  where
    by_item : (i : Item) → item_exists p i ≡ true → same_item i (Class t) ≡ true → type_exists p.forms t ≡ true
    by_item (Variable x) exists same = absurd (false≢true same)
    by_item (Class u) exists same = ap (type_exists p.forms) (sym (same_types u t same)) ∙ exists

    by_case : (b : Bool) → (same_item g.item (Class t) && (g.is_var || not true)) ≡ b → (b || lists globals (Class t) true) ≡ true → (lists globals (Class t) true ≡ true → type_exists p.forms t ≡ true) → type_exists p.forms t ≡ true
    by_case true same e later = by_item g.item (left_true (item_exists p g.item) (list_all (λ g. item_exists p g.item) globals) h) (left_true (same_item g.item (Class t)) (g.is_var || not true) same)
    by_case false same e later = later e

module _ (p : Program) (r : Routine) (old : Arena) (over : IsOver p old) (right : routine_ok p r ≡ true) where
  heading : heading_ok p r ≡ true
  heading = left_true (heading_ok p r) _ right

  exist : list_all (λ g. item_exists p g.item) r.globals ≡ true
  exist =
      left_true (list_all (λ g. item_exists p g.item) r.globals) _
      (right_true (types_exist p r.locals) _ (right_true (result_ok p r.result) _ (right_true (list_all (λ f. type_exists p.forms f.of) r.formals) _ heading)))

  all_may : list_all (λ i. may_be_initial r i.1) r.initial ≡ true
  all_may =
      left_true (list_all (λ i. may_be_initial r i.1) r.initial) _
      (right_true (all_differ same_item (map (λ g. g.item) r.globals)) _
      (right_true (list_all (λ g. item_exists p g.item) r.globals) _
      (right_true (types_exist p r.locals) _ (right_true (result_ok p r.result) _ (right_true (list_all (λ f. type_exists p.forms f.of) r.formals) _ heading)))))

  module _ (a : Arena) (more : Extends old a) where
    shapes_now : a.shapes ≡ shapes p
    shapes_now = more.shapes ∙ over.shapes_are

    -- the item at a place
    pub item_there : (initial : List (Symbol × Item)) (place : ℕ) (d : Symbol × Item) → initial ≡ r.initial → place < length initial → head_in_range a.shapes (item_head p (Some r) (get_or initial place d).1) ≡ true
    item_there initial place d are low =
        ap (λ (l : List Shape). head_in_range l (item_head p (Some r) (get_or initial place d).1)) shapes_now
        ∙ by_item (get_or initial place d).1 (test_at (λ i. may_be_initial r i.1) initial place d (ap (λ (l : List (Symbol × Item)). list_all (λ i. may_be_initial r i.1) l) are ∙ all_may) low)
      where
        by_item : (item : Item) → may_be_initial r item ≡ true → head_in_range (shapes p) (item_head p (Some r) item) ≡ true
        by_item (Variable x) may = variable_there p (Some r) x (right_declarations p over.typed) heading
        by_item (Class t) may = shape_there p.forms t (listed_there p r.globals t exist may)

    -- the type of the parameter at a place
    pub formal_there : (formals : List FormalText) (place : ℕ) (d : FormalText) → map formal_of formals ≡ r.formals → place < length formals → sort_in_range a.shapes (sort_of p.forms (get_or formals place d).of) ≡ true
    formal_there formals place d are low =
        ap (λ (l : List Shape). sort_in_range l (sort_of p.forms (get_or formals place d).of)) shapes_now
        ∙ sort_there p.forms (get_or formals place d).of (forms_right p (right_declarations p over.typed)) (test_at (λ f. type_exists p.forms f.of) formals place d (texts formals (ap (λ (fs : List Formal). list_all (λ f. type_exists p.forms f.of) fs) are ∙ typed)) low)
      where
        typed : list_all (λ f. type_exists p.forms f.of) r.formals ≡ true
        typed = left_true (list_all (λ f. type_exists p.forms f.of) r.formals) _ heading

        texts : (formals : List FormalText) → list_all (λ f. type_exists p.forms f.of) (map formal_of formals) ≡ true → list_all (λ (f : FormalText). type_exists p.forms f.of) formals ≡ true
        texts [] h = refl
        texts (f ∷ formals) h =
            ap (λ (b : Bool). b && list_all (λ (f : FormalText). type_exists p.forms f.of) formals) (left_true (type_exists p.forms f.of) (list_all (λ f. type_exists p.forms f.of) (map formal_of formals)) h)
            ∙ texts formals (right_true (type_exists p.forms f.of) (list_all (λ f. type_exists p.forms f.of) (map formal_of formals)) h)

-- ---- one after the other

-- pairs for each item of a list
module _ {X : Type 0} (pairs : List X → List (Head × Term)) (both : (xs ys : List X) → pairs (xs ++ ys) ≡ pairs xs ++ pairs ys) (none : pairs [] ≡ []) (items : List X) (all : List (Head × Term)) where
  pub each_begin : (old : Arena) (start : List (TermId × TermId)) → pairs items ≡ all → PairsSoFar old old all (pairs (drop 0 items)) start start
  each_begin old start are = subst (λ (l : List (Head × Term)). PairsSoFar old old l (pairs items) start start) are (pairs_begin old (pairs items) start)

  module _ (old a b : Arena) (place : ℕ) (d : X) (start now : List (TermId × TermId)) (low : place < length items) (h : PairsSoFar old a all (pairs (drop place items)) start now) where
    split : PairsSoFar old a all (pairs (get_or items place d ∷ []) ++ pairs (drop (place + 1) items)) start now
    split = subst (λ (l : List (Head × Term)). PairsSoFar old a all l start now) (ap pairs (drop_more items place d low) ∙ both (get_or items place d ∷ []) (drop (place + 1) items)) h

    pub each_next : (u : ⊤) (new : List (TermId × TermId)) → AddsPairs (Ok u) (pairs (get_or items place d ∷ [])) a b now new → PairsSoFar old b all (pairs (drop (place + 1) items)) start new
    each_next u new k = pairs_next old a b all (pairs (get_or items place d ∷ [])) (pairs (drop (place + 1) items)) start now split u new k

    pub each_stop : (o : Result ⊤ GenFault) (e : GenFault) (new last : List (TermId × TermId)) → IsErrAnd o (λ f. f ≡ e) → AddsPairs (Err e) (pairs (get_or items place d ∷ [])) a b now new → AddsPairs o all old b start last
    each_stop o e new last is k = pairs_stop old a b all (pairs (get_or items place d ∷ [])) (pairs (drop (place + 1) items)) start now split o e new last is k

  pub each_end : (old a : Arena) (place : ℕ) (start now : List (TermId × TermId)) → length items ≤ place → PairsSoFar old a all (pairs (drop place items)) start now → (u : ⊤) → AddsPairs (Ok u) all old a start now
  each_end old a place start now past h u = pairs_end all (pairs (drop place items)) start now (ap pairs (drop_all place items past) ∙ none) h u

-- INITIAL names
abbrev pub initials : Program → Routine → List (Symbol × Item) → List (Head × Term)
initials p r = map (initial_pair p r)

pub initials_both : (p : Program) (r : Routine) (xs ys : List (Symbol × Item)) → initials p r (xs ++ ys) ≡ initials p r xs ++ initials p r ys
initials_both p r xs ys = map-append (initial_pair p r) xs ys

abbrev pub no_item : Symbol × Item
no_item = (record { 0 = 0 }, Variable (record { 0 = 0 }))

-- value parameters
abbrev pub starts : Program → List FormalText → List (Head × Term)
starts p formals = start_pairs_of p (map formal_of formals)

pub starts_both : (p : Program) (xs ys : List FormalText) → starts p (xs ++ ys) ≡ starts p xs ++ starts p ys
starts_both p xs ys =
    ap (start_pairs_of p) (map-append formal_of xs ys)
    ∙ ap (map pair) (filter-append (λ f. not f.by_place) (map formal_of xs) (map formal_of ys))
    ∙ map-append pair (filter (λ f. not f.by_place) (map formal_of xs)) (filter (λ f. not f.by_place) (map formal_of ys))
  where
    pair : Formal → Head × Term
    pair f = (head.Start f.name (sort_of p.forms f.of), alone (head.Var f.name (sort_of p.forms f.of) 0))

abbrev pub no_formal : FormalText
no_formal = record { name = record { 0 = 0 }; of = record { 0 = 0 }; by_place = false; line = 0 }

-- one list behind another
module _ (a b : Arena) (xs ys : List (Head × Term)) (old mid : List (TermId × TermId)) where
  pub first_stops : (r : Result ⊤ GenFault) (e : GenFault) (last : List (TermId × TermId)) → IsErrAnd r (λ f. f ≡ e) → AddsPairs (Err e) xs a b old mid → AddsPairs r (xs ++ ys) a b old last
  first_stops r e last is k = pairs_stop a a b (xs ++ ys) xs ys old old (pairs_begin a (xs ++ ys) old) r e mid last is k

  module _ (u : ⊤) (first : AddsPairs (Ok u) xs a b old mid) (c : Arena) (new : List (TermId × TermId)) where
    left : PairsSoFar a b (xs ++ ys) (ys ++ []) old mid
    left = subst (λ (l : List (Head × Term)). PairsSoFar a b (xs ++ ys) l old mid) (sym (append_nil ys)) (pairs_next a a b (xs ++ ys) xs ys old old (pairs_begin a (xs ++ ys) old) u mid first)

    pub both_added : (r : Result ⊤ GenFault) → AddsPairs r ys b c mid new → AddsPairs r (xs ++ ys) a c old new
    both_added (Ok v) k = pairs_end (xs ++ ys) [] old new refl (pairs_next a b c (xs ++ ys) ys [] old mid left v new k) v
    both_added (Err e) k = pairs_stop a b c (xs ++ ys) ys [] old mid left (Err e) e new new refl k

-- behind none
module _ (qs : List (Head × Term)) (a b : Arena) (old : List (TermId × TermId)) where
  pub pairs_made : (ps : Vec (TermId × TermId) Global) (u : ⊤) → old ≡ [] → AddsPairs (Ok u) qs a b old ps.items → MakesPairs (Ok ps) qs a b
  pairs_made ps u none k =
      let all = (subst (λ (l : List (TermId × TermId)). AddsPairs (Ok u) qs a b l ps.items) none k).pairs [] refl tt in
      record { grows = k.grows; walk = k.walk; pairs = all.0; fit = all.1 }

  pub pairs_unmade : (r : Result (Vec (TermId × TermId) Global) GenFault) (e : GenFault) (new : List (TermId × TermId)) → IsErrAnd r (λ f. f ≡ e) → AddsPairs (Err e) qs a b old new → MakesPairs r qs a b
  pairs_unmade (Ok ps) e new is k = absurd is
  pairs_unmade (Err f) e new is k = record { grows = k.grows; walk = same_stop {X = Vec (TermId × TermId) Global} (Err f) e (several (pair_terms qs)) a b is k.walk; pairs = tt; fit = tt }

-- the variables of a routine's body
pub variables_as : (p : Program) (here : Option RoutineId) (id : RoutineId) (r : Routine) (names : Scope) → here ≡ Some id → routine_at p id ≡ Some r → HasNamesOf names (variable_scope p (routine_in p here)) → HasNamesOf names (variable_scope p (Some r))
variables_as p here id r names is there h =
    subst (λ (o : Option Routine). HasNamesOf names (variable_scope p o)) there (subst (λ (o : Option RoutineId). HasNamesOf names (variable_scope p (routine_in p o))) is h)
