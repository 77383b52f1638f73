-- What a right heading is, in the program so far and in a later one.
use Rattle.std.proofs.Common.{◌≡◌, Bool, true, List, [], ◌∷◌, ◌++◌, map, Option, Some, None, is_some, refl, ap, ◌∙◌, subst}
use Rattle.std.specs.List.{list_all}
use Rattle.std.specs.Cmp.Derive.{both_true}
use Rattle.spv_logic.specs.declared.names.names.Symbol.{Symbol}
use Rattle.spv_logic.proofs.list.Tests.{left_true, right_true}
use Rattle.spv_logic.specs.declared.types.TypeId.{TypeId}
use Rattle.spv_logic.specs.declared.types.Sort.{Sort}
use Rattle.spv_logic.specs.declared.types.Sort.TheVariants as sort
use Rattle.spv_logic.specs.Sorts.{sort_in_range}
use Rattle.spv_program.specs.declared.types.Item.{Item}
use Rattle.spv_program.specs.declared.types.Item.TheVariants.{Variable, Class}
use Rattle.spv_program.specs.Lists.{found, all_differ, names_differ}
use Rattle.spv_program.specs.Types.{form_at, sort_of, type_exists, may_be_result, same_item}
use Rattle.spv_program.specs.Formulas.{Annotation}
use Rattle.spv_program.specs.FormulaTypes.{annotation_ok}
use Rattle.spv_program.specs.Programs.{Formal, GlobalItem, Program, shapes}
use Rattle.spv_program.specs.Scopes.{Scope, with_sorts_of, result_name}
use Rattle.spv_program.specs.Typing.{item_exists, variables_among}
use Rattle.spv_typing.specs.Known.{Heading, Specified}
use Rattle.spv_typing.specs.RoutineWalk.{may_be_initial}
use Rattle.spv_type_soundness.specs.well_typed_programs.Grown.{GrowsTypes}
use Rattle.spv_type_soundness.proofs.well_typed_programs.Growing.{form_more, exists_more, sort_more}
use Rattle.spv_type_soundness.proofs.well_typed_programs.FormulaGrowing.{kept_annotation}
use Rattle.spv_type_soundness.proofs.well_typed_programs.Items.{Begins}
use Rattle.spv_type_soundness.proofs.well_typed_programs.Finding.{pair, keys, found_all}
use Rattle.spv_type_soundness.proofs.well_typed_programs.Declaring.{FormsRight, first_form, forms_pass, all_there, all_longer, all_append, sort_there, class_there, RightProgram}
use Rattle.spv_type_soundness.proofs.well_typed_programs.Seeing.{symbol_there}

abbrev pub formal_types : List Formal → List (Symbol × TypeId)
formal_types formals = map (λ f. pair f.name f.of) formals

-- the sort of what an INITIAL name stands for
pub data IsStart (q : Program) (formals : List (Symbol × TypeId)) : Item → Sort → Type 0 where
  start_formal : (x : Symbol) (t : TypeId) → found formals x ≡ Some t → type_exists q.forms t ≡ true
      → IsStart q formals (Variable x) (sort_of q.forms t)
  start_variable : (x : Symbol) (t : TypeId) → found formals x ≡ None → found q.variables x ≡ Some t → type_exists q.forms t ≡ true
      → IsStart q formals (Variable x) (sort_of q.forms t)
  start_class : (t : TypeId) → type_exists q.forms t ≡ true → IsStart q formals (Class t) (sort.Class t)

pub data Starts (q : Program) (formals : List (Symbol × TypeId)) : List (Symbol × Item) → List (Symbol × Sort) → Type 0 where
  starts_none : Starts q formals [] []
  starts_more : (y : Symbol) (i : Item) (s : Sort) (is : List (Symbol × Item)) (ss : List (Symbol × Sort)) → IsStart q formals i s
      → Starts q formals is ss → Starts q formals (pair y i ∷ is) (pair y s ∷ ss)

pub starts_keys : (q : Program) (formals : List (Symbol × TypeId)) (is : List (Symbol × Item)) (ss : List (Symbol × Sort))
    → Starts q formals is ss → keys ss ≡ keys is
starts_keys q formals is ss starts_none = refl
starts_keys q formals is ss (starts_more y i s js us h g) = ap (λ l. y ∷ l) (starts_keys q formals js us g)

pub starts_one : (q : Program) (formals : List (Symbol × TypeId)) (is : List (Symbol × Item)) (ss : List (Symbol × Sort)) (y : Symbol)
    (i : Item) (s : Sort) → Starts q formals is ss → IsStart q formals i s → Starts q formals (is ++ pair y i ∷ []) (ss ++ pair y s ∷ [])
starts_one q formals is ss y i s starts_none h = starts_more y i s [] [] h starts_none
starts_one q formals is ss y i s (starts_more z j t js us k g) h =
    starts_more z j t (js ++ pair y i ∷ []) (us ++ pair y s ∷ []) k (starts_one q formals js us y i s g h)

abbrev pub items_in : List GlobalItem → List Item
items_in globals = map (λ g. g.item) globals

abbrev pub all_in_range : Program → List (Symbol × Sort) → Bool
all_in_range q names = list_all (λ n. sort_in_range (shapes q) n.1) names

pub sorts_in_range : (q : Program) (types : List (Symbol × TypeId)) → FormsRight q.forms → all_there q.forms types ≡ true
    → all_in_range q (with_sorts_of q types) ≡ true
sorts_in_range q [] r h = refl
sorts_in_range q (n ∷ types) r h =
    both_true (sort_there q n.1 r (left_true _ _ h)) (sorts_in_range q types r (right_true (type_exists q.forms n.1) _ h))

start_in_range : (q : Program) (formals : List (Symbol × TypeId)) (i : Item) (s : Sort) → FormsRight q.forms → IsStart q formals i s
    → sort_in_range (shapes q) s ≡ true
start_in_range q formals i s r (start_formal x t e h) = sort_there q t r h
start_in_range q formals i s r (start_variable x t n e h) = sort_there q t r h
start_in_range q formals i s r (start_class t h) = class_there q t h

pub starts_in_range : (q : Program) (formals : List (Symbol × TypeId)) (is : List (Symbol × Item)) (ss : List (Symbol × Sort))
    → FormsRight q.forms → Starts q formals is ss → all_in_range q ss ≡ true
starts_in_range q formals is ss r starts_none = refl
starts_in_range q formals is ss r (starts_more y i s js us h g) =
    both_true (start_in_range q formals i s r h) (starts_in_range q formals js us r g)

-- the names that ENTRY and EXIT see
abbrev pub entry_names : Program → List (Symbol × TypeId) → Scope
entry_names q formals = with_sorts_of q formals ++ with_sorts_of q q.variables

abbrev pub exit_names : Program → List (Symbol × TypeId) → Symbol → Option TypeId → List (Symbol × Sort) → Scope
exit_names q formals name result starts =
    with_sorts_of q formals ++ (with_sorts_of q (result_name name result) ++ (starts ++ with_sorts_of q q.variables))

-- what callers know of a routine is right
pub record RightHeading (q : Program) (h : Heading) : Type 0 where
  pub formals : all_there q.forms (formal_types h.formals) ≡ true
  pub result : (t : TypeId) → h.result ≡ Some t → type_exists q.forms t ≡ true
  pub plain_result : (t : TypeId) → h.result ≡ Some t → may_be_result (form_at q.forms t.0) ≡ true
  pub globals : list_all (λ g. item_exists q g.item) h.globals ≡ true
  pub globals_differ : all_differ same_item (items_in h.globals) ≡ true

-- a heading with its clauses, whose INITIAL names have these sorts
pub record RightSpecified (q : Program) (s : Specified) (starts : List (Symbol × Sort)) : Type 0 where
  pub heading : RightHeading q s.heading
  pub initial : list_all (λ i. may_be_initial s.heading.formals s.heading.globals i.1) s.initial ≡ true
  pub are_starts : Starts q (formal_types s.heading.formals) s.initial starts
  pub differ : names_differ (s.heading.name
      ∷ (keys (formal_types s.heading.formals) ++ (keys s.initial ++ variables_among (items_in s.heading.globals)))) ≡ true
  pub entry : annotation_ok q (entry_names q (formal_types s.heading.formals)) s.entry ≡ true
  pub exit : annotation_ok q (exit_names q (formal_types s.heading.formals) s.heading.name s.heading.result starts) s.exit ≡ true

-- a program with more types and more routines
pub record Later (q p : Program) : Type 0 where
  pub forms : Begins q.forms p.forms
  pub types : p.types ≡ q.types
  pub variables : p.variables ≡ q.variables
  pub symbols : p.symbols ≡ q.symbols

pub grows_types : (q p : Program) → RightProgram q → Later q p → GrowsTypes q p
grows_types q p r l = record {
  more = l.forms.more;
  forms = l.forms.is;
  forms_right = forms_pass q.forms r.forms;
  first = first_form q.forms r.forms;
  symbols = l.symbols;
}

module _ (q p : Program) (r : RightProgram q) (l : Later q p) where
  abbrev grows : GrowsTypes q p
  grows = grows_types q p r l

  pub sorts_same : (types : List (Symbol × TypeId)) → all_there q.forms types ≡ true → with_sorts_of p types ≡ with_sorts_of q types
  sorts_same [] h = refl
  sorts_same (n ∷ types) h =
      ap (λ s. pair n.0 s ∷ with_sorts_of p types) (sort_more q p grows n.1 (left_true _ _ h))
      ∙ ap (λ k. pair n.0 (sort_of q.forms n.1) ∷ k) (sorts_same types (right_true (type_exists q.forms n.1) _ h))

  pub variables_same : with_sorts_of p p.variables ≡ with_sorts_of q q.variables
  variables_same = ap (with_sorts_of p) l.variables ∙ sorts_same q.variables r.variables

  start_later : (formals : List (Symbol × TypeId)) (i : Item) (s : Sort) → IsStart q formals i s → IsStart p formals i s
  start_later formals i s (start_formal x t e h) =
      subst (IsStart p formals (Variable x)) (sort_more q p grows t h) (start_formal x t e (exists_more q p grows t h))
  start_later formals i s (start_variable x t n e h) =
      subst (IsStart p formals (Variable x)) (sort_more q p grows t h)
      (start_variable x t n (ap (λ v. found v x) l.variables ∙ e) (exists_more q p grows t h))
  start_later formals i s (start_class t h) = start_class t (exists_more q p grows t h)

  starts_later : (formals : List (Symbol × TypeId)) (is : List (Symbol × Item)) (ss : List (Symbol × Sort)) → Starts q formals is ss
      → Starts p formals is ss
  starts_later formals is ss starts_none = starts_none
  starts_later formals is ss (starts_more y i s js us h g) =
      starts_more y i s js us (start_later formals i s h) (starts_later formals js us g)

  pub annotation_later : (names : Scope) (a : Option Annotation) → all_in_range q names ≡ true → annotation_ok q names a ≡ true
      → annotation_ok p names a ≡ true
  annotation_later names a h e =
      kept_annotation q p grows names (λ x s k. found_all (sort_in_range (shapes q)) names x s h k)
      (λ x d k. right_true (list_all (sort_in_range (shapes q)) d.args) _ (symbol_there q r x d k)) a e

  items_later : (globals : List GlobalItem) → list_all (λ g. item_exists q g.item) globals ≡ true
      → list_all (λ g. item_exists p g.item) globals ≡ true
  items_later [] h = refl
  items_later (g ∷ globals) h = both_true (one g.item (left_true _ _ h)) (items_later globals (right_true (item_exists q g.item) _ h))
    where
      one : (i : Item) → item_exists q i ≡ true → item_exists p i ≡ true
      one (Variable x) e = ap (λ v. is_some (found v x)) l.variables ∙ e
      one (Class t) e = exists_more q p grows t e

  pub result_in_range : (name : Symbol) (o : Option TypeId) → ((t : TypeId) → o ≡ Some t → type_exists q.forms t ≡ true)
      → all_there q.forms (result_name name o) ≡ true
  result_in_range name None h = refl
  result_in_range name (Some t) h = both_true (h t refl) refl

  pub heading_later : (h : Heading) → RightHeading q h → RightHeading p h
  heading_later h g = record {
    formals = all_longer q.forms p.forms (formal_types h.formals) l.forms g.formals;
    result = λ t e. exists_more q p grows t (g.result t e);
    plain_result = λ t e. ap may_be_result (form_more q p grows t (g.result t e)) ∙ g.plain_result t e;
    globals = items_later h.globals g.globals;
    globals_differ = g.globals_differ;
  }

  pub specified_later : (s : Specified) (ss : List (Symbol × Sort)) → RightSpecified q s ss → RightSpecified p s ss
  specified_later s ss g =
      let h = s.heading in
      let formals = formal_types h.formals in
      let formals_range = sorts_in_range q formals r.forms g.heading.formals in
      let variables_range = sorts_in_range q q.variables r.forms r.variables in
      let result_there = result_in_range h.name h.result g.heading.result in
      let result_range = sorts_in_range q (result_name h.name h.result) r.forms result_there in
      let starts_range = starts_in_range q formals s.initial ss r.forms g.are_starts in
      let test = λ (n : Symbol × Sort). sort_in_range (shapes q) n.1 in
      let with_variables = all_append test ss (with_sorts_of q q.variables) starts_range variables_range in
      let with_result = all_append test (with_sorts_of q (result_name h.name h.result)) (ss ++ with_sorts_of q q.variables) result_range
      with_variables in
      let entry_same : entry_names p formals ≡ entry_names q formals =
      ap (λ f. f ++ with_sorts_of p p.variables) (sorts_same formals g.heading.formals)
      ∙ ap (λ v. with_sorts_of q formals ++ v) variables_same in
      let exit_same : exit_names p formals h.name h.result ss ≡ exit_names q formals h.name h.result ss =
      ap (λ f. f ++ (with_sorts_of p (result_name h.name h.result) ++ (ss ++ with_sorts_of p p.variables)))
      (sorts_same formals g.heading.formals)
      ∙ (ap (λ f. with_sorts_of q formals ++ (f ++ (ss ++ with_sorts_of p p.variables)))
      (sorts_same (result_name h.name h.result) result_there)
      ∙ ap (λ v. with_sorts_of q formals ++ (with_sorts_of q (result_name h.name h.result) ++ (ss ++ v))) variables_same) in
      record {
        heading = heading_later h g.heading;
        initial = g.initial;
        are_starts = starts_later formals s.initial ss g.are_starts;
        differ = g.differ;
        entry = ap (λ names. annotation_ok p names s.entry) entry_same
            ∙ annotation_later (entry_names q formals) s.entry
            (all_append test (with_sorts_of q formals) (with_sorts_of q q.variables) formals_range variables_range) g.entry;
        exit = ap (λ names. annotation_ok p names s.exit) exit_same
            ∙ annotation_later (exit_names q formals h.name h.result ss) s.exit
            (all_append test (with_sorts_of q formals)
            (with_sorts_of q (result_name h.name h.result) ++ (ss ++ with_sorts_of q q.variables)) formals_range with_result) g.exit;
      }
