-- The walk over routines in a row.
use Rattle.std.proofs.Common.{◌≡◌, ℕ, true, ◌&&◌, List, [], ◌∷◌, ◌++◌, map, Option, Some, None, option_map, ℤ, refl, sym, ap, ◌∙◌, subst}
use Rattle.std.specs.Prelude.{Ok}
use Rattle.std.specs.List.{list_any}
use Rattle.std.proofs.lemmas.Bool.{false≢true}
use Rattle.std.proofs.lemmas.List.{append-nil, append_assoc, map-append}
use Rattle.std.proofs.lemmas.List.Folds.{list_any-append}
use Rattle.spv_logic.specs.declared.names.names.Symbol.{Symbol}
use Rattle.spv_logic.proofs.list.Tests.{left_true, right_true}
use Rattle.spv_logic.specs.declared.types.TypeId.{TypeId}
use Rattle.spv_logic.specs.declared.types.Sort.{Sort}
use Rattle.spv_logic.specs.declared.types.Decl.{Decl}
use Rattle.spv_tree.specs.declared.syntax.routines.Heading.{Heading as HeadingText}
use Rattle.spv_tree.specs.declared.syntax.routines.Clauses.{Clauses}
use Rattle.spv_tree.specs.declared.syntax.routines.Locals.{Locals}
use Rattle.spv_tree.specs.declared.syntax.routines.RoutineMark.{RoutineMark}
use Rattle.spv_tree.specs.declared.syntax.routines.RoutineMark.TheVariants.{Announced, Begins, Ends}
use Rattle.spv_tree.specs.syntax.Statements as tree
use Rattle.spv_tree.specs.syntax.Reads.{routines_ok, block_ok}
use Rattle.spv_program.specs.declared.types.Item.{Item}
use Rattle.spv_program.specs.Lists.{same_name, found, first_of, names_differ}
use Rattle.spv_program.specs.Statements.{Statement}
use Rattle.spv_program.specs.Programs.{Formal, Routine, Program}
use Rattle.spv_program.specs.Scopes.{result_name}
use Rattle.spv_program.specs.Typing.{variables_among, routine_ok}
use Rattle.spv_program.proofs.SortFacts.{nothing_there}
use Rattle.spv_typing.specs.Outcomes.{each, twice}
use Rattle.spv_typing.specs.Known.{Heading, Specified, OfPlace, OfStart, OfSymbol, OfRoutine, OfType, OfConstant, Names, named, Known, names_from_start, program_names, is_free, is_free_for_call}
use Rattle.spv_typing.specs.StatementWalk.{Setting, block_walk}
use Rattle.spv_typing.specs.RoutineWalk.{in_routine, Headed, Local, item_sort, place_sort, result_names, heading_name, form_walk, with_heading, locals_walk, body_setting, with_body}
use Rattle.spv_typing.specs.RoutineWalk as walk
use Rattle.spv_typing.specs.ProgramWalk.{Begun, Progress, names_of_bodies, number_of, awaited_of, twice_at, first_heading, is_bare_form, is_bare, without, with_awaited, begun_of, begin_again, begin_first, begin, announce, end_body, mark_walk}
use Rattle.spv_type_soundness.proofs.well_typed.Outcomes.{fine, no_fault, same_value, went, held, behind_test}
use Rattle.spv_type_soundness.proofs.well_typed_programs.Differ.{or_left, or_right, name-refl, same_names, differ_rest, differ_apart, apart_turned}
use Rattle.spv_type_soundness.proofs.well_typed_programs.Finding.{pair, keys, found_append, found_mapped, found_key, found_none, found_name}
use Rattle.spv_type_soundness.proofs.well_typed_programs.Naming.{symbol_names, heading_names, headings_named, names_in, RightNames}
use Rattle.spv_type_soundness.proofs.well_typed_programs.Declaring.{all_there, RightKnown}
use Rattle.spv_type_soundness.proofs.well_typed_programs.Headings.{formal_types, IsStart, start_formal, start_variable, start_class, Starts, starts_none, starts_more, items_in, RightSpecified, specified_later}
use Rattle.spv_type_soundness.proofs.well_typed_programs.ClauseWalk.{RightHeaded, form_right, result_named, own_of, locals_right}
use Rattle.spv_type_soundness.proofs.well_typed_programs.Statements.{statements_are_well_typed}
use Rattle.spv_type_soundness.proofs.well_typed_programs.Bodies.{Final, known_program}
use Rattle.spv_type_soundness.proofs.well_typed_programs.RoutineBody.{r, body_stands, routine_right}
use Rattle.spv_type_soundness.proofs.well_typed_programs.RoutineBody as body
use Rattle.spv_type_soundness.proofs.well_typed_programs.States.{heading_at, awaited_at, routine_names, specified_named, awaited_is, RightState, new_heading, free_heading, announced_state, begun_state, without_same, again_state, later_state, with_one, ended_state}

-- ---- the names that a heading gives its routine

-- a variable of the program is not hidden there
variable_found : (k : Known) (x : Symbol) (t : TypeId) → RightNames k → found k.program.variables x ≡ Some t
    → found (program_names k) x ≡ Some (OfPlace t)
variable_found k x t right e =
    let p = k.program in
    let last = symbol_names p.symbols ++ heading_names k.headings in
    let symbols : Names = map (λ (d : Decl). pair d.name (OfSymbol d)) p.symbols in
    let routines : Names = map (λ (g : Heading). pair g.name (OfRoutine g)) k.headings in
    let in_variables : list_any (same_name x) (keys p.variables ++ last) ≡ true =
    list_any-append (same_name x) (keys p.variables) last
    ∙ or_left (list_any (same_name x) (keys p.variables)) _ (found_key p.variables x t e) in
    let in_types : list_any (same_name x) (keys p.types ++ (keys p.variables ++ last)) ≡ true =
    list_any-append (same_name x) (keys p.types) (keys p.variables ++ last)
    ∙ or_right (list_any (same_name x) (keys p.types)) _ in_variables in
    let in_all : list_any (same_name x) (names_in k) ≡ true =
    list_any-append (same_name x) (keys p.constants) (keys p.types ++ (keys p.variables ++ last))
    ∙ or_right (list_any (same_name x) (keys p.constants)) _ in_types in
    let behind = differ_rest same_name name-refl same_names (keys p.constants) (keys p.types ++ (keys p.variables ++ last)) right.differ in
    let no_constant = (apart_turned same_name name-refl same_names (keys p.constants) (keys p.types ++ (keys p.variables ++ last))
    (differ_apart same_name name-refl same_names (keys p.constants) (keys p.types ++ (keys p.variables ++ last)) right.differ)).apart
    x in_types in
    let no_type = (apart_turned same_name name-refl same_names (keys p.types) (keys p.variables ++ last)
    (differ_apart same_name name-refl same_names (keys p.types) (keys p.variables ++ last) behind)).apart x in_variables in
    let constants = named OfConstant p.constants in
    let types = named OfType p.types in
    let variables = named OfPlace p.variables in
    let rest = symbols ++ routines in
    found_append (names_from_start k.start) (constants ++ (types ++ (variables ++ rest))) x
    ∙ (ap (λ o. first_of o (found (constants ++ (types ++ (variables ++ rest))) x))
    (found_none (names_from_start k.start) x (right.fixed.apart x in_all))
    ∙ (found_append constants (types ++ (variables ++ rest)) x
    ∙ (ap (λ o. first_of o (found (types ++ (variables ++ rest)) x))
    (found_mapped OfConstant p.constants x ∙ ap (option_map OfConstant) (found_none p.constants x no_constant))
    ∙ (found_append types (variables ++ rest) x
    ∙ (ap (λ o. first_of o (found (variables ++ rest) x))
    (found_mapped OfType p.types x ∙ ap (option_map OfType) (found_none p.types x no_type))
    ∙ (found_append variables rest x
    ∙ ap (λ o. first_of o (found rest x)) (found_mapped OfPlace p.variables x ∙ ap (option_map OfPlace) e)))))))

parameters_are : (fs : List Formal) → map (λ (f : Formal). pair f.name (OfPlace f.of)) fs ≡ named OfPlace (formal_types fs)
parameters_are [] = refl
parameters_are (f ∷ fs) = ap (λ l. pair f.name (OfPlace f.of) ∷ l) (parameters_are fs)

module _ (k : Known) (right : RightNames k) (types : List (Symbol × TypeId)) where
  start_sort : (i : Item) (s : Sort) → IsStart k.program types i s → item_sort (in_routine k (named OfPlace types) None) i ≡ s
  start_sort i s (start_formal x t e there) =
      let inner = in_routine k (named OfPlace types) None in
      ap (place_sort inner) (ap (λ o. first_of o (found (program_names k) x)) (found_mapped OfPlace types x ∙ ap (option_map OfPlace) e))
  start_sort i s (start_variable x t none e there) =
      let inner = in_routine k (named OfPlace types) None in
      ap (place_sort inner) (ap (λ o. first_of o (found (program_names k) x))
      (found_mapped OfPlace types x ∙ ap (option_map OfPlace) none) ∙ variable_found k x t right e)
  start_sort i s (start_class t there) = refl

  start_names : (is : List (Symbol × Item)) (ss : List (Symbol × Sort)) → Starts k.program types is ss
      → map (λ (i : Symbol × Item). pair i.0 (OfStart (item_sort (in_routine k (named OfPlace types) None) i.1))) is ≡ named OfStart ss
  start_names is ss starts_none = refl
  start_names is ss (starts_more y i s js us h g) =
      ap (λ w. pair y (OfStart w) ∷ map
      (λ (j : Symbol × Item). pair j.0 (OfStart (item_sort (in_routine k (named OfPlace types) None) j.1))) js) (start_sort i s h)
      ∙ ap (λ l. pair y (OfStart s) ∷ l) (start_names js us g)

pub own_again : (k : Known) (s : Specified) (sorts : List (Symbol × Sort)) → RightNames k → RightSpecified k.program s sorts
    → walk.heading_names k s ≡ named OfPlace (formal_types s.heading.formals) ++ named OfStart sorts
own_again k s sorts right good =
    let types = formal_types s.heading.formals in
    ap (λ ps. ps ++ map (λ (i : Symbol × Item). pair i.0 (OfStart (item_sort (in_routine k ps None) i.1))) s.initial)
    (parameters_are s.heading.formals)
    ∙ ap (λ l. named OfPlace types ++ l) (start_names k right types s.initial sorts good.are_starts)

-- ---- bodies

-- a body that has begun
pub record RightBegun (k : Known) (b : Begun) : Type 0 where
  pub known : b.local.known ≡ k
  pub is : heading_at k b.specified.heading.name ≡ Some b.specified.heading
  pub none : awaited_at k b.specified.heading.name ≡ None
  pub sorts : List (Symbol × Sort)
  pub constants : List (Symbol × ℤ)
  pub own : b.local.own ≡ own_of (formal_types b.specified.heading.formals) sorts constants b.local.variables
  pub right : RightSpecified k.program b.specified sorts
  pub there : all_there k.program.forms b.local.variables ≡ true
  pub differ : names_differ (b.specified.heading.name
      ∷ (keys (formal_types b.specified.heading.formals)
      ++ (keys b.specified.initial ++ (keys b.local.variables ++ variables_among (items_in b.specified.heading.globals))))) ≡ true

abbrev setting_of : Heading → Known → Names → Names → Setting
setting_of h k results own = record { inside = in_routine k own (Some h); noted = in_routine k (results ++ own) (Some h); counted = [] }

body_ok : (bodies : List Symbol) (k : Known) (b : Begun) (t : tree.Block) (s : Statement)
    → RightState bodies k (b.specified.heading.name ∷ []) → RightBegun k b → block_walk (body_setting b.specified.heading b.local) t ≡ Ok s
    → (p : Program) → Final k p → routine_ok p (with_body b.specified b.local.variables s) ≡ true
body_ok bodies k b t s state begun e p final =
    let h = b.specified.heading in
    let locals = b.local.variables in
    let own = own_of (formal_types h.formals) begun.sorts begun.constants locals in
    let begins : body.Begins k b.specified begun.sorts begun.constants locals =
    record {
      known = state.known;
      headings = state.headings;
      specified = begun.right;
      itself = begun.is;
      there = begun.there;
      differ =
          begun.differ;
    } in
    let one : block_walk (setting_of h k (result_names h.name h.result) b.local.own) t ≡ Ok s =
    subst (λ n. block_walk (setting_of h n (result_names h.name h.result) b.local.own) t ≡ Ok s) begun.known e in
    let two : block_walk (setting_of h k (result_names h.name h.result) own) t ≡ Ok s =
    subst (λ o. block_walk (setting_of h k (result_names h.name h.result) o) t ≡ Ok s) begun.own one in
    let three : block_walk (setting_of h k (named OfPlace (result_name h.name h.result)) own) t ≡ Ok s =
    subst (λ o. block_walk (setting_of h k o own) t ≡ Ok s) (result_named h.name h.result) two in
    let stands = body_stands k b.specified begun.sorts begun.constants locals begins p final s in
    routine_right k b.specified begun.sorts begun.constants locals begins p final s
    (statements_are_well_typed (setting_of h k (named OfPlace (result_name h.name h.result)) own) (known_program k p) p
    (Some (r k b.specified begun.sorts begun.constants locals begins p final s)) stands (λ v none. absurd (false≢true none)) t s three)

-- ---- between two marks

abbrev waiting : Known → Progress
waiting k = record { known = k; begun = None }

abbrev started : Known → Specified → Local → Progress
started k s local = record { known = k; begun = Some (record { specified = s; local = local }) }

module _ (bodies : List Symbol) where
  -- where the walk stands, how many bodies have begun and not ended, and of which routine
  pub data AtMark : Progress → ℕ → List Symbol → Type 0 where
    between : (k : Known) → RightState bodies k [] → AtMark (record { known = k; begun = None }) 0 []
    inside : (k : Known) (b : Begun) → RightState bodies k (b.specified.heading.name ∷ []) → RightBegun k b
        → AtMark (record { known = k; begun = Some b }) 1 (b.specified.heading.name ∷ [])

  -- a step that brings no further routine to its end
  record Stepped (k : Known) (next : Progress) (n : ℕ) (name : Symbol) : Type 0 where
    begun : List Symbol
    at : AtMark next n begun
    routines : routine_names next.known ≡ routine_names k
    is : begun ≡ name ∷ []

  record StillBetween (k : Known) (next : Progress) : Type 0 where
    at : AtMark next 0 []
    routines : routine_names next.known ≡ routine_names k

  pub record NewHeading (k : Known) (h : HeadingText) (headed : Headed) : Type 0 where
    pub right : RightHeaded k.program (heading_name h.form).symbol (number_of bodies (heading_name h.form).symbol) headed
    pub free : is_free k headed.specified.heading.name ≡ true
    pub number : headed.specified.heading.number ≡ number_of bodies headed.specified.heading.name

  pub new_right : (k : Known) (h : HeadingText) (c : Clauses) (headed : Headed) → RightKnown k → first_heading bodies k h c ≡ Ok headed
      → NewHeading k h headed
  new_right k h c headed known e =
      let name = heading_name h.form in
      let step = form_walk k (number_of bodies name.symbol) h.line c h.form in
      let may = held (is_free_for_call k name.symbol) (twice name) step headed e in
      let free = left_true _ _ may in
      let right = form_right k (number_of bodies name.symbol) h.line c h.form headed known free
      (behind_test (is_free_for_call k name.symbol) (twice name) step headed e) in
      record {
        right = right;
        free = subst (λ x. is_free k x ≡ true) (sym right.name) free;
        number = right.number ∙ ap (number_of bodies) (sym right.name);
      }

  announce_right : (k : Known) (h : HeadingText) (c : Clauses) (o : Option Specified) (next : Progress) → RightState bodies k []
      → announce bodies k h c o ≡ Ok next → StillBetween k next
  announce_right k h c (Some first) next state e = absurd (no_fault e)
  announce_right k h c None next state e =
      let made = λ (headed : Headed). fine
      (waiting (with_awaited (with_heading k headed.specified.heading) (k.awaited ++ headed.specified ∷ []))) in
      let one = went (first_heading bodies k h c) made next e in
      let n = new_right k h c one.value state.known one.first in
      subst (StillBetween k) (same_value one.rest) (record {
        at = between (with_awaited (with_heading k one.value.specified.heading) (k.awaited ++ one.value.specified ∷ []))
            (announced_state bodies k one.value.specified n.right.sorts state n.free n.right.right n.number);
        routines = refl;
      })

  -- a body begins, where its heading is known
  begun_right : (k : Known) (headed : Headed) (l : Locals) (next : Progress) (sorts : List (Symbol × Sort))
      → RightState bodies k (headed.specified.heading.name ∷ [])
      → heading_at k headed.specified.heading.name ≡ Some headed.specified.heading
      → awaited_at k headed.specified.heading.name ≡ None
      → RightSpecified k.program headed.specified sorts
      → headed.own ≡ named OfPlace (formal_types headed.specified.heading.formals) ++ named OfStart sorts → begun_of k headed l ≡ Ok next
      → Stepped k next 1 headed.specified.heading.name
  begun_right k headed l next sorts state is none right own e =
      let h = headed.specified.heading in
      let one = went (locals_walk k headed l) (λ local. fine (started local.known headed.specified local)) next e in
      let local = one.value in
      let rl = locals_right k state.known headed.specified sorts right headed l local refl own one.first in
      let now = later_state bodies k local.known (h.name ∷ []) state rl.known rl.later rl.same in
      subst (λ (n : Progress). Stepped k n 1 h.name) (same_value one.rest) (record {
        begun = h.name ∷ [];
        at = inside local.known (record { specified = headed.specified; local = local }) now (record {
          known = refl;
          is = ap (λ hs. found (headings_named hs) h.name) rl.same.headings ∙ is;
          none = ap (λ ss. found (specified_named ss) h.name) rl.same.awaited ∙ none;
          sorts = sorts;
          constants = rl.constants;
          own = rl.own;
          right = specified_later k.program local.known.program state.known.program rl.later headed.specified sorts right;
          there = rl.there;
          differ = rl.differ;
        });
        routines = ap (map (λ (c : Routine). c.name)) rl.same.routines;
        is = refl;
      })

  no_heading_no_wait : (k : Known) (x : Symbol) → RightState bodies k [] → heading_at k x ≡ None → awaited_at k x ≡ None
  no_heading_no_wait k x state none = by_awaited (awaited_at k x) refl
    where
      by_awaited : (o : Option Specified) → awaited_at k x ≡ o → awaited_at k x ≡ None
      by_awaited None e = e
      by_awaited (Some s) e = absurd (nothing_there (sym none ∙ (state.awaited x s e).is))

  first_right : (k : Known) (h : HeadingText) (c : Clauses) (l : Locals) (next : Progress) → RightState bodies k []
      → begin_first bodies k h c l ≡ Ok next → Stepped k next 1 (heading_name h.form).symbol
  first_right k h c l next state e =
      let one = went (first_heading bodies k h c) (λ headed. begun_of (with_heading k headed.specified.heading) headed l) next e in
      let headed = one.value in
      let n = new_right k h c headed state.known one.first in
      let none = free_heading k headed.specified.heading.name n.free in
      subst (λ x. Stepped k next 1 x) n.right.name
      (again_from k next headed.specified.heading.name headed.specified.heading
      (begun_right (with_heading k headed.specified.heading) headed l next n.right.sorts
      (begun_state bodies k headed.specified n.right.sorts state n.free n.right.right n.number)
      (new_heading k headed.specified.heading none)
      (no_heading_no_wait k headed.specified.heading.name state none) n.right.right n.right.own one.rest))
    where
      again_from : (k : Known) (next : Progress) (x : Symbol) (g : Heading) → Stepped (with_heading k g) next 1 x → Stepped k next 1 x
      again_from k next x g s = record { begun = s.begun; at = s.at; routines = s.routines; is = s.is }

  again_right : (k : Known) (first : Specified) (h : HeadingText) (c : Clauses) (l : Locals) (next : Progress) → RightState bodies k []
      → awaited_at k (heading_name h.form).symbol ≡ Some first → begin_again k first h c l ≡ Ok next
      → Stepped k next 1 (heading_name h.form).symbol
  again_right k first h c l next state waits e =
      let x = (heading_name h.form).symbol in
      let name : first.heading.name ≡ x = found_name (λ (s : Specified). s.heading.name) k.awaited x first waits in
      let here : awaited_at k first.heading.name ≡ Some first = ap (awaited_at k) name ∙ waits in
      let rest = with_awaited k (without k.awaited first.heading.name) in
      let headed : Headed = record { specified = first; own = walk.heading_names rest first } in
      let test = is_bare_form first.heading.is_function h.form && is_bare c in
      let step = begun_of rest headed l in
      let again = again_state bodies k first.heading.name first state here in
      let g = state.awaited first.heading.name first here in
      let s = begun_right rest headed l next g.sorts again g.is (without_same k.awaited first.heading.name) g.right
      (own_again rest first g.sorts again.known.names g.right) (behind_test test (twice_at h) step next e) in
      subst (λ y. Stepped k next 1 y) name (record { begun = s.begun; at = s.at; routines = s.routines; is = s.is })

  begin_right : (k : Known) (h : HeadingText) (c : Clauses) (l : Locals) (o : Option Specified) (next : Progress) → RightState bodies k []
      → awaited_at k (heading_name h.form).symbol ≡ o → begin bodies k h c l o ≡ Ok next → Stepped k next 1 (heading_name h.form).symbol
  begin_right k h c l None next state waits e = first_right k h c l next state e
  begin_right k h c l (Some first) next state waits e = again_right k first h c l next state waits e

  record EndedAt (k : Known) (name : Symbol) (next : Progress) : Type 0 where
    at : AtMark next 0 []
    routines : routine_names next.known ≡ routine_names k ++ name ∷ []

  end_right : (k : Known) (b : Begun) (t : tree.Block) (next : Progress)
      → RightState bodies k (b.specified.heading.name ∷ []) → RightBegun k b → end_body k (Some b) t ≡ Ok next
      → EndedAt k b.specified.heading.name next
  end_right k b t next state begun e =
      let h = b.specified.heading in
      let made = λ (s : Statement). fine (waiting (with_one k (with_body b.specified b.local.variables s))) in
      let one = went (block_walk (body_setting h b.local) t) made next e in
      let c = with_body b.specified b.local.variables one.value in
      subst (EndedAt k h.name) (same_value one.rest) (record {
        at = between (with_one k c) (ended_state bodies k h c state refl begun.is begun.none refl refl refl
            (body_ok bodies k b t one.value state begun one.first));
        routines = map-append (λ (d : Routine). d.name) k.program.routines (c ∷ []);
      })

  -- ---- all marks

  pub record RoutinesEnd (end : Progress) : Type 0 where
    pub state : RightState bodies end.known []
    pub all : bodies ≡ routine_names end.known

  awaited_told : (k : Known) (x : Symbol) → awaited_at k x ≡ awaited_of k.awaited x
  awaited_told k x = sym (awaited_is k.awaited x)

  pub marks_right : (marks : List RoutineMark) (at : Progress) (n : ℕ) (begun : List Symbol) (end : Progress) → AtMark at n begun
      → routines_ok n marks ≡ true
      → bodies ≡ routine_names at.known ++ (begun ++ names_of_bodies marks) → each (mark_walk bodies) at marks ≡ Ok end → RoutinesEnd end
  marks_right [] at n begun end (between k state) ok all e =
      subst RoutinesEnd (same_value e) (record { state = state; all = all ∙ append-nil (routine_names k) })
  marks_right [] at n begun end (inside k b state right) ok all e = absurd (false≢true ok)
  marks_right (Announced h c ∷ marks) at n begun end (between k state) ok all e =
      let x = (heading_name h.form).symbol in
      let one = went (mark_walk bodies (waiting k) (Announced h c)) (λ next. each (mark_walk bodies) next marks) end e in
      let s = announce_right k h c (awaited_of k.awaited x) one.value state one.first in
      marks_right marks one.value 0 [] end s.at ok (all ∙ ap (λ ns. ns ++ names_of_bodies marks) (sym s.routines)) one.rest
  marks_right (Announced h c ∷ marks) at n begun end (inside k b state right) ok all e = absurd (no_fault e)
  marks_right (Begins h c l ∷ marks) at n begun end (between k state) ok all e =
      let x = (heading_name h.form).symbol in
      let one = went (mark_walk bodies (waiting k) (Begins h c l)) (λ next. each (mark_walk bodies) next marks) end e in
      let s = begin_right k h c l (awaited_of k.awaited x) one.value state (awaited_told k x) one.first in
      marks_right marks one.value 1 s.begun end s.at ok
      (all ∙ (ap (λ ns. ns ++ (x ∷ names_of_bodies marks)) (sym s.routines)
      ∙ ap (λ ns. routine_names one.value.known ++ (ns ++ names_of_bodies marks)) (sym s.is))) one.rest
  marks_right (Begins h c l ∷ marks) at n begun end (inside k b state right) ok all e = absurd (no_fault e)
  marks_right (Ends t ∷ marks) at n begun end (between k state) ok all e = absurd (false≢true ok)
  marks_right (Ends t ∷ marks) at n begun end (inside k b state right) ok all e =
      let one = went (mark_walk bodies (record { known = k; begun = Some b }) (Ends t)) (λ next. each (mark_walk bodies) next marks) end
      e in
      let s = end_right k b t one.value state right one.first in
      marks_right marks one.value 0 [] end s.at (right_true (block_ok t) _ ok)
      (all ∙ (sym (append_assoc (routine_names k) (b.specified.heading.name ∷ []) (names_of_bodies marks))
      ∙ ap (λ ns. ns ++ names_of_bodies marks) (sym s.routines))) one.rest

  -- where marks lead: between two of them, or into a body
  pub record IsReached (end : Progress) : Type 0 where
    pub count : ℕ
    pub begun : List Symbol
    pub at : AtMark end count begun

  pub marks_reach : (marks : List RoutineMark) (at : Progress) (n : ℕ) (begun : List Symbol) (end : Progress) → AtMark at n begun
      → each (mark_walk bodies) at marks ≡ Ok end → IsReached end
  marks_reach [] at n begun end here e = subst IsReached (same_value e) (record { count = n; begun = begun; at = here })
  marks_reach (Announced h c ∷ marks) at n begun end (between k state) e =
      let x = (heading_name h.form).symbol in
      let one = went (mark_walk bodies (waiting k) (Announced h c)) (λ next. each (mark_walk bodies) next marks) end e in
      let s = announce_right k h c (awaited_of k.awaited x) one.value state one.first in
      marks_reach marks one.value 0 [] end s.at one.rest
  marks_reach (Announced h c ∷ marks) at n begun end (inside k b state right) e = absurd (no_fault e)
  marks_reach (Begins h c l ∷ marks) at n begun end (between k state) e =
      let x = (heading_name h.form).symbol in
      let one = went (mark_walk bodies (waiting k) (Begins h c l)) (λ next. each (mark_walk bodies) next marks) end e in
      let s = begin_right k h c l (awaited_of k.awaited x) one.value state (awaited_told k x) one.first in
      marks_reach marks one.value 1 s.begun end s.at one.rest
  marks_reach (Begins h c l ∷ marks) at n begun end (inside k b state right) e = absurd (no_fault e)
  marks_reach (Ends t ∷ marks) at n begun end (between k state) e = marks_reach marks (waiting k) 0 [] end (between k state) e
  marks_reach (Ends t ∷ marks) at n begun end (inside k b state right) e =
      let one = went (mark_walk bodies (record { known = k; begun = Some b }) (Ends t)) (λ next. each (mark_walk bodies) next marks) end
      e in
      let s = end_right k b t one.value state right one.first in
      marks_reach marks one.value 0 [] end s.at one.rest
