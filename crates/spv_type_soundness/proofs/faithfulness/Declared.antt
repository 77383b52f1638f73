-- Declarations come from their trees.
use Rattle.std.proofs.Common.{◌≡◌, ℕ, zero, suc, Bool, true, false, cond, List, [], ◌∷◌, ◌++◌, map, Option, Some, None, refl, sym, ap, ◌∙◌, subst}
use Rattle.std.specs.Prelude.{◌||◌, ◌&&◌, not, ℤ, Ok, option_map, is_some}
use Rattle.std.specs.List.{list_any}
use Rattle.std.proofs.lemmas.Bool.{false≢true}
use Rattle.std.proofs.lemmas.List.{append_assoc, append-nil}
use Rattle.spv_logic.specs.declared.names.names.Symbol.{Symbol}
use Rattle.spv_logic.specs.declared.types.TypeId.{TypeId}
use Rattle.spv_logic.specs.declared.types.Sort.{Sort}
use Rattle.spv_logic.specs.declared.types.Sort.TheVariants as sort
use Rattle.spv_logic.specs.declared.types.Decl.{Decl}
use Rattle.spv_tree.specs.declared.syntax.lists.Several.{Several}
use Rattle.spv_tree.specs.declared.syntax.names.Name.{Name}
use Rattle.spv_tree.specs.declared.syntax.declarations.Const.{Const}
use Rattle.spv_tree.specs.declared.syntax.declarations.Typedef.{Typedef}
use Rattle.spv_tree.specs.declared.syntax.declarations.Vars.{Vars}
use Rattle.spv_tree.specs.declared.syntax.declarations.NameOrClass.{NameOrClass}
use Rattle.spv_tree.specs.declared.syntax.declarations.NameOrClass.TheVariants as written
use Rattle.spv_tree.specs.declared.syntax.declarations.SortName.{SortName}
use Rattle.spv_tree.specs.declared.syntax.declarations.SymbolText.{SymbolText}
use Rattle.spv_tree.specs.declared.syntax.declarations.Declarations.{Declarations}
use Rattle.spv_program.specs.declared.types.TypeForm.{TypeForm}
use Rattle.spv_program.specs.declared.types.TypeForm.TheVariants.{Integer, Boolean, Pointer}
use Rattle.spv_program.specs.Lists.{same_name, found, item_at}
use Rattle.spv_program.specs.Types.{form_at, sort_of, sort_of_form}
use Rattle.spv_program.specs.Programs.{Program}
use Rattle.spv_program.proofs.SortFacts.{nothing_there, some_is}
use Rattle.spv_typing.specs.Outcomes.{after, each, all_of, twice}
use Rattle.spv_typing.specs.Known.{KnownNames, Meaning, OfType, OfList, OfConstant, OfPlace, OfStart, OfSymbol, OfRoutine, Known, at_top, meaning, is_free, is_free_for_call}
use Rattle.spv_typing.specs.Merging.{Written, Built, form_with, form_of, target_or_first, merged}
use Rattle.spv_typing.specs.TypeWalk.{all_names, constant, Reading, denoted}
use Rattle.spv_typing.specs.DeclarationWalk.{with_program, with_constant, const_walk, TypePart, typedef_walk, with_merged, type_part_walk, NewType, type_walk, new_name, vars_walk, with_variables, sort_named, class_named, sort_walk, sorts_in_brackets, symbol_walk, with_symbol, declarations_walk}
use Rattle.spv_typing.specs.ProgramWalk.{no_main}
use Rattle.spv_type_soundness.proofs.well_typed.Outcomes.{fine, no_fault, same_value, went, behind_test}
use Rattle.spv_type_soundness.specs.faithfulness.Names.{View, type_named, constant_named, types_from_start, seen}
use Rattle.spv_type_soundness.specs.faithfulness.Names as names
use Rattle.spv_type_soundness.specs.faithfulness.Types.{TypeFrom}
use Rattle.spv_type_soundness.specs.faithfulness.Declarations.{ConstsFrom, no_consts, one_const, TypedefsFrom, no_typedefs, one_typedef, group_of, VarsFrom, no_vars, one_group, SortFrom, of_type, of_list, of_class, SortsFrom, no_sorts, one_sort, sorts_written, SymbolsFrom, no_symbols, one_symbol, with_constants, with_types, DeclarationsFrom}
use Rattle.spv_type_soundness.proofs.faithfulness.Firsts.{There}
use Rattle.spv_type_soundness.proofs.faithfulness.Merged.{FormIn, integer_in, boolean_in, WrittenIn, built_in, FormsRight, forms_kept, forms_right, new_there, old_number, old_form}
use Rattle.spv_type_soundness.proofs.faithfulness.Scopes.{found_append, found_map, Told, told_type, told_list, Means, by_own, by_program, OwnAs, no_own, means, same_name-true}
use Rattle.spv_type_soundness.proofs.faithfulness.Seeing.{constants_seen}
use Rattle.spv_type_soundness.proofs.faithfulness.Constants.{constant_from}
use Rattle.spv_type_soundness.proofs.faithfulness.Denoted.{Longer, longer_same, longer_on, longer_there, denoted_longer, denoted_there, denoted_from}
use Rattle.spv_type_soundness.proofs.faithfulness.NewTypes.{Keeps, keeps_same, keeps_on, keeps_there, WrittenAll, new_from, plain_forms}

-- what is known where these declarations have been read
abbrev pub known_at : KnownNames → List TypeForm → List (Symbol × ℤ) → List (Symbol × TypeId) → List (Symbol × TypeId) → List Decl → Known
known_at start forms constants types variables symbols = record {
  start = start;
  program = record {
    forms = forms;
    titles = [];
    types = types;
    constants = constants;
    variables = variables;
    symbols = symbols;
    routines = [];
    main = no_main;
  };
  headings = [];
  awaited = [];
}

abbrev pub first_forms : List TypeForm
first_forms = Integer ∷ Boolean ∷ []

pub form_at-item : (forms : List TypeForm) (i : ℕ) (f : TypeForm) → item_at forms i ≡ Some f → form_at forms i ≡ f
form_at-item [] i f e = absurd (nothing_there e)
form_at-item (g ∷ forms) zero f e = some_is e
form_at-item (g ∷ forms) (suc i) f e = form_at-item forms i f e

-- a type that is known at the top
pub type_told : (k : Known) (x : Symbol) (t : TypeId) → meaning (at_top k) x ≡ Some (OfType t)
    → found (types_from_start k.start ++ k.program.types) x ≡ Some t
type_told k x t e = by_means (means k [] [] x (OfType t) no_own e)
  where
    by_means : Means k [] x (OfType t) → found (types_from_start k.start ++ k.program.types) x ≡ Some t
    by_means (by_own m o h f) = elim h [ ]
    by_means (by_program m none (told_type w f)) = f

-- ---- constants

module _ (start : KnownNames) where
  record ConstsDone (forms : List TypeForm) (before : List (Symbol × ℤ)) (cs : List Const) (k : Known) : Type 0 where
    pub all : List (Symbol × ℤ)
    pub is : known_at start forms all [] [] [] ≡ k
    pub from : (p : Program) → ConstsFrom (with_constants start p) before cs all

  consts_done : (forms : List TypeForm) (before : List (Symbol × ℤ)) (cs : List Const) (k : Known)
      → each const_walk (known_at start forms before [] [] []) cs ≡ Ok k → ConstsDone forms before cs k
  consts_done forms before [] k e = record { all = before; is = same_value e; from = λ p. no_consts }
  consts_done forms before (c ∷ cs) k e =
      let now = known_at start forms before [] [] [] in
      let one = went (const_walk now c) (λ next. each const_walk next cs) k e in
      let next = after (constant (at_top now) c.value) (λ z. fine (with_program now (with_constant now.program c.name.symbol z))) in
      let two = went (constant (at_top now) c.value) (λ z. fine (with_program now (with_constant now.program c.name.symbol z))) one.value
      (behind_test (is_free now c.name.symbol) (twice c.name) next one.value one.first) in
      let z = two.value in
      let rest = consts_done forms (before ++ (c.name.symbol, z) ∷ []) cs k
      (ap (λ q. each const_walk q cs) (same_value two.rest) ∙ one.rest) in
      record {
        all = rest.all;
        is = rest.is;
        from = λ p.
            one_const (constant_from (at_top now) (with_constants start p before)
            (constants_seen now [] [] no_own None start (record p { constants = before }) None refl) c.value z two.first) (rest.from p);
      }

-- ---- the TYPE part

abbrev pub numbered : (TypeId → TypeId) → List (Symbol × TypeId) → List (Symbol × TypeId)
numbered new types = map (λ (n : Symbol × TypeId). (n.0, new n.1)) types

numbered_append : (new : TypeId → TypeId) (xs : List (Symbol × TypeId)) (x : Symbol) (t : TypeId)
    → numbered new (xs ++ (x, t) ∷ []) ≡ numbered new xs ++ (x, new t) ∷ []
numbered_append new [] x t = refl
numbered_append new (y ∷ xs) x t = ap (λ q. (y.0, new y.1) ∷ q) (numbered_append new xs x t)

-- a type from the start, or one of these
type_numbered : (start : KnownNames) (new : TypeId → TypeId) (types : List (Symbol × TypeId)) (x : Symbol) (t : TypeId)
    → new (record { 0 = 0 }) ≡ record { 0 = 0 } → new (record { 0 = 1 }) ≡ record { 0 = 1 }
    → found (types_from_start start ++ types) x ≡ Some t → found (types_from_start start ++ numbered new types) x ≡ Some (new t)
type_numbered start new types x t first second e = by_tests (same_name start.integer x) (same_name start.boolean x) e
  where
    by_tests : (a b : Bool) → cond a (Some (record { 0 = 0 })) (cond b (Some (record { 0 = 1 })) (found types x)) ≡ Some t
        → cond a (Some (record { 0 = 0 })) (cond b (Some (record { 0 = 1 })) (found (numbered new types) x)) ≡ Some (new t)
    by_tests true b f = ap Some (sym first ∙ ap new (some_is f))
    by_tests false true f = ap Some (sym second ∙ ap new (some_is f))
    by_tests false false f = found_map new types x ∙ ap (option_map new) f

pub type_there : {X : Type 0} (start : KnownNames) (xs : List X) (types : List (Symbol × TypeId)) (x : Symbol) (t : TypeId) → There xs 0
    → There xs 1 → ((x : Symbol) (t : TypeId) → found types x ≡ Some t → There xs t.0)
    → found (types_from_start start ++ types) x ≡ Some t → There xs t.0
type_there start xs types x t first second there e = by_tests (same_name start.integer x) (same_name start.boolean x) e
  where
    by_tests : (a b : Bool) → cond a (Some (record { 0 = 0 })) (cond b (Some (record { 0 = 1 })) (found types x)) ≡ Some t → There xs t.0
    by_tests true b f = subst (λ (q : TypeId). There xs q.0) (some_is f) first
    by_tests false true f = subst (λ (q : TypeId). There xs q.0) (some_is f) second
    by_tests false false f = there x t f

found_last : (types : List (Symbol × TypeId)) (y : Symbol) (u : TypeId) (x : Symbol) (t : TypeId)
    → found (types ++ (y, u) ∷ []) x ≡ Some t → (P : TypeId → Type 0) → ((x : Symbol) (t : TypeId) → found types x ≡ Some t → P t) → P u
    → P t
found_last [] y u x t e P h last = by_case (same_name y x) e
  where
    by_case : (b : Bool) → cond b (Some u) None ≡ Some t → P t
    by_case true f = subst P (some_is f) last
    by_case false f = absurd (nothing_there f)
found_last (n ∷ types) y u x t e P h last = by_case (found (n ∷ types) x) refl (sym (found_append (n ∷ types) ((y, u) ∷ []) x) ∙ e)
  where
    by_last : (b : Bool) → cond b (Some u) None ≡ Some t → P t
    by_last true f = subst P (some_is f) last
    by_last false f = absurd (nothing_there f)

    by_case : (o : Option TypeId) → found (n ∷ types) x ≡ o → Rattle.spv_program.specs.Lists.first_of o (found ((y, u) ∷ []) x) ≡ Some t
        → P t
    by_case (Some w) k f = subst P (some_is f) (h x w k)
    by_case None k f = by_last (same_name y x) f

record FoundIn (types : List (Symbol × TypeId)) (x : Symbol) : Type 0 where
  pub type : TypeId
  pub is : found types x ≡ Some type

last_there : (types : List (Symbol × TypeId)) (y : Symbol) (u : TypeId) (x : Symbol) → same_name y x ≡ true
    → FoundIn (types ++ (y, u) ∷ []) x
last_there types y u x h = by_found (found types x) (found_append types ((y, u) ∷ []) x)
  where
    by_found : (o : Option TypeId) → found (types ++ (y, u) ∷ []) x ≡ Rattle.spv_program.specs.Lists.first_of o
        (cond (same_name y x) (Some u) None) → FoundIn (types ++ (y, u) ∷ []) x
    by_found (Some w) k = record { type = w; is = k }
    by_found None k = record { type = u; is = k ∙ ap (λ b. cond b (Some u) None) h }

abbrev names_a_type : List Typedef → Symbol → Bool
names_a_type ds x = list_any (λ (d : Typedef). same_name d.name.symbol x) ds

typedef_has : (d : Typedef) (ds : List Typedef) (x : Symbol) (more types : List (Symbol × TypeId))
    → (same_name d.name.symbol x ≡ true → FoundIn more x) → ((t : TypeId) → found more x ≡ Some t → found types x ≡ Some t)
    → (names_a_type ds x ≡ true → is_some (found types x) ≡ true) → names_a_type (d ∷ ds) x ≡ true → is_some (found types x) ≡ true
typedef_has d ds x more types first kept later h = by_case (same_name d.name.symbol x) refl h
  where
    by_case : (b : Bool) → same_name d.name.symbol x ≡ b → (b || names_a_type ds x) ≡ true → is_some (found types x) ≡ true
    by_case true k g = let f = first k in ap is_some (kept f.type f.is)
    by_case false k g = later g

module _ (start : KnownNames) (forms : List TypeForm) (constants : List (Symbol × ℤ)) (is_target : Symbol → Bool) where
  abbrev part_at : List (Symbol × TypeId) → List Written → TypePart
  part_at types ws = record { known = known_at start forms constants types [] []; written = ws }

  record TypedefsDone (before : List (Symbol × TypeId)) (ws : List Written) (ds : List Typedef) (part : TypePart) : Type 0 where
    pub types : List (Symbol × TypeId)
    pub written : List Written
    pub is : part_at types written ≡ part
    pub longer : Longer ws written
    pub kept : (x : Symbol) (t : TypeId) → found before x ≡ Some t → found types x ≡ Some t
    pub has : (x : Symbol) → names_a_type ds x ≡ true → is_some (found types x) ≡ true

  record TypedefStep (before : List (Symbol × TypeId)) (ws : List Written) (d : Typedef) (part : TypePart) : Type 0 where
    pub reading : Reading
    pub read : denoted (at_top (known_at start forms constants before [] [])) is_target ws d.of ≡ Ok reading
    pub is : part_at (before ++ (d.name.symbol, reading.type) ∷ []) reading.written ≡ part

  typedef_step : (before : List (Symbol × TypeId)) (ws : List Written) (d : Typedef) (part : TypePart)
      → typedef_walk is_target (part_at before ws) d ≡ Ok part → TypedefStep before ws d part
  typedef_step before ws d part e =
      let now = known_at start forms constants before [] [] in
      let result = λ (r : Reading). fine (part_at (before ++ (d.name.symbol, r.type) ∷ []) r.written) in
      let two = went (denoted (at_top now) is_target ws d.of) result part
      (behind_test (is_free now d.name.symbol) (twice d.name) (after (denoted (at_top now) is_target ws d.of) result) part e) in
      record { reading = two.value; read = two.first; is = same_value two.rest }

  typedefs_done : (before : List (Symbol × TypeId)) (ws : List Written) (ds : List Typedef) (part : TypePart)
      → each (typedef_walk is_target) (part_at before ws) ds ≡ Ok part → TypedefsDone before ws ds part
  typedefs_done before ws [] part e = record {
    types = before;
    written = ws;
    is = same_value e;
    longer = longer_same ws;
    kept = λ x t k.
        k;
    has = λ x h. absurd (false≢true h);
  }
  typedefs_done before ws (d ∷ ds) part e =
      let one = went (typedef_walk is_target (part_at before ws) d) (λ next. each (typedef_walk is_target) next ds) part e in
      let step = typedef_step before ws d one.value one.first in
      let more = before ++ (d.name.symbol, step.reading.type) ∷ [] in
      let rest = typedefs_done more step.reading.written ds part (ap (λ q. each (typedef_walk is_target) q ds) step.is ∙ one.rest) in
      record {
        types = rest.types;
        written = rest.written;
        is = rest.is;
        longer = longer_on ws step.reading.written rest.written
            (denoted_longer (at_top (known_at start forms constants before [] [])) is_target ws d.of step.reading step.read) rest.longer;
        kept = λ x t k. rest.kept x t (Rattle.spv_type_soundness.proofs.faithfulness.Scopes.found_before before ((d.name.symbol, step.reading.type) ∷ []) x t k);
        has = λ x h. typedef_has d ds x more rest.types (λ k. last_there before d.name.symbol step.reading.type x k)
            (λ t k. rest.kept x t k) (rest.has x) h;
      }

-- each type of the TYPE part is among those that were written
typedefs_there : (start : KnownNames) (constants : List (Symbol × ℤ)) (is_target : Symbol → Bool) (before : List (Symbol × TypeId))
    (ws : List Written) (ds : List Typedef) (part : TypePart) → There ws 0 → There ws 1
    → ((x : Symbol) (t : TypeId) → found before x ≡ Some t → There ws t.0)
    → each (typedef_walk is_target) (part_at start first_forms constants is_target before ws) ds ≡ Ok part
    → (x : Symbol) (t : TypeId) → found part.known.program.types x ≡ Some t → There part.written t.0
typedefs_there start constants is_target before ws [] part first second there e =
    subst (λ (q : TypePart). (x : Symbol) (t : TypeId) → found q.known.program.types x ≡ Some t → There q.written t.0) (same_value e) there
typedefs_there start constants is_target before ws (d ∷ ds) part first second there e =
    let known = known_at start first_forms constants before [] [] in
    let step1 = went (typedef_walk is_target (part_at start first_forms constants is_target before ws) d)
    (λ next. each (typedef_walk is_target) next ds) part e in
    let step = typedef_step start first_forms constants is_target before ws d step1.value step1.first in
    let r = step.reading in
    let more = before ++ (d.name.symbol, r.type) ∷ [] in
    let l1 = denoted_longer (at_top known) is_target ws d.of r step.read in
    let last = denoted_there (at_top known) is_target ws
    (λ x t h. type_there start ws before x t first second there (type_told known x t h)) ws d.of r (longer_same ws) step.read in
    typedefs_there start constants is_target more r.written ds part (longer_there ws r.written 0 l1 first)
    (longer_there ws r.written 1 l1 second)
    (λ x t h. found_last before d.name.symbol r.type x t h (λ q. There r.written q.0)
    (λ y u k. longer_there ws r.written u.0 l1 (there y u k)) last)
    (ap (λ q. each (typedef_walk is_target) q ds) step.is ∙ step1.rest)

-- the types of the TYPE part, with the final numbers
module _ (start : KnownNames) (constants : List (Symbol × ℤ)) (is_target : Symbol → Bool) (p : Program) (all : List (Symbol × TypeId))
    (whole : List Written) (new : TypeId → TypeId)
    (forms_are : (i : ℕ) (w : Written) → item_at whole i ≡ Some w
    → item_at p.forms (new (record { 0 = i })).0 ≡ Some (form_with new (form_of all w)))
    (new_zero : new (record { 0 = 0 }) ≡ record { 0 = 0 }) (new_one : new (record { 0 = 1 }) ≡ record { 0 = 1 })
    (constants_are : constants ≡ p.constants)
    (targets_there : (x : Symbol) → is_target x ≡ true → There whole (target_or_first (found all x)).0)
    (targets_found : (x : Symbol) → is_target x ≡ true → found all x ≡ Some (target_or_first (found all x)))
    (types_are : p.types ≡ numbered new all) where
  record TypedefsAre (before : List (Symbol × TypeId)) (ds : List Typedef) (part : TypePart) : Type 0 where
    pub all_in : WrittenAll all whole part.written
    pub there : (x : Symbol) (t : TypeId) → found part.known.program.types x ≡ Some t → There part.written t.0
    pub from : TypedefsFrom (with_types start p) p.types (numbered new before) ds (numbered new part.known.program.types)

  typedefs_are : (before : List (Symbol × TypeId)) (ws : List Written) (ds : List Typedef) (part : TypePart) → There ws 0 → There ws 1
      → ((x : Symbol) (t : TypeId) → found before x ≡ Some t → There ws t.0) → WrittenAll all whole ws
      → each (typedef_walk is_target) (part_at start first_forms constants is_target before ws) ds ≡ Ok part → Longer part.written whole
      → TypedefsAre before ds part
  typedefs_are before ws [] part first second there all_in e later =
      subst (TypedefsAre before []) (same_value e) (record { all_in = all_in; there = there; from = no_typedefs })
  typedefs_are before ws (d ∷ ds) part first second there all_in e later =
      let known = known_at start first_forms constants before [] [] in
      let s = at_top known in
      let v = with_types start p (numbered new before) in
      let step1 = went (typedef_walk is_target (part_at start first_forms constants is_target before ws) d)
      (λ next. each (typedef_walk is_target) next ds) part e in
      let step = typedef_step start first_forms constants is_target before ws d step1.value step1.first in
      let r = step.reading in
      let more = before ++ (d.name.symbol, r.type) ∷ [] in
      let rest_walk = ap (λ q. each (typedef_walk is_target) q ds) step.is ∙ step1.rest in
      let done = typedefs_done start first_forms constants is_target more r.written ds part rest_walk in
      let l1 = denoted_longer s is_target ws d.of r step.read in
      let l2 = subst (λ (q : TypePart). Longer r.written q.written) done.is done.longer in
      let w1 = longer_on r.written part.written whole l2 later in
      let types_there = λ (x : Symbol) (t : TypeId) (h : meaning s x ≡ Some (OfType t)). type_there start ws before x t first second there
      (type_told known x t h) in
      let types_named = λ (x : Symbol) (t : TypeId) (h : meaning s x ≡ Some (OfType t)). type_numbered start new before x t new_zero
      new_one (type_told known x t h) in
      let consts = λ (x : Symbol) (z : ℤ) (h : meaning s x ≡ Some (OfConstant z)). constants_seen known [] [] no_own None start
      (record p { types = numbered new before }) None constants_are x z h in
      let named = λ (x : Symbol) (h : is_target x ≡ true). ap (λ q. found q x) types_are
      ∙ (found_map new all x ∙ ap (option_map new) (targets_found x h)) in
      let a = denoted_from s is_target v p.types all ws whole new forms_are types_there types_named consts targets_there targets_found
      named ws d.of r (longer_same ws) (record { each_in = all_in.each_in }) step.read w1 in
      let next_there = λ (x : Symbol) (t : TypeId) (h : found more x ≡ Some t). found_last before d.name.symbol r.type x t h
      (λ q. There r.written q.0) (λ y u k. longer_there ws r.written u.0 l1 (there y u k)) a.there in
      let rest = typedefs_are more r.written ds part (longer_there ws r.written 0 l1 first) (longer_there ws r.written 1 l1 second)
      next_there (record { each_in = a.all_in.each_in }) rest_walk later in
      record {
        all_in = rest.all_in;
        there = rest.there;
        from = one_typedef a.from (subst (λ q. TypedefsFrom (with_types start p) p.types q ds (numbered new part.known.program.types))
            (numbered_append new before d.name.symbol r.type) rest.from);
      }

-- ---- all types of the TYPE part

-- the first two types
pub record FirstTwo (forms : List TypeForm) : Type 0 where
  pub zero : item_at forms 0 ≡ Some Integer
  pub one : item_at forms 1 ≡ Some Boolean

first_two_right : FormsRight first_forms
first_two_right = record { settled = λ a b u e h. no_pointer a u e; inside = λ i f e. each_in i f e }
  where
    is_pointer : TypeForm → Bool
    is_pointer (Pointer t) = true
    is_pointer _ = false

    no_pointer : {b : ℕ} (a : ℕ) (u : TypeId) → item_at first_forms a ≡ Some (Pointer u) → a ≡ b
    no_pointer zero u e = absurd (false≢true (ap is_pointer (some_is e)))
    no_pointer (suc zero) u e = absurd (false≢true (ap is_pointer (some_is e)))
    no_pointer (suc (suc a)) u e = absurd (nothing_there e)

    each_in : (i : ℕ) (f : TypeForm) → item_at first_forms i ≡ Some f → FormIn first_forms f
    each_in zero f e = subst (FormIn first_forms) (some_is e) integer_in
    each_in (suc zero) f e = subst (FormIn first_forms) (some_is e) boolean_in
    each_in (suc (suc i)) f e = absurd (nothing_there e)

pub record TypesDone (start : KnownNames) (constants : List (Symbol × ℤ)) (ds : List Typedef) (k : Known) : Type 0 where
  pub forms : List TypeForm
  pub types : List (Symbol × TypeId)
  pub is : known_at start forms constants types [] [] ≡ k
  pub right : FormsRight forms
  pub first : FirstTwo forms
  pub there : (x : Symbol) (t : TypeId) → found types x ≡ Some t → There forms t.0
  pub from : (p : Program) → Keeps forms p.forms → constants ≡ p.constants → types ≡ p.types
      → TypedefsFrom (with_types start p) p.types [] ds p.types

numbered_same : (types : List (Symbol × TypeId)) → numbered (λ t. t) types ≡ types
numbered_same [] = refl
numbered_same (n ∷ types) = ap (λ q. n ∷ q) (numbered_same types)

some_found : (o : Option TypeId) → is_some o ≡ true → o ≡ Some (target_or_first o)
some_found None h = absurd (false≢true h)
some_found (Some t) h = refl

numbered_there : (types : List (Symbol × TypeId)) (new : TypeId → TypeId) (P : TypeId → Type 0)
    → ((x : Symbol) (t : TypeId) → found types x ≡ Some t → P (new t)) → (x : Symbol) (u : TypeId) → found (numbered new types) x ≡ Some u
    → P u
numbered_there types new P h x u e = by_found (found types x) refl (sym (found_map new types x) ∙ e)
  where
    by_found : (o : Option TypeId) → found types x ≡ o → option_map new o ≡ Some u → P u
    by_found None k f = absurd (nothing_there f)
    by_found (Some t) k f = subst P (some_is f) (h x t k)

abbrev first_written : List Written
first_written = map Built first_forms

abbrev none_found : Symbol → Option TypeId
none_found x = None

nothing_at : (x : Symbol) (t : TypeId) → none_found x ≡ Some t → There first_written t.0
nothing_at x t e = absurd (nothing_there e)

first_each : (types : List (Symbol × TypeId)) (whole : List Written) (i : ℕ) (w : Written) → item_at first_written i ≡ Some w
    → WrittenIn types whole w
first_each types whole zero w e = subst (WrittenIn types whole) (some_is e) (built_in Integer integer_in)
first_each types whole (suc zero) w e = subst (WrittenIn types whole) (some_is e) (built_in Boolean boolean_in)
first_each types whole (suc (suc i)) w e = absurd (nothing_there e)

-- a program whose types have the numbers in which they were written
abbrev plain_program : KnownNames → List (Symbol × TypeId) → List Written → List (Symbol × ℤ) → Program
plain_program start types whole constants = record
    (known_at start (map (form_of types) whole) constants (numbered (λ t. t) types) [] []).program { titles = [] }

module _ (start : KnownNames) (constants : List (Symbol × ℤ)) (ds : List Typedef) where
  -- the types of the TYPE part, where all that was written begins with the first two types
  types_at : (types : List (Symbol × TypeId)) (more : List Written)
      → each (typedef_walk (names_a_type ds)) (part_at start first_forms constants (names_a_type ds) [] first_written) ds ≡ Ok
      (part_at start first_forms constants (names_a_type ds) types (first_written ++ more))
      → ((x : Symbol) → names_a_type ds x ≡ true → is_some (found types x) ≡ true)
      → TypesDone start constants ds (with_merged (part_at start first_forms constants (names_a_type ds) types (first_written ++ more)))
  types_at types more e has =
      let whole = first_written ++ more in
      let part = part_at start first_forms constants (names_a_type ds) types whole in
      let m = merged types whole in
      let zero_there : There first_written 0 = record { item = Built Integer; is = refl } in
      let one_there : There first_written 1 = record { item = Built Boolean; is = refl } in
      let whole_zero : There whole 0 = record { item = Built Integer; is = refl } in
      let whole_one : There whole 1 = record { item = Built Boolean; is = refl } in
      let none_there = λ (x : Symbol) (t : TypeId) (h : none_found x ≡ Some t). nothing_at x t h in
      let first_in : WrittenAll types whole first_written = record { each_in = λ i w h. first_each types whole i w h } in
      let found_there = λ (x : Symbol) (h : names_a_type ds x ≡ true). some_found (found types x) (has x h) in
      let longer : Longer whole whole = longer_same whole in
      let bounded = typedefs_there start constants (names_a_type ds) [] first_written ds part zero_there one_there none_there e in
      let a = typedefs_are start constants (names_a_type ds) (plain_program start types whole constants) types whole (λ t. t)
      (λ i w h. plain_forms types whole i w h) refl refl refl
      (λ x h. bounded x (target_or_first (found types x)) (found_there x h)) found_there refl [] first_written ds part zero_there
      one_there none_there first_in e longer in
      let right = λ (i : ℕ) (w : Written) (h : item_at whole i ≡ Some w). a.all_in.each_in i w h in
      let number = λ (t : TypeId) (h : There first_forms t.0). old_number types first_forms more first_two_right right t h in
      let new_zero = number (record { 0 = 0 }) (record { item = Integer; is = refl }) in
      let new_one = number (record { 0 = 1 }) (record { item = Boolean; is = refl }) in
      record {
        forms = m.forms;
        types = numbered m.new types;
        is = refl;
        right = forms_right types whole right;
        first = record {
          zero = old_form types first_forms more first_two_right right 0 Integer refl;
          one = old_form types first_forms
              more first_two_right right 1 Boolean refl;
        };
        there = numbered_there types m.new (λ u. There m.forms u.0) (λ x t h. new_there types whole right t (bounded x t h));
        from = λ p keeps same_constants same_types.
            subst (λ q. TypedefsFrom (with_types start p) p.types [] ds q) same_types
            (typedefs_are start constants (names_a_type ds) p types whole m.new
            (λ i w h. keeps.kept (m.new (record { 0 = i })).0 (form_with m.new (form_of types w))
            (forms_kept types whole right i w h)) new_zero new_one same_constants
            (λ x h. bounded x (target_or_first (found types x)) (found_there x h)) found_there (sym same_types) [] first_written ds part
            zero_there one_there none_there first_in e longer).from;
      }

  types_done : (k : Known) → type_part_walk (known_at start first_forms constants [] [] []) ds ≡ Ok k → TypesDone start constants ds k
  types_done k e =
      let one = went (each (typedef_walk (names_a_type ds)) (part_at start first_forms constants (names_a_type ds) [] first_written) ds)
      (λ part. fine (with_merged part)) k e in
      let done = typedefs_done start first_forms constants (names_a_type ds) [] first_written ds one.value one.first in
      let same : part_at start first_forms constants (names_a_type ds) done.types (first_written ++ done.longer.more) ≡ one.value =
      ap (λ ws. part_at start first_forms constants (names_a_type ds) done.types ws) (sym done.longer.is) ∙ done.is in
      subst (TypesDone start constants ds) (ap with_merged same ∙ same_value one.rest)
      (types_at done.types done.longer.more (one.first ∙ ap (λ (q : TypePart). fine q) (sym same)) done.has)

-- ---- variables

new_names : (free : Symbol → Bool) (before : List Symbol) (xs : List Name) (all : List Symbol) → each (new_name free) before xs ≡ Ok all
    → before ++ map (λ (x : Name). x.symbol) xs ≡ all
new_names free before [] all e = append-nil before ∙ same_value e
new_names free before (x ∷ xs) all e =
    let one = went (new_name free before x) (λ next. each (new_name free) next xs) all e in
    let next = same_value (behind_test (free x.symbol && not (list_any (same_name x.symbol) before)) (twice x)
    (fine (before ++ x.symbol ∷ [])) one.value one.first) in
    sym (append_assoc before (x.symbol ∷ []) (map (λ (y : Name). y.symbol) xs))
    ∙ (ap (λ q. q ++ map (λ (y : Name). y.symbol) xs) next ∙ new_names free one.value xs all one.rest)

pub names_come : (free : Symbol → Bool) (xs : List Name) (all : List Symbol) → each (new_name free) [] xs ≡ Ok all
    → map (λ (x : Name). x.symbol) xs ≡ all
names_come free xs all e = new_names free [] xs all e

pub group_map : (xs : List Name) (t : TypeId) → map (λ x. (x, t)) (map (λ (x : Name). x.symbol) xs) ≡ group_of xs t
group_map [] t = refl
group_map (x ∷ xs) t = ap (λ q. (x.symbol, t) ∷ q) (group_map xs t)

record VarsDone (start : KnownNames) (forms : List TypeForm) (constants : List (Symbol × ℤ)) (types variables : List (Symbol × TypeId))
    (gs : List Vars) (k : Known) : Type 0 where
  pub now : List TypeForm
  pub all : List (Symbol × TypeId)
  pub is : known_at start now constants types all [] ≡ k
  pub right : FormsRight now
  pub keeps : Keeps forms now
  pub from : (p : Program) → Keeps now p.forms → constants ≡ p.constants → types ≡ p.types
      → VarsFrom (λ before. names.at_top start p) p.types variables gs all

vars_done : (start : KnownNames) (forms : List TypeForm) (constants : List (Symbol × ℤ)) (types variables : List (Symbol × TypeId))
    (gs : List Vars) (k : Known) → FormsRight forms → There forms 0 → There forms 1
    → ((x : Symbol) (t : TypeId) → found types x ≡ Some t → There forms t.0)
    → each vars_walk (known_at start forms constants types variables []) gs ≡ Ok k → VarsDone start forms constants types variables gs k
vars_done start forms constants types variables [] k right first second there e = record
    { now = forms; all = variables; is = same_value e; right = right; keeps = keeps_same forms; from = λ p g h i. no_vars }
vars_done start forms constants types variables (g ∷ gs) k right first second there e =
    let known = known_at start forms constants types variables [] in
    let one = went (vars_walk known g) (λ next. each vars_walk next gs) k e in
    let result = λ (xs : List Symbol) (n : NewType). fine
    (with_program known (with_variables known.program n.forms (map (λ x. (x, n.type)) xs))) in
    let two = went (each (new_name (is_free known)) [] (all_names g.names)) (λ xs. after (type_walk (at_top known) g.of) (result xs))
    one.value one.first in
    let three = went (type_walk (at_top known) g.of) (result two.value) one.value two.rest in
    let n = three.value in
    let see = λ (p : Program). names.at_top start p in
    let type_at = λ (x : Symbol) (t : TypeId) (h : meaning (at_top known) x ≡ Some (OfType t)). type_there start forms types x t first
    second there (type_told known x t h) in
    let made = λ (p : Program) (same_constants : constants ≡ p.constants) (same_types : types ≡ p.types).
    new_from (at_top known) (see p) right type_at there
    (λ x t h. ap (λ ts. found (types_from_start start ++ ts) x) (sym same_types) ∙ type_told known x t h)
    (λ x z h. constants_seen known [] [] no_own None start p None same_constants x z h) g.of n three.first in
    let plain = made (record known.program { titles = [] }) refl refl in
    let group : map (λ x. (x, n.type)) two.value ≡ group_of (g.names.first ∷ g.names.more) n.type =
    ap (λ xs. map (λ x. (x, n.type)) xs) (sym (names_come (is_free known) (g.names.first ∷ g.names.more) two.value two.first)) ∙ group_map
    (g.names.first ∷ g.names.more) n.type in
    let next : known_at start n.forms constants types (variables ++ group_of (g.names.first ∷ g.names.more) n.type) [] ≡ one.value =
    ap (λ q. known_at start n.forms constants types (variables ++ q) []) (sym group) ∙ same_value three.rest in
    let rest = vars_done start n.forms constants types (variables ++ group_of (g.names.first ∷ g.names.more) n.type) gs k plain.right
    (keeps_there forms n.forms 0 plain.keeps first) (keeps_there forms n.forms 1 plain.keeps second)
    (λ x t h. keeps_there forms n.forms t.0 plain.keeps (there x t h)) (ap (λ q. each vars_walk q gs) next ∙ one.rest) in
    record {
      now = rest.now;
      all = rest.all;
      is = rest.is;
      right = rest.right;
      keeps = keeps_on forms n.forms rest.now plain.keeps rest.keeps;
      from = λ p later same_constants same_types.
          one_group (subst (λ ts. TypeFrom (names.at_top start p) ts n.type g.of) same_types
          ((made p same_constants same_types).from (keeps_on n.forms rest.now p.forms rest.keeps later)))
          (rest.from p later same_constants same_types);
    }

-- ---- declared symbols

-- the sort of a type that is there stays
pub sort_kept : (forms later : List TypeForm) (t : TypeId) → There forms t.0 → Keeps forms later → sort_of later t ≡ sort_of forms t
sort_kept forms later t h keeps =
    ap (λ f. sort_of_form f t) (form_at-item later t.0 h.item (keeps.kept t.0 h.item h.is) ∙ sym (form_at-item forms t.0 h.item h.is))

list_told : (k : Known) (x : Symbol) → meaning (at_top k) x ≡ Some OfList → k.start.list ≡ x
list_told k x e = by_means (means k [] [] x OfList no_own e)
  where
    by_means : Means k [] x OfList → k.start.list ≡ x
    by_means (by_own m o h f) = elim h [ ]
    by_means (by_program m none (told_list f)) = f

abbrev decl_of : Symbol → List Sort → Sort → Decl
decl_of x args r = record { name = x; args = args; result = r }

module _ (start : KnownNames) (forms : List TypeForm) (constants : List (Symbol × ℤ)) (types variables : List (Symbol × TypeId))
    (first : There forms 0) (second : There forms 1)
    (there : (x : Symbol) (t : TypeId) → found types x ≡ Some t → There forms t.0) (p : Program) (keeps : Keeps forms p.forms)
    (types_are : types ≡ p.types) where
  abbrev known_with : List Decl → Known
  known_with symbols = known_at start forms constants types variables symbols

  named_type : (symbols : List Decl) (x : Symbol) (t : TypeId) → meaning (at_top (known_with symbols)) x ≡ Some (OfType t)
      → type_named (names.at_top start p) x ≡ Some t
  named_type symbols x t h = ap (λ ts. found (types_from_start start ++ ts) x) (sym types_are) ∙ type_told (known_with symbols) x t h

  sort_come : (symbols : List Decl) (line : ℕ) (x : Name) (m : Option Meaning) (s : Sort)
      → meaning (at_top (known_with symbols)) x.symbol ≡ m → sort_named forms line x m ≡ Ok s
      → SortFrom (names.at_top start p) s (record { line = line; form = written.Name x })
  sort_come symbols line x None s h e = absurd (no_fault e)
  sort_come symbols line x (Some (OfType t)) s h e =
      let at = type_there start forms types x.symbol t first second there (type_told (known_with symbols) x.symbol t h) in
      subst (λ q. SortFrom (names.at_top start p) q (record { line = line; form = written.Name x }))
      (sort_kept forms p.forms t at keeps ∙ same_value e) (of_type (named_type symbols x.symbol t h))
  sort_come symbols line x (Some OfList) s h e = subst
      (λ q. SortFrom (names.at_top start p) q (record { line = line; form = written.Name x })) (same_value e)
      (of_list (list_told (known_with symbols) x.symbol h))
  sort_come symbols line x (Some (OfConstant z)) s h e = absurd (no_fault e)
  sort_come symbols line x (Some (OfPlace t)) s h e = absurd (no_fault e)
  sort_come symbols line x (Some (OfStart r)) s h e = absurd (no_fault e)
  sort_come symbols line x (Some (OfSymbol d)) s h e = absurd (no_fault e)
  sort_come symbols line x (Some (OfRoutine r)) s h e = absurd (no_fault e)

  class_come : (symbols : List Decl) (line on : ℕ) (x : Name) (m : Option Meaning) (t : TypeId)
      → meaning (at_top (known_with symbols)) x.symbol ≡ m → class_named on x m ≡ Ok t
      → SortFrom (names.at_top start p) (sort.Class t) (record { line = line; form = written.Class x })
  class_come symbols line on x None t h e = absurd (no_fault e)
  class_come symbols line on x (Some (OfType u)) t h e = of_class (named_type symbols x.symbol u h ∙ ap Some (same_value e))
  class_come symbols line on x (Some OfList) t h e = absurd (no_fault e)
  class_come symbols line on x (Some (OfConstant z)) t h e = absurd (no_fault e)
  class_come symbols line on x (Some (OfPlace u)) t h e = absurd (no_fault e)
  class_come symbols line on x (Some (OfStart r)) t h e = absurd (no_fault e)
  class_come symbols line on x (Some (OfSymbol d)) t h e = absurd (no_fault e)
  class_come symbols line on x (Some (OfRoutine r)) t h e = absurd (no_fault e)

  sort_written : (symbols : List Decl) (line : ℕ) (f : NameOrClass) (s : Sort)
      → sort_walk (known_with symbols) (record { line = line; form = f }) ≡ Ok s
      → SortFrom (names.at_top start p) s (record { line = line; form = f })
  sort_written symbols line (written.Name x) s e = sort_come symbols line x (meaning (at_top (known_with symbols)) x.symbol) s refl e
  sort_written symbols line (written.Class x) s e =
      let one = went (class_named line x (meaning (at_top (known_with symbols)) x.symbol)) (λ t. fine (sort.Class t)) s e in
      subst (λ q. SortFrom (names.at_top start p) q (record { line = line; form = written.Class x })) (same_value one.rest)
      (class_come symbols line line x (meaning (at_top (known_with symbols)) x.symbol) one.value refl one.first)

  sorts_come : (symbols : List Decl) (ns : List SortName) (ss : List Sort) → all_of (sort_walk (known_with symbols)) ns ≡ Ok ss
      → SortsFrom (names.at_top start p) ss ns
  sorts_come symbols [] ss e = subst (λ q. SortsFrom (names.at_top start p) q []) (same_value e) no_sorts
  sorts_come symbols (n ∷ ns) ss e =
      let one = went (sort_walk (known_with symbols) n) (λ a. after (all_of (sort_walk (known_with symbols)) ns)
      (λ others. fine (a ∷ others))) ss e in
      let two = went (all_of (sort_walk (known_with symbols)) ns) (λ others. fine (one.value ∷ others)) ss one.rest in
      subst (λ q. SortsFrom (names.at_top start p) q (n ∷ ns)) (same_value two.rest)
      (one_sort (sort_written symbols n.line n.form one.value one.first) (sorts_come symbols ns two.value two.first))

  bracketed_come : (symbols : List Decl) (o : Option (Several SortName)) (ss : List Sort)
      → all_of (sort_walk (known_with symbols)) (sorts_in_brackets o) ≡ Ok ss
      → SortsFrom (names.at_top start p) ss (sorts_written (names.at_top start p) o)
  bracketed_come symbols None ss e = sorts_come symbols [] ss e
  bracketed_come symbols (Some ns) ss e = sorts_come symbols (ns.first ∷ ns.more) ss e

  record SymbolsRest (symbols : List Decl) (ts : List SymbolText) (k : Known) : Type 0 where
    pub rest : List Decl
    pub is : known_with (symbols ++ rest) ≡ k
    pub from : SymbolsFrom (names.at_top start p) rest ts

  symbols_rest : (symbols : List Decl) (ts : List SymbolText) (k : Known) → each symbol_walk (known_with symbols) ts ≡ Ok k
      → SymbolsRest symbols ts k
  symbols_rest symbols [] k e = record { rest = []; is = ap (λ q. known_with q) (append-nil symbols) ∙ same_value e; from = no_symbols }
  symbols_rest symbols (t ∷ ts) k e =
      let known = known_with symbols in
      let one = went (symbol_walk known t) (λ next. each symbol_walk next ts) k e in
      let result = λ (args : List Sort) (r : Sort). fine (with_program known (with_symbol known.program (decl_of t.name.symbol args r))) in
      let next = after (all_of (sort_walk known) (sorts_in_brackets t.arguments)) (λ args. after (sort_walk known t.result) (result args))
      in
      let two = went (all_of (sort_walk known) (sorts_in_brackets t.arguments)) (λ args. after (sort_walk known t.result) (result args))
      one.value (behind_test (is_free_for_call known t.name.symbol) (twice t.name) next one.value one.first) in
      let three = went (sort_walk known t.result) (result two.value) one.value two.rest in
      let d = decl_of t.name.symbol two.value three.value in
      let rest = symbols_rest (symbols ++ d ∷ []) ts k (ap (λ q. each symbol_walk q ts) (same_value three.rest) ∙ one.rest) in
      record {
        rest = d ∷ rest.rest;
        is = ap (λ q. known_with q) (sym (append_assoc symbols (d ∷ []) rest.rest)) ∙ rest.is;
        from = one_symbol refl (bracketed_come symbols t.arguments two.value two.first)
            (sort_written symbols t.result.line t.result.form three.value three.first) rest.from;
      }

-- ---- all declarations

pub record Declared (start : KnownNames) (d : Declarations) (k : Known) : Type 0 where
  pub forms : List TypeForm
  pub constants : List (Symbol × ℤ)
  pub types : List (Symbol × TypeId)
  pub variables : List (Symbol × TypeId)
  pub symbols : List Decl
  pub is : known_at start forms constants types variables symbols ≡ k
  pub right : FormsRight forms
  pub first : FirstTwo forms
  pub there : (x : Symbol) (t : TypeId) → found types x ≡ Some t → There forms t.0
  pub from : (p : Program) → Keeps forms p.forms → constants ≡ p.constants → types ≡ p.types → variables ≡ p.variables
      → symbols ≡ p.symbols → DeclarationsFrom start p d

pub declared : (start : KnownNames) (d : Declarations) (k : Known) → declarations_walk (known_at start first_forms [] [] [] []) d ≡ Ok k
    → Declared start d k
declared start d k e =
    let k0 = known_at start first_forms [] [] [] [] in
    let one = went (each const_walk k0 d.constants) (λ a. after (type_part_walk a d.types)
    (λ b. after (each vars_walk b d.variables) (λ c. each symbol_walk c d.symbols))) k e in
    let two = went (type_part_walk one.value d.types) (λ b. after (each vars_walk b d.variables) (λ c. each symbol_walk c d.symbols)) k
    one.rest in
    let three = went (each vars_walk two.value d.variables) (λ c. each symbol_walk c d.symbols) k two.rest in
    let c = consts_done start first_forms [] d.constants one.value one.first in
    let t = types_done start c.all d.types two.value (ap (λ q. type_part_walk q d.types) c.is ∙ two.first) in
    let f0 : There t.forms 0 = record { item = Integer; is = t.first.zero } in
    let f1 : There t.forms 1 = record { item = Boolean; is = t.first.one } in
    let v = vars_done start t.forms c.all t.types [] d.variables three.value t.right f0 f1 t.there
    (ap (λ q. each vars_walk q d.variables) t.is ∙ three.first) in
    let g0 = keeps_there t.forms v.now 0 v.keeps f0 in
    let g1 = keeps_there t.forms v.now 1 v.keeps f1 in
    let there = λ (x : Symbol) (u : TypeId) (h : found t.types x ≡ Some u). keeps_there t.forms v.now u.0 v.keeps (t.there x u h) in
    let walk = ap (λ q. each symbol_walk q d.symbols) v.is ∙ three.rest in
    let plain = symbols_rest start v.now c.all t.types v.all g0 g1 there
    (record (known_at start v.now c.all t.types v.all []).program { titles = [] }) (keeps_same v.now) refl [] d.symbols k walk in
    record {
      forms = v.now;
      constants = c.all;
      types = t.types;
      variables = v.all;
      symbols = plain.rest;
      is = plain.is;
      right = v.right;
      first = record { zero = v.keeps.kept 0 Integer t.first.zero; one = v.keeps.kept 1 Boolean t.first.one };
      there = there;
      from = λ p later same_constants same_types same_variables same_symbols. record {
        constants = subst (λ q. ConstsFrom (with_constants start p) [] d.constants q) same_constants (c.from p);
        types = t.from p (keeps_on t.forms v.now p.forms v.keeps later) same_constants same_types;
        variables = subst (λ q. VarsFrom (λ before. names.at_top start p) p.types [] d.variables q) same_variables
            (v.from p later same_constants same_types);
        symbols =
            let r = symbols_rest start v.now c.all t.types v.all g0 g1 there p later same_types [] d.symbols k walk in
            subst (λ q. SymbolsFrom (names.at_top start p) q d.symbols)
            (ap (λ (q : Known). q.program.symbols) (r.is ∙ sym plain.is) ∙ same_symbols) r.from;
      };
    }
