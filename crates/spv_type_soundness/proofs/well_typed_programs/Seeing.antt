-- What annotations see: the names of a scope have the sorts that typing gives them.
use Rattle.std.proofs.Common.{◌≡◌, ℕ, Bool, true, false, cond, List, [], ◌∷◌, ◌++◌, map, Option, Some, None, option_map, ℤ, nat_eq, refl, sym, ap, ◌∙◌, subst}
use Rattle.std.specs.List.{list_all}
use Rattle.std.proofs.lemmas.Bool.{false≢true}
use Rattle.spv_logic.specs.declared.names.names.Symbol.{Symbol}
use Rattle.spv_logic.proofs.list.Tests.{left_true, right_true}
use Rattle.spv_logic.specs.declared.types.TypeId.{TypeId}
use Rattle.spv_logic.specs.declared.types.Sort.{Sort}
use Rattle.spv_logic.specs.declared.types.Decl.{Decl}
use Rattle.spv_logic.specs.Sorts.{sort_in_range, declared}
use Rattle.spv_program.specs.Lists.{found, first_of}
use Rattle.spv_program.specs.Types.{sort_of, type_exists}
use Rattle.spv_program.specs.Programs.{Program, shapes}
use Rattle.spv_program.specs.Scopes as program
use Rattle.spv_program.specs.Scopes.{with_sorts_of}
use Rattle.spv_program.specs.Typing.{symbol_ok}
use Rattle.spv_program.proofs.SortFacts.{nothing_there, some_is}
use Rattle.spv_typing.specs.Known.{Heading, Meaning, OfType, OfConstant, OfPlace, OfStart, OfSymbol, OfRoutine, Names, named, Scope, program_names, meaning}
use Rattle.spv_type_soundness.specs.well_typed.Laws.{SeesAlike}
use Rattle.spv_type_soundness.proofs.well_typed_programs.Finding.{pair, found_append, found_mapped, found_name, found_all, first_case, first_none, second_none, mapped_case}
use Rattle.spv_type_soundness.proofs.well_typed_programs.Naming.{symbols_named, headings_named, Meant, meant_number, meant_truth, meant_list, meant_constant, meant_type, meant_place, meant_symbol, meant_routine, meant}
use Rattle.spv_type_soundness.proofs.well_typed_programs.Declaring.{type_meant, forms_pass, RightProgram}

-- ---- a routine's own names and the names of an annotation

-- places and values at entry have these sorts
pub record Sees (q : Program) (own : Names) (front : program.Scope) : Type 0 where
  pub place : (x : Symbol) (t : TypeId) → found own x ≡ Some (OfPlace t) → found front x ≡ Some (sort_of q.forms t)
  pub start : (x : Symbol) (s : Sort) → found own x ≡ Some (OfStart s) → found front x ≡ Some s
  pub none : (x : Symbol) → found own x ≡ None → found front x ≡ None

-- whether a name stands for a place, a value at entry or a number
abbrev pub is_plain : Meaning → Bool
is_plain (OfPlace t) = true
is_plain (OfStart s) = true
is_plain (OfConstant z) = true
is_plain _ = false

-- own names stand for places, values at entry and numbers, whose types are there
pub record OwnPlain (q : Program) (own : Names) : Type 0 where
  pub place_there : (x : Symbol) (t : TypeId) → found own x ≡ Some (OfPlace t) → type_exists q.forms t ≡ true
  pub start_there : (x : Symbol) (s : Sort) → found own x ≡ Some (OfStart s) → sort_in_range (shapes q) s ≡ true
  pub plain : (x : Symbol) (m : Meaning) → found own x ≡ Some m → is_plain m ≡ true

pub sees_none : (q : Program) → Sees q [] []
sees_none q = record { place = λ x t e. absurd (nothing_there e); start = λ x s e. absurd (nothing_there e); none = λ x e. refl }

pub plain_none : (q : Program) → OwnPlain q []
plain_none q = record {
  place_there = λ x t e. absurd (nothing_there e);
  start_there = λ x s e. absurd (nothing_there e);
  plain =
      λ x m e. absurd (nothing_there e);
}

either_place : (a b : Names) (front back : program.Scope) (x : Symbol) (m : Meaning) (s : Sort)
    → (found a x ≡ Some m → found front x ≡ Some s) → (found a x ≡ None → found front x ≡ None)
    → (found b x ≡ Some m → found back x ≡ Some s)
    → found (a ++ b) x ≡ Some m → found (front ++ back) x ≡ Some s
either_place a b front back x m s one none two e =
    first_case (found a x) (found b x) m (found (front ++ back) x ≡ Some s) (sym (found_append a b x) ∙ e)
    (λ h. found_append front back x ∙ ap (λ o. first_of o (found back x)) (one h))
    (λ h g. found_append front back x ∙ (ap (λ o. first_of o (found back x)) (none h) ∙ two g))

pub sees_append : (q : Program) (a b : Names) (front back : program.Scope) → Sees q a front → Sees q b back
    → Sees q (a ++ b) (front ++ back)
sees_append q a b front back g h = record {
  place = λ x t e. either_place a b front back x (OfPlace t) (sort_of q.forms t) (g.place x t) (g.none x) (h.place x t) e;
  start = λ x s e. either_place a b front back x (OfStart s) s (g.start x s) (g.none x) (h.start x s) e;
  none = λ x e.
      let both = sym (found_append a b x) ∙ e in
      found_append front back x ∙ (ap (λ o. first_of o (found back x)) (g.none x (first_none (found a x) (found b x) both))
      ∙ h.none x (second_none (found a x) (found b x) both));
}

pub plain_append : (q : Program) (a b : Names) → OwnPlain q a → OwnPlain q b → OwnPlain q (a ++ b)
plain_append q a b g h = record {
  place_there = λ x t e. first_case (found a x) (found b x) (OfPlace t) (type_exists q.forms t ≡ true) (sym (found_append a b x) ∙ e)
      (g.place_there x t) (λ k f. h.place_there x t f);
  start_there = λ x s e. first_case (found a x) (found b x) (OfStart s) (sort_in_range (shapes q) s ≡ true) (sym (found_append a b x) ∙ e)
      (g.start_there x s) (λ k f. h.start_there x s f);
  plain = λ x m e. first_case (found a x) (found b x) m (is_plain m ≡ true) (sym (found_append a b x) ∙ e) (g.plain x m)
      (λ k f. h.plain x m f);
}

abbrev pub type_in : TypeId → Meaning → TypeId
type_in other (OfPlace t) = t
type_in other _ = other

abbrev pub sort_in : Sort → Meaning → Sort
sort_in other (OfStart s) = s
sort_in other _ = other

abbrev pub is_place : Meaning → Bool
is_place (OfPlace t) = true
is_place _ = false

abbrev pub is_start : Meaning → Bool
is_start (OfStart s) = true
is_start _ = false

abbrev is_symbol : Meaning → Bool
is_symbol (OfSymbol d) = true
is_symbol _ = false

abbrev pub is_routine : Meaning → Bool
is_routine (OfRoutine h) = true
is_routine _ = false

abbrev symbol_in : Decl → Meaning → Decl
symbol_in other (OfSymbol d) = d
symbol_in other _ = other

abbrev pub routine_in : Heading → Meaning → Heading
routine_in other (OfRoutine h) = h
routine_in other _ = other

-- what a named list tells
pub named_told : {X : Type 0} (f : X → Meaning) (xs : List (Symbol × X)) (x : Symbol) (m : Meaning) (P : Type 0)
    → found (named f xs) x ≡ Some m → ((y : X) → found xs x ≡ Some y → f y ≡ m → P) → P
named_told f xs x m P e go = mapped_case f (found xs x) m P (sym (found_mapped f xs x) ∙ e) go

pub named_none : {X : Type 0} (f : X → Meaning) (xs : List (Symbol × X)) (x : Symbol) → found (named f xs) x ≡ None → found xs x ≡ None
named_none {X} f xs x e = none_in (found xs x) (sym (found_mapped f xs x) ∙ e)
  where
    none_in : (o : Option X) → option_map f o ≡ None → o ≡ None
    none_in None k = refl
    none_in (Some y) k = absurd (nothing_there (sym k))

pub none_named : {X Y : Type 0} (f : X → Y) (xs : List (Symbol × X)) (x : Symbol) → found xs x ≡ None
    → found (map (λ (n : Symbol × X). pair n.0 (f n.1)) xs) x ≡ None
none_named f xs x e = found_mapped f xs x ∙ ap (option_map f) e

pub sees_places : (q : Program) (types : List (Symbol × TypeId)) → Sees q (named OfPlace types) (with_sorts_of q types)
sees_places q types = record {
  place = λ x t e. named_told OfPlace types x (OfPlace t) (found (with_sorts_of q types) x ≡ Some (sort_of q.forms t)) e
      (λ u h same. found_mapped (sort_of q.forms) types x
      ∙ (ap (option_map (sort_of q.forms)) h ∙ ap (λ m. Some (sort_of q.forms (type_in t m))) same));
  start = λ x s e. named_told OfPlace types x (OfStart s) (found (with_sorts_of q types) x ≡ Some s) e
      (λ u h same. absurd (false≢true (sym (ap is_place same))));
  none = λ x e. none_named (sort_of q.forms) types x (named_none OfPlace types x e);
}

pub sees_starts : (q : Program) (sorts : List (Symbol × Sort)) → Sees q (named OfStart sorts) sorts
sees_starts q sorts = record {
  place = λ x t e. named_told OfStart sorts x (OfPlace t) (found sorts x ≡ Some (sort_of q.forms t)) e
      (λ u h same. absurd (false≢true (sym (ap is_start same))));
  start = λ x s e. named_told OfStart sorts x (OfStart s) (found sorts x ≡ Some s) e (λ u h same. h ∙ ap (λ m. Some (sort_in s m)) same);
  none = λ x e. named_none OfStart sorts x e;
}

pub plain_places : (q : Program) (types : List (Symbol × TypeId))
    → list_all (λ (n : Symbol × TypeId). type_exists q.forms n.1) types ≡ true → OwnPlain q (named OfPlace types)
plain_places q types all = record {
  place_there = λ x t e. named_told OfPlace types x (OfPlace t) (type_exists q.forms t ≡ true) e
      (λ u h same. subst (λ v. type_exists q.forms v ≡ true) (ap (type_in t) same) (found_all (type_exists q.forms) types x u all h));
  start_there = λ x s e. named_told OfPlace types x (OfStart s) (sort_in_range (shapes q) s ≡ true) e
      (λ u h same. absurd (false≢true (sym (ap is_place same))));
  plain = λ x m e. named_told OfPlace types x m (is_plain m ≡ true) e (λ u h same. ap is_plain (sym same));
}

pub plain_starts : (q : Program) (sorts : List (Symbol × Sort))
    → list_all (λ (n : Symbol × Sort). sort_in_range (shapes q) n.1) sorts ≡ true → OwnPlain q (named OfStart sorts)
plain_starts q sorts all = record {
  place_there = λ x t e. named_told OfStart sorts x (OfPlace t) (type_exists q.forms t ≡ true) e
      (λ u h same. absurd (false≢true (sym (ap is_start same))));
  start_there = λ x s e. named_told OfStart sorts x (OfStart s) (sort_in_range (shapes q) s ≡ true) e
      (λ u h same. subst (λ v. sort_in_range (shapes q) v ≡ true) (ap (sort_in s) same)
      (found_all (sort_in_range (shapes q)) sorts x u all h));
  plain = λ x m e. named_told OfStart sorts x m (is_plain m ≡ true) e (λ u h same. ap is_plain (sym same));
}

abbrev is_constant : Meaning → Bool
is_constant (OfConstant z) = true
is_constant _ = false

pub plain_constants : (q : Program) (numbers : List (Symbol × ℤ)) → OwnPlain q (named OfConstant numbers)
plain_constants q numbers = record {
  place_there = λ x t e. named_told OfConstant numbers x (OfPlace t) (type_exists q.forms t ≡ true) e
      (λ u h same. absurd (false≢true (sym (ap is_constant same))));
  start_there = λ x s e. named_told OfConstant numbers x (OfStart s) (sort_in_range (shapes q) s ≡ true) e
      (λ u h same. absurd (false≢true (sym (ap is_constant same))));
  plain = λ x m e. named_told OfConstant numbers x m (is_plain m ≡ true) e (λ u h same. ap is_plain (sym same));
}

-- ---- a scope and the names of an annotation

pub declared_found : (ds : List Decl) (x : Symbol) → declared ds x.0 ≡ found (symbols_named ds) x
declared_found [] x = refl
declared_found (d ∷ ds) x = ap (λ o. cond (nat_eq d.name.0 x.0) (Some d) o) (declared_found ds x)

symbol_right : (q : Program) (ds : List Decl) (x : ℕ) (d : Decl) → list_all (symbol_ok q) ds ≡ true → declared ds x ≡ Some d
    → symbol_ok q d ≡ true
symbol_right q [] x d h e = absurd (nothing_there e)
symbol_right q (c ∷ ds) x d h e = by_name (nat_eq c.name.0 x) e (symbol_right q ds x d (right_true (symbol_ok q c) _ h))
  where
    by_name : (b : Bool) → cond b (Some c) (declared ds x) ≡ Some d → (declared ds x ≡ Some d → symbol_ok q d ≡ true) → symbol_ok q d ≡ true
    by_name true k later = subst (λ (g : Decl). symbol_ok q g ≡ true) (some_is k) (left_true _ _ h)
    by_name false k later = later k

pub symbol_there : (q : Program) → RightProgram q → (x : ℕ) (d : Decl) → declared q.symbols x ≡ Some d → symbol_ok q d ≡ true
symbol_there q r x d e = symbol_right q q.symbols x d r.symbols e

module _ (s : Scope) (right : RightProgram s.known.program) (plain : OwnPlain s.known.program s.own) where
  abbrev q : Program
  q = s.known.program

  -- a name that is no own one is one of the program
  pub of_program : (x : Symbol) (m : Meaning) → is_plain m ≡ false → meaning s x ≡ Some m → found (program_names s.known) x ≡ Some m
  of_program x m other e =
      first_case (found s.own x) (found (program_names s.known) x) m (found (program_names s.known) x ≡ Some m) e
      (λ h. absurd (false≢true (sym other ∙ plain.plain x m h))) (λ none h. h)

  pub scope_types : (x : Symbol) (t : TypeId) → meaning s x ≡ Some (OfType t) → type_exists q.forms t ≡ true
  scope_types x t e = type_meant s.known x t right (of_program x (OfType t) refl e)

  pub variable_meant : (x : Symbol) (t : TypeId) → found (program_names s.known) x ≡ Some (OfPlace t) → found q.variables x ≡ Some t
  variable_meant x t e = by_meaning (OfPlace t) refl (meant s.known x (OfPlace t) e)
    where
      by_meaning : (m : Meaning) → OfPlace t ≡ m → Meant s.known x m → found s.known.program.variables x ≡ Some t
      by_meaning m h meant_number = absurd (false≢true (sym (ap is_place h)))
      by_meaning m h meant_truth = absurd (false≢true (sym (ap is_place h)))
      by_meaning m h meant_list = absurd (false≢true (sym (ap is_place h)))
      by_meaning m h (meant_constant z g) = absurd (false≢true (sym (ap is_place h)))
      by_meaning m h (meant_type u g) = absurd (false≢true (sym (ap is_place h)))
      by_meaning m h (meant_place u g) = g ∙ ap (λ n. Some (type_in t n)) (sym h)
      by_meaning m h (meant_symbol d g) = absurd (false≢true (sym (ap is_place h)))
      by_meaning m h (meant_routine d g) = absurd (false≢true (sym (ap is_place h)))

  no_start : (x : Symbol) (r : Sort) → found (program_names s.known) x ≡ Some (OfStart r) → ⊥
  no_start x r e = by_meaning (OfStart r) refl (meant s.known x (OfStart r) e)
    where
      by_meaning : (m : Meaning) → OfStart r ≡ m → Meant s.known x m → ⊥
      by_meaning m h meant_number = false≢true (sym (ap is_start h))
      by_meaning m h meant_truth = false≢true (sym (ap is_start h))
      by_meaning m h meant_list = false≢true (sym (ap is_start h))
      by_meaning m h (meant_constant z g) = false≢true (sym (ap is_start h))
      by_meaning m h (meant_type u g) = false≢true (sym (ap is_start h))
      by_meaning m h (meant_place u g) = false≢true (sym (ap is_start h))
      by_meaning m h (meant_symbol d g) = false≢true (sym (ap is_start h))
      by_meaning m h (meant_routine d g) = false≢true (sym (ap is_start h))

  symbol_meant : (x : Symbol) (d : Decl) → found (program_names s.known) x ≡ Some (OfSymbol d) → declared q.symbols d.name.0 ≡ Some d
  symbol_meant x d e = by_meaning (OfSymbol d) refl (meant s.known x (OfSymbol d) e)
    where
      by_meaning : (m : Meaning) → OfSymbol d ≡ m → Meant s.known x m → declared s.known.program.symbols d.name.0 ≡ Some d
      by_meaning m h meant_number = absurd (false≢true (sym (ap is_symbol h)))
      by_meaning m h meant_truth = absurd (false≢true (sym (ap is_symbol h)))
      by_meaning m h meant_list = absurd (false≢true (sym (ap is_symbol h)))
      by_meaning m h (meant_constant z g) = absurd (false≢true (sym (ap is_symbol h)))
      by_meaning m h (meant_type u g) = absurd (false≢true (sym (ap is_symbol h)))
      by_meaning m h (meant_place u g) = absurd (false≢true (sym (ap is_symbol h)))
      by_meaning m h (meant_symbol c g) =
          let same : c ≡ d = ap (symbol_in d) (sym h) in
          let is : found (symbols_named s.known.program.symbols) x ≡ Some d = g ∙ ap Some same in
          ap (λ (y : Symbol). declared s.known.program.symbols y.0) (found_name (λ (a : Decl). a.name) s.known.program.symbols x d is)
          ∙ (declared_found s.known.program.symbols x ∙ is)
      by_meaning m h (meant_routine c g) = absurd (false≢true (sym (ap is_symbol h)))

  pub routine_meant : (x : Symbol) (h : Heading) → meaning s x ≡ Some (OfRoutine h) → found (headings_named s.known.headings) x ≡ Some h
  routine_meant x h e = by_meaning (OfRoutine h) refl (meant s.known x (OfRoutine h) (of_program x (OfRoutine h) refl e))
    where
      by_meaning : (m : Meaning) → OfRoutine h ≡ m → Meant s.known x m → found (headings_named s.known.headings) x ≡ Some h
      by_meaning m k meant_number = absurd (false≢true (sym (ap is_routine k)))
      by_meaning m k meant_truth = absurd (false≢true (sym (ap is_routine k)))
      by_meaning m k meant_list = absurd (false≢true (sym (ap is_routine k)))
      by_meaning m k (meant_constant z g) = absurd (false≢true (sym (ap is_routine k)))
      by_meaning m k (meant_type u g) = absurd (false≢true (sym (ap is_routine k)))
      by_meaning m k (meant_place u g) = absurd (false≢true (sym (ap is_routine k)))
      by_meaning m k (meant_symbol c g) = absurd (false≢true (sym (ap is_routine k)))
      by_meaning m k (meant_routine c g) = g ∙ ap (λ n. Some (routine_in h n)) (sym k)

  -- a place is an own one or a variable of the program
  pub place_case : (x : Symbol) (t : TypeId) (P : Type 0) → meaning s x ≡ Some (OfPlace t) → (found s.own x ≡ Some (OfPlace t) → P)
      → (found s.own x ≡ None → found q.variables x ≡ Some t → P) → P
  place_case x t P e one two =
      first_case (found s.own x) (found (program_names s.known) x) (OfPlace t) P e one (λ none h. two none (variable_meant x t h))

  pub place_there : (x : Symbol) (t : TypeId) → meaning s x ≡ Some (OfPlace t) → type_exists q.forms t ≡ true
  place_there x t e =
      place_case x t (type_exists q.forms t ≡ true) e (plain.place_there x t)
      (λ none h. found_all (type_exists q.forms) q.variables x t right.variables h)

  pub sees_alike : (front : program.Scope) → Sees q s.own front → SeesAlike s (front ++ with_sorts_of q q.variables)
  sees_alike front sees = record {
    places = λ x t e. place_case x t (found (front ++ with_sorts_of q q.variables) x ≡ Some (sort_of q.forms t)) e
        (λ h. found_append front (with_sorts_of q q.variables) x
        ∙ ap (λ o. first_of o (found (with_sorts_of q q.variables) x)) (sees.place x t h))
        (λ none h. found_append front (with_sorts_of q q.variables) x
        ∙ (ap (λ o. first_of o (found (with_sorts_of q q.variables) x)) (sees.none x none)
        ∙ (found_mapped (sort_of q.forms) q.variables x ∙ ap (option_map (sort_of q.forms)) h)));
    place_types = place_there;
    starts = λ x r e. first_case (found s.own x) (found (program_names s.known) x) (OfStart r)
        (found (front ++ with_sorts_of q q.variables) x ≡ Some r) e
        (λ h. found_append front (with_sorts_of q q.variables) x
        ∙ ap (λ o. first_of o (found (with_sorts_of q q.variables) x)) (sees.start x r h))
        (λ none h. absurd (no_start x r h));
    start_sorts = λ x r e. first_case (found s.own x) (found (program_names s.known) x) (OfStart r) (sort_in_range (shapes q) r ≡ true) e
        (plain.start_there x r) (λ none h. absurd (no_start x r h));
    types = scope_types;
    symbols = λ x d e. symbol_meant x d (of_program x (OfSymbol d) refl e);
    symbol_arguments = λ x d e. left_true _ _ (symbol_there q right d.name.0 d (symbol_meant x d (of_program x (OfSymbol d) refl e)));
    symbol_sorts = λ x d e. right_true (list_all (sort_in_range (shapes q)) d.args) _
        (symbol_there q right d.name.0 d (symbol_meant x d (of_program x (OfSymbol d) refl e)));
    shapes_right = right_true _ _ (forms_pass q.forms right.forms);
  }
