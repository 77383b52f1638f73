-- The names of the program's scope: no two are the same, and what each stands for.
use Rattle.std.proofs.Common.{◌≡◌, Bool, true, false, cond, not, ◌&&◌, ◌||◌, List, [], ◌∷◌, ◌++◌, map, Option, Some, None, is_some, option_map, ℤ, refl, sym, ap, ◌∙◌, subst}
use Rattle.std.specs.Prelude.{Ok}
use Rattle.std.specs.List.{list_any}
use Rattle.std.proofs.lemmas.Bool.{false≢true}
use Rattle.std.proofs.lemmas.List.{append_assoc, map-append}
use Rattle.std.proofs.lemmas.List.Folds.{list_any-append}
use Rattle.spv_logic.specs.declared.names.names.Symbol.{Symbol}
use Rattle.spv_logic.proofs.list.Tests.{left_true, right_true, left_false, right_false}
use Rattle.spv_logic.specs.declared.types.TypeId.{TypeId}
use Rattle.spv_logic.specs.declared.types.Decl.{Decl}
use Rattle.spv_tree.specs.declared.syntax.names.Name.{Name}
use Rattle.spv_program.specs.Lists.{same_name, found, names_differ}
use Rattle.spv_program.proofs.SortFacts.{nothing_there, some_is}
use Rattle.spv_typing.specs.Outcomes.{each, twice}
use Rattle.spv_typing.specs.Known.{KnownNames, Heading, Meaning, OfType, OfList, OfConstant, OfPlace, OfSymbol, OfRoutine, Names, named, Known, integer_type, boolean_type, names_from_start, program_names, is_free}
use Rattle.spv_typing.specs.DeclarationWalk.{new_name}
use Rattle.spv_type_soundness.proofs.well_typed.Outcomes.{fine, same_value, held, behind_test}
use Rattle.spv_type_soundness.proofs.well_typed_programs.Differ.{not_true, name-refl, same_names, Apart, differ_append, differ_first, differ_rest, differ_apart, differ_one, apart_turned, apart_both}
use Rattle.spv_type_soundness.proofs.well_typed_programs.Finding.{pair, keys, found_append, found_mapped, found_items, found_there, first_case, mapped_case}
use Rattle.spv_type_soundness.proofs.well_typed_programs.Labels.{each_keeps}

abbrev pub NamesApart : List Symbol → List Symbol → Type 0
NamesApart xs ys = Apart same_name name-refl same_names xs ys

-- ---- names put in between

pub inserted_any : (test : Symbol → Bool) (c a ys b : List Symbol)
    → list_any test (c ++ ((a ++ ys) ++ b)) ≡ (list_any test (c ++ (a ++ b)) || list_any test ys)
inserted_any test c a ys b =
    list_any-append test c ((a ++ ys) ++ b)
    ∙ (ap (λ x. list_any test c || x) (list_any-append test (a ++ ys) b ∙ ap (λ x. x || list_any test b) (list_any-append test a ys))
    ∙ (turned (list_any test c) (list_any test a) (list_any test ys) (list_any test b)
    ∙ ap (λ x. x || list_any test ys)
    (ap (λ x. list_any test c || x) (sym (list_any-append test a b)) ∙ sym (list_any-append test c (a ++ b)))))
  where
    turned : (c a y b : Bool) → (c || ((a || y) || b)) ≡ ((c || (a || b)) || y)
    turned true a y b = refl
    turned false true y b = refl
    turned false false true true = refl
    turned false false true false = refl
    turned false false false true = refl
    turned false false false false = refl

pub insert_in : (c a ys b : List Symbol) → names_differ (c ++ (a ++ b)) ≡ true → names_differ ys ≡ true → NamesApart ys (c ++ (a ++ b))
    → names_differ (c ++ ((a ++ ys) ++ b)) ≡ true
insert_in c a ys b h k apart =
    let front = c ++ a in
    let whole : front ++ b ≡ c ++ (a ++ b) = append_assoc c a b in
    let differ : names_differ (front ++ b) ≡ true = ap names_differ whole ∙ h in
    let away : NamesApart ys (front ++ b) = subst (NamesApart ys) (sym whole) apart in
    let ys_b : NamesApart ys b = record {
      apart = λ x e. right_false (list_any (same_name x) front) (list_any (same_name x) b)
          (sym (list_any-append (same_name x) front b) ∙ away.apart x e);
    } in
    let ys_front : NamesApart ys front =
    record {
      apart = λ x e. left_false (list_any (same_name x) front) (list_any (same_name x) b)
          (sym (list_any-append (same_name x) front b) ∙ away.apart x e);
    } in
    let rest : names_differ (ys ++ b) ≡ true =
    differ_append same_name name-refl same_names ys b k (differ_rest same_name name-refl same_names front b differ) ys_b in
    let all : names_differ (front ++ (ys ++ b)) ≡ true =
    differ_append same_name name-refl same_names front (ys ++ b) (differ_first same_name name-refl same_names front b differ) rest
    (apart_both same_name name-refl same_names front ys b (apart_turned same_name name-refl same_names ys front ys_front)
    (differ_apart same_name name-refl same_names front b differ)) in
    ap names_differ (ap (λ l. c ++ l) (append_assoc a ys b) ∙ sym (append_assoc c a (ys ++ b))) ∙ all

-- ---- the names of the program's scope

abbrev pub symbol_names : List Decl → List Symbol
symbol_names ds = map (λ d. d.name) ds

abbrev pub heading_names : List Heading → List Symbol
heading_names hs = map (λ h. h.name) hs

abbrev pub names_in : Known → List Symbol
names_in k =
    keys k.program.constants
    ++ (keys k.program.types ++ (keys k.program.variables ++ (symbol_names k.program.symbols ++ heading_names k.headings)))

abbrev pub fixed_names : KnownNames → List Symbol
fixed_names s = s.integer ∷ s.boolean ∷ s.list ∷ []

pub record RightNames (k : Known) : Type 0 where
  pub differ : names_differ (names_in k) ≡ true
  pub fixed : NamesApart (names_in k) (fixed_names k.start)

pub keys_named : {X : Type 0} (f : X → Meaning) (xs : List (Symbol × X)) → keys (named f xs) ≡ keys xs
keys_named f [] = refl
keys_named f (n ∷ xs) = ap (λ l. n.0 ∷ l) (keys_named f xs)

keys_symbols : (ds : List Decl) → keys (map (λ (d : Decl). pair d.name (OfSymbol d)) ds) ≡ symbol_names ds
keys_symbols [] = refl
keys_symbols (d ∷ ds) = ap (λ l. d.name ∷ l) (keys_symbols ds)

keys_headings : (hs : List Heading) → keys (map (λ (h : Heading). pair h.name (OfRoutine h)) hs) ≡ heading_names hs
keys_headings [] = refl
keys_headings (h ∷ hs) = ap (λ l. h.name ∷ l) (keys_headings hs)

pub keys_append : {X : Type 0} (xs ys : List (Symbol × X)) → keys (xs ++ ys) ≡ keys xs ++ keys ys
keys_append xs ys = map-append (λ n. n.0) xs ys

abbrev start_keys : KnownNames → List Symbol
start_keys s = keys (names_from_start s)

pub names_are : (k : Known) → keys (program_names k) ≡ fixed_names k.start ++ names_in k
names_are k =
    let symbols : Names = map (λ (d : Decl). pair d.name (OfSymbol d)) k.program.symbols in
    let routines : Names = map (λ (h : Heading). pair h.name (OfRoutine h)) k.headings in
    let last : keys (symbols ++ routines) ≡ symbol_names k.program.symbols ++ heading_names k.headings =
    keys_append symbols routines ∙ (ap (λ l. l ++ keys routines) (keys_symbols k.program.symbols)
    ∙ ap (λ l. symbol_names k.program.symbols ++ l) (keys_headings k.headings)) in
    let variables = named OfPlace k.program.variables in
    let types = named OfType k.program.types in
    let constants = named OfConstant k.program.constants in
    let third : keys (variables ++ (symbols ++ routines)) ≡ keys k.program.variables
    ++ (symbol_names k.program.symbols ++ heading_names k.headings) =
    keys_append variables (symbols ++ routines)
    ∙ (ap (λ l. l ++ keys (symbols ++ routines)) (keys_named OfPlace k.program.variables)
    ∙ ap (λ l. keys k.program.variables ++ l) last) in
    let second = keys_append types (variables ++ (symbols ++ routines))
    ∙ (ap (λ l. l ++ keys (variables ++ (symbols ++ routines))) (keys_named OfType k.program.types)
    ∙ ap (λ l. keys k.program.types ++ l) third) in
    let first = keys_append constants (types ++ (variables ++ (symbols ++ routines)))
    ∙ (ap (λ l. l ++ keys (types ++ (variables ++ (symbols ++ routines)))) (keys_named OfConstant k.program.constants)
    ∙ ap (λ l. keys k.program.constants ++ l) second) in
    keys_append (names_from_start k.start) (constants ++ (types ++ (variables ++ (symbols ++ routines))))
    ∙ ap (λ l. fixed_names k.start ++ l) first

-- a free name is none of these
pub record IsFree (k : Known) (x : Symbol) : Type 0 where
  pub not_fixed : list_any (same_name x) (fixed_names k.start) ≡ false
  pub new : list_any (same_name x) (names_in k) ≡ false

pub free_told : (k : Known) (x : Symbol) → is_free k x ≡ true → IsFree k x
free_told k x h =
    let none = sym (list_any-append (same_name x) (fixed_names k.start) (names_in k))
    ∙ (ap (list_any (same_name x)) (sym (names_are k))
    ∙ (sym (found_there (program_names k) x) ∙ not_true (is_some (found (program_names k) x)) h)) in
    record {
      not_fixed = left_false (list_any (same_name x) (fixed_names k.start)) (list_any (same_name x) (names_in k)) none;
      new = right_false (list_any (same_name x) (fixed_names k.start)) (list_any (same_name x) (names_in k)) none;
    }

-- new names that are all free, put in between
pub record NewNames (k : Known) (names : List Symbol) : Type 0 where
  pub differ : names_differ names ≡ true
  pub free : (x : Symbol) → list_any (same_name x) names ≡ true → is_free k x ≡ true

pub one_new : (k : Known) (x : Symbol) → is_free k x ≡ true → NewNames k (x ∷ [])
one_new k x h = record { differ = refl; free = λ y e. subst (λ z. is_free k z ≡ true) (sym (alone y x e)) h }
  where
    by_case : (y x : Symbol) (b : Bool) → same_name y x ≡ b → (b || false) ≡ true → y ≡ x
    by_case y x true k e = same_names y x k
    by_case y x false k e = absurd (false≢true e)

    alone : (y x : Symbol) → (same_name y x || false) ≡ true → y ≡ x
    alone y x e = by_case y x (same_name y x) refl e

pub names_with : (k : Known) (l : Known) (c a ys b : List Symbol) → names_in k ≡ c ++ (a ++ b) → names_in l ≡ c ++ ((a ++ ys) ++ b)
    → k.start ≡ l.start → RightNames k → NewNames k ys → RightNames l
names_with k l c a ys b before later start r n =
    let away : NamesApart ys (c ++ (a ++ b)) =
    record { apart = λ x e. ap (list_any (same_name x)) (sym before) ∙ (free_told k x (n.free x e)).new } in
    record {
      differ = ap names_differ later ∙ insert_in c a ys b (ap names_differ (sym before) ∙ r.differ) n.differ away;
      fixed = record {
        apart = λ x e.
            ap (λ s. list_any (same_name x) (fixed_names s)) (sym start)
            ∙ either (list_any (same_name x) (c ++ (a ++ b))) (list_any (same_name x) ys)
            (list_any (same_name x) (fixed_names k.start) ≡ false)
            (λ h. r.fixed.apart x (ap (list_any (same_name x)) before ∙ h)) (λ h. (free_told k x (n.free x h)).not_fixed)
            (sym (inserted_any (same_name x) c a ys b) ∙ (ap (list_any (same_name x)) (sym later) ∙ e));
      };
    }
  where
    either : (a b : Bool) (P : Type 0) → (a ≡ true → P) → (b ≡ true → P) → (a || b) ≡ true → P
    either true b P one two e = one refl
    either false b P one two e = two e

-- ---- new names of a list

-- names that pass a test and differ
pub record Fresh (may : Symbol → Bool) (names : List Symbol) : Type 0 where
  pub differ : names_differ names ≡ true
  pub free : (x : Symbol) → list_any (same_name x) names ≡ true → may x ≡ true

one_fresh : (free : Symbol → Bool) (done next : List Symbol) (x : Name) → Fresh free done → new_name free done x ≡ Ok next → Fresh free next
one_fresh free done next x h e =
    let y = x.symbol in
    let test = free y && not (list_any (same_name y) done) in
    let both = held test (twice x) (fine (done ++ y ∷ [])) next e in
    let new = not_true (list_any (same_name y) done) (right_true (free y) _ both) in
    subst (Fresh free) (same_value (behind_test test (twice x) (fine (done ++ y ∷ [])) next e)) (record {
      differ = differ_one same_name name-refl same_names done y h.differ new;
      free = λ z k. by_place z (list_any (same_name z) done) refl (same_name z y) refl
          (sym (list_any-append (same_name z) done (y ∷ [])) ∙ k) (left_true _ _ both);
    })
  where
    by_place : (z : Symbol) (a : Bool) → list_any (same_name z) done ≡ a → (b : Bool) → same_name z x.symbol ≡ b
        → (a || (b || false)) ≡ true → free x.symbol ≡ true → free z ≡ true
    by_place z true i b j k f = h.free z i
    by_place z false i true j k f = subst (λ w. free w ≡ true) (sym (same_names z x.symbol j)) f
    by_place z false i false j k f = absurd (false≢true k)

pub all_fresh : (free : Symbol → Bool) (xs : List Name) (names : List Symbol) → each (new_name free) [] xs ≡ Ok names → Fresh free names
all_fresh free xs names e =
    each_keeps (Fresh free) (new_name free) (λ a b x h k. one_fresh free a b x h k) xs [] names
    (record { differ = refl; free = λ x h. absurd (false≢true h) }) e

pub keys_typed : (t : TypeId) (names : List Symbol) → keys (map (λ x. pair x t) names) ≡ names
keys_typed t [] = refl
keys_typed t (x ∷ names) = ap (λ l. x ∷ l) (keys_typed t names)

-- ---- what a name of the program's scope stands for

abbrev pub symbols_named : List Decl → List (Symbol × Decl)
symbols_named ds = map (λ (d : Decl). pair d.name d) ds

abbrev pub headings_named : List Heading → List (Symbol × Heading)
headings_named hs = map (λ (h : Heading). pair h.name h) hs

pub data Meant (k : Known) (x : Symbol) : Meaning → Type 0 where
  meant_number : Meant k x (OfType integer_type)
  meant_truth : Meant k x (OfType boolean_type)
  meant_list : Meant k x OfList
  meant_constant : (z : ℤ) → found k.program.constants x ≡ Some z → Meant k x (OfConstant z)
  meant_type : (t : TypeId) → found k.program.types x ≡ Some t → Meant k x (OfType t)
  meant_place : (t : TypeId) → found k.program.variables x ≡ Some t → Meant k x (OfPlace t)
  meant_symbol : (d : Decl) → found (symbols_named k.program.symbols) x ≡ Some d → Meant k x (OfSymbol d)
  meant_routine : (h : Heading) → found (headings_named k.headings) x ≡ Some h → Meant k x (OfRoutine h)

module _ (k : Known) (x : Symbol) where
  meant_start : (m : Meaning) → found (names_from_start k.start) x ≡ Some m → Meant k x m
  meant_start m e = by_names (same_name k.start.integer x) (same_name k.start.boolean x) (same_name k.start.list x) e
    where
      by_names : (a b c : Bool) → cond a (Some (OfType integer_type)) (cond b (Some (OfType boolean_type)) (cond c (Some OfList) None))
          ≡ Some m → Meant k x m
      by_names true b c f = subst (Meant k x) (some_is f) meant_number
      by_names false true c f = subst (Meant k x) (some_is f) meant_truth
      by_names false false true f = subst (Meant k x) (some_is f) meant_list
      by_names false false false f = absurd (nothing_there f)

  mapped_to : {X : Type 0} (f : X → Meaning) (o : Option X) (m : Meaning) → ((y : X) → o ≡ Some y → Meant k x (f y))
      → option_map f o ≡ Some m → Meant k x m
  mapped_to f o m go e = mapped_case f o m (Meant k x m) e (λ y h same. subst (Meant k x) same (go y h))

  pub meant : (m : Meaning) → found (program_names k) x ≡ Some m → Meant k x m
  meant m e =
      let symbols : Names = map (λ (d : Decl). pair d.name (OfSymbol d)) k.program.symbols in
      let routines : Names = map (λ (h : Heading). pair h.name (OfRoutine h)) k.headings in
      let variables = named OfPlace k.program.variables in
      let types = named OfType k.program.types in
      let constants = named OfConstant k.program.constants in
      first_case (found (names_from_start k.start) x) (found (constants ++ (types ++ (variables ++ (symbols ++ routines)))) x) m
      (Meant k x m) (sym (found_append (names_from_start k.start) (constants ++ (types ++ (variables ++ (symbols ++ routines)))) x) ∙ e)
      (meant_start m)
      (λ none_one one. first_case (found constants x) (found (types ++ (variables ++ (symbols ++ routines))) x) m (Meant k x m)
      (sym (found_append constants (types ++ (variables ++ (symbols ++ routines))) x) ∙ one)
      (λ h. mapped_to OfConstant (found k.program.constants x) m meant_constant (sym (found_mapped OfConstant k.program.constants x) ∙ h))
      (λ none_two two. first_case (found types x) (found (variables ++ (symbols ++ routines)) x) m (Meant k x m)
      (sym (found_append types (variables ++ (symbols ++ routines)) x) ∙ two)
      (λ h. mapped_to OfType (found k.program.types x) m meant_type (sym (found_mapped OfType k.program.types x) ∙ h))
      (λ none_three three. first_case (found variables x) (found (symbols ++ routines) x) m (Meant k x m)
      (sym (found_append variables (symbols ++ routines) x) ∙ three)
      (λ h. mapped_to OfPlace (found k.program.variables x) m meant_place (sym (found_mapped OfPlace k.program.variables x) ∙ h))
      (λ none_four four. first_case (found symbols x) (found routines x) m (Meant k x m) (sym (found_append symbols routines x) ∙ four)
      (λ h. mapped_to OfSymbol (found (symbols_named k.program.symbols) x) m meant_symbol
      (sym (found_items (λ (d : Decl). d.name) OfSymbol k.program.symbols x) ∙ h))
      (λ none_five five. mapped_to OfRoutine (found (headings_named k.headings) x) m meant_routine
      (sym (found_items (λ (g : Heading). g.name) OfRoutine k.headings x) ∙ five))))))
