-- What the names that the walk knows tell, and what scopes with them see of the program that comes out.
use Rattle.std.proofs.Common.{◌≡◌, Bool, true, false, cond, List, [], ◌∷◌, ◌++◌, map, Option, Some, None, refl, sym, ap, ◌∙◌, subst}
use Rattle.std.specs.Prelude.{◌||◌, option_map, ℤ}
use Rattle.std.specs.List.{list_any}
use Rattle.std.proofs.lemmas.Bool.{eqb-true, eq-eqb}
use Rattle.spv_logic.specs.declared.names.names.Symbol.{Symbol}
use Rattle.spv_logic.specs.declared.types.TypeId.{TypeId}
use Rattle.spv_logic.specs.declared.types.Sort.{Sort}
use Rattle.spv_logic.specs.declared.types.Decl.{Decl}
use Rattle.spv_program.specs.Lists.{same_name, found, first_of}
use Rattle.spv_program.proofs.SortFacts.{nothing_there, some_is}
use Rattle.spv_typing.specs.Known.{Meaning, OfType, OfList, OfConstant, OfPlace, OfStart, OfSymbol, OfRoutine, Heading, Names, named, Known, program_names, integer_type, boolean_type}
use Rattle.spv_type_soundness.specs.faithfulness.Names.{Own, Constant, Place, Start, types_from_start}

pub same_name-true : (x y : Symbol) → same_name x y ≡ true → x ≡ y
same_name-true x y e = ap (λ n. record { 0 = n }) (eqb-true x.0 y.0 e)

pub same_name-refl : (x : Symbol) → same_name x x ≡ true
same_name-refl x = eq-eqb x.0 x.0 refl

-- ---- look-ups

pub found_append : {X : Type 0} (xs ys : List (Symbol × X)) (x : Symbol) → found (xs ++ ys) x ≡ first_of (found xs x) (found ys x)
found_append [] ys x = refl
found_append (n ∷ xs) ys x = by_case (same_name n.0 x) (found_append xs ys x)
  where
    by_case : (b : Bool) → found (xs ++ ys) x ≡ first_of (found xs x) (found ys x)
        → cond b (Some n.1) (found (xs ++ ys) x) ≡ first_of (cond b (Some n.1) (found xs x)) (found ys x)
    by_case true h = refl
    by_case false h = h

pub found_map : {X Y : Type 0} (f : X → Y) (xs : List (Symbol × X)) (x : Symbol)
    → found (map (λ n. (n.0, f n.1)) xs) x ≡ option_map f (found xs x)
found_map f [] x = refl
found_map {X} {Y} f (n ∷ xs) x = by_case (same_name n.0 x) (found_map f xs x)
  where
    by_case : (b : Bool) → found (map (λ n. (n.0, f n.1)) xs) x ≡ option_map f (found xs x)
        → cond b (Some (f n.1)) (found (map (λ n. (n.0, f n.1)) xs) x) ≡ option_map f (cond b (Some n.1) (found xs x))
    by_case true h = refl
    by_case false h = h

pub found_before : {X : Type 0} (xs ys : List (Symbol × X)) (x : Symbol) (y : X) → found xs x ≡ Some y → found (xs ++ ys) x ≡ Some y
found_before xs ys x y e = found_append xs ys x ∙ ap (λ o. first_of o (found ys x)) e

pub data In {X : Type 0} : List X → X → Type 0 where
  here : (x : X) (xs : List X) → In (x ∷ xs) x
  further : (x y : X) (xs : List X) → In xs x → In (y ∷ xs) x

pub in_before : {X : Type 0} (xs ys : List X) (x : X) → In xs x → In (xs ++ ys) x
in_before (x ∷ xs) ys y (here a us) = here x (xs ++ ys)
in_before (x ∷ xs) ys y (further a b us h) = further y x (xs ++ ys) (in_before xs ys y h)
in_before [] ys y h = elim h [ ]

-- ---- what a name of the program tells

pub data Told (k : Known) (x : Symbol) : Meaning → Type 0 where
  told_type : (t : TypeId) → found (types_from_start k.start ++ k.program.types) x ≡ Some t → Told k x (OfType t)
  told_list : k.start.list ≡ x → Told k x OfList
  told_constant : (z : ℤ) → found k.program.constants x ≡ Some z → Told k x (OfConstant z)
  told_place : (t : TypeId) → found k.program.variables x ≡ Some t → Told k x (OfPlace t)
  told_symbol : (d : Decl) → d.name ≡ x → list_any (λ e. same_name e.name x) k.program.symbols ≡ true → Told k x (OfSymbol d)
  told_routine : (h : Heading) → h.name ≡ x → In k.headings h → Told k x (OfRoutine h)

record SymbolFound (ds : List Decl) (x : Symbol) (m : Meaning) : Type 0 where
  pub decl : Decl
  pub is : OfSymbol decl ≡ m
  pub name : decl.name ≡ x
  pub listed : list_any (λ e. same_name e.name x) ds ≡ true

or_true : (b : Bool) → (b || true) ≡ true
or_true true = refl
or_true false = refl

symbol_found : (ds : List Decl) (x : Symbol) (m : Meaning) → found (map (λ (d : Decl). (d.name, OfSymbol d)) ds) x ≡ Some m
    → SymbolFound ds x m
symbol_found [] x m e = absurd (nothing_there e)
symbol_found (d ∷ ds) x m e = by_case (same_name d.name x) refl e (λ k. symbol_found ds x m k)
  where
    by_case : (b : Bool) → same_name d.name x ≡ b → cond b (Some (OfSymbol d)) (found (map (λ (d : Decl). (d.name, OfSymbol d)) ds) x) ≡
        Some m
        → (found (map (λ (d : Decl). (d.name, OfSymbol d)) ds) x ≡ Some m → SymbolFound ds x m) → SymbolFound (d ∷ ds) x m
    by_case true same k go = record {
      decl = d;
      is = some_is k;
      name = same_name-true d.name x same;
      listed = ap
          (λ b. b || list_any (λ e. same_name e.name x) ds) same;
    }
    by_case false same k go =
        let r = go k in
        record {
          decl = r.decl;
          is = r.is;
          name = r.name;
          listed = ap (λ b. same_name d.name x || b) r.listed ∙ or_true
              (same_name d.name x);
        }

record HeadingFound (hs : List Heading) (x : Symbol) (m : Meaning) : Type 0 where
  pub heading : Heading
  pub is : OfRoutine heading ≡ m
  pub name : heading.name ≡ x
  pub listed : In hs heading

heading_found : (hs : List Heading) (x : Symbol) (m : Meaning) → found (map (λ (h : Heading). (h.name, OfRoutine h)) hs) x ≡ Some m
    → HeadingFound hs x m
heading_found [] x m e = absurd (nothing_there e)
heading_found (h ∷ hs) x m e = by_case (same_name h.name x) refl e (λ k. heading_found hs x m k)
  where
    by_case : (b : Bool) → same_name h.name x ≡ b → cond b (Some (OfRoutine h)) (found (map (λ (h : Heading). (h.name, OfRoutine h)) hs)
        x) ≡ Some m
        → (found (map (λ (h : Heading). (h.name, OfRoutine h)) hs) x ≡ Some m → HeadingFound hs x m) → HeadingFound (h ∷ hs) x m
    by_case true same k go = record { heading = h; is = some_is k; name = same_name-true h.name x same; listed = here h hs }
    by_case false same k go = let r = go k in record {
      heading = r.heading;
      is = r.is;
      name = r.name;
      listed = further r.heading h hs
          r.listed;
    }

module _ (k : Known) (x : Symbol) where
  abbrev constants_named : Names
  constants_named = named OfConstant k.program.constants

  abbrev types_named : Names
  types_named = named OfType k.program.types

  abbrev places_named : Names
  places_named = named OfPlace k.program.variables

  abbrev symbols_named : Names
  symbols_named = map (λ (d : Decl). (d.name, OfSymbol d)) k.program.symbols

  abbrev headings_named : Names
  headings_named = map (λ (h : Heading). (h.name, OfRoutine h)) k.headings

  of_headings : (m : Meaning) → found headings_named x ≡ Some m → Told k x m
  of_headings m e = let f = heading_found k.headings x m e in subst (Told k x) f.is (told_routine f.heading f.name f.listed)

  of_symbols : (m : Meaning) → found (symbols_named ++ headings_named) x ≡ Some m → Told k x m
  of_symbols m e = by_found (found symbols_named x) refl (sym (found_append symbols_named headings_named x) ∙ e)
    where
      by_found : (o : Option Meaning) → found symbols_named x ≡ o → first_of o (found headings_named x) ≡ Some m → Told k x m
      by_found None h f = of_headings m f
      by_found (Some n) h f = let s = symbol_found k.program.symbols x m (h ∙ f) in subst (Told k x) s.is
          (told_symbol s.decl s.name s.listed)

  of_places : (m : Meaning) → found (places_named ++ (symbols_named ++ headings_named)) x ≡ Some m → Told k x m
  of_places m e = by_found (found k.program.variables x) refl
      (sym (found_append places_named (symbols_named ++ headings_named) x ∙ ap
      (λ o. first_of o (found (symbols_named ++ headings_named) x)) (found_map OfPlace k.program.variables x)) ∙ e)
    where
      by_found : (o : Option TypeId) → found k.program.variables x ≡ o
          → first_of (option_map OfPlace o) (found (symbols_named ++ headings_named) x) ≡ Some m → Told k x m
      by_found None h f = of_symbols m f
      by_found (Some t) h f = subst (Told k x) (some_is f) (told_place t h)

  of_types : found (types_from_start k.start) x ≡ None → (m : Meaning)
      → found (types_named ++ (places_named ++ (symbols_named ++ headings_named))) x ≡ Some m → Told k x m
  of_types none m e = by_found (found k.program.types x) refl
      (sym (found_append types_named (places_named ++ (symbols_named ++ headings_named)) x ∙ ap
      (λ o. first_of o (found (places_named ++ (symbols_named ++ headings_named)) x)) (found_map OfType k.program.types x)) ∙ e)
    where
      by_found : (o : Option TypeId) → found k.program.types x ≡ o
          → first_of (option_map OfType o) (found (places_named ++ (symbols_named ++ headings_named)) x) ≡ Some m → Told k x m
      by_found None h f = of_places m f
      by_found (Some t) h f = subst (Told k x) (some_is f)
          (told_type t (found_append (types_from_start k.start) k.program.types x
          ∙ (ap (λ o. first_of o (found k.program.types x)) none ∙ h)))

  of_constants : found (types_from_start k.start) x ≡ None → (m : Meaning)
      → found (constants_named ++ (types_named ++ (places_named ++ (symbols_named ++ headings_named)))) x ≡ Some m → Told k x m
  of_constants none m e = by_found (found k.program.constants x) refl
      (sym (found_append constants_named (types_named ++ (places_named ++ (symbols_named ++ headings_named))) x ∙ ap
      (λ o. first_of o (found (types_named ++ (places_named ++ (symbols_named ++ headings_named))) x))
      (found_map OfConstant k.program.constants x)) ∙ e)
    where
      by_found : (o : Option ℤ) → found k.program.constants x ≡ o
          → first_of (option_map OfConstant o) (found (types_named ++ (places_named ++ (symbols_named ++ headings_named))) x) ≡ Some m
          → Told k x m
      by_found None h f = of_types none m f
      by_found (Some z) h f = subst (Told k x) (some_is f) (told_constant z h)

  pub told : (m : Meaning) → found (program_names k) x ≡ Some m → Told k x m
  told m e = by_tests (same_name k.start.integer x) (same_name k.start.boolean x) (same_name k.start.list x) refl refl refl e
    where
      rest : Option Meaning
      rest = found (constants_named ++ (types_named ++ (places_named ++ (symbols_named ++ headings_named)))) x

      by_tests : (a b c : Bool) → same_name k.start.integer x ≡ a → same_name k.start.boolean x ≡ b → same_name k.start.list x ≡ c
          → cond a (Some (OfType integer_type)) (cond b (Some (OfType boolean_type)) (cond c (Some OfList)
          (found (constants_named ++ (types_named ++ (places_named ++ (symbols_named ++ headings_named)))) x))) ≡ Some m → Told k x m
      by_tests true b c i j l f = subst (Told k x) (some_is f)
          (told_type integer_type (ap (λ q. cond q (Some integer_type)
          (cond (same_name k.start.boolean x) (Some boolean_type) (found k.program.types x))) i))
      by_tests false true c i j l f =
          subst (Told k x) (some_is f) (told_type boolean_type
          (ap (λ q. cond q (Some integer_type) (cond (same_name k.start.boolean x) (Some boolean_type) (found k.program.types x))) i
          ∙ ap (λ q. cond q (Some boolean_type) (found k.program.types x)) j))
      by_tests false false true i j l f = subst (Told k x) (some_is f) (told_list (same_name-true k.start.list x l))
      by_tests false false false i j l f =
          of_constants (ap (λ q. cond q (Some integer_type) (cond (same_name k.start.boolean x) (Some boolean_type) None)) i ∙ ap
          (λ q. cond q (Some boolean_type) None) j) m f

-- ---- the names of a routine

pub data Alike : Meaning → Own → Type 0 where
  as_constant : (z : ℤ) → Alike (OfConstant z) (Constant z)
  as_place : (t : TypeId) → Alike (OfPlace t) Place
  as_start : (r : Sort) → Alike (OfStart r) Start

pub data OwnAs : Names → List (Symbol × Own) → Type 0 where
  no_own : OwnAs [] []
  one_own : (x : Symbol) (m : Meaning) (o : Own) (ms : Names) (os : List (Symbol × Own)) → Alike m o → OwnAs ms os
      → OwnAs ((x, m) ∷ ms) ((x, o) ∷ os)

pub own_append : (ms ns : Names) (os ps : List (Symbol × Own)) → OwnAs ms os → OwnAs ns ps → OwnAs (ms ++ ns) (os ++ ps)
own_append [] ns [] ps no_own h = h
own_append ((x, m) ∷ ms) ns ((y, o) ∷ os) ps (one_own z a b us vs g rest) h = one_own x m o (ms ++ ns) (os ++ ps) g
    (own_append ms ns os ps rest h)
own_append [] ns (o ∷ os) ps g h = elim g [ ]
own_append (m ∷ ms) ns [] ps g h = elim g [ ]

data FoundAlike : Option Meaning → Option Own → Type 0 where
  neither : FoundAlike None None
  both : (m : Meaning) (o : Own) → Alike m o → FoundAlike (Some m) (Some o)

own_found : (ms : Names) (os : List (Symbol × Own)) (x : Symbol) → OwnAs ms os → FoundAlike (found ms x) (found os x)
own_found [] [] x no_own = neither
own_found ((y, m) ∷ ms) ((w, o) ∷ os) x (one_own z a b us vs g rest) = by_case (same_name z x) (own_found us vs x rest)
  where
    by_case : (c : Bool) → FoundAlike (found us x) (found vs x) → FoundAlike (cond c (Some a) (found us x)) (cond c (Some b) (found vs x))
    by_case true h = both a b g
    by_case false h = h
own_found [] (o ∷ os) x g = elim g [ ]
own_found (m ∷ ms) [] x g = elim g [ ]

-- what a name in a scope tells
pub data Means (k : Known) (os : List (Symbol × Own)) (x : Symbol) : Meaning → Type 0 where
  by_own : (m : Meaning) (o : Own) → Alike m o → found os x ≡ Some o → Means k os x m
  by_program : (m : Meaning) → found os x ≡ None → Told k x m → Means k os x m

pub means : (k : Known) (ms : Names) (os : List (Symbol × Own)) (x : Symbol) (m : Meaning) → OwnAs ms os
    → first_of (found ms x) (found (program_names k) x) ≡ Some m → Means k os x m
means k ms os x m h e = by_found (found ms x) (found os x) refl (own_found ms os x h) e
  where
    by_found : (a : Option Meaning) (b : Option Own) → found os x ≡ b → FoundAlike a b → first_of a (found (program_names k) x) ≡ Some m
        → Means k os x m
    by_found None None g neither f = by_program m g (told k x m f)
    by_found (Some n) (Some o) g (both u v r) f = subst (Means k os x) (some_is f) (by_own n o r g)
    by_found None (Some o) g h f = elim h [ ]
    by_found (Some n) None g h f = elim h [ ]
