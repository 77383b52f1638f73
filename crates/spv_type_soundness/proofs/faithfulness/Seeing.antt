-- Scopes with the names that the walk knows see the program that comes out.
use Rattle.std.proofs.Common.{◌≡◌, true, false, List, ◌++◌, map, Option, Some, None, sym, ap, ◌∙◌}
use Rattle.std.specs.Prelude.{option_map, is_some, ℤ}
use Rattle.std.specs.List.{list_any}
use Rattle.spv_logic.specs.declared.names.names.Symbol.{Symbol}
use Rattle.spv_logic.specs.declared.types.TypeId.{TypeId}
use Rattle.spv_logic.specs.declared.types.Sort.{Sort}
use Rattle.spv_logic.specs.declared.types.Decl.{Decl}
use Rattle.spv_program.specs.Lists.{same_name, found}
use Rattle.spv_program.specs.declared.types.TypeForm.TheVariants.{Integer}
use Rattle.spv_program.specs.Types.{form_at, may_be_result}
use Rattle.spv_program.specs.Programs.{Routine, Program}
use Rattle.spv_typing.specs.Known.{KnownNames, OfType, OfConstant, OfPlace, OfStart, OfSymbol, OfRoutine, Heading, Names, Known, Scope, meaning}
use Rattle.spv_typing.specs.ExpressionWalk.{is_this}
use Rattle.spv_type_soundness.specs.faithfulness.Names.{Own, View, own_or, constant_named, names_place, names_start, type_named, names_symbol, place_among, routine_at, types_from_start, number_of, is_place, is_start, is_name_of, seen}
use Rattle.spv_type_soundness.specs.faithfulness.Laws.{Sees, SeesPlaces}
use Rattle.spv_type_soundness.proofs.faithfulness.Scopes.{In, told_type, told_constant, told_place, told_symbol, told_routine, as_constant, as_place, as_start, OwnAs, Means, by_own, by_program, means}

abbrev pub scope_of : Known → Names → Option Heading → Scope
scope_of k ms r = record { known = k; own = ms; routine = r }

-- what is known is the declarations of the program
pub record KnowsNames (k : Known) (start : KnownNames) (p : Program) : Type 0 where
  pub start_is : k.start ≡ start
  pub constants_are : k.program.constants ≡ p.constants
  pub types_are : k.program.types ≡ p.types
  pub variables_are : k.program.variables ≡ p.variables
  pub symbols_are : k.program.symbols ≡ p.symbols

-- and the headings are those of its routines
pub record Knows (k : Known) (start : KnownNames) (p : Program) : Type 0 where
  pub names : KnowsNames k start p
  pub numbers : (h : Heading) → In k.headings h → option_map routine_at (place_among (map (λ (r : Routine). r.name) p.routines) h.name) ≡
      Some h.number
  pub first : form_at k.program.forms 0 ≡ Integer
  pub plain : (h : Heading) (t : TypeId) → In k.headings h → h.result ≡ Some t → may_be_result (form_at k.program.forms t.0) ≡ true

-- ---- each kind of meaning

module _ (k : Known) (ms : Names) (os : List (Symbol × Own)) (own : OwnAs ms os) (r : Option Heading) (start : KnownNames) (p : Program)
    (here : Option Routine) where
  abbrev s : Scope
  s = scope_of k ms r

  abbrev v : View
  v = seen start p here os

  pub constants_seen : k.program.constants ≡ p.constants → (x : Symbol) (z : ℤ) → meaning s x ≡ Some (OfConstant z)
      → constant_named v x ≡ Some z
  constants_seen same x z e = by_means (means k ms os x (OfConstant z) own e)
    where
      by_means : Means k os x (OfConstant z) → constant_named v x ≡ Some z
      by_means (by_own m o (as_constant w) f) = ap (λ q. own_or q number_of (found p.constants x)) f
      by_means (by_program m none (told_constant w f)) = ap (λ q. own_or q number_of (found p.constants x)) none
          ∙ (ap (λ cs. found cs x) (sym same) ∙ f)

  pub places_seen : k.program.variables ≡ p.variables → (x : Symbol) (t : TypeId) → meaning s x ≡ Some (OfPlace t) → names_place v x ≡ true
  places_seen same x t e = by_means (means k ms os x (OfPlace t) own e)
    where
      by_means : Means k os x (OfPlace t) → names_place v x ≡ true
      by_means (by_own m o (as_place w) f) = ap (λ q. own_or q is_place (is_some (found p.variables x))) f
      by_means (by_program m none (told_place w f)) = ap (λ q. own_or q is_place (is_some (found p.variables x))) none
          ∙ (ap (λ cs. is_some (found cs x)) (sym same) ∙ ap is_some f)

  pub starts_seen : (x : Symbol) (q : Sort) → meaning s x ≡ Some (OfStart q) → names_start v x ≡ true
  starts_seen x q e = by_means (means k ms os x (OfStart q) own e)
    where
      by_means : Means k os x (OfStart q) → names_start v x ≡ true
      by_means (by_own m o (as_start w) f) = ap (λ q. own_or q is_start false) f
      by_means (by_program m none h) = elim h [ ]

  pub types_seen : k.start ≡ start → k.program.types ≡ p.types → (x : Symbol) (t : TypeId) → meaning s x ≡ Some (OfType t)
      → type_named v x ≡ Some t
  types_seen first same x t e = by_means (means k ms os x (OfType t) own e)
    where
      by_means : Means k os x (OfType t) → type_named v x ≡ Some t
      by_means (by_own m o h f) = elim h [ ]
      by_means (by_program m none (told_type w f)) =
          ap (λ q. own_or q (λ o. None) (found (types_from_start start ++ p.types) x)) none
          ∙ (ap (λ ts. found (types_from_start start ++ ts) x) (sym same)
          ∙ (ap (λ q. found (types_from_start q ++ k.program.types) x) (sym first) ∙ f))

  pub symbols_seen : k.program.symbols ≡ p.symbols → (x : Symbol) (d : Decl) → meaning s x ≡ Some (OfSymbol d)
      → (d.name ≡ x) × (names_symbol v x ≡ true)
  symbols_seen same x d e = by_means (means k ms os x (OfSymbol d) own e)
    where
      by_means : Means k os x (OfSymbol d) → (d.name ≡ x) × (names_symbol v x ≡ true)
      by_means (by_own m o h f) = elim h [ ]
      by_means (by_program m none (told_symbol w name f)) = (
        name,
        ap (λ q. own_or q (λ o. false) (list_any (λ (e : Decl). same_name e.name x) p.symbols)) none
            ∙ (ap (λ ds. list_any (λ (e : Decl). same_name e.name x) ds) (sym same) ∙ f),
      )

  pub record RoutineSeen (x : Symbol) (h : Heading) : Type 0 where
    pub none : found os x ≡ None
    pub name : h.name ≡ x
    pub listed : In k.headings h

  pub routines_seen : (x : Symbol) (h : Heading) → meaning s x ≡ Some (OfRoutine h) → RoutineSeen x h
  routines_seen x h e = by_means (means k ms os x (OfRoutine h) own e)
    where
      by_means : Means k os x (OfRoutine h) → RoutineSeen x h
      by_means (by_own m o g f) = elim g [ ]
      by_means (by_program m none (told_routine w name f)) = record { none = none; name = name; listed = f }

  pub sees : KnowsNames k start p → Sees s v
  sees knows = record {
    constants = constants_seen knows.constants_are;
    places = places_seen knows.variables_are;
    starts = starts_seen;
    types = types_seen knows.start_is knows.types_are;
    symbols = symbols_seen knows.symbols_are;
    functions = λ x. ap (λ (q : KnownNames). found q.functions x) knows.start_is;
  }

  -- a routine's own heading has its name
  pub sees_places : Knows k start p → ((h : Heading) → is_this r h ≡ true → is_name_of here h.name ≡ true) → SeesPlaces s v
  sees_places knows is_its = record {
    constants = constants_seen (knows.names).constants_are;
    places = places_seen (knows.names).variables_are;
    routines = λ x h e.
        let g = routines_seen x h e in
        ap (λ q. own_or q (λ o. None) (option_map routine_at (place_among (map (λ (r : Routine). r.name) p.routines) x))) g.none
        ∙ (ap (λ y. option_map routine_at (place_among (map (λ (r : Routine). r.name) p.routines) y)) (sym g.name) ∙ knows.numbers h
        g.listed);
    own_result = λ x h t e own_one result.
        let g = routines_seen x h e in
        ap (λ q. own_or q (λ o. false) (is_name_of here x)) g.none ∙ (ap (is_name_of here) (sym g.name) ∙ is_its h own_one);
    functions = λ x. ap (λ (q : KnownNames). found q.functions x) (knows.names).start_is;
    first = knows.first;
    plain_results = λ x h t e result. let g = routines_seen x h e in knows.plain h t g.listed result;
  }
