-- Items of GLOBAL lists and of INITIAL.
use Rattle.std.proofs.Common.{◌≡◌, ℕ, Bool, true, false, ◌&&◌, ◌||◌, List, [], ◌∷◌, ◌++◌, Option, Some, None, Ok, is_some, refl, subst, sym, ap, ◌∙◌}
use Rattle.std.proofs.lemmas.List.{map-append}
use Rattle.std.proofs.lemmas.List.Folds.{list_any-append}
use Rattle.spv_logic.proofs.list.Tests.{both_false}
use Rattle.spv_heading_typing.specs.declared.starts.Starts.{Starts}
use Rattle.std.specs.List.{list_any}
use Rattle.spv_logic.specs.declared.names.names.Symbol.{Symbol}
use Rattle.spv_logic.specs.declared.types.Sort.{Sort}
use Rattle.spv_logic.specs.declared.types.Sort.TheVariants as sort
use Rattle.spv_tree.specs.declared.syntax.declarations.NameOrClass.TheVariants as written
use Rattle.spv_program.specs.Lists.{found, same_name}
use Rattle.spv_program.specs.Types.{sort_of}
use Rattle.spv_program.specs.Programs.{GlobalItem, lists}
use Rattle.spv_typing.specs.Outcomes.{Outcome, after}
use Rattle.spv_typing.specs.DeclarationWalk.{class_named}
use Rattle.spv_formula_typing.proofs.Exits.{stops_after}
use Rattle.spv_environments.specs.declared.scopes.Own.{Own}
use Rattle.spv_environments.specs.Scopes.{own_of}
use Rattle.spv_heading_typing.specs.declared.parameters.Parameters.{Parameters}
use Rattle.spv_heading_typing.specs.Names.{has}
use Rattle.spv_heading_typing.specs.Parameters.{IsPlaces, parameters_of}
use Rattle.spv_heading_typing.specs.Starts.{initial_in, initial_walk, AreApart}
use Rattle.spv_heading_typing.specs.Clauses.{annotations_in, clauses_in}
use Rattle.spv_tree.specs.declared.syntax.routines.Clauses.{Clauses as ClausesText}
use Rattle.spv_logic.specs.declared.types.TypeId.{TypeId}
use Rattle.spv_tree.specs.declared.syntax.names.Name.{Name}
use Rattle.spv_program.specs.declared.types.Item.TheVariants.{Variable, Class}
use Rattle.spv_typing.specs.declared.faults.TypeFault.{TypeFault}
use Rattle.spv_typing.specs.Known.{Known, Meaning, OfPlace, meaning, named, program_names}
use Rattle.spv_typing.specs.RoutineWalk.{variable_named}
use Rattle.spv_typing.specs.RoutineWalk as spec
use Rattle.spv_environments.specs.Answers.{Stops}

pub variable_shared : (line : ℕ) (x : Name) (m n : Option Meaning) (t : TypeId) → n ≡ m → n ≡ Some (OfPlace t) → variable_named line x m ≡ Ok (Variable x.symbol)
variable_shared line x m n t same is = ap (variable_named line x) (sym same) ∙ ap (variable_named line x) is

pub no_variable : (line : ℕ) (x : Name) (m n : Option Meaning) (e : TypeFault) → n ≡ m → Stops e (variable_named line x n) → Stops e (variable_named line x m)
no_variable line x m n e same h = subst (λ (o : Option Meaning). Stops e (variable_named line x o)) same h

-- ---- INITIAL

module _ (k : Known) (own : List (Symbol × Own)) (line : ℕ) where
  pub variable_begins : (x : Name) (t : TypeId) (of : Sort) → meaning (spec.in_routine k (named own_of own) None) x.symbol ≡ Some (OfPlace t) → of ≡ sort_of k.program.forms t
      → initial_in k own line (written.Name x) ≡ Ok (Variable x.symbol, of)
  variable_begins x t of is sort =
      ap (λ (m : Option Meaning). after (variable_named line x m) (λ item. Ok (item, spec.item_sort (spec.in_routine k (named own_of own) None) item))) is
      ∙ (ap (λ (m : Option Meaning). Ok (Variable x.symbol, spec.place_sort (spec.in_routine k (named own_of own) None) m)) is
      ∙ ap (λ (s : Sort). Ok (Variable x.symbol, s)) (sym sort))

  pub no_beginning : (x : Name) (e : TypeFault) → Stops e (variable_named line x (meaning (spec.in_routine k (named own_of own) None) x.symbol))
      → Stops e (initial_in k own line (written.Name x))
  no_beginning x e h = stops_after e _ _ h

  pub class_begins : (x : Name) (t : TypeId) → class_named line x (found (program_names k) x.symbol) ≡ Ok t
      → initial_in k own line (written.Class x) ≡ Ok (Class t, sort.Class t)
  class_begins x t is =
      ap (λ (o : Outcome TypeId). after (after o (λ t. Ok (Class t))) (λ item. Ok (item, spec.item_sort (spec.in_routine k (named own_of own) None) item))) is

  pub no_class : (x : Name) (e : TypeFault) → Stops e (class_named line x (found (program_names k) x.symbol)) → Stops e (initial_in k own line (written.Class x))
  no_class x e h = stops_after e _ _ (stops_after e _ _ h)

pub variable_may : (p : Parameters) (globals : List GlobalItem) (x : Symbol) (b c : Bool) → IsPlaces p → b ≡ has p.places x → c ≡ lists globals (Variable x) true
    → (b || c) ≡ spec.may_be_initial (parameters_of p).formals globals (Variable x)
variable_may p globals x b c h is_b is_c =
    ap (λ d. d || c) (is_b ∙ h.places x) ∙ ap (λ d. list_any (λ f. same_name f.name x && f.by_place) (parameters_of p).formals || d) is_c

pub none_apart : (p : Parameters) (s : Starts) → s.own ≡ [] → AreApart p s
none_apart p s is = ap (λ (l : List (Symbol × Own)). list_any (λ e. has p.own e.0) l) is

pub one_apart : (p : Parameters) (s t : Starts) (name : Symbol) (o : Own) → AreApart p s → has p.own name ≡ false → t.own ≡ s.own ++ (name, o) ∷ [] → AreApart p t
one_apart p s t name o h apart is =
    ap (λ (l : List (Symbol × Own)). list_any (λ e. has p.own e.0) l) is
    ∙ (list_any-append (λ e. has p.own e.0) s.own ((name, o) ∷ []) ∙ both_false _ _ h (both_false (has p.own name) false apart refl))

never : {X : Type 0} (names : List X) → list_any (λ e. false) names ≡ false
never [] = refl
never (e ∷ names) = never names

pub nothing_taken : {X Y : Type 0} (old : List (Symbol × Y)) (names : List (Symbol × X)) → old ≡ [] → list_any (λ e. is_some (found old e.0)) names ≡ false
nothing_taken {X} {Y} old names is = ap (λ (l : List (Symbol × Y)). list_any (λ e. is_some (found l e.0)) names) is ∙ never names

-- what stops behind a GLOBAL list and INITIAL names
pub clauses_stop : (k : Known) (name : Symbol) (ps : Parameters) (result : Option TypeId) (c : ClausesText) (globals : List GlobalItem) (starts : spec.Starts) (e : TypeFault)
    → spec.globals_walk k (parameters_of ps).own c.globals ≡ Ok globals → initial_walk k name ps globals c.initial ≡ Ok starts
    → Stops e (annotations_in k name ps result starts c) → Stops e (clauses_in k name ps result c)
clauses_stop k name ps result c globals starts e g s h =
    subst (Stops e)
    (sym (ap (λ (o : Outcome (List GlobalItem)). after o (λ globals. after (initial_walk k name ps globals c.initial) (λ starts. after (annotations_in k name ps result starts c) (λ said.
    Ok (record { globals = globals; initial = starts.initial; own = (parameters_of ps).own ++ starts.own; entry = said.0; exit = said.1 }))))) g
    ∙ ap (λ (o : Outcome spec.Starts). after o (λ starts. after (annotations_in k name ps result starts c) (λ said.
    Ok (record { globals = globals; initial = starts.initial; own = (parameters_of ps).own ++ starts.own; entry = said.0; exit = said.1 })))) s))
    (stops_after e _ _ h)

pub named_joined : (a b both : List (Symbol × Own)) → both ≡ a ++ b → named own_of both ≡ named own_of a ++ named own_of b
named_joined a b both is = ap (named own_of) is ∙ map-append (λ e. (e.0, own_of e.1)) a b
