-- The names of a routine whose heading came before its body.
use Rattle.std.proofs.Common.{◌≡◌, List, [], ◌∷◌, ◌++◌, map, None, refl, ap, ◌∙◌}
use Rattle.std.proofs.lemmas.List.{map-append, append_assoc}
use Rattle.spv_logic.specs.declared.names.names.Symbol.{Symbol}
use Rattle.spv_program.specs.declared.types.Item.{Item}
use Rattle.spv_program.specs.declared.typed.programs.Formal.{Formal}
use Rattle.spv_program.specs.typed.ProgramViews.{formal_of}
use Rattle.spv_typing.specs.Known.{Known, Names, OfPlace, OfStart, named}
use Rattle.spv_typing.specs.RoutineWalk.{in_routine, item_sort}
use Rattle.spv_environments.specs.declared.scopes.Own.{Own}
use Rattle.spv_environments.specs.declared.routines.Specified.{Specified}
use Rattle.spv_environments.specs.Scopes.{own_of}
use Rattle.spv_routine_typing.specs.Again.{own_of_formal, own_of_start, names_again}

named_parameters : (formals : List Formal) → named own_of (map own_of_formal formals) ≡ map (λ f. (f.name, OfPlace f.of)) (map formal_of formals)
named_parameters [] = refl
named_parameters (f ∷ formals) = ap (λ (l : Names). (f.name, OfPlace f.of) ∷ l) (named_parameters formals)

named_starts : (k : Known) (ps : List (Symbol × Own)) (names : Names) → named own_of ps ≡ names → (starts : List (Symbol × Item))
    → named own_of (map (own_of_start k ps) starts) ≡ map (λ i. (i.0, OfStart (item_sort (in_routine k names None) i.1))) starts
named_starts k ps names same [] = refl
named_starts k ps names same (i ∷ starts) = λ j. (i.0, OfStart (item_sort (in_routine k (same j) None) i.1)) ∷ named_starts k ps names same starts j

pub named_again : (k : Known) (s : Specified) (parameters own all : List (Symbol × Own)) → parameters ≡ map own_of_formal s.heading.formals → own ≡ map own_of_formal s.heading.formals
    → all ≡ own ++ map (own_of_start k parameters) s.initial → named own_of all ≡ names_again k s
named_again k s parameters own all is put behind =
    ap (named own_of) behind
    ∙ (map-append (λ (e : Symbol × Own). (e.0, own_of e.1)) own (map (own_of_start k parameters) s.initial)
    ∙ (λ j. (ap (named own_of) put ∙ named_parameters s.heading.formals) j
    ++ named_starts k parameters (map (λ f. (f.name, OfPlace f.of)) (map formal_of s.heading.formals)) (ap (named own_of) is ∙ named_parameters s.heading.formals) s.initial j))

-- one name more is put
pub one_put : {X Y : Type 0} (f : X → Y) (old new : List Y) (x : X) (rest : List X) (y : Y) → y ≡ f x → new ≡ old ++ y ∷ [] → new ++ map f rest ≡ old ++ map f (x ∷ rest)
one_put {X} {Y} f old new x rest y same pushed =
    ap (λ (l : List Y). l ++ map f rest) pushed ∙ (append_assoc old (y ∷ []) (map f rest) ∙ ap (λ (z : Y). old ++ z ∷ map f rest) same)
