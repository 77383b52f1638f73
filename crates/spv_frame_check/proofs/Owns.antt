-- The names that a routine has of its own.
use Rattle.std.proofs.Common.{◌≡◌, Bool, true, false, ◌||◌, cond, List, [], ◌∷◌, ◌++◌, map, Some, is_some, refl, sym, ap, ◌∙◌}
use Rattle.std.specs.List.{list_any}
use Rattle.spv_logic.specs.declared.names.names.Symbol.{Symbol}
use Rattle.spv_logic.specs.declared.types.TypeId.{TypeId}
use Rattle.spv_program.specs.Lists.{same_name, found}
use Rattle.spv_program.specs.Programs.{Formal, Routine}
use Rattle.spv_program.specs.Scopes.{is_own, result_name}
use Rattle.spv_program.specs.Frames.{is_formal, is_initial}
use Rattle.spv_effects.specs.frame_walk.Events.{own_at_exit, own_in_body}
use Rattle.spv_effects.specs.frame_events.Names.{named}
use Rattle.spv_frame_check.specs.Sets.{with_names}
use Rattle.spv_frame_check.specs.Owned.{formal_names, initial_names, typed_names}
use Rattle.spv_frame_check.proofs.Logic.{or_grouped, any_both}
use Rattle.spv_frame_check.proofs.Members.{named_with}

abbrev is : Symbol → Symbol → Bool
is y x = same_name x y

-- an entry is found where its name stands
found_is : {X : Type 0} (entries : List (Symbol × X)) (y : Symbol) → is_some (found entries y) ≡ list_any (λ e. same_name e.0 y) entries
found_is [] y = refl
found_is (e ∷ entries) y = by_case (same_name e.0 y) (found_is entries y)
  where
    by_case : (b : Bool) → is_some (found entries y) ≡ list_any (λ e. same_name e.0 y) entries → is_some (cond b (Some e.1) (found entries y)) ≡ b || list_any (λ e. same_name e.0 y) entries
    by_case true h = refl
    by_case false h = h

named_is : {X : Type 0} (entries : List (Symbol × X)) (y : Symbol) → list_any (is y) (map (λ e. e.0) entries) ≡ list_any (λ e. same_name e.0 y) entries
named_is [] y = refl
named_is (e ∷ entries) y = ap (λ b. same_name e.0 y || b) (named_is entries y)

formals_named : (formals : List Formal) (y : Symbol) → list_any (is y) (formal_names formals) ≡ is_some (found (map (λ (f : Formal). (f.name, f.of)) formals) y)
formals_named formals y = step formals ∙ sym (found_is (map (λ (f : Formal). (f.name, f.of)) formals) y)
  where
    step : (fs : List Formal) → list_any (is y) (formal_names fs) ≡ list_any (λ (e : Symbol × TypeId). same_name e.0 y) (map (λ (f : Formal). (f.name, f.of)) fs)
    step [] = refl
    step (f ∷ fs) = ap (λ b. same_name f.name y || b) (step fs)

initial_named : (r : Routine) (y : Symbol) → list_any (is y) (initial_names r.initial) ≡ is_initial r y
initial_named r y = named_is r.initial y ∙ sym (found_is r.initial y)

typed_named : (names : List (Symbol × TypeId)) (y : Symbol) → list_any (is y) (typed_names names) ≡ is_some (found names y)
typed_named names y = named_is names y ∙ sym (found_is names y)

in_two : (xs ys : List (Symbol × TypeId)) (y : Symbol) → is_some (found (xs ++ ys) y) ≡ is_some (found xs y) || is_some (found ys y)
in_two xs ys y =
    found_is (xs ++ ys) y ∙ any_both (λ (e : Symbol × TypeId). same_name e.0 y) xs ys
    ∙ ap (λ t. t || list_any (λ (e : Symbol × TypeId). same_name e.0 y) ys) (sym (found_is xs y)) ∙ ap (λ t. is_some (found xs y) || t) (sym (found_is ys y))

module _ (r : Routine) (start : List Symbol) (empty : start ≡ []) where
  formal_step : (a : List Symbol) → a ≡ with_names start (formal_names r.formals) → (y : Symbol) → named a y ≡ is_formal r y
  formal_step a h y =
      ap (λ (s : List Symbol). named s y) h ∙ named_with start (formal_names r.formals) y
      ∙ ap (λ (s : List Symbol). named s y || list_any (is y) (formal_names r.formals)) empty ∙ formals_named r.formals y

  result_step : (a b : List Symbol) → a ≡ with_names start (formal_names r.formals) → b ≡ with_names a (typed_names (result_name r.name r.result)) → (y : Symbol)
      → named b y ≡ is_formal r y || is_some (found (result_name r.name r.result) y)
  result_step a b h k y =
      ap (λ (s : List Symbol). named s y) k ∙ named_with a (typed_names (result_name r.name r.result)) y
      ∙ ap (λ t. t || list_any (is y) (typed_names (result_name r.name r.result))) (formal_step a h y)
      ∙ ap (λ t. is_formal r y || t) (typed_named (result_name r.name r.result) y)

  pub entry_is : (a : List Symbol) → a ≡ with_names start (formal_names r.formals) → named a ≡ is_formal r
  entry_is a h at y = formal_step a h y at

  pub exit_is : (a b c : List Symbol) → a ≡ with_names start (formal_names r.formals) → b ≡ with_names a (typed_names (result_name r.name r.result))
      → c ≡ with_names b (initial_names r.initial) → named c ≡ own_at_exit r
  exit_is a b c h k l at y = proof y at
    where
      proof : (y : Symbol) → named c y ≡ own_at_exit r y
      proof y =
          ap (λ (s : List Symbol). named s y) l ∙ named_with b (initial_names r.initial) y
          ∙ ap (λ t. t || list_any (is y) (initial_names r.initial)) (result_step a b h k y)
          ∙ ap (λ t. (is_formal r y || is_some (found (result_name r.name r.result) y)) || t) (initial_named r y)
          ∙ or_grouped (is_formal r y) (is_some (found (result_name r.name r.result) y)) (is_initial r y)

  pub own_is : (a b c : List Symbol) → a ≡ with_names start (formal_names r.formals) → b ≡ with_names a (typed_names (result_name r.name r.result))
      → c ≡ with_names b (typed_names r.locals) → named c ≡ is_own (Some r)
  own_is a b c h k l at y = proof y at
    where
      proof : (y : Symbol) → named c y ≡ is_own (Some r) y
      proof y =
          ap (λ (s : List Symbol). named s y) l ∙ named_with b (typed_names r.locals) y
          ∙ ap (λ t. t || list_any (is y) (typed_names r.locals)) (result_step a b h k y)
          ∙ ap (λ t. (is_formal r y || is_some (found (result_name r.name r.result) y)) || t) (typed_named r.locals y)
          ∙ or_grouped (is_formal r y) (is_some (found (result_name r.name r.result) y)) (is_some (found r.locals y))
          ∙ ap (λ t. is_formal r y || t) (sym (in_two (result_name r.name r.result) r.locals y))
          ∙ sym (in_two (map (λ (f : Formal). (f.name, f.of)) r.formals) (result_name r.name r.result ++ r.locals) y)

pub body_is : (r : Routine) (a b : List Symbol) → named a ≡ is_own (Some r) → b ≡ with_names a (initial_names r.initial) → named b ≡ own_in_body r
body_is r a b h k at y = proof y at
  where
    proof : (y : Symbol) → named b y ≡ own_in_body r y
    proof y =
        ap (λ (s : List Symbol). named s y) k ∙ named_with a (initial_names r.initial) y
        ∙ ap (λ t. t || list_any (is y) (initial_names r.initial)) (ap (λ (own : Symbol → Bool). own y) h)
        ∙ ap (λ t. is_own (Some r) y || t) (initial_named r y)
