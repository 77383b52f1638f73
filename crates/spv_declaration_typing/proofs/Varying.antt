-- Variables, one after the other.
use Rattle.std.proofs.Common.{◌≡◌, ℕ, ◌≤◌, ◌+◌, List, [], ◌∷◌, ◌++◌, map, take, length, Some, None, Result, Ok, Err, slice_get, sym, ap, ◌∙◌, subst}
use Rattle.std.specs.Result.{IfOk}
use Rattle.std.proofs.lemmas.List.{append_assoc, append-nil, map-append, take_all}
use Rattle.spv_logic.specs.declared.names.names.Symbol.{Symbol}
use Rattle.spv_logic.specs.declared.types.TypeId.{TypeId}
use Rattle.spv_tree.specs.declared.syntax.lists.Several.{Several}
use Rattle.spv_tree.specs.declared.syntax.names.Name.{Name}
use Rattle.spv_tree.specs.declared.syntax.declarations.Vars.{Vars}
use Rattle.spv_program.specs.Lists.{found}
use Rattle.spv_typing.specs.declared.faults.TypeFault.{TypeFault}
use Rattle.spv_typing.specs.Outcomes.{Outcome, after, each}
use Rattle.spv_typing.specs.Known.{Known, at_top, is_free}
use Rattle.spv_typing.specs.TypeWalk.{all_names}
use Rattle.spv_typing.specs.DeclarationWalk as spec
use Rattle.spv_environments.specs.Answers.{Stops}
use Rattle.spv_environments.proofs.Free.{no_variable}
use Rattle.spv_declaration_typing.specs.type_typing.Names.{only_names}
use Rattle.spv_declaration_typing.specs.type_typing.Fields.{NoneThere, under}
use Rattle.spv_declaration_typing.proofs.type_typing.Each.{stops_after}
use Rattle.spv_declaration_typing.proofs.type_typing.NewFields.{all_new, none_there, next_missing, take_one}
use Rattle.spv_declaration_typing.specs.declared.canonical_types.settling.NewType.{NewType}
use Rattle.spv_declaration_typing.specs.canonical_types.Types.{settled}

abbrev with_these : Known → List (Symbol × TypeId) → Known
with_these k more = spec.with_program k (spec.with_variables k.program k.program.forms more)

-- what is known, with the first of the names as variables of one type
abbrev pub with_some : Known → TypeId → List Symbol → ℕ → Known
with_some k t names n = with_these k (under t (take n names))

module _ (k : Known) (t : TypeId) (names : List Symbol) where
  pub none_varied : k ≡ with_some k t names 0
  none_varied = ap (λ (vs : List (Symbol × TypeId)). spec.with_program k (record k.program { variables = vs })) (sym (append-nil k.program.variables))

  pub next_is_missing : (now : Known) (n : ℕ) (x : Symbol) → NoneThere k.program.variables names → slice_get names n ≡ Some x → now ≡ with_some k t names n
      → found now.program.variables x ≡ None
  next_is_missing now n x none at is =
      next_missing k.program.variables now.program.variables names t n x none at (ap (λ (w : Known). w.program.variables) is)

  pub one_varied : (now next : Known) (n : ℕ) (x : Symbol) → slice_get names n ≡ Some x → now ≡ with_some k t names n → next ≡ with_these now ((x, t) ∷ [])
      → next ≡ with_some k t names (n + 1)
  one_varied now next n x at is added =
      let put : Symbol → Symbol × TypeId = λ y. (y, t) in
      added ∙ (ap (λ (w : Known). with_these w ((x, t) ∷ [])) is
      ∙ ap (λ (vs : List (Symbol × TypeId)). spec.with_program k (record k.program { variables = vs }))
      (append_assoc k.program.variables (under t (take n names)) ((x, t) ∷ [])
      ∙ ap (λ (vs : List (Symbol × TypeId)). k.program.variables ++ vs) (sym (map-append put (take n names) (x ∷ [])) ∙ ap (under t) (sym (take_one names n x at)))))

  pub all_varied : (now : Known) (n : ℕ) → length names ≤ n → now ≡ with_some k t names n → now ≡ with_these k (under t names)
  all_varied now n past is = is ∙ ap (λ (l : List Symbol). with_these k (under t l)) (take_all n names past)

pub new_if_ok : (k : Known) (names : Several Name) (r : Result (List (Symbol × ℕ)) TypeFault)
    → IfOk r (λ n. each (spec.new_name (is_free k)) [] (all_names names) ≡ Ok (only_names n)) → IfOk r (λ n. NoneThere k.program.variables (only_names n))
new_if_ok k names (Ok n) h = none_there (is_free k) k.program.variables (only_names n) (no_variable k) (all_new (is_free k) (all_names names) (only_names n) h)
new_if_ok k names (Err e) h = tt

-- ---- a line of VAR

module _ (k : Known) (v : Vars) (all : List Symbol) (new : each (spec.new_name (is_free k)) [] (all_names v.names) ≡ Ok all) where
  abbrev finish : spec.NewType → Outcome Known
  finish t = Ok (spec.with_program k (spec.with_variables k.program t.forms (map (λ x. (x, t.type)) all)))

  opened : spec.vars_walk k v ≡ after (spec.type_walk (at_top k) v.of) finish
  opened = ap (λ (o : Outcome (List Symbol)). after o (λ names. after (spec.type_walk (at_top k) v.of) (λ t. Ok (spec.with_program k (spec.with_variables k.program t.forms (map (λ x. (x, t.type)) names)))))) new

  pub vars_stop : (e : TypeFault) → Stops e (spec.type_walk (at_top k) v.of) → Stops e (spec.vars_walk k v)
  vars_stop e h = subst (Stops e) (sym opened) (stops_after e (spec.type_walk (at_top k) v.of) finish h)

  pub vars_done : (n : NewType) (mid last : Known) (t : TypeId) → spec.type_walk (at_top k) v.of ≡ Ok (settled k n)
      → mid ≡ spec.with_program k (spec.with_types k.program (settled k n).forms k.program.types) → t ≡ (settled k n).type → last ≡ with_these mid (under t all)
      → spec.vars_walk k v ≡ Ok last
  vars_done n mid last t h is of added =
      opened ∙ (ap (λ (o : Outcome spec.NewType). after o finish) h
      ∙ ap (λ (w : Known). let o : Outcome Known = Ok w in o)
      (sym (added ∙ (ap (λ (w : Known). with_these w (under t all)) is
      ∙ ap (λ (u : TypeId). with_these (spec.with_program k (spec.with_types k.program (settled k n).forms k.program.types)) (under u all)) of))))
