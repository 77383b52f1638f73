-- What a table of names has at a place.
use Rattle.std.proofs.Common.{◌≡◌, ℕ, List, Option, Some, Bor, slice_get, subst}
use Rattle.std.specs.Option.{IfSome}
use Rattle.spv_logic.specs.declared.names.names.Symbol.{Symbol}
use Rattle.spv_declaration_typing.specs.type_typing.Names.{only_names}
use Rattle.spv_declaration_typing.proofs.type_typing.NewFields.{got_map}

abbrev pub pair : {X : Type 0} → Symbol → X → Symbol × X
pair x v = (x, v)

pub entry_at : {X : Type 0} (entries : List (Symbol × X)) (n : ℕ) (o : Option (Symbol × Bor X)) (e : Symbol × Bor X)
    → IfSome o (λ e. slice_get entries n ≡ Some (pair e.0 e.1.now)) → o ≡ Some e → slice_get entries n ≡ Some (pair e.0 e.1.now)
entry_at {X = X} entries n o e h is = subst (λ (o : Option (Symbol × Bor X)). IfSome o (λ e. slice_get entries n ≡ Some (pair e.0 e.1.now))) is h

pub name_at : {X : Type 0} (entries : List (Symbol × X)) (n : ℕ) (o : Option (Symbol × Bor X)) (e : Symbol × Bor X)
    → IfSome o (λ e. slice_get entries n ≡ Some (pair e.0 e.1.now)) → o ≡ Some e → slice_get (only_names entries) n ≡ Some e.0
name_at {X = X} entries n o e h is =
    let first : Symbol × X → Symbol = λ p. p.0 in
    got_map first entries n (pair e.0 e.1.now) (entry_at entries n o e h is)
