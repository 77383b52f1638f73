-- Values under names, changed one after the other.
use Rattle.std.proofs.Common.{◌≡◌, ℕ, zero, suc, ◌≤◌, ◌+◌, List, [], ◌∷◌, map, length, Some, slice_get, refl, sym, ap, ◌∙◌, arith}
use Rattle.spv_logic.specs.declared.names.names.Symbol.{Symbol}
use Rattle.spv_logic.specs.declared.types.TypeId.{TypeId}
use Rattle.spv_program.specs.ordered_map.Entries.{with_value}
use Rattle.spv_typing.specs.Known.{Known}
use Rattle.spv_typing.specs.DeclarationWalk.{with_program, with_types}
use Rattle.spv_declaration_typing.proofs.type_typing.Entries.{pair}

module _ {X : Type 0} (f : X → X) where
  abbrev pub changed : Symbol × X → Symbol × X
  changed e = (e.0, f e.1)

  -- the first entries changed
  abbrev pub changed_to : ℕ → List (Symbol × X) → List (Symbol × X)
  changed_to zero es = es
  changed_to (suc n) [] = []
  changed_to (suc n) (e ∷ es) = changed e ∷ changed_to n es

  pub one_changed : (n : ℕ) (es : List (Symbol × X)) (e : Symbol × X) → slice_get (changed_to n es) n ≡ Some e → with_value (changed_to n es) n (f e.1) ≡ changed_to (suc n) es
  one_changed zero [] e h = refl
  one_changed zero (d ∷ es) e h = let same : e ≡ d = cc in ap (λ (y : Symbol × X). let z : Symbol × X = (d.0, f y.1) in z ∷ es) same
  one_changed (suc n) [] e h = refl
  one_changed (suc n) (d ∷ es) e h = ap (λ (l : List (Symbol × X)). changed d ∷ l) (one_changed n es e h)

  pub all_changed : (n : ℕ) (es : List (Symbol × X)) → length es ≤ n → changed_to n es ≡ map changed es
  all_changed zero [] h = refl
  all_changed zero (e ∷ es) h = absurd (omega (arith, h))
  all_changed (suc n) [] h = refl
  all_changed (suc n) (e ∷ es) h = ap (λ (l : List (Symbol × X)). changed e ∷ l) (all_changed n es (omega (arith, h)))

  pub many_changed : (n : ℕ) (es : List (Symbol × X)) → length (changed_to n es) ≡ length es
  many_changed zero es = refl
  many_changed (suc n) [] = refl
  many_changed (suc n) (e ∷ es) = ap suc (many_changed n es)

-- ---- the names of types stand for other types

module _ (k : Known) (f : TypeId → TypeId) where
  abbrev pub renamed_to : ℕ → Known
  renamed_to n = with_program k (with_types k.program k.program.forms (changed_to f n k.program.types))

  pub many_names : (now : Known) (n : ℕ) → now ≡ renamed_to n → length now.program.types ≡ length k.program.types
  many_names now n is = ap (λ (w : Known). length w.program.types) is ∙ many_changed f n k.program.types

  pub one_renamed : (now next : Known) (n : ℕ) (x : Symbol) (t u : TypeId) (table : List (Symbol × TypeId)) → now ≡ renamed_to n → table ≡ now.program.types
      → slice_get table n ≡ Some (pair x t) → u ≡ f t → next ≡ with_program now (with_types now.program now.program.forms (with_value now.program.types n u))
      → next ≡ renamed_to (n + 1)
  one_renamed now next n x t u table is at_hand at new changes =
      let here : slice_get (changed_to f n k.program.types) n ≡ Some (pair x t) =
      ap (λ (l : List (Symbol × TypeId)). slice_get l n) (sym (at_hand ∙ ap (λ (w : Known). w.program.types) is)) ∙ at in
      changes
      ∙ (ap (λ (w : Known). with_program w (with_types w.program w.program.forms (with_value w.program.types n u))) is
      ∙ (ap (λ (v : TypeId). with_program k (with_types k.program k.program.forms (with_value (changed_to f n k.program.types) n v))) new
      ∙ (ap (λ (l : List (Symbol × TypeId)). with_program k (with_types k.program k.program.forms l)) (one_changed f n k.program.types (pair x t) here)
      ∙ ap renamed_to (next_is n))))
    where
      next_is : (n : ℕ) → suc n ≡ n + 1
      next_is n = omega arith

  pub all_renamed : (now : Known) (n : ℕ) → length k.program.types ≤ n → now ≡ renamed_to n
      → now ≡ with_program k (with_types k.program k.program.forms (map (λ e. (e.0, f e.1)) k.program.types))
  all_renamed now n past is = is ∙ ap (λ (l : List (Symbol × TypeId)). with_program k (with_types k.program k.program.forms l)) (all_changed f n k.program.types past)
