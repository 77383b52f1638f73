-- Tables as lists.
use Rattle.std.proofs.Common.{◌≡◌, ℕ, zero, suc, ◌+◌, List, [], ◌∷◌, ◌++◌, take, Some, sym, ap, ◌∙◌, slice_get, arith}
use Rattle.std.proofs.lemmas.List.{map-append}
use Rattle.spv_logic.specs.declared.names.names.Symbol.{Symbol}
use Rattle.spv_logic.specs.declared.types.Decl.{Decl}
use Rattle.spv_environments.specs.declared.known.Signature.{Signature}
use Rattle.spv_environments.specs.Symbols.{decl_of, symbols_of}

next_taken : {X : Type 0} (xs : List X) (n : ℕ) (x : X) → slice_get xs n ≡ Some x → take (suc n) xs ≡ take n xs ++ x ∷ []
next_taken [] n x h = absurd cc
next_taken (y ∷ xs) zero x h = cc
next_taken {X} (y ∷ xs) (suc n) x h = ap (λ (l : List X). y ∷ l) (next_taken xs n x h)

next_is : (n : ℕ) → n + 1 ≡ suc n
next_is n = omega arith

pub entry_listed : {X : Type 0} (table all new : List (Symbol × X)) (n : ℕ) (e : Symbol × X) → slice_get table n ≡ Some e → all ≡ take n table → new ≡ all ++ e ∷ []
    → new ≡ take (n + 1) table
entry_listed table all new n e h so_far put =
    put ∙ (ap (λ l. l ++ e ∷ []) so_far ∙ (sym (next_taken table n e h) ∙ ap (λ (m : ℕ). take m table) (sym (next_is n))))

pub symbol_listed : (table : List (Symbol × Signature)) (all new : List Decl) (n : ℕ) (e : Symbol × Signature) (d : Decl) → slice_get table n ≡ Some e
    → all ≡ symbols_of (take n table) → d ≡ decl_of e.0 e.1 → new ≡ all ++ d ∷ [] → new ≡ symbols_of (take (n + 1) table)
symbol_listed table all new n e d h so_far is put =
    put ∙ (ap (λ (x : Decl). all ++ x ∷ []) is ∙ (ap (λ l. l ++ decl_of e.0 e.1 ∷ []) so_far
    ∙ (sym (map-append (λ e. decl_of e.0 e.1) (take n table) (e ∷ []))
    ∙ (ap symbols_of (sym (next_taken table n e h)) ∙ ap (λ (m : ℕ). symbols_of (take m table)) (sym (next_is n))))))
