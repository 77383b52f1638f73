-- Titles, from the last name on.
use Rattle.std.proofs.Common.{◌≡◌, ℕ, zero, suc, ◌+◌, ◌<◌, ◌≤◌, Bool, true, false, cond, List, [], ◌∷◌, length, drop, set, replicate, Option, Some, None, refl, sym, ap, ◌∙◌, nat_eq, slice_get, arith}
use Rattle.std.proofs.lemmas.Bool.{eqb-true, eq-eqb}
use Rattle.std.proofs.lemmas.List.{drop_all}
use Rattle.spv_logic.specs.declared.names.names.Symbol.{Symbol}
use Rattle.spv_logic.specs.declared.types.TypeId.{TypeId}
use Rattle.spv_program.specs.declared.types.TypeForm.{TypeForm}
use Rattle.spv_typing.specs.ProgramWalk.{title_of, titles_from}
use Rattle.spv_types.specs.Titles.{entitled, no_titles}

pub none_entitled : (titles : List (Option Symbol)) (x : Symbol) (t : TypeId) → length titles ≤ t.0 → entitled titles x t ≡ titles
none_entitled titles x t past = set_past titles t.0 past
  where
    set_past : (xs : List (Option Symbol)) (n : ℕ) → length xs ≤ n → set xs n (Some x) ≡ xs
    set_past [] n h = refl
    set_past (y ∷ xs) zero h = absurd (omega (arith, h))
    set_past (y ∷ xs) (suc n) h = ap (λ (l : List (Option Symbol)). y ∷ l) (set_past xs n (omega (arith, h)))

none_named : (forms : List TypeForm) (t : ℕ) → titles_from [] t forms ≡ replicate (length forms) None
none_named [] t = refl
none_named (f ∷ forms) t = ap (λ (l : List (Option Symbol)). None ∷ l) (none_named forms (suc t))

pub titles_begin : (types : List (Symbol × TypeId)) (forms : List TypeForm) (titles : List (Option Symbol)) (n : ℕ) → n ≡ length types → titles ≡ no_titles (length forms)
    → titles ≡ titles_from (drop n types) 0 forms
titles_begin types forms titles n all is =
    is ∙ (sym (none_named forms 0) ∙ ap (λ (l : List (Symbol × TypeId)). titles_from l 0 forms) (sym (drop_all n types (past n (length types) all))))
  where
    past : (n m : ℕ) → n ≡ m → m ≤ n
    past n m e = omega (arith, e)

-- a name in front of the others entitles its type, and no other
below : (names : List (Symbol × TypeId)) (x : Symbol) (u t : ℕ) (forms : List TypeForm) → u < t → titles_from ((x, record { 0 = u }) ∷ names) t forms ≡ titles_from names t forms
below names x u t [] h = refl
below names x u t (f ∷ forms) h =
    ap (λ b. cond b (Some x) (title_of names t) ∷ titles_from ((x, record { 0 = u }) ∷ names) (suc t) forms) (other (nat_eq u t) refl)
    ∙ ap (λ (l : List (Option Symbol)). title_of names t ∷ l) (below names x u (suc t) forms (omega (arith, h)))
  where
    other : (b : Bool) → nat_eq u t ≡ b → b ≡ false
    other false e = refl
    other true e = let same : u ≡ t = eqb-true u t e in absurd (omega (arith, same, h))

named_first : (names : List (Symbol × TypeId)) (x : Symbol) (u n t : ℕ) (forms : List TypeForm) → u ≡ n + t
    → titles_from ((x, record { 0 = u }) ∷ names) t forms ≡ set (titles_from names t forms) n (Some x)
named_first names x u n t [] e = refl
named_first names x u zero t (f ∷ forms) e =
    ap (λ b. cond b (Some x) (title_of names t) ∷ titles_from ((x, record { 0 = u }) ∷ names) (suc t) forms) (eq-eqb u t (here u t e))
    ∙ ap (λ (l : List (Option Symbol)). Some x ∷ l) (below names x u (suc t) forms (less u t e))
  where
    here : (u t : ℕ) → u ≡ 0 + t → u ≡ t
    here u t e = omega (arith, e)

    less : (u t : ℕ) → u ≡ 0 + t → u < suc t
    less u t e = omega (arith, e)
named_first names x u (suc n) t (f ∷ forms) e =
    ap (λ b. cond b (Some x) (title_of names t) ∷ titles_from ((x, record { 0 = u }) ∷ names) (suc t) forms) (other (nat_eq u t) refl)
    ∙ ap (λ (l : List (Option Symbol)). title_of names t ∷ l) (named_first names x u n (suc t) forms (moved u n t e))
  where
    moved : (u n t : ℕ) → u ≡ suc n + t → u ≡ n + suc t
    moved u n t e = omega (arith, e)

    other : (b : Bool) → nat_eq u t ≡ b → b ≡ false
    other false g = refl
    other true g = let same : u ≡ t = eqb-true u t g in absurd (omega (arith, same, e))

pub title_first : (names : List (Symbol × TypeId)) (x : Symbol) (t : TypeId) (forms : List TypeForm)
    → entitled (titles_from names 0 forms) x t ≡ titles_from ((x, t) ∷ names) 0 forms
title_first names x t forms = sym (named_first names x t.0 t.0 0 forms (none_more t.0))
  where
    none_more : (n : ℕ) → n ≡ n + 0
    none_more n = omega arith

from_place : (types : List (Symbol × TypeId)) (place : ℕ) (e : Symbol × TypeId) → slice_get types place ≡ Some e → drop place types ≡ e ∷ drop (suc place) types
from_place [] place e h = absurd cc
from_place (d ∷ types) zero e h = cc
from_place (d ∷ types) (suc place) e h = from_place types place e h

pub titles_next : (types : List (Symbol × TypeId)) (forms : List TypeForm) (titles : List (Option Symbol)) (n place : ℕ) (x : Symbol) (t : TypeId)
    → n ≡ suc place → slice_get types place ≡ Some (x, t) → titles ≡ titles_from (drop n types) 0 forms → entitled titles x t ≡ titles_from (drop place types) 0 forms
titles_next types forms titles n place x t next at so_far =
    ap (λ (l : List (Option Symbol)). entitled l x t) (so_far ∙ ap (λ (n : ℕ). titles_from (drop n types) 0 forms) next)
    ∙ (title_first (drop (suc place) types) x t forms ∙ ap (λ (l : List (Symbol × TypeId)). titles_from l 0 forms) (sym (from_place types place (x, t) at)))

-- INTEGER and BOOLEAN in front of the names of the TYPE part
pub both_first : (types : List (Symbol × TypeId)) (forms : List TypeForm) (one two three last : List (Option Symbol)) (x y : Symbol) (t u : TypeId)
    → one ≡ titles_from types 0 forms → two ≡ entitled one y u → three ≡ entitled two x t → last ≡ three
    → last ≡ titles_from ((x, t) ∷ (y, u) ∷ types) 0 forms
both_first types forms one two three last x y t u begun second first is =
    is ∙ (first ∙ (ap (λ (l : List (Option Symbol)). entitled l x t) (second ∙ (ap (λ (l : List (Option Symbol)). entitled l y u) begun ∙ title_first types y u forms))
    ∙ title_first ((y, u) ∷ types) x t forms))
