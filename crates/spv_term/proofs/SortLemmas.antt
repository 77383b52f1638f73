-- The sort that a head gives, read off its definition.
use Rattle.std.proofs.Common.{◌≡◌, ℕ, zero, suc, ◌<◌, ◌≤◌, Bool, true, false, cond, List, [], ◌∷◌, length, get_or, Option, Some, None, IsSome, IfSome, IfNone, MatchOption, unwrap_or, Bor, if◌then◌else◌, refl, sym, ap, ◌∙◌, arith, nat_eq}
use Rattle.std.proofs.lemmas.Bool.{false≢true}
use Rattle.std.specs.List.{find}
use Rattle.std.specs.Option.{option_map}
use Rattle.spv_logic.specs.declared.types.Sort.{Sort}
use Rattle.spv_logic.specs.declared.types.Shape.{Shape}
use Rattle.spv_logic.specs.declared.types.Shape.TheVariants as shape
use Rattle.spv_logic.specs.declared.types.Field.{Field}
use Rattle.spv_logic.specs.declared.types.Decl.{Decl}
use Rattle.spv_logic.specs.declared.types.Sort.TheVariants as sort
use Rattle.spv_logic.specs.declared.operators.Head.TheVariants as head
use Rattle.spv_logic.specs.declared.names.names.Symbol.{Symbol}
use Rattle.spv_logic.specs.Shapes.{shape_at, field_sort, field_sort_of, fields_of, element_sort, content_sort, pointer_sort}
use Rattle.spv_logic.specs.Sorts.{declared, takes, takes_declared, sorts_eq, with_sort, first_sort, class_change, result_sort}

pub shape_at-within : (shapes : List Shape) (i : ℕ) (d : Shape) → i < length shapes → shape_at shapes i ≡ get_or shapes i d
shape_at-within [] i d h = absurd (omega arith)
shape_at-within (s ∷ shapes) zero d h = refl
shape_at-within (s ∷ shapes) (suc i) d h = shape_at-within shapes i d (omega arith)

pub shape_at-past : (shapes : List Shape) (i : ℕ) → length shapes ≤ i → shape_at shapes i ≡ shape.Record []
shape_at-past [] i h = refl
shape_at-past (s ∷ shapes) zero h = absurd (omega arith)
shape_at-past (s ∷ shapes) (suc i) h = shape_at-past shapes i (omega arith)

pub field_sort-find : (fields : List Field) (name : ℕ) → field_sort fields name ≡ option_map (λ f. f.sort) (find (λ f. nat_eq f.name.0 name) fields)
field_sort-find [] name = refl
field_sort-find (f ∷ fields) name = by (nat_eq f.name.0 name) (find (λ g. nat_eq g.name.0 name) fields) (field_sort fields name) (field_sort-find fields name)
  where
    by : (b : Bool) (o : Option Field) (r : Option Sort) → r ≡ option_map (λ g. g.sort) o → (if b then Some f.sort else r) ≡ option_map (λ g. g.sort) (cond b (Some f) o)
    by true o r e = refl
    by false o r e = e

-- what a look-up of a shape says
pub shape_at-found : (shapes : List Shape) (i : ℕ) (r : Option (Bor Shape)) (Q : Bor Shape → Type 0) → IfSome r (λ x. x.now ≡ get_or shapes i x.now)
    → MatchOption r (length shapes ≤ i) (λ x. (i < length shapes) × Q x) → IfSome r (λ x. shape_at shapes i ≡ x.now)
shape_at-found shapes i None Q e m = tt
shape_at-found shapes i (Some x) Q e m = shape_at-within shapes i x.now m.0 ∙ sym e

pub shape_at-missing : (shapes : List Shape) (i : ℕ) (r : Option (Bor Shape)) (Q : Bor Shape → Type 0)
    → MatchOption r (length shapes ≤ i) (λ x. (i < length shapes) × Q x) → IfNone r (shape_at shapes i ≡ shape.Record [])
shape_at-missing shapes i None Q m = shape_at-past shapes i m
shape_at-missing shapes i (Some x) Q m = tt

pub declared-find : (decls : List Decl) (symbol : ℕ) → declared decls symbol ≡ find (λ d. nat_eq d.name.0 symbol) decls
declared-find [] symbol = refl
declared-find (d ∷ decls) symbol = ap (λ o. if nat_eq d.name.0 symbol then Some d else o) (declared-find decls symbol)

-- where the arguments fit, the result is the one that the head gives
pub takes-result : (wanted given : List Sort) (r s : Sort) → takes wanted given r ≡ Some s → r ≡ s
takes-result wanted given r s h = by (sorts_eq wanted given) refl
  where
    by : (b : Bool) → sorts_eq wanted given ≡ b → r ≡ s
    by true e = let k : Some r ≡ Some s = sym (ap (λ b. if b then Some r else None) e) ∙ h in cc
    by false e = let k : None ≡ Some s = sym (ap (λ b. if b then Some r else None) e) ∙ h in absurd (cc)

pub with_sort-takes : (o : Option Sort) (wanted : Sort → List Sort) (given : List Sort) (r s : Sort) → with_sort o (λ e. takes (wanted e) given r) ≡ Some s → r ≡ s
with_sort-takes None wanted given r s h = absurd (cc)
with_sort-takes (Some e) wanted given r s h = takes-result (wanted e) given r s h

pub takes_declared-result : (o : Option Decl) (given : List Sort) (d s : Sort) → takes_declared o given ≡ Some s → unwrap_or (option_map (λ e. e.result) o) d ≡ s
takes_declared-result None given d s h = absurd (cc)
takes_declared-result (Some e) given d s h = takes-result e.args given e.result s h

module _ (shapes : List Shape) (decls : List Decl) (given : List Sort) (s : Sort) where
  -- a changed array, record or class has the sort of the old one
  pub store-result : result_sort shapes decls head.Store given ≡ Some s → first_sort given ≡ s
  store-result h = with_sort-takes (element_sort shapes (first_sort given)) (λ e. first_sort given ∷ sort.Int ∷ e ∷ []) given (first_sort given) s h

  pub put-result : (f : Symbol) → result_sort shapes decls (head.Put f) given ≡ Some s → first_sort given ≡ s
  put-result f h = with_sort-takes (field_sort_of (fields_of shapes (first_sort given)) f.0) (λ e. first_sort given ∷ e ∷ []) given (first_sort given) s h

  pub change-result : class_change shapes (first_sort given) given ≡ Some s → first_sort given ≡ s
  change-result h =
      with_sort-takes (content_sort shapes (first_sort given)) (λ e. first_sort given ∷ pointer_sort (first_sort given) ∷ e ∷ []) given (first_sort given) s h

-- what each answer that is there equals is that answer
pub some_from_all : (o : Option Sort) (r : Sort) → IsSome o → ((s : Sort) → o ≡ Some s → r ≡ s) → o ≡ Some r
some_from_all None r there each = absurd (false≢true there)
some_from_all (Some s) r there each = ap Some (sym (each s refl))
