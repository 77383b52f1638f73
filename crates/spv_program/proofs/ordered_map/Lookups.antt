-- Entries under names as entries of a map of numbers.
use Rattle.std.proofs.Common.{◌≡◌, ℕ, zero, suc, Bool, true, false, cond, List, [], ◌∷◌, ◌++◌, map, length, take, slice_get, Option, ◌<◌, arith, subst, Some, None, refl, sym, ap, ◌∙◌, nat_eq}
use Rattle.std.proofs.lemmas.Bool.{false≢true, eqb-true, eq-eqb}
use Rattle.std.proofs.lemmas.Option.{none-some}
use Rattle.std.proofs.lemmas.Bool.Decides.{nat_tests}
use Rattle.std.proofs.lemmas.List.{map-append, length-map}
use Rattle.std.specs.Map.{lookup, keys_of}
use Rattle.std.specs.List.{AllByRecursion, IsDistinct}
use Rattle.std.proofs.lemmas.Map.Keys.{IsDistinct-head, IsDistinct-tail}
use Rattle.indexmap.specs.IndexMap.{IndexMap, insert_entry, set_value_at}
use Rattle.indexmap.proofs.CallerLemmas.{insert_entry-new}
use Rattle.spv_logic.specs.declared.names.names.Symbol.{Symbol}
use Rattle.spv_program.specs.Lists.{found}
use Rattle.spv_program.specs.ordered_map.Entries.{named, with_value}

pub nat_eq_turned : (m n : ℕ) → nat_eq m n ≡ nat_eq n m
nat_eq_turned m n = by_case (nat_eq m n) (nat_eq n m) refl refl
  where
    by_case : (b c : Bool) → nat_eq m n ≡ b → nat_eq n m ≡ c → b ≡ c
    by_case true true e f = refl
    by_case false false e f = refl
    by_case true false e f = absurd (false≢true (sym f ∙ eq-eqb n m (sym (eqb-true m n e))))
    by_case false true e f = absurd (false≢true (sym e ∙ eq-eqb m n (sym (eqb-true n m f))))

pub found_is : {X : Type 0} (es : List (ℕ × X)) (name : Symbol) → lookup (nat_eq name.0) es ≡ found (map named es) name
found_is [] name = refl
found_is (e ∷ es) name = λ i. cond (nat_eq_turned name.0 e.0 i) (Some e.1) (found_is es name i)

pub put_last : {X S : Type 0} (m : IndexMap ℕ X S) (name : Symbol) (x : X)
    → found (map named m.entries) name ≡ None → map named (insert_entry nat_eq m.entries name.0 x) ≡ map named m.entries ++ (name, x) ∷ []
put_last m name x none =
    ap (map named) (insert_entry-new nat_eq m name.0 x (found_is m.entries name ∙ none)) ∙ map-append named m.entries ((name.0, x) ∷ [])

pub last_taken : {X : Type 0} (old new : List (ℕ × X)) (e : ℕ × X) → old ≡ new ++ e ∷ [] → map named old ≡ map named new ++ named e ∷ []
last_taken old new e h = ap (map named) h ∙ map-append named new (e ∷ [])

pub none_left : {X : Type 0} (old : List (ℕ × X)) → (0 < length old → false ≡ true) → map named old ≡ []
none_left [] h = refl
none_left (e ∷ old) h = absurd (false≢true (h (grind (arith, nat_tests))))

abbrev key_or : {X : Type 0} → ℕ → Option (ℕ × X) → ℕ
key_or other None = other
key_or other (Some e) = e.0

-- no earlier entry of a map has the key of an entry
apart_at : {X : Type 0} (key : ℕ) (es : List (ℕ × X)) (n : ℕ) (e : ℕ × X) → AllByRecursion (λ y. nat_eq key y ≡ false) (keys_of es) → slice_get es n ≡ Some e → nat_eq key e.0 ≡ false
apart_at key [] n e h at = absurd (none-some _ at)
apart_at {X} key (d ∷ es) zero e h at = subst (λ (o : Option (ℕ × X)). nat_eq key (key_or key o) ≡ false) at h.0
apart_at key (d ∷ es) (suc n) e h at = apart_at key es n e h.1 at

pub none_earlier : {X : Type 0} (es : List (ℕ × X)) (n : ℕ) (e : ℕ × X) → IsDistinct nat_eq (keys_of es) → slice_get es n ≡ Some e
    → found (take n (map named es)) (record { 0 = e.0 }) ≡ None
none_earlier [] n e h at = absurd (none-some _ at)
none_earlier (d ∷ es) zero e h at = refl
none_earlier (d ∷ es) (suc n) e h at =
    ap (λ b. cond b (Some d.1) (found (take n (map named es)) (record { 0 = e.0 }))) (apart_at d.0 es n e (IsDistinct-head nat_eq d.0 (keys_of es) h) at)
    ∙ none_earlier es n e (IsDistinct-tail nat_eq d.0 (keys_of es) h) at

pub value_put : {X : Type 0} (es : List (ℕ × X)) (place : ℕ) (x : X) → map named (set_value_at es place x) ≡ with_value (map named es) place x
value_put [] place x = refl
value_put (e ∷ es) zero x = refl
value_put {X = X} (e ∷ es) (suc place) x = ap (λ (l : List (Symbol × X)). named e ∷ l) (value_put es place x)

pub length-named : {X : Type 0} (es : List (ℕ × X)) → length (map named es) ≡ length es
length-named es = length-map es named
