-- The value parameters of a routine, one after the other.
use Rattle.std.proofs.Common.{◌≡◌, Bool, true, false, not, ◌&&◌, ◌||◌, cond, List, [], ◌∷◌, ◌++◌, Result, Ok, Err, OnOk, Option, Some, None, is_some, refl, sym, ap, ◌∙◌}
use Rattle.std.specs.List.{list_any}
use Rattle.spv_logic.specs.declared.names.names.Symbol.{Symbol}
use Rattle.spv_program.specs.Lists.{same_name, found, first_of}
use Rattle.spv_program.specs.Programs.{Formal}
use Rattle.spv_expression_terms.proofs.sort_table.Levels.{found_append}

abbrev pub is_start : Symbol → Formal → Bool
is_start x f = same_name f.name x && not f.by_place

or_again : (a b c : Bool) → ((a || b) || c) ≡ (a || (b || c))
or_again true b c = refl
or_again false b c = refl

or_nothing : (a : Bool) → (a || false) ≡ a
or_nothing true = refl
or_nothing false = refl

and_true : (a : Bool) → (a && true) ≡ a
and_true true = refl
and_true false = refl

some_first : {X : Type 0} (o p : Option X) → is_some (first_of o p) ≡ (is_some o || is_some p)
some_first None p = refl
some_first (Some x) p = refl

some_test : {X : Type 0} (b : Bool) (v : X) → is_some (cond b (Some v) None) ≡ b
some_test true v = refl
some_test false v = refl

-- one that is put
pub start_put : {X T E : Type 0} (r : Result T E) (old new : List (Symbol × X)) (x : Symbol) (v : X) (by_place : Bool) → by_place ≡ false → OnOk r (new ≡ old ++ (x, v) ∷ [])
    → OnOk r ((y : Symbol) → is_some (found new y) ≡ (is_some (found old y) || (same_name x y && not by_place)))
start_put (Err e) old new x v by_place value is = tt
start_put (Ok t) old new x v by_place value is = λ y.
    ap (λ l. is_some (found l y)) is
    ∙ (ap is_some (found_append old ((x, v) ∷ []) y)
    ∙ (some_first (found old y) (cond (same_name x y) (Some v) None)
    ∙ (ap (λ b. is_some (found old y) || b) (some_test (same_name x y) v ∙ sym (and_true (same_name x y)))
    ∙ ap (λ b. is_some (found old y) || (same_name x y && not b)) (sym value))))

-- those that are there, with those that are left, are all
pub record StartsSoFar {X : Type 0} (table : List (Symbol × X)) (rest all : List Formal) : Type 0 where
  pub each : (x : Symbol) → (is_some (found table x) || list_any (is_start x) rest) ≡ list_any (is_start x) all

pub starts_begin : {X : Type 0} (table : List (Symbol × X)) (all : List Formal) → table ≡ [] → StartsSoFar table all all
starts_begin table all none = record { each = λ x. ap (λ l. is_some (found l x) || list_any (is_start x) all) none }

pub starts_next : {X : Type 0} (now new : List (Symbol × X)) (f : Formal) (rest left all : List Formal) → left ≡ f ∷ rest → StartsSoFar now left all
    → ((x : Symbol) → is_some (found new x) ≡ (is_some (found now x) || (same_name f.name x && not f.by_place))) → StartsSoFar new rest all
starts_next now new f rest left all is h put = record {
  each = λ x.
      ap (λ b. b || list_any (is_start x) rest) (put x)
      ∙ (or_again (is_some (found now x)) (is_start x f) (list_any (is_start x) rest)
      ∙ (ap (λ l. is_some (found now x) || list_any (is_start x) l) (sym is) ∙ h.each x));
}

pub starts_end : {X : Type 0} (table : List (Symbol × X)) (left all : List Formal) → left ≡ [] → StartsSoFar table left all → (x : Symbol) → is_some (found table x) ≡ list_any (is_start x) all
starts_end table left all none h x =
    sym (or_nothing (is_some (found table x)))
    ∙ (ap (λ l. is_some (found table x) || list_any (is_start x) l) (sym none) ∙ h.each x)
