-- Names that are put into a table one after the other.
use Rattle.std.proofs.Common.{◌≡◌, Bool, true, false, cond, [], ◌∷◌, ◌++◌, Result, Ok, Err, OnOk, Option, Some, None, is_some, refl, sym, ap, subst, ◌∙◌}
use Rattle.std.proofs.lemmas.Bool.{false≢true}
use Rattle.spv_logic.specs.declared.names.names.Symbol.{Symbol}
use Rattle.spv_logic.specs.declared.types.Sort.{Sort}
use Rattle.spv_program.specs.Lists.{same_name, found, first_of}
use Rattle.spv_program.specs.Scopes.{Scope}
use Rattle.spv_meaning.proofs.Maps.{same_names}
use Rattle.spv_expression_terms.proofs.sort_table.Levels.{found_append}
use Rattle.spv_flow_parts.specs.body_tables.Tables.{Puts, sorted_name}

pub first_none : {X : Type 0} (o : Option X) → first_of o None ≡ o
first_none None = refl
first_none (Some x) = refl

pub first_again : {X : Type 0} (o p q : Option X) → first_of (first_of o p) q ≡ first_of o (first_of p q)
first_again None p q = refl
first_again (Some x) p q = refl

-- ---- one after the other

pub nothing_put : (table : Scope) → Puts table table []
nothing_put table = record { each = λ x. sym (first_none (found table x)) }

pub more_put : (a b c more last : Scope) → Puts a b more → Puts b c last → Puts a c (more ++ last)
more_put a b c more last h k = record {
  each = λ x.
      k.each x
      ∙ ap (λ o. first_of o (found last x)) (h.each x)
      ∙ first_again (found a x) (found more x) (found last x)
      ∙ ap (first_of (found a x)) (sym (found_append more last x));
}

-- ---- one name

pub put_new : (old new : Scope) (x : Symbol) (s : Sort) → new ≡ old ++ sorted_name x s ∷ [] → Puts old new (sorted_name x s ∷ [])
put_new old new x s is = record { each = λ y. ap (λ (l : Scope). found l y) is ∙ found_append old (sorted_name x s ∷ []) y }

pub put_inserted : {T E : Type 0} (r : Result T E) (old new : Scope) (x : Symbol) (s : Sort) → OnOk r (new ≡ old ++ sorted_name x s ∷ []) → OnOk r (Puts old new (sorted_name x s ∷ []))
put_inserted (Ok t) old new x s is = put_new old new x s is
put_inserted (Err e) old new x s is = tt

pub on_ok : {T E P Q : Type 0} (r : Result T E) → OnOk r P → (P → Q) → OnOk r Q
on_ok (Ok t) p go = go p
on_ok (Err e) p go = tt

same_is : (x y : Symbol) (b : Bool) → same_name x y ≡ b → (b ≡ true → x ≡ y) → (old : Scope) (s : Sort) → is_some (found old x) ≡ true → found old y ≡ first_of (found old y) (cond b (Some s) None)
same_is x y false e same old s there = sym (first_none (found old y))
same_is x y true e same old s there = by (found old y) (subst (λ (z : Symbol). is_some (found old z) ≡ true) (same refl) there)
  where
    by : (o : Option Sort) → is_some o ≡ true → o ≡ first_of o (Some s)
    by None h = absurd (false≢true h)
    by (Some t) h = refl

pub put_old : (old new : Scope) (x : Symbol) (s : Sort) → new ≡ old → is_some (found old x) ≡ true → Puts old new (sorted_name x s ∷ [])
put_old old new x s is there = subst (λ (l : Scope). Puts old l (sorted_name x s ∷ [])) (sym is) (record { each = λ y. same_is x y (same_name x y) refl (λ h. same_names x y h) old s there })
