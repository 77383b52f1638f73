-- A derivation goes on backing what a graph was told.
use Rattle.std.proofs.Common.{◌≡◌, ℕ, zero, suc, true, List, [], ◌∷◌, ◌++◌, take, length, Option, Some, None, slice_get, refl, sym, ap, ◌∙◌, subst, inl, inr, arith}
use Rattle.std.proofs.lemmas.Bool.{cases_lt}
use Rattle.std.proofs.lemmas.List.{length_push}
use Rattle.std.proofs.lemmas.Option.{slice_get_within, same_Some}
use Rattle.spv_logic.specs.declared.conditions.TermId.{TermId}
use Rattle.spv_term.specs.declared.nodes.Node.{Node}
use Rattle.spv_term.specs.Arena.{Arena, Extends}
use Rattle.spv_term.proofs.ArenaLemmas.{slice_get-Extends}
use Rattle.spv_term.proofs.ListLemmas.{slice_get-append_left, slice_get_push}
use Rattle.spv_congruence.specs.declared.facts.Fact.{Fact}
use Rattle.spv_congruence.specs.Graph.{Graph}
use Rattle.spv_congruence.specs.Told.{Joins, Undone, empty}
use Rattle.spv_derivations.specs.declared.derivation.entries.Part.TheVariants as part
use Rattle.spv_derivations.specs.declared.derivation.entries.Entry.{Entry}
use Rattle.spv_derivations.specs.declared.derivation.entries.Entry.TheVariants.{Told, Derived}
use Rattle.spv_derivations.specs.derivation.Sides.{Pair, node_sides, entry_at, entry_sides, sides_of_entry, sides_at}
use Rattle.spv_explanations.specs.equalities.Reasons.{IsBacked}
use Rattle.spv_explanations.specs.equalities.Laws.{StaysBacked}
use Rattle.spv_explanations.proofs.equalities.Ways.{backed-more}

backed-none : (a : Arena) (es : List Entry) → IsBacked a empty es
backed-none a es = record { each = λ place x at e. absurd (cc) }

backed-as : (a : Arena) (es : List Entry) (old new : Graph) → new.told ≡ old.told → IsBacked a old es → IsBacked a new es
backed-as a es old new same h = record { each = λ place x at e. h.each place x (ap (λ xs. slice_get xs place) (sym same) ∙ at) e }

backed-told : (a : Arena) (es : List Entry) (old new : Graph) (x : Fact) → Joins old x new → (x.equal ≡ true → sides_at a es x.why ≡ Some (x.left, x.right)) → IsBacked a old es → IsBacked a new es
backed-told a es old new x j sides h = record { each = each }
  where
    each : (place : ℕ) (y : Fact) → slice_get new.told place ≡ Some y → y.equal ≡ true → sides_at a es y.why ≡ Some (y.left, y.right)
    each place y at e =
        let here : slice_get (old.told ++ x ∷ []) place ≡ Some y = ap (λ xs. slice_get xs place) (sym j.told) ∙ at in
        elim (cases_lt place (length old.told)) [
          | inl below ↦ h.each place y (sym (slice_get-append_left old.told (x ∷ []) place below) ∙ here) e
          | inr above ↦
              let within = slice_get_within (old.told ++ x ∷ []) place y here in
              let last : place ≡ length old.told = omega (arith, length_push old.told x) in
              let same : x ≡ y = same_Some x y (sym (slice_get_push old.told x) ∙ ap (slice_get (old.told ++ x ∷ [])) (sym last) ∙ here) in
              let equal : x.equal ≡ true = ap (λ (z : Fact). z.equal) same ∙ e in
              subst (λ (z : Fact). sides_at a es z.why ≡ Some (z.left, z.right)) same (sides equal)
        ]

backed-taken : (a : Arena) (es : List Entry) (old new : Graph) (n : ℕ) → Undone old n new → IsBacked a old es → IsBacked a new es
backed-taken a es old new n u h = record { each = each }
  where
    each : (place : ℕ) (y : Fact) → slice_get new.told place ≡ Some y → y.equal ≡ true → sides_at a es y.why ≡ Some (y.left, y.right)
    each place y at e =
        let here : slice_get (take n old.told) place ≡ Some y = ap (λ xs. slice_get xs place) (sym u.told) ∙ at in
        h.each place y (in_take old.told place n y here) e
      where
        in_take : (xs : List Fact) (i m : ℕ) (y : Fact) → slice_get (take m xs) i ≡ Some y → slice_get xs i ≡ Some y
        in_take [] i zero y h = h
        in_take [] i (suc m) y h = h
        in_take (x ∷ xs) i zero y h = absurd (cc)
        in_take (x ∷ xs) zero (suc m) y h = h
        in_take (x ∷ xs) (suc i) (suc m) y h = in_take xs i m y h

module _ {a b : Arena} (more : Extends a b) where
  node-grows : (t : TermId) (p : Pair) → node_sides (slice_get a.nodes t.0) ≡ Some p → node_sides (slice_get b.nodes t.0) ≡ Some p
  node-grows t p h = by_option (slice_get a.nodes t.0) refl h
    where
      by_option : (o : Option Node) → slice_get a.nodes t.0 ≡ o → node_sides o ≡ Some p → node_sides (slice_get b.nodes t.0) ≡ Some p
      by_option None at e = absurd (cc)
      by_option (Some n) at e = ap node_sides (slice_get-Extends more t (slice_get_within a.nodes t.0 n at) ∙ at) ∙ e

  entry-grows : (x : Entry) (p : Pair) → entry_sides a x ≡ Some p → entry_sides b x ≡ Some p
  entry-grows (Told t part.True why) p h = node-grows t p h
  entry-grows (Told t part.False why) p h = absurd (cc)
  entry-grows (Told t part.Below why) p h = absurd (cc)
  entry-grows (Told t part.Above why) p h = absurd (cc)
  entry-grows (Derived s) p h = h

  sides-grow : (es : List Entry) (n : ℕ) (p : Pair) → sides_at a es n ≡ Some p → sides_at b es n ≡ Some p
  sides-grow es n p h = by_option (entry_at es n) h
    where
      by_option : (o : Option Entry) → sides_of_entry a o ≡ Some p → sides_of_entry b o ≡ Some p
      by_option None e = absurd (cc)
      by_option (Some x) e = entry-grows x p e

  backed-grows : (g : Graph) (es : List Entry) → IsBacked a g es → IsBacked b g es
  backed-grows g es h = record { each = λ place x at e. sides-grow es x.why (x.left, x.right) (h.each place x at e) }

pub stays-backed : StaysBacked
stays-backed = record {
  nothing = backed-none;
  added = λ a es t old new adds h. backed-as a es old new adds.told h;
  told = backed-told;
  taken = backed-taken;
  goes_on = λ a g old new on h. backed-more a g old new on h;
  grows = λ a b g es more h. backed-grows more g es h;
}
