-- In the order of subterms the arguments of a term that is gone through stand before it.
use Rattle.std.proofs.Common.{◌≡◌, ℕ, inl, inr, Bool, true, false, cond, List, [], ◌∷◌, ◌++◌, length, take, slice_get, refl, sym, ap, ◌∙◌, subst, Some, arith}
use Rattle.std.proofs.lemmas.Bool.{false≢true, cases_lt}
use Rattle.std.proofs.lemmas.List.{take-append-le, take_at, length_push}
use Rattle.std.proofs.lemmas.Option.{slice_get_within, same_Some}
use Rattle.spv_logic.specs.declared.operators.Head.{Head}
use Rattle.spv_logic.specs.Terms.{Term, Terms, term, no_terms, terms}
use Rattle.spv_term.proofs.ListLemmas.{slice_get_push, slice_get-append_left}
use Rattle.spv_atoms.specs.Atoms.{with_term}
use Rattle.spv_atoms.specs.Order.{order, order_all}
use Rattle.spv_atoms.proofs.Members.{has, AllIn, has-with_term, with_term-has}

abbrev pub listed : Terms → List Term
listed no_terms = []
listed (terms t ts) = t ∷ listed ts

abbrev pub arguments : Term → List Term
arguments (term h ts) = listed ts

module _ (enters : Term → Bool) where
  pub record Layered (done : List Term) : Type 0 where
    pub before : (i : ℕ) (u : Term) → slice_get done i ≡ Some u → enters u ≡ true → AllIn (take i done) (arguments u)

  layered_nothing : Layered []
  layered_nothing = record { before = λ i u e f. absurd (cc) }

  -- a term at the end whose arguments are there
  layered_push : (done : List Term) (t : Term) → Layered done → (enters t ≡ true → AllIn done (arguments t)) → Layered (done ++ t ∷ [])
  layered_push done t h k = record { before = each }
    where
      last : (i : ℕ) (u : Term) → length done ≡ i → slice_get (done ++ t ∷ []) i ≡ Some u → enters u ≡ true → AllIn (take i (done ++ t ∷ [])) (arguments u)
      last i u e at f =
          let same : t ≡ u = same_Some t u (sym (slice_get_push done t) ∙ ap (slice_get (done ++ t ∷ [])) e ∙ at) in
          let before : done ≡ take i (done ++ t ∷ []) = sym (take_at done (t ∷ []) i e) in
          subst (λ (ms : List Term). AllIn ms (arguments u)) before (subst (λ (x : Term). AllIn done (arguments x)) same (k (ap enters same ∙ f)))

      each : (i : ℕ) (u : Term) → slice_get (done ++ t ∷ []) i ≡ Some u → enters u ≡ true → AllIn (take i (done ++ t ∷ [])) (arguments u)
      each i u at f = elim (cases_lt i (length done)) [
        | inl below ↦
            let old = h.before i u (sym (slice_get-append_left done (t ∷ []) i below) ∙ at) f in
            subst (λ (ms : List Term). AllIn ms (arguments u)) (sym (take-append-le i done (t ∷ []) (omega arith))) old
        | inr above ↦ last i u (omega (arith, slice_get_within (done ++ t ∷ []) i u at, length_push done t)) at f
      ]

  layered_with : (done : List Term) (t : Term) → Layered done → (enters t ≡ true → AllIn done (arguments t)) → Layered (with_term done t)
  layered_with done t h k = by_case (has done t)
    where
      by_case : (b : Bool) → Layered (cond b done (done ++ t ∷ []))
      by_case true = h
      by_case false = layered_push done t h k

  -- going to a term puts it among the terms that are done, and all arguments before
  record Reaches (done after : List Term) (ts : List Term) : Type 0 where
    layered : Layered after
    all : AllIn after ts
    more : (u : Term) → has done u ≡ true → has after u ≡ true

  by_tests : (h : Head) (ts : Terms) (done middle : List Term) (a b : Bool) → has done (term h ts) ≡ a → enters (term h ts) ≡ b → Layered done
      → Reaches done middle (listed ts) → Reaches done (cond a done (with_term (cond b middle done) (term h ts))) (term h ts ∷ [])
  by_tests h ts done middle true b e f c all = record { layered = c; all = (e, tt); more = λ u g. g }
  by_tests h ts done middle false true e f c all = record {
    layered = layered_with middle (term h ts) all.layered (λ g. all.all);
    all = (with_term-has middle (term h ts), tt);
    more = λ u g. has-with_term middle (term h ts) u (all.more u g);
  }
  by_tests h ts done middle false false e f c all = record {
    layered = layered_with done (term h ts) c (λ g. absurd (false≢true (sym f ∙ g)));
    all = (with_term-has done (term h ts), tt);
    more = λ u g. has-with_term done (term h ts) u g;
  }

  mutual
    reaches : (t : Term) (done : List Term) → Layered done → Reaches done (order enters t done) (t ∷ [])
    reaches (term h ts) done c = by_tests h ts done (order_all enters ts done) (has done (term h ts)) (enters (term h ts)) refl refl c (reaches_all ts done c)

    reaches_all : (ts : Terms) (done : List Term) → Layered done → Reaches done (order_all enters ts done) (listed ts)
    reaches_all no_terms done c = record { layered = c; all = tt; more = λ u h. h }
    reaches_all (terms t ts) done c =
        let f = reaches t done c in
        let g = reaches_all ts (order enters t done) f.layered in
        record {
          layered = g.layered;
          all = (g.more t f.all.0, g.all);
          more = λ u h. g.more u (f.more u h);
        }

  pub order_layered : (t : Term) → Layered (order enters t [])
  order_layered t = (reaches t [] layered_nothing).layered

  pub order_has : (t : Term) → has (order enters t []) t ≡ true
  order_has t = (reaches t [] layered_nothing).all.0

  pub order_all_layered : (ts : Terms) → Layered (order_all enters ts [])
  order_all_layered ts = (reaches_all ts [] layered_nothing).layered

  pub order_all_has : (ts : Terms) → AllIn (order_all enters ts []) (listed ts)
  order_all_has ts = (reaches_all ts [] layered_nothing).all
