-- Matches that are found one after the other.
use Rattle.std.proofs.Common.{◌≡◌, ℕ, ◌≤◌, List, [], ◌∷◌, length, drop, Ok, refl, sym, ap, ◌∙◌, subst, inl, inr, ◌⊎◌, drop_of_length-le}
use Rattle.spv_logic.specs.declared.conditions.TermId.{TermId}
use Rattle.spv_logic.specs.Terms.{Term, no_terms}
use Rattle.spv_term.specs.Arena.{Arena, tree, trees}
use Rattle.spv_rules.specs.declared.matching.faults.MatchFault.{MatchFault}
use Rattle.spv_rules.specs.declared.matching.bindings.Bound.{Bound}
use Rattle.spv_rules.specs.matching.Matches.{Found, Bindings, Setting, after, behind, each, matched, matched_all}
use Rattle.spv_rules.specs.matching.Views.{bindings_in, all_in, AllBound, GoesOn, IsFound, IsMatchFault}
use Rattle.spv_rules.proofs.matching.Sequences.{behind-start, behind-end, one_more, each-map, stops_too, err_after, err_behind, err_in_front, behind_err}

-- ---- over a list of items

-- with what is left of the items, what was found so far comes to the whole
pub record Goes {X : Type 0} (a : Arena) (f : X → Found) (whole : Found) (found : List (List Bound)) (left : List X) : Type 0 where
  pub same : behind (Ok (all_in a found)) (each f left) ≡ whole
  pub in_range : AllBound (length a.nodes) found

module _ {X : Type 0} (a : Arena) (f : X → Found) where
  pub goes_from : (old : List (List Bound)) → AllBound (length a.nodes) old → (xs : List X) → Goes a f (behind (Ok (all_in a old)) (each f xs)) old xs
  goes_from old h xs = record { same = refl; in_range = h }

  module _ (whole : Found) (found : List (List Bound)) (left rest : List X) (x : X) (is : left ≡ x ∷ rest) (g : Goes a f whole found left) where
    here : Goes a f whole found (x ∷ rest)
    here = subst (Goes a f whole found) is g

    pub goes_next : (new : List (List Bound)) → GoesOn a (f x) found new → Goes a f whole new rest
    goes_next new h = record { same = sym (one_more f x rest (all_in a found) (all_in a new) h.same) ∙ here.same; in_range = h.in_range }

    pub goes_stops : (e : MatchFault) → IsMatchFault a (f x) e → IsMatchFault a whole e
    goes_stops = stops_too a (f x) whole (λ w h. sym here.same ∙ err_behind (all_in a found) (each f (x ∷ rest)) w (err_in_front (f x) (each f rest) w h))

  pub goes_end : (whole : Found) (found : List (List Bound)) (left : List X) → left ≡ [] → Goes a f whole found left → IsFound a whole found
  goes_end whole found left is g =
      let h = subst (Goes a f whole found) is g in
      record { same = sym h.same ∙ behind-end (all_in a found); in_range = h.in_range }

  -- what was found before comes first
  pub goes_on_end : (old found : List (List Bound)) (xs left : List X) → left ≡ [] → Goes a f (behind (Ok (all_in a old)) (each f xs)) found left → GoesOn a (each f xs) old found
  goes_on_end old found xs left is g = let h = goes_end (behind (Ok (all_in a old)) (each f xs)) found left is g in record { same = h.same; in_range = h.in_range }

  pub goes_on_stops : (old : List (List Bound)) (xs : List X) (e : MatchFault) → IsMatchFault a (behind (Ok (all_in a old)) (each f xs)) e → IsMatchFault a (each f xs) e
  goes_on_stops old xs = stops_too a (behind (Ok (all_in a old)) (each f xs)) (each f xs) (behind_err (all_in a old) (each f xs))

-- ---- over the bindings so far

pub from_all : (a : Arena) (f : Bindings → Found) (before found : List (List Bound)) → found ≡ [] → Goes a (λ b. f (bindings_in a b)) (each f (all_in a before)) found before
from_all a f before [] e = record { same = behind-start (each (λ b. f (bindings_in a b)) before) ∙ sym (each-map f (bindings_in a) before); in_range = tt }
from_all a f before (b ∷ found) e = cc

-- ---- over arguments, one beside the other

pub record Beside (p a : Arena) (m : Setting) (whole : Found) (found : List (List Bound)) (ps ts : List TermId) : Type 0 where
  pub same : matched_all m (trees p ps) (trees a ts) (all_in a found) ≡ whole
  pub in_range : AllBound (length a.nodes) found

module _ (p a : Arena) (m : Setting) (whole : Found) (found : List (List Bound)) where
  module _ (ps ts ps_left ts_left : List TermId) (q t : TermId) (is : ps_left ≡ q ∷ ps) (are : ts_left ≡ t ∷ ts) (g : Beside p a m whole found ps_left ts_left) where
    abbrev first : Found
    first = each (matched m (tree p q) (tree a t)) (all_in a found)

    now_here : after first (matched_all m (trees p ps) (trees a ts)) ≡ whole
    now_here = (λ i. matched_all m (trees p (sym is i)) (trees a (sym are i)) (all_in a found)) ∙ g.same

    pub beside_next : (new : List (List Bound)) → IsFound a (each (matched m (tree p q) (tree a t)) (all_in a found)) new → Beside p a m whole new ps ts
    beside_next new h = record { same = ap (λ r. after r (matched_all m (trees p ps) (trees a ts))) (sym h.same) ∙ now_here; in_range = h.in_range }

    pub beside_stops : (e : MatchFault) → IsMatchFault a (each (matched m (tree p q) (tree a t)) (all_in a found)) e → IsMatchFault a whole e
    beside_stops = stops_too a first whole (λ w h. sym now_here ∙ err_after first _ w h)

  -- where no argument is left on one side
  pub beside_end : (ps ts : List TermId) (i : ℕ) → ((length ps ≤ i) ⊎ (length ts ≤ i)) → Beside p a m whole found (drop i ps) (drop i ts) → IsFound a whole found
  beside_end ps ts i h g = record { same = sym g.same ∙ ended h; in_range = g.in_range }
    where
      none : (us : List Term) → matched_all m no_terms (trees a []) (all_in a found) ≡ Ok (all_in a found)
      none us = refl

      left_out : (ps ts : List TermId) → ps ≡ [] → matched_all m (trees p ps) (trees a ts) (all_in a found) ≡ Ok (all_in a found)
      left_out [] [] e = refl
      left_out [] (t ∷ ts) e = refl
      left_out (q ∷ ps) ts e = cc

      right_out : (ps ts : List TermId) → ts ≡ [] → matched_all m (trees p ps) (trees a ts) (all_in a found) ≡ Ok (all_in a found)
      right_out [] [] e = refl
      right_out (q ∷ ps) [] e = refl
      right_out ps (t ∷ ts) e = cc

      ended : ((length ps ≤ i) ⊎ (length ts ≤ i)) → matched_all m (trees p (drop i ps)) (trees a (drop i ts)) (all_in a found) ≡ Ok (all_in a found)
      ended (inl k) = left_out (drop i ps) (drop i ts) (drop_of_length-le ps k)
      ended (inr k) = right_out (drop i ps) (drop i ts) (drop_of_length-le ts k)
