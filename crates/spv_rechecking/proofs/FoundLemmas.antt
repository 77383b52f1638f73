-- What a recheck finds, over plain variables.
use Rattle.std.proofs.Common.{◌≡◌, ◌≤◌, Bool, true, false, ◌&&◌, Option, Some, List, [], length, refl, sym, subst}
use Rattle.std.specs.List.{list_all}
use Rattle.spv_logic.specs.Terms.{Term}
use Rattle.spv_logic.specs.Conditions.{Sequent}
use Rattle.spv_term.specs.declared.nodes.Condition.{Condition}
use Rattle.spv_term.specs.Arena.{Arena, sequent, trees_of}
use Rattle.spv_verdicts.specs.Verdicts as verdicts
use Rattle.spv_verdicts.specs.declared.answers.verdicts.Limit.TheVariants as limit
use Rattle.spv_verdicts.specs.declared.answers.verdicts.Verdict.{Verdict}
use Rattle.spv_verdicts.specs.declared.answers.verdicts.Verdict.TheVariants as verdict
use Rattle.spv_verdicts.specs.answers.Views.{verdict_in}
use Rattle.spv_listing_values.specs.declared.data.Header.{Header}
use Rattle.spv_listing_values.specs.declared.data.Claim.{Claim}
use Rattle.spv_listing_values.specs.Written.{Written}
use Rattle.spv_listing_values.specs.Mapped.{claim_terms}
use Rattle.spv_rechecking.specs.written_terms.Standing.{Vocabulary, stands}
use Rattle.spv_rechecking.specs.Rechecked.{Recheck, vocabulary, is_about, is_same, is_node, known, nodes_of, Reading, Other, TooMany, reading, IsChecked, IsVerdictOf}
use Rattle.spv_rechecking.specs.Asked.{IsChosen, IsJudged, IsFound}
use Rattle.spv_rechecking.proofs.ReadLemmas.{not_fitting, is_read}

module _ (r : Recheck) (header : Header) (a last : Arena) (c : Condition) (entry : Option (Claim Written)) where
  abbrev read : Reading
  read = reading (vocabulary r a.shapes a.decls (sequent a c)) r.most header (sequent a c) entry

  pub found_other : read ≡ Other → IsFound r header a c entry last verdict.NotAccepted
  found_other h = record { terms_in = tt; right = subst (λ (x : Reading). IsVerdictOf r (sequent a c) x last verdicts.NotAccepted) (sym h) refl }

  pub found_many : read ≡ TooMany → (v : Verdict) → v ≡ verdict.GaveUp [] (limit.Terms r.most) → IsFound r header a c entry last v
  found_many h v is = subst (IsFound r header a c entry last) (sym is) (record {
    terms_in = (tt, tt);
    right = subst (λ (x : Reading). IsVerdictOf r (sequent a c) x last (verdicts.GaveUp [] (verdicts.TooManyTerms r.most))) (sym h) refl;
  })

module _ (r : Recheck) (header : Header) (a b last : Arena) (c : Condition) (same : sequent b c ≡ sequent a c) (e : Claim Written) (found : Verdict) where
  abbrev v : Vocabulary
  v = vocabulary r a.shapes a.decls (sequent a c)

  abbrev fits : Bool
  fits = is_same v (sequent a c) e && list_all (is_node v.words.names) (nodes_of v e)

  pub found_judged : is_about header e ≡ true → list_all (stands v) (claim_terms e) ≡ true → length (known v (sequent a c) e) ≤ r.most → trees_of b.nodes ≡ known v (sequent a c) e
      → (w : Vocabulary) → w ≡ v → IsJudged r w b c e last found → IsFound r header a c (Some e) last found
  found_judged about all few terms_are w w_is j = record { terms_in = j.terms_in; right = by fits refl chosen }
    where
      chosen : IsChosen fits r (sequent a c) (nodes_of v e) b last (verdict_in last found)
      chosen =
          subst (λ (s : Sequent). IsChosen (is_same v s e && list_all (is_node v.words.names) (nodes_of v e)) r s (nodes_of v e) b last (verdict_in last found)) same
          (subst (λ (u : Vocabulary). IsChosen (is_same u (sequent b c) e && list_all (is_node u.words.names) (nodes_of u e)) r (sequent b c) (nodes_of u e) b last (verdict_in last found)) w_is j.chosen)

      by : (f : Bool) → fits ≡ f → IsChosen f r (sequent a c) (nodes_of v e) b last (verdict_in last found)
          → IsVerdictOf r (sequent a c) (reading v r.most header (sequent a c) (Some e)) last (verdict_in last found)
      by false h k =
          subst (λ (x : Reading). IsVerdictOf r (sequent a c) x last (verdict_in last found)) (sym (not_fitting v r.most header (sequent a c) e about all few h)) k
      by true h k =
          subst (λ (x : Reading). IsVerdictOf r (sequent a c) x last (verdict_in last found)) (sym (is_read v r.most header (sequent a c) e about all few h))
          (subst (λ (ts : List Term). IsChecked r (sequent a c) ts (nodes_of v e) last (verdict_in last found)) terms_are k)
