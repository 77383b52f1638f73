-- What a search asks of its condition is there where it was opened, and what it finds is decided.
use Rattle.std.proofs.Common.{◌≡◌, ℕ, ◌<◌, List, [], Bool, length, sym, subst, Result, Ok, Err, IfOk}
use Rattle.spv_logic.specs.declared.conditions.TermId.{TermId}
use Rattle.spv_term.specs.declared.nodes.Condition.{Condition}
use Rattle.spv_term.specs.Arena.{Arena}
use Rattle.spv_proof_rules.specs.Stand.{question}
use Rattle.spv_verdicts.specs.Verdicts.{Limits, HasTooManyTerms, search_terms}
use Rattle.spv_verdicts.specs.declared.answers.verdicts.Round.{Round}
use Rattle.spv_verdicts.specs.declared.answers.verdicts.Wide.TheVariants as wide
use Rattle.spv_verdicts.specs.declared.answers.verdicts.Limit.TheVariants as limit
use Rattle.spv_verdicts.specs.declared.answers.verdicts.Verdict.{Verdict}
use Rattle.spv_verdicts.specs.declared.answers.verdicts.Verdict.TheVariants as verdict
use Rattle.spv_verdicts.specs.declared.answers.verdicts.Decided.{Decided}
use Rattle.spv_verdicts.specs.answers.Views.{IsDecided}
use Rattle.spv_branch_theory.specs.saturation.States.{AreListed}
use Rattle.spv_search.specs.Searching.{IsSetUp}
use Rattle.spv_search.specs.Finding.{IsFound}
use Rattle.spv_trail.specs.declared.search_setup.outcomes.Opened.{Opened}
use Rattle.spv_trail.specs.declared.search_setup.outcomes.Opening.{Opening}
use Rattle.spv_trail.specs.declared.search_setup.outcomes.Opening.TheVariants as opening
use Rattle.spv_trail.specs.search_setup.Openings.{HasTooMany, HasWide, IsOpened, IsOpening}
use Rattle.spv_search.specs.deciding.Finding.{HasOpened, IsFoundFor}
use Rattle.spv_search.proofs.NoRules.{given_up}

module _ (limits : Limits) (o : Opened) (h : HasOpened limits o) where
  pub lists : (ids : List TermId) (flags : List Bool) → ids ≡ o.subterms → flags ≡ o.listed.items → AreListed o.terms o.condition ids flags
  lists ids flags e f =
      subst (λ (xs : List TermId). AreListed o.terms o.condition xs flags) (sym e)
      (subst (λ (bs : List Bool). AreListed o.terms o.condition o.subterms bs) (sym f)
      (record { in_range = h.opened.subterms.subterms_in; subterms = record { trees = h.opened.subterms.subterms; flags_are = h.opened.subterms.listed } }))

  pub sets_up : (ids : List TermId) → ids ≡ o.atoms.items → IsSetUp o.terms o.condition ids o.ground limits o.both
  sets_up ids e = subst (λ (xs : List TermId). IsSetUp o.terms o.condition xs o.ground limits o.both) (sym e) (record { opened = h.opened.opened; asked = h.opened.asked; pivots = h.opened.pivots })

pub decided_of : (limits : Limits) (o : Opened) (v : Verdict) → IsFound o.terms o.condition limits v → (a : Arena) (c : Condition) → IsOpened a c limits.pivots o → IsDecided a c limits (record { terms = o.terms; condition = o.condition; verdict = v })
decided_of limits o v f a c h = record { claim = h.claim; shapes = h.shapes; decls = h.decls; terms_in = f.terms_in; right = f.right }

-- where it was opened for a condition, what it finds is decided of that one
pub ready_decides : {E : Type 0} (a : Arena) (c : Condition) (limits : Limits) (p : Opening) (o : Opened) (r : Result Decided E) → p ≡ opening.Ready o → IsOpening a c limits p → IfOk r (IsFoundFor limits o) → IfOk r (IsDecided a c limits)
ready_decides a c limits p o (Err e) is h f = tt
ready_decides a c limits p o (Ok d) is h f = f a c (subst (λ (x : Opening). IsOpening a c limits x) is h)

-- where there are too many terms, or a form does not fit, no round is made
pub too_many_decides : (a : Arena) (c : Condition) (limits : Limits) (p : Opening) (b : Arena) (d : Condition) (rounds : List Round) (n : ℕ) → n ≡ limits.terms → p ≡ opening.Terms b d → IsOpening a c limits p → rounds ≡ []
    → IsDecided a c limits (record { terms = b; condition = d; verdict = verdict.GaveUp rounds (limit.Terms n) })
too_many_decides a c limits p b d rounds n same is h none =
    let k : HasTooMany a c limits.terms b d = subst (IsOpening a c limits) is h in
    let many : HasTooManyTerms (question b d) limits.terms n = record { limit = same; more = subst (λ (m : ℕ). m < length (search_terms (question b d))) (sym same) k.many.more } in
    let f : IsFound b d limits (verdict.GaveUp rounds (limit.Terms n)) = given_up b d limits (limit.Terms n) tt many rounds none in
    record { claim = k.copy.claim; shapes = k.copy.shapes; decls = k.copy.decls; terms_in = f.terms_in; right = f.right }

pub too_wide_decides : (a : Arena) (c : Condition) (limits : Limits) (p : Opening) (b : Arena) (d : Condition) (t : TermId) (rounds : List Round) → p ≡ opening.Wide b d t → IsOpening a c limits p → rounds ≡ []
    → IsDecided a c limits (record { terms = b; condition = d; verdict = verdict.GaveUp rounds (limit.Number (wide.Form t)) })
too_wide_decides a c limits p b d t rounds is h none =
    let k : HasWide a c b d t = subst (IsOpening a c limits) is h in
    let f : IsFound b d limits (verdict.GaveUp rounds (limit.Number (wide.Form t))) = given_up b d limits (limit.Number (wide.Form t)) k.within k.wide rounds none in
    record { claim = k.copy.claim; shapes = k.copy.shapes; decls = k.copy.decls; terms_in = f.terms_in; right = f.right }
