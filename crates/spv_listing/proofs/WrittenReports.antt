-- Each report with verdicts has a listing: no verdict is one on a proof that was handed in, and a limit of terms is the one that there is.
use Rattle.std.proofs.Common.{◌≡◌, true, List, [], ◌∷◌}
use Rattle.std.proofs.lemmas.Bool.{false≢true}
use Rattle.spv_term.specs.declared.nodes.Condition.{Condition}
use Rattle.spv_term.specs.Arena.{Arena}
use Rattle.spv_assign.specs.Conditions.{conditions_of}
use Rattle.spv_proof_rules.specs.Rules.{Rule}
use Rattle.spv_proof_rules.specs.Effects.{Question}
use Rattle.spv_proof_rules.specs.Stand.{question, question_under}
use Rattle.spv_verdicts.specs.Verdicts.{Limits, Instance, Limit, Splits, TooManyInstances, WideForm, WidePivot, WideSum, WideEvaluation, Pivots, TooManyTerms, Verdict, Proved, Unproved, GaveUp, NotAccepted}
use Rattle.spv_verdicts.specs.Schemas.{IsReachedWith, IsRightWith}
use Rattle.spv_verdicts.specs.declared.answers.verdicts.Decided.{Decided}
use Rattle.spv_verdicts.specs.answers.Views.{verdict_in}
use Rattle.spv_rounds.specs.Rounds.{members_of}
use Rattle.spv_rounds.specs.Right.{IsReachedUnder, IsRightUnder, IsDecidedUnder}
use Rattle.spv_reports.specs.Reports.{Findings, AreVerdicts, AreVerdictsIn}
use Rattle.spv_reports.specs.declared.mode.Mode.{Mode}
use Rattle.spv_reports.specs.declared.mode.Mode.TheVariants.{Verify, Simplify, Check, Conditions, Drill}
use Rattle.spv_rules.specs.RuleSets.{rules_in}
use Rattle.spv_listing.specs.Page.{page_in}
use Rattle.spv_listing.specs.Listings.{IsListedLimit, IsListedVerdict, AreListed, PagesAreListings, tells_verdicts, listing_in}
use Rattle.spv_listing_values.specs.Page as listings
use Rattle.spv_listing.proofs.WrittenPages.{page_written}

limit_listed : (a : Arena) (q : Question) (limits : Limits) (l : Limit) → IsReachedWith a q limits l → IsListedLimit l
limit_listed a q limits (Splits t) is = tt
limit_listed a q limits TooManyInstances is = tt
limit_listed a q limits (WideForm t) is = tt
limit_listed a q limits (WidePivot start steps o) is = tt
limit_listed a q limits (WideSum nodes x) is = tt
limit_listed a q limits (WideEvaluation table t x) is = tt
limit_listed a q limits (Pivots start steps) is = tt
limit_listed a q limits (TooManyTerms n) is = is.limit

verdict_listed : (a : Arena) (q : Question) (limits : Limits) (v : Verdict) → IsRightWith a q limits v → IsListedVerdict v
verdict_listed a q limits (Proved nodes) is = tt
verdict_listed a q limits (Unproved branch table instances) is = tt
verdict_listed a q limits (GaveUp rounds l) is = limit_listed a q limits l is.reached
verdict_listed a q limits NotAccepted is = absurd is

limit_under : (a : Arena) (q : Question) (limits : Limits) (instances : List Instance) (l : Limit) → IsReachedUnder a q limits instances l → IsListedLimit l
limit_under a q limits instances (Splits t) is = tt
limit_under a q limits instances TooManyInstances is = tt
limit_under a q limits instances (WideForm t) is = tt
limit_under a q limits instances (WidePivot start steps o) is = tt
limit_under a q limits instances (WideSum nodes x) is = tt
limit_under a q limits instances (WideEvaluation table t x) is = tt
limit_under a q limits instances (Pivots start steps) is = tt
limit_under a q limits instances (TooManyTerms n) is = is.1.limit

verdict_under : (a : Arena) (q : Question) (limits : Limits) (v : Verdict) → IsRightUnder a q limits v → IsListedVerdict v
verdict_under a q limits (Proved nodes) is = tt
verdict_under a q limits (Unproved branch table instances) is = tt
verdict_under a q limits (GaveUp rounds l) is = limit_under a q limits (members_of rounds) l is.reached
verdict_under a q limits NotAccepted is = absurd is

decided_listed : (rules : List Rule) (a : Arena) (c : Condition) (limits : Limits) (d : Decided) → IsDecidedUnder rules a c limits d → IsListedVerdict (verdict_in d.terms d.verdict)
decided_listed [] a c limits d is = verdict_listed d.terms (question d.terms d.condition) limits (verdict_in d.terms d.verdict) is.right
decided_listed (r ∷ rules) a c limits d is = verdict_under d.terms (question_under (r ∷ rules) d.terms d.condition) limits (verdict_in d.terms d.verdict) is.right

all_listed : (rules : List Rule) (a : Arena) (limits : Limits) (cs : List Condition) (ds : List Decided) → AreVerdicts rules a limits cs ds → AreListed (conditions_of a cs) ds
all_listed rules a limits [] [] are = tt
all_listed rules a limits [] (d ∷ ds) are = absurd are
all_listed rules a limits (c ∷ cs) [] are = absurd are
all_listed rules a limits (c ∷ cs) (d ∷ ds) are = (decided_listed rules a c limits d are.0, all_listed rules a limits cs ds are.1)

page_at : (mode : Mode) (r : Findings) → AreVerdictsIn mode r.listing (rules_in r.rules) r.named r.arena r.conditions r.verdicts → tells_verdicts mode ≡ true → page_in mode r ≡ listings.page (listing_in r)
page_at (Verify limits) r are tells = page_written r (all_listed (rules_in r.rules) r.arena limits r.conditions r.verdicts are)
page_at (Simplify limits) r are tells = page_written r (all_listed (rules_in r.rules) r.arena limits r.conditions r.verdicts are)
page_at Check r are tells = absurd (false≢true tells)
page_at Conditions r are tells = absurd (false≢true tells)
page_at (Drill load limits) r are tells = absurd (false≢true tells)

pub pages_are_listings : PagesAreListings
pages_are_listings r is tells = page_at r.mode r is.is_on.verdicts tells
