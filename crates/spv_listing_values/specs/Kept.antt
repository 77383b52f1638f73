-- What a reader keeps of the last condition, and what each line adds to it.
use Rattle.std.specs.Prelude.{◌≡◌, Bool, true, false, List, [], ◌∷◌, ◌++◌, map, Option, Some, None, option_map, option_to_list}
use Rattle.spv_whole.specs.Fraction.{Fraction}
use Rattle.spv_listing_values.specs.declared.data.Step.{Step}
use Rattle.spv_listing_values.specs.declared.data.Split.{Split}
use Rattle.spv_listing_values.specs.declared.data.ProofNode.{ProofNode}
use Rattle.spv_listing_values.specs.declared.data.Instance.{Instance}
use Rattle.spv_listing_values.specs.declared.data.Verdict.{Verdict}
use Rattle.spv_listing_values.specs.declared.data.Verdict.TheVariants.{Proved, Unproved, GaveUp}
use Rattle.spv_listing_values.specs.declared.data.Claim.{Claim}
use Rattle.spv_listing_values.specs.declared.texts.Text.{Text}
use Rattle.spv_listing_values.specs.declared.current.Asked as held
use Rattle.spv_listing_values.specs.declared.current.Showing.{Showing}
use Rattle.spv_listing_values.specs.declared.current.Showing.TheVariants as showing
use Rattle.spv_listing_values.specs.declared.current.Judged.{Judged}
use Rattle.spv_listing_values.specs.declared.current.Current.{Current}
use Rattle.spv_listing_values.specs.declared.current.Current.TheVariants as current
use Rattle.spv_listing_values.specs.Written.{Written}
use Rattle.spv_listing_values.specs.Reading.{Asked, Reading}
use Rattle.spv_listing_values.specs.Mapped.{claim_at, claim_terms}

-- ---- verdicts

abbrev pub shown : Showing → Verdict Text
shown showing.Bare = Proved []
shown (showing.Proof nodes last) = Proved (nodes ++ last ∷ [])
shown (showing.Table branch instances rows) = Unproved branch instances rows
shown (showing.Limit l) = GaveUp l

abbrev pub showing_takes_branch : Showing → Bool
showing_takes_branch (showing.Table branch [] []) = true
showing_takes_branch _ = false

abbrev pub showing_branch : Text → Showing → Showing
showing_branch t (showing.Table branch instances rows) = showing.Table (branch ++ t ∷ []) instances rows
showing_branch t (showing.Proof nodes last) = showing.Proof nodes last
showing_branch t showing.Bare = showing.Bare
showing_branch t (showing.Limit l) = showing.Limit l

abbrev pub showing_takes_instance : Showing → Bool
showing_takes_instance (showing.Table branch instances []) = true
showing_takes_instance _ = false

abbrev pub showing_instance : Instance Text → Showing → Showing
showing_instance i (showing.Table branch instances rows) = showing.Table branch (instances ++ i ∷ []) rows
showing_instance i (showing.Proof nodes last) = showing.Proof nodes last
showing_instance i showing.Bare = showing.Bare
showing_instance i (showing.Limit l) = showing.Limit l

abbrev pub showing_takes_row : Showing → Bool
showing_takes_row (showing.Table branch instances rows) = true
showing_takes_row (showing.Proof nodes last) = false
showing_takes_row showing.Bare = false
showing_takes_row (showing.Limit l) = false

abbrev pub showing_row : Text × Fraction → Showing → Showing
showing_row row (showing.Table branch instances rows) = showing.Table branch instances (rows ++ row ∷ [])
showing_row row (showing.Proof nodes last) = showing.Proof nodes last
showing_row row showing.Bare = showing.Bare
showing_row row (showing.Limit l) = showing.Limit l

abbrev pub has_no_split : Option (Split Text) → Bool
has_no_split None = true
has_no_split (Some s) = false

abbrev pub showing_takes_step : Showing → Bool
showing_takes_step showing.Bare = true
showing_takes_step (showing.Proof nodes last) = has_no_split last.split
showing_takes_step (showing.Table branch instances rows) = false
showing_takes_step (showing.Limit l) = false

-- a table that is still empty
abbrev pub no_table : Showing
no_table = showing.Table [] [] []

-- a node that is still without steps
abbrev pub no_steps : ProofNode Text
no_steps = record { steps = []; split = None }

abbrev pub showing_step : Step Text → Showing → Showing
showing_step s showing.Bare = showing.Proof [] (record { steps = s ∷ []; split = None })
showing_step s (showing.Proof nodes last) = showing.Proof nodes (record last { steps = last.steps ++ s ∷ [] })
showing_step s (showing.Table branch instances rows) = showing.Table branch instances rows
showing_step s (showing.Limit l) = showing.Limit l

abbrev pub showing_split : Split Text → Showing → Showing
showing_split s showing.Bare = showing.Proof [] (record { steps = []; split = Some s })
showing_split s (showing.Proof nodes last) = showing.Proof nodes (record last { split = Some s })
showing_split s (showing.Table branch instances rows) = showing.Table branch instances rows
showing_split s (showing.Limit l) = showing.Limit l

abbrev pub showing_takes_case : Showing → Bool
showing_takes_case showing.Bare = true
showing_takes_case (showing.Proof nodes last) = true
showing_takes_case (showing.Table branch instances rows) = false
showing_takes_case (showing.Limit l) = false

abbrev pub showing_case : Showing → Showing
showing_case showing.Bare = showing.Proof [] no_steps
showing_case (showing.Proof nodes last) = showing.Proof (nodes ++ last ∷ []) no_steps
showing_case (showing.Table branch instances rows) = showing.Table branch instances rows
showing_case (showing.Limit l) = showing.Limit l

-- ---- the last condition

abbrev pub judged_claim : Judged → Claim Text
judged_claim j = record { header = j.header; given = j.given; goal = j.goal; verdict = shown j.showing }

abbrev pub asked_given : Text → held.Asked → held.Asked
asked_given t a = record a { given = a.given ++ t ∷ [] }

abbrev pub has_no_goal : Option Text → Bool
has_no_goal None = true
has_no_goal (Some t) = false

abbrev pub takes_goal : Current → Bool
takes_goal (current.Asked a) = has_no_goal a.goal
takes_goal current.Nothing = false
takes_goal (current.Judged j) = false

abbrev pub put_given : Text → Current → Current
put_given t (current.Asked a) = current.Asked (asked_given t a)
put_given t current.Nothing = current.Nothing
put_given t (current.Judged j) = current.Judged j

abbrev pub put_goal : Text → Current → Current
put_goal t (current.Asked a) = current.Asked (record a { goal = Some t })
put_goal t current.Nothing = current.Nothing
put_goal t (current.Judged j) = current.Judged j

abbrev pub has_goal : Option Text → Bool
has_goal None = false
has_goal (Some t) = true

abbrev pub takes_verdict : Current → Bool
takes_verdict (current.Asked a) = has_goal a.goal
takes_verdict current.Nothing = false
takes_verdict (current.Judged j) = false

abbrev pub answered : Showing → held.Asked → Option Text → Current
answered s a None = current.Asked a
answered s a (Some goal) = current.Judged (record { header = a.header; given = a.given; goal = goal; showing = s })

abbrev pub put_verdict : Showing → Current → Current
put_verdict s (current.Asked a) = answered s a a.goal
put_verdict s current.Nothing = current.Nothing
put_verdict s (current.Judged j) = current.Judged j

-- whether the verdict takes a part, and the condition with its verdict changed
abbrev pub takes : (Showing → Bool) → Current → Bool
takes p (current.Judged j) = p j.showing
takes p current.Nothing = false
takes p (current.Asked a) = false

abbrev pub puts : (Showing → Showing) → Current → Current
puts f (current.Judged j) = current.Judged (record j { showing = f j.showing })
puts f current.Nothing = current.Nothing
puts f (current.Asked a) = current.Asked a

-- ---- what was read so far

abbrev pub asked_in : (Text → Written) → Current → Option Asked
asked_in f (current.Asked a) = Some (record { header = a.header; given = map f a.given; goal = option_map f a.goal })
asked_in f current.Nothing = None
asked_in f (current.Judged j) = None

abbrev pub claims_of : (Text → Written) → Current → List (Claim Written)
claims_of f (current.Judged j) = claim_at f (judged_claim j) ∷ []
claims_of f current.Nothing = []
claims_of f (current.Asked a) = []

-- behind conditions that are done, with this term at each place
abbrev pub state : (Text → Written) → List (Claim Written) → Current → Reading
state f before c = record { asked = asked_in f c; claims = before ++ claims_of f c }

-- the terms that the lines of the last condition name so far, in order
abbrev pub terms_of : Current → List Text
terms_of (current.Asked a) = a.given ++ option_to_list a.goal
terms_of (current.Judged j) = claim_terms (judged_claim j)
terms_of current.Nothing = []

-- a condition began, or there is none
abbrev pub HasBegun : Current → List (Claim Written) → Type 0
HasBegun current.Nothing before = before ≡ []
HasBegun (current.Asked a) before = Unit {0}
HasBegun (current.Judged j) before = Unit {0}
