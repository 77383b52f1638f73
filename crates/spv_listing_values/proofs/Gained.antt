-- The terms that each line adds to those of the last condition.
use Rattle.std.proofs.Common.{◌≡◌, Bool, true, Option, Some, None, List, [], ◌∷◌, ◌++◌, map, option_to_list, flat_map, refl, sym, ap, ◌∙◌, append_assoc, append-nil}
use Rattle.std.proofs.lemmas.List.{map-append}
use Rattle.std.proofs.lemmas.Bool.{false≢true}
use Rattle.spv_whole.specs.Fraction.{Fraction}
use Rattle.spv_listing_values.specs.declared.data.Step.{Step}
use Rattle.spv_listing_values.specs.declared.data.Split.{Split}
use Rattle.spv_listing_values.specs.declared.data.ProofNode.{ProofNode}
use Rattle.spv_listing_values.specs.declared.data.Instance.{Instance}
use Rattle.spv_listing_values.specs.declared.data.Claim.{Claim}
use Rattle.spv_listing_values.specs.declared.texts.Text.{Text}
use Rattle.spv_listing_values.specs.declared.current.Asked as held
use Rattle.spv_listing_values.specs.declared.current.Showing.{Showing}
use Rattle.spv_listing_values.specs.declared.current.Showing.TheVariants as showing
use Rattle.spv_listing_values.specs.declared.current.Current.{Current}
use Rattle.spv_listing_values.specs.declared.current.Current.TheVariants as current
use Rattle.spv_listing_values.specs.Written.{Written}
use Rattle.spv_listing_values.specs.Mapped.{step_terms, split_terms, node_terms, instance_terms, row_term, verdict_terms}
use Rattle.spv_listing_values.specs.Kept.{shown, showing_takes_branch, showing_branch, showing_takes_instance, showing_instance, showing_takes_row, showing_row, has_no_split, showing_takes_step, no_steps, showing_step, showing_split, showing_takes_case, showing_case, has_no_goal, takes_goal, put_given, put_goal, has_goal, takes_verdict, answered, put_verdict, takes, puts, terms_of, HasBegun}

flat_append : {A B : Type 0} (p : A → List B) (xs ys : List A) → flat_map p (xs ++ ys) ≡ flat_map p xs ++ flat_map p ys
flat_append p [] ys = refl
flat_append p (x ∷ xs) ys = ap (λ (l : List _). p x ++ l) (flat_append p xs ys) ∙ sym (append_assoc (p x) (flat_map p xs) (flat_map p ys))

-- ---- hypotheses, the goal and the verdict

given_behind : (given : List Text) (t : Text) (goal : Option Text) → has_no_goal goal ≡ true → (given ++ t ∷ []) ++ option_to_list goal ≡ (given ++ option_to_list goal) ++ t ∷ []
given_behind given t None h = append-nil (given ++ t ∷ []) ∙ ap (λ (ts : List Text). ts ++ t ∷ []) (sym (append-nil given))
given_behind given t (Some goal) h = absurd (false≢true h)

pub given_terms : (t : Text) (c : Current) → takes_goal c ≡ true → terms_of (put_given t c) ≡ terms_of c ++ t ∷ []
given_terms t current.Nothing h = absurd (false≢true h)
given_terms t (current.Asked a) h = given_behind a.given t a.goal h
given_terms t (current.Judged j) h = absurd (false≢true h)

goal_behind : (given : List Text) (t : Text) (goal : Option Text) → has_no_goal goal ≡ true → given ++ t ∷ [] ≡ (given ++ option_to_list goal) ++ t ∷ []
goal_behind given t None h = ap (λ (ts : List Text). ts ++ t ∷ []) (sym (append-nil given))
goal_behind given t (Some goal) h = absurd (false≢true h)

pub goal_terms : (t : Text) (c : Current) → takes_goal c ≡ true → terms_of (put_goal t c) ≡ terms_of c ++ t ∷ []
goal_terms t current.Nothing h = absurd (false≢true h)
goal_terms t (current.Asked a) h = goal_behind a.given t a.goal h
goal_terms t (current.Judged j) h = absurd (false≢true h)

verdict_behind : (s : Showing) (a : held.Asked) (goal : Option Text) → has_goal goal ≡ true → terms_of (answered s a goal) ≡ (a.given ++ option_to_list goal) ++ verdict_terms (shown s)
verdict_behind s a None h = absurd (false≢true h)
verdict_behind s a (Some goal) h = sym (append_assoc a.given (goal ∷ []) (verdict_terms (shown s)))

pub verdict_gained : (s : Showing) (c : Current) → takes_verdict c ≡ true → terms_of (put_verdict s c) ≡ terms_of c ++ verdict_terms (shown s)
verdict_gained s current.Nothing h = absurd (false≢true h)
verdict_gained s (current.Asked a) h = verdict_behind s a a.goal h
verdict_gained s (current.Judged j) h = absurd (false≢true h)

-- ---- the parts of verdicts

pub puts_terms : (p : Showing → Bool) (g : Showing → Showing) (ts : List Text) → ((s : Showing) → p s ≡ true → verdict_terms (shown (g s)) ≡ verdict_terms (shown s) ++ ts)
    → (c : Current) → takes p c ≡ true → terms_of (puts g c) ≡ terms_of c ++ ts
puts_terms p g ts each current.Nothing h = absurd (false≢true h)
puts_terms p g ts each (current.Asked a) h = absurd (false≢true h)
puts_terms p g ts each (current.Judged j) h =
    ap (λ (us : List Text). j.given ++ j.goal ∷ us) (each j.showing h) ∙ sym (append_assoc j.given (j.goal ∷ verdict_terms (shown j.showing)) ts)

pub branch_terms : (t : Text) (s : Showing) → showing_takes_branch s ≡ true → verdict_terms (shown (showing_branch t s)) ≡ verdict_terms (shown s) ++ t ∷ []
branch_terms t showing.Bare h = absurd (false≢true h)
branch_terms t (showing.Proof nodes last) h = absurd (false≢true h)
branch_terms t (showing.Table branch [] []) h = append-nil (branch ++ t ∷ []) ∙ ap (λ (ts : List Text). ts ++ t ∷ []) (sym (append-nil branch))
branch_terms t (showing.Table branch [] (r ∷ rows)) h = absurd (false≢true h)
branch_terms t (showing.Table branch (i ∷ is) rows) h = absurd (false≢true h)
branch_terms t (showing.Limit l) h = absurd (false≢true h)

instances_behind : (branch : List Text) (is : List (Instance Text)) (i : Instance Text)
    → branch ++ (flat_map instance_terms (is ++ i ∷ []) ++ []) ≡ (branch ++ (flat_map instance_terms is ++ [])) ++ i.values
instances_behind branch is i =
    ap (λ (ts : List Text). branch ++ ts)
    (append-nil (flat_map instance_terms (is ++ i ∷ []))
    ∙ (flat_append instance_terms is (i ∷ []) ∙ ap (λ (ts : List Text). flat_map instance_terms is ++ ts) (append-nil i.values)))
    ∙ (sym (append_assoc branch (flat_map instance_terms is) i.values) ∙ ap (λ (ts : List Text). (branch ++ ts) ++ i.values) (sym (append-nil (flat_map instance_terms is))))

pub instance_gained : (i : Instance Text) (s : Showing) → showing_takes_instance s ≡ true → verdict_terms (shown (showing_instance i s)) ≡ verdict_terms (shown s) ++ i.values
instance_gained i showing.Bare h = absurd (false≢true h)
instance_gained i (showing.Proof nodes last) h = absurd (false≢true h)
instance_gained i (showing.Table branch is []) h = instances_behind branch is i
instance_gained i (showing.Table branch is (r ∷ rows)) h = absurd (false≢true h)
instance_gained i (showing.Limit l) h = absurd (false≢true h)

pub row_terms : (r : Text × Fraction) (s : Showing) → showing_takes_row s ≡ true → verdict_terms (shown (showing_row r s)) ≡ verdict_terms (shown s) ++ r.0 ∷ []
row_terms r showing.Bare h = absurd (false≢true h)
row_terms r (showing.Proof nodes last) h = absurd (false≢true h)
row_terms r (showing.Table branch is rows) h =
    ap (λ (ts : List Text). branch ++ (flat_map instance_terms is ++ ts)) (map-append row_term rows (r ∷ []))
    ∙ (ap (λ (ts : List Text). branch ++ ts) (sym (append_assoc (flat_map instance_terms is) (map row_term rows) (r.0 ∷ [])))
    ∙ sym (append_assoc branch (flat_map instance_terms is ++ map row_term rows) (r.0 ∷ [])))
row_terms r (showing.Limit l) h = absurd (false≢true h)

-- the terms of nodes with a last one
nodes_last : (nodes : List (ProofNode Text)) (n : ProofNode Text) → flat_map node_terms (nodes ++ n ∷ []) ≡ flat_map node_terms nodes ++ node_terms n
nodes_last nodes n = flat_append node_terms nodes (n ∷ []) ∙ ap (λ (ts : List Text). flat_map node_terms nodes ++ ts) (append-nil (node_terms n))

node_more : (nodes : List (ProofNode Text)) (n o : ProofNode Text) (ts : List Text) → node_terms o ≡ node_terms n ++ ts → flat_map node_terms (nodes ++ o ∷ []) ≡ flat_map node_terms (nodes ++ n ∷ []) ++ ts
node_more nodes n o ts e =
    nodes_last nodes o
    ∙ (ap (λ (us : List Text). flat_map node_terms nodes ++ us) e
    ∙ (sym (append_assoc (flat_map node_terms nodes) (node_terms n) ts) ∙ ap (λ (us : List Text). us ++ ts) (sym (nodes_last nodes n))))

steps_behind : (steps : List (Step Text)) (split : Option (Split Text)) (p : Step Text) → has_no_split split ≡ true
    → flat_map step_terms (steps ++ p ∷ []) ++ split_terms split ≡ (flat_map step_terms steps ++ split_terms split) ++ step_terms p
steps_behind steps None p h =
    append-nil (flat_map step_terms (steps ++ p ∷ []))
    ∙ (flat_append step_terms steps (p ∷ [])
    ∙ (ap (λ (ts : List Text). flat_map step_terms steps ++ ts) (append-nil (step_terms p)) ∙ ap (λ (ts : List Text). ts ++ step_terms p) (sym (append-nil (flat_map step_terms steps)))))
steps_behind steps (Some s) p h = absurd (false≢true h)

pub step_gained : (p : Step Text) (s : Showing) → showing_takes_step s ≡ true → verdict_terms (shown (showing_step p s)) ≡ verdict_terms (shown s) ++ step_terms p
step_gained p showing.Bare h = append-nil ((step_terms p ++ []) ++ []) ∙ (append-nil (step_terms p ++ []) ∙ append-nil (step_terms p))
step_gained p (showing.Proof nodes last) h = node_more nodes last (record last { steps = last.steps ++ p ∷ [] }) (step_terms p) (steps_behind last.steps last.split p h)
step_gained p (showing.Table branch is rows) h = absurd (false≢true h)
step_gained p (showing.Limit l) h = absurd (false≢true h)

split_behind : (ts : List Text) (split : Option (Split Text)) (x : Split Text) → has_no_split split ≡ true → ts ++ x.atom ∷ [] ≡ (ts ++ split_terms split) ++ x.atom ∷ []
split_behind ts None x h = ap (λ (us : List Text). us ++ x.atom ∷ []) (sym (append-nil ts))
split_behind ts (Some s) x h = absurd (false≢true h)

pub split_gained : (x : Split Text) (s : Showing) → showing_takes_step s ≡ true → verdict_terms (shown (showing_split x s)) ≡ verdict_terms (shown s) ++ x.atom ∷ []
split_gained x showing.Bare h = refl
split_gained x (showing.Proof nodes last) h = node_more nodes last (record last { split = Some x }) (x.atom ∷ []) (split_behind (flat_map step_terms last.steps) last.split x h)
split_gained x (showing.Table branch is rows) h = absurd (false≢true h)
split_gained x (showing.Limit l) h = absurd (false≢true h)

pub case_gained : (s : Showing) → showing_takes_case s ≡ true → verdict_terms (shown (showing_case s)) ≡ verdict_terms (shown s) ++ []
case_gained showing.Bare h = refl
case_gained (showing.Proof nodes last) h = nodes_last (nodes ++ last ∷ []) no_steps
case_gained (showing.Table branch is rows) h = absurd (false≢true h)
case_gained (showing.Limit l) h = absurd (false≢true h)

-- ---- a condition that takes something has begun

pub given_begun : (t : Text) (c : Current) (before : List (Claim Written)) → takes_goal c ≡ true → HasBegun (put_given t c) before
given_begun t current.Nothing before h = absurd (false≢true h)
given_begun t (current.Asked a) before h = tt
given_begun t (current.Judged j) before h = absurd (false≢true h)

pub goal_begun : (t : Text) (c : Current) (before : List (Claim Written)) → takes_goal c ≡ true → HasBegun (put_goal t c) before
goal_begun t current.Nothing before h = absurd (false≢true h)
goal_begun t (current.Asked a) before h = tt
goal_begun t (current.Judged j) before h = absurd (false≢true h)

answered_begun : (s : Showing) (a : held.Asked) (goal : Option Text) (before : List (Claim Written)) → HasBegun (answered s a goal) before
answered_begun s a None before = tt
answered_begun s a (Some goal) before = tt

pub verdict_begun : (s : Showing) (c : Current) (before : List (Claim Written)) → takes_verdict c ≡ true → HasBegun (put_verdict s c) before
verdict_begun s current.Nothing before h = absurd (false≢true h)
verdict_begun s (current.Asked a) before h = answered_begun s a a.goal before
verdict_begun s (current.Judged j) before h = absurd (false≢true h)

pub puts_begun : (p : Showing → Bool) (g : Showing → Showing) (c : Current) (before : List (Claim Written)) → takes p c ≡ true → HasBegun (puts g c) before
puts_begun p g current.Nothing before h = absurd (false≢true h)
puts_begun p g (current.Asked a) before h = absurd (false≢true h)
puts_begun p g (current.Judged j) before h = tt
