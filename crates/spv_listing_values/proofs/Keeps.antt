-- What each line adds to what a reader keeps is what the definition says.
use Rattle.std.proofs.Common.{◌≡◌, ℕ, Bool, true, false, Option, Some, None, List, [], ◌∷◌, ◌++◌, map, option_map, option_to_list, flat_map, refl, sym, ap, ◌∙◌, append-nil}
use Rattle.std.proofs.lemmas.List.{map-append}
use Rattle.std.specs.List.{AllByRecursion}
use Rattle.std.proofs.lemmas.Bool.{false≢true}
use Rattle.spv_whole.specs.Fraction.{Fraction}
use Rattle.spv_listing_values.specs.declared.data.Header.{Header}
use Rattle.spv_listing_values.specs.declared.data.Step.{Step}
use Rattle.spv_listing_values.specs.declared.data.Step.TheVariants as step
use Rattle.spv_listing_values.specs.declared.data.Split.{Split}
use Rattle.spv_listing_values.specs.declared.data.ProofNode.{ProofNode}
use Rattle.spv_listing_values.specs.declared.data.Instance.{Instance}
use Rattle.spv_listing_values.specs.declared.data.Limit.{Limit}
use Rattle.spv_listing_values.specs.declared.data.Limit.TheVariants as limit
use Rattle.spv_listing_values.specs.declared.data.Verdict.{Verdict}
use Rattle.spv_listing_values.specs.declared.data.Verdict.TheVariants.{Proved, Unproved, GaveUp}
use Rattle.spv_listing_values.specs.declared.data.Claim.{Claim}
use Rattle.spv_listing_values.specs.declared.texts.Text.{Text}
use Rattle.spv_listing_values.specs.declared.current.Asked as held
use Rattle.spv_listing_values.specs.declared.current.Showing.{Showing}
use Rattle.spv_listing_values.specs.declared.current.Showing.TheVariants as showing
use Rattle.spv_listing_values.specs.declared.current.Current.{Current}
use Rattle.spv_listing_values.specs.declared.current.Current.TheVariants as current
use Rattle.spv_listing_values.specs.Written.{Written}
use Rattle.spv_listing_values.specs.Mapped.{step_at, split_at, node_at, instance_at, limit_at, row_at, verdict_at, claim_at, step_terms, split_terms, node_terms, instance_terms, row_term, limit_terms, verdict_terms, claim_terms}
use Rattle.spv_listing_values.specs.Reading as spec
use Rattle.spv_listing_values.specs.Reading.{Asked, Reading, with_given, with_goal, asking, with_verdict, judged, with_branch, with_instance, with_value, on_last, on_node, with_step, with_split, with_case, rooted}
use Rattle.spv_listing_values.specs.Kept.{shown, showing_takes_branch, showing_branch, showing_takes_instance, showing_instance, showing_takes_row, showing_row, has_no_split, showing_takes_step, no_steps, showing_step, showing_split, showing_takes_case, showing_case, judged_claim, has_no_goal, takes_goal, put_given, put_goal, has_goal, takes_verdict, answered, put_verdict, takes, puts, state, terms_of, HasBegun}
use Rattle.spv_listing_values.proofs.Claiming.{last_is}

-- ---- two ways to read terms that agree on those that are named

module _ (f g : Text → Written) where
  abbrev pub Agree : List Text → Type 0
  Agree ts = AllByRecursion (λ t. f t ≡ g t) ts

  agree_front : (ts us : List Text) → Agree (ts ++ us) → Agree ts
  agree_front [] us h = tt
  agree_front (t ∷ ts) us h = (h.0, agree_front ts us h.1)

  agree_back : (ts us : List Text) → Agree (ts ++ us) → Agree us
  agree_back [] us h = h
  agree_back (t ∷ ts) us h = agree_back ts us h.1

  agree_map : (ts : List Text) → Agree ts → map f ts ≡ map g ts
  agree_map [] h = refl
  agree_map (t ∷ ts) h = λ i. h.0 i ∷ agree_map ts h.1 i

  agree_list : {A B : Type 0} (p : A → List Text) (m n : A → B) → ((a : A) → Agree (p a) → m a ≡ n a) → (xs : List A) → Agree (flat_map p xs) → map m xs ≡ map n xs
  agree_list p m n each [] h = refl
  agree_list p m n each (x ∷ xs) h = λ i. each x (agree_front (p x) (flat_map p xs) h) i ∷ agree_list p m n each xs (agree_back (p x) (flat_map p xs) h) i

  agree_step : (s : Step Text) → Agree (step_terms s) → step_at f s ≡ step_at g s
  agree_step (step.Given k) h = refl
  agree_step (step.Refl t) h = λ i. step.Refl (h.0 i)
  agree_step (step.Symm i) h = refl
  agree_step (step.Trans i j) h = refl
  agree_step (step.Cong t u facts) h = λ i. step.Cong (h.0 i) (h.1.0 i) facts
  agree_step (step.Linear r first second) h = λ i. step.Linear (h.0 i) first second
  agree_step (step.Schema k ts name) h = λ i. step.Schema k (agree_map ts h i) name
  agree_step (step.Rule r ts) h = λ i. step.Rule r (agree_map ts h i)
  agree_step (step.Eval t facts) h = λ i. step.Eval (h.0 i) facts
  agree_step (step.Contra i j) h = refl

  agree_split : (s : Option (Split Text)) → Agree (split_terms s) → option_map (split_at f) s ≡ option_map (split_at g) s
  agree_split None h = refl
  agree_split (Some s) h = λ i. Some (record { cases = s.cases; atom = h.0 i })

  agree_node : (n : ProofNode Text) → Agree (node_terms n) → node_at f n ≡ node_at g n
  agree_node n h =
      let steps = agree_list step_terms (step_at f) (step_at g) agree_step n.steps (agree_front (flat_map step_terms n.steps) (split_terms n.split) h) in
      let split = agree_split n.split (agree_back (flat_map step_terms n.steps) (split_terms n.split) h) in
      λ i. record { steps = steps i; split = split i }

  agree_instance : (i : Instance Text) → Agree (instance_terms i) → instance_at f i ≡ instance_at g i
  agree_instance i h = λ j. record { rule = i.rule; values = agree_map i.values h j }

  agree_rows : (rows : List (Text × Fraction)) → Agree (map row_term rows) → map (row_at f) rows ≡ map (row_at g) rows
  agree_rows [] h = refl
  agree_rows (r ∷ rows) h = λ i. (h.0 i, r.1) ∷ agree_rows rows h.1 i

  agree_limit : (l : Limit Text) → Agree (limit_terms l) → limit_at f l ≡ limit_at g l
  agree_limit (limit.Splits n) h = refl
  agree_limit (limit.Instances n) h = refl
  agree_limit (limit.Pivots n) h = refl
  agree_limit limit.Terms h = refl
  agree_limit (limit.Form t) h = λ i. limit.Form (h.0 i)
  agree_limit (limit.Wide o left right) h = refl

  pub agree_verdict : (v : Verdict Text) → Agree (verdict_terms v) → verdict_at f v ≡ verdict_at g v
  agree_verdict (Proved nodes) h = λ i. Proved (agree_list node_terms (node_at f) (node_at g) agree_node nodes h i)
  agree_verdict (Unproved branch is rows) h =
      let more = agree_back branch (flat_map instance_terms is ++ map row_term rows) h in
      let first = agree_map branch (agree_front branch (flat_map instance_terms is ++ map row_term rows) h) in
      let second = agree_list instance_terms (instance_at f) (instance_at g) agree_instance is (agree_front (flat_map instance_terms is) (map row_term rows) more) in
      let third = agree_rows rows (agree_back (flat_map instance_terms is) (map row_term rows) more) in
      λ i. Unproved (first i) (second i) (third i)
  agree_verdict (GaveUp l) h = λ i. GaveUp (agree_limit l h i)

  pub agree_claim : (c : Claim Text) → Agree (claim_terms c) → claim_at f c ≡ claim_at g c
  agree_claim c h =
      let given = agree_map c.given (agree_front c.given (c.goal ∷ verdict_terms c.verdict) h) in
      let more = agree_back c.given (c.goal ∷ verdict_terms c.verdict) h in
      let verdict = agree_verdict c.verdict more.1 in
      λ i. record { header = c.header; given = given i; goal = more.0 i; verdict = verdict i }

  agree_goal : (goal : Option Text) → Agree (option_to_list goal) → option_map f goal ≡ option_map g goal
  agree_goal None h = refl
  agree_goal (Some t) h = λ i. Some (h.0 i)

  -- the same was read
  pub agree_state : (c : Current) (before : List (Claim Written)) → Agree (terms_of c) → state f before c ≡ state g before c
  agree_state current.Nothing before h = refl
  agree_state (current.Asked a) before h =
      let given = agree_map a.given (agree_front a.given (option_to_list a.goal) h) in
      let goal = agree_goal a.goal (agree_back a.given (option_to_list a.goal) h) in
      λ i. record { asked = Some (record { header = a.header; given = given i; goal = goal i }); claims = before ++ [] }
  agree_state (current.Judged j) before h = λ i. record { asked = None; claims = before ++ agree_claim (judged_claim j) h i ∷ [] }

-- ---- hypotheses and the goal

module _ (f : Text → Written) (before : List (Claim Written)) where
  given_by : (header : Header) (given : List Text) (goal : Option Text) (t : Text) → has_no_goal goal ≡ true
      → record { header = header; given = map f (given ++ t ∷ []); goal = option_map f goal } ≡ with_given (f t) (record { header = header; given = map f given; goal = option_map f goal })
  given_by header given None t h = ap (λ (gs : List Written). record { header = header; given = gs; goal = None }) (map-append f given (t ∷ []))
  given_by header given (Some goal) t h = absurd (false≢true h)

  pub given_state : (t : Text) (c : Current) → takes_goal c ≡ true → state f before (put_given t c) ≡ asking (with_given (f t)) (state f before c)
  given_state t current.Nothing h = absurd (false≢true h)
  given_state t (current.Asked a) h = λ i. record { asked = Some (given_by a.header a.given a.goal t h i); claims = before ++ [] }
  given_state t (current.Judged j) h = absurd (false≢true h)

  given_not : (a : Asked) (goal : Option Text) (w : Written) → has_no_goal goal ≡ false → spec.more_given w a (option_map f goal) ≡ a
  given_not a None w h = absurd (false≢true (sym h))
  given_not a (Some goal) w h = refl

  pub given_passed : (w : Written) (c : Current) → takes_goal c ≡ false → asking (with_given w) (state f before c) ≡ state f before c
  given_passed w current.Nothing h = refl
  given_passed w (current.Asked a) h =
      λ i. record { asked = Some (given_not (record { header = a.header; given = map f a.given; goal = option_map f a.goal }) a.goal w h i); claims = before ++ [] }
  given_passed w (current.Judged j) h = refl

  goal_by : (a : Asked) (goal : Option Text) (w : Written) → has_no_goal goal ≡ true → spec.first_goal w a (option_map f goal) ≡ record a { goal = Some w }
  goal_by a None w h = refl
  goal_by a (Some goal) w h = absurd (false≢true h)

  pub goal_state : (t : Text) (c : Current) → takes_goal c ≡ true → state f before (put_goal t c) ≡ asking (with_goal (f t)) (state f before c)
  goal_state t current.Nothing h = absurd (false≢true h)
  goal_state t (current.Asked a) h =
      λ i. record { asked = Some (sym (goal_by (record { header = a.header; given = map f a.given; goal = option_map f a.goal }) a.goal (f t) h) i); claims = before ++ [] }
  goal_state t (current.Judged j) h = absurd (false≢true h)

  goal_not : (a : Asked) (goal : Option Text) (w : Written) → has_no_goal goal ≡ false → spec.first_goal w a (option_map f goal) ≡ a
  goal_not a None w h = absurd (false≢true (sym h))
  goal_not a (Some goal) w h = refl

  pub goal_passed : (w : Written) (c : Current) → takes_goal c ≡ false → asking (with_goal w) (state f before c) ≡ state f before c
  goal_passed w current.Nothing h = refl
  goal_passed w (current.Asked a) h =
      λ i. record { asked = Some (goal_not (record { header = a.header; given = map f a.given; goal = option_map f a.goal }) a.goal w h i); claims = before ++ [] }
  goal_passed w (current.Judged j) h = refl

  -- ---- the verdict

  verdict_by : (s : Showing) (a : held.Asked) (goal : Option Text) → has_goal goal ≡ true
      → state f before (answered s a goal)
      ≡ spec.answered (verdict_at f (shown s)) (record { header = a.header; given = map f a.given; goal = option_map f a.goal }) (option_map f goal) (state f before (current.Asked a))
  verdict_by s a None h = absurd (false≢true h)
  verdict_by s a (Some goal) h =
      ap
      (λ (cs : List (Claim Written)). record { asked = None; claims = cs ++ record { header = a.header; given = map f a.given; goal = f goal; verdict = verdict_at f (shown s) } ∷ [] })
      (sym (append-nil before))

  pub verdict_state : (s : Showing) (c : Current) → takes_verdict c ≡ true → state f before (put_verdict s c) ≡ with_verdict (verdict_at f (shown s)) (state f before c)
  verdict_state s current.Nothing h = absurd (false≢true h)
  verdict_state s (current.Asked a) h = verdict_by s a a.goal h
  verdict_state s (current.Judged j) h = absurd (false≢true h)

  verdict_not : (v : Verdict Written) (a : Asked) (goal : Option Text) (s : Reading) → has_goal goal ≡ false → spec.answered v a (option_map f goal) s ≡ s
  verdict_not v a None s h = refl
  verdict_not v a (Some goal) s h = absurd (false≢true (sym h))

  pub verdict_passed : (v : Verdict Written) (c : Current) → takes_verdict c ≡ false → with_verdict v (state f before c) ≡ state f before c
  verdict_passed v current.Nothing h = refl
  verdict_passed v (current.Asked a) h = verdict_not v (record { header = a.header; given = map f a.given; goal = option_map f a.goal }) a.goal (state f before (current.Asked a)) h
  verdict_passed v (current.Judged j) h = refl

  -- ---- a verdict that is there is changed

  pub puts_state : (p : Showing → Bool) (g : Showing → Showing) (m : Verdict Written → Verdict Written) → ((s : Showing) → p s ≡ true → verdict_at f (shown (g s)) ≡ m (verdict_at f (shown s)))
      → (c : Current) → takes p c ≡ true → state f before (puts g c) ≡ judged m (state f before c)
  puts_state p g m each current.Nothing h = absurd (false≢true h)
  puts_state p g m each (current.Asked a) h = absurd (false≢true h)
  puts_state p g m each (current.Judged j) h =
      ap (λ (v : Verdict Written). record { asked = None; claims = before ++ record { header = j.header; given = map f j.given; goal = f j.goal; verdict = v } ∷ [] }) (each j.showing h)
      ∙ ap (λ (cs : List (Claim Written)). record { asked = None; claims = cs }) (sym (last_is (λ c. record c { verdict = m c.verdict }) before (claim_at f (judged_claim j))))

  pub puts_passed : (p : Showing → Bool) (m : Verdict Written → Verdict Written) → ((s : Showing) → p s ≡ false → m (verdict_at f (shown s)) ≡ verdict_at f (shown s))
      → (c : Current) → HasBegun c before → takes p c ≡ false → judged m (state f before c) ≡ state f before c
  puts_passed p m each current.Nothing begun h =
      ap (λ (cs : List (Claim Written)). record { asked = None; claims = on_last (λ c. record c { verdict = m c.verdict }) (cs ++ []) }) begun
      ∙ ap (λ (cs : List (Claim Written)). record { asked = None; claims = cs ++ [] }) (sym begun)
  puts_passed p m each (current.Asked a) begun h = refl
  puts_passed p m each (current.Judged j) begun h =
      ap (λ (cs : List (Claim Written)). record { asked = None; claims = cs }) (last_is (λ c. record c { verdict = m c.verdict }) before (claim_at f (judged_claim j)))
      ∙ ap (λ (v : Verdict Written). record { asked = None; claims = before ++ record { header = j.header; given = map f j.given; goal = f j.goal; verdict = v } ∷ [] }) (each j.showing h)

-- ---- the parts of verdicts

module _ (f : Text → Written) where
  pub branch_shown : (t : Text) (s : Showing) → showing_takes_branch s ≡ true → verdict_at f (shown (showing_branch t s)) ≡ with_branch (f t) (verdict_at f (shown s))
  branch_shown t showing.Bare h = absurd (false≢true h)
  branch_shown t (showing.Proof nodes last) h = absurd (false≢true h)
  branch_shown t (showing.Table branch [] []) h = ap (λ (b : List Written). Unproved b [] []) (map-append f branch (t ∷ []))
  branch_shown t (showing.Table branch [] (r ∷ rows)) h = absurd (false≢true h)
  branch_shown t (showing.Table branch (i ∷ is) rows) h = absurd (false≢true h)
  branch_shown t (showing.Limit l) h = absurd (false≢true h)

  pub branch_passed : (w : Written) (s : Showing) → showing_takes_branch s ≡ false → with_branch w (verdict_at f (shown s)) ≡ verdict_at f (shown s)
  branch_passed w showing.Bare h = refl
  branch_passed w (showing.Proof nodes last) h = refl
  branch_passed w (showing.Table branch [] []) h = absurd (false≢true (sym h))
  branch_passed w (showing.Table branch [] (r ∷ rows)) h = refl
  branch_passed w (showing.Table branch (i ∷ is) rows) h = refl
  branch_passed w (showing.Limit l) h = refl

  pub instance_shown : (i : Instance Text) (s : Showing) → showing_takes_instance s ≡ true → verdict_at f (shown (showing_instance i s)) ≡ with_instance (instance_at f i) (verdict_at f (shown s))
  instance_shown i showing.Bare h = absurd (false≢true h)
  instance_shown i (showing.Proof nodes last) h = absurd (false≢true h)
  instance_shown i (showing.Table branch is []) h = ap (λ (b : List (Instance Written)). Unproved (map f branch) b []) (map-append (instance_at f) is (i ∷ []))
  instance_shown i (showing.Table branch is (r ∷ rows)) h = absurd (false≢true h)
  instance_shown i (showing.Limit l) h = absurd (false≢true h)

  pub instance_passed : (w : Instance Written) (s : Showing) → showing_takes_instance s ≡ false → with_instance w (verdict_at f (shown s)) ≡ verdict_at f (shown s)
  instance_passed w showing.Bare h = refl
  instance_passed w (showing.Proof nodes last) h = refl
  instance_passed w (showing.Table branch is []) h = absurd (false≢true (sym h))
  instance_passed w (showing.Table branch is (r ∷ rows)) h = refl
  instance_passed w (showing.Limit l) h = refl

  pub row_shown : (r : Text × Fraction) (s : Showing) → showing_takes_row s ≡ true → verdict_at f (shown (showing_row r s)) ≡ with_value (row_at f r) (verdict_at f (shown s))
  row_shown r showing.Bare h = absurd (false≢true h)
  row_shown r (showing.Proof nodes last) h = absurd (false≢true h)
  row_shown r (showing.Table branch is rows) h = ap (λ (b : List (Written × Fraction)). Unproved (map f branch) (map (instance_at f) is) b) (map-append (row_at f) rows (r ∷ []))
  row_shown r (showing.Limit l) h = absurd (false≢true h)

  pub row_passed : (w : Written × Fraction) (s : Showing) → showing_takes_row s ≡ false → with_value w (verdict_at f (shown s)) ≡ verdict_at f (shown s)
  row_passed w showing.Bare h = refl
  row_passed w (showing.Proof nodes last) h = refl
  row_passed w (showing.Table branch is rows) h = absurd (false≢true (sym h))
  row_passed w (showing.Limit l) h = refl

  -- the last node of a proof
  abbrev last_at : List (ProofNode Text) → ProofNode Written → Verdict Written
  last_at nodes n = Proved (map (node_at f) nodes ++ n ∷ [])

  nodes_at : (nodes : List (ProofNode Text)) (n : ProofNode Text) → verdict_at f (Proved (nodes ++ n ∷ [])) ≡ last_at nodes (node_at f n)
  nodes_at nodes n = ap (λ (ns : List (ProofNode Written)). Proved ns) (map-append (node_at f) nodes (n ∷ []))

  on_node_is : (m : ProofNode Written → ProofNode Written) (ns : List (ProofNode Written)) (n : ProofNode Written) → on_node m (Proved (ns ++ n ∷ [])) ≡ Proved (ns ++ m n ∷ [])
  on_node_is m [] n = refl
  on_node_is m (k ∷ ns) n = ap (λ (x : List (ProofNode Written)). Proved x) (last_is m (k ∷ ns) n)

  node_changed : (m : ProofNode Written → ProofNode Written) (nodes : List (ProofNode Text)) (n o : ProofNode Text) → node_at f o ≡ m (node_at f n)
      → verdict_at f (Proved (nodes ++ o ∷ [])) ≡ on_node m (verdict_at f (Proved (nodes ++ n ∷ [])))
  node_changed m nodes n o e =
      nodes_at nodes o
      ∙ (ap (last_at nodes) e
      ∙ (sym (on_node_is m (map (node_at f) nodes) (node_at f n)) ∙ ap (on_node m) (sym (nodes_at nodes n))))

  step_by : (steps : List (Step Text)) (split : Option (Split Text)) (s : Step Text) → has_no_split split ≡ true
      → node_at f (record { steps = steps ++ s ∷ []; split = split }) ≡ with_step (step_at f s) (record { steps = map (step_at f) steps; split = option_map (split_at f) split })
  step_by steps None s h = ap (λ (x : List (Step Written)). record { steps = x; split = None }) (map-append (step_at f) steps (s ∷ []))
  step_by steps (Some x) s h = absurd (false≢true h)

  pub step_shown : (p : Step Text) (s : Showing) → showing_takes_step s ≡ true → verdict_at f (shown (showing_step p s)) ≡ on_node (with_step (step_at f p)) (verdict_at f (shown s))
  step_shown p showing.Bare h = refl
  step_shown p (showing.Proof nodes last) h = node_changed (with_step (step_at f p)) nodes last (record last { steps = last.steps ++ p ∷ [] }) (step_by last.steps last.split p h)
  step_shown p (showing.Table branch is rows) h = absurd (false≢true h)
  step_shown p (showing.Limit l) h = absurd (false≢true h)

  node_same : (m : ProofNode Written → ProofNode Written) (nodes : List (ProofNode Text)) (n : ProofNode Text) → m (node_at f n) ≡ node_at f n
      → on_node m (verdict_at f (Proved (nodes ++ n ∷ []))) ≡ verdict_at f (Proved (nodes ++ n ∷ []))
  node_same m nodes n e = sym (node_changed m nodes n n (sym e))

  step_not : (n : ProofNode Written) (split : Option (Split Text)) (w : Step Written) → has_no_split split ≡ false → spec.more_steps w n (option_map (split_at f) split) ≡ n
  step_not n None w h = absurd (false≢true (sym h))
  step_not n (Some x) w h = refl

  pub step_passed : (w : Step Written) (s : Showing) → showing_takes_step s ≡ false → on_node (with_step w) (verdict_at f (shown s)) ≡ verdict_at f (shown s)
  step_passed w showing.Bare h = absurd (false≢true (sym h))
  step_passed w (showing.Proof nodes last) h = node_same (with_step w) nodes last (step_not (node_at f last) last.split w h)
  step_passed w (showing.Table branch is rows) h = refl
  step_passed w (showing.Limit l) h = refl

  split_by : (steps : List (Step Text)) (split : Option (Split Text)) (x : Split Text) → has_no_split split ≡ true
      → node_at f (record { steps = steps; split = Some x }) ≡ with_split x.cases (f x.atom) (record { steps = map (step_at f) steps; split = option_map (split_at f) split })
  split_by steps None x h = refl
  split_by steps (Some y) x h = absurd (false≢true h)

  pub split_shown : (x : Split Text) (s : Showing) → showing_takes_step s ≡ true → verdict_at f (shown (showing_split x s)) ≡ on_node (with_split x.cases (f x.atom)) (verdict_at f (shown s))
  split_shown x showing.Bare h = refl
  split_shown x (showing.Proof nodes last) h = node_changed (with_split x.cases (f x.atom)) nodes last (record last { split = Some x }) (split_by last.steps last.split x h)
  split_shown x (showing.Table branch is rows) h = absurd (false≢true h)
  split_shown x (showing.Limit l) h = absurd (false≢true h)

  split_not : (n : ProofNode Written) (split : Option (Split Text)) (k : ℕ) (w : Written) → has_no_split split ≡ false → spec.first_split k w n (option_map (split_at f) split) ≡ n
  split_not n None k w h = absurd (false≢true (sym h))
  split_not n (Some x) k w h = refl

  pub split_passed : (k : ℕ) (w : Written) (s : Showing) → showing_takes_step s ≡ false → on_node (with_split k w) (verdict_at f (shown s)) ≡ verdict_at f (shown s)
  split_passed k w showing.Bare h = absurd (false≢true (sym h))
  split_passed k w (showing.Proof nodes last) h = node_same (with_split k w) nodes last (split_not (node_at f last) last.split k w h)
  split_passed k w (showing.Table branch is rows) h = refl
  split_passed k w (showing.Limit l) h = refl

  pub case_shown : (s : Showing) → showing_takes_case s ≡ true → verdict_at f (shown (showing_case s)) ≡ with_case (verdict_at f (shown s))
  case_shown showing.Bare h = refl
  case_shown (showing.Proof nodes last) h = ap (λ (ns : List (ProofNode Written)). Proved ns) (map-append (node_at f) (nodes ++ last ∷ []) (no_steps ∷ []))
  case_shown (showing.Table branch is rows) h = absurd (false≢true h)
  case_shown (showing.Limit l) h = absurd (false≢true h)

  pub case_passed : (s : Showing) → showing_takes_case s ≡ false → with_case (verdict_at f (shown s)) ≡ verdict_at f (shown s)
  case_passed showing.Bare h = absurd (false≢true (sym h))
  case_passed (showing.Proof nodes last) h = absurd (false≢true (sym h))
  case_passed (showing.Table branch is rows) h = refl
  case_passed (showing.Limit l) h = refl
