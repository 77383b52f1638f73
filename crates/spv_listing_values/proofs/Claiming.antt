-- The lines of conditions are read as these conditions.
use Rattle.std.proofs.Common.{◌≡◌, ℕ, zero, suc, true, ◌&&◌, List, [], ◌∷◌, ◌++◌, map, Option, Some, None, refl, sym, ap, ◌∙◌, append_assoc}
use Rattle.std.specs.Prelude.{nat_lt, not}
use Rattle.std.specs.List.{AllByRecursion, list_all}
use Rattle.std.proofs.lemmas.Bool.{false≢true}
use Rattle.std.proofs.lemmas.List.{append-nil}
use Rattle.spv_logic.proofs.list.Tests.{left_true, right_true}
use Rattle.spv_whole.specs.Fraction.{Fraction}
use Rattle.spv_listing_values.specs.declared.data.Header.{Header}
use Rattle.spv_listing_values.specs.declared.data.Step.{Step}
use Rattle.spv_listing_values.specs.declared.data.Split.{Split}
use Rattle.spv_listing_values.specs.declared.data.ProofNode.{ProofNode}
use Rattle.spv_listing_values.specs.declared.data.Instance.{Instance}
use Rattle.spv_listing_values.specs.declared.data.Verdict.{Verdict}
use Rattle.spv_listing_values.specs.declared.data.Verdict.TheVariants.{Proved, Unproved, GaveUp}
use Rattle.spv_listing_values.specs.declared.data.Claim.{Claim}
use Rattle.spv_listing_values.specs.Written.{Written, word}
use Rattle.spv_listing_values.specs.Lines.{number, fraction, kind_word, given_line, goal_line, branch_line, instance_line, value_line, limit_items, step_items, step_line}
use Rattle.spv_listing_values.specs.Page.{split_lines, node_lines, numbers_to, case_numbers, cases_lines, proof_lines, verdict_lines, claim_lines, claims_lines, end_lines, page_lines}
use Rattle.spv_listing_values.specs.Reading.{fact_in, header_of, limit_of, step_of, instance_of, row_of, Reading, on_last, judged, with_verdict, with_branch, with_instance, with_value, no_steps, on_node, with_step, with_split, with_case, with_some, with_header, with_line, with_lines, nothing}
use Rattle.spv_listing_values.specs.Forms.{is_short, is_term, is_step, is_end, ends_rightly, is_node, is_tree, is_proof, is_instance, is_row, is_verdict, is_header, is_claim}
use Rattle.spv_listing_values.proofs.Numerals.{fact_read}
use Rattle.spv_listing_values.proofs.Items.{step_read, limit_read, instance_read, row_read, header_read}

-- ---- one thing behind the other

lines_append : (a b : List (List Written)) (s : Reading) → with_lines s (a ++ b) ≡ with_lines (with_lines s a) b
lines_append [] b s = refl
lines_append (l ∷ a) b s = lines_append a b (with_line s l)

some_is : {X : Type 0} (f : X → Reading → Reading) (o : Option X) (x : X) (s : Reading) → o ≡ Some x → with_some f o s ≡ f x s
some_is f o x s e = ap (λ o. with_some f o s) e

pub last_is : {X : Type 0} (f : X → X) (xs : List X) (x : X) → on_last f (xs ++ x ∷ []) ≡ xs ++ f x ∷ []
last_is f [] x = refl
last_is f (y ∷ []) x = refl
last_is f (y ∷ z ∷ xs) x = ap (λ ys. y ∷ ys) (last_is f (z ∷ xs) x)

-- a condition whose hypotheses were read
abbrev begun : Header → List Written → List (Claim Written) → Reading
begun h given cs = record { asked = Some (record { header = h; given = given; goal = None }); claims = cs }

givens_read : (ts : List Written) (h : Header) (seen : List Written) (cs : List (Claim Written)) → with_lines (begun h seen cs) (map given_line ts) ≡ begun h (seen ++ ts) cs
givens_read [] h seen cs = ap (λ (x : List Written). begun h x cs) (sym (append-nil seen))
givens_read (t ∷ ts) h seen cs = givens_read ts h (seen ++ t ∷ []) cs ∙ ap (λ (x : List Written). begun h x cs) (append_assoc seen (t ∷ []) ts)

-- ---- behind a condition's verdict

module _ (header : Header) (given : List Written) (goal : Written) (before : List (Claim Written)) where
  -- this condition was read, with this verdict so far
  abbrev judging : Verdict Written → Reading
  judging v = record { asked = None; claims = before ++ record { header = header; given = given; goal = goal; verdict = v } ∷ [] }

  judged_is : (f : Verdict Written → Verdict Written) (v : Verdict Written) → judged f (judging v) ≡ judging (f v)
  judged_is f v =
      ap (λ (cs : List (Claim Written)). record { asked = None; claims = cs })
      (last_is (λ c. record c { verdict = f c.verdict }) before (record { header = header; given = given; goal = goal; verdict = v }))

  -- ---- a table

  branch_read : (ts seen : List Written) → with_lines (judging (Unproved seen [] [])) (map branch_line ts) ≡ judging (Unproved (seen ++ ts) [] [])
  branch_read [] seen = ap (λ (x : List Written). judging (Unproved x [] [])) (sym (append-nil seen))
  branch_read (t ∷ ts) seen =
      ap (λ (s : Reading). with_lines s (map branch_line ts)) (judged_is (with_branch t) (Unproved seen [] []))
      ∙ (branch_read ts (seen ++ t ∷ []) ∙ ap (λ (x : List Written). judging (Unproved x [] [])) (append_assoc seen (t ∷ []) ts))

  instances_read : (is : List (Instance Written)) → list_all is_instance is ≡ true → (branch : List Written) (seen : List (Instance Written))
      → with_lines (judging (Unproved branch seen [])) (map instance_line is) ≡ judging (Unproved branch (seen ++ is) [])
  instances_read [] h branch seen = ap (λ (x : List (Instance Written)). judging (Unproved branch x [])) (sym (append-nil seen))
  instances_read (i ∷ is) h branch seen =
      ap (λ (s : Reading). with_lines s (map instance_line is))
      (some_is (λ i. judged (with_instance i)) (instance_of (number i.rule) i.values) i (judging (Unproved branch seen [])) (instance_read i (left_true (is_instance i) (list_all is_instance is) h))
      ∙ judged_is (with_instance i) (Unproved branch seen []))
      ∙ (instances_read is (right_true (is_instance i) (list_all is_instance is) h) branch (seen ++ i ∷ [])
      ∙ ap (λ (x : List (Instance Written)). judging (Unproved branch x [])) (append_assoc seen (i ∷ []) is))

  rows_read : (rows : List (Written × Fraction)) → list_all is_row rows ≡ true → (branch : List Written) (is : List (Instance Written)) (seen : List (Written × Fraction))
      → with_lines (judging (Unproved branch is seen)) (map value_line rows) ≡ judging (Unproved branch is (seen ++ rows))
  rows_read [] h branch is seen = ap (λ (x : List (Written × Fraction)). judging (Unproved branch is x)) (sym (append-nil seen))
  rows_read (r ∷ rows) h branch is seen =
      ap (λ (s : Reading). with_lines s (map value_line rows))
      (some_is (λ r. judged (with_value r)) (row_of r.0 (fraction r.1)) r (judging (Unproved branch is seen)) (row_read r (left_true (is_row r) (list_all is_row rows) h))
      ∙ judged_is (with_value r) (Unproved branch is seen))
      ∙ (rows_read rows (right_true (is_row r) (list_all is_row rows) h) branch is (seen ++ r ∷ [])
      ∙ ap (λ (x : List (Written × Fraction)). judging (Unproved branch is x)) (append_assoc seen (r ∷ []) rows))

  table_read : (branch : List Written) (is : List (Instance Written)) (rows : List (Written × Fraction)) → list_all is_instance is ≡ true → list_all is_row rows ≡ true
      → with_lines (judging (Unproved [] [] [])) (map branch_line branch ++ (map instance_line is ++ map value_line rows)) ≡ judging (Unproved branch is rows)
  table_read branch is rows h k =
      lines_append (map branch_line branch) (map instance_line is ++ map value_line rows) (judging (Unproved [] [] []))
      ∙ (ap (λ (s : Reading). with_lines s (map instance_line is ++ map value_line rows)) (branch_read branch [])
      ∙ (lines_append (map instance_line is) (map value_line rows) (judging (Unproved branch [] []))
      ∙ (ap (λ (s : Reading). with_lines s (map value_line rows)) (instances_read is h branch []) ∙ rows_read rows k branch is [])))

  -- ---- nodes of proofs

  -- the last node of a proof is changed
  on_node_is : (f : ProofNode Written → ProofNode Written) (ns : List (ProofNode Written)) (n : ProofNode Written)
      → on_node f (Proved (ns ++ n ∷ [])) ≡ Proved (ns ++ f n ∷ [])
  on_node_is f [] n = refl
  on_node_is f (m ∷ ns) n = ap (λ (x : List (ProofNode Written)). Proved x) (last_is f (m ∷ ns) n)

  node_judged : (f : ProofNode Written → ProofNode Written) (ns : List (ProofNode Written)) (n : ProofNode Written)
      → judged (on_node f) (judging (Proved (ns ++ n ∷ []))) ≡ judging (Proved (ns ++ f n ∷ []))
  node_judged f ns n = judged_is (on_node f) (Proved (ns ++ n ∷ [])) ∙ ap judging (on_node_is f ns n)

  steps_read : (ss : List (Step Written)) → list_all is_step ss ≡ true → (ns : List (ProofNode Written)) (seen : List (Step Written))
      → with_lines (judging (Proved (ns ++ record { steps = seen; split = None } ∷ []))) (map step_line ss) ≡ judging (Proved (ns ++ record { steps = seen ++ ss; split = None } ∷ []))
  steps_read [] h ns seen = ap (λ (x : List (Step Written)). judging (Proved (ns ++ record { steps = x; split = None } ∷ []))) (sym (append-nil seen))
  steps_read (s ∷ ss) h ns seen =
      ap (λ (r : Reading). with_lines r (map step_line ss))
      (some_is (λ p. judged (on_node (with_step p))) (step_of (step_items s)) s (judging (Proved (ns ++ record { steps = seen; split = None } ∷ [])))
      (step_read s (left_true (is_step s) (list_all is_step ss) h))
      ∙ node_judged (with_step s) ns (record { steps = seen; split = None }))
      ∙ (steps_read ss (right_true (is_step s) (list_all is_step ss) h) ns (seen ++ s ∷ [])
      ∙ ap (λ (x : List (Step Written)). judging (Proved (ns ++ record { steps = x; split = None } ∷ []))) (append_assoc seen (s ∷ []) ss))

  cases_fit : (steps : List (Step Written)) (s : Split Written) → ends_rightly steps (Some s) ≡ true → is_short s.cases ≡ true
  cases_fit steps s h = right_true (nat_lt 0 s.cases) (is_short s.cases) (left_true (nat_lt 0 s.cases && is_short s.cases) (is_term s.atom && list_all (λ p. not (is_end p)) steps) h)

  split_read : (steps : List (Step Written)) (split : Option (Split Written)) → ends_rightly steps split ≡ true → (ns : List (ProofNode Written))
      → with_lines (judging (Proved (ns ++ record { steps = steps; split = None } ∷ []))) (split_lines split) ≡ judging (Proved (ns ++ record { steps = steps; split = split } ∷ []))
  split_read steps None h ns = refl
  split_read steps (Some s) h ns =
      some_is (λ n. judged (on_node (with_split n s.atom))) (fact_in (number s.cases)) s.cases (judging (Proved (ns ++ record { steps = steps; split = None } ∷ [])))
      (fact_read s.cases (cases_fit steps s h))
      ∙ node_judged (with_split s.cases s.atom) ns (record { steps = steps; split = None })

  node_read : (n : ProofNode Written) → is_node n ≡ true → (ns : List (ProofNode Written)) → with_lines (judging (Proved (ns ++ no_steps ∷ []))) (node_lines n) ≡ judging (Proved (ns ++ n ∷ []))
  node_read n h ns =
      lines_append (map step_line n.steps) (split_lines n.split) (judging (Proved (ns ++ no_steps ∷ [])))
      ∙ (ap (λ (s : Reading). with_lines s (split_lines n.split)) (steps_read n.steps (left_true (list_all is_step n.steps) (ends_rightly n.steps n.split) h) ns [])
      ∙ split_read n.steps n.split (right_true (list_all is_step n.steps) (ends_rightly n.steps n.split) h) ns)

  -- ---- trees of nodes

  abbrev IsCase : ℕ → Type 0
  IsCase zero = ⊥
  IsCase (suc i) = Unit {0}

  abbrev AreCases : List ℕ → Type 0
  AreCases waiting = AllByRecursion IsCase waiting

  both_cases : (a b : List ℕ) → AreCases a → AreCases b → AreCases (a ++ b)
  both_cases [] b h k = k
  both_cases (i ∷ a) b h k = (h.0, both_cases a b h.1 k)

  numbers_cases : (n : ℕ) → AreCases (numbers_to n)
  numbers_cases zero = tt
  numbers_cases (suc n) = both_cases (numbers_to n) (suc n ∷ []) (numbers_cases n) (tt, tt)

  split_cases : (s : Option (Split Written)) → AreCases (case_numbers s)
  split_cases None = tt
  split_cases (Some s) = numbers_cases s.cases

  abbrev after_node : List ℕ → ProofNode Written → List (ProofNode Written) → List (List Written)
  after_node waiting n nodes = cases_lines (case_numbers n.split ++ waiting) nodes

  cases_read : (nodes : List (ProofNode Written)) (waiting : List ℕ) → AreCases waiting → is_tree waiting nodes ≡ true → list_all is_node nodes ≡ true → (ns : List (ProofNode Written))
      → with_lines (judging (Proved ns)) (cases_lines waiting nodes) ≡ judging (Proved (ns ++ nodes))
  cases_read [] waiting w tree h ns = ap (λ (x : List (ProofNode Written)). judging (Proved x)) (sym (append-nil ns))
  cases_read (n ∷ nodes) [] w tree h ns = absurd (false≢true tree)
  cases_read (n ∷ nodes) (zero ∷ waiting) w tree h ns = absurd w.0
  cases_read (n ∷ nodes) (suc i ∷ waiting) w tree h ns =
      ap (λ (s : Reading). with_lines s (node_lines n ++ after_node waiting n nodes)) (judged_is with_case (Proved ns))
      ∙ (lines_append (node_lines n) (after_node waiting n nodes) (judging (Proved (ns ++ no_steps ∷ [])))
      ∙ (ap (λ (s : Reading). with_lines s (after_node waiting n nodes)) (node_read n (left_true (is_node n) (list_all is_node nodes) h) ns)
      ∙ (cases_read nodes (case_numbers n.split ++ waiting) (both_cases (case_numbers n.split) waiting (split_cases n.split) w.1) tree (right_true (is_node n) (list_all is_node nodes) h) (ns ++ n ∷ [])
      ∙ ap (λ (x : List (ProofNode Written)). judging (Proved x)) (append_assoc ns (n ∷ []) nodes))))

  -- the first line of a proof makes its root
  same_judged : (f : ProofNode Written → ProofNode Written) → judged (on_node f) (judging (Proved [])) ≡ judged (on_node f) (judging (Proved (no_steps ∷ [])))
  same_judged f = judged_is (on_node f) (Proved []) ∙ sym (judged_is (on_node f) (Proved (no_steps ∷ [])))

  some_same : {X : Type 0} (f : X → Reading → Reading) (o : Option X) (x : X) (s t : Reading) → o ≡ Some x → f x s ≡ f x t → with_some f o s ≡ with_some f o t
  some_same f o x s t e same = some_is f o x s e ∙ (same ∙ sym (some_is f o x t e))

  root_by : (steps : List (Step Written)) (split : Option (Split Written)) → list_all is_step steps ≡ true → ends_rightly steps split ≡ true → (more : List (List Written))
      → with_lines (judging (Proved [])) ((map step_line steps ++ split_lines split) ++ more) ≡ with_lines (judging (Proved (no_steps ∷ []))) ((map step_line steps ++ split_lines split) ++ more)
  root_by [] None h k more = absurd (false≢true k)
  root_by [] (Some s) h k more =
      ap (λ (r : Reading). with_lines r more)
      (some_same (λ n. judged (on_node (with_split n s.atom))) (fact_in (number s.cases)) s.cases (judging (Proved [])) (judging (Proved (no_steps ∷ [])))
      (fact_read s.cases (cases_fit [] s k)) (same_judged (with_split s.cases s.atom)))
  root_by (s ∷ steps) split h k more =
      ap (λ (r : Reading). with_lines r ((map step_line steps ++ split_lines split) ++ more))
      (some_same (λ p. judged (on_node (with_step p))) (step_of (step_items s)) s (judging (Proved [])) (judging (Proved (no_steps ∷ [])))
      (step_read s (left_true (is_step s) (list_all is_step steps) h)) (same_judged (with_step s)))

  root_made : (n : ProofNode Written) (more : List (List Written)) → is_node n ≡ true
      → with_lines (judging (Proved [])) (node_lines n ++ more) ≡ with_lines (judging (Proved (no_steps ∷ []))) (node_lines n ++ more)
  root_made n more h =
      root_by n.steps n.split (left_true (list_all is_step n.steps) (ends_rightly n.steps n.split) h) (right_true (list_all is_step n.steps) (ends_rightly n.steps n.split) h) more

  proof_read : (nodes : List (ProofNode Written)) → is_proof nodes ≡ true → with_lines (judging (Proved [])) (proof_lines nodes) ≡ judging (Proved nodes)
  proof_read [] h = refl
  proof_read (n ∷ nodes) h =
      let all = left_true (list_all is_node (n ∷ nodes)) (is_tree (0 ∷ []) (n ∷ nodes)) h in
      let tree = right_true (list_all is_node (n ∷ nodes)) (is_tree (0 ∷ []) (n ∷ nodes)) h in
      let root = left_true (is_node n) (list_all is_node nodes) all in
      root_made n (after_node [] n nodes) root
      ∙ (lines_append (node_lines n) (after_node [] n nodes) (judging (Proved (no_steps ∷ [])))
      ∙ (ap (λ (s : Reading). with_lines s (after_node [] n nodes)) (node_read n root [])
      ∙ cases_read nodes (case_numbers n.split ++ []) (both_cases (case_numbers n.split) [] (split_cases n.split) tt) tree (right_true (is_node n) (list_all is_node nodes) all) (n ∷ [])))

-- ---- conditions

module _ (header : Header) (given : List Written) (goal : Written) (before : List (Claim Written)) where
  -- the goal was read
  abbrev asked : Reading
  asked = record { asked = Some (record { header = header; given = given; goal = Some goal }); claims = before }

  verdict_read : (v : Verdict Written) → is_verdict v ≡ true → with_lines asked (verdict_lines v) ≡ judging header given goal before v
  verdict_read (Proved nodes) h = proof_read header given goal before nodes h
  verdict_read (Unproved branch is rows) h =
      let k = right_true (list_all is_term branch) (list_all is_instance is && list_all is_row rows) h in
      table_read header given goal before branch is rows (left_true (list_all is_instance is) (list_all is_row rows) k) (right_true (list_all is_instance is) (list_all is_row rows) k)
  verdict_read (GaveUp l) h = some_is (λ l. with_verdict (GaveUp l)) (limit_of (limit_items l)) l asked (limit_read l h)

claim_read : (c : Claim Written) → is_claim c ≡ true → (k : ℕ) (s : Reading)
    → with_lines s (claim_lines k c) ≡ record { asked = None; claims = s.claims ++ c ∷ [] }
claim_read c h k s =
    let header = left_true (is_header c.header) (list_all is_term c.given && (is_term c.goal && is_verdict c.verdict)) h in
    let rest = right_true (is_header c.header) (list_all is_term c.given && (is_term c.goal && is_verdict c.verdict)) h in
    let verdict = right_true (is_term c.goal) (is_verdict c.verdict) (right_true (list_all is_term c.given) (is_term c.goal && is_verdict c.verdict) rest) in
    ap (λ (r : Reading). with_lines r (map given_line c.given ++ goal_line c.goal ∷ verdict_lines c.verdict))
    (some_is with_header (header_of (word c.header.routine) (word (kind_word c.header.kind)) (number c.header.line)) c.header s (header_read c.header header))
    ∙ (lines_append (map given_line c.given) (goal_line c.goal ∷ verdict_lines c.verdict) (begun c.header [] s.claims)
    ∙ (ap (λ (r : Reading). with_lines r (goal_line c.goal ∷ verdict_lines c.verdict)) (givens_read c.given c.header [] s.claims)
    ∙ verdict_read c.header c.given c.goal s.claims c.verdict verdict))

claims_read : (cs : List (Claim Written)) → list_all is_claim cs ≡ true → (k : ℕ) (s : Reading) → (with_lines s (claims_lines k cs)).claims ≡ s.claims ++ cs
claims_read [] h k s = sym (append-nil s.claims)
claims_read (c ∷ cs) h k s =
    ap (λ (r : Reading). r.claims) (lines_append (claim_lines k c) (claims_lines (suc k) cs) s)
    ∙ (ap (λ (r : Reading). (with_lines r (claims_lines (suc k) cs)).claims) (claim_read c (left_true (is_claim c) (list_all is_claim cs) h) k s)
    ∙ (claims_read cs (right_true (is_claim c) (list_all is_claim cs) h) (suc k) (record { asked = None; claims = s.claims ++ c ∷ [] })
    ∙ append_assoc s.claims (c ∷ []) cs))

-- the lines of a page are read as the conditions that it is of
pub page_read : (cs : List (Claim Written)) → list_all is_claim cs ≡ true → (with_lines nothing (page_lines cs)).claims ≡ cs
page_read cs h = ap (λ (r : Reading). r.claims) (lines_append (claims_lines 1 cs) (end_lines cs) nothing) ∙ claims_read cs h 1 nothing
