-- The page of a report as it is printed, and as the page of a listing.
use Rattle.std.proofs.Common.{◌≡◌, ℕ, zero, suc, ◌+◌, ◌-◌, cond, Bool, true, false, Option, List, [], ◌∷◌, ◌++◌, map, length, codes, decimal, refl, sym, ap, ◌∙◌, append_assoc, append-nil}
use Rattle.std.specs.List.{flat_map, count_by}
use Rattle.std.specs.Fmt.{digits}
use Rattle.std.proofs.lemmas.Grind.{flat_map-append}
use Rattle.std.proofs.lemmas.List.Sums.{sum_by-cons}
use Rattle.spv_whole.specs.Fraction.{Fraction}
use Rattle.spv_logic.specs.declared.names.names.Symbol.{Symbol}
use Rattle.spv_logic.specs.declared.conditions.TermId.{TermId}
use Rattle.spv_logic.specs.declared.conditions.Kind.{Kind}
use Rattle.spv_logic.specs.declared.conditions.Kind.TheVariants as kind
use Rattle.spv_logic.specs.declared.conditions.Origin.{Origin}
use Rattle.spv_logic.specs.Terms.{Term}
use Rattle.spv_logic.specs.Conditions.{Condition}
use Rattle.spv_frac.specs.declared.frac.Op.{Op}
use Rattle.spv_frac.specs.declared.frac.Op.TheVariants as op
use Rattle.spv_term.specs.Arena.{tree}
use Rattle.spv_atoms.specs.declared.proofs.ProofNode.{ProofNode}
use Rattle.spv_models.specs.split_trees.Trees.{splits}
use Rattle.spv_verdicts.specs.Verdicts.{Instance, Round, Verdict, Proved, Unproved, GaveUp, NotAccepted, Limit, Splits, TooManyInstances, WideForm, WidePivot, WideSum, WideEvaluation, Pivots, TooManyTerms}
use Rattle.spv_verdicts.specs.declared.answers.verdicts.Decided.{Decided}
use Rattle.spv_verdicts.specs.declared.answers.verdicts.Verdict.TheVariants as answer
use Rattle.spv_verdicts.specs.declared.answers.verdicts.Verdict as answers
use Rattle.spv_verdicts.specs.answers.Views.{verdict_in}
use Rattle.spv_assign.specs.Conditions.{conditions_of}
use Rattle.spv_reports.specs.declared.report.ProgramNames.{ProgramNames}
use Rattle.spv_reports.specs.Headings.{routine_text, header_of}
use Rattle.spv_rechecking.specs.written_terms.Printing.{written_of}
use Rattle.spv_reports.specs.Reports.{Findings}
use Rattle.spv_listing_values.specs.declared.data.Claim.{Claim}
use Rattle.spv_listing_values.specs.Written.{Written, line_bytes}
use Rattle.spv_listing_values.specs.Written as listed
use Rattle.spv_listing_values.specs.Blanks.{blanks, lines_bytes}
use Rattle.spv_listing_values.specs.Lines as lines
use Rattle.spv_listing_values.specs.Page as pages
use Rattle.spv_listing_values.specs.declared.data.Limit.TheVariants as listed_limit
use Rattle.spv_listing.specs.printed.Printed.{line, fraction_text, term_text}
use Rattle.spv_listing.specs.verdict_pages.ProofLines.{blank_term}
use Rattle.spv_listing.specs.verdict_pages.VerdictLines.{branch_line, value_line, instance_line, member_count, operation_text, limit_text, with_truth, wanted_proof, verdict_lines, decided_lines}
use Rattle.spv_listing.specs.verdict_pages.Totals.{proves, falsifies, gives_up, is_proved, is_unproved, is_given_up, counted, counts_line, result_text, total_lines}
use Rattle.spv_listing.specs.Page.{kind_word, heading, given_line, goal_line, condition_lines, blocks, verdicts_page}
use Rattle.spv_listing.specs.Listings.{Writing, nodes_of, branch_of, value_of, instance_of, limit_of, verdict_of, writing, claim_of, claims_of, listing_in, IsListedLimit, IsListedVerdict, AreListed}
use Rattle.spv_listing.proofs.WrittenProofs.{line_written, number_written, one_written, terms_written, blank_written, proof_written}

two_texts : (a b : List ℕ) → a ++ codes " " ++ b ≡ a ++ (32 ∷ (b ++ []))
two_texts a b = append_assoc a (codes " ") b ∙ ap (λ (l : List ℕ). a ++ (32 ∷ l)) (sym (append-nil b))

module _ (names : List (List ℕ)) (titles : List (Option Symbol)) where
  abbrev w : Writing
  w t = written_of names titles t

  -- ---- a table that refutes a condition

  branches_written : (rows : List (Term × Bool)) → flat_map (branch_line names titles) rows ≡ lines_bytes (map lines.branch_line (map (branch_of w) rows))
  branches_written [] = refl
  branches_written (row ∷ rows) =
      ap (λ (l : List ℕ). l ++ flat_map (branch_line names titles) rows)
      (line_written (codes "BRANCH") (codes "BRANCH " ++ term_text names titles (with_truth row.0 row.1)) (w (with_truth row.0 row.1) ∷ [])
      (ap (λ (l : List ℕ). codes "BRANCH" ++ l) (one_written names titles (with_truth row.0 row.1))))
      ∙ ap (λ (l : List ℕ). line_bytes (lines.branch_line (w (with_truth row.0 row.1))) ++ l) (branches_written rows)

  instance_text : (i : Instance) → codes "INSTANCE " ++ decimal i.rule ++ flat_map (blank_term names titles) i.values
      ≡ codes "INSTANCE" ++ blanks (lines.number i.rule ∷ map w i.values)
  instance_text i = ap (λ (l : List ℕ). codes "INSTANCE " ++ (decimal i.rule ++ l)) (terms_written names titles i.values)

  instances_written : (is : List Instance) → flat_map (instance_line names titles) is ≡ lines_bytes (map lines.instance_line (map (instance_of w) is))
  instances_written [] = refl
  instances_written (i ∷ is) =
      ap (λ (l : List ℕ). l ++ flat_map (instance_line names titles) is)
      (line_written (codes "INSTANCE") (codes "INSTANCE " ++ decimal i.rule ++ flat_map (blank_term names titles) i.values)
      (lines.number i.rule ∷ map w i.values) (instance_text i))
      ∙ ap (λ (l : List ℕ). line_bytes (lines.instance_line (instance_of w i)) ++ l) (instances_written is)

  value_text : (t : Term) (x : Fraction) → codes "VALUE " ++ term_text names titles t ++ codes " " ++ fraction_text x ≡ codes "VALUE" ++ blanks (w t ∷ lines.fraction x ∷ [])
  value_text t x =
      ap (λ (l : List ℕ). codes "VALUE " ++ l) (two_texts (term_text names titles t) (fraction_text x))
      ∙ ap (λ (l : List ℕ). codes "VALUE" ++ (l ++ (32 ∷ (fraction_text x ++ [])))) (blank_written names titles t)

  values_written : (rows : List (Term × Fraction)) → flat_map (value_line names titles) rows ≡ lines_bytes (map lines.value_line (map (value_of w) rows))
  values_written [] = refl
  values_written (row ∷ rows) =
      ap (λ (l : List ℕ). l ++ flat_map (value_line names titles) rows)
      (line_written (codes "VALUE") (codes "VALUE " ++ term_text names titles row.0 ++ codes " " ++ fraction_text row.1) (w row.0 ∷ lines.fraction row.1 ∷ []) (value_text row.0 row.1))
      ∙ ap (λ (l : List ℕ). line_bytes (lines.value_line (value_of w row)) ++ l) (values_written rows)

  -- ---- limits

  operation_written : (o : Op) (x y : Fraction) → codes "GAVE UP " ++ operation_text o x y ≡ codes "GAVE UP" ++ blanks (lines.limit_items (listed_limit.Wide o x y))
  operation_written op.Add x y = ap (λ (l : List ℕ). codes "GAVE UP NUMBER ADD " ++ l) (two_texts (fraction_text x) (fraction_text y))
  operation_written op.Sub x y = ap (λ (l : List ℕ). codes "GAVE UP NUMBER SUB " ++ l) (two_texts (fraction_text x) (fraction_text y))
  operation_written op.Mul x y = ap (λ (l : List ℕ). codes "GAVE UP NUMBER MUL " ++ l) (two_texts (fraction_text x) (fraction_text y))
  operation_written op.Div x y = ap (λ (l : List ℕ). codes "GAVE UP NUMBER DIV " ++ l) (two_texts (fraction_text x) (fraction_text y))
  operation_written op.Cmp x y = ap (λ (l : List ℕ). codes "GAVE UP NUMBER CMP " ++ l) (two_texts (fraction_text x) (fraction_text y))

  limit_written : (rounds : List Round) (l : Limit) → IsListedLimit l → codes "GAVE UP " ++ limit_text names titles rounds l ≡ codes "GAVE UP" ++ blanks (lines.limit_items (limit_of w rounds l))
  limit_written rounds (Splits t) is = ap (λ (l : List ℕ). codes "GAVE UP SPLITS" ++ l) (number_written (splits t))
  limit_written rounds TooManyInstances is = ap (λ (l : List ℕ). codes "GAVE UP INSTANCES" ++ l) (number_written (member_count rounds - 1))
  limit_written rounds (WideForm t) is = ap (λ (l : List ℕ). codes "GAVE UP NUMBER FORM" ++ l) (one_written names titles t)
  limit_written rounds (WidePivot start steps o) is = operation_written o.op o.left.fraction o.right.fraction
  limit_written rounds (WideSum nodes x) is = operation_written x.op x.left x.right
  limit_written rounds (WideEvaluation table t x) is = operation_written x.op x.left x.right
  limit_written rounds (Pivots start steps) is = ap (λ (l : List ℕ). codes "GAVE UP PIVOTS" ++ l) (number_written (length steps))
  limit_written rounds (TooManyTerms n) is = ap (λ (k : ℕ). codes "GAVE UP TERMS " ++ decimal k) is ∙ ap (λ (l : List ℕ). codes "GAVE UP TERMS" ++ l) (number_written 1000000)

  -- ---- verdicts

  wanted_written : (proofs : Bool) (at : TermId → Term) (nodes : List ProofNode) → wanted_proof proofs names titles at nodes ≡ lines_bytes (pages.proof_lines (nodes_of proofs names w at nodes))
  wanted_written false at nodes = refl
  wanted_written true at nodes = proof_written names titles at nodes

  pub verdict_written : (proofs : Bool) (at : TermId → Term) (v : Verdict) → IsListedVerdict v → verdict_lines proofs names titles at v ≡ lines_bytes (pages.verdict_lines (verdict_of proofs names w at v))
  verdict_written proofs at (Proved nodes) is = ap (λ (l : List ℕ). codes "PROVED\n" ++ l) (wanted_written proofs at nodes)
  verdict_written proofs at (Unproved branch table instances) is =
      ap (λ (l : List ℕ). codes "UNPROVED\n" ++ l)
      (append_assoc (flat_map (branch_line names titles) branch) (flat_map (instance_line names titles) instances) (flat_map (value_line names titles) table)
      ∙ (ap (λ (l : List ℕ). l ++ (flat_map (instance_line names titles) instances ++ flat_map (value_line names titles) table)) (branches_written branch)
      ∙ (ap (λ (l : List ℕ). lines_bytes bs ++ (l ++ flat_map (value_line names titles) table)) (instances_written instances)
      ∙ (ap (λ (l : List ℕ). lines_bytes bs ++ (lines_bytes is2 ++ l)) (values_written table)
      ∙ (ap (λ (l : List ℕ). lines_bytes bs ++ l) (sym (flat_map-append line_bytes is2 vs))
      ∙ sym (flat_map-append line_bytes bs (is2 ++ vs)))))))
    where
      bs : List (List Written)
      bs = map lines.branch_line (map (branch_of w) branch)

      is2 : List (List Written)
      is2 = map lines.instance_line (map (instance_of w) instances)

      vs : List (List Written)
      vs = map lines.value_line (map (value_of w) table)
  verdict_written proofs at (GaveUp rounds l) is =
      line_written (codes "GAVE") (codes "GAVE UP " ++ limit_text names titles rounds l) (listed.word (codes "UP") ∷ lines.limit_items (limit_of w rounds l)) (limit_written rounds l is)
      ∙ sym (append-nil (line_bytes (lines.limit_line (limit_of w rounds l))))
  verdict_written proofs at NotAccepted is = absurd is

  -- ---- conditions

  givens_written : (ts : List Term) → flat_map (given_line names titles) ts ≡ lines_bytes (map lines.given_line (map w ts))
  givens_written [] = refl
  givens_written (t ∷ ts) =
      ap (λ (l : List ℕ). l ++ flat_map (given_line names titles) ts)
      (line_written (codes "GIVEN") (codes "GIVEN " ++ term_text names titles t) (w t ∷ []) (ap (λ (l : List ℕ). codes "GIVEN" ++ l) (one_written names titles t)))
      ∙ ap (λ (l : List ℕ). line_bytes (lines.given_line (w t)) ++ l) (givens_written ts)

  goal_written : (t : Term) → goal_line names titles t ≡ line_bytes (lines.goal_line (w t))
  goal_written t =
      line_written (codes "GOAL") (codes "GOAL " ++ term_text names titles t) (w t ∷ []) (ap (λ (l : List ℕ). codes "GOAL" ++ l) (one_written names titles t))

kind_same : (k : Kind) → kind_word k ≡ lines.kind_word k
kind_same kind.Exit = refl
kind_same kind.Assert = refl
kind_same kind.Invariant = refl
kind_same kind.Preserved = refl
kind_same kind.Entry = refl

heading_text : (n routine word line : List ℕ) → codes "CONDITION " ++ n ++ codes " " ++ routine ++ codes " " ++ word ++ codes " LINE " ++ line
    ≡ codes "CONDITION " ++ (n ++ (32 ∷ (routine ++ (32 ∷ (word ++ (codes " LINE " ++ line))))))
heading_text n routine word line = simp (append_assoc) refl

-- the word for a verdict that fails
abbrev failing : List ℕ
failing = codes "UNPROVED"

-- a count, and behind it what it counts, with further text behind them
counted_behind : (n word behind : List ℕ) → (codes " " ++ n ++ codes " " ++ word) ++ behind ≡ 32 ∷ (n ++ (32 ∷ (word ++ behind)))
counted_behind n word behind = ap (λ (l : List ℕ). 32 ∷ l) (append_assoc (n ++ codes " ") word behind ∙ append_assoc n (codes " ") (word ++ behind))

total_text : (p u g : List ℕ) → codes "TOTAL" ++ (codes " " ++ p ++ codes " " ++ codes "PROVED") ++ (codes " " ++ u ++ codes " " ++ failing) ++ (codes " " ++ g ++ codes " " ++ codes "GAVE UP")
    ≡ codes "TOTAL " ++ (p ++ (codes " PROVED " ++ (u ++ (codes " UNPROVED " ++ (g ++ codes " GAVE UP")))))
total_text p u g =
    append_assoc (codes "TOTAL" ++ proved) unproved given_up
    ∙ (append_assoc (codes "TOTAL") proved (unproved ++ given_up)
    ∙ ap (λ (l : List ℕ). codes "TOTAL" ++ l)
    (counted_behind p (codes "PROVED") (unproved ++ given_up)
    ∙ ap (λ (l : List ℕ). 32 ∷ (p ++ (32 ∷ (codes "PROVED" ++ l))))
    (counted_behind u failing given_up
    ∙ ap (λ (l : List ℕ). 32 ∷ (u ++ (32 ∷ (failing ++ l)))) (ap (λ (l : List ℕ). 32 ∷ l) (append_assoc g (codes " ") (codes "GAVE UP"))))))
  where
    proved : List ℕ
    proved = codes " " ++ p ++ codes " " ++ codes "PROVED"

    unproved : List ℕ
    unproved = codes " " ++ u ++ codes " " ++ failing

    given_up : List ℕ
    given_up = codes " " ++ g ++ codes " " ++ codes "GAVE UP"

total_written : (p u g : ℕ) → counts_line failing p u g ≡ line_bytes (pages.total_line p u g)
total_written p u g =
    line_written (codes "TOTAL") (codes "TOTAL" ++ counted p (codes "PROVED") ++ counted u failing ++ counted g (codes "GAVE UP"))
    (lines.number p ∷ listed.word (codes "PROVED") ∷ lines.number u ∷ listed.word (codes "UNPROVED") ∷ lines.number g ∷ listed.word (codes "GAVE") ∷ listed.word (codes "UP") ∷ [])
    (total_text (decimal p) (decimal u) (decimal g))

result_written : (u g : ℕ) → line (result_text failing u g) ≡ line_bytes (pages.result_line u g)
result_written zero zero = refl
result_written zero (suc g) = refl
result_written (suc u) g = refl

module _ (proofs : Bool) (named : ProgramNames) where
  heading_written : (k : ℕ) (o : Origin) → line (heading named k o) ≡ line_bytes (lines.heading k (header_of named o))
  heading_written k o =
      line_written (codes "CONDITION") (heading named k o)
      (lines.number k ∷ listed.word (routine_text named o.routine) ∷ listed.word (lines.kind_word o.kind) ∷ listed.word (codes "LINE") ∷ lines.number o.line ∷ [])
      (heading_text (decimal k) (routine_text named o.routine) (kind_word o.kind) (decimal o.line)
      ∙ (ap (λ (l : List ℕ). codes "CONDITION " ++ (decimal k ++ (32 ∷ (routine_text named o.routine ++ (32 ∷ (l ++ (codes " LINE " ++ decimal o.line))))))) (kind_same o.kind)
      ∙ ap (λ (l : List ℕ). codes "CONDITION " ++ (decimal k ++ (32 ∷ (routine_text named o.routine ++ (32 ∷ (lines.kind_word o.kind ++ (codes " LINE" ++ l))))))) (number_written o.line)))

  condition_written : (k : ℕ) (c : Condition) (d : Decided) → IsListedVerdict (verdict_in d.terms d.verdict)
      → condition_lines proofs named k c d ≡ lines_bytes (pages.claim_lines k (claim_of proofs named c d))
  condition_written k c d is =
      ap (λ (l : List ℕ). l ++ flat_map (given_line named.names named.titles) c.claim.given ++ goal_line named.names named.titles c.claim.goal ++ told) (heading_written k c.origin)
      ∙ (ap (λ (l : List ℕ). first ++ l ++ goal_line named.names named.titles c.claim.goal ++ told) (givens_written named.names named.titles c.claim.given)
      ∙ (ap (λ (l : List ℕ). first ++ lines_bytes givens ++ l ++ told) (goal_written named.names named.titles c.claim.goal)
      ∙ (ap (λ (l : List ℕ). first ++ lines_bytes givens ++ goal ++ l) (verdict_written named.names named.titles proofs (tree d.terms) (verdict_in d.terms d.verdict) is)
      ∙ (nested first (lines_bytes givens) goal (lines_bytes behind)
      ∙ ap (λ (l : List ℕ). first ++ l) (sym (flat_map-append line_bytes givens (lines.goal_line (writing named c.claim.goal) ∷ behind)))))))
    where
      told : List ℕ
      told = decided_lines proofs named.names named.titles d

      first : List ℕ
      first = line_bytes (lines.heading k (header_of named c.origin))

      givens : List (List Written)
      givens = map lines.given_line (map (writing named) c.claim.given)

      goal : List ℕ
      goal = line_bytes (lines.goal_line (writing named c.claim.goal))

      behind : List (List Written)
      behind = pages.verdict_lines (verdict_of proofs named.names (writing named) (tree d.terms) (verdict_in d.terms d.verdict))

      nested : (a b x y : List ℕ) → a ++ b ++ x ++ y ≡ a ++ (b ++ (x ++ y))
      nested a b x y = simp (append_assoc) refl

  blocks_written : (k : ℕ) (cs : List Condition) (ds : List Decided) → AreListed cs ds → blocks proofs named k cs ds ≡ lines_bytes (pages.claims_lines k (claims_of proofs named cs ds))
  blocks_written k [] [] are = refl
  blocks_written k [] (d ∷ ds) are = absurd are
  blocks_written k (c ∷ cs) [] are = absurd are
  blocks_written k (c ∷ cs) (d ∷ ds) are =
      ap (λ (l : List ℕ). l ++ blocks proofs named (suc k) cs ds) (condition_written k c d are.0)
      ∙ (ap (λ (l : List ℕ). lines_bytes (pages.claim_lines k (claim_of proofs named c d)) ++ l) (blocks_written (suc k) cs ds are.1)
      ∙ sym (flat_map-append line_bytes (pages.claim_lines k (claim_of proofs named c d)) (pages.claims_lines (suc k) (claims_of proofs named cs ds))))

  -- ---- totals

  -- a condition with this verdict
  abbrev with_verdict : Condition → Decided → answers.Verdict → Claim Written
  with_verdict c d v = record {
    header = header_of named c.origin;
    given = map (writing named) c.claim.given;
    goal = writing named c.claim.goal;
    verdict = verdict_of proofs named.names (writing named) (tree d.terms) (verdict_in d.terms v);
  }

  proved_same : (c : Condition) (d : Decided) (v : answers.Verdict) → IsListedVerdict (verdict_in d.terms v) → proves v ≡ pages.is_proved (with_verdict c d v)
  proved_same c d (answer.Proved nodes) is = refl
  proved_same c d (answer.Unproved u) is = refl
  proved_same c d (answer.GaveUp rounds l) is = refl
  proved_same c d answer.NotAccepted is = absurd is

  unproved_same : (c : Condition) (d : Decided) (v : answers.Verdict) → IsListedVerdict (verdict_in d.terms v) → falsifies v ≡ pages.is_unproved (with_verdict c d v)
  unproved_same c d (answer.Proved nodes) is = refl
  unproved_same c d (answer.Unproved u) is = refl
  unproved_same c d (answer.GaveUp rounds l) is = refl
  unproved_same c d answer.NotAccepted is = absurd is

  given_up_same : (c : Condition) (d : Decided) (v : answers.Verdict) → IsListedVerdict (verdict_in d.terms v) → gives_up v ≡ pages.is_given_up (with_verdict c d v)
  given_up_same c d (answer.Proved nodes) is = refl
  given_up_same c d (answer.Unproved u) is = refl
  given_up_same c d (answer.GaveUp rounds l) is = refl
  given_up_same c d answer.NotAccepted is = absurd is

  count_same : (p : Decided → Bool) (q : Claim Written → Bool) → ((c : Condition) (d : Decided) → IsListedVerdict (verdict_in d.terms d.verdict) → p d ≡ q (claim_of proofs named c d))
      → (cs : List Condition) (ds : List Decided) → AreListed cs ds → count_by p ds ≡ count_by q (claims_of proofs named cs ds)
  count_same p q each [] [] are = refl
  count_same p q each [] (d ∷ ds) are = absurd are
  count_same p q each (c ∷ cs) [] are = absurd are
  count_same p q each (c ∷ cs) (d ∷ ds) are =
      sum_by-cons (λ (x : Decided). cond (p x) 1 0) d ds
      ∙ (ap (λ (b : Bool). cond b 1 0 + count_by p ds) (each c d are.0)
      ∙ (ap (λ (n : ℕ). cond (q (claim_of proofs named c d)) 1 0 + n) (count_same p q each cs ds are.1)
      ∙ sym (sum_by-cons (λ (x : Claim Written). cond (q x) 1 0) (claim_of proofs named c d) (claims_of proofs named cs ds))))

  -- ---- the page

  end_written : (cs : List Condition) (ds : List Decided) → AreListed cs ds → total_lines ds ≡ lines_bytes (pages.end_lines (claims_of proofs named cs ds))
  end_written cs ds are =
      ap (λ (n : ℕ). counts_line failing n (count_by is_unproved ds) (count_by is_given_up ds) ++ line (result_text failing (count_by is_unproved ds) (count_by is_given_up ds)))
      (count_same is_proved pages.is_proved (λ c d is. proved_same c d d.verdict is) cs ds are)
      ∙ (ap (λ (n : ℕ). counts_line failing proved n (count_by is_given_up ds) ++ line (result_text failing n (count_by is_given_up ds)))
      (count_same is_unproved pages.is_unproved (λ c d is. unproved_same c d d.verdict is) cs ds are)
      ∙ (ap (λ (n : ℕ). counts_line failing proved unproved n ++ line (result_text failing unproved n))
      (count_same is_given_up pages.is_given_up (λ c d is. given_up_same c d d.verdict is) cs ds are)
      ∙ (ap (λ (l : List ℕ). l ++ line (result_text failing unproved given_up)) (total_written proved unproved given_up)
      ∙ ap (λ (l : List ℕ). line_bytes (pages.total_line proved unproved given_up) ++ l)
      (result_written unproved given_up ∙ sym (append-nil (line_bytes (pages.result_line unproved given_up)))))))
    where
      all : List (Claim Written)
      all = claims_of proofs named cs ds

      proved : ℕ
      proved = count_by pages.is_proved all

      unproved : ℕ
      unproved = count_by pages.is_unproved all

      given_up : ℕ
      given_up = count_by pages.is_given_up all

title_written : line (codes "SPV LISTING 1") ≡ line_bytes pages.title
unfolding digits
title_written = refl

-- what the page of a report with verdicts says, is a listing with its bytes
pub page_written : (r : Findings) → AreListed (conditions_of r.arena r.conditions) r.verdicts
    → verdicts_page r.proofs r.named r.arena r.conditions r.verdicts ≡ pages.page (listing_in r)
page_written r are =
    append_assoc (line (codes "SPV LISTING 1")) (blocks r.proofs r.named 1 conditions r.verdicts) (total_lines r.verdicts)
    ∙ (ap (λ (l : List ℕ). l ++ (blocks r.proofs r.named 1 conditions r.verdicts ++ total_lines r.verdicts)) title_written
    ∙ ap (λ (l : List ℕ). line_bytes pages.title ++ l)
    (ap (λ (l : List ℕ). l ++ total_lines r.verdicts) (blocks_written r.proofs r.named 1 conditions r.verdicts are)
    ∙ (ap (λ (l : List ℕ). lines_bytes (pages.claims_lines 1 (listing_in r)) ++ l) (end_written r.proofs r.named conditions r.verdicts are)
    ∙ sym (flat_map-append line_bytes (pages.claims_lines 1 (listing_in r)) (pages.end_lines (listing_in r))))))
  where
    conditions : List Condition
    conditions = conditions_of r.arena r.conditions
