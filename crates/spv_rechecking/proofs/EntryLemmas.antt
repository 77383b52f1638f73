-- What the form of an entry says of the proof that it has, over plain variables.
use Rattle.std.proofs.Common.{◌≡◌, ℕ, zero, suc, ◌+◌, ◌-◌, ◌<◌, Bool, true, ◌&&◌, not, Option, Some, None, All, List, [], ◌∷◌, map, length, nat_lt, refl, sym, ap, subst, ◌∙◌, arith}
use Rattle.std.specs.List.{list_all}
use Rattle.std.specs.Option.{option_map}
use Rattle.std.proofs.lemmas.Bool.{false≢true, eqb-true}
use Rattle.std.proofs.lemmas.List.Elements.{All-nil, All-weaker, recursion_from_All}
use Rattle.spv_logic.proofs.list.Tests.{left_true, right_true}
use Rattle.spv_listing_values.specs.declared.texts.Text.{Text}
use Rattle.spv_listing_values.specs.declared.data.Step.{Step}
use Rattle.spv_listing_values.specs.declared.data.Split.{Split}
use Rattle.spv_listing_values.specs.declared.data.ProofNode.{ProofNode}
use Rattle.spv_listing_values.specs.declared.data.Verdict as said
use Rattle.spv_listing_values.specs.declared.data.Verdict.TheVariants as verdict
use Rattle.spv_listing_values.specs.declared.data.Claim.{Claim}
use Rattle.spv_listing_values.specs.Written.{Written}
use Rattle.spv_listing_values.specs.Mapped.{step_at, split_at, node_at, verdict_at, step_terms, split_terms}
use Rattle.spv_listing_values.specs.Places.{Flat, AreBefore, tree}
use Rattle.spv_listing_values.specs.Forms as form
use Rattle.spv_listing_values.specs.Blanks.{case_count}
use Rattle.spv_listing_values.specs.Entries.{IsEntry, written_claim}
use Rattle.spv_listing_values.specs.Waiting.{AreIn, NodeIn, VerdictIn}
use Rattle.spv_listing_values.proofs.Judging.{IsWaiting, waiting_first, waiting_more, waiting_none, waiting_done}
use Rattle.spv_listing_values.proofs.Numerals.{both_true}
use Rattle.spv_rechecking.specs.Rechecked.{proof_of, has_node}
use Rattle.spv_rechecking.specs.Parts.{cases_of, counts, are_trees, has_cases}
use Rattle.spv_rechecking.specs.Converted.{StepsPlaced, NodesPlaced}

-- ---- each split has a case, and the nodes are a tree

module _ (f : Text → Written) where
  proof_form : (v : said.Verdict Text) → form.is_verdict (verdict_at f v) ≡ true → form.is_proof (map (node_at f) (proof_of v)) ≡ true
  proof_form (verdict.Proved nodes) h = h
  proof_form (verdict.Unproved branch instances table) h = refl
  proof_form (verdict.GaveUp l) h = refl

  split_cases : (n : ProofNode Text) (s : Option (Split Text)) → n.split ≡ s → (steps : List (Step Written)) → form.ends_rightly steps (option_map (split_at f) s) ≡ true → has_cases n ≡ true
  split_cases n None e steps h = ap (λ t. elim t as (λ _. Bool) [ None ↦ true | Some r ↦ nat_lt 0 r.cases ]) e
  split_cases n (Some s) e steps h =
      ap (λ t. elim t as (λ _. Bool) [ None ↦ true | Some r ↦ nat_lt 0 r.cases ]) e
      ∙ left_true (nat_lt 0 s.cases) (form.is_short s.cases) (left_true (nat_lt 0 s.cases && form.is_short s.cases) (form.is_term (f s.atom) && list_all (λ p. not (form.is_end p)) steps) h)

  node_cases : (n : ProofNode Text) → form.is_node (node_at f n) ≡ true → has_cases n ≡ true
  node_cases n h =
      split_cases n n.split refl (map (step_at f) n.steps)
      (right_true (list_all form.is_step (map (step_at f) n.steps)) (form.ends_rightly (map (step_at f) n.steps) (option_map (split_at f) n.split)) h)

  all_cases : (ns : List (ProofNode Text)) → list_all form.is_node (map (node_at f) ns) ≡ true → list_all has_cases ns ≡ true
  all_cases [] h = refl
  all_cases (n ∷ ns) h =
      both_true (has_cases n) (list_all has_cases ns) (node_cases n (left_true (form.is_node (node_at f n)) (list_all form.is_node (map (node_at f) ns)) h))
      (all_cases ns (right_true (form.is_node (node_at f n)) (list_all form.is_node (map (node_at f) ns)) h))

  form_cases : (ns : List (ProofNode Text)) → form.is_proof (map (node_at f) ns) ≡ true → list_all has_cases ns ≡ true
  form_cases [] h = refl
  form_cases (n ∷ ns) h = all_cases (n ∷ ns) (left_true (list_all form.is_node (map (node_at f) (n ∷ ns))) (form.is_tree (0 ∷ []) (map (node_at f) (n ∷ ns))) h)

  same_count : (s : Option (Split Text)) (k : ℕ) → suc k - 1 + case_count s ≡ cases_of s + k
  same_count None k = omega arith
  same_count (Some s) k = omega arith

  trees_waiting : (ns : List (ProofNode Text)) (count : ℕ) → IsWaiting f ns true count → are_trees count (counts ns) ≡ true
  trees_waiting [] zero w = refl
  trees_waiting [] (suc k) w = absurd (never k (eqb-true (suc k) 0 (waiting_done f [] true (suc k) w refl)))
    where
      never : (j : ℕ) → suc j ≡ 0 → ⊥
      never j e = omega (arith, e)
  trees_waiting (n ∷ ns) zero w = absurd (false≢true (waiting_none f (n ∷ ns) ns true 0 n refl w refl))
  trees_waiting (n ∷ ns) (suc k) w = trees_waiting ns (cases_of n.split + k) (subst (IsWaiting f ns true) (same_count n.split k) (waiting_more f (n ∷ ns) ns true (suc k) n refl w (some k)))
    where
      some : (j : ℕ) → suc j ≡ 0 → ⊥
      some j e = omega (arith, e)

  form_trees : (ns : List (ProofNode Text)) → form.is_proof (map (node_at f) ns) ≡ true → has_node ns ≡ true → are_trees 1 (counts ns) ≡ true
  form_trees [] h k = absurd (false≢true k)
  form_trees (n ∷ ns) h k =
      let whole : form.is_tree (0 ∷ []) (map (node_at f) (n ∷ ns)) ≡ true = right_true (list_all form.is_node (map (node_at f) (n ∷ ns))) (form.is_tree (0 ∷ []) (map (node_at f) (n ∷ ns))) h in
      trees_waiting (n ∷ ns) 1 (subst (λ b. IsWaiting f (n ∷ ns) b 1) whole (waiting_first f (n ∷ ns)))

-- ---- the terms that are named have their places

module _ (fs : List Flat) where
  proof_in : (v : said.Verdict Text) → VerdictIn fs v → All (λ n. NodeIn fs n) (proof_of v)
  proof_in (verdict.Proved nodes) h = h
  proof_in (verdict.Unproved branch instances table) h = All-nil (λ (n : ProofNode Text). NodeIn fs n)
  proof_in (verdict.GaveUp l) h = All-nil (λ (n : ProofNode Text). NodeIn fs n)

  node_in : (n : ProofNode Text) → NodeIn fs n → StepsPlaced (length fs) n.steps × AreBefore (length fs) (split_terms n.split)
  node_in n h = (recursion_from_All (λ (s : Step Text). AreIn fs (step_terms s)) n.steps h.0, h.1)

  nodes_in : (ns : List (ProofNode Text)) → All (λ n. NodeIn fs n) ns → NodesPlaced (length fs) ns
  nodes_in ns h =
      recursion_from_All (λ (n : ProofNode Text). StepsPlaced (length fs) n.steps × AreBefore (length fs) (split_terms n.split)) ns
      (All-weaker (λ (n : ProofNode Text). NodeIn fs n) (λ (n : ProofNode Text). StepsPlaced (length fs) n.steps × AreBefore (length fs) (split_terms n.split)) node_in ns h)

-- ---- an entry

module _ (fs : List Flat) (claim : Claim Text) (ok : IsEntry fs claim) where
  verdict_form : form.is_verdict (verdict_at (tree fs) claim.verdict) ≡ true
  verdict_form =
      let e : Claim Written = written_claim fs claim in
      right_true (form.is_term e.goal) (form.is_verdict e.verdict)
      (right_true (list_all form.is_term e.given) (form.is_term e.goal && form.is_verdict e.verdict)
      (right_true (form.is_header e.header) (list_all form.is_term e.given && (form.is_term e.goal && form.is_verdict e.verdict)) ok.form))

  pub given_placed : (count : ℕ) → count ≡ length fs → AreBefore count claim.given
  given_placed count is = subst (λ n. AreBefore n claim.given) (sym is) (recursion_from_All (λ (t : Text). t.0 < length fs) claim.given ok.in_range.0)

  pub goal_placed : (count : ℕ) → count ≡ length fs → claim.goal.0 < count
  goal_placed count is = subst (λ n. claim.goal.0 < n) (sym is) ok.in_range.1

  module _ (nodes : List (ProofNode Text)) (are : nodes ≡ proof_of claim.verdict) where
    pub nodes_placed : (count : ℕ) → count ≡ length fs → NodesPlaced count nodes
    nodes_placed count is =
        subst (λ n. NodesPlaced n nodes) (sym is) (subst (NodesPlaced (length fs)) (sym are) (nodes_in fs (proof_of claim.verdict) (proof_in fs claim.verdict ok.in_range.2)))

    pub nodes_cases : list_all has_cases nodes ≡ true
    nodes_cases = ap (list_all has_cases) are ∙ form_cases (tree fs) (proof_of claim.verdict) (proof_form (tree fs) claim.verdict verdict_form)

    pub nodes_trees : has_node (proof_of claim.verdict) ≡ true → are_trees 1 (counts nodes) ≡ true
    nodes_trees some = ap (λ ns. are_trees 1 (counts ns)) are ∙ form_trees (tree fs) (proof_of claim.verdict) (proof_form (tree fs) claim.verdict verdict_form) some
