-- Where the terms that a condition names are in range, each part of it has its terms in range.
use Rattle.std.proofs.Common.{◌≡◌, ◌<◌, List, [], ◌∷◌, ◌++◌, All, map, length, flat_map, sym, ap, ◌∙◌}
use Rattle.std.specs.List.{AllByRecursion}
use Rattle.std.proofs.lemmas.List.Elements.{All-from_recursion}
use Rattle.spv_whole.specs.Fraction.{Fraction}
use Rattle.spv_listing_values.specs.declared.data.Step.{Step}
use Rattle.spv_listing_values.specs.declared.data.ProofNode.{ProofNode}
use Rattle.spv_listing_values.specs.declared.data.Instance.{Instance}
use Rattle.spv_listing_values.specs.declared.data.Verdict.{Verdict}
use Rattle.spv_listing_values.specs.declared.data.Verdict.TheVariants.{Proved, Unproved, GaveUp}
use Rattle.spv_listing_values.specs.declared.data.Claim.{Claim}
use Rattle.spv_listing_values.specs.declared.texts.Text.{Text}
use Rattle.spv_listing_values.specs.Mapped.{step_terms, split_terms, node_terms, instance_terms, row_term, verdict_terms, claim_terms}
use Rattle.spv_listing_values.specs.Places.{Flat, tree, flats_of}
use Rattle.spv_listing_values.specs.Waiting.{AreIn, NodeIn, VerdictIn, ClaimIn}
use Rattle.spv_listing_values.specs.Followed.{IsRead}
use Rattle.spv_listing_values.proofs.Enters.{claim_terms_at}
use Rattle.spv_listing_values.proofs.Reach.{all_in}

module _ (fs : List Flat) where
  front_in : (ts us : List Text) → AreIn fs (ts ++ us) → AreIn fs ts
  front_in [] us h = tt
  front_in (t ∷ ts) us h = (h.0, front_in ts us h.1)

  back_in : (ts us : List Text) → AreIn fs (ts ++ us) → AreIn fs us
  back_in [] us h = h
  back_in (t ∷ ts) us h = back_in ts us h.1

  each_in : {A : Type 0} (p : A → List Text) (P : A → Type 0) → ((a : A) → AreIn fs (p a) → P a) → (xs : List A) → AreIn fs (flat_map p xs) → AllByRecursion P xs
  each_in p P each [] h = tt
  each_in p P each (x ∷ xs) h = (each x (front_in (p x) (flat_map p xs) h), each_in p P each xs (back_in (p x) (flat_map p xs) h))

  steps_in : (ss : List (Step Text)) → AreIn fs (flat_map step_terms ss) → All (λ s. AreIn fs (step_terms s)) ss
  steps_in ss h = All-from_recursion (λ (s : Step Text). AreIn fs (step_terms s)) ss (each_in step_terms (λ (s : Step Text). AreIn fs (step_terms s)) (λ s k. k) ss h)

  node_in : (n : ProofNode Text) → AreIn fs (node_terms n) → NodeIn fs n
  node_in n h = (steps_in n.steps (front_in (flat_map step_terms n.steps) (split_terms n.split) h), back_in (flat_map step_terms n.steps) (split_terms n.split) h)

  nodes_in : (ns : List (ProofNode Text)) → AreIn fs (flat_map node_terms ns) → All (λ n. NodeIn fs n) ns
  nodes_in ns h = All-from_recursion (λ (n : ProofNode Text). NodeIn fs n) ns (each_in node_terms (λ (n : ProofNode Text). NodeIn fs n) node_in ns h)

  instances_in : (is : List (Instance Text)) → AreIn fs (flat_map instance_terms is) → All (λ i. All (λ t. t.0 < length fs) i.values) is
  instances_in is h =
      All-from_recursion (λ (i : Instance Text). All (λ t. t.0 < length fs) i.values) is
      (each_in instance_terms (λ (i : Instance Text). All (λ t. t.0 < length fs) i.values) (λ i k. all_in fs i.values k) is h)

  rows_by : (rows : List (Text × Fraction)) → AreIn fs (map row_term rows) → AllByRecursion (λ (row : Text × Fraction). row.0.0 < length fs) rows
  rows_by [] h = tt
  rows_by (r ∷ rows) h = (h.0, rows_by rows h.1)

  rows_in : (rows : List (Text × Fraction)) → AreIn fs (map row_term rows) → All (λ row. row.0.0 < length fs) rows
  rows_in rows h = All-from_recursion (λ (row : Text × Fraction). row.0.0 < length fs) rows (rows_by rows h)

  verdict_in : (v : Verdict Text) → AreIn fs (verdict_terms v) → VerdictIn fs v
  verdict_in (Proved nodes) h = nodes_in nodes h
  verdict_in (Unproved branch is rows) h =
      let more = back_in branch (flat_map instance_terms is ++ map row_term rows) h in (
        all_in fs branch (front_in branch (flat_map instance_terms is ++ map row_term rows) h),
        instances_in is (front_in (flat_map instance_terms is) (map row_term rows) more),
        rows_in rows (back_in (flat_map instance_terms is) (map row_term rows) more),
      )
  verdict_in (GaveUp l) h = h

  pub claim_in : (c : Claim Text) → AreIn fs (claim_terms c) → ClaimIn fs c
  claim_in c h =
      let more = back_in c.given (c.goal ∷ verdict_terms c.verdict) h in
      (all_in fs c.given (front_in c.given (c.goal ∷ verdict_terms c.verdict) h), more.0, verdict_in c.verdict more.1)

  pub claim_is_read : (c : Claim Text) → AreIn fs (claim_terms c) → fs ≡ flats_of (map (tree fs) (claim_terms c)) → IsRead fs c
  claim_is_read c h e = record { in_range = claim_in c h; terms = e ∙ ap flats_of (sym (claim_terms_at (tree fs) c)) }
