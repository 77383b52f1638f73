-- Cases that are still to come.
use Rattle.std.proofs.Common.{◌≡◌, ℕ, zero, suc, ◌<◌, ◌≤◌, ◌+◌, ◌-◌, Option, Some, None, Result, OnOk, List, [], ◌∷◌, ◌++◌, map, refl, sym, ap, ◌∙◌, subst, append_assoc, append-nil, arith}
use Rattle.std.specs.Prelude.{reverse, option_map}
use Rattle.std.proofs.lemmas.Grind.{flat_map-append}
use Rattle.std.proofs.lemmas.List.{reverse-append}
use Rattle.spv_listing_values.specs.declared.data.Split.{Split}
use Rattle.spv_listing_values.specs.declared.data.ProofNode.{ProofNode}
use Rattle.spv_listing_values.specs.declared.texts.Text.{Text}
use Rattle.spv_listing_values.specs.Written.{Written, line_bytes}
use Rattle.spv_listing_values.specs.Page.{numbers_to, case_numbers, case_lines, node_lines, cases_lines, proof_lines}
use Rattle.spv_listing_values.specs.Blanks.{lines_bytes, numbers_down, case_count}
use Rattle.spv_listing_values.specs.Mapped.{split_at, node_at}

-- ---- so many are put

down : (n k : ℕ) → k < n → numbers_down (n - k) ≡ (n - k) ∷ numbers_down (n - (k + 1))
down n k h = ap numbers_down one_less ∙ ap (λ (j : ℕ). j ∷ numbers_down (n - (k + 1))) (sym one_less)
  where
    one_less : n - k ≡ suc (n - (k + 1))
    one_less = omega (arith, h)

-- one more is put
pub put_more : (old items more : List ℕ) (n k : ℕ) → k < n → items ++ numbers_down (n - k) ≡ old → more ≡ items ++ (n - k) ∷ [] → more ++ numbers_down (n - (k + 1)) ≡ old
put_more old items more n k h e f =
    ap (λ (l : List ℕ). l ++ numbers_down (n - (k + 1))) f
    ∙ (append_assoc items ((n - k) ∷ []) (numbers_down (n - (k + 1))) ∙ (ap (λ (l : List ℕ). items ++ l) (sym (down n k h)) ∙ e))

-- all are put
pub put_all : (old items : List ℕ) (n k : ℕ) → n ≤ k → items ++ numbers_down (n - k) ≡ old → items ≡ old
put_all old items n k h e = sym (append-nil items) ∙ (ap (λ (j : ℕ). items ++ numbers_down j) (sym none) ∙ e)
  where
    none : n - k ≡ 0
    none = omega (arith, h)

-- ---- the next one is the last of those that wait

turned : (n : ℕ) → reverse (numbers_down n) ≡ numbers_to n
turned zero = refl
turned (suc n) = reverse-append (suc n ∷ []) (numbers_down n) ∙ ap (λ (l : List ℕ). l ++ suc n ∷ []) (turned n)

next_waiting : (waiting rest : List ℕ) (i : ℕ) → waiting ≡ rest ++ i ∷ [] → reverse waiting ≡ i ∷ reverse rest
next_waiting waiting rest i e = ap reverse e ∙ reverse-append rest (i ∷ [])

more_waiting : (waits rest : List ℕ) (n : ℕ) → waits ≡ rest ++ numbers_down n → reverse waits ≡ numbers_to n ++ reverse rest
more_waiting waits rest n e = ap reverse e ∙ (reverse-append rest (numbers_down n) ∙ ap (λ (l : List ℕ). l ++ reverse rest) (turned n))

-- ---- the lines

module _ (f : Text → Written) where
  abbrev lines_of : List ℕ → List (ProofNode Text) → List ℕ
  lines_of waiting nodes = lines_bytes (cases_lines waiting (map (node_at f) nodes))

  numbers_are : (s : Option (Split Text)) → case_numbers (option_map (split_at f) s) ≡ numbers_to (case_count s)
  numbers_are None = refl
  numbers_are (Some s) = refl

  -- the lines of a node, and of the others behind it
  one_case : (i : ℕ) (rest : List ℕ) (n : ProofNode Text) (nodes : List (ProofNode Text))
      → lines_of (i ∷ rest) (n ∷ nodes) ≡ (lines_bytes (case_lines i) ++ lines_bytes (node_lines (node_at f n))) ++ lines_of (numbers_to (case_count n.split) ++ rest) nodes
  one_case i rest n nodes =
      let others = cases_lines (case_numbers (node_at f n).split ++ rest) (map (node_at f) nodes) in
      flat_map-append line_bytes (case_lines i) (node_lines (node_at f n) ++ others)
      ∙ (ap (λ (l : List ℕ). lines_bytes (case_lines i) ++ l) (flat_map-append line_bytes (node_lines (node_at f n)) others)
      ∙ (sym (append_assoc (lines_bytes (case_lines i)) (lines_bytes (node_lines (node_at f n))) (lines_bytes others))
      ∙ ap (λ (ns : List ℕ). (lines_bytes (case_lines i) ++ lines_bytes (node_lines (node_at f n))) ++ lines_bytes (cases_lines (ns ++ rest) (map (node_at f) nodes))) (numbers_are n.split)))

  -- a case is printed, and those of its split wait
  pub going_on : (whole out more waiting rest waits : List ℕ) (i : ℕ) (item n : ProofNode Text) (left nodes : List (ProofNode Text))
      → out ++ lines_of (reverse waiting) left ≡ whole
      → waiting ≡ rest ++ i ∷ [] → item ≡ n → left ≡ n ∷ nodes
      → more ≡ out ++ (lines_bytes (case_lines i) ++ lines_bytes (node_lines (node_at f item))) → waits ≡ rest ++ numbers_down (case_count item.split)
      → more ++ lines_of (reverse waits) nodes ≡ whole
  going_on whole out more waiting rest waits i item n left nodes before last same first printed put =
      let w = more_waiting waits rest (case_count item.split) put in
      let front = lines_bytes (case_lines i) ++ lines_bytes (node_lines (node_at f item)) in
      let others = lines_of (numbers_to (case_count item.split) ++ reverse rest) nodes in
      let left-is : left ≡ item ∷ nodes = first ∙ ap (λ (m : ProofNode Text). m ∷ nodes) (sym same) in
      ap (λ (l : List ℕ). l ++ lines_of (reverse waits) nodes) printed
      ∙ (ap (λ (l : List ℕ). (out ++ front) ++ lines_of l nodes) w
      ∙ (append_assoc out front others
      ∙ (ap (λ (l : List ℕ). out ++ l) (sym (one_case i (reverse rest) item nodes))
      ∙ (ap (λ (l : List ℕ). out ++ lines_of l (item ∷ nodes)) (sym (next_waiting waiting rest i last))
      ∙ (ap (λ (l : List (ProofNode Text)). out ++ lines_of (reverse waiting) l) (sym left-is) ∙ before)))))

  -- no case is left
  pub none_waits : (whole out waiting : List ℕ) (left : List (ProofNode Text)) → out ++ lines_of (reverse waiting) left ≡ whole → waiting ≡ [] → out ≡ whole
  none_waits whole out waiting [] before none = sym (append-nil out) ∙ before
  none_waits whole out waiting (n ∷ left) before none =
      sym (append-nil out) ∙ (ap (λ (l : List ℕ). out ++ lines_of (reverse l) (n ∷ left)) (sym none) ∙ before)

  -- no node is left
  pub none_left : (whole out waiting : List ℕ) (left : List (ProofNode Text)) → out ++ lines_of (reverse waiting) left ≡ whole → left ≡ [] → out ≡ whole
  none_left whole out waiting left before none = sym (append-nil out) ∙ (ap (λ (l : List (ProofNode Text)). out ++ lines_of (reverse waiting) l) (sym none) ∙ before)

  -- the root waits alone
  pub from_root : {T F : Type 0} (r : Result T F) (old new waiting : List ℕ) (nodes : List (ProofNode Text)) → waiting ≡ 0 ∷ []
      → OnOk r (new ≡ old ++ lines_bytes (cases_lines (reverse waiting) (map (node_at f) nodes))) → OnOk r (new ≡ old ++ lines_bytes (proof_lines (map (node_at f) nodes)))
  from_root r old new waiting nodes first says = subst (λ (w : List ℕ). OnOk r (new ≡ old ++ lines_bytes (cases_lines (reverse w) (map (node_at f) nodes)))) first says
