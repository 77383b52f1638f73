-- Cases that are still to come.
use Rattle.std.proofs.Common.{◌≡◌, ℕ, zero, suc, ◌<◌, ◌≤◌, ◌+◌, ◌-◌, Option, Result, OnOk, List, [], ◌∷◌, ◌++◌, length, refl, sym, ap, ◌∙◌, subst, append_assoc, append-nil, arith}
use Rattle.std.specs.Prelude.{reverse}
use Rattle.std.proofs.lemmas.List.{reverse-append}
use Rattle.spv_logic.specs.declared.names.names.Symbol.{Symbol}
use Rattle.spv_logic.specs.declared.conditions.TermId.{TermId}
use Rattle.spv_logic.specs.Terms.{Term}
use Rattle.spv_atoms.specs.declared.proofs.ProofNode.{ProofNode}
use Rattle.spv_atoms.specs.Shape.{parts_of}
use Rattle.spv_listing.specs.verdict_pages.Counting.{numbers_down}
use Rattle.spv_listing.specs.verdict_pages.ProofLines.{numbers, case_line, node_lines, case_numbers, cases_lines, proof_lines}

-- ---- so many are put

down : (n k : ℕ) → k < n → numbers_down (n - k) ≡ (n - k) ∷ numbers_down (n - (k + 1))
down n k h = ap numbers_down one_less ∙ ap (λ j. j ∷ numbers_down (n - (k + 1))) (sym one_less)
  where
    one_less : n - k ≡ suc (n - (k + 1))
    one_less = omega (arith, h)

-- one more is put
pub put_more : (old items more : List ℕ) (n k : ℕ) → k < n → items ++ numbers_down (n - k) ≡ old → more ≡ items ++ (n - k) ∷ [] → more ++ numbers_down (n - (k + 1)) ≡ old
put_more old items more n k h e f =
    ap (λ l. l ++ numbers_down (n - (k + 1))) f
    ∙ append_assoc items ((n - k) ∷ []) (numbers_down (n - (k + 1)))
    ∙ ap (λ l. items ++ l) (sym (down n k h))
    ∙ e

-- all are put
pub put_all : (old items : List ℕ) (n k : ℕ) → n ≤ k → items ++ numbers_down (n - k) ≡ old → items ≡ old
put_all old items n k h e = sym (append-nil items) ∙ ap (λ j. items ++ numbers_down j) (sym none) ∙ e
  where
    none : n - k ≡ 0
    none = omega (arith, h)

-- ---- the next one is the last of those that wait

turned : (n : ℕ) → reverse (numbers_down n) ≡ numbers n
turned zero = refl
turned (suc n) = reverse-append (suc n ∷ []) (numbers_down n) ∙ ap (λ l. l ++ suc n ∷ []) (turned n)

pub next_waiting : (waiting rest : List ℕ) (i : ℕ) → waiting ≡ rest ++ i ∷ [] → reverse waiting ≡ i ∷ reverse rest
next_waiting waiting rest i e = ap reverse e ∙ reverse-append rest (i ∷ [])

pub more_waiting : (waits rest : List ℕ) (n : ℕ) → waits ≡ rest ++ numbers_down n → reverse waits ≡ numbers n ++ reverse rest
more_waiting waits rest n e = ap reverse e ∙ reverse-append rest (numbers_down n) ∙ ap (λ l. l ++ reverse rest) (turned n)

-- ---- the lines

module _ (names : List (List ℕ)) (titles : List (Option Symbol)) (at : TermId → Term) where
  -- a case is printed, and those of its split wait
  pub going_on : (whole out more waiting rest waits : List ℕ) (i : ℕ) (n : ProofNode) (left nodes : List ProofNode)
      → out ++ cases_lines names titles at (reverse waiting) left ≡ whole
      → waiting ≡ rest ++ i ∷ [] → left ≡ n ∷ nodes
      → more ≡ out ++ (case_line i ++ node_lines names titles at n) → waits ≡ rest ++ numbers_down (length (parts_of n.split))
      → more ++ cases_lines names titles at (reverse waits) nodes ≡ whole
  going_on whole out more waiting rest waits i n left nodes before last first printed put =
      let w = more_waiting waits rest (length (parts_of n.split)) put in
      let others = cases_lines names titles at (case_numbers n ++ reverse rest) nodes in
      let front : more ++ cases_lines names titles at (reverse waits) nodes ≡ (out ++ (case_line i ++ node_lines names titles at n)) ++ others = λ j. printed j ++ cases_lines names titles at (w j) nodes in
      let middle : (out ++ (case_line i ++ node_lines names titles at n)) ++ others ≡ out ++ cases_lines names titles at (i ∷ reverse rest) (n ∷ nodes) = append_assoc out (case_line i ++ node_lines names titles at n) others in
      let back : out ++ cases_lines names titles at (i ∷ reverse rest) (n ∷ nodes) ≡ out ++ cases_lines names titles at (reverse waiting) left =
      λ j. out ++ cases_lines names titles at (sym (next_waiting waiting rest i last) j) (sym first j) in
      front ∙ (middle ∙ (back ∙ before))

  -- the same, of an item of a list
  pub going_on_at : (whole out more waiting rest waits : List ℕ) (i : ℕ) (item n : ProofNode) (left nodes : List ProofNode)
      → out ++ cases_lines names titles at (reverse waiting) left ≡ whole
      → waiting ≡ rest ++ i ∷ [] → item ≡ n → left ≡ n ∷ nodes
      → more ≡ out ++ (case_line i ++ node_lines names titles at item) → waits ≡ rest ++ numbers_down (length (parts_of item.split))
      → more ++ cases_lines names titles at (reverse waits) nodes ≡ whole
  going_on_at whole out more waiting rest waits i item n left nodes before last same first printed put =
      going_on whole out more waiting rest waits i item left nodes before last (first ∙ ap (λ (m : ProofNode). m ∷ nodes) (sym same)) printed put

  -- no case is left
  pub none_waits : (whole out waiting : List ℕ) (left : List ProofNode) → out ++ cases_lines names titles at (reverse waiting) left ≡ whole → waiting ≡ [] → out ≡ whole
  none_waits whole out waiting [] before none = sym (append-nil out) ∙ before
  none_waits whole out waiting (n ∷ left) before none =
      let back : out ++ cases_lines names titles at [] (n ∷ left) ≡ out ++ cases_lines names titles at (reverse waiting) (n ∷ left) = λ j. out ++ cases_lines names titles at (reverse (sym none j)) (n ∷ left) in
      sym (append-nil out) ∙ (back ∙ before)

  -- no node is left
  pub none_left : (whole out waiting : List ℕ) (left : List ProofNode) → out ++ cases_lines names titles at (reverse waiting) left ≡ whole → left ≡ [] → out ≡ whole
  none_left whole out waiting left before none =
      let back : out ++ cases_lines names titles at (reverse waiting) [] ≡ out ++ cases_lines names titles at (reverse waiting) left = λ j. out ++ cases_lines names titles at (reverse waiting) (sym none j) in
      sym (append-nil out) ∙ (back ∙ before)

  -- the root waits alone
  pub from_root : {T F : Type 0} (r : Result T F) (old new waiting : List ℕ) (nodes : List ProofNode) → waiting ≡ 0 ∷ []
      → OnOk r (new ≡ old ++ cases_lines names titles at (reverse waiting) nodes) → OnOk r (new ≡ old ++ proof_lines names titles at nodes)
  from_root r old new waiting nodes first says = subst (λ w. OnOk r (new ≡ old ++ cases_lines names titles at (reverse w) nodes)) first says
