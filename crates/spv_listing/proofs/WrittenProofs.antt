-- The lines of proofs as they are printed, and as a listing has them.
use Rattle.std.proofs.Common.{◌≡◌, ℕ, zero, suc, Option, Some, None, List, [], ◌∷◌, ◌++◌, map, length, codes, decimal, refl, sym, ap, ◌∙◌, append_assoc, append-nil}
use Rattle.std.specs.List.{flat_map}
use Rattle.std.specs.Option.{option_map}
use Rattle.std.proofs.lemmas.Grind.{flat_map-append}
use Rattle.spv_whole.specs.Fraction.{Fraction}
use Rattle.spv_logic.specs.declared.names.names.Symbol.{Symbol}
use Rattle.spv_logic.specs.declared.conditions.TermId.{TermId}
use Rattle.spv_logic.specs.Terms.{Term}
use Rattle.spv_atoms.specs.declared.proofs.Relation.{Relation}
use Rattle.spv_atoms.specs.declared.proofs.Relation.TheVariants.{AtMost, Equal}
use Rattle.spv_atoms.specs.declared.proofs.Step.{Step}
use Rattle.spv_atoms.specs.declared.proofs.Step.TheVariants as step
use Rattle.spv_atoms.specs.declared.proofs.Split.{Split}
use Rattle.spv_atoms.specs.declared.proofs.ProofNode.{ProofNode}
use Rattle.spv_atoms.specs.Shape.{parts_of}
use Rattle.spv_listing_values.specs.Written.{Written, written_bytes, rest_bytes, line_bytes}
use Rattle.spv_listing_values.specs.Written as listed
use Rattle.spv_listing_values.specs.Blanks.{blank_item, blanks, lines_bytes}
use Rattle.spv_listing_values.specs.Lines as lines
use Rattle.spv_listing_values.specs.Page as pages
use Rattle.spv_listing_values.proofs.Blanks.{line_is}
use Rattle.spv_listing.specs.printed.Printed.{line, name_in, fraction_text}
use Rattle.spv_listing.specs.verdict_pages.ProofLines.{number_text, numbers_text, blank_term, multiple_text, multiples_text, field_text, second_number, relation_at, stated_at, other_multiples, step_text, step_line, split_line, node_lines, case_line, numbers, case_numbers, cases_lines, proof_lines}
use Rattle.spv_listing.specs.Listings.{second_multiples, step_of, split_of, node_of}
use Rattle.spv_rechecking.specs.written_terms.Printing.{written_of}
use Rattle.spv_listing.proofs.WrittenTerms.{term_written}

-- ---- lines

-- a line that begins with a word, and what stands behind it
pub line_written : (first text : List ℕ) (ts : List Written) → text ≡ first ++ blanks ts → line text ≡ line_bytes (listed.word first ∷ ts)
line_written first text ts same =
    ap (λ (l : List ℕ). l ++ 10 ∷ []) same ∙ line_is [] first ts

-- ---- what stands behind words

pub number_written : (n : ℕ) → number_text n ≡ blanks (lines.number n ∷ [])
number_written n = sym (append-nil (number_text n))

numbers_written : (ns : List ℕ) → numbers_text ns ≡ blanks (lines.numbers ns)
numbers_written [] = refl
numbers_written (n ∷ ns) = ap (λ (l : List ℕ). number_text n ++ l) (numbers_written ns)

second_written : (i : ℕ) (j : Option ℕ) → number_text i ++ second_number j ≡ blanks (lines.number i ∷ lines.second_number j)
second_written i None = refl
second_written i (Some n) = ap (λ (l : List ℕ). number_text i ++ l) (number_written n)

multiple_written : (m : Fraction × ℕ) → multiple_text m ≡ blanks (lines.multiple m)
multiple_written m =
    ap (λ (l : List ℕ). 32 ∷ l)
    (append_assoc (fraction_text m.0) (codes " ") (decimal m.1) ∙ ap (λ (l : List ℕ). fraction_text m.0 ++ 32 ∷ l) (sym (append-nil (decimal m.1))))

multiples_written : (ms : List (Fraction × ℕ)) → multiples_text ms ≡ blanks (lines.multiples ms)
multiples_written [] = refl
multiples_written (m ∷ ms) =
    ap (λ (l : List ℕ). l ++ multiples_text ms) (multiple_written m)
    ∙ (ap (λ (l : List ℕ). blanks (lines.multiple m) ++ l) (multiples_written ms) ∙ sym (flat_map-append blank_item (lines.multiple m) (lines.multiples ms)))

module _ (names : List (List ℕ)) (titles : List (Option Symbol)) where
  abbrev w : Term → Written
  w t = written_of names titles t

  pub blank_written : (t : Term) → blank_term names titles t ≡ blank_item (w t)
  blank_written t = ap (λ (l : List ℕ). 32 ∷ l) (sym (term_written names titles t))

  pub one_written : (t : Term) → blank_term names titles t ≡ blanks (w t ∷ [])
  one_written t = blank_written t ∙ sym (append-nil (blank_item (w t)))

  pub terms_written : (ts : List Term) → flat_map (blank_term names titles) ts ≡ blanks (map w ts)
  terms_written [] = refl
  terms_written (t ∷ ts) = ap (λ (l : List ℕ). l ++ flat_map (blank_term names titles) ts) (blank_written t) ∙ ap (λ (l : List ℕ). blank_item (w t) ++ l) (terms_written ts)

  field_written : (f : Option Symbol) → field_text names f ≡ blanks (lines.field (option_map (name_in names) f))
  field_written None = refl
  field_written (Some x) = sym (append-nil (field_text names (Some x)))

  module _ (at : TermId → Term) where
    sums_written : (r : Relation) (first second : List (Fraction × ℕ))
        → blank_term names titles (relation_at at r) ++ multiples_text first ++ other_multiples r second
        ≡ blanks (w (relation_at at r) ∷ (lines.multiples first ++ lines.other_multiples (w (relation_at at r)) (second_multiples r second)))
    sums_written (AtMost s t) first second =
        append-nil (blank_term names titles (relation_at at (AtMost s t)) ++ multiples_text first)
        ∙ (ap (λ (l : List ℕ). l ++ multiples_text first) (blank_written (relation_at at (AtMost s t)))
        ∙ ap (λ (l : List ℕ). blank_item (w (relation_at at (AtMost s t))) ++ l)
        (multiples_written first ∙ ap (λ (items : List Written). blanks items) (sym (append-nil (lines.multiples first)))))
    sums_written (Equal s t) first second =
        append_assoc (blank_term names titles (relation_at at (Equal s t))) (multiples_text first) (codes " /" ++ multiples_text second)
        ∙ (ap (λ (l : List ℕ). l ++ (multiples_text first ++ (codes " /" ++ multiples_text second))) (blank_written (relation_at at (Equal s t)))
        ∙ ap (λ (l : List ℕ). blank_item (w (relation_at at (Equal s t))) ++ l)
        (ap (λ (l : List ℕ). l ++ (codes " /" ++ multiples_text second)) (multiples_written first)
        ∙ (ap (λ (l : List ℕ). blanks (lines.multiples first) ++ (codes " /" ++ l)) (multiples_written second)
        ∙ sym (flat_map-append blank_item (lines.multiples first) (listed.word (codes "/") ∷ lines.multiples second)))))

    schema_written : (kind : ℕ) (ts : List TermId) (f : Option Symbol)
        → number_text kind ++ (flat_map (blank_term names titles) (map at ts) ++ field_text names f)
        ≡ blanks (lines.number kind ∷ (map w (map at ts) ++ lines.field (option_map (name_in names) f)))
    schema_written kind ts f =
        ap (λ (l : List ℕ). number_text kind ++ l)
        (ap (λ (l : List ℕ). l ++ field_text names f) (terms_written (map at ts))
        ∙ (ap (λ (l : List ℕ). blanks (map w (map at ts)) ++ l) (field_written f)
        ∙ sym (flat_map-append blank_item (map w (map at ts)) (lines.field (option_map (name_in names) f)))))

    -- ---- steps

    step_written : (s : Step) → codes "STEP " ++ step_text names titles at s ≡ codes "STEP" ++ blanks (lines.step_items (step_of names w at s))
    step_written (step.Given k) = ap (λ (l : List ℕ). codes "STEP GIVEN" ++ l) (number_written k)
    step_written (step.Refl t) = ap (λ (l : List ℕ). codes "STEP REFL" ++ l) (one_written (at t))
    step_written (step.Symm i) = ap (λ (l : List ℕ). codes "STEP SYMM" ++ l) (number_written i)
    step_written (step.Trans i j) = ap (λ (l : List ℕ). codes "STEP TRANS" ++ (number_text i ++ l)) (number_written j)
    step_written (step.Cong t u facts) =
        ap (λ (l : List ℕ). codes "STEP CONG" ++ (l ++ (blank_term names titles (at u) ++ numbers_text facts))) (blank_written (at t))
        ∙ (ap (λ (l : List ℕ). codes "STEP CONG" ++ (blank_item (w (at t)) ++ (l ++ numbers_text facts))) (blank_written (at u))
        ∙ ap (λ (l : List ℕ). codes "STEP CONG" ++ (blank_item (w (at t)) ++ (blank_item (w (at u)) ++ l))) (numbers_written facts))
    step_written (step.Linear r first second) = ap (λ (l : List ℕ). codes "STEP LINEAR" ++ l) (sums_written r first second)
    step_written (step.Schema kind ts field) = ap (λ (l : List ℕ). codes "STEP SCHEMA" ++ l) (schema_written kind ts field)
    step_written (step.Rule r ts) = ap (λ (l : List ℕ). codes "STEP RULE" ++ (number_text r ++ l)) (terms_written (map at ts))
    step_written (step.Eval s facts) =
        ap (λ (l : List ℕ). codes "STEP EVAL" ++ (l ++ numbers_text facts)) (blank_written (stated_at at s))
        ∙ ap (λ (l : List ℕ). codes "STEP EVAL" ++ (blank_item (w (stated_at at s)) ++ l)) (numbers_written facts)
    step_written (step.Contra i j) = ap (λ (l : List ℕ). codes "STEP CONTRA" ++ l) (second_written i j)

    steps_written : (ss : List Step) → flat_map (step_line names titles at) ss ≡ lines_bytes (map lines.step_line (map (step_of names w at) ss))
    steps_written [] = refl
    steps_written (s ∷ ss) =
        ap (λ (l : List ℕ). l ++ flat_map (step_line names titles at) ss)
        (line_written (codes "STEP") (codes "STEP " ++ step_text names titles at s) (lines.step_items (step_of names w at s)) (step_written s))
        ∙ ap (λ (l : List ℕ). line_bytes (lines.step_line (step_of names w at s)) ++ l) (steps_written ss)

    -- ---- nodes

    split_written : (o : Option Split) → split_line names titles at o ≡ lines_bytes (pages.split_lines (option_map (split_of w at) o))
    split_written None = refl
    split_written (Some s) =
        line_written (codes "SPLIT") (codes "SPLIT" ++ number_text (length s.parts) ++ blank_term names titles (at s.atom)) (lines.number (length s.parts) ∷ w (at s.atom) ∷ [])
        (ap (λ (l : List ℕ). codes "SPLIT" ++ (number_text (length s.parts) ++ l)) (one_written (at s.atom)))
        ∙ sym (append-nil (line_bytes (lines.split_line (length s.parts) (w (at s.atom)))))

    node_written : (n : ProofNode) → node_lines names titles at n ≡ lines_bytes (pages.node_lines (node_of names w at n))
    node_written n =
        ap (λ (l : List ℕ). l ++ split_line names titles at n.split) (steps_written n.steps)
        ∙ (ap (λ (l : List ℕ). lines_bytes (map lines.step_line (map (step_of names w at) n.steps)) ++ l) (split_written n.split)
        ∙ sym (flat_map-append line_bytes (map lines.step_line (map (step_of names w at) n.steps)) (pages.split_lines (option_map (split_of w at) n.split))))

    case_written : (i : ℕ) → case_line i ≡ lines_bytes (pages.case_lines i)
    case_written zero = refl
    case_written (suc i) =
        line_written (codes "CASE") (codes "CASE" ++ number_text (suc i)) (lines.number (suc i) ∷ []) (ap (λ (l : List ℕ). codes "CASE" ++ l) (number_written (suc i)))
        ∙ sym (append-nil (line_bytes (lines.case_line (suc i))))

    numbers_same : (n : ℕ) → numbers n ≡ pages.numbers_to n
    numbers_same zero = refl
    numbers_same (suc n) = ap (λ (l : List ℕ). l ++ suc n ∷ []) (numbers_same n)

    case_numbers_same : (n : ProofNode) (o : Option Split) → n.split ≡ o → case_numbers n ≡ pages.case_numbers (option_map (split_of w at) o)
    case_numbers_same n None is = ap (λ (o : Option Split). numbers (length (parts_of o))) is
    case_numbers_same n (Some s) is = ap (λ (o : Option Split). numbers (length (parts_of o))) is ∙ numbers_same (length s.parts)

    cases_written : (waiting : List ℕ) (nodes : List ProofNode) → cases_lines names titles at waiting nodes ≡ lines_bytes (pages.cases_lines waiting (map (node_of names w at) nodes))
    cases_written waiting [] = refl
    cases_written [] (n ∷ nodes) = refl
    cases_written (i ∷ waiting) (n ∷ nodes) =
        ap (λ (l : List ℕ). case_line i ++ node_lines names titles at n ++ cases_lines names titles at (l ++ waiting) nodes) (case_numbers_same n n.split refl)
        ∙ (ap (λ (l : List ℕ). case_line i ++ node_lines names titles at n ++ l) (cases_written (pages.case_numbers (node_of names w at n).split ++ waiting) nodes)
        ∙ (append_assoc (case_line i) (node_lines names titles at n) (lines_bytes others)
        ∙ (ap (λ (l : List ℕ). l ++ (node_lines names titles at n ++ lines_bytes others)) (case_written i)
        ∙ (ap (λ (l : List ℕ). lines_bytes (pages.case_lines i) ++ (l ++ lines_bytes others)) (node_written n)
        ∙ (ap (λ (l : List ℕ). lines_bytes (pages.case_lines i) ++ l) (sym (flat_map-append line_bytes (pages.node_lines (node_of names w at n)) others))
        ∙ sym (flat_map-append line_bytes (pages.case_lines i) (pages.node_lines (node_of names w at n) ++ others)))))))
      where
        others : List (List Written)
        others = pages.cases_lines (pages.case_numbers (node_of names w at n).split ++ waiting) (map (node_of names w at) nodes)

    pub proof_written : (nodes : List ProofNode) → proof_lines names titles at nodes ≡ lines_bytes (pages.proof_lines (map (node_of names w at) nodes))
    proof_written nodes = cases_written (0 ∷ []) nodes
