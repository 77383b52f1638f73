-- Conditions that are printed one by one.
use Rattle.std.proofs.Common.{◌≡◌, ℕ, zero, suc, ◌+◌, ◌<◌, List, [], ◌∷◌, ◌++◌, length, take, get_or, refl, sym, ap, ◌∙◌, append_assoc, append-nil, zero-add, arith}
use Rattle.std.proofs.lemmas.Grind.{flat_map-append}
use Rattle.spv_listing_values.specs.declared.data.Claim.{Claim}
use Rattle.spv_listing_values.specs.Written.{Written, line_bytes}
use Rattle.std.proofs.Common.{codes}
use Rattle.std.specs.Fmt.{digits}
use Rattle.spv_listing_values.specs.Page.{claim_lines, claims_lines, end_lines, title, page}
use Rattle.spv_listing_values.specs.Blanks.{lines_bytes}

nowhere : (i : ℕ) → i < 0 → ⊥
nowhere i h = omega (arith, h)

moved : (i k : ℕ) → i + suc k ≡ suc i + k
moved i k = omega arith

claims_more : (cs : List (Claim Written)) (k i : ℕ) (c : Claim Written) → i < length cs
    → claims_lines k (take (suc i) cs) ≡ claims_lines k (take i cs) ++ claim_lines (i + k) (get_or cs i c)
claims_more [] k i c h = absurd (nowhere i h)
claims_more (d ∷ cs) k zero c h = append-nil (claim_lines k d) ∙ ap (λ (n : ℕ). claim_lines n d) (sym (zero-add k))
claims_more (d ∷ cs) k (suc i) c h =
    ap (λ (ls : List (List Written)). claim_lines k d ++ ls) (claims_more cs (suc k) i c (omega (arith, h)))
    ∙ (sym (append_assoc (claim_lines k d) (claims_lines (suc k) (take i cs)) (claim_lines (i + suc k) (get_or cs i c)))
    ∙ ap (λ (n : ℕ). (claim_lines k d ++ claims_lines (suc k) (take i cs)) ++ claim_lines n (get_or cs i c)) (moved i k))

-- one more is printed
pub entries_more : (cs : List (Claim Written)) (i : ℕ) (c : Claim Written) (old now more : List ℕ) → i < length cs → c ≡ get_or cs i c
    → now ≡ old ++ lines_bytes (claims_lines 1 (take i cs)) → more ≡ now ++ lines_bytes (claim_lines (i + 1) c) → more ≡ old ++ lines_bytes (claims_lines 1 (take (i + 1) cs))
entries_more cs i c old now more h is e f =
    let front = claims_lines 1 (take i cs) in
    let next : suc i ≡ i + 1 = omega arith in
    f
    ∙ (ap (λ (l : List ℕ). l ++ lines_bytes (claim_lines (i + 1) c)) e
    ∙ (append_assoc old (lines_bytes front) (lines_bytes (claim_lines (i + 1) c))
    ∙ (ap (λ (d : Claim Written). old ++ (lines_bytes front ++ lines_bytes (claim_lines (i + 1) d))) is
    ∙ (ap (λ (l : List ℕ). old ++ l) (sym (flat_map-append line_bytes front (claim_lines (i + 1) (get_or cs i c))))
    ∙ (ap (λ (ls : List (List Written)). old ++ lines_bytes ls) (sym (claims_more cs 1 i c h)) ∙ ap (λ (n : ℕ). old ++ lines_bytes (claims_lines 1 (take n cs))) next)))))

-- ---- the whole page

title_bytes : line_bytes title ≡ codes "SPV LISTING 1\n"
unfolding digits
title_bytes = refl

pub page_is : (cs : List (Claim Written)) (first a b : List ℕ) → first ≡ codes "SPV LISTING 1\n" → a ≡ first ++ lines_bytes (claims_lines 1 cs) → b ≡ a ++ lines_bytes (end_lines cs) → b ≡ page cs
page_is cs first a b e f g =
    g
    ∙ (ap (λ (l : List ℕ). l ++ lines_bytes (end_lines cs)) f
    ∙ (append_assoc first (lines_bytes (claims_lines 1 cs)) (lines_bytes (end_lines cs))
    ∙ (ap (λ (l : List ℕ). first ++ l) (sym (flat_map-append line_bytes (claims_lines 1 cs) (end_lines cs)))
    ∙ ap (λ (l : List ℕ). l ++ lines_bytes (claims_lines 1 cs ++ end_lines cs)) (e ∙ sym title_bytes))))
