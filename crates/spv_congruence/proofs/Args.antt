-- Arguments by their places.
use Rattle.std.proofs.Common.{◌≡◌, ℕ, zero, suc, ◌+◌, ◌<◌, List, [], ◌∷◌, ◌++◌, map, take, length, get_or, sym, ap, ◌∙◌, arith}
use Rattle.std.proofs.lemmas.List.{map_more}
use Rattle.spv_logic.specs.declared.conditions.TermId.{TermId}
use Rattle.spv_term.specs.Arena.{AllBelow}
use Rattle.spv_union_find.specs.declared.classes.joins.Join.{Join}
use Rattle.spv_congruence.specs.Graph.{label_of}

pub below_at : (n : ℕ) (ts : List TermId) (i : ℕ) (d : TermId) → AllBelow n ts → i < length ts → (get_or ts i d).0 < n
below_at n [] i d all h = absurd (omega arith)
below_at n (t ∷ ts) zero d all h = all.0
below_at n (t ∷ ts) (suc i) d all h = below_at n ts i d all.1 (omega arith)

-- one label more is written
pub label_more : (js : List Join) (ts : List TermId) (xs ys : List ℕ) (i x : ℕ) (d : TermId) → i < length ts → xs ≡ map (label_of js) (take i ts) → x ≡ label_of js (get_or ts i d) → ys ≡ xs ++ x ∷ []
    → ys ≡ map (label_of js) (take (i + 1) ts)
label_more js ts xs ys i x d less e f g = g ∙ (ap (λ zs. zs ++ x ∷ []) e ∙ (ap (λ y. map (label_of js) (take i ts) ++ y ∷ []) f ∙ sym (map_more (label_of js) ts i d less)))
