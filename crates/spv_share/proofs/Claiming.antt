-- A literal more, on both sides.
use Rattle.std.proofs.Common.{◌≡◌, ℕ, Vec, Global, List, [], ◌∷◌, ◌++◌, take, length, refl, sym, ap, ◌∙◌, subst, Option, Some, None, IfSome}
use Rattle.spv_logic.specs.declared.conditions.TermId.{TermId}
use Rattle.spv_term.specs.Arena.{Arena, tree}
use Rattle.spv_derivations.specs.declared.derivation.entries.Part.{Part}
use Rattle.spv_derivations.specs.derivation.Derivation.{fact_at, literal}
use Rattle.spv_derivations.specs.derivation.Literals.{Literal, literals}
use Rattle.spv_derivations.proofs.derivation.Literals.{literals-append}
use Rattle.spv_explanations.specs.declared.congruence_side.trail.Trail.{Trail}
use Rattle.spv_explanations.specs.congruence_side.Holding.{Grows, MayTell}
use Rattle.spv_explanations.specs.congruence_side.Telling.{literal_ties, ties}
use Rattle.spv_arithmetic_side.specs.declared.constraint_rows.standing.Standing.{Standing}
use Rattle.spv_arithmetic_side.specs.constraint_rows.Standing.{AddsSome}
use Rattle.spv_share.specs.declared.relations.Related.{Related}
use Rattle.spv_share.specs.declared.relations.Claim.{Claim}
use Rattle.spv_share.specs.declared.relations.Noted.{Noted}
use Rattle.spv_share.specs.declared.both.Both.{Both}
use Rattle.spv_share.specs.Relations.{claim, find}
use Rattle.spv_share.proofs.Noted.{noted_as, noted_push}
use Rattle.spv_share.specs.Both.{AreReasoned, AreTied, IsBoth, IsClaimed, IsSound, KeepsLevels, Stays, told}
use Rattle.spv_share.proofs.Reasons.{reasons_told}
use Rattle.spv_share.proofs.Ties.{tied_told}
use Rattle.spv_share.proofs.Rowed.{literal_claimed}
use Rattle.spv_share.proofs.Sound.{level_stays, sound_as}

-- what is claimed by a literal that is a fact
pub claimed_some : (a : Arena) (b : Both) → IsSound a b → (t : TermId) (p : Part) (k : ℕ) (rels : List Related) (o : Option Claim) → rels ≡ b.relations.items → o ≡ claim (find rels t) p → fact_at a b.trail.derivation k ≡ Some (literal (tree a t) p)
    → IfSome o (λ c. IsClaimed a b c k)
claimed_some a b h t p k rels None e is fact = tt
claimed_some a b h t p k rels (Some c) e is fact = literal_claimed a b h t p c k (ap (λ rs. claim (find rs t) p) (sym e) ∙ sym is) fact

-- levels stay where a literal was told
pub levels_told : (a : Arena) (old : Both) (tr : Trail) (mid new : Both) (more : List Noted) → Grows old.trail tr → AddsSome old.standing mid.standing → mid.trail ≡ tr → mid.relations ≡ old.relations
    → new.trail ≡ mid.trail → new.standing ≡ mid.standing → new.relations ≡ mid.relations → new.claims.items ≡ old.claims.items ++ more → KeepsLevels a old new
levels_told a old tr mid new more grows adds trail relations same_trail same_standing same_relations claims = λ l h.
    level_stays a old new l
    (record {
      trail = subst (λ (t : Trail). Grows old.trail t) (sym (same_trail ∙ trail)) grows;
      standing = subst (λ (s : Standing). AddsSome old.standing s) (sym same_standing) adds;
      relations = ap (λ v. v.items) (same_relations ∙ relations);
      more = more;
      claims = claims;
    }) h

-- what was told before is what is left
pub told_back : (old mid : Both) (n : ℕ) (left : List Literal) → Grows old.trail mid.trail → n ≡ length (told old) → left ≡ take n (told mid) → left ≡ told old
told_back old mid n left grows count is =
    is ∙ (ap (λ k. take k (told mid)) count ∙ (ap (λ es. take (length (told old)) (literals es)) grows.derivation
    ∙ (ap (take (length (told old))) (literals-append old.trail.derivation grows.entries) ∙ first (told old) (literals grows.entries))))
  where
    first : (xs ys : List Literal) → take (length xs) (xs ++ ys) ≡ xs
    first [] [] = refl
    first [] (y ∷ ys) = refl
    first (x ∷ xs) ys = ap (λ zs. x ∷ zs) (first xs ys)

abbrev VecOf : Type 0 → Type 0
VecOf A = Vec A Global

abbrev one_literal : TermId → Part → ℕ → Literal
one_literal t p why = record { atom = t; part = p; why = why }

-- a literal was told on both sides
pub both_told : (a : Arena) (old mid : Both) (tr : Trail) (rels : List Related) (t : TermId) (p : Part) (why k : ℕ) (o : Option Claim) (cs : VecOf Noted) → IsBoth a old → MayTell a old.trail t p → IsSound a mid → Grows old.trail tr → mid.trail ≡ tr
    → mid.relations ≡ old.relations → mid.claims ≡ old.claims → rels ≡ old.relations.items → o ≡ claim (find rels t) p → cs.items ≡ mid.claims.items ++ record { claim = o; fact = k } ∷ []
    → fact_at a tr.derivation k ≡ Some (literal (tree a t) p) → literals tr.derivation ≡ told old ++ record { atom = t; part = p; why = why } ∷ []
    → ties tr.graph.told ≡ ties old.trail.graph.told ++ literal_ties a old.trail.truth old.trail.falsity t p → IsBoth a (record mid { claims = cs })
both_told a old mid tr rels t p why k o cs h may sound grows trail relations claims rels_are is pushed fact literals_are ties_are = record {
  sound = sound_as a mid (record mid { claims = cs }) sound refl refl refl refl refl;
  claims =
      noted_as a old.relations.items mid.relations.items tr.derivation mid.trail.derivation cs.items cs.items (ap (λ v. v.items) relations) (ap (λ (x : Trail). x.derivation) trail) refl
      (noted_push a old.relations.items old.trail.derivation grows.entries tr.derivation old.claims.items cs.items (one_literal t p why) (record { claim = o; fact = k }) grows.derivation literals_are
      (pushed ∙ ap (λ v. v.items ++ record { claim = o; fact = k } ∷ []) claims)
      (record { within = may.formula.within; claim = is ∙ ap (λ rs. claim (find rs t) p) rels_are; fact = fact }) h.claims);
  tied =
      subst (λ (x : Trail). AreTied a x.truth x.falsity (literals x.derivation) (ties x.graph.told)) (sym trail)
      (subst (λ (u : TermId). AreTied a u tr.falsity (literals tr.derivation) (ties tr.graph.told)) (sym grows.truth)
      (subst (λ (u : TermId). AreTied a old.trail.truth u (literals tr.derivation) (ties tr.graph.told)) (sym grows.falsity)
      (subst (λ ls. AreTied a old.trail.truth old.trail.falsity ls (ties tr.graph.told)) (sym literals_are)
      (subst (λ ts. AreTied a old.trail.truth old.trail.falsity (told old ++ one_literal t p why ∷ []) ts) (sym ties_are)
      (tied_told a old.trail.truth old.trail.falsity (told old) (ties old.trail.graph.told) (one_literal t p why) h.tied)))));
  reasons =
      subst (λ v. AreReasoned a v.items (told mid) (ties mid.trail.graph.told)) (sym relations)
      (subst (λ (x : Trail). AreReasoned a old.relations.items (literals x.derivation) (ties x.graph.told)) (sym trail)
      (subst (λ ls. AreReasoned a old.relations.items ls (ties tr.graph.told)) (sym literals_are)
      (subst (λ ts. AreReasoned a old.relations.items (told old ++ one_literal t p why ∷ []) ts) (sym ties_are)
      (reasons_told a old.relations.items (told old) t old.trail.truth old.trail.falsity p why may.formula.truth h.sound.trail.truth h.sound.trail.falsity (ties old.trail.graph.told) h.reasons))));
}

pub stays_told : (a : Arena) (old : Both) (tr : Trail) (mid new : Both) → Grows old.trail tr → AddsSome old.standing mid.standing → mid.trail ≡ tr → mid.relations ≡ old.relations → new.trail ≡ mid.trail → new.standing ≡ mid.standing → new.relations ≡ mid.relations
    → Stays old new
stays_told a old tr mid new grows adds trail relations same_trail same_standing same_relations = record {
  nodes = ap (λ (x : Trail). x.graph.nodes) (same_trail ∙ trail) ∙ grows.same_nodes;
  terms = ap (λ (x : Trail). x.graph.added) (same_trail ∙ trail) ∙ grows.same_terms;
  truth = ap (λ (x : Trail). x.truth) (same_trail ∙ trail) ∙ grows.truth;
  falsity = ap (λ (x : Trail). x.falsity) (same_trail ∙ trail) ∙ grows.falsity;
  relations = ap (λ v. v.items) (same_relations ∙ relations);
  forms = ap (λ (s : Standing). s.tableau.forms) same_standing ∙ adds.adds.forms;
  pivots = ap (λ (s : Standing). s.tableau.pivots) same_standing ∙ adds.adds.pivots;
}

pub stays_then : (old mid new : Both) → Stays old mid → Stays mid new → Stays old new
stays_then old mid new g h = record {
  nodes = h.nodes ∙ g.nodes;
  terms = h.terms ∙ g.terms;
  truth = h.truth ∙ g.truth;
  falsity = h.falsity ∙ g.falsity;
  relations = h.relations ∙ g.relations;
  forms = h.forms ∙ g.forms;
  pivots = h.pivots ∙ g.pivots;
}

pub stays_grows : (old : Both) (tr : Trail) → Grows old.trail tr → Stays old (record old { trail = tr })
stays_grows old tr grows = record {
  nodes = grows.same_nodes;
  terms = grows.same_terms;
  truth = grows.truth;
  falsity = grows.falsity;
  relations = refl;
  forms = refl;
  pivots = refl;
}
