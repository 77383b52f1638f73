-- What is noted of literals, as a derivation goes on.
use Rattle.std.proofs.Common.{◌≡◌, ℕ, ◌+◌, ◌<◌, List, [], ◌∷◌, ◌++◌, length, refl, sym, ap, ◌∙◌, subst, Some, inl, inr, arith}
use Rattle.std.specs.Prelude.{slice_get}
use Rattle.std.proofs.lemmas.Bool.{cases_lt}
use Rattle.std.proofs.lemmas.List.{length_push}
use Rattle.std.proofs.lemmas.Option.{slice_get_within, same_Some}
use Rattle.spv_term.specs.Arena.{Arena, tree}
use Rattle.spv_term.proofs.ListLemmas.{slice_get-append_left, slice_get_push}
use Rattle.spv_derivations.specs.declared.derivation.entries.Entry.{Entry}
use Rattle.spv_derivations.specs.derivation.Derivation.{fact_at, literal}
use Rattle.spv_derivations.specs.derivation.Literals.{Literal, literals}
use Rattle.spv_derivations.proofs.derivation.Growth.{fact_at-more}
use Rattle.spv_share.specs.declared.relations.Noted.{Noted}
use Rattle.spv_share.specs.declared.relations.Related.{Related}
use Rattle.spv_share.specs.Both.{AreNoted, IsNoted}

abbrev no_notes : List Noted
no_notes = []

pub noted_none : (a : Arena) (rels : List Related) (es : List Entry) (ns : List Noted) → es ≡ [] → ns ≡ [] → AreNoted a rels es ns
noted_none a rels es ns e n =
    subst (λ (xs : List Entry). AreNoted a rels xs ns) (sym e)
    (subst (λ (ms : List Noted). AreNoted a rels [] ms) (sym n) (record { many = refl; each = λ place l m at there. absurd (nothing place m there) }))
  where
    nothing : (place : ℕ) (m : Noted) → slice_get no_notes place ≡ Some m → ⊥
    nothing place m h = cc

-- a fact stays
note_more : (a : Arena) (rels : List Related) (old more new : List Entry) (l : Literal) (n : Noted) → new ≡ old ++ more → IsNoted a rels old l n → IsNoted a rels new l n
note_more a rels old more new l n e h = record {
  within = h.within;
  claim = h.claim;
  fact = subst (λ (es : List Entry). fact_at a es n.fact ≡ Some (literal (tree a l.atom) l.part)) (sym e) (fact_at-more a old more n.fact (literal (tree a l.atom) l.part) h.fact);
}

-- where no literal is told
pub noted_more : (a : Arena) (rels : List Related) (old more new : List Entry) (ns : List Noted) → new ≡ old ++ more → literals new ≡ literals old → AreNoted a rels old ns → AreNoted a rels new ns
noted_more a rels old more new ns e same h = record {
  many = h.many ∙ ap length (sym same);
  each = λ place l n at there. note_more a rels old more new l n e (h.each place l n (ap (λ ls. slice_get ls place) (sym same) ∙ at) there);
}

-- where one is
pub noted_push : (a : Arena) (rels : List Related) (old more new : List Entry) (ns now : List Noted) (l : Literal) (n : Noted) → new ≡ old ++ more → literals new ≡ literals old ++ l ∷ [] → now ≡ ns ++ n ∷ [] → IsNoted a rels new l n → AreNoted a rels old ns
    → AreNoted a rels new now
noted_push a rels old more new ns now l n e told is one h = subst (λ (ms : List Noted). AreNoted a rels new ms) (sym is) (record {
  many = length_push ns n ∙ (ap (λ (k : ℕ). k + 1) h.many ∙ (sym (length_push (literals old) l) ∙ ap length (sym told)));
  each = each;
})
  where
    each : (place : ℕ) (k : Literal) (m : Noted) → slice_get (literals new) place ≡ Some k → slice_get (ns ++ n ∷ []) place ≡ Some m → IsNoted a rels new k m
    each place k m at there = elim (cases_lt place (length ns)) [
      | inl below ↦
          let within : place < length (literals old) = subst (λ (j : ℕ). place < j) h.many below in
          note_more a rels old more new k m e
          (h.each place k m (sym (slice_get-append_left (literals old) (l ∷ []) place within) ∙ (ap (λ ls. slice_get ls place) (sym told) ∙ at)) (sym (slice_get-append_left ns (n ∷ []) place below) ∙ there))
      | inr above ↦
          let inside = slice_get_within (ns ++ n ∷ []) place m there in
          let last : place ≡ length ns = omega (arith, length_push ns n) in
          let same_m : n ≡ m = same_Some n m (sym (slice_get_push ns n) ∙ (ap (slice_get (ns ++ n ∷ [])) (sym last) ∙ there)) in
          let same_k : l ≡ k = same_Some l k (sym (slice_get_push (literals old) l) ∙ (ap (slice_get (literals old ++ l ∷ [])) (sym (last ∙ h.many)) ∙ (ap (λ ls. slice_get ls place) (sym told) ∙ at))) in
          subst (λ (x : Literal). IsNoted a rels new x m) same_k (subst (λ (y : Noted). IsNoted a rels new l y) same_m one)
    ]

-- where relations and entries are the same
pub noted_as : (a : Arena) (rels now : List Related) (old new : List Entry) (ns ms : List Noted) → now ≡ rels → new ≡ old → ms ≡ ns → AreNoted a rels old ns → AreNoted a now new ms
noted_as a rels now old new ns ms e f g h =
    subst (λ (rs : List Related). AreNoted a rs new ms) (sym e) (subst (λ (es : List Entry). AreNoted a rels es ms) (sym f) (subst (λ (xs : List Noted). AreNoted a rels old xs) (sym g) h))
