-- What a recheck finds once the terms of the texts are made, or are too many, over plain variables.
use Rattle.std.proofs.Common.{◌≡◌, ℕ, ◌<◌, true, Option, Some, List, [], map, length, sym, subst, ◌∙◌}
use Rattle.std.specs.List.{list_all, filter}
use Rattle.spv_logic.specs.declared.names.names.Symbol.{Symbol}
use Rattle.spv_logic.specs.declared.conditions.TermId.{TermId}
use Rattle.spv_logic.specs.declared.operators.Head.{Head}
use Rattle.spv_term.specs.declared.nodes.Condition.{Condition}
use Rattle.spv_term.specs.Arena.{Arena, IsArena, Extends, sequent, trees_of}
use Rattle.spv_term.proofs.ArenaLemmas.{tree-Extends, map_tree-Extends}
use Rattle.spv_proof_rules.specs.Rules.{Rule}
use Rattle.spv_proof_steps.proofs.StepLemmas.{AllBelow-formulas}
use Rattle.spv_search_terms.specs.condition_copy.Copies.{all_terms}
use Rattle.spv_search_terms.specs.subterms.Gaining.{Gains, Stops}
use Rattle.spv_proof.specs.checker.Ends.{ConditionIn}
use Rattle.spv_verdicts.specs.declared.answers.verdicts.Limit.TheVariants as limit
use Rattle.spv_verdicts.specs.declared.answers.verdicts.Verdict.{Verdict}
use Rattle.spv_verdicts.specs.declared.answers.verdicts.Verdict.TheVariants as verdict
use Rattle.spv_listing_values.specs.declared.data.Header.{Header}
use Rattle.spv_listing_values.specs.declared.data.Claim.{Claim}
use Rattle.spv_listing_values.specs.declared.texts.Text.{Text}
use Rattle.spv_listing_values.specs.Written.{Written}
use Rattle.spv_listing_values.specs.Mapped.{claim_terms}
use Rattle.spv_listing_values.specs.Places.{Flat, trees}
use Rattle.spv_listing_values.specs.Entries.{IsEntry, written_claim}
use Rattle.spv_listing_values.proofs.Numerals.{both_true}
use Rattle.spv_rechecking.specs.declared.written_terms.leaves.Leaves.{Leaves}
use Rattle.spv_rechecking.specs.written_terms.Standing.{Vocabulary, is_leaf, stands}
use Rattle.spv_rechecking.specs.written_terms.Read.{head_read}
use Rattle.spv_rechecking.specs.Rechecked.{Recheck, vocabulary, term_of, proof_of, has_node, header_eq, is_about, known}
use Rattle.spv_rechecking.specs.Made.{vocabulary_in, AreHeads, AreImages}
use Rattle.spv_rechecking.specs.Asked.{IsJudged, IsFound}
use Rattle.spv_rechecking.proofs.ReadLemmas.{same_vocabulary, about_same, too_many, stops_many, gained_known, gained_few, all_stand}
use Rattle.spv_rechecking.proofs.FoundLemmas.{found_many, found_judged}
use Rattle.spv_rechecking.proofs.MakeLemmas.{same_words}

module _ (names : List (List ℕ)) (titles : List (Option Symbol)) (rules : List Rule) (l : Leaves) (a : Arena) (c : Condition) (condition : ConditionIn a c) (terms_are : trees_of a.nodes ≡ all_terms (sequent a c)) where
  abbrev r : ℕ → Recheck
  r most = record { names = names; titles = titles; rules = rules; most = most }

  abbrev v : Vocabulary
  v = vocabulary (r a.most) a.shapes a.decls (sequent a c)

  -- the condition claims the same where the arena has grown
  sequent_stays : (b : Arena) → Extends a b → sequent b c ≡ sequent a c
  sequent_stays b grows = λ i. record { given = map_tree-Extends grows c.given (AllBelow-formulas a c.given condition.given) i; goal = tree-Extends grows c.goal condition.goal i }

  -- ids stay those of the terms that texts stand for
  pub images_stay : (ws : List Written) (b : Arena) → Extends a b → (images slice : List TermId) → slice ≡ images → AreImages (vocabulary_in names titles l a) b ws images → AreImages (vocabulary_in names titles l b) b ws slice
  images_stay ws b grows images slice is h =
      subst (AreImages (vocabulary_in names titles l b) b ws) (sym is) (subst (λ (u : Vocabulary). AreImages u b ws images) (sym (same_words names titles l a ws b grows)) h)

  module _ (leaves_are : l.heads.items ≡ filter is_leaf (map (λ n. n.head) a.nodes)) (fs : List Flat) (claim : Claim Text) (ok : IsEntry fs claim) (proof : has_node (proof_of claim.verdict) ≡ true) (heads : List Head) (are : AreHeads (vocabulary_in names titles l a) (trees fs) heads)
      (header : Header) (same : header_eq claim.header header ≡ true) where
    abbrev e : Claim Written
    e = written_claim fs claim

    words_are : vocabulary_in names titles l a ≡ v
    words_are = same_vocabulary (r a.most) l a (sequent a c) terms_are leaves_are

    about : is_about header e ≡ true
    about = about_same header fs claim ∙ both_true (header_eq claim.header header) (has_node (proof_of claim.verdict)) same proof

    all : list_all (stands v) (claim_terms e) ≡ true
    all = all_stand v a (sequent a c) terms_are fs e ok.terms heads (subst (λ (u : Vocabulary). map (head_read u) (trees fs) ≡ map Some heads) words_are are)

    -- there would be too many
    pub found_stops : Stops a (map (term_of (vocabulary_in names titles l a)) (trees fs)) → (last : Arena) (found : Verdict) → found ≡ verdict.GaveUp [] (limit.Terms a.most) → IsFound (r a.most) header a c (Some e) last found
    found_stops stops last found is =
        let more : a.most < length (known v (sequent a c) e) = stops_many v a (sequent a c) terms_are fs e ok.terms all (subst (λ (u : Vocabulary). Stops a (map (term_of u) (trees fs))) words_are stops) in
        found_many (r a.most) header a last c (Some e) (too_many v a.most header (sequent a c) e about all more) found is

    -- they are made
    pub found_made : (b : Arena) → IsArena b → Gains a b (map (term_of (vocabulary_in names titles l a)) (trees fs)) → (last : Arena) (found : Verdict)
        → IsJudged (r b.most) (vocabulary_in names titles l b) b c e last found → IsFound (r a.most) header a c (Some e) last found
    found_made b arena gains last found judged =
        let own : Gains a b (map (term_of v) (trees fs)) = subst (λ (u : Vocabulary). Gains a b (map (term_of u) (trees fs))) words_are gains in
        found_judged (r a.most) header a b last c (sequent_stays b gains.grows) e found about all
        (gained_few v a (sequent a c) terms_are fs e ok.terms all b arena own) (gained_known v a (sequent a c) terms_are fs e ok.terms all b own) (vocabulary_in names titles l b)
        (same_words names titles l a (trees fs) b gains.grows ∙ words_are) (subst (λ (n : ℕ). IsJudged (r n) (vocabulary_in names titles l b) b c e last found) gains.grows.most judged)
