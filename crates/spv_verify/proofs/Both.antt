-- No text is refused and has a report.
use Rattle.std.proofs.Common.{◌≡◌, inl, inr, ℕ, ◌≤◌, List, [], map, length, Option, Some, None, Ok, Err, IsTrue, sym, ap, ◌∙◌, subst, arith}
use Rattle.std.proofs.lemmas.Option.{none-some}
use Rattle.spv_lexer.specs.declared.LexFault.TheVariants as lex
use Rattle.spv_parser.specs.declared.refused.SyntaxFault.TheVariants as syntax
use Rattle.spv_parser.specs.declared.language.fault.LanguageFault.{LanguageFault}
use Rattle.spv_parser.specs.declared.language.fault.LanguageFault.TheVariants.{Tokens, Tree}
use Rattle.spv_parser.specs.language.Texts.{names_with, IsTreeOf, IsFaultOf, TextsHaveOneTree}
use Rattle.spv_tree.specs.declared.tokens.token.Token.{Token}
use Rattle.spv_tree.specs.declared.syntax.rules.RuleTree.{RuleTree}
use Rattle.spv_tree.specs.syntax.Reads.{Reads, ReadsFormulaText, ReadsRules}
use Rattle.spv_typing.specs.Known.{known_in}
use Rattle.spv_proof_rules.specs.Rules.{Rule}
use Rattle.spv_rule_files.specs.declared.faults.RuleFault.{RuleFault}
use Rattle.spv_rule_files.specs.Outcomes.{RuleOutcome}
use Rattle.spv_rule_files.specs.Rules.{rules_walk}
use Rattle.spv_rule_files.specs.rule_terms.RuleTerms.{rule_of}
use Rattle.spv_verify.specs.declared.texts.TextTree.{TextTree}
use Rattle.spv_verify.specs.texts.Trees.{ReadsText}
use Rattle.spv_verify.proofs.texts.TwoWays.{one_tree}
use Rattle.spv_program.specs.Programs.{Program}
use Rattle.spv_type_soundness.proofs.well_typed.Outcomes.{no_fault, same_value}
use Rattle.spv_effects.specs.frame_walk.FrameWalk.{frame_fault}
use Rattle.spv_assign.specs.declared.creation_trace.faults.GenFault.{GenFault}
use Rattle.spv_conditions.specs.Making.{MeetsLimit, IsWithinLimits, MeetsNoOther}
use Rattle.spv_reports.specs.Reports.{Findings, IsReportOn, IsNotRefused}
use Rattle.spv_rules.specs.RuleSets.{rules_in}
use Rattle.spv_verify.specs.declared.refused.refusal.Refusal.{Refusal}
use Rattle.spv_verify.specs.declared.refused.fault.Which.{Which}
use Rattle.spv_verify.specs.declared.refused.fault.Which.TheVariants as which
use Rattle.spv_verify.specs.refused.Told.{text_refusal, listing_refusal, limit_refusal}
use Rattle.spv_listing_values.specs.declared.data.Claim.{Claim}
use Rattle.spv_listing_values.specs.declared.fault.ListFault.{ListFault}
use Rattle.spv_listing_values.specs.declared.fault.ListFault.TheVariants as no_listing
use Rattle.spv_listing_values.specs.Written.{Written}
use Rattle.spv_listing_values.specs.Forms.{is_listing}
use Rattle.spv_listing_values.specs.Page.{page}
use Rattle.spv_verify.specs.tree_reports.Walks.{IsSound, IsWalkRefusal, is_typed_as}
use Rattle.spv_verify.specs.tree_reports.RuleFiles.{AreFileRules, AreRulesOf, IsFileRefusal, IsRulesRefusal}
use Rattle.spv_verify.specs.tree_reports.Listings.{IsListed, IsListFault, IsListingOf, IsListingRefusal}
use Rattle.spv_verify.specs.tree_reports.Programs.{IsProgramRefusal, IsRuledRefusal, IsTreeRefusal}
use Rattle.spv_verify.specs.Refusals.{names_of, HaveNotBoth, IsOneProgram, IsOneList, IsOneListing}

-- ---- reading

-- a text with a tree has no fault of reading
by_reading : {A : Type 0} (reads : List Token → A → Type 0) (names : List (List ℕ)) (text : List ℕ) (tree : A) (r : Refusal) → IsTreeOf reads names text tree → (fault : LanguageFault)
    → IsFaultOf reads names text fault → text_refusal fault ≡ Some r → ⊥
by_reading reads names text tree r is (Tokens (lex.BadByte line)) (short, stop) told = none-some _ (sym is.cut.read ∙ stop)
by_reading reads names text tree r is (Tokens (lex.OpenComment line)) (short, stop) told = none-some _ (sym is.cut.read ∙ stop)
by_reading reads names text tree r is (Tokens (lex.NumeralTooLarge line)) (short, stop) told = none-some _ (sym is.cut.read ∙ stop)
by_reading reads names text tree r is (Tokens lex.TextTooLong) (above, long) told = let short : length text ≤ 4194304 = is.cut.short in omega (arith, short, long)
by_reading reads names text tree r is (Tokens lex.Memory) stops told = none-some _ told
by_reading reads names text tree r is (Tree (syntax.Profile line word)) (cut, out) told = none-some _ (sym is.allowed.known ∙ out)
by_reading reads names text tree r is (Tree (syntax.TooDeep line)) (cut, (known, deep)) told = none-some _ (sym is.allowed.shallow ∙ deep)
by_reading reads names text tree r is (Tree (syntax.Syntax line)) (cut, (allowed, none, line_is)) told = none tree is.is_tree
by_reading reads names text tree r is (Tree syntax.Memory) stops told = none-some _ told

-- ---- rule files

no_rule_fault : {A : Type 0} {fault : RuleFault} {x : A} → (o : RuleOutcome A) → o ≡ Err fault → o ≡ Ok x → ⊥
no_rule_fault o e k = cc

same_list : {A : Type 0} {x y : A} → (o : RuleOutcome A) → o ≡ Ok x → o ≡ Ok y → x ≡ y
same_list o e k = cc

module _ (one : TextsHaveOneTree ReadsRules) (names : List (List ℕ)) (p : Program) where
  -- a rule file that is rules has no fault
  file_not_refused : (text : List ℕ) (list : List Rule) (r : Refusal) → AreFileRules names p text list → IsFileRefusal names p text r → ⊥
  file_not_refused text list r are (inl reading) = by_reading ReadsRules names text are.tree r are.is_tree reading.fault reading.stops reading.told
  file_not_refused text list r are (inr (tree, tree_is, walk)) =
      let there = subst (λ (t : RuleTree). rules_walk (known_in (names_with names text)) p t ≡ Err walk.fault) (one names text tree are.tree tree_is are.is_tree) walk.stops in
      no_rule_fault (rules_walk (known_in (names_with names text)) p are.tree) there are.typed

  rules_not_refused : (rules : Option (List ℕ)) (list : List Rule) (r : Refusal) → AreRulesOf names p rules list → IsRulesRefusal names p rules r → ⊥
  rules_not_refused None list r are refused = refused
  rules_not_refused (Some text) list r are refused = file_not_refused text list r are refused

  one_file_list : (text : List ℕ) (first second : List Rule) → AreFileRules names p text first → AreFileRules names p text second → first ≡ second
  one_file_list text first second h k =
      let there = subst (λ (t : RuleTree). rules_walk (known_in (names_with names text)) p t ≡ Ok k.list) (one names text k.tree h.tree k.is_tree h.is_tree) k.typed in
      h.same ∙ (ap (map rule_of) (same_list (rules_walk (known_in (names_with names text)) p h.tree) h.typed there) ∙ sym k.same)

pub is_one_list : TextsHaveOneTree ReadsRules → IsOneList
is_one_list one names p None first second h k = h ∙ sym k
is_one_list one names p (Some text) first second h k = one_file_list one names p text first second h k

-- ---- listings

-- bytes that are a listing have no fault
bytes_not_refused : (bytes : List ℕ) (entries : List (Claim Written)) (r : Refusal) → IsListingOf bytes entries → (fault : ListFault) → IsListFault bytes fault → listing_refusal fault ≡ Some r → ⊥
bytes_not_refused bytes entries r is no_listing.TooLong long told = let short : length bytes ≤ 67108864 = is.short in omega (arith, short, long)
bytes_not_refused bytes entries r is (no_listing.Form line) (short, none) told = none entries is.formed is.printed
bytes_not_refused bytes entries r is no_listing.Memory stops told = none-some _ told

listing_not_refused : (listing : Option (List ℕ)) (entries : Option (List (Claim Written))) (r : Refusal) → IsListed listing entries → IsListingRefusal listing r → ⊥
listing_not_refused None entries r is refused = refused
listing_not_refused (Some bytes) None r is refused = is
listing_not_refused (Some bytes) (Some entries) r is refused = bytes_not_refused bytes entries r is refused.fault refused.stops refused.told

-- two listings with the same bytes are one
abbrev ArePrintedApart : Type 0
ArePrintedApart = (a b : List (Claim Written)) → IsTrue (is_listing a) → IsTrue (is_listing b) → page a ≡ page b → a ≡ b

pub is_one_listing : ArePrintedApart → IsOneListing
is_one_listing apart None first second h k = h ∙ sym k
is_one_listing apart (Some bytes) None second h k = absurd h
is_one_listing apart (Some bytes) (Some a) None h k = absurd k
is_one_listing apart (Some bytes) (Some a) (Some b) h k = ap Some (apart a b h.formed k.formed (h.printed ∙ sym k.printed))

-- ---- programs

-- a tree is one program
one_program : (names : List (List ℕ)) (tree : TextTree) (p q : Program) → IsSound names tree p → is_typed_as names tree q → p ≡ q
one_program names tree p q sound typed = same_value (sym sound.typed ∙ typed)

-- a sound tree has no fault of a walk
sound_not_refused : (names : List (List ℕ)) (tree : TextTree) (p : Program) (r : Refusal) → IsSound names tree p → IsWalkRefusal names tree r → ⊥
sound_not_refused names tree p r sound (inl type) = no_fault (sym type.stops ∙ sound.typed)
sound_not_refused names tree p r sound (inr (q, typed, frame)) = none-some _ (sym sound.framed ∙ ap frame_fault (one_program names tree p q sound typed) ∙ frame.stops)

module _ (one : MeetsNoOther) (one_rules : TextsHaveOneTree ReadsRules) (p : Program) (f : Findings) (is : IsReportOn p f) (not_refused : IsNotRefused p f) where
  within : IsWithinLimits p
  within = record { arena = f.arena; sound = is.sound; walked = not_refused.within }

  no_limit : (e : GenFault) (r : Refusal) → MeetsLimit e p → limit_refusal e ≡ Some r → ⊥
  no_limit e r meets told = none-some _ (sym (ap limit_refusal (one p e meets within)) ∙ told)

  -- the program of a report has no refusal
  program_not_refused : (r : Refusal) → IsProgramRefusal p r → ⊥
  program_not_refused r limits = no_limit limits.limit r limits.meets limits.told

  module _ (names : List (List ℕ)) (rules listing : Option (List ℕ)) (under : AreRulesOf names p rules (rules_in f.rules)) (listed : IsListed listing f.listing) where
    -- nor have its rule file and its listing
    ruled_not_refused : (w : Which) (r : Refusal) → IsRuledRefusal names p rules listing w r → ⊥
    ruled_not_refused which.Rules r refused = rules_not_refused one_rules names p rules (rules_in f.rules) r under refused
    ruled_not_refused which.Listing r (list, refused) = listing_not_refused listing f.listing r listed refused
    ruled_not_refused which.Program r (list, (entries, refused)) = program_not_refused r refused

    pub tree_not_refused : (tree : TextTree) (w : Which) (r : Refusal) → IsSound names tree p → IsTreeRefusal names tree rules listing w r → ⊥
    tree_not_refused tree w r sound (inl (first, walk)) = sound_not_refused names tree p r sound walk
    tree_not_refused tree w r sound (inr (q, other, refused)) =
        ruled_not_refused w r (subst (λ (x : Program). IsRuledRefusal names x rules listing w r) (sym (one_program names tree p q sound other.typed)) refused)

pub not_both : TextsHaveOneTree Reads → TextsHaveOneTree ReadsFormulaText → TextsHaveOneTree ReadsRules → MeetsNoOther → HaveNotBoth
not_both programs formulas files one kind text rules listing f w r of (inl (first, reading)) =
    by_reading (ReadsText kind) [] text of.of_text.tree r of.of_text.is_tree reading.fault reading.stops reading.told
not_both programs formulas files one kind text rules listing f w r of (inr (tree, tree_is, refused)) =
    tree_not_refused one files of.program f of.is_on of.not_refused (names_of text) rules listing of.under of.listed of.of_text.tree w r of.of_text.sound
    (subst (λ (t : TextTree). IsTreeRefusal (names_of text) t rules listing w r) (one_tree programs formulas kind [] text tree of.of_text.tree tree_is of.of_text.is_tree) refused)

pub is_one_program : TextsHaveOneTree Reads → TextsHaveOneTree ReadsFormulaText → IsOneProgram
is_one_program programs formulas kind text p q h k =
    one_program (names_of text) h.tree p q h.sound (subst (λ (t : TextTree). is_typed_as (names_of text) t q) (one_tree programs formulas kind [] text k.tree h.tree k.is_tree h.is_tree) k.sound.typed)
