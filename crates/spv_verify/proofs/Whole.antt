-- Texts that are read up to one byte above their limit.
use Rattle.std.proofs.Common.{◌≡◌, inl, inr, ℕ, ◌≤◌, ◌<◌, List, [], length, take, min, Option, Some, None, refl, ap, subst, arith}
use Rattle.std.proofs.lemmas.List.{take_all, length-take}
use Rattle.spv_lexer.specs.declared.LexFault.TheVariants as lex
use Rattle.spv_tree.specs.declared.tokens.token.Token.{Token}
use Rattle.spv_tree.specs.syntax.Reads.{ReadsRules}
use Rattle.spv_parser.specs.declared.refused.SyntaxFault.TheVariants as syntax
use Rattle.spv_parser.specs.declared.language.fault.LanguageFault.{LanguageFault}
use Rattle.spv_parser.specs.declared.language.fault.LanguageFault.TheVariants.{Tokens, Tree}
use Rattle.spv_parser.specs.language.Texts.{IsShort, IsFaultOf}
use Rattle.spv_program.specs.Programs.{Program}
use Rattle.spv_proof_rules.specs.Rules.{Rule}
use Rattle.spv_rules.specs.RuleSets.{rules_in}
use Rattle.spv_verify.specs.declared.texts.TextKind.{TextKind}
use Rattle.spv_verify.specs.declared.texts.TextTree.{TextTree}
use Rattle.spv_verify.specs.texts.Trees.{ReadsText}
use Rattle.spv_reports.specs.Reports.{Findings}
use Rattle.spv_verify.specs.declared.refused.refusal.Refusal.{Refusal}
use Rattle.spv_verify.specs.declared.refused.fault.Which.{Which}
use Rattle.spv_verify.specs.declared.refused.fault.Which.TheVariants as which
use Rattle.spv_verify.specs.tree_reports.RuleFiles.{AreRulesOf, IsRulesRefusal}
use Rattle.spv_listing_values.specs.declared.data.Claim.{Claim}
use Rattle.spv_listing_values.specs.declared.fault.ListFault.{ListFault}
use Rattle.spv_listing_values.specs.declared.fault.ListFault.TheVariants as no_listing
use Rattle.spv_listing_values.specs.Written.{Written}
use Rattle.spv_verify.specs.tree_reports.Listings.{IsListed, IsListFault, IsListingRefusal}
use Rattle.spv_verify.specs.tree_reports.Programs.{IsRuledRefusal, IsTreeRefusal}
use Rattle.spv_verify.specs.Refusals.{names_of, IsRefused, IsReportOf}

-- as much of a text as is read: one byte more than a listing may have
abbrev pub read_of : List ℕ → List ℕ
read_of text = take 67108865 text

abbrev pub file_read_of : Option (List ℕ) → Option (List ℕ)
file_read_of None = None
file_read_of (Some text) = Some (read_of text)

-- what was read is the whole text, where it is short
whole : (text : List ℕ) → IsShort (read_of text) → read_of text ≡ text
whole text short = take_all 67108865 text (fits (length text) (length (take 67108865 text)) (length-take 67108865 text) short)
  where
    fits : (n m : ℕ) → m ≡ min 67108865 n → m ≤ 4194304 → n ≤ 67108865
    fits n m e h = grind (arith)

longer : (text : List ℕ) → 4194304 < length (read_of text) → 4194304 < length text
longer text h = fits (length text) (length (take 67108865 text)) (length-take 67108865 text) h
  where
    fits : (n m : ℕ) → m ≡ min 67108865 n → 4194304 < m → 4194304 < n
    fits n m e h = grind (arith)

-- and so is a listing
whole_listing : (bytes : List ℕ) → length (read_of bytes) ≤ 67108864 → read_of bytes ≡ bytes
whole_listing bytes short = take_all 67108865 bytes (fits (length bytes) (length (take 67108865 bytes)) (length-take 67108865 bytes) short)
  where
    fits : (n m : ℕ) → m ≡ min 67108865 n → m ≤ 67108864 → n ≤ 67108865
    fits n m e h = grind (arith)

longer_listing : (bytes : List ℕ) → 67108864 < length (read_of bytes) → 67108864 < length bytes
longer_listing bytes h = fits (length bytes) (length (take 67108865 bytes)) (length-take 67108865 bytes) h
  where
    fits : (n m : ℕ) → m ≡ min 67108865 n → 67108864 < m → 67108864 < n
    fits n m e h = grind (arith)

-- ---- a fault of reading

module _ {A : Type 0} (reads : List Token → A → Type 0) (names : List (List ℕ)) where
  -- a text that is too long is so, and the other way round
  long_of : (text : List ℕ) → IsFaultOf reads names text (Tokens lex.TextTooLong) → 4194304 < length text
  long_of text is = is.1

  of_long : (text : List ℕ) → 4194304 < length text → IsFaultOf reads names text (Tokens lex.TextTooLong)
  of_long text h = (h, h)

  pub fault_whole : (text : List ℕ) (fault : LanguageFault) → IsFaultOf reads names (read_of text) fault → IsFaultOf reads names text fault
  fault_whole text (Tokens (lex.BadByte line)) is = subst (λ t. IsFaultOf reads names t (Tokens (lex.BadByte line))) (whole text is.0) is
  fault_whole text (Tokens (lex.OpenComment line)) is = subst (λ t. IsFaultOf reads names t (Tokens (lex.OpenComment line))) (whole text is.0) is
  fault_whole text (Tokens (lex.NumeralTooLarge line)) is = subst (λ t. IsFaultOf reads names t (Tokens (lex.NumeralTooLarge line))) (whole text is.0) is
  fault_whole text (Tokens lex.TextTooLong) is = of_long text (longer text (long_of (read_of text) is))
  fault_whole text (Tokens lex.Memory) is = (tt, tt)
  fault_whole text (Tree (syntax.Profile line word)) is = subst (λ t. IsFaultOf reads names t (Tree (syntax.Profile line word))) (whole text is.0.short) is
  fault_whole text (Tree (syntax.TooDeep line)) is = subst (λ t. IsFaultOf reads names t (Tree (syntax.TooDeep line))) (whole text is.0.short) is
  fault_whole text (Tree (syntax.Syntax line)) is = subst (λ t. IsFaultOf reads names t (Tree (syntax.Syntax line))) (whole text is.0.short) is
  fault_whole text (Tree syntax.Memory) is = subst (λ t. IsFaultOf reads names t (Tree syntax.Memory)) (whole text is.0.short) is

-- ---- rule files

module _ (names : List (List ℕ)) (p : Program) where
  -- a rule file that was read so is read whole
  rules_whole : (rules : Option (List ℕ)) (list : List Rule) → AreRulesOf names p (file_read_of rules) list → file_read_of rules ≡ rules
  rules_whole None list are = refl
  rules_whole (Some text) list are = ap (λ t. Some t) (whole text are.is_tree.cut.short)

  refused_rules_whole : (rules : Option (List ℕ)) (r : Refusal) → IsRulesRefusal names p (file_read_of rules) r → IsRulesRefusal names p rules r
  refused_rules_whole None r refused = refused
  refused_rules_whole (Some text) r (inl reading) = inl (record { fault = reading.fault; stops = fault_whole ReadsRules names text reading.fault reading.stops; told = reading.told })
  refused_rules_whole (Some text) r (inr (tree, tree_is, refused)) =
      subst (λ t. IsRulesRefusal names p (Some t) r) (whole text tree_is.cut.short) (inr (tree, tree_is, refused))

-- ---- listings

-- a listing that was read so is read whole
listed_whole : (listing : Option (List ℕ)) (entries : Option (List (Claim Written))) → IsListed (file_read_of listing) entries → file_read_of listing ≡ listing
listed_whole None entries is = refl
listed_whole (Some bytes) None is = absurd is
listed_whole (Some bytes) (Some entries) is = ap (λ t. Some t) (whole_listing bytes is.short)

list_fault_whole : (bytes : List ℕ) (fault : ListFault) → IsListFault (read_of bytes) fault → IsListFault bytes fault
list_fault_whole bytes no_listing.TooLong stops = longer_listing bytes stops
list_fault_whole bytes (no_listing.Form line) stops = subst (λ t. IsListFault t (no_listing.Form line)) (whole_listing bytes stops.0) stops
list_fault_whole bytes no_listing.Memory stops = tt

refused_listing_whole : (listing : Option (List ℕ)) (r : Refusal) → IsListingRefusal (file_read_of listing) r → IsListingRefusal listing r
refused_listing_whole None r refused = refused
refused_listing_whole (Some bytes) r refused = record { fault = refused.fault; stops = list_fault_whole bytes refused.fault refused.stops; told = refused.told }

-- ---- programs

module _ (names : List (List ℕ)) (p : Program) where
  has_rules_whole : (rules : Option (List ℕ)) (list : List Rule) → AreRulesOf names p (file_read_of rules) list → AreRulesOf names p rules list
  has_rules_whole rules list are = subst (λ (o : Option (List ℕ)). AreRulesOf names p o list) (rules_whole names p rules list are) are

  has_listing_whole : (listing : Option (List ℕ)) (entries : Option (List (Claim Written))) → IsListed (file_read_of listing) entries → IsListed listing entries
  has_listing_whole listing entries is = subst (λ (o : Option (List ℕ)). IsListed o entries) (listed_whole listing entries is) is

  ruled_whole : (rules listing : Option (List ℕ)) (w : Which) (r : Refusal) → IsRuledRefusal names p (file_read_of rules) (file_read_of listing) w r → IsRuledRefusal names p rules listing w r
  ruled_whole rules listing which.Rules r refused = refused_rules_whole names p rules r refused
  ruled_whole rules listing which.Listing r ((rule, are), refused) = ((rule, has_rules_whole rules rule are), refused_listing_whole listing r refused)
  ruled_whole rules listing which.Program r ((rule, are), ((entries, listed), refused)) =
      ((rule, has_rules_whole rules rule are), ((entries, has_listing_whole listing entries listed), refused))

-- ---- texts

-- the report of what was read of texts is that of the texts
pub report_whole : (kind : TextKind) (text : List ℕ) (rules listing : Option (List ℕ)) (r : Findings) → IsReportOf kind (read_of text) (file_read_of rules) (file_read_of listing) r
    → IsReportOf kind text rules listing r
report_whole kind text rules listing r is =
    subst (λ t. IsReportOf kind t rules listing r) (whole text is.of_text.is_tree.cut.short)
    (subst (λ (o : Option (List ℕ)). IsReportOf kind (read_of text) rules o r) (listed_whole listing r.listing is.listed)
    (subst (λ (o : Option (List ℕ)). IsReportOf kind (read_of text) o (file_read_of listing) r) (rules_whole (names_of (read_of text)) is.program rules (rules_in r.rules) is.under) is))

-- and so is what they are refused for
tree_whole : (names : List (List ℕ)) (tree : TextTree) (rules listing : Option (List ℕ)) (w : Which) (r : Refusal) → IsTreeRefusal names tree (file_read_of rules) (file_read_of listing) w r
    → IsTreeRefusal names tree rules listing w r
tree_whole names tree rules listing w r (inl walk) = inl walk
tree_whole names tree rules listing w r (inr (p, sound, refused)) = inr (p, sound, ruled_whole names p rules listing w r refused)

pub refused_whole : (kind : TextKind) (text : List ℕ) (rules listing : Option (List ℕ)) (w : Which) (r : Refusal) → IsRefused kind (read_of text) (file_read_of rules) (file_read_of listing) w r
    → IsRefused kind text rules listing w r
refused_whole kind text rules listing w r (inl (first, reading)) =
    inl (first, record { fault = reading.fault; stops = fault_whole (ReadsText kind) [] text reading.fault reading.stops; told = reading.told })
refused_whole kind text rules listing w r (inr (tree, tree_is, refused)) =
    subst (λ t. IsRefused kind t rules listing w r) (whole text tree_is.cut.short) (inr (tree, tree_is, tree_whole (names_of (read_of text)) tree rules listing w r refused))
