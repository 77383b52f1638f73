-- Texts that are read up to one byte above the longest limit, and a report of them with proofs or without.
use Rattle.std.proofs.Common.{◌≡◌, ◌∙◌, inl, inr, ℕ, zero, suc, Bool, List, [], ◌∷◌, ◌++◌, length, map, take, Option, Some, None, IfSome, IsSomeAnd, Result, Ok, Err, IfOk, Vec, Global, Bor, refl, sym, ap, subst}
use Rattle.std.specs.Prelude.{option_and_then, option_map, slice_get}
use Rattle.std.proofs.lemmas.Option.{none-some, same_Some}
use Rattle.std.specs.declared.alloc.AllocError.{AllocError}
use Rattle.std.proofs.lemmas.List.{append-nil, append_assoc, length-map}
use Rattle.spv_reports.specs.Reports.{Findings, IsReport}
use Rattle.spv_reports.proofs.Reports.{same_report_on}
use Rattle.spv_reports.specs.declared.mode.Mode.{Mode}
use Rattle.spv_reports.specs.declared.mode.Mode.TheVariants as mode
use Rattle.spv_reports.specs.declared.mode.Load.{Load}
use Rattle.spv_verdicts.specs.Verdicts.{Limits}
use Rattle.spv_verify.specs.declared.texts.TextKind.{TextKind}
use Rattle.spv_verify.specs.texts.Trees.{kind_of}
use Rattle.spv_verify.specs.declared.refused.refusal.Refusal.{Refusal}
use Rattle.spv_verify.specs.declared.refused.fault.Which.{Which}
use Rattle.spv_verify.specs.Refusals.{IsRefused, IsReportOf}
use Rattle.spv_verify.proofs.Whole.{read_of, file_read_of, refused_whole, report_whole}
use Rattle.spv_cli.specs.declared.found.Found.{Found}
use Rattle.spv_cli.specs.declared.found.Found.TheVariants.{ReadFailed, Refusing, Reporting}
use Rattle.spv_cli.specs.declared.reading.Gathered.{Gathered}
use Rattle.spv_cli.specs.declared.reading.Gathered.TheVariants.{Texts}
use Rattle.spv_cli.specs.Commands.{Command}
use Rattle.spv_cli.specs.Drill.{drill_text}
use Rattle.spv_cli.specs.Gathering.{AreTextsOf, HasGathered, IsAskedFound, IsTextFound}
use Rattle.spv_cli.specs.Runs.{Reading, AreAskedInPart, AreAskedUpTo, AreReadInPart, AreReadWhole, IsFound, Sources, name_of, ruled_by, sources_in, told_of}

-- whether a page has proofs changes nothing of what a report is of
pub same_report_of : (kind : TextKind) (text : List ℕ) (rules listing : Option (List ℕ)) (r : Findings) (proofs : Bool) → IsReportOf kind text rules listing r
    → IsReportOf kind text rules listing (record r { proofs = proofs })
same_report_of kind text rules listing r proofs is = record {
  program = is.program;
  of_text = is.of_text;
  is_on = same_report_on is.program r proofs is.is_on;
  not_refused = record { within = is.not_refused.within };
  names = is.names;
  under = is.under;
  listed = is.listed;
}

-- what was read of the told texts: as much of each as a listing may have, and one byte more
texts_read : (told : List ℕ → Option (List ℕ)) (files texts : List (List ℕ)) → AreTextsOf told files texts → IfSome (told_of told files) (λ whole. texts ≡ map read_of whole)
texts_read told [] [] are = refl
texts_read told [] (t ∷ texts) are = absurd are
texts_read told (x ∷ files) [] are = absurd are
texts_read told (x ∷ files) (t ∷ texts) are = both (told x) (told_of told files) are.0 (texts_read told files texts are.1)
  where
    both : (first : Option (List ℕ)) (others : Option (List (List ℕ))) → IfSome first (λ text. t ≡ take 67108865 text) → IfSome others (λ whole. texts ≡ map read_of whole)
        → IfSome (option_and_then (λ text. option_map (λ all. text ∷ all) others) first) (λ whole. t ∷ texts ≡ map read_of whole)
    both None others one all = tt
    both (Some text) None one all = tt
    both (Some text) (Some whole) one all = (λ i. one i ∷ all i)

-- the sources that are made of what was read
abbrev read_sources : Sources → Sources
read_sources s = record { text = read_of s.text; rules = file_read_of s.rules; listing = file_read_of s.listing }

place_read : (whole : List (List ℕ)) (k : ℕ) → slice_get (map read_of whole) k ≡ file_read_of (slice_get whole k)
place_read [] k = refl
place_read (t ∷ whole) zero = refl
place_read (t ∷ whole) (suc k) = place_read whole k

-- a fact about what was read is one about the told texts
module _ (P : Sources → Type 0) (grow : (s : Sources) → P (read_sources s) → P s) where
  ruled : (text : List ℕ) (whole : List (List ℕ)) → P (ruled_by (read_of text) (slice_get (map read_of whole) 0)) → P (ruled_by text (slice_get whole 0))
  ruled text whole h = grow (ruled_by text (slice_get whole 0)) (subst (λ (o : Option (List ℕ)). P (ruled_by (read_of text) o)) (place_read whole 0) h)

  checked : (text bytes : List ℕ) (whole : List (List ℕ)) → P (record { text = read_of text; rules = slice_get (map read_of whole) 0; listing = Some (read_of bytes) })
      → P (record { text = text; rules = slice_get whole 0; listing = Some bytes })
  checked text bytes whole h =
      grow (record { text = text; rules = slice_get whole 0; listing = Some bytes })
      (subst (λ (o : Option (List ℕ)). P (record { text = read_of text; rules = o; listing = Some (read_of bytes) })) (place_read whole 0) h)

  kept_whole : (m : Mode) (whole : List (List ℕ)) → IsSomeAnd (sources_in m (map read_of whole)) P → IfSome (sources_in m whole) P
  kept_whole (mode.Drill load limits) whole h = h
  kept_whole (mode.Verify limits) [] h = tt
  kept_whole (mode.Verify limits) (t ∷ whole) h = ruled t whole h
  kept_whole (mode.Simplify limits) [] h = tt
  kept_whole (mode.Simplify limits) (t ∷ whole) h = ruled t whole h
  kept_whole mode.Check [] h = tt
  kept_whole mode.Check (t ∷ []) h = tt
  kept_whole mode.Check (t ∷ bytes ∷ whole) h = checked t bytes whole h
  kept_whole mode.Conditions [] h = tt
  kept_whole mode.Conditions (t ∷ whole) h = ruled t whole h

  if_told : (m : Mode) (told : Option (List (List ℕ))) (texts : List (List ℕ)) → IfSome told (λ whole. texts ≡ map read_of whole) → IsSomeAnd (sources_in m texts) P
      → IfSome (option_and_then (sources_in m) told) P
  if_told m None texts same h = tt
  if_told m (Some whole) texts same h = kept_whole m whole (subst (λ (l : List (List ℕ)). IsSomeAnd (sources_in m l) P) same h)

-- what is found of some sources, apart from what it says of them
refusing : (c : Command) (file : List ℕ) (r : Refusal) (o : Option Sources) → IsSomeAnd o (λ s. (w : Which) × (file ≡ name_of c w) × IsRefused (kind_of c.mode) s.text s.rules s.listing w r)
    → (w : Which) × (file ≡ name_of c w) × IsSomeAnd o (λ s. IsRefused (kind_of c.mode) s.text s.rules s.listing w r)
refusing c file r None h = absurd h
refusing c file r (Some s) h = h

reporting : (c : Command) (r : Findings) (o : Option Sources) → IsSomeAnd o (λ s. IsReport r × (r.mode ≡ c.mode) × (r.proofs ≡ c.proofs) × IsReportOf (kind_of c.mode) s.text s.rules s.listing r)
    → IsReport r × (r.mode ≡ c.mode) × (r.proofs ≡ c.proofs) × IsSomeAnd o (λ s. IsReportOf (kind_of c.mode) s.text s.rules s.listing r)
reporting c r None h = absurd h
reporting c r (Some s) h = h

failing : (o : Option Sources) → IsSomeAnd o (λ s. ⊥) → ⊥
failing None h = h
failing (Some s) h = h

-- what is found of the texts that were read is found of the files
found_source : (o : Reading) (c : Command) (texts : List (List ℕ)) (f : Found) → AreReadWhole o c.files → AreTextsOf o.told c.files texts → IsAskedFound c texts f → IsFound o c f
found_source o c texts (ReadFailed other) read are found = absurd (failing (sources_in c.mode texts) found)
found_source o c texts (Refusing other r) read are found =
    let h = refusing c other.now r (sources_in c.mode texts) found in (
      read,
      (
        h.0,
        h.1,
        if_told (λ s. IsRefused (kind_of c.mode) s.text s.rules s.listing h.0 r) (λ s k. refused_whole (kind_of c.mode) s.text s.rules s.listing h.0 r k)
            c.mode (told_of o.told c.files) texts (texts_read o.told c.files texts are) h.2,
      ),
    )
found_source o c texts (Reporting r) read are found =
    let h = reporting c r (sources_in c.mode texts) found in (
      read,
      h.0,
      h.1,
      h.2,
      if_told (λ s. IsReportOf (kind_of c.mode) s.text s.rules s.listing r) (λ s k. report_whole (kind_of c.mode) s.text s.rules s.listing r k)
          c.mode (told_of o.told c.files) texts (texts_read o.told c.files texts are) h.3,
    )

-- what is found of the sources of a command is found of its texts
pub asked_found : (c : Command) (texts : List (List ℕ)) (s : Sources) (result : Result Found AllocError) → sources_in c.mode texts ≡ Some s → IfOk result (IsTextFound c s) → IfOk result (IsAskedFound c texts)
asked_found c texts s (Ok f) same found = subst (λ (o : Option Sources). IsSomeAnd o (λ x. IsTextFound c x f)) (sym same) found
asked_found c texts s (Err e) same found = tt

-- which sources these are
module _ (m : Mode) (texts : List (List ℕ)) where
  pub made_source : (load : Load) (limits : Limits) (text : List ℕ) → m ≡ mode.Drill load limits → text ≡ drill_text load → sources_in m texts ≡ Some (ruled_by text None)
  made_source load limits text is same = ap (λ (k : Mode). sources_in k texts) is ∙ ap (λ (t : List ℕ). Some (ruled_by t None)) (sym same)

  pub checked_source : (text bytes : List ℕ) (rules : Option (List ℕ)) → m ≡ mode.Check → slice_get texts 0 ≡ Some text → slice_get texts 1 ≡ Some bytes → rules ≡ slice_get texts 2
      → sources_in m texts ≡ Some (record { text = text; rules = rules; listing = Some bytes })
  checked_source text bytes rules is first second third =
      ap (λ (k : Mode). sources_in k texts) is
      ∙ (by_texts texts first second ∙ ap (λ (o : Option (List ℕ)). Some (record { text = text; rules = o; listing = Some bytes })) (sym third))
    where
      by_texts : (l : List (List ℕ)) → slice_get l 0 ≡ Some text → slice_get l 1 ≡ Some bytes → sources_in mode.Check l ≡ Some (record { text = text; rules = slice_get l 2; listing = Some bytes })
      by_texts [] f s = absurd (none-some _ f)
      by_texts (t ∷ []) f s = absurd (none-some _ s)
      by_texts (t ∷ b ∷ l) f s = (λ i. Some (record { text = same_Some t text f i; rules = slice_get l 0; listing = s i }))

  -- without a listing
  module _ (text : List ℕ) (rules : Option (List ℕ)) where
    by_first : (k : Mode) → ((t : List ℕ) (l : List (List ℕ)) → sources_in k (t ∷ l) ≡ Some (ruled_by t (slice_get l 0))) → m ≡ k → slice_get texts 0 ≡ Some text → rules ≡ slice_get texts 1
        → sources_in m texts ≡ Some (ruled_by text rules)
    by_first k plain is first second =
        ap (λ (x : Mode). sources_in x texts) is ∙ (by_texts texts first ∙ ap (λ (o : Option (List ℕ)). Some (ruled_by text o)) (sym second))
      where
        by_texts : (l : List (List ℕ)) → slice_get l 0 ≡ Some text → sources_in k l ≡ Some (ruled_by text (slice_get l 1))
        by_texts [] f = absurd (none-some _ f)
        by_texts (t ∷ l) f = plain t l ∙ ap (λ (x : List ℕ). Some (ruled_by x (slice_get l 0))) (same_Some t text f)

    pub verified_source : (limits : Limits) → m ≡ mode.Verify limits → slice_get texts 0 ≡ Some text → rules ≡ slice_get texts 1 → sources_in m texts ≡ Some (ruled_by text rules)
    verified_source limits = by_first (mode.Verify limits) (λ t l. refl)

    pub simplified_source : (limits : Limits) → m ≡ mode.Simplify limits → slice_get texts 0 ≡ Some text → rules ≡ slice_get texts 1 → sources_in m texts ≡ Some (ruled_by text rules)
    simplified_source limits = by_first (mode.Simplify limits) (λ t l. refl)

    pub listed_source : m ≡ mode.Conditions → slice_get texts 0 ≡ Some text → rules ≡ slice_get texts 1 → sources_in m texts ≡ Some (ruled_by text rules)
    listed_source = by_first mode.Conditions (λ t l. refl)

pub found_result : (o : Reading) (c : Command) (asked files : List (Bor (List ℕ))) (g : Gathered) (read : Vec (Vec ℕ Global) Global) (slice : List (Vec ℕ Global)) (result : Result Found AllocError)
    → c.files ≡ map (λ file. file.now) files → HasGathered o (map (λ file. file.now) asked) g → asked ≡ files → g ≡ Texts read → slice ≡ read.items
    → IfOk result (IsAskedFound c (map (λ text. text.items) slice)) → IfOk result (IsFound o c)
found_result o c asked files g read slice (Ok f) names has all is same found =
    let here : HasGathered o c.files g = subst (λ (l : List (List ℕ)). HasGathered o l g) (ap (map (λ file. file.now)) all ∙ sym names) has in
    let texts : HasGathered o c.files (Texts read) = subst (HasGathered o c.files) is here in
    found_source o c (map (λ text. text.items) read.items) f texts.0 texts.1 (subst (λ (ts : List (Vec ℕ Global)). IsAskedFound c (map (λ text. text.items) ts) f) same found)
found_result o c asked files g read slice (Err e) names has all is same found = tt

-- there is one text for each file
as_many : (told : List ℕ → Option (List ℕ)) (files texts : List (List ℕ)) → AreTextsOf told files texts → length texts ≡ length files
as_many told [] [] are = refl
as_many told [] (t ∷ texts) are = absurd are
as_many told (x ∷ files) [] are = absurd are
as_many told (x ∷ files) (t ∷ texts) are = ap suc (as_many told files texts are.1)

pub texts_as_many : (o : Reading) (files : List (List ℕ)) (g : Gathered) (read : Vec (Vec ℕ Global) Global) → HasGathered o files g → g ≡ Texts read → length read.items ≡ length files
texts_as_many o files g read has is =
    let all : HasGathered o files (Texts read) = subst (HasGathered o files) is has in
    sym (length-map read.items (λ (text : Vec ℕ Global). text.items)) ∙ as_many o.told files (map (λ text. text.items) read.items) all.1

-- what is found is found by reading the first of the files
in_part : (before after : Option (List (List ℕ))) (files : List (List ℕ)) (file : List ℕ) → AreAskedUpTo before after files file → AreAskedInPart before after files
in_part before after files file is = record { first = is.first ++ file ∷ []; rest = is.rest; are_first = is.are_first ∙ sym (append_assoc is.first (file ∷ []) is.rest); asked = is.asked }

pub whole_in_part : (o : Reading) (files : List (List ℕ)) → AreReadWhole o files → AreReadInPart o files
whole_in_part o files is = record { asked = record { first = files; rest = []; are_first = sym (append-nil files); asked = is.asked }; faults = inl is.faults }

pub reading_of : (o : Reading) (c : Command) (f : Found) → IsFound o c f → AreReadInPart o c.files
reading_of o c (ReadFailed file) is = record { asked = in_part _ _ c.files file.now is.asked; faults = inr is.rose }
reading_of o c (Refusing file r) is = whole_in_part o c.files is.0
reading_of o c (Reporting r) is = whole_in_part o c.files is.0
