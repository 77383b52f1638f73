-- What a run promises follows from what it does.
use Rattle.std.proofs.Common.{ap, ◌≡◌, inl, inr, ◌⊎◌, ℕ, ◌≤◌, ◌<◌, ◌-◌, ◌^◌, Bool, true, false, cond, List, [], ◌∷◌, ◌++◌, Option, Some, None, IfSome, IsSome, refl, sym, ◌∙◌, subst, arith}
use Rattle.std.proofs.lemmas.Bool.{false≢true}
use Rattle.spv_io.specs.Faults.{raised, Rose, DidNotRise}
use Rattle.spv_io.specs.Sink.{added, AddsPrefix}
use Rattle.spv_logic.specs.Conditions.{Meaning}
use Rattle.spv_program.specs.Programs.{Program, shapes}
use Rattle.spv_meaning.specs.Correct.{Correct}
use Rattle.spv_reports.specs.declared.mode.Mode.{Mode}
use Rattle.spv_verdicts.specs.declared.answers.verdicts.Decided.{Decided}
use Rattle.spv_reports.specs.declared.mode.Mode.TheVariants as mode
use Rattle.spv_reports.specs.Reports.{AreVerdictsIn, Findings, IsReport, IsReportOn, has_verdicts, all_proved, none_fails}
use Rattle.spv_reports.proofs.Reports.{proved_correct}
use Rattle.spv_listing.specs.Page.{page}
use Rattle.spv_verify.specs.declared.refused.refusal.Refusal.{Refusal}
use Rattle.spv_verify.specs.declared.texts.TextKind.{TextKind}
use Rattle.spv_verify.specs.texts.Trees.{kind_of}
use Rattle.spv_verify.specs.Refusals.{names_of, IsProgramOf, IsRefused, IsReportOf, HaveNotBoth, IsOneList, IsOneProgram}
use Rattle.spv_proof_rules.specs.Rules.{Rule, RulesHold}
use Rattle.spv_rules.specs.RuleSets.{rules_in}
use Rattle.spv_verify.specs.declared.refused.fault.Which.{Which}
use Rattle.spv_verify.specs.tree_reports.RuleFiles.{AreRulesOf}
use Rattle.spv_cli.specs.declared.found.Found.{Found}
use Rattle.spv_cli.specs.declared.found.Found.TheVariants.{ReadFailed, Refusing, Reporting}
use Rattle.spv_cli.specs.declared.running.Ran.{Ran}
use Rattle.spv_cli.specs.Commands.{Command, files_asked}
use Rattle.spv_cli.specs.Output.{read_fault_line, refusal_line, words_line, status_in}
use Rattle.spv_cli.specs.Runs.{AreAskedInPart, AreAskedUpTo, Reading, Writing, IsUnread, IsWritten, IsCut, IsFound, IsOutOfMemory, HasRunFor, Sources, named_all, output, sources, status, report}
use Rattle.spv_cli.specs.Promises.{IsOneOf, IsThere, IsDueFor, IsRefusalLine}
use Rattle.spv_cli.proofs.Told.{reading_of}

-- ---- what is found, by the status

found_status : (f : Found) → IsOneOf (0 ∷ 1 ∷ 2 ∷ 3 ∷ 4 ∷ 8 ∷ []) (status f)
found_status (ReadFailed file) = refl
found_status (Refusing file r) = refl
found_status (Reporting r) = by_mode r.mode
  where
    by_verdicts : (b n : Bool) → IsOneOf (0 ∷ 1 ∷ 2 ∷ 3 ∷ 4 ∷ 8 ∷ []) (cond b 0 (cond n 2 1))
    by_verdicts true n = refl
    by_verdicts false true = refl
    by_verdicts false false = refl

    by_mode : (m : Mode) → IsOneOf (0 ∷ 1 ∷ 2 ∷ 3 ∷ 4 ∷ 8 ∷ []) (status_in m r.verdicts)
    by_mode (mode.Verify limits) = by_verdicts (all_proved r.verdicts) (none_fails (mode.Verify limits) r.verdicts)
    by_mode (mode.Simplify limits) = by_verdicts (all_proved r.verdicts) (none_fails (mode.Simplify limits) r.verdicts)
    by_mode mode.Check = by_verdicts (all_proved r.verdicts) (none_fails mode.Check r.verdicts)
    by_mode mode.Conditions = refl
    by_mode (mode.Drill load limits) = by_verdicts (all_proved r.verdicts) (none_fails (mode.Drill load limits) r.verdicts)

-- the status of a page
page_found : (m : Mode) (verdicts : List Decided) → IsOneOf (0 ∷ 1 ∷ 2 ∷ 8 ∷ []) (status_in m verdicts)
page_found m verdicts = by_mode m
  where
    by_verdicts : (b n : Bool) → IsOneOf (0 ∷ 1 ∷ 2 ∷ 8 ∷ []) (cond b 0 (cond n 2 1))
    by_verdicts true n = refl
    by_verdicts false true = refl
    by_verdicts false false = refl

    by_mode : (m : Mode) → IsOneOf (0 ∷ 1 ∷ 2 ∷ 8 ∷ []) (status_in m verdicts)
    by_mode (mode.Verify limits) = by_verdicts (all_proved verdicts) (none_fails (mode.Verify limits) verdicts)
    by_mode (mode.Simplify limits) = by_verdicts (all_proved verdicts) (none_fails (mode.Simplify limits) verdicts)
    by_mode mode.Check = by_verdicts (all_proved verdicts) (none_fails mode.Check verdicts)
    by_mode mode.Conditions = refl
    by_mode (mode.Drill load limits) = by_verdicts (all_proved verdicts) (none_fails (mode.Drill load limits) verdicts)

-- another status
not_of : (numbers : List ℕ) {s t : ℕ} → IsOneOf numbers s → s ≡ t → IsOneOf numbers t
not_of numbers is e = subst (IsOneOf numbers) e is

there : {X : Type 0} (P : X → Type 0) {o p : Option X} → o ≡ p → IsThere p P → IsThere o P
there {X} P {o} {p} e h = subst (λ q. IsThere q P) (sym e) h

-- what stands in a report with status 0
abbrev pub IsProvedReport : Findings → Type 0
IsProvedReport r = (has_verdicts r.mode ≡ true) × (all_proved r.verdicts ≡ true)

at_zero : (o : Reading) (c : Command) (f : Found) → IsFound o c f → status f ≡ 0 → IsThere (report f) IsProvedReport
at_zero o c (ReadFailed file) is e = absurd (false≢true (not_of (4 ∷ []) refl e))
at_zero o c (Refusing file r) is e = absurd (false≢true (not_of (3 ∷ []) refl e))
at_zero o c (Reporting r) is e = by_mode r.mode refl e
  where
    by_verdicts : (b n : Bool) → ◌≡◌ {A = ℕ} (cond b 0 (cond n 2 1)) 0 → b ≡ true
    by_verdicts true n e = refl
    by_verdicts false true e = absurd (false≢true (not_of (2 ∷ []) refl e))
    by_verdicts false false e = absurd (false≢true (not_of (1 ∷ []) refl e))

    by_mode : (m : Mode) → r.mode ≡ m → status_in m r.verdicts ≡ 0 → IsProvedReport r
    by_mode (mode.Verify limits) same e = (ap has_verdicts same, by_verdicts (all_proved r.verdicts) (none_fails (mode.Verify limits) r.verdicts) e)
    by_mode (mode.Simplify limits) same e = (ap has_verdicts same, by_verdicts (all_proved r.verdicts) (none_fails (mode.Simplify limits) r.verdicts) e)
    by_mode mode.Check same e = (ap has_verdicts same, by_verdicts (all_proved r.verdicts) (none_fails mode.Check r.verdicts) e)
    by_mode (mode.Drill load limits) same e = (ap has_verdicts same, by_verdicts (all_proved r.verdicts) (none_fails (mode.Drill load limits) r.verdicts) e)
    by_mode mode.Conditions same e = absurd (false≢true (not_of (8 ∷ []) refl e))

-- what stands in a report with status 1, with status 2, and with status 8
abbrev pub IsUnprovedReport : Findings → Type 0
IsUnprovedReport r = (has_verdicts r.mode ≡ true) × (none_fails r.mode r.verdicts ≡ false)

abbrev pub IsGivenUpReport : Findings → Type 0
IsGivenUpReport r = (has_verdicts r.mode ≡ true) × (none_fails r.mode r.verdicts ≡ true) × (all_proved r.verdicts ≡ false)

abbrev pub IsListReport : Findings → Type 0
IsListReport r = (has_verdicts r.mode ≡ false) × (r.verdicts ≡ [])

at_one : (o : Reading) (c : Command) (f : Found) → IsFound o c f → status f ≡ 1 → IsThere (report f) IsUnprovedReport
at_one o c (ReadFailed file) is e = absurd (false≢true (not_of (4 ∷ []) refl e))
at_one o c (Refusing file r) is e = absurd (false≢true (not_of (3 ∷ []) refl e))
at_one o c (Reporting r) is e = by_mode r.mode refl e
  where
    by_verdicts : (b n : Bool) → ◌≡◌ {A = ℕ} (cond b 0 (cond n 2 1)) 1 → n ≡ false
    by_verdicts true n e = absurd (false≢true (not_of (0 ∷ []) refl e))
    by_verdicts false true e = absurd (false≢true (not_of (2 ∷ []) refl e))
    by_verdicts false false e = refl

    failing : {m : Mode} → r.mode ≡ m → none_fails r.mode r.verdicts ≡ none_fails m r.verdicts
    failing same = ap (λ (k : Mode). none_fails k r.verdicts) same

    by_mode : (m : Mode) → r.mode ≡ m → status_in m r.verdicts ≡ 1 → IsUnprovedReport r
    by_mode (mode.Verify limits) same e = (ap has_verdicts same, failing same ∙ by_verdicts (all_proved r.verdicts) (none_fails (mode.Verify limits) r.verdicts) e)
    by_mode (mode.Simplify limits) same e = (ap has_verdicts same, failing same ∙ by_verdicts (all_proved r.verdicts) (none_fails (mode.Simplify limits) r.verdicts) e)
    by_mode mode.Check same e = (ap has_verdicts same, failing same ∙ by_verdicts (all_proved r.verdicts) (none_fails mode.Check r.verdicts) e)
    by_mode (mode.Drill load limits) same e = (ap has_verdicts same, failing same ∙ by_verdicts (all_proved r.verdicts) (none_fails (mode.Drill load limits) r.verdicts) e)
    by_mode mode.Conditions same e = absurd (false≢true (not_of (8 ∷ []) refl e))

at_two : (o : Reading) (c : Command) (f : Found) → IsFound o c f → status f ≡ 2 → IsThere (report f) IsGivenUpReport
at_two o c (ReadFailed file) is e = absurd (false≢true (not_of (4 ∷ []) refl e))
at_two o c (Refusing file r) is e = absurd (false≢true (not_of (3 ∷ []) refl e))
at_two o c (Reporting r) is e = by_mode r.mode refl e
  where
    by_verdicts : (b n : Bool) → ◌≡◌ {A = ℕ} (cond b 0 (cond n 2 1)) 2 → (n ≡ true) × (b ≡ false)
    by_verdicts true n e = absurd (false≢true (not_of (0 ∷ []) refl e))
    by_verdicts false true e = (refl, refl)
    by_verdicts false false e = absurd (false≢true (not_of (1 ∷ []) refl e))

    failing : {m : Mode} → r.mode ≡ m → none_fails r.mode r.verdicts ≡ none_fails m r.verdicts
    failing same = ap (λ (k : Mode). none_fails k r.verdicts) same

    by_mode : (m : Mode) → r.mode ≡ m → status_in m r.verdicts ≡ 2 → IsGivenUpReport r
    by_mode (mode.Verify limits) same e = let k = by_verdicts (all_proved r.verdicts) (none_fails (mode.Verify limits) r.verdicts) e in (ap has_verdicts same, failing same ∙ k.0, k.1)
    by_mode (mode.Simplify limits) same e = let k = by_verdicts (all_proved r.verdicts) (none_fails (mode.Simplify limits) r.verdicts) e in (ap has_verdicts same, failing same ∙ k.0, k.1)
    by_mode mode.Check same e = let k = by_verdicts (all_proved r.verdicts) (none_fails mode.Check r.verdicts) e in (ap has_verdicts same, failing same ∙ k.0, k.1)
    by_mode (mode.Drill load limits) same e = let k = by_verdicts (all_proved r.verdicts) (none_fails (mode.Drill load limits) r.verdicts) e in (ap has_verdicts same, failing same ∙ k.0, k.1)
    by_mode mode.Conditions same e = absurd (false≢true (not_of (8 ∷ []) refl e))

at_eight : (o : Reading) (c : Command) (f : Found) → IsFound o c f → status f ≡ 8 → IsThere (report f) IsListReport
at_eight o c (ReadFailed file) is e = absurd (false≢true (not_of (4 ∷ []) refl e))
at_eight o c (Refusing file r) is e = absurd (false≢true (not_of (3 ∷ []) refl e))
at_eight o c (Reporting r) is e = by_mode r.mode refl is.1.is_on.verdicts e
  where
    by_verdicts : (b n : Bool) → ◌≡◌ {A = ℕ} (cond b 0 (cond n 2 1)) 8 → ⊥
    by_verdicts true n e = false≢true (not_of (0 ∷ []) refl e)
    by_verdicts false true e = false≢true (not_of (2 ∷ []) refl e)
    by_verdicts false false e = false≢true (not_of (1 ∷ []) refl e)

    by_mode : (m : Mode) → r.mode ≡ m → AreVerdictsIn m r.listing (rules_in r.rules) r.named r.arena r.conditions r.verdicts → status_in m r.verdicts ≡ 8 → IsListReport r
    by_mode (mode.Verify limits) same right e = absurd (by_verdicts (all_proved r.verdicts) (none_fails (mode.Verify limits) r.verdicts) e)
    by_mode (mode.Simplify limits) same right e = absurd (by_verdicts (all_proved r.verdicts) (none_fails (mode.Simplify limits) r.verdicts) e)
    by_mode mode.Check same right e = absurd (by_verdicts (all_proved r.verdicts) (none_fails mode.Check r.verdicts) e)
    by_mode (mode.Drill load limits) same right e = absurd (by_verdicts (all_proved r.verdicts) (none_fails (mode.Drill load limits) r.verdicts) e)
    by_mode mode.Conditions same right e = (ap has_verdicts same, right)

pub map_there : {X : Type 0} (o : Option X) {P Q : X → Type 0} → IsThere o P → ((x : X) → P x → Q x) → IsThere o Q
map_there None h f = absurd h
map_there (Some x) h f = f x h

-- ---- a text is not refused and reported

abbrev HasRefusal : TextKind → Sources → Type 0
HasRefusal kind s = (w : Which) × (r : Refusal) × IsRefused kind s.text s.rules s.listing w r

abbrev IsUnrefused : TextKind → Sources → Type 0
IsUnrefused kind s = (w : Which) (r : Refusal) → IsRefused kind s.text s.rules s.listing w r → ⊥

never_told : HaveNotBoth → (kind : TextKind) (told : Option Sources) (f : Findings) → IfSome told (λ s. IsReportOf kind s.text s.rules s.listing f) → IsThere told (HasRefusal kind) → ⊥
never_told never kind None f is h = h
never_told never kind (Some s) f is (w, r, h) = never kind s.text s.rules s.listing f w r is h

not_refused : (kind : TextKind) (told : Option Sources) (w : Which) (r : Refusal) → IfSome told (λ s. IsRefused kind s.text s.rules s.listing w r) → IsThere told (IsUnrefused kind) → ⊥
not_refused kind None w r is h = h
not_refused kind (Some s) w r is h = h w r is

rose_not : (old new : ℕ) → Rose old new → DidNotRise old new → ⊥
rose_not old new rose (low, below) = let a : raised old ≤ new = rose in let b : new ≤ old = low in let c : new < 2 ^ 64 - 1 = below in omega (arith, a, b, c)

some_none : (c : Command) → ◌≡◌ {A = Option Command} (Some c) None → ⊥
some_none c e = cc

-- of no files none come first
no_first : (first rest : List (List ℕ)) → first ++ rest ≡ [] → first ≡ []
no_first [] rest e = refl
no_first (file ∷ first) rest e = cc

-- ---- runs, by their cases

module _ (o : Reading) (w : Writing) (ran : Ran) where
  by_case : (P : Option Command → Type 0)
      → (IsUnread o → ran.report ≡ None → ran.status ≡ 7 → IsWritten w words_line → P None)
      → (IsUnread o → ran.report ≡ None → ran.status ≡ 5 → IsCut w words_line → P None)
      → ((c : Command) (f : Found) → IsFound o c f → ran.report ≡ report f → ran.status ≡ status f → IsWritten w (output f) → P (Some c))
      → ((c : Command) (f : Found) → IsFound o c f → ran.report ≡ report f → ran.status ≡ 5 → IsCut w (output f) → P (Some c))
      → ((c : Option Command) → IsOutOfMemory o w (files_asked c) ran → P c)
      → (c : Option Command) → HasRunFor c o w ran → P c
  by_case P none none_cut done done_cut memory None (inl (unread, (empty, inl (s, written)))) = none unread empty s written
  by_case P none none_cut done done_cut memory None (inl (unread, (empty, inr (s, cut)))) = none_cut unread empty s cut
  by_case P none none_cut done done_cut memory (Some c) (inl (f, is, (r, inl (s, written)))) = done c f is r s written
  by_case P none none_cut done done_cut memory (Some c) (inl (f, is, (r, inr (s, cut)))) = done_cut c f is r s cut
  by_case P none none_cut done done_cut memory None (inr m) = memory None m
  by_case P none none_cut done done_cut memory (Some c) (inr m) = memory (Some c) m

  -- ---- words

  pub words_only : (c : Option Command) → HasRunFor c o w ran → ran.status ≡ 7 → c ≡ None
  words_only = by_case (λ c. ran.status ≡ 7 → c ≡ None)
      (λ unread none s written e. refl)
      (λ unread none s cut e. refl)
      (λ c f is r s written e. absurd (false≢true (not_of (0 ∷ 1 ∷ 2 ∷ 3 ∷ 4 ∷ 8 ∷ []) (found_status f) (sym s ∙ e))))
      (λ c f is r s cut e. absurd (false≢true (not_of (5 ∷ []) refl (sym s ∙ e))))
      (λ c m e. absurd (false≢true (not_of (6 ∷ []) refl (sym m.status ∙ e))))

  pub words : (c : Option Command) → HasRunFor c o w ran → c ≡ None → IsOneOf (5 ∷ 6 ∷ 7 ∷ []) ran.status
  words = by_case (λ c. c ≡ None → IsOneOf (5 ∷ 6 ∷ 7 ∷ []) ran.status)
      (λ unread none s written e. not_of (5 ∷ 6 ∷ 7 ∷ []) refl (sym s))
      (λ unread none s cut e. not_of (5 ∷ 6 ∷ 7 ∷ []) refl (sym s))
      (λ c f is r s written e. absurd (some_none c e))
      (λ c f is r s cut e. absurd (some_none c e))
      (λ c m e. not_of (5 ∷ 6 ∷ 7 ∷ []) refl (sym m.status))

  -- ---- reading

  pub unread : (c : Option Command) → HasRunFor c o w ran → c ≡ None → o.asked_after ≡ o.asked_before
  unread = by_case (λ c. c ≡ None → o.asked_after ≡ o.asked_before)
      (λ unread none s written e. unread.asked)
      (λ unread none s cut e. unread.asked)
      (λ c f is r s written e. absurd (some_none c e))
      (λ c f is r s cut e. absurd (some_none c e))
      memory
    where
      memory : (c : Option Command) → IsOutOfMemory o w (files_asked c) ran → c ≡ None → o.asked_after ≡ o.asked_before
      memory None m e = m.reading.asked.asked ∙ ap (named_all o.asked_before) (no_first m.reading.asked.first m.reading.asked.rest (sym m.reading.asked.are_first))
      memory (Some c) m e = absurd (some_none c e)

  pub once : (c : Option Command) → HasRunFor c o w ran → IfSome c (λ d. AreAskedInPart o.asked_before o.asked_after d.files)
  once = by_case (λ c. IfSome c (λ d. AreAskedInPart o.asked_before o.asked_after d.files))
      (λ unread none s written. tt)
      (λ unread none s cut. tt)
      (λ c f is r s written. (reading_of o c f is).asked)
      (λ c f is r s cut. (reading_of o c f is).asked)
      memory
    where
      memory : (c : Option Command) → IsOutOfMemory o w (files_asked c) ran → IfSome c (λ d. AreAskedInPart o.asked_before o.asked_after d.files)
      memory None m = tt
      memory (Some c) m = m.reading.asked

  pub asked : (c : Option Command) → HasRunFor c o w ran → IsOneOf (0 ∷ 1 ∷ 2 ∷ 3 ∷ 8 ∷ []) ran.status → IsThere c (λ d. o.asked_after ≡ named_all o.asked_before d.files)
  asked = by_case (λ c. IsOneOf (0 ∷ 1 ∷ 2 ∷ 3 ∷ 8 ∷ []) ran.status → IsThere c (λ d. o.asked_after ≡ named_all o.asked_before d.files))
      (λ unread none s written e. absurd (false≢true (not_of (0 ∷ 1 ∷ 2 ∷ 3 ∷ 8 ∷ []) e s)))
      (λ unread none s cut e. absurd (false≢true (not_of (0 ∷ 1 ∷ 2 ∷ 3 ∷ 8 ∷ []) e s)))
      (λ c f is r s written e. found c f is (not_of (0 ∷ 1 ∷ 2 ∷ 3 ∷ 8 ∷ []) e s))
      (λ c f is r s cut e. absurd (false≢true (not_of (0 ∷ 1 ∷ 2 ∷ 3 ∷ 8 ∷ []) e s)))
      (λ c m e. absurd (false≢true (not_of (0 ∷ 1 ∷ 2 ∷ 3 ∷ 8 ∷ []) e m.status)))
    where
      found : (c : Command) (f : Found) → IsFound o c f → IsOneOf (0 ∷ 1 ∷ 2 ∷ 3 ∷ 8 ∷ []) (status f) → o.asked_after ≡ named_all o.asked_before c.files
      found c (ReadFailed file) is e = absurd (false≢true e)
      found c (Refusing file r) is e = is.0.asked
      found c (Reporting r) is e = is.0.asked

  pub read_fault_told : (c : Option Command) → HasRunFor c o w ran → ran.status ≡ 4
      → IsThere c (λ d. (file : List ℕ) × AreAskedUpTo o.asked_before o.asked_after d.files file × (w.written_after ≡ added w.written_before (read_fault_line file)))
  read_fault_told = by_case (λ c. ran.status ≡ 4 → IsThere c (λ d. (file : List ℕ) × AreAskedUpTo o.asked_before o.asked_after d.files file × (w.written_after ≡ added w.written_before (read_fault_line file))))
      (λ unread none s written e. absurd (false≢true (not_of (7 ∷ []) refl (sym s ∙ e))))
      (λ unread none s cut e. absurd (false≢true (not_of (5 ∷ []) refl (sym s ∙ e))))
      (λ c f is r s written e. found c f is written.written (sym s ∙ e))
      (λ c f is r s cut e. absurd (false≢true (not_of (5 ∷ []) refl (sym s ∙ e))))
      (λ c m e. absurd (false≢true (not_of (6 ∷ []) refl (sym m.status ∙ e))))
    where
      found : (c : Command) (f : Found) → IsFound o c f → w.written_after ≡ added w.written_before (output f) → status f ≡ 4
          → (file : List ℕ) × AreAskedUpTo o.asked_before o.asked_after c.files file × (w.written_after ≡ added w.written_before (read_fault_line file))
      found c (ReadFailed file) is out e = (file.now, is.asked, out)
      found c (Refusing file r) is out e = absurd (false≢true (not_of (3 ∷ []) refl e))
      found c (Reporting r) is out e = absurd (false≢true (not_of (0 ∷ 1 ∷ 2 ∷ 8 ∷ []) (page_found r.mode r.verdicts) e))

  -- ---- reports

  pub proved : (c : Option Command) → HasRunFor c o w ran → ran.status ≡ 0 → IsThere ran.report IsProvedReport
  proved = by_case (λ c. ran.status ≡ 0 → IsThere ran.report IsProvedReport)
      (λ unread none s written e. absurd (false≢true (not_of (7 ∷ []) refl (sym s ∙ e))))
      (λ unread none s cut e. absurd (false≢true (not_of (5 ∷ []) refl (sym s ∙ e))))
      (λ c f is r s written e. there IsProvedReport r (at_zero o c f is (sym s ∙ e)))
      (λ c f is r s cut e. absurd (false≢true (not_of (5 ∷ []) refl (sym s ∙ e))))
      (λ c m e. absurd (false≢true (not_of (6 ∷ []) refl (sym m.status ∙ e))))

  -- what a status says of the report
  by_status : (n : ℕ) (P : Findings → Type 0) → (IsOneOf (5 ∷ 6 ∷ 7 ∷ []) n → ⊥) → ((c : Command) (f : Found) → IsFound o c f → status f ≡ n → IsThere (report f) P)
      → (c : Option Command) → HasRunFor c o w ran → ran.status ≡ n → IsThere ran.report P
  by_status n P other at = by_case (λ c. ran.status ≡ n → IsThere ran.report P)
      (λ unread none s written e. absurd (other (not_of (5 ∷ 6 ∷ 7 ∷ []) refl (sym s ∙ e))))
      (λ unread none s cut e. absurd (other (not_of (5 ∷ 6 ∷ 7 ∷ []) refl (sym s ∙ e))))
      (λ c f is r s written e. there P r (at c f is (sym s ∙ e)))
      (λ c f is r s cut e. absurd (other (not_of (5 ∷ 6 ∷ 7 ∷ []) refl (sym s ∙ e))))
      (λ c m e. absurd (other (not_of (5 ∷ 6 ∷ 7 ∷ []) refl (sym m.status ∙ e))))

  pub unproved : (c : Option Command) → HasRunFor c o w ran → ran.status ≡ 1 → IsThere ran.report IsUnprovedReport
  unproved = by_status 1 IsUnprovedReport false≢true (at_one o)

  pub gave_up : (c : Option Command) → HasRunFor c o w ran → ran.status ≡ 2 → IsThere ran.report IsGivenUpReport
  gave_up = by_status 2 IsGivenUpReport false≢true (at_two o)

  pub listed : (c : Option Command) → HasRunFor c o w ran → ran.status ≡ 8 → IsThere ran.report IsListReport
  listed = by_status 8 IsListReport false≢true (at_eight o)

  -- what is true of each report that is found is true of the report
  of_report : (Q : Command → Findings → Type 0) → ((d : Command) (r : Findings) → IsReport r → r.mode ≡ d.mode → r.proofs ≡ d.proofs → IfSome (sources o.told d) (λ s. IsReportOf (kind_of d.mode) s.text s.rules s.listing r) → Q d r)
      → (c : Option Command) → HasRunFor c o w ran → IfSome ran.report (λ r. IsThere c (λ d. Q d r))
  of_report Q of = by_case (λ c. IfSome ran.report (λ r. IsThere c (λ d. Q d r)))
      (λ unread none s written. if_same _ none tt)
      (λ unread none s cut. if_same _ none tt)
      (λ c f is r s written. if_same _ r (found c f is))
      (λ c f is r s cut. if_same _ r (found c f is))
      (λ c m. if_same _ m.report tt)
    where
      if_same : (P : Findings → Type 0) {o p : Option Findings} → o ≡ p → IfSome p P → IfSome o P
      if_same P {o} {p} e h = subst (λ q. IfSome q P) (sym e) h

      found : (d : Command) (f : Found) → IsFound o d f → IfSome (report f) (λ r. Q d r)
      found d (ReadFailed file) is = tt
      found d (Refusing file r) is = tt
      found d (Reporting r) (read, report, same, proofs, told) = of d r report same proofs told

  pub of_text : (c : Option Command) → HasRunFor c o w ran → IfSome ran.report (λ r. IsThere c (λ d. IfSome (sources o.told d) (λ s. IsReportOf (kind_of d.mode) s.text s.rules s.listing r)))
  of_text = of_report (λ d r. IfSome (sources o.told d) (λ s. IsReportOf (kind_of d.mode) s.text s.rules s.listing r)) (λ d r report same proofs told. told)

  pub same_mode : (c : Option Command) → HasRunFor c o w ran → IfSome ran.report (λ r. IsThere c (λ d. r.mode ≡ d.mode))
  same_mode = of_report (λ d r. r.mode ≡ d.mode) (λ d r report same proofs told. same)

  pub same_proofs : (c : Option Command) → HasRunFor c o w ran → IfSome ran.report (λ r. IsThere c (λ d. r.proofs ≡ d.proofs))
  same_proofs = of_report (λ d r. r.proofs ≡ d.proofs) (λ d r report same proofs told. proofs)

  -- verdicts are right within the limits of the words
  pub right_verdicts : (c : Option Command) → HasRunFor c o w ran → IfSome ran.report (λ r. IsThere c (λ d. AreVerdictsIn d.mode r.listing (rules_in r.rules) r.named r.arena r.conditions r.verdicts))
  right_verdicts = of_report (λ d r. AreVerdictsIn d.mode r.listing (rules_in r.rules) r.named r.arena r.conditions r.verdicts)
      (λ d r report same proofs told. subst (λ (m : Mode). AreVerdictsIn m r.listing (rules_in r.rules) r.named r.arena r.conditions r.verdicts) same report.is_on.verdicts)

  pub correct : (c : Option Command) → HasRunFor c o w ran → ran.status ≡ 0
      → IsThere ran.report (λ r. (world : Meaning) (p : Program) → IsReportOn p r → RulesHold (shapes p) p.symbols world (rules_in r.rules) → Correct p world)
  correct c has e = map_there ran.report (proved c has e) (λ r h world p is hold. proved_correct r world h.0 h.1 p is hold)

  -- the program of the told text is correct where the rules of the told rule file hold
  abbrev IsCorrectUnder : TextKind → Sources → Type 0
  IsCorrectUnder kind s =
      (world : Meaning) (p : Program) (rules : List Rule) → IsProgramOf kind s.text p → AreRulesOf (names_of s.text) p s.rules rules → RulesHold (shapes p) p.symbols world rules
      → Correct p world

  pub correct_of_text : IsOneProgram → IsOneList → (c : Option Command) → HasRunFor c o w ran → ran.status ≡ 0 → IsThere c (λ d. IfSome (sources o.told d) (IsCorrectUnder (kind_of d.mode)))
  correct_of_text one one_list = by_case (λ c. ran.status ≡ 0 → IsThere c (λ d. IfSome (sources o.told d) (IsCorrectUnder (kind_of d.mode))))
      (λ unread none s written e. absurd (false≢true (not_of (7 ∷ []) refl (sym s ∙ e))))
      (λ unread none s cut e. absurd (false≢true (not_of (5 ∷ []) refl (sym s ∙ e))))
      (λ d f is r s written e. found d f is (sym s ∙ e))
      (λ d f is r s cut e. absurd (false≢true (not_of (5 ∷ []) refl (sym s ∙ e))))
      (λ d m e. absurd (false≢true (not_of (6 ∷ []) refl (sym m.status ∙ e))))
    where
      of : (kind : TextKind) (told : Option Sources) (r : Findings) → has_verdicts r.mode ≡ true → all_proved r.verdicts ≡ true → IfSome told (λ s. IsReportOf kind s.text s.rules s.listing r)
          → IfSome told (IsCorrectUnder kind)
      of kind None r same proved is = tt
      of kind (Some s) r same proved is = λ world p rules of_text are hold.
          let here : is.program ≡ p = one kind s.text is.program p is.of_text of_text in
          let under : AreRulesOf (names_of s.text) p s.rules (rules_in r.rules) = subst (λ (q : Program). AreRulesOf (names_of s.text) q s.rules (rules_in r.rules)) here is.under in
          let list : rules ≡ rules_in r.rules = one_list (names_of s.text) p s.rules rules (rules_in r.rules) are under in
          proved_correct r world same proved p (subst (λ (q : Program). IsReportOn q r) here is.is_on) (subst (RulesHold (shapes p) p.symbols world) list hold)

      found : (d : Command) (f : Found) → IsFound o d f → status f ≡ 0 → IfSome (sources o.told d) (IsCorrectUnder (kind_of d.mode))
      found d (ReadFailed file) is e = absurd (false≢true (not_of (4 ∷ []) refl e))
      found d (Refusing file r) is e = absurd (false≢true (not_of (3 ∷ []) refl e))
      found d (Reporting r) (read, report, same, proofs, told) e = let h = at_zero o d (Reporting r) (read, report, same, proofs, told) e in of (kind_of d.mode) (sources o.told d) r h.0 h.1 told

  pub page_written : (c : Option Command) → HasRunFor c o w ran → IsOneOf (0 ∷ 1 ∷ 2 ∷ 8 ∷ []) ran.status → IsThere ran.report (λ r. w.written_after ≡ added w.written_before (page r))
  page_written = by_case (λ c. IsOneOf (0 ∷ 1 ∷ 2 ∷ 8 ∷ []) ran.status → IsThere ran.report (λ r. w.written_after ≡ added w.written_before (page r)))
      (λ unread none s written e. absurd (false≢true (not_of (0 ∷ 1 ∷ 2 ∷ 8 ∷ []) e s)))
      (λ unread none s cut e. absurd (false≢true (not_of (0 ∷ 1 ∷ 2 ∷ 8 ∷ []) e s)))
      (λ c f is r s written e. there (λ r. w.written_after ≡ added w.written_before (page r)) r (found f (not_of (0 ∷ 1 ∷ 2 ∷ 8 ∷ []) e s) written.written))
      (λ c f is r s cut e. absurd (false≢true (not_of (0 ∷ 1 ∷ 2 ∷ 8 ∷ []) e s)))
      (λ c m e. absurd (false≢true (not_of (0 ∷ 1 ∷ 2 ∷ 8 ∷ []) e m.status)))
    where
      found : (f : Found) → IsOneOf (0 ∷ 1 ∷ 2 ∷ 8 ∷ []) (status f) → w.written_after ≡ added w.written_before (output f) → IsThere (report f) (λ r. w.written_after ≡ added w.written_before (page r))
      found (ReadFailed file) e h = absurd (false≢true e)
      found (Refusing file r) e h = absurd (false≢true e)
      found (Reporting r) e h = h

  pub part_written : (c : Option Command) → HasRunFor c o w ran → ran.status ≡ 5 → (text : List ℕ) × IsDueFor c o ran.report text × AddsPrefix w.written_before w.written_after text
  part_written = by_case (λ c. ran.status ≡ 5 → (text : List ℕ) × IsDueFor c o ran.report text × AddsPrefix w.written_before w.written_after text)
      (λ unread none s written e. absurd (false≢true (not_of (7 ∷ []) refl (sym s ∙ e))))
      (λ unread none s cut e. (words_line, subst (λ r. IsDueFor None o r words_line) (sym none) refl, cut.prefix))
      (λ c f is r s written e. absurd (false≢true (not_of (0 ∷ 1 ∷ 2 ∷ 3 ∷ 4 ∷ 8 ∷ []) (found_status f) (sym s ∙ e))))
      (λ c f is r s cut e. (output f, subst (λ p. IsDueFor (Some c) o p (output f)) (sym r) (due c f is), cut.prefix))
      (λ c m e. absurd (false≢true (not_of (6 ∷ []) refl (sym m.status ∙ e))))
    where
      due : (c : Command) (f : Found) → IsFound o c f → IsDueFor (Some c) o (report f) (output f)
      due c (ReadFailed file) is = inl (file.now, is, refl)
      due c (Refusing file r) is = inr (file.now, r, is.1, refl)
      due c (Reporting r) is = refl

  -- ---- completeness

  pub complete_status : (c : Option Command) → HasRunFor c o w ran → IsThere c (λ d. IsThere (sources o.told d) (IsUnrefused (kind_of d.mode)))
      → DidNotRise o.faults_before o.faults_after → DidNotRise w.faults_before w.faults_after → IsOneOf (0 ∷ 1 ∷ 2 ∷ 6 ∷ 8 ∷ []) ran.status
  complete_status = by_case (λ c. IsThere c (λ d. IsThere (sources o.told d) (IsUnrefused (kind_of d.mode)))
      → DidNotRise o.faults_before o.faults_after → DidNotRise w.faults_before w.faults_after → IsOneOf (0 ∷ 1 ∷ 2 ∷ 6 ∷ 8 ∷ []) ran.status)
      (λ unread none s written h d k. absurd h)
      (λ unread none s cut h d k. absurd h)
      (λ c f is r s written h d k. not_of (0 ∷ 1 ∷ 2 ∷ 6 ∷ 8 ∷ []) (found c f is h d) (sym s))
      (λ c f is r s cut h d k. absurd (rose_not w.faults_before w.faults_after cut.rose k))
      (λ c m h d k. not_of (0 ∷ 1 ∷ 2 ∷ 6 ∷ 8 ∷ []) refl (sym m.status))
    where
      by_verdicts : (b n : Bool) → IsOneOf (0 ∷ 1 ∷ 2 ∷ 6 ∷ 8 ∷ []) (cond b 0 (cond n 2 1))
      by_verdicts true n = refl
      by_verdicts false true = refl
      by_verdicts false false = refl

      by_mode : (m : Mode) (verdicts : List Decided) → IsOneOf (0 ∷ 1 ∷ 2 ∷ 6 ∷ 8 ∷ []) (status_in m verdicts)
      by_mode (mode.Verify limits) verdicts = by_verdicts (all_proved verdicts) (none_fails (mode.Verify limits) verdicts)
      by_mode (mode.Simplify limits) verdicts = by_verdicts (all_proved verdicts) (none_fails (mode.Simplify limits) verdicts)
      by_mode mode.Check verdicts = by_verdicts (all_proved verdicts) (none_fails mode.Check verdicts)
      by_mode (mode.Drill load limits) verdicts = by_verdicts (all_proved verdicts) (none_fails (mode.Drill load limits) verdicts)
      by_mode mode.Conditions verdicts = refl

      found : (c : Command) (f : Found) → IsFound o c f → IsThere (sources o.told c) (IsUnrefused (kind_of c.mode)) → DidNotRise o.faults_before o.faults_after
          → IsOneOf (0 ∷ 1 ∷ 2 ∷ 6 ∷ 8 ∷ []) (status f)
      found c (ReadFailed file) is h d = absurd (rose_not o.faults_before o.faults_after is.rose d)
      found c (Refusing file r) is h d = absurd (not_refused (kind_of c.mode) (sources o.told c) is.1.0 r is.1.2 h)
      found c (Reporting r) is h d = by_mode r.mode r.verdicts

  -- ---- refusals

  pub refused : HaveNotBoth → (c : Option Command) → HasRunFor c o w ran → IsThere c (λ d. IsThere (sources o.told d) (HasRefusal (kind_of d.mode))) → DidNotRise o.faults_before o.faults_after → IsOneOf (3 ∷ 5 ∷ 6 ∷ []) ran.status
  refused never = by_case (λ c. IsThere c (λ d. IsThere (sources o.told d) (HasRefusal (kind_of d.mode))) → DidNotRise o.faults_before o.faults_after → IsOneOf (3 ∷ 5 ∷ 6 ∷ []) ran.status)
      (λ unread none s written h d. absurd h)
      (λ unread none s cut h d. absurd h)
      (λ c f is r s written h d. not_of (3 ∷ 5 ∷ 6 ∷ []) (found c f is h d) (sym s))
      (λ c f is r s cut h d. not_of (3 ∷ 5 ∷ 6 ∷ []) refl (sym s))
      (λ c m h d. not_of (3 ∷ 5 ∷ 6 ∷ []) refl (sym m.status))
    where
      found : (c : Command) (f : Found) → IsFound o c f → IsThere (sources o.told c) (HasRefusal (kind_of c.mode)) → DidNotRise o.faults_before o.faults_after → IsOneOf (3 ∷ 5 ∷ 6 ∷ []) (status f)
      found c (ReadFailed file) is h d = absurd (rose_not o.faults_before o.faults_after is.rose d)
      found c (Refusing file r) is h d = refl
      found c (Reporting r) (read, findings, same, proofs, told) h d = absurd (never_told never (kind_of c.mode) (sources o.told c) r told h)

  -- ---- the other statuses, and what is told outside

  pub statuses : (c : Option Command) → HasRunFor c o w ran → IsOneOf (0 ∷ 1 ∷ 2 ∷ 3 ∷ 4 ∷ 5 ∷ 6 ∷ 7 ∷ 8 ∷ []) ran.status
  statuses = by_case (λ c. IsOneOf (0 ∷ 1 ∷ 2 ∷ 3 ∷ 4 ∷ 5 ∷ 6 ∷ 7 ∷ 8 ∷ []) ran.status)
      (λ unread none s written. not_of (0 ∷ 1 ∷ 2 ∷ 3 ∷ 4 ∷ 5 ∷ 6 ∷ 7 ∷ 8 ∷ []) refl (sym s))
      (λ unread none s cut. not_of (0 ∷ 1 ∷ 2 ∷ 3 ∷ 4 ∷ 5 ∷ 6 ∷ 7 ∷ 8 ∷ []) refl (sym s))
      (λ c f is r s written. not_of (0 ∷ 1 ∷ 2 ∷ 3 ∷ 4 ∷ 5 ∷ 6 ∷ 7 ∷ 8 ∷ []) (found f) (sym s))
      (λ c f is r s cut. not_of (0 ∷ 1 ∷ 2 ∷ 3 ∷ 4 ∷ 5 ∷ 6 ∷ 7 ∷ 8 ∷ []) refl (sym s))
      (λ c m. not_of (0 ∷ 1 ∷ 2 ∷ 3 ∷ 4 ∷ 5 ∷ 6 ∷ 7 ∷ 8 ∷ []) refl (sym m.status))
    where
      by_verdicts : (b n : Bool) → IsOneOf (0 ∷ 1 ∷ 2 ∷ 3 ∷ 4 ∷ 5 ∷ 6 ∷ 7 ∷ 8 ∷ []) (cond b 0 (cond n 2 1))
      by_verdicts true n = refl
      by_verdicts false true = refl
      by_verdicts false false = refl

      by_mode : (m : Mode) (verdicts : List Decided) → IsOneOf (0 ∷ 1 ∷ 2 ∷ 3 ∷ 4 ∷ 5 ∷ 6 ∷ 7 ∷ 8 ∷ []) (status_in m verdicts)
      by_mode (mode.Verify limits) verdicts = by_verdicts (all_proved verdicts) (none_fails (mode.Verify limits) verdicts)
      by_mode (mode.Simplify limits) verdicts = by_verdicts (all_proved verdicts) (none_fails (mode.Simplify limits) verdicts)
      by_mode mode.Check verdicts = by_verdicts (all_proved verdicts) (none_fails mode.Check verdicts)
      by_mode (mode.Drill load limits) verdicts = by_verdicts (all_proved verdicts) (none_fails (mode.Drill load limits) verdicts)
      by_mode mode.Conditions verdicts = refl

      found : (f : Found) → IsOneOf (0 ∷ 1 ∷ 2 ∷ 3 ∷ 4 ∷ 5 ∷ 6 ∷ 7 ∷ 8 ∷ []) (status f)
      found (ReadFailed file) = refl
      found (Refusing file r) = refl
      found (Reporting r) = by_mode r.mode r.verdicts

  pub reported : (c : Option Command) → HasRunFor c o w ran → IsSome ran.report → IsOneOf (0 ∷ 1 ∷ 2 ∷ 5 ∷ 8 ∷ []) ran.status
  reported = by_case (λ c. IsSome ran.report → IsOneOf (0 ∷ 1 ∷ 2 ∷ 5 ∷ 8 ∷ []) ran.status)
      (λ unread none s written h. absurd (false≢true (subst IsSome none h)))
      (λ unread none s cut h. not_of (0 ∷ 1 ∷ 2 ∷ 5 ∷ 8 ∷ []) refl (sym s))
      (λ c f is r s written h. not_of (0 ∷ 1 ∷ 2 ∷ 5 ∷ 8 ∷ []) (found f (subst IsSome r h)) (sym s))
      (λ c f is r s cut h. not_of (0 ∷ 1 ∷ 2 ∷ 5 ∷ 8 ∷ []) refl (sym s))
      (λ c m h. absurd (false≢true (subst IsSome m.report h)))
    where
      by_verdicts : (b n : Bool) → IsOneOf (0 ∷ 1 ∷ 2 ∷ 5 ∷ 8 ∷ []) (cond b 0 (cond n 2 1))
      by_verdicts true n = refl
      by_verdicts false true = refl
      by_verdicts false false = refl

      by_mode : (m : Mode) (verdicts : List Decided) → IsOneOf (0 ∷ 1 ∷ 2 ∷ 5 ∷ 8 ∷ []) (status_in m verdicts)
      by_mode (mode.Verify limits) verdicts = by_verdicts (all_proved verdicts) (none_fails (mode.Verify limits) verdicts)
      by_mode (mode.Simplify limits) verdicts = by_verdicts (all_proved verdicts) (none_fails (mode.Simplify limits) verdicts)
      by_mode mode.Check verdicts = by_verdicts (all_proved verdicts) (none_fails mode.Check verdicts)
      by_mode (mode.Drill load limits) verdicts = by_verdicts (all_proved verdicts) (none_fails (mode.Drill load limits) verdicts)
      by_mode mode.Conditions verdicts = refl

      found : (f : Found) → IsSome (report f) → IsOneOf (0 ∷ 1 ∷ 2 ∷ 5 ∷ 8 ∷ []) (status f)
      found (ReadFailed file) h = absurd (false≢true h)
      found (Refusing file r) h = absurd (false≢true h)
      found (Reporting r) h = by_mode r.mode r.verdicts

  pub read_fault : (c : Option Command) → HasRunFor c o w ran → ran.status ≡ 4 → Rose o.faults_before o.faults_after
  read_fault = by_case (λ c. ran.status ≡ 4 → Rose o.faults_before o.faults_after)
      (λ unread none s written e. absurd (false≢true (not_of (7 ∷ []) refl (sym s ∙ e))))
      (λ unread none s cut e. absurd (false≢true (not_of (5 ∷ []) refl (sym s ∙ e))))
      (λ c f is r s written e. found c f is (sym s ∙ e))
      (λ c f is r s cut e. absurd (false≢true (not_of (5 ∷ []) refl (sym s ∙ e))))
      (λ c m e. absurd (false≢true (not_of (6 ∷ []) refl (sym m.status ∙ e))))
    where
      found : (c : Command) (f : Found) → IsFound o c f → status f ≡ 4 → Rose o.faults_before o.faults_after
      found c (ReadFailed file) is e = is.rose
      found c (Refusing file r) is e = absurd (false≢true (not_of (3 ∷ []) refl e))
      found c (Reporting r) is e = absurd (false≢true (not_of (0 ∷ 1 ∷ 2 ∷ 8 ∷ []) (page_found r.mode r.verdicts) e))

  pub write_fault : (c : Option Command) → HasRunFor c o w ran → ran.status ≡ 5 → Rose w.faults_before w.faults_after
  write_fault = by_case (λ c. ran.status ≡ 5 → Rose w.faults_before w.faults_after)
      (λ unread none s written e. absurd (false≢true (not_of (7 ∷ []) refl (sym s ∙ e))))
      (λ unread none s cut e. cut.rose)
      (λ c f is r s written e. absurd (false≢true (not_of (0 ∷ 1 ∷ 2 ∷ 3 ∷ 4 ∷ 8 ∷ []) (found_status f) (sym s ∙ e))))
      (λ c f is r s cut e. cut.rose)
      (λ c m e. absurd (false≢true (not_of (6 ∷ []) refl (sym m.status ∙ e))))

  pub texts_sound : (c : Option Command) → HasRunFor c o w ran → IsOneOf (0 ∷ 1 ∷ 2 ∷ 3 ∷ 7 ∷ 8 ∷ []) ran.status → o.faults_after ≡ o.faults_before
  texts_sound = by_case (λ c. IsOneOf (0 ∷ 1 ∷ 2 ∷ 3 ∷ 7 ∷ 8 ∷ []) ran.status → o.faults_after ≡ o.faults_before)
      (λ unread none s written e. unread.faults)
      (λ unread none s cut e. unread.faults)
      (λ c f is r s written e. found c f is (not_of (0 ∷ 1 ∷ 2 ∷ 3 ∷ 7 ∷ 8 ∷ []) e s))
      (λ c f is r s cut e. absurd (false≢true (not_of (0 ∷ 1 ∷ 2 ∷ 3 ∷ 7 ∷ 8 ∷ []) e s)))
      (λ c m e. absurd (false≢true (not_of (0 ∷ 1 ∷ 2 ∷ 3 ∷ 7 ∷ 8 ∷ []) e m.status)))
    where
      found : (c : Command) (f : Found) → IsFound o c f → IsOneOf (0 ∷ 1 ∷ 2 ∷ 3 ∷ 7 ∷ 8 ∷ []) (status f) → o.faults_after ≡ o.faults_before
      found c (ReadFailed file) is e = absurd (false≢true e)
      found c (Refusing file r) is e = is.0.faults
      found c (Reporting r) is e = is.0.faults

  pub sink_sound : (c : Option Command) → HasRunFor c o w ran → IsOneOf (0 ∷ 1 ∷ 2 ∷ 3 ∷ 4 ∷ 6 ∷ 7 ∷ 8 ∷ []) ran.status → w.faults_after ≡ w.faults_before
  sink_sound = by_case (λ c. IsOneOf (0 ∷ 1 ∷ 2 ∷ 3 ∷ 4 ∷ 6 ∷ 7 ∷ 8 ∷ []) ran.status → w.faults_after ≡ w.faults_before)
      (λ unread none s written e. written.faults)
      (λ unread none s cut e. absurd (false≢true (not_of (0 ∷ 1 ∷ 2 ∷ 3 ∷ 4 ∷ 6 ∷ 7 ∷ 8 ∷ []) e s)))
      (λ c f is r s written e. written.faults)
      (λ c f is r s cut e. absurd (false≢true (not_of (0 ∷ 1 ∷ 2 ∷ 3 ∷ 4 ∷ 6 ∷ 7 ∷ 8 ∷ []) e s)))
      (λ c m e. m.writing.faults)

  pub words_told : (c : Option Command) → HasRunFor c o w ran → ran.status ≡ 7 → w.written_after ≡ added w.written_before words_line
  words_told = by_case (λ c. ran.status ≡ 7 → w.written_after ≡ added w.written_before words_line)
      (λ unread none s written e. written.written)
      (λ unread none s cut e. absurd (false≢true (not_of (5 ∷ []) refl (sym s ∙ e))))
      (λ c f is r s written e. absurd (false≢true (not_of (0 ∷ 1 ∷ 2 ∷ 3 ∷ 4 ∷ 8 ∷ []) (found_status f) (sym s ∙ e))))
      (λ c f is r s cut e. absurd (false≢true (not_of (5 ∷ []) refl (sym s ∙ e))))
      (λ c m e. absurd (false≢true (not_of (6 ∷ []) refl (sym m.status ∙ e))))

  pub unwritten : (c : Option Command) → HasRunFor c o w ran → ran.status ≡ 6 → w.written_after ≡ w.written_before
  unwritten = by_case (λ c. ran.status ≡ 6 → w.written_after ≡ w.written_before)
      (λ unread none s written e. absurd (false≢true (not_of (7 ∷ []) refl (sym s ∙ e))))
      (λ unread none s cut e. absurd (false≢true (not_of (5 ∷ []) refl (sym s ∙ e))))
      (λ c f is r s written e. absurd (false≢true (not_of (0 ∷ 1 ∷ 2 ∷ 3 ∷ 4 ∷ 8 ∷ []) (found_status f) (sym s ∙ e))))
      (λ c f is r s cut e. absurd (false≢true (not_of (5 ∷ []) refl (sym s ∙ e))))
      (λ c m e. m.writing.written)

  pub refusal_told : (c : Option Command) → HasRunFor c o w ran → ran.status ≡ 3
      → IsThere c (λ d. (line : List ℕ) × IsRefusalLine o.told d line × (w.written_after ≡ added w.written_before line))
  refusal_told = by_case (λ c. ran.status ≡ 3 → IsThere c (λ d. (line : List ℕ) × IsRefusalLine o.told d line × (w.written_after ≡ added w.written_before line)))
      (λ unread none s written e. absurd (false≢true (not_of (7 ∷ []) refl (sym s ∙ e))))
      (λ unread none s cut e. absurd (false≢true (not_of (5 ∷ []) refl (sym s ∙ e))))
      (λ c f is r s written e. found c f is written.written (sym s ∙ e))
      (λ c f is r s cut e. absurd (false≢true (not_of (5 ∷ []) refl (sym s ∙ e))))
      (λ c m e. absurd (false≢true (not_of (6 ∷ []) refl (sym m.status ∙ e))))
    where
      found : (c : Command) (f : Found) → IsFound o c f → w.written_after ≡ added w.written_before (output f) → status f ≡ 3
          → (line : List ℕ) × IsRefusalLine o.told c line × (w.written_after ≡ added w.written_before line)
      found c (ReadFailed file) is out e = absurd (false≢true (not_of (4 ∷ []) refl e))
      found c (Refusing file r) is out e = (refusal_line file.now r, (file.now, r, is.1, refl), out)
      found c (Reporting r) is out e = absurd (false≢true (not_of (0 ∷ 1 ∷ 2 ∷ 8 ∷ []) (page_found r.mode r.verdicts) e))

  pub complete : (c : Option Command) → HasRunFor c o w ran → IsThere c (λ d. IsThere (sources o.told d) (IsUnrefused (kind_of d.mode)))
      → DidNotRise o.faults_before o.faults_after → IsSome ran.report ⊎ (ran.status ≡ 6)
  complete = by_case (λ c. IsThere c (λ d. IsThere (sources o.told d) (IsUnrefused (kind_of d.mode)))
      → DidNotRise o.faults_before o.faults_after → IsSome ran.report ⊎ (ran.status ≡ 6))
      (λ unread none s written h d. absurd h)
      (λ unread none s cut h d. absurd h)
      (λ c f is r s written h d. inl (subst IsSome (sym r) (found c f is h d)))
      (λ c f is r s cut h d. inl (subst IsSome (sym r) (found c f is h d)))
      (λ c m h d. inr m.status)
    where
      found : (c : Command) (f : Found) → IsFound o c f → IsThere (sources o.told c) (IsUnrefused (kind_of c.mode)) → DidNotRise o.faults_before o.faults_after → IsSome (report f)
      found c (ReadFailed file) is h d = absurd (rose_not o.faults_before o.faults_after is.rose d)
      found c (Refusing file r) is h d = absurd (not_refused (kind_of c.mode) (sources o.told c) is.1.0 r is.1.2 h)
      found c (Reporting r) is h d = refl
