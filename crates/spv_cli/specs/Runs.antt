-- What a run finds and does.
use Rattle.std.specs.Prelude.{◌≡◌, ◌++◌, ◌<◌, ⊤, ℕ, ◌⊎◌, List, [], ◌∷◌, Option, Some, None, IfSome, codes, fold, option_and_then, option_map, slice_get, unwrap_or}
use Rattle.spv_io.specs.Faults.{Rose}
use Rattle.spv_io.specs.Sink.{added, AddsPrefix}
use Rattle.spv_io.specs.Texts.{named}
use Rattle.spv_reports.specs.Reports.{Findings, IsReport}
use Rattle.spv_listing.specs.Page.{page}
use Rattle.spv_verify.specs.declared.refused.refusal.Refusal.{Refusal}
use Rattle.spv_verify.specs.declared.refused.fault.Which.{Which}
use Rattle.spv_verify.specs.declared.refused.fault.Which.TheVariants as which
use Rattle.spv_reports.specs.declared.mode.Mode.{Mode}
use Rattle.spv_reports.specs.declared.mode.Mode.TheVariants.{Verify, Simplify, Check, Conditions, Drill}
use Rattle.spv_verify.specs.texts.Trees.{kind_of}
use Rattle.spv_verify.specs.Refusals.{IsRefused, IsReportOf}
use Rattle.spv_cli.specs.declared.found.Found.{Found}
use Rattle.spv_cli.specs.declared.found.Found.TheVariants.{ReadFailed, Refusing, Reporting}
use Rattle.spv_cli.specs.declared.running.Ran.{Ran}
use Rattle.spv_cli.specs.Commands.{Command, command_of, files_asked}
use Rattle.spv_cli.specs.Drill.{drill_text}
use Rattle.spv_cli.specs.Output.{words_line, read_fault_line, refusal_line, page_status}

-- ---- what the objects outside tell

-- what the texts tell before and after a run
pub record Reading : Type 0 where
  pub told : List ℕ → Option (List ℕ)
  pub asked_before : Option (List (List ℕ))
  pub asked_after : Option (List (List ℕ))
  pub faults_before : ℕ
  pub faults_after : ℕ

-- what the sink tells before and after a run
pub record Writing : Type 0 where
  pub written_before : Option (List ℕ)
  pub written_after : Option (List ℕ)
  pub faults_before : ℕ
  pub faults_after : ℕ

-- nothing was read
pub record IsUnread (o : Reading) : Type 0 where
  pub asked : o.asked_after ≡ o.asked_before
  pub faults : o.faults_after ≡ o.faults_before

-- the names so far with those of files behind them, where they are told
abbrev pub named_all : Option (List (List ℕ)) → List (List ℕ) → Option (List (List ℕ))
named_all asked files = fold named asked files

-- the names of the first of these files were asked for, in their order
pub record AreAskedInPart (before after : Option (List (List ℕ))) (files : List (List ℕ)) : Type 0 where
  pub first : List (List ℕ)
  pub rest : List (List ℕ)
  pub are_first : files ≡ first ++ rest
  pub asked : after ≡ named_all before first

-- those up to this one
pub record AreAskedUpTo (before after : Option (List (List ℕ))) (files : List (List ℕ)) (file : List ℕ) : Type 0 where
  pub first : List (List ℕ)
  pub rest : List (List ℕ)
  pub are_first : files ≡ first ++ file ∷ rest
  pub asked : after ≡ named_all before (first ++ file ∷ [])

-- the files were read in their order, without a fault
pub record AreReadWhole (o : Reading) (files : List (List ℕ)) : Type 0 where
  pub asked : o.asked_after ≡ named_all o.asked_before files
  pub faults : o.faults_after ≡ o.faults_before

-- the files were read in their order up to this one, where there was a fault
pub record IsReadBadly (o : Reading) (files : List (List ℕ)) (file : List ℕ) : Type 0 where
  pub asked : AreAskedUpTo o.asked_before o.asked_after files file
  pub rose : Rose o.faults_before o.faults_after

-- the first of the files were read in their order, maybe with a fault at the last one
pub record AreReadInPart (o : Reading) (files : List (List ℕ)) : Type 0 where
  pub asked : AreAskedInPart o.asked_before o.asked_after files
  pub faults : (o.faults_after ≡ o.faults_before) ⊎ Rose o.faults_before o.faults_after

-- all of the output was written, without a fault
pub record IsWritten (w : Writing) (output : List ℕ) : Type 0 where
  pub written : w.written_after ≡ added w.written_before output
  pub faults : w.faults_after ≡ w.faults_before

-- only some of the first bytes of the output were written, for a fault
pub record IsCut (w : Writing) (output : List ℕ) : Type 0 where
  pub prefix : AddsPrefix w.written_before w.written_after output
  pub rose : Rose w.faults_before w.faults_after

-- nothing was written
pub record IsUnwritten (w : Writing) : Type 0 where
  pub written : w.written_after ≡ w.written_before
  pub faults : w.faults_after ≡ w.faults_before

-- ---- what is found, and what is due then

-- the texts that a command asks of: a program or a formula, and maybe a rule file and a listing
pub record Sources : Type 0 where
  pub text : List ℕ
  pub rules : Option (List ℕ)
  pub listing : Option (List ℕ)

abbrev pub ruled_by : List ℕ → Option (List ℕ) → Sources
ruled_by text rules = record { text = text; rules = rules; listing = None }

-- what is told of all these files, where it is told of each
abbrev pub told_of : (List ℕ → Option (List ℕ)) → List (List ℕ) → Option (List (List ℕ))
told_of told [] = Some []
told_of told (file ∷ files) = option_and_then (λ text. option_map (λ texts. text ∷ texts) (told_of told files)) (told file)

-- the texts of a command, where these are those of its files: the one that it generates, or those; the program or the formula stands first, in the
-- mode `Check` a listing behind it, and then maybe a rule file
abbrev pub sources_in : Mode → List (List ℕ) → Option Sources
sources_in (Drill load limits) texts = Some (ruled_by (drill_text load) None)
sources_in Check (text ∷ listing ∷ texts) = Some (record { text = text; rules = slice_get texts 0; listing = Some listing })
sources_in (Verify limits) (text ∷ texts) = Some (ruled_by text (slice_get texts 0))
sources_in (Simplify limits) (text ∷ texts) = Some (ruled_by text (slice_get texts 0))
sources_in Conditions (text ∷ texts) = Some (ruled_by text (slice_get texts 0))
sources_in _ _ = None

-- those of what is told of its files, where it is told of each
abbrev pub sources : (List ℕ → Option (List ℕ)) → Command → Option Sources
sources told c = option_and_then (sources_in c.mode) (told_of told c.files)

-- where a rule file stands among the files
abbrev pub rules_place : Mode → ℕ
rules_place Check = 2
rules_place _ = 1

-- the name by which a text is told: that of its file; a generated one has none, and a rule file and a listing always have
abbrev pub name_at : List (List ℕ) → ℕ → Which → List ℕ
name_at files rules which.Program = unwrap_or (slice_get files 0) (codes "DRILL")
name_at files rules which.Rules = unwrap_or (slice_get files rules) (codes "RULES")
name_at files rules which.Listing = unwrap_or (slice_get files 1) (codes "LISTING")

abbrev pub name_of : Command → Which → List ℕ
name_of c w = name_at c.files (rules_place c.mode) w

-- one of the texts that a command asks of, which is told by this name, is refused so, where they are told
abbrev pub IsRefusedIn : (List ℕ → Option (List ℕ)) → Command → List ℕ → Refusal → Type 0
IsRefusedIn told c file r = (w : Which) × (file ≡ name_of c w) × IfSome (sources told c) (λ s. IsRefused (kind_of c.mode) s.text s.rules s.listing w r)

-- a command that asks of files has those that it asks of
abbrev pub HasSource : Mode → ℕ → Type 0
HasSource (Drill load limits) n = ⊤
HasSource Check n = 1 < n
HasSource _ n = 0 < n

-- what is found of the files of a command: this one cannot be read; or one of the texts that it asks of is refused so; or it has this report, which is
-- that of the texts, and has proofs where these are wanted
abbrev pub IsFound : Reading → Command → Found → Type 0
IsFound o c (ReadFailed file) = IsReadBadly o c.files file.now
IsFound o c (Refusing file r) = AreReadWhole o c.files × IsRefusedIn o.told c file.now r
IsFound o c (Reporting r) =
    AreReadWhole o c.files × IsReport r × (r.mode ≡ c.mode) × (r.proofs ≡ c.proofs) × IfSome (sources o.told c) (λ s. IsReportOf (kind_of c.mode) s.text s.rules s.listing r)

abbrev pub output : Found → List ℕ
output (ReadFailed file) = read_fault_line file.now
output (Refusing file r) = refusal_line file.now r
output (Reporting r) = page r

abbrev pub status : Found → ℕ
status (ReadFailed file) = 4
status (Refusing file r) = 3
status (Reporting r) = page_status r

abbrev pub report : Found → Option Findings
report (Reporting r) = Some r
report _ = None

-- ---- runs

-- all of the due output was written, or some of it for a fault
abbrev pub IsAnswered : Writing → List ℕ → ℕ → Option Findings → Ran → Type 0
IsAnswered w text s r ran =
    (ran.report ≡ r) × (((ran.status ≡ s) × IsWritten w text) ⊎ ((ran.status ≡ 5) × IsCut w text))

-- there was no memory: nothing was written, and the first of the files were read
pub record IsOutOfMemory (o : Reading) (w : Writing) (files : List (List ℕ)) (ran : Ran) : Type 0 where
  pub status : ran.status ≡ 6
  pub report : ran.report ≡ None
  pub reading : AreReadInPart o files
  pub writing : IsUnwritten w

-- what a run does for a command, or for none, where there is memory
abbrev pub HasDone : Option Command → Reading → Writing → Ran → Type 0
HasDone None o w ran = IsUnread o × IsAnswered w words_line 7 None ran
HasDone (Some c) o w ran = (f : Found) × IsFound o c f × IsAnswered w (output f) (status f) (report f) ran

-- what it does, maybe without memory
abbrev pub HasRunFor : Option Command → Reading → Writing → Ran → Type 0
HasRunFor command o w ran = HasDone command o w ran ⊎ IsOutOfMemory o w (files_asked command) ran

-- what a run does
abbrev pub HasRun : List (List ℕ) → Reading → Writing → Ran → Type 0
HasRun words o w ran = HasRunFor (command_of words) o w ran
