-- The words of what a run promises.
use Rattle.std.specs.Prelude.{◌≡◌, ℕ, ◌⊎◌, List, Option, Some, None, IsTrue, nat_eq}
use Rattle.std.specs.List.{list_any}
use Rattle.spv_reports.specs.Reports.{Findings}
use Rattle.spv_listing.specs.Page.{page}
use Rattle.spv_verify.specs.declared.texts.TextKind.{TextKind}
use Rattle.spv_verify.specs.texts.Trees.{kind_of}
use Rattle.spv_verify.specs.declared.refused.refusal.Refusal.{Refusal}
use Rattle.spv_cli.specs.Commands.{Command, command_of}
use Rattle.spv_cli.specs.Output.{words_line, read_fault_line, refusal_line}
use Rattle.spv_cli.specs.Runs.{Reading, IsReadBadly, IsRefusedIn, Sources, sources}

-- a number is one of these
abbrev pub IsOneOf : List ℕ → ℕ → Type 0
IsOneOf numbers n = IsTrue (list_any (nat_eq n) numbers)

-- something is there, and this is true of it
abbrev pub IsThere : {X : Type 0} → Option X → (X → Type 0) → Type 0
IsThere None P = ⊥
IsThere (Some x) P = P x

-- the texts that the command asks of are told, and this is true of what the first is read as, and of them
abbrev pub IsTold : List (List ℕ) → (List ℕ → Option (List ℕ)) → (TextKind → Sources → Type 0) → Type 0
IsTold words told P = IsThere (command_of words) (λ c. IsThere (sources told c) (P (kind_of c.mode)))

-- a refusal of a text that the command asks of, and its line
abbrev pub IsRefusalLine : (List ℕ → Option (List ℕ)) → Command → List ℕ → Type 0
IsRefusalLine told c line = (file : List ℕ) × (r : Refusal) × IsRefusedIn told c file r × (line ≡ refusal_line file r)

-- a read of a file of the command failed, and its line
abbrev pub IsReadFaultLine : Reading → Command → List ℕ → Type 0
IsReadFaultLine o c line = (file : List ℕ) × IsReadBadly o c.files file × (line ≡ read_fault_line file)

-- what is due where there is no page: the line of the words, of a read that failed, or of a refusal
abbrev pub IsDueLine : Option Command → Reading → List ℕ → Type 0
IsDueLine None o line = line ≡ words_line
IsDueLine (Some c) o line = IsReadFaultLine o c line ⊎ IsRefusalLine o.told c line

-- what is due: the page of the report, and where there is none such a line
abbrev pub IsDueFor : Option Command → Reading → Option Findings → List ℕ → Type 0
IsDueFor command o (Some r) output = output ≡ page r
IsDueFor command o None output = IsDueLine command o output
