-- Which words are a command.
use Rattle.std.specs.Prelude.{ℕ, Bool, false, ◌&&◌, List, [], ◌∷◌, Option, Some, None, codes, nat_le, find, fold, length, ◌+◌, ◌*◌, ◌-◌, option_and_then, option_map, unwrap_or, if◌then◌else◌}
use Rattle.std.specs.Char.{is_ascii_digit}
use Rattle.std.specs.Str.{bytes_eq}
use Rattle.std.specs.Str.Parse.{digits_value, without_leading_plus}
use Rattle.clap.specs.Walk.{Row, is_empty, first_of, one_of, all_of}
use Rattle.clap.specs.Simple.{matches_of}
use Rattle.clap.specs.Faults.{fault_of}
use Rattle.spv_verdicts.specs.Verdicts.{Limits}
use Rattle.spv_reports.specs.declared.mode.Mode.{Mode}
use Rattle.spv_reports.specs.declared.mode.Mode.TheVariants.{Verify, Simplify, Check, Conditions, Drill}
use Rattle.spv_reports.specs.declared.mode.Load.{Load}
use Rattle.spv_reports.specs.Reports.{default_limits}
use Rattle.spv_cli.specs.declared.words.Verb.{Verb}
use Rattle.spv_cli.specs.declared.words.Verb.TheVariants as verb
use Rattle.spv_cli.specs.Arguments.{spv}

-- ---- modes

-- a mode: its word, the fewest and the most FILES that it takes, and what is asked
pub record ModeRow : Type 0 where
  pub word : List ℕ
  pub fewest : ℕ
  pub most : ℕ
  pub verb : Verb

abbrev pub modes : List ModeRow
modes =
    record { word = codes "verify"; fewest = 1; most = 2; verb = verb.Verify }
    ∷ record { word = codes "simplify"; fewest = 1; most = 2; verb = verb.Simplify }
    ∷ record { word = codes "check"; fewest = 2; most = 3; verb = verb.Check }
    ∷ record { word = codes "conditions"; fewest = 1; most = 1; verb = verb.Conditions }
    ∷ record { word = codes "drill"; fewest = 2; most = 2; verb = verb.Drill }
    ∷ []

abbrev pub mode_named : List ℕ → Option ModeRow
mode_named word = find (λ m. bytes_eq m.word word) modes

-- ---- options

-- the number that a text of digits says
abbrev pub number_in : List ℕ → ℕ
number_in text = digits_value 10 (without_leading_plus text)

-- the number that is given, or what holds where none is
abbrev pub given_or : ℕ → Option (List ℕ) → ℕ
given_or otherwise None = otherwise
given_or otherwise (Some text) = number_in text

abbrev pub limits_in : List Row → Limits
limits_in rows = record {
  splits = given_or default_limits.splits (one_of (codes "splits") rows);
  instances = given_or default_limits.instances (one_of (codes "instances") rows);
  pivots = given_or default_limits.pivots (one_of (codes "pivots") rows);
  terms = default_limits.terms;
}

abbrev pub is_true : Option (List ℕ) → Bool
is_true None = false
is_true (Some text) = bytes_eq text (codes "true")

abbrev pub proofs_in : List Row → Bool
proofs_in rows = is_true (one_of (codes "proofs") rows)

abbrev pub files_in : List Row → List (List ℕ)
files_in rows = unwrap_or (all_of (codes "files") rows) []

-- ---- commands

-- what is asked, whether its page has proofs, and of which files: the program or the formula comes first, then a listing where one is asked of, and
-- then maybe a rule file
pub record Command : Type 0 where
  pub mode : Mode
  pub proofs : Bool
  pub files : List (List ℕ)

-- the number that plain digits say, read from the left: there is one for no other byte, and none above the most
abbrev pub at_most : ℕ → ℕ → Option ℕ
at_most most n = if nat_le n most then Some n else None

abbrev pub behind_digit : ℕ → Option ℕ → ℕ → Option ℕ
behind_digit most None byte = None
behind_digit most (Some n) byte = if is_ascii_digit byte then at_most most (n * 10 + (byte - 48)) else None

abbrev pub plain_number : ℕ → List ℕ → Option ℕ
plain_number most [] = None
plain_number most (byte ∷ bytes) = fold (behind_digit most) (Some 0) (byte ∷ bytes)

-- a generated program has a number of 64 bits and from 1 to 60 procedures
abbrev pub most_number : ℕ
most_number = 18446744073709551615

abbrev pub most_size : ℕ
most_size = 60

abbrev pub load_of : Option ℕ → Option ℕ → Option Load
load_of (Some number) (Some size) = if nat_le 1 size then Some (record { number = number; size = size }) else None
load_of _ _ = None

-- the load that two words say
abbrev pub load_in : List (List ℕ) → Option Load
load_in (number ∷ size ∷ []) = load_of (plain_number most_number number) (plain_number most_size size)
load_in _ = None

abbrev pub with_files : Mode → Bool → List (List ℕ) → Command
with_files mode proofs files = record { mode = mode; proofs = proofs; files = files }

-- what is asked of these FILES; for a generated program they are no files
abbrev pub command_for : Verb → Limits → Bool → List (List ℕ) → Option Command
command_for verb.Verify limits proofs files = Some (with_files (Verify limits) proofs files)
command_for verb.Simplify limits proofs files = Some (with_files (Simplify limits) proofs files)
command_for verb.Check limits proofs files = Some (with_files Check proofs files)
command_for verb.Conditions limits proofs files = Some (with_files Conditions proofs files)
command_for verb.Drill limits proofs files = option_map (λ load. with_files (Drill load limits) proofs []) (load_in files)

-- a mode asks where there are so many FILES as it takes
abbrev pub command_if : ℕ → ℕ → Verb → Limits → Bool → List (List ℕ) → Option Command
command_if fewest most verb limits proofs files = if nat_le fewest (length files) && nat_le (length files) most then command_for verb limits proofs files else None

abbrev pub command_with : ModeRow → Limits → Bool → List (List ℕ) → Option Command
command_with m limits proofs files = command_if m.fewest m.most m.verb limits proofs files

-- the command with this word for its mode
abbrev pub command_named : List ℕ → Limits → Bool → List (List ℕ) → Option Command
command_named word limits proofs files = option_and_then (λ m. command_with m limits proofs files) (mode_named word)

-- the command that `clap` found
abbrev pub command_in : List Row → Option Command
command_in rows = option_and_then (λ word. command_named word (limits_in rows) (proofs_in rows) (files_in rows)) (first_of (codes "mode") rows)

-- words are a command where `clap` takes them, and their mode and files are those of a row
abbrev pub command_of : List (List ℕ) → Option Command
command_of words = if is_empty (fault_of spv words) then command_in (matches_of spv words) else None

-- the files of a command, if there is one
abbrev pub files_asked : Option Command → List (List ℕ)
files_asked None = []
files_asked (Some c) = c.files
