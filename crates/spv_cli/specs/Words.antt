-- What contracts see of a command and of what `clap` found.
use Rattle.std.specs.Prelude.{◌≡◌, ◌<◌, ◌^◌, ℕ, true, List, ◌||◌, IfSome, map, codes}
use Rattle.std.specs.Str.{bytes_eq}
use Rattle.std.specs.Str.Parse.{IsNumeral, digits_value, without_leading_plus}
use Rattle.clap.specs.Values.{IsUnsignedIn}
use Rattle.clap.specs.Matches.{one_text}
use Rattle.clap.specs.declared.parser.matches.Found.{Found}
use Rattle.spv_cli.specs.declared.words.Command.{Command as Words}
use Rattle.spv_cli.specs.Arguments.{most_splits, most_instances, most_pivots}
use Rattle.spv_cli.specs.declared.drill.Procedure.{Procedure as Made}
use Rattle.spv_cli.specs.Drill.{Procedure}
use Rattle.spv_cli.specs.Commands.{Command}
use Rattle.spv_cli.specs.declared.words.Verb.{Verb}
use Rattle.spv_cli.specs.declared.words.Verb.TheVariants.{Verify, Simplify, Check, Conditions, Drill}

abbrev pub command_view : Words → Command
command_view c = record { mode = c.mode; proofs = c.proofs; files = map (λ file. file.now) c.files.items }

-- so many words FILES name all that is asked of
abbrev pub AreEnough : Verb → ℕ → Type 0
AreEnough Verify n = 0 < n
AreEnough Simplify n = 0 < n
AreEnough Check n = 1 < n
AreEnough Conditions n = 0 < n
AreEnough Drill n = 0 < n

-- where this option is given, its text is a number from 0 to `most`
abbrev pub IsLimit : Found → List ℕ → ℕ → Type 0
IsLimit f name most = IfSome (one_text f name) (IsUnsignedIn 0 most)

-- where it is given, its text is a number
abbrev pub IsNumber : Found → List ℕ → Type 0
IsNumber f name = IfSome (one_text f name) (λ text. IsNumeral 10 (without_leading_plus text) × (digits_value 10 (without_leading_plus text) < 2 ^ 64))

abbrev pub IsBoolText : List ℕ → Type 0
IsBoolText text = (bytes_eq text (codes "true") || bytes_eq text (codes "false")) ≡ true

-- each option that is given has a value of its kind
pub record AreOptions (f : Found) : Type 0 where
  pub splits : IsLimit f (codes "splits") most_splits
  pub instances : IsLimit f (codes "instances") most_instances
  pub pivots : IsLimit f (codes "pivots") most_pivots
  pub proofs : IfSome (one_text f (codes "proofs")) IsBoolText

-- a generated procedure
abbrev pub procedure_view : Made → Procedure
procedure_view p = record { number = p.number; factor = p.factor; summand = p.summand }
