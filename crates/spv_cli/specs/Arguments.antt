-- The arguments of the command, as `clap` reads them.
use Rattle.std.specs.Prelude.{ℕ, List, [], ◌∷◌, true, Some, codes}
use Rattle.clap.specs.Lexer.{usize_max}
use Rattle.clap.specs.Walk.{Rule}
use Rattle.clap.specs.Simple.{App, new_rule, new_shape}
use Rattle.clap.specs.declared.builder.action.ArgAction.TheVariants.{SetTrue}
use Rattle.clap.specs.declared.builder.value_parser.ValueParser.TheVariants.{Bool, Unsigned}

-- MODE, which has to be there
abbrev pub mode_rule : Rule
mode_rule = record (new_rule (codes "mode")) { required = true }

-- FILES, of which there is one or more
abbrev pub files_rule : Rule
files_rule = record (new_rule (codes "files")) { required = true; range = Some (record { start_inclusive = 1; end_inclusive = usize_max }) }

-- `--name N`, where N is a whole number from 0 to `most`
abbrev pub limit_rule : List ℕ → ℕ → Rule
limit_rule name most = record (new_rule name) { long = Some name; parser = Some (Unsigned 0 most) }

-- `--proofs`
abbrev pub proofs_rule : Rule
proofs_rule = record (new_rule (codes "proofs")) { long = Some (codes "proofs"); action = Some SetTrue; parser = Some Bool }

-- the most that a limit may be
abbrev pub most_splits : ℕ
most_splits = 1000000

abbrev pub most_instances : ℕ
most_instances = 20000

abbrev pub most_pivots : ℕ
most_pivots = 1000000

abbrev pub rules : List Rule
rules =
    mode_rule
    ∷ files_rule
    ∷ limit_rule (codes "splits") most_splits
    ∷ limit_rule (codes "instances") most_instances
    ∷ limit_rule (codes "pivots") most_pivots
    ∷ proofs_rule
    ∷ []

-- one simple command, without flags for help or version
abbrev pub spv : App
spv = record { top = record (new_shape (codes "spv")) { disable_help_flag = true; rules = rules }; subs = [] }
