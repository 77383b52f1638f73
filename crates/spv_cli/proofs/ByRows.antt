-- What `clap` found, by its rows.
use Rattle.std.proofs.Common.{◌≡◌, ◌≤◌, ◌∙◌, ℕ, Bool, true, false, List, [], Option, Some, None, IfSome, refl, sym, ap, codes, arith}
use Rattle.std.specs.Prelude.{option_and_then, option_map, unwrap_or}
use Rattle.std.specs.Str.{bytes_eq}
use Rattle.std.proofs.lemmas.Slice.Eq.{bytes_eq-Decides}
use Rattle.clap.specs.Matches.{first_value, matched_of, one_text, raw_values}
use Rattle.clap.specs.Walk.{rows_of}
use Rattle.clap.specs.declared.parser.matches.Found.{Found}
use Rattle.clap.proofs.WalkLemmas.{first_value-rows, one_text-rows, raw_values-rows}
use Rattle.spv_verdicts.specs.Verdicts.{Limits}
use Rattle.spv_reports.specs.Reports.{default_limits}
use Rattle.spv_cli.specs.Commands.{Command, ModeRow, command_if, command_in, command_named, command_with, files_in, given_or, is_true, limits_in, mode_named, proofs_in}
use Rattle.spv_cli.specs.declared.words.ModeRow.{ModeRow as Row}
use Rattle.spv_cli.specs.declared.words.Verb.{Verb}
use Rattle.spv_cli.specs.declared.words.Verb.TheVariants as verb
use Rattle.spv_cli.specs.Words.{AreEnough, IsBoolText}

pub flag_is : (o : Option (List ℕ)) (flag : Bool) → IfSome o IsBoolText → (o ≡ None → flag ≡ false) → (o ≡ Some (codes "true") → flag ≡ true) → (o ≡ Some (codes "false") → flag ≡ false) → flag ≡ is_true o
flag_is None flag h none set unset = none refl
flag_is (Some t) flag h none set unset = by_case (bytes_eq t (codes "true")) refl
  where
    by_case : (b : Bool) → bytes_eq t (codes "true") ≡ b → flag ≡ bytes_eq t (codes "true")
    by_case true e = set (ap Some ((bytes_eq-Decides t (codes "true")).0 e)) ∙ sym e
    by_case false e =
        let other : bytes_eq t (codes "false") ≡ true = rw e at h in
        unset (ap Some ((bytes_eq-Decides t (codes "false")).0 other)) ∙ sym e

abbrev limits : ℕ → ℕ → ℕ → ℕ → Limits
limits splits instances pivots terms = record { splits = splits; instances = instances; pivots = pivots; terms = terms }

same_limits : {a b c d e f g h : ℕ} → a ≡ b → c ≡ d → e ≡ f → g ≡ h → limits a c e g ≡ limits b d f h
same_limits splits instances pivots terms = rw (splits, instances, pivots, terms) refl

-- limits by what was found are those by its rows
pub limits_found : (f : Found) (l : Limits) → l.splits ≡ given_or default_limits.splits (one_text f (codes "splits")) → l.instances ≡ given_or default_limits.instances (one_text f (codes "instances"))
    → l.pivots ≡ given_or default_limits.pivots (one_text f (codes "pivots")) → l.terms ≡ default_limits.terms → l ≡ limits_in (rows_of f)
limits_found f l splits instances pivots terms = same_limits
    (splits ∙ ap (given_or default_limits.splits) (one_text-rows f (codes "splits")))
    (instances ∙ ap (given_or default_limits.instances) (one_text-rows f (codes "instances")))
    (pivots ∙ ap (given_or default_limits.pivots) (one_text-rows f (codes "pivots")))
    terms

-- files by what was found are those by its rows
pub files_found : (f : Found) (files : List (List ℕ)) → Some files ≡ option_map raw_values (matched_of f (codes "files")) → files ≡ files_in (rows_of f)
files_found f files e = ap (λ (o : Option (List (List ℕ))). unwrap_or o []) (e ∙ raw_values-rows f (codes "files"))

pub no_files : (f : Found) → None ≡ option_map raw_values (matched_of f (codes "files")) → [] ≡ files_in (rows_of f)
no_files f e = ap (λ (o : Option (List (List ℕ))). unwrap_or o []) (e ∙ raw_values-rows f (codes "files"))

-- a command by what was found is that by its rows
abbrev named_by : Found → List ℕ → Option Command
named_by f word = command_named word (limits_in (rows_of f)) (proofs_in (rows_of f)) (files_in (rows_of f))

pub command_found : (f : Found) (word : List ℕ) (l : Limits) (proofs : Bool) (files : List (List ℕ)) → Some word ≡ first_value f (codes "mode") → l ≡ limits_in (rows_of f) → proofs ≡ proofs_in (rows_of f)
    → files ≡ files_in (rows_of f) → command_named word l proofs files ≡ command_in (rows_of f)
command_found f word l proofs files mode limits option names =
    same limits option names ∙ ap (λ (o : Option (List ℕ)). option_and_then (named_by f) o) (mode ∙ first_value-rows f (codes "mode"))
  where
    same : {k : Limits} {b : Bool} {names : List (List ℕ)} → l ≡ k → proofs ≡ b → files ≡ names → command_named word l proofs files ≡ command_named word k b names
    same k b n = rw (k, b, n) refl

pub no_mode : (f : Found) → None ≡ first_value f (codes "mode") → None ≡ command_in (rows_of f)
no_mode f mode = ap (λ (o : Option (List ℕ)). option_and_then (named_by f) o) (mode ∙ first_value-rows f (codes "mode"))

-- ---- modes

same_either_way : (x y : List ℕ) → bytes_eq x y ≡ false → bytes_eq y x ≡ false
same_either_way x y e = by_case (bytes_eq y x) refl
  where
    by_case : (b : Bool) → bytes_eq y x ≡ b → b ≡ false
    by_case true f = sym ((bytes_eq-Decides x y).1 (sym ((bytes_eq-Decides y x).0 f))) ∙ e
    by_case false f = refl

-- a word that is none of the modes'
pub none_named : (word : List ℕ) → bytes_eq word (codes "verify") ≡ false → bytes_eq word (codes "simplify") ≡ false → bytes_eq word (codes "check") ≡ false → bytes_eq word (codes "conditions") ≡ false → bytes_eq word (codes "drill") ≡ false
    → ◌≡◌ {A = Option Row} None (option_map (λ (m : ModeRow). record { fewest = m.fewest; most = m.most; verb = m.verb }) (mode_named word))
none_named word a b c d e =
    rw (same_either_way word (codes "verify") a, same_either_way word (codes "simplify") b, same_either_way word (codes "check") c, same_either_way word (codes "conditions") d, same_either_way word (codes "drill") e) refl

abbrev row_of : ModeRow → Row
row_of m = record { fewest = m.fewest; most = m.most; verb = m.verb }

module _ (word : List ℕ) (l : Limits) (proofs : Bool) (files : List (List ℕ)) where
  pub named_command : (row : Row) (c : Option Command) → ◌≡◌ {A = Option Row} (Some row) (option_map (λ (m : ModeRow). record { fewest = m.fewest; most = m.most; verb = m.verb }) (mode_named word))
      → c ≡ command_if row.fewest row.most row.verb l proofs files → c ≡ command_named word l proofs files
  named_command row c is e = e ∙ by_case (mode_named word) is
    where
      same : (a b : Row) → ◌≡◌ {A = Option Row} (Some a) (Some b) → a ≡ b
      same a b h = cc

      by_case : (o : Option ModeRow) → ◌≡◌ {A = Option Row} (Some row) (option_map row_of o) → command_if row.fewest row.most row.verb l proofs files ≡ option_and_then (λ m. command_with m l proofs files) o
      by_case None h = absurd (cc)
      by_case (Some m) h = ap (λ (r : Row). command_if r.fewest r.most r.verb l proofs files) (same row (row_of m) h)

  pub no_command : ◌≡◌ {A = Option Row} None (option_map (λ (m : ModeRow). record { fewest = m.fewest; most = m.most; verb = m.verb }) (mode_named word)) → None ≡ command_named word l proofs files
  no_command is = by_case (mode_named word) is
    where
      by_case : (o : Option ModeRow) → ◌≡◌ {A = Option Row} None (option_map row_of o) → None ≡ option_and_then (λ m. command_with m l proofs files) o
      by_case None h = refl
      by_case (Some m) h = absurd (cc)

-- more words are enough where fewer are
pub enough_more : (v : Verb) (m n : ℕ) → AreEnough v m → m ≤ n → AreEnough v n
enough_more verb.Verify m n h k = omega (arith, h, k)
enough_more verb.Simplify m n h k = omega (arith, h, k)
enough_more verb.Check m n h k = omega (arith, h, k)
enough_more verb.Conditions m n h k = omega (arith, h, k)
enough_more verb.Drill m n h k = omega (arith, h, k)
