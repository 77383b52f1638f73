-- What reading the files of a command gives.
use Rattle.std.specs.Prelude.{◌≡◌, ⊤, ℕ, List, [], ◌∷◌, Option, IfSome, IsSomeAnd, map, take}
use Rattle.spv_reports.specs.Reports.{IsReport}
use Rattle.spv_verify.specs.texts.Trees.{kind_of}
use Rattle.spv_verify.specs.Refusals.{IsRefused, IsReportOf}
use Rattle.spv_cli.specs.declared.found.Found.{Found}
use Rattle.spv_cli.specs.declared.found.Found.TheVariants.{ReadFailed, Refusing, Reporting}
use Rattle.spv_cli.specs.declared.reading.Gathered.{Gathered}
use Rattle.spv_cli.specs.declared.reading.Gathered.TheVariants.{Failed, Texts}
use Rattle.spv_cli.specs.Commands.{Command}
use Rattle.spv_verify.specs.declared.refused.fault.Which.{Which}
use Rattle.spv_cli.specs.Runs.{name_of, sources_in, Reading, Sources, AreReadWhole, IsReadBadly}

-- these are the first bytes of the text of a file, where it is told: as many as a listing may have, and one more
abbrev pub AreFirstOf : (List ℕ → Option (List ℕ)) → List ℕ → List ℕ → Type 0
AreFirstOf told file bytes = IfSome (told file) (λ text. bytes ≡ take 67108865 text)

-- and so of each file at its place
abbrev pub AreTextsOf : (List ℕ → Option (List ℕ)) → List (List ℕ) → List (List ℕ) → Type 0
AreTextsOf told [] [] = ⊤
AreTextsOf told (file ∷ files) (bytes ∷ texts) = AreFirstOf told file bytes × AreTextsOf told files texts
AreTextsOf told _ _ = ⊥

abbrev pub HasGathered : Reading → List (List ℕ) → Gathered → Type 0
HasGathered o files (Failed file) = IsReadBadly o files file.now
HasGathered o files (Texts texts) = AreReadWhole o files × AreTextsOf o.told files (map (λ text. text.items) texts.items)

-- what is found of these texts: one is refused so, or they have this report
abbrev pub IsTextFound : Command → Sources → Found → Type 0
IsTextFound c s (ReadFailed other) = ⊥
IsTextFound c s (Refusing other r) = (w : Which) × (other.now ≡ name_of c w) × IsRefused (kind_of c.mode) s.text s.rules s.listing w r
IsTextFound c s (Reporting r) = IsReport r × (r.mode ≡ c.mode) × (r.proofs ≡ c.proofs) × IsReportOf (kind_of c.mode) s.text s.rules s.listing r

-- what is found of the texts that a command asks of, where these were read of its files
abbrev pub IsAskedFound : Command → List (List ℕ) → Found → Type 0
IsAskedFound c texts f = IsSomeAnd (sources_in c.mode texts) (λ s. IsTextFound c s f)
