-- What a listing says, with its terms changed.
use Rattle.std.specs.Prelude.{List, [], ◌∷◌, ◌++◌, map, Option, Some, None, option_map}
use Rattle.std.specs.List.{flat_map}
use Rattle.spv_whole.specs.Fraction.{Fraction}
use Rattle.spv_listing_values.specs.declared.data.Step.{Step}
use Rattle.spv_listing_values.specs.declared.data.Step.TheVariants as step
use Rattle.spv_listing_values.specs.declared.data.Split.{Split}
use Rattle.spv_listing_values.specs.declared.data.ProofNode.{ProofNode}
use Rattle.spv_listing_values.specs.declared.data.Instance.{Instance}
use Rattle.spv_listing_values.specs.declared.data.Limit.{Limit}
use Rattle.spv_listing_values.specs.declared.data.Limit.TheVariants as limit
use Rattle.spv_listing_values.specs.declared.data.Verdict.{Verdict}
use Rattle.spv_listing_values.specs.declared.data.Verdict.TheVariants.{Proved, Unproved, GaveUp}
use Rattle.spv_listing_values.specs.declared.data.Claim.{Claim}

abbrev pub step_at : {T U : Type 0} → (T → U) → Step T → Step U
step_at f (step.Given k) = step.Given k
step_at f (step.Refl t) = step.Refl (f t)
step_at f (step.Symm i) = step.Symm i
step_at f (step.Trans i j) = step.Trans i j
step_at f (step.Cong t u facts) = step.Cong (f t) (f u) facts
step_at f (step.Linear r first second) = step.Linear (f r) first second
step_at f (step.Schema k ts name) = step.Schema k (map f ts) name
step_at f (step.Rule r ts) = step.Rule r (map f ts)
step_at f (step.Eval t facts) = step.Eval (f t) facts
step_at f (step.Contra i j) = step.Contra i j

abbrev pub split_at : {T U : Type 0} → (T → U) → Split T → Split U
split_at f s = record { cases = s.cases; atom = f s.atom }

abbrev pub node_at : {T U : Type 0} → (T → U) → ProofNode T → ProofNode U
node_at f n = record { steps = map (step_at f) n.steps; split = option_map (split_at f) n.split }

abbrev pub instance_at : {T U : Type 0} → (T → U) → Instance T → Instance U
instance_at f i = record { rule = i.rule; values = map f i.values }

abbrev pub limit_at : {T U : Type 0} → (T → U) → Limit T → Limit U
limit_at f (limit.Splits n) = limit.Splits n
limit_at f (limit.Instances n) = limit.Instances n
limit_at f (limit.Pivots n) = limit.Pivots n
limit_at f limit.Terms = limit.Terms
limit_at f (limit.Form t) = limit.Form (f t)
limit_at f (limit.Wide o left right) = limit.Wide o left right

abbrev pub row_at : {T U : Type 0} → (T → U) → T × Fraction → U × Fraction
row_at f row = (f row.0, row.1)

abbrev pub verdict_at : {T U : Type 0} → (T → U) → Verdict T → Verdict U
verdict_at f (Proved nodes) = Proved (map (node_at f) nodes)
verdict_at f (Unproved branch instances table) = Unproved (map f branch) (map (instance_at f) instances) (map (row_at f) table)
verdict_at f (GaveUp l) = GaveUp (limit_at f l)

abbrev pub claim_at : {T U : Type 0} → (T → U) → Claim T → Claim U
claim_at f c = record { header = c.header; given = map f c.given; goal = f c.goal; verdict = verdict_at f c.verdict }

-- ---- the terms that are named, in order

abbrev pub step_terms : {T : Type 0} → Step T → List T
step_terms (step.Given k) = []
step_terms (step.Refl t) = t ∷ []
step_terms (step.Symm i) = []
step_terms (step.Trans i j) = []
step_terms (step.Cong t u facts) = t ∷ u ∷ []
step_terms (step.Linear r first second) = r ∷ []
step_terms (step.Schema k ts name) = ts
step_terms (step.Rule r ts) = ts
step_terms (step.Eval t facts) = t ∷ []
step_terms (step.Contra i j) = []

abbrev pub split_terms : {T : Type 0} → Option (Split T) → List T
split_terms None = []
split_terms (Some s) = s.atom ∷ []

abbrev pub node_terms : {T : Type 0} → ProofNode T → List T
node_terms n = flat_map step_terms n.steps ++ split_terms n.split

abbrev pub instance_terms : {T : Type 0} → Instance T → List T
instance_terms i = i.values

abbrev pub row_term : {T : Type 0} → T × Fraction → T
row_term row = row.0

abbrev pub limit_terms : {T : Type 0} → Limit T → List T
limit_terms (limit.Splits n) = []
limit_terms (limit.Instances n) = []
limit_terms (limit.Pivots n) = []
limit_terms limit.Terms = []
limit_terms (limit.Form t) = t ∷ []
limit_terms (limit.Wide o left right) = []

abbrev pub verdict_terms : {T : Type 0} → Verdict T → List T
verdict_terms (Proved nodes) = flat_map node_terms nodes
verdict_terms (Unproved branch instances table) = branch ++ (flat_map instance_terms instances ++ map row_term table)
verdict_terms (GaveUp l) = limit_terms l

abbrev pub claim_terms : {T : Type 0} → Claim T → List T
claim_terms c = c.given ++ c.goal ∷ verdict_terms c.verdict
