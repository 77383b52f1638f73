-- Each step of a proof as a word and its parts in order: what is printed of a step, what is read, and what it names.
use Rattle.std.specs.Prelude.{ℕ, Bool, true, false, List, [], ◌∷◌, map, Option, Some, None, unwrap_or}
use Rattle.std.specs.List.{filter}
use Rattle.std.specs.Option.{option_map}
use Rattle.spv_whole.specs.Fraction.{Fraction}
use Rattle.spv_logic.specs.declared.names.names.Symbol.{Symbol}
use Rattle.spv_logic.specs.declared.conditions.TermId.{TermId}
use Rattle.spv_atoms.specs.declared.proofs.Relation.{Relation}
use Rattle.spv_atoms.specs.declared.proofs.Relation.TheVariants as relation
use Rattle.spv_atoms.specs.declared.proofs.Stated.{Stated}
use Rattle.spv_atoms.specs.declared.proofs.Stated.TheVariants as stated
use Rattle.spv_atoms.specs.declared.proofs.Step.{Step}
use Rattle.spv_atoms.specs.declared.proofs.Step.TheVariants as step

pub data Word : Type 0 where
  Given : Word
  Refl : Word
  Symm : Word
  Trans : Word
  Cong : Word
  Linear : Word
  Schema : Word
  Rule : Word
  Eval : Word
  Contra : Word

-- a part of a step, where T stands for terms, R for relations, S for what evaluations state, and N for the names of fields
pub data StepPart (T R S N : Type 0) : Type 0 where
  -- the number of a hypothesis, of a kind of schemas, or of a rule
  Number : ℕ → StepPart T R S N
  Fact : ℕ → StepPart T R S N
  -- a second fact, where there is one
  OtherFact : Option ℕ → StepPart T R S N
  Facts : List ℕ → StepPart T R S N
  One : T → StepPart T R S N
  Several : List T → StepPart T R S N
  -- a relation, and the multiples of facts that show it in one direction and in the other
  Sums : R → List (Fraction × ℕ) → List (Fraction × ℕ) → StepPart T R S N
  States : S → StepPart T R S N
  Field : Option N → StepPart T R S N

pub record StepShape (T R S N : Type 0) : Type 0 where
  pub word : Word
  pub parts : List (StepPart T R S N)

abbrev pub says : {T R S N : Type 0} → Word → List (StepPart T R S N) → StepShape T R S N
says word parts = record { word = word; parts = parts }

-- over the ids of an arena
abbrev pub Part : Type 0
Part = StepPart TermId Relation Stated Symbol

abbrev pub Shape : Type 0
Shape = StepShape TermId Relation Stated Symbol

-- ---- the shape of a step, and the step of a shape

abbrev pub shape : Step → Shape
shape (step.Given k) = says Given (Number k ∷ [])
shape (step.Refl t) = says Refl (One t ∷ [])
shape (step.Symm i) = says Symm (Fact i ∷ [])
shape (step.Trans i j) = says Trans (Fact i ∷ Fact j ∷ [])
shape (step.Cong t u ks) = says Cong (One t ∷ One u ∷ Facts ks ∷ [])
shape (step.Linear r first second) = says Linear (Sums r first second ∷ [])
shape (step.Schema kind ts field) = says Schema (Number kind ∷ Several ts ∷ Field field ∷ [])
shape (step.Rule r ts) = says Rule (Number r ∷ Several ts ∷ [])
shape (step.Eval s ks) = says Eval (States s ∷ Facts ks ∷ [])
shape (step.Contra i j) = says Contra (Fact i ∷ OtherFact j ∷ [])

-- the step of a word and parts that fit it
abbrev pub step_by : Word → List Part → Option Step
step_by Given (Number k ∷ []) = Some (step.Given k)
step_by Refl (One t ∷ []) = Some (step.Refl t)
step_by Symm (Fact i ∷ []) = Some (step.Symm i)
step_by Trans (Fact i ∷ Fact j ∷ []) = Some (step.Trans i j)
step_by Cong (One t ∷ One u ∷ Facts ks ∷ []) = Some (step.Cong t u ks)
step_by Linear (Sums r first second ∷ []) = Some (step.Linear r first second)
step_by Schema (Number kind ∷ Several ts ∷ Field field ∷ []) = Some (step.Schema kind ts field)
step_by Rule (Number r ∷ Several ts ∷ []) = Some (step.Rule r ts)
step_by Eval (States s ∷ Facts ks ∷ []) = Some (step.Eval s ks)
step_by Contra (Fact i ∷ OtherFact j ∷ []) = Some (step.Contra i j)
step_by _ _ = None

abbrev pub step_of : Shape → Option Step
step_of s = step_by s.word s.parts

-- ---- what holds of parts

-- something holds of each of these
abbrev pub OfEach : {X : Type 0} → (X → Type 0) → List X → Type 0
OfEach P [] = Unit {0}
OfEach P (x ∷ []) = P x
OfEach P (x ∷ y ∷ xs) = P x × OfEach P (y ∷ xs)

-- whether a part may name terms, and whether it may cite facts
abbrev pub names_terms : {T R S N : Type 0} → StepPart T R S N → Bool
names_terms (One t) = true
names_terms (Several ts) = true
names_terms (Sums r first second) = true
names_terms (States s) = true
names_terms _ = false

abbrev pub cites_facts : {T R S N : Type 0} → StepPart T R S N → Bool
cites_facts (Fact k) = true
cites_facts (OtherFact k) = true
cites_facts (Facts ks) = true
cites_facts (Sums r first second) = true
cites_facts _ = false

-- something holds of each part that names terms, or of each that cites facts
abbrev pub OfNaming : (Part → Type 0) → Step → Type 0
OfNaming P s = OfEach P (filter names_terms (shape s).parts)

abbrev pub OfCiting : (Part → Type 0) → Step → Type 0
OfCiting P s = OfEach P (filter cites_facts (shape s).parts)

-- ---- steps whose parts are others

-- the step whose parts are those of a step, each changed; the step itself where that is none
abbrev pub with_parts : (Part → Part) → Step → Step
with_parts change s = unwrap_or (step_by (shape s).word (map change (shape s).parts)) s

-- a multiple of a fact of another number
abbrev pub multiple_by : (ℕ → ℕ) → Fraction × ℕ → Fraction × ℕ
multiple_by f m = (m.0, f m.1)

abbrev pub part_renumbered : {T R S N : Type 0} → (ℕ → ℕ) → StepPart T R S N → StepPart T R S N
part_renumbered f (Fact k) = Fact (f k)
part_renumbered f (OtherFact k) = OtherFact (option_map f k)
part_renumbered f (Facts ks) = Facts (map f ks)
part_renumbered f (Sums r first second) = Sums r (map (multiple_by f) first) (map (multiple_by f) second)
part_renumbered f p = p

-- a step with each number of a fact changed
abbrev pub renumbered : (ℕ → ℕ) → Step → Step
renumbered f s = with_parts (part_renumbered f) s

abbrev pub relation_renamed : (TermId → TermId) → Relation → Relation
relation_renamed f (relation.AtMost s t) = relation.AtMost (f s) (f t)
relation_renamed f (relation.Equal s t) = relation.Equal (f s) (f t)

abbrev pub stated_renamed : (TermId → TermId) → Stated → Stated
stated_renamed f (stated.Is t b) = stated.Is (f t) b
stated_renamed f (stated.Same s t) = stated.Same (f s) (f t)

abbrev pub part_renamed : {T R S N U Q V : Type 0} → (T → U) → (R → Q) → (S → V) → StepPart T R S N → StepPart U Q V N
part_renamed f g h (Number k) = Number k
part_renamed f g h (Fact k) = Fact k
part_renamed f g h (OtherFact k) = OtherFact k
part_renamed f g h (Facts ks) = Facts ks
part_renamed f g h (One t) = One (f t)
part_renamed f g h (Several ts) = Several (map f ts)
part_renamed f g h (Sums r first second) = Sums (g r) first second
part_renamed f g h (States s) = States (h s)
part_renamed f g h (Field x) = Field x

-- a step with each term changed
abbrev pub renamed : (TermId → TermId) → Step → Step
renamed f s = with_parts (part_renamed f (relation_renamed f) (stated_renamed f)) s
