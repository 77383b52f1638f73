-- A tree as it grows, as contracts see it, and what it says of the branches that are left.
use Rattle.std.specs.Prelude.{◌≡◌, ◌≤◌, ◌<◌, ℕ, ◌+◌, Bool, true, false, ◌||◌, List, [], ◌∷◌, ◌++◌, length, map, reverse, take, ⊤}
use Rattle.spv_logic.specs.declared.conditions.TermId.{TermId}
use Rattle.spv_logic.specs.Terms.{Term}
use Rattle.spv_term.specs.Arena.{Arena, tree}
use Rattle.spv_atoms.specs.Atoms as atoms
use Rattle.spv_proof_rules.specs.Evaluation.{sides}
use Rattle.spv_proof_rules.specs.Effects.{Question}
use Rattle.spv_proof_rules.specs.Stand.{In, StepsIn}
use Rattle.spv_derivations.specs.declared.derivation.entries.Part.{Part}
use Rattle.spv_derivations.specs.declared.derivation.entries.Part.TheVariants.{True, False, Below, Above}
use Rattle.spv_derivations.specs.derivation.Derivation.{are_numbers, literal, PartFits}
use Rattle.spv_verdicts.specs.declared.answers.growing.Grown.{Grown}
use Rattle.spv_verdicts.specs.declared.answers.growing.Grown.TheVariants as grown
use Rattle.spv_search.specs.declared.branches.cases.Case.{Case}
use Rattle.spv_search.specs.declared.branches.cases.Pending.{Pending}
use Rattle.spv_search.specs.branches.Branches.{Branch, root, left_by, MayTake, Comes}
use Rattle.spv_search.specs.branches.Counts.{is_open, some_open, splits_of, split_count, room}

-- the nodes so far, the cases of the branch that comes next and whether one does, the parts that wait behind it, of which the last one comes first,
-- how many nodes are splits, and whether one is open
pub record Growth : Type 0 where
  pub nodes : List Grown
  pub cases : List Case
  pub pending : List Pending
  pub is_left : Bool
  pub splits : ℕ
  pub is_open : Bool

-- a tree begins with the branch without cases
abbrev pub start : Growth
start = record { nodes = []; cases = []; pending = []; is_left = true; splits = 0; is_open = false }

-- ---- branches

abbrev pub atom_in : (TermId → Term) → Case → Term
atom_in at c = at c.atom

-- the formula of a case
abbrev pub case_in : (TermId → Term) → Case → Term
case_in at c = literal (at c.atom) c.part

-- the branch with these cases
abbrev pub branch_of : (TermId → Term) → List Case → Branch
branch_of at cs = record { cases = map (case_in at) cs; above = reverse (map (atom_in at) cs) }

-- the cases of a part that waits: so many of the path's, and its own
abbrev pub cases_at : List Case → Pending → List Case
cases_at path p = take p.cases path ++ p.case ∷ []

-- the branches of parts that wait beside a path, the first of which comes first
abbrev pub waiting : (TermId → Term) → List Case → List Pending → List Branch
waiting at path [] = []
waiting at path (p ∷ ps) = branch_of at (cases_at path p) ∷ waiting at path ps

-- the branch that comes next, those that wait behind it, and all that are left
abbrev pub next : (TermId → Term) → Growth → Branch
next at s = branch_of at s.cases

abbrev pub others : (TermId → Term) → Growth → List Branch
others at s = waiting at s.cases (reverse s.pending)

abbrev pub all_if : Bool → Branch → List Branch → List Branch
all_if true b bs = b ∷ bs
all_if false b bs = []

abbrev pub left : (TermId → Term) → Growth → List Branch
left at s = all_if s.is_left (next at s) (others at s)

-- no part that waits has more of a path's cases than there are, or than the one that comes before it
abbrev pub AreNested : ℕ → List Pending → Type 0
AreNested n [] = ⊤
AreNested n (p ∷ ps) = (p.cases ≤ n) × AreNested p.cases ps

-- ---- growing

-- a tree grows for a question: its nodes leave these branches, and are counted
pub record IsGrowing (q : Question) (s : Growth) : Type 0 where
  pub comes : Comes q (root ∷ []) s.nodes (left q.at s)
  pub nested : AreNested (length s.cases) (reverse s.pending)
  pub splits_are : s.splits ≡ split_count s.nodes
  pub open_is : s.is_open ≡ some_open s.nodes

-- it grows for some question
pub record HasQuestion (s : Growth) : Type 0 where
  pub question : Question
  pub grows : IsGrowing question s

-- of these cases the first ones are those of others, so many, and the last one is not
pub record GoesBack (old new : List Case) : Type 0 where
  pub kept : ℕ
  pub last : Case
  pub within : kept ≤ length old
  pub cases_are : new ≡ take kept old ++ last ∷ []

-- a node takes the branch that comes next: what it leaves stands in its place, in front of the others, and takes less room; and the path of the
-- branch that comes then begins as this one's
pub record Takes (q : Question) (old new : Growth) (n : Grown) : Type 0 where
  pub nodes_are : new.nodes ≡ old.nodes ++ n ∷ []
  pub splits_are : new.splits ≡ old.splits + splits_of n
  pub open_is : new.is_open ≡ (old.is_open || is_open n)
  pub grows : IsGrowing q old → MayTake q (next q.at old) n → IsGrowing q new
  pub leaves : IsGrowing q old → left q.at new ≡ left_by q (next q.at old) n ++ others q.at old
  pub less : IsGrowing q old → MayTake q (next q.at old) n → room q (left q.at new) < room q (left q.at old)
  pub goes_back : IsGrowing q old → new.is_left ≡ true → GoesBack old.cases new.cases

-- ---- parts

-- how an atom is told in the parts of a split behind the first one: three parts of an equation of whole numbers, two of every other atom
abbrev pub other_parts : Bool → List Part
other_parts true = Below ∷ Above ∷ []
other_parts false = False ∷ []

abbrev pub parts_of : Bool → List Part
parts_of three = True ∷ other_parts three

-- whether an atom has three parts
abbrev pub has_three : Arena → TermId → Bool
has_three a t = are_numbers (atoms.is_number a.shapes a.decls) (sides (tree a t))

abbrev pub case_of : TermId → Part → Case
case_of t part = record { atom = t; part = part }

abbrev pub pending_of : ℕ → TermId → Part → Pending
pending_of n t part = record { cases = n; case = case_of t part }

-- the parts of a split that wait behind its first one, of which the last one comes first
abbrev pub pending_parts : ℕ → TermId → Bool → List Pending
pending_parts n t true = pending_of n t Above ∷ pending_of n t Below ∷ []
pending_parts n t false = pending_of n t False ∷ []

-- ---- the part that comes next

-- the last part that waits comes next, with its cases
pub record IsNext (path : List Case) (pending : List Pending) (new : List Case) (rest : List Pending) : Type 0 where
  pub part : Pending
  pub pending_are : pending ≡ rest ++ part ∷ []
  pub cases_are : new ≡ cases_at path part

-- or none waits
abbrev pub Moves : List Case → List Pending → List Case → List Pending → Bool → Type 0
Moves path pending new rest true = IsNext path pending new rest
Moves path pending new rest false = (new ≡ path) × (pending ≡ []) × (rest ≡ [])

-- ---- terms that are there

-- a case is of a term of the arena of which this may be told
pub record CaseIn (a : Arena) (c : Case) : Type 0 where
  pub within : In a c.atom
  pub fits : PartFits a c.atom c.part

abbrev pub CasesIn : Arena → List Case → Type 0
CasesIn a [] = ⊤
CasesIn a (c ∷ cs) = CaseIn a c × CasesIn a cs

abbrev pub PendingIn : Arena → List Pending → Type 0
PendingIn a [] = ⊤
PendingIn a (p ∷ ps) = CaseIn a p.case × PendingIn a ps

abbrev pub GrownIn : Arena → Grown → Type 0
GrownIn a grown.Open = ⊤
GrownIn a (grown.Closed steps) = StepsIn a steps
GrownIn a (grown.Split t count) = In a t

abbrev pub AllGrownIn : Arena → List Grown → Type 0
AllGrownIn a [] = ⊤
AllGrownIn a (n ∷ nodes) = GrownIn a n × AllGrownIn a nodes

-- all terms that a tree names are in the arena
pub record IsIn (a : Arena) (s : Growth) : Type 0 where
  pub nodes : AllGrownIn a s.nodes
  pub cases : CasesIn a s.cases
  pub pending : PendingIn a s.pending
