-- Paths of a search that are told, and how they go on.
use Rattle.std.specs.Prelude.{◌≡◌, ◌≤◌, ◌<◌, ◌+◌, ℕ, Bool, true, List, [], ◌∷◌, map, take, length, Option, Some, None}
use Rattle.spv_logic.specs.declared.conditions.TermId.{TermId}
use Rattle.spv_logic.specs.Terms.{Term}
use Rattle.spv_term.specs.declared.nodes.Condition.{Condition}
use Rattle.spv_term.specs.Arena.{Arena, AllBelow, tree}
use Rattle.spv_congruence.specs.Keep.{IsNode}
use Rattle.spv_proof_rules.specs.Stand.{question}
use Rattle.spv_models.specs.leaf_models.Subterms.{is_among}
use Rattle.spv_models.specs.leaf_models.Laws.{AreFormulas}
use Rattle.spv_models.specs.leaf_models.Tables.{formulas_of}
use Rattle.spv_models.specs.split_trees.Paths.{atoms, facts, questions}
use Rattle.spv_share.specs.declared.both.Both.{Both}
use Rattle.spv_share.specs.Both.{IsBoth, IsLevel, IsNoLater, told}
use Rattle.spv_share.specs.Relations.{AreNodes}
use Rattle.spv_assignments.specs.kleene.Passes.{AreConnectives, ArePlain}
use Rattle.spv_derivations.specs.declared.derivation.entries.Entry.{Entry}
use Rattle.spv_derivations.specs.branches.Paths.{IsGrown, IsPath}
use Rattle.spv_assignments.specs.declared.partial_assignment.facts.Known.{Known}
use Rattle.spv_assignments.specs.partial_assignment.Facts.{facts_of}
use Rattle.spv_assignments.specs.partial_assignment.Following.{AreListed, IsStill}
use Rattle.spv_trail.specs.trail_states.Told.{IsStored, IsSettled, values_of}
use Rattle.spv_trail.specs.declared.propagation.ending.End.{End}
use Rattle.spv_trail.specs.propagation.Learning.{EndsBy, IsLonger}
use Rattle.spv_trail.specs.propagation.Telling.{AreToldAs, Goes}
use Rattle.spv_trail.specs.declared.backtracking.path.Ground.{Ground}
use Rattle.spv_trail.specs.declared.backtracking.path.BranchTrail.{BranchTrail}
use Rattle.spv_trail.specs.declared.backtracking.growing.Growth.{Growth}
use Rattle.spv_trail.specs.declared.backtracking.growing.Growth.TheVariants as growth
use Rattle.spv_trail.specs.declared.backtracking.marks.TrailMark.{TrailMark}

-- ---- what a search asks

-- these are the questions of a condition whose formulas are of sort Bool, and the connectives of its arena
pub record IsGround (a : Arena) (c : Condition) (g : Ground) : Type 0 where
  pub formulas : AreFormulas a.shapes a.decls (formulas_of (question a c).sequent)
  pub questions_are : map (tree a) g.questions.items ≡ questions (question a c)
  pub within : AllBelow (length a.nodes) g.questions.items
  pub ids : AreConnectives a g.connectives.ids.items
  pub plain : ArePlain a g.connectives.plain.items

-- and both sides have them
pub record IsAskedOf (a : Arena) (c : Condition) (g : Ground) (b : Both) : Type 0 where
  pub ground : IsGround a c g
  pub nodes : AreNodes b.trail.graph.nodes g.questions.items

-- an atom that both sides have
pub record IsSplitAtom (a : Arena) (c : Condition) (b : Both) (t : TermId) : Type 0 where
  pub within : t.0 < length a.nodes
  pub among : is_among (atoms (question a c)) (tree a t) ≡ true
  pub node : IsNode b.trail.graph.nodes t

-- ---- paths

-- the hypotheses, that the goal is false, and the cases have the value true
pub record IsBegun (a : Arena) (c : Condition) (cases : List Term) (ks : List Known) : Type 0 where
  pub begun : (t : Term) → is_among (facts (question a c) []) t ≡ true → values_of a ks t ≡ Some true
  pub cases_known : (t : Term) → is_among cases t ≡ true → is_among (facts_of a ks) t ≡ true

-- entries are the facts of a path with some cases
pub record HasPath (a : Arena) (c : Condition) (es : List Entry) : Type 0 where
  pub cases : List Term
  pub path : IsPath (question a c) cases es

-- known facts and literals by their numbers, while a path is told
pub record IsHeld (a : Arena) (c : Condition) (g : Ground) (p : BranchTrail) : Type 0 where
  pub asked : IsAskedOf a c g p.both
  pub stored : IsStored a c p.derivation p.known.items (told p.both)
  pub both : IsBoth a p.both
  pub told_ones : AreToldAs a g.questions.items p.lists.all.items (told p.both)

-- a path without facts
pub record IsEmptyPath (a : Arena) (b : Both) (p : BranchTrail) : Type 0 where
  pub course_is : p.derivation ≡ []
  pub known_is : p.known.items ≡ []
  pub both_is : p.both ≡ b
  pub lists : AreListed a [] p.lists.direct.items p.lists.cores.items p.lists.all.items

-- all of a path with these cases is told
pub record IsBranchTrail (a : Arena) (c : Condition) (cases : List Term) (p : BranchTrail) : Type 0 where
  pub settled : IsSettled a c p.derivation p.known.items (told p.both) cases
  pub both : IsBoth a p.both
  pub lists : AreListed a (facts_of a p.known.items) p.lists.direct.items p.lists.cores.items p.lists.all.items

-- with some cases
pub record WasTold (a : Arena) (c : Condition) (p : BranchTrail) : Type 0 where
  pub cases : List Term
  pub path_told : IsBranchTrail a c cases p

-- one fewer than a number
pub record WasToldWith (a : Arena) (c : Condition) (why : ℕ) (p : BranchTrail) : Type 0 where
  pub cases : List Term
  pub path_told : IsBranchTrail a c cases p
  pub count : why ≡ length cases + 1

-- facts end a path with these cases
pub record IsEnded (a : Arena) (c : Condition) (cases : List Term) (p : BranchTrail) (e : End) : Type 0 where
  pub ends : EndsBy a c cases p.derivation e
  pub both : IsBoth a p.both

-- a path with these cases is told, or it ends
abbrev pub IsToldOrEnded : Arena → Condition → List Term → BranchTrail → Option End → Type 0
IsToldOrEnded a c cases p None = IsBranchTrail a c cases p
IsToldOrEnded a c cases p (Some e) = IsEnded a c cases p e

-- and where it is told, evaluations add nothing for these questions
abbrev pub IsGrownOrEnded : Arena → Condition → List TermId → List Term → BranchTrail → Option End → Type 0
IsGrownOrEnded a c asked cases p None = IsBranchTrail a c cases p × IsStill a (facts_of a p.known.items) asked
IsGrownOrEnded a c asked cases p (Some e) = IsEnded a c cases p e

-- ---- going on

abbrev pub one_if_none : Option Bool → ℕ
one_if_none None = 1
one_if_none (Some b) = 0

-- how many of these questions have no value
abbrev pub unvalued : Arena → List Known → List TermId → ℕ
unvalued a ks [] = 0
unvalued a ks (t ∷ ts) = one_if_none (values_of a ks (tree a t)) + unvalued a ks ts

-- what came of looking at what follows
abbrev pub IsStep : Arena → Condition → List TermId → List Term → BranchTrail → BranchTrail → Growth → Type 0
IsStep a c asked cases old new growth.Done = (new ≡ old) × IsStill a (facts_of a new.known.items) asked
IsStep a c asked cases old new growth.More = IsBranchTrail a c cases new × (unvalued a new.known.items asked < unvalued a old.known.items asked)
IsStep a c asked cases old new (growth.Ended e) = IsEnded a c cases new e

-- facts, known facts and literals come behind the others, and marks stay
pub record GoesOn (a : Arena) (old new : BranchTrail) : Type 0 where
  pub derivation : IsGrown old.derivation new.derivation
  pub known : IsLonger old.known.items new.known.items
  pub both : Goes a old.both new.both

-- ---- going back

-- so far a path was told, with these cases
pub record IsMark (a : Arena) (c : Condition) (cases : List Term) (p : BranchTrail) (m : TrailMark) : Type 0 where
  pub entries_in : m.entries ≤ length p.derivation
  pub known_in : m.known ≤ length p.known.items
  pub level : IsLevel a p.both m.level
  pub settled : IsSettled a c (take m.entries p.derivation) (take m.known p.known.items) (take m.level.claims (told p.both)) cases

-- so far it was told, with some cases
pub record HasMark (a : Arena) (c : Condition) (p : BranchTrail) (m : TrailMark) : Type 0 where
  pub cases : List Term
  pub mark : IsMark a c cases p m

-- a mark that is no later than another one
pub record IsEarlier (m n : TrailMark) : Type 0 where
  pub entries : m.entries ≤ n.entries
  pub known : m.known ≤ n.known
  pub level : IsNoLater m.level n.level
