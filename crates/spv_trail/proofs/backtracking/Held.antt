-- What is true of a path while it is told, and when all of it is.
use Rattle.std.proofs.Common.{◌≡◌, ℕ, ◌<◌, Bool, true, List, [], ◌++◌, length, sym, ap, ◌∙◌, subst, Option, Some}
use Rattle.std.specs.Prelude.{slice_get}
use Rattle.std.proofs.lemmas.List.{append-nil}
use Rattle.spv_logic.specs.declared.conditions.TermId.{TermId}
use Rattle.spv_logic.specs.Terms.{Term}
use Rattle.spv_term.specs.declared.nodes.Condition.{Condition}
use Rattle.spv_term.specs.Arena.{Arena, tree}
use Rattle.spv_term.proofs.TreeLemmas.{AllBelow-at}
use Rattle.spv_atoms.proofs.Members.{has}
use Rattle.spv_congruence.specs.Keep.{IsNode}
use Rattle.spv_proof_rules.specs.Stand.{question}
use Rattle.spv_derivations.specs.declared.derivation.entries.Entry.{Entry}
use Rattle.spv_derivations.specs.derivation.Literals.{Literal}
use Rattle.spv_models.specs.split_trees.Paths.{questions}
use Rattle.spv_share.specs.declared.both.Both.{Both}
use Rattle.spv_share.specs.Both.{IsBoth, Stays, told}
use Rattle.spv_derivations.specs.branches.Paths.{IsPath}
use Rattle.spv_assignments.specs.declared.partial_assignment.facts.Known.{Known}
use Rattle.spv_assignments.specs.declared.partial_assignment.lists.Listed.{Listed}
use Rattle.spv_assignments.specs.partial_assignment.Facts.{facts_of}
use Rattle.spv_assignments.specs.partial_assignment.Following.{AreListed}
use Rattle.spv_assignments.specs.assignment_vector.Sayings as sayings
use Rattle.spv_branch_theory.proofs.search_invariant.Relations.{question_formula}
use Rattle.spv_trail.specs.trail_states.Told.{AreAnswered, IsStored, IsSettled, IsToldWith, values_of}
use Rattle.spv_trail.proofs.trail_states.RowConstraint.{from_found, found_from}
use Rattle.spv_trail.proofs.trail_states.Growing.{formula_truth, with_longer}
use Rattle.spv_trail.specs.propagation.Telling.{AreSound, AreTellable, AreToldAs, Goes, IsTelling, ListsValuesOf, TellsValues}
use Rattle.spv_trail.proofs.propagation.Citing.{stored_cores}
use Rattle.spv_trail.specs.declared.backtracking.path.Ground.{Ground}
use Rattle.spv_trail.specs.declared.backtracking.path.BranchTrail.{BranchTrail}
use Rattle.spv_trail.specs.backtracking.Paths.{GoesOn, HasPath, IsAskedOf, IsBegun, IsGround, IsHeld, IsBranchTrail}

-- ---- known facts

pub there_of : (a : Arena) (c : Condition) (es : List Entry) (ks : List Known) (ls : List Literal) → IsStored a c es ks ls → sayings.AreThere a ks
there_of a c es ks ls s = record { each = λ i k at_it. (s.founded i k at_it).within }

pub sound_of : (a : Arena) (c : Condition) (g : Ground) (es : List Entry) (ks : List Known) (ls : List Literal) → IsGround a c g → IsStored a c es ks ls → AreSound a c ks
sound_of a c g es ks ls ground s = record { formulas = ground.formulas; cores = stored_cores a c es ks ls s; knowledge = s.knowledge; uncrossed = s.uncrossed }

pub listed_of : (a : Arena) (ks : List Known) (direct cores all : List (Option Bool)) → AreListed a (facts_of a ks) direct cores all → ListsValuesOf a ks all
listed_of a ks direct cores all h = record { each = h.all_ones }

-- ---- questions

module _ (a : Arena) (c : Condition) (g : Ground) where
  pub question_asked : IsGround a c g → (i : ℕ) (t : TermId) → slice_get g.questions.items i ≡ Some t → has (questions (question a c)) (tree a t) ≡ true
  question_asked ground i t at_it = ap (λ (ts : List Term). has ts (tree a t)) (sym ground.questions_are) ∙ found_from (tree a) g.questions.items i t at_it

  pub question_within : IsGround a c g → (i : ℕ) (t : TermId) → slice_get g.questions.items i ≡ Some t → t.0 < length a.nodes
  question_within ground i t at_it = AllBelow-at (length a.nodes) g.questions.items i t ground.within at_it

  pub tellable_of : (b : Both) → IsAskedOf a c g b → AreTellable a c b g.questions.items
  tellable_of b h = record {
    each = λ i t at_it.
        let asked = question_asked h.ground i t at_it in
        record {
          formula = record { within = question_within h.ground i t at_it; truth = formula_truth (question a c) h.ground.formulas (tree a t) (question_formula (question a c) h.ground.formulas (tree a t) asked) };
          asked = asked;
          node = h.nodes.each i t at_it;
        };
  }

  pub asked_then : (x y : Both) → Stays x y → IsAskedOf a c g x → IsAskedOf a c g y
  asked_then x y stays h = record { ground = h.ground; nodes = record { each = λ i t at_it. subst (λ ns. IsNode ns t) (sym stays.nodes) (h.nodes.each i t at_it) } }

  -- each question that has a value was told with it
  pub told_answers : IsGround a c g → (ks : List Known) (values : List (Option Bool)) (ls : List Literal) → ListsValuesOf a ks values → AreToldAs a g.questions.items values ls → AreAnswered a (questions (question a c)) (values_of a ks) ls
  told_answers ground ks values ls lists told_ones = record {
    each = λ t b m value.
        let f = from_found (tree a) g.questions.items t (ap (λ (ts : List Term). has ts t) ground.questions_are ∙ m) in
        let within = question_within ground f.place f.item f.there in
        subst (λ (u : Term). IsToldWith a ls u b) f.is (told_ones.each f.place f.item b f.there (lists.each f.item within ∙ (ap (values_of a ks) f.is ∙ value)));
  }

  pub answers_told : IsGround a c g → (ks : List Known) (values : List (Option Bool)) (ls : List Literal) → ListsValuesOf a ks values → AreAnswered a (questions (question a c)) (values_of a ks) ls → AreToldAs a g.questions.items values ls
  answers_told ground ks values ls lists answered = record {
    each = λ i t b at_it value. answered.each (tree a t) b (question_asked ground i t at_it) (sym (lists.each t (question_within ground i t at_it)) ∙ value);
  }

  pub told_as_longer : (values : List (Option Bool)) (ls more : List Literal) → AreToldAs a g.questions.items values ls → AreToldAs a g.questions.items values (ls ++ more)
  told_as_longer values ls more h = record { each = λ i t b at_it value. with_longer a ls more (tree a t) b (h.each i t b at_it value) }

  -- ---- paths

  -- a path that is told was told as its lists say
  pub told_by_lists : (cases : List Term) (p : BranchTrail) → IsGround a c g → IsBranchTrail a c cases p → AreToldAs a g.questions.items p.lists.all.items (told p.both)
  told_by_lists cases p ground h =
      answers_told ground p.known.items p.lists.all.items (told p.both) (listed_of a p.known.items p.lists.direct.items p.lists.cores.items p.lists.all.items h.lists) h.settled.answered

  pub held_of : (cases : List Term) (p : BranchTrail) → IsAskedOf a c g p.both → IsBranchTrail a c cases p → IsHeld a c g p
  held_of cases p asked h = record { asked = asked; stored = h.settled.stored; both = h.both; told_ones = told_by_lists cases p asked.ground h }

-- where all questions were told with their values, all of a path is told
pub settled_now : (a : Arena) (c : Condition) (g : Ground) (cases : List Term) (es es2 : List Entry) (ks : List Known) (old new : Both) (before now : List (Option Bool)) → IsGround a c g → ListsValuesOf a ks now → AreToldAs a g.questions.items before (told old)
    → TellsValues a c cases es es2 ks old new g.questions.items before now → IsBegun a c cases ks → IsSettled a c es2 ks (told new) cases
settled_now a c g cases es es2 ks old new before now ground lists was h begun = record {
  path = h.telling.path;
  stored = h.telling.stored;
  begun = begun.begun;
  answered = told_answers a c g ground ks now (told new) lists (h.answered was);
  cases_known = begun.cases_known;
}

-- ---- all questions are told

module _ (a : Arena) (c : Condition) (g : Ground) (old : BranchTrail) (held : IsHeld a c g old) (es2 : List Entry) (b : Both) (lists : Listed) (first second : List Known) (asked : List TermId) (before now : List (Option Bool))
    (first_is : first ≡ old.known.items) (second_is : second ≡ old.known.items) (asked_is : asked ≡ g.questions.items) (before_is : before ≡ old.lists.all.items) (now_is : now ≡ lists.all.items)
    (listed_now : AreListed a (facts_of a first) lists.direct.items lists.cores.items lists.all.items)
    (tells : (cases : List Term) → IsTelling a c cases old.derivation second old.both → TellsValues a c cases old.derivation es2 second old.both b asked before now) where
  abbrev new_path : BranchTrail
  new_path = record { derivation = es2; known = old.known; both = b; lists = lists }

  listed_known : AreListed a (facts_of a old.known.items) lists.direct.items lists.cores.items lists.all.items
  listed_known = subst (λ (ks : List Known). AreListed a (facts_of a ks) lists.direct.items lists.cores.items lists.all.items) first_is listed_now

  tells_now : (cases : List Term) → IsPath (question a c) cases old.derivation → TellsValues a c cases old.derivation es2 old.known.items old.both b g.questions.items old.lists.all.items lists.all.items
  tells_now cases path =
      subst (λ (ks : List Known). TellsValues a c cases old.derivation es2 ks old.both b g.questions.items old.lists.all.items lists.all.items) second_is
      (subst (λ (ts : List TermId). TellsValues a c cases old.derivation es2 second old.both b ts old.lists.all.items lists.all.items) asked_is
      (subst (λ (vs : List (Option Bool)). TellsValues a c cases old.derivation es2 second old.both b asked vs lists.all.items) before_is
      (subst (λ (vs : List (Option Bool)). TellsValues a c cases old.derivation es2 second old.both b asked before vs) now_is
      (tells cases (record { path = path; stored = subst (λ (ks : List Known). IsStored a c old.derivation ks (told old.both)) (sym second_is) held.stored })))))

  pub settled_path : IsBoth a b → (cases : List Term) → IsPath (question a c) cases old.derivation → IsBegun a c cases old.known.items → IsBranchTrail a c cases new_path
  settled_path both cases path begun = record {
    settled = settled_now a c g cases old.derivation es2 old.known.items old.both b old.lists.all.items lists.all.items held.asked.ground (listed_of a old.known.items lists.direct.items lists.cores.items lists.all.items listed_known) held.told_ones (tells_now cases path) begun;
    both = both;
    lists = listed_known;
  }

  pub settled_goes : HasPath a c old.derivation → Goes a old.both b → GoesOn a old new_path
  settled_goes h goes = record { derivation = (tells_now h.cases h.path).grown; known = record { more = []; is = sym (append-nil old.known.items) }; both = goes }

-- beside each id the value is listed
pub values_listed : (a : Arena) (known first second : List Known) (lists : Listed) (now : List (Option Bool)) → first ≡ known → second ≡ known → now ≡ lists.all.items → AreListed a (facts_of a first) lists.direct.items lists.cores.items lists.all.items → ListsValuesOf a second now
values_listed a known first second lists now first_is second_is now_is h =
    subst (λ (ks : List Known). ListsValuesOf a ks now) (first_is ∙ sym second_is)
    (subst (λ (vs : List (Option Bool)). ListsValuesOf a first vs) (sym now_is) (listed_of a first lists.direct.items lists.cores.items lists.all.items h))
