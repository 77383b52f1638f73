-- What stays as a path goes on.
use Rattle.std.proofs.Common.{◌≡◌, ℕ, List, [], ◌∷◌, map, sym, ap, ◌∙◌, subst, Option}
use Rattle.spv_logic.specs.declared.conditions.TermId.{TermId}
use Rattle.spv_logic.specs.Terms.{Term}
use Rattle.spv_term.specs.declared.nodes.Condition.{Condition}
use Rattle.spv_term.specs.declared.nodes.Node.{Node}
use Rattle.spv_term.specs.Arena.{Arena, tree}
use Rattle.spv_derivations.specs.declared.derivation.entries.Entry.{Entry}
use Rattle.spv_derivations.specs.derivation.Literals.{Literal}
use Rattle.spv_verdicts.specs.Verdicts.{Limits}
use Rattle.spv_share.specs.declared.both.Both.{Both}
use Rattle.spv_share.specs.declared.relations.Related.{Related}
use Rattle.spv_share.specs.Both.{IsBoth, IsLevel, Stays, told}
use Rattle.spv_share.specs.Relations.{AreListed, AreNodes, AreParts, AreRelationsAmong}
use Rattle.spv_search.specs.declared.branches.cases.Case.{Case}
use Rattle.spv_assignments.specs.declared.partial_assignment.facts.Known.{Known}
use Rattle.spv_assignments.specs.declared.partial_assignment.lists.Listed.{Listed}
use Rattle.spv_assignments.specs.partial_assignment.Facts.{facts_of}
use Rattle.spv_assignments.specs.partial_assignment.Following as following
use Rattle.spv_assignments.specs.partial_assignment.Following.{IsStill}
use Rattle.spv_trail.specs.trail_states.Told.{IsSettled}
use Rattle.spv_trail.specs.declared.backtracking.path.Ground.{Ground}
use Rattle.spv_trail.specs.declared.backtracking.path.BranchTrail.{BranchTrail}
use Rattle.spv_trail.specs.declared.backtracking.marks.TrailMark.{TrailMark}
use Rattle.spv_trail.specs.backtracking.Paths.{GoesOn, IsBranchTrail}
use Rattle.spv_trail.proofs.backtracking.Marking.{marks_stay}
use Rattle.spv_search.specs.Searching.{IsSetUp, AreMarks}
use Rattle.spv_search.specs.Finding.{HasStated}
use Rattle.spv_search.proofs.Lists.{append_none}

-- ---- what both sides were opened for

pub set_stays : (a : Arena) (c : Condition) (ids : List TermId) (g : Ground) (limits : Limits) (old new : Both) → Stays old new → IsSetUp a c ids g limits old → IsSetUp a c ids g limits new
set_stays a c ids g limits old new s h = record {
  opened = record {
    atoms_are = h.opened.atoms_are;
    within = h.opened.within;
    nodes = subst (λ (ns : List (Option Node)). AreNodes ns ids) (sym s.nodes) h.opened.nodes;
    parts =
        subst (λ (ns : List (Option Node)). AreParts a ns (new.trail.truth ∷ new.trail.falsity ∷ ids)) (sym s.nodes)
        (subst (λ (t : TermId). AreParts a old.trail.graph.nodes (t ∷ new.trail.falsity ∷ ids)) (sym s.truth)
        (subst (λ (t : TermId). AreParts a old.trail.graph.nodes (old.trail.truth ∷ t ∷ ids)) (sym s.falsity) h.opened.parts));
    listed = subst (λ (rs : List Related). AreListed a ids rs) (sym s.relations) h.opened.listed;
    of_atoms = subst (λ (rs : List Related). AreRelationsAmong a (map (tree a) ids) rs) (sym s.relations) h.opened.of_atoms;
  };
  asked = record {
    ground = h.asked.ground;
    nodes = subst (λ (ns : List (Option Node)). AreNodes ns g.questions.items) (sym s.nodes) h.asked.nodes;
  };
  pivots = s.pivots ∙ h.pivots;
}

-- ---- both sides exchanged what they were told

pub goes_stated : (a : Arena) (old new : BranchTrail) → HasStated a old new → GoesOn a old new
goes_stated a old new h = record {
  derivation = record { more = []; is = h.course_is ∙ sym (append_none old.derivation) };
  known = record { more = []; is = h.known_is ∙ sym (append_none old.known.items) };
  both = record {
    longer = record { more = []; is = h.told_is ∙ sym (append_none (told old.both)) };
    levels = h.levels;
    stays = h.stays;
  };
}

pub told_stated : (a : Arena) (c : Condition) (cases : List Term) (old new : BranchTrail) → HasStated a old new → IsBranchTrail a c cases old → IsBranchTrail a c cases new
told_stated a c cases old new h t = record {
  settled =
      subst (λ (es : List Entry). IsSettled a c es new.known.items (told new.both) cases) (sym h.course_is)
      (subst (λ (ks : List Known). IsSettled a c old.derivation ks (told new.both) cases) (sym h.known_is)
      (subst (λ (ls : List Literal). IsSettled a c old.derivation old.known.items ls cases) (sym h.told_is) t.settled));
  both = h.both;
  lists =
      subst (λ (ks : List Known). following.AreListed a (facts_of a ks) new.lists.direct.items new.lists.cores.items new.lists.all.items) (sym h.known_is)
      (subst (λ (l : Listed). following.AreListed a (facts_of a old.known.items) l.direct.items l.cores.items l.all.items) (sym h.lists_are) t.lists);
}

pub still_stated : (a : Arena) (g : Ground) (old new : BranchTrail) → HasStated a old new → IsStill a (facts_of a old.known.items) g.questions.items → IsStill a (facts_of a new.known.items) g.questions.items
still_stated a g old new h s = subst (λ (ks : List Known). IsStill a (facts_of a ks) g.questions.items) (sym h.known_is) s

-- ---- a path that is as it was

pub goes_same : (a : Arena) (old new : BranchTrail) → new.derivation ≡ old.derivation → new.known.items ≡ old.known.items → new.both ≡ old.both → GoesOn a old new
goes_same a old new e f h = record {
  derivation = record { more = []; is = e ∙ sym (append_none old.derivation) };
  known = record { more = []; is = f ∙ sym (append_none old.known.items) };
  both = record {
    longer = record { more = []; is = ap told h ∙ sym (append_none (told old.both)) };
    levels = λ l level. subst (λ (b : Both). IsLevel a b l) (sym h) level;
    stays = record {
      nodes = ap (λ (b : Both). b.trail.graph.nodes) h;
      terms = ap (λ (b : Both). b.trail.graph.added) h;
      truth = ap (λ (b : Both). b.trail.truth) h;
      falsity = ap (λ (b : Both). b.trail.falsity) h;
      relations = ap (λ (b : Both). b.relations.items) h;
      forms = ap (λ (b : Both). b.standing.tableau.forms) h;
      pivots = ap (λ (b : Both). b.standing.tableau.pivots) h;
    };
  };
}

-- ---- marks

pub marks_on : (a : Arena) (c : Condition) (old new : BranchTrail) (ms : List TrailMark) (cs : List Case) (count : ℕ) → GoesOn a old new → IsBoth a old.both → AreMarks a c old ms cs count → AreMarks a c new ms cs count
marks_on a c old new ms cs count goes both h = record {
  many = h.many;
  each = λ i m below at. marks_stay a c old new goes both _ m (h.each i m below at);
  rising = h.rising;
}
