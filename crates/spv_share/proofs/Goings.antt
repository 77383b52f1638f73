-- Both sides go on.
use Rattle.std.proofs.Common.{◌≡◌, ℕ, ◌≤◌, ◌∷◌, true, not, ◌&&◌, Result, Ok, Err, OnErr, OnOk, Some, List, [], ◌++◌, take, length, refl, sym, ap, ◌∙◌, subst}
use Rattle.std.proofs.lemmas.List.{append-nil}
use Rattle.std.specs.Prelude.{slice_get}
use Rattle.spv_term.specs.Arena.{Arena, IsArena}
use Rattle.spv_congruence.specs.Graph.{are_same, Graph}
use Rattle.spv_congruence.specs.Told.{IsExact}
use Rattle.spv_simplex.specs.Checks.{HoldsAsserted}
use Rattle.spv_explanations.specs.congruence_side.Telling.{ties, value_tie}
use Rattle.spv_tableau_rules.specs.tableaux.Bounds.{Bound}
use Rattle.spv_derivations.specs.derivation.Literals.{literals}
use Rattle.spv_explanations.specs.declared.congruence_side.trail.Trail.{Trail}
use Rattle.spv_explanations.specs.congruence_side.Holding.{Grows, Holds}
use Rattle.spv_explanations.proofs.congruence_side.Trails.{grows_then, grows_same}
use Rattle.spv_arithmetic_side.specs.declared.constraint_rows.standing.Standing.{Standing}
use Rattle.spv_arithmetic_side.specs.constraint_rows.Standing.{AddsSome, IsBack, IsStanding, readings, Sourced}
use Rattle.spv_arithmetic_side.proofs.constraint_rows.Adding.{adds_none, adds_then}
use Rattle.spv_arithmetic_side.proofs.constraint_rows.Trying.{back_adds, back_sourced}
use Rattle.spv_share.specs.declared.both.Both.{Both}
use Rattle.spv_share.specs.declared.relations.Related.{Related}
use Rattle.spv_share.specs.Relations.{AreSaid, sayable}
use Rattle.spv_share.proofs.Noted.{noted_as, noted_more}
use Rattle.spv_share.proofs.RowConstraint.{said_as}
use Rattle.spv_share.specs.Both.{AreReasoned, IsBoth, IsSound, KeepsLevels, Stays, told}
use Rattle.spv_share.specs.States.{GoesOn, is_equality, is_open, IsStill}
use Rattle.spv_share.proofs.Closing.{open_head, same_on, was_open}
use Rattle.spv_share.proofs.Reasons.{reasons_as, reasons_joined}
use Rattle.spv_share.proofs.Ties.{tied_grows}
use Rattle.spv_share.proofs.Sound.{level_stays, sound_standing, sound_trail}

-- ---- bounds

pub adds_nothing : (b : Standing) → AddsSome b b
adds_nothing b = record { more = []; adds = adds_none b }

pub adds_both : (old mid new : Standing) → AddsSome old mid → AddsSome mid new → AddsSome old new
adds_both old mid new g h = record { more = g.more ++ h.more; adds = adds_then old mid new g.more h.more g.adds h.adds }

pub adds_back : (old new : Standing) → IsBack old new → AddsSome old new
adds_back old new h = record { more = []; adds = back_adds old new h }

pub back_itself : (b : Standing) → IsBack b b
back_itself b = record { forms = refl; pivots = refl; bounds = refl; first = λ a read n within h. h }

pub back_then : (old mid new : Standing) → IsBack old mid → IsBack mid new → IsBack old new
back_then old mid new g h = record {
  forms = h.forms ∙ g.forms;
  pivots = h.pivots ∙ g.pivots;
  bounds = h.bounds ∙ g.bounds;
  first = λ a read n within k.
      let P : List Bound → Type 0 = λ bs. Sourced a read mid (take n bs) in
      let Q : List Bound → Type 0 = λ bs. Sourced a read new (take n bs) in
      subst Q g.bounds (h.first a read n (subst (λ (bs : List Bound). n ≤ length bs) (sym g.bounds) within) (subst P (sym g.bounds) (g.first a read n within k)));
}

-- ---- both sides

pub goes_same : (a : Arena) (old : Both) → IsSound a old → GoesOn a old old
goes_same a old h = record {
  sound = h;
  trail = grows_same old.trail old.trail refl refl refl refl;
  standing = adds_nothing old.standing;
  told_same = refl;
  relations = refl;
  claims = refl;
  reasons = λ k. k;
  closes = λ row r at e. e;
}

pub goes_then : (a : Arena) (old mid new : Both) → GoesOn a old mid → GoesOn a mid new → GoesOn a old new
goes_then a old mid new g h = record {
  sound = h.sound;
  trail = grows_then old.trail mid.trail new.trail g.trail h.trail;
  standing = adds_both old.standing mid.standing new.standing g.standing h.standing;
  told_same = h.told_same ∙ g.told_same;
  relations = h.relations ∙ g.relations;
  claims = h.claims ∙ g.claims;
  reasons = λ k. h.reasons (g.reasons k);
  closes = λ row r at e. g.closes row r at (h.closes row r (ap (λ rs. slice_get rs row) g.relations ∙ at) e);
}

-- an equality is open where the graph is the same
pub open_as : (old new : Both) (r : Related) → new.trail.graph ≡ old.trail.graph → is_open new r ≡ true → is_open old r ≡ true
open_as old new r graph e = ap (λ (g : Graph). is_equality r.head && not (are_same g r.left r.right)) (sym graph) ∙ e

pub goes_trail : (a : Arena) (old : Both) (tr : Trail) → IsSound a old → Holds a tr → Grows old.trail tr → literals tr.derivation ≡ literals old.trail.derivation → tr.graph ≡ old.trail.graph → GoesOn a old (record old { trail = tr })
goes_trail a old tr h holds grows same graph = record {
  sound = sound_trail a old tr h holds grows;
  trail = grows;
  standing = adds_nothing old.standing;
  told_same = same;
  relations = refl;
  claims = refl;
  reasons = λ k. reasons_as a old.relations.items (told old) (literals tr.derivation) old.trail.graph.told tr.graph.told same (ap (λ (g : Graph). g.told) graph) k;
  closes = λ row r at e. open_as old (record old { trail = tr }) r graph e;
}

-- the graph was told an equality of the relations
pub goes_joined : {T E : Type 0} (a : Arena) → IsArena a → (old : Both) (tr : Trail) (row : ℕ) (r : Related) (result : Result T E) → IsSound a old → slice_get old.relations.items row ≡ Some r → is_open old r ≡ true → Holds a tr → Grows old.trail tr
    → literals tr.derivation ≡ literals old.trail.derivation → OnOk result (ties tr.graph.told ≡ ties old.trail.graph.told ++ value_tie r.left r.right ∷ []) → OnErr result (tr.graph ≡ old.trail.graph) → IsExact old.trail.graph → IsExact tr.graph
    → GoesOn a old (record old { trail = tr })
goes_joined a ok old tr row r (Err x) h at unjoined holds grows same joined graph exact exact_now = goes_trail a old tr h holds grows same graph
goes_joined a ok old tr row r (Ok x) h at unjoined holds grows same joined graph exact exact_now = record {
  sound = sound_trail a old tr h holds grows;
  trail = grows;
  standing = adds_nothing old.standing;
  told_same = same;
  relations = refl;
  claims = refl;
  reasons = λ k.
      subst (λ ts. AreReasoned a old.relations.items (literals tr.derivation) ts) (sym joined)
      (subst (λ ls. AreReasoned a old.relations.items ls (ties old.trail.graph.told ++ value_tie r.left r.right ∷ [])) (sym same)
      (reasons_joined a old.relations.items (told old) (ties old.trail.graph.told) row r at (open_head old.trail.graph r unjoined) k));
  closes = λ i q there e.
      let rel = h.related.are.each i q there in
      was_open old.trail.graph tr.graph q
      (λ s. same_on a old.trail.graph tr.graph (record { terms = grows.same_terms; more = grows.facts; told = grows.told }) ok h.trail.of holds.of exact exact_now q.left q.right rel.left rel.right
      (grows.nodes q.left rel.left) (grows.nodes q.right rel.right) s) e;
}

pub goes_standing : (a : Arena) (old : Both) (st : Standing) → IsSound a old → IsStanding st → AddsSome old.standing st → Sourced a (readings a old.trail.derivation) st st.tableau.bounds
    → HoldsAsserted (sayable old.relations.items old.standing.tableau.forms) st.tableau → AreSaid old.relations.items st.tableau.forms st.tableau.bounds → GoesOn a old (record old { standing = st })
goes_standing a old st h stands adds sourced asserted said = record {
  sound = sound_standing a old st h stands adds.adds.forms sourced asserted said;
  trail = grows_same old.trail old.trail refl refl refl refl;
  standing = adds;
  told_same = refl;
  relations = refl;
  claims = refl;
  reasons = λ k. k;
  closes = λ row r at e. e;
}

-- more bounds behind a trail that goes on
pub goes_given : (a : Arena) (old : Both) (tr : Trail) (new : Both) → GoesOn a old (record old { trail = tr }) → IsSound a new → AddsSome old.standing new.standing → new.trail ≡ tr → new.relations ≡ old.relations → new.claims ≡ old.claims
    → GoesOn a old new
goes_given a old tr new g sound adds trail relations claims = record {
  sound = sound;
  trail = subst (λ (x : Trail). Grows old.trail x) (sym trail) g.trail;
  standing = adds;
  told_same = ap (λ (x : Trail). literals x.derivation) trail ∙ g.told_same;
  relations = ap (λ v. v.items) relations;
  claims = ap (λ v. v.items) claims;
  reasons = λ k.
      subst (λ v. AreReasoned a v.items (told new) (ties new.trail.graph.told)) (sym relations)
      (subst (λ (x : Trail). AreReasoned a old.relations.items (literals x.derivation) (ties x.graph.told)) (sym trail) (g.reasons k));
  closes = λ row r at e. g.closes row r at (ap (λ (x : Trail). is_equality r.head && not (are_same x.graph r.left r.right)) (sym trail) ∙ e);
}

-- something was said of a row
pub goes_said : (a : Arena) (old new : Both) → IsSound a old → IsSound a new → AddsSome old.standing new.standing → new.trail ≡ old.trail → new.relations ≡ old.relations → new.claims ≡ old.claims → GoesOn a old new
goes_said a old new h sound adds trail relations claims = goes_given a old old.trail new (goes_same a old h) sound adds trail relations claims

pub goes_as : (a : Arena) (old mid new : Both) → mid ≡ old → GoesOn a mid new → GoesOn a old new
goes_as a old mid new e g = subst (λ (b : Both). GoesOn a b new) e g

-- as many bounds, and the same
pub goes_back : (a : Arena) (old : Both) (st : Standing) → IsSound a old → IsStanding st → IsBack old.standing st → HoldsAsserted (sayable old.relations.items old.standing.tableau.forms) st.tableau → GoesOn a old (record old { standing = st })
goes_back a old st h stands back asserted =
    goes_standing a old st h stands (adds_back old.standing st back) (back_sourced a (readings a old.trail.derivation) old.standing st back h.sourced) asserted
    (said_as old.relations.items old.relations.items old.standing.tableau.forms st.tableau.forms old.standing.tableau.bounds st.tableau.bounds refl back.forms back.bounds h.said)

pub goes_both : (a : Arena) (old new : Both) → IsBoth a old → GoesOn a old new → IsBoth a new
goes_both a old new h g = record {
  sound = g.sound;
  claims =
      noted_as a old.relations.items new.relations.items new.trail.derivation new.trail.derivation old.claims.items new.claims.items g.relations refl g.claims
      (noted_more a old.relations.items old.trail.derivation g.trail.entries new.trail.derivation old.claims.items g.trail.derivation g.told_same h.claims);
  tied =
      tied_grows a old.trail.truth old.trail.falsity new.trail.truth new.trail.falsity (told old) (told new) old.trail.graph.told new.trail.graph.told g.trail.facts g.trail.truth g.trail.falsity g.told_same g.trail.told
      h.tied;
  reasons = g.reasons h.reasons;
}

pub goes_stays : (a : Arena) (old new : Both) → GoesOn a old new → Stays old new
goes_stays a old new g = record {
  nodes = g.trail.same_nodes;
  terms = g.trail.same_terms;
  truth = g.trail.truth;
  falsity = g.trail.falsity;
  relations = g.relations;
  forms = g.standing.adds.forms;
  pivots = g.standing.adds.pivots;
}

pub goes_levels : (a : Arena) (old new : Both) → GoesOn a old new → KeepsLevels a old new
goes_levels a old new g = λ l h.
    level_stays a old new l (record { trail = g.trail; standing = g.standing; relations = g.relations; more = []; claims = g.claims ∙ sym (append-nil old.claims.items) }) h

-- ---- still

pub still_itself : (b : Both) → IsStill b b
still_itself b = record { graph = refl; back = back_itself b.standing; relations = refl; claims = refl }

pub still_then : (old mid new : Both) → IsStill old mid → IsStill mid new → IsStill old new
still_then old mid new g h = record {
  graph = h.graph ∙ g.graph;
  back = back_then old.standing mid.standing new.standing g.back h.back;
  relations = h.relations ∙ g.relations;
  claims = h.claims ∙ g.claims;
}

pub still_standing : (old : Both) (st : Standing) → IsBack old.standing st → IsStill old (record old { standing = st })
still_standing old st back = record { graph = refl; back = back; relations = refl; claims = refl }

pub still_graph : (old mid new : Both) → mid ≡ old → IsStill mid new → new.trail.graph ≡ old.trail.graph
still_graph old mid new e still = subst (λ (b : Both). new.trail.graph ≡ b.trail.graph) e still.graph
