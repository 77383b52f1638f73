use Rattle.std.proofs.Common.{List, sym, subst, refl}
use Rattle.spv_assignments.specs.declared.partial_assignment.facts.Known.{Known}
use Rattle.spv_decisions.specs.literal_lookup.Facts.{AreCores}
use Rattle.spv_proof_rules.specs.Stand.{question}
use Rattle.spv_term.specs.Arena.{tree}
use Rattle.spv_trail.proofs.propagation.Citing.{stored_cores}
use Rattle.spv_trail.proofs.propagation.Cores.{atom_bare}
use Rattle.spv_trail.proofs.backtracking.Taking.{atom_told, case_held, case_ended, case_ended_goes, case_path, case_told, case_goes}
use Rattle.spv_trail.proofs.backtracking.path.BranchTrail.tell_case.Goals as goal

pub contradiction-requires-clause-known : goal.contradiction-requires-clause-known
contradiction-requires-clause-known c =
    subst (λ (ks : List Known). AreCores c.args.terms.now ks) (sym c.as_slice.ensures.value) (stored_cores c.args.terms.now c.args.condition.now _ _ _ c.requires.told.path_told.settled.stored)

pub contradiction-requires-clause-added : goal.contradiction-requires-clause-added
contradiction-requires-clause-added c = record {
  in_range = c.requires.atom.within;
  bare = atom_bare (question c.args.terms.now c.args.condition.now) c.requires.asked.ground.formulas (tree c.args.terms.now c.args.atom) c.requires.atom.among;
}

pub tell_literal-requires-clause-may : goal.tell_literal-requires-clause-may
tell_literal-requires-clause-may c = atom_told c.args.terms.now c.args.condition.now c.args.ground.now c.args.self.now.both c.args.atom c.args.part c.requires.asked c.requires.atom c.requires.part

pub settle-requires-clause-held : goal.settle-requires-clause-held
settle-requires-clause-held c =
    case_held c.args.terms.now c.args.condition.now c.args.ground.now c.args.self.now c.requires.asked c.args.atom c.args.part c.in_ok-fact.fact c.args.why c.requires.atom c.requires.part c.tell.new.derivation c.in_ok-fact.ensures c.contradiction.new.derivation c.as_slice.result.now c.as_slice.ensures.value c.in_ok-end.end
    c.in_ok-end.ensures c.in-None.is c.requires.told
    (record { derivation = c.contradiction.new.derivation; known = c.push.new.self; both = c.tell_literal.new.both; lists = c.args.self.now.lists }) refl c.in_ok-push-in-None.ensures.items refl c.in_ok-tell_literal-in-None.ensures.tells c.in_ok-tell_literal-in-None.ensures.both

pub settle-requires-clause-path : goal.settle-requires-clause-path
settle-requires-clause-path c =
    case_path c.args.terms.now c.args.condition.now c.args.ground.now c.args.self.now c.requires.asked c.args.atom c.args.part c.in_ok-fact.fact c.args.why c.requires.atom c.requires.part c.tell.new.derivation c.in_ok-fact.ensures c.contradiction.new.derivation c.as_slice.result.now c.as_slice.ensures.value c.in_ok-end.end
    c.in_ok-end.ensures c.in-None.is c.requires.told
    (record { derivation = c.contradiction.new.derivation; known = c.push.new.self; both = c.tell_literal.new.both; lists = c.args.self.now.lists }) refl

pub returns-in-Some-clause-told : goal.returns-in-Some-clause-told
returns-in-Some-clause-told c =
    λ cases h count. case_ended c.args.terms.now c.args.condition.now c.args.ground.now c.args.self.now c.requires.asked c.args.atom c.args.part c.in_ok-fact.fact c.args.why c.requires.atom c.requires.part c.tell.new.derivation c.in_ok-fact.ensures c.contradiction.new.derivation c.as_slice.result.now c.as_slice.ensures.value
    c.in_ok-end.end c.in_ok-end.ensures cases h count c.in-Some.end c.in-Some.is _ refl refl

pub returns-in-Some-clause-goes : goal.returns-in-Some-clause-goes
returns-in-Some-clause-goes c =
    case_ended_goes c.args.terms.now c.args.condition.now c.args.ground.now c.args.self.now c.requires.asked c.args.atom c.args.part c.in_ok-fact.fact c.args.why c.requires.atom c.requires.part c.tell.new.derivation c.in_ok-fact.ensures c.contradiction.new.derivation c.as_slice.result.now c.as_slice.ensures.value c.in_ok-end.end
    c.in_ok-end.ensures c.requires.told c.in-Some.end c.in-Some.is _ refl refl refl

pub returns-in_ok-settle-in-None-clause-told : goal.returns-in_ok-settle-in-None-clause-told
returns-in_ok-settle-in-None-clause-told c =
    λ cases h count. case_told c.args.terms.now c.args.condition.now c.args.ground.now c.args.self.now c.requires.asked c.args.atom c.args.part c.in_ok-fact.fact c.args.why c.requires.atom c.requires.part c.tell.new.derivation c.in_ok-fact.ensures c.contradiction.new.derivation c.as_slice.result.now c.as_slice.ensures.value
    c.in_ok-end.end c.in_ok-end.ensures c.in-None.is cases h count
    (record { derivation = c.contradiction.new.derivation; known = c.push.new.self; both = c.tell_literal.new.both; lists = c.args.self.now.lists }) c.settle.new.self refl c.in_ok-push-in-None.ensures.items c.in_ok-settle-in-None.ensures.told

pub returns-in_ok-settle-in-None-clause-goes : goal.returns-in_ok-settle-in-None-clause-goes
returns-in_ok-settle-in-None-clause-goes c =
    case_goes c.args.terms.now c.args.condition.now c.args.ground.now c.args.self.now c.requires.asked c.args.atom c.args.part c.in_ok-fact.fact c.args.why c.requires.atom c.requires.part c.tell.new.derivation c.in_ok-fact.ensures c.contradiction.new.derivation c.as_slice.result.now c.as_slice.ensures.value c.in_ok-end.end
    c.in_ok-end.ensures c.in-None.is c.requires.told
    (record { derivation = c.contradiction.new.derivation; known = c.push.new.self; both = c.tell_literal.new.both; lists = c.args.self.now.lists }) c.settle.new.self refl c.in_ok-push-in-None.ensures.items c.in_ok-tell_literal-in-None.ensures.tells c.in_ok-settle-in-None.ensures.goes
