use Rattle.std.proofs.Common.{refl}
use Rattle.spv_assignments.specs.kleene.Passes.{ClashesListed}
use Rattle.spv_assignments.specs.partial_assignment.Facts.{facts_of}
use Rattle.spv_assignments.proofs.partial_assignment.Turns.{says_loud, says_listed, has_truth, quiet_cores, says_end, of_none, of_some}
use Rattle.spv_assignments.proofs.partial_assignment.following.next.Goals as goal

pub returns-in-Some : goal.returns-in-Some
returns-in-Some c =
    says_loud c.args.terms.now c.law_arena.ensures (facts_of c.args.terms.now c.args.known.now) c.requires.known c.args.lists.now.direct.items c.args.lists.now.cores.items c.args.lists.now.all.items c.requires.lists c.args.questions.now
    c.as_slice-direct.result.now c.as_slice-direct.ensures.value c.in-Some.t c.in-Some.ensures.loud c.contradiction.result c.contradiction.ensures

pub listed_clash-requires-clause-quiet : goal.listed_clash-requires-clause-quiet
listed_clash-requires-clause-quiet c =
    quiet_cores c.args.terms.now c.law_arena.ensures (facts_of c.args.terms.now c.args.known.now) c.requires.known c.args.lists.now.direct.items c.args.lists.now.cores.items c.args.lists.now.all.items c.requires.lists c.args.questions.now
    c.as_slice-direct.result.now c.as_slice-cores.result.now c.as_slice-direct.ensures.value c.as_slice-cores.ensures.value c.in_default.ensures.quiet

pub contradiction-requires-in-Some-found : goal.contradiction-requires-in-Some-found
contradiction-requires-in-Some-found c =
    has_truth c.args.terms.now c.law_arena.ensures (facts_of c.args.terms.now c.args.known.now) c.requires.known c.args.lists.now.direct.items c.args.lists.now.cores.items c.args.lists.now.all.items c.requires.lists c.args.questions.now
    c.as_slice-direct.result.now c.as_slice-cores.result.now c.as_slice-direct.ensures.value c.as_slice-cores.ensures.value c.in_default.ensures.quiet c.in-Some-found.t
    (of_some (ClashesListed c.args.terms.now c.as_slice-cores.result.now) c.in_ok-found.found c.in-Some-found.t c.in-Some-found.is c.in_ok-found.ensures.clash)

pub returns-in-Some-found : goal.returns-in-Some-found
returns-in-Some-found c =
    says_listed c.args.terms.now c.law_arena.ensures (facts_of c.args.terms.now c.args.known.now) c.requires.known c.args.lists.now.direct.items c.args.lists.now.cores.items c.args.lists.now.all.items c.requires.lists c.args.questions.now
    c.as_slice-direct.result.now c.as_slice-cores.result.now c.as_slice-direct.ensures.value c.as_slice-cores.ensures.value c.in_default.ensures.quiet c.in-Some-found.t
    (of_some (ClashesListed c.args.terms.now c.as_slice-cores.result.now) c.in_ok-found.found c.in-Some-found.t c.in-Some-found.is c.in_ok-found.ensures.clash) c.contradiction-in-Some-found.result c.contradiction-in-Some-found.ensures

pub question_from-requires-clause-quiet : goal.question_from-requires-clause-quiet
question_from-requires-clause-quiet c =
    quiet_cores c.args.terms.now c.law_arena.ensures (facts_of c.args.terms.now c.args.known.now) c.requires.known c.args.lists.now.direct.items c.args.lists.now.cores.items c.args.lists.now.all.items c.requires.lists c.args.questions.now
    c.as_slice-direct.result.now c.args.lists.now.cores.items c.as_slice-direct.ensures.value refl c.in_default.ensures.quiet

pub returns : goal.returns
returns c =
    says_end c.args.terms.now c.law_arena.ensures (facts_of c.args.terms.now c.args.known.now) c.requires.known c.args.lists.now.direct.items c.args.lists.now.cores.items c.args.lists.now.all.items c.requires.lists c.args.questions.now
    c.as_slice-direct.result.now c.as_slice-cores.result.now c.as_slice-direct.ensures.value c.as_slice-cores.ensures.value c.in_default.ensures.quiet
    (of_none c.in_ok-found.found c.in_default-found.is c.in_ok-found.ensures.none) c.question_from.result c.question_from.ensures
