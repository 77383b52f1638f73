use Rattle.std.proofs.Common.{◌∙◌, sym}
use Rattle.spv_listing_values.specs.declared.data.Header.{Header}
use Rattle.spv_listing_values.specs.Places.{trees}
use Rattle.spv_rules.specs.RuleSets.{rules_in}
use Rattle.spv_rechecking.specs.Rechecked.{Recheck}
use Rattle.spv_rechecking.proofs.InLemmas.{words_same, none_found, no_room, found_with_room, heads_absent, heads_present}
use Rattle.spv_rechecking.proofs.rechecking.recheck_in.Goals as goal

pub returns-in_default-clause-found : goal.returns-in_default-clause-found
returns-in_default-clause-found c =
    let r : Recheck = record { names = c.args.names.now; titles = c.args.titles.now; rules = rules_in c.args.rules.now; most = c.args.most } in
    let header : Header = record { routine = c.args.routine.now; kind = c.args.condition.now.origin.kind; line = c.args.condition.now.origin.line } in
    none_found r header c.args.terms.now c.args.condition.now c.requires.asked.terms c.parts.result.0.now c.parts.result.1.now c.parts.ensures.entry c.args.entry.now c.parts.ensures.claim _
    (words_same r header c.args.terms.now c.args.condition.now c.requires.asked.terms c.parts.result.0.now c.parts.result.1.now c.parts.ensures.entry c.args.entry.now c.parts.ensures.claim
    c.in_ok-leaves.leaves c.in_ok-leaves.ensures.heads c.as_slice.result.now (c.as_slice.ensures ∙ c.shapes.ensures) c.decls.result.now c.decls.ensures)
    (heads_absent _ _ (trees c.parts.result.0.now) c.in_ok-heads.heads c.in_ok-heads.ensures c.in_default.is) c.args.terms.now

pub returns-then-not-room-clause-found : goal.returns-then-not-room-clause-found
returns-then-not-room-clause-found c =
    let r : Recheck = record { names = c.args.names.now; titles = c.args.titles.now; rules = rules_in c.args.rules.now; most = c.args.most } in
    let header : Header = record { routine = c.args.routine.now; kind = c.args.condition.now.origin.kind; line = c.args.condition.now.origin.line } in
    no_room r header c.args.terms.now c.args.condition.now c.requires.asked.terms c.parts.result.0.now c.parts.result.1.now c.parts.ensures.entry c.args.entry.now c.parts.ensures.claim _
    (words_same r header c.args.terms.now c.args.condition.now c.requires.asked.terms c.parts.result.0.now c.parts.result.1.now c.parts.ensures.entry c.args.entry.now c.parts.ensures.claim
    c.in_ok-leaves.leaves c.in_ok-leaves.ensures.heads c.as_slice.result.now (c.as_slice.ensures ∙ c.shapes.ensures) c.decls.result.now c.decls.ensures)
    c.in-Some.heads.items (heads_present _ _ (trees c.parts.result.0.now) c.in_ok-heads.heads c.in-Some.heads c.in_ok-heads.ensures c.in-Some.is)
    (sym c.is_about.ensures ∙ c.if-not-is_about.false) (c.requires.asked.over c.if-not-room.true) c.args.terms.now c.too_many.result c.too_many.ensures

pub returns-clause-found : goal.returns-clause-found
returns-clause-found c =
    let r : Recheck = record { names = c.args.names.now; titles = c.args.titles.now; rules = rules_in c.args.rules.now; most = c.args.most } in
    let header : Header = record { routine = c.args.routine.now; kind = c.args.condition.now.origin.kind; line = c.args.condition.now.origin.line } in
    found_with_room r header c.args.terms.now c.args.condition.now c.requires.asked.terms c.parts.result.0.now c.parts.result.1.now c.parts.ensures.entry c.args.entry.now c.parts.ensures.claim
    (sym c.is_about.ensures ∙ c.if-not-is_about.false) (record { names = c.args.names.now; titles = c.args.titles.now; rules = rules_in c.args.rules.now; most = c.args.terms.now.most })
    (λ i. record { names = c.args.names.now; titles = c.args.titles.now; rules = rules_in c.args.rules.now; most = c.requires.asked.limit c.if-not-room.false i })
    c.make_and_check.new.terms c.make_and_check.result c.make_and_check.ensures.found
