use Rattle.std.proofs.Common.{◌+◌, ◌*◌, ◌<◌, ◌≡◌, ◌++◌, ◌∷◌, [], length, slice_get, Some, refl, ap, sym, ◌∙◌, subst, inl, ◌⊎◌}
use Rattle.spv_congruence.specs.Keep.{graph, IsNode}
use Rattle.spv_congruence.specs.Told.{whole}
use Rattle.spv_congruence.specs.Walk.{IsPath, last_of, missing_in}
use Rattle.spv_congruence.proofs.Paths.{last_below, last_missing, parts_refl, step_of, step_parts, step_path, step_first, step_smaller}
use Rattle.spv_congruence.proofs.GrownLemmas.{grown_refl, step_grown}
use Rattle.spv_congruence.proofs.kept.Kept.add_or_stop.Goals as goal

pub returns-then-has-clause-grown : goal.returns-then-has-clause-grown
returns-then-has-clause-grown c = grown_refl (graph c.args.self.now)

pub returns-in_err-push-clause-grown : goal.returns-in_err-push-clause-grown
returns-in_err-push-clause-grown c = grown_refl (graph c.args.self.now)

pub loop-x-init : goal.loop-x-init
loop-x-init c = record {
  fits = c.requires.fits;
  graph_is = c.requires.graph;
  of = c.requires.of;
  grown = grown_refl (graph c.args.self.now);
  parts = parts_refl c.args.terms.now c.args.t (graph c.args.self.now);
  path = subst (IsPath c.args.terms.now c.args.t c.args.self.now.nodes (length c.args.terms.now.nodes)) (sym (c.in_ok-push.ensures.items ∙ ap (λ ts. ts ++ c.args.t ∷ []) c.new-path.ensures.items)) (c.requires.within, c.if-has.ensures.missing refl, whole, tt);
  first = inl (ap (λ ts. slice_get ts 0) (c.in_ok-push.ensures.items ∙ ap (λ ts. ts ++ c.args.t ∷ []) c.new-path.ensures.items));
}

pub step-requires-clause-within : goal.step-requires-clause-within
step-requires-clause-within c = last_below c.args.terms.now c.args.t c.loop-x.self.nodes (length c.args.terms.now.nodes) c.pop.new.self.items c.in-Some.x (subst (IsPath c.args.terms.now c.args.t c.loop-x.self.nodes (length c.args.terms.now.nodes)) c.in-Some.ensures.items c.loop-x.invariant.path)

pub step-requires-clause-missing : goal.step-requires-clause-missing
step-requires-clause-missing c = last_missing c.args.terms.now c.args.t c.loop-x.self.nodes (length c.args.terms.now.nodes) c.pop.new.self.items c.in-Some.x (subst (IsPath c.args.terms.now c.args.t c.loop-x.self.nodes (length c.args.terms.now.nodes)) c.in-Some.ensures.items c.loop-x.invariant.path)

pub loop-x-smaller : goal.loop-x-smaller
loop-x-smaller c =
    let path = subst (IsPath c.args.terms.now c.args.t c.loop-x.self.nodes (length c.args.terms.now.nodes)) c.in-Some.ensures.items c.loop-x.invariant.path in
    subst (λ ts. missing_in c.step.new.self.nodes (length c.args.terms.now.nodes) * (length c.args.terms.now.nodes + 2) + last_of c.step.new.path.items < missing_in c.loop-x.self.nodes (length c.args.terms.now.nodes) * (length c.args.terms.now.nodes + 2) + last_of ts) (sym c.in-Some.ensures.items)
    (step_smaller c.args.terms.now c.law_arena.ensures c.args.t c.args.self.now c.loop-x.self c.step.new.self _ _ _ path c.in_ok-step.ensures.ok)

pub loop-x-preserved : goal.loop-x-preserved
loop-x-preserved c =
    let i = c.loop-x.invariant in
    let path = subst (IsPath c.args.terms.now c.args.t c.loop-x.self.nodes (length c.args.terms.now.nodes)) c.in-Some.ensures.items i.path in
    record {
      fits = c.step.ensures.fits;
      graph_is = c.step.ensures.graph;
      of = step_of c.args.terms.now c.law_arena.ensures c.args.t c.args.self.now c.loop-x.self c.step.new.self _ _ _ path c.in_ok-step.ensures.ok i.of;
      grown = step_grown c.args.terms.now c.args.self.now c.loop-x.self c.step.new.self _ _ _ (last_missing c.args.terms.now c.args.t c.loop-x.self.nodes (length c.args.terms.now.nodes) c.pop.new.self.items c.in-Some.x path) c.in_ok-step.ensures.ok i.grown;
      parts = step_parts c.args.terms.now c.law_arena.ensures c.args.t c.args.self.now c.loop-x.self c.step.new.self _ _ _ path c.in_ok-step.ensures.ok i.parts;
      path = step_path c.args.terms.now c.law_arena.ensures c.args.t c.args.self.now c.loop-x.self c.step.new.self _ _ _ path c.in_ok-step.ensures.ok;
      first = step_first c.args.terms.now c.law_arena.ensures c.args.t c.args.self.now c.loop-x.self c.step.new.self _ _ _ path c.in_ok-step.ensures.ok
          (subst (λ ts. (slice_get ts 0 ≡ Some c.args.t) ⊎ IsNode c.loop-x.self.nodes c.args.t) c.in-Some.ensures.items i.first);
    }
