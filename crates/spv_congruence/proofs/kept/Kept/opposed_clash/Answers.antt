use Rattle.std.proofs.Common.{List, length, slice_get, ap, refl, ◌∙◌, arith}
use Rattle.spv_logic.specs.declared.conditions.TermId.{TermId}
use Rattle.spv_congruence.specs.Graph.{id}
use Rattle.spv_congruence.specs.Keep.{Kept}
use Rattle.spv_congruence.proofs.ClashLemmas.{behind_more, none_opposed}
use Rattle.spv_congruence.proofs.kept.Kept.opposed_clash.Goals as goal

pub term_of-requires : goal.term_of-requires
term_of-requires c =
    let n = c.in-Some.ensures.there in
    let e = c.requires.terms.listed (id c.in-Some.x) n.0 n.1 in
    (e.place, (id c.in-Some.x, (ap (λ (ts : List TermId). slice_get ts e.place) (c.as_slice.ensures.value ∙ ap (λ (k : Kept). k.added) c.self.view_is) ∙ e.there, refl)))

pub loop-s-preserved : goal.loop-s-preserved
loop-s-preserved c = record {
  none = behind_more _ _ _ (id 0) (c.as_slice-s-items.ensures.value ∙ ap (λ (k : Kept). k.added) c.self.view_is) c.loop-s-test.true c.in_default.ensures.none c.loop-s.invariant.none;
}

pub returns-clause-none : goal.returns-clause-none
returns-clause-none c =
    let e = ap length (c.as_slice-s-items.ensures.value ∙ ap (λ (k : Kept). k.added) c.self.view_is) in
    let f = c.loop-s-test.false in
    none_opposed _ _ c.law_joins.ensures c.requires _ (omega (arith, e, f)) c.loop-s.invariant.none
