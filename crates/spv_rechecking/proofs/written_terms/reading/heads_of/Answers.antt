use Rattle.std.proofs.Common.{◌∙◌, arith}
use Rattle.spv_rechecking.specs.written_terms.Words.{vocabulary}
use Rattle.spv_rechecking.specs.written_terms.Read.{sorts_of}
use Rattle.spv_rechecking.proofs.written_terms.Levels.{below_sorts, none_stands, one_more, all_read}
use Rattle.spv_rechecking.proofs.written_terms.reading.heads_of.Goals as goal

pub sorts_at-requires : goal.sorts_at-requires
sorts_at-requires c =
    below_sorts (vocabulary c.args.names.now c.args.titles.now c.args.leaves.now c.args.shapes.now c.args.decls.now) c.args.texts.now c.law_texts.ensures c.loop-place.heads.items c.loop-place.sorts.items c.loop-place.place c.loop-place.invariant
    c.in_ok-t.t c.in_ok-t.ensures (omega (arith, c.in_ok-t.ensures, c.loop-place-test.true, c.len-place-end.ensures)) c.as_slice.result.now c.as_slice.ensures.value c.args-own.result.now c.args-own.ensures

pub loop-place-preserved : goal.loop-place-preserved
loop-place-preserved c =
    one_more (vocabulary c.args.names.now c.args.titles.now c.args.leaves.now c.args.shapes.now c.args.decls.now) c.args.texts.now c.law_texts.ensures c.loop-place.heads.items c.loop-place.sorts.items c.loop-place.place c.loop-place.invariant
    c.in_ok-t.t c.in_ok-t.ensures (omega (arith, c.in_ok-t.ensures, c.loop-place-test.true, c.len-place-end.ensures)) c.as_slice-in-loop-place.result.now
    (c.as_slice-in-loop-place.ensures.value ∙ (c.in_ok-given.ensures ∙ (λ j. sorts_of (c.as_slice.ensures.value j) (c.args-own.ensures j)))) c.read_one-read.result c.read_one-read.ensures c.in-Some.one c.in-Some.is
    c.push.new.heads.items c.push.new.sorts.items c.in_ok-push.ensures.heads c.in_ok-push.ensures.sorts

pub returns-in_default : goal.returns-in_default
returns-in_default c =
    none_stands (vocabulary c.args.names.now c.args.titles.now c.args.leaves.now c.args.shapes.now c.args.decls.now) c.args.texts.now c.law_texts.ensures c.loop-place.heads.items c.loop-place.sorts.items c.loop-place.place c.loop-place.invariant
    c.in_ok-t.t c.in_ok-t.ensures (omega (arith, c.in_ok-t.ensures, c.loop-place-test.true, c.len-place-end.ensures)) c.as_slice-in-loop-place.result.now
    (c.as_slice-in-loop-place.ensures.value ∙ (c.in_ok-given.ensures ∙ (λ j. sorts_of (c.as_slice.ensures.value j) (c.args-own.ensures j)))) c.read_one-read.result c.read_one-read.ensures c.in_default.is

pub returns : goal.returns
returns c =
    all_read (vocabulary c.args.names.now c.args.titles.now c.args.leaves.now c.args.shapes.now c.args.decls.now) c.args.texts.now c.law_texts.ensures c.loop-place.heads.items c.loop-place.sorts.items c.loop-place.place c.loop-place.invariant
    (omega (arith, c.loop-place-test.false, c.len-place-end.ensures))
