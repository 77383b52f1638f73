use Rattle.std.proofs.Common.{◌∙◌, ap, arith}
use Rattle.spv_union_find.proofs.classes.Lists.{get_within}
use Rattle.spv_congruence.specs.Graph.{id}
use Rattle.spv_congruence.specs.Keep.{Kept}
use Rattle.spv_congruence.proofs.PutLemmas.{below_here, used_more}
use Rattle.spv_congruence.proofs.kept.Kept.use_args.Goals as goal

pub use_arg-requires : goal.use_arg-requires
use_arg-requires c = let i = c.loop-u.invariant in let b = below_here _ _ _ (id 0) c.requires c.loop-u-test.true in let m = i.many in omega (arith, b, m)

pub loop-u-preserved : goal.loop-u-preserved
loop-u-preserved c =
    let i = c.loop-u.invariant in
    let h = c.in_ok-use_arg.ensures in
    record {
      is = h.is ∙ ap (λ (k : Kept). record k { uses = c.use_arg.new.self.uses }) i.is;
      keeps = λ x t w. h.keeps x t (i.keeps x t w);
      many = h.many ∙ i.many;
      used = used_more _ _ _ _ _ (id 0) c.loop-u-test.true h.keeps h.ok i.used;
    }

pub returns-clause-ok : goal.returns-clause-ok
returns-clause-ok c = λ i u at. c.loop-u.invariant.used i u (let w = get_within _ i u at in let t = c.loop-u-test.false in omega (arith, w, t)) at
