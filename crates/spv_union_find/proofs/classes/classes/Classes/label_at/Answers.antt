use Rattle.std.proofs.Common.{◌≡◌, sym, ◌∙◌}
use Rattle.spv_union_find.proofs.classes.Moments.{before_is, upper_in, up_same, up_later, own_label}
use Rattle.spv_union_find.proofs.classes.classes.Classes.label_at.Goals as goal

pub loop-place-smaller : goal.loop-place-smaller
loop-place-smaller c = up_later c.args.self.now.count c.args.self.now.joins c.law_joins.ensures c.loop-place.at c.in-Some.place (before_is c.args.time c.in-Some.place _ (sym c.taken_before.ensures ∙ c.in-Some.is)).0 c.join_at-at.result c.join_at-at.ensures

pub loop-place-preserved : goal.loop-place-preserved
loop-place-preserved c =
    let b = before_is c.args.time c.in-Some.place _ (sym c.taken_before.ensures ∙ c.in-Some.is) in
    record {
      within = upper_in c.args.self.now.count c.args.self.now.joins c.law_joins.ensures c.loop-place.at c.in-Some.place b.0 c.join_at-at.result c.join_at-at.ensures;
      same = sym (up_same c.args.self.now.count c.args.self.now.joins c.law_joins.ensures c.loop-place.at c.in-Some.place b.0 c.join_at-at.result c.join_at-at.ensures c.args.time b.1 c.requires.time) ∙ c.loop-place.invariant.same;
    }

pub returns : goal.returns
returns c = sym (own_label c.args.self.now.joins c.loop-place.at c.args.time c.requires.time (sym c.taken_before.ensures ∙ c.in_default.is)) ∙ c.loop-place.invariant.same
