use Rattle.std.proofs.Common.{◌++◌, ◌∷◌, [], sym, ap, ◌∙◌, arith}
use Rattle.std.proofs.lemmas.List.{map-set, get_or-map, length-map}
use Rattle.spv_trail.specs.followers.Followers.{entry}
use Rattle.spv_trail.proofs.followers.Listing.{puts_from}
use Rattle.spv_trail.proofs.followers.negations.put.Goals as goal

pub returns : goal.returns
returns c = puts_from _ _ c.args.t c.args.question c.args.same c.push.new.self.items (let l = length-map c.args.lists.now (λ v. v.items) in omega (arith, l, c.requires)) (map-set (λ v. v.items) c.args.lists.now c.args.t.0 c.push.new.self)
    (c.in_ok-push.ensures.items ∙ ap (λ us. us ++ entry c.args.question c.args.same ∷ []) (sym (get_or-map (λ v. v.items) c.args.lists.now c.args.t.0 _ [] c.requires)))
