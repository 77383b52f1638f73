use Rattle.std.proofs.Common.{◌++◌, ◌∷◌, [], sym, ap, ◌∙◌, arith}
use Rattle.std.proofs.lemmas.List.{map-set, get_or-map, length-map, append-nil}
use Rattle.spv_congruence.proofs.AddLemmas.{use_kept, use_added}
use Rattle.spv_congruence.proofs.adding.add_use.Goals as goal

pub returns-in_err-push-clause-keeps : goal.returns-in_err-push-clause-keeps
returns-in_err-push-clause-keeps c = use_kept _ _ c.args.x c.push.new.self.items [] (let l = length-map c.args.uses.now (λ v. v.items) in omega (arith, l, c.requires)) (map-set (λ v. v.items) c.args.uses.now c.args.x c.push.new.self)
    (c.in_err-push.ensures.items ∙ (sym (get_or-map (λ v. v.items) c.args.uses.now c.args.x _ [] c.requires) ∙ sym (append-nil _)))

pub returns-clause-keeps : goal.returns-clause-keeps
returns-clause-keeps c = use_kept _ _ c.args.x c.push.new.self.items (c.args.t ∷ []) (let l = length-map c.args.uses.now (λ v. v.items) in omega (arith, l, c.requires)) (map-set (λ v. v.items) c.args.uses.now c.args.x c.push.new.self)
    (c.in_ok-push.ensures.items ∙ ap (λ us. us ++ c.args.t ∷ []) (sym (get_or-map (λ v. v.items) c.args.uses.now c.args.x _ [] c.requires)))

pub returns-clause-ok : goal.returns-clause-ok
returns-clause-ok c = use_added _ _ c.args.x c.push.new.self.items _ c.args.t (let l = length-map c.args.uses.now (λ v. v.items) in omega (arith, l, c.requires)) (map-set (λ v. v.items) c.args.uses.now c.args.x c.push.new.self) c.in_ok-push.ensures.items
