use Rattle.std.proofs.Common.{◌≡◌, ◌++◌, ◌∷◌, [], rules, refl}
use Rattle.spv_environments.specs.declared.scopes.Own.TheVariants.{Constant}
use Rattle.spv_routine_typing.proofs.local_typing.Frees.{constant_put}
use Rattle.spv_routine_typing.proofs.local_typing.places.put_constant.Goals as goal

pub returns : goal.returns
returns c =
    let put : c.insert.new.self ≡ c.args.local.own ++ (c.args.x, Constant c.args.z) ∷ [] = search rules in
    constant_put c.args.local (record { own = c.insert.new.self; variables = c.args.local.variables }) c.args.x c.args.z put refl
