-- The sorts of a declared symbol.
use Rattle.std.specs.Prelude.{Ok}
use Rattle.spv_tree.specs.declared.syntax.declarations.SymbolText.{SymbolText}
use Rattle.spv_typing.specs.Outcomes.{Outcome, after, all_of}
use Rattle.spv_typing.specs.Known.{Known}
use Rattle.spv_typing.specs.DeclarationWalk.{sort_walk, sorts_in_brackets}
use Rattle.spv_environments.specs.declared.known.Signature.{Signature}

abbrev pub signature_walk : Known → SymbolText → Outcome Signature
signature_walk k d =
    after (all_of (sort_walk k) (sorts_in_brackets d.arguments)) (λ args.
    after (sort_walk k d.result) (λ result. Ok (record { args = args; result = result })))
