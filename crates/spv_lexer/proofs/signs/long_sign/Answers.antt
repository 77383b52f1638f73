use Rattle.std.proofs.Common.{◌∙◌, sym, ap, arith, ◌<◌, length}
use Rattle.std.specs.Map.{lookup}
use Rattle.std.specs.Str.{bytes_eq}
use Rattle.spv_lexer.specs.Spelling.{long_signs}
use Rattle.spv_lexer.proofs.Fronts.{no_long_sign, take_two}
use Rattle.spv_lexer.proofs.signs.long_sign.Goals as goal

pub returns-then-text-lt2 : goal.returns-then-text-lt2
returns-then-text-lt2 c = sym (no_long_sign c.args.text.now c.if-text-lt2.true)

pub returns : goal.returns
returns c =
    let long : 1 < length c.args.text.now = omega arith in
    c.sign_of_two.ensures ∙ ap (λ t. lookup (bytes_eq t) long_signs) (sym (take_two c.args.text.now long))
