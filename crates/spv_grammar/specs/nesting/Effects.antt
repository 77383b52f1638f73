-- What tokens do to the counters of which the level of a text is made.
use Rattle.spv_tree.specs.declared.tokens.token.TokenKind.{TokenKind}
use Rattle.spv_tree.specs.declared.tokens.token.TokenKind.TheVariants as kind
use Rattle.spv_tree.specs.declared.tokens.token.Word.{Word}
use Rattle.spv_tree.specs.declared.tokens.token.Word.TheVariants as word
use Rattle.spv_tree.specs.declared.tokens.token.Sign.{Sign}
use Rattle.spv_tree.specs.declared.tokens.token.Sign.TheVariants as sign
use Rattle.spv_grammar.specs.declared.nesting.effects.Effect.{Effect}
use Rattle.spv_grammar.specs.declared.nesting.effects.Effect.TheVariants.{Opens, Closes, Restarts, Counts, Passes}

abbrev pub word_effect : Word → Effect
word_effect word.Begin = Opens
word_effect word.Case = Opens
word_effect word.Record = Opens
word_effect word.Repeat = Opens
word_effect word.End = Closes
word_effect word.Until = Closes
word_effect word.If = Counts
word_effect word.While = Counts
word_effect word.For = Counts
word_effect word.Array = Counts
word_effect word.Not = Counts
word_effect word.And = Counts
word_effect word.Or = Counts
word_effect word.Div = Counts
word_effect word.Mod = Counts
word_effect _ = Passes

abbrev pub sign_effect : Sign → Effect
sign_effect sign.OpenParenthesis = Opens
sign_effect sign.OpenBracket = Opens
sign_effect sign.CloseParenthesis = Closes
sign_effect sign.CloseBracket = Closes
sign_effect sign.Semicolon = Restarts
sign_effect sign.Comma = Restarts
sign_effect sign.Plus = Counts
sign_effect sign.Minus = Counts
sign_effect sign.Star = Counts
sign_effect sign.Arrow = Counts
sign_effect sign.Caret = Counts
sign_effect _ = Passes

abbrev pub effect_of : TokenKind → Effect
effect_of (kind.Word w) = word_effect w
effect_of (kind.Sign s) = sign_effect s
effect_of _ = Passes
