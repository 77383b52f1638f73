use Rattle.std.proofs.Common.{◌∙◌, ap}
use Rattle.std.specs.Map.{lookup}
use Rattle.std.specs.Str.{bytes_eq}
use Rattle.spv_lexer.specs.Spelling.{words}
use Rattle.spv_lexer.proofs.LookUps.{lookup-same_length}
use Rattle.spv_lexer.proofs.words.word_of.Goals as goal

pub returns : goal.returns
returns c = c.find.ensures ∙ ap (lookup (bytes_eq c.args.text.now)) c.words_of_length.ensures ∙ lookup-same_length c.args.text.now words
