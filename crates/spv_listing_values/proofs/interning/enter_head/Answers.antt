use Rattle.std.proofs.Common.{sym, subst}
use Rattle.spv_logic.specs.names.Names.{IsFolded}
use Rattle.spv_listing_values.proofs.Tables.{folded_range}
use Rattle.spv_listing_values.proofs.interning.enter_head.Goals as goal

pub enter_word-requires : goal.enter_word-requires
enter_word-requires c = subst IsFolded (sym c.of.ensures) (folded_range c.args.bytes.now c.in-Alone.word.start c.in-Alone.word.end c.requires.folded)

pub enter_word-requires-in-Applied-default-None : goal.enter_word-requires-in-Applied-default-None
enter_word-requires-in-Applied-default-None c =
    subst IsFolded (sym c.of-in-Applied-default-None.ensures) (folded_range c.args.bytes.now c.in-Applied-default-None.word.start c.in-Applied-default-None.word.end c.requires.folded)

pub enter_word-requires-in-Applied-default-Some : goal.enter_word-requires-in-Applied-default-Some
enter_word-requires-in-Applied-default-Some c =
    subst IsFolded (sym c.of-in-Applied-default-Some.ensures) (folded_range c.args.bytes.now c.in-Applied-default-Some.word.start c.in-Applied-default-Some.word.end c.requires.folded)

pub enter_word-requires-in-Applied-default-Some-2 : goal.enter_word-requires-in-Applied-default-Some-2
enter_word-requires-in-Applied-default-Some-2 c =
    subst IsFolded (sym c.of-in-Applied-default-Some-2.ensures) (folded_range c.args.bytes.now c.in-Applied-default-Some.name.start c.in-Applied-default-Some.name.end c.requires.folded)
