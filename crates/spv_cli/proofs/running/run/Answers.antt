use Rattle.spv_cli.proofs.Promises.{asked, complete, complete_status, correct, correct_of_text, gave_up, listed, map_there, of_text, once, page_written, part_written, proved, read_fault, read_fault_told, refusal_told, refused, reported, right_verdicts, same_mode, same_proofs, sink_sound, statuses, texts_sound, unproved, unread, unwritten, words, words_only, words_told, write_fault}
use Rattle.spv_cli.proofs.running.run.Goals as goal

pub returns-clause-correct : goal.returns-clause-correct
returns-clause-correct g c e = map_there c.attempt.result.report (correct _ _ c.attempt.result _ c.attempt.ensures e) (λ r h p is hold. h (g.W.World.apply c.args.world.now) p is hold)

pub returns-clause-correct_everywhere : goal.returns-clause-correct_everywhere
returns-clause-correct_everywhere g c = correct _ _ c.attempt.result _ c.attempt.ensures

pub returns-clause-correct_text : goal.returns-clause-correct_text
returns-clause-correct_text g c = correct_of_text _ _ c.attempt.result c.law_not_both.ensures.one c.law_not_both.ensures.rules _ c.attempt.ensures

pub returns-clause-page : goal.returns-clause-page
returns-clause-page g c = page_written _ _ c.attempt.result _ c.attempt.ensures

pub returns-clause-cut : goal.returns-clause-cut
returns-clause-cut g c = part_written _ _ c.attempt.result _ c.attempt.ensures

pub returns-clause-refused : goal.returns-clause-refused
returns-clause-refused g c = refused _ _ c.attempt.result c.law_not_both.ensures.both _ c.attempt.ensures

pub returns-clause-proved : goal.returns-clause-proved
returns-clause-proved g c = proved _ _ c.attempt.result _ c.attempt.ensures

pub returns-clause-unproved : goal.returns-clause-unproved
returns-clause-unproved g c = unproved _ _ c.attempt.result _ c.attempt.ensures

pub returns-clause-gave_up : goal.returns-clause-gave_up
returns-clause-gave_up g c = gave_up _ _ c.attempt.result _ c.attempt.ensures

pub returns-clause-listed : goal.returns-clause-listed
returns-clause-listed g c = listed _ _ c.attempt.result _ c.attempt.ensures

pub returns-clause-verdicts : goal.returns-clause-verdicts
returns-clause-verdicts g c = right_verdicts _ _ c.attempt.result _ c.attempt.ensures

pub returns-clause-complete_status : goal.returns-clause-complete_status
returns-clause-complete_status g c = complete_status _ _ c.attempt.result _ c.attempt.ensures

pub returns-clause-words_only : goal.returns-clause-words_only
returns-clause-words_only g c = words_only _ _ c.attempt.result _ c.attempt.ensures

pub returns-clause-words : goal.returns-clause-words
returns-clause-words g c = words _ _ c.attempt.result _ c.attempt.ensures

pub returns-clause-of_text : goal.returns-clause-of_text
returns-clause-of_text g c = of_text _ _ c.attempt.result _ c.attempt.ensures

pub returns-clause-mode : goal.returns-clause-mode
returns-clause-mode g c = same_mode _ _ c.attempt.result _ c.attempt.ensures

pub returns-clause-proofs : goal.returns-clause-proofs
returns-clause-proofs g c = same_proofs _ _ c.attempt.result _ c.attempt.ensures

pub returns-clause-read_fault_line : goal.returns-clause-read_fault_line
returns-clause-read_fault_line g c = read_fault_told _ _ c.attempt.result _ c.attempt.ensures

pub returns-clause-unread : goal.returns-clause-unread
returns-clause-unread g c = unread _ _ c.attempt.result _ c.attempt.ensures

pub returns-clause-asked : goal.returns-clause-asked
returns-clause-asked g c = asked _ _ c.attempt.result _ c.attempt.ensures

pub returns-clause-once : goal.returns-clause-once
returns-clause-once g c = once _ _ c.attempt.result _ c.attempt.ensures

pub returns-clause-reported : goal.returns-clause-reported
returns-clause-reported g c = reported _ _ c.attempt.result _ c.attempt.ensures

pub returns-clause-refusal : goal.returns-clause-refusal
returns-clause-refusal g c = refusal_told _ _ c.attempt.result _ c.attempt.ensures

pub returns-clause-complete : goal.returns-clause-complete
returns-clause-complete g c = complete _ _ c.attempt.result _ c.attempt.ensures

pub returns-clause-read_fault : goal.returns-clause-read_fault
returns-clause-read_fault g c = read_fault _ _ c.attempt.result _ c.attempt.ensures

pub returns-clause-write_fault : goal.returns-clause-write_fault
returns-clause-write_fault g c = write_fault _ _ c.attempt.result _ c.attempt.ensures

pub returns-clause-texts_sound : goal.returns-clause-texts_sound
returns-clause-texts_sound g c = texts_sound _ _ c.attempt.result _ c.attempt.ensures

pub returns-clause-sink_sound : goal.returns-clause-sink_sound
returns-clause-sink_sound g c = sink_sound _ _ c.attempt.result _ c.attempt.ensures

pub returns-clause-words_line : goal.returns-clause-words_line
returns-clause-words_line g c = words_told _ _ c.attempt.result _ c.attempt.ensures

pub returns-clause-memory : goal.returns-clause-memory
returns-clause-memory g c = unwritten _ _ c.attempt.result _ c.attempt.ensures

pub returns-clause-statuses : goal.returns-clause-statuses
returns-clause-statuses g c = statuses _ _ c.attempt.result _ c.attempt.ensures
