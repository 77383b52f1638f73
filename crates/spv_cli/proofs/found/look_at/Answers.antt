use Rattle.std.proofs.Common.{◌∙◌, map}
use Rattle.std.specs.Option.{option_copied}
use Rattle.spv_cli.specs.Words.{command_view}
use Rattle.spv_cli.proofs.Told.{asked_found, checked_source, listed_source, made_source, simplified_source, verified_source}
use Rattle.spv_cli.proofs.found.look_at.Goals as goal

pub returns-in_ok-text-in-Drill : goal.returns-in_ok-text-in-Drill
returns-in_ok-text-in-Drill c =
    let texts = map (λ text. text.items) c.args.read.now in
    asked_found (command_view c.args.command) texts _ c.look.result
    (made_source c.args.command.mode texts c.in-Drill.load c.in-Drill.field-1 c.as_slice.result.now c.in-Drill.is (c.as_slice.ensures.value ∙ c.in_ok-text-in-Drill.ensures)) c.look.ensures

pub returns-in-Check : goal.returns-in-Check
returns-in-Check c =
    let texts = map (λ text. text.items) c.args.read.now in
    asked_found (command_view c.args.command) texts _ c.look-in-Check.result
    (checked_source c.args.command.mode texts c.text_at.result.now c.text_at-in-Check.result.now (option_copied c.text_after-rules.result) c.in-Check.is c.text_at.ensures c.text_at-in-Check.ensures c.text_after-rules.ensures) c.look-in-Check.ensures

pub returns-in-Verify : goal.returns-in-Verify
returns-in-Verify c =
    let texts = map (λ text. text.items) c.args.read.now in
    asked_found (command_view c.args.command) texts _ c.look-in-Verify.result
    (verified_source c.args.command.mode texts c.text_at-in-Verify.result.now (option_copied c.text_after.result) c.in-Verify.field-0 c.in-Verify.is c.text_at-in-Verify.ensures c.text_after.ensures) c.look-in-Verify.ensures

pub returns-in-Simplify : goal.returns-in-Simplify
returns-in-Simplify c =
    let texts = map (λ text. text.items) c.args.read.now in
    asked_found (command_view c.args.command) texts _ c.look-in-Simplify.result
    (simplified_source c.args.command.mode texts c.text_at-in-Simplify.result.now (option_copied c.text_after-in-Simplify.result) c.in-Simplify.field-0 c.in-Simplify.is c.text_at-in-Simplify.ensures c.text_after-in-Simplify.ensures) c.look-in-Simplify.ensures

pub returns-in-Conditions : goal.returns-in-Conditions
returns-in-Conditions c =
    let texts = map (λ text. text.items) c.args.read.now in
    asked_found (command_view c.args.command) texts _ c.look-in-Conditions.result
    (listed_source c.args.command.mode texts c.text_at-in-Conditions.result.now (option_copied c.text_after-in-Conditions.result) c.in-Conditions.is c.text_at-in-Conditions.ensures c.text_after-in-Conditions.ensures) c.look-in-Conditions.ensures
