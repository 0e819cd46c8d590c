use Rattle.std.proofs.Common.{map}
use Rattle.std.specs.Prelude.{string_bytes}
use Rattle.clap.specs.Words.{app_of, found_of, kind_of, rows_of, subcommand_of, subcommand_rows_of}
use Rattle.po_words.proofs.Commands.{has_matches, refused, takes_all}
use Rattle.po_words.proofs.matching.matches_for.Goals as goal

pub returns-in-Ok : goal.returns-in-Ok
returns-in-Ok c =
    let words = map string_bytes c.args.words.now in
    let app = app_of c.in_ok-command.command in (
      takes_all c.args.mode app words c.in_ok-command.ensures c.in-Ok.ensures.kinds,
      has_matches c.args.mode app words (rows_of (found_of c.in-Ok.matches)) (λ a. subcommand_of a words)
          (subcommand_rows_of c.in-Ok.matches) c.in_ok-command.ensures c.in-Ok.ensures.matches,
    )

pub returns-then-is_refusal : goal.returns-then-is_refusal
returns-then-is_refusal c =
    let words = map string_bytes c.args.words.now in
    refused c.args.mode (app_of c.in_ok-command.command) words (kind_of c.in-Err.error) c.in_ok-command.ensures
    c.in-Err.ensures.kinds (c.is_refusal.ensures.0 c.if-is_refusal.true)
