use Rattle.std.proofs.Common.{ℕ, List, map, subst}
use Rattle.std.specs.Prelude.{IfSome}
use Rattle.clap.specs.Words.{app_of, kind_of, subcommand_rows_of}
use Rattle.run_words.specs.Reading.{AreGiven}
use Rattle.run_words.proofs.ReadLemmas.{AreTakenBy, Refuses, refused, refuses, said, taken, text_said}
use Rattle.run_words.proofs.reading.read_texts.Goals as goal

pub returns-in-Some-clause-said : goal.returns-in-Some-clause-said
returns-in-Some-clause-said c =
    let words : List (List ℕ) = map (λ text. text.now) c.args.texts.now in
    let m = c.in-Ok.matches in
    let t : AreTakenBy words m = taken (app_of c.in_ok-program.program) words m c.in_ok-program.ensures c.in-Ok.ensures.matches c.in-Ok.ensures.kinds in
    said words m t c.in-Some.command
    (subst (λ found. IfSome found (AreGiven (subcommand_rows_of m))) c.in-Some.is c.in_ok-command-in-Ok.ensures.found)

pub returns-clause-said : goal.returns-clause-said
returns-clause-said c =
    let words : List (List ℕ) = map (λ text. text.now) c.args.texts.now in
    let r : Refuses words (kind_of c.in-Err.error) =
    refuses (app_of c.in_ok-program.program) words (kind_of c.in-Err.error) c.in_ok-program.ensures c.in-Err.ensures.kinds in
    text_said words (kind_of c.in-Err.error) c.text_by.result r c.text_by.ensures

pub returns-clause-usage : goal.returns-clause-usage
returns-clause-usage c =
    let words : List (List ℕ) = map (λ text. text.now) c.args.texts.now in
    let r : Refuses words (kind_of c.in-Err.error) =
    refuses (app_of c.in_ok-program.program) words (kind_of c.in-Err.error) c.in_ok-program.ensures c.in-Err.ensures.kinds in
    refused words (kind_of c.in-Err.error) c.text_by.result r c.text_by.ensures
