-- The program's command line, as `clap` sees it.
use Rattle.std.specs.Prelude.{List, ℕ, true, Some, codes}
use Rattle.clap.specs.Words.{App, Rule, Shape, new_app, new_rule, with_rule, with_subcommand}
use Rattle.clap.specs.Simple.{on_top}

-- Five values, all of which are wanted.
abbrev pub values_rule : Rule
values_rule = record (new_rule (codes "values")) {
  range = Some (record { start_inclusive = 5; end_inclusive = 5 });
  value_names = 5;
  required = true;
}

-- The option `--db` with one value.
abbrev pub db_rule : Rule
db_rule = record (new_rule (codes "db")) { long = Some (codes "db"); value_names = 1 }

-- The option `--warm` with one value.
abbrev pub warm_rule : Rule
warm_rule = record (new_rule (codes "warm")) { long = Some (codes "warm"); value_names = 1 }

-- A command that may name a file.
abbrev pub with_db : List ℕ → App
with_db name = with_rule (new_app name) db_rule

-- A command that may name a file, with five values.
abbrev pub with_values : List ℕ → Shape
with_values name = (with_rule (with_db name) values_rule).top

-- The command that serves. It may also name the file of its cache.
abbrev pub serving : Shape
serving = (with_rule (with_rule (with_db (codes "serve")) warm_rule) values_rule).top

-- The program without a command. The words begin behind its name, and it wants one of its commands.
abbrev pub alone : App
alone = on_top (λ s. record s { no_binary_name = true; has_version = true; subcommand_required = true }) (new_app (codes "iq"))

-- The program with its four commands.
abbrev pub program : App
program =
    with_subcommand
    (with_subcommand (with_subcommand (with_subcommand alone (with_db (codes "replay")).top) (with_values (codes "work"))) serving)
    (with_values (codes "warm"))
