-- What stands for a word where none is named.
use Rattle.std.specs.Prelude.{[]}
use Rattle.log_word.specs.Passes.{WordView}

abbrev pub no_word : WordView
no_word = record {
  id = record { words = 0; slots = 0; views_name = 0; atom = 0; block = 0; offset = 0; slot_names = [] };
  shards = 1;
}
