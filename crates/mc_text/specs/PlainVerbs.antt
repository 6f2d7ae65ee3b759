-- The verbs of plain commands.
use Rattle.std.specs.Prelude.{ℕ, List, codes}
use Rattle.mc_text.specs.declared.plain_verb_words.PlainVerb.{PlainVerb}
use Rattle.mc_text.specs.declared.plain_verb_words.PlainVerb.TheVariants as verb

-- how a verb is written
abbrev pub text_of : PlainVerb → List ℕ
text_of verb.Get = codes "get"
text_of verb.Gets = codes "gets"
text_of verb.Set = codes "set"
text_of verb.Add = codes "add"
text_of verb.Replace = codes "replace"
text_of verb.Cas = codes "cas"
text_of verb.Delete = codes "delete"
text_of verb.Incr = codes "incr"
text_of verb.Decr = codes "decr"
