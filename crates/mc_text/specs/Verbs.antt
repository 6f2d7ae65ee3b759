-- The verbs of commands, and the row that a table has for each.
use Rattle.std.specs.Prelude.{ℕ, Bool, true, false, ◌≡◌, List, [], ◌∷◌, Contains, codes}
use Rattle.mc_text.specs.PlainVerbs as plain_verbs
use Rattle.mc_text.specs.declared.plain_verb_words.PlainVerb.TheVariants as plain
use Rattle.mc_text.specs.declared.verb_words.LeaseVerb.{LeaseVerb}
use Rattle.mc_text.specs.declared.verb_words.LeaseVerb.TheVariants as lease
use Rattle.mc_text.specs.declared.verb_words.Verb.{Verb}
use Rattle.mc_text.specs.declared.verb_words.Verb.TheVariants.{Lease, Plain}
use Rattle.mc_text.specs.declared.verbs.Row.{Row}
use Rattle.mc_text.specs.declared.verbs.VerbRow.{VerbRow}

-- what a row says of its verb
pub record TableRow : Type 0 where
  pub which : Verb
  -- the word that stands first in the line
  pub word : List ℕ
  -- how many words stand behind it, where that number is fixed; a transaction counts as one
  pub fields : ℕ
  -- whether a block of data follows the line
  pub block : Bool
  -- the number of the row, from 1
  pub number : ℕ

-- a row that was found, as contracts see it
abbrev pub seen : VerbRow → TableRow
seen row = record { which = row.which; word = row.verb.now; fields = row.fields; block = row.block; number = row.number }

-- how a verb of a lease command is written
abbrev pub lease_text : LeaseVerb → List ℕ
lease_text lease.Begin = codes "begin"
lease_text lease.IqGet = codes "iqget"
lease_text lease.Ask = codes "ask"
lease_text lease.Stage = codes "stage"
lease_text lease.IqSet = codes "iqset"
lease_text lease.QaReg = codes "qareg"
lease_text lease.QaRead = codes "qaread"
lease_text lease.IqDelta = codes "iqdelta"
lease_text lease.Sql = codes "sql"
lease_text lease.Dar = codes "dar"
lease_text lease.Sar = codes "sar"
lease_text lease.IqCommit = codes "iqcommit"
lease_text lease.IqAbort = codes "iqabort"
lease_text lease.Quit = codes "quit"

-- how a verb is written
abbrev pub text_of : Verb → List ℕ
text_of (Lease verb) = lease_text verb
text_of (Plain verb) = plain_verbs.text_of verb

-- a row that is kept, as contracts see it
abbrev pub row_of : Row → TableRow
row_of row = record { which = row.which; word = text_of row.which; fields = row.fields; block = row.block; number = row.number }

-- the row stands in the table, and this word is its verb
pub record IsRowOf (table : List TableRow) (word : List ℕ) (row : TableRow) : Type 0 where
  pub listed : Contains table row
  pub word_is : row.word ≡ word
  pub verb_is : text_of row.which ≡ word

-- no row of the table has this word
abbrev pub IsNoVerb : List TableRow → List ℕ → Type 0
IsNoVerb table word = (row : TableRow) → IsRowOf table word row → ⊥

-- a row, with no block behind the line
abbrev pub line_row : ℕ → Verb → ℕ → TableRow
line_row number verb fields = record { which = verb; word = text_of verb; fields = fields; block = false; number = number }

-- a row, with a block behind the line
abbrev pub block_row : ℕ → Verb → ℕ → TableRow
block_row number verb fields = record { which = verb; word = text_of verb; fields = fields; block = true; number = number }

-- the verbs of the lease commands
abbrev pub lease_rows : List TableRow
lease_rows =
    line_row 1 (Lease lease.Begin) 1
    ∷ line_row 2 (Lease lease.IqGet) 3
    ∷ line_row 3 (Lease lease.Ask) 2
    ∷ line_row 4 (Lease lease.Stage) 3
    ∷ block_row 5 (Lease lease.IqSet) 6
    ∷ line_row 6 (Lease lease.QaReg) 2
    ∷ line_row 7 (Lease lease.QaRead) 2
    ∷ line_row 8 (Lease lease.IqDelta) 3
    ∷ line_row 9 (Lease lease.Sql) 2
    ∷ line_row 10 (Lease lease.Dar) 2
    ∷ block_row 11 (Lease lease.Sar) 5
    ∷ line_row 12 (Lease lease.IqCommit) 2
    ∷ line_row 13 (Lease lease.IqAbort) 1
    ∷ line_row 14 (Lease lease.Quit) 0
    ∷ []

-- the verbs of the plain commands
abbrev pub plain_rows : List TableRow
plain_rows =
    line_row 15 (Plain plain.Get) 1
    ∷ line_row 16 (Plain plain.Gets) 1
    ∷ block_row 17 (Plain plain.Set) 4
    ∷ block_row 18 (Plain plain.Add) 4
    ∷ block_row 19 (Plain plain.Replace) 4
    ∷ block_row 20 (Plain plain.Cas) 5
    ∷ line_row 21 (Plain plain.Delete) 1
    ∷ line_row 22 (Plain plain.Incr) 2
    ∷ line_row 23 (Plain plain.Decr) 2
    ∷ []
