-- A line says what the words behind its verb say, since a word tells its verb.
use Rattle.std.proofs.Common.{ℕ, ◌+◌, ◌*◌, ◌==◌, ◌≡◌, Bool, true, false, List, [], ◌∷◌, get_or, Option, Some, None, arith, refl, sym, ap, ◌∙◌}
use Rattle.std.specs.Prelude.{if◌then◌else◌, Result, Ok, Err, IfOk, OnErr}
use Rattle.rows_model.specs.declared.refusals.Memory.{Memory}
use Rattle.std.specs.List.{list_all}
use Rattle.std.proofs.lemmas.Bool.{false≢true}
use Rattle.std.proofs.lemmas.List.Folds.{list_all_at}
use Rattle.mc_text.specs.declared.plain_verb_words.PlainVerb.{PlainVerb}
use Rattle.mc_text.specs.declared.plain_verb_words.PlainVerb.TheVariants as plain
use Rattle.mc_text.specs.declared.verb_words.LeaseVerb.{LeaseVerb}
use Rattle.mc_text.specs.declared.verb_words.LeaseVerb.TheVariants as lease
use Rattle.mc_text.specs.declared.verb_words.Verb.{Verb}
use Rattle.mc_text.specs.declared.verb_words.Verb.TheVariants.{Lease, Plain}
use Rattle.mc_text.specs.Verbs.{TableRow, lease_text, text_of, IsRowOf, IsNoVerb, line_row, block_row, lease_rows}
use Rattle.mc_text.specs.declared.commands.Command.{Command}
use Rattle.mc_text.specs.declared.commands.Command.TheVariants.{Unknown}
use Rattle.mc_text.specs.declared.lines.Said.{Said}
use Rattle.mc_text.specs.declared.lines.Said.TheVariants.{Whole, Headed, Bad}
use Rattle.mc_text.specs.Commands.{verb_of, written, AreArgs, AreWords, AreUnknown}
use Rattle.mc_text.specs.Parsing.{IsSaid, with_block}
use Rattle.mc_text.specs.Telling.{Tells, TellsTxn, WordsSay, SayTxn}

-- the first five letters of a word, as one number
abbrev pub letters : List ℕ → ℕ
letters word =
    get_or word 0 0 + 256 * get_or word 1 0 + 65536 * get_or word 2 0 + 16777216 * get_or word 3 0 + 4294967296 * get_or word 4 0

-- the verb that begins with these letters
abbrev verb_with : ℕ → Verb
verb_with n =
    if n == 474214786402 then Lease lease.Begin else
    if n == 499917484393 then Lease lease.IqGet else
    if n == 7041889 then Lease lease.Ask else
    if n == 435526136947 then Lease lease.Stage else
    if n == 499918270825 then Lease lease.IqSet else
    if n == 444083626353 then Lease lease.QaReg else
    if n == 418313822577 then Lease lease.QaRead else
    if n == 465557549417 then Lease lease.IqDelta else
    if n == 7106931 then Lease lease.Sql else
    if n == 7496036 then Lease lease.Dar else
    if n == 7496051 then Lease lease.Sar else
    if n == 470020223337 then Lease lease.IqCommit else
    if n == 478391923049 then Lease lease.IqAbort else
    if n == 1953068401 then Lease lease.Quit else
    if n == 7628135 then Plain plain.Get else
    if n == 1937007975 then Plain plain.Gets else
    if n == 7628147 then Plain plain.Set else
    if n == 6579297 then Plain plain.Add else
    if n == 418431133042 then Plain plain.Replace else
    if n == 7561571 then Plain plain.Cas else
    if n == 499917808996 then Plain plain.Delete else
    if n == 1919118953 then Plain plain.Incr else
    Plain plain.Decr

-- the letters of a verb tell it
verb_back : (verb : Verb) → verb_with (letters (text_of verb)) ≡ verb
verb_back (Lease lease.Begin) = refl
verb_back (Lease lease.IqGet) = refl
verb_back (Lease lease.Ask) = refl
verb_back (Lease lease.Stage) = refl
verb_back (Lease lease.IqSet) = refl
verb_back (Lease lease.QaReg) = refl
verb_back (Lease lease.QaRead) = refl
verb_back (Lease lease.IqDelta) = refl
verb_back (Lease lease.Sql) = refl
verb_back (Lease lease.Dar) = refl
verb_back (Lease lease.Sar) = refl
verb_back (Lease lease.IqCommit) = refl
verb_back (Lease lease.IqAbort) = refl
verb_back (Lease lease.Quit) = refl
verb_back (Plain plain.Get) = refl
verb_back (Plain plain.Gets) = refl
verb_back (Plain plain.Set) = refl
verb_back (Plain plain.Add) = refl
verb_back (Plain plain.Replace) = refl
verb_back (Plain plain.Cas) = refl
verb_back (Plain plain.Delete) = refl
verb_back (Plain plain.Incr) = refl
verb_back (Plain plain.Decr) = refl

-- verbs that are written alike are the same
pub verb_once : (v w : Verb) → text_of v ≡ text_of w → v ≡ w
verb_once v w e = sym (verb_back v) ∙ (ap (λ (text : List ℕ). verb_with (letters text)) e ∙ verb_back w)

pub lease_once : (v w : LeaseVerb) → lease_text v ≡ lease_text w → v ≡ w
lease_once v w e = let same = verb_once (Lease v) (Lease w) e in cc

-- the row of a lease command's verb
abbrev pub row_of : LeaseVerb → TableRow
row_of lease.Begin = line_row 1 (Lease lease.Begin) 1
row_of lease.IqGet = line_row 2 (Lease lease.IqGet) 3
row_of lease.Ask = line_row 3 (Lease lease.Ask) 2
row_of lease.Stage = line_row 4 (Lease lease.Stage) 3
row_of lease.IqSet = block_row 5 (Lease lease.IqSet) 6
row_of lease.QaReg = line_row 6 (Lease lease.QaReg) 2
row_of lease.QaRead = line_row 7 (Lease lease.QaRead) 2
row_of lease.IqDelta = line_row 8 (Lease lease.IqDelta) 3
row_of lease.Sql = line_row 9 (Lease lease.Sql) 2
row_of lease.Dar = line_row 10 (Lease lease.Dar) 2
row_of lease.Sar = block_row 11 (Lease lease.Sar) 5
row_of lease.IqCommit = line_row 12 (Lease lease.IqCommit) 2
row_of lease.IqAbort = line_row 13 (Lease lease.IqAbort) 1
row_of lease.Quit = line_row 14 (Lease lease.Quit) 0

-- it is in the table
in_table : (verb : LeaseVerb) → IsRowOf lease_rows (lease_text verb) (row_of verb)
in_table lease.Begin = record { listed = (0, omega arith, refl); word_is = refl; verb_is = refl }
in_table lease.IqGet = record { listed = (1, omega arith, refl); word_is = refl; verb_is = refl }
in_table lease.Ask = record { listed = (2, omega arith, refl); word_is = refl; verb_is = refl }
in_table lease.Stage = record { listed = (3, omega arith, refl); word_is = refl; verb_is = refl }
in_table lease.IqSet = record { listed = (4, omega arith, refl); word_is = refl; verb_is = refl }
in_table lease.QaReg = record { listed = (5, omega arith, refl); word_is = refl; verb_is = refl }
in_table lease.QaRead = record { listed = (6, omega arith, refl); word_is = refl; verb_is = refl }
in_table lease.IqDelta = record { listed = (7, omega arith, refl); word_is = refl; verb_is = refl }
in_table lease.Sql = record { listed = (8, omega arith, refl); word_is = refl; verb_is = refl }
in_table lease.Dar = record { listed = (9, omega arith, refl); word_is = refl; verb_is = refl }
in_table lease.Sar = record { listed = (10, omega arith, refl); word_is = refl; verb_is = refl }
in_table lease.IqCommit = record { listed = (11, omega arith, refl); word_is = refl; verb_is = refl }
in_table lease.IqAbort = record { listed = (12, omega arith, refl); word_is = refl; verb_is = refl }
in_table lease.Quit = record { listed = (13, omega arith, refl); word_is = refl; verb_is = refl }

pub listed : (word : List ℕ) (verb : LeaseVerb) → word ≡ lease_text verb → IsRowOf lease_rows word (row_of verb)
listed word verb w = rw w (in_table verb)

-- what each row of the table passes
row_passes : (p : TableRow → Bool) → list_all p lease_rows ≡ true → (word : List ℕ) (row : TableRow) → IsRowOf lease_rows word row → p row ≡ true
row_passes p all word row h = tested _ refl
  where
    tested : (b : Bool) → p row ≡ b → p row ≡ true
    tested true e = e
    tested false e =
        let (k, within, at) = h.listed in
        let off : p (get_or lease_rows k row) ≡ false = ap p at ∙ e in
        absurd (false≢true (sym (list_all_at p lease_rows k row within off) ∙ all))

abbrev is_lease : Verb → Bool
is_lease (Lease verb) = true
is_lease (Plain verb) = false

-- the table has no verb of a plain command
pub no_plain : (word : List ℕ) (row : TableRow) (verb : PlainVerb) → IsRowOf lease_rows word row → row.which ≡ Plain verb → ⊥
no_plain word row verb h e = false≢true (sym (ap is_lease e) ∙ row_passes (λ r. is_lease r.which) refl word row h)

no_text : (verb : LeaseVerb) → [] ≡ lease_text verb → ⊥
no_text lease.Begin e = cc
no_text lease.IqGet e = cc
no_text lease.Ask e = cc
no_text lease.Stage e = cc
no_text lease.IqSet e = cc
no_text lease.QaReg e = cc
no_text lease.QaRead e = cc
no_text lease.IqDelta e = cc
no_text lease.Sql e = cc
no_text lease.Dar e = cc
no_text lease.Sar e = cc
no_text lease.IqCommit e = cc
no_text lease.IqAbort e = cc
no_text lease.Quit e = cc

-- a verb is told by how it is written
same_verb : (said : Option LeaseVerb) (verb : LeaseVerb) → written said ≡ lease_text verb → said ≡ Some verb
same_verb (Some other) verb e = ap (λ (v : LeaseVerb). Some v) (lease_once other verb e)
same_verb None verb e = absurd (no_text verb e)

-- a verb and the words behind it are the words of a command
says : (command : Command) (verb : LeaseVerb) (word : List ℕ) (words : List (List ℕ))
    → verb_of command ≡ Some verb → word ≡ lease_text verb → AreArgs command words → AreWords command (word ∷ words)
says Unknown verb word words v w h = absurd h
says command verb word words v w h = (w ∙ ap written (sym v), h)

-- the words of a command are a verb and the words behind it, where the first word is a verb
unsays : (word : List ℕ) (verb : LeaseVerb) → word ≡ lease_text verb
    → (command : Command) (words : List (List ℕ)) → AreWords command (word ∷ words) → IsSaid verb words command
unsays word verb w Unknown words h = absurd (h (row_of verb) (listed word verb w))
unsays word verb w command words h = record { verb_is = same_verb (verb_of command) verb (sym h.0 ∙ w); args = h.1 }

-- what a line says whose first word is a verb
pub told_line : (words args : List (List ℕ)) (word : List ℕ) (verb : LeaseVerb) (said : Said)
    → words ≡ word ∷ args → word ≡ lease_text verb → Tells verb args said → WordsSay words said
told_line words args word verb (Whole command) e w h = (rw e (says command verb word args h.0.verb_is w h.0.args), h.1)
told_line words args word verb (Headed head) e w h = rw e (says (with_block head []) verb word args h.verb_is w h.args)
told_line words args word verb Bad e w h =
    rw e (record { verb = (row_of verb, listed word verb w); none = λ command k. h command (unsays word verb w command args k) })

pub line_told : (words args : List (List ℕ)) (word : List ℕ) (verb : LeaseVerb) (read : Result Said Memory)
    → words ≡ word ∷ args → word ≡ lease_text verb
    → IfOk read (λ said. Tells verb args said) → IfOk read (λ said. WordsSay words said)
line_told words args word verb (Ok said) e w h = told_line words args word verb said e w h
line_told words args word verb (Err fault) e w h = h

-- a line whose first word is no verb
pub unknown_line : (words args : List (List ℕ)) (word : List ℕ) → words ≡ word ∷ args → IsNoVerb lease_rows word → AreUnknown words
unknown_line words args word e none = rw e none

-- a line whose verb has a transaction
pub txn_told : (words args : List (List ℕ)) (word : List ℕ) (verb : LeaseVerb) → words ≡ word ∷ args → word ≡ lease_text verb → TellsTxn verb args → SayTxn words
txn_told words args word verb e w h = record { said = h.said; says = rw e (says h.said verb word args h.is.verb_is w h.is.args); txn = h.txn }

pub txn_line : (words args : List (List ℕ)) (word : List ℕ) (verb : LeaseVerb) (read : Result Said Memory)
    → words ≡ word ∷ args → word ≡ lease_text verb → OnErr read (TellsTxn verb args) → OnErr read (SayTxn words)
txn_line words args word verb (Ok said) e w h = h
txn_line words args word verb (Err fault) e w h = txn_told words args word verb e w h
