-- The commands: which words say which.
use Rattle.std.specs.Prelude.{ℕ, ◌≡◌, ◌||◌, Bool, true, false, List, [], ◌∷◌, Option, Some, None, is_some, codes, ⊤}
use Rattle.mc_text.specs.declared.verb_words.LeaseVerb.{LeaseVerb}
use Rattle.mc_text.specs.declared.verb_words.LeaseVerb.TheVariants as lease
use Rattle.mc_text.specs.Verbs.{lease_text, IsNoVerb, lease_rows}
use Rattle.mc_text.specs.declared.commands.Role.{Role}
use Rattle.mc_text.specs.declared.commands.Role.TheVariants.{Read, Write}
use Rattle.mc_text.specs.declared.commands.Command.{Command}
use Rattle.mc_text.specs.declared.commands.Command.TheVariants.{Begin, IqGet, Ask, Stage, IqSet, QaReg, QaRead, IqDelta, Sql, Dar, Sar}
use Rattle.mc_text.specs.declared.commands.Command.TheVariants.{IqCommit, IqAbort, Quit, Unknown}
use Rattle.mc_text.specs.Words.{IsKey, IsNumber, IsFlags, IsSid, IsBy}
use Rattle.change_words.specs.Txns.{AreTxnWords}

-- the words are one of this kind, and then others of that kind
abbrev pub Then : (List ℕ → Type 0) → (List (List ℕ) → Type 0) → List (List ℕ) → Type 0
Then IsFirst AreOthers [] = ⊥
Then IsFirst AreOthers (word ∷ words) = IsFirst word × AreOthers words

-- there is no word more
abbrev pub NoMore : List (List ℕ) → Type 0
NoMore words = words ≡ []

-- the word of a role
abbrev pub role_word : Role → List ℕ
role_word Read = codes "read"
role_word Write = codes "write"

-- the verb of a command, if it has one
abbrev pub verb_of : Command → Option LeaseVerb
verb_of (Begin role) = Some lease.Begin
verb_of (IqGet key sid floor) = Some lease.IqGet
verb_of (Ask key sid) = Some lease.Ask
verb_of (Stage key sid txn) = Some lease.Stage
verb_of (IqSet key flags exptime bytes token stamp block) = Some lease.IqSet
verb_of (QaReg key sid) = Some lease.QaReg
verb_of (QaRead key sid) = Some lease.QaRead
verb_of (IqDelta key sid by) = Some lease.IqDelta
verb_of (Sql sid txn) = Some lease.Sql
verb_of (Dar key sid) = Some lease.Dar
verb_of (Sar key flags exptime bytes sid block) = Some lease.Sar
verb_of (IqCommit key sid) = Some lease.IqCommit
verb_of (IqAbort sid) = Some lease.IqAbort
verb_of Quit = Some lease.Quit
verb_of Unknown = None

-- how it is written
abbrev pub written : Option LeaseVerb → List ℕ
written (Some verb) = lease_text verb
written None = []

-- the words behind the verb
abbrev pub AreArgs : Command → List (List ℕ) → Type 0
AreArgs (Begin role) = Then (λ word. word ≡ role_word role) NoMore
AreArgs (IqGet key sid floor) = Then (λ word. IsKey word key) (Then (λ word. IsSid word sid) (Then (λ word. IsNumber word floor) NoMore))
AreArgs (Ask key sid) = Then (λ word. IsKey word key) (Then (λ word. IsSid word sid) NoMore)
AreArgs (Stage key sid txn) = Then (λ word. IsKey word key) (Then (λ word. IsSid word sid) (AreTxnWords txn))
AreArgs (IqSet key flags exptime bytes token stamp block) =
    Then (λ word. IsKey word key) (Then (λ word. IsFlags word flags)
    (Then (λ word. IsNumber word exptime)
    (Then (λ word. IsNumber word bytes) (Then (λ word. IsNumber word token) (Then (λ word. IsNumber word stamp) NoMore)))))
AreArgs (QaReg key sid) = Then (λ word. IsKey word key) (Then (λ word. IsSid word sid) NoMore)
AreArgs (QaRead key sid) = Then (λ word. IsKey word key) (Then (λ word. IsSid word sid) NoMore)
AreArgs (IqDelta key sid by) = Then (λ word. IsKey word key) (Then (λ word. IsSid word sid) (Then (λ word. IsBy word by) NoMore))
AreArgs (Sql sid txn) = Then (λ word. IsSid word sid) (AreTxnWords txn)
AreArgs (Dar key sid) = Then (λ word. IsKey word key) (Then (λ word. IsSid word sid) NoMore)
AreArgs (Sar key flags exptime bytes sid block) =
    Then (λ word. IsKey word key)
    (Then (λ word. IsFlags word flags) (Then (λ word. IsNumber word exptime) (Then (λ word. IsNumber word bytes) (Then (λ word. IsSid word sid) NoMore))))
AreArgs (IqCommit key sid) = Then (λ word. IsKey word key) (Then (λ word. IsSid word sid) NoMore)
AreArgs (IqAbort sid) = Then (λ word. IsSid word sid) NoMore
AreArgs Quit = NoMore
AreArgs Unknown = λ words. ⊥

-- there is no word, or the first one is no verb
abbrev pub AreUnknown : List (List ℕ) → Type 0
AreUnknown [] = ⊤
AreUnknown (word ∷ words) = IsNoVerb lease_rows word

-- the words of a command's line; they leave the block behind it open
abbrev pub AreWords : Command → List (List ℕ) → Type 0
AreWords Unknown words = AreUnknown words
AreWords command [] = ⊥
AreWords command (word ∷ words) = (word ≡ written (verb_of command)) × AreArgs command words

-- how many bytes the line says that the block behind it has, if it has one
abbrev pub announced : Command → Option ℕ
announced (IqSet key flags exptime bytes token stamp block) = Some bytes
announced (Sar key flags exptime bytes sid block) = Some bytes
announced command = None

-- whether a command has a transaction in its line
abbrev pub has_txn : Command → Bool
has_txn (Stage key sid txn) = true
has_txn (Sql sid txn) = true
has_txn command = false

-- whether a command is read with memory: it has a transaction or a block
abbrev pub has_body : Command → Bool
has_body command = has_txn command || is_some (announced command)

-- the block of a command that has one
abbrev pub block_of : Command → List ℕ
block_of (IqSet key flags exptime bytes token stamp block) = block
block_of (Sar key flags exptime bytes sid block) = block
block_of command = []
