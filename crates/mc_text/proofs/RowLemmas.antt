-- The words of no command of a verb, where they don't fit the one command of that verb.
use Rattle.std.proofs.Common.{ℕ, ℤ, List, Option}
use Rattle.rows_model.specs.declared.keys.QKey.{QKey}
use Rattle.rows_model.specs.declared.keys.Sid.{Sid}
use Rattle.rows_model.specs.declared.changes.Change.{Change}
use Rattle.mc_text.specs.declared.commands.Command.TheVariants.{Ask, Stage, IqSet, QaReg, QaRead, IqDelta, Sql, Dar, Sar, IqCommit}
use Rattle.mc_text.specs.declared.verb_words.LeaseVerb.TheVariants as lease
use Rattle.mc_text.specs.Commands.{AreArgs}
use Rattle.mc_text.specs.Parsing.{IsUnsaid}

pub only_ask : (words : List (List ℕ)) → ((key : Option QKey) (sid : Sid) → AreArgs (Ask key sid) words → ⊥) → IsUnsaid lease.Ask words
only_ask words none (Ask key sid) h = none key sid h.args
only_ask words none command h = let e = h.verb_is in cc

pub only_stage : (words : List (List ℕ)) → ((key : Option QKey) (sid : Sid) (txn : List Change) → AreArgs (Stage key sid txn) words → ⊥) → IsUnsaid lease.Stage words
only_stage words none (Stage key sid txn) h = none key sid txn h.args
only_stage words none command h = let e = h.verb_is in cc

pub only_iqset : (words : List (List ℕ)) → ((key : Option QKey) (flags : ℕ) (exptime : ℕ) (bytes : ℕ) (token : ℕ) (stamp : ℕ) (block : List ℕ)
    → AreArgs (IqSet key flags exptime bytes token stamp block) words → ⊥) → IsUnsaid lease.IqSet words
only_iqset words none (IqSet key flags exptime bytes token stamp block) h = none key flags exptime bytes token stamp block h.args
only_iqset words none command h = let e = h.verb_is in cc

pub only_qareg : (words : List (List ℕ)) → ((key : Option QKey) (sid : Sid) → AreArgs (QaReg key sid) words → ⊥) → IsUnsaid lease.QaReg words
only_qareg words none (QaReg key sid) h = none key sid h.args
only_qareg words none command h = let e = h.verb_is in cc

pub only_qaread : (words : List (List ℕ)) → ((key : Option QKey) (sid : Sid) → AreArgs (QaRead key sid) words → ⊥) → IsUnsaid lease.QaRead words
only_qaread words none (QaRead key sid) h = none key sid h.args
only_qaread words none command h = let e = h.verb_is in cc

pub only_iqdelta : (words : List (List ℕ)) → ((key : Option QKey) (sid : Sid) (by : ℤ) → AreArgs (IqDelta key sid by) words → ⊥) → IsUnsaid lease.IqDelta words
only_iqdelta words none (IqDelta key sid by) h = none key sid by h.args
only_iqdelta words none command h = let e = h.verb_is in cc

pub only_sql : (words : List (List ℕ)) → ((sid : Sid) (txn : List Change) → AreArgs (Sql sid txn) words → ⊥) → IsUnsaid lease.Sql words
only_sql words none (Sql sid txn) h = none sid txn h.args
only_sql words none command h = let e = h.verb_is in cc

pub only_dar : (words : List (List ℕ)) → ((key : Option QKey) (sid : Sid) → AreArgs (Dar key sid) words → ⊥) → IsUnsaid lease.Dar words
only_dar words none (Dar key sid) h = none key sid h.args
only_dar words none command h = let e = h.verb_is in cc

pub only_sar : (words : List (List ℕ)) → ((key : Option QKey) (flags : ℕ) (exptime : ℕ) (bytes : ℕ) (sid : Sid) (block : List ℕ)
    → AreArgs (Sar key flags exptime bytes sid block) words → ⊥) → IsUnsaid lease.Sar words
only_sar words none (Sar key flags exptime bytes sid block) h = none key flags exptime bytes sid block h.args
only_sar words none command h = let e = h.verb_is in cc

pub only_iqcommit : (words : List (List ℕ)) → ((key : Option QKey) (sid : Sid) → AreArgs (IqCommit key sid) words → ⊥) → IsUnsaid lease.IqCommit words
only_iqcommit words none (IqCommit key sid) h = none key sid h.args
only_iqcommit words none command h = let e = h.verb_is in cc
