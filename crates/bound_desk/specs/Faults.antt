-- What a desk is told in place of an answer.
use Rattle.std.specs.Prelude.{ℕ, List}
use Rattle.rows_model.specs.declared.keys.QKey.{QKey}
use Rattle.rows_model.specs.Placement.{shard_of}
use Rattle.key_shard.specs.declared.steps.Step.{Step}
use Rattle.key_shard.specs.Past.{Terms}
use Rattle.session_client.specs.declared.replies.Fault.{Fault}
use Rattle.session_client.specs.declared.replies.Fault.TheVariants as fault
use Rattle.session_client.specs.declared.replies.Reply.{Reply}
use Rattle.session_client.specs.declared.replies.Wanted.{Wanted}
use Rattle.session_client.specs.declared.replies.Wanted.TheVariants as wanted
use Rattle.log_word.specs.declared.seen.Seen.{Seen}
use Rattle.bound_hub.specs.Spent.{IsSeenSpent}

-- A shard that refused a request on this key had no token left, and that is seen; or memory ran out.
abbrev pub SeesRefusal : (ℕ → Terms) → (ℕ → List Step) → ℕ → QKey → Fault → Seen → Type 0
SeesRefusal terms before shards key fault.Spent seen =
    IsSeenSpent (terms (shard_of key shards)) (before (shard_of key shards)) (shard_of key shards) seen
SeesRefusal terms before shards key fault.Memory seen = Unit {0}
SeesRefusal terms before shards key fault.Keep seen = ⊥

-- So it is with a get and a quarantine that are answered with a fault.
abbrev pub ShowsFault : (ℕ → Terms) → (ℕ → List Step) → ℕ → Wanted → Reply → Seen → Type 0
ShowsFault terms before shards (wanted.Get key floor) (Reply.Fault cause) seen = SeesRefusal terms before shards key cause seen
ShowsFault terms before shards (wanted.QaReg key) (Reply.Fault cause) seen = SeesRefusal terms before shards key cause seen
ShowsFault terms before shards (wanted.QaRead key) (Reply.Fault cause) seen = SeesRefusal terms before shards key cause seen
ShowsFault terms before shards (wanted.Delta key by) (Reply.Fault cause) seen = SeesRefusal terms before shards key cause seen
ShowsFault terms before shards request reply seen = Unit {0}
