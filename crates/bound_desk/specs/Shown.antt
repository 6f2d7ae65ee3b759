-- What a reply to a request on a shard tells the desk that made it.
use Rattle.std.specs.Prelude.{ℕ, ◌≡◌, ◌≢◌, pos, true, Bool, List, Some, None}
use Rattle.std.specs.Option.{ForSome}
use Rattle.rows_model.specs.declared.keys.QKey.{QKey}
use Rattle.rows_model.specs.declared.keys.Sid.{Sid}
use Rattle.rows_model.specs.Delta.{is_count}
use Rattle.rows_model.specs.Placement.{shard_of}
use Rattle.rows_model.specs.Rows.{Tables}
use Rattle.lease_table.specs.declared.records.Mode.TheVariants.{Invalidate, Refresh, Delta}
use Rattle.key_shard.specs.declared.replies.How.TheVariants as hows
use Rattle.key_shard.specs.declared.replies.Raising.{Raising}
use Rattle.key_shard.specs.declared.replies.Raising.TheVariants as raising
use Rattle.key_shard.specs.declared.replies.Rel.{Rel}
use Rattle.key_shard.specs.declared.replies.Rel.TheVariants as rel
use Rattle.key_shard.specs.declared.replies.Renewal.{Renewal}
use Rattle.key_shard.specs.declared.replies.Renewal.TheVariants as renewal
use Rattle.key_shard.specs.declared.steps.Step.{Step}
use Rattle.key_shard.specs.Permit.{Permit}
use Rattle.session_client.specs.declared.replies.Reply.{Reply}
use Rattle.session_client.specs.declared.replies.Wanted.{Wanted}
use Rattle.session_client.specs.declared.replies.Wanted.TheVariants as wanted
use Rattle.log_word.specs.declared.events.Short.{Short}
use Rattle.log_word.specs.declared.seen.Seen.{Seen}
use Rattle.bound_hub.specs.Gets.{got_short, IsGotFresh, IsGotHeld, IsLastStep}
use Rattle.bound_hub.specs.Olds.{IsGrantHeld, IsRaiseHeld}
use Rattle.bound_hub.specs.StepShorts.{quarantine_short, raise_short, release_short, renew_short, replace_short, set_short}
use Rattle.bound_desk.specs.Grants.{IsOldTold, IsRaiseTold}

-- The step of this short form, after which the key has an entry or has none, is the last of the key's shard that is seen.
abbrev pub IsLastOf : ℕ → QKey → (Bool → Short) → Seen → Type 0
IsLastOf shards key step seen = (has : Bool) × IsLastStep (shard_of key shards) (step has) seen

-- So is the step of a release that drops the key's value, unless it is Gone.
abbrev pub ShowsDrop : ℕ → Permit → Rel → Seen → Type 0
ShowsDrop shards grant answer seen =
    answer ≢ rel.Gone → IsLastOf shards grant.key (release_short grant.key grant.sid grant.token hows.Drop answer) seen

-- So is the step of a release with a new value, of a grant that is to refresh, unless it is Gone.
abbrev pub ShowsPut : ℕ → Permit → ℕ → Rel → Seen → Type 0
ShowsPut shards grant stamp answer seen =
    grant.mode ≡ Refresh → answer ≢ rel.Gone
    → IsLastOf shards grant.key (replace_short grant.key grant.sid grant.token stamp answer) seen

-- So is the step of a release that shifts the key's count, of a grant that is to shift, unless it is Gone.
abbrev pub ShowsShift : ℕ → Permit → ℕ → Rel → Seen → Type 0
ShowsShift shards grant stamp answer seen =
    grant.mode ≡ Delta → is_count grant.key ≡ true → answer ≢ rel.Gone
    → IsLastOf shards grant.key (release_short grant.key grant.sid grant.token (hows.Shift stamp) answer) seen

-- So is the step of a release that keeps the key's value, unless it is Gone.
abbrev pub ShowsKeep : ℕ → Permit → Rel → Seen → Type 0
ShowsKeep shards grant answer seen =
    answer ≢ rel.Gone → IsLastOf shards grant.key (release_short grant.key grant.sid grant.token hows.Keep answer) seen

-- So is the step of a raise, of a grant that is to invalidate, unless it is Gone. An old value comes along exactly where the
-- key has an entry then. It is held and right, unless it is seen that the store has stopped telling its rows.
abbrev pub ShowsRaising : Tables → (ℕ → List Step) → ℕ → Permit → Raising → Seen → Type 0
ShowsRaising opening before shards grant answer seen =
    grant.mode ≡ Invalidate
    → (answer ≢ raising.Gone → IsLastOf shards grant.key (raise_short grant.key grant.sid grant.token answer) seen)
    × IsRaiseHeld opening (before (shard_of grant.key shards)) (shard_of grant.key shards) seen grant.key answer
    × IsRaiseTold shards grant seen answer

-- So is the step of a renewal, unless it is Gone. For want of memory there is none.
abbrev pub ShowsRenewing : ℕ → Permit → Renewal → Seen → Type 0
ShowsRenewing shards grant answer seen =
    answer ≢ renewal.Gone → IsLastOf shards grant.key (renew_short grant.key grant.sid grant.token answer) seen

-- What a reply tells: the request's own step is the last that is seen of its shard. A hit is held by what is seen, and fresh,
-- and an old value is held and right, all but the first unless it is seen that the store has stopped telling its rows. An old value comes along exactly where the key
-- has an entry behind the quarantine. Of a fault `ShowsFault` tells.
abbrev pub ShowsReply : Tables → (ℕ → List Step) → ℕ → Sid → Wanted → Reply → Seen → Type 0
ShowsReply opening before shards who (wanted.Get key floor) (Reply.Got got) seen =
    IsLastOf shards key (got_short key who got) seen
    × IsGotHeld opening (before (shard_of key shards)) (shard_of key shards) seen key got
    × IsGotFresh opening (before (shard_of key shards)) (shard_of key shards) seen key got
ShowsReply opening before shards who (wanted.Set key token value stamp) (Reply.Set answer) seen =
    IsLastOf shards key (set_short key token stamp answer) seen
ShowsReply opening before shards who (wanted.QaReg key) (Reply.Quar answer) seen =
    IsLastOf shards key (quarantine_short key who Invalidate (pos 0) answer) seen
ShowsReply opening before shards who (wanted.QaRead key) (Reply.Quar answer) seen =
    IsLastOf shards key (quarantine_short key who Refresh (pos 0) answer) seen
    × IsGrantHeld opening (before (shard_of key shards)) (shard_of key shards) seen key answer
    × IsOldTold shards key who (pos 0) Refresh seen answer
ShowsReply opening before shards who (wanted.Delta key by) (Reply.Quar answer) seen =
    IsLastOf shards key (quarantine_short key who Delta by answer) seen
ShowsReply opening before shards who (wanted.Dar grant) (Reply.Rel answer) seen = ShowsDrop shards grant answer seen
ShowsReply opening before shards who (wanted.Sar grant (Some value) stamp) (Reply.Rel answer) seen = ShowsPut shards grant stamp answer seen
ShowsReply opening before shards who (wanted.Sar grant None stamp) (Reply.Rel answer) seen = ShowsDrop shards grant answer seen
ShowsReply opening before shards who (wanted.Apply grant stamp) (Reply.Rel answer) seen = ShowsShift shards grant stamp answer seen
ShowsReply opening before shards who (wanted.Abort grant) (Reply.Rel answer) seen = ShowsKeep shards grant answer seen
ShowsReply opening before shards who (wanted.Raise grant) (Reply.Raise answer) seen = ShowsRaising opening before shards grant answer seen
ShowsReply opening before shards who (wanted.Renew grant) (Reply.Renew back answer) seen =
    ForSome answer (λ found. ShowsRenewing shards grant found seen)
ShowsReply opening before shards who other reply seen = Unit {0}
