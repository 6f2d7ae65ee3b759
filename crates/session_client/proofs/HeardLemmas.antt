-- What a writer's record of what it heard says after one more reply.
use Rattle.std.proofs.Common.{◌≡◌, ◌<◌, ℕ, List, [], ◌∷◌, ◌++◌, length, Option, Some, None, slice_get, refl, ap, ◌∙◌, append-nil}
use Rattle.std.proofs.lemmas.Option.{slice_get_within}
use Rattle.rows_model.specs.declared.keys.QKey.{QKey}
use Rattle.rows_model.specs.declared.keys.Sid.{Sid}
use Rattle.lease_table.specs.declared.records.Mode.{Mode}
use Rattle.key_shard.specs.Permit.{Permit}
use Rattle.session_client.specs.declared.replies.Reply.{Reply}
use Rattle.session_client.specs.Follows.{QuarantineAwaits}
use Rattle.session_client.specs.Wants.{granted, granted_by, grants_in, turned}

-- a reply that brings no grant and changes none leaves what was granted
pub granted_none : (reply : Reply) (heard : List Reply) → grants_in reply ≡ []
    → granted_by reply (turned heard) (granted heard) ≡ granted heard → granted (reply ∷ heard) ≡ granted heard
granted_none reply heard e same =
    ap (λ (more : List Permit). granted_by reply (turned heard) (granted heard) ++ more) e
    ∙ append-nil (granted_by reply (turned heard) (granted heard)) ∙ same

-- a quarantine of a key that is there
pub record OfKey (who : Sid) (mode : Mode) (key : Option QKey) (reply : Reply) : Type 0 where
  pub key' : QKey
  pub some : key ≡ Some key'
  pub awaits : QuarantineAwaits who mode (Some key') reply

key_from : (who : Sid) (mode : Mode) (key : Option QKey) (reply : Reply) → QuarantineAwaits who mode key reply → OfKey who mode key reply
key_from who mode (Some k) reply h = record { key' = k; some = refl; awaits = h }
key_from who mode None reply h = elim h [ ]

-- a quarantine that is answered is that of a key
pub record OfPlace (who : Sid) (mode : Mode) (keys : List QKey) (count : ℕ) (reply : Reply) : Type 0 where
  pub within : count < length keys
  pub key : QKey
  pub awaits : QuarantineAwaits who mode (Some key) reply

pub awaited_key : (who : Sid) (mode : Mode) (keys : List QKey) (count : ℕ) (reply : Reply)
    → QuarantineAwaits who mode (slice_get keys count) reply → OfPlace who mode keys count reply
awaited_key who mode keys count reply h =
    let found = key_from who mode (slice_get keys count) reply h in
    record { within = slice_get_within keys count found.key' found.some; key = found.key'; awaits = found.awaits }
