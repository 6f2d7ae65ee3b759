-- How a session is given up: it is ended at the store unless it has committed, and its grants are released.
use Rattle.std.specs.Prelude.{ℕ, ◌+◌, ◌≡◌, Bool, true, false, List, [], ◌∷◌, Option, Some, None}
use Rattle.rows_model.specs.declared.keys.Sid.{Sid}
use Rattle.key_shard.specs.Permit.{Permit}
use Rattle.key_shard.specs.declared.replies.Rel.{Rel}
use Rattle.key_shard.specs.declared.replies.Rel.TheVariants as rel
use Rattle.session_client.specs.Desks.{Exchange, Asked}
use Rattle.session_client.specs.declared.replies.Reply.TheVariants as desk
use Rattle.session_client.specs.declared.replies.Wanted.{Wanted}
use Rattle.session_client.specs.declared.replies.Wanted.TheVariants as wanted
use Rattle.conn_server.specs.declared.clients.Present.{Present}
use Rattle.conn_server.specs.declared.clients.Stage.{Stage}
use Rattle.conn_server.specs.declared.clients.Stage.TheVariants.{Reading, Open, Aborted, Committed}
use Rattle.conn_server.specs.declared.clients.Client.{Client}
use Rattle.conn_server.specs.Clients.{is_open, is_reading_stage}

-- how many quarantines a release ended: none where it stood no longer
abbrev pub ended_by : Rel → ℕ
ended_by (rel.Released evicted) = 1
ended_by rel.Gone = 0

-- the grants are released one after another, each in this way; so many of their quarantines ended
abbrev pub Releases : Sid → (Permit → Wanted) → List Permit → List Exchange → ℕ → Type 0
Releases who way [] calls count = (calls ≡ []) × (count ≡ 0)
Releases who way (grant ∷ grants) calls count =
    (answer : Rel) × (others : List Exchange) × (more : ℕ) × Releases who way grants others more
    × (calls ≡ Asked who (way grant) (desk.Rel answer) ∷ others) × (count ≡ ended_by answer + more)

-- the session is ended at the store, whether or not it was open there, and then its grants are released with their values kept
pub record Withdraws (who : Sid) (grants : List Permit) (calls : List Exchange) (count : ℕ) : Type 0 where
  pub was : Bool
  pub others : List Exchange
  pub calls_are : calls ≡ Asked who wanted.End (desk.End was) ∷ others
  pub releases : Releases who (λ grant. wanted.Abort grant) grants others count

-- a session that stands here is given up: a writer that hasn't committed is withdrawn; where it has, the values are dropped
abbrev pub GivesUp : Stage → Sid → List Permit → List Exchange → ℕ → Type 0
GivesUp Reading who grants calls count = (calls ≡ []) × (count ≡ 0)
GivesUp (Committed number) who grants calls count = Releases who (λ grant. wanted.Dar grant) grants calls count
GivesUp other who grants calls count = Withdraws who grants calls count

-- the client's session is given up, if it has one
abbrev pub Leaves : Option Present → List Permit → List Exchange → ℕ → Type 0
Leaves None grants calls count = (calls ≡ []) × (count ≡ 0)
Leaves (Some present) grants calls count = GivesUp present.stage present.sid grants calls count

-- where a session stands that was aborted: a commit can't be undone
abbrev pub aborted_stage : Stage → Stage
aborted_stage Open = Aborted
aborted_stage other = other

abbrev pub aborted : Present → Present
aborted present = record { sid = present.sid; stage = aborted_stage present.stage }

-- a session that may be aborted: it writes
abbrev pub MayAbort : Option Present → Type 0
MayAbort (Some present) = is_reading_stage present.stage ≡ false
MayAbort None = ⊥

-- a client without a session that writes holds no grant
abbrev pub OnlyWritersHold : Client → Type 0
OnlyWritersHold client = (MayAbort client.present → ⊥) → client.grants.items ≡ []

-- nothing is held: no session may commit any more, and none that writes has a grant; one that reads never has any
pub record HoldsNothing (client : Client) : Type 0 where
  pub ended : is_open client.present ≡ false
  pub released : MayAbort client.present → client.grants.items ≡ []

-- how the grants of a session are released: where it has committed, their values are dropped
abbrev pub release_way : Bool → Permit → Wanted
release_way true grant = wanted.Dar grant
release_way false grant = wanted.Abort grant
