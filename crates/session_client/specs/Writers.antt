-- What contracts see of a writer, and what always holds of it.
use Rattle.std.specs.Prelude.{ℕ, ◌≡◌, ◌≤◌, ◌<◌, ◌+◌, List, [], ◌∷◌, All, length, map, drop, Option}
use Rattle.std.specs.Option.{option_map, option_and_then}
use Rattle.rows_model.specs.declared.keys.QKey.{QKey}
use Rattle.rows_model.specs.declared.changes.Change.{Change}
use Rattle.rows_model.specs.Refresh.{refreshed}
use Rattle.lease_table.specs.declared.records.Mode.{Mode}
use Rattle.lease_table.specs.declared.records.Mode.TheVariants as modes
use Rattle.key_shard.specs.Permit.{Permit}
use Rattle.session_client.specs.Grants.{GrantsView}
use Rattle.session_client.specs.Wants.{Given, Then, Commits, Looks, Quits, Raises, Renews, Writing, Keeps, Drops, Finishes}
use Rattle.session_client.specs.Wants as wants
use Rattle.session_client.specs.declared.stages.Next.{Next}
use Rattle.session_client.specs.declared.stages.Next.TheVariants as nexts
use Rattle.session_client.specs.declared.stages.Release.{Release}
use Rattle.session_client.specs.declared.stages.Release.TheVariants as releases
use Rattle.session_client.specs.declared.stages.WriteStage.{WriteStage}
use Rattle.session_client.specs.declared.stages.WriteStage.TheVariants as stages

-- What contracts see of what a writer was given: for how many grants there is room, what the grants said, those in its hands, and the values beside those.
pub record HandView : Type 0 where
  pub room : ℕ
  pub given : List Permit
  pub grants : GrantsView
  pub values : List (Option (List ℕ))

-- What contracts see of a writer: its mode, the keys that it quarantines in turn, what it does then, what it was given, and where it stands.
pub record WriterView : Type 0 where
  pub mode : Mode
  pub keys : List QKey
  pub next : Next
  pub hand : HandView
  pub stage : WriteStage

-- What a writer does then, in the words of what sessions want.
abbrev pub then_as : Next → Then
then_as nexts.Commit = Commits
then_as (nexts.Look key) = Looks key
then_as nexts.Quit = Quits
then_as nexts.Raise = Raises
then_as nexts.Renew = Renews

-- How a writer releases its grants, in the same words.
abbrev pub release_as : Release → wants.Release
release_as releases.Keep = Keeps
release_as releases.Drop = Drops
release_as (releases.Finish number) = Finishes number

-- How a writer of these changes writes.
abbrev pub writing_as : WriterView → List Change → Writing
writing_as writer changes =
    record { mode = writer.mode; keys = writer.keys; txn = changes; next = then_as writer.next }

-- The value that comes along with a grant, without its stamp.
abbrev pub old_value : Given → Option (List ℕ)
old_value one = option_map (λ (old : List ℕ × ℕ). old.0) one.old

-- The value beside a grant after the commit: its old one refreshed, where the grant is to refresh, and else as it was.
abbrev pub renewed_as : Mode → QKey → List Change → Option (List ℕ) → Option (List ℕ)
renewed_as modes.Invalidate key txn value = value
renewed_as modes.Refresh key txn value = option_and_then (λ old. refreshed key old txn) value
renewed_as modes.Delta key txn value = value

-- The value beside this grant after the commit.
abbrev pub renewed : List Change → Permit → Option (List ℕ) → Option (List ℕ)
renewed txn grant value = renewed_as grant.mode grant.key txn value

-- The values beside these grants after the commit.
abbrev pub all_renewed : List Change → List Permit → List (Option (List ℕ)) → List (Option (List ℕ))
all_renewed txn (grant ∷ grants) (value ∷ values) = renewed txn grant value ∷ all_renewed txn grants values
all_renewed txn [] values = values
all_renewed txn grants [] = []

-- The values that lie beside what was given once it is committed.
abbrev pub new_values : List Change → List Given → List (Option (List ℕ))
new_values txn ones = map (λ (one : Given). renewed txn one.permit (old_value one)) ones

-- The new value lies beside a grant that is to be finished; beside another anything may.
abbrev pub IsNewBeside : Release → List Change → Given → Option (List ℕ) → Type 0
IsNewBeside releases.Keep txn one value = Unit {0}
IsNewBeside releases.Drop txn one value = Unit {0}
IsNewBeside (releases.Finish number) txn one value = value ≡ renewed txn one.permit (old_value one)

-- A writer has each grant that it was given, a value beside each, and room for as many as it has keys.
abbrev pub HoldsAll : HandView → Type 0
HoldsAll hand =
    (length hand.grants.items ≡ length hand.given) × (length hand.values ≡ length hand.given)
    × (length hand.given ≤ hand.room) × (hand.room ≤ hand.grants.room)

-- A value lies beside each grant that a writer has, and there is room for these.
abbrev pub IsPaired : HandView → Type 0
IsPaired hand =
    (length hand.values ≡ length hand.grants.items) × (length hand.grants.items ≤ hand.grants.room)

-- The same, but that the grant at this place is out.
abbrev pub LacksOne : HandView → ℕ → Type 0
LacksOne hand place =
    (place < length hand.given) × (length hand.grants.items + 1 ≡ length hand.given) × (length hand.values ≡ length hand.given)
    × (length hand.given ≤ hand.room) × (hand.room ≤ hand.grants.room)

-- A writer that is to raise its quarantines makes them in mode invalidate.
abbrev pub Suits : Next → Mode → Type 0
Suits nexts.Raise mode = mode ≡ modes.Invalidate
Suits next mode = Unit {0}

-- Each of these grants is to invalidate.
abbrev pub AreToInvalidate : List Permit → Type 0
AreToInvalidate grants = All (λ grant. grant.mode ≡ modes.Invalidate) grants

-- And so each grant of its is to invalidate until it raises it.
abbrev pub AreFor : Next → List Permit → Type 0
AreFor nexts.Raise grants = AreToInvalidate grants
AreFor next grants = Unit {0}

-- There is room for the grants of the keys to come, and a grant is there to be released. What is still to be raised is to invalidate.
abbrev pub HasRoom : Next → List QKey → HandView → WriteStage → Type 0
HasRoom next keys hand (stages.Quarantining count txn) =
    (count < length keys) × (length hand.given ≤ count) × HoldsAll hand × (hand.grants.room ≡ length keys)
    × AreFor next hand.grants.items
HasRoom next keys hand (stages.Getting key txn) = HoldsAll hand
HasRoom next keys hand (stages.Staging key txn) = HoldsAll hand
HasRoom next keys hand stages.Asking = HoldsAll hand
HasRoom next keys hand (stages.Raising place txn) = HoldsAll hand × AreToInvalidate (drop place hand.grants.items)
HasRoom next keys hand (stages.Raised place txn) = LacksOne hand place × AreToInvalidate (drop place hand.grants.items)
HasRoom next keys hand (stages.Renewing place txn) = HoldsAll hand
HasRoom next keys hand (stages.Renewed place txn) = LacksOne hand place
HasRoom next keys hand (stages.Ready txn) = HoldsAll hand
HasRoom next keys hand stages.Committing =
    (length hand.values ≡ length hand.given) × (length hand.given ≤ hand.room)
HasRoom next keys hand (stages.Ending ended) = IsPaired hand
HasRoom next keys hand (stages.Releasing ended how) = (1 ≤ length hand.grants.items) × IsPaired hand
HasRoom next keys hand (stages.Returning ended how back) =
    (length hand.values ≡ length hand.grants.items) × (length hand.grants.items < hand.grants.room)
HasRoom next keys hand (stages.Dropping ended how) =
    (1 ≤ length hand.grants.items) × (length hand.values + 1 ≡ length hand.grants.items)
    × (length hand.grants.items ≤ hand.grants.room)
HasRoom next keys hand (stages.Done ended) = Unit {0}
