-- A get under a shard's lock: its step in short, and what its hit shows.
use Rattle.std.specs.Prelude.{ℕ, ◌≡◌, false, Bool, List, ◌∷◌}
use Rattle.rows_model.specs.declared.keys.QKey.{QKey}
use Rattle.rows_model.specs.declared.keys.Sid.{Sid}
use Rattle.rows_model.specs.Rows.{Tables}
use Rattle.key_shard.specs.declared.steps.Step.{Step}
use Rattle.key_shard.specs.declared.replies.Got.{Got}
use Rattle.key_shard.specs.declared.replies.Got.TheVariants as got
use Rattle.sql_keeper.specs.Fresh.{IsFreshHit}
use Rattle.log_word.specs.declared.events.Short.{Short}
use Rattle.log_word.specs.declared.events.ShortKind.TheVariants as kinds
use Rattle.log_word.specs.declared.seen.Seen.{Seen}
use Rattle.log_word.specs.Lists.{steps_of}
use Rattle.key_freshness.specs.Marks.{marks_of}
use Rattle.key_freshness.specs.Held.{IsHeld, IsRight}
use Rattle.bound_hub.specs.Shorts.{short, shorts_of}
use Rattle.bound_hub.specs.Knowns.{commits_of, known_of}
use Rattle.bound_hub.specs.Facts.{answer_after}

-- The step of a get in short, told by its answer.
abbrev pub got_short : QKey → Sid → Got → Bool → Short
got_short key who (got.Hit value stamp) has = short kinds.Hit key who 0 stamp has
got_short key who (got.Lease token) has = short kinds.Lease key who token 0 has
got_short key who (got.Again stands) has = short kinds.Again key who 0 0 has
got_short key who got.Own has = short kinds.Own key who 0 0 has

-- A value of this stamp is held by what is seen of the store and of the shard of this number, which had made
-- these steps before the hub was. It is right, unless it is seen that the store has stopped telling its rows.
pub record IsSeenHeld (opening : Tables) (before : List Step) (number : ℕ) (seen : Seen) (key : QKey) (value : List ℕ) (stamp : ℕ) : Type 0 where
  pub more : List Step
  pub shorts_are : steps_of number seen.steps ≡ shorts_of before more
  pub held : IsHeld key (marks_of key more) (known_of seen.events) stamp
  pub right : seen.stopped ≡ false → IsRight (answer_after opening key) (commits_of seen.events) value stamp

-- What a get answers is held, where it is a hit.
abbrev pub IsGotHeld : Tables → List Step → ℕ → Seen → QKey → Got → Type 0
IsGotHeld opening before number seen key (got.Hit value stamp) = IsSeenHeld opening before number seen key value stamp
IsGotHeld opening before number seen key other = Unit {0}

-- The step in short stands last among the steps of the shard of this number that are seen.
abbrev pub IsLastStep : ℕ → Short → Seen → Type 0
IsLastStep number step seen = (earlier : List Short) × (steps_of number seen.steps ≡ step ∷ earlier)

-- What a get answers is fresh by what is seen, where it is a hit: by the commits that are seen, and after the
-- steps of the shard that are seen. That is said unless it is seen that the store has stopped telling its rows.
abbrev pub IsGotFresh : Tables → List Step → ℕ → Seen → QKey → Got → Type 0
IsGotFresh opening before number seen key (got.Hit value stamp) =
    seen.stopped ≡ false → (more : List Step) × (steps_of number seen.steps ≡ shorts_of before more)
    × IsFreshHit opening (commits_of seen.events) more key value stamp
IsGotFresh opening before number seen key other = Unit {0}
