-- A turn of a writer keeps the facts.
use Rattle.std.proofs.Common.{◌≡◌, true, false, List, Some, slice_get, pos, count_by, refl, sym}
use Rattle.std.proofs.lemmas.Bool.{false≢true}
use Rattle.rows_model.specs.declared.keys.QKey.{QKey}
use Rattle.rows_model.specs.declared.keys.Sid.{Sid}
use Rattle.rows_model.specs.Delta.{delta_of}
use Rattle.rows_model.specs.Placement.{shard_of}
use Rattle.lease_table.specs.declared.records.Mode.{Mode}
use Rattle.lease_table.specs.declared.records.Mode.TheVariants.{Invalidate, Refresh, Delta}
use Rattle.session_client.specs.declared.plans.Plan.{Plan}
use Rattle.session_client.specs.declared.plans.Shape.{Shape}
use Rattle.session_client.specs.declared.replies.Reply.TheVariants as Reply
use Rattle.session_client.specs.declared.replies.Wanted.{Wanted}
use Rattle.session_client.specs.declared.replies.Wanted.TheVariants as wanted
use Rattle.session_client.specs.Plans.{mode_of, mode_on, keys_of, changes_of}
use Rattle.session_client.specs.declared.replies.Reply.{Reply}
use Rattle.session_client.specs.Wants.{Given, given, is_had, released, Writing, writing_of, quarantine_as, commit_with, write_wants}
use Rattle.session_client.proofs.WantCases.{write_cases, is_asking, is_ending}
use Rattle.core_history.specs.Events.{Stepped, heard_by}
use Rattle.core_history.specs.Machine.{World, Said}
use Rattle.core_history.proofs.SessionLemmas.{ReturnsGrant, stood-quiet, finds-none, is_going, going-on, asking-going, writer-mild}
use Rattle.core_history.proofs.KeyLemmas.{quiet-as}
use Rattle.core_history.proofs.RaiseTurnLemmas.{raise-turn, renew-turn}
use Rattle.core_history.proofs.InnerLemmas.{Inner}
use Rattle.core_history.proofs.ReadTurnLemmas.{After, got-turn}
use Rattle.core_history.proofs.WritingLemmas.{IsWriter}
use Rattle.core_history.proofs.AskTurnLemmas.{ask-turn}
use Rattle.core_history.proofs.CallTurnLemmas.{commit-turn, end-turn, nothing-turn, staged-turn}
use Rattle.core_history.proofs.ReleaseTurnLemmas.{IsDueNext, abort-turn, dar-turn, sar-turn, apply-turn}

-- the quarantine of the next key, in the mode that the session has for it
next-turn : (shape : Shape) (world : World) (who : Sid) (said : Said) (plan : Plan) (key : QKey) → Inner shape world → IsWriter shape world who.number plan
    → slice_get (keys_of plan) (count_by is_had (heard_by who.number world.past)) ≡ Some key → is_asking (heard_by who.number world.past) ≡ true
    → After shape world who said (quarantine_as (mode_on (mode_of plan) key) key (changes_of plan))
next-turn shape world who said plan key inner w at asks = by (mode_on (mode_of plan) key) refl
  where
    by : (mode : Mode) → mode_on (mode_of plan) key ≡ mode → After shape world who said (quarantine_as mode key (changes_of plan))
    by Invalidate is =
        ask-turn shape world who plan (wanted.QaReg key) key Invalidate
        (pos 0) inner w (record { none = λ t s out. refl; at = at; asks = asks; in_mode = sym is; by = refl; fits = refl })
    by Refresh is =
        ask-turn shape world who plan (wanted.QaRead key) key Refresh
        (pos 0) inner w (record { none = λ t s out. refl; at = at; asks = asks; in_mode = sym is; by = refl; fits = refl })
    by Delta is =
        ask-turn shape world who plan (wanted.Delta key (delta_of key (changes_of plan))) key Delta
        (delta_of key (changes_of plan)) inner w (record { none = λ t s out. refl; at = at; asks = asks; in_mode = sym is; by = refl; fits = tt })

-- a session that looks at a key may be told anything of it
look-turn : (shape : Shape) (world : World) (who : Sid) (said : Said) (plan : Plan) (key : QKey) → Inner shape world → IsWriter shape world who.number plan
    → is_going (heard_by who.number world.past) ≡ true → After shape world who said (wanted.Get key 0)
look-turn shape world who said plan key inner w going =
    got-turn shape world who said key 0 inner
    (λ s found quiet late drawn.
    let home = shard_of key shape.shards in
    let request = wanted.Get key 0 in
    let reply = Reply.Got found in
    let event = Stepped home who request s reply in
    w.stays event reply (writer-mild shape event world.past who.number reply
    (heard_by who.number world.past) (writing_of plan) (record {
      brings = record { none = refl; kept = λ p g. refl; left = λ p g. refl };
      calm = refl;
      had = refl;
      release = refl;
      commit = refl;
    })
    (finds-none shape home who request s reply world.past who.number (quiet-as s quiet))
    (λ grant own. stood-quiet shape home who request s reply world.past quiet (λ t x out. refl) who.number grant) (λ e. absurd (false≢true e))
    (λ _. going) w.writer))

-- whatever a writer wants
pub write-turn : (shape : Shape) (world : World) (who : Sid) (said : Said) (plan : Plan) → Inner shape world → IsWriter shape world who.number plan
    → After shape world who said (write_wants (writing_of plan) false (heard_by who.number world.past))
write-turn shape world who said plan inner w =
    write_cases (λ request. write_wants writing false heard ≡ request → After shape world who said request) writing false heard
    (λ key at asks e. next-turn shape world who said plan key inner w at asks)
    (λ going e. commit-turn shape world who said plan inner w (going-on writing heard (commit_with writing heard) e (λ no. cc) going))
    (λ key looks asks none e. look-turn shape world who said plan key inner w (asking-going heard asks))
    (λ key looks going e. staged-turn shape world who said plan key (changes_of plan) inner w
    (going-on writing heard (wanted.Staged key writing.txn) e (λ no. cc) going))
    (λ going e. end-turn shape world who said plan inner w)
    (λ grant at going e. raise-turn shape world who plan grant inner w at (going-on writing heard (wanted.Raise grant) e (λ no. cc) going) e said)
    (λ grant at going e. renew-turn shape world who plan grant inner w at (going-on writing heard (wanted.Renew grant) e (λ no. cc) going) said)
    (λ one at ending none e. abort-turn shape world who said plan one inner w (due (wanted.Abort one.permit) one (λ t s out. refl) at ending) none)
    (λ one at ending e. dar-turn shape world who said plan one inner w (due (wanted.Dar one.permit) one (λ t s out. refl) at ending))
    (λ one number at ending numbered refresh e. sar-turn shape world who said plan one number inner w (due _ one (λ t s out. refl) at ending) numbered refresh)
    (λ one number at ending numbered delta e. apply-turn shape world who said plan one number inner w
    (due (wanted.Apply one.permit number) one (λ t s out. refl) at ending) numbered delta)
    (λ e. nothing-turn shape world who said plan inner w) refl
  where
    heard : List Reply
    heard = heard_by who.number world.past

    writing : Writing
    writing = writing_of plan

    due : (request : Wanted) (one : Given) → ReturnsGrant one.permit request
        → slice_get (given (heard_by who.number world.past)) (released (heard_by who.number world.past)) ≡ Some one
        → is_ending (heard_by who.number world.past) ≡ true → IsDueNext shape world who.number request one
    due request one returns at ending = record { returns = returns; at = at; shut = w.writer.ending ending }
