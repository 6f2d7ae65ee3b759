-- What an answer says of the refusal that could have stood in its place.
use Rattle.std.proofs.Common.{ℕ, ◌≡◌, Bool, true, false, Some, None, refl, sym, cond, subst, eq-eqb}
use Rattle.std.proofs.lemmas.Bool.{false≢true}
use Rattle.std.specs.Prelude.{◌==◌, Ok, MatchResult}
use Rattle.std.specs.Bool.{IsFalse}
use Rattle.rows_model.specs.declared.keys.QKey.{QKey}
use Rattle.rows_model.specs.Placement.{shard_of}
use Rattle.key_shard.specs.Answers.{IsAtHome}
use Rattle.key_shard.specs.Past.{next_token}
use Rattle.key_shard.specs.Permit.{Permit}
use Rattle.key_shard.specs.Replies.{ShowsQuarantine, ShowsRaise}
use Rattle.key_shard.specs.Shards.{ShardView, past_of, is_out, stepped, refusal, Refuses}
use Rattle.key_shard.specs.declared.replies.QAnswer.{QAnswer}
use Rattle.key_shard.specs.declared.replies.Raising.{Raising}
use Rattle.key_shard.specs.declared.replies.Raising.TheVariants as raisings
use Rattle.key_shard.specs.declared.replies.ShardFault.TheVariants as causes
use Rattle.key_shard.specs.declared.steps.Step.{Step}
use Rattle.session_client.proofs.QuarantineLemmas.{raise_belongs}
use Rattle.session_client.specs.Belongs.{IsRaiseOf}
use Rattle.session_client.specs.declared.replies.Reply.TheVariants as Reply
use Rattle.executor.specs.OnShard.{is_spent, TellsQuarantine}

unspent : (home spent : Bool) (next other : ℕ) (answer : QAnswer) → home ≡ true
    → Refuses (cond home (cond spent (Some (causes.Spent next)) None) (Some (causes.Stranger other))) (Ok answer) → IsFalse spent
unspent true true next other answer at refuses =
    absurd (subst (λ r. MatchResult r (λ _. Unit {0}) (λ _. ⊥)) refuses tt)
unspent true false next other answer at refuses = refl
unspent false spent next other answer at refuses = absurd (false≢true at)

-- an answer to a quarantine of a key of the shard itself is told, and a token was left
pub tells_quarantine : (old new : ShardView) (key : QKey) (step : Step) (answer : QAnswer) → IsAtHome old.terms key
    → Refuses (refusal old key step) (Ok answer) → new ≡ stepped old step → ShowsQuarantine old.terms (past_of old) step answer
    → TellsQuarantine old step new (Reply.Quar answer)
tells_quarantine old new key step answer home refuses is shows = (
  is,
  shows,
  unspent (shard_of key old.terms.count == old.terms.no) (is_spent old step) (next_token old.terms (past_of old))
      (shard_of key old.terms.count) answer (eq-eqb _ _ home) refuses,
)

-- what is told of a raise belongs to the request for it, whether or not the grant is out
pub raise_answered : (old : ShardView) (grant : Permit) (step : Step) (answer : Raising)
    → (is_out old grant ≡ true → ShowsRaise (past_of old) grant step answer) → (is_out old grant ≡ false → answer ≡ raisings.Gone) → IsRaiseOf grant answer
raise_answered old grant step answer shows unknown = by (is_out old grant) refl
  where
    by : (b : Bool) → is_out old grant ≡ b → IsRaiseOf grant answer
    by true e = raise_belongs (past_of old) grant step answer (shows e)
    by false e = subst (IsRaiseOf grant) (sym (unknown e)) tt
