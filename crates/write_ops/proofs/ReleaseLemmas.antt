-- What the step of a release leaves, by the quarantine of its token.
use Rattle.std.proofs.Common.{◌≡◌, ℕ, not, cond, List, [], ◌∷◌, Option, Some, None, Result, Ok, Err, OnOk, IfOk, is_some, find, filter}
use Rattle.std.proofs.Common.{refl, sym, ap, subst, ◌∙◌}
use Rattle.std.specs.Bool.{IsFalse}
use Rattle.std.proofs.lemmas.List.{reverse-append}
use Rattle.rows_model.specs.declared.keys.QKey.{QKey}
use Rattle.rows_model.specs.declared.keys.Sid.{Sid}
use Rattle.rows_model.specs.Key.{same_key}
use Rattle.rows_model.proofs.SameKey.{same_key-refl}
use Rattle.lease_table.specs.declared.records.Quar.{Quar}
use Rattle.lease_table.specs.Leases.{has_token}
use Rattle.key_shard.specs.declared.replies.How.{How}
use Rattle.key_shard.specs.declared.replies.Rel.{Rel}
use Rattle.key_shard.specs.declared.steps.Ended.{Ended}
use Rattle.key_shard.specs.declared.steps.Ended.TheVariants.{Put}
use Rattle.key_shard.specs.declared.steps.Step.{Step}
use Rattle.key_shard.specs.declared.steps.Step.TheVariants.{Gone, Released}
use Rattle.key_shard.specs.Permit.{Permit}
use Rattle.key_shard.specs.Past.{Terms, entry, entry_ended, evicted_by, evicts, is_evicted, quar_of, standing}
use Rattle.key_shard.specs.Answers.{ended_as, release_by, release_step, replace_by, replace_step}
use Rattle.key_shard.specs.Replies.{ShowsRelease}
use Rattle.key_shard.specs.Shards.{ShardView, past_of, returned}
use Rattle.key_shard.proofs.PlaceLemmas.{find-lost}
use Rattle.write_ops.specs.Releases.{EndedWith, LeavesEntry, LeavesNew, LeavesPut, SameOn, WasGone}

-- the past behind the step that ends a grant
pub past-returned : (old new : ShardView) (permit : Permit) (step : Step) → new ≡ returned old permit step → past_of new ≡ step ∷ past_of old
past-returned old new permit step e = ap past_of e ∙ reverse-append old.history (step ∷ [])

-- what the end of a quarantine leaves of another key
other-key : (past : List Step) (on key : QKey) (sid : Sid) (token : ℕ) (how : Ended)
    → IsFalse (same_key key on) → SameOn (evicted_by how) key past (Released on sid token how ∷ past)
other-key past on key sid token how apart = record {
  same_entry = ap (λ b. cond b (entry_ended how (entry key past)) (cond (is_evicted key (evicted_by how)) None (entry key past))) apart;
  same_lease = refl;
  same_standing = ap (λ b. cond b (filter (λ quar. not (has_token token quar)) (standing key past)) (standing key past)) apart;
}

-- the end of a quarantine that stands, with this entry, for which this key made room
ended-with : (past : List Step) (permit : Permit) (sid : Sid) (how : Ended) (found : Option (List ℕ × ℕ)) (evicted : Option QKey) (quar : Quar)
    → quar_of permit.key permit.token past ≡ Some quar → evicted_by how ≡ evicted
    → entry_ended how (entry permit.key past) ≡ found → EndedWith found evicted permit past (Released permit.key sid permit.token how ∷ past)
ended-with past permit sid how found evicted quar stands room entry_ = record {
  stood = ap is_some stands;
  ended =
      ap (λ b. find (has_token permit.token) (cond b (filter (λ quar. not (has_token permit.token quar)) (standing permit.key past))
      (standing permit.key past))) (same_key-refl permit.key) ∙ find-lost (has_token permit.token) (standing permit.key past);
  has_entry = ap (λ b. cond b (entry_ended how (entry permit.key past)) (cond (is_evicted permit.key (evicted_by how)) None (entry permit.key past)))
      (same_key-refl permit.key) ∙ entry_;
  same_lease = refl;
  others_stand =
      ap (λ b. cond b (filter (λ quar. not (has_token permit.token quar)) (standing permit.key past)) (standing permit.key past)) (same_key-refl permit.key);
  elsewhere = λ other apart. subst (λ o. SameOn o other past (Released permit.key sid permit.token how ∷ past)) room
      (other-key past permit.key other sid permit.token how apart);
}

-- a quarantine that stood no longer leaves all as it was
was-gone : (past : List Step) (permit : Permit) → quar_of permit.key permit.token past ≡ None
    → WasGone permit past (Gone permit.key permit.sid permit.token ∷ past)
was-gone past permit stands = record {
  stood_not = stands;
  everywhere = λ key. record { same_entry = refl; same_lease = refl; same_standing = refl };
}

-- what a release leaves that puts no value, by the quarantine of its token
leaves-by : (past : List Step) (permit : Permit) (how : How) (found : Option (List ℕ × ℕ)) (rel : Rel) (o : Option Quar)
    → quar_of permit.key permit.token past ≡ o → ((quar : Quar) → evicted_by (ended_as quar how) ≡ None)
    → ((quar : Quar) → quar_of permit.key permit.token past ≡ Some quar → entry_ended (ended_as quar how) (entry permit.key past) ≡ found)
    → ShowsRelease (release_by permit how o) rel → LeavesEntry found permit past (release_by permit how o ∷ past) rel
leaves-by past permit how found rel (Some quar) stands quiet entry_ shows =
    subst (LeavesEntry found permit past (release_by permit how (Some quar) ∷ past))
    (sym shows) (quiet quar, ended-with past permit quar.sid (ended_as quar how) found None quar stands (quiet quar) (entry_ quar stands))
leaves-by past permit how found rel None stands quiet entry_ shows =
    subst (LeavesEntry found permit past (release_by permit how None ∷ past)) (sym shows) (was-gone past permit stands)

-- what a release of a grant that is out leaves
pub leaves-entry : (old new : ShardView) (permit : Permit) (how : How) (found : Option (List ℕ × ℕ)) (rel : Rel)
    → ((quar : Quar) → evicted_by (ended_as quar how) ≡ None)
    → ((quar : Quar) → quar_of permit.key permit.token (past_of old) ≡ Some quar → entry_ended (ended_as quar how) (entry permit.key (past_of old)) ≡ found)
    → new ≡ returned old permit (release_step (past_of old) permit how)
    → ShowsRelease (release_step (past_of old) permit how) rel → LeavesEntry found permit (past_of old) (past_of new) rel
leaves-entry old new permit how found rel quiet entry_ step shows =
    subst (λ past. LeavesEntry found permit (past_of old) past rel) (sym (past-returned old new permit (release_step (past_of old) permit how) step))
    (leaves-by (past_of old) permit how found rel (quar_of permit.key permit.token (past_of old)) refl quiet entry_ shows)

-- what a replace leaves, by the quarantine of its token
put-by : (terms : Terms) (past : List Step) (permit : Permit) (value : List ℕ) (stamp : ℕ) (rel : Rel) (o : Option Quar)
    → quar_of permit.key permit.token past ≡ o → ShowsRelease (replace_by terms past permit value stamp o) rel
    → LeavesPut value stamp permit past (replace_by terms past permit value stamp o ∷ past) rel
put-by terms past permit value stamp rel (Some quar) stands shows =
    let room = evicts terms permit.key past in
    subst (LeavesPut value stamp permit past (replace_by terms past permit value stamp (Some quar) ∷ past))
    (sym shows) (ended-with past permit quar.sid (Put value stamp room) (Some (value, stamp)) room quar stands refl refl)
put-by terms past permit value stamp rel None stands shows =
    subst (LeavesPut value stamp permit past (replace_by terms past permit value stamp None ∷ past)) (sym shows) (was-gone past permit stands)

-- what a replace of a grant that is out leaves
pub leaves-put : (old new : ShardView) (permit : Permit) (value : List ℕ) (stamp : ℕ) (rel : Rel)
    → new ≡ returned old permit (replace_step old.terms (past_of old) permit value stamp)
    → ShowsRelease (replace_step old.terms (past_of old) permit value stamp) rel → LeavesPut value stamp permit (past_of old) (past_of new) rel
leaves-put old new permit value stamp rel step shows =
    subst (λ past. LeavesPut value stamp permit (past_of old) past rel)
    (sym (past-returned old new permit (replace_step old.terms (past_of old) permit value stamp) step))
    (put-by old.terms (past_of old) permit value stamp rel (quar_of permit.key permit.token (past_of old)) refl shows)

-- the same where the replace may want memory
pub leaves-new : {E : Type 0} → (old new : ShardView) (permit : Permit) (given : Option (List ℕ)) (value : List ℕ) (stamp : ℕ) (result : Result Rel E)
    → given ≡ Some value → OnOk result (new ≡ returned old permit (replace_step old.terms (past_of old) permit value stamp))
    → IfOk result (ShowsRelease (replace_step old.terms (past_of old) permit value stamp))
    → IfOk result (LeavesNew given stamp permit (past_of old) (past_of new))
leaves-new old new permit given value stamp (Ok rel) is step shows =
    subst (λ o. LeavesNew o stamp permit (past_of old) (past_of new) rel) (sym is) (leaves-put old new permit value stamp rel step shows)
leaves-new old new permit given value stamp (Err fault) is step shows = tt
