-- What a raise brings: the grant in its new mode, whose quarantine stands alone then, and the key's old value.
use Rattle.std.proofs.Common.{ℕ, pos, ◌≡◌, ◌≢◌, Bool, true, false, cond, List, [], ◌∷◌, All, Option, Result, Ok, Err, IfOk, refl, sym, subst}
use Rattle.std.proofs.lemmas.List.Elements.{All-cons, All-head, All-tail}
use Rattle.rows_model.specs.Placement.{shard_of}
use Rattle.rows_model.specs.Rows.{Tables}
use Rattle.key_shard.specs.declared.replies.Raising.{Raising}
use Rattle.key_shard.specs.declared.replies.Raising.TheVariants as raising
use Rattle.key_shard.specs.declared.steps.Step.{Step}
use Rattle.key_shard.specs.Answers.{raise_step}
use Rattle.key_shard.specs.Past.{entry}
use Rattle.key_shard.specs.Permit.{Permit, same_permit}
use Rattle.key_shard.specs.Replies.{ShowsRaise}
use Rattle.key_shard.proofs.CaseLemmas.{raise_cases}
use Rattle.key_shard.proofs.OutLemmas.{same_permit-true}
use Rattle.session_client.specs.Belongs.{IsRaised, IsRaiseOf}
use Rattle.session_client.proofs.QuarantineLemmas.{raised_is, raise_belongs}
use Rattle.log_word.specs.declared.seen.Seen.{Seen}
use Rattle.key_freshness.proofs.MarkLemmas.{by_test}
use Rattle.bound_hub.specs.Gets.{IsLastStep}
use Rattle.bound_hub.specs.Olds.{IsOldHeld, IsRaiseHeld}
use Rattle.bound_hub.specs.Shorts.{raised_short}
use Rattle.bound_hub.specs.Stores.{IsGrantSeen}
use Rattle.bound_hub.specs.StepShorts.{raise_short}
use Rattle.desk_book.specs.Books.{Book, Held, all_raised, raised, with_raised}
use Rattle.desk_book.proofs.PermitLemmas.{raised-back}
use Rattle.bound_desk.specs.Bound.{IsBoundBook}
use Rattle.bound_desk.specs.Grants.{IsRaiseFor}
use Rattle.bound_desk.specs.Writing.{IsRaiseAlone, StoodAlone}
use Rattle.bound_desk.proofs.WritingLemmas.{stood_raised}

-- the step of each grant is still seen once one was raised
each_seen : (shards : ℕ) (seen : Seen) (permit : Permit) (old : Option (List ℕ × ℕ)) (held : List Held) → All (λ (one : Held). IsGrantSeen shards seen one.permit) held
    → All (λ (one : Held). IsGrantSeen shards seen one.permit) (all_raised permit old held)
each_seen shards seen permit old [] all = all
each_seen shards seen permit old (one ∷ held) all =
    let P : Held → Type 0 = λ h. IsGrantSeen shards seen h.permit in
    let now : Held = record { permit = permit; old = old; by = pos 0 } in
    by_test (λ b. All P (cond b (now ∷ held) (one ∷ all_raised permit old held))) (same_permit (raised one.permit) permit)
    (λ is. All-cons P now held (subst (IsGrantSeen shards seen) (sym (same_permit-true (raised one.permit) permit is)) (All-head P one held all)) (All-tail P one held all))
    (λ _. All-cons P one (all_raised permit old held) (All-head P one held all) (each_seen shards seen permit old held (All-tail P one held all)))

-- a quarantine was raised
pub raised_is_bound : (opening : Tables) (shards : ℕ) (book : Book) (seen : Seen) (permit : Permit) (old : Option (List ℕ × ℕ)) → IsBoundBook opening shards book seen
    → IsBoundBook opening shards (with_raised permit old book) seen
raised_is_bound opening shards book seen permit old h = record {
  present = h.present;
  lease = h.lease;
  held = each_seen shards seen permit old book.held h.held;
  commit = h.commit;
}

module _ (opening : Tables) (before : ℕ → List Step) (shards : ℕ) where
  -- what is known of the answer to a raise of this grant
  pub record IsBrought (grant : Permit) (old : Option (List ℕ × ℕ)) (seen : Seen) (answer : Raising) : Type 0 where
    pub last : answer ≢ raising.Gone → (has : Bool) × IsLastStep (shard_of grant.key shards) (raise_short grant.key grant.sid grant.token answer has) seen
    pub held : IsRaiseHeld opening (before (shard_of grant.key shards)) (shard_of grant.key shards) seen grant.key answer
    pub brings : IsRaiseFor grant old answer
    pub alone : IsRaiseAlone opening before shards seen answer
    pub belongs : IsRaiseOf grant answer

  -- a grant that came back raised stands alone
  back_stood : (lent back : Permit) (has : Bool) (seen : Seen) (old : Option (List ℕ × ℕ)) → IsRaised lent back
      → IsLastStep (shard_of lent.key shards) (raised_short lent.key lent.sid lent.token has) seen
      → IsOldHeld opening (before (shard_of lent.key shards)) (shard_of lent.key shards) seen lent.key old
      → StoodAlone opening before shards seen (record { permit = back; old = old; by = pos 0 })
  back_stood lent back has seen old is last held =
      subst (λ (p : Permit). StoodAlone opening before shards seen (record { permit = p; old = old; by = pos 0 })) (raised-back lent back is)
      (stood_raised opening before shards (raised lent) has seen old refl last held)

  -- what a raise brings, by its step
  raise_brings : (past : List Step) (grant : Permit) (seen : Seen) (answer : Raising) (has : Bool) → ShowsRaise past grant (raise_step past grant) answer
      → IsLastStep (shard_of grant.key shards) (raise_short grant.key grant.sid grant.token answer has) seen
      → IsRaiseHeld opening (before (shard_of grant.key shards)) (shard_of grant.key shards) seen grant.key answer
      → IsRaiseFor grant (entry grant.key past) answer × IsRaiseAlone opening before shards seen answer
  raise_brings past grant seen answer has =
      let F : Raising → Type 0 = λ a. IsLastStep (shard_of grant.key shards) (raise_short grant.key grant.sid grant.token a has) seen
      → IsRaiseHeld opening (before (shard_of grant.key shards)) (shard_of grant.key shards) seen grant.key a
      → IsRaiseFor grant (entry grant.key past) a × IsRaiseAlone opening before shards seen a in
      raise_cases (λ s. ShowsRaise past grant s answer → F answer) past grant
      (λ _ shows. subst F (sym shows) (λ last held. ((raised_is grant, refl), back_stood grant _ has seen _ (raised_is grant) last held)))
      (λ other at shows. subst F (sym shows) (λ last held. (tt, tt)))
      (λ shows. subst F (sym shows) (λ last held. (tt, tt)))

  -- what is known where its step is the last that is seen
  brought_by_step : (past : List Step) (grant : Permit) (seen : Seen) (answer : Raising) (has : Bool) → ShowsRaise past grant (raise_step past grant) answer
      → IsLastStep (shard_of grant.key shards) (raise_short grant.key grant.sid grant.token answer has) seen
      → IsRaiseHeld opening (before (shard_of grant.key shards)) (shard_of grant.key shards) seen grant.key answer
      → IsBrought grant (entry grant.key past) seen answer
  brought_by_step past grant seen answer has shows last held =
      let both = raise_brings past grant seen answer has shows last held in
      record {
        last = λ _. (has, last);
        held = held;
        brings = both.0;
        alone = both.1;
        belongs = raise_belongs past grant (raise_step past grant) answer shows;
      }

  -- a grant that isn't out is gone
  brought_gone : (grant : Permit) (old : Option (List ℕ × ℕ)) (seen : Seen) → IsBrought grant old seen raising.Gone
  brought_gone grant old seen = record {
    last = λ differs. absurd (differs refl);
    held = tt;
    brings = tt;
    alone = tt;
    belongs = tt;
  }

  brought_if : {E : Type 0} (past : List Step) (grant : Permit) (place : ℕ) (seen : Seen) (has : Bool) (result : Result Raising E) → place ≡ shard_of grant.key shards
      → IfOk result (ShowsRaise past grant (raise_step past grant))
      → IfOk result (λ answer. IsLastStep place (raise_short grant.key grant.sid grant.token answer has) seen)
      → IfOk result (IsRaiseHeld opening (before place) place seen grant.key)
      → IfOk result (IsBrought grant (entry grant.key past) seen)
  brought_if past grant place seen has (Ok answer) at shows last held =
      brought_by_step past grant seen answer has shows
      (subst (λ n. IsLastStep n (raise_short grant.key grant.sid grant.token answer has) seen) at last)
      (subst (λ n. IsRaiseHeld opening (before n) n seen grant.key answer) at held)
  brought_if past grant place seen has (Err back) at shows last held = tt

  -- so it is with the answer to a raise, if there is one
  pub answer_brought : {E : Type 0} (out : Bool) (past : List Step) (grant : Permit) (place : ℕ) (seen : Seen) (has : Bool) (result : Result Raising E) → place ≡ shard_of grant.key shards
      → (out ≡ true → IfOk result (ShowsRaise past grant (raise_step past grant)))
      → (out ≡ true → IfOk result (λ answer. IsLastStep place (raise_short grant.key grant.sid grant.token answer has) seen))
      → (out ≡ true → IfOk result (IsRaiseHeld opening (before place) place seen grant.key))
      → (out ≡ false → result ≡ Ok raising.Gone)
      → IfOk result (IsBrought grant (entry grant.key past) seen)
  answer_brought true past grant place seen has result at shows last held gone = brought_if past grant place seen has result at (shows refl) (last refl) (held refl)
  answer_brought false past grant place seen has result at shows last held gone =
      subst (λ r. IfOk r (IsBrought grant (entry grant.key past) seen)) (sym (gone refl)) (brought_gone grant (entry grant.key past) seen)
