-- Grants that are released one after another.
use Rattle.std.proofs.Common.{ℕ, ◌≡◌, ◌+◌, ◌≤◌, Bool, true, false, List, [], ◌∷◌, ◌++◌, length, slice_get, Option, Some, append_assoc, append-nil}
use Rattle.std.proofs.Common.{add_assoc, add-zero, zero-add, refl, sym, ap, subst, ◌∙◌, ◌⊎◌, inl, inr, arith}
use Rattle.std.specs.List.{remove}
use Rattle.rows_model.specs.declared.keys.Sid.{Sid}
use Rattle.key_shard.specs.Permit.{Permit}
use Rattle.key_shard.specs.declared.replies.Rel.{Rel}
use Rattle.session_client.specs.Belongs.{Belongs}
use Rattle.session_client.specs.Desks.{Exchange, Asked, with_member}
use Rattle.session_client.specs.declared.replies.Reply.{Reply}
use Rattle.session_client.specs.declared.replies.Reply.TheVariants as desk
use Rattle.session_client.specs.declared.replies.Wanted.{Wanted}
use Rattle.session_client.specs.declared.replies.Wanted.TheVariants as wanted
use Rattle.conn_server.specs.declared.clients.Stage.{Stage}
use Rattle.conn_server.specs.declared.clients.Stage.TheVariants as stages
use Rattle.conn_server.specs.Answers.{with_calls}
use Rattle.conn_server.specs.Closing.{Releases, Withdraws, GivesUp, ended_by, release_way}

-- one call more at the end
pub with_calls-append : (calls more : List Exchange) (recorded : Option (List Exchange)) → with_calls (calls ++ more) recorded ≡ with_calls more (with_calls calls recorded)
with_calls-append [] more recorded = refl
with_calls-append (call ∷ calls) more recorded = with_calls-append calls more (with_member call recorded)

-- some of the grants were released, and so many of their quarantines ended; what is still to be released adds to that
pub record Releasing (who : Sid) (way : Permit → Wanted) (all left : List Permit) (before now : Option (List Exchange)) (count : ℕ) : Type 0 where
  pub done : List Exchange
  pub record_is : now ≡ with_calls done before
  pub rest : (others : List Exchange) (more : ℕ) → Releases who way left others more → Releases who way all (done ++ others) (count + more)

pub releasing_none : (who : Sid) (way : Permit → Wanted) (all : List Permit) (before : Option (List Exchange)) → Releasing who way all all before before 0
releasing_none who way all before =
    record { done = []; record_is = refl; rest = λ others more r. subst (λ n. Releases who way all others n) (sym (zero-add more)) r }

pub releasing_one : (who : Sid) (way : Permit → Wanted) (all left : List Permit) (grant : Permit) (before now new : Option (List Exchange)) (count : ℕ) (answer : Rel)
    → Releasing who way all (grant ∷ left) before now count → new ≡ with_member (Asked who (way grant) (desk.Rel answer)) now
    → Releasing who way all left before new (count + ended_by answer)
releasing_one who way all left grant before now new count answer so_far is =
    let call = Asked who (way grant) (desk.Rel answer) in
    let then' : with_calls (so_far.done ++ call ∷ []) before ≡ with_member call (with_calls so_far.done before) =
    with_calls-append so_far.done (call ∷ []) before in
    record {
      done = so_far.done ++ call ∷ [];
      record_is = is ∙ ap (with_member call) so_far.record_is ∙ sym then';
      rest = λ others more r.
          let all_of = so_far.rest (call ∷ others) (ended_by answer + more) (answer, others, more, r, refl, refl) in
          let counted = subst (λ n. Releases who way all (so_far.done ++ call ∷ others) n) (sym (add_assoc count (ended_by answer) more)) all_of in
          subst (λ calls. Releases who way all calls (count + ended_by answer + more)) (sym (append_assoc so_far.done (call ∷ []) others)) counted;
    }

pub releasing_all : (who : Sid) (way : Permit → Wanted) (all : List Permit) (before now : Option (List Exchange)) (count : ℕ)
    → Releasing who way all [] before now count
    → (calls : List Exchange) × (now ≡ with_calls calls before) × Releases who way all calls count
releasing_all who way all before now count so_far =
    let all_of = so_far.rest [] 0 (refl, refl) in
    let counted = subst (λ n. Releases who way all (so_far.done ++ []) n) (add-zero count) all_of in
    (so_far.done, so_far.record_is, subst (λ calls. Releases who way all calls count) (append-nil so_far.done) counted)

-- the reply to a release
pub record IsRelease (heard : Reply) : Type 0 where
  pub answer : Rel
  pub is : heard ≡ desk.Rel answer

pub released_by : (committed : Bool) (who : Sid) (grant : Permit) (heard : Reply) → Belongs who (release_way committed grant) heard → IsRelease heard
released_by true who grant (desk.Rel answer) b = record { answer = answer; is = refl }
released_by true who grant other b = absurd b
released_by false who grant (desk.Rel answer) b = record { answer = answer; is = refl }
released_by false who grant other b = absurd b

-- the grant that is taken out stood in front of those that are left
first_out : (items left : List Permit) (grant : Permit) → slice_get items 0 ≡ Some grant → left ≡ remove items 0 → items ≡ grant ∷ left
first_out [] left grant e out = cc
first_out (first ∷ items) left grant e out = cc

pub one_less : (items left : List Permit) (grant : Permit) → slice_get items 0 ≡ Some grant → left ≡ remove items 0 → length items ≡ length left + 1
one_less items left grant e out = ap (λ (l : List Permit). length l) (first_out items left grant e out) ∙ omega arith

-- the next grant is released
pub releasing_next : (committed : Bool) (who : Sid) (all items left : List Permit) (grant : Permit) (before now new : Option (List Exchange))
    (count ended : ℕ) (wanted : Wanted) (heard : Reply)
    → Releasing who (release_way committed) all items before now count
    → slice_get items 0 ≡ Some grant → left ≡ remove items 0 → wanted ≡ release_way committed grant
    → Belongs who wanted heard → new ≡ with_member (Asked who wanted heard) now
    → ((answer : Rel) → heard ≡ desk.Rel answer → ended ≡ ended_by answer)
    → Releasing who (release_way committed) all left before new (count + ended)
releasing_next committed who all items left grant before now new count ended wanted heard so_far first out is belongs record_is counts =
    let way = release_way committed in
    let belongs_so : Belongs who (way grant) heard = subst (λ (w : Wanted). Belongs who w heard) is belongs in
    let release = released_by committed who grant heard belongs_so in
    let front : Releasing who way all (grant ∷ left) before now count =
    subst (λ (l : List Permit). Releasing who way all l before now count) (first_out items left grant first out) so_far in
    let answered : new ≡ with_member (Asked who (way grant) (desk.Rel release.answer)) now =
    record_is ∙ ap (λ (w : Wanted). with_member (Asked who w heard) now) is
    ∙ ap (λ (h : Reply). with_member (Asked who (way grant) h) now) release.is in
    subst (λ (n : ℕ). Releasing who way all left before new (count + n)) (sym (counts release.answer release.is))
    (releasing_one who way all left grant before now new count release.answer front answered)

-- no grant is left
pub none_left : (items : List Permit) → length items ≤ 0 → items ≡ []
none_left [] e = refl
none_left (grant ∷ items) e = absurd (omega arith)

-- a session that stands here is ended at the store before its grants are released
abbrev pub IsWithdrawn : Stage → Type 0
IsWithdrawn stages.Open = Unit {0}
IsWithdrawn stages.Aborted = Unit {0}
IsWithdrawn other = ⊥

-- what is asked before the grants are released: nothing where the session has committed, else that it is ended
abbrev pub StartsBy : Bool → Stage → Sid → Option (List Exchange) → Option (List Exchange) → Type 0
StartsBy true stage who before mid = (number : ℕ) × (stage ≡ stages.Committed number) × (mid ≡ before)
StartsBy false stage who before mid = (was : Bool) × IsWithdrawn stage × (mid ≡ with_member (Asked who wanted.End (desk.End was)) before)

pub is_withdrawn : (stage : Stage) → (stage ≡ stages.Open) ⊎ (stage ≡ stages.Aborted) → IsWithdrawn stage
is_withdrawn stage (inl e) = subst IsWithdrawn (sym e) tt
is_withdrawn stage (inr e) = subst IsWithdrawn (sym e) tt

withdrawn : (stage : Stage) (who : Sid) (grants : List Permit) (calls : List Exchange) (count : ℕ)
    → IsWithdrawn stage → Withdraws who grants calls count → GivesUp stage who grants calls count
withdrawn stages.Open who grants calls count is w = w
withdrawn stages.Aborted who grants calls count is w = w
withdrawn other who grants calls count is w = absurd is

-- a session is given up when its grants are released after that
pub gives_up : (committed : Bool) (stage : Stage) (who : Sid) (grants : List Permit) (before mid after : Option (List Exchange)) (count : ℕ)
    → StartsBy committed stage who before mid
    → (calls : List Exchange) × (after ≡ with_calls calls mid) × Releases who (release_way committed) grants calls count
    → (calls : List Exchange) × (after ≡ with_calls calls before) × GivesUp stage who grants calls count
gives_up true stage who grants before mid after count (number, is, same) (calls, record_is, releases) =
    (calls, record_is ∙ ap (with_calls calls) same, subst (λ (s : Stage). GivesUp s who grants calls count) (sym is) releases)
gives_up false stage who grants before mid after count (was, is, same) (calls, record_is, releases) =
    let all_calls = Asked who wanted.End (desk.End was) ∷ calls in
    let withdraws : Withdraws who grants all_calls count = record { was = was; others = calls; calls_are = refl; releases = releases } in
    (all_calls, record_is ∙ ap (with_calls calls) same, withdrawn stage who grants all_calls count is withdraws)

-- the reply to a session's end
pub record IsEnd (heard : Reply) : Type 0 where
  pub was : Bool
  pub is : heard ≡ desk.End was

pub ended : (who : Sid) (heard : Reply) → Belongs who wanted.End heard → IsEnd heard
ended who (desk.End was) b = record { was = was; is = refl }
ended who other b = absurd b
